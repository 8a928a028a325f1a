use Rattle.std.proofs.Common.{refl, ◌∙◌}
use Rattle.p9_run.proofs.CopyLines.{has_front, first_path, put_together, taken_apart}
use Rattle.p9_run.proofs.copy_text.find_paths.Goals as goal

pub returns-in_default : goal.returns-in_default
returns-in_default c = has_front c.args.text.now c.in_default.ensures

pub returns-in_default-after : goal.returns-in_default-after
returns-in_default-after c = λ from to h.
    c.in_default-after.ensures _ (c.split_path.ensures.rest ∙ (first_path c.args.text.now c.in-Some.rest.now c.in-Some.ensures from to h).1)

pub returns-then-is_end : goal.returns-then-is_end
returns-then-is_end c =
    let end = c.if-is_end.ensures.0 refl in
    put_together c.args.text.now c.in-Some.rest.now c.in-Some-after.rest.now _ _ _ _ c.in-Some.ensures c.split_path.ensures.path c.split_path.ensures.rest c.in-Some-after.ensures c.split_path-2.ensures.path c.split_path-2.ensures.rest end.0 end.1 end.2 end.3

pub returns-else-is_end : goal.returns-else-is_end
returns-else-is_end c = λ from to h.
    let parts = taken_apart c.args.text.now c.in-Some.rest.now c.in-Some-after.rest.now _ _ _ _ c.in-Some.ensures c.split_path.ensures.path c.split_path.ensures.rest c.in-Some-after.ensures c.split_path-2.ensures.path c.split_path-2.ensures.rest from to h in
    absurd (cc (c.if-is_end.ensures.1 parts))
