use Rattle.std.proofs.Common.{◌≡◌, ◌+◌, List, length, ap, sym, ◌∙◌}
use Rattle.p9_manual.specs.declared.state.Thread.{Thread}
use Rattle.p9_manual.specs.Create.{with_thread}
use Rattle.p9_machine.proofs.Beginning.{stands_first}
use Rattle.p9_machine.proofs.board.add_first.Goals as goal

pub returns-in-Some : goal.returns-in-Some
returns-in-Some c = λ places s stand h.
    let room = c.reserve.ensures.stands places s h in
    let setup = c.args.setup.now in
    let made = c.in-Some.ensures.stands places s stand room in
    let named = c.set_name.ensures.stands places (with_thread setup.proc_no setup.program setup.arg 0 s) made in
    let id : c.in-Some.t ≡ length s.threads + 1 = c.in-Some.ensures.made.id ∙ ap (λ (ts : List Thread). length ts + 1) (sym room.threads) in
    stands_first setup c.in-Some.t c.in_ok-name.name places c.set_name.new.self s id c.in_ok-name.ensures named
