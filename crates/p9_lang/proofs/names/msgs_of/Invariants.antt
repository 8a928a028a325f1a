use Rattle.std.proofs.Common.{◌≡◌, ◌+◌, ◌≤◌, length, map, take}
use Rattle.p9_lang.proofs.names.msgs_of.Given as goal

-- the messages so far are the names before here, and there is room for the rest
abbrev pub invariant-loop-name : goal.invariant-loop-name
invariant-loop-name l = record {
  items : l.msgs.items ≡ map (λ v. v.items) (take l.name-index l.names);
  room : length l.names ≤ l.msgs.spare + l.name-index;
}
