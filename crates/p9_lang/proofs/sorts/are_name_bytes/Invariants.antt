use Rattle.std.proofs.Common.{◌≡◌, drop}
use Rattle.std.specs.List.{list_all}
use Rattle.p9_grammar.specs.Sorts.{is_name_byte}
use Rattle.p9_lang.proofs.sorts.are_name_bytes.Given as goal

-- the bytes from here on are those of a name as all are
abbrev pub invariant-loop-b : goal.invariant-loop-b
invariant-loop-b l = list_all is_name_byte (drop l.b-index l.bytes) ≡ list_all is_name_byte l.bytes
