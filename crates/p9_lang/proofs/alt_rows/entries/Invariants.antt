use Rattle.std.proofs.Common.{◌≡◌, ◌-◌, ◌≤◌, length, []}
use Rattle.p9_grammar.specs.AltLines.{entries_in}
use Rattle.p9_lang.proofs.alt_rows.entries.Given as goal

-- what is left, from here, reads as all did
abbrev pub invariant-loop : goal.invariant-loop
invariant-loop l = record {
  end : l.end ≡ length l.words;
  here : l.counter ≤ l.end;
  same : entries_in (l.end - l.counter) l.chans l.done.items l.rest ≡ entries_in (length l.words) l.chans [] l.words;
}
