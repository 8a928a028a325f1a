-- What the fields of the alts keep.
use Rattle.std.specs.Prelude.{ℕ, ◌==◌, ◌+◌, ◌≤◌, All, Bool, cond, List, length, vec_len, vec_capacity}
use Rattle.p9_word.specs.declared.limits.TheConstants.{MOST_ENTRIES}
use Rattle.p9_manual.specs.declared.state.Party.{Party}
use Rattle.p9_manual.specs.Standing.{times}
use Rattle.p9_alt.specs.Exchange.{Exchange}
use Rattle.p9_alt.specs.declared.alts.Alts.TheInside.{Inside}

-- what callers see
abbrev pub shown : Inside → Exchange
shown s = record { channels = s.chans; waits = s.waits.items; spare = record { waiter = s.waiter; one = s.lists; zeros = s.zeros } }

-- one, if its memory is there
abbrev pub one_if : Bool → ℕ
one_if b = cond b 1 0

-- no thread waits twice, and no alt has too many entries
pub record IsQueue (waits : List Party) : Type 0 where
  pub few : All (λ w. length w.entries ≤ MOST_ENTRIES) waits
  pub apart : (t : ℕ) → times (λ w. w.tid == t) waits ≤ 1

-- there is the memory for one more alt, if that was taken
pub record IsKept (s : Inside) : Type 0 where
  pub queue : IsQueue s.waits.items
  pub room : vec_len s.waits + one_if s.waiter ≤ vec_capacity s.waits
