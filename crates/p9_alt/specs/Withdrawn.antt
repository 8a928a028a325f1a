-- The alts that wait, where one of them is withdrawn.
use Rattle.std.specs.Prelude.{ℕ, Bool, false, not, ◌==◌, ◌||◌, length, Option, Some, None}
use Rattle.std.specs.List.{filter, find}
use Rattle.p9_manual.specs.declared.state.Party.{Party}
use Rattle.p9_alt.specs.Exchange.{Exchange, others}

-- it is an alt of one entry, whose list can serve again
abbrev pub is_one : Option Party → Bool
is_one None = false
is_one (Some w) = length w.entries == 1

-- the exchange without thread t's alt: the others wait as before, and its list is kept if it had one entry
abbrev pub withdrawn : ℕ → Exchange → Exchange
withdrawn t x =
    record x {
      waits = others t x.waits;
      spare = record x.spare { one = x.spare.one || is_one (find (λ w. w.tid == t) x.waits) };
    }

-- without the alts of these threads: the others wait as before
abbrev pub withdrawn_where : (ℕ → Bool) → Exchange → Exchange
withdrawn_where ends x = record x { waits = filter (λ w. not (ends w.tid)) x.waits }
