-- What went through files. A count stops at the greatest number.
use Rattle.std.specs.Prelude.{ℕ, ◌+◌, cond, length, if◌then◌else◌, nat_lt}
use Rattle.p9_word.specs.declared.io_call.Effect.{Effect}
use Rattle.p9_word.specs.declared.io_call.Effect.TheVariants.{Opened, Shut, Got, Wrote, Refused}
use Rattle.p9_commands.specs.declared.moved.Moved.{Moved}

abbrev pub counted : ℕ → ℕ → ℕ
counted a b = if nat_lt (a + b) 18446744073709551616 then a + b else 18446744073709551615

-- after one call on a file with this effect
abbrev pub after : Effect → Moved → Moved
after (Got failed bytes) m = record m { read = counted m.read (length bytes); failures = counted m.failures (cond failed 1 0) }
after (Wrote count failed) m = record m { written = counted m.written count; failures = counted m.failures (cond failed 1 0) }
after Opened m = m
after Shut m = m
after Refused m = m
