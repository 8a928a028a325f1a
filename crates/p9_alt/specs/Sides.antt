-- What an entry of an alt does on a channel.
use Rattle.std.specs.Prelude.{ℕ, Bool}
use Rattle.std.specs.List.{list_any}
use Rattle.p9_word.specs.declared.alt.AltOp.{AltOp}
use Rattle.p9_word.specs.declared.alt.AltEntry.{AltEntry}
use Rattle.p9_manual.specs.declared.state.Party.{Party}
use Rattle.p9_manual.specs.AltEntries.{is_snd, is_rcv, is_nop, sends_to, receives_from, is_on}
use Rattle.std.specs.Prelude.{not}
use Rattle.p9_alt.specs.declared.side.Side.{Side}
use Rattle.p9_alt.specs.declared.side.Side.TheVariants.{Sends, Receives, Either}

-- the op is of this sort
abbrev pub op_test : Side → AltOp → Bool
op_test Sends op = is_snd op
op_test Receives op = is_rcv op
op_test Either op = not (is_nop op)

-- an entry does this on channel c
abbrev pub entry_test : Side → ℕ → AltEntry → Bool
entry_test Sends c e = sends_to c e
entry_test Receives c e = receives_from c e
entry_test Either c e = is_on c e

-- a thread that waits has such an entry
abbrev pub party_test : Side → ℕ → Party → Bool
party_test side c w = list_any (entry_test side c) w.entries
