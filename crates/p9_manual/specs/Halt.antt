-- A machine that was halted, since memory was wanted: it does nothing more but note what comes of the calls that had begun.
-- This project's own.
use Rattle.std.specs.Prelude.{ℕ, ◌&&◌, Bool, false, if◌then◌else◌, nat_le}
use Rattle.p9_word.specs.declared.setup.Setup.{Setup}
use Rattle.p9_word.specs.declared.trail.Event.{Event}
use Rattle.p9_word.specs.declared.trail.Event.TheVariants.{Call, Next, IoTake, IoDid}
use Rattle.p9_word.specs.declared.trail.Reply.TheVariants.{Halted}
use Rattle.p9_word.specs.declared.trail.Seat.{Seat}
use Rattle.p9_word.specs.declared.trail.Seat.TheVariants.{Proc, Io}
use Rattle.p9_manual.specs.Next.{is_place}
use Rattle.p9_manual.specs.State.{State, Outcome, same}
use Rattle.p9_manual.specs.Step.{step}

-- k is one of the setup's files
abbrev pub is_file : Setup → ℕ → Bool
is_file setup k = nat_le 1 k && nat_le k setup.files

-- the events that a halted machine doesn't do: a proc's, and that an ioproc takes its call. What comes from outside the
-- setup, or can't come from its seat, is as stray as before
abbrev pub stops : Setup → Seat → Event → Bool
stops setup (Proc p) (Call t r) = is_place setup p
stops setup (Proc p) Next = is_place setup p
stops setup (Proc p) IoTake = false
stops setup (Proc p) (IoDid effect) = false
stops setup (Io k) IoTake = is_file setup k
stops setup (Io k) (IoDid effect) = false
stops setup (Io k) (Call t r) = false
stops setup (Io k) Next = false

-- one event of a machine that was halted, or wasn't
unfoldable pub step_of : Setup → Bool → Seat → Event → State → Outcome
step_of setup halted seat event s = if halted && stops setup seat event then same Halted s else step setup seat event s
