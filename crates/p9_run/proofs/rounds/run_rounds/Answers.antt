use Rattle.std.proofs.Common.{rules}
use Rattle.p9_run.proofs.Devices.{all_touched}
use Rattle.p9_run.proofs.Turns.{left_between}
use Rattle.p9_run.proofs.rounds.run_rounds.Goals as goal

pub returns-in_err-all_over-clause-devices : goal.returns-in_err-all_over-clause-devices
returns-in_err-all_over-clause-devices g c =
    λ firsts all. all_touched _ _ _ _ _ _ c.proc_turns.ensures.files (c.loop.invariant.devices firsts all)

pub returns-in_err-io_turns-clause-devices : goal.returns-in_err-io_turns-clause-devices
returns-in_err-io_turns-clause-devices g c =
    λ firsts all. c.io_turns.ensures.devices firsts (all_touched _ _ _ _ _ _ c.proc_turns.ensures.files (c.loop.invariant.devices firsts all))

pub returns-then-all_over-clause-devices : goal.returns-then-all_over-clause-devices
returns-then-all_over-clause-devices g c =
    λ firsts all. all_touched _ _ _ _ _ _ c.proc_turns.ensures.files (c.loop.invariant.devices firsts all)

pub loop-preserved : goal.loop-preserved
loop-preserved g c = record {
  can_next = tt;
  is_finite = tt;
  valid = rw (c.io_turns.ensures.setup, c.in_ok-all_over.ensures.setup) c.loop.invariant.valid;
  setup = search rules;
  between = left_between _ _ _ _ _ _ _ c.io_turns.ensures.threads c.in_ok-all_over.ensures.ok;
  devices = λ firsts all. c.io_turns.ensures.devices firsts (all_touched _ _ _ _ _ _ c.proc_turns.ensures.files (c.loop.invariant.devices firsts all));
}
