use Rattle.std.proofs.Common.{rules, arith, ◌∙◌}
use Rattle.p9_run.proofs.Devices.{all_served}
use Rattle.p9_run.proofs.rounds.io_turns.Goals as goal

pub overflow_add-k : goal.overflow_add-k
overflow_add-k g c = omega (arith, c.loop-device.auto.devices)

pub returns-in_err-io_turn-clause-threads : goal.returns-in_err-io_turn-clause-threads
returns-in_err-io_turn-clause-threads g c =
    record {
      lives = λ u. c.io_turn.ensures.only.threads.lives u ∙ c.loop-device.invariant.threads.lives u;
      runs = λ asks runs. c.io_turn.ensures.only.threads.runs asks (c.loop-device.invariant.threads.runs asks runs);
    }

pub returns-in_err-io_turn-clause-devices : goal.returns-in_err-io_turn-clause-devices
returns-in_err-io_turn-clause-devices g c =
    λ firsts all. all_served _ _ _ _ _ _ _ _ _ _ c.loop-device.invariant.k (omega (arith, c.loop-device-test.true, c.loop-device.auto.devices)) c.io_turn.ensures.only c.io_turn.ensures.serves (c.loop-device.invariant.devices firsts all)

pub loop-device-preserved : goal.loop-device-preserved
loop-device-preserved g c = record {
  k = omega arith;
  setup = search rules;
  threads = record {
    lives = λ u. c.io_turn.ensures.only.threads.lives u ∙ c.loop-device.invariant.threads.lives u;
    runs = λ asks runs. c.io_turn.ensures.only.threads.runs asks (c.loop-device.invariant.threads.runs asks runs);
  };
  devices = λ firsts all. all_served _ _ _ _ _ _ _ _ _ _ c.loop-device.invariant.k (omega (arith, c.loop-device-test.true, c.loop-device.auto.devices)) c.io_turn.ensures.only c.io_turn.ensures.serves (c.loop-device.invariant.devices firsts all);
}
