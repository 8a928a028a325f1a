use Rattle.std.proofs.Common.{◌≡◌, refl, inl}
use Rattle.p9_word.specs.declared.answer.Answer.TheVariants.{Sent, Got}
use Rattle.p9_word.specs.declared.trail.Reply.TheVariants.{Turn}
use Rattle.p9_laws.specs.CopySetup.{hi}
use Rattle.p9_laws.specs.Shorthand.{turns}
use Rattle.p9_manual.specs.History.{state_after}
use Rattle.p9_manual.specs.Step.{step, outcome, called, served}
use Rattle.p9_manual.specs.Threads.{thread_call, asked}
use Rattle.p9_manual.specs.Chans.{chan_call}
use Rattle.p9_manual.specs.Ioprocs.{io_call, io_event}
use Rattle.p9_manual.specs.Next.{next_event}
use Rattle.p9_laws.proofs.examples.sender_before_receiver_is_not_legal.Goals as goal

-- the receiver has the turn
other_reply : Turn 1 Sent ≡ Turn 2 (Got 17 hi) → ⊥
other_reply e = cc

pub returns : goal.returns
unfolding state_after step outcome called served thread_call asked chan_call io_call io_event next_event
returns c =
    ((refl, refl, (refl, refl, (refl, refl, (refl, refl, (refl, refl, (refl, refl, (refl, refl, (refl, refl, (refl, refl, (refl, refl, (refl, refl, (refl, refl, (refl, refl, (refl, refl, (refl, refl, (refl, refl, (refl, refl, (refl, refl, tt)))))))))))))))))), turns (Turn 1 Sent), refl, inl other_reply)
