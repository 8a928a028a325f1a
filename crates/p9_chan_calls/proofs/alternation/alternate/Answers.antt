use Rattle.std.proofs.Common.{ℕ, sym, ◌∙◌, subst}
use Rattle.p9_manual.specs.Offers.{Alternation, party}
use Rattle.p9_chan_calls.proofs.Alternates.{alt_bad, alt_serves, IsOffered}
use Rattle.p9_chan_calls.proofs.Closes.{once}
use Rattle.p9_chan_calls.proofs.Offering.{idle_by, before_by, open_by, wake_waits, runs_then}
use Rattle.p9_chan_calls.proofs.alternation.alternate.Goals as goal

pub returns-then-not-fits-clause-serves : goal.returns-then-not-fits-clause-serves
returns-then-not-fits-clause-serves c = λ setup s request h e.
    let a : Alternation = record { entries = c.args.entries; ending = c.args.ending; single = c.args.single } in
    alt_bad setup c.args.sched.now c.args.alts.now c.args.generator.now s c.args.t request a (sym c.fits.ensures ∙ c.if-not-fits.true) h.parts

pub draw-drawn-requires-clause-idle : goal.draw-drawn-requires-clause-idle
draw-drawn-requires-clause-idle c =
    let b = c.requires.stands in
    idle_by b.0 c.args.at c.args.sched.now c.args.alts.now c.args.generator.now b.1 b.2 c.args.t c.requires.runs

pub offer-offer-requires-clause-idle : goal.offer-offer-requires-clause-idle
offer-offer-requires-clause-idle c =
    let b = c.requires.stands in
    idle_by b.0 c.args.at c.args.sched.now c.args.alts.now c.args.generator.now b.1 b.2 c.args.t c.requires.runs

pub offer-offer-requires-clause-before : goal.offer-offer-requires-clause-before
offer-offer-requires-clause-before c =
    let b = c.requires.stands in
    before_by b.0 c.args.at c.args.sched.now c.args.alts.now c.args.generator.now b.1 b.2

pub offer-offer-requires-clause-open : goal.offer-offer-requires-clause-open
offer-offer-requires-clause-open c =
    let b = c.requires.stands in
    open_by b.0 c.args.at c.args.sched.now c.args.alts.now c.args.generator.now b.1 b.2

pub wake_one-requires : goal.wake_one-requires
wake_one-requires c =
    let b = c.requires.stands in
    let a : Alternation = record { entries = c.args.entries; ending = c.args.ending; single = c.args.single } in
    wake_waits b.0 c.args.at c.args.sched.now c.args.alts.now c.args.generator.now b.1 b.2 c.draw-drawn.result (party c.args.t c.args.at a) c.args.ending c.offer-offer.new.woken c.offer-offer.ensures.woken

pub answer_caller-requires : goal.answer_caller-requires
answer_caller-requires c =
    let b = c.requires.stands in
    let a : Alternation = record { entries = c.args.entries; ending = c.args.ending; single = c.args.single } in
    let waits = wake_waits b.0 c.args.at c.args.sched.now c.args.alts.now c.args.generator.now b.1 b.2 c.draw-drawn.result (party c.args.t c.args.at a) c.args.ending c.offer-offer.new.woken c.offer-offer.ensures.woken in
    runs_then b.0 c.args.at c.args.sched.now c.wake_one.new.sched c.args.alts.now c.args.generator.now b.1 c.args.t c.offer-offer.new.woken b.2 waits c.wake_one.ensures c.requires.runs

pub returns-clause-serves : goal.returns-clause-serves
returns-clause-serves c = λ setup s request h e.
    let a : Alternation = record { entries = c.args.entries; ending = c.args.ending; single = c.args.single } in
    let k : IsOffered c.args.at c.args.alts.now c.offer-offer.new.self c.args.generator.now c.draw-drawn.new.generator c.args.t c.draw-drawn.result a c.offer-offer.new.woken c.offer-offer.result = record {
      fit = sym c.fits.ensures ∙ c.if-not-fits.false;
      draws = c.draw-drawn.ensures;
      chans = c.offer-offer.ensures.chans;
      waits = c.offer-offer.ensures.waits;
      wakes = c.offer-offer.ensures.woken;
      tells = c.offer-offer.ensures.told;
    } in
    let here = subst (λ (n : ℕ). IsOffered n c.args.alts.now c.offer-offer.new.self c.args.generator.now c.draw-drawn.new.generator c.args.t c.draw-drawn.result a c.offer-offer.new.woken c.offer-offer.result) (sym h.position) k in
    alt_serves setup c.args.sched.now c.args.alts.now c.offer-offer.new.self c.args.generator.now c.draw-drawn.new.generator s c.args.t c.draw-drawn.result request a c.offer-offer.new.woken c.offer-offer.result e here h.parts c.wake_one.new.sched c.answer_caller.new.sched (once setup c.args.at c.args.sched.now c.args.alts.now c.args.generator.now s 0 h) c.wake_one.ensures c.answer_caller.ensures
