use Rattle.std.proofs.Common.{List, true, ap, sym, ◌∙◌, subst}
use Rattle.std.specs.Prelude.{Some}
use Rattle.p9_word.specs.declared.alt.AltEntry.{AltEntry}
use Rattle.p9_manual.specs.Alt.{alt}
use Rattle.p9_manual.specs.Offers.{Alternation}
use Rattle.p9_chan_calls.specs.Serves.{Serves}
use Rattle.p9_chan_calls.proofs.Offering.{spared}
use Rattle.p9_chan_calls.proofs.alternation.one.Goals as goal

pub returns-clause-serves : goal.returns-clause-serves
returns-clause-serves c = λ setup s request h e.
    let a : List AltEntry → Alternation = λ es. record { entries = es; ending = c.args.ending; single = true } in
    let k = spared setup c.args.at c.args.sched.now c.args.alts.now c.one-entries.new.self c.args.generator.now s _ c.one-entries.ensures.rest h in
    let served = c.alternate.ensures.serves setup s request k (e ∙ ap (λ (es : List AltEntry). Some (a es)) (sym c.one-entries.ensures.list)) in
    subst (λ (es : List AltEntry). Serves setup s (alt setup c.args.t request (a es) s) c.alternate.result c.alternate.new.sched c.alternate.new.alts c.alternate.new.generator) c.one-entries.ensures.list served
