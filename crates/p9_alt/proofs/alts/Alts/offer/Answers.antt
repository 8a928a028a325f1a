use Rattle.std.proofs.Common.{sym, subst, ◌∙◌, ◌≡◌, true, length, List, ℕ}
use Rattle.p9_manual.specs.declared.state.Channel.{Channel}
use Rattle.p9_manual.specs.declared.state.Party.{Party}
use Rattle.p9_word.specs.declared.alt.AltEntry.{AltEntry}
use Rattle.p9_manual.specs.ReadyEntries.{fits, ready_entries}
use Rattle.p9_manual.specs.AltEntries.{sends_on}
use Rattle.p9_manual.specs.Standing.{times}
use Rattle.p9_manual.specs.State.{by_id}
use Rattle.p9_chan.specs.Channels.{Channels, is_closed_in}
use Rattle.p9_alt.specs.Exchange.{Exchange}
use Rattle.p9_alt.proofs.Fitting.{all_usable}
use Rattle.p9_alt.proofs.Sends.{unsent_unready}
use Rattle.p9_alt.proofs.alts.Alts.offer.Goals as goal

pub ready_from-ready-requires-clause-usable : goal.ready_from-ready-requires-clause-usable
ready_from-ready-requires-clause-usable c =
    let ok = subst (λ (x : Exchange). fits x.channels.chans c.args.entries ≡ true) (sym c.self.view_is) c.requires.fits in
    rw c.as_slice-2.ensures (all_usable c.self.inside.chans c.args.entries ok)

none_is : (chans : List Channel) (waits read_waits : List Party) (es read : List AltEntry) (n : ℕ) → read_waits ≡ waits → read ≡ es → n ≡ length (ready_entries chans read_waits read) → n ≡ 0 → length (ready_entries chans waits es) ≡ 0
none_is chans waits read_waits es read n w e is none = rw (← w, ← e) (sym is ∙ none)

pub returns-then-ready-eq0-clause-open : goal.returns-then-ready-eq0-clause-open
returns-then-ready-eq0-clause-open c =
    let s = c.self.inside in
    let off = none_is s.chans.chans s.waits.items c.deref.result.now c.args.entries c.as_slice-2.result.now c.ready_from-ready.result.0 c.deref.ensures.value c.as_slice-2.ensures c.ready_from-ready.ensures.count c.if-ready-eq0.true in
    let none = subst (λ (x : Exchange). length (ready_entries x.channels.chans x.waits c.args.entries) ≡ 0) c.self.view_is off in
    let me : Party = record { tid = c.args.tid; at = c.args.at; single = c.args.single; entries = c.args.entries } in
    let h = unsent_unready c.args.ending c.args.self.now.channels.chans c.args.self.now.waits c.unready.new.self.waits me c.requires.«open» none c.unready.ensures.waits in
    subst (λ (k : Channels). (c' : ℕ) → is_closed_in (by_id k.chans c') ≡ true → times (sends_on c') c.unready.new.self.waits ≡ 0) (sym c.unready.ensures.channels) h
