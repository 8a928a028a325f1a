use Rattle.std.proofs.Common.{◌≤◌, sym, ap, subst, ◌∙◌, ◌≡◌, true, List, get_or, ℕ, arith}
use Rattle.p9_word.specs.declared.alt.AltEntry.{AltEntry}
use Rattle.p9_manual.specs.declared.state.Channel.{Channel}
use Rattle.p9_manual.specs.declared.state.Party.{Party}
use Rattle.p9_manual.specs.Commit.{commit}
use Rattle.p9_manual.specs.AltEntries.{sends_on}
use Rattle.p9_manual.specs.ReadyEntries.{fits, is_ready, ready_entries}
use Rattle.p9_manual.specs.State.{by_id}
use Rattle.p9_manual.specs.Standing.{times}
use Rattle.p9_chan.specs.Channels.{is_closed_in}
use Rattle.p9_alt.specs.Exchange.{Exchange, HasMemory, NoSendOnClosed, zeros_for}
use Rattle.p9_alt.specs.Passing.{IsDealt, IsLeft, nth_deal}
use Rattle.p9_alt.proofs.Callers.{dealt_for, left_for, closed_commit}
use Rattle.p9_alt.proofs.Fitting.{all_usable, at_index, live_entry, made_from_live, one_fits, read_is, ready_used}
use Rattle.p9_alt.proofs.Sends.{find_by_times, times-without}
use Rattle.p9_alt.proofs.alts.Alts.go_on.Goals as goal

-- the number of the entry, in the caller's own terms
number_is : (chans : List Channel) (waits read_waits : List Party) (es read : List AltEntry) (n i : ℕ) → read_waits ≡ waits → read ≡ es → i ≡ get_or (ready_entries chans read_waits read) n 0 → i ≡ get_or (ready_entries chans waits es) n 0
number_is chans waits read_waits es read n i w e is = rw (← w, ← e) is

-- nobody waits to send on a closed channel after a deal
none_after : (me : Party) (i : ℕ) (chans chans_new : List Channel) (waits waits_new : List Party) → ((c : ℕ) → is_closed_in (by_id chans c) ≡ true → times (sends_on c) waits ≡ 0) → IsLeft (commit me i chans waits) waits chans_new waits_new → (c : ℕ) → is_closed_in (by_id chans_new c) ≡ true → times (sends_on c) waits_new ≡ 0
none_after me i chans chans_new waits waits_new none left c shut =
    let same = closed_commit me i chans waits c in
    let before : is_closed_in (by_id chans c) ≡ true = sym same ∙ (ap (λ (k : List Channel). is_closed_in (by_id k c)) (sym left.chans) ∙ shut) in
    let fewer = times-without (sends_on c) (commit me i chans waits).woken waits in
    let now = ap (times (sends_on c)) left.waits in
    let old = none c before in
    omega arith

pub ready_number-i-requires-clause-usable : goal.ready_number-i-requires-clause-usable
ready_number-i-requires-clause-usable c =
    let ok = subst (λ (x : Exchange). fits x.channels.chans c.args.me.entries ≡ true) (sym c.self.view_is) c.requires.fits in
    rw c.as_slice.ensures (all_usable c.self.inside.chans c.args.me.entries ok)

pub commit-requires-clause-made : goal.commit-requires-clause-made
commit-requires-clause-made c =
    let x = c.self.inside.chans in
    let e = c.entry_out-entry.result in
    let ok = subst (λ (x : Exchange). fits x.channels.chans c.args.me.entries ≡ true) (sym c.self.view_is) c.requires.fits in
    let on = read_is (λ (k : AltEntry). is_ready x.chans c.deref.result.now k ≡ true) c.args.me.entries c.as_slice.result.now c.ready_number-i.result e c.as_slice.ensures c.entry_out-entry.ensures c.ready_number-i.ensures.ready in
    made_from_live x e.chan (live_entry x e (one_fits x c.args.me.entries c.ready_number-i.result e ok c.entry_out-entry.ensures) (ready_used x.chans c.deref.result.now e on))

pub commit-requires-clause-live : goal.commit-requires-clause-live
commit-requires-clause-live c =
    let x = c.self.inside.chans in
    let e = c.entry_out-entry.result in
    let ok = subst (λ (x : Exchange). fits x.channels.chans c.args.me.entries ≡ true) (sym c.self.view_is) c.requires.fits in
    let on = read_is (λ (k : AltEntry). is_ready x.chans c.deref.result.now k ≡ true) c.args.me.entries c.as_slice.result.now c.ready_number-i.result e c.as_slice.ensures c.entry_out-entry.ensures c.ready_number-i.ensures.ready in
    live_entry x e (one_fits x c.args.me.entries c.ready_number-i.result e ok c.entry_out-entry.ensures) (ready_used x.chans c.deref.result.now e on)

pub commit-requires-clause-open : goal.commit-requires-clause-open
commit-requires-clause-open c =
    let none = subst (λ (x : Exchange). NoSendOnClosed x) (sym c.self.view_is) c.requires.«open» in
    λ shut. find_by_times (sends_on c.entry_out-entry.result.chan) c.self.inside.waits.items (none c.entry_out-entry.result.chan shut)

pub commit-requires-clause-zeros : goal.commit-requires-clause-zeros
commit-requires-clause-zeros c =
    let mem = subst (λ (x : Exchange). HasMemory c.args.me.entries x) (sym c.self.view_is) c.requires.zeros in
    at_index (λ (k : AltEntry). zeros_for c.self.inside.chans.chans c.self.inside.waits.items k ≤ c.self.inside.zeros) c.args.me.entries c.ready_number-i.result c.entry_out-entry.result c.entry_out-entry.ensures mem.zeros

pub returns-clause-dealt : goal.returns-clause-dealt
returns-clause-dealt c =
    let s = c.self.inside in
    let j = get_or (ready_entries s.chans.chans s.waits.items c.args.me.entries) c.args.n 0 in
    let ij = number_is s.chans.chans s.waits.items c.deref.result.now c.args.me.entries c.as_slice.result.now c.args.n c.ready_number-i.result c.deref.ensures.value c.as_slice.ensures c.ready_number-i.ensures.number in
    let h = dealt_for c.args.me c.ready_number-i.result j s.chans.chans s.waits.items c.entry_out-entry.result c.commit.result ij c.entry_out-entry.ensures c.commit.ensures.dealt in
    subst (λ (x : Exchange). IsDealt (nth_deal c.args.me c.args.n x) c.commit.result) c.self.view_is h

pub returns-clause-left : goal.returns-clause-left
returns-clause-left c =
    let s = c.self.inside in
    let j = get_or (ready_entries s.chans.chans s.waits.items c.args.me.entries) c.args.n 0 in
    let ij = number_is s.chans.chans s.waits.items c.deref.result.now c.args.me.entries c.as_slice.result.now c.args.n c.ready_number-i.result c.deref.ensures.value c.as_slice.ensures c.ready_number-i.ensures.number in
    let h = left_for c.args.me c.ready_number-i.result j s.chans.chans c.commit.new.chans.chans s.waits.items c.commit.new.waits.items c.entry_out-entry.result ij c.entry_out-entry.ensures c.commit.ensures.left in
    subst (λ (x : Exchange). IsLeft (nth_deal c.args.me c.args.n x) x.waits c.commit.new.chans.chans c.commit.new.waits.items) c.self.view_is h

pub returns-clause-open : goal.returns-clause-open
returns-clause-open c =
    let s = c.self.inside in
    let j = get_or (ready_entries s.chans.chans s.waits.items c.args.me.entries) c.args.n 0 in
    let ij = number_is s.chans.chans s.waits.items c.deref.result.now c.args.me.entries c.as_slice.result.now c.args.n c.ready_number-i.result c.deref.ensures.value c.as_slice.ensures c.ready_number-i.ensures.number in
    let h = left_for c.args.me c.ready_number-i.result j s.chans.chans c.commit.new.chans.chans s.waits.items c.commit.new.waits.items c.entry_out-entry.result ij c.entry_out-entry.ensures c.commit.ensures.left in
    let none = subst (λ (x : Exchange). NoSendOnClosed x) (sym c.self.view_is) c.requires.«open» in
    none_after c.args.me j s.chans.chans c.commit.new.chans.chans s.waits.items c.commit.new.waits.items none h
