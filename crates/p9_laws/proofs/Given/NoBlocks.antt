-- Just an alt that finds no entry ready and doesn't block is answered NoBlock.
use Rattle.std.proofs.Common.{◌≡◌, inl, inr, ℕ, Bool, true, false, List, [], refl, take}
use Rattle.p9_word.specs.Setup.{IsValid}
use Rattle.p9_word.specs.declared.alt.Ending.{Ending}
use Rattle.p9_word.specs.declared.alt.Ending.TheVariants.{NoBlk}
use Rattle.p9_word.specs.declared.answer.Answer.TheVariants.{NoBlock}
use Rattle.p9_word.specs.declared.request.ChanReq.{ChanReq}
use Rattle.p9_word.specs.declared.request.Request.{Request}
use Rattle.p9_word.specs.declared.request.Request.TheVariants.{Thread as ThreadRequest, Signal as SignalRequest, Chan as ChanRequest, Lock as LockRequest, Io as IoRequest}
use Rattle.p9_word.specs.declared.setup.Setup.{Setup}
use Rattle.p9_word.specs.declared.trail.Entry.{Entry}
use Rattle.p9_word.specs.declared.trail.Event.{Event}
use Rattle.p9_word.specs.declared.trail.Event.TheVariants.{Call, Next, IoTake, IoDid}
use Rattle.p9_word.specs.declared.trail.Seat.{Seat}
use Rattle.p9_word.specs.declared.trail.Seat.TheVariants.{Proc}
use Rattle.p9_manual.specs.declared.state.Channel.{Channel}
use Rattle.p9_manual.specs.declared.state.Party.{Party}
use Rattle.p9_manual.specs.declared.state.Place.{Place}
use Rattle.p9_manual.specs.declared.state.Place.TheVariants.{Running, Ready}
use Rattle.p9_manual.specs.Alt.{Verdict, NoneReady, decided, is_closed_list, verdict, verdict_of, with_draw}
use Rattle.p9_manual.specs.Draws.{draw_after}
use Rattle.p9_manual.specs.History.{IsLegal}
use Rattle.p9_manual.specs.Offers.{parties, party}
use Rattle.p9_manual.specs.Places.{runs_there}
use Rattle.p9_manual.specs.ReadyEntries.{ready_entries}
use Rattle.p9_manual.specs.Sound.{IsSound}
use Rattle.p9_manual.specs.State.{State, by_id, placed}
use Rattle.p9_manual.specs.Step.{counted, is_doomed}
use Rattle.p9_manual.specs.Told.{failed_answer}
use Rattle.p9_laws.specs.AltCauses.{FindsNone, Gives, NoBlocksCaused, NoBlocksExactly}
use Rattle.p9_laws.specs.Given.{Awaits, place_before, state_before}
use Rattle.p9_laws.proofs.Sound.Histories.{state_sound}
use Rattle.p9_laws.proofs.Sound.Running.{place_runs}
use Rattle.p9_laws.proofs.Given.Causes.{Closes, Meets, ToldBy, WokenAt, WokenBy, WokenByChan}
use Rattle.p9_laws.proofs.Given.Givers.{gives_at}
use Rattle.p9_laws.proofs.Given.Histories.{answers_given}
use Rattle.p9_laws.proofs.Given.Served.{ByAnother, ByItself, IsCause, alt_gives, cause}
use Rattle.p9_laws.proofs.Given.Tells.{verdict_none}

failed_blocks : (single : Bool) (i : ℕ) → NoBlock ≡ failed_answer single i → ⊥
failed_blocks true i e = cc
failed_blocks false i e = cc

chan_wakes : (s : State) (r : ChanReq) (u : ℕ) → WokenByChan s r u NoBlock → ⊥
chan_wakes s r u (Meets alt is_alt h) = cc
chan_wakes s r u (Closes c is fails) = failed_blocks fails.party.single _ fails.answer

request_wakes : (s : State) (r : Request) (u : ℕ) → WokenBy s r u NoBlock → ⊥
request_wakes s (ThreadRequest r) u h = h
request_wakes s (SignalRequest r) u h = let e = h.1 in cc
request_wakes s (ChanRequest r) u h = chan_wakes s r u h
request_wakes s (LockRequest r) u h = cc
request_wakes s (IoRequest r) u h = let e = h.1 in cc

-- nobody is woken with NoBlock
event_wakes : (s : State) (event : Event) (u : ℕ) → WokenAt s event u NoBlock → ⊥
event_wakes s (Call t r) u h = request_wakes s r u h
event_wakes s Next u h = h
event_wakes s IoTake u h = h
event_wakes s (IoDid effect) u h = cc

own_finds : (setup : Setup) (seat : Seat) (event : Event) (s : State) (t p : ℕ) (r : Request) → seat ≡ Proc p → event ≡ Call t r → runs_there p (by_id s.threads t) ≡ true → is_doomed t r s ≡ false → ToldBy setup s t r NoBlock → FindsNone setup seat event s t
own_finds setup seat event s t p (ThreadRequest r) seat_is is runs spared told = cc
own_finds setup seat event s t p (SignalRequest r) seat_is is runs spared told = absurd told
own_finds setup seat event s t p (ChanRequest r) seat_is is runs spared told =
    let k = verdict_none (draw_after setup.start s.draws) (party t s.position told.alt) told.alt.ending s.chans (parties s.waits) told.tells in
    record {
      alt = told.alt;
      asks = record { proc_no = p; request = ChanRequest r; is_seat = seat_is; is_call = is; runs = runs; spared = spared; is_alt = told.is_alt; fits_it = told.fits_it };
      ending = k.no_block;
      some_open = k.some_open;
      none_ready = k.none_ready;
    }
own_finds setup seat event s t p (LockRequest r) seat_is is runs spared told = cc
own_finds setup seat event s t p (IoRequest r) seat_is is runs spared told = absurd told

cause_finds : (setup : Setup) (seat : Seat) (event : Event) (s : State) (t : ℕ) → IsCause setup seat event s t NoBlock → FindsNone setup seat event s t
cause_finds setup seat event s t (ByItself p r seat_is is runs spared told) = own_finds setup seat event s t p r seat_is is runs spared told
cause_finds setup seat event s t (ByAnother waits woken) = absurd (event_wakes s event t woken)

none_is : (draw : ℕ) (me : Party) (ending : Ending) (chans : List Channel) (waits : List Party) → is_closed_list me.entries ≡ false → ready_entries chans waits me.entries ≡ [] → ending ≡ NoBlk → verdict draw me ending chans waits ≡ NoneReady
none_is draw me ending chans waits some_open none no_block = rw (some_open, none, no_block) refl

decided_none : (t : ℕ) (r : Request) (s n : State) (v : Verdict) → v ≡ NoneReady → (counted s (decided t r n v)).state.threads ≡ placed t (Ready NoBlock) n.threads
decided_none t r s n v e = rw e refl

finds_gives : (setup : Setup) (seat : Seat) (event : Event) (s : State) (t : ℕ) → FindsNone setup seat event s t → Gives setup seat event s t NoBlock
finds_gives setup seat event s t f =
    let v = none_is (draw_after setup.start s.draws) (party t s.position f.alt) f.alt.ending s.chans (parties s.waits) f.some_open f.none_ready f.ending in
    alt_gives setup seat event s t f.alt NoBlock f.asks (λ r. decided_none t (ChanRequest r) s (with_draw f.alt.entries s) (verdict_of setup t f.alt s) v)

pub no_blocks_exactly : (setup : Setup) (s : State) → IsSound setup s → NoBlocksExactly setup s
no_blocks_exactly setup s sound seat event t = (λ g. cause_finds setup seat event s t (cause setup seat event s t NoBlock sound g), finds_gives setup seat event s t)

called_it : (pl : Place) (call at : ℕ) → Awaits pl call at → pl ≡ Running → at ≡ call
called_it pl call at (inl h) e = h.1
called_it pl call at (inr h) e = let k = h.0 in cc (k, e)

pub no_blocks_caused : (setup : Setup) (H : List Entry) → IsValid setup → IsLegal setup H → NoBlocksCaused setup H
no_blocks_caused setup H valid legal i t e at told =
    let g = answers_given setup H valid legal i t NoBlock e at told in
    let s = state_before setup H g.at in
    let f = (no_blocks_exactly setup s (state_sound setup (take g.at H) valid) g.entry.seat g.entry.event t).0 (gives_at setup H legal i t NoBlock g) in
    record { told = g; own = called_it (place_before setup H g.at t) g.call g.at g.awaited (place_runs f.asks.proc_no (by_id s.threads t) f.asks.runs); cause = f }
