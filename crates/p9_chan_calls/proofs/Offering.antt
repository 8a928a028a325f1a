-- What the parts owe where an alt is offered.
use Rattle.std.proofs.Common.{◌≡◌, ℕ, ◌+◌, ◌≤◌, cond, List, [], ◌∷◌, Option, Some, None, refl, ap, ◌∙◌, subst, arith}
use Rattle.std.specs.Prelude.{◌==◌}
use Rattle.p9_word.specs.declared.answer.Answer.{Answer}
use Rattle.p9_word.specs.declared.alt.Ending.{Ending}
use Rattle.p9_manual.specs.declared.state.Place.{Place as Stand}
use Rattle.p9_manual.specs.declared.state.Place.TheVariants as stand
use Rattle.p9_manual.specs.declared.state.Party.{Party}
use Rattle.p9_manual.specs.declared.state.Thread.{Thread}
use Rattle.p9_manual.specs.Offers.{parties}
use Rattle.p9_manual.specs.Alt.{Verdict, AllClosed, Commits, NoneReady, MustWait, verdict}
use Rattle.p9_manual.specs.Standing.{times, times_in_waits, place_in, place_of as stand_of}
use Rattle.p9_manual.specs.State.{State, by_id, placed}
use Rattle.p9_sched.specs.Turns.{place_of}
use Rattle.p9_sched.specs.declared.turns.Place.TheVariants as place
use Rattle.p9_alt.specs.declared.offer.Wake.{Wake}
use Rattle.p9_alt.specs.Exchange.{NoSendOnClosed, IsIdle, AreBefore, wake_of, wake_with}
use Rattle.rand_pcg.specs.Lcg.{Lcg}
use Rattle.p9_word.specs.declared.setup.Setup.{Setup}
use Rattle.p9_alt.specs.Exchange.{Exchange, Spare}
use Rattle.p9_sched.specs.Schedule.{Schedule}
use Rattle.p9_chan_calls.specs.For.{IsAt}
use Rattle.p9_sched.specs.Stands.{Tracks}
use Rattle.p9_chan_calls.specs.Wakes.{pair_in, all_readied, AreWaiting}
use Rattle.p9_chan_calls.proofs.Parties.{is_tid, times_parties, before_parties, open_sends, WokenStands, woken_in, woken_stands}
use Rattle.p9_chan_calls.proofs.Others.{CasesEq, Same, Other, cases_eq, eq_same, eq_other}
use Rattle.p9_chan_calls.proofs.Waken.{still_runs, waits_counted}

runs_in_none : (pl : Stand) (thread : Thread) → thread.place ≡ pl → place_of (Some thread) ≡ place.Running → times_in_waits pl ≡ 0
runs_in_none stand.Running thread e r = refl
runs_in_none stand.New thread e r = refl
runs_in_none (stand.Ready a) thread e r = refl
runs_in_none stand.Waiting thread e r = let w : place_of (Some thread) ≡ place.Waiting = rw e refl in absurd (cc (w, r))
runs_in_none stand.Ended thread e r = refl

runs_in : (o : Option Thread) → place_of o ≡ place.Running → times_in_waits (place_in o) ≡ 0
runs_in None r = refl
runs_in (Some thread) r = runs_in_none thread.place thread refl r

module _ (setup : Setup) (at : ℕ) (sched : Schedule) (alts : Exchange) (generator : Lcg) (s : State) (h : IsAt setup at sched alts generator s) where
  -- a thread stands in the waits as its place says
  pub counted : (t : ℕ) → times (λ w. w.tid == t) s.waits ≡ times_in_waits (stand_of sched.threads t)
  counted t = h.sound.stand.in_waits t ∙ ap (λ (ts : List Thread). times_in_waits (stand_of ts t)) h.parts.threads.threads

  -- who runs waits in no alt
  pub idle_by : (t : ℕ) → place_of (by_id sched.threads t) ≡ place.Running → IsIdle t alts
  idle_by t runs =
      let few = times_parties t s.waits in
      let stands = counted t in
      let none = runs_in (by_id sched.threads t) runs in
      let here : times (is_tid t) alts.waits ≡ times (is_tid t) (parties s.waits) = ap (times (is_tid t)) h.parts.channels.waits in
      omega arith

  -- each alt that waits was made before now
  pub before_by : AreBefore at alts
  before_by = rw (h.parts.channels.waits, ← h.position) (before_parties s.position s.waits h.sound.order.before)

  -- nobody waits to send on a closed channel
  pub open_by : NoSendOnClosed alts
  open_by =
      rw h.parts.channels.waits (open_sends alts.channels.chans s.chans (parties s.waits) h.parts.channels.chans h.sound.waits_right.sends)

one_step : (threads : List Thread) (w : ℕ × Answer) (t : ℕ) → 1 ≤ times_in_waits (stand_of threads w.0) → CasesEq w.0 t → cond (w.0 == t) 1 0 + 0 ≤ times_in_waits (stand_of threads t)
one_step threads w t h (Same e) = rw (e, eq_same t) (subst (λ (u : ℕ). 1 + 0 ≤ times_in_waits (stand_of threads u)) e (omega arith))
one_step threads w t h (Other ne) = rw (eq_other w.0 t ne) (omega arith)

one_waits : (threads : List Thread) (w : ℕ × Answer) → 1 ≤ times_in_waits (stand_of threads w.0) → AreWaiting threads (w ∷ [])
one_waits threads w h = record { wait = λ t. one_step threads w t h (cases_eq w.0 t) }

module _ (setup : Setup) (at : ℕ) (sched : Schedule) (alts : Exchange) (generator : Lcg) (s : State) (h : IsAt setup at sched alts generator s) where
  woken_waits : (o : Option (ℕ × Answer)) → WokenStands o alts.waits → AreWaiting sched.threads (pair_in (wake_with o))
  woken_waits None k = record { wait = λ t. omega arith }
  woken_waits (Some w) k =
      let few = times_parties w.0 s.waits in
      let stands = counted setup at sched alts generator s h w.0 in
      let here : times (is_tid w.0) alts.waits ≡ times (is_tid w.0) (parties s.waits) = ap (times (is_tid w.0)) h.parts.channels.waits in
      one_waits sched.threads w (omega arith)

  woken_by : (v : Verdict) → WokenStands (woken_in v) alts.waits → AreWaiting sched.threads (pair_in (wake_of v))
  woken_by (Commits d) k = woken_waits d.woken k
  woken_by AllClosed k = record { wait = λ t. omega arith }
  woken_by NoneReady k = record { wait = λ t. omega arith }
  woken_by MustWait k = record { wait = λ t. omega arith }

  -- who is woken waits
  pub wake_waits : (draw : ℕ) (me : Party) (ending : Ending) (o : Option Wake) → o ≡ wake_of (verdict draw me ending alts.channels.chans alts.waits) → AreWaiting sched.threads (pair_in o)
  wake_waits draw me ending o e =
      rw e (woken_by (verdict draw me ending alts.channels.chans alts.waits) (woken_stands draw me ending alts.channels.chans alts.waits))

runs_on : (threads : List Thread) (t : ℕ) (o : Option Wake) (s : State) → s.threads ≡ threads → AreWaiting threads (pair_in o) → place_of (by_id threads t) ≡ place.Running → place_of (by_id (all_readied (pair_in o) s).threads t) ≡ place.Running
runs_on threads t None s e a r = rw e r
runs_on threads t (Some w) s e a r =
    let here : cond {A = ℕ} (w.tid == w.tid) 1 0 ≡ 1 = rw (eq_same w.tid) refl in
    let le : cond (w.tid == w.tid) 1 0 + 0 ≤ times_in_waits (stand_of threads w.tid) = a.wait w.tid in
    still_runs threads (placed w.tid (stand.Ready w.answer) s.threads) t w.tid (stand.Ready w.answer) (ap (placed w.tid (stand.Ready w.answer)) e) r (waits_counted threads w.tid (omega arith))

-- who runs runs on where another is woken
pub runs_then : (setup : Setup) (at : ℕ) (sched woken : Schedule) (alts : Exchange) (generator : Lcg) (s : State) (t : ℕ) (o : Option Wake) → IsAt setup at sched alts generator s → AreWaiting sched.threads (pair_in o) → Tracks (all_readied (pair_in o)) sched woken → place_of (by_id sched.threads t) ≡ place.Running → place_of (by_id woken.threads t) ≡ place.Running
runs_then setup at sched woken alts generator s t o h a tracks runs =
    let after = tracks setup.places s h.parts.threads in
    rw (← after.threads) (runs_on sched.threads t o s h.parts.threads.threads a runs)

-- what the alts have in spare doesn't matter
pub spared : (setup : Setup) (at : ℕ) (sched : Schedule) (old new : Exchange) (generator : Lcg) (s : State) (spare : Spare) → new ≡ record old { spare = spare } → IsAt setup at sched old generator s → IsAt setup at sched new generator s
spared setup at sched old new generator s spare e h = rw e (record {
  parts = record {
    threads = h.parts.threads;
    channels = record { waits = h.parts.channels.waits; chans = h.parts.channels.chans };
    drawn = h.parts.drawn;
  };
  position = h.position;
  sound = h.sound;
})
