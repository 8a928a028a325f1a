-- What an alt comes to.
use Rattle.std.proofs.Common.{◌≡◌, ℕ, ◌+◌, ◌≤◌, Bool, true, false, cond, List, [], ◌∷◌, ◌++◌, length, Option, Some, None, refl, ap, sym, ◌∙◌, subst}
use Rattle.std.specs.Prelude.{nat_lt, is_none, ◌==◌}
use Rattle.std.specs.List.{filter}
use Rattle.rand_pcg.specs.Lcg.{Lcg}
use Rattle.rand_pcg.specs.Pcg.{pcg32}
use Rattle.p9_word.specs.declared.answer.Answer.{Answer}
use Rattle.p9_word.specs.declared.answer.Answer.TheVariants.{Bad}
use Rattle.p9_word.specs.declared.request.Request.{Request}
use Rattle.p9_word.specs.declared.setup.Setup.{Setup}
use Rattle.p9_word.specs.declared.trail.Reply.TheVariants.{Now, Waits}
use Rattle.p9_manual.specs.declared.state.Channel.{Channel}
use Rattle.p9_manual.specs.declared.state.Party.{Party}
use Rattle.p9_manual.specs.declared.state.Waiter.{Waiter}
use Rattle.p9_manual.specs.Offers.{Alternation, alternation_of, party, parties}
use Rattle.p9_manual.specs.ReadyEntries.{fits, ready_entries}
use Rattle.p9_manual.specs.Draws.{generator_after, draw_after}
use Rattle.p9_manual.specs.Alt.{Verdict, AllClosed, Commits, NoneReady, MustWait, verdict, verdict_of, needs_draw, with_draw, with_woken, parties_without, decided, alt}
use Rattle.p9_manual.specs.State.{State, Outcome, bad, waits_without}
use Rattle.p9_manual.specs.Standing.{times}
use Rattle.p9_alt.specs.declared.offer.Offer.{Offer}
use Rattle.p9_alt.specs.declared.offer.Wake.{Wake}
use Rattle.p9_alt.specs.Exchange.{Exchange, offer_of, wake_with, wake_of, chans_after, waits_after}
use Rattle.p9_alt.specs.For.{AltsFor}
use Rattle.p9_sched.specs.Schedule.{Schedule}
use Rattle.p9_chan_calls.specs.For.{PartsFor}
use Rattle.p9_chan_calls.specs.Serves.{is_in_call, Serves, Leaves}
use Rattle.p9_sched.specs.Stands.{SchedFor, Tracks}
use Rattle.p9_chan_calls.specs.Wakes.{pair_in, all_readied, told}
use Rattle.p9_chan_calls.proofs.Alike.{shown_chans, alike_fits}
use Rattle.p9_chan_calls.proofs.Drawn.{drawn_by, draws_alike}
use Rattle.p9_chan_calls.proofs.Frames.{both_move, same_by}
use Rattle.p9_chan_calls.proofs.InCalls.{calls_without, calls_push}
use Rattle.p9_chan_calls.proofs.InLocks.{held_stays, locks_by_calls, woken_last}
use Rattle.p9_chan_calls.proofs.OnChannels.{serves_now}
use Rattle.p9_chan_calls.proofs.Parties.{parties_wait, parties_without_tid, WokenStands, woken_in, woken_stands}
use Rattle.p9_chan_calls.proofs.Verdicts.{over, VerdictsAlike, alike_verdict}

-- the waits without those of whom is woken
abbrev pub left_by : Option (ℕ × Answer) → List Waiter → List Waiter
left_by None waits = waits
left_by (Some w) waits = waits_without w.0 waits

-- the waits after a verdict, on an alt with which its thread may wait
abbrev pub waits_by : Verdict → Waiter → List Waiter → List Waiter
waits_by (Commits d) w waits = left_by d.woken waits
waits_by AllClosed w waits = waits
waits_by NoneReady w waits = waits
waits_by MustWait w waits = waits ++ w ∷ []

left_parties : (o : Option (ℕ × Answer)) (waits : List Waiter) → parties_without o (parties waits) ≡ parties (left_by o waits)
left_parties None waits = refl
left_parties (Some w) waits = sym (parties_without_tid w.0 waits)

-- who waits in an alt after it
waits_parties : (v : Verdict) (t at : ℕ) (request : Request) (a : Alternation) (waits : List Waiter) → alternation_of request ≡ Some a → waits_after v (party t at a) (parties waits) ≡ parties (waits_by v (record { tid = t; request = request; at = at }) waits)
waits_parties (Commits d) t at request a waits e = left_parties d.woken waits
waits_parties AllClosed t at request a waits e = refl
waits_parties NoneReady t at request a waits e = refl
waits_parties MustWait t at request a waits e = sym (parties_wait waits t at request a e)

-- each thread waits once at most
abbrev pub WaitsOnce : List Waiter → Type 0
WaitsOnce waits = (t : ℕ) → times (λ w. w.tid == t) waits ≤ 1

left_calls : (o : Option (ℕ × Answer)) (waits : List Waiter) → WaitsOnce waits → WokenStands o (parties waits) → filter is_in_call (left_by o waits) ≡ filter is_in_call waits
left_calls None waits once k = refl
left_calls (Some w) waits once k = calls_without w.0 waits (once w.0) k

in_no_call : (o : Option Alternation) (a : Alternation) → o ≡ Some a → is_none o ≡ false
in_no_call o a e = rw e refl

-- those that wait in calls stay
waits_calls : (v : Verdict) (w : Waiter) (a : Alternation) (waits : List Waiter) → alternation_of w.request ≡ Some a → WaitsOnce waits → WokenStands (woken_in v) (parties waits) → filter is_in_call (waits_by v w waits) ≡ filter is_in_call waits
waits_calls (Commits d) w a waits e once k = left_calls d.woken waits once k
waits_calls AllClosed w a waits e once k = refl
waits_calls NoneReady w a waits e once k = refl
waits_calls MustWait w a waits e once k = calls_push waits w (in_no_call (alternation_of w.request) a e)

-- the state in which the woken thread and the caller are told, but for that
abbrev pub dealt_state : ℕ → Request → Verdict → List Channel → State → State
dealt_state t request v chans s =
    record s { waits = waits_by v (record { tid = t; request = request; at = s.position }) s.waits; chans = chans }

-- the state once both are told
abbrev pub told_state : ℕ → Request → Verdict → List Channel → State → State
told_state t request v chans s = told t (offer_of v) (all_readied (pair_in (wake_of v)) (dealt_state t request v chans s))

-- the caller waits, or goes on when its turn comes, and this is the state
pub record ComesTo (o : Outcome) (n : State) : Type 0 where
  pub reply : o.reply ≡ Waits
  pub state : o.state ≡ n

woken_state : (o : Option (ℕ × Answer)) (chans : List Channel) (s : State) → WaitsOnce s.waits → WokenStands o (parties s.waits) → with_woken o (record s { chans = chans }) ≡ all_readied (pair_in (wake_with o)) (record s { waits = left_by o s.waits; chans = chans })
woken_state None chans s once k = refl
woken_state (Some w) chans s once k = woken_last w.0 w.1 (record s { chans = chans }) (once w.0) k

decided_over : (t : ℕ) (request : Request) (v : Verdict) (chans : List Channel) (s : State) → WaitsOnce s.waits → WokenStands (woken_in v) (parties s.waits) → chans ≡ chans_after (over chans v) s.chans → ComesTo (decided t request s (over chans v)) (told_state t request v chans s)
decided_over t request (Commits d) chans s once k e =
    record { reply = refl; state = ap (λ (x : State). told t (offer_of (Commits d)) x) (woken_state d.woken chans s once k) }
decided_over t request AllClosed chans s once k e = rw e (record { reply = refl; state = refl })
decided_over t request NoneReady chans s once k e = rw e (record { reply = refl; state = refl })
decided_over t request MustWait chans s once k e = rw e (record { reply = refl; state = refl })

-- what a verdict comes to
decided_by : (t : ℕ) (request : Request) (v w : Verdict) (s : State) → WaitsOnce s.waits → WokenStands (woken_in v) (parties s.waits) → w ≡ over (chans_after w s.chans) v → ComesTo (decided t request s w) (told_state t request v (chans_after w s.chans) s)
decided_by t request v w s once k e =
    subst (λ (x : Verdict). ComesTo (decided t request s x) (told_state t request v (chans_after w s.chans) s)) (sym e) (decided_over t request v (chans_after w s.chans) s once k (ap (λ (x : Verdict). chans_after x s.chans) e))

-- the verdict of the parts
abbrev pub own_verdict : ℕ → Exchange → ℕ → ℕ → Alternation → Verdict
own_verdict at alts t draw a = verdict draw (party t at a) a.ending alts.channels.chans alts.waits

-- an offer of thread t of an alt that fits, and what it came to
pub record IsOffered (at : ℕ) (old new : Exchange) (before after : Lcg) (t draw : ℕ) (a : Alternation) (o : Option Wake) (offer : Offer) : Type 0 where
  pub fit : fits old.channels.chans a.entries ≡ true
  pub draws : (draw, after) ≡ cond {A = ℕ × Lcg} (nat_lt 1 (length (ready_entries old.channels.chans old.waits a.entries))) (pcg32 before) (0, before)
  pub chans : new.channels.chans ≡ chans_after (own_verdict at old t draw a) old.channels.chans
  pub waits : new.waits ≡ waits_after (own_verdict at old t draw a) (party t at a) old.waits
  pub wakes : o ≡ wake_of (own_verdict at old t draw a)
  pub tells : offer ≡ offer_of (own_verdict at old t draw a)

fits_if : (b : Bool) (o : Outcome) (s n : State) → b ≡ true → ComesTo o n → ComesTo (cond b o (bad s)) n
fits_if b o s n e k = rw e k

misfits_if : (b : Bool) (o : Outcome) (s : State) → b ≡ false → cond b o (bad s) ≡ bad s
misfits_if b o s e = rw e refl

-- entries that may not be asked for
pub alt_bad : (setup : Setup) (sched : Schedule) (alts : Exchange) (generator : Lcg) (s : State) (t : ℕ) (request : Request) (a : Alternation) → fits alts.channels.chans a.entries ≡ false → PartsFor setup sched alts generator s → Serves setup s (alt setup t request a s) (Now Bad) sched alts generator
alt_bad setup sched alts generator s t request a f p =
    serves_now Bad setup sched alts generator s _ (misfits_if (fits s.chans a.entries) _ s (sym (alike_fits alts.channels.chans s.chans a.entries p.channels.chans) ∙ f)) p

module _ (setup : Setup) (first : Schedule) (old new : Exchange) (before after : Lcg) (s : State) (t draw : ℕ) (request : Request) (a : Alternation) (o : Option Wake) (offer : Offer) (e : alternation_of request ≡ Some a) (k : IsOffered s.position old new before after t draw a o offer) (p : PartsFor setup first old before s) where
  -- the verdict of the definitions
  abbrev right : Verdict
  right = verdict_of setup t a s

  abbrev own : Verdict
  own = own_verdict s.position old t draw a

  -- they agree
  agree : VerdictsAlike old.channels.chans s.chans own right
  agree =
      let me = party t s.position a in
      let chans = old.channels.chans in
      let drawn = drawn_by setup.start s.draws draw before after me a.ending chans old.waits p.drawn k.draws in
      let same : own ≡ verdict (draw_after setup.start s.draws) me a.ending chans (parties s.waits) = drawn.decides ∙ ap (verdict (draw_after setup.start s.draws) me a.ending chans) p.channels.waits in
      rw same (alike_verdict (draw_after setup.start s.draws) me a.ending chans s.chans (parties s.waits) p.channels.chans k.fit)

  -- the state before anybody is told
  abbrev middle : State
  middle = dealt_state t request own (chans_after right s.chans) (with_draw a.entries s)

  -- who is woken waits in an alt
  stand : WokenStands (woken_in own) (parties s.waits)
  stand = subst (λ (ps : List Party). WokenStands (woken_in own) ps) p.channels.waits (woken_stands draw (party t s.position a) a.ending old.channels.chans old.waits)

  -- what the alt comes to
  comes_to : WaitsOnce s.waits → ComesTo (alt setup t request a s) (told t (offer_of own) (all_readied (pair_in (wake_of own)) middle))
  comes_to once =
      fits_if (fits s.chans a.entries) _ s _ (sym (alike_fits old.channels.chans s.chans a.entries p.channels.chans) ∙ k.fit) (decided_by t request own right (with_draw a.entries s) once stand agree.is)

  middle_alts : AltsFor new middle
  middle_alts = record {
    waits = k.waits ∙ (ap (waits_after own (party t s.position a)) p.channels.waits ∙ waits_parties own t s.position request a s.waits e);
    chans = ap (λ (xs : List Channel). shown_chans xs) k.chans ∙ agree.chans;
  }

  middle_drawn : after ≡ generator_after setup.start middle.draws
  middle_drawn =
      let me = party t s.position a in
      let chans = old.channels.chans in
      let drawn = drawn_by setup.start s.draws draw before after me a.ending chans old.waits p.drawn k.draws in
      let here : nat_lt 1 (length (ready_entries chans old.waits a.entries)) ≡ needs_draw s.chans (parties s.waits) a.entries = ap (λ (ps : List Party). nat_lt 1 (length (ready_entries chans ps a.entries))) p.channels.waits ∙ draws_alike chans s.chans (parties s.waits) a.entries p.channels.chans k.fit in
      drawn.after ∙ ap (λ (b : Bool). generator_after setup.start (cond b (s.draws + 1) s.draws)) here

  -- an alt is offered, and then the thread that is woken and the caller are told
  pub alt_serves : (second third : Schedule) → WaitsOnce s.waits → Tracks (all_readied (pair_in o)) first second → Tracks (told t offer) second third → Serves setup s (alt setup t request a s) Waits third new after
  alt_serves second third once wakes tells =
      let n = told t (offer_of own) (all_readied (pair_in (wake_of own)) middle) in
      let moves = both_move t (offer_of own) (pair_in (wake_of own)) middle in
      let me : Waiter = record { tid = t; request = request; at = s.position } in
      let calls = waits_calls own me a s.waits e once stand in
      let after_waits = waits_by own me s.waits in
      let h = held_stays setup.places first s after_waits (locks_by_calls after_waits s.waits calls) p.threads in
      let start : SchedFor setup.places first middle = record { threads = h.threads; lines = h.lines; words = h.words; opened = h.opened; count = h.count; held = record { held = h.held.held } } in
      let comes = comes_to once in
      let w = subst (λ (x : Option Wake). Tracks (all_readied (pair_in x)) first second) k.wakes wakes in
      let l = subst (λ (x : Offer). Tracks (told t x) second third) k.tells tells in
      record {
        reply_is = sym comes.reply;
        parts = subst (λ (x : State). PartsFor setup third new after x) (sym comes.state) (record {
          threads = l setup.places (all_readied (pair_in (wake_of own)) middle) (w setup.places middle start);
          channels = subst (λ (x : State). AltsFor new x) (sym moves) (record { waits = middle_alts.waits; chans = middle_alts.chans });
          drawn = middle_drawn ∙ ap (λ (x : State). generator_after setup.start x.draws) (sym moves);
        });
        leaves = subst (λ (x : State). Leaves s x) (sym comes.state) (record {
          same = same_by s n _ _ _ _ _ moves;
          calls = ap (λ (x : State). filter is_in_call x.waits) moves ∙ calls;
        });
        entry = refl;
      }
