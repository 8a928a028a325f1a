-- Requests on threads and channels: whom they wake, and which answers their caller has.
use Rattle.std.proofs.Common.{◌≡◌, ℕ, suc, ◌+◌, ◌-◌, Bool, true, false, cond, ltb, eqb, List, [], ◌∷◌, ◌++◌, length, map, Option, Some, None, refl, rules, tests}
use Rattle.std.specs.Prelude.{All, nat_le, slice_get}
use Rattle.std.specs.List.{filter}
use Rattle.std.proofs.lemmas.List.Elements.{All-cons, All-head, All-nil, All-tail, All-weaker}
use Rattle.p9_word.specs.declared.limits.TheConstants.{MOST_CHANNELS}
use Rattle.p9_word.specs.declared.answer.Answer.{Answer}
use Rattle.p9_word.specs.declared.answer.Answer.TheVariants.{Done, Closed, NoBlock, Number}
use Rattle.p9_word.specs.declared.request.ChanReq.{ChanReq}
use Rattle.p9_word.specs.declared.request.ChanReq.TheVariants as ask
use Rattle.p9_word.specs.declared.request.Request.{Request}
use Rattle.p9_word.specs.declared.request.Request.TheVariants.{Chan as ChanRequest}
use Rattle.p9_word.specs.declared.setup.Setup.{Setup}
use Rattle.p9_manual.specs.declared.state.Channel.{Channel}
use Rattle.p9_manual.specs.declared.state.Party.{Party}
use Rattle.p9_manual.specs.declared.state.Place.TheVariants.{Running, Waiting}
use Rattle.p9_word.specs.declared.alt.Ending.{Ending}
use Rattle.p9_word.specs.declared.alt.Ending.TheVariants.{End, NoBlk}
use Rattle.p9_manual.specs.Alt.{Verdict, AllClosed, Commits, NoneReady, MustWait, alt, chosen, decided, is_closed_list, unready, verdict_of, verdict_on, with_draw, with_woken}
use Rattle.p9_manual.specs.AltEntries.{first_number, is_on, waits_on}
use Rattle.p9_manual.specs.Chans.{by_alternation, chan_call, create_channel, is_no_size, on_channel}
use Rattle.p9_manual.specs.Close.{all_woken, close, close_channel, closed_chan, closing, failed_on, free}
use Rattle.p9_manual.specs.Commit.{Deal}
use Rattle.p9_manual.specs.Create.{fresh}
use Rattle.p9_manual.specs.Draws.{draw_after}
use Rattle.p9_manual.specs.Offers.{Alternation, alternation, parties, party}
use Rattle.p9_manual.specs.ReadyEntries.{fits, ready_entries, unfreed}
use Rattle.p9_manual.specs.Standing.{place_of}
use Rattle.p9_manual.specs.State.{State, Outcome, by_id, changed, wake}
use Rattle.p9_manual.specs.Told.{failed_answer}
use Rattle.p9_laws.proofs.Asked.{Does, Answers, ChangesCaller, ChangesAside, MakesThread, MakesProc, GivesWay, Ends, EndsAll}
use Rattle.p9_laws.proofs.Received.Places.{place_left}
use Rattle.p9_laws.proofs.Given.Causes.{Closes, Meets, ToldByAlt, WokenByChan, passes, tells_thread, verdict_tells}
use Rattle.p9_laws.proofs.Given.Deals.{PartiesRest, WakesRightly, commit_rightly, parties_rest}
use Rattle.p9_laws.proofs.Given.Goes.{Rests, Stays, Woken, goes_at, woken_wake}
use Rattle.p9_laws.proofs.Given.Replies.{Replies, end_goes, go_replies, if_replies, push_goes, ready_replies, same_replies, wait_replies}

above_zero : (n : ℕ) → ltb 0 (n + 1) ≡ true
above_zero n = search (rules, tests)

-- a request on threads
pub thread_replies : (P : ℕ → Answer → Type 0) (setup : Setup) (t : ℕ) (s : State) (o : Outcome) → place_of s.threads t ≡ Running → Does setup t s o → Replies P (λ a. tells_thread a ≡ true) t s.threads o.state.threads
thread_replies P setup t s _ runs (Answers a) = same_replies P _ t s.threads runs
thread_replies P setup t s _ runs (ChangesCaller f caller a at leaves grants) =
    go_replies P _ t s.threads (changed f s.threads (t - 1)) runs
    (λ u. goes_at (P u) (place_of s.threads u) (place_of s.threads u) (place_of (changed f s.threads (t - 1)) u) (place_left f leaves.place s.threads (t - 1) u) (Stays (place_of s.threads u)))
thread_replies P setup t s _ runs (ChangesAside procs a grants quiet) = same_replies P _ t s.threads runs
thread_replies P setup t s _ runs (MakesThread program arg caller at own) =
    go_replies P _ t s.threads (s.threads ++ fresh caller.proc_no program arg caller.group ∷ []) runs (push_goes P (fresh caller.proc_no program arg caller.group) s.threads refl)
thread_replies P setup t s _ runs (MakesProc program arg caller at own room) =
    ready_replies P _ t (Number (length s.threads + 1)) s.threads (s.threads ++ fresh (s.opened + 1) program arg caller.group ∷ []) runs (above_zero (length s.threads))
    (push_goes P (fresh (s.opened + 1) program arg caller.group) s.threads refl)
thread_replies P setup t s _ runs GivesWay = ready_replies P _ t Done s.threads s.threads runs refl (λ u. Stays (place_of s.threads u))
thread_replies P setup t s _ runs Ends = go_replies P _ t s.threads _ runs (end_goes P (λ u. eqb u t) s.threads)
thread_replies P setup t s _ runs EndsAll = go_replies P _ t s.threads _ runs (end_goes P (λ u. true) s.threads)

module _ (P : ℕ → Answer → Type 0) (Q : Answer → Type 0) (t : ℕ) (s : State) (runs : place_of s.threads t ≡ Running) where
  same : Replies P Q t s.threads s.threads
  same = same_replies P Q t s.threads runs

  either : (b : Bool) (o p : Outcome) → Replies P Q t s.threads o.state.threads → Replies P Q t s.threads p.state.threads → Replies P Q t s.threads (cond b o p).state.threads
  either b o p f g = if_replies P Q t s.threads b o p (λ _. f) (λ _. g)

  free_replies : (c : ℕ) (o : Option Channel) → Replies P Q t s.threads (free c s o).state.threads
  free_replies c None = same
  free_replies c (Some chan) = same

  closing_replies : (o : Option Channel) → Replies P Q t s.threads (closing s o).state.threads
  closing_replies None = same
  closing_replies (Some chan) = either chan.closed _ _ same same

  create_replies : (cap elsize : ℕ) → Replies P Q t s.threads (create_channel cap elsize s).state.threads
  create_replies cap elsize = either (is_no_size cap elsize) _ _ same (either (nat_le MOST_CHANNELS (length s.chans)) _ _ same same)

  -- who is woken, where an entry went on
  with_woken_go : ((u : ℕ) (a : Answer) → passes a ≡ true → P u a) → (o : Option (ℕ × Answer)) (n : State) → WakesRightly s.threads o → Woken P s n → Woken P s (with_woken o n)
  with_woken_go holds None n right w = w
  with_woken_go holds (Some x) n right w = woken_wake P s n x.0 x.1 (right x refl).0 (holds x.0 x.1 (right x refl).1) w

  -- a verdict wakes rightly
  abbrev IsVerdictRight : Verdict → Type 0
  IsVerdictRight v = (d : Deal) → v ≡ Commits d → WakesRightly s.threads d.woken

  commits_right : (d : Deal) → WakesRightly s.threads d.woken → IsVerdictRight (Commits d)
  commits_right d right e same_deal = let same_d : d.woken ≡ e.woken = cc in rw (← same_d) right

  unready_right : (ending : Ending) → IsVerdictRight (unready ending)
  unready_right NoBlk d e = cc
  unready_right End d e = cc

  verdict_on_right : (draw : ℕ) (me : Party) (ending : Ending) (chans : List Channel) (waits : List Party) (ready : List ℕ) → PartiesRest s.threads waits → IsVerdictRight (verdict_on draw me ending chans waits ready)
  verdict_on_right draw me ending chans waits [] rest = unready_right ending
  verdict_on_right draw me ending chans waits (i ∷ []) rest = commits_right _ (commit_rightly s.threads waits rest me i chans)
  verdict_on_right draw me ending chans waits (i ∷ j ∷ more) rest = commits_right _ (commit_rightly s.threads waits rest me (chosen draw (i ∷ j ∷ more)) chans)

  if_right : (b : Bool) (v : Verdict) → IsVerdictRight v → IsVerdictRight (cond b AllClosed v)
  if_right true v h d e = cc
  if_right false v h d e = h d e

  decided_replies : (request : Request) (entries : Alternation) (v : Verdict) → ((u : ℕ) (a : Answer) → passes a ≡ true → P u a) → ((a : Answer) → verdict_tells v ≡ Some a → Q a) → Rests s.threads s.waits → IsVerdictRight v → Replies P Q t s.threads (decided t request (with_draw entries.entries s) v).state.threads
  decided_replies request entries AllClosed woken own rests right = ready_replies P Q t Closed s.threads s.threads runs (own Closed refl) (λ u. Stays (place_of s.threads u))
  decided_replies request entries (Commits d) woken own rests right =
      let n : State = record (with_draw entries.entries s) { chans = d.chans } in
      ready_replies P Q t d.answer s.threads (with_woken d.woken n).threads runs (own d.answer refl)
      (with_woken_go woken d.woken n (right d refl) (record { each = λ u. Stays (place_of s.threads u); rests = rests })).each
  decided_replies request entries NoneReady woken own rests right = ready_replies P Q t NoBlock s.threads s.threads runs (own NoBlock refl) (λ u. Stays (place_of s.threads u))
  decided_replies request entries MustWait woken own rests right = wait_replies P Q t s.threads s.threads runs (λ u. Stays (place_of s.threads u))

  verdict_right : (setup : Setup) (a : Alternation) → Rests s.threads s.waits → IsVerdictRight (verdict_of setup t a s)
  verdict_right setup a rests =
      if_right (is_closed_list a.entries) _
      (verdict_on_right (draw_after setup.start s.draws) (party t s.position a) a.ending s.chans (parties s.waits) (ready_entries s.chans (parties s.waits) a.entries) (parties_rest s.threads s.waits rests))

  alt_replies : (setup : Setup) (request : Request) (a : Alternation) → ((u : ℕ) (x : Answer) → passes x ≡ true → P u x) → (fits s.chans a.entries ≡ true → (x : Answer) → verdict_tells (verdict_of setup t a s) ≡ Some x → Q x) → Rests s.threads s.waits → Replies P Q t s.threads (alt setup t request a s).state.threads
  alt_replies setup request a woken own rests =
      if_replies P Q t s.threads (fits s.chans a.entries) _ _
      (λ e. decided_replies request a (verdict_of setup t a s) woken (own e) rests (verdict_right setup a rests))
      (λ _. same)

  -- a thread that waits on a closed channel is woken
  abbrev IsFailing : ℕ → Party → Type 0
  IsFailing c w = (place_of s.threads w.tid ≡ Waiting) × P w.tid (failed_answer w.single (first_number (is_on c) w.entries))

  all_woken_go : (c : ℕ) → (ps : List Party) (n : State) → All (IsFailing c) ps → Woken P s n → Woken P s (all_woken (map (failed_on c) ps) n)
  all_woken_go c [] n all w = w
  all_woken_go c (p ∷ ps) n all w =
      let h = All-head (IsFailing c) p ps all in
      let a = failed_answer p.single (first_number (is_on c) p.entries) in
      all_woken_go c ps (wake p.tid a n) (All-tail (IsFailing c) p ps all) (woken_wake P s n p.tid a h.0 h.1 w)

filtered_step : {A : Type 0} (Q : A → Type 0) (b : Bool) (x : A) (xs : List A) → (b ≡ true → Q x) → All Q xs → All Q (cond b (x ∷ xs) xs)
filtered_step Q true x xs h all = All-cons Q x xs (h refl) all
filtered_step Q false x xs h all = all

-- what holds of those that pass holds of each that is kept
filtered : {A : Type 0} (P Q : A → Type 0) (q : A → Bool) → ((x : A) → P x → q x ≡ true → Q x) → (xs : List A) → All P xs → All Q (filter q xs)
filtered P Q q h [] all = All-nil Q
filtered P Q q h (x ∷ xs) all = filtered_step Q (q x) x (filter q xs) (h x (All-head P x xs all)) (filtered P Q q h xs (All-tail P x xs all))

-- the item is there
abbrev IsThere : List Party → Party → Type 0
IsThere ps w = (i : ℕ) × (slice_get ps i ≡ Some w)

all_there : (ps : List Party) → All (IsThere ps) ps
all_there [] = All-nil (IsThere [])
all_there (p ∷ ps) = All-cons (IsThere (p ∷ ps)) p ps (0, refl) (All-weaker (IsThere ps) (IsThere (p ∷ ps)) (λ w h. (suc h.0, h.1)) ps (all_there ps))

both_all : {A : Type 0} (P Q : A → Type 0) → (xs : List A) → All P xs → All Q xs → All (λ x. P x × Q x) xs
both_all P Q xs p q k d lt = (p k d lt, q k d lt)

-- a request on channels
module _ (setup : Setup) (t : ℕ) (s : State) (runs : place_of s.threads t ≡ Running) (rests : Rests s.threads s.waits) where
  close_channel_replies : (c : ℕ) (chan : Channel) (Q : Answer → Type 0) → unfreed (by_id s.chans c) ≡ Some chan → chan.closed ≡ false → Replies (WokenByChan s (ask.ChanClose c)) Q t s.threads (close_channel c s).state.threads
  close_channel_replies c chan Q at opened =
      let P : ℕ → Answer → Type 0 = WokenByChan s (ask.ChanClose c) in
      let after : State = record s { chans = changed closed_chan s.chans (c - 1) } in
      let all = both_all (λ w. place_of s.threads w.tid ≡ Waiting) (IsThere (parties s.waits)) (parties s.waits) (parties_rest s.threads s.waits rests) (all_there (parties s.waits)) in
      let failing = filtered (λ w. (place_of s.threads w.tid ≡ Waiting) × IsThere (parties s.waits) w) (IsFailing P Q t s runs c) (waits_on c)
      (λ w h on. (h.0, Closes c refl (record { chan = chan; index = h.1.0; party = w; is_chan = at; open_chan = opened; waits_there = h.1.1; waits_on_it = on; is_thread = refl; answer = refl })))
      (parties s.waits) all in
      go_replies P Q t s.threads _ runs
      (all_woken_go P Q t s runs c (filter (waits_on c) (parties s.waits)) after failing (record { each = λ u. Stays (place_of s.threads u); rests = rests })).each

  close_replies : (c : ℕ) (Q : Answer → Type 0) (o : Option Channel) → unfreed (by_id s.chans c) ≡ o → Replies (WokenByChan s (ask.ChanClose c)) Q t s.threads (close c s o).state.threads
  close_replies c Q None e = same (WokenByChan s (ask.ChanClose c)) Q t s runs
  close_replies c Q (Some chan) e =
      if_replies (WokenByChan s (ask.ChanClose c)) Q t s.threads chan.closed _ _ (λ _. same (WokenByChan s (ask.ChanClose c)) Q t s runs) (λ opened. close_channel_replies c chan Q e opened)

  on_channel_replies : (r : ChanReq) (Q : Answer → Type 0) → Replies (WokenByChan s r) Q t s.threads (on_channel r s).state.threads
  on_channel_replies (ask.ChanCreate cap elsize) Q = create_replies _ Q t s runs cap elsize
  on_channel_replies (ask.ChanFree c) Q = free_replies _ Q t s runs c (unfreed (by_id s.chans c))
  on_channel_replies (ask.ChanClose c) Q = close_replies c Q (unfreed (by_id s.chans c)) refl
  on_channel_replies (ask.ChanClosing c) Q = closing_replies _ Q t s runs (unfreed (by_id s.chans c))
  on_channel_replies r Q = same _ Q t s runs

  by_alternation_replies : (r : ChanReq) (o : Option Alternation) → alternation r ≡ o → Replies (WokenByChan s r) (ToldByAlt setup s t r) t s.threads (by_alternation setup t r s o).state.threads
  by_alternation_replies r None e = on_channel_replies r (ToldByAlt setup s t r)
  by_alternation_replies r (Some a) e =
      alt_replies (WokenByChan s r) (ToldByAlt setup s t r) t s runs setup (ChanRequest r) a (λ u x h. Meets a e h)
      (λ fit x tells. record { alt = a; is_alt = e; fits_it = fit; tells = tells }) rests

  pub chan_replies : (r : ChanReq) → Replies (WokenByChan s r) (ToldByAlt setup s t r) t s.threads (chan_call setup t r s).state.threads
  unfolding chan_call
  chan_replies r = by_alternation_replies r (alternation r) refl
