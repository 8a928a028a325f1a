-- There is memory for a copy of what comes of each begun call, whatever changes; and so the ioprocs stand for what a call makes
-- of the state.
use Rattle.std.proofs.Common.{◌≡◌, ℕ, zero, suc, ◌-◌, Bool, true, false, List, [], ◌∷◌, map, replicate, Option, Some, None, refl, ap, subst, sym, ◌∙◌, rules, tests}
use Rattle.std.specs.Prelude.{◌==◌, ◌||◌, cond, slice_get, nat_lt, IfSome, OnOk, OnErr, Result, Ok, Err}
use Rattle.std.specs.Bool.{OnFalse}
use Rattle.std.specs.List.{list_any}
use Rattle.p9_word.specs.declared.io_call.IoCall.{IoCall}
use Rattle.p9_manual.specs.declared.state.Ioproc.{Ioproc}
use Rattle.p9_manual.specs.declared.state.Ioproc.TheVariants.{Unmade, Idle, Posted, Begun, Closed}
use Rattle.p9_manual.specs.Ends.{Gone, ended_where, let_go}
use Rattle.p9_manual.specs.Ioprocs.{with_ioproc as state_with_ioproc}
use Rattle.p9_manual.specs.State.{State, by_id, changed}
use Rattle.p9_io.specs.Calls.{begun_call, waits_at}
use Rattle.p9_io.specs.Desks.{Desks, begin_desks, with_ioproc, posted, prepared, taken, with_begun, interrupted, without, lent}
use Rattle.p9_io.specs.Stands.{HasCopies, Tracks, state_begun, state_interrupted}

-- where this ioproc has a begun call there is memory for a copy
abbrev IsCopied : Option Ioproc → Option Bool → Type 0
IsCopied o b = IfSome (begun_call o) (λ call. b ≡ Some true)

-- what holds of an old item, and of the new one where it is that, holds where one is changed
of_changed : {A : Type 0} (P : Option A → Type 0) → (xs : List A) (i j : ℕ) (y : A) → (i ≡ j → P (Some y)) → P (slice_get xs j) → P (slice_get (changed (λ _. y) xs i) j)
of_changed P [] i j y new old = old
of_changed P (x ∷ xs) zero zero y new old = new refl
of_changed P (x ∷ xs) zero (suc j) y new old = old
of_changed P (x ∷ xs) (suc i) zero y new old = old
of_changed P (x ∷ xs) (suc i) (suc j) y new old = of_changed P xs i j y (λ e. new (ap suc e)) old

-- the same of a mapped list
of_mapped : {A : Type 0} (P : Option A → Type 0) (f : A → A) → (xs : List A) (j : ℕ) → ((x : A) → P (Some x) → P (Some (f x))) → P (slice_get xs j) → P (slice_get (map f xs) j)
of_mapped P f [] j h old = old
of_mapped P f (x ∷ xs) zero h old = h x old
of_mapped P f (x ∷ xs) (suc j) h old = of_mapped P f xs j h old

-- the ioprocs stand for what f makes of a state
tracks_by : (f : State → State) (old new d : Desks) → new ≡ d → ((s : State) → s.ioprocs ≡ old.ioprocs → (f s).ioprocs ≡ d.ioprocs) → (HasCopies old → HasCopies d) → Tracks f old new
tracks_by f old new d e same copies = λ s h. record {
  ioprocs = same s h.ioprocs ∙ ap (λ (x : Desks). x.ioprocs) (sym e);
  copies = subst HasCopies (sym e) (copies h.copies);
}

-- an ioproc without a begun call
resting : (k : ℕ) (io : Ioproc) (d : Desks) → begun_call (Some io) ≡ None → HasCopies d → HasCopies (with_ioproc k io d)
resting k io d e h = λ i. of_changed (λ o. IsCopied o (slice_get d.prepared i)) d.ioprocs (k - 1) i io (λ same. rw e tt) (h i)

changed_is : (k : ℕ) (io : Ioproc) (s : State) (d : Desks) → s.ioprocs ≡ d.ioprocs → (state_with_ioproc k io s).ioprocs ≡ (with_ioproc k io d).ioprocs
changed_is k io s d e = ap (λ (ios : List Ioproc). changed (λ _. io) ios (k - 1)) e

pub tracks_resting : (k : ℕ) (io : Ioproc) (old new : Desks) → begun_call (Some io) ≡ None → new ≡ with_ioproc k io old → Tracks (state_with_ioproc k io) old new
tracks_resting k io old new none e = tracks_by _ old new _ e (λ s h. changed_is k io s old h) (resting k io old none)

-- none of those that aren't made has a begun call
unmade : (n i : ℕ) (b : Option Bool) → IsCopied (slice_get (replicate n Unmade) i) b
unmade zero i b = tt
unmade (suc n) zero b = tt
unmade (suc n) (suc i) b = unmade n i b

pub copies_begin : (files : ℕ) → HasCopies (begin_desks files)
copies_begin files = λ i. unmade files i _

-- a call is posted
post_pair : (ios : List Ioproc) (bs : List Bool) (i j : ℕ) (io : Ioproc) (b : Bool) → begun_call (Some io) ≡ None → IsCopied (slice_get ios j) (slice_get bs j) → IsCopied (slice_get (changed (λ _. io) ios i) j) (slice_get (changed (λ _. b) bs i) j)
post_pair [] bs i j io b e h = tt
post_pair (x ∷ xs) [] zero zero io b e h = rw e tt
post_pair (x ∷ xs) [] zero (suc j) io b e h = h
post_pair (x ∷ xs) [] (suc i) zero io b e h = h
post_pair (x ∷ xs) [] (suc i) (suc j) io b e h = post_pair xs [] i j io b e h
post_pair (x ∷ xs) (c ∷ bs) zero zero io b e h = rw e tt
post_pair (x ∷ xs) (c ∷ bs) zero (suc j) io b e h = h
post_pair (x ∷ xs) (c ∷ bs) (suc i) zero io b e h = h
post_pair (x ∷ xs) (c ∷ bs) (suc i) (suc j) io b e h = post_pair xs bs i j io b e h

pub tracks_posted : (k t : ℕ) (call : IoCall) (old new : Desks) → new ≡ posted k t call old → Tracks (state_with_ioproc k (Posted t call)) old new
tracks_posted k t call old new e =
    tracks_by _ old new _ e (λ s h. changed_is k (Posted t call) s old h) (λ h i. post_pair old.ioprocs old.prepared (k - 1) i (Posted t call) false refl (h i))

-- more memory is there
if_some : (o : Option IoCall) (b c : Option Bool) → (b ≡ Some true → c ≡ Some true) → IfSome o (λ call. b ≡ Some true) → IfSome o (λ call. c ≡ Some true)
if_some None b c f h = tt
if_some (Some call) b c f h = f h

more : (bs : List Bool) (i j : ℕ) → slice_get bs j ≡ Some true → slice_get (changed (λ _. true) bs i) j ≡ Some true
more bs i j e = of_changed (λ o. o ≡ Some true) bs i j true (λ same. refl) e

tracks_prepared : (k : ℕ) (old new : Desks) → new ≡ prepared k old → Tracks (λ s. s) old new
tracks_prepared k old new e = tracks_by (λ s. s) old new _ e (λ s h. h) (λ h i. if_some (begun_call (slice_get old.ioprocs i)) _ _ (more old.prepared (k - 1) i) (h i))

pub tracks_same : (old new : Desks) → new ≡ old → Tracks (λ s. s) old new
tracks_same old new e = tracks_by (λ s. s) old new old e (λ s h. h) (λ h. h)

pub tracks_preparing : {A B : Type 0} (r : Result A B) (k : ℕ) (old new : Desks) → OnOk r (new ≡ prepared k old) → OnErr r (new ≡ old) → Tracks (λ s. s) old new
tracks_preparing (Ok x) k old new ok err = tracks_prepared k old new ok
tracks_preparing (Err x) k old new ok err = tracks_same old new err

pub tracks_lent : (k : ℕ) (old new : Desks) → new ≡ lent k old → Tracks (λ s. s) old new
tracks_lent k old new e = tracks_by (λ s. s) old new _ e (λ s h. h) (λ h. h)

-- a call begins that there is memory for
took : (k : ℕ) (io : Ioproc) (d : Desks) → slice_get d.prepared (k - 1) ≡ Some true → HasCopies d → (i : ℕ) → IsCopied (slice_get (changed (λ _. io) d.ioprocs (k - 1)) i) (slice_get d.prepared i)
took k io d ready h i = of_changed (λ o. IsCopied o (slice_get d.prepared i)) d.ioprocs (k - 1) i io (λ same. always (begun_call (Some io)) (rw (← same) ready)) (h i)
  where
    always : {P : Type 0} (o : Option IoCall) → P → IfSome o (λ call. P)
    always None p = tt
    always (Some call) p = p

pub tracks_begun : (k : ℕ) (o : Option Ioproc) (old new : Desks) → new ≡ with_begun k o old → slice_get old.prepared (k - 1) ≡ Some true → Tracks (state_begun k o) old new
tracks_begun k (Some (Posted t call)) old new e ready = tracks_by _ old new (taken k t call old) e (λ s h. changed_is k (Begun (Some t) call) s old h) (took k (Begun (Some t) call) old ready)
tracks_begun k (Some (Begun t call)) old new e ready = tracks_same old new e
tracks_begun k (Some Unmade) old new e ready = tracks_same old new e
tracks_begun k (Some Idle) old new e ready = tracks_same old new e
tracks_begun k (Some Closed) old new e ready = tracks_same old new e
tracks_begun k None old new e ready = tracks_same old new e

-- the memory for a copy of what comes of the call that is begun at k
pub copy_at : (d : Desks) (k : ℕ) → HasCopies d → IfSome (begun_call (by_id d.ioprocs k)) (λ call. slice_get d.prepared (k - 1) ≡ Some true)
copy_at d zero h = tt
copy_at d (suc k) h = let above : nat_lt 0 (suc k) ≡ true = search (rules, tests) in rw above (h (suc k - 1))

begun_copy : (k : ℕ) (caller : Option ℕ) (call : IoCall) (d : Desks) → by_id d.ioprocs k ≡ Some (Begun caller call) → HasCopies d → slice_get d.prepared (k - 1) ≡ Some true
begun_copy k caller call d found h = rw found at (copy_at d k h)

-- a thread is interrupted
pub tracks_interrupted : (k : ℕ) (o : Option Ioproc) (old new : Desks) → by_id old.ioprocs k ≡ o → new ≡ interrupted k o old → Tracks (state_interrupted k o) old new
tracks_interrupted k (Some (Posted t call)) old new found e = tracks_resting k Idle old new refl e
tracks_interrupted k (Some (Begun (Some t) call)) old new found e =
    tracks_by _ old new _ e (λ s h. changed_is k (Begun None call) s old h) (λ h. took k (Begun None call) old (begun_copy k (Some t) call old found h) h)
tracks_interrupted k (Some (Begun None call)) old new found e = tracks_same old new e
tracks_interrupted k (Some Unmade) old new found e = tracks_same old new e
tracks_interrupted k (Some Idle) old new found e = tracks_same old new e
tracks_interrupted k (Some Closed) old new found e = tracks_same old new e
tracks_interrupted k None old new found e = tracks_same old new e

-- threads end
idle_if : (b : Bool) (t : ℕ) (call : IoCall) → begun_call (Some (cond b Idle (Posted t call))) ≡ None
idle_if true t call = refl
idle_if false t call = refl

gone_copy : (ends : Gone) (io : Ioproc) (b : Option Bool) → IsCopied (Some io) b → IsCopied (Some (let_go ends io)) b
gone_copy ends Unmade b h = tt
gone_copy ends Idle b h = tt
gone_copy ends Closed b h = tt
gone_copy ends (Posted t call) b h = rw (idle_if (ends t) t call) tt
gone_copy ends (Begun t call) b h = h

pub tracks_without : (ends : Gone) (old new : Desks) → new ≡ without ends old → Tracks (ended_where ends) old new
tracks_without ends old new e =
    tracks_by _ old new _ e (λ s h. ap (map (let_go ends)) h) (λ h i. of_mapped (λ o. IsCopied o (slice_get old.prepared i)) (let_go ends) old.ioprocs i (λ io. gone_copy ends io (slice_get old.prepared i)) (h i))

-- where a thread waits at no ioproc nothing changes as it ends
kept_if : (b : Bool) (t : ℕ) (call : IoCall) → b ≡ false → cond b Idle (Posted t call) ≡ Posted t call
kept_if true t call e = absurd (cc e)
kept_if false t call e = refl

kept : (t : ℕ) (io : Ioproc) → waits_at t io ≡ false → let_go (λ u. u == t) io ≡ io
kept t Unmade h = refl
kept t Idle h = refl
kept t Closed h = refl
kept t (Posted u call) h = kept_if (u == t) u call h
kept t (Begun None call) h = refl
kept t (Begun (Some u) call) h = rw h refl

or_false : (a b : Bool) → (a || b) ≡ false → (a ≡ false) × (b ≡ false)
or_false true b e = absurd (cc e)
or_false false b e = (refl, e)

all_kept : (t : ℕ) → (ios : List Ioproc) → list_any (waits_at t) ios ≡ false → map (let_go (λ u. u == t)) ios ≡ ios
all_kept t [] h = refl
all_kept t (io ∷ ios) h = let both = or_false (waits_at t io) _ h in rw (kept t io both.0, all_kept t ios both.1) refl

on_false : {P : Type 0} (b : Bool) → (b ≡ false → P) → OnFalse b P
on_false true f = tt
on_false false f = f refl

pub none_left : (t : ℕ) (b : Bool) (old new : Desks) → b ≡ list_any (waits_at t) old.ioprocs → new ≡ without (λ u. u == t) old → OnFalse b (new ≡ old)
none_left t b old new w e = on_false b (λ no. e ∙ ap (λ (ios : List Ioproc). record old { ioprocs = ios }) (all_kept t old.ioprocs (sym w ∙ no)))
