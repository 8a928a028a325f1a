-- What a change of one RWLock's writer or readers does to what is seen of all RWLocks.
use Rattle.std.proofs.Common.{◌≡◌, ◌≢◌, ℕ, zero, suc, ◌+◌, ◌-◌, ◌≤◌, ◌==◌, ◌&&◌, ◌||◌, inl, inr, Bool, true, false, not, cond, List, [], ◌∷◌, ◌++◌, map, replicate, Option, Some, None, IsSome, refl, sym, ap, ◌∙◌, arith, rules}
use Rattle.std.proofs.lemmas.Bool.{cases_Bool, eq-eqb, eqb-true, ne_eqb, and_parts}
use Rattle.std.specs.Prelude.{slice_get}
use Rattle.std.specs.List.{list_any}
use Rattle.std.specs.Option.{option_map}
use Rattle.p9_manual.specs.Holds.{RwHold}
use Rattle.p9_manual.specs.Claims.{rw_hold, is_empty, holder_in}
use Rattle.p9_manual.specs.Queues.{without_first}
use Rattle.p9_manual.specs.State.{by_id, changed}
use Rattle.p9_lock.specs.Waiting.{held_so}
use Rattle.p9_lock.proofs.Places.{above_zero, by_id_get, is_above}
use Rattle.p9_lock.specs.declared.readers.Reader.{Reader}
use Rattle.p9_lock.specs.Kept.{readers_at, rw_holds, reads}

-- the RWLock at place n, counted from number i
pub rw_get : (i n k : ℕ) (ws : List (Option ℕ)) (rs : List Reader) → k ≡ i + n → slice_get (rw_holds i ws rs) n ≡ option_map (λ w. record { writer = w; readers = readers_at k rs }) (slice_get ws n)
rw_get i n k [] rs e = refl
rw_get i zero k (w ∷ ws) rs e = let same : k ≡ i = omega arith in rw same refl
rw_get i (suc n) k (w ∷ ws) rs e = rw_get (i + 1) n k ws rs (omega arith)

rw_above : (i : ℕ) (ws : List (Option ℕ)) (rs rs' : List Reader) → ((j : ℕ) → i ≤ j → readers_at j rs' ≡ readers_at j rs) → rw_holds i ws rs' ≡ rw_holds i ws rs
rw_above i [] rs rs' same = refl
rw_above i (w ∷ ws) rs rs' same =
    rw (same i (omega arith), rw_above (i + 1) ws rs rs' (λ j le. same j (omega arith))) refl

-- another writer and other readers of RWLock k alone
pub rw_put : (i n k : ℕ) (w : Option ℕ) (ws : List (Option ℕ)) (rs rs' : List Reader) → k ≡ i + n → ((j : ℕ) → j ≢ k → readers_at j rs' ≡ readers_at j rs) → rw_holds i (changed (λ _. w) ws n) rs' ≡ changed (λ _. record { writer = w; readers = readers_at k rs' }) (rw_holds i ws rs) n
rw_put i n k w [] rs rs' e same = refl
rw_put i zero k w (v ∷ ws) rs rs' e same =
    let is : k ≡ i = omega arith in
    rw (is, rw_above (i + 1) ws rs rs' (λ j le. same j (omega arith))) refl
rw_put i (suc n) k w (v ∷ ws) rs rs' e same =
    rw (same i (omega arith), rw_put (i + 1) n k w ws rs rs' (omega arith) same) refl

-- other readers of RWLock k alone
pub rw_readers : (i n k : ℕ) (ws : List (Option ℕ)) (rs rs' : List Reader) → k ≡ i + n → ((j : ℕ) → j ≢ k → readers_at j rs' ≡ readers_at j rs) → rw_holds i ws rs' ≡ changed (λ _. record { writer = (rw_hold (slice_get (rw_holds i ws rs) n)).writer; readers = readers_at k rs' }) (rw_holds i ws rs) n
rw_readers i n k [] rs rs' e same = refl
rw_readers i zero k (v ∷ ws) rs rs' e same =
    let is : k ≡ i = omega arith in
    rw (is, rw_above (i + 1) ws rs rs' (λ j le. same j (omega arith))) refl
rw_readers i (suc n) k (v ∷ ws) rs rs' e same =
    rw (same i (omega arith), rw_readers (i + 1) n k ws rs rs' (omega arith) same) refl

-- nobody holds them
pub rw_none : (i n : ℕ) → rw_holds i (replicate n None) [] ≡ replicate n (record { writer = None; readers = [] })
rw_none i zero = refl
rw_none i (suc n) = ap (λ hs. record { writer = None; readers = [] } ∷ hs) (rw_none (i + 1) n)

-- one more reader
pub readers_more : (k t : ℕ) (rs : List Reader) → readers_at k (rs ++ record { lock = k; tid = t } ∷ []) ≡ readers_at k rs ++ t ∷ []
readers_more k t [] = rw (eq-eqb k k refl) refl
readers_more k t (r ∷ rs) = more_by (r.lock == k) r _ _ t (readers_more k t rs)
  where
    more_by : (b : Bool) (r : Reader) (xs ys : List Reader) (t : ℕ) → map (λ r. r.tid) xs ≡ map (λ r. r.tid) ys ++ t ∷ [] → map (λ r. r.tid) (cond b (r ∷ xs) xs) ≡ map (λ r. r.tid) (cond b (r ∷ ys) ys) ++ t ∷ []
    more_by true r xs ys t e = ap (λ (zs : List ℕ). r.tid ∷ zs) e
    more_by false r xs ys t e = e

both_by : (b : Bool) (r : Reader) (xs ys : List Reader) → map (λ r. r.tid) xs ≡ map (λ r. r.tid) ys → map (λ r. r.tid) (cond b (r ∷ xs) xs) ≡ map (λ r. r.tid) (cond b (r ∷ ys) ys)
both_by true r xs ys e = ap (λ (zs : List ℕ). r.tid ∷ zs) e
both_by false r xs ys e = e

pub readers_others : (j k t : ℕ) (rs : List Reader) → j ≢ k → readers_at j (rs ++ record { lock = k; tid = t } ∷ []) ≡ readers_at j rs
readers_others j k t [] ne = rw (ne_eqb k j (λ e. ne (sym e))) refl
readers_others j k t (r ∷ rs) ne = both_by (r.lock == j) r _ _ (readers_others j k t rs ne)

-- one hold of a reader less
pub readers_less : (k t : ℕ) (rs : List Reader) → readers_at k (without_first (reads t k) rs) ≡ without_first (λ r. r == t) (readers_at k rs)
readers_less k t [] = refl
readers_less k t (r ∷ rs) =
    elim (cases_Bool (r.lock == k)) [
      | inl here ↦ elim (cases_Bool (r.tid == t)) [
        | inl it ↦ rw (here, it) refl
        | inr off ↦ rw (here, off, here) (ap (λ (zs : List ℕ). r.tid ∷ zs) (readers_less k t rs))
      ]
      | inr off ↦ rw (off, off) (readers_less k t rs)
    ]

pub readers_kept : (j k t : ℕ) (rs : List Reader) → j ≢ k → readers_at j (without_first (reads t k) rs) ≡ readers_at j rs
readers_kept j k t [] ne = refl
readers_kept j k t (r ∷ rs) ne =
    elim (cases_Bool ((r.lock == k) && (r.tid == t))) [
      | inl here ↦ let parts = and_parts (r.lock == k) (r.tid == t) here in let is : r.lock ≡ k = eqb-true r.lock k parts.0 in rw (here, ne_eqb r.lock j (λ e. ne (sym e ∙ is))) refl
      | inr off ↦ rw off (both_by (r.lock == j) r _ _ (readers_kept j k t rs ne))
    ]

-- whether there are readers, and whether this thread is one
pub any_reads : (k : ℕ) (rs : List Reader) → list_any (λ r. r.lock == k) rs ≡ not (is_empty (readers_at k rs))
any_reads k [] = refl
any_reads k (r ∷ rs) = elim (cases_Bool (r.lock == k)) [ inl here ↦ rw here refl | inr off ↦ rw off (any_reads k rs) ]

pub any_reads_by : (k t : ℕ) (rs : List Reader) → list_any (reads t k) rs ≡ list_any (λ r. r == t) (readers_at k rs)
any_reads_by k t [] = refl
any_reads_by k t (r ∷ rs) =
    elim (cases_Bool (r.lock == k)) [ inl here ↦ rw here (ap (λ (b : Bool). (r.tid == t) || b) (any_reads_by k t rs)) | inr off ↦ rw off (any_reads_by k t rs) ]

-- RWLock k, by its writer and its readers
seen : (k : ℕ) (ws : List (Option ℕ)) (rs : List Reader) → by_id (rw_holds 1 ws rs) k ≡ option_map (λ w. record { writer = w; readers = readers_at k rs }) (by_id ws k)
seen zero ws rs = refl
seen (suc k) ws rs = rw (above_zero k) (rw_get 1 (suc k - 1) (suc k) ws rs (omega arith))

writer_in : (o : Option (Option ℕ)) (rs : List ℕ) → (rw_hold (option_map (λ w. record { writer = w; readers = rs }) o)).writer ≡ holder_in o
writer_in None rs = refl
writer_in (Some w) rs = refl

readers_in_hold : (o : Option (Option ℕ)) (rs : List ℕ) → IsSome (option_map {U = RwHold} (λ w. record { writer = w; readers = rs }) o) → (rw_hold (option_map (λ w. record { writer = w; readers = rs }) o)).readers ≡ rs
readers_in_hold None rs h = absurd (cc h)
readers_in_hold (Some w) rs h = refl

there_in : (o : Option (Option ℕ)) (rs : List ℕ) → IsSome (option_map {U = RwHold} (λ w. record { writer = w; readers = rs }) o) → IsSome o
there_in None rs h = absurd (cc h)
there_in (Some w) rs h = search rules

there_out : (o : Option (Option ℕ)) (rs : List ℕ) → IsSome o → IsSome (option_map {U = RwHold} (λ w. record { writer = w; readers = rs }) o)
there_out None rs h = absurd (cc h)
there_out (Some w) rs h = search rules

-- it is seen where it is
pub there_seen : (k : ℕ) (ws : List (Option ℕ)) (rs : List Reader) (xs : List RwHold) → rw_holds 1 ws rs ≡ xs → IsSome (by_id ws k) → IsSome (by_id xs k)
there_seen k ws rs xs is there = rw (← is, seen k ws rs) (there_out (by_id ws k) (readers_at k rs) there)

pub seen_writer : (k : ℕ) (ws : List (Option ℕ)) (rs : List Reader) (xs : List RwHold) → rw_holds 1 ws rs ≡ xs → (rw_hold (by_id xs k)).writer ≡ holder_in (by_id ws k)
seen_writer k ws rs xs is = rw (← is, seen k ws rs) (writer_in (by_id ws k) (readers_at k rs))

pub seen_readers : (k : ℕ) (ws : List (Option ℕ)) (rs : List Reader) (xs : List RwHold) → rw_holds 1 ws rs ≡ xs → IsSome (by_id xs k) → (rw_hold (by_id xs k)).readers ≡ readers_at k rs
seen_readers k ws rs xs is there =
    rw (← is, seen k ws rs) (readers_in_hold (by_id ws k) (readers_at k rs) (rw (← is, seen k ws rs) at there))

pub seen_there : (k : ℕ) (ws : List (Option ℕ)) (rs : List Reader) (xs : List RwHold) → rw_holds 1 ws rs ≡ xs → IsSome (by_id xs k) → IsSome (by_id ws k)
seen_there k ws rs xs is there = there_in (by_id ws k) (readers_at k rs) (rw (← is, seen k ws rs) at there)

-- it gets another writer
pub put_writer : (k : ℕ) (w : Option ℕ) (ws : List (Option ℕ)) (rs : List Reader) (xs : List RwHold) → rw_holds 1 ws rs ≡ xs → IsSome (by_id xs k) → rw_holds 1 (changed (λ _. w) ws (k - 1)) rs ≡ held_so k (record { writer = w; readers = (rw_hold (by_id xs k)).readers }) xs
put_writer k w ws rs xs is there =
    let above = is_above xs k there in
    rw (seen_readers k ws rs xs is there, ← is) (rw_put 1 (k - 1) k w ws rs rs (omega arith) (λ j ne. refl))

-- or other readers
pub put_readers : (k : ℕ) (ws : List (Option ℕ)) (rs rs' : List Reader) (xs : List RwHold) → rw_holds 1 ws rs ≡ xs → IsSome (by_id xs k) → ((j : ℕ) → j ≢ k → readers_at j rs' ≡ readers_at j rs) → rw_holds 1 ws rs' ≡ held_so k (record { writer = (rw_hold (by_id xs k)).writer; readers = readers_at k rs' }) xs
put_readers k ws rs rs' xs is there same =
    let above = is_above xs k there in
    rw (by_id_get xs k above, ← is) (rw_readers 1 (k - 1) k ws rs rs' (omega arith) same)
