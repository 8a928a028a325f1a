-- The pending notes of procs, where a proc is changed or threads come and change.
use Rattle.std.proofs.Common.{◌≡◌, ◌≢◌, inl, inr, ℕ, zero, suc, ◌-◌, ◌≤◌, Bool, true, false, not, ◌&&◌, ◌||◌, eqb, List, [], ◌∷◌, ◌++◌, Some, refl, ap, sym, ◌∙◌, arith}
use Rattle.std.specs.Prelude.{All, slice_get}
use Rattle.std.specs.List.{list_any, AllByRecursion}
use Rattle.std.specs.Option.{is_some}
use Rattle.std.proofs.lemmas.Bool.{cases_eq, eqb-true}
use Rattle.std.proofs.lemmas.List.Elements.{recursion_from_All}
use Rattle.p9_manual.specs.declared.state.Place.{Place}
use Rattle.p9_manual.specs.declared.state.Thread.{Thread}
use Rattle.p9_manual.specs.NoteCalls.{note_in}
use Rattle.p9_manual.specs.Notes.{delivery}
use Rattle.p9_manual.specs.Places.{is_ended, lives_in}
use Rattle.p9_manual.specs.Sound.{AreNotesRead, IsThreadIn}
use Rattle.p9_manual.specs.State.{Proc, by_id, changed, placed, at_place}
use Rattle.p9_laws.proofs.Standing.{by_id-suc, slice_get-changed_other}

-- a note is pending in proc p
abbrev pub is_noted : List Proc → ℕ → Bool
is_noted procs p = is_some (note_in (by_id procs p))

-- notes are pending in the same procs
abbrev pub KeepNotes : List Proc → List Proc → Type 0
KeepNotes before after = (p : ℕ) → is_noted after p ≡ is_noted before p

-- whether a note is pending is no matter of the handlers
pub noted_by_pending : (handlers others : List (ℕ × List ℕ)) (pending : List (List ℕ)) → is_some (delivery handlers pending) ≡ is_some (delivery others pending)
noted_by_pending handlers others [] = refl
noted_by_pending handlers others (note ∷ later) = refl

kept_at : (f : Proc → Proc) → ((x : Proc) → is_some (note_in (Some (f x))) ≡ is_some (note_in (Some x))) → (procs : List Proc) (i j : ℕ) → is_some (note_in (slice_get (changed f procs i) j)) ≡ is_some (note_in (slice_get procs j))
kept_at f same [] i j = refl
kept_at f same (x ∷ xs) zero zero = same x
kept_at f same (x ∷ xs) zero (suc j) = refl
kept_at f same (x ∷ xs) (suc i) zero = refl
kept_at f same (x ∷ xs) (suc i) (suc j) = kept_at f same xs i j

-- a change of a proc that leaves its notes pending
pub changed_notes : (f : Proc → Proc) → ((x : Proc) → is_some (note_in (Some (f x))) ≡ is_some (note_in (Some x))) → (procs : List Proc) (i : ℕ) → KeepNotes procs (changed f procs i)
changed_notes f same procs i zero = refl
changed_notes f same procs i (suc j) = rw (by_id-suc (changed f procs i) j, by_id-suc procs j) (kept_at f same procs i j)

-- an item that isn't the one that was changed, if that is there
by_id-changed_beside : {A : Type 0} (f : A → A) (xs : List A) (i k : ℕ) → k ≢ suc i → by_id (changed f xs i) k ≡ by_id xs k
by_id-changed_beside f xs i zero ne = refl
by_id-changed_beside f xs i (suc j) ne = rw (by_id-suc (changed f xs i) j, by_id-suc xs j) (slice_get-changed_other f xs i j (λ e. ne (ap suc e)))

-- of each proc some thread lives still, where one did
abbrev pub LivesOn : List Thread → List Thread → Type 0
LivesOn before after = (p : ℕ) → list_any (lives_in p) before ≡ true → list_any (lives_in p) after ≡ true

any_step : (a b c d : Bool) → (a ≡ true → c ≡ true) → (b ≡ true → d ≡ true) → (a || b) ≡ true → (c || d) ≡ true
any_step true b c d f g h = rw (f refl) refl
any_step false b true d f g h = refl
any_step false b false d f g h = g h

lives_step : (f : Thread → Thread) → (p : ℕ) → ((x : Thread) → lives_in p x ≡ true → lives_in p (f x) ≡ true) → (threads : List Thread) (i : ℕ) → list_any (lives_in p) threads ≡ true → list_any (lives_in p) (changed f threads i) ≡ true
lives_step f p keeps [] i h = h
lives_step f p keeps (x ∷ xs) zero h = any_step (lives_in p x) (list_any (lives_in p) xs) (lives_in p (f x)) (list_any (lives_in p) xs) (keeps x) (λ e. e) h
lives_step f p keeps (x ∷ xs) (suc i) h = any_step (lives_in p x) (list_any (lives_in p) xs) (lives_in p x) (list_any (lives_in p) (changed f xs i)) (λ e. e) (lives_step f p keeps xs i) h

-- where a thread was changed that lives on in its proc
pub changed_lives : (f : Thread → Thread) → ((x : Thread) (p : ℕ) → lives_in p x ≡ true → lives_in p (f x) ≡ true) → (threads : List Thread) (i : ℕ) → LivesOn threads (changed f threads i)
changed_lives f keeps threads i p h = lives_step f p (λ x. keeps x p) threads i h

-- or put where it lives
pub placed_lives : (t : ℕ) (pl : Place) → is_ended pl ≡ false → (threads : List Thread) → LivesOn threads (placed t pl threads)
placed_lives t pl lives threads = changed_lives (at_place pl) (λ x p. moved (eqb x.proc_no p) (is_ended x.place) (is_ended pl) lives) threads (t - 1)
  where
    moved : (a b c : Bool) → c ≡ false → (a && not b) ≡ true → (a && not c) ≡ true
    moved true b c e h = rw e refl
    moved false b c e h = cc

-- or one more came
pub pushed_lives : (threads : List Thread) (y : Thread) → LivesOn threads (threads ++ y ∷ [])
pushed_lives [] y p h = cc
pushed_lives (x ∷ xs) y p h = any_step (lives_in p x) (list_any (lives_in p) xs) (lives_in p x) (list_any (lives_in p) (xs ++ y ∷ [])) (λ e. e) (pushed_lives xs y p) h

-- where threads live on and no note came
pub read_on : (procs more : List Proc) (before after : List Thread) → KeepNotes procs more → LivesOn before after → AreNotesRead procs before → AreNotesRead more after
read_on procs more before after same lives read p h = lives p (read p (sym (same p) ∙ h))

-- where a proc was changed of which a thread lives
pub alive_read : (f : Proc → Proc) (procs : List Proc) (threads : List Thread) (p : ℕ) → 1 ≤ p → list_any (lives_in p) threads ≡ true → AreNotesRead procs threads → AreNotesRead (changed f procs (p - 1)) threads
alive_read f procs threads p some alive read q h = elim (cases_eq q p) [
  | inl e ↦ rw e alive
  | inr ne ↦ read q (sym (ap (λ o. is_some (note_in o)) (by_id-changed_beside f procs (p - 1) q (λ e. ne (omega (arith, e, some))))) ∙ h)
]

some_step : (n p : ℕ) (a b : Bool) → 1 ≤ n → (b ≡ true → 1 ≤ p) → ((eqb n p && a) || b) ≡ true → 1 ≤ p
some_step n p a b from rest h = by_first (eqb n p) refl h
  where
    by_first : (c : Bool) → eqb n p ≡ c → ((c && a) || b) ≡ true → 1 ≤ p
    by_first true e k = let same = eqb-true n p e in omega (arith, same, from)
    by_first false e k = rest k

every_from_one : (opened programs p : ℕ) → (threads : List Thread) → AllByRecursion (IsThreadIn opened programs) threads → list_any (lives_in p) threads ≡ true → 1 ≤ p
every_from_one opened programs p [] m h = cc
every_from_one opened programs p (x ∷ xs) m h =
    some_step x.proc_no p (not (is_ended x.place)) (list_any (lives_in p) xs) m.0.proc_no.from (every_from_one opened programs p xs m.1) h

-- threads live in procs from 1 on
pub lives_from_one : (opened programs p : ℕ) (threads : List Thread) → All (IsThreadIn opened programs) threads → list_any (lives_in p) threads ≡ true → 1 ≤ p
lives_from_one opened programs p threads members h = every_from_one opened programs p threads (recursion_from_All (IsThreadIn opened programs) threads members) h
