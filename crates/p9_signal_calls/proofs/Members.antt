-- The living threads of a group above an id, one after another, and that interrupts and kills leave who is one.
use Rattle.std.proofs.Common.{◌≡◌, ℕ, zero, suc, ◌+◌, ◌-◌, ◌<◌, Bool, true, false, List, [], ◌∷◌, map, drop, Some, refl, ap, sym, ◌∙◌, arith}
use Rattle.std.specs.Prelude.{slice_get}
use Rattle.p9_word.specs.declared.answer.Answer.TheVariants.{Interrupted}
use Rattle.p9_manual.specs.declared.state.Place.TheVariants.{Ready, Waiting}
use Rattle.p9_manual.specs.declared.state.Thread.{Thread}
use Rattle.p9_manual.specs.Interrupt.{doomed, ids_where, is_in_group, marked}
use Rattle.p9_manual.specs.Standing.{place_of}
use Rattle.p9_manual.specs.State.{State, at_place, by_id, changed, wake}
use Rattle.p9_sched.specs.Members.{NextMember, NoMember, is_member}
use Rattle.p9_signal_calls.proofs.Lists.{by_id_suc}
use Rattle.p9_signal_calls.proofs.Marked.{doomed_place, doomed_stays}

-- the living threads of a group above thread t, by rising id
abbrev pub above : ℕ → ℕ → List Thread → List ℕ
above group t threads = ids_where (is_in_group group) (suc t) (drop t threads)

get_drop : (t : ℕ) (xs : List Thread) (i k : ℕ) → k ≡ t + i → slice_get (drop t xs) i ≡ slice_get xs k
get_drop zero xs i k e = let same : k ≡ i = omega arith in rw same refl
get_drop (suc t) [] i k e = refl
get_drop (suc t) (x ∷ xs) i zero e = absurd (omega arith)
get_drop (suc t) (x ∷ xs) i (suc k) e = get_drop t xs i k (omega arith)

drop_none : (k : ℕ) → [] ≡ drop {A = Thread} k []
drop_none zero = refl
drop_none (suc k) = refl

drop_drop : (t : ℕ) (xs : List Thread) (i k : ℕ) → k ≡ t + i → drop i (drop t xs) ≡ drop k xs
drop_drop zero xs i k e = let same : k ≡ i = omega arith in rw same refl
drop_drop (suc t) [] zero k e = drop_none k
drop_drop (suc t) [] (suc i) k e = drop_none k
drop_drop (suc t) (x ∷ xs) i zero e = absurd (omega arith)
drop_drop (suc t) (x ∷ xs) i (suc k) e = drop_drop t xs i k (omega arith)

-- none is a member
none_where : (group : ℕ) → (xs : List Thread) (n : ℕ) → ((i : ℕ) → is_member group (slice_get xs i) ≡ false) → ids_where (is_in_group group) n xs ≡ []
none_where group [] n h = refl
none_where group (x ∷ xs) n h = let first : is_in_group group x ≡ false = h zero in rw first (none_where group xs (suc n) (λ i. h (suc i)))

-- the first member, and those behind it
first_where : (group : ℕ) → (xs : List Thread) (n j m : ℕ) → m ≡ n + j → ((i : ℕ) → i < j → is_member group (slice_get xs i) ≡ false) → is_member group (slice_get xs j) ≡ true → ids_where (is_in_group group) n xs ≡ m ∷ ids_where (is_in_group group) (suc m) (drop (suc j) xs)
first_where group [] n j m e h k = absurd (cc k)
first_where group (x ∷ xs) n zero m e h k = let same : m ≡ n = omega arith in let first : is_in_group group x ≡ true = k in rw (same, first) refl
first_where group (x ∷ xs) n (suc j) m e h k =
    let first : is_in_group group x ≡ false = h zero (omega arith) in
    rw first (first_where group xs (suc n) j m (omega arith) (λ i lt. h (suc i) (omega arith)) k)

-- no member is above t
pub none_above : (group t : ℕ) (threads : List Thread) → NoMember group t threads → above group t threads ≡ []
none_above group t threads nobody = none_where group (drop t threads) (suc t) (λ i.
    let there : slice_get (drop t threads) i ≡ slice_get threads (t + i) = get_drop t threads i (t + i) refl in
    let here : by_id threads (suc (t + i)) ≡ slice_get threads (t + i) = by_id_suc threads (t + i) in
    ap (is_member group) (there ∙ sym here) ∙ nobody.none (suc (t + i)) (omega arith))

next_at : (group t u j : ℕ) (threads : List Thread) → u ≡ suc (t + j) → NextMember group t threads u → above group t threads ≡ u ∷ above group u threads
next_at group t u j threads e next =
    let at : (i : ℕ) → is_member group (slice_get (drop t threads) i) ≡ is_member group (by_id threads (suc (t + i))) =
    λ i. ap (is_member group) (get_drop t threads i (t + i) refl ∙ sym (by_id_suc threads (t + i))) in
    first_where group (drop t threads) (suc t) j u (omega arith)
    (λ i lt. at i ∙ next.least (suc (t + i)) (omega arith) (omega arith))
    (at j ∙ (ap (λ k. is_member group (by_id threads k)) (sym e) ∙ next.member))
    ∙ ap (λ xs. u ∷ ids_where (is_in_group group) (suc u) xs) (drop_drop t threads (suc j) u (omega arith))

-- the next member, and those above it
pub next_above : (group t u : ℕ) (threads : List Thread) → NextMember group t threads u → above group t threads ≡ u ∷ above group u threads
next_above group t u threads next = let lt = next.after in next_at group t u (u - suc t) threads (omega (arith, lt)) next

ids_by : (p : Thread → Bool) → (xs ys : List Thread) (n : ℕ) → map p xs ≡ map p ys → ids_where p n xs ≡ ids_where p n ys
ids_by p [] [] n e = refl
ids_by p [] (y ∷ ys) n e = absurd (cc e)
ids_by p (x ∷ xs) [] n e = absurd (cc e)
ids_by p (x ∷ xs) (y ∷ ys) n e =
    let one : p x ≡ p y = cc in
    let rest : map p xs ≡ map p ys = cc in
    rw (one, ids_by p xs ys (suc n) rest) refl

map_drop : (p : Thread → Bool) → (t : ℕ) (xs ys : List Thread) → map p xs ≡ map p ys → map p (drop t xs) ≡ map p (drop t ys)
map_drop p zero xs ys e = e
map_drop p (suc t) [] [] e = refl
map_drop p (suc t) [] (y ∷ ys) e = absurd (cc e)
map_drop p (suc t) (x ∷ xs) [] e = absurd (cc e)
map_drop p (suc t) (x ∷ xs) (y ∷ ys) e = map_drop p t xs ys cc

-- the members above t are those of any threads that are members alike
pub above_same : (group t : ℕ) (xs ys : List Thread) → map (is_in_group group) xs ≡ map (is_in_group group) ys → above group t xs ≡ above group t ys
above_same group t xs ys e = ids_by (is_in_group group) (drop t xs) (drop t ys) (suc t) (map_drop (is_in_group group) t xs ys e)

map_changed : (p : Thread → Bool) (f : Thread → Thread) → (xs : List Thread) (i : ℕ) → ((x : Thread) → slice_get xs i ≡ Some x → p (f x) ≡ p x) → map p (changed f xs i) ≡ map p xs
map_changed p f [] i h = refl
map_changed p f (x ∷ xs) zero h = ap (λ b. b ∷ map p xs) (h x refl)
map_changed p f (x ∷ xs) (suc i) h = ap (λ bs. p x ∷ bs) (map_changed p f xs i h)

lives_on : (group : ℕ) (x : Thread) → x.place ≡ Waiting → is_in_group group (at_place (Ready Interrupted) x) ≡ is_in_group group x
lives_on group x e = rw e refl

waits_at : (threads : List Thread) (t : ℕ) (x : Thread) → place_of threads t ≡ Waiting → slice_get threads (t - 1) ≡ Some x → x.place ≡ Waiting
waits_at threads zero x here e = absurd (cc here)
waits_at threads (suc i) x here e =
    let n : suc i - 1 ≡ i = omega arith in
    let there : slice_get threads i ≡ Some x = rw n at e in
    let found : by_id threads (suc i) ≡ Some x = by_id_suc threads i ∙ there in
    rw found at here

-- a thread that waits is a member as before once it is woken
pub woken_members : (group t : ℕ) (s : State) → place_of s.threads t ≡ Waiting → map (is_in_group group) (wake t Interrupted s).threads ≡ map (is_in_group group) s.threads
woken_members group t s here = map_changed (is_in_group group) (at_place (Ready Interrupted)) s.threads (t - 1) (λ x e. lives_on group x (waits_at s.threads t x here e))

doomed_member : (group : ℕ) (x : Thread) → is_in_group group (doomed x) ≡ is_in_group group x
doomed_member group x = rw (doomed_place x, doomed_stays x) refl

-- and so is one that is marked
pub marked_members : (group t : ℕ) (s : State) → map (is_in_group group) (marked t s).threads ≡ map (is_in_group group) s.threads
marked_members group t s = map_changed (is_in_group group) doomed s.threads (t - 1) (λ x e. doomed_member group x)
