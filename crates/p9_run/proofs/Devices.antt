-- What one service, or a turn of a proc, leaves of the devices.
use Rattle.std.proofs.Common.{◌≡◌, ◌≢◌, ℕ, zero, suc, ◌+◌, ◌<◌, List, [], ◌∷◌, length, set, get_or, sym, subst, arith}
use Rattle.p9_word.specs.declared.io_call.IoCall.{IoCall}
use Rattle.p9_word.specs.declared.io_call.Effect.{Effect}
use Rattle.p9_word.specs.declared.trail.Entry.{Entry}
use Rattle.p9_manual.specs.FilesInHistory.{calls_at, effects_at}
use Rattle.p9_run.specs.Services.{TouchesOnly, Serves, AllServe}
use Rattle.p9_run.specs.Untouched.{TouchesNoFile}

serves_same : {D : Type 0} (serves : D → IoCall → Effect → D → Type 0) (k : ℕ) (H K : List Entry) (first now : D) → calls_at k K ≡ calls_at k H → effects_at k K ≡ effects_at k H → Serves serves k H first now → Serves serves k K first now
serves_same serves k H K first now calls effects before = record { is_done = rw (calls, effects) before.is_done; reached = rw (calls, effects) before.reached }

pub all_touched : {D : Type 0} (serves : D → IoCall → Effect → D → Type 0) (H K : List Entry) (k : ℕ) (firsts devices : List D) → TouchesNoFile H K → AllServe serves H k firsts devices → AllServe serves K k firsts devices
all_touched serves H K k [] [] t all = all
all_touched serves H K k [] (d ∷ devices) t all = all
all_touched serves H K k (f ∷ firsts) [] t all = all
all_touched serves H K k (f ∷ firsts) (d ∷ devices) t all = (serves_same serves k H K f d (t.calls k) (t.effects k) all.0, all_touched serves H K (k + 1) firsts devices t all.1)

-- those above j are as before a service of j
above : {D : Type 0} (serves : D → IoCall → Effect → D → Type 0) (H K : List Entry) (j k : ℕ) (firsts devices : List D) → j < k → TouchesOnly j H K → AllServe serves H k firsts devices → AllServe serves K k firsts devices
above serves H K j k [] [] lt s all = all
above serves H K j k [] (d ∷ devices) lt s all = all
above serves H K j k (f ∷ firsts) [] lt s all = all
above serves H K j k (f ∷ firsts) (d ∷ devices) lt s all =
    let ne : k ≢ j = omega arith in
    (serves_same serves k H K f d (s.calls k ne) (s.effects k ne) all.0, above serves H K j (k + 1) firsts devices (omega arith) s all.1)

-- device number i is served
pub all_served : {D : Type 0} (serves : D → IoCall → Effect → D → Type 0) (H K : List Entry) (j k i : ℕ) (firsts devices : List D) (other new : D) → j ≡ k + i → i < length devices → TouchesOnly j H K → ((first : D) → Serves serves j H first (get_or devices i other) → Serves serves j K first new) → AllServe serves H k firsts devices → AllServe serves K k firsts (set devices i new)
all_served serves H K j k i [] [] other new e lt s step all = absurd (omega (arith, lt))
all_served serves H K j k i [] (d ∷ devices) other new e lt s step all = absurd all
all_served serves H K j k i (f ∷ firsts) [] other new e lt s step all = absurd all
all_served serves H K j k zero (f ∷ firsts) (d ∷ devices) other new e lt s step all =
    let same : j ≡ k = omega (arith, e) in
    let here : Serves serves j K f new = step f (subst (λ (n : ℕ). Serves serves n H f d) (sym same) all.0) in
    (subst (λ (n : ℕ). Serves serves n K f new) same here, above serves H K j (k + 1) firsts devices (omega (arith, same)) s all.1)
all_served serves H K j k (suc i) (f ∷ firsts) (d ∷ devices) other new e lt s step all =
    let ne : k ≢ j = omega (arith, e) in
    let lt' : i < length devices = omega (arith, lt) in
    (serves_same serves k H K f d (s.calls k ne) (s.effects k ne) all.0, all_served serves H K j (k + 1) i firsts devices other new (omega (arith, e)) lt' s step all.1)
