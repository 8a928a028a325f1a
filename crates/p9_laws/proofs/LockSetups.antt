-- The setups of the worked examples on locks are valid.
use Rattle.std.proofs.Common.{ℕ, ◌≤◌, All, List, [], ◌∷◌, length, arith}
use Rattle.std.proofs.lemmas.List.Elements.{All-nil, All-cons}
use Rattle.p9_word.specs.declared.limits.TheConstants.{MOST_PLACES, MOST_THREADS, MOST_LOCKS, MOST_RENDEZES}
use Rattle.p9_word.specs.declared.setup.ThreadSetup.{ThreadSetup}
use Rattle.p9_word.specs.Setup.{IsValid, IsThreadOf, IsChan, IsBetween}
use Rattle.p9_laws.specs.LockExamples.{with_locks}
use Rattle.p9_laws.specs.ThreadExamples.{first_thread}

-- a thread of one of the procs
pub in_proc_valid : (procs p : ℕ) → 1 ≤ p → p ≤ procs → IsThreadOf procs 1 (record first_thread { proc_no = p })
in_proc_valid procs p low high =
    record { proc_no = record { from = low; to = high }; program = record { from = omega arith; to = omega arith }; name = omega arith }

-- two threads
pub two_valid : (procs p q : ℕ) → 1 ≤ p → p ≤ procs → 1 ≤ q → q ≤ procs → All (IsThreadOf procs 1) (record first_thread { proc_no = p } ∷ record first_thread { proc_no = q } ∷ [])
two_valid procs p q a b c d =
    All-cons (IsThreadOf procs 1) (record first_thread { proc_no = p }) (record first_thread { proc_no = q } ∷ []) (in_proc_valid procs p a b)
    (All-cons (IsThreadOf procs 1) (record first_thread { proc_no = q }) [] (in_proc_valid procs q c d) (All-nil (IsThreadOf procs 1)))

pub with_locks_valid : (procs : ℕ) (threads : List ThreadSetup) (qlocks : ℕ) (rendezes : List ℕ) → 1 ≤ procs → procs ≤ MOST_PLACES → length threads ≤ MOST_THREADS → qlocks ≤ MOST_LOCKS → length rendezes ≤ MOST_RENDEZES → All (IsThreadOf procs 1) threads → All (IsBetween 1 qlocks) rendezes → IsValid (with_locks procs threads qlocks rendezes)
with_locks_valid procs threads qlocks rendezes some few few_threads few_locks few_rendezes threads_valid rendezes_valid =
    record {
      places = record { from = some; to = few };
      opened = record { from = some; to = omega arith };
      limits = record {
        threads = few_threads;
        chans = omega arith;
        locks = omega arith;
        qlocks = few_locks;
        rwlocks = omega arith;
        rendezes = few_rendezes;
        refs = omega arith;
        files = omega arith;
        procs = omega arith;
      };
      threads = threads_valid;
      chans = All-nil IsChan;
      rendezes = rendezes_valid;
    }
