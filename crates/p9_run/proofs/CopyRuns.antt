-- What the run of a copy's text comes to, by how its files were opened and closed.
use Rattle.std.specs.Prelude.{ℕ, ◌≡◌, ◌≢◌, ◌||◌, ◌++◌, ◌↔◌, Bool, true, false, List, [], Option, Some, None, Result, Ok, Err, MatchBool, MatchResult, OnOk, if◌then◌else◌}
use Rattle.std.specs.Io.KnownBytes.{Consumes, Appends}
use Rattle.std.proofs.Common.{sym, ◌∙◌, ap, subst, refl, inl, inr, arith}
use Rattle.p9_word.specs.declared.io_call.IoCall.{IoCall}
use Rattle.p9_word.specs.declared.io_call.Effect.{Effect}
use Rattle.p9_word.specs.declared.memory.NoMemory.{NoMemory}
use Rattle.p9_word.specs.declared.setup.Setup.{Setup}
use Rattle.p9_word.specs.declared.trail.Entry.{Entry}
use Rattle.p9_word.specs.Setup.{IsValid}
use Rattle.p9_manual.specs.Files.{written}
use Rattle.p9_laws.specs.Ending.{EndsOver, HasEnded, ends_stuck}
use Rattle.p9_manual.specs.History.{IsLegal}
use Rattle.p9_laws.specs.RunReplies.{reply_at}
use Rattle.p9_manual.specs.FilesInHistory.{services_at}
use Rattle.p9_outside.specs.declared.files.FilesFault.{FilesFault}
use Rattle.p9_outside.specs.declared.files.FilesFault.TheVariants.{Failed, Memory}
use Rattle.p9_outside.specs.Causes.{CountsFault, is_failed, is_failure}
use Rattle.p9_outside.specs.Contents.{Told, Stay, Opens, IsFresh, Puts}
use Rattle.p9_outside.specs.FileRuns.{UntoldAreFull}
use Rattle.p9_outside.specs.Reading.{FullReads}
use Rattle.p9_run.proofs.Lifts.{stay_on}
use Rattle.p9_run.proofs.Runs.{calls_none, history_none}
use Rattle.p9_run.specs.CopyEnd.{GivenFrom, IsFrontOf, IsGiven, told_at, Holds, RunsNothing, RunsWhole, CopyEnds, IsCopyHistory}
use Rattle.p9_run.specs.CountedCalls.{CountsRun}
use Rattle.p9_run.specs.FaultLines.{TellsFaults, is_open, IsInFault, IsOutFault, failed_at}
use Rattle.p9_run.specs.CopyFinish.{EndsOrStops, unopened, run_end, IsFinished, IsStopped}
use Rattle.p9_run.specs.CopyPrograms.{copy_asks}
use Rattle.p9_run.specs.CopySetup.{copy_setup}
use Rattle.p9_run.specs.Moves.{Moves}
use Rattle.p9_run.specs.Over.{AllOver}
use Rattle.p9_run.specs.declared.report.FileFault.{FileFault}
use Rattle.p9_run.specs.declared.report.FileFault.TheVariants.{Open, Read, Write, Close}
use Rattle.p9_run.specs.declared.report.RunEnd.{RunEnd}

-- no history is a run of a copy's text
pub no_history : IsCopyHistory []
no_history = record { legal = tt; files = history_none copy_asks }

front_none : (o : Option (List ℕ)) → IsFrontOf [] o
front_none None = refl
front_none (Some xs) = (xs, refl)

nothing_given : (told : Told) (path : List ℕ) → GivenFrom told path []
nothing_given None path = tt
nothing_given (Some f) path = front_none (f path)

given_none : (told : Told) (path : List ℕ) → IsGiven told path []
given_none told path = record { front = rw calls_none (nothing_given told path); full = rw calls_none tt }

-- a file couldn't be opened: the in file, or the out file
not_opened_in : (told told' : Told) (from to : List ℕ) → Stay told told' → CopyEnds told told' from to [] (record { stuck = false; input = Some Open; output = None })
not_opened_in told told' from to stay =
    record {
      faults = record {
        stuck = refl;
        input = (λ e. cc, λ e. cc);
        output = λ e. cc;
        alone_in = λ e. refl;
        alone_out = λ e. cc;
        read = (λ e. cc, λ e. cc);
        write = (λ e. cc, λ e. cc);
      };
      given_is = given_none told from;
      contents = record { history_is = refl; contents = stay };
    }

not_opened_out : (told told' : Told) (from to : List ℕ) → Stay told told' → CopyEnds told told' from to [] (record { stuck = false; input = None; output = Some Open })
not_opened_out told told' from to stay =
    record {
      faults = record {
        stuck = refl;
        input = (λ e. cc, λ e. cc);
        output = λ e. cc;
        alone_in = λ e. cc;
        alone_out = λ e. refl;
        read = (λ e. cc, λ e. cc);
        write = (λ e. cc, λ e. cc);
      };
      given_is = given_none told from;
      contents = record { history_is = refl; contents = stay };
    }

unopened_ends : (fault : FilesFault) (input : Bool) (told told' : Told) (from to : List ℕ) → Stay told told' → EndsOrStops told told' from to [] (unopened fault input)
unopened_ends Failed true told told' from to stay = not_opened_in told told' from to stay
unopened_ends Failed false told told' from to stay = not_opened_out told told' from to stay
unopened_ends Memory input told told' from to stay = record { given_is = given_none told from; contents = inr stay }

-- a file couldn't be opened
pub not_opened : (fault : FilesFault) (input : Bool) (told told' : Told) (from to : List ℕ) (history : List Entry) (end : Result RunEnd NoMemory) → end ≡ unopened fault input → history ≡ [] → Stay told told' → EndsOrStops told told' from to history end
not_opened fault input told told' from to history end is none stay =
    rw (is, none) (unopened_ends fault input told told' from to stay)

-- memory was wanted before anything was run
pub not_made : (told told' : Told) (from to : List ℕ) (history : List Entry) (end : Result RunEnd NoMemory) (wanted : NoMemory) → end ≡ Err wanted → history ≡ [] → Stay told told' → EndsOrStops told told' from to history end
not_made told told' from to history end wanted is none stay =
    rw (is, none) (record { given_is = given_none told from; contents = inr stay })

front_of : (o : Option (List ℕ)) (xs ys bs : List ℕ) → o ≡ Some xs → xs ≡ bs ++ ys → IsFrontOf bs o
front_of None xs ys bs e f = absurd (cc e)
front_of (Some zs) xs ys bs e f = (ys, cc)

given_opened : (a : Told) (path : List ℕ) (l m : Option (List ℕ)) (bs : List ℕ) → Opens a path l → Consumes l m bs → GivenFrom a path bs
given_opened None path l m bs opens takes = tt
given_opened (Some f) path None m bs opens takes = absurd opens
given_opened (Some f) path (Some xs) None bs opens takes = absurd takes
given_opened (Some f) path (Some xs) (Some ys) bs opens takes = front_of (f path) xs ys bs opens takes

full_opened : (untold : UntoldAreFull) (a : Told) (path : List ℕ) (l : Option (List ℕ)) (services : List (IoCall × Effect)) → Opens a path l → FullReads false l services → FullReads false (told_at a path) services
full_opened untold None path l services opens full = untold false services
full_opened untold (Some f) path None services opens full = absurd opens
full_opened untold (Some f) path (Some xs) services opens full = rw opens full

holds_after : (a b c d : Told) (path : List ℕ) (h k : Option (List ℕ)) (bs : List ℕ) → Stay a b → Stay b c → IsFresh b h → Appends h k bs → Puts c d path k → Holds a d path bs
holds_after None b c d path h k bs s t fresh takes puts = tt
holds_after (Some f) None c d path h k bs s t fresh takes puts = absurd s
holds_after (Some f) (Some g) None d path h k bs s t fresh takes puts = absurd t
holds_after (Some f) (Some g) (Some m) None path h k bs s t fresh takes puts = absurd puts
holds_after (Some f) (Some g) (Some m) (Some n) path None k bs s t fresh takes puts = absurd fresh
holds_after (Some f) (Some g) (Some m) (Some n) path (Some xs) None bs s t fresh takes puts = absurd takes
holds_after (Some f) (Some g) (Some m) (Some n) path (Some xs) (Some ys) bs s t fresh takes puts =
    (puts.0 ∙ ap Some (takes ∙ ap (λ z. z ++ bs) fresh), λ p ne. puts.1 p ne ∙ t p ∙ s p)

-- the line of the in file
abbrev in_line : Bool → Option FileFault
in_line read = if read then Some Read else None

-- the line of the out file, by its line where no write failed
abbrev out_line : Bool → Option FileFault → Option FileFault
out_line write close = if write then Some Write else close

in_fault : (read : Bool) → IsInFault (in_line read)
in_fault true = (λ e. cc, λ e. cc)
in_fault false = (λ e. cc, λ e. cc)

in_read : (read : Bool) → (in_line read ≡ Some Read) ↔ (read ≡ true)
in_read true = (λ e. refl, λ e. refl)
in_read false = (λ e. cc, λ e. cc)

out_fault : (write : Bool) (close : Option FileFault) → close ≢ Some Read → IsOutFault (out_line write close)
out_fault true close other = λ e. cc
out_fault false close other = other

in_opened : (read : Bool) → in_line read ≢ Some Open
in_opened true = λ e. cc
in_opened false = λ e. cc

out_opened : (write : Bool) (close : Option FileFault) → close ≢ Some Open → out_line write close ≢ Some Open
out_opened true close other = λ e. cc
out_opened false close other = other

out_write : (write : Bool) (close : Option FileFault) → close ≢ Some Write → (out_line write close ≡ Some Write) ↔ (write ≡ true)
out_write true close other = (λ e. refl, λ e. refl)
out_write false close other = (λ e. absurd (other e), λ e. cc)

both_opened : (read write : Bool) (close : Option FileFault) → is_open close ≡ false → (is_open (in_line read) || is_open (out_line write close)) ≡ false
both_opened true true close other = refl
both_opened true false close other = other
both_opened false true close other = refl
both_opened false false close other = other

-- the lines of a run that went to its end, where the out file's closing gives this line
closed_faults : (stuck read write : Bool) (close : Option FileFault) (history : List Entry) → stuck ≡ ends_stuck history → read ≡ failed_at 1 history → write ≡ failed_at 2 history → close ≢ Some Read → close ≢ Some Write → close ≢ Some Open → TellsFaults (record { stuck = stuck; input = in_line read; output = out_line write close }) history
closed_faults stuck read write close history is_stuck is_read is_write no_read no_write no_open =
    record {
      stuck = is_stuck;
      input = in_fault read;
      output = out_fault write close no_read;
      alone_in = λ e. absurd (in_opened read e);
      alone_out = λ e. absurd (out_opened write close no_open e);
      read = subst (λ (b : Bool). (in_line read ≡ Some Read) ↔ (b ≡ true)) is_read (in_read read);
      write = subst (λ (b : Bool). (out_line write close ≡ Some Write) ↔ (b ≡ true)) is_write (out_write write close no_write);
    }

not_none : (write : Bool) → out_line write (Some Close) ≢ None
not_none true = λ e. cc
not_none false = λ e. cc

module _ (untold : UntoldAreFull) (told a b c : Told) (from to : List ℕ) (left left' held held' : Option (List ℕ)) (reads reads' writes writes' : ℕ) (steady steady' : Bool) (firm firm' : ℕ) (history : List Entry) (first : Stay told a) (second : Stay a b) (opens : Opens told from left) (fresh : IsFresh a held) (moves : Moves history left left' held held' reads reads' writes writes' steady steady' firm firm') where
  stay_ab : Stay told b
  stay_ab = stay_on told a b first second

  given_was : IsGiven told from history
  given_was = record { front = given_opened told from left left' _ opens moves.given; full = full_opened untold told from left (services_at 1 history) opens moves.full }

  holds_put : Puts b c to held' → Holds told c to (written (services_at 2 history))
  holds_put puts = holds_after told a b c to held held' _ first second fresh moves.written puts

  -- the run went to its end, and the out file was closed so
  closed_ends : (closed : Result (Unit {0}) FilesFault) → HasEnded copy_setup history → MatchResult closed (λ _. Puts b c to held') (λ _. Stay b c) → EndsOrStops told c from to history (run_end (ends_stuck history) (failed_at 1 history) (failed_at 2 history) closed)
  closed_ends (Ok u) ended puts =
      record {
        faults = closed_faults (ends_stuck history) (failed_at 1 history) (failed_at 2 history) None history refl refl refl (λ e. cc) (λ e. cc) (λ e. cc);
        given_is = given_was;
        contents = subst (λ (o : Bool). MatchBool o (RunsNothing told c history) (RunsWhole told c to history (out_line (failed_at 2 history) None))) (sym (both_opened (failed_at 1 history) (failed_at 2 history) None refl))
            (record { ended = ended; whole = λ none. holds_put puts; either = inl (holds_put puts) });
      }
  closed_ends (Err Failed) ended stays =
      record {
        faults = closed_faults (ends_stuck history) (failed_at 1 history) (failed_at 2 history) (Some Close) history refl refl refl (λ e. cc) (λ e. cc) (λ e. cc);
        given_is = given_was;
        contents = subst (λ (o : Bool). MatchBool o (RunsNothing told c history) (RunsWhole told c to history (out_line (failed_at 2 history) (Some Close)))) (sym (both_opened (failed_at 1 history) (failed_at 2 history) (Some Close) refl))
            (record { ended = ended; whole = λ none. absurd (not_none (failed_at 2 history) none); either = inr (stay_on told b c stay_ab stays) });
      }
  closed_ends (Err Memory) ended stays =
      record { given_is = given_was; contents = inr (stay_on told b c stay_ab stays) }

  stopped : (end : Result RunEnd NoMemory) (z w : ℕ) → IsStopped b c z w end → EndsOrStops told c from to history end
  stopped (Ok e) z w s = absurd (s.end_is e refl)
  stopped (Err wanted) z w s =
      record { given_is = given_was; contents = inr (subst (λ (d : Told). Stay told d) (sym s.contents) stay_ab) }

  -- a run was finished
  pub finished : (outcome : Result (Unit {0}) NoMemory) (end : Result RunEnd NoMemory) (z w : ℕ) → OnOk outcome (HasEnded copy_setup history) → IsFinished b c z w to held' outcome history end → EndsOrStops told c from to history end
  finished (Ok u) end z w ended f = rw f.end_is (closed_ends f.closed ended f.contents)
  finished (Err wanted) end z w ended f = stopped end z w f

-- the count of a run of which a file couldn't be opened
pub unopened_counts : (fault : FilesFault) (input : Bool) (x y : ℕ) (end : Result RunEnd NoMemory) → end ≡ unopened fault input → CountsFault (is_failure fault) x y → CountsRun end x y
unopened_counts Failed true x y end is counted = rw is (record { untold = 0; most = omega arith; count_is = counted })
unopened_counts Failed false x y end is counted = rw is (record { untold = 0; most = omega arith; count_is = counted })
unopened_counts Memory input x y end is counted = rw is counted

ended_counts : (stuck read write : Bool) (closed : Result (Unit {0}) FilesFault) (x y : ℕ) → CountsFault (is_failed closed) x y → CountsRun (run_end stuck read write closed) x y
ended_counts stuck true true (Ok u) x y counted = record { untold = 0; most = omega arith; count_is = omega (arith, counted) }
ended_counts stuck true false (Ok u) x y counted = record { untold = 0; most = omega arith; count_is = omega (arith, counted) }
ended_counts stuck false true (Ok u) x y counted = record { untold = 0; most = omega arith; count_is = omega (arith, counted) }
ended_counts stuck false false (Ok u) x y counted = record { untold = 0; most = omega arith; count_is = omega (arith, counted) }
ended_counts stuck true true (Err Failed) x y counted = record { untold = 1; most = omega arith; count_is = counted }
ended_counts stuck true false (Err Failed) x y counted = record { untold = 0; most = omega arith; count_is = counted }
ended_counts stuck false true (Err Failed) x y counted = record { untold = 1; most = omega arith; count_is = counted }
ended_counts stuck false false (Err Failed) x y counted = record { untold = 0; most = omega arith; count_is = counted }
ended_counts stuck read write (Err Memory) x y counted = counted

wanted_counts : (told told' : Told) (end : Result RunEnd NoMemory) (x y : ℕ) → IsStopped told told' x y end → CountsRun end x y
wanted_counts told told' (Ok e) x y s = absurd (s.end_is e refl)
wanted_counts told told' (Err wanted) x y s = s.calls_are

-- the count of a run that was finished
pub finished_counts : (outcome : Result (Unit {0}) NoMemory) (told told' : Told) (to : List ℕ) (held : Option (List ℕ)) (history : List Entry) (end : Result RunEnd NoMemory) (x y : ℕ) → IsFinished told told' x y to held outcome history end → CountsRun end x y
finished_counts (Ok u) told told' to held history end x y f = rw f.end_is (ended_counts (ends_stuck history) (failed_at 1 history) (failed_at 2 history) f.closed x y f.counted)
finished_counts (Err wanted) told told' to held history end x y f = wanted_counts told told' end x y f

-- a run of which all procs are over has ended
pub run_ended : (outcome : Result (Unit {0}) NoMemory) (setup : Setup) (entries history : List Entry) → setup ≡ copy_setup → IsValid setup → history ≡ entries → IsLegal setup entries → ((s : Setup) (es : List Entry) → EndsOver s es) → OnOk outcome (AllOver 1 (reply_at setup entries)) → OnOk outcome (HasEnded copy_setup history)
run_ended (Err wanted) setup entries history is valid same legal law over = tt
run_ended (Ok u) setup entries history is valid same legal law over =
    let legal' : IsLegal copy_setup entries = subst (λ (s : Setup). IsLegal s entries) is legal in
    let valid' : IsValid copy_setup = subst (λ (s : Setup). IsValid s) is valid in
    let over' : AllOver 1 (reply_at copy_setup entries) = subst (λ (s : Setup). AllOver 1 (reply_at s entries)) is over in
    rw same (law copy_setup entries valid' legal' over')
