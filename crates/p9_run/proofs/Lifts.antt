-- What is said of the contents after FILE was read holds of those before it, since reading it changes none.
use Rattle.std.specs.Prelude.{ℕ, ◌≡◌, ◌≤◌, ◌+◌, ◌⊎◌, ◌||◌, min, Bool, true, false, List, [], length, take, Option, Some, None, MatchBool}
use Rattle.std.proofs.Common.{refl, sym, ◌∙◌, ap, subst, inl, inr, arith}
use Rattle.std.proofs.lemmas.List.{take_all, length-take}
use Rattle.p9_word.specs.declared.limits.TheConstants.{MOST_TEXT_BYTES}
use Rattle.p9_word.specs.declared.io_call.IoCall.{IoCall}
use Rattle.p9_word.specs.declared.io_call.Effect.{Effect}
use Rattle.p9_word.specs.declared.trail.Entry.{Entry}
use Rattle.p9_manual.specs.FilesInHistory.{services_at}
use Rattle.p9_outside.specs.Contents.{Told, Stay}
use Rattle.p9_outside.specs.FileRuns.{UntoldAreFull}
use Rattle.p9_outside.specs.Reading.{FullReads}
use Rattle.p9_run.specs.CommandLine.{command}
use Rattle.p9_run.specs.CopyEnd.{GivenFrom, IsFrontOf, IsGiven, told_at, Holds, RunsNothing, RunsWhole, CopyEnds, CopyStops}
use Rattle.p9_run.specs.CountedCalls.{calls_told, most_untold, RoseOnce, CountsEnd, CountsCall}
use Rattle.p9_run.specs.FaultLines.{IsInFault, is_open}
use Rattle.p9_run.specs.FileText.{IsAccepted, IsReadFrom, IsCopyFile, IsOtherFile}
use Rattle.p9_run.specs.PipeMain.{RanCopy, StoppedCopy, CameTo, Answers, IsCall, IsCopyCame}
use Rattle.p9_outside.specs.Counts.{raised}
use Rattle.p9_run.specs.declared.report.FileFault.{FileFault}
use Rattle.p9_run.specs.declared.report.FileFault.TheVariants.{Open, Read, Write, Close}
use Rattle.p9_run.specs.declared.report.RunEnd.{RunEnd}
use Rattle.p9_run.specs.declared.report.CommandEnd.{CommandEnd}
use Rattle.p9_run.specs.declared.report.CommandEnd.TheVariants.{Memory, Usage, NotYet, FileFailed, Ran}

pub stay_on : (a b c : Told) → Stay a b → Stay b c → Stay a c
stay_on None b c s t = tt
stay_on (Some f) None c s t = absurd s
stay_on (Some f) (Some g) None s t = absurd t
stay_on (Some f) (Some g) (Some h) s t = λ p. t p ∙ s p

-- a text that was read whole, and one that was not
read_whole : (n : ℕ) (bytes text : List ℕ) → bytes ≡ take (n + 1) text → length bytes ≤ n → bytes ≡ text
read_whole n bytes text read short =
    let len : length bytes ≡ min (n + 1) (length text) = ap length read ∙ length-take (n + 1) text in
    read ∙ take_all (n + 1) text (omega (arith, len))

text_read : (n : ℕ) (bytes text : List ℕ) → bytes ≡ take (n + 1) text → length text ≤ n → bytes ≡ text
text_read n bytes text read short = read ∙ take_all (n + 1) text (omega arith)

pub copy_file : (told : Told) (file bytes from to : List ℕ) → IsReadFrom told file bytes → IsAccepted bytes from to → IsCopyFile told file from to
copy_file told file bytes from to r accepted =
    record {
      text = r.text;
      has = r.has;
      accepted = subst (λ (t : List ℕ). IsAccepted t from to) (read_whole MOST_TEXT_BYTES bytes r.text r.read accepted.short) accepted;
    }

pub other_file : (told : Told) (file bytes : List ℕ) → IsReadFrom told file bytes → ((from to : List ℕ) → ¬ (IsAccepted bytes from to)) → IsOtherFile told file
other_file told file bytes r other =
    record {
      text = r.text;
      has = r.has;
      other = λ from to accepted.
          other from to (subst (λ (t : List ℕ). IsAccepted t from to) (sym (text_read MOST_TEXT_BYTES bytes r.text r.read accepted.short)) accepted);
    }

front_from : (a b : Told) (path bs : List ℕ) → Stay a b → GivenFrom b path bs → GivenFrom a path bs
front_from None b path bs s g = tt
front_from (Some f) None path bs s g = absurd s
front_from (Some f) (Some h) path bs s g = subst (λ (o : Option (List ℕ)). IsFrontOf bs o) (s path) g

full_from : (untold : UntoldAreFull) (a b : Told) (path : List ℕ) (services : List (IoCall × Effect)) → Stay a b → FullReads false (told_at b path) services → FullReads false (told_at a path) services
full_from untold None b path services s full = untold false services
full_from untold (Some f) None path services s full = absurd s
full_from untold (Some f) (Some h) path services s full = subst (λ (o : Option (List ℕ)). FullReads false o services) (s path) full

given_from : (untold : UntoldAreFull) (a b : Told) (path : List ℕ) (history : List Entry) → Stay a b → IsGiven b path history → IsGiven a path history
given_from untold a b path history s g =
    record { front = front_from a b path _ s g.front; full = full_from untold a b path (services_at 1 history) s g.full }

holds_from : (a b c : Told) (path bs : List ℕ) → Stay a b → Holds b c path bs → Holds a c path bs
holds_from None b c path bs s h = tt
holds_from (Some f) None c path bs s h = absurd s
holds_from (Some f) (Some g) None path bs s h = absurd h
holds_from (Some f) (Some g) (Some k) path bs s h = (h.0, λ p ne. h.1 p ne ∙ s p)

either_from : (a b c : Told) (path bs : List ℕ) → Stay a b → Holds b c path bs ⊎ Stay b c → Holds a c path bs ⊎ Stay a c
either_from a b c path bs s (inl h) = inl (holds_from a b c path bs s h)
either_from a b c path bs s (inr t) = inr (stay_on a b c s t)

nothing_from : (a b c : Told) (history : List Entry) → Stay a b → RunsNothing b c history → RunsNothing a c history
nothing_from a b c history s r = record { history_is = r.history_is; contents = stay_on a b c s r.contents }

whole_from : (a b c : Told) (to : List ℕ) (history : List Entry) (output : Option FileFault) → Stay a b → RunsWhole b c to history output → RunsWhole a c to history output
whole_from a b c to history output s r =
    record {
      ended = r.ended;
      whole = λ none. holds_from a b c to _ s (r.whole none);
      either = either_from a b c to _ s r.either;
    }

run_from : (unopened : Bool) (a b c : Told) (to : List ℕ) (history : List Entry) (output : Option FileFault) → Stay a b → MatchBool unopened (RunsNothing b c history) (RunsWhole b c to history output) → MatchBool unopened (RunsNothing a c history) (RunsWhole a c to history output)
run_from true a b c to history output s r = nothing_from a b c history s r
run_from false a b c to history output s r = whole_from a b c to history output s r

ends_from : (untold : UntoldAreFull) (a b c : Told) (from to : List ℕ) (history : List Entry) (end : RunEnd) → Stay a b → CopyEnds b c from to history end → CopyEnds a c from to history end
ends_from untold a b c from to history end s e =
    record {
      faults = e.faults;
      given_is = given_from untold a b from history s e.given_is;
      contents = run_from (is_open end.input || is_open end.output) a b c to history end.output s e.contents;
    }

stops_from : (untold : UntoldAreFull) (a b c : Told) (from to : List ℕ) (history : List Entry) → Stay a b → CopyStops b c from to history → CopyStops a c from to history
stops_from untold a b c from to history s e =
    record { given_is = given_from untold a b from history s e.given_is; contents = either_from a b c to _ s e.contents }

-- the text of a copy was run
pub ran_copy : (untold : UntoldAreFull) (words : List (List ℕ)) (a b c : Told) (history : List Entry) (end : RunEnd) (file bytes from to : List ℕ) → command words ≡ Some file → IsReadFrom a file bytes → IsAccepted bytes from to → Stay a b → CopyEnds b c from to history end → RanCopy words a c history end from to
ran_copy untold words a b c history end file bytes from to is r accepted s e =
    record { file = file; words_are = is; text = copy_file a file bytes from to r accepted; ends = ends_from untold a b c from to history end s e }

-- it was run, and memory was wanted
pub stopped_copy : (untold : UntoldAreFull) (words : List (List ℕ)) (a b c : Told) (history : List Entry) (file bytes from to : List ℕ) → command words ≡ Some file → IsReadFrom a file bytes → IsAccepted bytes from to → Stay a b → CopyStops b c from to history → RunsNothing a c history ⊎ StoppedCopy words a c history
stopped_copy untold words a b c history file bytes from to is r accepted s e =
    inr (record { file = file; from = from; to = to; words_are = is; text = copy_file a file bytes from to r accepted; stops = stops_from untold a b c from to history s e })

-- FILE was read, and isn't the text of a copy
pub not_yet : (words : List (List ℕ)) (a b : Told) (history : List Entry) (end : CommandEnd) (file bytes : List ℕ) → command words ≡ Some file → IsReadFrom a file bytes → ((from to : List ℕ) → ¬ (IsAccepted bytes from to)) → Stay a b → end ≡ NotYet file → history ≡ [] → CameTo end words a b history
not_yet words a b history end file bytes is r other s is_end none =
    rw is_end (record { words_are = is; text = other_file a file bytes r other; nothing = record { history_is = none; contents = s } })

-- its text was run, and came to this
pub ran_text : (untold : UntoldAreFull) (words : List (List ℕ)) (a b c : Told) (history : List Entry) (end : CommandEnd) (file bytes from to : List ℕ) → command words ≡ Some file → IsReadFrom a file bytes → IsAccepted bytes from to → Stay a b → IsCopyCame end b c from to history → CameTo end words a c history
ran_text untold words a b c history (Ran e f t) file bytes from to is r accepted s came =
    rw (came.from_is, came.to_is) (ran_copy untold words a b c history e file bytes from to is r accepted s came.ends)
ran_text untold words a b c history Memory file bytes from to is r accepted s came =
    stopped_copy untold words a b c history file bytes from to is r accepted s came
ran_text untold words a b c history Usage file bytes from to is r accepted s came = absurd came
ran_text untold words a b c history (NotYet f) file bytes from to is r accepted s came = absurd came
ran_text untold words a b c history (FileFailed f fault) file bytes from to is r accepted s came = absurd came

stopped_by : (unopened : Bool) (words : List (List ℕ)) (a c : Told) (history : List Entry) (end : RunEnd) (from to : List ℕ) → RanCopy words a c history end from to → MatchBool unopened (RunsNothing a c history) (RunsWhole a c to history end.output) → RunsNothing a c history ⊎ StoppedCopy words a c history
stopped_by true words a c history end from to r nothing = inl nothing
stopped_by false words a c history end from to r whole =
    inr (record { file = r.file; from = from; to = to; words_are = r.words_are; text = r.text; stops = record { given_is = r.ends.given_is; contents = whole.either } })

-- whatever a call came to, memory may be wanted for its messages
pub may_stop : (end : CommandEnd) (words : List (List ℕ)) (a c : Told) (history : List Entry) → CameTo end words a c history → CameTo Memory words a c history
may_stop Memory words a c history came = came
may_stop Usage words a c history came = inl came.nothing
may_stop (NotYet file) words a c history came = inl came.nothing
may_stop (FileFailed file fault) words a c history came = inl came.nothing
may_stop (Ran end from to) words a c history came =
    stopped_by (is_open end.input || is_open end.output) words a c history end from to came came.ends.contents

-- of the out file at most one call failed
out_once : (output : Option FileFault) (untold : ℕ) → untold ≤ most_untold output → calls_told output + untold ≤ 1
out_once None untold most = omega (arith, most)
out_once (Some Open) untold most = omega (arith, most)
out_once (Some Read) untold most = omega (arith, most)
out_once (Some Write) untold most = omega (arith, most)
out_once (Some Close) untold most = omega (arith, most)

-- and of both files together
both_once : (input output : Option FileFault) (untold : ℕ) → IsInFault input → (input ≡ Some Open → output ≡ None) → untold ≤ most_untold output → calls_told input + calls_told output + untold ≤ 1
both_once None output untold fault alone most = let h = out_once output untold most in omega (arith, h)
both_once (Some Read) output untold fault alone most = let h = out_once output untold most in omega (arith, h)
both_once (Some Open) output untold fault alone most =
    let none : output ≡ None = alone refl in
    let h : untold ≤ 0 = rw none at most in
    rw none (omega (arith, h))
both_once (Some Write) output untold fault alone most = absurd (fault.0 refl)
both_once (Some Close) output untold fault alone most = absurd (fault.1 refl)

file_once : (fault : FileFault) (x z : ℕ) → z ≡ raised x (calls_told (Some fault)) → RoseOnce x z
file_once Open x z is = record { times = 1; most = omega arith; count_is = is }
file_once Read x z is = record { times = 0; most = omega arith; count_is = is }
file_once Write x z is = record { times = 0; most = omega arith; count_is = is }
file_once Close x z is = record { times = 1; most = omega arith; count_is = is }

never : (x z : ℕ) → z ≡ x → RoseOnce x z
never x z is = record { times = 0; most = omega arith; count_is = omega (arith, is) }

-- so of a call at most one
once : (end : CommandEnd) (words : List (List ℕ)) (a c : Told) (history : List Entry) (x z : ℕ) → CameTo end words a c history → CountsEnd end x z → RoseOnce x z
once Memory words a c history x z came is = never x z is
once Usage words a c history x z came is = never x z is
once (NotYet file) words a c history x z came is = never x z is
once (FileFailed file fault) words a c history x z came is = file_once fault x z is
once (Ran end from to) words a c history x z came is =
    record {
      times = calls_told end.input + calls_told end.output + is.untold;
      most = both_once end.input end.output is.untold came.ends.faults.input came.ends.faults.alone_in is.most;
      count_is = is.count_is;
    }

counts_call : (end : CommandEnd) (x z : ℕ) → CountsEnd end x z → CountsCall end x z
counts_call Memory x z is = never x z is
counts_call Usage x z is = is
counts_call (NotYet file) x z is = is
counts_call (FileFailed file fault) x z is = is
counts_call (Ran end from to) x z is = is

-- a call of the program, by what it came to and what was told of it
pub called : (end : CommandEnd) (words : List (List ℕ)) (a c : Told) (x z : ℕ) (history : List Entry) (held held' : Option (List ℕ)) (faults faults' answer : ℕ) → CameTo end words a c history → CountsEnd end x z → Answers end held held' faults faults' answer ⊎ Answers Memory held held' faults faults' answer → IsCall words a c x z history held held' faults faults' answer
called end words a c x z history held held' faults faults' answer came counts (inl told) =
    record { end = end; came = came; counts = counts_call end x z counts; answers = told }
called end words a c x z history held held' faults faults' answer came counts (inr told) =
    record { end = Memory; came = may_stop end words a c history came; counts = once end words a c history x z came counts; answers = told }
