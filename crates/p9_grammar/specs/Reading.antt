-- What a text means, and where its first fault is: the text is looked at line by line, and a line word by word from the left.
use Rattle.std.specs.Prelude.{◌≡◌, ℕ, ◌+◌, ◌&&◌, ◌||◌, Bool, true, false, not, List, [], ◌∷◌, length, codes, Option, Some, None, Result, Ok, Err, nat_lt, if◌then◌else◌}
use Rattle.std.specs.Str.{is_utf8}
use Rattle.p9_word.specs.declared.limits.TheConstants.{MOST_TEXT_BYTES}
use Rattle.p9_word.specs.declared.words.Word.{Word}
use Rattle.p9_word.specs.Scan.{words_of}
use Rattle.p9_grammar.specs.declared.ends.ChanEnds.{ChanEnds}
use Rattle.p9_grammar.specs.declared.pipeline.Pipeline.{Pipeline}
use Rattle.p9_grammar.specs.declared.why.Why.{Why}
use Rattle.p9_grammar.specs.declared.why.Why.TheVariants as whys
use Rattle.p9_grammar.specs.Steps.{◌>>=◌, present}
use Rattle.p9_grammar.specs.Lines.{lines_of, is_text, is_skipped}
use Rattle.p9_grammar.specs.Sorts.{is_word}
use Rattle.p9_grammar.specs.Draft.{OpenProg, Draft, nothing}
use Rattle.p9_grammar.specs.Decls.{file_line, chan_line, lock_line, rendez_line, ref_line, later_line, proc_line}
use Rattle.p9_grammar.specs.Threads.{thread_line}
use Rattle.p9_grammar.specs.Progs.{prog_line, instr_line, done_line}
use Rattle.p9_grammar.specs.Placed.{pipeline_of}

-- a line of declarations of things, by its first word; nothing where it is none of these words
abbrev pub thing_line : ℕ → Draft → Word → List Word → Result (Option Draft) Why
thing_line line d w ws =
    if is_word (codes "file") w then (file_line d.files ws >>= λ x. Ok (Some (record d { files = x })))
    else if is_word (codes "chan") w then (chan_line line d.chans ws >>= λ x. Ok (Some (record d { chans = x })))
    else if is_word (codes "lock") w then (lock_line d.locks ws >>= λ x. Ok (Some (record d { locks = x })))
    else if is_word (codes "qlock") w then (lock_line d.qlocks ws >>= λ x. Ok (Some (record d { qlocks = x })))
    else if is_word (codes "rwlock") w then (lock_line d.rwlocks ws >>= λ x. Ok (Some (record d { rwlocks = x })))
    else if is_word (codes "rendez") w then (rendez_line d.qlocks d.rendezes ws >>= λ x. Ok (Some (record d { rendezes = x })))
    else if is_word (codes "ref") w then (ref_line d.refs ws >>= λ x. Ok (Some (record d { refs = x })))
    else Ok None

-- a line of programs, procs and threads, by its first word
abbrev pub work_line : Draft → Word → List Word → Result Draft Why
work_line d w ws =
    if is_word (codes "later") w then (later_line (length d.procs.names) d.later ws >>= λ x. Ok (record d { later = x }))
    else if is_word (codes "prog") w then (prog_line d.progs ws >>= λ x. Ok (record d { progs = x }))
    else if is_word (codes "proc") w then (proc_line d.later d.procs ws >>= λ x. Ok (record d { procs = x }))
    else if is_word (codes "thread") w then thread_line d ws
    else Err whys.UnknownStatement

abbrev pub outside_by : Option Draft → Draft → Word → List Word → Result Draft Why
outside_by (Some after) d w ws = Ok after
outside_by None d w ws = work_line d w ws

-- a line outside a prog
unfoldable pub outside_line : ℕ → Draft → Word → List Word → Result Draft Why
outside_line line d w ws = thing_line line d w ws >>= λ found. outside_by found d w ws

-- a line in a prog
unfoldable pub inside_line : Draft → OpenProg → Word → List Word → Result Draft Why
inside_line d p w ws =
    if is_word (codes "done") w then (done_line d.progs p ws >>= λ x. Ok (record d { progs = x }))
    else (instr_line d p w ws >>= λ x. Ok (record d { progs = record d.progs { current = Some x } }))

-- the draft while a line of its prog is read: the prog is taken out, and comes back with what the line adds
abbrev pub without_prog : Draft → Draft
without_prog d = record d { progs = record d.progs { current = None } }

abbrev pub statement_by : Option OpenProg → ℕ → Draft → Word → List Word → Result Draft Why
statement_by (Some p) line d w ws = inside_line (without_prog d) p w ws
statement_by None line d w ws = outside_line line d w ws

-- a line's words
abbrev pub statement : ℕ → Draft → List Word → Result Draft Why
statement line d [] = Ok d
statement line d (w ∷ ws) = statement_by d.progs.current line d w ws

-- one line: looked at for its bytes, then for its quotes, and then word by word; a line that says nothing for its bytes alone
unfoldable pub line_of : ℕ → Draft → List ℕ → Result Draft Why
line_of line d text =
    if not (is_utf8 text) || not (is_text text) then Err whys.BadByte
    else if is_skipped text then Ok d
    else (present whys.BadQuote (words_of text) >>= λ ws. statement line d ws)

abbrev pub next_lines : ℕ → Result Draft Why → (Draft → Result Draft (ℕ × Why)) → Result Draft (ℕ × Why)
next_lines line (Ok d) rest = rest d
next_lines line (Err why) rest = Err (line, why)

-- the lines from this number on: the first fault is that of the first line that has one
abbrev pub read_lines : ℕ → Draft → List (List ℕ) → Result Draft (ℕ × Why)
read_lines line d [] = Ok d
read_lines line d (l ∷ ls) = next_lines line (line_of line d l) (λ after. read_lines (line + 1) after ls)

-- the line of the first channel without both ends
abbrev pub lone : List ChanEnds → Option ℕ
lone [] = None
lone (c ∷ cs) = if c.written && c.read then lone cs else Some c.line

abbrev pub ends_by : Option ℕ → Draft → Result Pipeline (ℕ × Why)
ends_by None d = Ok (pipeline_of d)
ends_by (Some line) d = Err (line, whys.NoBothEnds)

-- where no thread runs a prog, each channel has both ends
abbrev pub with_ends : Draft → Result Pipeline (ℕ × Why)
with_ends d = if d.procs.coded then Ok (pipeline_of d) else ends_by (lone d.chans.ends) d

-- a prog has no `done`
abbrev pub is_open : Option OpenProg → Bool
is_open None = false
is_open (Some p) = true

-- there is a thread, and each prog is done
abbrev pub lacks_thread : Draft → Bool
lacks_thread d = is_open d.progs.current || not (nat_lt 0 (length d.procs.thread_names))

-- the last line, or line 1 of an empty text
abbrev pub last_line : List (List ℕ) → ℕ
last_line lines = if nat_lt 0 (length lines) then length lines else 1

-- the faults of the whole text, which come only where no line has one
unfoldable pub whole : ℕ → Draft → Result Pipeline (ℕ × Why)
whole last d = if lacks_thread d then Err (last, whys.NoThread) else with_ends d

abbrev pub whole_of : List (List ℕ) → Result Draft (ℕ × Why) → Result Pipeline (ℕ × Why)
whole_of lines (Ok d) = whole (last_line lines) d
whole_of lines (Err fault) = Err fault

-- a text: the pipeline that it means, or the line of its first fault and what is wrong there
unfoldable pub reading : List ℕ → Result Pipeline (ℕ × Why)
reading text = if nat_lt MOST_TEXT_BYTES (length text) then Err (1, whys.TooLong) else whole_of (lines_of text) (read_lines 1 nothing (lines_of text))

-- The text means this pipeline.
abbrev pub Means : List ℕ → Pipeline → Type 0
Means text p = reading text ≡ Ok p

-- The text's first fault is on this line, and is this.
abbrev pub IsFaulty : List ℕ → ℕ → Why → Type 0
IsFaulty text line why = reading text ≡ Err (line, why)
