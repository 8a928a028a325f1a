-- The statements but `prog` and `thread`, behind their first word.
use Rattle.std.specs.Prelude.{ℕ, ◌+◌, ◌-◌, ◌^◌, ◌&&◌, Bool, true, false, not, List, [], ◌∷◌, ◌++◌, codes, Option, Some, None, Result, Ok, Err, nat_lt, bytes_eq, if◌then◌else◌}
use Rattle.std.specs.List.{list_any}
use Rattle.p9_word.specs.declared.limits.TheConstants.{MOST_PLACES, MOST_CHANNELS, MOST_ELEMENTS, MOST_ELEMENT_BYTES, MOST_LOCKS, MOST_RENDEZES, MOST_REFS, MOST_FILES}
use Rattle.p9_word.specs.declared.words.Word.{Word}
use Rattle.p9_grammar.specs.declared.limits.TheConstants.{MOST_LATER, USUAL_ELEMENT_BYTES}
use Rattle.p9_grammar.specs.declared.why.Why.{Why}
use Rattle.p9_grammar.specs.declared.why.Why.TheVariants as whys
use Rattle.p9_grammar.specs.declared.pipeline.FileDecl.{FileDecl}
use Rattle.p9_grammar.specs.Steps.{◌>>=◌}
use Rattle.p9_grammar.specs.Sorts.{first, the_end, is_word, new_name, known, number_in}
use Rattle.p9_grammar.specs.Draft.{Files, Chans, Rendezes, Refs, Procs, all_procs}

-- `in` or `out`: whether it is `out`
unfoldable pub direction : Word → Result Bool Why
direction w = if is_word (codes "in") w then Ok false else if is_word (codes "out") w then Ok true else Err whys.UnknownStatement

-- one is read and the other written
abbrev pub differ : Bool → Bool → Bool
differ true out = not out
differ false out = out

-- Two files have different paths, also for `-`, unless one is read and the other written and both are `-`.
abbrev pub clashes : Bool → List ℕ → FileDecl → Bool
clashes out path f = bytes_eq path f.path && not (bytes_eq path (codes "-") && differ out f.out)

-- a path that no file before has
abbrev pub new_path : List FileDecl → Bool → List ℕ → Result (Unit {0}) Why
new_path files out path = if list_any (clashes out path) files then Err whys.UsedTwice else Ok tt

-- file NAME in PATH, file NAME out PATH
unfoldable pub file_line : Files → List Word → Result Files Why
file_line f ws = do
  name ← first ws
  names ← new_name MOST_FILES f.names name.0
  way ← first name.1
  out ← direction way.0
  path ← first way.1
  _ ← new_path f.decls out path.0.bytes
  _ ← the_end path.1
  Ok (record f { names = names; decls = f.decls ++ record { name = name.0.bytes; out = out; path = path.0.bytes } ∷ [] })

-- the ELSIZE, or the usual one where it is left out
abbrev pub elsize_of : List Word → Result ℕ Why
elsize_of [] = Ok USUAL_ELEMENT_BYTES
elsize_of (w ∷ ws) = do
  n ← number_in 1 MOST_ELEMENT_BYTES w
  _ ← the_end ws
  Ok n

-- chan NAME CAP, chan NAME CAP ELSIZE, at this line
unfoldable pub chan_line : ℕ → Chans → List Word → Result Chans Why
chan_line line c ws = do
  name ← first ws
  names ← new_name MOST_CHANNELS c.names name.0
  cap ← first name.1
  n ← number_in 0 MOST_ELEMENTS cap.0
  elsize ← elsize_of cap.1
  Ok (record {
    names = names;
    decls = c.decls ++ record { name = name.0.bytes; cap = n; elsize = elsize } ∷ [];
    ends = c.ends ++ record { line = line; written = false; read = false } ∷ [];
  })

-- lock NAME, qlock NAME, rwlock NAME: the names of that sort
unfoldable pub lock_line : List (List ℕ) → List Word → Result (List (List ℕ)) Why
lock_line names ws = do
  name ← first ws
  more ← new_name MOST_LOCKS names name.0
  _ ← the_end name.1
  Ok more

-- rendez NAME QLOCK
unfoldable pub rendez_line : List (List ℕ) → Rendezes → List Word → Result Rendezes Why
rendez_line qlocks r ws = do
  name ← first ws
  names ← new_name MOST_RENDEZES r.names name.0
  lock ← first name.1
  place ← known qlocks lock.0
  _ ← the_end lock.1
  Ok (record { names = names; decls = r.decls ++ record { name = name.0.bytes; qlock = place + 1 } ∷ [] })

-- ref NAME NUMBER
unfoldable pub ref_line : Refs → List Word → Result Refs Why
ref_line r ws = do
  name ← first ws
  names ← new_name MOST_REFS r.names name.0
  value ← first name.1
  n ← number_in 0 (2 ^ 64 - 1) value.0
  _ ← the_end value.1
  Ok (record { names = names; decls = r.decls ++ record { name = name.0.bytes; value = n } ∷ [] })

-- procs and further places together are at most as many as a run has
abbrev pub enough_places : ℕ → ℕ → Result (Unit {0}) Why
enough_places procs later = if nat_lt MOST_PLACES (procs + later) then Err whys.TooMany else Ok tt

-- later N, at most once
unfoldable pub later_line : ℕ → Option ℕ → List Word → Result (Option ℕ) Why
later_line procs (Some n) ws = Err whys.Twice
later_line procs None ws = do
  number ← first ws
  n ← number_in 0 MOST_LATER number.0
  _ ← enough_places procs n
  _ ← the_end number.1
  Ok (Some n)

abbrev pub later_or_none : Option ℕ → ℕ
later_or_none None = 0
later_or_none (Some n) = n

-- proc NAME: threads join it from here on
unfoldable pub proc_line : Option ℕ → Procs → List Word → Result Procs Why
proc_line later p ws = do
  name ← first ws
  names ← new_name (MOST_PLACES - later_or_none later) p.names name.0
  _ ← the_end name.1
  Ok (record p { names = names; done = all_procs p.done p.current; current = Some (record { name = name.0.bytes; threads = [] }) })
