-- The lines of a prog: instructions, blocks, and `done`.
use Rattle.std.specs.Prelude.{◌+◌, ◌-◌, ◌==◌, ◌||◌, true, false, List, [], ◌∷◌, ◌++◌, codes, Option, Some, None, Result, Ok, Err, nat_le, if◌then◌else◌}
use Rattle.p9_word.specs.declared.words.Word.{Word}
use Rattle.p9_grammar.specs.declared.limits.TheConstants.{MOST_DEPTH, MOST_TURNS, MOST_PROGS}
use Rattle.p9_grammar.specs.declared.instr.Instr.{Instr}
use Rattle.p9_grammar.specs.declared.instr.Instr.TheVariants as instr
use Rattle.p9_grammar.specs.declared.why.Why.{Why}
use Rattle.p9_grammar.specs.declared.why.Why.TheVariants as whys
use Rattle.p9_grammar.specs.Steps.{◌>>=◌, present}
use Rattle.p9_grammar.specs.Sorts.{first, the_end, is_word, new_name, number_in}
use Rattle.p9_grammar.specs.Draft.{OpenProg, Progs, Draft}
use Rattle.p9_grammar.specs.Operands.{one}
use Rattle.p9_grammar.specs.ThreadRows.{making_row, data_row, signal_row}
use Rattle.p9_grammar.specs.ChanRows.{chan_row, send_row, receive_row}
use Rattle.p9_grammar.specs.AltLines.{alt_row}
use Rattle.p9_grammar.specs.LockRows.{lock_row, rwlock_row, rendez_row}
use Rattle.p9_grammar.specs.IoRows.{io_row}

-- prog NAME: instructions come from here on
unfoldable pub prog_line : Progs → List Word → Result Progs Why
prog_line p ws = do
  name ← first ws
  names ← new_name MOST_PROGS p.names name.0
  _ ← the_end name.1
  Ok (record p { names = names; current = Some (record { name = name.0.bytes; code = []; depth = 0; loops = false }) })

-- what a group of words reads, or what the next group does where it is none of its words
abbrev pub or_else : Result (Option Instr) Why → Result (Option Instr) Why → Result (Option Instr) Why
or_else (Err why) next = Err why
or_else (Ok (Some i)) next = Ok (Some i)
or_else (Ok None) next = next

-- an instruction that makes a request, by its word
abbrev pub request_row : Draft → Word → List Word → Result (Option Instr) Why
request_row d w ws =
    or_else (making_row d w ws) (or_else (data_row d w ws) (or_else (signal_row d w ws) (or_else (chan_row d w ws)
    (or_else (send_row d w ws) (or_else (receive_row d w ws) (or_else (alt_row d w ws) (or_else (lock_row d w ws)
    (or_else (rwlock_row d w ws) (or_else (rendez_row d w ws) (io_row d w ws))))))))))

-- the prog with one more instruction
abbrev pub with_instr : OpenProg → Instr → OpenProg
with_instr p i = record p { code = p.code ++ i ∷ []; loops = false }

-- no line of its own kind may be the first of a loop, which has to make a request
abbrev pub not_first : OpenProg → Result (Unit {0}) Why
not_first p = if p.loops then Err whys.BadBlock else Ok tt

-- one block more is one that a prog may have
abbrev pub enough_depth : OpenProg → Result (Unit {0}) Why
enough_depth p = if p.loops || nat_le MOST_DEPTH p.depth then Err whys.BadBlock else Ok tt

-- some block is open
abbrev pub in_block : OpenProg → Result (Unit {0}) Why
in_block p = if p.loops || p.depth == 0 then Err whys.BadBlock else Ok tt

-- no block is open
abbrev pub no_block : OpenProg → Result (Unit {0}) Why
no_block p = if p.depth == 0 then Ok tt else Err whys.BadBlock

-- loop N: the next line must make a request
unfoldable pub loop_line : OpenProg → List Word → Result OpenProg Why
loop_line p ws = do
  _ ← enough_depth p
  n ← one (number_in 1 MOST_TURNS) ws
  Ok (record p { code = p.code ++ instr.Loop n ∷ []; depth = p.depth + 1; loops = true })

-- ifok, iferr
unfoldable pub if_line : Instr → OpenProg → List Word → Result OpenProg Why
if_line i p ws = do
  _ ← enough_depth p
  _ ← the_end ws
  Ok (record p { code = p.code ++ i ∷ []; depth = p.depth + 1 })

-- end: the innermost block ends
unfoldable pub end_line : OpenProg → List Word → Result OpenProg Why
end_line p ws = do
  _ ← in_block p
  _ ← the_end ws
  Ok (record p { code = p.code ++ instr.End ∷ []; depth = p.depth - 1 })

-- stop
unfoldable pub stop_line : OpenProg → List Word → Result OpenProg Why
stop_line p ws = do
  _ ← not_first p
  _ ← the_end ws
  Ok (with_instr p instr.Stop)

-- an instruction that makes a request
unfoldable pub request_line : Draft → OpenProg → Word → List Word → Result OpenProg Why
request_line d p w ws = do
  found ← request_row d w ws
  i ← present whys.UnknownInstruction found
  Ok (with_instr p i)

-- an instruction, by its word
abbrev pub instr_line : Draft → OpenProg → Word → List Word → Result OpenProg Why
instr_line d p w ws =
    if is_word (codes "loop") w then loop_line p ws
    else if is_word (codes "ifok") w then if_line instr.IfOk p ws
    else if is_word (codes "iferr") w then if_line instr.IfErr p ws
    else if is_word (codes "end") w then end_line p ws
    else if is_word (codes "stop") w then stop_line p ws
    else request_line d p w ws

-- done: the prog is whole
unfoldable pub done_line : Progs → OpenProg → List Word → Result Progs Why
done_line s p ws = do
  _ ← no_block p
  _ ← the_end ws
  Ok (record s { done = s.done ++ record { name = p.name; code = p.code } ∷ []; current = None })
