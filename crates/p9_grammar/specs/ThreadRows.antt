-- Instructions on threads and procs. thread(2), notify(2).
use Rattle.std.specs.Prelude.{List, codes, Option, None, Result, Ok, if◌then◌else◌}
use Rattle.p9_word.specs.declared.words.Word.{Word}
use Rattle.p9_grammar.specs.declared.instr.Instr.{Instr}
use Rattle.p9_grammar.specs.declared.instr.Instr.TheVariants as instr
use Rattle.p9_grammar.specs.declared.why.Why.{Why}
use Rattle.p9_grammar.specs.Sorts.{is_word}
use Rattle.p9_grammar.specs.Draft.{Draft}
use Rattle.p9_grammar.specs.Operands.{named, small, wide, text, switch, one, two, three, made, bare}

-- making and ending threads; nothing where it is none of these words
abbrev pub making_row : Draft → Word → List Word → Result (Option Instr) Why
making_row d w ws =
    if is_word (codes "threadcreate") w then made (λ x. instr.ThreadCreate x.0 x.1) (two (named d.progs.names) wide ws)
    else if is_word (codes "proccreate") w then made (λ x. instr.ProcCreate x.0 x.1) (two (named d.progs.names) wide ws)
    else if is_word (codes "threadexits") w then made instr.ThreadExits (one text ws)
    else if is_word (codes "threadexitsall") w then made instr.ThreadExitsAll (one text ws)
    else if is_word (codes "yield") w then bare instr.Yield ws
    else if is_word (codes "threadid") w then bare instr.ThreadId ws
    else if is_word (codes "threadpid") w then made instr.ThreadPid (one small ws)
    else Ok None

-- what a thread and a proc hold; nothing where it is none of these words
abbrev pub data_row : Draft → Word → List Word → Result (Option Instr) Why
data_row d w ws =
    if is_word (codes "threadgetgrp") w then bare instr.ThreadGetGrp ws
    else if is_word (codes "threadsetgrp") w then made instr.ThreadSetGrp (one small ws)
    else if is_word (codes "threadsetname") w then made instr.ThreadSetName (one text ws)
    else if is_word (codes "threadgetname") w then bare instr.ThreadGetName ws
    else if is_word (codes "threaddata") w then bare instr.ThreadWord ws
    else if is_word (codes "threadsetdata") w then made instr.ThreadSetWord (one wide ws)
    else if is_word (codes "procdata") w then bare instr.ProcWord ws
    else if is_word (codes "procsetdata") w then made instr.ProcSetWord (one wide ws)
    else Ok None

-- interrupts, kills and notes; nothing where it is none of these words
abbrev pub signal_row : Draft → Word → List Word → Result (Option Instr) Why
signal_row d w ws =
    if is_word (codes "threadint") w then made instr.ThreadInt (one small ws)
    else if is_word (codes "threadkill") w then made instr.ThreadKill (one small ws)
    else if is_word (codes "threadintgrp") w then made instr.ThreadIntGrp (one small ws)
    else if is_word (codes "threadkillgrp") w then made instr.ThreadKillGrp (one small ws)
    else if is_word (codes "threadnotify") w then made (λ x. instr.ThreadNotify x.0 x.1 x.2) (three small text switch ws)
    else if is_word (codes "postnote") w then made (λ x. instr.PostNote x.0 x.1) (two small text ws)
    else Ok None
