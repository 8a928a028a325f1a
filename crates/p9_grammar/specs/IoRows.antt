-- Instructions on ioprocs. An ioproc is named by its file. ioproc(2).
use Rattle.std.specs.Prelude.{List, codes, Option, None, Result, Ok, if◌then◌else◌}
use Rattle.p9_word.specs.declared.words.Word.{Word}
use Rattle.p9_grammar.specs.declared.instr.Instr.{Instr}
use Rattle.p9_grammar.specs.declared.instr.Instr.TheVariants as instr
use Rattle.p9_grammar.specs.declared.why.Why.{Why}
use Rattle.p9_grammar.specs.Sorts.{is_word}
use Rattle.p9_grammar.specs.Draft.{Draft}
use Rattle.p9_grammar.specs.Operands.{named, small, text, one, two, three, made}

-- ioprocs and their calls; nothing where it is none of these words
abbrev pub io_row : Draft → Word → List Word → Result (Option Instr) Why
io_row d w ws =
    if is_word (codes "ioproc") w then made instr.IoProc (one (named d.files.names) ws)
    else if is_word (codes "ioopen") w then made instr.IoOpen (one (named d.files.names) ws)
    else if is_word (codes "ioread") w then made (λ x. instr.IoRead x.0 x.1) (two (named d.files.names) small ws)
    else if is_word (codes "ioreadn") w then made (λ x. instr.IoReadN x.0 x.1) (two (named d.files.names) small ws)
    else if is_word (codes "iowrite") w then made (λ x. instr.IoWrite x.0 x.1) (two (named d.files.names) text ws)
    else if is_word (codes "ioclose") w then made instr.IoClose (one (named d.files.names) ws)
    else if is_word (codes "iocall") w then made (λ x. instr.IoOwn x.0 x.1 x.2) (three (named d.files.names) small text ws)
    else if is_word (codes "iointerrupt") w then made instr.IoInterrupt (one (named d.files.names) ws)
    else if is_word (codes "closeioproc") w then made instr.CloseIoProc (one (named d.files.names) ws)
    else Ok None
