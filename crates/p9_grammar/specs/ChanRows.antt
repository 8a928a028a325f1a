-- Instructions on channels but alt. thread(2).
use Rattle.std.specs.Prelude.{Bool, true, false, List, [], ◌∷◌, codes, Option, None, Result, Ok, Err, if◌then◌else◌}
use Rattle.p9_word.specs.declared.words.Word.{Word}
use Rattle.p9_grammar.specs.declared.instr.Instr.{Instr}
use Rattle.p9_grammar.specs.declared.instr.Instr.TheVariants as instr
use Rattle.p9_grammar.specs.declared.why.Why.{Why}
use Rattle.p9_grammar.specs.declared.why.Why.TheVariants as whys
use Rattle.p9_grammar.specs.declared.instr.Num.{Num}
use Rattle.p9_grammar.specs.declared.instr.Given.{Given}
use Rattle.p9_grammar.specs.declared.instr.Given.TheVariants as givens
use Rattle.p9_grammar.specs.Steps.{◌>>=◌}
use Rattle.p9_grammar.specs.Sorts.{first, the_end, is_word}
use Rattle.p9_grammar.specs.Draft.{Draft}
use Rattle.p9_grammar.specs.Operands.{named, small, wide, text, one, two, made}

-- what a send sends: a bare `-` is zeros
unfoldable pub given : Word → Result Given Why
given w = if is_word (codes "-") w then Ok givens.Zeros else (text w >>= λ x. Ok (givens.Value x))

-- C TO-SEND
abbrev pub sent : Draft → List Word → Result (Num × Given) Why
sent d ws = two (named d.chans.names) given ws

-- whether a receive keeps the value: it does, but for a bare `-`
unfoldable pub keeps : List Word → Result Bool Why
keeps [] = Ok true
keeps (w ∷ ws) = if is_word (codes "-") w then (the_end ws >>= λ _. Ok false) else Err whys.UnknownInstruction

-- C, C -
unfoldable pub received : Draft → List Word → Result (Num × Bool) Why
received d ws = do
  w ← first ws
  chan ← named d.chans.names w.0
  keep ← keeps w.1
  Ok (chan, keep)

-- channels themselves; nothing where it is none of these words
abbrev pub chan_row : Draft → Word → List Word → Result (Option Instr) Why
chan_row d w ws =
    if is_word (codes "chancreate") w then made (λ x. instr.ChanCreate x.0 x.1) (two small small ws)
    else if is_word (codes "chanfree") w then made instr.ChanFree (one (named d.chans.names) ws)
    else if is_word (codes "chanclose") w then made instr.ChanClose (one (named d.chans.names) ws)
    else if is_word (codes "chanclosing") w then made instr.ChanClosing (one (named d.chans.names) ws)
    else Ok None

-- sends; nothing where it is none of these words
abbrev pub send_row : Draft → Word → List Word → Result (Option Instr) Why
send_row d w ws =
    if is_word (codes "send") w then made (λ x. instr.Send x.0 x.1) (sent d ws)
    else if is_word (codes "nbsend") w then made (λ x. instr.NbSend x.0 x.1) (sent d ws)
    else if is_word (codes "sendul") w then made (λ x. instr.SendUl x.0 x.1) (two (named d.chans.names) wide ws)
    else if is_word (codes "nbsendul") w then made (λ x. instr.NbSendUl x.0 x.1) (two (named d.chans.names) wide ws)
    else if is_word (codes "chanprint") w then made (λ x. instr.ChanPrint x.0 x.1) (two (named d.chans.names) text ws)
    else Ok None

-- receives; nothing where it is none of these words
abbrev pub receive_row : Draft → Word → List Word → Result (Option Instr) Why
receive_row d w ws =
    if is_word (codes "recv") w then made (λ x. instr.Recv x.0 x.1) (received d ws)
    else if is_word (codes "nbrecv") w then made (λ x. instr.NbRecv x.0 x.1) (received d ws)
    else if is_word (codes "recvul") w then made instr.RecvUl (one (named d.chans.names) ws)
    else if is_word (codes "nbrecvul") w then made instr.NbRecvUl (one (named d.chans.names) ws)
    else Ok None
