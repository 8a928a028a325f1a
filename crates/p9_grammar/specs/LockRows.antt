-- Instructions on locks, Rendezes and Refs. lock(2), rendezvous(2).
use Rattle.std.specs.Prelude.{List, codes, Option, None, Result, Ok, if◌then◌else◌}
use Rattle.p9_word.specs.declared.words.Word.{Word}
use Rattle.p9_grammar.specs.declared.instr.Instr.{Instr}
use Rattle.p9_grammar.specs.declared.instr.Instr.TheVariants as instr
use Rattle.p9_grammar.specs.declared.why.Why.{Why}
use Rattle.p9_grammar.specs.Sorts.{is_word}
use Rattle.p9_grammar.specs.Draft.{Draft}
use Rattle.p9_grammar.specs.Operands.{named, wide, one, two, made}

-- Locks and QLocks; nothing where it is none of these words
abbrev pub lock_row : Draft → Word → List Word → Result (Option Instr) Why
lock_row d w ws =
    if is_word (codes "rendezvous") w then made (λ x. instr.Rendezvous x.0 x.1) (two wide wide ws)
    else if is_word (codes "lock") w then made instr.Lock (one (named d.locks) ws)
    else if is_word (codes "canlock") w then made instr.CanLock (one (named d.locks) ws)
    else if is_word (codes "unlock") w then made instr.Unlock (one (named d.locks) ws)
    else if is_word (codes "qlock") w then made instr.QLock (one (named d.qlocks) ws)
    else if is_word (codes "canqlock") w then made instr.CanQLock (one (named d.qlocks) ws)
    else if is_word (codes "qunlock") w then made instr.QUnlock (one (named d.qlocks) ws)
    else Ok None

-- RWLocks; nothing where it is none of these words
abbrev pub rwlock_row : Draft → Word → List Word → Result (Option Instr) Why
rwlock_row d w ws =
    if is_word (codes "rlock") w then made instr.RLock (one (named d.rwlocks) ws)
    else if is_word (codes "canrlock") w then made instr.CanRLock (one (named d.rwlocks) ws)
    else if is_word (codes "runlock") w then made instr.RUnlock (one (named d.rwlocks) ws)
    else if is_word (codes "wlock") w then made instr.WLock (one (named d.rwlocks) ws)
    else if is_word (codes "canwlock") w then made instr.CanWLock (one (named d.rwlocks) ws)
    else if is_word (codes "wunlock") w then made instr.WUnlock (one (named d.rwlocks) ws)
    else Ok None

-- Rendezes and Refs; nothing where it is none of these words
abbrev pub rendez_row : Draft → Word → List Word → Result (Option Instr) Why
rendez_row d w ws =
    if is_word (codes "rsleep") w then made instr.RSleep (one (named d.rendezes.names) ws)
    else if is_word (codes "rwakeup") w then made instr.RWakeup (one (named d.rendezes.names) ws)
    else if is_word (codes "rwakeupall") w then made instr.RWakeupAll (one (named d.rendezes.names) ws)
    else if is_word (codes "incref") w then made instr.IncRef (one (named d.refs.names) ws)
    else if is_word (codes "decref") w then made instr.DecRef (one (named d.refs.names) ws)
    else Ok None
