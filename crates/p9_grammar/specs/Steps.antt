-- One step of reading after another: the first that finds a fault decides.
use Rattle.std.specs.Prelude.{Result, Ok, Err, Option, Some, None}
use Rattle.p9_grammar.specs.declared.why.Why.{Why}

-- a step, and then another unless the first found a fault
infixl 10 ◌>>=◌
abbrev pub ◌>>=◌ : {A B : Type 0} → Result A Why → (A → Result B Why) → Result B Why
(Ok x) >>= f = f x
(Err why) >>= f = Err why

-- what must be there
abbrev pub present : {A : Type 0} → Why → Option A → Result A Why
present why None = Err why
present why (Some x) = Ok x
