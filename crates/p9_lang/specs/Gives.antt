-- What a reader that may want memory gives.
use Rattle.std.specs.Prelude.{◌≡◌, ℕ, Result, Ok, Err}
use Rattle.p9_grammar.specs.declared.why.Why.{Why}
use Rattle.p9_lang.specs.declared.fault.LineFault.{LineFault}
use Rattle.p9_lang.specs.declared.fault.LineFault.TheVariants as line
use Rattle.p9_lang.specs.declared.fault.ReadFault.{ReadFault}
use Rattle.p9_lang.specs.declared.fault.ReadFault.TheVariants as text

-- a fault is that of what is read, but for want of memory
abbrev pub Fails : {Y : Type 0} → LineFault → Result Y Why → Type 0
Fails line.Memory read = Unit {0}
Fails (line.Text why) read = read ≡ Err why

-- what a function of a line returned, seen by view, is what is read, unless memory was wanted
abbrev pub Gives : {X Y : Type 0} → (X → Y) → Result X LineFault → Result Y Why → Type 0
Gives view (Ok x) read = read ≡ Ok (view x)
Gives view (Err e) read = Fails e read

-- the same of a text, whose faults have their line
abbrev pub FailsAt : {Y : Type 0} → ReadFault → Result Y (ℕ × Why) → Type 0
FailsAt text.Memory read = Unit {0}
FailsAt (text.Text line why) read = read ≡ Err (line, why)

abbrev pub GivesAt : {X Y : Type 0} → (X → Y) → Result X ReadFault → Result Y (ℕ × Why) → Type 0
GivesAt view (Ok x) read = read ≡ Ok (view x)
GivesAt view (Err e) read = FailsAt e read
