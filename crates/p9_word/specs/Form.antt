-- the bytes of a message, by its form
use Rattle.std.specs.Prelude.{ℕ, List, ◌≤◌, take}
use Rattle.p9_word.specs.declared.msg.Form.{Form}
use Rattle.p9_word.specs.declared.msg.Form.TheVariants.{Short, Shared, Sole}

abbrev pub bytes_of : Form → List ℕ
bytes_of (Short len bytes) = take len bytes
bytes_of (Shared a) = a.value.items
bytes_of (Sole b) = b.value.items

-- a short form has no more bytes than fit in place
abbrev pub IsForm : Form → Type 0
IsForm (Short len bytes) = len ≤ 14
IsForm (Shared a) = Unit {0}
IsForm (Sole b) = Unit {0}
