-- What number digits spell
use Rattle.std.specs.Prelude.{ℕ, Bool, ◌+◌, ◌-◌, ◌*◌, ◌^◌, ◌&&◌, List, [], ◌∷◌, length, Option, Some, None, nat_lt, if◌then◌else◌}
use Rattle.std.specs.Str.{all_ascii_digits}

-- the value of digits behind others whose value is n
abbrev pub value_on : ℕ → List ℕ → ℕ
value_on n [] = n
value_on n (d ∷ ds) = value_on (10 * n + (d - 48)) ds

-- one or more digits, with a value below 2 ^ 64
abbrev pub is_number : List ℕ → Bool
is_number bytes = nat_lt 0 (length bytes) && (all_ascii_digits bytes && nat_lt (value_on 0 bytes) (2 ^ 64))

-- the number that the digits spell, if they are one
abbrev pub number_of : List ℕ → Option ℕ
number_of bytes = if is_number bytes then Some (value_on 0 bytes) else None
