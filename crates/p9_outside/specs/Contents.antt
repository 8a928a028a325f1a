-- What Files do with their contents, where they tell them.
use Rattle.std.specs.Prelude.{ℕ, ◌≡◌, ◌≢◌, List, [], Option, Some, None, ⊤}

-- contents by path, where they are told; a path without contents has None
abbrev pub Told : Type 0
Told = Option (List ℕ → Option (List ℕ))

-- all contents stay, and stay told
abbrev pub Stay : Told → Told → Type 0
Stay None new = ⊤
Stay (Some f) None = ⊥
Stay (Some f) (Some g) = (p : List ℕ) → g p ≡ f p

-- a source begins with the contents of its path
abbrev pub Opens : Told → List ℕ → Option (List ℕ) → Type 0
Opens None path left = ⊤
Opens (Some f) path None = ⊥
Opens (Some f) path (Some bs) = f path ≡ Some bs

-- a sink begins empty
abbrev pub IsFresh : Told → Option (List ℕ) → Type 0
IsFresh None held = ⊤
IsFresh (Some f) None = ⊥
IsFresh (Some f) (Some bs) = bs ≡ []

-- the contents of one path are now these, and those of every other path stay
abbrev pub Puts : Told → Told → List ℕ → Option (List ℕ) → Type 0
Puts None new path held = ⊤
Puts (Some f) None path held = ⊥
Puts (Some f) (Some g) path held = (g path ≡ held) × ((p : List ℕ) → p ≢ path → g p ≡ f p)
