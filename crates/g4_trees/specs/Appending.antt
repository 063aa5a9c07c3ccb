-- What a writer that may run out of memory leaves of the list to which it adds.
use Rattle.std.specs.Prelude.{◌≡◌, ℕ, List, ◌++◌, Result, Ok, Err, ⊤}

-- a front part of these bytes is added
abbrev pub AddsFront : List ℕ → List ℕ → List ℕ → Type 0
AddsFront more old now = (front rest : List ℕ) × (more ≡ front ++ rest) × (now ≡ old ++ front)

-- the bytes are added, or where memory runs out a front part of them, which may be empty
abbrev pub Adds : {E : Type 0} → List ℕ → List ℕ → List ℕ → Result ⊤ E → Type 0
Adds more old now (Ok done) = now ≡ old ++ more
Adds more old now (Err fault) = AddsFront more old now
