-- What is looked at up to the end of the token list.
use Rattle.std.specs.Prelude.{ℕ, List, [], ◌∷◌}
use Rattle.g4_net.specs.Network.{ParserNetwork}
use Rattle.g4_net.specs.Configurations.{Config}
use Rattle.g4_net.specs.Lookahead.{Next, IsEmpty, IsOnly, Conflict, LoneState, Alike}

-- the set after a word
abbrev pub After : ParserNetwork → (Config → Type 0) → List ℕ → Config → Type 0
After net C [] = C
After net C (a ∷ w) = After net (Next net C a) w

-- the parser's stack matters after this set
pub record Matters (D : Config → Type 0) : Type 0 where
  pub conflict : Conflict D
  pub none_lone : LoneState D → ⊥

-- SLL looks at another symbol after this set
pub record GoesOn (D : Config → Type 0) : Type 0 where
  pub some : IsEmpty D → ⊥
  pub several : (i : ℕ) → IsOnly D i → ⊥
  pub clear : Matters D → ⊥

-- with full stacks another symbol is looked at after this set
pub record GoesOnFull (D : Config → Type 0) : Type 0 where
  pub some : IsEmpty D → ⊥
  pub several : (i : ℕ) → IsOnly D i → ⊥
  pub unlike : Alike D → ⊥
