-- Full stacks by framed sets: steps by return states while something is at the hole, and else by the next symbol.
use Rattle.std.specs.Prelude.{◌≡◌, ◌↔◌, ℕ, suc, List, [], ◌∷◌, ◌++◌}
use Rattle.g4_net.specs.Configurations.{Config}
use Rattle.g4_net.specs.Lookahead.{IsEmpty, IsOnly, Alike, IsLeast}
use Rattle.g4_net.specs.Network.{ParserNetwork}
use Rattle.g4_net.specs.Prediction.{Choice, Settles}
use Rattle.g4_frames.specs.Framed.{FramedStart, FramedNext, Lowered, IsDown, Kept}

-- two sets have the same members
abbrev pub AreSame : (Config → Type 0) → (Config → Type 0) → Type 0
AreSame C D = (c : Config) → C c ↔ D c

-- two sets have the same verdicts: nothing left, one alternative, alternatives that are alike, the least alternative
pub record HaveSameVerdicts (D E : Config → Type 0) : Type 0 where
  pub empty : IsEmpty D ↔ IsEmpty E
  pub only : (i : ℕ) → IsOnly D i ↔ IsOnly E i
  pub alike : Alike D ↔ Alike E
  pub least : (i : ℕ) → IsLeast D i ↔ IsLeast E i

-- The set is taken down by the newest of the return states, by so many that nothing is at the hole or none is left. What is then said
-- of the set and of those that are left.
abbrev pub TakesDown : ParserNetwork → (Config → Type 0) → List ℕ → ((Config → Type 0) → List ℕ → Type 0) → Type 0
TakesDown net F below Then = (above rest : List ℕ) × (below ≡ above ++ rest) × IsDown net (Lowered net F above) rest
    × Then (Lowered net F above) rest

-- the answer from a framed set over return states, before symbol k
abbrev pub FramedFrom : ParserNetwork → (Config → Type 0) → List ℕ → List ℕ → ℕ → Choice → Type 0
FramedFrom net F below [] k c = ⊥
FramedFrom net F below (a ∷ w) k c = TakesDown net (FramedNext net F a) below
    (λ G rest. Settles (Kept net G) k (FramedFrom net G rest w (suc k)) c)

-- the answer of a decision by framed sets, over the allowed alternatives and with the parser's return states, newest first
abbrev pub FramedFull : ParserNetwork → ℕ → (ℕ → Type 0) → List ℕ → List ℕ → Choice → Type 0
FramedFull net d A returns w c = TakesDown net (FramedStart net d A) returns (λ G rest. FramedFrom net G rest w 0 c)
