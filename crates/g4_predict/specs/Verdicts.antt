-- The sets that SLL goes through, and when one has a verdict.
use Rattle.std.specs.Prelude.{◌≡◌, ℕ, List}
use Rattle.g4_configs.specs.Configs.{Holds}
use Rattle.g4_configs.specs.Groups.{Same}
use Rattle.g4_net.specs.Configurations.{Config, wildcard, IsRow, IsWithin}
use Rattle.g4_net.specs.Lookahead.{Start, IsEmpty, IsOnly}
use Rattle.g4_net.specs.Network.{ParserNetwork}
use Rattle.g4_lookahead.specs.EndOfList.{GoesOn, Matters}
use Rattle.g4_predict.specs.declared.verdict.Verdict.{Verdict}
use Rattle.g4_predict.specs.declared.verdict.Verdict.TheVariants.{Answer, ErrorAt, Sensitive}
use Rattle.g4_predict.specs.declared.sll.Seen.{Seen}
use Rattle.g4_predict.specs.declared.sll.Seen.TheVariants.{Ended, Onward}

-- SLL ends with this at the set after symbol k
abbrev pub EndsWith : (Config → Type 0) → ℕ → Verdict → Type 0
EndsWith D k (Answer i) = IsOnly D i
EndsWith D k (ErrorAt j) = (j ≡ k) × IsEmpty D
EndsWith D k (Sensitive j) = (j ≡ k) × ((i : ℕ) → IsOnly D i → ⊥) × Matters D

-- the set is the start set of the decision over the allowed alternatives, as if any rule had called the one that is open
pub record IsStartSet (net : ParserNetwork) (d : ℕ) (A : ℕ → Type 0) (C : Config → Type 0) : Type 0 where
  pub members : Same C (Start net d A wildcard)
  pub within : (c : Config) → C c → IsWithin net c
  pub row : (row : List Config) × IsRow row C

-- The set H is the set D, after which SLL looks at another symbol.
pub record IsOnward (net : ParserNetwork) (D H : Config → Type 0) : Type 0 where
  pub members : Same H D
  pub within : (c : Config) → H c → IsWithin net c
  pub row : (row : List Config) × IsRow row H
  pub goes_on : GoesOn H

-- what SLL sees at the next set D, which is that after symbol k
abbrev pub IsSeen : ParserNetwork → (Config → Type 0) → ℕ → Seen → Type 0
IsSeen net D k (Ended verdict) = EndsWith D k verdict
IsSeen net D k (Onward set) = IsOnward net D (Holds set)
