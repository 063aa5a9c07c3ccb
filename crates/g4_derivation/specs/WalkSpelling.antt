-- Where alternatives of rules begin, as the rules are written: what is read from there, and which number is written there.
use Rattle.std.specs.Prelude.{◌≡◌, ℕ, List, [], Some}
use Rattle.g4_source.specs.Elements.{atom, Elements, then}
use Rattle.g4_grammar.specs.declared.step.Step.{Step}
use Rattle.g4_grammar.specs.declared.step.Step.TheVariants.{Call}
use Rattle.g4_grammar.specs.Derives.{NoCalls, DerivesAll}
use Rattle.g4_grammar.specs.StepRules.{StepRule}
use Rattle.g4_net.specs.declared.network.State.TheVariants.{End}
use Rattle.g4_net.specs.Network.{ParserNetwork, state_at, end_of, written_at}
use Rattle.g4_derivation.specs.Alternatives.{IsWrittenAs, IsNoLevel}
use Rattle.g4_derivation.specs.Walks.{NoLevel, ReadsLetter, Walk, WalksTo}

module _ {C : Type 0} (Takes : List ℕ → C → Type 0) (Names : ℕ → C → Type 0) (net : ParserNetwork) where
  -- what the elements derive
  abbrev pub Spelled : Elements (Step (List ℕ)) → List C → Type 0
  Spelled = DerivesAll (ReadsLetter Takes Names NoLevel) NoCalls []

  -- The elements are spelled from the state p on, where no level is passed: a walk to an end of a rule reads a word that they derive,
  -- and each such word is read by a walk to the end of rule k.
  pub record IsSpelled (k : ℕ) (x : Elements (Step (List ℕ))) (p : ℕ) : Type 0 where
    pub derives : (e ended n : ℕ) (w : List C) → state_at net e ≡ Some (End ended) → Walk Takes Names NoLevel net n p e w → Spelled x w
    pub walks : (w : List C) → Spelled x w → WalksTo Takes Names NoLevel net p (end_of k) w

  -- one of the alternatives of rule k begins at the state p, which has its number and is no level, and is spelled from there on
  pub record BeginsWritten (rules : List StepRule) (k p : ℕ) : Type 0 where
    pub number : ℕ
    pub elements : Elements (Step (List ℕ))
    pub written : IsWrittenAs rules k number elements
    pub shown : written_at net p ≡ number
    pub spelled : IsSpelled k elements p
    pub no_level : IsNoLevel net p

  -- One of the operators of rule k begins at the state p, which has its number: it is a reference to the rule itself and then
  -- elements that are spelled from t on, which is no level.
  pub record BeginsOperator (rules : List StepRule) (k p t : ℕ) : Type 0 where
    pub number : ℕ
    pub level : ℕ
    pub elements : Elements (Step (List ℕ))
    pub written : IsWrittenAs rules k number (then (atom (Call k level)) elements)
    pub shown : written_at net p ≡ number
    pub spelled : IsSpelled k elements t
    pub no_level : IsNoLevel net t
