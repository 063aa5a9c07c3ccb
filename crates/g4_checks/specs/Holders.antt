-- Which rule holds the place of a fault.
use Rattle.std.specs.Prelude.{◌≡◌, ◌<◌, ℕ, List, Option, Some, None, slice_get}
use Rattle.g4_base.specs.declared.place.Place.{Place}
use Rattle.g4_source.specs.Atoms.{rule_atoms}
use Rattle.g4_source.specs.First.{IsFirst}
use Rattle.g4_source.specs.declared.rule.Rule.{Rule}
use Rattle.g4_checks.specs.Uses.{IsLexerPredicate, IsUnknownPredicate}
use Rattle.g4_checks.specs.declared.references.ReferenceFault.{ReferenceFault}
use Rattle.g4_checks.specs.declared.references.ReferenceFault.TheVariants.{LexerPredicate, UnknownPredicate}

-- a lexer rule with a predicate
abbrev pub HasLexerPredicate : Rule → Type 0
HasLexerPredicate rule = (place : Place) × IsFirst IsLexerPredicate (rule_atoms rule) place

-- a parser rule with a predicate whose text no predicate has
abbrev pub HasUnknownPredicate : Rule → Type 0
HasUnknownPredicate rule = (place : Place) × IsFirst IsUnknownPredicate (rule_atoms rule) place

-- the rule has what the fault is about, at a place
abbrev pub HoldsPlace : ReferenceFault → Rule → Type 0
HoldsPlace (LexerPredicate place) rule = HasLexerPredicate rule
HoldsPlace (UnknownPredicate place) rule = HasUnknownPredicate rule
HoldsPlace fault rule = ⊥

-- the rule with this number, counted from 0, is the first that does
pub record IsHolder (fault : ReferenceFault) (rules : List Rule) (number : ℕ) : Type 0 where
  pub rule : Rule
  pub there : slice_get rules number ≡ Some rule
  pub holds : HoldsPlace fault rule
  pub first : (k : ℕ) (other : Rule) → k < number → slice_get rules k ≡ Some other → HoldsPlace fault other → ⊥

-- no rule holds the place of the fault, or this is the first that does
abbrev pub FindsHolder : ReferenceFault → List Rule → Option ℕ → Type 0
FindsHolder fault rules None = (k : ℕ) (other : Rule) → slice_get rules k ≡ Some other → HoldsPlace fault other → ⊥
FindsHolder fault rules (Some number) = IsHolder fault rules number
