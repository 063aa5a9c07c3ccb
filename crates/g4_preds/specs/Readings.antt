-- The reading of a predicate's text.
use Rattle.std.specs.Prelude.{◌≡◌, ◌≤◌, ℕ, List, Result, Ok, Err}
use Rattle.g4_base.specs.declared.place.Place.{Place}
use Rattle.g4_preds.specs.declared.predicate.PredicateFault.{PredicateFault}
use Rattle.g4_preds.specs.declared.predicate.PredicateFault.TheVariants.{Unknown, NoMemory}
use Rattle.g4_preds.specs.declared.token.Token.{Token}
use Rattle.g4_preds.specs.declared.nesting.TheConstants.{MOST_NESTED}
use Rattle.g4_preds.specs.Grammar.{IsOr}
use Rattle.g4_preds.specs.Nesting.{depth_of_or}
use Rattle.g4_preds.specs.Tokens.{AreTokens}
use Rattle.g4_preds.specs.Trees.{Tree}

-- the characters are the text of this predicate, of which so many `(` and `!` are open at once at most as may be
pub record IsPredicate (text : List ℕ) (tree : Tree) : Type 0 where
  pub tokens : List Token
  pub cut : AreTokens text tokens
  pub reads : IsOr tokens tree
  pub within : depth_of_or reads ≤ MOST_NESTED

-- the call answers with the predicate that the text is, or that it is none, at the place given, unless memory runs out
abbrev pub IsReading : List ℕ → Place → Result Tree PredicateFault → Type 0
IsReading text place (Ok tree) = IsPredicate text tree
IsReading text place (Err (Unknown at)) = (at ≡ place) × ((tree : Tree) → IsPredicate text tree → ⊥)
IsReading text place (Err NoMemory) = Unit {0}
