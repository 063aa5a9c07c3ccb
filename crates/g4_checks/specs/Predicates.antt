-- The predicates of rules, and the rules that they name.
use Rattle.std.specs.Prelude.{◌≡◌, ℕ, List, [], ◌∷◌, Bool, false, ◌==◌, if◌then◌else◌, reverse}
use Rattle.std.specs.List.{AllZip}
use Rattle.std.specs.Str.{chars}
use Rattle.g4_source.specs.declared.name.Name.{Name}
use Rattle.g4_preds.specs.Readings.{IsPredicate}
use Rattle.g4_preds.specs.Trees.{Tree, rules_of}
use Rattle.g4_source.specs.First.{IsFirst}

-- the text without its first byte, if that is `byte`
abbrev pub without_first : ℕ → List ℕ → List ℕ
without_first byte [] = []
without_first byte (b ∷ bs) = if b == byte then bs else b ∷ bs

-- the text without its last byte, if that is `byte`
abbrev pub without_last : ℕ → List ℕ → List ℕ
without_last byte text = reverse (without_first byte (reverse text))

-- the text of a predicate, which is written `{..}`: what is left of the action without its braces
abbrev pub text_of_predicate : List ℕ → List ℕ
text_of_predicate action = without_last 125 (without_first 123 action)

-- the predicate with this action, as it is written, is this tree
abbrev pub IsRead : List ℕ → Tree → Type 0
IsRead action tree = IsPredicate (chars (text_of_predicate action)) tree

abbrev pub Reads : Name → Tree → Type 0
Reads written tree = IsRead written.text tree

-- the predicates with these actions are these trees, one for each, in order
abbrev pub ArePredicates : List (List ℕ) → List Tree → Type 0
ArePredicates actions trees = AllZip IsRead actions trees

-- n is this name, and no rule has it
abbrev pub IsMissing : (List ℕ → Bool) → List ℕ → List ℕ → Type 0
IsMissing is_rule name n = (n ≡ name) × (is_rule name ≡ false)

-- n is the first of the rules named in the predicate with this action that is not there
pub record NamesMissing (is_rule : List ℕ → Bool) (written : Name) (n : List ℕ) : Type 0 where
  pub tree : Tree
  pub reads : Reads written tree
  pub missing : IsFirst (IsMissing is_rule) (rules_of tree) n
