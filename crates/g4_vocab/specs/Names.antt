-- Rules that have one name.
use Rattle.std.specs.Prelude.{◌≡◌, ℕ, List, [], ◌∷◌, ◌++◌, Option, Some, None, cond, Result, Ok, Err, ⊤}
use Rattle.std.specs.List.{list_any}
use Rattle.std.specs.Str.{bytes_eq}
use Rattle.g4_source.specs.Rules.{rule_name}
use Rattle.g4_source.specs.declared.rule.Rule.{Rule}
use Rattle.g4_vocab.specs.declared.twice.NameFault.{NameFault}
use Rattle.g4_vocab.specs.declared.twice.NameFault.TheVariants.{RuleTwice, NoMemory}

-- the first name among the rules that one of these names or an earlier rule has
abbrev pub first_repeated : List (List ℕ) → List Rule → Option (List ℕ)
first_repeated earlier [] = None
first_repeated earlier (rule ∷ rules) = cond (list_any (bytes_eq (rule_name rule)) earlier) (Some (rule_name rule))
    (first_repeated (earlier ++ rule_name rule ∷ []) rules)

-- the call answers that no name is used twice, or with the name of the first repetition, unless memory runs out
abbrev pub HasOwnNames : List Rule → Result ⊤ NameFault → Type 0
HasOwnNames rules (Ok _) = first_repeated [] rules ≡ None
HasOwnNames rules (Err (RuleTwice name)) = first_repeated [] rules ≡ Some name
HasOwnNames rules (Err NoMemory) = Unit {0}
