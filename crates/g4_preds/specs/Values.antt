-- The values of predicates.
use Rattle.std.specs.Prelude.{ℕ, ◌-◌, List, Bool, not, ◌&&◌, ◌||◌, codes, get_or}
use Rattle.std.specs.List.{list_any}
use Rattle.std.specs.Str.{bytes_eq}
use Rattle.g4_preds.specs.declared.node.Test.{Test}
use Rattle.g4_preds.specs.declared.node.Test.TheVariants.{Constant, Flag, Inside, TextIs}
use Rattle.g4_preds.specs.Trees.{Tree, test, negation, conjunction, disjunction}

-- What a predicate is evaluated on: the flags that were given, the names of the open rules, and the texts of the tokens from here on.
pub record Moment : Type 0 where
  pub flags : List (List ℕ)
  pub open_rules : List (List ℕ)
  pub texts : List (List ℕ)

-- the name is one of these
abbrev pub is_among : List (List ℕ) → List ℕ → Bool
is_among names name = list_any (bytes_eq name) names

-- The text of the token of this number, where the first of these has the number 1. After the last there is the end of the file.
abbrev pub text_of_token : List (List ℕ) → ℕ → List ℕ
text_of_token texts nth = get_or texts (nth - 1) (codes "<EOF>")

-- whether the test holds
abbrev pub holds : Moment → Test → Bool
holds m (Constant value) = value
holds m (Flag name) = is_among m.flags name
holds m (Inside rule) = is_among m.open_rules rule
holds m (TextIs nth text) = bytes_eq (text_of_token m.texts nth) text

-- whether the predicate does
abbrev pub value : Moment → Tree → Bool
value m (test t) = holds m t
value m (negation a) = not (value m a)
value m (conjunction a b) = value m a && value m b
value m (disjunction a b) = value m a || value m b
