-- How deep the parentheses and negations of a predicate are nested.
use Rattle.std.specs.Prelude.{ℕ, ◌+◌, List, max}
use Rattle.g4_preds.specs.declared.node.Test.{Test}
use Rattle.g4_preds.specs.declared.node.Test.TheVariants.{Constant, Flag, Inside, TextIs}
use Rattle.g4_preds.specs.declared.token.Token.{Token}
use Rattle.g4_preds.specs.Grammar.{IsOr, IsAnd, IsNot, IsPrimary, one_and, or_more, one_not, and_more, denied, as_is, one_test, enclosed}
use Rattle.g4_preds.specs.Trees.{Tree}

-- how many parentheses of a test are open at once at most
abbrev pub depth_of_test : Test → ℕ
depth_of_test (Constant value) = 0
depth_of_test (Flag name) = 1
depth_of_test (Inside rule) = 1
depth_of_test (TextIs nth text) = 1

abbrev mutual
  -- how many `(` and `!` of a predicate are open at once at most: a `!` is open up to the end of what it denies
  pub depth_of_or : {u : List Token} {a : Tree} → IsOr u a → ℕ
  depth_of_or (one_and u a x) = depth_of_and x
  depth_of_or (or_more u v a b x y) = max (depth_of_or x) (depth_of_and y)

  pub depth_of_and : {u : List Token} {a : Tree} → IsAnd u a → ℕ
  depth_of_and (one_not u a x) = depth_of_not x
  depth_of_and (and_more u v a b x y) = max (depth_of_and x) (depth_of_not y)

  pub depth_of_not : {u : List Token} {a : Tree} → IsNot u a → ℕ
  depth_of_not (denied u a x) = 1 + depth_of_not x
  depth_of_not (as_is u a x) = depth_of_primary x

  pub depth_of_primary : {u : List Token} {a : Tree} → IsPrimary u a → ℕ
  depth_of_primary (one_test u t is) = depth_of_test t
  depth_of_primary (enclosed u a x) = 1 + depth_of_or x
