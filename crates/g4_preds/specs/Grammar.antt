-- The grammar of predicates, over their tokens.
--
--     or   : and ('||' and)* ;
--     and  : not ('&&' not)* ;
--     not  : '!' not | prim ;
--     prim : 'true' | 'false' | 'flag' '(' NAME ')' | 'inside' '(' NAME ')'
--          | 'text' '(' k ')' '==' LITERAL | '(' or ')' ;
use Rattle.std.specs.Prelude.{ℕ, true, false, List, [], ◌∷◌, ◌++◌, codes}
use Rattle.g4_preds.specs.declared.node.Test.{Test}
use Rattle.g4_preds.specs.declared.node.Test.TheVariants.{Constant, Flag, Inside, TextIs}
use Rattle.g4_preds.specs.declared.token.Token.{Token}
use Rattle.g4_preds.specs.declared.token.Token.TheVariants.{Name, Digit, Literal, LeftParenthesis, RightParenthesis, Exclamation, DoubleAmpersand, DoubleBar, DoubleEquals}
use Rattle.g4_preds.specs.Trees.{Tree, test, negation, conjunction, disjunction}

-- the tokens are this test
pub data IsTest : List Token → Test → Type 0 where
  always : IsTest (Name (codes "true") ∷ []) (Constant true)
  never : IsTest (Name (codes "false") ∷ []) (Constant false)
  flag : (name : List ℕ) → IsTest (Name (codes "flag") ∷ LeftParenthesis ∷ Name name ∷ RightParenthesis ∷ []) (Flag name)
  inside : (rule : List ℕ) → IsTest (Name (codes "inside") ∷ LeftParenthesis ∷ Name rule ∷ RightParenthesis ∷ []) (Inside rule)
  text_is : (nth : ℕ) (text : List ℕ) →
      IsTest (Name (codes "text") ∷ LeftParenthesis ∷ Digit nth ∷ RightParenthesis ∷ DoubleEquals ∷ Literal text ∷ []) (TextIs nth text)

mutual
  -- the tokens are this predicate: `||` joins what `&&` joins, from the left
  pub data IsOr : List Token → Tree → Type 0 where
    one_and : (u : List Token) (a : Tree) → IsAnd u a → IsOr u a
    or_more : (u v : List Token) (a b : Tree) → IsOr u a → IsAnd v b → IsOr (u ++ DoubleBar ∷ v) (disjunction a b)

  -- `&&` joins what `!` denies or not, from the left
  pub data IsAnd : List Token → Tree → Type 0 where
    one_not : (u : List Token) (a : Tree) → IsNot u a → IsAnd u a
    and_more : (u v : List Token) (a b : Tree) → IsAnd u a → IsNot v b → IsAnd (u ++ DoubleAmpersand ∷ v) (conjunction a b)

  -- `!` denies what comes directly after it
  pub data IsNot : List Token → Tree → Type 0 where
    denied : (u : List Token) (a : Tree) → IsNot u a → IsNot (Exclamation ∷ u) (negation a)
    as_is : (u : List Token) (a : Tree) → IsPrimary u a → IsNot u a

  -- a test, or a predicate in parentheses
  pub data IsPrimary : List Token → Tree → Type 0 where
    one_test : (u : List Token) (t : Test) → IsTest u t → IsPrimary u (test t)
    enclosed : (u : List Token) (a : Tree) → IsOr u a → IsPrimary (LeftParenthesis ∷ (u ++ RightParenthesis ∷ [])) a
