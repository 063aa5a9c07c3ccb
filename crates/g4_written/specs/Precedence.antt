-- What precedence means in a tree: which operators can be in the right operand of another, in the nodes of left-recursive rules as they
-- are written.
use Rattle.std.specs.Prelude.{◌≡◌, ◌≤◌, ℕ, ◌+◌, List, true, Some, None, length, slice_get}
use Rattle.g4_source.specs.Elements.{Elements}
use Rattle.g4_grammar.specs.StepRules.{StepRule}
use Rattle.g4_leftrec.specs.OwnCalls.{LastSelf, after_self, before_self, is_left_recursive}
use Rattle.g4_leftrec.specs.OwnSteps.{calls, is_silent}
use Rattle.g4_leftrec.specs.Rewriting.{StepIn, Written, operand_level, precedence}
use Rattle.g4_trees.specs.Trees.{Tree, leaf, node, Forest, no_tree, a_tree}

-- the first of some trees
abbrev pub IsFirstTree : Forest → Tree → Type 0
IsFirstTree no_tree t = ⊥
IsFirstTree (a_tree u more) t = t ≡ u

-- and the last
abbrev pub IsLastTree : Forest → Tree → Type 0
IsLastTree no_tree t = ⊥
IsLastTree (a_tree u no_tree) t = t ≡ u
IsLastTree (a_tree u (a_tree v more)) t = IsLastTree (a_tree v more) t

module _ (rules : List StepRule) where
  -- This is rule k, and one of its alternatives begins with the rule itself. Rules count from 1.
  pub record IsLeftRecursive (k : ℕ) (rule : StepRule) : Type 0 where
    pub place : ℕ
    pub is : slice_get rules place ≡ Some rule
    pub number : k ≡ place + 1
    pub recursive : is_left_recursive (calls k) rule.alternatives ≡ true

  -- This is alternative i of rule k, which is left-recursive and has n alternatives. They count from 1.
  pub record IsAlternativeOf (k i n : ℕ) (a : Written) : Type 0 where
    pub rule : StepRule
    pub rule_is : IsLeftRecursive k rule
    pub index : ℕ
    pub is : slice_get rule.alternatives index ≡ Some a
    pub number : i ≡ index + 1
    pub count : n ≡ length rule.alternatives

  -- alternative i of rule k is an operator of precedence p: it begins with the rule itself
  abbrev pub IsOperatorOf : ℕ → ℕ → ℕ → Type 0
  IsOperatorOf k i p = (n : ℕ) × (a : Written) × (rest : Elements StepIn) × IsAlternativeOf k i n a
      × (after_self (calls k) a.elements ≡ Some rest) × (p ≡ precedence n i)

  -- Alternative i of rule k has a right operand, in which operators need at least precedence q: the rule itself is its last element, but
  -- for predicates and actions.
  pub data HasOperand (k i : ℕ) : ℕ → Type 0 where
    -- an operator `e x e`: its own precedence where it is right associative, or else one more
    of_operator : (n : ℕ) (a : Written) (rest : Elements StepIn) (last : LastSelf StepIn) → IsAlternativeOf k i n a
        → after_self (calls k) a.elements ≡ Some rest → before_self (calls k) is_silent rest ≡ Some last
        → HasOperand k i (operand_level (precedence n i) a.right)
    -- a prefix operator `x e`: its own precedence
    of_prefix : (n : ℕ) (a : Written) (last : LastSelf StepIn) → IsAlternativeOf k i n a → after_self (calls k) a.elements ≡ None
        → before_self (calls k) is_silent a.elements ≡ Some last → HasOperand k i (precedence n i)

  -- A node of rule k whose operators have at least precedence q: itself, if it is one, then its first child, the first child of that, and
  -- so on down to a node that is no operator.
  pub data HasOperatorsFrom (k q : ℕ) : Tree → Type 0 where
    a_primary : (i at : ℕ) (children : Forest) → ((p : ℕ) → IsOperatorOf k i p → ⊥) → HasOperatorsFrom k q (node k i at children)
    an_operator : (i at p : ℕ) (children : Forest) (left : Tree) → IsOperatorOf k i p → q ≤ p → IsFirstTree children left
        → HasOperatorsFrom k q left → HasOperatorsFrom k q (node k i at children)

  abbrev mutual
    -- In each node of the tree whose alternative has a right operand, the last child, which is this operand, has operators from the
    -- precedence on that the alternative asks for. Nothing is said of other children, nor of what is in the operand but not among its
    -- first children: so not of what is after a prefix operator in it, as `+` in the operand of `*` in `1 * - 2 + 3`.
    pub KeepsPrecedence : Tree → Type 0
    KeepsPrecedence (leaf at) = Unit {0}
    KeepsPrecedence (node k i at children) = ((q : ℕ) (t : Tree) → HasOperand k i q → IsLastTree children t → HasOperatorsFrom k q t)
        × AllKeepPrecedence children

    -- the same of trees one after another
    pub AllKeepPrecedence : Forest → Type 0
    AllKeepPrecedence no_tree = Unit {0}
    AllKeepPrecedence (a_tree t ts) = KeepsPrecedence t × AllKeepPrecedence ts
