-- The parser reads what the grammar gives.
use Rattle.std.proofs.Common.{◌≡◌, true, false, List, [], ◌∷◌, ◌++◌, Some, None, refl, ap, sym, ◌∙◌, append_assoc}
use Rattle.std.proofs.lemmas.List.{append-nil}
use Rattle.g4_preds.specs.declared.node.Test.{Test}
use Rattle.g4_preds.specs.declared.node.Node.{Node}
use Rattle.g4_preds.specs.declared.node.Node.TheVariants.{Operand, Not, And, Or}
use Rattle.g4_preds.specs.declared.operators.Operator.{Operator}
use Rattle.g4_preds.specs.declared.operators.Operator.TheVariants.{Negation, Conjunction, Disjunction, Parenthesis}
use Rattle.g4_preds.specs.declared.token.Token.{Token}
use Rattle.g4_preds.specs.declared.token.Token.TheVariants.{RightParenthesis, DoubleAmpersand, DoubleBar}
use Rattle.g4_preds.specs.Grammar.{IsTest, always, never, flag, inside, text_is, IsOr, one_and, or_more, IsAnd, one_not, and_more, IsNot, denied, as_is, IsPrimary, one_test, enclosed}
use Rattle.g4_preds.specs.Postfix.{postfix, tree_of}
use Rattle.g4_preds.specs.Steps.{State, start, completed, joined_nodes, joined_pending, past_right, closed, nodes_if_none, nodes_from}
use Rattle.g4_preds.specs.Trees.{Tree}
use Rattle.g4_preds.specs.TreeCode.{tree_of-postfix}

-- where an operand comes next, and where one has been read
abbrev pub want : List Node → List Operator → State
want nodes pending = record { nodes = nodes; pending = pending; wants_operand = true }

abbrev pub have : List Node → List Operator → State
have nodes pending = record { nodes = nodes; pending = pending; wants_operand = false }

-- what waits before a whole predicate
abbrev pub IsOuter : List Operator → Type 0
IsOuter [] = Unit {0}
IsOuter (Negation ∷ pending) = ⊥
IsOuter (Conjunction ∷ pending) = ⊥
IsOuter (Disjunction ∷ pending) = ⊥
IsOuter (Parenthesis ∷ pending) = Unit {0}

-- what waits before what `&&` joins
abbrev pub IsBase : List Operator → Type 0
IsBase [] = Unit {0}
IsBase (Negation ∷ pending) = ⊥
IsBase (Conjunction ∷ pending) = ⊥
IsBase (Disjunction ∷ pending) = Unit {0}
IsBase (Parenthesis ∷ pending) = Unit {0}

pub base_of_outer : (pending : List Operator) → IsOuter pending → IsBase pending
base_of_outer [] outer = tt
base_of_outer (Negation ∷ pending) outer = outer
base_of_outer (Conjunction ∷ pending) outer = outer
base_of_outer (Disjunction ∷ pending) outer = tt
base_of_outer (Parenthesis ∷ pending) outer = tt

-- nothing takes an operand at once
pub completed-base : (nodes : List Node) (pending : List Operator) → IsBase pending → completed nodes pending ≡ have nodes pending
completed-base nodes [] base = refl
completed-base nodes (Negation ∷ pending) base = absurd base
completed-base nodes (Conjunction ∷ pending) base = absurd base
completed-base nodes (Disjunction ∷ pending) base = refl
completed-base nodes (Parenthesis ∷ pending) base = refl

joined_nodes-outer : (nodes : List Node) (pending : List Operator) → IsOuter pending → joined_nodes nodes pending ≡ nodes
joined_nodes-outer nodes [] outer = refl
joined_nodes-outer nodes (Negation ∷ pending) outer = absurd outer
joined_nodes-outer nodes (Conjunction ∷ pending) outer = absurd outer
joined_nodes-outer nodes (Disjunction ∷ pending) outer = absurd outer
joined_nodes-outer nodes (Parenthesis ∷ pending) outer = refl

joined_pending-outer : (pending : List Operator) → IsOuter pending → joined_pending pending ≡ pending
joined_pending-outer [] outer = refl
joined_pending-outer (Negation ∷ pending) outer = absurd outer
joined_pending-outer (Conjunction ∷ pending) outer = absurd outer
joined_pending-outer (Disjunction ∷ pending) outer = absurd outer
joined_pending-outer (Parenthesis ∷ pending) outer = refl

-- a test is read as such
test_reads : (u : List Token) (t : Test) → IsTest u t → (v : List Token) (nodes : List Node) (pending : List Operator)
    → nodes_from 0 (want nodes pending) (u ++ v) ≡ nodes_from 0 (completed (nodes ++ Operand t ∷ []) pending) v
test_reads _ _ always v nodes pending = refl
test_reads _ _ never v nodes pending = refl
test_reads _ _ (flag name) v nodes pending = refl
test_reads _ _ (inside rule) v nodes pending = refl
test_reads _ _ (text_is nth text) v nodes pending = refl

-- a `)` where what waits is joined
right_reads : (last nodes : List Node) (waits pending : List Operator) (v : List Token) → joined_nodes last waits ≡ nodes
    → joined_pending waits ≡ Parenthesis ∷ pending
    → nodes_from 0 (have last waits) (RightParenthesis ∷ v) ≡ nodes_from 0 (completed nodes pending) v
right_reads last nodes waits pending v nodes_are pending_are =
    let step : past_right (have last waits) ≡ Some (completed nodes pending) =
    ap (λ ns. closed ns (joined_pending waits)) nodes_are ∙ ap (closed nodes) pending_are in
    rw (step, nodes_from) refl

-- a `||` where what waits is joined
bar_reads : (last nodes : List Node) (waits pending : List Operator) (v : List Token) → joined_nodes last waits ≡ nodes
    → joined_pending waits ≡ pending → nodes_from 0 (have last waits) (DoubleBar ∷ v) ≡ nodes_from 0 (want nodes (Disjunction ∷ pending)) v
bar_reads last nodes waits pending v nodes_are pending_are =
    ap (λ ns. nodes_from 0 (want ns (Disjunction ∷ joined_pending waits)) v) nodes_are
    ∙ ap (λ ps. nodes_from 0 (want nodes (Disjunction ∷ ps)) v) pending_are

-- the state after a whole predicate: one more operand of `||`, and perhaps the `||` that waits for it
pub record OrRead (nodes : List Node) (pending : List Operator) (u v : List Token) (a : Tree) : Type 0 where
  pub last : List Node
  pub waits : List Operator
  pub same : nodes_from 0 (want nodes pending) (u ++ v) ≡ nodes_from 0 (have last waits) v
  pub nodes_are : joined_nodes last waits ≡ nodes ++ postfix a
  pub pending_are : joined_pending waits ≡ pending

mutual
  or_reads : (u : List Token) (a : Tree) → IsOr u a → (v : List Token) (nodes : List Node) (pending : List Operator) → IsOuter pending
      → OrRead nodes pending u v a
  or_reads _ _ (one_and u a reads) v nodes pending outer = record {
    last = nodes ++ postfix a;
    waits = pending;
    same = and_reads u a reads v nodes pending (base_of_outer pending outer);
    nodes_are = joined_nodes-outer (nodes ++ postfix a) pending outer;
    pending_are = joined_pending-outer pending outer;
  }
  or_reads _ _ (or_more u w a b first second) v nodes pending outer =
      let before = or_reads u a first (DoubleBar ∷ (w ++ v)) nodes pending outer in
      let after = and_reads w b second v (nodes ++ postfix a) (Disjunction ∷ pending) tt in
      record {
        last = (nodes ++ postfix a) ++ postfix b;
        waits = Disjunction ∷ pending;
        same = ap (nodes_from 0 (want nodes pending)) (append_assoc u (DoubleBar ∷ w) v) ∙ before.same
            ∙ bar_reads before.last (nodes ++ postfix a) before.waits pending (w ++ v) before.nodes_are before.pending_are ∙ after;
        nodes_are = ap (λ ns. ns ++ Or ∷ []) (append_assoc nodes (postfix a) (postfix b))
            ∙ append_assoc nodes (postfix a ++ postfix b) (Or ∷ []);
        pending_are = refl;
      }

  and_reads : (u : List Token) (a : Tree) → IsAnd u a → (v : List Token) (nodes : List Node) (pending : List Operator)
      → IsBase pending → nodes_from 0 (want nodes pending) (u ++ v) ≡ nodes_from 0 (have (nodes ++ postfix a) pending) v
  and_reads _ _ (one_not u a reads) v nodes pending base =
      not_reads u a reads v nodes pending ∙ ap (λ s. nodes_from 0 s v) (completed-base (nodes ++ postfix a) pending base)
  and_reads _ _ (and_more u w a b first second) v nodes pending base =
      let taken : ((nodes ++ postfix a) ++ postfix b) ++ And ∷ [] ≡ nodes ++ ((postfix a ++ postfix b) ++ And ∷ []) =
      ap (λ ns. ns ++ And ∷ []) (append_assoc nodes (postfix a) (postfix b)) ∙ append_assoc nodes (postfix a ++ postfix b) (And ∷ []) in
      ap (nodes_from 0 (want nodes pending)) (append_assoc u (DoubleAmpersand ∷ w) v)
      ∙ and_reads u a first (DoubleAmpersand ∷ (w ++ v)) nodes pending base
      ∙ not_reads w b second v (nodes ++ postfix a) (Conjunction ∷ pending)
      ∙ ap (λ ns. nodes_from 0 (completed ns pending) v) taken
      ∙ ap (λ s. nodes_from 0 s v) (completed-base (nodes ++ ((postfix a ++ postfix b) ++ And ∷ [])) pending base)

  not_reads : (u : List Token) (a : Tree) → IsNot u a → (v : List Token) (nodes : List Node) (pending : List Operator)
      → nodes_from 0 (want nodes pending) (u ++ v) ≡ nodes_from 0 (completed (nodes ++ postfix a) pending) v
  not_reads _ _ (denied u a reads) v nodes pending =
      not_reads u a reads v nodes (Negation ∷ pending)
      ∙ ap (λ ns. nodes_from 0 (completed ns pending) v) (append_assoc nodes (postfix a) (Not ∷ []))
  not_reads _ _ (as_is u a reads) v nodes pending = primary_reads u a reads v nodes pending

  primary_reads : (u : List Token) (a : Tree) → IsPrimary u a → (v : List Token) (nodes : List Node) (pending : List Operator)
      → nodes_from 0 (want nodes pending) (u ++ v) ≡ nodes_from 0 (completed (nodes ++ postfix a) pending) v
  primary_reads _ _ (one_test u t reads) v nodes pending = test_reads u t reads v nodes pending
  primary_reads _ _ (enclosed u a reads) v nodes pending =
      let inner = or_reads u a reads (RightParenthesis ∷ v) nodes (Parenthesis ∷ pending) tt in
      ap (nodes_from 0 (want nodes (Parenthesis ∷ pending))) (append_assoc u (RightParenthesis ∷ []) v) ∙ inner.same
      ∙ right_reads inner.last (nodes ++ postfix a) inner.waits pending v inner.nodes_are inner.pending_are

-- what the grammar gives is read, with its postfix form
pub complete : (tokens : List Token) (a : Tree) → IsOr tokens a → nodes_from 0 start tokens ≡ Some (postfix a)
complete tokens a reads =
    let whole = or_reads tokens a reads [] [] [] tt in
    ap (nodes_from 0 start) (sym (append-nil tokens)) ∙ whole.same
    ∙ ap (λ ns. nodes_if_none ns (joined_pending whole.waits)) whole.nodes_are ∙ ap (nodes_if_none (postfix a)) whole.pending_are

somes : {A : Type 0} (x y : A) → Some x ≡ Some y → x ≡ y
somes x y is = cc

none_some : {A : Type 0} (x : A) → None ≡ Some x → ⊥
none_some x is = absurd cc

-- where reading stops there is no predicate
pub no_tree : (tokens : List Token) → nodes_from 0 start tokens ≡ None → (a : Tree) → IsOr tokens a → ⊥
no_tree tokens stops a reads = none_some (postfix a) (sym stops ∙ complete tokens a reads)

-- tokens are at most one predicate
pub one_tree : (tokens : List Token) (a b : Tree) → IsOr tokens a → IsOr tokens b → a ≡ b
one_tree tokens a b first second =
    let same = somes (postfix a) (postfix b) (sym (complete tokens a first) ∙ complete tokens b second) in
    sym (tree_of-postfix a) ∙ ap tree_of same ∙ tree_of-postfix b
