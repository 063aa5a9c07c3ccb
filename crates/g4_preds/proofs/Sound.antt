-- What the parser reads, the grammar gives.
use Rattle.std.proofs.Common.{◌≡◌, ℕ, zero, suc, Bool, true, false, List, [], ◌∷◌, ◌++◌, Option, Some, None, drop, refl, ap, sym, ◌∙◌, append_assoc, subst}
use Rattle.std.proofs.lemmas.List.{append-nil}
use Rattle.g4_preds.specs.declared.node.Node.{Node}
use Rattle.g4_preds.specs.declared.node.Node.TheVariants.{Not, And, Or}
use Rattle.g4_preds.specs.declared.operators.Operator.{Operator}
use Rattle.g4_preds.specs.declared.operators.Operator.TheVariants.{Negation, Conjunction, Disjunction, Parenthesis}
use Rattle.g4_preds.specs.declared.test_reader.Found.{Found}
use Rattle.g4_preds.specs.declared.token.Token.{Token}
use Rattle.g4_preds.specs.declared.token.Token.TheVariants.{Name, LeftParenthesis, RightParenthesis, Exclamation, DoubleAmpersand, DoubleBar}
use Rattle.g4_preds.specs.Grammar.{IsOr, one_and, or_more, IsAnd, one_not, and_more, IsNot, denied, as_is, one_test, enclosed}
use Rattle.g4_preds.specs.Parsing.{AreNodesOf}
use Rattle.g4_preds.specs.Postfix.{postfix}
use Rattle.g4_preds.specs.Steps.{State, Step, start, completed, joined_nodes, joined_pending, closed, past_test, test_step, operand_step, operator_step, one_token, next_step, finished, nodes_if_none, nodes_from}
use Rattle.g4_preds.specs.Tests.{test_at}
use Rattle.g4_preds.specs.Trees.{Tree, test, negation, conjunction, disjunction}
use Rattle.g4_preds.proofs.Complete.{want, have, IsOuter, IsBase, completed-base}
use Rattle.g4_preds.proofs.TestLemmas.{test_found}

some_is : {A : Type 0} (x y : A) → Some x ≡ Some y → x ≡ y
some_is x y is = cc

none_some : {A : Type 0} (x : A) → None ≡ Some x → ⊥
none_some x is = absurd cc

-- after these tokens an operand comes next, and these nodes and operators are what they say
data Wanted : List Token → List Node → List Operator → Type 0 where
  nothing : Wanted [] [] []
  past_not : (u : List Token) (nodes : List Node) (pending : List Operator) → Wanted u nodes pending
      → Wanted (u ++ Exclamation ∷ []) nodes (Negation ∷ pending)
  past_left : (u : List Token) (nodes : List Node) (pending : List Operator) → Wanted u nodes pending
      → Wanted (u ++ LeftParenthesis ∷ []) nodes (Parenthesis ∷ pending)
  past_and : (u w : List Token) (nodes : List Node) (pending : List Operator) (a : Tree) → Wanted u nodes pending → IsBase pending
      → IsAnd w a →
      Wanted (u ++ (w ++ DoubleAmpersand ∷ [])) (nodes ++ postfix a) (Conjunction ∷ pending)
  past_or : (u w : List Token) (nodes : List Node) (pending : List Operator) (a : Tree) → Wanted u nodes pending → IsOuter pending
      → IsOr w a →
      Wanted (u ++ (w ++ DoubleBar ∷ [])) (nodes ++ postfix a) (Disjunction ∷ pending)

-- after these tokens an operand has been read
record Had (u : List Token) (nodes : List Node) (pending : List Operator) : Type 0 where
  before : List Token
  word : List Token
  nodes_before : List Node
  tree : Tree
  parts : u ≡ before ++ word
  nodes_are : nodes ≡ nodes_before ++ postfix tree
  wanted : Wanted before nodes_before pending
  base : IsBase pending
  reads : IsAnd word tree

abbrev ReachedBy : Bool → List Token → List Node → List Operator → Type 0
ReachedBy true = Wanted
ReachedBy false = Had

-- after these tokens the parser is in this state
abbrev Reached : List Token → State → Type 0
Reached u s = ReachedBy s.wants_operand u s.nodes s.pending

-- an operand where nothing takes it at once
based : (u w : List Token) (nodes : List Node) (pending : List Operator) (a : Tree) → Wanted u nodes pending → IsBase pending
    → IsAnd w a → Reached (u ++ w) (have (nodes ++ postfix a) pending)
based u w nodes pending a wanted base reads = record {
  before = u;
  word = w;
  nodes_before = nodes;
  tree = a;
  parts = refl;
  nodes_are = refl;
  wanted = wanted;
  base = base;
  reads = reads;
}

-- after an operand
operand_done : (u w : List Token) (nodes : List Node) (pending : List Operator) (a : Tree) → Wanted u nodes pending → IsNot w a
    → Reached (u ++ w) (completed (nodes ++ postfix a) pending)
operand_done _ w _ _ a nothing reads = based [] w [] [] a nothing tt (one_not w a reads)
operand_done _ w _ _ a (past_not u nodes pending wanted) reads =
    let further : Reached (u ++ (Exclamation ∷ w)) (completed (nodes ++ (postfix a ++ Not ∷ [])) pending) =
    operand_done u (Exclamation ∷ w) nodes pending (negation a) wanted (denied w a reads) in
    let moved : Reached ((u ++ Exclamation ∷ []) ++ w) (completed (nodes ++ (postfix a ++ Not ∷ [])) pending) =
    subst (λ (ts : List Token). Reached ts (completed (nodes ++ (postfix a ++ Not ∷ [])) pending))
    (sym (append_assoc u (Exclamation ∷ []) w)) further in
    subst (λ (ns : List Node). Reached ((u ++ Exclamation ∷ []) ++ w) (completed ns pending))
    (sym (append_assoc nodes (postfix a) (Not ∷ []))) moved
operand_done _ w _ _ a (past_left u nodes pending wanted) reads =
    based (u ++ LeftParenthesis ∷ []) w nodes (Parenthesis ∷ pending) a (past_left u nodes pending wanted) tt (one_not w a reads)
operand_done _ w _ _ a (past_and u x nodes pending b wanted base first) reads =
    let here : Reached (u ++ (x ++ DoubleAmpersand ∷ w)) (have (nodes ++ ((postfix b ++ postfix a) ++ And ∷ [])) pending) =
    based u (x ++ DoubleAmpersand ∷ w) nodes pending (conjunction b a) wanted base (and_more x w b a first reads) in
    let tokens_are : u ++ (x ++ DoubleAmpersand ∷ w) ≡ (u ++ (x ++ DoubleAmpersand ∷ [])) ++ w =
    ap (λ ts. u ++ ts) (sym (append_assoc x (DoubleAmpersand ∷ []) w)) ∙ sym (append_assoc u (x ++ DoubleAmpersand ∷ []) w) in
    let nodes_are : nodes ++ ((postfix b ++ postfix a) ++ And ∷ []) ≡ ((nodes ++ postfix b) ++ postfix a) ++ And ∷ [] =
    sym (append_assoc nodes (postfix b ++ postfix a) (And ∷ []))
    ∙ ap (λ ns. ns ++ And ∷ []) (sym (append_assoc nodes (postfix b) (postfix a))) in
    let moved : Reached ((u ++ (x ++ DoubleAmpersand ∷ [])) ++ w) (have (nodes ++ ((postfix b ++ postfix a) ++ And ∷ [])) pending) =
    subst (λ (ts : List Token). Reached ts (have (nodes ++ ((postfix b ++ postfix a) ++ And ∷ [])) pending)) tokens_are here in
    let placed : Reached ((u ++ (x ++ DoubleAmpersand ∷ [])) ++ w) (have (((nodes ++ postfix b) ++ postfix a) ++ And ∷ []) pending) =
    subst (λ (ns : List Node). Reached ((u ++ (x ++ DoubleAmpersand ∷ [])) ++ w) (have ns pending)) nodes_are moved in
    subst (Reached ((u ++ (x ++ DoubleAmpersand ∷ [])) ++ w))
    (sym (completed-base (((nodes ++ postfix b) ++ postfix a) ++ And ∷ []) pending base)) placed
operand_done _ w _ _ a (past_or u x nodes pending b wanted outer first) reads =
    based (u ++ (x ++ DoubleBar ∷ [])) w (nodes ++ postfix b) (Disjunction ∷ pending) a
    (past_or u x nodes pending b wanted outer first) tt (one_not w a reads)

-- after a whole predicate: what the operators that wait make of it
record Whole (u : List Token) (nodes : List Node) (pending : List Operator) : Type 0 where
  before : List Token
  word : List Token
  nodes_before : List Node
  tree : Tree
  parts : u ≡ before ++ word
  nodes_are : joined_nodes nodes pending ≡ nodes_before ++ postfix tree
  wanted : Wanted before nodes_before (joined_pending pending)
  outer : IsOuter (joined_pending pending)
  reads : IsOr word tree

-- where `||` waits
whole_or : (u v before word : List Token) (nodes nodes_before : List Node) (pending : List Operator) (a : Tree) → u ≡ before ++ word
    → nodes ≡ nodes_before ++ postfix a → IsAnd word a → Wanted before nodes_before (Disjunction ∷ pending)
    → Whole u nodes (Disjunction ∷ pending)
whole_or u v _ word nodes _ _ a parts nodes_are reads (past_or before x nodes_before pending b wanted outer first) = record {
  before = before;
  word = x ++ DoubleBar ∷ word;
  nodes_before = nodes_before;
  tree = disjunction b a;
  parts = parts ∙ append_assoc before (x ++ DoubleBar ∷ []) word ∙ ap (λ ts. before ++ ts) (append_assoc x (DoubleBar ∷ []) word);
  nodes_are = ap (λ ns. ns ++ Or ∷ []) (nodes_are ∙ append_assoc nodes_before (postfix b) (postfix a))
      ∙ append_assoc nodes_before (postfix b ++ postfix a) (Or ∷ []);
  wanted = wanted;
  outer = outer;
  reads = or_more x word b a first reads;
}

whole_of : (u : List Token) (nodes : List Node) (pending : List Operator) → Had u nodes pending → Whole u nodes pending
whole_of u nodes [] had = record {
  before = had.before;
  word = had.word;
  nodes_before = had.nodes_before;
  tree = had.tree;
  parts = had.parts;
  nodes_are = had.nodes_are;
  wanted = had.wanted;
  outer = tt;
  reads = one_and had.word had.tree had.reads;
}
whole_of u nodes (Negation ∷ pending) had = absurd had.base
whole_of u nodes (Conjunction ∷ pending) had = absurd had.base
whole_of u nodes (Disjunction ∷ pending) had =
    whole_or u u had.before had.word nodes had.nodes_before pending had.tree had.parts had.nodes_are had.reads had.wanted
whole_of u nodes (Parenthesis ∷ pending) had =
    record {
      before = had.before;
      word = had.word;
      nodes_before = had.nodes_before;
      tree = had.tree;
      parts = had.parts;
      nodes_are = had.nodes_are;
      wanted = had.wanted;
      outer = tt;
      reads = one_and had.word had.tree had.reads;
    }

-- after a `)`
after_right : (u before word : List Token) (nodes nodes_before : List Node) (pending : List Operator) (a : Tree) → u ≡ before ++ word
    → nodes ≡ nodes_before ++ postfix a → IsOr word a → Wanted before nodes_before (Parenthesis ∷ pending)
    → Reached (u ++ RightParenthesis ∷ []) (completed nodes pending)
after_right u _ word nodes _ _ a parts nodes_are reads (past_left before nodes_before pending wanted) =
    let done : Reached (before ++ (LeftParenthesis ∷ (word ++ RightParenthesis ∷ [])))
    (completed (nodes_before ++ postfix a) pending) =
    operand_done before (LeftParenthesis ∷ (word ++ RightParenthesis ∷ [])) nodes_before pending a wanted
    (as_is (LeftParenthesis ∷ (word ++ RightParenthesis ∷ [])) a (enclosed word a reads)) in
    let tokens_are : before ++ (LeftParenthesis ∷ (word ++ RightParenthesis ∷ [])) ≡ u ++ RightParenthesis ∷ [] =
    sym (append_assoc before (LeftParenthesis ∷ []) (word ++ RightParenthesis ∷ []))
    ∙ sym (append_assoc (before ++ LeftParenthesis ∷ []) word (RightParenthesis ∷ []))
    ∙ ap (λ ts. ts ++ RightParenthesis ∷ []) (sym parts) in
    let moved : Reached (u ++ RightParenthesis ∷ []) (completed (nodes_before ++ postfix a) pending) =
    subst (λ (ts : List Token). Reached ts (completed (nodes_before ++ postfix a) pending)) tokens_are done in
    subst (λ (ns : List Node). Reached (u ++ RightParenthesis ∷ []) (completed ns pending)) (sym nodes_are) moved

-- the step is past some of these tokens
record Advanced (u : List Token) (token : Token) (rest : List Token) (step : Step) : Type 0 where
  front : List Token
  are : token ∷ rest ≡ front ++ drop step.more rest
  reached : Reached (u ++ front) step.state

-- a step past one token
one_past : (u : List Token) (token : Token) (rest : List Token) (s : State) (step : Step) → Reached (u ++ token ∷ []) s
    → Some (record { state = s; more = 0 }) ≡ Some step → Advanced u token rest step
one_past u token rest s step reached is =
    let here : Step = record { state = s; more = 0 } in
    subst (Advanced u token rest) (some_is here step is) (record { front = token ∷ []; are = refl; reached = reached })

after_test : (u : List Token) (token : Token) (rest : List Token) (nodes : List Node) (pending : List Operator) (step : Step)
    (o : Option Found) → Wanted u nodes pending → test_at token rest ≡ o → test_step (want nodes pending) o ≡ Some step
    → Advanced u token rest step
after_test u token rest nodes pending step None wanted found is = absurd (none_some step is)
after_test u token rest nodes pending step (Some f) wanted found is =
    let tested = test_found token rest f found in
    let here : Step = record { state = past_test (want nodes pending) f.test; more = f.more } in
    subst (Advanced u token rest) (some_is here step is) (record {
      front = tested.front;
      are = tested.are;
      reached = operand_done u tested.front nodes pending (test f.test) wanted
          (as_is tested.front (test f.test) (one_test tested.front f.test tested.is));
    })

operand_past : (u : List Token) (token : Token) (rest : List Token) (nodes : List Node) (pending : List Operator) (step : Step)
    → Wanted u nodes pending → operand_step (want nodes pending) (token ∷ rest) ≡ Some step → Advanced u token rest step
operand_past u Exclamation rest nodes pending step wanted is =
    one_past u Exclamation rest (want nodes (Negation ∷ pending)) step (past_not u nodes pending wanted) is
operand_past u LeftParenthesis rest nodes pending step wanted is =
    one_past u LeftParenthesis rest (want nodes (Parenthesis ∷ pending)) step (past_left u nodes pending wanted) is
operand_past u (Name name) rest nodes pending step wanted is =
    after_test u (Name name) rest nodes pending step (test_at (Name name) rest) wanted refl is
operand_past u token rest nodes pending step wanted is = absurd (none_some step is)

after_close : (u : List Token) (rest : List Token) (nodes : List Node) (pending : List Operator) (step : Step) (joined_to : List Node)
    (left : List Operator) → Whole u nodes pending → joined_nodes nodes pending ≡ joined_to → joined_pending pending ≡ left
    → one_token (closed joined_to left) ≡ Some step → Advanced u RightParenthesis rest step
after_close u rest nodes pending step joined_to (Parenthesis ∷ left) whole nodes_are left_is is =
    one_past u RightParenthesis rest (completed joined_to left) step
    (after_right u whole.before whole.word joined_to whole.nodes_before left whole.tree whole.parts
    (sym nodes_are ∙ whole.nodes_are) whole.reads (subst (Wanted whole.before whole.nodes_before) left_is whole.wanted)) is
after_close u rest nodes pending step joined_to left whole nodes_are left_is is = absurd (none_some step is)

operator_past : (u : List Token) (token : Token) (rest : List Token) (nodes : List Node) (pending : List Operator) (step : Step)
    → Had u nodes pending → one_token (operator_step (have nodes pending) token) ≡ Some step → Advanced u token rest step
operator_past u DoubleAmpersand rest nodes pending step had is =
    let after : Wanted (had.before ++ (had.word ++ DoubleAmpersand ∷ [])) (had.nodes_before ++ postfix had.tree)
    (Conjunction ∷ pending) = past_and had.before had.word had.nodes_before pending had.tree had.wanted had.base had.reads in
    let tokens_are : had.before ++ (had.word ++ DoubleAmpersand ∷ []) ≡ u ++ DoubleAmpersand ∷ [] =
    sym (append_assoc had.before had.word (DoubleAmpersand ∷ [])) ∙ ap (λ ts. ts ++ DoubleAmpersand ∷ []) (sym had.parts) in
    let moved : Wanted (u ++ DoubleAmpersand ∷ []) (had.nodes_before ++ postfix had.tree) (Conjunction ∷ pending) =
    subst (λ (ts : List Token). Wanted ts (had.nodes_before ++ postfix had.tree) (Conjunction ∷ pending)) tokens_are after in
    one_past u DoubleAmpersand rest (want nodes (Conjunction ∷ pending)) step
    (subst (λ (ns : List Node). Wanted (u ++ DoubleAmpersand ∷ []) ns (Conjunction ∷ pending)) (sym had.nodes_are) moved) is
operator_past u DoubleBar rest nodes pending step had is =
    let whole = whole_of u nodes pending had in
    let after : Wanted (whole.before ++ (whole.word ++ DoubleBar ∷ [])) (whole.nodes_before ++ postfix whole.tree)
    (Disjunction ∷ joined_pending pending) = past_or whole.before whole.word whole.nodes_before (joined_pending pending)
    whole.tree whole.wanted whole.outer whole.reads in
    let tokens_are : whole.before ++ (whole.word ++ DoubleBar ∷ []) ≡ u ++ DoubleBar ∷ [] =
    sym (append_assoc whole.before whole.word (DoubleBar ∷ [])) ∙ ap (λ ts. ts ++ DoubleBar ∷ []) (sym whole.parts) in
    let moved : Wanted (u ++ DoubleBar ∷ []) (whole.nodes_before ++ postfix whole.tree) (Disjunction ∷ joined_pending pending) =
    subst (λ (ts : List Token). Wanted ts (whole.nodes_before ++ postfix whole.tree) (Disjunction ∷ joined_pending pending))
    tokens_are after in
    one_past u DoubleBar rest (want (joined_nodes nodes pending) (Disjunction ∷ joined_pending pending)) step
    (subst (λ (ns : List Node). Wanted (u ++ DoubleBar ∷ []) ns (Disjunction ∷ joined_pending pending)) (sym whole.nodes_are) moved) is
operator_past u RightParenthesis rest nodes pending step had is =
    after_close u rest nodes pending step (joined_nodes nodes pending) (joined_pending pending) (whole_of u nodes pending had) refl refl is
operator_past u token rest nodes pending step had is = absurd (none_some step is)

step_past : (wants : Bool) (u : List Token) (token : Token) (rest : List Token) (nodes : List Node) (pending : List Operator)
    (step : Step) → ReachedBy wants u nodes pending
    → next_step (record { nodes = nodes; pending = pending; wants_operand = wants }) (token ∷ rest) ≡ Some step → Advanced u token rest step
step_past true u token rest nodes pending step reached is = operand_past u token rest nodes pending step reached is
step_past false u token rest nodes pending step reached is = operator_past u token rest nodes pending step reached is

-- the end of a predicate
ended : (u : List Token) (nodes out joined_to : List Node) (pending left : List Operator) → Whole u nodes pending
    → joined_nodes nodes pending ≡ joined_to → joined_pending pending ≡ left → nodes_if_none joined_to left ≡ Some out → AreNodesOf u out
ended u nodes out joined_to pending [] whole nodes_are left_is is =
    let from_start = alone whole.before whole.nodes_before (subst (Wanted whole.before whole.nodes_before) left_is whole.wanted) in
    record {
      tree = whole.tree;
      reads = subst (λ (ts : List Token). IsOr ts whole.tree) (sym (whole.parts ∙ ap (λ ts. ts ++ whole.word) from_start.0)) whole.reads;
      are = sym (some_is joined_to out is) ∙ sym nodes_are ∙ whole.nodes_are ∙ ap (λ ns. ns ++ postfix whole.tree) from_start.1;
    }
  where
    alone : (before : List Token) (ns : List Node) → Wanted before ns [] → (before ≡ []) × (ns ≡ [])
    alone _ _ nothing = (refl, refl)
ended u nodes out joined_to pending (operator ∷ left) whole nodes_are left_is is = absurd (none_some out is)

finish_past : (wants : Bool) (u : List Token) (nodes out : List Node) (pending : List Operator) → ReachedBy wants u nodes pending
    → finished (record { nodes = nodes; pending = pending; wants_operand = wants }) ≡ Some out → AreNodesOf u out
finish_past true u nodes out pending reached is = absurd (none_some out is)
finish_past false u nodes out pending reached is =
    ended u nodes out (joined_nodes nodes pending) pending (joined_pending pending) (whole_of u nodes pending reached) refl refl is

read_past : (token : Token) (rest u : List Token) (s : State) (out : List Node) (o : Option Step)
    → ((skip : ℕ) (w : List Token) (next : State) → Reached w next → nodes_from skip next rest ≡ Some out
    → AreNodesOf (w ++ drop skip rest) out) →
    Reached u s → next_step s (token ∷ rest) ≡ o
    → ◌≡◌ {A = Option (List Node)} (elim o [ Some step ↦ nodes_from step.more step.state rest | None ↦ None ]) (Some out)
    → AreNodesOf (u ++ token ∷ rest) out
read_past token rest u s out None onward reached step_is is = absurd (none_some out is)
read_past token rest u s out (Some step) onward reached step_is is =
    let past = step_past s.wants_operand u token rest s.nodes s.pending step reached step_is in
    let further = onward step.more (u ++ past.front) step.state past.reached is in
    subst (λ (ts : List Token). AreNodesOf ts out)
    (append_assoc u past.front (drop step.more rest) ∙ ap (λ ts. u ++ ts) (sym past.are)) further

-- what is read from a state on
read_from : (skip : ℕ) (tokens u : List Token) (s : State) (out : List Node) → Reached u s → nodes_from skip s tokens ≡ Some out
    → AreNodesOf (u ++ drop skip tokens) out
read_from zero [] u s out reached is = subst (λ (ts : List Token). AreNodesOf ts out) (sym (append-nil u))
    (finish_past s.wants_operand u s.nodes out s.pending reached is)
read_from (suc skip) [] u s out reached is =
    subst (λ (ts : List Token). AreNodesOf ts out) (sym (append-nil u)) (finish_past s.wants_operand u s.nodes out s.pending reached is)
read_from (suc skip) (token ∷ rest) u s out reached is = read_from skip rest u s out reached is
read_from zero (token ∷ rest) u s out reached is =
    read_past token rest u s out (next_step s (token ∷ rest)) (λ skip w next r e. read_from skip rest w next out r e) reached refl is

-- what is read is the postfix form of the predicate that the tokens are
pub sound : (tokens : List Token) (out : List Node) → nodes_from 0 start tokens ≡ Some out → AreNodesOf tokens out
sound tokens out is = read_from 0 tokens [] start out nothing is
