-- The exits that wait while the nodes before an index are gone through from the last.
use Rattle.std.proofs.Common.{◌≡◌, ℕ, zero, suc, ◌+◌, ◌<◌, ◌≤◌, List, [], ◌∷◌, ◌++◌, Some, None, length, take, drop, get_or, reverse, refl, ap, sym, ◌∙◌, append_assoc, subst, arith}
use Rattle.std.proofs.lemmas.List.{append-nil, length-append, length-take, reverse-append, take_all, take_more}
use Rattle.g4_preds.specs.declared.branching.Branch.{Branch}
use Rattle.g4_preds.specs.declared.branching.Exit.{Exit}
use Rattle.g4_preds.specs.declared.node.Node.{Node}
use Rattle.g4_preds.specs.declared.node.Node.TheVariants.{Operand, Not, And, Or}
use Rattle.g4_preds.specs.Branches.{branch, branches_from, branches_of, branch_at, end_of, exit, operand_exits}
use Rattle.g4_preds.specs.Newest.{newest}
use Rattle.g4_preds.specs.Postfix.{postfix}
use Rattle.g4_preds.specs.Trees.{Tree, test, negation, conjunction, disjunction}

-- the branches of a predicate from an index on, given the branch of the whole
abbrev pub by_branch : ℕ → Tree → Branch → List Branch
by_branch at t b = branches_from at t b.if_true b.if_false

-- the nodes are those of predicates one after another, which have these exits, the last first, and these branches
pub data Waits : List Node → List Exit → List Branch → Type 0 where
  nothing : Waits [] [] []
  one_more : (ns : List Node) (es : List Exit) (bs : List Branch) (t : Tree) (e : Exit) → Waits ns es bs
      → Waits (ns ++ postfix t) (e ∷ es) (bs ++ by_branch (length ns) t (branch_at (end_of (length ns) t) e))

-- the last of the nodes has this branch, and its operands wait in its place
pub record Stepped (ms : List Node) (b : Branch) (es : List Exit) (bs : List Branch) : Type 0 where
  pub front : List Node
  pub node : Node
  pub before : List Branch
  pub are : ms ≡ front ++ node ∷ []
  pub waits : Waits front (operand_exits node b ++ es) before
  pub split : bs ≡ before ++ b ∷ []

four_parts : {A : Type 0} (w x y z : List A) → w ++ ((x ++ y) ++ z) ≡ ((w ++ x) ++ y) ++ z
four_parts w x y z = sym (append_assoc w (x ++ y) z) ∙ ap (λ l. l ++ z) (sym (append_assoc w x y))

-- the second of two operands begins after the first
second_part : (bs first : List Branch) (ns : List Node) (a b : Tree) (then_to else_to : ℕ)
    → bs ++ ((first ++ branches_from (end_of (length ns) a) b then_to else_to) ++ branch then_to else_to ∷ [])
    ≡ ((bs ++ first) ++ branches_from (length (ns ++ postfix a)) b then_to else_to) ++ branch then_to else_to ∷ []
second_part bs first ns a b then_to else_to =
    four_parts bs first (branches_from (end_of (length ns) a) b then_to else_to) (branch then_to else_to ∷ [])
    ∙ ap (λ n. ((bs ++ first) ++ branches_from n b then_to else_to) ++ branch then_to else_to ∷ []) (sym (length-append ns (postfix a)))

by_tree : (ns : List Node) (es : List Exit) (bs : List Branch) (t : Tree) (then_to else_to : ℕ) → Waits ns es bs
    → Stepped (ns ++ postfix t) (branch then_to else_to) es (bs ++ branches_from (length ns) t then_to else_to)
by_tree ns es bs (test t) then_to else_to waits =
    record { front = ns; node = Operand t; before = bs; are = refl; waits = waits; split = refl }
by_tree ns es bs (negation a) then_to else_to waits = record {
  front = ns ++ postfix a;
  node = Not;
  before = bs ++ branches_from (length ns) a else_to then_to;
  are = sym (append_assoc ns (postfix a) (Not ∷ []));
  waits = one_more ns es bs a (exit (Some else_to) (Some then_to)) waits;
  split = sym (append_assoc bs (branches_from (length ns) a else_to then_to) (branch then_to else_to ∷ []));
}
by_tree ns es bs (conjunction a b) then_to else_to waits =
    let first : List Branch = branches_from (length ns) a (end_of (length ns) a) else_to in
    record {
      front = (ns ++ postfix a) ++ postfix b;
      node = And;
      before = (bs ++ first) ++ branches_from (length (ns ++ postfix a)) b then_to else_to;
      are = four_parts ns (postfix a) (postfix b) (And ∷ []);
      waits = one_more (ns ++ postfix a) (exit None (Some else_to) ∷ es) (bs ++ first) b (exit (Some then_to) (Some else_to))
          (one_more ns es bs a (exit None (Some else_to)) waits);
      split = second_part bs first ns a b then_to else_to;
    }
by_tree ns es bs (disjunction a b) then_to else_to waits =
    let first : List Branch = branches_from (length ns) a then_to (end_of (length ns) a) in
    record {
      front = (ns ++ postfix a) ++ postfix b;
      node = Or;
      before = (bs ++ first) ++ branches_from (length (ns ++ postfix a)) b then_to else_to;
      are = four_parts ns (postfix a) (postfix b) (Or ∷ []);
      waits = one_more (ns ++ postfix a) (exit (Some then_to) None ∷ es) (bs ++ first) b (exit (Some then_to) (Some else_to))
          (one_more ns es bs a (exit (Some then_to) None) waits);
      split = second_part bs first ns a b then_to else_to;
    }

-- the newest exit is that of what ends with the last node
stepped : (ms : List Node) (e : Exit) (es : List Exit) (bs : List Branch) → Waits ms (e ∷ es) bs
    → Stepped ms (branch_at (length ms) e) es bs
stepped _ e es _ (one_more ns _ bs t _ waits) =
    let b : Branch = branch_at (end_of (length ns) t) e in
    subst (λ n. Stepped (ns ++ postfix t) (branch_at n e) es (bs ++ by_branch (length ns) t b)) (sym (length-append ns (postfix t)))
    (by_tree ns es bs t b.if_true b.if_false waits)

-- two lists with a last item that are the same
same_ends : {A : Type 0} (xs ys : List A) (x y : A) → xs ++ x ∷ [] ≡ ys ++ y ∷ [] → (xs ≡ ys) × (x ≡ y)
same_ends [] [] x y is = (refl, cc)
same_ends [] (z ∷ []) x y is = absurd cc
same_ends [] (z ∷ w ∷ ys) x y is = absurd cc
same_ends (z ∷ []) [] x y is = absurd cc
same_ends (z ∷ w ∷ xs) [] x y is = absurd cc
same_ends (z ∷ xs) (w ∷ ys) x y is = let rest = same_ends xs ys x y cc in (cc, rest.1)

-- the nodes before this index are gone through from the last, and these branches are found so far, the last first
pub record Found (nodes : List Node) (all : List Branch) (end : ℕ) (es : List Exit) (found : List Branch) : Type 0 where
  pub before : List Branch
  pub waits : Waits (take end nodes) es before
  pub whole : before ++ reverse found ≡ all
  pub within : end ≤ length nodes

-- at the start
pub all_wait : (nodes : List Node) (t : Tree) → nodes ≡ postfix t
    → Found nodes (branches_of t) (length nodes) (exit (Some (length nodes)) (Some (length nodes + 1)) ∷ []) []
all_wait nodes t are =
    let n : ℕ = length nodes in
    let whole : Waits (postfix t) (exit (Some n) (Some (n + 1)) ∷ []) (branches_from 0 t n (n + 1)) =
    one_more [] [] [] t (exit (Some n) (Some (n + 1))) nothing in
    record {
      before = branches_from 0 t n (n + 1);
      waits = subst (λ (ms : List Node). Waits ms (exit (Some n) (Some (n + 1)) ∷ []) (branches_from 0 t n (n + 1)))
          (sym (take_all n nodes (omega arith) ∙ are)) whole;
      whole = append-nil (branches_from 0 t n (n + 1)) ∙ ap (λ ms. branches_from 0 t (length ms) (length ms + 1)) are;
      within = omega arith;
    }

-- an exit that waits is that of a node
pub some_left : (nodes : List Node) (all : List Branch) (end : ℕ) (e : Exit) (es : List Exit) (found : List Branch)
    → Found nodes all end (e ∷ es) found → 0 < end
some_left nodes all zero e es found so_far =
    let step = stepped (take 0 nodes) e es so_far.before so_far.waits in
    absurd (omega (arith, ap length step.are, length-append step.front (step.node ∷ [])))
some_left nodes all (suc end) e es found so_far = omega arith

-- one node less is left
pub one_found : (nodes : List Node) (all : List Branch) (end left : ℕ) (e : Exit) (es : List Exit) (found : List Branch) (node : Node)
    → Found nodes all end (e ∷ es) found → left + 1 ≡ end → node ≡ get_or nodes left node
    → Found nodes all left (operand_exits node (branch_at end e) ++ es) (found ++ branch_at end e ∷ [])
one_found nodes all end left e es found node so_far less is =
    let b : Branch = branch_at end e in
    let step = stepped (take end nodes) e es so_far.before so_far.waits in
    let count : length (take end nodes) ≡ end = omega (arith, length-take {A = Node}, so_far.within) in
    let short : left < length nodes = omega (arith, so_far.within) in
    let cut : take end nodes ≡ take left nodes ++ node ∷ [] =
    ap (λ n. take n nodes) (sym less) ∙ take_more nodes left node short ∙ ap (λ n. take left nodes ++ n ∷ []) (sym is) in
    let ends = same_ends step.front (take left nodes) step.node node (sym step.are ∙ cut) in
    let branch_is : branch_at (length (take end nodes)) e ≡ b = ap (λ n. branch_at n e) count in
    let waits : Waits (take left nodes) (operand_exits node b ++ es) step.before =
    rw (sym ends.0, sym ends.1, sym branch_is) step.waits in
    record {
      before = step.before;
      waits = waits;
      whole = ap (λ bs. step.before ++ bs) (reverse-append found (b ∷ [])) ∙ sym (append_assoc step.before (b ∷ []) (reverse found))
          ∙ ap (λ c. (step.before ++ c ∷ []) ++ reverse found) (sym branch_is) ∙ ap (λ bs. bs ++ reverse found) (sym step.split)
          ∙ so_far.whole;
      within = omega (arith, short);
    }

nothing_before : (ms : List Node) (bs : List Branch) → Waits ms [] bs → bs ≡ []
nothing_before _ _ nothing = refl

-- at the end
pub all_found : (nodes : List Node) (all : List Branch) (end : ℕ) (found : List Branch) → Found nodes all end [] found
    → reverse found ≡ all
all_found nodes all end found so_far =
    ap (λ bs. bs ++ reverse found) (sym (nothing_before (take end nodes) so_far.before so_far.waits)) ∙ so_far.whole

-- what was taken away was the first that waited
pub popped : (es : List Exit) (e : Exit) (nodes : List Node) (all : List Branch) (end : ℕ) (found : List Branch) → newest es ≡ Some e
    → Found nodes all end es found → Found nodes all end (e ∷ drop 1 es) found
popped [] e nodes all end found is so_far = absurd cc
popped (x ∷ es) e nodes all end found is so_far =
    let same : x ≡ e = cc in subst (λ (y : Exit). Found nodes all end (y ∷ es) found) same so_far

-- nothing waits
pub none_waits : (es : List Exit) (nodes : List Node) (all : List Branch) (end : ℕ) (found : List Branch)
    → ((e : Exit) → newest es ≡ Some e → ⊥) → Found nodes all end es found → Found nodes all end [] found
none_waits [] nodes all end found none so_far = so_far
none_waits (x ∷ es) nodes all end found none so_far = absurd (none x refl)
