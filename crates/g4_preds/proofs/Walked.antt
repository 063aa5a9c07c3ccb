-- Evaluation leads from the first node of a predicate to where its value says.
use Rattle.std.proofs.Common.{◌≡◌, ℕ, ◌+◌, ◌<◌, ◌≤◌, List, [], ◌∷◌, ◌++◌, Bool, true, false, Some, length, get_or, slice_get, not, ◌&&◌, ◌||◌, ◌==◌, if◌then◌else◌, refl, ap, sym, ◌∙◌, append_assoc, subst, arith}
use Rattle.std.proofs.lemmas.List.{append-nil, length-append}
use Rattle.std.proofs.lemmas.Option.{get_or_from_slice_get, slice_get_read, slice_get_within}
use Rattle.g4_preds.specs.declared.branching.Branch.{Branch}
use Rattle.g4_preds.specs.declared.node.Test.{Test}
use Rattle.g4_preds.specs.declared.node.Node.{Node}
use Rattle.g4_preds.specs.declared.node.Node.TheVariants.{Operand, Not, And, Or}
use Rattle.g4_preds.specs.Branches.{branch, branches_from, branches_of, end_of}
use Rattle.g4_preds.specs.Postfix.{postfix, tree_of}
use Rattle.g4_preds.specs.Trees.{Tree, test, negation, conjunction, disjunction}
use Rattle.g4_preds.specs.Values.{Moment, holds, value}

-- where a branch goes on
abbrev pub target : Branch → Bool → ℕ
target b v = if v then b.if_true else b.if_false

-- from test to test, each time onward, evaluation leads from one index to another
pub data Leads (m : Moment) (nodes : List Node) (bs : List Branch) : ℕ → ℕ → Type 0 where
  there : (at : ℕ) → Leads m nodes bs at at
  onward : (at to : ℕ) (t : Test) (b : Branch) → slice_get nodes at ≡ Some (Operand t) → slice_get bs at ≡ Some b
      → at < target b (holds m t) → Leads m nodes bs (target b (holds m t)) to → Leads m nodes bs at to

through : (m : Moment) (nodes : List Node) (bs : List Branch) (i j k : ℕ) → Leads m nodes bs i j → Leads m nodes bs j k
    → Leads m nodes bs i k
through m nodes bs i _ k (there _) second = second
through m nodes bs i j k (onward _ _ t b node_is branch_is later first) second =
    onward i k t b node_is branch_is later (through m nodes bs (target b (holds m t)) j k first second)

-- the item after a front
item_after : {A : Type 0} (u : List A) (x : A) (v : List A) → slice_get (u ++ x ∷ v) (length u) ≡ Some x
item_after [] x v = refl
item_after (y ∷ u) x v = item_after u x v

later : (v : Bool) (n i j : ℕ) → n < i → n < j → n < (if v then i else j)
later true n i j first second = first
later false n i j first second = second

denied : (v : Bool) (i j : ℕ) → (if v then j else i) ≡ (if not v then i else j)
denied true i j = refl
denied false i j = refl

-- a predicate that is joined with the next
both : (m : Moment) (nodes : List Node) (bs : List Branch) (a b : Bool) (at mid i j : ℕ) → Leads m nodes bs at (if a then mid else j)
    → Leads m nodes bs mid (if b then i else j) → Leads m nodes bs at (if a && b then i else j)
both m nodes bs true b at mid i j first second = through m nodes bs at mid (if b then i else j) first second
both m nodes bs false b at mid i j first second = first

either : (m : Moment) (nodes : List Node) (bs : List Branch) (a b : Bool) (at mid i j : ℕ) → Leads m nodes bs at (if a then i else mid)
    → Leads m nodes bs mid (if b then i else j) → Leads m nodes bs at (if a || b then i else j)
either m nodes bs true b at mid i j first second = first
either m nodes bs false b at mid i j first second = through m nodes bs at mid (if b then i else j) first second

five_parts : {A : Type 0} (u x y v : List A) (z : A) → u ++ (((x ++ y) ++ z ∷ []) ++ v) ≡ u ++ (x ++ (y ++ z ∷ v))
five_parts u x y v z = ap (λ l. u ++ l) (append_assoc (x ++ y) (z ∷ []) v ∙ append_assoc x y (z ∷ v))

joined_size : (p q : List Node) (n : Node) → length ((p ++ q) ++ n ∷ []) ≡ length p + length q + 1
joined_size p q n = omega (arith, length-append (p ++ q) (n ∷ []), length-append p q)

joined_count : (x y : List Branch) (p q : List Node) (c : Branch) (n : Node) → length x ≡ length p → length y ≡ length q
    → length ((x ++ y) ++ c ∷ []) ≡ length ((p ++ q) ++ n ∷ [])
joined_count x y p q c n first second =
    omega (arith, first, second, length-append (x ++ y) (c ∷ []), length-append x y, joined_size p q n)

-- how many branches there are
pub length-branches : (at : ℕ) (t : Tree) (i j : ℕ) → length (branches_from at t i j) ≡ length (postfix t)
length-branches at (test t) i j = refl
length-branches at (negation a) i j =
    let inner = length-branches at a j i in
    omega (arith, inner, length-append (branches_from at a j i) (branch i j ∷ []), length-append (postfix a) (Not ∷ []))
length-branches at (conjunction a b) i j = joined_count (branches_from at a (end_of at a) j) (branches_from (end_of at a) b i j)
    (postfix a) (postfix b) (branch i j) And (length-branches at a (end_of at a) j) (length-branches (end_of at a) b i j)
length-branches at (disjunction a b) i j = joined_count (branches_from at a i (end_of at a)) (branches_from (end_of at a) b i j)
    (postfix a) (postfix b) (branch i j) Or (length-branches at a i (end_of at a)) (length-branches (end_of at a) b i j)

-- what leads on from the second of two operands, if it does so wherever it is
next : (m : Moment) (b : Tree) (nodes u v : List Node) (bs bu bv : List Branch) (a : Tree) (n : Node) (xs : List Branch) (i j : ℕ)
    → nodes ≡ u ++ (postfix a ++ (postfix b ++ n ∷ v))
    → bs ≡ bu ++ (xs ++ (branches_from (end_of (length u) a) b i j ++ branch i j ∷ bv)) → length bu ≡ length u
    → length xs ≡ length (postfix a) → length u + length (postfix a) + length (postfix b) ≤ i
    → length u + length (postfix a) + length (postfix b) ≤ j
    → ((us : List Node) (bus : List Branch) → nodes ≡ us ++ (postfix b ++ n ∷ v)
    → bs ≡ bus ++ (branches_from (length us) b i j ++ branch i j ∷ bv) → length bus ≡ length us → end_of (length us) b ≤ i
    → end_of (length us) b ≤ j → Leads m nodes bs (length us) (if value m b then i else j))
    → Leads m nodes bs (end_of (length u) a) (if value m b then i else j)
next m b nodes u v bs bu bv a n xs i j part branch_part count inner first second lead =
    let us : List Node = u ++ postfix a in
    let begin : length us ≡ end_of (length u) a = length-append u (postfix a) in
    let after : List Branch = branch i j ∷ bv in
    let branches_are : bs ≡ (bu ++ xs) ++ (branches_from (length us) b i j ++ after) =
    branch_part ∙ sym (append_assoc bu xs (branches_from (end_of (length u) a) b i j ++ after))
    ∙ ap (λ k. (bu ++ xs) ++ (branches_from k b i j ++ after)) (sym begin) in
    subst (λ k. Leads m nodes bs k (if value m b then i else j)) begin
    (lead us (bu ++ xs) (part ∙ sym (append_assoc u (postfix a) (postfix b ++ n ∷ v))) branches_are
    (omega (arith, length-append bu xs, count, inner, begin)) (omega (arith, begin, first)) (omega (arith, begin, second)))

-- a test
placed_test : (m : Moment) (u : List Node) (bu : List Branch) (x : Test) (v : List Node) (bv : List Branch) (i j : ℕ)
    → length bu ≡ length u → length u < i → length u < j
    → Leads m (u ++ Operand x ∷ v) (bu ++ branch i j ∷ bv) (length u) (if holds m x then i else j)
placed_test m u bu x v bv i j count first second =
    let bs : List Branch = bu ++ branch i j ∷ bv in
    onward (length u) (if holds m x then i else j) x (branch i j) (item_after u (Operand x) v)
    (subst (λ n. slice_get bs n ≡ Some (branch i j)) count (item_after bu (branch i j) bv))
    (later (holds m x) (length u) i j first second) (there (if holds m x then i else j))

-- evaluation leads from the first node of a predicate, wherever that is, to where its value says
leads : (m : Moment) (t : Tree) (nodes u v : List Node) (bs bu bv : List Branch) (i j : ℕ) → nodes ≡ u ++ (postfix t ++ v)
    → bs ≡ bu ++ (branches_from (length u) t i j ++ bv) → length bu ≡ length u → end_of (length u) t ≤ i → end_of (length u) t ≤ j
    → Leads m nodes bs (length u) (if value m t then i else j)
leads m (test x) nodes u v bs bu bv i j nodes_are branches_are count first second =
    rw (nodes_are, branches_are) (placed_test m u bu x v bv i j count (omega (arith, first)) (omega (arith, second)))
leads m (negation a) nodes u v bs bu bv i j nodes_are branches_are count first second =
    let part : nodes ≡ u ++ (postfix a ++ Not ∷ v) = nodes_are ∙ ap (λ l. u ++ l) (append_assoc (postfix a) (Not ∷ []) v) in
    let branch_part : bs ≡ bu ++ (branches_from (length u) a j i ++ branch i j ∷ bv) =
    branches_are ∙ ap (λ l. bu ++ l) (append_assoc (branches_from (length u) a j i) (branch i j ∷ []) bv) in
    let size = length-append (postfix a) (Not ∷ []) in
    subst (Leads m nodes bs (length u)) (denied (value m a) i j)
    (leads m a nodes u (Not ∷ v) bs bu (branch i j ∷ bv) j i part branch_part count (omega (arith, second, size))
    (omega (arith, first, size)))
leads m (conjunction a b) nodes u v bs bu bv i j nodes_are branches_are count first second =
    let mid : ℕ = end_of (length u) a in
    let xs : List Branch = branches_from (length u) a mid j in
    let ys : List Branch = branches_from mid b i j in
    let part : nodes ≡ u ++ (postfix a ++ (postfix b ++ And ∷ v)) = nodes_are ∙ five_parts u (postfix a) (postfix b) v And in
    let branch_part : bs ≡ bu ++ (xs ++ (ys ++ branch i j ∷ bv)) = branches_are ∙ five_parts bu xs ys bv (branch i j) in
    let size = joined_size (postfix a) (postfix b) And in
    both m nodes bs (value m a) (value m b) (length u) mid i j
    (leads m a nodes u (postfix b ++ And ∷ v) bs bu (ys ++ branch i j ∷ bv) mid j part branch_part count (omega arith)
    (omega (arith, second, size)))
    (next m b nodes u v bs bu bv a And xs i j part branch_part count (length-branches (length u) a mid j)
    (omega (arith, first, size)) (omega (arith, second, size))
    (λ us bus nodes_is branches_is count_is below under.
    leads m b nodes us (And ∷ v) bs bus (branch i j ∷ bv) i j nodes_is branches_is count_is below under))
leads m (disjunction a b) nodes u v bs bu bv i j nodes_are branches_are count first second =
    let mid : ℕ = end_of (length u) a in
    let xs : List Branch = branches_from (length u) a i mid in
    let ys : List Branch = branches_from mid b i j in
    let part : nodes ≡ u ++ (postfix a ++ (postfix b ++ Or ∷ v)) = nodes_are ∙ five_parts u (postfix a) (postfix b) v Or in
    let branch_part : bs ≡ bu ++ (xs ++ (ys ++ branch i j ∷ bv)) = branches_are ∙ five_parts bu xs ys bv (branch i j) in
    let size = joined_size (postfix a) (postfix b) Or in
    either m nodes bs (value m a) (value m b) (length u) mid i j
    (leads m a nodes u (postfix b ++ Or ∷ v) bs bu (ys ++ branch i j ∷ bv) i mid part branch_part count (omega (arith, first, size))
    (omega arith))
    (next m b nodes u v bs bu bv a Or xs i j part branch_part count (length-branches (length u) a i mid)
    (omega (arith, first, size)) (omega (arith, second, size))
    (λ us bus nodes_is branches_is count_is below under.
    leads m b nodes us (Or ∷ v) bs bus (branch i j ∷ bv) i j nodes_is branches_is count_is below under))

-- where a whole predicate is decided
abbrev pub goal_of : Moment → List Node → Tree → ℕ
goal_of m nodes t = if value m t then length nodes else length nodes + 1

-- from the first node
pub led : (m : Moment) (nodes : List Node) (bs : List Branch) (t : Tree) → nodes ≡ postfix t → bs ≡ branches_of t
    → Leads m nodes bs 0 (goal_of m nodes t)
led m nodes bs t nodes_are branches_are =
    let n : ℕ = length (postfix t) in
    let way : Leads m nodes bs 0 (if value m t then n else n + 1) =
    leads m t nodes [] [] bs [] [] n (n + 1) (nodes_are ∙ sym (append-nil (postfix t)))
    (branches_are ∙ sym (append-nil (branches_from 0 t n (n + 1)))) refl (omega arith) (omega arith) in
    subst (λ (ns : List Node). Leads m nodes bs 0 (if value m t then length ns else length ns + 1)) (sym nodes_are) way

-- at the beginning, nodes and branches being those of a predicate
pub begun : (m : Moment) (ns nodes : List Node) (bs branches : List Branch) (t : Tree) → nodes ≡ ns → branches ≡ bs
    → ns ≡ postfix (tree_of ns) → bs ≡ branches_of (tree_of ns) → tree_of ns ≡ t → Leads m nodes branches 0 (goal_of m nodes t)
begun m ns nodes bs branches t nodes_are branches_are are_postfix are_branches tree_is =
    led m nodes branches t (nodes_are ∙ are_postfix ∙ ap postfix tree_is) (branches_are ∙ are_branches ∙ ap branches_of tree_is)

goal_past : (v : Bool) (n : ℕ) → n ≤ (if v then n else n + 1)
goal_past true n = omega arith
goal_past false n = omega arith

-- one step further
pub record Onward (m : Moment) (nodes : List Node) (bs : List Branch) (at to : ℕ) : Type 0 where
  pub test : Test
  pub branch : Branch
  pub node_is : slice_get nodes at ≡ Some (Operand test)
  pub branch_is : slice_get bs at ≡ Some branch
  pub later : at < target branch (holds m test)
  pub leads : Leads m nodes bs (target branch (holds m test)) to

pub go_on : (m : Moment) (nodes : List Node) (bs : List Branch) (t : Tree) (at to : ℕ) → at < length nodes → to ≡ goal_of m nodes t
    → Leads m nodes bs at to → Onward m nodes bs at to
go_on m nodes bs t at _ within to_is (there _) = absurd (omega (arith, to_is, goal_past (value m t) (length nodes)))
go_on m nodes bs t at to within to_is (onward _ _ x b node_is branch_is is_later more) =
    record { test = x; branch = b; node_is = node_is; branch_is = branch_is; later = is_later; leads = more }

decided : (v : Bool) (n at : ℕ) → at ≡ (if v then n else n + 1) → (at == n) ≡ v
decided true n at is = rw is (grind arith)
decided false n at is = rw is (grind arith)

-- past the last node the value is known
pub ended : (m : Moment) (nodes : List Node) (bs : List Branch) (t : Tree) (at to : ℕ) → length nodes ≤ at → to ≡ goal_of m nodes t
    → Leads m nodes bs at to → (at == length nodes) ≡ value m t
ended m nodes bs t at _ past to_is (there _) = decided (value m t) (length nodes) at to_is
ended m nodes bs t at to past to_is (onward _ _ x b node_is branch_is is_later more) =
    absurd (omega (arith, past, slice_get_within nodes at (Operand x) node_is))

some_is : {A : Type 0} (x y : A) → Some x ≡ Some y → x ≡ y
some_is x y is = cc

-- the node at an index before the last is a test
pub at_test : (m : Moment) (nodes : List Node) (bs : List Branch) (t : Tree) (at : ℕ) (node : Node) → at < length nodes
    → node ≡ get_or nodes at node → Leads m nodes bs at (goal_of m nodes t) → (x : Test) × (node ≡ Operand x)
at_test m nodes bs t at node within is so_far =
    let on = go_on m nodes bs t at (goal_of m nodes t) within refl so_far in
    (on.test, some_is node (Operand on.test) (sym (slice_get_read nodes (length nodes) at node refl within is) ∙ on.node_is))

-- it has a branch
pub at_branch : (m : Moment) (nodes : List Node) (bs : List Branch) (t : Tree) (at : ℕ) → at < length nodes
    → Leads m nodes bs at (goal_of m nodes t) → at < length bs
at_branch m nodes bs t at within so_far =
    let on = go_on m nodes bs t at (goal_of m nodes t) within refl so_far in
    slice_get_within bs at on.branch on.branch_is

-- where evaluation goes on after a test
pub record After (m : Moment) (nodes : List Node) (bs : List Branch) (at then_at to : ℕ) : Type 0 where
  pub later : at < then_at
  pub leads : Leads m nodes bs then_at to

pub after_test : (m : Moment) (nodes : List Node) (bs : List Branch) (t : Tree) (at then_at : ℕ) (node : Node) (x : Test) (d : Branch)
    (v : Bool) → at < length nodes → node ≡ get_or nodes at node → node ≡ Operand x → v ≡ holds m x
    → then_at ≡ target (get_or bs at d) v → Leads m nodes bs at (goal_of m nodes t) → After m nodes bs at then_at (goal_of m nodes t)
after_test m nodes bs t at then_at node x d v within is test_is value_is goes so_far =
    let to : ℕ = goal_of m nodes t in
    let on = go_on m nodes bs t at to within refl so_far in
    let same_node : Operand x ≡ Operand on.test =
    some_is (Operand x) (Operand on.test) (ap Some (sym test_is)
    ∙ sym (slice_get_read nodes (length nodes) at node refl within is) ∙ on.node_is) in
    let same_test : x ≡ on.test = cc in
    let same_branch : get_or bs at d ≡ on.branch = get_or_from_slice_get bs at on.branch d on.branch_is in
    let goes_there : then_at ≡ target on.branch (holds m on.test) =
    goes ∙ ap (target (get_or bs at d)) (value_is ∙ ap (holds m) same_test) ∙ ap (λ c. target c (holds m on.test)) same_branch in
    record {
      later = subst (λ k. at < k) (sym goes_there) on.later;
      leads = subst (λ k. Leads m nodes bs k to) (sym goes_there) on.leads;
    }
