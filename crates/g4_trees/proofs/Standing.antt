-- What entries represent after one more step.
use Rattle.std.proofs.Common.{◌≡◌, ◌++◌, ◌∷◌, [], ℕ, List, length, refl, sym, ◌∙◌, ap, subst, append_assoc, append-nil}
use Rattle.g4_trees.specs.declared.tree.Item.TheVariants as items
use Rattle.g4_trees.specs.Trees.{Tree, leaf, node, Forest, no_tree, and_then, only}
use Rattle.g4_trees.specs.Growing.{OpenNode, Growing, one_more, close_newest, closed}
use Rattle.g4_trees.specs.Kept.{Entry, kept, wrap, AreTrees, none, a_token, a_node, AreChildren, as_they_are, after_wrap, StandFor}
use Rattle.g4_trees.proofs.Forests.{and_none, and_assoc}

-- trees after others
pub trees_more : {es fs : List Entry} {ts us : Forest} → AreTrees es ts → AreTrees fs us → AreTrees (es ++ fs) (and_then ts us)
trees_more {es} {fs} {ts} {us} h none = subst (λ (xs : List Entry). AreTrees xs (and_then ts no_tree)) (sym (append-nil es))
    (subst (λ (vs : Forest). AreTrees es vs) (sym (and_none ts)) h)
trees_more {es} {fs} {ts} {us} h (a_token gs _ vs _ at more e f) =
    a_token (es ++ gs) (es ++ fs) (and_then ts vs) (and_then ts us) at (trees_more h more)
    (ap (λ (xs : List Entry). es ++ xs) e ∙ sym (append_assoc es gs (kept (items.Token at) ∷ [])))
    (ap (and_then ts) f ∙ sym (and_assoc ts vs (only (leaf at))))
trees_more {es} {fs} {ts} {us} h (a_node gs xs _ vs children _ rule alt at more inside e f) =
    a_node (es ++ gs) xs (es ++ fs) (and_then ts vs) children (and_then ts us) rule alt at (trees_more h more) inside
    (ap (λ (ys : List Entry). es ++ ys) e ∙ sym
    (append_assoc es gs (kept (items.Enter rule alt at) ∷ (xs ++ kept items.Exit ∷ []))))
    (ap (and_then ts) f ∙ sym (and_assoc ts vs (only (node rule alt at children))))

-- children after others
pub children_more : {rule at : ℕ} {xs es : List Entry} {children ts : Forest} → AreChildren rule at xs children → AreTrees es ts
    → AreChildren rule at (xs ++ es) (and_then children ts)
children_more (as_they_are rule at xs ts h) more = as_they_are rule at _ _ (trees_more h more)
children_more {rule} {at} {xs = ys} {es = es} {children = us} {ts = ts} (after_wrap _ alt _ xs gs _ children vs _ inside h e f) more =
    after_wrap rule alt at xs (gs ++ es) (ys ++ es) children (and_then vs ts) (and_then us ts) inside (trees_more h more)
    (ap (λ (zs : List Entry). zs ++ es) e ∙ append_assoc xs (wrap alt ∷ gs) es) (ap (λ (ws : Forest). and_then ws ts) f)

-- one tree
one_token : (at : ℕ) → AreTrees (kept (items.Token at) ∷ []) (only (leaf at))
one_token at = a_token [] (kept (items.Token at) ∷ []) no_tree (only (leaf at)) at none refl refl

one_node : {xs : List Entry} {children : Forest} (rule alt at : ℕ) → AreChildren rule at xs children
    → AreTrees (kept (items.Enter rule alt at) ∷ (xs ++ kept items.Exit ∷ [])) (only (node rule alt at children))
one_node {xs} {children} rule alt at h = a_node [] xs (kept (items.Enter rule alt at) ∷ (xs ++ kept items.Exit ∷ [])) no_tree children
    (only (node rule alt at children)) rule alt at none h refl refl

-- the entries of a tree after those of open nodes
pub tree_more : (es fs : List Entry) (enters : List ℕ) (ns : List OpenNode) (trees : Forest) (t : Tree) → StandFor es enters ns trees
    → AreTrees fs (only t) → StandFor (es ++ fs) enters (one_more t ns trees).nodes (one_more t ns trees).trees
tree_more es fs enters [] trees t h more = (h.0, trees_more h.1 more)
tree_more es fs enters (n ∷ ns) trees t (before, xs, rest, e, at, inside, out) more = (
  before,
  xs ++ fs,
  rest,
  ap (λ (ys : List Entry). ys ++ fs) e
      ∙ append_assoc before (kept (items.Enter n.rule n.alt n.at) ∷ xs) fs,
  at,
  children_more inside more,
  out,
)

-- a token
pub token_stands : (es : List Entry) (enters : List ℕ) (g : Growing) (at : ℕ) → StandFor es enters g.nodes g.trees
    → StandFor (es ++ kept (items.Token at) ∷ []) enters (one_more (leaf at) g.nodes g.trees).nodes
    (one_more (leaf at) g.nodes g.trees).trees
token_stands es enters g at h = tree_more es (kept (items.Token at) ∷ []) enters g.nodes g.trees (leaf at) h (one_token at)

-- a node that opens
pub node_stands : (es : List Entry) (enters : List ℕ) (ns : List OpenNode) (trees : Forest) (rule alt at : ℕ)
    → StandFor es enters ns trees → StandFor (es ++ kept (items.Enter rule alt at) ∷ []) (enters ++ length es ∷ [])
    (record { rule = rule; alt = alt; at = at; children = no_tree } ∷ ns) trees
node_stands es enters ns trees rule alt at h = (es, [], enters, refl, refl, as_they_are rule at [] no_tree none, h)

-- a node that closes
pub close_stands : (es : List Entry) (enters more : List ℕ) (last : ℕ) (ns : List OpenNode) (trees : Forest)
    → StandFor es enters ns trees → enters ≡ more ++ last ∷ []
    → ((xs : List ℕ) (x y : ℕ) (ys : List ℕ) → xs ++ x ∷ [] ≡ ys ++ y ∷ [] → xs ≡ ys)
    → StandFor (es ++ kept items.Exit ∷ []) more (close_newest ns trees).nodes (close_newest ns trees).trees
close_stands es enters more last [] trees h e same = absurd (let none : [] ≡ more ++ last ∷ [] = sym h.0 ∙ e in no_end more none)
  where
    no_end : (more : List ℕ) → [] ≡ more ++ last ∷ [] → ⊥
    no_end [] f = cc
    no_end (m ∷ ms) f = cc
close_stands es enters more last (n ∷ ns) trees (before, xs, rest, f, at, inside, out) e same =
    let kept_more : rest ≡ more = same rest (length before) last more (sym at ∙ e) in
    let whole : es ++ kept items.Exit ∷ [] ≡ before ++ (kept (items.Enter n.rule n.alt n.at) ∷ (xs ++ kept items.Exit ∷ [])) =
    ap (λ (ys : List Entry). ys ++ kept items.Exit ∷ []) f
    ∙ append_assoc before (kept (items.Enter n.rule n.alt n.at) ∷ xs) (kept items.Exit ∷ []) in
    subst (λ (ys : List Entry). StandFor ys more (one_more (closed n) ns trees).nodes (one_more (closed n) ns trees).trees)
    (sym whole) (tree_more before (kept (items.Enter n.rule n.alt n.at) ∷ (xs ++ kept items.Exit ∷ [])) more ns trees (closed n)
    (subst (λ (zs : List ℕ). StandFor before zs ns trees) kept_more out) (one_node n.rule n.alt n.at inside))
