-- The rules that a predicate names, by its nodes.
use Rattle.std.proofs.Common.{◌≡◌, ℕ, ◌+◌, ◌<◌, ◌≤◌, List, [], ◌∷◌, ◌++◌, length, take, get_or, refl, ap, sym, ◌∙◌, append_assoc}
use Rattle.std.proofs.lemmas.List.{append-nil, take_all, take_more}
use Rattle.g4_preds.specs.declared.node.Node.{Node}
use Rattle.g4_preds.specs.declared.node.Node.TheVariants.{Not, And, Or}
use Rattle.g4_preds.specs.Postfix.{postfix, rule_in}
use Rattle.g4_preds.specs.Trees.{Tree, test, negation, conjunction, disjunction, rule_of, rules_of}

-- the rules that nodes name
abbrev pub rules_in : List Node → List (List ℕ)
rules_in [] = []
rules_in (node ∷ nodes) = rule_in node ++ rules_in nodes

pub rules_in-append : (ms ns : List Node) → rules_in (ms ++ ns) ≡ rules_in ms ++ rules_in ns
rules_in-append [] ns = refl
rules_in-append (m ∷ ms) ns = ap (λ rs. rule_in m ++ rs) (rules_in-append ms ns)
    ∙ sym (append_assoc (rule_in m) (rules_in ms) (rules_in ns))

-- after an operator that names none
by_operator : (ns : List Node) (n : Node) → rule_in n ≡ [] → rules_in (ns ++ n ∷ []) ≡ rules_in ns
by_operator ns n none = rules_in-append ns (n ∷ []) ∙ ap (λ rs. rules_in ns ++ (rs ++ [])) none ∙ append-nil (rules_in ns)

-- the postfix form names the rules of the tree, in its order
pub rules_in-postfix : (t : Tree) → rules_in (postfix t) ≡ rules_of t
rules_in-postfix (test t) = append-nil (rule_of t)
rules_in-postfix (negation t) = by_operator (postfix t) Not refl ∙ rules_in-postfix t
rules_in-postfix (conjunction a b) =
    by_operator (postfix a ++ postfix b) And refl ∙ rules_in-append (postfix a) (postfix b)
    ∙ ap (λ rs. rs ++ rules_in (postfix b)) (rules_in-postfix a) ∙ ap (λ rs. rules_of a ++ rs) (rules_in-postfix b)
rules_in-postfix (disjunction a b) =
    by_operator (postfix a ++ postfix b) Or refl ∙ rules_in-append (postfix a) (postfix b)
    ∙ ap (λ rs. rs ++ rules_in (postfix b)) (rules_in-postfix a) ∙ ap (λ rs. rules_of a ++ rs) (rules_in-postfix b)

-- one more node
pub rules_more : (nodes : List Node) (i : ℕ) (node : Node) → i < length nodes → node ≡ get_or nodes i node
    → rules_in (take (i + 1) nodes) ≡ rules_in (take i nodes) ++ rule_in node
rules_more nodes i node within is =
    let longer : take (i + 1) nodes ≡ take i nodes ++ node ∷ [] =
    take_more nodes i node within ∙ ap (λ n. take i nodes ++ n ∷ []) (sym is) in
    ap rules_in longer ∙ rules_in-append (take i nodes) (node ∷ []) ∙ ap (λ rs. rules_in (take i nodes) ++ rs) (append-nil (rule_in node))

-- all nodes
pub rules_whole : (nodes : List Node) (i : ℕ) (t : Tree) → length nodes ≤ i → nodes ≡ postfix t → rules_in (take i nodes) ≡ rules_of t
rules_whole nodes i t done are = ap rules_in (take_all i nodes done ∙ are) ∙ rules_in-postfix t
