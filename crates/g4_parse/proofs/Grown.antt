-- The parser's lists, the tree that it grows, and the open rules of the run.
use Rattle.std.proofs.Common.{◌≡◌, ◌∷◌, [], ◌++◌, ◌-◌, ℕ, List, length, map, take, refl, ◌∙◌, ap, arith, length-append, reverse, cond, ◌==◌}
use Rattle.std.proofs.lemmas.List.{map-append, reverse-append, take_at}
use Rattle.g4_trees.specs.Trees.{Tree}
use Rattle.g4_trees.specs.Growing.{with_tree, with_alternative, with_close, with_wrap}
use Rattle.g4_run.specs.Running.{Frame, Run, with_child, with_alt, wrapped, node_of, backs}
use Rattle.g4_parse.specs.declared.predicates.Opened.{Opened}
use Rattle.g4_parse.specs.Standing.{returns_of, opened_of, grown, open_node}

-- as many rules are open
pub length_returns : (fs : List Frame) → length (returns_of fs) ≡ length fs
length_returns [] = refl
length_returns (f ∷ fs) = omega (arith, length-append (returns_of fs) (f.back ∷ []), length_returns fs)

-- all but the last of a list
pub all_but_last : (xs : List Opened) (x : Opened) → take (length (xs ++ x ∷ []) - 1) (xs ++ x ∷ []) ≡ xs
all_but_last xs x = take_at xs (x ∷ []) (length (xs ++ x ∷ []) - 1) (omega (arith, length-append xs (x ∷ [])))

-- newest first they are the other way
pub reverse_returns : (fs : List Frame) → reverse (returns_of fs) ≡ backs fs
reverse_returns [] = refl
reverse_returns (f ∷ fs) = reverse-append (returns_of fs) (f.back ∷ []) ∙ ap (λ (bs : List ℕ). f.back ∷ bs) (reverse_returns fs)

-- so it is with the numbers of the open rules
pub rules_open : (fs : List Frame) → reverse (map (λ o. o.rule) (opened_of fs)) ≡ map (λ f. f.rule) fs
rules_open [] = refl
rules_open (f ∷ fs) =
    ap reverse (map-append (λ (o : Opened). o.rule) (opened_of fs) (record { rule = f.rule; level = f.level } ∷ []))
    ∙ reverse-append (map (λ (o : Opened). o.rule) (opened_of fs)) (f.rule ∷ [])
    ∙ ap (λ (rs : List ℕ). f.rule ∷ rs) (rules_open fs)

-- one more child opens no rule
pub returns_child : (r : Run) (fs : List Frame) (t : Tree) → returns_of (with_child r fs t).frames ≡ returns_of fs
returns_child r [] t = refl
returns_child r (f ∷ fs) t = refl

pub opened_child : (r : Run) (fs : List Frame) (t : Tree) → opened_of (with_child r fs t).frames ≡ opened_of fs
opened_child r [] t = refl
opened_child r (f ∷ fs) t = refl

-- the child is one of the newest open node's
pub grown_child : (r : Run) (fs : List Frame) (t : Tree)
    → grown (with_child r fs t).frames (with_child r fs t).tree ≡ with_tree t (grown fs r.tree)
grown_child r [] t = refl
grown_child r (f ∷ fs) t = refl

-- a closed node
pub grown_close : (r : Run) (f : Frame) (fs : List Frame)
    → grown (with_child r fs (node_of f)).frames (with_child r fs (node_of f)).tree ≡ with_close (grown (f ∷ fs) r.tree)
grown_close r f [] = refl
grown_close r f (g ∷ fs) = refl

-- another alternative opens no rule, and is that of the newest open node
pub returns_alt : (i : ℕ) (fs : List Frame) → returns_of (with_alt i fs) ≡ returns_of fs
returns_alt i [] = refl
returns_alt i (f ∷ fs) = refl

pub opened_alt : (i : ℕ) (fs : List Frame) → opened_of (with_alt i fs) ≡ opened_of fs
opened_alt i [] = refl
opened_alt i (f ∷ fs) = refl

pub grown_alt : (i : ℕ) (fs : List Frame) (r : Run) → ((alt : ℕ) → cond (i == 0) alt i ≡ i)
    → grown (with_alt i fs) r.tree ≡ with_alternative i (grown fs r.tree)
grown_alt i [] r e = refl
grown_alt i (f ∷ fs) r e = ap (λ (j : ℕ). record
    { nodes = record { rule = f.rule; alt = j; at = f.at; children = f.children } ∷ map open_node fs; trees = r.tree }) (e f.alt)

-- a level opens no rule, and makes the newest open node a first child
pub returns_wrapped : (i : ℕ) (fs : List Frame) → returns_of (wrapped i fs) ≡ returns_of fs
returns_wrapped i [] = refl
returns_wrapped i (f ∷ fs) = refl

pub opened_wrapped : (i : ℕ) (fs : List Frame) → opened_of (wrapped i fs) ≡ opened_of fs
opened_wrapped i [] = refl
opened_wrapped i (f ∷ fs) = refl

pub grown_wrapped : (i : ℕ) (fs : List Frame) (r : Run) → grown (wrapped i fs) r.tree ≡ with_wrap i (grown fs r.tree)
grown_wrapped i [] r = refl
grown_wrapped i (f ∷ fs) r = refl
