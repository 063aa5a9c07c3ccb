-- The items of a pattern's tree are found where it matches, with its bindings.
use Rattle.std.proofs.Common.{◌≡◌, ◌+◌, ℕ, zero, suc, List, [], ◌∷◌, ◌++◌, length, drop, Bool, true, false, ◌==◌, refl, sym, ◌∙◌, ap, arith, append_assoc, append-nil, length-append}
use Rattle.std.specs.Prelude.{Option, Some, None, slice_get, cond}
use Rattle.std.proofs.lemmas.Bool.Decides.{Decides-eqb}
use Rattle.g4_tokens.specs.declared.token.Tokens.{Tokens}
use Rattle.g4_trees.specs.declared.tree.Item.{Item}
use Rattle.g4_trees.specs.declared.tree.Item.TheVariants as items
use Rattle.g4_trees.specs.Trees.{Tree, leaf, node, Forest, no_tree, a_tree, items_of, items_of_all}
use Rattle.g4_patterns.specs.declared.token.PatternToken.{PatternToken}
use Rattle.g4_patterns.specs.declared.token.PatternToken.TheVariants as patterns
use Rattle.g4_patterns.specs.declared.binding.Binding.{Binding}
use Rattle.g4_patterns.specs.declared.stand.Stand.{Stand}
use Rattle.g4_patterns.specs.declared.stand.Step.{Step}
use Rattle.g4_patterns.specs.Lasts.{AreLasts}
use Rattle.g4_patterns.specs.Matching.{bound}
use Rattle.g4_patterns.specs.Walking.{before, bindings_of, enter_at, exit_at, is_token, is_type, joined, leaf_at, name_of, past, starting, walk}
use Rattle.g4_patterns.proofs.Bindings.{all_bindings, bindings, both, by_tag, of_leaf, tag_by, tag_found, tag_in}
use Rattle.g4_patterns.proofs.Subtrees.{drop_past, first_at}

-- no bindings before others
pub before_none : (w : Option (List Binding)) → before [] w ≡ w
before_none None = refl
before_none (Some bs) = refl

-- three after one another
both_assoc : (a b c : Option (List Binding)) → both a (both b c) ≡ both (both a b) c
both_assoc None b c = refl
both_assoc (Some xs) None c = refl
both_assoc (Some xs) (Some ys) None = refl
both_assoc (Some xs) (Some ys) (Some zs) = ap (λ (bs : List Binding). Some bs) (sym (append_assoc xs ys zs))

-- nothing more
pub both_end : (a : Option (List Binding)) → both a (Some []) ≡ a
both_end None = refl
both_end (Some bs) = ap (λ (cs : List Binding). Some cs) (append-nil bs)

-- a node has just begun, of this rule and at this place
abbrev pub entered : ℕ → ℕ → Stand
entered rule k = record { at = suc k; opened = Some (record { rule = rule; node = k }) }

module _ (pattern : List PatternToken) (xs : List Item) (lasts : List ℕ) (tokens : Tokens) where
  -- the walk from a place on
  abbrev from : ℕ → List Item → Option (List Binding)
  from k qs = walk xs lasts tokens pattern (starting k) qs

  -- the walk after an item that was looked for
  abbrev after : Item → Option Step → List Item → Option (List Binding)
  after x o qs = joined xs lasts tokens pattern x o (λ next. walk xs lasts tokens pattern next qs)

  -- by whether a test holds
  test_walk : (x : Item) (b : Bool) (k : ℕ) (o : Option ℕ) (qs : List Item)
      → after x (cond b (Some (past k o)) None) qs ≡ both (cond b (Some (bindings_of pattern x o)) None) (from (suc k) qs)
  test_walk x true k o qs = refl
  test_walk x false k o qs = refl

  -- a token of the pattern at a token
  leaf_walk : (place at k : ℕ) (o : Option PatternToken) (qs : List Item) → slice_get pattern place ≡ o
      → slice_get xs k ≡ Some (items.Token at)
      → after (items.Token place) (leaf_at xs lasts tokens (starting k) o) qs
      ≡ both (of_leaf tokens.bytes o k (slice_get tokens.list at)) (from (suc k) qs)
  leaf_walk place at k None qs is there = refl
  leaf_walk place at k (Some (patterns.Plain symbol text)) qs is there =
      rw there (test_walk (items.Token place) (is_token tokens.bytes symbol text (slice_get tokens.list at)) k None qs)
  leaf_walk place at k (Some (patterns.TokenTag symbol name)) qs is there =
      let named : name_of pattern (items.Token place) ≡ name = rw is refl in
      rw there (test_walk (items.Token place) (is_type symbol (slice_get tokens.list at)) k (Some k) qs
      ∙ ap (λ (n : List ℕ). both (cond (is_type symbol (slice_get tokens.list at)) (Some (bound n k)) None) (from (suc k) qs)) named)
  leaf_walk place at k (Some (patterns.RuleTag rule name)) qs is there = refl

  -- what a token of the pattern does not find
  abbrev pub NoToken : Option Item → Type 0
  NoToken None = Unit {0}
  NoToken (Some (items.Enter rule alt at)) = Unit {0}
  NoToken (Some (items.Token at)) = ⊥
  NoToken (Some items.Exit) = Unit {0}

  no_leaf : (k : ℕ) (o : Option PatternToken) (there : Option Item) → slice_get xs k ≡ there → NoToken there
      → leaf_at xs lasts tokens (starting k) o ≡ None
  no_leaf k None there is h = refl
  no_leaf k (Some (patterns.Plain symbol text)) None is h = rw is refl
  no_leaf k (Some (patterns.Plain symbol text)) (Some (items.Enter rule alt at)) is h = rw is refl
  no_leaf k (Some (patterns.Plain symbol text)) (Some (items.Token at)) is h = absurd h
  no_leaf k (Some (patterns.Plain symbol text)) (Some items.Exit) is h = rw is refl
  no_leaf k (Some (patterns.TokenTag symbol name)) None is h = rw is refl
  no_leaf k (Some (patterns.TokenTag symbol name)) (Some (items.Enter rule alt at)) is h = rw is refl
  no_leaf k (Some (patterns.TokenTag symbol name)) (Some (items.Token at)) is h = absurd h
  no_leaf k (Some (patterns.TokenTag symbol name)) (Some items.Exit) is h = rw is refl
  no_leaf k (Some (patterns.RuleTag rule name)) there is h = refl

  -- a tree of the pattern begins with no item that is found where a node ends, or past the last item
  pub no_tree_at_end : (p : Tree) (k : ℕ) (qs : List Item) → slice_get xs k ≡ Some items.Exit → from k (items_of p ++ qs) ≡ None
  no_tree_at_end (leaf place) k qs e =
      let none : leaf_at xs lasts tokens (starting k) (slice_get pattern place) ≡ None =
      no_leaf k (slice_get pattern place) (Some items.Exit) e tt in
      ap (λ (o : Option Step). after (items.Token place) o qs) none
  no_tree_at_end (node rule alt at ps) k qs e =
      ap (λ (o : Option Item). after (items.Enter rule alt at) (enter_at k rule o) ((items_of_all ps ++ items.Exit ∷ []) ++ qs)) e

  pub no_tree_past : (p : Tree) (k : ℕ) (qs : List Item) → slice_get xs k ≡ None → from k (items_of p ++ qs) ≡ None
  no_tree_past (leaf place) k qs e =
      let none : leaf_at xs lasts tokens (starting k) (slice_get pattern place) ≡ None = no_leaf k (slice_get pattern place) None e tt in
      ap (λ (o : Option Step). after (items.Token place) o qs) none
  no_tree_past (node rule alt at ps) k qs e =
      ap (λ (o : Option Item). after (items.Enter rule alt at) (enter_at k rule o) ((items_of_all ps ++ items.Exit ∷ []) ++ qs)) e

  -- the end of a node of the pattern, where one ends
  end_walk : (k : ℕ) (qs : List Item) → slice_get xs k ≡ Some items.Exit → from k (items.Exit ∷ qs) ≡ from (suc k) qs
  end_walk k qs e = ap (λ (o : Option Item). after items.Exit (exit_at k o) qs) e ∙ before_none (from (suc k) qs)

  -- and where a tree begins
  no_end : (t : Tree) (rest qs : List Item) (k : ℕ) → drop k xs ≡ items_of t ++ rest → from k (items.Exit ∷ qs) ≡ None
  no_end (leaf at) rest qs k e =
      ap (λ (o : Option Item). after items.Exit (exit_at k o) qs) (first_at xs k (items.Token at) rest e)
  no_end (node rule alt at cs) rest qs k e =
      ap (λ (o : Option Item). after items.Exit (exit_at k o) qs)
      (first_at xs k (items.Enter rule alt at) ((items_of_all cs ++ items.Exit ∷ []) ++ rest) e)

  -- the tag alone where its node has just begun
  tag_walk : (rule place k last : ℕ) (name : List ℕ) (ps : Forest) (qs : List Item) (w : Option (List Binding))
      → slice_get pattern place ≡ Some (patterns.RuleTag rule name) → slice_get lasts k ≡ Some last
      → from last (items_of_all ps ++ (items.Exit ∷ qs)) ≡ w
      → walk xs lasts tokens pattern (entered rule k) (items.Token place ∷ (items_of_all ps ++ (items.Exit ∷ qs))) ≡ before (bound name k) w
  tag_walk rule place k last name ps qs w is there later =
      let same : (rule == rule) ≡ true = (Decides-eqb rule rule).1 refl in
      rw (is, same, there, is) (ap (before (bound name k)) later)

  -- where a token is not the tag of the rule, it does not matter that a node has just begun
  unopened : (rule k : ℕ) (o : Option PatternToken) → tag_by rule o ≡ None
      → leaf_at xs lasts tokens (entered rule k) o ≡ leaf_at xs lasts tokens (starting (suc k)) o
  unopened rule k None e = refl
  unopened rule k (Some (patterns.Plain symbol text)) e = refl
  unopened rule k (Some (patterns.TokenTag symbol name)) e = refl
  unopened rule k (Some (patterns.RuleTag other name)) e = by_test (rule == other) refl e
    where
      by_test : (b : Bool) → (rule == other) ≡ b → cond b (Some name) None ≡ None
          → leaf_at xs lasts tokens (entered rule k) (Some (patterns.RuleTag other name))
          ≡ leaf_at xs lasts tokens (starting (suc k)) (Some (patterns.RuleTag other name))
      by_test true is f = absurd (cc)
      by_test false is f = rw is refl

  -- such a token is not the one child that is the tag
  no_tag_in : (rule place : ℕ) (ps : Forest) → tag_by rule (slice_get pattern place) ≡ None
      → tag_in pattern tokens rule (a_tree (leaf place) ps) ≡ None
  no_tag_in rule place no_tree e = e
  no_tag_in rule place (a_tree p ps) e = refl

  -- the tag of a rule matches no tree
  tag_alone : (rule place k : ℕ) (name : List ℕ) (ps ts : Forest) → slice_get pattern place ≡ Some (patterns.RuleTag rule name)
      → all_bindings pattern tokens (a_tree (leaf place) ps) k ts ≡ None
  tag_alone rule place k name ps no_tree e = refl
  tag_alone rule place k name ps (a_tree (leaf at) ts) e = rw e refl
  tag_alone rule place k name ps (a_tree (node other alt at us) ts) e = refl

  -- an item after another
  next_item : (ys : List Item) (j : ℕ) (z : Item) (zs : List Item) → drop j ys ≡ z ∷ zs → drop (suc j) ys ≡ zs
  next_item [] zero z zs f = absurd (cc)
  next_item [] (suc j) z zs f = absurd (cc)
  next_item (y ∷ ys) zero z zs f = cc
  next_item (y ∷ ys) (suc j) z zs f = next_item ys j z zs f

  -- the items of children, and the end of their node
  inside : (rule alt at k : ℕ) (ts : Forest) (rest : List Item) → drop k xs ≡ items_of (node rule alt at ts) ++ rest
      → drop (suc k) xs ≡ items_of_all ts ++ (items.Exit ∷ rest)
  inside rule alt at k ts rest e =
      next_item xs k (items.Enter rule alt at) ((items_of_all ts ++ items.Exit ∷ []) ++ rest) e
      ∙ append_assoc (items_of_all ts) (items.Exit ∷ []) rest

  end_inside : (rule alt at k : ℕ) (ts : Forest) (rest : List Item) → drop k xs ≡ items_of (node rule alt at ts) ++ rest
      → slice_get xs (suc k + length (items_of_all ts)) ≡ Some items.Exit
  end_inside rule alt at k ts rest e = first_at xs (suc k + length (items_of_all ts)) items.Exit rest
      (drop_past (suc k) xs (items_of_all ts) (items.Exit ∷ rest) (inside rule alt at k ts rest e))

  -- a tree of the pattern before others
  tree_first : (k : ℕ) (p : Tree) (ps : Forest) (qs : List Item) → from k (items_of_all (a_tree p ps) ++ qs)
      ≡ from k (items_of p ++ (items_of_all ps ++ qs))
  tree_first k p ps qs = ap (from k) (append_assoc (items_of p) (items_of_all ps) qs)

  -- The children of a node, where a leaf is the first: by whether that is the tag of the rule. What is known of them otherwise is
  -- `plain`.
  leaf_first : (rule place k last : ℕ) (ps ts : Forest) (qs : List Item) (w : Option (List Binding)) (n : Option (List ℕ))
      → tag_by rule (slice_get pattern place) ≡ n → slice_get lasts k ≡ Some last → slice_get xs last ≡ Some items.Exit
      → from (suc last) qs ≡ w
      → from (suc k) (items_of_all (a_tree (leaf place) ps) ++ (items.Exit ∷ qs))
      ≡ both (all_bindings pattern tokens (a_tree (leaf place) ps) (suc k) ts) w
      → walk xs lasts tokens pattern (entered rule k) (items_of_all (a_tree (leaf place) ps) ++ (items.Exit ∷ qs))
      ≡ both (by_tag (tag_in pattern tokens rule (a_tree (leaf place) ps)) k
      (all_bindings pattern tokens (a_tree (leaf place) ps) (suc k) ts)) w
  leaf_first rule place k last ps ts qs w None is there at_last end plain =
      let inner = all_bindings pattern tokens (a_tree (leaf place) ps) (suc k) ts in
      ap (λ (o : Option Step). after (items.Token place) o (items_of_all ps ++ (items.Exit ∷ qs)))
      (unopened rule k (slice_get pattern place) is)
      ∙ plain ∙ ap (λ (o : Option (List ℕ)). both (by_tag o k inner) w) (sym (no_tag_in rule place ps is))
  leaf_first rule place k last no_tree ts qs w (Some name) is there at_last end plain =
      let inner = all_bindings pattern tokens (a_tree (leaf place) no_tree) (suc k) ts in
      let token : slice_get pattern place ≡ Some (patterns.RuleTag rule name) =
      tag_found pattern tokens rule (slice_get pattern place) name is in
      tag_walk rule place k last name no_tree qs w token there (end_walk last qs at_last ∙ end)
      ∙ ap (λ (o : Option (List ℕ)). both (by_tag o k inner) w) (sym is)
  leaf_first rule place k last (a_tree p ps) ts qs w (Some name) is there at_last end plain =
      let token : slice_get pattern place ≡ Some (patterns.RuleTag rule name) =
      tag_found pattern tokens rule (slice_get pattern place) name is in
      tag_walk rule place k last name (a_tree p ps) qs None token there
      (tree_first last p ps (items.Exit ∷ qs) ∙ no_tree_at_end p last (items_of_all ps ++ (items.Exit ∷ qs)) at_last)
      ∙ ap (λ (o : Option (List Binding)). both o w) (sym (tag_alone rule place (suc k) name (a_tree p ps) ts token))

  -- the place of the tree after a node
  past_node : (rule alt at k : ℕ) (ts : Forest) → suc (suc k + length (items_of_all ts)) ≡ k + length (items_of (node rule alt at ts))
  past_node rule alt at k ts =
      let whole : length (items_of_all ts ++ items.Exit ∷ []) ≡ length (items_of_all ts) + 1 =
      length-append (items_of_all ts) (items.Exit ∷ []) in
      omega (arith, whole)

  module _ (lasts_are : AreLasts xs lasts) where
    -- the children of a node
    children_walk : (rule alt at k : ℕ) (ps ts : Forest) (rest qs : List Item)
        → drop k xs ≡ items_of (node rule alt at ts) ++ rest
        → from (suc k) (items_of_all ps ++ (items.Exit ∷ qs))
        ≡ both (all_bindings pattern tokens ps (suc k) ts) (from (suc (suc k + length (items_of_all ts))) qs)
        → walk xs lasts tokens pattern (entered rule k) (items_of_all ps ++ (items.Exit ∷ qs))
        ≡ both (by_tag (tag_in pattern tokens rule ps) k (all_bindings pattern tokens ps (suc k) ts))
        (from (suc (suc k + length (items_of_all ts))) qs)
    children_walk rule alt at k no_tree ts rest qs e plain = plain
    children_walk rule alt at k (a_tree (node other alt' at' cs) ps) ts rest qs e plain = plain
    children_walk rule alt at k (a_tree (leaf place) ps) ts rest qs e plain =
        let last = lasts_are k (node rule alt at ts) (rest, e) in
        let last_is : last.0 ≡ suc k + length (items_of_all ts) =
        (let h = last.2 in let whole = past_node rule alt at k ts in omega (arith, whole, h)) in
        leaf_first rule place k last.0 ps ts qs (from (suc (suc k + length (items_of_all ts))) qs)
        (tag_by rule (slice_get pattern place)) refl last.1 (ap (slice_get xs) last_is ∙ end_inside rule alt at k ts rest e)
        (ap (λ (j : ℕ). from (suc j) qs) last_is) plain

    -- a node of the pattern at a node of the same rule
    node_walk : (rule alt at other alt' at' k : ℕ) (ps : Forest) (qs : List Item) (w : Option (List Binding))
        → (other == rule) ≡ true → slice_get xs k ≡ Some (items.Enter other alt' at')
        → walk xs lasts tokens pattern (entered rule k) (items_of_all ps ++ (items.Exit ∷ qs)) ≡ w
        → from k (items_of (node rule alt at ps) ++ qs) ≡ w
    node_walk rule alt at other alt' at' k ps qs w is there inner =
        rw (there, is) (before_none (walk xs lasts tokens pattern (entered rule k) ((items_of_all ps ++ items.Exit ∷ []) ++ qs))
        ∙ ap (walk xs lasts tokens pattern (entered rule k)) (append_assoc (items_of_all ps) (items.Exit ∷ []) qs) ∙ inner)

    -- a node of the pattern at a node, by whether the rules are the same
    by_rule : (rule alt at other alt' at' k : ℕ) (ps ts : Forest) (rest qs : List Item)
        → drop k xs ≡ items_of (node other alt' at' ts) ++ rest → (b : Bool) → (other == rule) ≡ b
        → from (suc k) (items_of_all ps ++ (items.Exit ∷ qs))
        ≡ both (all_bindings pattern tokens ps (suc k) ts) (from (suc (suc k + length (items_of_all ts))) qs)
        → from k (items_of (node rule alt at ps) ++ qs)
        ≡ both (cond b (by_tag (tag_in pattern tokens rule ps) k (all_bindings pattern tokens ps (suc k) ts)) None)
        (from (k + length (items_of (node other alt' at' ts))) qs)
    by_rule rule alt at other alt' at' k ps ts rest qs e true is plain =
        let same_rules : other ≡ rule = (Decides-eqb other rule).0 is in
        let there : drop k xs ≡ items_of (node rule alt' at' ts) ++ rest =
        e ∙ ap (λ (r : ℕ). items_of (node r alt' at' ts) ++ rest) same_rules in
        let found : slice_get xs k ≡ Some (items.Enter other alt' at') =
        first_at xs k (items.Enter other alt' at') ((items_of_all ts ++ items.Exit ∷ []) ++ rest) e in
        let w = from (suc (suc k + length (items_of_all ts))) qs in
        let inner = children_walk rule alt' at' k ps ts rest qs there plain in
        node_walk rule alt at other alt' at' k ps qs
        (both (by_tag (tag_in pattern tokens rule ps) k (all_bindings pattern tokens ps (suc k) ts)) w) is found inner
        ∙ ap (λ (j : ℕ). both (by_tag (tag_in pattern tokens rule ps) k (all_bindings pattern tokens ps (suc k) ts)) (from j qs))
        (past_node other alt' at' k ts)
    by_rule rule alt at other alt' at' k ps ts rest qs e false is plain =
        let found : slice_get xs k ≡ Some (items.Enter other alt' at') =
        first_at xs k (items.Enter other alt' at') ((items_of_all ts ++ items.Exit ∷ []) ++ rest) e in
        rw (found, is) refl

    mutual
      -- a tree of the pattern, where a tree begins
      pub tree_walk : (p t : Tree) (k : ℕ) (rest qs : List Item) → drop k xs ≡ items_of t ++ rest
          → from k (items_of p ++ qs) ≡ both (bindings pattern tokens p k t) (from (k + length (items_of t)) qs)
      tree_walk (leaf place) (leaf at) k rest qs e =
          leaf_walk place at k (slice_get pattern place) qs refl (first_at xs k (items.Token at) rest e)
          ∙ ap (λ (j : ℕ). both (of_leaf tokens.bytes (slice_get pattern place) k (slice_get tokens.list at)) (from j qs))
          (let n : suc k ≡ k + length (items_of (leaf at)) = omega arith in n)
      tree_walk (leaf place) (node rule alt at ts) k rest qs e =
          ap (λ (o : Option Step). after (items.Token place) o qs)
          (no_leaf k (slice_get pattern place) (Some (items.Enter rule alt at))
          (first_at xs k (items.Enter rule alt at) ((items_of_all ts ++ items.Exit ∷ []) ++ rest) e) tt)
      tree_walk (node rule alt at ps) (leaf place) k rest qs e =
          ap (λ (o : Option Item). after (items.Enter rule alt at) (enter_at k rule o) ((items_of_all ps ++ items.Exit ∷ []) ++ qs))
          (first_at xs k (items.Token place) rest e)
      tree_walk (node rule alt at ps) (node other alt' at' ts) k rest qs e =
          by_rule rule alt at other alt' at' k ps ts rest qs e (other == rule) refl
          (all_walk ps ts (suc k) rest qs (inside other alt' at' k ts rest e))

      -- trees of the pattern and the end of their node, where trees and the end of theirs begin
      all_walk : (ps ts : Forest) (k : ℕ) (rest qs : List Item) → drop k xs ≡ items_of_all ts ++ (items.Exit ∷ rest)
          → from k (items_of_all ps ++ (items.Exit ∷ qs))
          ≡ both (all_bindings pattern tokens ps k ts) (from (suc (k + length (items_of_all ts))) qs)
      all_walk no_tree no_tree k rest qs e =
          end_walk k qs (first_at xs k items.Exit rest e)
          ∙ ap (λ (j : ℕ). from (suc j) qs) (let n : k ≡ k + 0 = omega arith in n)
          ∙ sym (before_none (from (suc (k + 0)) qs))
      all_walk no_tree (a_tree t ts) k rest qs e =
          no_end t (items_of_all ts ++ (items.Exit ∷ rest)) qs k (e ∙ append_assoc (items_of t) (items_of_all ts) (items.Exit ∷ rest))
      all_walk (a_tree p ps) no_tree k rest qs e =
          tree_first k p ps (items.Exit ∷ qs)
          ∙ no_tree_at_end p k (items_of_all ps ++ (items.Exit ∷ qs)) (first_at xs k items.Exit rest e)
      all_walk (a_tree p ps) (a_tree t ts) k rest qs e =
          let one : drop k xs ≡ items_of t ++ (items_of_all ts ++ (items.Exit ∷ rest)) =
          e ∙ append_assoc (items_of t) (items_of_all ts) (items.Exit ∷ rest) in
          let whole : length (items_of t ++ items_of_all ts) ≡ length (items_of t) + length (items_of_all ts) =
          length-append (items_of t) (items_of_all ts) in
          let first = bindings pattern tokens p k t in
          let others = all_bindings pattern tokens ps (k + length (items_of t)) ts in
          tree_first k p ps (items.Exit ∷ qs)
          ∙ tree_walk p t k (items_of_all ts ++ (items.Exit ∷ rest)) (items_of_all ps ++ (items.Exit ∷ qs)) one
          ∙ ap (both first) (all_walk ps ts (k + length (items_of t)) rest qs
          (drop_past k xs (items_of t) (items_of_all ts ++ (items.Exit ∷ rest)) one))
          ∙ both_assoc first others (from (suc ((k + length (items_of t)) + length (items_of_all ts))) qs)
          ∙ ap (λ (j : ℕ). both (both first others) (from (suc j) qs))
          (let n : (k + length (items_of t)) + length (items_of_all ts) ≡ k + length (items_of t ++ items_of_all ts) =
          omega (arith, whole) in n)
