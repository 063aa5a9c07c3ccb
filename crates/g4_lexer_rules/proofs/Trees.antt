-- The rules of a lexer over steps: their trees, how many states these have, and their numberings.
use Rattle.std.proofs.Common.{◌≡◌, ℕ, zero, suc, ◌+◌, ◌≤◌, inl, List, [], ◌∷◌, ◌++◌, length, map, sum_by, All, refl, sym, ◌∙◌, ap, subst, arith}
use Rattle.std.specs.List.{range_with_len}
use Rattle.std.proofs.lemmas.List.Elements.{All-nil, All-cons, All-head, All-tail}
use Rattle.std.proofs.lemmas.List.FromFn.{length-range_with_len}
use Rattle.std.proofs.lemmas.List.Sums.{sum_by-cons}
use Rattle.g4_source.specs.declared.element.Repeat.TheVariants.{Once, Optional, Star, Plus}
use Rattle.g4_source.specs.Bind.{bind, in_order_bind, either_bind, over, in_order_over, either_over}
use Rattle.g4_source.specs.Full.{IsSome, IsFull, AreFull, EachIsFull, AreFullAlternatives}
use Rattle.g4_source.specs.Elements.{Element, atom, block, Elements, empty, then, Alternatives, none, or, either}
use Rattle.g4_source.specs.declared.atom.Atom.{Atom}
use Rattle.g4_source.specs.declared.atom.AtomKind.{AtomKind}
use Rattle.g4_source.specs.declared.atom.AtomKind.TheVariants as kinds
use Rattle.g4_source.specs.declared.rule.LexerAlternative.{LexerAlternative}
use Rattle.g4_source.specs.declared.rule.LexerRule.{LexerRule}
use Rattle.g4_source.specs.Blocks.{LexerRulesAreFull}
use Rattle.g4_source.specs.Rules.{lexer_alternatives_of}
use Rattle.g4_grammar.specs.declared.step.Step.{Step}
use Rattle.g4_layout.specs.Decisions.{number_of}
use Rattle.g4_layout.specs.Numbers.{CanStartWith, NumberingsFit}
use Rattle.g4_layout.specs.Size.{more_if_several, one_state, states_by, states_in_order_by, states_of_bodies_by, states_of_rule_by, states_of, states_of_rule}
use Rattle.g4_net.specs.declared.network.TheConstants.{MOST_STATES}
use Rattle.g4_states.specs.AtomSizes.{states_of_atom, states_of_kind}
use Rattle.g4_states.specs.Rules.{AreFullTrees, TreeIsFull}
use Rattle.g4_states.specs.Trees.{rules_over}
use Rattle.g4_ordered.specs.declared.network.Reads.{Reads}
use Rattle.g4_lexer_rules.specs.declared.step.LexerStep.{LexerStep}
use Rattle.g4_lexer_rules.specs.NetworkRules.{lexer_states, lowered, names_of, numberings_of, trees_of}
use Rattle.g4_lexer_rules.specs.Steps.{characters_in_order, element_of_kind, step_of}

module _ (names : List (List ℕ)) where
  -- what an atom is
  abbrev pub image : Atom → Element LexerStep
  image a = element_of_kind names a.kind

  -- characters make a state each
  characters_states : (cs : List ℕ) → states_in_order_by one_state (in_order_over step_of (characters_in_order cs)) ≡ length cs
  characters_states [] = refl
  characters_states (c ∷ cs) = omega (arith, characters_states cs)

  -- an atom makes as many as are counted
  atom_states : (a : AtomKind) → states_of (over step_of (element_of_kind names a)) ≡ states_of_kind a
  atom_states (kinds.Rule name) = refl
  atom_states (kinds.Token name) = refl
  atom_states (kinds.Literal literal) = omega (arith, characters_states literal.characters)
  atom_states (kinds.Range first last) = refl
  atom_states (kinds.Set set) = refl
  atom_states kinds.Any = refl
  atom_states (kinds.NotTokens tokens) = refl
  atom_states (kinds.NotCharacters set) = refl
  atom_states kinds.Action = refl
  atom_states (kinds.Predicate name) = refl

  -- there are as many alternatives
  same_several : (xs : Alternatives Atom) → more_if_several (either_over step_of (either_bind image xs)) ≡ more_if_several xs
  same_several none = refl
  same_several (or x none) = refl
  same_several (or x (or y more)) = refl

  mutual
    -- an element makes as many states as are counted
    element_states : (x : Element Atom) → states_by one_state (over step_of (bind image x)) ≡ states_by states_of_atom x
    element_states (atom a) = atom_states a.kind
    element_states (block label Once xs) = omega (arith, rule_states xs, same_several xs)
    element_states (block label (Optional sign) xs) = omega (arith, bodies_states xs)
    element_states (block label (Star sign) xs) = omega (arith, bodies_states xs)
    element_states (block label (Plus sign) xs) = omega (arith, bodies_states xs)

    -- elements one after another
    in_order_states : (xs : Elements Atom) → states_in_order_by one_state (in_order_over step_of (in_order_bind image xs))
        ≡ states_in_order_by states_of_atom xs
    in_order_states empty = refl
    in_order_states (then x xs) = omega (arith, element_states x, in_order_states xs)

    -- bodies side by side
    bodies_states : (xs : Alternatives Atom) → states_of_bodies_by one_state (either_over step_of (either_bind image xs))
        ≡ states_of_bodies_by states_of_atom xs
    bodies_states none = refl
    bodies_states (or x xs) = omega (arith, in_order_states x, bodies_states xs)

    -- the alternatives of a rule
    rule_states : (xs : Alternatives Atom) → states_of_rule_by one_state (either_over step_of (either_bind image xs))
        ≡ states_of_rule_by states_of_atom xs
    rule_states none = refl
    rule_states (or x none) = in_order_states x
    rule_states (or x (or y more)) = omega (arith, in_order_states x, in_order_states y, bodies_states more)

  -- characters have no block
  characters_full : (cs : List ℕ) → AreFull (in_order_over step_of (characters_in_order cs))
  characters_full [] = tt
  characters_full (c ∷ cs) = (tt, characters_full cs)

  -- what an atom becomes has an alternative in each block
  atom_full : (a : AtomKind) → IsFull (over step_of (element_of_kind names a))
  atom_full (kinds.Rule name) = tt
  atom_full (kinds.Token name) = tt
  atom_full (kinds.Literal literal) = (tt, (characters_full literal.characters, tt))
  atom_full (kinds.Range first last) = tt
  atom_full (kinds.Set set) = tt
  atom_full kinds.Any = tt
  atom_full (kinds.NotTokens tokens) = tt
  atom_full (kinds.NotCharacters set) = tt
  atom_full kinds.Action = tt
  atom_full (kinds.Predicate name) = tt

  -- there is still an alternative
  still_some : (xs : Alternatives Atom) → IsSome xs → IsSome (either_over step_of (either_bind image xs))
  still_some none some = some
  still_some (or x xs) some = tt

  mutual
    -- and so has an element
    element_full : (x : Element Atom) → IsFull x → IsFull (over step_of (bind image x))
    element_full (atom a) full = atom_full a.kind
    element_full (block label repeat xs) full = (still_some xs full.0, either_full xs full.1)

    in_order_full : (xs : Elements Atom) → AreFull xs → AreFull (in_order_over step_of (in_order_bind image xs))
    in_order_full empty full = tt
    in_order_full (then x xs) full = (element_full x full.0, in_order_full xs full.1)

    either_full : (xs : Alternatives Atom) → EachIsFull xs → EachIsFull (either_over step_of (either_bind image xs))
    either_full none full = tt
    either_full (or x xs) full = (in_order_full x full.0, either_full xs full.1)

  -- the alternatives of a rule, one by one
  pub one_by_one : (xs : List LexerAlternative)
      → either (map (in_order_over step_of) (map (λ x. in_order_bind image x.elements) xs))
      ≡ either_over step_of (either_bind image (either (map (λ x. x.elements) xs)))
  one_by_one [] = refl
  one_by_one (x ∷ xs) = ap (or (in_order_over step_of (in_order_bind image x.elements))) (one_by_one xs)

module _ (all : List LexerRule) where
  -- the alternatives of a rule in the network
  abbrev pub tree : LexerRule → Alternatives (Step Reads)
  tree rule = either (map (in_order_over step_of) (lowered all rule))

  -- how many states they make
  tree_states : (rule : LexerRule) → states_of_rule (tree rule) ≡ states_of_rule_by states_of_atom (lexer_alternatives_of rule)
  tree_states rule = ap (states_of_rule_by one_state) (one_by_one (names_of all) rule.alternatives)
      ∙ rule_states (names_of all) (lexer_alternatives_of rule)

  -- each block has one
  tree_full : (rule : LexerRule) → AreFullAlternatives (map (λ x. x.elements) rule.alternatives) → TreeIsFull (tree rule)
  tree_full rule full =
      let same = one_by_one (names_of all) rule.alternatives in
      let xs = lexer_alternatives_of rule in (
        subst IsSome (sym same) (still_some (names_of all) xs full.0),
        subst EachIsFull (sym same) (either_full (names_of all) xs full.1),
      )

  -- how many there are
  pub tree_number : (rule : LexerRule) → number_of (tree rule) ≡ length rule.alternatives
  tree_number rule = by rule.alternatives
    where
      by : (xs : List LexerAlternative) → number_of
          (either (map (in_order_over step_of) (map
          (λ (x : LexerAlternative). in_order_bind (λ (a : Atom). element_of_kind (names_of all) a.kind) x.elements) xs))) ≡ length xs
      by [] = refl
      by (x ∷ xs) = omega (arith, by xs)

  -- the rules that are lowered, over steps
  over_lowered : (rules : List LexerRule) → rules_over step_of (λ x. x) (λ rule. rule) (map (lowered all) rules) ≡ map tree rules
  over_lowered [] = refl
  over_lowered (rule ∷ rules) = ap (λ (ys : List (Alternatives (Step Reads))). tree rule ∷ ys) (over_lowered rules)

  -- the states of all
  sum_states : (rules : List LexerRule) → sum_by states_of_rule (map tree rules)
      ≡ sum_by (λ rule. states_of_rule_by states_of_atom (lexer_alternatives_of rule)) rules
  sum_states [] = refl
  sum_states (rule ∷ rules) =
      let a = sum_by-cons states_of_rule (tree rule) (map tree rules) in
      let b = sum_by-cons (λ (r : LexerRule). states_of_rule_by states_of_atom (lexer_alternatives_of r)) rule rules in
      omega (arith, sum_states rules, tree_states rule)

  -- all are full
  all_full : (rules : List LexerRule) → LexerRulesAreFull rules → AreFullTrees (map tree rules)
  all_full [] full = tt
  all_full (rule ∷ rules) full = (tree_full rule full.0, all_full rules full.1)

-- the trees of the rules that are lowered
pub lowered_trees : (rules : List LexerRule) → rules_over step_of (λ x. x) (λ rule. rule) (map (lowered rules) rules) ≡ trees_of rules
lowered_trees rules = over_lowered rules rules

-- their states
pub trees_states : (rules : List LexerRule) → sum_by states_of_rule (trees_of rules)
    ≡ sum_by (λ rule. states_of_rule_by states_of_atom (lexer_alternatives_of rule)) rules
trees_states rules = sum_states rules rules

-- each of their blocks has an alternative
pub trees_full : (rules : List LexerRule) → LexerRulesAreFull rules → AreFullTrees (trees_of rules)
trees_full rules full = all_full rules rules full

-- bodies make a state each at least
many_states : {A : Type 0} (weight : A → ℕ) (xs : Alternatives A) → number_of xs ≤ states_of_bodies_by weight xs
many_states weight none = omega arith
many_states weight (or x xs) = omega (arith, many_states weight xs)

-- and so do the alternatives of a rule, but for one alone
few_alternatives : {A : Type 0} (weight : A → ℕ) (xs : Alternatives A) → number_of xs ≤ states_of_rule_by weight xs + 1
few_alternatives weight none = omega arith
few_alternatives weight (or x none) = omega arith
few_alternatives weight (or x (or y more)) = omega (arith, many_states weight (or x (or y more)))

-- how many alternatives a rule has
number_of_alternatives : (xs : List LexerAlternative) → number_of (either (map (λ x. x.elements) xs)) ≡ length xs
number_of_alternatives [] = refl
number_of_alternatives (x ∷ xs) = omega (arith, number_of_alternatives xs)

-- a rule has few alternatives where rules have few states
pub few_each : (rules : List LexerRule) → sum_by (λ rule. states_of_rule_by states_of_atom (lexer_alternatives_of rule)) rules + 2
    ≤ MOST_STATES → All (λ rule. length rule.alternatives ≤ MOST_STATES) rules
few_each [] few = All-nil (λ (rule : LexerRule). length rule.alternatives ≤ MOST_STATES)
few_each (rule ∷ rules) few =
    let b = sum_by-cons (λ (r : LexerRule). states_of_rule_by states_of_atom (lexer_alternatives_of r)) rule rules in
    let own = few_alternatives states_of_atom (lexer_alternatives_of rule) in
    let many = number_of_alternatives rule.alternatives in
    All-cons (λ (r : LexerRule). length r.alternatives ≤ MOST_STATES) rule rules (omega (arith, b, own, many, few))
    (few_each rules (omega (arith, b, few)))

-- rules have few states where the network has
pub few_all : (rules : List LexerRule) → lexer_states rules ≤ MOST_STATES → All (λ rule. length rule.alternatives ≤ MOST_STATES) rules
few_all [] few = All-nil (λ (rule : LexerRule). length rule.alternatives ≤ MOST_STATES)
few_all (rule ∷ rules) few = few_each (rule ∷ rules) (omega (arith, few))

-- a rule can begin with each of its alternatives
can_start : (xs : Alternatives (Step Reads)) (n : ℕ) → number_of xs ≡ n → 1 ≤ n → CanStartWith xs (range_with_len 1 n)
can_start xs zero is low = absurd (omega arith)
can_start xs (suc zero) is low = tt
can_start xs (suc (suc n)) is low = inl (omega (arith, is, length-range_with_len 1 (suc (suc n))))

-- there is an alternative
pub some_alternative : (xs : List LexerAlternative) → IsSome (either (map (λ x. x.elements) xs)) → 1 ≤ length xs
some_alternative [] some = absurd some
some_alternative (x ∷ xs) some = omega arith

-- the numberings fit the rules
fit_all : (all rules : List LexerRule) → LexerRulesAreFull rules → All (λ rule. length rule.alternatives ≤ MOST_STATES) rules
    → NumberingsFit (map (tree all) rules) (numberings_of rules)
fit_all all [] full few = tt
fit_all all (rule ∷ rules) full few = (
  (
    can_start (tree all rule) (length rule.alternatives) (tree_number all rule) (some_alternative rule.alternatives full.0.0),
    omega (arith, All-head (λ (r : LexerRule). length r.alternatives ≤ MOST_STATES) rule rules few),
  ),
  fit_all all rules full.1 (All-tail (λ (r : LexerRule). length r.alternatives ≤ MOST_STATES) rule rules few),
)

pub numberings_fit : (rules : List LexerRule) → LexerRulesAreFull rules → All (λ rule. length rule.alternatives ≤ MOST_STATES) rules
    → NumberingsFit (trees_of rules) (numberings_of rules)
numberings_fit rules full few = fit_all rules rules full few

-- two lists of rules
full_append : (xs ys : List LexerRule) → LexerRulesAreFull xs → LexerRulesAreFull ys → LexerRulesAreFull (xs ++ ys)
full_append [] ys a b = b
full_append (x ∷ xs) ys a b = (a.0, full_append xs ys a.1 b)

-- the rules of literals and the lexer rules
pub full_rules : (literals rules : List LexerRule) → LexerRulesAreFull literals → LexerRulesAreFull rules
    → LexerRulesAreFull (literals ++ rules)
full_rules literals rules a b = full_append literals rules a b
