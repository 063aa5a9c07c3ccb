-- A rule is either written without non-greedy parts or not: the rules that it reaches by calls can be found one by one.
use Rattle.std.proofs.Common.{◌≡◌, ℕ, zero, suc, ◌+◌, ◌<◌, ◌≤◌, ◌⊎◌, inl, inr, List, [], ◌∷◌, length, map, Bool, true, false, codes, Option, Some, None, refl, sym, ◌∙◌, subst, arith, slice_get}
use Rattle.std.specs.List.{position_or_len}
use Rattle.std.specs.Str.{bytes_eq}
use Rattle.std.proofs.lemmas.Bool.{cases_eq}
use Rattle.std.proofs.lemmas.List.{length-map}
use Rattle.std.proofs.lemmas.Option.{slice_get_within}
use Rattle.g4_source.specs.declared.element.Repeat.{Repeat}
use Rattle.g4_source.specs.declared.element.Repeat.TheVariants.{Once, Optional, Star, Plus}
use Rattle.g4_source.specs.Elements.{Element, atom, block, Elements, empty, then, Alternatives, none, or}
use Rattle.g4_source.specs.declared.atom.Atom.{Atom}
use Rattle.g4_source.specs.declared.atom.AtomKind.{AtomKind}
use Rattle.g4_source.specs.declared.atom.AtomKind.TheVariants as kinds
use Rattle.g4_source.specs.declared.rule.LexerRule.{LexerRule}
use Rattle.g4_source.specs.Rules.{lexer_alternatives_of}
use Rattle.g4_grammar.specs.LeftCalls.{ReachesBy, one_call, more_calls, HasCall, OneHasCall, SomeHasCall, CallsAreInRange}
use Rattle.g4_net.proofs.Finite.{In-below, below}
use Rattle.g4_net.proofs.Pigeons.{Apart, In, at_most}
use Rattle.g4_ordered.proofs.Deciding.{Either}
use Rattle.g4_lexer_rules.specs.Lexable.{CallsNamed, KindCallsNamed}
use Rattle.g4_lexer_rules.specs.NetworkRules.{names_of}
use Rattle.g4_spelling.specs.Greedy.{SignIsGreedy, IsGreedyElement, AreGreedy, EachIsGreedy, RuleCalls, IsPartOf, IsWrittenGreedy}
use Rattle.g4_derivation.proofs.Items.{item_map}

-- of two
decide_both : {P Q : Type 0} → Either P → Either Q → Either (P × Q)
decide_both (inr no_p) q = inr (λ h. no_p h.0)
decide_both (inl p) (inr no_q) = inr (λ h. no_q h.1)
decide_both (inl p) (inl q) = inl (p, q)

-- a condition
decide_true : (b : Bool) → Either (b ≡ true)
decide_true true = inl refl
decide_true false = inr (λ e. let n : ⊥ = cc in n)

-- a sign
decide_sign : (repeat : Repeat) → Either (SignIsGreedy repeat)
decide_sign Once = inl tt
decide_sign (Optional sign) = decide_true sign.greedy
decide_sign (Star sign) = decide_true sign.greedy
decide_sign (Plus sign) = decide_true sign.greedy

mutual
  -- the signs of an element
  decide_element : (x : Element Atom) → Either (IsGreedyElement x)
  decide_element (atom a) = inl tt
  decide_element (block label repeat xs) = decide_both (decide_sign repeat) (decide_either xs)

  -- of elements
  decide_in_order : (xs : Elements Atom) → Either (AreGreedy xs)
  decide_in_order empty = inl tt
  decide_in_order (then x xs) = decide_both (decide_element x) (decide_in_order xs)

  -- of alternatives
  decide_either : (xs : Alternatives Atom) → Either (EachIsGreedy xs)
  decide_either none = inl tt
  decide_either (or x xs) = decide_both (decide_in_order x) (decide_either xs)

-- a number in a list
decide_in : (x : ℕ) (xs : List ℕ) → Either (In x xs)
decide_in x [] = inr (λ h. h)
decide_in x (y ∷ ys) = elim (cases_eq x y) [
  | inl same ↦ inl (inl same)
  | inr other ↦ elim (decide_in x ys) [
    | inl i ↦ inl (inr i)
    | inr out ↦ inr (λ h. elim h [ inl e ↦ other e | inr i ↦ out i ])
  ]
]

-- what is called is in the list, or something else is called
abbrev AllOrOther : (ℕ → Type 0) → List ℕ → Type 0
AllOrOther Called list = ((j : ℕ) → Called j → In j list) ⊎ ((j : ℕ) × Called j × (In j list → ⊥))

-- by one of two
either_other : (P Q : ℕ → Type 0) (list : List ℕ) → AllOrOther P list → AllOrOther Q list → AllOrOther (λ j. P j ⊎ Q j) list
either_other P Q list (inr (j, p, out)) q = inr (j, inl p, out)
either_other P Q list (inl all) (inr (j, q, out)) = inr (j, inr q, out)
either_other P Q list (inl all) (inl others) = inl (λ j h. elim h [ inl p ↦ all j p | inr q ↦ others j q ])

module _ (names : List (List ℕ)) (list : List ℕ) where
  -- a reference
  reference_other : (is_end : Bool) (k : ℕ) → AllOrOther (λ j. (is_end ≡ false) × (j ≡ k)) list
  reference_other true k = inl (λ j h. absurd (let e = h.0 in let n : ⊥ = cc in n))
  reference_other false k = elim (decide_in k list) [
    | inl i ↦ inl (λ j h. subst (λ (q : ℕ). In q list) (sym h.1) i)
    | inr out ↦ inr (k, (refl, refl), out)
  ]

  -- an atom
  kind_other : (kind : AtomKind) → AllOrOther (KindCallsNamed names kind) list
  kind_other (kinds.Rule name) = inl (λ j h. absurd h)
  kind_other (kinds.Token name) = reference_other (bytes_eq name.text (codes "EOF"))
      (position_or_len (λ other. bytes_eq other name.text) names)
  kind_other (kinds.Literal literal) = inl (λ j h. absurd h)
  kind_other (kinds.Range first last) = inl (λ j h. absurd h)
  kind_other (kinds.Set set) = inl (λ j h. absurd h)
  kind_other kinds.Any = inl (λ j h. absurd h)
  kind_other (kinds.NotTokens tokens) = inl (λ j h. absurd h)
  kind_other (kinds.NotCharacters set) = inl (λ j h. absurd h)
  kind_other kinds.Action = inl (λ j h. absurd h)
  kind_other (kinds.Predicate name) = inl (λ j h. absurd h)

  mutual
    -- an element
    element_other : (x : Element Atom) → AllOrOther (HasCall (CallsNamed names) x) list
    element_other (atom a) = kind_other a.kind
    element_other (block label repeat xs) = alternatives_other xs

    -- elements
    elements_other : (xs : Elements Atom) → AllOrOther (OneHasCall (CallsNamed names) xs) list
    elements_other empty = inl (λ j h. absurd h)
    elements_other (then x xs) = either_other (HasCall (CallsNamed names) x) (OneHasCall (CallsNamed names) xs) list (element_other x)
        (elements_other xs)

    -- alternatives
    alternatives_other : (xs : Alternatives Atom) → AllOrOther (SomeHasCall (CallsNamed names) xs) list
    alternatives_other none = inl (λ j h. absurd h)
    alternatives_other (or x xs) = either_other (OneHasCall (CallsNamed names) x) (SomeHasCall (CallsNamed names) xs) list
        (elements_other x) (alternatives_other xs)

-- n numbers are below n
count_below : (n : ℕ) → length (below n) ≡ n
unfolding below
count_below zero = refl
count_below (suc n) = omega (arith, count_below n)

module _ (rules : List LexerRule) where
  -- a rule, where there is one
  rule_other : (list : List ℕ) (k : ℕ) (o : Option LexerRule) → slice_get rules k ≡ o → AllOrOther (RuleCalls rules k) list
  rule_other list k None is = inl (λ j c. absurd (let e = c.1 in let n : ⊥ = cc in n))
  rule_other list k (Some rule) is = elim (alternatives_other (names_of rules) list (lexer_alternatives_of rule)) [
    | inl all ↦ inl (λ j c. let same : c.0 ≡ rule = (let e : Some c.0 ≡ Some rule = sym c.1 ∙ is in cc) in
        all j (subst (λ (r : LexerRule). SomeHasCall (CallsNamed (names_of rules)) (lexer_alternatives_of r) j) same c.2))
    | inr h ↦ inr (h.0, (rule, is, h.1), h.2)
  ]

  -- the rules of a list call those of another, or one that is not there
  list_other : (list some : List ℕ) → ((k j : ℕ) → In k some → RuleCalls rules k j → In j list)
      ⊎ ((k j : ℕ) × In k some × RuleCalls rules k j × (In j list → ⊥))
  list_other list [] = inl (λ k j i c. absurd i)
  list_other list (x ∷ some) = elim (rule_other list x (slice_get rules x) refl) [
    | inr h ↦ inr (x, h.0, inl refl, h.1, h.2)
    | inl own ↦ elim (list_other list some) [
      | inr h ↦ inr (h.0, h.1, inr h.2, h.3, h.4)
      | inl others ↦ inl (λ k j i c. elim i [ inl e ↦ own j (subst (λ (q : ℕ). RuleCalls rules q j) e c) | inr more ↦ others k j more c ])
    ]
  ]

  -- rule k, where there is one, is greedy
  abbrev IsOwnGreedy : ℕ → Type 0
  IsOwnGreedy k = (rule : LexerRule) → slice_get rules k ≡ Some rule → EachIsGreedy (lexer_alternatives_of rule)

  decide_rule : (k : ℕ) (o : Option LexerRule) → slice_get rules k ≡ o → Either (IsOwnGreedy k)
  decide_rule k None is = inl (λ rule e. absurd (let n : ⊥ = cc in n))
  decide_rule k (Some rule) is = elim (decide_either (lexer_alternatives_of rule)) [
    | inl g ↦ inl (λ other e. let same : rule ≡ other = (let f : Some rule ≡ Some other = sym is ∙ e in cc) in
        subst (λ (r : LexerRule). EachIsGreedy (lexer_alternatives_of r)) same g)
    | inr not ↦ inr (λ h. not (h rule is))
  ]

  -- all of a list are
  decide_list : (list : List ℕ) → Either ((k : ℕ) → In k list → IsOwnGreedy k)
  decide_list [] = inl (λ k i. absurd i)
  decide_list (x ∷ list) = elim (decide_rule x (slice_get rules x) refl) [
    | inr not ↦ inr (λ h. not (h x (inl refl)))
    | inl own ↦ elim (decide_list list) [
      | inr not ↦ inr (λ h. not (λ k i. h k (inr i)))
      | inl others ↦ inl (λ k i. elim i [ inl e ↦ subst IsOwnGreedy (sym e) own | inr more ↦ others k more ])
    ]
  ]

  module _ (within : CallsAreInRange (CallsNamed (names_of rules)) (map lexer_alternatives_of rules)) (r : ℕ) where
    -- what is called is a rule
    called_below : (k j : ℕ) → RuleCalls rules k j → j < length rules
    called_below k j c =
        let less = within k j (lexer_alternatives_of c.0) (item_map lexer_alternatives_of rules k c.0 c.1) c.2 in
        subst (λ (n : ℕ). j < n) (length-map rules lexer_alternatives_of) less

    -- what a closed list reaches is in it
    closed : (list : List ℕ) → ((k j : ℕ) → In k list → RuleCalls rules k j → In j list) → In r list → (k : ℕ)
        → ReachesBy (RuleCalls rules) r k → In k list
    closed list on first _ (one_call j c) = on r j first c
    closed list on first _ (more_calls i j h c) = on i j (closed list on first i h) c

    -- Some parts of the rule: distinct, and the rule itself among them.
    record AreParts (list : List ℕ) : Type 0 where
      apart : Apart list
      below_all : (k : ℕ) → In k list → k < length rules
      parts : (k : ℕ) → In k list → IsPartOf rules r k
      first : In r list

    -- there are no more parts than rules
    few : (list : List ℕ) → AreParts list → length list ≤ length rules
    few list h =
        let at = at_most list (below (length rules)) h.apart (λ k i. In-below (length rules) k (h.below_all k i)) in
        omega (arith, at, count_below (length rules))

    -- what a part calls is a part
    next_part : (k j : ℕ) → IsPartOf rules r k → RuleCalls rules k j → IsPartOf rules r j
    next_part k j (inl same) c = inr (one_call j (subst (λ (q : ℕ). RuleCalls rules q j) same c))
    next_part k j (inr reach) c = inr (more_calls k j reach c)

    -- one part more
    one_more : (list : List ℕ) (k j : ℕ) → AreParts list → In k list → RuleCalls rules k j → (In j list → ⊥) → AreParts (j ∷ list)
    one_more list k j h i c out = record {
      apart = (out, h.apart);
      below_all = λ q at. elim at [
        | inl e ↦ subst (λ (n : ℕ). n < length rules) (sym e) (called_below k j c)
        | inr more ↦ h.below_all
            q more
      ];
      parts = λ q at. elim at [ inl e ↦ subst (IsPartOf rules r) (sym e) (next_part k j (h.parts k i) c) | inr more ↦ h.parts q more ];
      first = inr h.first;
    }

    -- with all parts it is known
    all_known : (list : List ℕ) → AreParts list → ((k j : ℕ) → In k list → RuleCalls rules k j → In j list)
        → Either (IsWrittenGreedy rules r)
    all_known list h on = elim (decide_list list) [
      | inr not ↦ inr (λ g. not (λ k i rule is. g k rule (h.parts k i) is))
      | inl every ↦ inl (λ k rule part is. elim part [
        | inl same ↦ every k (subst (λ (q : ℕ). In q list) (sym same) h.first) rule is
        | inr reach ↦ every k
            (closed list on h.first k reach) rule is
      ])
    ]

    -- with some parts, and at most this many more
    by_parts : (more : ℕ) (list : List ℕ) → AreParts list → length rules < length list + more → Either (IsWrittenGreedy rules r)
    by_parts zero list h room = let short = few list h in absurd (omega (arith, short, room))
    by_parts (suc more) list h room = elim (list_other list list) [
      | inl on ↦ all_known list h on
      | inr c ↦ by_parts more (c.1 ∷ list) (one_more list c.0 c.1 h c.2 c.3 c.4) (omega (arith, room))
    ]

    -- a number that is no rule calls nothing
    no_reach : slice_get rules r ≡ None → (k : ℕ) → ReachesBy (RuleCalls rules) r k → ⊥
    no_reach is _ (one_call j c) = let e = c.1 in let n : ⊥ = cc in n
    no_reach is _ (more_calls i j h c) = no_reach is i h

    by_rule : (o : Option LexerRule) → slice_get rules r ≡ o → Either (IsWrittenGreedy rules r)
    by_rule None is = inl (λ k rule part at. absurd
        (elim part [
          | inl same ↦ (let e : slice_get rules r ≡ Some rule = subst (λ (q : ℕ). slice_get rules q ≡ Some rule) same at in
              let n : ⊥ = cc in n)
          | inr reach ↦ no_reach is k reach
        ]))
    by_rule (Some rule) is = by_parts (length rules) (r ∷ []) (record {
      apart = ((λ i. i), tt);
      below_all = λ k i. elim i [
        | inl e ↦ subst (λ (n : ℕ). n < length rules) (sym e) (slice_get_within rules r rule is)
        | inr
            none_left ↦ absurd none_left
      ];
      parts = λ k i. elim i [ inl e ↦ inl e | inr none_left ↦ absurd none_left ];
      first = inl refl;
    }) (omega arith)

    -- the rule is written without non-greedy parts, or it is not
    pub decide_greedy : Either (IsWrittenGreedy rules r)
    decide_greedy = by_rule (slice_get rules r) refl
