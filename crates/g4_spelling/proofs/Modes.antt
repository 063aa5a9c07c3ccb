-- Where matches begin in the modes: where alternatives of rules begin, those of one rule in their order.
use Rattle.std.proofs.Common.{◌≡◌, ℕ, zero, suc, ◌+◌, ◌<◌, ◌≤◌, inl, inr, List, [], ◌∷◌, ◌++◌, length, map, Bool, true, false, cond, Option, Some, None, refl, sym, ◌∙◌, ap, subst, arith, Contains, slice_get}
use Rattle.std.specs.List.{range_with_len}
use Rattle.g4_source.specs.declared.rule.LexerAlternative.{LexerAlternative}
use Rattle.g4_source.specs.declared.rule.LexerRule.{LexerRule}
use Rattle.g4_net.specs.declared.network.State.{State}
use Rattle.g4_net.specs.declared.network.State.TheVariants.{Decision, End, Edge, Call, Predicate, Level, Action, Empty}
use Rattle.g4_net.specs.Network.{start_of}
use Rattle.g4_ordered.specs.Configurations.{LexerConfig, In, start}
use Rattle.g4_ordered.specs.Matching.{AreFresh, InOrder, no_more, more}
use Rattle.g4_ordered.specs.declared.network.Reads.{Reads}
use Rattle.g4_ordered.proofs.Lists.{In-cases, In-from, In-left, In-map, In-right, In-to, map-In}
use Rattle.g4_lexer_rules.specs.declared.lex_net.LexNet.{LexNet}
use Rattle.g4_ordered.specs.declared.start.Start.{Start}
use Rattle.g4_ordered.specs.Starts.{starts_of}
use Rattle.g4_lexer_rules.specs.LexNets.{IsLexNet}
use Rattle.g4_lexer_rules.specs.NetworkRules.{all_rules}
use Rattle.g4_lexer_rules.specs.Starts.{decided_starts, is_in_mode, matched_starts, mode_starts, numbered_starts, rule_starts, starts_from, starts_in, unless_fragment}
use Rattle.g4_spelling.specs.Fronts.{IsLexStart}

-- the configuration of a start
abbrev begun : Start → LexerConfig
begun s = start s.rule s.alternative s.state

-- alternatives that are numbered are of the rule, and have these numbers
numbered_rule : (r n : ℕ) (ps : List ℕ) (s : Start) → In s (numbered_starts r n ps) → (s.rule ≡ r) × (n ≤ s.alternative)
numbered_rule r n [] s i = absurd i
numbered_rule r n (p ∷ ps) s (inl is) = (ap (λ (t : Start). t.rule) is, let e = ap (λ (t : Start). t.alternative) is in omega (arith, e))
numbered_rule r n (p ∷ ps) s (inr i) = let h = numbered_rule r (n + 1) ps s i in (h.0, omega (arith, h.1))

decided_rule : (r : ℕ) (o : Option (State Reads)) (s : Start) → In s (decided_starts r o) → s.rule ≡ r
decided_rule r None s i = absurd i
decided_rule r (Some (Decision targets)) s i = (numbered_rule r 1 targets s i).0
decided_rule r (Some (End ended)) s i = absurd i
decided_rule r (Some (Edge label t)) s i = absurd i
decided_rule r (Some (Call called level back)) s i = absurd i
decided_rule r (Some (Predicate k t)) s i = absurd i
decided_rule r (Some (Level q t)) s i = absurd i
decided_rule r (Some (Action t)) s i = absurd i
decided_rule r (Some (Empty t)) s i = absurd i

pub own_rule : (states : List (State Reads)) (r : ℕ) (xs : List LexerAlternative) (s : Start) → In s (rule_starts states r xs) → s.rule ≡ r
own_rule states r [] s i = decided_rule r (slice_get states (start_of r)) s i
own_rule states r (x ∷ []) s (inl is) = ap (λ (t : Start). t.rule) is
own_rule states r (x ∷ []) s (inr i) = absurd i
own_rule states r (x ∷ y ∷ others) s i = decided_rule r (slice_get states (start_of r)) s i

-- a rule that is no fragment
pub unfragmented : (fragment : Bool) (starts : List Start) (s : Start) → In s (unless_fragment fragment starts) → In s starts
unfragmented false starts s i = i
unfragmented true starts s i = absurd i

-- two lists of starts, of different rules
both : (xs ys : List Start) → InOrder (starts_of xs) → InOrder (starts_of ys)
    → ((s t : Start) → In s xs → In t ys → t.rule ≡ s.rule → ⊥) → InOrder (starts_of (xs ++ ys))
both [] ys a b apart = b
both (x ∷ xs) ys (more _ _ f g) b apart = more (begun x) (starts_of (xs ++ ys)) later (both xs ys g b (λ s t i j. apart s t (inr i) j))
  where
    later : (d : LexerConfig) → In d (starts_of (xs ++ ys)) → d.rule ≡ x.rule → x.alternative ≤ d.alternative
    later d i e =
        let h = In-map begun (xs ++ ys) d i in
        elim (In-cases xs ys h.0 h.1) [
          | inl j ↦ f d (subst (λ (c : LexerConfig). In c (starts_of xs)) (sym h.2) (map-In begun xs h.0 j)) e
          | inr j ↦ absurd (apart x h.0 (inl refl) j (sym (ap (λ (c : LexerConfig). c.rule) h.2) ∙ e))
        ]

numbered_order : (r n : ℕ) (ps : List ℕ) → InOrder (starts_of (numbered_starts r n ps))
numbered_order r n [] = no_more
numbered_order r n (p ∷ ps) = more (start r n p) (starts_of (numbered_starts r (n + 1) ps)) later (numbered_order r (n + 1) ps)
  where
    later : (d : LexerConfig) → In d (starts_of (numbered_starts r (n + 1) ps)) → d.rule ≡ r → n ≤ d.alternative
    later d i e =
        let h = In-map begun (numbered_starts r (n + 1) ps) d i in
        let k = numbered_rule r (n + 1) ps h.0 h.1 in
        let same = ap (λ (c : LexerConfig). c.alternative) h.2 in omega (arith, k.1, same)

decided_order : (r : ℕ) (o : Option (State Reads)) → InOrder (starts_of (decided_starts r o))
decided_order r None = no_more
decided_order r (Some (Decision targets)) = numbered_order r 1 targets
decided_order r (Some (End ended)) = no_more
decided_order r (Some (Edge label t)) = no_more
decided_order r (Some (Call called level back)) = no_more
decided_order r (Some (Predicate k t)) = no_more
decided_order r (Some (Level q t)) = no_more
decided_order r (Some (Action t)) = no_more
decided_order r (Some (Empty t)) = no_more

own_order : (states : List (State Reads)) (r : ℕ) (xs : List LexerAlternative) → InOrder (starts_of (rule_starts states r xs))
own_order states r [] = decided_order r (slice_get states (start_of r))
own_order states r (x ∷ []) = more (start r 1 (start_of r)) [] (λ d i e. absurd i) no_more
own_order states r (x ∷ y ∷ others) = decided_order r (slice_get states (start_of r))

unfragmented_order : (fragment : Bool) (starts : List Start) → InOrder (starts_of starts)
    → InOrder (starts_of (unless_fragment fragment starts))
unfragmented_order false starts h = h
unfragmented_order true starts h = no_more

-- the items of two lists
pub item_front : {X : Type 0} (xs ys : List X) (k : ℕ) (x : X) → slice_get xs k ≡ Some x → slice_get (xs ++ ys) k ≡ Some x
item_front [] ys k x is = absurd (let n : ⊥ = cc in n)
item_front (y ∷ xs) ys zero x is = is
item_front (y ∷ xs) ys (suc k) x is = item_front xs ys k x is

pub item_after : {X : Type 0} (xs ys : List X) (k : ℕ) → slice_get (xs ++ ys) (length xs + k) ≡ slice_get ys k
item_after {X} [] ys k = let e : length {A = X} [] + k ≡ k = omega arith in ap (slice_get ys) e
item_after (x ∷ xs) ys k = let e : length (x ∷ xs) + k ≡ suc (length xs + k) = omega arith in
    ap (slice_get (x ∷ xs ++ ys)) e ∙ item_after xs ys k

module _ (states : List (State Reads)) (all : List LexerRule) where
  -- an alternative of a rule with a number from n up to m begins there
  abbrev IsPlace : ℕ → ℕ → Start → Type 0
  IsPlace n m s = (n ≤ s.rule) × (s.rule < m) × IsLexStart states all s.rule s.alternative s.state

  -- these are the rules from number n on
  abbrev pub AreFrom : ℕ → List LexerRule → Type 0
  AreFrom n rules = (k : ℕ) (rule : LexerRule) → slice_get rules k ≡ Some rule → slice_get all (n + k) ≡ Some rule

  -- the others are those from the next on
  next_from : (n : ℕ) (rule : LexerRule) (rules : List LexerRule) → AreFrom n (rule ∷ rules) → AreFrom (n + 1) rules
  next_from n rule rules are k x is = let e : n + suc k ≡ n + 1 + k = omega arith in
      subst (λ (q : ℕ). slice_get all q ≡ Some x) e (are (suc k) x is)

  places : (n : ℕ) (rules : List LexerRule) → AreFrom n rules → (s : Start) → In s (starts_from states n rules)
      → IsPlace n (n + length rules) s
  places n [] are s i = absurd i
  places n (rule ∷ rules) are s i = elim (In-cases (matched_starts states n rule) (starts_from states (n + 1) rules) s i) [
    | inl own ↦ (
        let here = unfragmented rule.fragment (rule_starts states n rule.alternatives) s own in
        let same : s.rule ≡ n = own_rule states n rule.alternatives s here in
        let first : n + 0 ≡ s.rule = omega (arith, same) in (
          omega (arith, same),
          omega (arith, same),
          (
            rule,
            subst (λ (q : ℕ). slice_get all q ≡ Some rule) first (are 0 rule refl),
            In-to (rule_starts states s.rule rule.alternatives) s
                (subst (λ (q : ℕ). In s (rule_starts states q rule.alternatives)) (sym same) here),
          ),
        ))
    | inr later ↦ (let h = places (n + 1) rules (next_from n rule rules are) s later in (omega (arith, h.0), omega (arith, h.1), h.2))
  ]

  order : (n : ℕ) (rules : List LexerRule) → AreFrom n rules → InOrder (starts_of (starts_from states n rules))
  order n [] are = no_more
  order n (rule ∷ rules) are =
      both (matched_starts states n rule) (starts_from states (n + 1) rules)
      (unfragmented_order rule.fragment (rule_starts states n rule.alternatives) (own_order states n rule.alternatives))
      (order (n + 1) rules (next_from n rule rules are))
      (λ s t i j e.
      let same = own_rule states n rule.alternatives s (unfragmented rule.fragment (rule_starts states n rule.alternatives) s i) in
      let h = places (n + 1) rules (next_from n rule rules are) t j in
      omega (arith, same, h.0, e))

  module _ (modes : List (List ℕ)) (j : ℕ) where
    -- the starts of a mode are among those of all rules
    in_all : (n : ℕ) (rules : List LexerRule) (s : Start) → In s (starts_in states modes j n rules) → In s (starts_from states n rules)
    in_all n [] s i = i
    in_all n (rule ∷ rules) s i = by (is_in_mode modes j rule) i (λ k. in_all (n + 1) rules s k)
      where
        by : (b : Bool) → In s (cond b (matched_starts states n rule) [] ++ starts_in states modes j (n + 1) rules)
            → (In s (starts_in states modes j (n + 1) rules) → In s (starts_from states (n + 1) rules))
            → In s (starts_from states n (rule ∷ rules))
        by true here rest = elim (In-cases (matched_starts states n rule) (starts_in states modes j (n + 1) rules) s here) [
          | inl own ↦ In-left (matched_starts states n rule) (starts_from states (n + 1) rules) s own
          | inr later ↦ In-right (matched_starts states n rule) (starts_from states (n + 1) rules) s (rest later)
        ]
        by false here rest = In-right (matched_starts states n rule) (starts_from states (n + 1) rules) s (rest here)

    mode_order : (n : ℕ) (rules : List LexerRule) → AreFrom n rules → InOrder (starts_of (starts_in states modes j n rules))
    mode_order n [] are = no_more
    mode_order n (rule ∷ rules) are = by (is_in_mode modes j rule) (mode_order (n + 1) rules (next_from n rule rules are))
      where
        by : (b : Bool) → InOrder (starts_of (starts_in states modes j (n + 1) rules))
            → InOrder (starts_of (cond b (matched_starts states n rule) [] ++ starts_in states modes j (n + 1) rules))
        by true rest =
            both (matched_starts states n rule) (starts_in states modes j (n + 1) rules)
            (unfragmented_order rule.fragment (rule_starts states n rule.alternatives) (own_order states n rule.alternatives))
            rest
            (λ s t i k e.
            let same = own_rule states n rule.alternatives s (unfragmented rule.fragment (rule_starts states n rule.alternatives) s i) in
            let h = places (n + 1) rules (next_from n rule rules are) t (in_all (n + 1) rules t k) in
            omega (arith, same, h.0, e))
        by false rest = rest

  -- starts of a mode: alternatives begin there, those of one rule in their order
  pub record AreStarts (starts : List Start) : Type 0 where
    pub begin : (s : Start) → In s starts → IsLexStart states all s.rule s.alternative s.state
    pub in_order : InOrder (starts_of starts)

  -- those of literals, which come before, and those of the rules of a mode
  one_mode : (modes : List (List ℕ)) (j n : ℕ) (literals rules : List LexerRule) → length literals ≤ n → AreFrom 0 literals
      → AreFrom n rules → AreStarts (starts_from states 0 literals ++ starts_in states modes j n rules)
  one_mode modes j n literals rules up front are = record {
    begin = λ s i. elim (In-cases (starts_from states 0 literals) (starts_in states modes j n rules) s i)
        [ inl k ↦ (places 0 literals front s k).2 | inr k ↦ (places n rules are s (in_all modes j n rules s k)).2 ];
    in_order = both (starts_from states 0 literals) (starts_in states modes j n rules) (order 0 literals front)
        (mode_order modes j n rules are)
        (λ s t i k e.
        let a = places 0 literals front s i in
        let b = places n rules are t (in_all modes j n rules t k) in
        omega (arith, a.1, b.0, up, e));
  }

-- what is at a place of a list of what numbers give
pub at_range : {X : Type 0} (f : ℕ → X) (a n m : ℕ) (x : X) → slice_get (map f (range_with_len a n)) m ≡ Some x → x ≡ f (a + m)
at_range f a zero m x is = absurd (let e : ⊥ = cc in e)
at_range f a (suc n) zero x is = let e : Some (f a) ≡ Some x = is in let same : x ≡ f a = cc in
    let here : a ≡ a + zero = omega arith in same ∙ ap f here
at_range f a (suc n) (suc m) x is = let next : a + 1 + m ≡ a + suc m = omega arith in at_range f (a + 1) n m x is ∙ ap f next

in_range : {X : Type 0} (f : ℕ → X) (a n : ℕ) (x : X) → In x (map f (range_with_len a n)) → (j : ℕ) × (x ≡ f j)
in_range f a zero x i = absurd i
in_range f a (suc n) x (inl is) = (a, is)
in_range f a (suc n) x (inr i) = in_range f (a + 1) n x i

-- the starts of a mode of a lexer's network
pub mode_is : (literals others : List LexerRule) (modes : List (List ℕ)) (made : LexNet) → IsLexNet literals others modes made
    → (starts : List Start) → Contains made.modes starts → AreStarts made.net.states (all_rules literals others) starts
mode_is literals others modes made lex starts c =
    let states = made.net.states in
    let all = all_rules literals others in
    let front : AreFrom states all 0 literals = λ k rule is. let e : k ≡ 0 + k = omega arith in
    subst (λ (q : ℕ). slice_get all q ≡ Some rule) e (item_front literals others k rule is) in
    let back : AreFrom states all (length literals) others = λ k rule is. item_after literals others k ∙ is in
    let f : ℕ → List Start = λ j. starts_from states 0 literals ++ starts_in states modes j (length literals) others in
    let found = in_range f 0 (length modes) starts
    (In-from (mode_starts states literals others modes) starts (subst (λ (m : List (List Start)). Contains m starts) lex.starts c)) in
    subst (AreStarts states all) (sym found.1)
    (one_mode states all modes found.0 (length literals) literals others (omega arith) front back)

-- a match begins with no open call, and with no reluctant decision passed
pub fresh : (starts : List Start) → AreFresh (starts_of starts)
fresh starts c i = let h = In-map begun starts c i in (ap (λ (d : LexerConfig). d.returns) h.2, ap (λ (d : LexerConfig). d.passed) h.2)

-- of which start a configuration is
pub start_at : (starts : List Start) (c : LexerConfig) → In c (starts_of starts)
    → (s : Start) × In s starts × (c ≡ start s.rule s.alternative s.state)
start_at starts c i = In-map begun starts c i

-- the configuration of a start
pub at_start : (starts : List Start) (s : Start) → Contains starts s → In (start s.rule s.alternative s.state) (starts_of starts)
at_start starts s c = map-In begun starts s (In-from starts s c)
