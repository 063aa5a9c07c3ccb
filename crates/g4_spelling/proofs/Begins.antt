-- A mode's starts are those of the alternatives with which a match in the mode may begin, as the rules are written.
use Rattle.std.proofs.Common.{◌≡◌, ℕ, zero, suc, ◌+◌, ◌-◌, ◌<◌, ◌⊎◌, inl, inr, List, [], ◌∷◌, ◌++◌, length, map, Bool, true, false, cond, Option, Some, refl, sym, ◌∙◌, ap, subst, arith, slice_get}
use Rattle.std.proofs.lemmas.Bool.{cases_lt}
use Rattle.std.proofs.lemmas.List.{length-append}
use Rattle.std.proofs.lemmas.Option.{slice_get_within}
use Rattle.g4_source.specs.Elements.{either}
use Rattle.g4_source.specs.Rules.{lexer_alternatives_of}
use Rattle.g4_source.specs.declared.rule.LexerAlternative.{LexerAlternative}
use Rattle.g4_source.specs.declared.rule.LexerRule.{LexerRule}
use Rattle.g4_net.specs.declared.network.Network.{Network}
use Rattle.g4_net.specs.declared.network.State.{State}
use Rattle.g4_ordered.specs.Configurations.{In}
use Rattle.g4_ordered.specs.declared.network.Reads.{Reads}
use Rattle.g4_ordered.proofs.Lists.{In-cases, In-from, In-left, In-right, In-to}
use Rattle.g4_derivation.specs.Alternatives as walks
use Rattle.g4_derivation.proofs.Beginnings.{laid_as}
use Rattle.g4_lexer_rules.specs.declared.lex_net.LexNet.{LexNet}
use Rattle.g4_ordered.specs.declared.start.Start.{Start}
use Rattle.g4_lexer_rules.specs.Lexable.{CanBeLexed}
use Rattle.g4_lexer_rules.specs.LexNets.{IsLexNet}
use Rattle.g4_lexer_rules.specs.NetworkRules.{all_rules, trees_of}
use Rattle.g4_lexer_rules.specs.Starts.{decided_starts, is_in_mode, matched_starts, numbered_starts, rule_starts, starts_from, starts_in, unless_fragment}
use Rattle.g4_spelling.specs.Begins.{MayBegin}
use Rattle.g4_spelling.specs.Matches.{IsStarted}
use Rattle.g4_spelling.proofs.Matched.{alternative_there}
use Rattle.g4_spelling.proofs.Modes.{AreFrom, at_range, item_after, item_front, mode_is, own_rule, unfragmented}
use Rattle.g4_derivation.proofs.Firsts.{at_is_member, begins_at}
use Rattle.g4_spelling.proofs.Placed.{all_laid, alternative_laid, item_below, laid, tree_of}

-- what is left of the starts of a rule is of one that is no fragment
no_fragment : (fragment : Bool) (starts : List Start) (s : Start) → In s (unless_fragment fragment starts) → fragment ≡ false
no_fragment false starts s i = refl
no_fragment true starts s i = absurd i

unless_in : (fragment : Bool) (starts : List Start) (s : Start) → fragment ≡ false → In s starts → In s (unless_fragment fragment starts)
unless_in false starts s e i = i
unless_in true starts s e i = absurd (let n : ⊥ = cc in n)

-- an alternative that is numbered
numbered_in : (r n : ℕ) (ps : List ℕ) (k a : ℕ) → slice_get ps k ≡ Some a
    → In (record { rule = r; alternative = n + k; state = a }) (numbered_starts r n ps)
numbered_in r n [] k a is = absurd (let e : ⊥ = cc in e)
numbered_in r n (p ∷ ps) zero a is =
    let same : a ≡ p = (let e : Some p ≡ Some a = is in cc) in
    let first : n + 0 ≡ n = omega arith in
    inl (ap (λ (q : ℕ). record { rule = r; alternative = q; state = a }) first
    ∙ ap (λ (q : ℕ). record { rule = r; alternative = n; state = q }) same)
numbered_in r n (p ∷ ps) (suc k) a is =
    let next : n + 1 + k ≡ n + suc k = omega arith in
    inr (subst (λ (q : ℕ). In (record { rule = r; alternative = q; state = a }) (numbered_starts r (n + 1) ps)) next
    (numbered_in r (n + 1) ps k a is))

-- each alternative of a rule begins at one of its starts
begins_in : (net : Network Reads) (all : List LexerRule) (r i a : ℕ) (xs : List LexerAlternative)
    → walks.BeginsAt net r (all_laid all (either (map (λ y. y.elements) xs))) i a
    → In (record { rule = r; alternative = i; state = a }) (rule_starts net.states r xs)
begins_in net all r i a [] b = absurd b
begins_in net all r i a (x ∷ []) (first, start) =
    inl (ap (λ (q : ℕ). record { rule = r; alternative = q; state = a }) first
    ∙ ap (λ (q : ℕ). record { rule = r; alternative = 1; state = q }) start)
begins_in net all r i a (x ∷ y ∷ more) (targets, k, is, at, number) =
    let same : 1 + k ≡ i = omega (arith, number) in
    subst (λ (o : Option (State Reads)). In (record { rule = r; alternative = i; state = a }) (decided_starts r o)) (sym is)
    (subst (λ (q : ℕ). In (record { rule = r; alternative = q; state = a }) (numbered_starts r 1 targets)) same
    (numbered_in r 1 targets k a at))

module _ (states : List (State Reads)) where
  -- of which rule a start is
  record OfRule (n : ℕ) (rules : List LexerRule) (s : Start) : Type 0 where
    place : ℕ
    rule : LexerRule
    at : slice_get rules place ≡ Some rule
    number : s.rule ≡ n + place
    whole : rule.fragment ≡ false

  rule_of : (n : ℕ) (rules : List LexerRule) (s : Start) → In s (starts_from states n rules) → OfRule n rules s
  rule_of n [] s i = absurd i
  rule_of n (rule ∷ rules) s i = elim (In-cases (matched_starts states n rule) (starts_from states (n + 1) rules) s i) [
    | inl own ↦ (
        let same = own_rule states n rule.alternatives s (unfragmented rule.fragment (rule_starts states n rule.alternatives) s own) in
        record {
          place = 0;
          rule = rule;
          at = refl;
          number = omega (arith, same);
          whole = no_fragment rule.fragment (rule_starts states n rule.alternatives) s own;
        })
    | inr later ↦ (let h = rule_of (n + 1) rules s later in
        record { place = suc h.place; rule = h.rule; at = h.at; number = omega (arith, h.number); whole = h.whole })
  ]

  -- a start of a rule that is no fragment is one of the rules'
  rule_in : (n : ℕ) (rules : List LexerRule) (k : ℕ) (rule : LexerRule) → slice_get rules k ≡ Some rule → rule.fragment ≡ false
      → (r : ℕ) → r ≡ n + k → (s : Start) → In s (rule_starts states r rule.alternatives) → In s (starts_from states n rules)
  rule_in n [] k rule is whole r number s i = absurd (let e : ⊥ = cc in e)
  rule_in n (x ∷ rules) zero rule is whole r number s i =
      let same : rule ≡ x = (let e : Some x ≡ Some rule = is in cc) in
      let here : r ≡ n = omega (arith, number) in
      In-left (matched_starts states n x) (starts_from states (n + 1) rules) s
      (unless_in x.fragment (rule_starts states n x.alternatives) s (subst (λ (y : LexerRule). y.fragment ≡ false) same whole)
      (subst (λ (y : LexerRule). In s (rule_starts states n y.alternatives)) same
      (subst (λ (q : ℕ). In s (rule_starts states q rule.alternatives)) here i)))
  rule_in n (x ∷ rules) (suc k) rule is whole r number s i =
      In-right (matched_starts states n x) (starts_from states (n + 1) rules) s
      (rule_in (n + 1) rules k rule is whole r (omega (arith, number)) s i)

  module _ (modes : List (List ℕ)) (j : ℕ) where
    -- of which rule a start of a mode is
    record OfMode (n : ℕ) (rules : List LexerRule) (s : Start) : Type 0 where
      place : ℕ
      rule : LexerRule
      at : slice_get rules place ≡ Some rule
      number : s.rule ≡ n + place
      whole : rule.fragment ≡ false
      inside : is_in_mode modes j rule ≡ true

    mode_rule : (n : ℕ) (rules : List LexerRule) (s : Start) → In s (starts_in states modes j n rules) → OfMode n rules s
    mode_rule n [] s i = absurd i
    mode_rule n (rule ∷ rules) s i = by (is_in_mode modes j rule) refl i (λ k. mode_rule (n + 1) rules s k)
      where
        later : OfMode (n + 1) rules s → OfMode n (rule ∷ rules) s
        later h =
            record { place = suc h.place; rule = h.rule; at = h.at; number = omega (arith, h.number); whole = h.whole; inside = h.inside }

        by : (b : Bool) → is_in_mode modes j rule ≡ b
            → In s (cond b (matched_starts states n rule) [] ++ starts_in states modes j (n + 1) rules)
            → (In s (starts_in states modes j (n + 1) rules) → OfMode (n + 1) rules s) → OfMode n (rule ∷ rules) s
        by true is here rest = elim (In-cases (matched_starts states n rule) (starts_in states modes j (n + 1) rules) s here) [
          | inl own ↦ (
              let here = unfragmented rule.fragment (rule_starts states n rule.alternatives) s own in
              let same = own_rule states n rule.alternatives s here in
              record {
                place = 0;
                rule = rule;
                at = refl;
                number = omega (arith, same);
                whole = no_fragment rule.fragment (rule_starts states n rule.alternatives) s own;
                inside = is;
              })
          | inr k ↦ later (rest k)
        ]
        by false is here rest = later (rest here)

    -- a start of a rule of the mode that is no fragment is one of the mode's
    mode_in : (n : ℕ) (rules : List LexerRule) (k : ℕ) (rule : LexerRule) → slice_get rules k ≡ Some rule → rule.fragment ≡ false
        → is_in_mode modes j rule ≡ true → (r : ℕ) → r ≡ n + k → (s : Start) → In s (rule_starts states r rule.alternatives)
        → In s (starts_in states modes j n rules)
    mode_in n [] k rule is whole inside r number s i = absurd (let e : ⊥ = cc in e)
    mode_in n (x ∷ rules) zero rule is whole inside r number s i =
        let same : rule ≡ x = (let e : Some x ≡ Some rule = is in cc) in
        let here : r ≡ n = omega (arith, number) in
        subst (λ (b : Bool). In s (cond b (matched_starts states n x) [] ++ starts_in states modes j (n + 1) rules))
        (sym (subst (λ (y : LexerRule). is_in_mode modes j y ≡ true) same inside))
        (In-left (matched_starts states n x) (starts_in states modes j (n + 1) rules) s
        (unless_in x.fragment (rule_starts states n x.alternatives) s (subst (λ (y : LexerRule). y.fragment ≡ false) same whole)
        (subst (λ (y : LexerRule). In s (rule_starts states n y.alternatives)) same
        (subst (λ (q : ℕ). In s (rule_starts states q rule.alternatives)) here i))))
    mode_in n (x ∷ rules) (suc k) rule is whole inside r number s i =
        In-right (cond (is_in_mode modes j x) (matched_starts states n x) []) (starts_in states modes j (n + 1) rules) s
        (mode_in (n + 1) rules k rule is whole inside r (omega (arith, number)) s i)

module _ (literals others : List LexerRule) (modes : List (List ℕ)) (made : LexNet) (lex : IsLexNet literals others modes made)
    (can : CanBeLexed (all_rules literals others)) (m : ℕ) (starts : List Start) (is : slice_get made.modes m ≡ Some starts) where
  -- all rules, and the states
  abbrev rules : List LexerRule
  rules = all_rules literals others

  abbrev states : List (State Reads)
  states = made.net.states

  -- the starts of the literals, and those of the mode
  abbrev front : List Start
  front = starts_from states 0 literals

  abbrev back : List Start
  back = starts_in states modes m (length literals) others

  here : starts ≡ front ++ back
  here =
      let first : 0 + m ≡ m = omega arith in
      subst (λ (j : ℕ). starts ≡ starts_from states 0 literals ++ starts_in states modes j (length literals) others) first
      (at_range (λ j. starts_from states 0 literals ++ starts_in states modes j (length literals) others) 0 (length modes) m starts
      (subst (λ (all : List (List Start)). slice_get all m ≡ Some starts) lex.starts is))

  -- the rules of the literals, and the others
  of_literals : AreFrom states rules 0 literals
  of_literals k rule at = let e : k ≡ 0 + k = omega arith in
      subst (λ (q : ℕ). slice_get rules q ≡ Some rule) e (item_front literals others k rule at)

  of_others : AreFrom states rules (length literals) others
  of_others k rule at = item_after literals others k ∙ at

  -- with a start a match may begin
  pub started_may : (r i : ℕ) → IsStarted starts r i → MayBegin literals others modes m r i
  started_may r i (a, c) =
      let s : Start = record { rule = r; alternative = i; state = a } in
      let begins = (mode_is literals others modes made lex starts (at_is_member made.modes m starts is)).begin s (In-from starts s c) in
      let x = alternative_there literals others modes made lex can r i a begins in
      let inside = subst (In s) here (In-from starts s c) in
      elim (In-cases front back s inside) [
        | inl literal ↦ (
            let h = rule_of states 0 literals s literal in
            let below = slice_get_within literals h.place h.rule h.at in
            let number : 0 + h.place ≡ r = sym h.number in record {
              rule = h.rule;
              at = subst (λ (q : ℕ). slice_get rules q ≡ Some h.rule) number (of_literals h.place h.rule h.at);
              whole = h.whole;
              whose = inl (omega (arith, number, below));
              alternative = x;
            })
        | inr own ↦ (
            let h = mode_rule states modes m (length literals) others s own in
            let number : length literals + h.place ≡ r = sym h.number in record {
              rule = h.rule;
              at = subst (λ (q : ℕ). slice_get rules q ≡ Some h.rule) number (of_others h.place h.rule h.at);
              whole = h.whole;
              whose = inr h.inside;
              alternative = x;
            })
      ]

  -- rule r is the one at this place
  same_rule : (r n k : ℕ) (some : List LexerRule) (rule other : LexerRule) → AreFrom states rules n some → r ≡ n + k
      → slice_get rules r ≡ Some rule → slice_get some k ≡ Some other → other ≡ rule
  same_rule r n k some rule other are number at there =
      let also : slice_get rules r ≡ Some other = subst (λ (q : ℕ). slice_get rules q ≡ Some other) (sym number) (are k other there) in
      let e : Some other ≡ Some rule = sym also ∙ at in cc

  -- a start of the rule of a literal is one of the literals'
  among_front : (r : ℕ) (rule : LexerRule) (s : Start) → slice_get rules r ≡ Some rule → rule.fragment ≡ false
      → In s (rule_starts states r rule.alternatives) → r < length literals → In s front
  among_front r rule s at whole i below =
      let other = item_below literals r below in
      let number : r ≡ 0 + r = omega arith in
      let same = same_rule r 0 r literals rule other.0 of_literals number at other.1 in
      let literal : slice_get literals r ≡ Some rule = other.1 ∙ ap (λ (y : LexerRule). Some y) same in
      rule_in states 0 literals r rule literal whole r number s i

  -- it has a start among those of the literals, or of the mode
  among_starts : (r : ℕ) (rule : LexerRule) (s : Start) → slice_get rules r ≡ Some rule → rule.fragment ≡ false
      → In s (rule_starts states r rule.alternatives) → (r < length literals) ⊎ (is_in_mode modes m rule ≡ true) → In s starts
  among_starts r rule s at whole i (inl below) = subst (In s) (sym here) (In-left front back s (among_front r rule s at whole i below))
  among_starts r rule s at whole i (inr inside) = elim (cases_lt r (length literals)) [
    | inl below ↦ subst (In s) (sym here) (In-left front back s (among_front r rule s at whole i below))
    | inr past ↦ (
        let number : r ≡ length literals + (r - length literals) = omega (arith, past) in
        let high : r < length rules = slice_get_within rules r rule at in
        let other = item_below others (r - length literals) (omega (arith, past, high, length-append literals others)) in
        let same = same_rule r (length literals) (r - length literals) others rule other.0 of_others number at other.1 in
        let own : slice_get others (r - length literals) ≡ Some rule = other.1 ∙ ap (λ (y : LexerRule). Some y) same in
        subst (In s) (sym here) (In-right front back s
        (mode_in states modes m (length literals) others (r - length literals) rule own whole inside r number s i)))
  ]

  -- where a match may begin, there is a start
  pub may_started : (r i : ℕ) → MayBegin literals others modes m r i → IsStarted starts r i
  may_started r i may =
      let rule = may.rule in
      let at = may.at in
      let x = may.alternative.0 in
      let alternative = may.alternative.1 in
      let net = made.net in
      let own = lexer_alternatives_of alternative.0 in
      let same : alternative.0 ≡ rule = (let e : Some alternative.0 ≡ Some rule = sym alternative.2 ∙ at in cc) in
      let lies = laid_as (trees_of rules) net lex.network.network r (all_laid rules own) (tree_of rules r alternative.0 alternative.2) in
      let y = alternative_laid rules alternative.0 alternative.1 x alternative.3 in
      let b = begins_at lies.2 y.0 (laid rules x.elements) y.1 in
      let number : y.0 + 1 ≡ i = omega (arith, alternative.4, y.2) in
      let begins : walks.BeginsAt net r (all_laid rules own) i b.0 =
      subst (λ (q : ℕ). walks.BeginsAt net r (all_laid rules own) q b.0) number b.1 in
      let s : Start = record { rule = r; alternative = i; state = b.0 } in
      let i_in : In s (rule_starts states r alternative.0.alternatives) = begins_in net rules r i b.0 alternative.0.alternatives begins in (
        b.0,
        In-to starts s (among_starts r rule s at may.whole
            (subst (λ (z : LexerRule). In s (rule_starts states r z.alternatives)) same i_in) may.whose),
      )
