-- What rules match alone, and the match by all of them, where rules without non-greedy parts match what they derive.
use Rattle.std.proofs.Common.{◌≡◌, ℕ, zero, suc, inl, inr, List, [], ◌∷◌, map, drop, Some, refl, sym, ◌∙◌, ap, subst, Contains, slice_get}
use Rattle.g4_source.specs.Elements.{Alternatives}
use Rattle.g4_source.specs.Bind.{in_order_bind, in_order_over}
use Rattle.g4_source.specs.Blocks.{LexerRuleIsFull, LexerRulesAreFull}
use Rattle.g4_source.specs.Rules.{lexer_alternatives_of}
use Rattle.g4_source.specs.declared.rule.LexerAlternative.{LexerAlternative}
use Rattle.g4_source.specs.declared.rule.LexerRule.{LexerRule}
use Rattle.g4_grammar.specs.declared.step.Step.{Step}
use Rattle.g4_ordered.specs.Configurations.{LexerConfig, start}
use Rattle.g4_ordered.specs.Matching.{IsBest, IsMatch, MatchesAlone, SpellsFront}
use Rattle.g4_ordered.specs.Network.{LexerNetwork}
use Rattle.g4_ordered.specs.Spelling.{SpellsText}
use Rattle.g4_ordered.specs.declared.network.Reads.{Reads}
use Rattle.g4_ordered.proofs.Best.{alone_spells, best_is_match, match_is_best, spells_alone}
use Rattle.g4_ordered.proofs.Lists.{In-to, In-from}
use Rattle.g4_derivation.specs.Alternatives as walks
use Rattle.g4_derivation.proofs.Beginnings.{begins, item_of_alternative}
use Rattle.g4_lexer_rules.specs.declared.lex_net.LexNet.{LexNet}
use Rattle.g4_ordered.specs.declared.start.Start.{Start}
use Rattle.g4_ordered.specs.Starts.{starts_of}
use Rattle.g4_lexer_rules.specs.Lexable.{CanBeLexed}
use Rattle.g4_lexer_rules.specs.LexNets.{IsLexNet}
use Rattle.g4_lexer_rules.specs.NetworkRules.{all_rules, lowered, names_of, trees_of}
use Rattle.g4_lexer_rules.specs.Steps.{step_of}
use Rattle.g4_lexer_rules.proofs.Lexed.{is_lexable}
use Rattle.g4_lexer_rules.proofs.Trees.{some_alternative}
use Rattle.g4_spelling.specs.Canonical.{SetsAreCanonical}
use Rattle.g4_spelling.specs.Fronts.{IsLexStart, IsAlternativeOf}
use Rattle.g4_spelling.specs.Greedy.{IsWrittenGreedy}
use Rattle.g4_spelling.specs.Matches.{Matches, MatchesDerived, by_derivation, by_the_list}
use Rattle.g4_spelling.proofs.Atoms.{kind_of}
use Rattle.g4_spelling.proofs.Deciding.{decide_greedy}
use Rattle.g4_spelling.proofs.Derived.{derived_spells, spelled_derives}
use Rattle.g4_spelling.proofs.Eager.{greedy_rule}
use Rattle.g4_spelling.proofs.Modes.{at_start, fresh, mode_is, start_at}
use Rattle.g4_derivation.proofs.Items.{map_item}
use Rattle.g4_spelling.proofs.Placed.{all_laid, begins_laid, item_below, tree_is, tree_of}

-- one of several rules has an alternative
full_rule : (rules : List LexerRule) → LexerRulesAreFull rules → (k : ℕ) (rule : LexerRule) → slice_get rules k ≡ Some rule
    → LexerRuleIsFull rule
full_rule [] full k rule is = absurd (let n : ⊥ = cc in n)
full_rule (x ∷ rules) full zero rule is = let same : x ≡ rule = cc in subst LexerRuleIsFull same full.0
full_rule (x ∷ rules) full (suc k) rule is = full_rule rules full.1 k rule is

-- two ways to match by which the same is matched have the same best
same_best : {P Q : ℕ → ℕ → ℕ → Type 0} → ((r i n : ℕ) → P r i n → Q r i n) → ((r i n : ℕ) → Q r i n → P r i n) → (n r i : ℕ)
    → IsBest P n r i → IsBest Q n r i
same_best to back n r i b = record {
  some = b.some;
  matches = to r i n b.matches;
  longest = λ m s j h. b.longest m s j (back s j m h);
  first_rule = λ s j h. b.first_rule s j (back s j n h);
  first_alternative = λ j h. b.first_alternative j (back r j n h);
}

module _ (literals others : List LexerRule) (modes : List (List ℕ)) (made : LexNet) (lex : IsLexNet literals others modes made)
    (can : CanBeLexed (all_rules literals others)) where
  -- where something begins, an alternative begins
  pub alternative_there : (r i a : ℕ) → IsLexStart made.net.states (all_rules literals others) r i a
      → (x : LexerAlternative) × IsAlternativeOf (all_rules literals others) r i x
  alternative_there r i a (rule, is, c) =
      let rules = all_rules literals others in
      let net = made.net in
      let many = some_alternative rule.alternatives (full_rule rules can.full r rule is).0 in
      let first = item_below rule.alternatives 0 many in
      let own = all_laid rules (lexer_alternatives_of rule) in
      let b = begins (trees_of rules) net lex.network.network r own (tree_of rules r rule is) i a
      (begins_laid rules net r i a rule.alternatives c 0 first.0 first.1) in
      let h = item_of_alternative (map (in_order_over step_of) (lowered rules rule)) i b.alternative
      (subst (λ (ys : Alternatives (Step Reads)). walks.IsAlternative ys i b.alternative) (sym (tree_is rules rule)) b.is) in
      let low = map_item (in_order_over step_of) (lowered rules rule) h.0 b.alternative h.1 in
      let x = map_item (λ (y : LexerAlternative). in_order_bind (kind_of (names_of rules)) y.elements) rule.alternatives h.0 low.0 low.1 in
      (x.0, (rule, h.0, is, x.1, h.2))

module _ (literals others : List LexerRule) (modes : List (List ℕ)) (made : LexNet) (lex : IsLexNet literals others modes made)
    (can : CanBeLexed (all_rules literals others)) (canonical : SetsAreCanonical (all_rules literals others)) where
  -- all rules and the network
  abbrev rules : List LexerRule
  rules = all_rules literals others

  abbrev net : LexerNetwork
  net = made.net

  module _ (starts : List Start) (among : Contains made.modes starts) (text : List ℕ) where
    -- where a start begins
    begins_at : (s : Start) → Contains starts s → IsLexStart net.states rules s.rule s.alternative s.state
    begins_at s c = (mode_is literals others modes made lex starts among).begin s (In-from starts s c)

    -- what is spelled at the front is derived
    spelled_derived : (r i n : ℕ) → SpellsFront net (starts_of starts) text r i n → MatchesDerived rules starts text r i n
    spelled_derived r i n (room, (c, at, rule_is, alternative_is, spells)) =
        let h = start_at starts c at in
        let s = h.0 in
        let rule : s.rule ≡ r = sym (ap (λ (d : LexerConfig). d.rule) h.2) ∙ rule_is in
        let alternative : s.alternative ≡ i = sym (ap (λ (d : LexerConfig). d.alternative) h.2) ∙ alternative_is in
        let there : Contains starts s = In-to starts s h.1 in
        let same : s ≡ record { rule = r; alternative = i; state = s.state } =
        ap (λ (q : ℕ). record { rule = q; alternative = s.alternative; state = s.state }) rule
        ∙ ap (λ (q : ℕ). record { rule = r; alternative = q; state = s.state }) alternative in
        let here : Contains starts (record { rule = r; alternative = i; state = s.state }) = subst (Contains starts) same there in
        let begun = begins_at (record { rule = r; alternative = i; state = s.state }) here in
        let x = alternative_there literals others modes made lex can r i s.state begun in (
          room,
          (s.state, here),
          (
            x.0,
            x.1,
            spelled_derives literals others modes made lex can canonical r i s.state x.0 x.1 begun text
                (drop n text) (subst (λ (q : ℕ). SpellsText net q text (drop n text)) (ap (λ (d : LexerConfig). d.state) h.2) spells),
          ),
        )

    -- and the other way round
    derived_spelled : (r i n : ℕ) → MatchesDerived rules starts text r i n → SpellsFront net (starts_of starts) text r i n
    derived_spelled r i n (room, (a, here), (x, alternative, front)) =
        let s : Start = record { rule = r; alternative = i; state = a } in (
          room,
          (
            start r i a,
            at_start starts s here,
            refl,
            refl,
            derived_spells literals others modes made lex can canonical r i a x alternative (begins_at s here) text (drop n text) front,
          ),
        )

    -- a rule without non-greedy parts matches alone what it derives
    pub alone_derives : (r i n : ℕ) → IsWrittenGreedy rules r → MatchesAlone net (starts_of starts) text r i n
        → MatchesDerived rules starts text r i n
    alone_derives r i n written m =
        spelled_derived r i n (alone_spells net (starts_of starts) text r i n (is_lexable literals others modes made lex can) (fresh starts)
        (greedy_rule literals others modes made lex can starts among r written) m)

    -- and the other way round
    pub derived_alone : (r i n : ℕ) → IsWrittenGreedy rules r → MatchesDerived rules starts text r i n
        → MatchesAlone net (starts_of starts) text r i n
    derived_alone r i n written d =
        spells_alone net (starts_of starts) text r i n (is_lexable literals others modes made lex can) (fresh starts)
        (greedy_rule literals others modes made lex can starts among r written) (derived_spelled r i n d)

    -- what a rule matches alone, it matches
    alone_matches : (r i n : ℕ) → MatchesAlone net (starts_of starts) text r i n → Matches rules net starts text r i n
    alone_matches r i n m = elim (decide_greedy rules can.within r) [
      | inl written ↦ by_derivation written (alone_derives r i n written m)
      | inr not ↦ by_the_list not m
    ]

    -- and no more
    matches_alone : (r i n : ℕ) → Matches rules net starts text r i n → MatchesAlone net (starts_of starts) text r i n
    matches_alone r i n (by_derivation written d) = derived_alone r i n written d
    matches_alone r i n (by_the_list not m) = m

    -- the match by the list of all rules is the best of what they match
    pub match_best : (n r i : ℕ) → IsMatch net (starts_of starts) text n r i → IsBest (Matches rules net starts text) n r i
    match_best n r i m =
        same_best {P = MatchesAlone net (starts_of starts) text} {Q = Matches rules net starts text} alone_matches matches_alone n r i
        (match_is_best net (starts_of starts) text n r i (is_lexable literals others modes made lex can)
        (mode_is literals others modes made lex starts among).in_order m)

    -- and the best is the match
    pub best_match : (n r i : ℕ) → IsBest (Matches rules net starts text) n r i → IsMatch net (starts_of starts) text n r i
    best_match n r i b =
        best_is_match net (starts_of starts) text n r i (is_lexable literals others modes made lex can)
        (mode_is literals others modes made lex starts among).in_order
        (same_best {P = Matches rules net starts text} {Q = MatchesAlone net (starts_of starts) text} matches_alone alone_matches n r i b)
