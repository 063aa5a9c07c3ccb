-- A rule that is written without non-greedy parts has none in the network.
use Rattle.std.proofs.Common.{◌≡◌, ◌*◌, ℕ, zero, suc, ◌<◌, ◌≤◌, ◌⊎◌, inl, inr, List, [], ◌∷◌, length, All, true, false, Some, refl, sym, ◌∙◌, ap, subst, arith, Contains, slice_get}
use Rattle.std.proofs.lemmas.List.Elements.{All-nil, All-cons}
use Rattle.std.proofs.lemmas.Option.{slice_get_within}
use Rattle.g4_source.specs.Full.{EachIsFull}
use Rattle.g4_source.specs.Elements.{Alternatives, atoms_of_either}
use Rattle.g4_source.specs.Rules.{lexer_alternatives_of}
use Rattle.g4_source.specs.declared.rule.LexerAlternative.{LexerAlternative}
use Rattle.g4_source.specs.declared.rule.LexerRule.{LexerRule}
use Rattle.g4_grammar.specs.LeftCalls.{one_call, more_calls}
use Rattle.g4_grammar.specs.Steps.{CallsRule}
use Rattle.g4_grammar.specs.declared.step.Step.{Step}
use Rattle.g4_net.specs.Network.{start_of, end_of}
use Rattle.g4_net.specs.declared.network.State.TheVariants.{Decision}
use Rattle.g4_layout.specs.Layout.{IsNetworkOf}
use Rattle.g4_layout.proofs.Rules.{LaidRule, rule_laid}
use Rattle.g4_layout.proofs.RulesSound.{heads_sound, others_sound}
use Rattle.g4_layout.proofs.Sound.{IsSoundState, SoundAt, target_allowed}
use Rattle.g4_layout.proofs.Trees.{CallsKnown, EachIsSound, each_sound}
use Rattle.g4_states.specs.Rules.{AreFullTrees}
use Rattle.g4_ordered.specs.Configurations.{LexerConfig}
use Rattle.g4_ordered.specs.Greedy.{Within, onward, called, IsGreedy}
use Rattle.g4_ordered.specs.Greedy as greedy
use Rattle.g4_ordered.specs.Matching.{IsGreedyRule}
use Rattle.g4_ordered.specs.Network.{LexerNetwork, is_reluctant}
use Rattle.g4_ordered.specs.declared.network.Reads.{Reads}
use Rattle.g4_lexer_rules.specs.declared.lex_net.LexNet.{LexNet}
use Rattle.g4_ordered.specs.declared.start.Start.{Start}
use Rattle.g4_ordered.specs.Starts.{starts_of}
use Rattle.g4_lexer_rules.specs.Lexable.{CanBeLexed}
use Rattle.g4_lexer_rules.specs.LexNets.{IsLexNet}
use Rattle.g4_lexer_rules.specs.NetworkRules.{all_rules, names_of, trees_of}
use Rattle.g4_lexer_rules.specs.Starts.{decided_starts, rule_starts}
use Rattle.g4_lexer_rules.proofs.Trees.{trees_full}
use Rattle.g4_spelling.specs.Fronts.{IsLexStart}
use Rattle.g4_spelling.specs.Greedy.{EachIsGreedy, IsPartOf, IsWrittenGreedy, RuleCalls}
use Rattle.g4_spelling.proofs.Carried.{either_calls, either_greedy}
use Rattle.g4_spelling.proofs.Modes.{mode_is, start_at}
use Rattle.g4_derivation.proofs.Firsts.{at_is_member}
use Rattle.g4_spelling.proofs.Placed.{all_laid, call_known, decided_at, member_at, tree_of}
use Rattle.g4_spelling.proofs.Rising.{IsEager, end_eager, rule_eager}

-- nothing is asked of a step
abbrev Any : Step Reads → Type 0
Any a = Unit {0}

-- which each has
any_all : (xs : List (Step Reads)) → All Any xs
any_all [] = All-nil Any
any_all (x ∷ xs) = All-cons Any x xs tt (any_all xs)

-- the blocks of one of several rules
full_at : (trees : List (Alternatives (Step Reads))) → AreFullTrees trees → (k : ℕ) (xs : Alternatives (Step Reads))
    → slice_get trees k ≡ Some xs → EachIsFull xs
full_at [] full k xs is = absurd (let n : ⊥ = cc in n)
full_at (x ∷ trees) full zero xs is = let same : x ≡ xs = cc in subst EachIsFull same full.0.1
full_at (x ∷ trees) full (suc k) xs is = full_at trees full.1 k xs is

-- a rule's start leads to where its alternatives begin
begins_within : (net : LexerNetwork) (r i a : ℕ) (xs : List LexerAlternative)
    → Contains (rule_starts net.states r xs) (record { rule = r; alternative = i; state = a }) → Within net (start_of r) a
begins_within net r i a xs c = by xs c
  where
    decided : Contains (decided_starts r (slice_get net.states (start_of r))) (record { rule = r; alternative = i; state = a })
        → Within net (start_of r) a
    decided c = let h = decided_at r (slice_get net.states (start_of r)) i a c in
        onward (start_of r) a (Decision h.0) greedy.start h.2 (at_is_member h.0 h.1 a h.3)

    by : (xs : List LexerAlternative) → Contains (rule_starts net.states r xs) (record { rule = r; alternative = i; state = a })
        → Within net (start_of r) a
    by [] c = decided c
    by (x ∷ []) c = elim (member_at (record { rule = r; alternative = 1; state = start_of r })
        (record { rule = r; alternative = i; state = a }) [] c) [
          | inl same ↦ subst (Within net (start_of r)) (ap (λ (s : Start). s.state) same) greedy.start
          | inr more ↦ absurd (omega (arith, more.1))
        ]
    by (x ∷ y ∷ more) c = decided c

module _ (literals others : List LexerRule) (modes : List (List ℕ)) (made : LexNet) (lex : IsLexNet literals others modes made)
    (can : CanBeLexed (all_rules literals others)) where
  -- all rules, their trees and the network
  abbrev rules : List LexerRule
  rules = all_rules literals others

  abbrev trees : List (Alternatives (Step Reads))
  trees = trees_of rules

  abbrev net : LexerNetwork
  net = made.net

  network : IsNetworkOf trees net
  network = lex.network.network

  -- rule k as it is laid out
  abbrev LaidHere : ℕ → Type 0
  LaidHere k = LaidRule trees net network k

  laid_here : (k : ℕ) (rule : LexerRule) → slice_get rules k ≡ Some rule → LaidHere k
  laid_here k rule is = rule_laid trees net network k
      (slice_get_within trees k (all_laid rules (lexer_alternatives_of rule)) (tree_of rules k rule is))

  -- the state is one of this rule
  abbrev IsHere : (k : ℕ) → LaidHere k → ℕ → Type 0
  IsHere k r q = (q ≡ start_of k) ⊎ ((q ≡ end_of k) ⊎ ((r.from ≤ q) × (q < r.upto)))

  module _ (k : ℕ) (rule : LexerRule) (is : slice_get rules k ≡ Some rule) (r : LaidHere k) where
    -- its tree
    own_tree : r.alternatives ≡ all_laid rules (lexer_alternatives_of rule)
    own_tree = let e : Some r.alternatives ≡ Some (all_laid rules (lexer_alternatives_of rule)) = sym r.is ∙ tree_of rules k rule is in cc

    -- a step that calls only what the rule does
    abbrev Good : Step Reads → Type 0
    Good = CallsKnown Any CallsRule (RuleCalls rules k)

    abbrev Ended : ℕ → Type 0
    Ended q = Unit {0}

    -- its steps are
    own_sound : EachIsSound Good r.alternatives
    own_sound =
        let full = full_at trees (trees_full rules can.full) k r.alternatives r.is in
        subst (EachIsSound Good) (sym own_tree)
        (each_sound Any CallsRule (RuleCalls rules k) (all_laid rules (lexer_alternatives_of rule)) (subst EachIsFull own_tree full)
        (any_all (atoms_of_either (all_laid rules (lexer_alternatives_of rule))))
        (λ j c. (rule, is, either_calls (names_of rules) (lexer_alternatives_of rule) j c)))

    -- each state of the rule leads to its states
    state_sound : (q : ℕ) → IsHere k r q → SoundAt net Good Ended (IsHere k r) q
    state_sound q (inl at) = subst (SoundAt net Good Ended (IsHere k r)) (sym at)
        (heads_sound net Good Ended (IsHere k r) trees (2 * length trees) k r own_sound (inr (inl refl))
        (λ p from below. inr (inr (from, below))) tt).0
    state_sound q (inr (inl at)) = subst (SoundAt net Good Ended (IsHere k r)) (sym at)
        (heads_sound net Good Ended (IsHere k r) trees (2 * length trees) k r own_sound (inr (inl refl))
        (λ p from below. inr (inr (from, below))) tt).1
    state_sound q (inr (inr at)) = others_sound net Good Ended (IsHere k r) trees (2 * length trees) k r own_sound (inr (inl refl))
        (λ p from below. inr (inr (from, below))) (inl refl) q at.0 at.1

    -- and is no reluctant decision, where the rule's signs are greedy
    state_eager : EachIsGreedy (lexer_alternatives_of rule) → (q : ℕ) → IsHere k r q → IsEager net q
    state_eager g q here =
        let all = rule_eager net r.lies (subst EachIsGreedy (sym own_tree)
        (either_greedy (names_of rules) (lexer_alternatives_of rule) g)) in
        elim here [
          | inl at ↦ subst (IsEager net) (sym at) all.0
          | inr (inl at) ↦ subst (IsEager net) (sym at) (end_eager net (end_of k) k r.last)
          | inr (inr at) ↦ all.1 q at.0 at.1
        ]

  -- the state is one of a rule that is part of rule r
  record IsPartState (r q : ℕ) : Type 0 where
    number : ℕ
    rule : LexerRule
    is : slice_get rules number ≡ Some rule
    part : IsPartOf rules r number
    laid : LaidHere number
    here : IsHere number laid q

  -- what a part calls is a part
  calls_part : (r k j : ℕ) → IsPartOf rules r k → RuleCalls rules k j → IsPartOf rules r j
  calls_part r k j (inl same) c = inr (one_call j (subst (λ (q : ℕ). RuleCalls rules q j) same c))
  calls_part r k j (inr reach) c = inr (more_calls k j reach c)

  -- all states within are
  within_part : (r p q : ℕ) → Within net p q → IsPartState r p → IsPartState r q
  within_part r p _ greedy.start h = h
  within_part r p t (onward q _ s w is target) h =
      let i = within_part r p q w h in
      let sound = state_sound i.number i.rule i.is i.laid q i.here in
      record {
        number = i.number;
        rule = i.rule;
        is = i.is;
        part = i.part;
        laid = i.laid;
        here = target_allowed (Good i.number i.rule i.is i.laid) (Ended i.number i.rule i.is i.laid) (IsHere i.number i.laid) s t
            (subst (IsSoundState (Good i.number i.rule i.is i.laid) (Ended i.number i.rule i.is i.laid) (IsHere i.number i.laid)) is
            sound) target;
      }
  within_part r p _ (called q rule level back w is) h =
      let i = within_part r p q w h in
      let sound = subst (IsSoundState (Good i.number i.rule i.is i.laid) (Ended i.number i.rule i.is i.laid) (IsHere i.number i.laid))
      is (state_sound i.number i.rule i.is i.laid q i.here) in
      let known = call_known literals others modes made lex can q rule level back is in
      record {
        number = rule;
        rule = known.0;
        is = known.1;
        part = calls_part r i.number rule i.part (sound.0.1 rule refl);
        laid = laid_here rule known.0 known.1;
        here = inl refl;
      }

  -- from where an alternative of the rule begins there is no reluctant decision
  begun_greedy : (r i a : ℕ) → IsLexStart net.states rules r i a → IsWrittenGreedy rules r → IsGreedy net a
  begun_greedy r i a (rule, is, c) written q targets w at reluctant =
      let first : IsPartState r (start_of r) = record
      { number = r; rule = rule; is = is; part = inl refl; laid = laid_here r rule is; here = inl refl } in
      let h = within_part r a q w (within_part r (start_of r) a (begins_within net r i a rule.alternatives c) first) in
      let eager : is_reluctant targets ≡ false =
      state_eager h.number h.rule h.is h.laid (written h.number h.rule h.part h.is) q h.here targets at in
      let n : ⊥ = (let e : true ≡ false = sym reluctant ∙ eager in cc) in n

  -- a rule that is written without non-greedy parts has none
  pub greedy_rule : (starts : List Start) → Contains made.modes starts → (r : ℕ) → IsWrittenGreedy rules r
      → IsGreedyRule net (starts_of starts) r
  greedy_rule starts c r written s i same =
      let h = start_at starts s i in
      let begins = (mode_is literals others modes made lex starts c).begin h.0 h.1 in
      let number : h.0.rule ≡ r = sym (ap (λ (d : LexerConfig). d.rule) h.2) ∙ same in
      subst (IsGreedy net) (sym (ap (λ (d : LexerConfig). d.state) h.2))
      (begun_greedy h.0.rule h.0.alternative h.0.state begins (subst (IsWrittenGreedy rules) (sym number) written))
