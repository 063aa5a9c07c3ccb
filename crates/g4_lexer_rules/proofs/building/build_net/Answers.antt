use Rattle.std.proofs.Common.{◌≡◌, ◌≤◌, ◌<◌, ◌↔◌, inl, inr, ℕ, Bool, true, false, IsTrue, List, All, length, map, take, drop, sum_by, arith, ap, subst, sym, refl, ◌∙◌}
use Rattle.std.proofs.lemmas.Bool.{cases_lt}
use Rattle.std.proofs.lemmas.List.{length-append, length-map}
use Rattle.g4_source.specs.Elements.{Alternatives, Elements}
use Rattle.g4_source.specs.declared.rule.LexerRule.{LexerRule}
use Rattle.g4_source.specs.Blocks.{LexerRulesAreFull}
use Rattle.g4_grammar.specs.declared.step.Numbering.{Numbering}
use Rattle.g4_grammar.specs.declared.step.Step.{Step}
use Rattle.g4_net.specs.declared.network.State.{State}
use Rattle.g4_net.specs.declared.network.TheConstants.{MOST_STATES}
use Rattle.g4_layout.specs.Numbered.{IsNumberedNetworkOf}
use Rattle.g4_layout.specs.Numbers.{NumberingsFit}
use Rattle.g4_layout.specs.Size.{states_of_rule}
use Rattle.g4_layout.proofs.Rules.{rules_up}
use Rattle.g4_states.specs.Rules.{AreFullTrees}
use Rattle.g4_states.specs.Trees.{rules_over}
use Rattle.g4_ordered.specs.declared.network.Reads.{Reads}
use Rattle.g4_lexer_rules.specs.declared.step.LexerStep.{LexerStep}
use Rattle.g4_lexer_rules.specs.NetworkRules.{all_rules, commands_of, lexer_states, lowered, numberings_of, trees_of}
use Rattle.g4_lexer_rules.specs.Starts.{AllCanStart, mode_starts}
use Rattle.g4_lexer_rules.specs.Steps.{step_of}
use Rattle.g4_lexer_rules.proofs.CanStart.{all_start, rules_size}
use Rattle.g4_lexer_rules.proofs.Starts.{drop_front, take_front}
use Rattle.g4_lexer_rules.proofs.Trees.{few_all, full_rules, lowered_trees, numberings_fit, tree, trees_full, trees_states}
use Rattle.g4_lexer_rules.proofs.building.build_net.Goals as goal

-- what the rules of the list over steps are
abbrev over_steps : List (List (Elements LexerStep)) → List (Alternatives (Step Reads))
over_steps rules = rules_over step_of (λ x. x) (λ rule. rule) rules

-- the rules as they are lowered
same_trees : (rules given : List LexerRule) (made made_now : List (List (Elements LexerStep))) → made_now ≡ made
    → made ≡ map (lowered given) given → given ≡ rules → over_steps made_now ≡ trees_of rules
same_trees rules given made made_now at is same =
    ap over_steps (at ∙ (is ∙ ap (λ (rs : List LexerRule). map (lowered rs) rs) same)) ∙ lowered_trees rules

-- a list of rules that does not fit
too_many : (rules all : List LexerRule) → rules ≡ all → (b : Bool) → b ≡ false → IsTrue b ↔ lexer_states rules ≤ MOST_STATES
    → MOST_STATES < lexer_states all
too_many rules all same b is test = subst (λ (rs : List LexerRule). MOST_STATES < lexer_states rs) same
    (elim (cases_lt MOST_STATES (lexer_states rules)) [
      | inl high ↦ high
      | inr low ↦ absurd (let e : b ≡ true = test.1 low in let k : ⊥ = cc in k)
    ])

-- where matches may begin
begun : (states given : List (State Reads)) (literals others : List LexerRule) (modes names : List (List ℕ)) (rules : List LexerRule)
    (count : ℕ) → given ≡ states → rules ≡ all_rules literals others → names ≡ modes → count ≡ length literals →
    mode_starts given (take count rules) (drop count rules) names ≡ mode_starts states literals others modes
begun states given literals others modes names rules count there same named many =
    let front : take count rules ≡ literals =
    ap (λ (k : ℕ). take k rules) many ∙ (ap (take (length literals)) same ∙ take_front literals others) in
    let back : drop count rules ≡ others =
    ap (λ (k : ℕ). drop k rules) many ∙ (ap (drop (length literals)) same ∙ drop_front literals others) in
    ap (λ (ss : List (State Reads)). mode_starts ss (take count rules) (drop count rules) names) there
    ∙ (ap (λ (rs : List LexerRule). mode_starts states rs (drop count rules) names) front
    ∙ (ap (λ (rs : List LexerRule). mode_starts states literals rs names) back ∙ ap (mode_starts states literals others) named))

pub numberings_of-requires : goal.numberings_of-requires
numberings_of-requires c =
    let few : lexer_states c.in_ok-rules.rules.items ≤ MOST_STATES =
    (rw c.as_slice.ensures.value at c.fits.ensures).0 c.if-not-fits.false in
    record {
      few = subst (λ (rs : List LexerRule). All (λ (r : LexerRule). length r.alternatives ≤ MOST_STATES) rs)
          (sym c.as_slice-3.ensures.value) (few_all c.in_ok-rules.rules.items few);
    }

pub draw-requires-clause-full : goal.draw-requires-clause-full
draw-requires-clause-full c =
    let same = same_trees c.in_ok-rules.rules.items c.as_slice-2.result.now c.in_ok-lowered.lowered.items
    c.as_slice-4.result.now c.as_slice-4.ensures.value c.in_ok-lowered.ensures c.as_slice-2.ensures.value in
    let full = subst LexerRulesAreFull (sym c.in_ok-rules.ensures)
    (full_rules c.args.literals.items c.args.rules.items c.requires.literals c.requires.rules) in
    subst (λ (trees : List (Alternatives (Step Reads))). AreFullTrees trees) (sym same) (trees_full c.in_ok-rules.rules.items full)

pub draw-requires-clause-fit : goal.draw-requires-clause-fit
draw-requires-clause-fit c =
    let same = same_trees c.in_ok-rules.rules.items c.as_slice-2.result.now c.in_ok-lowered.lowered.items
    c.as_slice-4.result.now c.as_slice-4.ensures.value c.in_ok-lowered.ensures c.as_slice-2.ensures.value in
    let full = subst LexerRulesAreFull (sym c.in_ok-rules.ensures)
    (full_rules c.args.literals.items c.args.rules.items c.requires.literals c.requires.rules) in
    let few : lexer_states c.in_ok-rules.rules.items ≤ MOST_STATES =
    (rw c.as_slice.ensures.value at c.fits.ensures).0 c.if-not-fits.false in
    let numbered = c.as_slice-5.ensures.value ∙ (c.in_ok-numberings.ensures
    ∙ ap (λ (rs : List LexerRule). numberings_of rs) c.as_slice-3.ensures.value) in
    subst (λ (ns : List Numbering). NumberingsFit (over_steps c.as_slice-4.result.now) ns) (sym numbered)
    (subst (λ (trees : List (Alternatives (Step Reads))). NumberingsFit trees (numberings_of c.in_ok-rules.rules.items))
    (sym same) (numberings_fit c.in_ok-rules.rules.items full (few_all c.in_ok-rules.rules.items few)))

pub draw-requires-clause-room : goal.draw-requires-clause-room
draw-requires-clause-room c =
    let same = same_trees c.in_ok-rules.rules.items c.as_slice-2.result.now c.in_ok-lowered.lowered.items
    c.as_slice-4.result.now c.as_slice-4.ensures.value c.in_ok-lowered.ensures c.as_slice-2.ensures.value in
    let few : lexer_states c.in_ok-rules.rules.items ≤ MOST_STATES =
    (rw c.as_slice.ensures.value at c.fits.ensures).0 c.if-not-fits.false in
    let many : length c.as_slice-4.result.now ≡ length c.in_ok-rules.rules.items =
    ap length (c.as_slice-4.ensures.value ∙ c.in_ok-lowered.ensures)
    ∙ (length-map c.as_slice-2.result.now (lowered c.as_slice-2.result.now) ∙ ap length c.as_slice-2.ensures.value) in
    omega (
      arith,
      few,
      many,
      ap (λ (trees : List (Alternatives (Step Reads))). sum_by states_of_rule trees) same,
      trees_states c.in_ok-rules.rules.items,
    )

pub starts_of_modes-requires-clause-can : goal.starts_of_modes-requires-clause-can
starts_of_modes-requires-clause-can c =
    let same = same_trees c.in_ok-rules.rules.items c.as_slice-2.result.now c.in_ok-lowered.lowered.items
    c.as_slice-4.result.now c.as_slice-4.ensures.value c.in_ok-lowered.ensures c.as_slice-2.ensures.value in
    let full = subst LexerRulesAreFull (sym c.in_ok-rules.ensures)
    (full_rules c.args.literals.items c.args.rules.items c.requires.literals c.requires.rules) in
    let few : lexer_states c.in_ok-rules.rules.items ≤ MOST_STATES =
    (rw c.as_slice.ensures.value at c.fits.ensures).0 c.if-not-fits.false in
    let net = subst (λ (trees : List (Alternatives (Step Reads))). IsNumberedNetworkOf trees c.as_slice-5.result.now c.in_ok-net.net)
    same c.in_ok-net.ensures in
    subst (λ (states : List (State Reads)). AllCanStart states 0 c.as_slice-7.result.now) (sym c.as_slice-6.ensures)
    (subst (λ (rs : List LexerRule). AllCanStart c.in_ok-net.net.states 0 rs) (sym c.as_slice-7.ensures.value)
    (all_start c.in_ok-rules.rules.items c.in_ok-net.net c.in_ok-rules.rules.items net.network.lie full
    (few_all c.in_ok-rules.rules.items few)))

pub starts_of_modes-requires-clause-within : goal.starts_of_modes-requires-clause-within
starts_of_modes-requires-clause-within c =
    let same = same_trees c.in_ok-rules.rules.items c.as_slice-2.result.now c.in_ok-lowered.lowered.items
    c.as_slice-4.result.now c.as_slice-4.ensures.value c.in_ok-lowered.ensures c.as_slice-2.ensures.value in
    let net = subst (λ (trees : List (Alternatives (Step Reads))). IsNumberedNetworkOf trees c.as_slice-5.result.now c.in_ok-net.net)
    same c.in_ok-net.ensures in
    omega (
      arith,
      rules_up net.network.lie,
      length-map c.in_ok-rules.rules.items (tree c.in_ok-rules.rules.items),
      ap length c.as_slice-6.ensures,
      ap length c.as_slice-7.ensures.value,
    )

pub starts_of_modes-requires-clause-few : goal.starts_of_modes-requires-clause-few
starts_of_modes-requires-clause-few c =
    let same = same_trees c.in_ok-rules.rules.items c.as_slice-2.result.now c.in_ok-lowered.lowered.items
    c.as_slice-4.result.now c.as_slice-4.ensures.value c.in_ok-lowered.ensures c.as_slice-2.ensures.value in
    let few : lexer_states c.in_ok-rules.rules.items ≤ MOST_STATES =
    (rw c.as_slice.ensures.value at c.fits.ensures).0 c.if-not-fits.false in
    let net = subst (λ (trees : List (Alternatives (Step Reads))). IsNumberedNetworkOf trees c.as_slice-5.result.now c.in_ok-net.net)
    same c.in_ok-net.ensures in
    omega (
      arith,
      few,
      rules_size c.in_ok-net.net (trees_of c.in_ok-rules.rules.items) net.network.lie,
      trees_states c.in_ok-rules.rules.items,
      length-map c.in_ok-rules.rules.items (tree c.in_ok-rules.rules.items),
      ap length c.as_slice-6.ensures,
    )

pub starts_of_modes-requires-clause-literals : goal.starts_of_modes-requires-clause-literals
starts_of_modes-requires-clause-literals c =
    omega (
      arith,
      length-append c.args.literals.items c.args.rules.items,
      ap length (c.as_slice-7.ensures.value ∙ c.in_ok-rules.ensures),
      c.len-count.ensures,
      c.args.literals.ok.0,
    )

pub returns-then-not-fits : goal.returns-then-not-fits
returns-then-not-fits c = too_many c.in_ok-rules.rules.items (all_rules c.args.literals.items c.args.rules.items)
    c.in_ok-rules.ensures _ c.if-not-fits.true (rw c.as_slice.ensures.value at c.fits.ensures)

pub returns : goal.returns
returns c =
    let rules = c.in_ok-rules.rules.items in
    let same = same_trees rules c.as_slice-2.result.now c.in_ok-lowered.lowered.items c.as_slice-4.result.now
    c.as_slice-4.ensures.value c.in_ok-lowered.ensures c.as_slice-2.ensures.value in
    let few : lexer_states rules ≤ MOST_STATES = (rw c.as_slice.ensures.value at c.fits.ensures).0 c.if-not-fits.false in
    let numbered = c.as_slice-5.ensures.value ∙ (c.in_ok-numberings.ensures
    ∙ ap (λ (rs : List LexerRule). numberings_of rs) c.as_slice-3.ensures.value) in
    let net = subst (λ (ns : List Numbering). IsNumberedNetworkOf (trees_of rules) ns c.in_ok-net.net) numbered
    (subst (λ (trees : List (Alternatives (Step Reads))). IsNumberedNetworkOf trees c.as_slice-5.result.now c.in_ok-net.net) same
    c.in_ok-net.ensures) in
    record {
      fits = subst (λ (rs : List LexerRule). lexer_states rs ≤ MOST_STATES) c.in_ok-rules.ensures few;
      network = subst (λ (rs : List LexerRule). IsNumberedNetworkOf (trees_of rs) (numberings_of rs) c.in_ok-net.net)
          c.in_ok-rules.ensures net;
      starts = c.new.ensures ∙ (c.in_ok-modes.ensures
          ∙ begun c.in_ok-net.net.states c.as_slice-6.result.now c.args.literals.items c.args.rules.items c.args.modes.now c.args.modes.now
          c.as_slice-7.result.now c.len-count.result c.as_slice-6.ensures (c.as_slice-7.ensures.value ∙ c.in_ok-rules.ensures) refl
          (omega (arith, c.len-count.ensures, c.args.literals.ok.0)));
      commands = c.new-2.ensures ∙ (c.in_ok-commands.ensures ∙ ap (λ (rs : List LexerRule). commands_of rs) c.in_ok-rules.ensures);
    }
