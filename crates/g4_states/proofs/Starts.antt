-- The numbers of rules that are laid out can be written, where their numberings fit.
use Rattle.std.proofs.Common.{◌≡◌, ℕ, ◌+◌, ◌≤◌, inl, inr, List, [], ◌∷◌, length, sym, ◌∙◌, subst, arith}
use Rattle.g4_source.specs.Elements.{atom, block, Elements, Alternatives, none, or}
use Rattle.g4_source.specs.declared.element.Repeat.TheVariants.{Once, Optional, Star, Plus}
use Rattle.g4_grammar.specs.declared.step.Numbering.{Numbering}
use Rattle.g4_grammar.specs.declared.step.Step.{Step}
use Rattle.g4_net.specs.declared.network.Network.{Network}
use Rattle.g4_net.specs.Network.{start_of}
use Rattle.g4_layout.specs.Layout as lay
use Rattle.g4_layout.specs.Layout.{LieInOrder, LieSideBySide, LiesAsRule, RulesLie}
use Rattle.g4_layout.specs.Numbers.{BeginsWithBlock, CanStartWith, NumberingsFit}
use Rattle.g4_layout.proofs.Rules.{rule_up, rules_up}
use Rattle.g4_layout.proofs.Sizes.{as_many, rule_size}
use Rattle.g4_layout.proofs.Spans.{in_order_spans, one_first}
use Rattle.g4_states.specs.Drafts.{IsRising}
use Rattle.g4_states.specs.Numberings.{CanAllBeNumbered, StartsAreLaid}
use Rattle.g4_states.specs.Rules.{ends_from}

-- numbers that rise from one on rise from each before it on, and up to each after the last
rising_wider : (n k : ℕ) (ps : List ℕ) (m j : ℕ) → IsRising k ps m → n ≤ k → m ≤ j → IsRising n ps j
rising_wider n k [] m j h low high = omega arith
rising_wider n k (p ∷ ps) m j h low high = (omega (arith, h.0), rising_wider (p + 1) (p + 1) ps m j h.1 (omega arith) high)

module _ {L : Type 0} where
  -- the first states of bodies side by side rise
  firsts_rise : {net : Network L} {xs : Alternatives (Step L)} {firsts lasts : List ℕ} {n m : ℕ}
      → LieSideBySide net xs firsts lasts n m → IsRising n firsts m
  firsts_rise (lay.no_other n) = omega arith
  firsts_rise (lay.another x xs last n k m firsts lasts l ls) =
      let spans = in_order_spans l in let up = spans.up in
      (omega arith, rising_wider (n + 1) k firsts m m (firsts_rise ls) up (omega arith))

  -- elements that begin with a block of several begin with a decision of them
  block_starts : (net : Network L) (rule : ℕ) {x : Elements (Step L)} {last n m : ℕ} (i j : ℕ) (more : List ℕ)
      → LieInOrder net x (start_of rule) last n m → BeginsWithBlock x (length (i ∷ j ∷ more))
      → StartsAreLaid net.states rule (i ∷ j ∷ more) n m
  block_starts net rule i j more (lay.no_more s n) begins = absurd begins
  block_starts net rule i j more (lay.one_more (atom a) xs s mid t n k m l ls) begins = absurd begins
  block_starts net rule i j more (lay.one_more (block name (Optional sign) ys) xs s mid t n k m l ls) begins = absurd begins
  block_starts net rule i j more (lay.one_more (block name (Star sign) ys) xs s mid t n k m l ls) begins = absurd begins
  block_starts net rule i j more (lay.one_more (block name (Plus sign) ys) xs s mid t n k m l ls) begins = absurd begins
  block_starts net rule i j more (lay.one_more (block name Once ys) xs s mid t n k m (lay.one_alternative _ x _ _ _ _ inner) ls)
      begins = absurd (omega (arith, begins))
  block_starts net rule i j more (lay.one_more (block name Once ys) xs s mid t n k m
      (lay.a_block _ _ firsts lasts _ _ u two is sides leads) ls) begins =
      let spans = in_order_spans ls in let up = spans.up in
      (firsts, is, sym (as_many sides) ∙ begins, rising_wider n n firsts u m (firsts_rise sides) (omega arith) (omega arith))

  -- a rule that is laid out can start with alternatives of these numbers
  starts_laid : (net : Network L) {rule n m : ℕ} {xs : Alternatives (Step L)} (starts : List ℕ) → LiesAsRule net rule xs n m
      → CanStartWith xs starts → StartsAreLaid net.states rule starts n m
  starts_laid net [] l can = absurd can
  starts_laid net (i ∷ []) l can = tt
  starts_laid net (i ∷ j ∷ more) (lay.of_one rule last n m x l leads) (inl many) = absurd (omega (arith, many))
  starts_laid net (i ∷ j ∷ more) (lay.of_one rule last n m x l leads) (inr begins) = block_starts net rule i j more l begins
  starts_laid net (i ∷ j ∷ more) (lay.of_several rule n m xs firsts lasts two is l leads) (inl many) =
      (firsts, is, sym (as_many l) ∙ many, firsts_rise l)
  starts_laid net (i ∷ j ∷ more) (lay.of_several rule n m none firsts lasts two is l leads) (inr begins) = absurd begins
  starts_laid net (i ∷ j ∷ more) (lay.of_several rule n m (or x none) firsts lasts two is l leads) (inr begins) =
      absurd (let one = one_first l in omega arith)
  starts_laid net (i ∷ j ∷ more) (lay.of_several rule n m (or x (or y ys)) firsts lasts two is l leads) (inr begins) = absurd begins

  -- the numbers of rules that are laid out can be written
  pub can_all : (net : Network L) (rule n m : ℕ) (rules : List (Alternatives (Step L))) (numberings : List Numbering)
      → RulesLie net rule rules n m → NumberingsFit rules numberings → m ≡ length net.states →
      CanAllBeNumbered net.states rule n (ends_from n rules) numberings
  can_all net rule n m _ [] (lay.no_rule _ _) fit last = last
  can_all net rule n m _ (numbering ∷ others) (lay.no_rule _ _) fit last = absurd fit
  can_all net rule n m _ [] (lay.a_rule _ _ k _ xs more l end rest) fit last = absurd fit
  can_all net rule n m _ (numbering ∷ others) (lay.a_rule _ _ k _ xs more l end rest) fit last =
      let size = rule_size l in let up = rule_up l in let rest_up = rules_up rest in
      subst (λ (q : ℕ). CanAllBeNumbered net.states rule n (q ∷ ends_from q more) (numbering ∷ others)) size (
        record { up = up; within = omega arith; few = fit.0.1; starts = starts_laid net numbering.starts l fit.0.0 },
        can_all net (rule + 1) k m more others rest fit.1 last,
      )
