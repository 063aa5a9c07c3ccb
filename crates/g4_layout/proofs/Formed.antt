-- A network of rules never comes back to a state, and is well formed.
use Rattle.std.proofs.Common.{◌≡◌, ℕ, ◌<◌, List, [], length, Some, refl, ◌∙◌, ap, subst, arith, slice_get}
use Rattle.g4_source.specs.Elements.{Alternatives}
use Rattle.g4_source.specs.Full.{EachIsFull}
use Rattle.g4_grammar.specs.declared.step.Step.{Step}
use Rattle.g4_grammar.specs.Steps.{CallsRule, ReadsStep}
use Rattle.g4_grammar.specs.Loops.{NoEmptyLoop}
use Rattle.g4_grammar.specs.LeftCalls.{CallsAreInRange, NoLeftCycle}
use Rattle.g4_net.specs.declared.network.Network.{Network}
use Rattle.g4_net.specs.declared.network.State.TheVariants.{Decision, End, Call}
use Rattle.g4_net.specs.Configurations.{config, above_bottom}
use Rattle.g4_net.specs.Leads.{LeadsOn, WellFormed}
use Rattle.g4_layout.specs.Callers.{callers_of}
use Rattle.g4_layout.specs.Layout.{IsNetworkOf}
use Rattle.g4_layout.proofs.Callers.{callers_are_returns, callers_length}
use Rattle.g4_layout.proofs.Lifted.{never_again}
use Rattle.g4_layout.proofs.RulesEnd.{every_state_ends}
use Rattle.g4_layout.proofs.RulesSound.{IsRule, IsState, heads_within, state_sound}
use Rattle.g4_layout.proofs.Sound.{target_allowed}
use Rattle.g4_layout.proofs.Trees.{EachIsSound, CallsKnown, each_sound}

module _ {L : Type 0} (Takes : L → ℕ → Type 0) (rules : List (Alternatives (Step L))) (net : Network L)
    (network : IsNetworkOf rules net) (in_range : CallsAreInRange CallsRule rules) where
  -- no state leads above its own stack to itself
  pub never_comes_back : NoEmptyLoop (ReadsStep Takes) CallsRule rules → NoLeftCycle (ReadsStep Takes) CallsRule rules →
      (p i : ℕ) (returns : List ℕ) → LeadsOn net (config p i (above_bottom [])) (config p i (above_bottom returns)) → ⊥
  never_comes_back no_loop no_cycle p i returns on =
      never_again net i p returns (every_state_ends Takes rules net network in_range no_loop no_cycle i p) on

  module _ (full : (k : ℕ) (xs : Alternatives (Step L)) → slice_get rules k ≡ Some xs → EachIsFull xs) where
    -- a step that calls no rule or one of the list
    abbrev IsKnown : Step L → Type 0
    IsKnown = CallsKnown (λ a. Unit {0}) CallsRule (λ j. j < length rules)

    -- the trees of the rules
    trees : (k : ℕ) (xs : Alternatives (Step L)) → slice_get rules k ≡ Some xs → EachIsSound IsKnown xs
    trees k xs is = each_sound (λ a. Unit {0}) CallsRule (λ j. j < length rules) xs (full k xs is) (λ n d less. tt)
        (λ j c. in_range k j xs is c)

    -- the network is well formed, where its callers are listed
    pub well_formed : NoEmptyLoop (ReadsStep Takes) CallsRule rules → NoLeftCycle (ReadsStep Takes) CallsRule rules
        → net.callers ≡ callers_of net.states (length rules) → WellFormed net
    well_formed no_loop no_cycle listed =
        let size = ap length listed ∙ callers_length net.states (length rules) in
        let heads = heads_within rules net network IsKnown trees in
        record {
          targets = λ p t s is h. target_allowed IsKnown (IsRule rules net network IsKnown trees)
              (IsState rules net network IsKnown trees) s t (state_sound rules net network IsKnown trees p s is) h;
          rules = omega arith;
          calls = λ p rule level back is. let known =
              (state_sound rules net network IsKnown trees p (Call rule level back) is).0.1 rule refl in omega arith;
          ends = λ p rule is. let known = state_sound rules net network IsKnown trees p (End rule) is in omega arith;
          written = network.written;
          decisions = λ p targets is. (state_sound rules net network IsKnown trees p (Decision targets) is).0;
          callers = λ rule t xs is. callers_are_returns net (length rules) rule t xs
              (subst (λ (all : List (List ℕ)). slice_get all rule ≡ Some xs) listed is);
          never_again = λ p i returns on. never_comes_back no_loop no_cycle p i returns on;
        }
