-- In the network of rules each rule has no end but its own.
use Rattle.std.proofs.Common.{◌≡◌, ℕ, ◌*◌, ◌<◌, ◌≤◌, ◌⊎◌, inl, inr, List, length, Some, refl, sym, subst, arith, slice_get}
use Rattle.g4_source.specs.Full.{EachIsFull}
use Rattle.g4_source.specs.Elements.{Alternatives}
use Rattle.g4_grammar.specs.Steps.{CallsRule}
use Rattle.g4_grammar.specs.declared.step.Step.{Step}
use Rattle.g4_layout.specs.Layout.{IsNetworkOf}
use Rattle.g4_layout.proofs.Rules.{LaidRule, rule_laid}
use Rattle.g4_layout.proofs.RulesSound.{heads_sound, others_sound}
use Rattle.g4_layout.proofs.Sound.{IsSoundState, SoundAt, target_allowed}
use Rattle.g4_layout.proofs.Trees.{EachIsSound, CallsKnown, each_sound}
use Rattle.g4_net.specs.Network.{ParserNetwork, state_at, start_of, end_of}
use Rattle.g4_net.specs.Proper.{IsOf, start, further, EndsAreOwn}
use Rattle.g4_net.specs.declared.network.State.TheVariants.{End}

module _ (rules : List (Alternatives (Step (List ℕ)))) (net : ParserNetwork) (network : IsNetworkOf rules net)
    (full : (k : ℕ) (xs : Alternatives (Step (List ℕ))) → slice_get rules k ≡ Some xs → EachIsFull xs) where
  -- any step
  abbrev IsAny : Step (List ℕ) → Type 0
  IsAny = CallsKnown (λ a. Unit {0}) CallsRule (λ j. Unit {0})

  module _ (k : ℕ) (r : LaidRule rules net network k) where
    -- a state of rule k as it is laid out
    abbrev IsPart : ℕ → Type 0
    IsPart q = (q ≡ start_of k) ⊎ (q ≡ end_of k) ⊎ ((r.from ≤ q) × (q < r.upto))

    -- the number of the rule
    abbrev IsIt : ℕ → Type 0
    IsIt rule = rule ≡ k

    -- its elements
    tree : EachIsSound IsAny r.alternatives
    tree = each_sound (λ a. Unit {0}) CallsRule (λ j. Unit {0}) r.alternatives (full k r.alternatives r.is) (λ n d less. tt) (λ j c. tt)

    -- its start and end
    heads : SoundAt net IsAny IsIt IsPart (start_of k) × SoundAt net IsAny IsIt IsPart (end_of k)
    heads = heads_sound net IsAny IsIt IsPart rules (2 * length rules) k r tree (inr (inl refl))
        (λ q from below. inr (inr (from, below))) refl

    -- each state of the rule leads to such states, and has the rule's number if it is an end
    part_sound : (q : ℕ) → IsPart q → SoundAt net IsAny IsIt IsPart q
    part_sound q (inl is) = subst (SoundAt net IsAny IsIt IsPart) (sym is) heads.0
    part_sound q (inr (inl is)) = subst (SoundAt net IsAny IsIt IsPart) (sym is) heads.1
    part_sound q (inr (inr (from, below))) = others_sound net IsAny IsIt IsPart rules (2 * length rules) k r tree (inr (inl refl))
        (λ p p_from p_below. inr (inr (p_from, p_below))) (inl refl) q from below

    -- so all states of the rule are among them
    of_rule : (p : ℕ) → IsOf net k p → IsPart p
    of_rule _ start = inl refl
    of_rule t (further p _ s of is to) = target_allowed IsAny IsIt IsPart s t
        (subst (IsSoundState IsAny IsIt IsPart) is (part_sound p (of_rule p of))) to

    -- and an end that is one of them is the rule's
    own_end : (p ended : ℕ) → IsOf net k p → state_at net p ≡ Some (End ended) → ended ≡ k
    own_end p ended of is = subst (IsSoundState IsAny IsIt IsPart) is (part_sound p (of_rule p of))

  -- this holds of each rule
  pub ends_are_own : length net.callers ≡ length rules → EndsAreOwn net
  ends_are_own size k p ended known of is = own_end k (rule_laid rules net network k (omega (arith, size, known))) p ended of is
