-- The numbers of all rules are written, once those of the added rule are, and then those of the others.
use Rattle.std.proofs.Common.{◌≡◌, ℕ, ◌+◌, ◌*◌, ◌<◌, ◌≤◌, ◌⊎◌, inl, inr, List, ◌∷◌, length, ◌∙◌, ap, subst, arith, slice_index}
use Rattle.g4_grammar.specs.declared.step.Numbering.{Numbering}
use Rattle.g4_layout.specs.Numbers.{IsNumbered}
use Rattle.g4_net.specs.declared.network.Network.{Network}
use Rattle.g4_net.specs.declared.network.State.{State}
use Rattle.g4_net.specs.Network.{start_of}
use Rattle.g4_states.specs.Numberings.{HaveNumbers, RuleIsNumbered, RulesAreNumbered, SharesNumbers}
use Rattle.g4_states.specs.Rules.{IsBefore}
use Rattle.g4_build.specs.Numberings.{AllAreWritten}

pub first_and_others : {L : Type 0} (states : List (State L)) (none first all : List ℕ) (n m : ℕ) (ends : List ℕ)
    (numbering : Numbering) (others : List Numbering) → length none ≡ n → n ≡ 2 * length others + 2 → n ≤ m →
    RuleIsNumbered states none first 0 numbering m → RulesAreNumbered states first all 1 ends others
    → AllAreWritten states all n (m ∷ ends) (numbering ∷ others)
first_and_others {L} states none first all n m ends numbering others size heads up one rest = record {
  size = rest.size;
  numbered = λ net same written. (
    subst (λ (k : ℕ). IsNumbered net 0 numbering k m) size (one.numbered net same (shares net written)),
    subst (λ (k : ℕ). HaveNumbers net 1 k ends others) one.size (rest.numbered net same written),
  );
}
  where
    place_of : (p : ℕ) → IsBefore 1 (length none) p → (p < start_of 1) ⊎ (start_of (1 + length others) ≤ p)
    place_of p (inl h) = inl h
    place_of p (inr h) = inr (omega arith)

    shares : (net : Network L) → net.written ≡ all → SharesNumbers net first 1 (length none)
    shares net written p place less = ap (λ (w : List ℕ). slice_index w p) written ∙ rest.kept p less (place_of p place)
