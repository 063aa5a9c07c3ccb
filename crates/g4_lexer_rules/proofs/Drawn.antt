-- The network of rules that are laid and numbered.
use Rattle.std.proofs.Common.{◌≡◌, ℕ, ◌+◌, ◌*◌, List, [], ◌∷◌, length, refl, sym, ◌∙◌, ap, subst, arith, slice_get}
use Rattle.g4_source.specs.Elements.{Alternatives}
use Rattle.g4_grammar.specs.declared.step.Numbering.{Numbering}
use Rattle.g4_grammar.specs.declared.step.Step.{Step}
use Rattle.g4_net.specs.declared.network.Network.{Network}
use Rattle.g4_net.specs.declared.network.State.{State}
use Rattle.g4_net.specs.Network.{state_at, end_of}
use Rattle.g4_layout.specs.Callers.{callers_of}
use Rattle.g4_layout.specs.Layout as lay
use Rattle.g4_layout.specs.Layout.{RulesLie}
use Rattle.g4_layout.specs.Numbered.{IsNumberedNetworkOf}
use Rattle.g4_layout.specs.Numbers.{NumberingsFit}
use Rattle.g4_states.specs.Numberings.{CanAllBeNumbered, HaveNumbers, RulesAreNumbered}
use Rattle.g4_states.specs.Rules.{HasHeads, HaveLaid, ends_from}
use Rattle.g4_states.proofs.Numbered.{same_ends}
use Rattle.g4_states.proofs.Starts.{can_all}

-- there is a numbering for each rule
pub fit_length : {L : Type 0} (trees : List (Alternatives (Step L))) (numberings : List Numbering) → NumberingsFit trees numberings
    → length numberings ≡ length trees
fit_length [] [] fit = refl
fit_length [] (numbering ∷ others) fit = absurd fit
fit_length (xs ∷ more) [] fit = absurd fit
fit_length (xs ∷ more) (numbering ∷ others) fit = omega (arith, fit_length more others fit.1)

module _ {L : Type 0} (trees : List (Alternatives (Step L))) (numberings : List Numbering) (count : ℕ) (same : count ≡ length trees)
    (s0 s1 : List (State L)) (heads : HasHeads count s0) (laid : HaveLaid 0 s0 s1 (0 + count) trees []) where
  -- the rules are laid out in each network of these states
  lie : (net : Network L) → net.states ≡ s1 → RulesLie net 0 trees (2 * length trees) (length s1)
  lie net states =
      let from : length s0 ≡ 2 * length trees = omega (arith, heads.size, same) in
      subst (λ (n : ℕ). RulesLie net 0 trees n (length s1)) from
      (laid.lie net (λ p place less. there p) (λ j low high. there (end_of j)
      ∙ (laid.kept (end_of j) (omega (arith, heads.size, same)) (λ i first below e. omega arith) ∙ heads.ends j (omega (arith, same))))
      (length s1) (lay.no_rule (0 + count) (length s1)))
    where
      there : (p : ℕ) → state_at net p ≡ slice_get s1 p
      there p = ap (λ (xs : List (State L)). slice_get xs p) states

  module _ (ends : List ℕ) (places : ends ≡ ends_from (length s0) trees) where
    -- where they end
    ends_are : ends ≡ ends_from (2 * length trees) trees
    ends_are = let from : length s0 ≡ 2 * length trees = omega (arith, heads.size, same) in places ∙ ap (λ (n : ℕ). ends_from n trees) from

    -- their numbers can be written
    pub can_number : (n : ℕ) → n ≡ 2 * count → NumberingsFit trees numberings → CanAllBeNumbered s1 0 n ends numberings
    can_number n is fit =
        let from : 2 * length trees ≡ n = omega (arith, is, same) in
        let net : Network L = record { states = s1; callers = []; written = [] } in
        subst (λ (k : ℕ). CanAllBeNumbered s1 0 k ends numberings) from
        (subst (λ (ms : List ℕ). CanAllBeNumbered s1 0 (2 * length trees) ms numberings) (sym ends_are)
        (can_all net 0 (2 * length trees) (length s1) trees numberings (lie net refl) fit refl))

    -- once they are, the network is whole
    pub whole : (none written : List ℕ) (callers : List (List ℕ)) → length none ≡ 2 * count
        → RulesAreNumbered s1 none written 0 ends numberings → callers ≡ callers_of s1 count →
        IsNumberedNetworkOf trees numberings (record { states = s1; callers = callers; written = written })
    whole none written callers size numbered listed =
        let net : Network L = record { states = s1; callers = callers; written = written } in
        let from : length none ≡ 2 * length trees = omega (arith, size, same) in
        record {
          network = record { lie = lie net refl; written = numbered.size };
          callers = listed ∙ ap (callers_of s1) same;
          numbered = same_ends net 0 (2 * length trees) ends trees numberings ends_are
              (subst (λ (k : ℕ). HaveNumbers net 0 k ends numberings) from (numbered.numbered net refl refl));
        }
