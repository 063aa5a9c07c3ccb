-- The three sets that each graph has.
use Rattle.std.proofs.Common.{◌≡◌, ℕ, ◌↔◌, List, [], ◌∷◌, Bool, true, false, refl, ap}
use Rattle.g4_net.specs.Configurations.{Stack, wildcard}
use Rattle.g4_stacks.specs.Stack.{bottom}
use Rattle.g4_stacks.specs.Graph.{Content, Has}
use Rattle.g4_stacks.specs.Canonical.{nothing, only_bottom, only_wildcard, IsCanonical}
use Rattle.g4_stacks.proofs.Canonicity.{has_end, has_wild, has_pushed}

pub none_in : (g : List Content) → IsCanonical g → (s : Stack) → Has g 0 s → ⊥
none_in g canon s h = by s.returns s.wild h
  where
    by : (returns : List ℕ) (wild : Bool) → Has g 0 (record { returns = returns; wild = wild }) → ⊥
    by [] true h = let e : false ≡ true = (has_wild g 0 nothing canon.first).0 h in absurd (cc)
    by [] false h = let e : false ≡ true = (has_end g 0 nothing canon.first).0 h in absurd (cc)
    by (t ∷ rest) wild h = ((has_pushed g 0 nothing t (record { returns = rest; wild = wild }) canon.first).0 h).1

pub bottom_in : (g : List Content) → IsCanonical g → (s : Stack) → Has g 1 s ↔ (s ≡ bottom)
bottom_in g canon s = by s.returns s.wild
  where
    by : (returns : List ℕ) (wild : Bool) → Has g 1 (record { returns = returns; wild = wild })
        ↔ (record { returns = returns; wild = wild } ≡ bottom)
    by [] true = (
      (λ h. let e : false ≡ true = (has_wild g 1 only_bottom canon.second).0 h in absurd (cc)),
      (λ e. let f : true ≡ false = ap (λ (s : Stack). s.wild) e in absurd (cc)),
    )
    by [] false = ((λ h. refl), (λ e. (has_end g 1 only_bottom canon.second).1 refl))
    by (t ∷ rest) wild = (
      (λ h. absurd ((has_pushed g 1 only_bottom t (record { returns = rest; wild = wild }) canon.second).0 h).1),
      (λ e. let f : t ∷ rest ≡ [] = ap (λ (s : Stack). s.returns) e in absurd (cc)),
    )

pub wildcard_in : (g : List Content) → IsCanonical g → (s : Stack) → Has g 2 s ↔ (s ≡ wildcard)
wildcard_in g canon s = by s.returns s.wild
  where
    by : (returns : List ℕ) (wild : Bool) → Has g 2 (record { returns = returns; wild = wild })
        ↔ (record { returns = returns; wild = wild } ≡ wildcard)
    by [] true = ((λ h. refl), (λ e. (has_wild g 2 only_wildcard canon.third).1 refl))
    by [] false = (
      (λ h. let e : false ≡ true = (has_end g 2 only_wildcard canon.third).0 h in absurd (cc)),
      (λ e. let f : false ≡ true = ap (λ (s : Stack). s.wild) e in absurd (cc)),
    )
    by (t ∷ rest) wild = (
      (λ h. absurd ((has_pushed g 2 only_wildcard t (record { returns = rest; wild = wild }) canon.third).0 h).1),
      (λ e. let f : t ∷ rest ≡ [] = ap (λ (s : Stack). s.returns) e in absurd (cc)),
    )
