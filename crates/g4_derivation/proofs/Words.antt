-- The walks from where an alternative begins to the end of its rule read exactly the words that the alternative derives.
use Rattle.std.proofs.Common.{◌≡◌, ℕ, List, [], ◌++◌, Some, sym, ◌∙◌, ap, subst, append-nil, slice_get}
use Rattle.g4_source.specs.Elements.{Elements, Alternatives}
use Rattle.g4_grammar.specs.declared.step.Step.{Step}
use Rattle.g4_grammar.specs.Derives.{NoCalls, DerivesAll}
use Rattle.g4_net.specs.declared.network.Network.{Network}
use Rattle.g4_net.specs.declared.network.State.TheVariants.{End}
use Rattle.g4_net.specs.Network.{state_at, end_of}
use Rattle.g4_layout.specs.Layout.{IsNetworkOf}
use Rattle.g4_derivation.specs.Alternatives.{IsAlternative, BeginsAt}
use Rattle.g4_derivation.specs.Walks.{ReadsLetter, Walk, WalksTo}
use Rattle.g4_derivation.proofs.Along.{in_order_along}
use Rattle.g4_derivation.proofs.Beginnings.{LiesTo, same_alternative, begins, ends_at}
use Rattle.g4_derivation.proofs.Joining.{then_pass}
use Rattle.g4_derivation.proofs.Steps.{stopped}
use Rattle.g4_derivation.proofs.Through.{in_order_through, finish}

module _ {L C : Type 0} (Takes : L → C → Type 0) (Names : ℕ → C → Type 0) (Passes : ℕ → Type 0) (rules : List (Alternatives (Step L)))
    (net : Network L) (network : IsNetworkOf rules net) (k : ℕ) (xs : Alternatives (Step L))
    (is : slice_get rules k ≡ Some xs) (i a : ℕ) (x : Elements (Step L)) (alternative : IsAlternative xs i x)
    (start : BeginsAt net k xs i a) where
  -- the words of the alternative
  abbrev Derived : List C → Type 0
  Derived = DerivesAll (ReadsLetter Takes Names Passes) NoCalls [] x

  -- how it is laid out
  lies : LiesTo net x a (end_of k)
  lies = let b = begins rules net network k xs is i a start in
      subst (λ (y : Elements (Step L)). LiesTo net y a (end_of k)) (same_alternative xs b.is alternative) b.lies

  -- a walk to the end of some rule ends at this one's end, and reads what the alternative derives
  pub walk_ends : (e rule n : ℕ) (w : List C) → state_at net e ≡ Some (End rule) → Walk Takes Names Passes net n a e w
      → (e ≡ end_of k) × (rule ≡ k) × Derived w
  walk_ends e rule n w end walk =
      let p = finish Takes Names Passes net e rule end {P = Derived} lies.leads
      (in_order_through Takes Names Passes net e rule end lies.lies n w walk) in
      let at_end = ends_at rules net network k xs is in
      let last = stopped Takes Names Passes net k at_end p.walk in
      let moved = subst (λ (q : ℕ). state_at net q ≡ Some (End k)) last.0 at_end in
      let same : rule ≡ k = cc in
      (sym last.0, same, subst Derived (sym (p.parts ∙ ap (λ (u : List C). p.front ++ u) last.1 ∙ append-nil p.front)) p.derived)

  -- what a walk to the rule's end reads, the alternative derives
  pub walk_derives : (n : ℕ) (w : List C) → Walk Takes Names Passes net n a (end_of k) w → Derived w
  walk_derives n w walk = (walk_ends (end_of k) k n w (ends_at rules net network k xs is) walk).2

  -- what it derives, a walk to the end reads
  pub derived_walks : (w : List C) → Derived w → WalksTo Takes Names Passes net a (end_of k) w
  derived_walks w d = then_pass Takes Names Passes net (in_order_along Takes Names Passes net d lies.lies) lies.leads
