-- A worker stands in one phase.
use Rattle.std.proofs.Common.{◌≡◌, ℕ, Bool, Option, None, Some, MatchOption, refl, sym, ◌∙◌, subst, inl, inr}
use Rattle.g4_store.specs.declared.path.Path.{Path}
use Rattle.g4_core.specs.declared.event.Change.{Change}
use Rattle.g4_core.specs.declared.event.Phase.{Phase}
use Rattle.g4_core.specs.declared.event.Phase.TheVariants.{Free, Reading, Learning, Ended}
use Rattle.g4_core.specs.declared.event.Place.{Place}
use Rattle.g4_core.specs.States.{State, IsAt}
use Rattle.g4_core.specs.Steps.{NothingLeft, StandsFrom, Stands, Reads, ProbeChanges}
use Rattle.g4_core.proofs.Lists.{one_there}
use Rattle.g4_core.proofs.Routes.{one_path}

module _ {N C : Type 0} (s : State N C) where
  one_from : (recorded p q : Phase) → StandsFrom s recorded p → StandsFrom s recorded q → p ≡ q
  one_from Free p q a b = a ∙ sym b
  one_from (Reading file question here) p q a b = a ∙ sym b
  one_from (Learning file question begun) p q (path, at, inl a) (other, at', inl b) = a.1 ∙ sym b.1
  one_from (Learning file question begun) p q (path, at, inl a) (other, at', inr b) =
      absurd (b.0 (subst (NothingLeft s) (one_path s.files file question path other at at') a.0))
  one_from (Learning file question begun) p q (path, at, inr a) (other, at', inl b) =
      absurd (a.0 (subst (NothingLeft s) (one_path s.files file question other path at' at) b.0))
  one_from (Learning file question begun) p q (path, at, inr a) (other, at', inr b) = a.1 ∙ sym b.1
  one_from (Ended file) p q a b = a ∙ sym b

  pub one_standing : (w : ℕ) (p q : Phase) → Stands s w p → Stands s w q → p ≡ q
  one_standing w p q (r, at, a) (k, at', b) =
      one_from r p q a (subst (λ (h : Phase). StandsFrom s h q) (one_there s.workers w k r at' at) b)

  -- a worker learns one path
  pub one_learned : (w file q : ℕ) (begun : Bool) (path : Path C) → Stands s w (Learning file q begun) → IsAt s.files file q path
      → (other k : ℕ) (more : Bool) (way : Path C) → Stands s w (Learning other k more) → IsAt s.files other k way → way ≡ path
  one_learned w file q begun path stands at other k more way stands' at' =
      let same : Learning other k more ≡ Learning file q begun =
      one_standing w (Learning other k more) (Learning file q begun) stands' stands in
      let files : other ≡ file = cc in
      let questions : k ≡ q = cc in
      let here : IsAt s.files file q way = subst (λ (t : ℕ × ℕ). IsAt s.files t.0 t.1 way) (λ i. (files i, questions i)) at' in
      one_path s.files file q way path here at

  pub probe_found : (w file q : ℕ) (here : Place) (path : Path C) → Stands s w (Reading file q here) → IsAt s.files file q path
      → (r : Option (Change C))
      → MatchOption r ((c : Change C) → Reads s w file q path here c → ⊥) (Reads s w file q path here)
      → MatchOption r ((c : Change C) → ProbeChanges s w c → ⊥) (ProbeChanges s w)
  probe_found w file q here path stands at None h = λ c p.
      let same : Reading p.0 p.1 p.2 ≡ Reading file q here =
      one_standing w (Reading p.0 p.1 p.2) (Reading file q here) p.4 stands in
      let files : p.0 ≡ file = cc in
      let questions : p.1 ≡ q = cc in
      let places : p.2 ≡ here = cc in
      let there : IsAt s.files file q p.3 = subst (λ (t : ℕ × ℕ). IsAt s.files t.0 t.1 p.3) (λ i. (files i, questions i)) p.5 in
      let paths : p.3 ≡ path = one_path s.files file q p.3 path there at in
      h c (subst (λ (t : ℕ × ℕ × Path C × Place). Reads s w t.0 t.1 t.2 t.3 c)
      (λ i. (files i, questions i, paths i, places i)) p.6)
  probe_found w file q here path stands at (Some c) h = (file, q, here, path, stands, at, h)
