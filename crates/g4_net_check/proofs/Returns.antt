-- The return states of the calls of each rule.
use Rattle.std.proofs.Common.{◌≡◌, ◌↔◌, ℕ, ◌+◌, ◌<◌, ◌≤◌, inl, inr, List, [], ◌∷◌, ◌++◌, length, set, Bool, IsTrue, Some, Vec, sym, ◌∙◌, ap, subst, arith, length-set}
use Rattle.std.specs.Global.{Global}
use Rattle.std.specs.List.{slice_get, Contains}
use Rattle.std.proofs.lemmas.Bool.{cases_lt}
use Rattle.std.proofs.lemmas.Option.{same_Some, slice_get_within}
use Rattle.g4_cycles.specs.Edges.{Graph, successors_of, EdgeOf}
use Rattle.g4_net.specs.declared.network.Network.{Network}
use Rattle.g4_net.specs.declared.network.State.{State}
use Rattle.g4_net.specs.declared.network.State.TheVariants.{Call}
use Rattle.g4_net.specs.Network.{IsReturn}
use Rattle.g4_net_check.specs.Callers.{HasReturn}
use Rattle.g4_net_check.proofs.Lists.{added_to}

-- one of the first states calls the rule and returns to t
abbrev pub ReturnsBefore : {L : Type 0} → List (State L) → ℕ → ℕ → ℕ → Type 0
ReturnsBefore states i rule t = (p level : ℕ) × (p < i) × (slice_get states p ≡ Some (Call rule level t))

-- the lists are the return states of the first states, by the rule called
pub record AreReturns {L : Type 0} (states : List (State L)) (rules i : ℕ) (lists : Graph) : Type 0 where
  pub size : length lists ≡ rules
  pub returns : (rule t : ℕ) → EdgeOf lists rule t ↔ ReturnsBefore states i rule t

module _ {L : Type 0} (states : List (State L)) (rules : ℕ) where
  -- a state that calls nothing
  pub returns_other : (i : ℕ) (s : State L) (lists : Graph) → slice_get states i ≡ Some s
      → ((rule level back : ℕ) → s ≡ Call rule level back → ⊥) → AreReturns states rules i lists → AreReturns states rules (i + 1) lists
  returns_other i s lists here other are = record {
    size = are.size;
    returns = λ rule t. (
      λ e. let (p, level, less, at) = (are.returns rule t).0 e in (p, level, omega (arith, less), at),
      λ (p, level, less, at). (are.returns rule t).1 (elim (cases_lt p i) [
        | inl before ↦ (p, level, before, at)
        | inr from ↦ (
            let same : p ≡ i = omega (arith, less, from) in
            absurd (other rule level t (same_Some s (Call rule level t) (sym here ∙ (sym (ap (slice_get states) same) ∙ at))))
            )
      ]),
    );
  }

  -- a call
  pub returns_call : (i rule level back : ℕ) (lists : Graph) (v : Vec ℕ Global) → slice_get states i ≡ Some (Call rule level back)
      → rule < length lists → v.items ≡ successors_of lists rule ++ back ∷ [] → AreReturns states rules i lists
      → AreReturns states rules (i + 1) (set lists rule v)
  returns_call i rule level back lists v here less pushed are = record {
    size = length-set lists rule v ∙ are.size;
    returns = λ k t. (to k t, from k t);
  }
    where
      to : (k t : ℕ) → EdgeOf (set lists rule v) k t → ReturnsBefore states (i + 1) k t
      to k t e = elim ((added_to lists rule back v less pushed k t).0 e) [
        | inl old ↦ (let (p, l, before, at) = (are.returns k t).0 old in (p, l, omega (arith, before), at))
        | inr new ↦ (
          i,
          level,
          omega arith,
          here ∙ (ap (λ (r : ℕ). Some (Call r level back)) (sym new.0)
              ∙ ap (λ (b : ℕ). Some (Call k level b)) new.1),
        )
      ]

      from : (k t : ℕ) → ReturnsBefore states (i + 1) k t → EdgeOf (set lists rule v) k t
      from k t (p, l, before, at) = (added_to lists rule back v less pushed k t).1 (elim (cases_lt p i) [
        | inl early ↦ inl ((are.returns k t).1 (p, l, early, at))
        | inr late ↦ (
            let same : p ≡ i = omega (arith, before, late) in
            let call : Call rule level back ≡ Call k l t =
            same_Some (Call rule level back) (Call k l t) (sym here ∙ (sym (ap (slice_get states) same) ∙ at)) in
            inr (cc, cc)
            )
      ])

  -- all states
  pub returns_end : (i : ℕ) (lists : Graph) → length states ≤ i → AreReturns states rules i lists → (rule t : ℕ)
      → EdgeOf lists rule t ↔ HasReturn states rule t
  returns_end i lists past are rule t = (
    λ e. let (p, level, less, at) = (are.returns rule t).0 e in (p, level, at),
    λ (p, level, at). (are.returns rule t).1 (p, level, omega (arith, slice_get_within states p (Call rule level t) at, past), at),
  )

-- what a comparison of callers with return states answers
pub compared : {L : Type 0} (net : Network L) (lists : Graph) → ((rule t : ℕ) → EdgeOf lists rule t ↔ HasReturn net.states rule t)
    → (rule : ℕ) (listed found : List ℕ) (same : Bool) → found ≡ successors_of lists rule
    → (IsTrue same ↔ ((t : ℕ) → Contains listed t ↔ Contains found t)) → IsTrue same ↔ ((t : ℕ) → Contains listed t ↔ IsReturn net rule t)
compared net lists returns rule listed found same is answer = (
  λ t. λ x. (λ has. (to x).0 ((answer.0 t x).0 has), λ back. (answer.0 t x).1 ((to x).1 back)),
  λ all. answer.1 (λ x. (λ has. (to x).1 ((all x).0 has), λ has. (all x).1 ((to x).0 has))),
)
  where
    to : (x : ℕ) → Contains found x ↔ IsReturn net rule x
    to x = (
      λ has. (returns rule x).0 (subst (λ (l : List ℕ). Contains l x) is has),
      λ back. subst (λ (l : List ℕ). Contains l x) (sym is) ((returns rule x).1 back),
    )
