-- Where each alternative of a rule that is laid out begins, and how the rule's start leads there.
use Rattle.std.proofs.Common.{◌≡◌, ℕ, zero, suc, ◌+◌, ◌⊎◌, inl, inr, List, [], Some, refl, arith, Contains, slice_get}
use Rattle.std.proofs.lemmas.Option.{get_or_from_slice_get, slice_get_within}
use Rattle.g4_source.specs.Elements.{Elements, Alternatives, none, or}
use Rattle.g4_grammar.specs.declared.step.Step.{Step}
use Rattle.g4_grammar.specs.Derives.{NoCalls, DerivesAll, DerivesOne, this, another}
use Rattle.g4_layout.specs.Layout.{LiesAsRule, of_one, of_several, LieSideBySide, no_other}
use Rattle.g4_layout.specs.Layout as lay
use Rattle.g4_layout.proofs.Spans.{one_first}
use Rattle.g4_net.specs.declared.network.Network.{Network}
use Rattle.g4_net.specs.declared.network.State.TheVariants.{Decision}
use Rattle.g4_net.specs.Network.{state_at, start_of}
use Rattle.g4_derivation.specs.Alternatives.{each_of, IsAlternative, BeginsAt}

-- what is at a place is a member
pub at_is_member : {X : Type 0} (xs : List X) (j : ℕ) (x : X) → slice_get xs j ≡ Some x → Contains xs x
at_is_member xs j x is = (j, slice_get_within xs j x is, get_or_from_slice_get xs j x x is)

-- an alternative that derives is at a place
pub place_of : {L C : Type 0} {Letters : L → List C → Type 0} {ys : Alternatives L} {us : List C} → DerivesOne Letters NoCalls [] ys us →
    (j : ℕ) × (y : Elements L) × (slice_get (each_of ys) j ≡ Some y) × DerivesAll Letters NoCalls [] y us
place_of (this y ys us d) = (0, y, refl, d)
place_of (another y ys us d) = let h = place_of d in (suc h.0, h.1, h.2, h.3)

module _ {L : Type 0} where
  -- each alternative of those side by side has a first state
  first_of : {net : Network L} {ys : Alternatives (Step L)} {firsts lasts : List ℕ} {n m : ℕ} → LieSideBySide net ys firsts lasts n m →
      (j : ℕ) (y : Elements (Step L)) → slice_get (each_of ys) j ≡ Some y → (a : ℕ) × (slice_get firsts j ≡ Some a)
  first_of (no_other n) j y is = absurd (let k : ⊥ = cc in k)
  first_of (lay.another x xs last n k m firsts lasts l ls) zero y is = (n, refl)
  first_of (lay.another x xs last n k m firsts lasts l ls) (suc j) y is = first_of ls j y is

  -- each alternative of a rule that is laid out begins somewhere
  pub begins_at : {net : Network L} {k n m : ℕ} {ys : Alternatives (Step L)} → LiesAsRule net k ys n m →
      (j : ℕ) (y : Elements (Step L)) → slice_get (each_of ys) j ≡ Some y → (a : ℕ) × BeginsAt net k ys (j + 1) a
  begins_at (of_one k last n m x l leads) zero y at = (start_of k, (refl, refl))
  begins_at (of_one k last n m x l leads) (suc j) y at = absurd (let e : ⊥ = cc in e)
  begins_at (of_several k n m none firsts lasts two is l leads) j y at = absurd (let e : ⊥ = cc in e)
  begins_at (of_several k n m (or x none) firsts lasts two is l leads) j y at = let one = one_first l in absurd (omega (arith, one, two))
  begins_at (of_several k n m (or x (or z more)) firsts lasts two is l leads) j y at = let h = first_of l j y at in
      (h.0, (firsts, j, is, h.1, refl))

  -- the rule's start is that state, or a decision that leads to it
  abbrev pub StartLeadsTo : Network L → ℕ → ℕ → Type 0
  StartLeadsTo net k a = (a ≡ start_of k) ⊎ ((targets : List ℕ) × (state_at net (start_of k) ≡ Some (Decision targets)) ×
      Contains targets a)

  -- it is so where an alternative begins
  leads_there : (net : Network L) (k : ℕ) (ys : Alternatives (Step L)) (i a : ℕ) → BeginsAt net k ys i a → StartLeadsTo net k a
  leads_there net k none i a b = absurd b
  leads_there net k (or x none) i a b = inl b.1
  leads_there net k (or x (or y more)) i a (targets, j, is, at, number) = inr (targets, is, at_is_member targets j a at)

  -- where an alternative of a rule that is laid out begins, and how its start leads there
  pub record Leads (net : Network L) (k : ℕ) (ys : Alternatives (Step L)) (y : Elements (Step L)) : Type 0 where
    pub number : ℕ
    pub state : ℕ
    pub alternative : IsAlternative ys number y
    pub begins : BeginsAt net k ys number state
    pub to : StartLeadsTo net k state

  -- an alternative that derives leads from where it begins
  pub rule_leads : {net : Network L} {k n m : ℕ} {ys : Alternatives (Step L)} {C : Type 0} {Letters : Step L → List C → Type 0}
      {us : List C} →
      LiesAsRule net k ys n m → DerivesOne Letters NoCalls [] ys us → (y : Elements (Step L)) × DerivesAll Letters NoCalls [] y us ×
      Leads net k ys y
  rule_leads {net} {k} {ys = ys} lies d =
      let h = place_of d in
      let b = begins_at lies h.0 h.1 h.2 in (
        h.1,
        h.3,
        record {
          number = h.0 + 1;
          state = b.0;
          alternative = (h.0, h.2, refl);
          begins = b.1;
          to = leads_there net k ys
              (h.0 + 1) b.0 b.1;
        },
      )
