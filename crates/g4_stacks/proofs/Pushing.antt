-- The states on top of a node, and a state pushed on it.
use Rattle.std.proofs.Common.{◌≡◌, ℕ, suc, ◌<◌, ◌↔◌, inl, inr, List, [], ◌∷◌, Bool, true, false, Some, length, slice_get, sym, ◌∙◌, ap, subst, arith}
use Rattle.std.proofs.lemmas.Option.{slice_get_within}
use Rattle.g4_net.specs.Configurations.{Stack}
use Rattle.g4_stacks.specs.Stack.{pushed}
use Rattle.g4_stacks.specs.Graph.{Content, Has, In, IsPushed, HasTops, Keeps}
use Rattle.g4_stacks.specs.Table.{one_of}
use Rattle.g4_stacks.specs.Canonical.{IsPlain, IsCanonical}
use Rattle.g4_stacks.proofs.Ordered.{leads_once, lead_below}
use Rattle.g4_stacks.proofs.Canonicity.{has_end, has_wild, has_pushed, witness}
use Rattle.g4_stacks.proofs.Marks.{none_in}

pub has_tops : (g : List Content) → IsCanonical g → (n : ℕ) (c : Content) → slice_get g n ≡ Some c → HasTops g n c.tops
has_tops g canon n c is = record {
  sorted = plain.sorted;
  known = λ t m i. let b = (low t m i).1 in omega (arith, within);
  rests = λ t m i s. (
    (λ h. (has_pushed g n c t s is).1 (m, i, h)),
    (λ h. let r = (has_pushed g n c t s is).0 h in subst (λ (k : ℕ). Has g k s) (leads_once 0 t r.0 m c.tops plain.sorted r.1 i) r.2),
  );
  some = λ t m i. let b = low t m i in witness g canon (suc m) m (omega arith) b.0 (let q = b.1 in omega (arith, within));
  all = λ t s h. let r = (has_pushed g n c t s is).0 h in (r.0, r.1);
}
  where
    plain : IsPlain n c
    plain = canon.plain n c is

    within : n < length g
    within = slice_get_within g n c is

    low : (t m : ℕ) → In (t, m) c.tops → (0 < m) × (m < n)
    low t m i = lead_below n t m c.tops plain.lower i

pub plain_one : (k t n : ℕ) → 0 < n → n < k → IsPlain k (one_of t n)
plain_one k t n pos lt = record { sorted = (omega arith, tt); lower = (pos, lt, tt) }

has_one : (g : List Content) (r t n : ℕ) → slice_get g r ≡ Some (one_of t n) → (s : Stack) → Has g r s ↔ IsPushed g n t s
has_one g r t n is s = by s.returns s.wild
  where
    by : (returns : List ℕ) (wild : Bool) → let s : Stack = record { returns = returns; wild = wild } in Has g r s ↔ IsPushed g n t s
    by [] true = (
      (λ h. let e : false ≡ true = (has_wild g r (one_of t n) is).0 h in absurd (cc)),
      (λ p. let f : [] ≡ t ∷ p.0.returns = ap (λ (s : Stack). s.returns) p.2 in absurd (cc)),
    )
    by [] false = (
      (λ h. let e : false ≡ true = (has_end g r (one_of t n) is).0 h in absurd (cc)),
      (λ p. let f : [] ≡ t ∷ p.0.returns = ap (λ (s : Stack). s.returns) p.2 in absurd (cc)),
    )
    by (u ∷ rest) wild = let s : Stack = record { returns = rest; wild = wild } in (
      (λ h. let p = (has_pushed g r (one_of t n) u s is).0 h in elim p.1 [
        | inl e ↦ (s, subst (λ (m : ℕ). Has g m s) (ap (λ (x : ℕ × ℕ). x.1) e) p.2, ap (λ (x : ℕ). pushed x s) (ap (λ (x : ℕ × ℕ). x.0) e))
        | inr never ↦ absurd never
      ]),
      (λ p. let tops : u ∷ rest ≡ t ∷ p.0.returns = ap (λ (s : Stack). s.returns) p.2 in
          let first : u ≡ t = cc in
          let rests : p.0.returns ≡ rest = cc in
          let marks : p.0.wild ≡ wild = sym (ap (λ (s : Stack). s.wild) p.2) in
          let same : p.0 ≡ s = ap (λ (x : List ℕ). let y : Stack = record { returns = x; wild = p.0.wild } in y) rests
          ∙ ap (λ (x : Bool). let y : Stack = record { returns = rest; wild = x } in y) marks in
          (has_pushed g r (one_of t n) u s is).1 (
            n,
            inl (ap (λ (x : ℕ). let y : ℕ × ℕ = (x, n) in y) first),
            subst (λ (x : Stack). Has g n x) same p.1,
          )),
    )

-- the node that holds the state on another means the stacks with it pushed
pub pushes : (old new : List Content) (r t n : ℕ) → n < length old → Keeps old new → slice_get new r ≡ Some (one_of t n) → (s : Stack)
    → Has new r s ↔ IsPushed old n t s
pushes old new r t n lt keeps is s =
    let h = has_one new r t n is s in (
      (λ x. let p = h.0 x in (p.0, ((keeps n lt).1 p.0).1 p.1, p.2)),
      (λ p. h.1 (p.0, ((keeps n lt).1 p.0).0 p.1, p.2)),
    )

pub pushes_none : (g : List Content) → IsCanonical g → (t n : ℕ) → n ≡ 0 → (s : Stack) → Has g 0 s ↔ IsPushed g n t s
pushes_none g canon t n is s = (
  (λ h. absurd (none_in g canon s h)),
  (λ p. absurd (none_in g canon p.0 (subst (λ (k : ℕ). Has g k p.0) is p.1))),
)
