use Rattle.std.proofs.Common.{◌≡◌, ℕ, inl, inr, List, subst}
use Rattle.g4_stacks.specs.Graph.{Content, Has}
use Rattle.g4_stacks.specs.Canonical.{IsCanonical}
use Rattle.g4_stacks.specs.Merge.{IsUnion}
use Rattle.g4_stacks.proofs.Marks.{none_in}
use Rattle.g4_stacks.proofs.graph.Graph.known_merge.Goals as goal

with_none : (g : List Content) (a b : ℕ) → IsCanonical g → b ≡ 0 → IsUnion g a b g a
with_none g a b canon e s = (
  (λ h. inl h),
  (λ h.
      elim h [ inl x ↦ x | inr y ↦ absurd (none_in g canon s (subst (λ (n : ℕ). Has g n s) e y)) ]),
)

none_with : (g : List Content) (a b : ℕ) → IsCanonical g → a ≡ 0 → IsUnion g a b g b
none_with g a b canon e s = (
  (λ h. inr h),
  (λ h.
      elim h [ inl x ↦ absurd (none_in g canon s (subst (λ (n : ℕ). Has g n s) e x)) | inr y ↦ y ]),
)

pub returns-then-a-eq0-clause-means : goal.returns-then-a-eq0-clause-means
returns-then-a-eq0-clause-means c = none_with c.args.self.now c.args.a c.args.b
    (subst IsCanonical c.self.view_is c.self.invariant.canonical) c.if-a-eq0.true

pub returns-then-b-eq0-clause-means : goal.returns-then-b-eq0-clause-means
returns-then-b-eq0-clause-means c = with_none c.args.self.now c.args.a c.args.b
    (subst IsCanonical c.self.view_is c.self.invariant.canonical) c.if-b-eq0.true
