-- The merges that wait for merges of lower nodes, the innermost last.
use Rattle.std.proofs.Common.{◌≡◌, ℕ, suc, inl, inr, ◌+◌, ◌<◌, ◌≤◌, List, [], ◌∷◌, ◌++◌, length, drop, refl, sym, ◌∙◌, ap, subst, arith}
use Rattle.g4_stacks.specs.Graph.{Content, IsNode}
use Rattle.g4_stacks.specs.Canonical.{IsCanonical, Grows}
use Rattle.g4_stacks.specs.Merge.{tops_of, IsUnion}
use Rattle.g4_stacks.specs.Joining.{Joins, IsJoining, IsWaiting, Awaits}
use Rattle.g4_stacks.specs.declared.joining.Joining.{Joining}
use Rattle.g4_stacks.proofs.Growing.{keeps}
use Rattle.g4_stacks.proofs.Merging.{Joins-grown, Grows-self, Grows-then, step_both}
use Rattle.g4_stacks.proofs.Steps.{At, begins, tops_grown, wants_lower}
use Rattle.g4_stacks.proofs.Weights.{weight_of, weight_cons, weight_drop}

-- the merge of a and b waits for that of m and n, through the merges of the list
abbrev pub Leads : List Content → List Content → ℕ → ℕ → List Joining → ℕ → ℕ → Type 0
Leads old g a b [] m n = (a ≡ m) × (b ≡ n)
Leads old g a b (d ∷ ds) m n = (d.left ≡ a) × (d.right ≡ b) × (d.left < length old)
    × ((x : ℕ) × (y : ℕ) × IsWaiting g d x y × Leads old g x y ds m n)

waits_grown : (g h : List Content) (d : Joining) (m n : ℕ) → IsCanonical g → Grows g h → IsWaiting g d m n → IsWaiting h d m n
waits_grown g h d m n canon grows w =
    let grown = Joins-grown g h d.left d.right _ _ d.tops.items canon grows w in
    subst (λ (es : List (ℕ × ℕ)). Joins h d.left d.right ((d.state, m) ∷ drop d.i es) ((d.state, n) ∷ drop d.j (tops_of h d.right))
    d.tops.items) (sym (tops_grown g h d.left grows w.left_in))
    (subst (λ (es : List (ℕ × ℕ)). Joins h d.left d.right ((d.state, m) ∷ drop d.i (tops_of g d.left)) ((d.state, n) ∷ drop d.j es)
    d.tops.items) (sym (tops_grown g h d.right grows w.right_in)) grown)

Leads-grown : (old g h : List Content) (a b : ℕ) (ds : List Joining) (m n : ℕ) → IsCanonical g → Grows g h → Leads old g a b ds m n
    → Leads old h a b ds m n
Leads-grown old g h a b [] m n canon grows l = l
Leads-grown old g h a b (d ∷ ds) m n canon grows l = (
  l.0,
  l.1,
  l.2,
  (
    l.3.0,
    l.3.1,
    waits_grown g h d l.3.0 l.3.1 canon grows l.3.2,
    Leads-grown old g h l.3.0 l.3.1 ds m n canon grows l.3.3,
  ),
)

Leads-push : (old g : List Content) (a b : ℕ) (ds : List Joining) (d : Joining) (x y : ℕ) → Leads old g a b ds d.left d.right
    → d.left < length old → IsWaiting g d x y → Leads old g a b (ds ++ d ∷ []) x y
Leads-push old g a b [] d x y l in' w = (sym l.0, sym l.1, in', (x, y, w, (refl, refl)))
Leads-push old g a b (e ∷ es) d x y l in' w = (l.0, l.1, l.2, (l.3.0, l.3.1, l.3.2, Leads-push old g l.3.0 l.3.1 es d x y l.3.3 in' w))

Leads-pop : (old g : List Content) (a b : ℕ) (ds : List Joining) (d : Joining) (m n : ℕ) → Leads old g a b (ds ++ d ∷ []) m n
    → Leads old g a b ds d.left d.right × (d.left < length old) × IsWaiting g d m n
Leads-pop old g a b [] d m n l = (
  (sym l.0, sym l.1),
  l.2,
  subst (λ (x : ℕ). IsWaiting g d x n) l.3.3.0 (subst (λ (y : ℕ). IsWaiting g d l.3.0 y) l.3.3.1 l.3.2),
)
Leads-pop old g a b (e ∷ es) d m n l = let p = Leads-pop old g l.3.0 l.3.1 es d m n l.3.3 in
    ((l.0, l.1, l.2, (l.3.0, l.3.1, l.3.2, p.0)), p.1, p.2)

-- the merge of a and b in the graph old, when the graph is g
pub record IsStacked (old g : List Content) (a b : ℕ) (waiting : List Joining) (current : Joining) : Type 0 where
  pub grows : Grows old g
  pub canonical : IsCanonical g
  pub inside : current.left < length old
  pub leads : Leads old g a b waiting current.left current.right
  pub joins : IsJoining g current

-- a merge is known by its fields
placed : (g : List Content) (a b i j : ℕ) (tops : List (ℕ × ℕ)) (d : Joining) → d.left ≡ a → d.right ≡ b → d.i ≡ i → d.j ≡ j
    → d.tops.items ≡ tops → At g a b i j tops → IsJoining g d
placed g a b i j tops d left right at_i at_j holds k =
    subst (λ (x : ℕ). At g x d.right d.i d.j d.tops.items) (sym left)
    (subst (λ (x : ℕ). At g a x d.i d.j d.tops.items) (sym right)
    (subst (λ (x : ℕ). At g a b x d.j d.tops.items) (sym at_i)
    (subst (λ (x : ℕ). At g a b i x d.tops.items) (sym at_j)
    (subst (λ (es : List (ℕ × ℕ)). At g a b i j es) (sym holds) k))))

pub stacked : (g : List Content) (a b : ℕ) (d : Joining) (ws : List Joining) → IsCanonical g → IsNode g a → IsNode g b → ws ≡ []
    → d.left ≡ a → d.right ≡ b → (d.i ≡ 0) × (d.j ≡ 0) → d.tops.items ≡ [] → IsStacked g g a b ws d
stacked g a b d ws canon a_in b_in empty left right first none = record {
  grows = Grows-self g;
  canonical = canon;
  inside = subst (λ (x : ℕ). x < length g) (sym left) a_in;
  leads = subst (λ (es : List Joining). Leads g g a b es d.left d.right) (sym empty) (sym left, sym right);
  joins = placed g a b 0 0 [] d left right first.0 first.1 none (begins g a b 0 0 [] canon a_in b_in refl refl refl);
}

-- how much work is left at most, by the weights of the first graph
abbrev pub waited : List Content → List Joining → ℕ
waited old [] = 0
waited old (d ∷ ds) = suc (weight_of old (drop d.i (tops_of old d.left))) + waited old ds

abbrev pub work : List Content → List Joining → Joining → ℕ
work old waiting current = waited old waiting + weight_of old (drop current.i (tops_of old current.left))

waited_push : (old : List Content) (ds : List Joining) (d : Joining)
    → waited old (ds ++ d ∷ []) ≡ waited old ds + suc (weight_of old (drop d.i (tops_of old d.left)))
waited_push old [] d = omega arith
waited_push old (e ∷ es) d = let h = waited_push old es d in omega arith

-- a merge of lower nodes is opened
module _ (old g : List Content) (a b : ℕ) (ws : List Joining) (c0 c1 c2 : Joining) (m n : ℕ) (canon : IsCanonical old)
    (k : IsStacked old g a b ws c0)
    (left : c1.left ≡ c0.left) (right : c1.right ≡ c0.right) (awaits : Awaits g c0.i c1 m n)
    (left' : c2.left ≡ m) (right' : c2.right ≡ n) (first : (c2.i ≡ 0) × (c2.j ≡ 0)) where
  inside : c1.left < length old
  inside = subst (λ (x : ℕ). x < length old) (sym left) k.inside

  lower : (m < c1.left) × IsNode g m × IsNode g n
  lower = wants_lower g c1.left c1.right c1.state m n _ _ c1.tops.items awaits.waits

  m_in : m < length old
  m_in = let p = lower.0 in let q = inside in omega arith

  pub opened : c2.tops.items ≡ [] → IsStacked old g a b (ws ++ c1 ∷ []) c2
  opened none = record {
    grows = k.grows;
    canonical = k.canonical;
    inside = subst (λ (x : ℕ). x < length old) (sym left') m_in;
    leads = subst (λ (x : ℕ). Leads old g a b (ws ++ c1 ∷ []) x c2.right) (sym left')
        (subst (λ (y : ℕ). Leads old g a b (ws ++ c1 ∷ []) m y) (sym right')
        (Leads-push old g a b ws c1 m n (subst (λ (x : ℕ). Leads old g a b ws x c1.right) (sym left)
        (subst (λ (y : ℕ). Leads old g a b ws c0.left y) (sym right) k.leads)) inside awaits.waits));
    joins = placed g m n 0 0 [] c2 left' right' first.0 first.1 none (begins g m n 0 0 [] k.canonical lower.1 lower.2 refl refl refl);
  }

  pub opened_smaller : work old (ws ++ c1 ∷ []) c2 < work old ws c0
  opened_smaller =
      let tops : tops_of g c1.left ≡ tops_of old c1.left = tops_grown old g c1.left k.grows inside in
      let at : drop awaits.place (tops_of old c1.left) ≡ (c1.state, m) ∷ drop c1.i (tops_of old c1.left) =
      subst (λ (es : List (ℕ × ℕ)). drop awaits.place es ≡ (c1.state, m) ∷ drop c1.i es) tops awaits.at in
      let heavy = ap (weight_of old) at ∙ weight_cons old c1.state m (drop c1.i (tops_of old c1.left)) canon m_in in
      let less : weight_of old (drop awaits.place (tops_of old c1.left)) ≤ weight_of old (drop c0.i (tops_of old c0.left)) =
      subst (λ (x : ℕ). weight_of old (drop awaits.place (tops_of old x)) ≤ weight_of old (drop c0.i (tops_of old c0.left)))
      (sym left) (weight_drop old c0.i awaits.place (tops_of old c0.left) awaits.after) in
      let child : weight_of old (drop c2.i (tops_of old c2.left)) ≡ weight_of old (tops_of old m) =
      ap (λ (x : ℕ). weight_of old (drop x (tops_of old c2.left))) first.0 ∙ ap (λ (x : ℕ). weight_of old (tops_of old x)) left' in
      let more = waited_push old ws c1 in
      omega arith

-- a merge is finished, and the one that waited for it goes on
module _ (old g h : List Content) (a b : ℕ) (ws rest : List Joining) (c0 c1 below d : Joining) (r : ℕ) (k : IsStacked old g a b ws c0)
    (left : c1.left ≡ c0.left) (right : c1.right ≡ c0.right)
    (popped : ws ≡ rest ++ below ∷ []) (left' : d.left ≡ below.left) (places : (d.i ≡ below.i) × (d.j ≡ below.j)) where
  pub closed : Grows g h → IsCanonical h → IsNode h r → IsUnion h c1.left c1.right h r → d.right ≡ below.right
      → d.tops.items ≡ below.tops.items ++ (below.state, r) ∷ [] → IsStacked old h a b rest d
  closed grows canon known union right' more =
      let p = Leads-pop old g a b rest below c0.left c0.right
      (subst (λ (es : List Joining). Leads old g a b es c0.left c0.right) popped k.leads) in
      let union' : IsUnion h c0.left c0.right h r =
      subst (λ (x : ℕ). IsUnion h x c0.right h r) left (subst (λ (y : ℕ). IsUnion h c1.left y h r) right union) in
      let waits = waits_grown g h below c0.left c0.right k.canonical grows p.2 in
      record {
        grows = Grows-then old g h k.grows grows;
        canonical = canon;
        inside = subst (λ (x : ℕ). x < length old) (sym left') p.1;
        leads = subst (λ (x : ℕ). Leads old h a b rest x d.right) (sym left')
            (subst (λ (y : ℕ). Leads old h a b rest below.left y) (sym right')
            (Leads-grown old g h a b rest below.left below.right k.canonical grows p.0));
        joins = placed h below.left below.right below.i below.j _ d left' right' places.0 places.1 more
            (step_both h below.left below.right _ _ below.tops.items below.state c0.left c0.right r canon waits known union');
      }

  pub closed_smaller : work old rest d < work old ws c0
  closed_smaller =
      let more = ap (waited old) popped ∙ waited_push old rest below in
      let same : weight_of old (drop d.i (tops_of old d.left)) ≡ weight_of old (drop below.i (tops_of old below.left)) =
      ap (λ (x : ℕ). weight_of old (drop x (tops_of old d.left))) places.0
      ∙ ap (λ (x : ℕ). weight_of old (drop below.i (tops_of old x))) left' in
      omega arith

-- the last merge is finished
pub ended : (old g h : List Content) (a b : ℕ) (ws : List Joining) (c0 c1 : Joining) (r : ℕ) → IsCanonical old → IsNode old a
    → IsNode old b → IsStacked old g a b ws c0 → c1.left ≡ c0.left → c1.right ≡ c0.right
    → Grows g h → IsUnion h c1.left c1.right h r → ws ≡ [] → IsUnion old a b h r
ended old g h a b ws c0 c1 r canon a_in b_in k left right grows union empty s =
    let at : (a ≡ c0.left) × (b ≡ c0.right) = subst (λ (es : List Joining). Leads old g a b es c0.left c0.right) empty k.leads in
    let union' : IsUnion h a b h r = subst (λ (x : ℕ). IsUnion h x b h r) (left ∙ sym at.0)
    (subst (λ (y : ℕ). IsUnion h c1.left y h r) (right ∙ sym at.1) union) in
    let kept = keeps old h canon (Grows-then old g h k.grows grows) in
    let at_a = (kept a a_in).1 s in
    let at_b = (kept b b_in).1 s in (
      (λ x. elim ((union' s).0 x) [ inl y ↦ inl (at_a.1 y) | inr y ↦ inr (at_b.1 y) ]),
      (λ x. (union' s).1 (elim x [ inl y ↦ inl (at_a.0 y) | inr y ↦ inr (at_b.0 y) ])),
    )
