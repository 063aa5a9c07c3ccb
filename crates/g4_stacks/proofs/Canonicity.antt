-- In a canonical graph two nodes with the same stacks are one.
use Rattle.std.proofs.Common.{◌≡◌, ℕ, zero, suc, ◌<◌, ◌↔◌, ◌⊎◌, inl, inr, List, [], ◌∷◌, Bool, true, false, Some, IsTrue, length, slice_get, refl, sym, ◌∙◌, ap, subst, arith}
use Rattle.std.proofs.lemmas.Option.{slice_get_cases}
use Rattle.g4_net.specs.Configurations.{Stack, wildcard}
use Rattle.g4_stacks.specs.Stack.{bottom, pushed}
use Rattle.g4_stacks.specs.Graph.{Content, In, IsMarked, LeadsTo, Has}
use Rattle.g4_stacks.specs.Canonical.{nothing, IsCanonical}
pub use Rattle.g4_stacks.specs.Merge.{ByTop}
use Rattle.g4_stacks.proofs.Ordered.{leads_once, same_members, lead_below}

-- what a node holds
pub content_of : (g : List Content) (n : ℕ) → n < length g → (c : Content) × (slice_get g n ≡ Some c)
content_of g n lt = elim (slice_get_cases g n).1 [
  | inl h ↦ (h.0, h.2)
  | inr h ↦ absurd (let p = h.0 in omega arith)
]

-- the stacks of a node, by what it holds
pub has_end : (g : List Content) (n : ℕ) (c : Content) → slice_get g n ≡ Some c → Has g n bottom ↔ IsTrue c.end
has_end g n c is = subst (λ o. IsMarked o false ↔ IsTrue c.end) (sym is) ((λ h. h), (λ h. h))

pub has_wild : (g : List Content) (n : ℕ) (c : Content) → slice_get g n ≡ Some c → Has g n wildcard ↔ IsTrue c.wild
has_wild g n c is = subst (λ o. IsMarked o true ↔ IsTrue c.wild) (sym is) ((λ h. h), (λ h. h))

pub has_pushed : (g : List Content) (n : ℕ) (c : Content) (t : ℕ) (s : Stack) → slice_get g n ≡ Some c
    → Has g n (pushed t s) ↔ ByTop g c.tops t s
has_pushed g n c t s is = subst (λ o. ((m : ℕ) × LeadsTo o t m × Has g m s) ↔ ByTop g c.tops t s) (sym is) ((λ h. h), (λ h. h))

-- contents with equal parts are equal
pub content_equal : (c d : Content) → c.end ≡ d.end → c.wild ≡ d.wild → c.tops ≡ d.tops → c ≡ d
content_equal c d e f h = ap (λ (x : Bool). holding x c.wild c.tops) e
    ∙ (ap (λ (y : Bool). holding d.end y c.tops) f ∙ ap (λ (es : List (ℕ × ℕ)). holding d.end d.wild es) h)
  where
    holding : Bool → Bool → List (ℕ × ℕ) → Content
    holding x y es = record { end = x; wild = y; tops = es }

-- two tests that hold together are one
pub tests_equal : (x y : Bool) → (IsTrue x ↔ IsTrue y) → x ≡ y
tests_equal true true h = refl
tests_equal true false h = sym (h.0 refl)
tests_equal false true h = h.1 refl
tests_equal false false h = refl

-- a content other than that of no stack has a mark or a top
filled : (c : Content) → (c ≡ nothing) ⊎ (IsTrue c.end ⊎ (IsTrue c.wild ⊎ ((e : ℕ × ℕ) × In e c.tops)))
filled c = by c.end c.wild c.tops refl refl refl
  where
    by : (x y : Bool) (es : List (ℕ × ℕ)) → c.end ≡ x → c.wild ≡ y → c.tops ≡ es
        → (c ≡ nothing) ⊎ (IsTrue c.end ⊎ (IsTrue c.wild ⊎ ((e : ℕ × ℕ) × In e c.tops)))
    by true y es a b d = inr (inl a)
    by false true es a b d = inr (inr (inl b))
    by false false (e ∷ es) a b d = inr (inr (inr (e, subst (In e) (sym d) (inl refl))))
    by false false [] a b d = inl (content_equal c nothing a b d)

module _ (g : List Content) (canon : IsCanonical g) where
  -- each set but the empty one has a stack
  pub witness : (k n : ℕ) → n < k → 0 < n → n < length g → (s : Stack) × Has g n s
  witness zero n lt pos in' = absurd (omega arith)
  witness (suc k) n lt pos in' =
      let c = content_of g n in' in
      elim (filled c.0) [
        | inl none ↦ (let same = canon.once n 0 nothing (c.1 ∙ ap Some none) canon.first in absurd (omega arith))
        | inr (inl end) ↦ (bottom, (has_end g n c.0 c.1).1 end)
        | inr (inr (inl wild)) ↦ (wildcard, (has_wild g n c.0 c.1).1 wild)
        | inr (inr (inr e)) ↦
            (let b = lead_below n e.0.0 e.0.1 c.0.tops (canon.plain n c.0 c.1).lower e.1 in
            let s = witness k e.0.1 (let q = b.1 in omega arith) b.0 (let q = b.1 in omega arith) in
            (pushed e.0.0 s.0, (has_pushed g n c.0 e.0.0 s.0 c.1).1 (e.0.1, e.1, s.1)))
      ]

  abbrev Alike : ℕ → ℕ → Type 0
  Alike a b = (s : Stack) → Has g a s ↔ Has g b s

  -- a node below a and one below b with the same stacks are one
  abbrev UniqueBelow : ℕ → ℕ → Type 0
  UniqueBelow a b = (x y : ℕ) → x < a → y < b → Alike x y → x ≡ y

  tops_within : (a b : ℕ) (c d : Content) → UniqueBelow a b → a < length g → b < length g → slice_get g a ≡ Some c
      → slice_get g b ≡ Some d → Alike a b → (e : ℕ × ℕ) → In e c.tops → In e d.tops
  tops_within a b c d ih a_in b_in at_a at_b same e i =
      let low = lead_below a e.0 e.1 c.tops (canon.plain a c at_a).lower i in
      let s = witness (suc e.1) e.1 (omega arith) low.0 (let q = low.1 in omega arith) in
      let there = (has_pushed g b d e.0 s.0 at_b).0 ((same (pushed e.0 s.0)).0 ((has_pushed g a c e.0 s.0 at_a).1 (e.1, i, s.1))) in
      let low' = lead_below b e.0 there.0 d.tops (canon.plain b d at_b).lower there.1 in
      let children : Alike e.1 there.0 = λ r. (
        (λ h. let h' = (has_pushed g b d e.0 r at_b).0 ((same (pushed e.0 r)).0 ((has_pushed g a c e.0 r at_a).1 (e.1, i, h))) in
            subst (λ (m : ℕ). Has g m r) (leads_once 0 e.0 h'.0 there.0 d.tops (canon.plain b d at_b).sorted h'.1 there.1) h'.2),
        (λ h. let h' = (has_pushed g a c e.0 r at_a).0 ((same (pushed e.0 r)).1 ((has_pushed g b d e.0 r at_b).1 (there.0, there.1, h))) in
            subst (λ (m : ℕ). Has g m r) (leads_once 0 e.0 h'.0 e.1 c.tops (canon.plain a c at_a).sorted h'.1 i) h'.2),
      ) in
      let is = ih e.1 there.0 low.1 low'.1 children in
      subst (λ (m : ℕ). In (e.0, m) d.tops) (sym is) there.1

  unique_to : (k a b : ℕ) → a < k → a < length g → b < length g → Alike a b → a ≡ b
  unique_to zero a b lt a_in b_in same = absurd (omega arith)
  unique_to (suc k) a b lt a_in b_in same =
      let c = content_of g a a_in in
      let d = content_of g b b_in in
      let below : UniqueBelow a b = λ x y x_less y_less alike. unique_to k x y (omega arith) (omega arith) (omega arith) alike in
      let above : UniqueBelow b a = λ x y x_less y_less alike. sym (below y x y_less x_less (λ s. ((alike s).1, (alike s).0))) in
      let back : Alike b a = λ s. ((same s).1, (same s).0) in
      let ends = tests_equal c.0.end d.0.end (
        (λ h. (has_end g b d.0 d.1).0 ((same bottom).0 ((has_end g a c.0 c.1).1 h))),
        (λ h. (has_end g a c.0 c.1).0 ((same bottom).1 ((has_end g b d.0 d.1).1 h))),
      ) in
      let wilds = tests_equal c.0.wild d.0.wild (
        (λ h. (has_wild g b d.0 d.1).0 ((same wildcard).0 ((has_wild g a c.0 c.1).1 h))),
        (λ h. (has_wild g a c.0 c.1).0 ((same wildcard).1 ((has_wild g b d.0 d.1).1 h))),
      ) in
      let tops = same_members 0 0 c.0.tops d.0.tops (canon.plain a c.0 c.1).sorted (canon.plain b d.0 d.1).sorted
      (tops_within a b c.0 d.0 below a_in b_in c.1 d.1 same)
      (tops_within b a d.0 c.0 above b_in a_in d.1 c.1 back) in
      canon.once a b d.0 (c.1 ∙ ap Some (content_equal c.0 d.0 ends wilds tops)) d.1

  -- two nodes with the same stacks are one
  pub unique : (a b : ℕ) → a < length g → b < length g → Alike a b → a ≡ b
  unique a b = unique_to (suc a) a b (omega arith)
