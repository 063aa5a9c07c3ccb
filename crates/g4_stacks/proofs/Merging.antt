-- What the steps of a merge keep.
use Rattle.std.proofs.Common.{◌≡◌, ℕ, suc, ◌<◌, ◌≤◌, ◌↔◌, ◌⊎◌, inl, inr, List, [], ◌∷◌, ◌++◌, length, refl, sym, ◌∙◌, ap, subst, arith, append_assoc, length-append}
use Rattle.std.proofs.lemmas.List.{append-nil}
use Rattle.g4_net.specs.Configurations.{Stack}
use Rattle.g4_stacks.specs.Stack.{pushed}
use Rattle.g4_stacks.specs.Graph.{Content, In, Has, IsNode, Ascends}
use Rattle.g4_stacks.specs.Canonical.{LeadBelow, IsCanonical, Grows}
use Rattle.g4_stacks.specs.Merge.{ByTop, IsUnion, StartsAbove}
use Rattle.g4_stacks.specs.Joining.{Joins}
use Rattle.g4_stacks.proofs.Ordered.{lead_below}
use Rattle.g4_stacks.proofs.Canonicity.{witness}
use Rattle.g4_stacks.proofs.Growing.{keeps}
use Rattle.g4_stacks.proofs.Marks.{none_in}

pub Grows-self : (g : List Content) → Grows g g
Grows-self g = ([], sym (append-nil g))

pub Grows-then : (f g h : List Content) → Grows f g → Grows g h → Grows f h
Grows-then f g h a b = (a.0 ++ b.0, b.1 ∙ ap (λ (x : List Content). x ++ b.0) a.1 ∙ append_assoc f a.0 b.0)

pub Grows-length : (f g : List Content) → Grows f g → length f ≤ length g
Grows-length f g a = let l = length-append f a.0 in let e = ap length a.1 in omega arith

pub LeadBelow-more : (m n : ℕ) (es : List (ℕ × ℕ)) → m ≤ n → LeadBelow m es → LeadBelow n es
LeadBelow-more m n [] le b = tt
LeadBelow-more m n (e ∷ es) le b = (b.0, (let q = b.1 in omega arith), LeadBelow-more m n es le b.2)

LeadBelow-push : (n t m : ℕ) (es : List (ℕ × ℕ)) → 0 < m → m < n → LeadBelow n es → LeadBelow n (es ++ (t, m) ∷ [])
LeadBelow-push n t m [] pos lt b = (pos, lt, tt)
LeadBelow-push n t m (e ∷ es) pos lt b = (b.0, b.1, LeadBelow-push n t m es pos lt b.2)

Ascends-push : (low t m : ℕ) (es : List (ℕ × ℕ)) → low ≤ t → ((u n : ℕ) → In (u, n) es → u < t) → Ascends low es
    → Ascends low (es ++ (t, m) ∷ [])
Ascends-push low t m [] le past a = (le, tt)
Ascends-push low t m (e ∷ es) le past a = let q = past e.0 e.1 (inl refl) in
    (a.0, Ascends-push (suc e.0) t m es (omega arith) (λ u n i. past u n (inr i)) a.1)

In-push : (x d : ℕ × ℕ) (es : List (ℕ × ℕ)) → In d (es ++ x ∷ []) ↔ (In d es ⊎ (d ≡ x))
In-push x d [] = ((λ h. elim h [ inl e ↦ inr e | inr never ↦ absurd never ]), (λ h. elim h [ inl never ↦ absurd never | inr e ↦ inl e ]))
In-push x d (e ∷ es) = let r = In-push x d es in (
  (λ h. elim h [ inl is ↦ inl (inl is) | inr i ↦ elim (r.0 i) [ inl j ↦ inl (inr j) | inr is ↦ inr is ] ]),
  (λ h. elim h [ inl i ↦ elim i [ inl is ↦ inl is | inr j ↦ inr (r.1 (inl j)) ] | inr is ↦ inr (r.1 (inr is)) ]),
)

-- the stacks with t on top, above those of the node
abbrev pub Through : List Content → ℕ → ℕ → ℕ → Stack → Type 0
Through g t r u s = (u ≡ t) × Has g r s

ByTop-push : (g : List Content) (t r u : ℕ) (s : Stack) (es : List (ℕ × ℕ))
    → ByTop g (es ++ (t, r) ∷ []) u s ↔ (ByTop g es u s ⊎ Through g t r u s)
ByTop-push g t r u s es = (
  (λ h. elim ((In-push (t, r) (u, h.0) es).0 h.1) [
    | inl i ↦ inl (h.0, i, h.2)
    | inr e ↦ inr (ap (λ (x : ℕ × ℕ). x.0) e, subst (λ (m : ℕ). Has g m s) (ap (λ (x : ℕ × ℕ). x.1) e) h.2)
  ]),
  (λ h. elim h [
    | inl b ↦ (b.0, (In-push (t, r) (u, b.0) es).1 (inl b.1), b.2)
    | inr p ↦ (r, (In-push (t, r) (u, r) es).1 (inr (ap (λ (x : ℕ). let y : ℕ × ℕ = (x, r) in y) p.0)), p.1)
  ]),
)

pub ByTop-cons : (g : List Content) (t r u : ℕ) (s : Stack) (es : List (ℕ × ℕ))
    → ByTop g ((t, r) ∷ es) u s ↔ (Through g t r u s ⊎ ByTop g es u s)
ByTop-cons g t r u s es = (
  (λ h. elim h.1 [
    | inl e ↦ inl (ap (λ (x : ℕ × ℕ). x.0) e, subst (λ (m : ℕ). Has g m s) (ap (λ (x : ℕ × ℕ). x.1) e) h.2)
    | inr i ↦ inr (h.0, i, h.2)
  ]),
  (λ h. elim h [
    | inl p ↦ (r, inl (ap (λ (x : ℕ). let y : ℕ × ℕ = (x, r) in y) p.0), p.1)
    | inr b ↦ (b.0, inr b.1, b.2)
  ]),
)

-- a grown graph means the same
pub ByTop-grown : (g h : List Content) (es : List (ℕ × ℕ)) (t : ℕ) (s : Stack) → IsCanonical g → Grows g h → LeadBelow (length g) es
    → ByTop g es t s ↔ ByTop h es t s
ByTop-grown g h es t s canon grows lead = (
  (λ b. (b.0, b.1, ((keeps g h canon grows b.0 (lead_below (length g) t b.0 es lead b.1).1).1 s).0 b.2)),
  (λ b. (b.0, b.1, ((keeps g h canon grows b.0 (lead_below (length g) t b.0 es lead b.1).1).1 s).1 b.2)),
)

-- the merge in a grown graph
pub Joins-grown : (g h : List Content) (a b : ℕ) (xs ys tops : List (ℕ × ℕ)) → IsCanonical g → Grows g h → Joins g a b xs ys tops
    → Joins h a b xs ys tops
Joins-grown g h a b xs ys tops canon grows k = record {
  left_in = (keeps g h canon grows a k.left_in).0;
  right_in = (keeps g h canon grows b k.right_in).0;
  low = k.low;
  past = k.past;
  left = k.left;
  right = k.right;
  left_lead = k.left_lead;
  right_lead = k.right_lead;
  sorted = k.sorted;
  lead = LeadBelow-more (length g) (length h) tops (Grows-length g h grows) k.lead;
  means = λ t s. (
    (λ x. there t s ((k.means t s).0 (elim x [
      | inl y ↦ inl (((keeps g h canon grows a k.left_in).1 (pushed t s)).1 y)
      | inr y ↦ inr
          (((keeps g h canon grows b k.right_in).1 (pushed t s)).1 y)
    ]))),
    (λ x. elim ((k.means t s).1 (back t s x)) [
      | inl y ↦ inl (((keeps g h canon grows a k.left_in).1 (pushed t s)).0 y)
      | inr y ↦ inr
          (((keeps g h canon grows b k.right_in).1 (pushed t s)).0 y)
    ]),
  );
}
  where
    at_xs : (t : ℕ) (s : Stack) → ByTop g xs t s ↔ ByTop h xs t s
    at_xs t s = ByTop-grown g h xs t s canon grows (LeadBelow-more a (length g) xs (let q = k.left_in in omega arith) k.left_lead)

    at_ys : (t : ℕ) (s : Stack) → ByTop g ys t s ↔ ByTop h ys t s
    at_ys t s = ByTop-grown g h ys t s canon grows (LeadBelow-more b (length g) ys (let q = k.right_in in omega arith) k.right_lead)

    at_tops : (t : ℕ) (s : Stack) → ByTop g tops t s ↔ ByTop h tops t s
    at_tops t s = ByTop-grown g h tops t s canon grows k.lead

    there : (t : ℕ) (s : Stack) → (ByTop g tops t s ⊎ (ByTop g xs t s ⊎ ByTop g ys t s))
        → ByTop h tops t s ⊎ (ByTop h xs t s ⊎ ByTop h ys t s)
    there t s (inl x) = inl ((at_tops t s).0 x)
    there t s (inr (inl x)) = inr (inl ((at_xs t s).0 x))
    there t s (inr (inr x)) = inr (inr ((at_ys t s).0 x))

    back : (t : ℕ) (s : Stack) → (ByTop h tops t s ⊎ (ByTop h xs t s ⊎ ByTop h ys t s))
        → ByTop g tops t s ⊎ (ByTop g xs t s ⊎ ByTop g ys t s)
    back t s (inl x) = inl ((at_tops t s).1 x)
    back t s (inr (inl x)) = inr (inl ((at_xs t s).1 x))
    back t s (inr (inr x)) = inr (inr ((at_ys t s).1 x))

-- one step: the state t with the node r goes to the end of tops
step : (g : List Content) (a b : ℕ) (xs ys xs' ys' tops : List (ℕ × ℕ)) (t r : ℕ)
    → (k : Joins g a b xs ys tops) → k.low ≤ t → 0 < r → r < length g
    → Ascends (suc t) xs' → Ascends (suc t) ys' → LeadBelow a xs' → LeadBelow b ys'
    → ((u : ℕ) (s : Stack) → (ByTop g xs u s ⊎ ByTop g ys u s) ↔ (Through g t r u s ⊎ (ByTop g xs' u s ⊎ ByTop g ys' u s)))
    → Joins g a b xs' ys' (tops ++ (t, r) ∷ [])
step g a b xs ys xs' ys' tops t r k le pos lt left right left_lead right_lead same = record {
  left_in = k.left_in;
  right_in = k.right_in;
  low = suc t;
  past = λ u m i. elim ((In-push (t, r) (u, m) tops).0 i) [
    | inl j ↦ (let q = k.past u m j in omega arith)
    | inr e ↦ (let q : u ≡ t = ap (λ (x : ℕ × ℕ). x.0) e in omega arith)
  ];
  left = left;
  right = right;
  left_lead = left_lead;
  right_lead = right_lead;
  sorted = Ascends-push 0 t r tops (omega arith) (λ u m i. let q = k.past u m i in omega arith) k.sorted;
  lead = LeadBelow-push (length g) t r tops pos lt k.lead;
  means = λ u s. ((λ x. there u s ((k.means u s).0 x)), (λ x. (k.means u s).1 (back u s x)));
}
  where
    there : (u : ℕ) (s : Stack) → (ByTop g tops u s ⊎ (ByTop g xs u s ⊎ ByTop g ys u s))
        → ByTop g (tops ++ (t, r) ∷ []) u s ⊎ (ByTop g xs' u s ⊎ ByTop g ys' u s)
    there u s (inl x) = inl ((ByTop-push g t r u s tops).1 (inl x))
    there u s (inr x) = elim ((same u s).0 x) [ inl p ↦ inl ((ByTop-push g t r u s tops).1 (inr p)) | inr q ↦ inr q ]

    back : (u : ℕ) (s : Stack) → (ByTop g (tops ++ (t, r) ∷ []) u s ⊎ (ByTop g xs' u s ⊎ ByTop g ys' u s))
        → ByTop g tops u s ⊎ (ByTop g xs u s ⊎ ByTop g ys u s)
    back u s (inl x) = elim ((ByTop-push g t r u s tops).0 x) [ inl c ↦ inl c | inr p ↦ inr ((same u s).1 (inl p)) ]
    back u s (inr x) = inr ((same u s).1 (inr x))

above : (low t : ℕ) (es : List (ℕ × ℕ)) → Ascends low es → StartsAbove t es → Ascends (suc t) es
above low t [] a st = tt
above low t (e ∷ es) a st = ((let q : t < e.0 = st in omega arith), a.1)

-- both lists swapped
pub swapped : (g : List Content) (a b : ℕ) (xs ys tops : List (ℕ × ℕ)) → Joins g a b xs ys tops → Joins g b a ys xs tops
swapped g a b xs ys tops k = record {
  left_in = k.right_in;
  right_in = k.left_in;
  low = k.low;
  past = k.past;
  sorted = k.sorted;
  lead = k.lead;
  left = k.right;
  right = k.left;
  left_lead = k.right_lead;
  right_lead = k.left_lead;
  means = λ t s. ((λ x. turn _ _ _ ((k.means t s).0 (flip _ _ x))), (λ x. flip _ _ ((k.means t s).1 (turn _ _ _ x))));
}
  where
    flip : (A B : Type 0) → A ⊎ B → B ⊎ A
    flip A B (inl x) = inr x
    flip A B (inr x) = inl x

    turn : (A B C : Type 0) → A ⊎ (B ⊎ C) → A ⊎ (C ⊎ B)
    turn A B C (inl x) = inl x
    turn A B C (inr x) = inr (flip B C x)

-- the first list's state alone
pub step_left : (g : List Content) (a b : ℕ) (xs ys tops : List (ℕ × ℕ)) (t m : ℕ) → Joins g a b ((t, m) ∷ xs) ys tops
    → StartsAbove t ys → Joins g a b xs ys (tops ++ (t, m) ∷ [])
step_left g a b xs ys tops t m k st =
    step g a b ((t, m) ∷ xs) ys xs ys tops t m k k.left.0 k.left_lead.0 (let p = k.left_lead.1 in let q = k.left_in in omega arith)
    k.left.1 (above k.low t ys k.right st) k.left_lead.2 k.right_lead same
  where
    same : (u : ℕ) (s : Stack) → (ByTop g ((t, m) ∷ xs) u s ⊎ ByTop g ys u s) ↔ (Through g t m u s ⊎ (ByTop g xs u s ⊎ ByTop g ys u s))
    same u s = (
      (λ h. elim h [
        | inl x ↦ elim ((ByTop-cons g t m u s xs).0 x) [ inl p ↦ inl p | inr c ↦ inr (inl c) ]
        | inr x ↦ inr (inr x)
      ]),
      (λ h. elim h [
        | inl p ↦ inl ((ByTop-cons g t m u s xs).1 (inl p))
        | inr q ↦ elim q [ inl x ↦ inl ((ByTop-cons g t m u s xs).1 (inr x)) | inr x ↦ inr x ]
      ]),
    )

-- the second list's state alone
pub step_right : (g : List Content) (a b : ℕ) (xs ys tops : List (ℕ × ℕ)) (t n : ℕ) → Joins g a b xs ((t, n) ∷ ys) tops
    → StartsAbove t xs → Joins g a b xs ys (tops ++ (t, n) ∷ [])
step_right g a b xs ys tops t n k st = swapped g b a ys xs _ (step_left g b a ys xs tops t n (swapped g a b xs _ tops k) st)

-- the state of both, with the merged node
pub step_both : (g : List Content) (a b : ℕ) (xs ys tops : List (ℕ × ℕ)) (t m n r : ℕ) → IsCanonical g
    → Joins g a b ((t, m) ∷ xs) ((t, n) ∷ ys) tops
    → IsNode g r → IsUnion g m n g r → Joins g a b xs ys (tops ++ (t, r) ∷ [])
step_both g a b xs ys tops t m n r canon k known union =
    step g a b ((t, m) ∷ xs) ((t, n) ∷ ys) xs ys tops t r k k.left.0 positive known k.left.1 k.right.1 k.left_lead.2 k.right_lead.2 same
  where
    not_none : r ≡ 0 → ⊥
    not_none e =
        let w = witness g canon (suc m) m (omega arith) k.left_lead.0 (let p = k.left_lead.1 in let q = k.left_in in omega arith) in
        none_in g canon w.0 (subst (λ (x : ℕ). Has g x w.0) e ((union w.0).1 (inl w.1)))

    positive : 0 < r
    positive = omega (arith, not_none)

    same : (u : ℕ) (s : Stack) → (ByTop g ((t, m) ∷ xs) u s ⊎ ByTop g ((t, n) ∷ ys) u s)
        ↔ (Through g t r u s ⊎ (ByTop g xs u s ⊎ ByTop g ys u s))
    same u s = (
      (λ q. elim q [
        | inl x ↦ elim ((ByTop-cons g t m u s xs).0 x) [ inl p ↦ inl (p.0, (union s).1 (inl p.1)) | inr c ↦ inr (inl c) ]
        | inr x ↦ elim ((ByTop-cons g t n u s ys).0 x) [ inl p ↦ inl (p.0, (union s).1 (inr p.1)) | inr c ↦ inr (inr c) ]
      ]),
      (λ q. elim q [
        | inl p ↦ elim ((union s).0 p.1) [
          | inl x ↦ inl ((ByTop-cons g t m u s xs).1 (inl (p.0, x)))
          | inr x ↦ inr ((ByTop-cons g t n u s ys).1 (inl (p.0, x)))
        ]
        | inr c ↦ elim c [ inl x ↦ inl ((ByTop-cons g t m u s xs).1 (inr x)) | inr x ↦ inr ((ByTop-cons g t n u s ys).1 (inr x)) ]
      ]),
    )
