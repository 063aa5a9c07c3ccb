-- What is laid out in two networks from the same state on has the same states in both.
use Rattle.std.proofs.Common.{◌≡◌, ◌≢◌, ℕ, zero, suc, ◌+◌, ◌<◌, ◌≤◌, ◌⊎◌, inl, inr, List, [], ◌∷◌, length, Bool, Some, refl, sym, ◌∙◌, ap, subst, arith}
use native.Mathlib.Decide.{dec_lt}
use Rattle.g4_source.specs.Elements.{Element, Elements, Alternatives}
use Rattle.g4_grammar.specs.declared.step.Step.{Step}
use Rattle.g4_net.specs.declared.network.Network.{Network}
use Rattle.g4_net.specs.declared.network.State.TheVariants.{Decision, Empty}
use Rattle.g4_net.specs.Network.{state_at}
use Rattle.g4_net.proofs.Pigeons.{In}
use Rattle.g4_layout.specs.Layout as lay
use Rattle.g4_layout.specs.Layout.{with_exit, AllLeadTo, Lies, LieInOrder, LieSideBySide}
use Rattle.g4_layout.proofs.Spans.{one_first}

-- two numbers are the same or not
pub same_or_not : (p q : ℕ) → (p ≡ q) ⊎ (p ≢ q)
same_or_not zero zero = inl refl
same_or_not zero (suc q) = inr (λ e. omega arith)
same_or_not (suc p) zero = inr (λ e. omega arith)
same_or_not (suc p) (suc q) = elim (same_or_not p q) [ inl e ↦ inl (ap suc e) | inr ne ↦ inr (λ e. ne (omega arith)) ]

-- a number is in a list or not
pub in_or_not : (bs : List ℕ) (p : ℕ) → In p bs ⊎ (In p bs → ⊥)
in_or_not [] p = inr (λ h. h)
in_or_not (b ∷ bs) p = elim (same_or_not p b) [
  | inl e ↦ inl (inl e)
  | inr ne ↦ elim (in_or_not bs p) [
    | inl h ↦ inl (inr h)
    | inr non ↦ inr (λ h. elim h [ inl e ↦ ne e | inr k ↦ non k ])
  ]
]

-- a state of an element, or the one where it begins
abbrev pub IsOwn : ℕ → ℕ → ℕ → ℕ → Type 0
IsOwn s n m p = (p ≡ s) ⊎ ((n ≤ p) × (p < m))

-- both end at the same states, and have the same states up to there
pub record Agree {L : Type 0} (a b : Network L) (s n t m t' m' : ℕ) : Type 0 where
  pub last : t ≡ t'
  pub upto : m ≡ m'
  pub same : (p : ℕ) → IsOwn s n m p → p ≢ t → state_at a p ≡ state_at b p

-- the same of alternatives side by side
pub record SidesAgree {L : Type 0} (a b : Network L) (n : ℕ) (fs ls : List ℕ) (m : ℕ) (fs' ls' : List ℕ) (m' : ℕ) : Type 0 where
  pub firsts : fs ≡ fs'
  pub lasts : ls ≡ ls'
  pub upto : m ≡ m'
  pub same : (p : ℕ) → n ≤ p → p < m → (In p ls → ⊥) → state_at a p ≡ state_at b p

-- the head of a list
same_head : (x y : ℕ) (xs ys : List ℕ) → x ∷ xs ≡ y ∷ ys → x ≡ y
same_head x y xs ys e = cc

module _ {L : Type 0} (a b : Network L) where
  -- an element of one state: its new state is its end
  lone : (s n : ℕ) → state_at a s ≡ state_at b s → Agree a b s n n (n + 1) n (n + 1)
  lone s n e = record {
    last = refl;
    upto = refl;
    same = λ p place ne. elim place [
      | inl is ↦ subst (λ (q : ℕ). state_at a q ≡ state_at b q) (sym is) e
      | inr h ↦ absurd
          (ne (omega arith))
    ];
  }

  -- a state that leads on does so in both
  leads_both : (lasts lasts' : List ℕ) (t t' : ℕ) → lasts ≡ lasts' → t ≡ t' → AllLeadTo a lasts t → AllLeadTo b lasts' t' → (p : ℕ)
      → In p lasts → state_at a p ≡ state_at b p
  leads_both [] lasts' t t' same to x y p h = absurd h
  leads_both (c ∷ cs) [] t t' same to x y p h = absurd (let k : ⊥ = cc in k)
  leads_both (c ∷ cs) (d ∷ ds) t t' same to x y p (inl e) =
      let first : d ≡ p = cc in
      let there : state_at b p ≡ Some (Empty t') = subst (λ (q : ℕ). state_at b q ≡ Some (Empty t')) first y.0 in
      subst (λ (q : ℕ). state_at a q ≡ Some (Empty t)) (sym e) x.0 ∙ (ap (λ (q : ℕ). Some (Empty q)) to ∙ sym there)
  leads_both (c ∷ cs) (d ∷ ds) t t' same to x y p (inr h) = let rest : cs ≡ ds = cc in leads_both cs ds t t' rest to x.1 y.1 p h

  -- the states of bodies that lead on
  pub bodies_both : {n m t m' t' : ℕ} {firsts lasts firsts' lasts' : List ℕ} → SidesAgree a b n firsts lasts m firsts' lasts' m'
      → t ≡ t' → AllLeadTo a lasts t → AllLeadTo b lasts' t' →
      (p : ℕ) → n ≤ p → p < m → state_at a p ≡ state_at b p
  bodies_both {t = t} {t' = t'} {lasts = lasts} {lasts' = lasts'} sides to x y p low high = elim (in_or_not lasts p) [
    | inl h ↦ leads_both lasts lasts' t t' sides.lasts to x y p h
    | inr non ↦ sides.same p low high non
  ]

  -- the edges of a decision with an exit branch
  exit_same : (greedy : Bool) (firsts firsts' : List ℕ) (m m' : ℕ) → firsts ≡ firsts' → m ≡ m'
      → with_exit greedy firsts m ≡ with_exit greedy firsts' m'
  exit_same greedy firsts firsts' m m' e f = ap (λ (xs : List ℕ). with_exit greedy xs m) e ∙ ap (λ (k : ℕ). with_exit greedy firsts' k) f

  -- an element whose last state alone is after its bodies
  closed_one : (s n m m' : ℕ) → m ≡ m' → state_at a s ≡ state_at b s → ((p : ℕ) → n ≤ p → p < m → state_at a p ≡ state_at b p)
      → Agree a b s n m (m + 1) m' (m' + 1)
  closed_one s n m m' up start inner = record {
    last = up;
    upto = omega arith;
    same = λ p place ne. elim place [
      | inl is ↦ subst (λ (q : ℕ). state_at a q ≡ state_at b q) (sym is) start
      | inr h ↦ inner p h.0
          (omega (arith, h.1))
    ];
  }

  -- one more state is between the bodies and the last
  closed_two : (s n m m' : ℕ) → m ≡ m' → state_at a s ≡ state_at b s → ((p : ℕ) → n ≤ p → p < m → state_at a p ≡ state_at b p)
      → state_at a m ≡ state_at b m → Agree a b s n (m + 1) (m + 2) (m' + 1) (m' + 2)
  closed_two s n m m' up start inner between = record {
    last = omega arith;
    upto = omega arith;
    same = λ p place ne. elim place [
      | inl is ↦ subst (λ (q : ℕ). state_at a q ≡ state_at b q) (sym is) start
      | inr h ↦ elim (same_or_not p m) [
        | inl is ↦ subst (λ (q : ℕ). state_at a q ≡ state_at b q) (sym is) between
        | inr apart ↦ inner p h.0 (omega (arith, h.1))
      ]
    ];
  }

  -- decisions of the same edges
  pub decide_both : (p : ℕ) (xs ys : List ℕ) → state_at a p ≡ Some (Decision xs) → state_at b p ≡ Some (Decision ys) → xs ≡ ys
      → state_at a p ≡ state_at b p
  decide_both p xs ys e e' is = e ∙ (ap (λ (zs : List ℕ). Some (Decision zs)) is ∙ sym e')

  -- one after another
  join : {s n mid k t m mid' k' t' m' : ℕ} → Agree a b s n mid k mid' k' → Agree a b mid k t m t' m' → Agree a b s n t m t' m'
  join {s} {n} {mid} {k} {t} {m} x y = record {
    last = y.last;
    upto = y.upto;
    same = λ p place ne. elim (same_or_not p mid) [
      | inl is ↦ y.same p (inl is) ne
      | inr apart ↦ elim place [
        | inl is ↦ x.same p (inl is) apart
        | inr h ↦ elim (dec_lt p k) [ yes before ↦ x.same p (inr (h.0, before)) apart | no after ↦ y.same p (inr (omega arith, h.1)) ne ]
      ]
    ];
  }

  mutual
    -- an element that is laid out in both from the same state on
    element_agrees : {x : Element (Step L)} {s n t m t' m' : ℕ} → Lies a x s t n m → Lies b x s t' n m' → Agree a b s n t m t' m'
    element_agrees (lay.an_edge label s n is) (lay.an_edge _ _ _ is') = lone s n (is ∙ sym is')
    element_agrees (lay.a_call rule level s n is) (lay.a_call _ _ _ _ is') = lone s n (is ∙ sym is')
    element_agrees (lay.a_predicate k s n is) (lay.a_predicate _ _ _ is') = lone s n (is ∙ sym is')
    element_agrees (lay.a_level q s n is) (lay.a_level _ _ _ is') = lone s n (is ∙ sym is')
    element_agrees (lay.an_action s n is) (lay.an_action _ _ is') = lone s n (is ∙ sym is')
    element_agrees (lay.an_empty s n is) (lay.an_empty _ _ is') = lone s n (is ∙ sym is')
    element_agrees (lay.one_alternative name x s t n m l) (lay.one_alternative _ _ _ t' _ m' l') = in_order_agree l l'
    element_agrees (lay.one_alternative name x s t n m l) (lay.a_block _ _ firsts lasts _ _ m' two is l' leads) =
        absurd (let one = one_first l' in omega arith)
    element_agrees (lay.a_block name xs firsts lasts s n m two is l leads) (lay.one_alternative _ _ _ t _ m' l') =
        absurd (let one = one_first l in omega arith)
    element_agrees (lay.a_block name xs firsts lasts s n m two is l leads) (lay.a_block _ _ firsts' lasts' _ _ m' two' is' l' leads') =
        let sides = sides_agree l l' in closed_one s n m m' sides.upto (decide_both s firsts firsts' is is' sides.firsts)
        (bodies_both sides sides.upto leads leads')
    element_agrees (lay.an_optional name sign xs firsts lasts s n m is l leads exit)
        (lay.an_optional _ _ _ firsts' lasts' _ _ m' is' l' leads' exit') =
        let sides = sides_agree l l' in let up : m ≡ m' = sides.upto in
        closed_two s n m m' up (decide_both s _ _ is is' (exit_same sign.greedy firsts firsts' m m' sides.firsts up))
        (bodies_both sides (omega (arith, up)) leads leads')
        (exit ∙ (ap (λ (q : ℕ). Some (Empty (q + 1))) up ∙ sym (subst (λ (q : ℕ). state_at b q ≡ Some (Empty (m' + 1))) (sym up) exit')))
    element_agrees (lay.a_star name sign xs firsts lasts s n m is l leads) (lay.a_star _ _ _ firsts' lasts' _ _ m' is' l' leads') =
        let sides = sides_agree l l' in
        closed_one s n m m' sides.upto (decide_both s _ _ is is' (exit_same sign.greedy firsts firsts' m m' sides.firsts sides.upto))
        (bodies_both sides refl leads leads')
    element_agrees (lay.a_plus_of_one name sign xs first lasts s n m is l leads more)
        (lay.a_plus_of_one _ _ _ first' lasts' _ _ m' is' l' leads' more') =
        let sides = sides_agree l l' in let up : m ≡ m' = sides.upto in
        let one : first ≡ first' = same_head first first' [] [] sides.firsts in
        closed_two s n m m' up (is ∙ (ap (λ (q : ℕ). Some (Empty q)) one ∙ sym is')) (bodies_both sides up leads leads')
        (decide_both m _ _ more (subst (λ (q : ℕ). state_at b q ≡ Some (Decision (with_exit sign.greedy (first' ∷ []) (m' + 1))))
        (sym up) more')
        (exit_same sign.greedy (first ∷ []) (first' ∷ []) (m + 1) (m' + 1) sides.firsts (omega (arith, up))))
    element_agrees (lay.a_plus_of_one name sign xs first lasts s n m is l leads more)
        (lay.a_plus _ _ _ firsts' lasts' _ _ m' two is' l' leads' more') =
        absurd (let sides = sides_agree l l' in omega (arith, ap length sides.firsts))
    element_agrees (lay.a_plus name sign xs firsts lasts s n m two is l leads more)
        (lay.a_plus_of_one _ _ _ first' lasts' _ _ m' is' l' leads' more') =
        absurd (let sides = sides_agree l l' in omega (arith, ap length sides.firsts))
    element_agrees (lay.a_plus name sign xs firsts lasts s n m two is l leads more)
        (lay.a_plus _ _ _ firsts' lasts' _ _ m' two' is' l' leads' more') =
        let sides = sides_agree l l' in let up : m ≡ m' = sides.upto in
        closed_two s n m m' up (decide_both s firsts firsts' is is' sides.firsts) (bodies_both sides up leads leads')
        (decide_both m _ _ more (subst (λ (q : ℕ). state_at b q ≡ Some (Decision (with_exit sign.greedy firsts' (m' + 1)))) (sym up) more')
        (exit_same sign.greedy firsts firsts' (m + 1) (m' + 1) sides.firsts (omega (arith, up))))

    -- elements one after another that are laid out so
    pub in_order_agree : {xs : Elements (Step L)} {s n t m t' m' : ℕ} → LieInOrder a xs s t n m → LieInOrder b xs s t' n m'
        → Agree a b s n t m t' m'
    in_order_agree (lay.no_more s n) (lay.no_more _ _) = record {
      last = refl;
      upto = refl;
      same = λ p place ne. elim place [ inl is ↦ absurd (ne is) | inr h ↦ absurd (omega (arith, h.0, h.1)) ];
    }
    in_order_agree (lay.one_more x xs s mid t n k m l ls) (lay.one_more _ _ _ mid' t' _ k' m' l' ls') =
        let first = element_agrees l l' in
        join first (in_order_agree ls (subst (λ (q : ℕ). LieInOrder b xs q t' k m') (sym first.last)
        (subst (λ (q : ℕ). LieInOrder b xs mid' t' q m') (sym first.upto) ls')))

    -- alternatives side by side that are laid out so
    pub sides_agree : {xs : Alternatives (Step L)} {firsts lasts firsts' lasts' : List ℕ} {n m m' : ℕ}
        → LieSideBySide a xs firsts lasts n m → LieSideBySide b xs firsts' lasts' n m' → SidesAgree a b n firsts lasts m firsts' lasts' m'
    sides_agree (lay.no_other n) (lay.no_other _) =
        record { firsts = refl; lasts = refl; upto = refl; same = λ p low high non. absurd (omega arith) }
    sides_agree (lay.another x xs last n k m firsts lasts l ls) (lay.another _ _ last' _ k' m' firsts' lasts' l' ls') =
        let first = in_order_agree l l' in
        let rest = sides_agree ls (subst (λ (q : ℕ). LieSideBySide b xs firsts' lasts' q m') (sym first.upto) ls') in
        record {
          firsts = ap (λ (zs : List ℕ). n ∷ zs) rest.firsts;
          lasts = ap (λ (q : ℕ). q ∷ lasts) first.last ∙ ap (λ (zs : List ℕ). last' ∷ zs) rest.lasts;
          upto = rest.upto;
          same = λ p low high non. elim (dec_lt p k) [
            | yes before ↦ elim (same_or_not p n) [
              | inl is ↦ first.same p (inl is) (λ e. non (inl e))
              | inr apart ↦ first.same p (inr (omega arith, before)) (λ e. non (inl e))
            ]
            | no after ↦ rest.same p (omega arith) high (λ h. non (inr h))
          ];
        }
