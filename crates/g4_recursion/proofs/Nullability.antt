-- A body follows from the clauses of all bodies exactly where it derives the empty word.
use Rattle.std.proofs.Common.{◌≡◌, ◌↔◌, ℕ, ◌<◌, ◌⊎◌, inl, inr, List, [], ◌∷◌, ◌++◌, length, take, zero, suc, Bool, true, Some, refl, sym, ap, ◌∙◌, subst, arith}
use Rattle.std.specs.List.{slice_get, All, Contains}
use Rattle.std.proofs.lemmas.List.Elements.{All-contains, Contains-append_left, Contains-append_right}
use Rattle.std.proofs.lemmas.Option.{same_Some, slice_get_within, slice_get_cases}
use Rattle.g4_source.specs.declared.element.Repeat.TheVariants.{Once, Optional, Star, Plus}
use Rattle.g4_source.specs.Elements.{Element, atom, block, Elements, empty, then, Alternatives}
use Rattle.g4_grammar.specs.LeftCalls.{Nullable, an_atom, a_call, a_block, an_optional, a_star, a_plus, AllNullable, nothing, one_more, OneNullable, this, another}
use Rattle.g4_horn.specs.declared.clause.Clause.{Clause}
use Rattle.g4_horn.specs.Follows.{Follows, by_clause, AllFollow, Tells}
use Rattle.g4_horn.specs.Follows as horn
use Rattle.g4_recursion.specs.declared.lead.Lead.{Lead}
use Rattle.g4_recursion.specs.declared.lead.Lead.TheVariants.{Empty, Symbol, Call}
use Rattle.g4_recursion.specs.Leads.{ReadsLead, CallsLead, IsNullableRule}
use Rattle.g4_recursion.specs.Bodies.{IsAlternative, HasNeeds, HaveNeeds, IsOfBody, AreCovered}
use Rattle.g4_recursion.proofs.Trees.{one_of}

-- the first number is in the list
head_there : (n : ℕ) (ns : List ℕ) → Contains (n ∷ ns) n
head_there n ns = (0, omega arith, refl)

-- a number of a list that is the first or one of the rest
head_or_rest : (n : ℕ) (ns : List ℕ) (k : ℕ) → Contains (n ∷ ns) k → (n ≡ k) ⊎ Contains ns k
head_or_rest n ns k (zero, within, is) = inl is
head_or_rest n ns k (suc i, within, is) = inr (i, omega (arith, within), is)

-- all numbers of two lists follow
all_append : (clauses : List Clause) (us vs : List ℕ) → AllFollow clauses us → AllFollow clauses vs → AllFollow clauses (us ++ vs)
all_append clauses [] vs hs more = more
all_append clauses (u ∷ us) vs (horn.one_more n ns h hs) more = horn.one_more u (us ++ vs) h (all_append clauses us vs hs more)

module _ (rules bodies : List (Alternatives Lead)) (clauses : List Clause)
    (rules_first : (k : ℕ) (xs : Alternatives Lead) → slice_get rules k ≡ Some xs → slice_get bodies k ≡ Some xs)
    (of_bodies : All (IsOfBody rules bodies) clauses) (covered : AreCovered rules bodies clauses) where
  -- an element derives the empty word where its needs do
  need_null : (x : Element Lead) (ns : List ℕ) → HasNeeds rules bodies x ns
      → ((n : ℕ) → Contains ns n → (xs : Alternatives Lead) → slice_get bodies n ≡ Some xs → OneNullable ReadsLead CallsLead rules xs)
      → Nullable ReadsLead CallsLead rules x
  need_null (atom Empty) ns h each = an_atom Empty refl
  need_null (atom Symbol) ns h each = absurd h
  need_null (atom (Call rule)) ns h each = elim (slice_get_cases rules rule).1 [
    | inl some ↦ a_call (Call rule) rule some.0 refl some.2
        (each rule (subst (λ (l : List ℕ). Contains l rule) (sym h.0) (head_there rule [])) some.0 (rules_first rule some.0 some.2))
    | inr past ↦ absurd (omega (arith, past.0, h.1))
  ]
  need_null (block label Once xs) ns (n, is, at) each =
      a_block label xs (each n (subst (λ (l : List ℕ). Contains l n) (sym is) (head_there n [])) xs at)
  need_null (block label (Optional sign) xs) ns h each = an_optional label sign xs
  need_null (block label (Star sign) xs) ns h each = a_star label sign xs
  need_null (block label (Plus sign) xs) ns (n, is, at) each =
      a_plus label sign xs (each n (subst (λ (l : List ℕ). Contains l n) (sym is) (head_there n [])) xs at)

  -- and elements
  needs_null : (x : Elements Lead) (ns : List ℕ) → HaveNeeds rules bodies x ns
      → ((n : ℕ) → Contains ns n → (xs : Alternatives Lead) → slice_get bodies n ≡ Some xs → OneNullable ReadsLead CallsLead rules xs)
      → AllNullable ReadsLead CallsLead rules x
  needs_null empty ns h each = nothing
  needs_null (then x xs) ns (us, vs, is, h, hs) each = one_more x xs
      (need_null x us h (λ n has. each n (subst (λ (l : List ℕ). Contains l n) (sym is) (Contains-append_left us vs n has))))
      (needs_null xs vs hs (λ n has. each n (subst (λ (l : List ℕ). Contains l n) (sym is) (Contains-append_right us vs n has))))

  mutual
    -- a body that follows derives the empty word
    null : {k : ℕ} → Follows clauses k → (xs : Alternatives Lead) → slice_get bodies k ≡ Some xs → OneNullable ReadsLead CallsLead rules xs
    null (by_clause k clause among head needs) xs at =
        let b = All-contains (IsOfBody rules bodies) clauses clause of_bodies among in
        let same : b.body ≡ xs = same_Some b.body xs (sym b.at ∙ (ap (slice_get bodies) head ∙ at)) in
        subst (OneNullable ReadsLead CallsLead rules) same
        (one_of rules b.body b.alternative b.among
        (needs_null b.alternative clause.needs.items b.needs (λ n has. all_null needs n has)))

    all_null : {ns : List ℕ} → AllFollow clauses ns → (n : ℕ) → Contains ns n → (xs : Alternatives Lead)
        → slice_get bodies n ≡ Some xs → OneNullable ReadsLead CallsLead rules xs
    all_null horn.nothing n has xs at = absurd (omega (arith, has.1))
    all_null (horn.one_more k ns h hs) n has xs at = elim (head_or_rest k ns n has) [
      | inl same ↦ null h xs (ap (slice_get bodies) same ∙ at)
      | inr rest ↦ all_null hs n rest xs at
    ]

  -- the needs of an atom that reads nothing
  atom_follows : (a : Lead) (ns : List ℕ) → ReadsLead a [] → HasNeeds rules bodies (atom a) ns → AllFollow clauses ns
  atom_follows Empty ns reads h = subst (AllFollow clauses) (sym h) horn.nothing
  atom_follows Symbol ns reads h = absurd h
  atom_follows (Call rule) ns reads h = absurd reads

  -- the need of a call
  call_follows : (a : Lead) (rule : ℕ) (ns : List ℕ) → CallsLead a rule → Follows clauses rule → HasNeeds rules bodies (atom a) ns
      → AllFollow clauses ns
  call_follows Empty rule ns calls follows h = absurd calls
  call_follows Symbol rule ns calls follows h = absurd calls
  call_follows (Call r) rule ns calls follows h =
      subst (AllFollow clauses) (sym h.0) (horn.one_more r [] (subst (Follows clauses) calls follows) horn.nothing)

  mutual
    -- the needs of an element that derives the empty word follow
    need_follows : {x : Element Lead} → Nullable ReadsLead CallsLead rules x → (ns : List ℕ) → HasNeeds rules bodies x ns
        → AllFollow clauses ns
    need_follows (an_atom a reads) ns h = atom_follows a ns reads h
    need_follows (a_call a rule xs calls at one) ns h =
        call_follows a rule ns calls (one_follows one rule xs (rules_first rule xs at) (λ x among. among)) h
    need_follows (a_block label xs one) ns (n, is, at) =
        subst (AllFollow clauses) (sym is) (horn.one_more n [] (one_follows one n xs at (λ x among. among)) horn.nothing)
    need_follows (an_optional label sign xs) ns h = subst (AllFollow clauses) (sym h) horn.nothing
    need_follows (a_star label sign xs) ns h = subst (AllFollow clauses) (sym h) horn.nothing
    need_follows (a_plus label sign xs one) ns (n, is, at) =
        subst (AllFollow clauses) (sym is) (horn.one_more n [] (one_follows one n xs at (λ x among. among)) horn.nothing)

    -- of elements
    needs_follow : {xs : Elements Lead} → AllNullable ReadsLead CallsLead rules xs → (ns : List ℕ) → HaveNeeds rules bodies xs ns
        → AllFollow clauses ns
    needs_follow nothing ns h = subst (AllFollow clauses) (sym h) horn.nothing
    needs_follow (one_more x xs h hs) ns (us, vs, is, need, needs) =
        subst (AllFollow clauses) (sym is) (all_append clauses us vs (need_follows h us need) (needs_follow hs vs needs))

    -- a body with such an alternative follows
    one_follows : {ys : Alternatives Lead} → OneNullable ReadsLead CallsLead rules ys → (n : ℕ) (xs : Alternatives Lead)
        → slice_get bodies n ≡ Some xs → ((x : Elements Lead) → IsAlternative ys x → IsAlternative xs x) → Follows clauses n
    one_follows (this y ys all) n xs at included =
        let has = covered n xs at y (included y (inl refl)) all in
        by_clause n has.clause has.among has.head (needs_follow all has.clause.needs.items has.needs)
    one_follows (another y ys one) n xs at included = one_follows one n xs at (λ x among. included x (inr among))

  -- a rule follows exactly where it derives the empty word
  pub rule_follows : (k : ℕ) → k < length rules → Follows clauses k ↔ IsNullableRule rules k
  rule_follows k within = (
    λ h. elim (slice_get_cases rules k).1 [
      | inl some ↦ (some.0, some.2, null h some.0 (rules_first k some.0 some.2))
      | inr past ↦ absurd (omega (arith, past.0, within))
    ],
    λ h. one_follows h.2 k h.0 (rules_first k h.0 h.1) (λ x among. among),
  )

-- an item of the first ones
first_at : {X : Type 0} (n : ℕ) (xs : List X) (k : ℕ) (x : X) → slice_get (take n xs) k ≡ Some x → (k < n) × (slice_get xs k ≡ Some x)
first_at zero [] k x at = absurd (let n : ⊥ = cc in n)
first_at zero (y ∷ xs) k x at = absurd (let n : ⊥ = cc in n)
first_at (suc n) [] k x at = absurd (let n : ⊥ = cc in n)
first_at (suc n) (y ∷ xs) zero x at = (omega arith, at)
first_at (suc n) (y ∷ xs) (suc k) x at = let both = first_at n xs k x at in (omega (arith, both.0), both.1)

at_first : {X : Type 0} (n : ℕ) (xs : List X) (k : ℕ) (x : X) → k < n → slice_get xs k ≡ Some x → slice_get (take n xs) k ≡ Some x
at_first zero xs k x less at = absurd (omega (arith, less))
at_first (suc n) [] k x less at = at
at_first (suc n) (y ∷ xs) zero x less at = at
at_first (suc n) (y ∷ xs) (suc k) x less at = at_first n xs k x (omega (arith, less)) at

-- the answers for all bodies begin with those for the rules
pub rules_told : (rules : List (Alternatives Lead)) (clauses : List Clause) (answers : List Bool)
    → ((k : ℕ) → k < length rules → Follows clauses k ↔ IsNullableRule rules k) → Tells answers (Follows clauses)
    → Tells (take (length rules) answers) (IsNullableRule rules)
rules_told rules clauses answers each told k = (
  λ said. let both = first_at (length rules) answers k true said in (each k both.0).0 ((told k).0 both.1),
  λ h. let within : k < length rules = slice_get_within rules k h.0 h.1 in
      at_first (length rules) answers k true within ((told k).1 ((each k within).1 h)),
)
