-- A state is nullable exactly where that follows from the clauses of the states.
use Rattle.std.proofs.Common.{◌≡◌, ◌↔◌, ℕ, ◌+◌, ◌<◌, ◌≤◌, ◌⊎◌, inl, inr, List, [], ◌∷◌, ◌++◌, length, get_or, Some, refl, sym, ◌∙◌, ap, subst, arith, lit<}
use Rattle.std.specs.List.{slice_get, All, Contains}
use Rattle.std.proofs.lemmas.Bool.{cases_lt}
use Rattle.std.proofs.lemmas.List.Elements.{Contains-get_or}
use Rattle.std.proofs.lemmas.Option.{same_Some, slice_get_within}
use Rattle.g4_horn.specs.declared.clause.Clause.{Clause}
use Rattle.g4_horn.specs.Follows.{Follows, AllFollow, by_clause, nothing, one_more}
use Rattle.g4_net.specs.declared.network.Network.{Network}
use Rattle.g4_net.specs.declared.network.State.{State}
use Rattle.g4_net.specs.declared.network.State.TheVariants.{Decision, End, Edge, Call, Predicate, Level, Action, Empty}
use Rattle.g4_net.specs.Network.{state_at, start_of}
use Rattle.g4_net_check.specs.Steps.{epsilon_targets, IsNullable, ends, by_edge, by_call}
use Rattle.g4_net_check.specs.Clauses.{NeedsOf, HasClause, AddsClauses, AreClauses}
use Rattle.g4_net_check.proofs.Lists.{in_nothing, in_pushed, cons_cases}

-- a clause that is pushed, or one from before
pub has_pushed : (before after : List Clause) (clause : Clause) → after ≡ before ++ clause ∷ []
    → AddsClauses clause.head (λ needs. clause.needs.items ≡ needs) before after
has_pushed before after clause pushed h needs = (to, from)
  where
    to : HasClause after h needs → HasClause before h needs ⊎ ((h ≡ clause.head) × (clause.needs.items ≡ needs))
    to (c, has, head, is) = elim ((in_pushed before after clause pushed c).0 has) [
      | inl old ↦ inl (c, old, head, is)
      | inr same ↦ inr (sym head ∙ sym (ap (λ (x : Clause). x.head) same), ap (λ (x : Clause). x.needs.items) same ∙ is)
    ]

    from : HasClause before h needs ⊎ ((h ≡ clause.head) × (clause.needs.items ≡ needs)) → HasClause after h needs
    from (inl (c, has, head, is)) = (c, (in_pushed before after clause pushed c).1 (inl has), head, is)
    from (inr (head, is)) = (clause, (in_pushed before after clause pushed clause).1 (inr refl), sym head, is)

module _ {L : Type 0} (net : Network L) where
  -- a state is nullable where the needs of one of its clauses are
  null_by : (p : ℕ) (s : State L) (needs : List ℕ) → state_at net p ≡ Some s → NeedsOf s needs
      → ((n : ℕ) → Contains needs n → IsNullable net n) → IsNullable net p
  null_by p s needs at need all = go s at need
    where
      start : (first : ℕ) (rest : List ℕ) → needs ≡ first ∷ rest → IsNullable net first
      start first rest is = all first (subst (λ (l : List ℕ). Contains l first) (sym is) (0, omega arith, refl))

      second : (first next : ℕ) → needs ≡ first ∷ next ∷ [] → IsNullable net next
      second first next is = all next (subst (λ (l : List ℕ). Contains l next) (sym is) (1, lit< tt, refl))

      edge : (s : State L) → state_at net p ≡ Some s → (t : ℕ) × Contains (epsilon_targets s) t × (needs ≡ t ∷ []) → IsNullable net p
      edge s at (t, has, is) = by_edge p t (s, at, has) (start t [] is)

      go : (s : State L) → state_at net p ≡ Some s → NeedsOf s needs → IsNullable net p
      go (End rule) at need = ends p rule at
      go (Call rule level back) at need = by_call p rule level back at (start (start_of rule) (back ∷ []) need)
          (second (start_of rule) back need)
      go (Decision ts) at need = edge (Decision ts) at need
      go (Edge label t) at need = edge (Edge label t) at need
      go (Predicate k t) at need = edge (Predicate k t) at need
      go (Level q t) at need = edge (Level q t) at need
      go (Action t) at need = edge (Action t) at need
      go (Empty t) at need = edge (Empty t) at need

  -- an edge gives a clause
  edge_needs : (s : State L) (t : ℕ) → Contains (epsilon_targets s) t → NeedsOf s (t ∷ [])
  edge_needs (End rule) t has = absurd (in_nothing t has)
  edge_needs (Call rule level back) t has = absurd (in_nothing t has)
  edge_needs (Decision ts) t has = (t, has, refl)
  edge_needs (Edge label u) t has = (t, has, refl)
  edge_needs (Predicate k u) t has = (t, has, refl)
  edge_needs (Level q u) t has = (t, has, refl)
  edge_needs (Action u) t has = (t, has, refl)
  edge_needs (Empty u) t has = (t, has, refl)

  module _ (clauses : List Clause) (are : AreClauses net.states clauses) where
    mutual
      null_follows : {n : ℕ} → Follows clauses n → IsNullable net n
      null_follows (by_clause n clause has head needs) =
          let (s, at, need) = (are n clause.needs.items).0 (clause, has, head, refl) in
          null_by n s clause.needs.items at need (λ m among. all_null needs m among)

      all_null : {ns : List ℕ} → AllFollow clauses ns → (m : ℕ) → Contains ns m → IsNullable net m
      all_null nothing m among = absurd (in_nothing m among)
      all_null (one_more n ns first rest) m among = elim (cons_cases n ns m among) [
        | inl same ↦ subst (IsNullable net) same (null_follows first)
        | inr other ↦ all_null rest m other
      ]

    -- of a clause with these needs the head follows
    by_needs : (n : ℕ) (needs : List ℕ) (s : State L) → state_at net n ≡ Some s → NeedsOf s needs → AllFollow clauses needs
        → Follows clauses n
    by_needs n needs s at need all =
        let (clause, has, head, is) = (are n needs).1 (s, at, need) in
        by_clause n clause has head (subst (AllFollow clauses) (sym is) all)

    follows_null : (n : ℕ) → IsNullable net n → Follows clauses n
    follows_null _ (ends p rule at) = by_needs p [] (End rule) at refl nothing
    follows_null _ (by_edge p t (s, at, has) m) = by_needs p (t ∷ []) s at (edge_needs s t has) (one_more t [] (follows_null t m) nothing)
    follows_null _ (by_call p rule level back at m k) =
        by_needs p (start_of rule ∷ back ∷ []) (Call rule level back) at refl
        (one_more (start_of rule) (back ∷ []) (follows_null (start_of rule) m) (one_more back [] (follows_null back k) nothing))

    -- a state is nullable exactly where that follows
    pub nullability : (n : ℕ) → Follows clauses n ↔ IsNullable net n
    nullability n = (λ f. null_follows f, λ m. follows_null n m)

-- the clause pushed has these needs
pub adds_this : (head : ℕ) (these : List ℕ) (before after : List Clause) (clause : Clause) → after ≡ before ++ clause ∷ []
    → clause.head ≡ head → clause.needs.items ≡ these → AddsClauses head (λ needs. needs ≡ these) before after
adds_this head these before after clause pushed same is h needs =
    let cases = has_pushed before after clause pushed h needs in (
      λ has. elim (cases.0 has) [ inl old ↦ inl old | inr new ↦ inr (new.0 ∙ same, sym new.1 ∙ is) ],
      λ some. cases.1 (elim some [ inl old ↦ inl old | inr new ↦ inr (new.0 ∙ sym same, is ∙ sym new.1) ]),
    )

-- the needs that some edges give
abbrev pub EdgeNeeds : List ℕ → List ℕ → Type 0
EdgeNeeds targets needs = (t : ℕ) × Contains targets t × (needs ≡ t ∷ [])

-- one more edge
pub adds_edge : (head t : ℕ) (some more : List ℕ) (before mid after : List Clause) (clause : Clause) → more ≡ some ++ t ∷ []
    → after ≡ mid ++ clause ∷ [] → clause.head ≡ head → clause.needs.items ≡ t ∷ [] → AddsClauses head (EdgeNeeds some) before mid
    → AddsClauses head (EdgeNeeds more) before after
adds_edge head t some more before mid after clause longer pushed same is adds h needs = (to, from)
  where
    cases : HasClause after h needs ↔ (HasClause mid h needs ⊎ ((h ≡ head) × (needs ≡ t ∷ [])))
    cases = adds_this head (t ∷ []) mid after clause pushed same is h needs

    to : HasClause after h needs → HasClause before h needs ⊎ ((h ≡ head) × EdgeNeeds more needs)
    to has = elim (cases.0 has) [
      | inl old ↦ elim ((adds h needs).0 old) [
        | inl first ↦ inl first
        | inr (at, (u, among, one)) ↦ inr
            (at, (u, (in_pushed some more t longer u).1 (inl among), one))
      ]
      | inr new ↦ inr (new.0, (t, (in_pushed some more t longer t).1 (inr refl), new.1))
    ]

    from : HasClause before h needs ⊎ ((h ≡ head) × EdgeNeeds more needs) → HasClause after h needs
    from (inl first) = cases.1 (inl ((adds h needs).1 (inl first)))
    from (inr (at, (u, among, one))) = cases.1 (elim ((in_pushed some more t longer u).0 among) [
      | inl old ↦ inl ((adds h needs).1 (inr (at, (u, old, one))))
      | inr new ↦ inr (at, one ∙ ap (λ (x : ℕ). x ∷ []) (sym new))
    ])

module _ {L : Type 0} where
  -- where a state ends and calls nothing, its needs are those of its edges
  pub other_needs : (s : State L) → ((rule : ℕ) → s ≡ End rule → ⊥) → ((rule level back : ℕ) → s ≡ Call rule level back → ⊥)
      → (needs : List ℕ) → EdgeNeeds (epsilon_targets s) needs ↔ NeedsOf s needs
  other_needs (End rule) no_end no_call needs = absurd (no_end rule refl)
  other_needs (Call rule level back) no_end no_call needs = absurd (no_call rule level back refl)
  other_needs (Decision ts) no_end no_call needs = (λ h. h, λ h. h)
  other_needs (Edge label t) no_end no_call needs = (λ h. h, λ h. h)
  other_needs (Predicate k t) no_end no_call needs = (λ h. h, λ h. h)
  other_needs (Level q t) no_end no_call needs = (λ h. h, λ h. h)
  other_needs (Action t) no_end no_call needs = (λ h. h, λ h. h)
  other_needs (Empty t) no_end no_call needs = (λ h. h, λ h. h)

  -- the clauses are those of the first states
  abbrev pub ClausesBefore : List (State L) → ℕ → List Clause → Type 0
  ClausesBefore states i clauses = (h : ℕ) (needs : List ℕ)
      → HasClause clauses h needs ↔ ((h < i) × (s : State L) × (slice_get states h ≡ Some s) × NeedsOf s needs)

  -- one more state
  pub clauses_more : (states : List (State L)) (i : ℕ) (s : State L) (before after : List Clause) → slice_get states i ≡ Some s
      → AddsClauses i (NeedsOf s) before after → ClausesBefore states i before → ClausesBefore states (i + 1) after
  clauses_more states i s before after here adds are h needs = (to, from)
    where
      to : HasClause after h needs → (h < i + 1) × (x : State L) × (slice_get states h ≡ Some x) × NeedsOf x needs
      to has = elim ((adds h needs).0 has) [
        | inl old ↦ (let (less, x, at, need) = (are h needs).0 old in (omega (arith, less), x, at, need))
        | inr new ↦ (omega (arith, new.0), s, ap (slice_get states) new.0 ∙ here, new.1)
      ]

      from : (h < i + 1) × (x : State L) × (slice_get states h ≡ Some x) × NeedsOf x needs → HasClause after h needs
      from (less, x, at, need) = (adds h needs).1 (elim (cases_lt h i) [
        | inl early ↦ inl ((are h needs).1 (early, x, at, need))
        | inr late ↦ (
            let same : h ≡ i = omega (arith, less, late) in
            inr (same, subst (λ (y : State L). NeedsOf y needs) (same_Some x s (sym at ∙ (ap (slice_get states) same ∙ here))) need)
            )
      ])

  -- all states
  pub clauses_end : (states : List (State L)) (i : ℕ) (clauses : List Clause) → length states ≤ i → ClausesBefore states i clauses
      → AreClauses states clauses
  clauses_end states i clauses past are h needs = (
    λ has. let (less, s, at, need) = (are h needs).0 has in (s, at, need),
    λ (s, at, need). (are h needs).1 (omega (arith, slice_get_within states h s at, past), s, at, need),
  )

  -- the heads are states
  pub heads_fit : (states : List (State L)) (clauses : List Clause) → AreClauses states clauses → All (λ c. c.head < length states) clauses
  heads_fit states clauses are k c within =
      let clause : Clause = get_or clauses k c in
      let (s, at, need) = (are clause.head clause.needs.items).0 (clause, Contains-get_or clauses k c within, refl, refl) in
      slice_get_within states clause.head s at

  -- the clauses of the edges are those of a state that ends and calls nothing
  pub adds_other : (head : ℕ) (s : State L) (targets : List ℕ) (before after : List Clause) → ((rule : ℕ) → s ≡ End rule → ⊥)
      → ((rule level back : ℕ) → s ≡ Call rule level back → ⊥) → targets ≡ epsilon_targets s
      → AddsClauses head (EdgeNeeds targets) before after → AddsClauses head (NeedsOf s) before after
  adds_other head s targets before after no_end no_call is adds h needs =
      let these : EdgeNeeds targets needs ↔ NeedsOf s needs =
      subst (λ (l : List ℕ). EdgeNeeds l needs ↔ NeedsOf s needs) (sym is) (other_needs s no_end no_call needs) in (
        λ has. elim ((adds h needs).0 has) [ inl old ↦ inl old | inr new ↦ inr (new.0, these.0 new.1) ],
        λ some. (adds h needs).1 (elim some [ inl old ↦ inl old | inr new ↦ inr (new.0, these.1 new.1) ]),
      )
