-- What follows from the clauses is that a grammar has a mode.
use Rattle.std.proofs.Common.{◌≡◌, ◌↔◌, ℕ, ◌<◌, List, [], ◌∷◌, length, inl, inr, sym, ap, ◌∙◌, subst, arith}
use Rattle.std.specs.List.{All, Contains}
use Rattle.std.proofs.lemmas.List.Elements.{All-contains, All-weaker}
use Rattle.std.proofs.lemmas.Option.{slice_get_within}
use Rattle.g4_horn.specs.declared.clause.Clause.{Clause}
use Rattle.g4_horn.specs.Follows.{Follows, by_clause, AllFollow, nothing, one_more}
use Rattle.g4_fetch.specs.declared.closure.WithImports.{WithImports}
use Rattle.g4_imports.specs.Clauses.{Covers, HasClause, IsRight}
use Rattle.g4_imports.specs.Modes.{HasMode, declares, imports}

same_first : (x y : ℕ) (xs ys : List ℕ) → x ∷ xs ≡ y ∷ ys → x ≡ y
same_first x y xs ys e = cc

not_none : (x : ℕ) (xs : List ℕ) → [] ≡ x ∷ xs → ⊥
not_none x xs e = cc

module _ (grammar : WithImports) (clauses : List Clause) (covers : Covers grammar (length grammar.files) grammar.imports clauses) where
  -- the heads are numbers of files
  pub heads_fit : All (λ c. c.head < length grammar.files) clauses
  heads_fit = All-weaker (IsRight grammar) (λ (c : Clause). c.head < length grammar.files) (λ c right. right.within) clauses covers.right

  -- what has a mode is a file
  mode_within : (n : ℕ) → HasMode grammar n → n < length grammar.files
  mode_within n (declares _ file at is) = slice_get_within grammar.files n file at
  mode_within n (imports import of within has) = within

  -- a clause of which what it needs has a mode
  clause_has : (c : Clause) → IsRight grammar c → ((m : ℕ) → c.needs.items ≡ m ∷ [] → HasMode grammar m) → HasMode grammar c.head
  clause_has c right needs = elim right.why [
    | inl own ↦ declares c.head own.has.file own.has.there own.has.declared
    | inr one ↦ subst (HasMode grammar) one.has.from
        (imports one.has.import one.has.of (subst (λ (n : ℕ). n < length grammar.files) (sym one.has.from) right.within)
        (subst (HasMode grammar) (sym one.has.to) (needs one.imported one.needs)))
  ]

  mutual
    follows_has : (n : ℕ) → Follows clauses n → HasMode grammar n
    follows_has n (by_clause _ c of at all) =
        subst (HasMode grammar) at
        (clause_has c (All-contains (IsRight grammar) clauses c covers.right of) (need_has c.needs.items all))

    -- where one thing is needed, it has a mode
    need_has : (needs : List ℕ) → AllFollow clauses needs → (m : ℕ) → needs ≡ m ∷ [] → HasMode grammar m
    need_has _ nothing m e = absurd (not_none m [] e)
    need_has _ (one_more k ks h hs) m e = subst (HasMode grammar) (same_first k m ks [] e) (follows_has k h)

  has_follows : (n : ℕ) → HasMode grammar n → Follows clauses n
  has_follows n (declares _ file at is) =
      let c = covers.declared n (slice_get_within grammar.files n file at) (record { file = file; there = at; declared = is }) in
      by_clause n c.clause c.among c.head_is (subst (AllFollow clauses) (sym c.needs_are) nothing)
  has_follows n (imports import of within has) =
      let c = covers.imported import of within (mode_within import.imported has) in
      by_clause n c.clause c.among c.head_is
      (subst (AllFollow clauses) (sym c.needs_are) (one_more import.imported [] (has_follows import.imported has) nothing))

  pub follows_where_has : (n : ℕ) → Follows clauses n ↔ HasMode grammar n
  follows_where_has n = (follows_has n, has_follows n)
