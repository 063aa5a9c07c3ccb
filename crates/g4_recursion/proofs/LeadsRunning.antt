-- The left calls of rules as they are run: of an alternative, of the alternatives of a rule one by one, and of rules one by one.
use Rattle.std.proofs.Common.{◌≡◌, ◌↔◌, ℕ, ◌+◌, ◌≤◌, ◌⊎◌, inl, inr, List, [], ◌∷◌, ◌++◌, length, drop, Bool, Some, Vec, refl, sym, ap, ◌∙◌, subst}
use Rattle.std.specs.Global.{Global}
use Rattle.std.specs.List.{slice_get, Contains}
use Rattle.std.proofs.lemmas.List.{drop_all}
use Rattle.std.proofs.lemmas.Option.{same_Some}
use Rattle.g4_source.specs.Elements.{atom, block, Elements, empty, then, Alternatives, none, or, either}
use Rattle.g4_grammar.specs.LeftCalls.{Nullable, IsLeftOfAll}
use Rattle.g4_grammar.specs.OwnCalls.{IsOperator, IsLeftAsRun, IsLeftOfOneAsRun, LeftCallsAsRun}
use Rattle.g4_recursion.specs.declared.lead.Lead.{Lead}
use Rattle.g4_recursion.specs.declared.lead.Lead.TheVariants.{Empty, Symbol, Call}
use Rattle.g4_recursion.specs.Leads.{ReadsLead, CallsLead, IsNullableRule, OwnLead}
use Rattle.g4_recursion.proofs.Calling.{calls_more}
use Rattle.g4_recursion.proofs.Parts.{call_parts}
use Rattle.g4_recursion.proofs.Steps.{drop_at, in_nothing, pushed_cases}

-- what calls a rule is a call of it
pub is_call : (lead : Lead) (k : ℕ) → CallsLead lead k → lead ≡ Call k
is_call Empty k h = absurd h
is_call Symbol k h = absurd h
is_call (Call j) k h = ap (λ (n : ℕ). Call n) (sym h)

module _ (rules : List (Alternatives Lead)) (operators : List Bool) where
  -- the left calls of an alternative of rule k, and of one of the alternatives, as the rule is run
  abbrev Runs : ℕ → Elements Lead → ℕ → Type 0
  Runs = IsLeftAsRun ReadsLead CallsLead (OwnLead operators) rules

  abbrev RunsOne : ℕ → Alternatives Lead → ℕ → Type 0
  RunsOne = IsLeftOfOneAsRun ReadsLead CallsLead (OwnLead operators) rules

  -- a call of a rule derives the empty word where the rule does
  null_call : (a : Lead) (k : ℕ) → CallsLead a k → IsNullableRule rules k ↔ Nullable ReadsLead CallsLead rules (atom a)
  null_call a k called = subst (λ (l : Lead). IsNullableRule rules k ↔ Nullable ReadsLead CallsLead rules (atom l))
      (sym (is_call a k called)) (call_parts rules k)

  -- an operator has the left calls of what follows the call of its rule, where this rule derives the empty word
  of_operator : (k j : ℕ) (xs rest : Elements Lead) → IsOperator (OwnLead operators) k xs rest
      → Runs k xs j ↔ (IsNullableRule rules k × IsLeftOfAll ReadsLead CallsLead rules rest j)
  of_operator k j empty rest h = absurd h
  of_operator k j (then (atom a) xs) rest (own, same) =
      let null = null_call a k own.0 in (
        λ h. elim h [
          | inl called ↦ absurd (called.1 own)
          | inr after ↦
              (null.1 after.0, subst (λ (ys : Elements Lead). IsLeftOfAll ReadsLead CallsLead rules ys j) (sym same) after.1)
        ],
        λ h. inr (null.0 h.0, subst (λ (ys : Elements Lead). IsLeftOfAll ReadsLead CallsLead rules ys j) same h.1),
      )
  of_operator k j (then (block label repeat ys) xs) rest h = absurd h

  -- any other alternative has all its left calls
  of_primary : (k j : ℕ) (xs : Elements Lead) → ((rest : Elements Lead) → IsOperator (OwnLead operators) k xs rest → ⊥)
      → Runs k xs j ↔ IsLeftOfAll ReadsLead CallsLead rules xs j
  of_primary k j empty never = (λ h. h, λ h. h)
  of_primary k j (then (atom a) xs) never = (
    λ h. elim h [ inl called ↦ inl called.0 | inr after ↦ inr after ],
    λ h. elim h [ inl called ↦ inl (called, λ own. never xs (own, refl)) | inr after ↦ inr after ],
  )
  of_primary k j (then (block label repeat ys) xs) never = (λ h. h, λ h. h)

  -- what is added for an operator of a rule that derives the empty word
  pub adds_behind : (k : ℕ) (xs rest : Elements Lead) (before after : List ℕ) → IsOperator (OwnLead operators) k xs rest
      → IsNullableRule rules k →
      ((j : ℕ) → Contains after j ↔ (Contains before j ⊎ IsLeftOfAll ReadsLead CallsLead rules rest j)) → (j : ℕ)
      → Contains after j ↔ (Contains before j ⊎ Runs k xs j)
  adds_behind k xs rest before after is null added j =
      let both = of_operator k j xs rest is in (
        λ h. elim ((added j).0 h) [ inl old ↦ inl old | inr new ↦ inr (both.1 (null, new)) ],
        λ h. elim h [ inl old ↦ (added j).1 (inl old) | inr new ↦ (added j).1 (inr (both.0 new).1) ],
      )

  -- nothing is added for an operator of a rule that does not
  pub adds_nothing : (k : ℕ) (xs rest : Elements Lead) (before : List ℕ) → IsOperator (OwnLead operators) k xs rest
      → (IsNullableRule rules k → ⊥) → (j : ℕ) → Contains before j ↔ (Contains before j ⊎ Runs k xs j)
  adds_nothing k xs rest before is never j = (
    λ h. inl h,
    λ h. elim h [ inl old ↦ old | inr new ↦ absurd (never ((of_operator k j xs rest is).0 new).0) ],
  )

  -- what is added for any other alternative
  pub adds_all : (k : ℕ) (xs : Elements Lead) (before after : List ℕ)
      → ((rest : Elements Lead) → IsOperator (OwnLead operators) k xs rest → ⊥) →
      ((j : ℕ) → Contains after j ↔ (Contains before j ⊎ IsLeftOfAll ReadsLead CallsLead rules xs j)) → (j : ℕ)
      → Contains after j ↔ (Contains before j ⊎ Runs k xs j)
  adds_all k xs before after never added j =
      let both = of_primary k j xs never in (
        λ h. elim ((added j).0 h) [ inl old ↦ inl old | inr new ↦ inr (both.1 new) ],
        λ h. elim h [ inl old ↦ (added j).1 (inl old) | inr new ↦ (added j).1 (inr (both.0 new)) ],
      )

  -- The calls so far, and those of the alternatives from an index on, are those of all alternatives.
  abbrev pub RunsLeft : ℕ → List (Elements Lead) → List ℕ → ℕ → Type 0
  RunsLeft k xs now i = (j : ℕ) → (Contains now j ⊎ RunsOne k (either (drop i xs)) j) ↔ RunsOne k (either xs) j

  pub runs_start : (k : ℕ) (xs : List (Elements Lead)) → RunsLeft k xs [] 0
  runs_start k xs j = (λ h. elim h [ inl old ↦ absurd (in_nothing j old) | inr new ↦ new ], λ h. inr h)

  -- one more alternative
  pub runs_step : (k : ℕ) (xs : List (Elements Lead)) (i : ℕ) (x : Elements Lead) (now later : List ℕ) → slice_get xs i ≡ Some x
      → ((j : ℕ) → Contains later j ↔ (Contains now j ⊎ Runs k x j)) → RunsLeft k xs now i → RunsLeft k xs later (i + 1)
  runs_step k xs i x now later at one before j =
      let rest : Alternatives Lead = either (drop (i + 1) xs) in
      let split : either (drop i xs) ≡ or x rest = ap either (drop_at xs i x at) in
      let more = calls_more (Contains later j) (Contains now j) (Runs k x j) (RunsOne k rest j) (one j) in
      let so_far = subst (λ (ys : Alternatives Lead). (Contains now j ⊎ RunsOne k ys j) ↔ RunsOne k (either xs) j) split (before j) in
      (λ h. so_far.0 (more.0 h), λ h. more.1 (so_far.1 h))

  pub runs_end : (k : ℕ) (xs : List (Elements Lead)) (i : ℕ) (now : List ℕ) → length xs ≤ i → RunsLeft k xs now i → (j : ℕ)
      → Contains now j ↔ RunsOne k (either xs) j
  runs_end k xs i now past all j =
      let last : either (drop i xs) ≡ none = ap either (drop_all i xs past) in (
        λ h. (all j).0 (inl h),
        λ h. elim ((all j).1 h) [ inl old ↦ old | inr new ↦ absurd (subst (λ (ys : Alternatives Lead). RunsOne k ys j) last new) ],
      )

  -- The lists are the left calls of the first rules.
  abbrev pub AreLeftCalls : List (Vec ℕ Global) → Type 0
  AreLeftCalls all = (k : ℕ) (calls : Vec ℕ Global) → slice_get all k ≡ Some calls → (j : ℕ)
      → Contains calls.items j ↔ LeftCallsAsRun ReadsLead CallsLead (OwnLead operators) rules k j

  -- one more rule
  pub left_calls_more : (all : List (Vec ℕ Global)) (calls : Vec ℕ Global) (i : ℕ) (xs : Alternatives Lead) → length all ≡ i
      → slice_get rules i ≡ Some xs → ((j : ℕ) → Contains calls.items j ↔ RunsOne i xs j) → AreLeftCalls all
      → AreLeftCalls (all ++ calls ∷ [])
  left_calls_more all calls i xs count at one before k some there = elim (pushed_cases all calls k some there) [
    | inl old ↦ before k some old
    | inr new ↦ λ j.
        let here : k ≡ i = new.0 ∙ count in
        let found : slice_get rules k ≡ Some xs = ap (slice_get rules) here ∙ at in
        let same : calls ≡ some = new.1 in
        let this : Contains some.items j ↔ RunsOne k xs j =
        subst (λ (v : Vec ℕ Global). Contains v.items j ↔ RunsOne k xs j) same
        (subst (λ (n : ℕ). Contains calls.items j ↔ RunsOne n xs j) (sym here) (one j)) in (
          λ h. (xs, found, this.0 h),
          λ h. this.1 (subst (λ (ys : Alternatives Lead). RunsOne k ys j) (same_Some h.0 xs (sym h.1 ∙ found)) h.2),
        )
  ]
