-- A call in a rule as it is laid is one in the rule as it is written.
use Rattle.std.proofs.Common.{◌≡◌, ◌⊎◌, ℕ, List, [], ◌∷◌, Some, inl, inr, subst}
use Rattle.g4_source.specs.Elements.{atom, block, Elements, empty, then, Alternatives, only, either}
use Rattle.g4_source.specs.Marks.{onto}
use Rattle.g4_source.specs.Rules.{alternatives_of}
use Rattle.g4_grammar.specs.declared.step.Step.TheVariants.{Level, Empty}
use Rattle.g4_grammar.specs.LeftCalls.{OneHasCall, SomeHasCall}
use Rattle.g4_grammar.specs.StepRules.{StepRule}
use Rattle.g4_grammar.specs.Steps.{CallsRule}
use Rattle.g4_leftrec.specs.OwnCalls.{after_self}
use Rattle.g4_leftrec.specs.OwnSteps.{calls}
use Rattle.g4_leftrec.specs.Rewriting.{StepIn, Written, after_primary, formed, loop_of, operator_forms, primary_forms, turns_of}
use Rattle.g4_leftrec.proofs.Among.{calling_one, one_calling}
use Rattle.g4_leftrec.proofs.OtherLevel.{DiffersInLevel, nowhere, here, later}
use Rattle.g4_leftrec.proofs.Sources.{IsOperatorOf, IsPrimaryOf, bodies, formed_cases, operator_here, operator_source, primary_source}

-- one of these calls rule j
abbrev HaveCall : Elements StepIn → ℕ → Type 0
HaveCall xs j = OneHasCall CallsRule xs j

-- one of the alternatives does
abbrev OneCalls : Alternatives StepIn → ℕ → Type 0
OneCalls xs j = SomeHasCall CallsRule xs j

module _ (j : ℕ) where
  -- elements with a call at another level
  differing_call : {k : ℕ} {xs ys : Elements StepIn} → DiffersInLevel k xs ys → HaveCall ys j → HaveCall xs j
  differing_call (nowhere xs) c = c
  differing_call (here p q xs) (inl c) = inl c
  differing_call (here p q xs) (inr c) = inr c
  differing_call (later x xs ys d) (inl c) = inl c
  differing_call (later x xs ys d) (inr c) = inr (differing_call d c)

  -- elements in two parts
  onto_call : (xs ys : Elements StepIn) → HaveCall (onto xs ys) j → HaveCall xs j ⊎ HaveCall ys j
  onto_call empty ys c = inr c
  onto_call (then x xs) ys (inl c) = inl (inl c)
  onto_call (then x xs) ys (inr c) = elim (onto_call xs ys c) [ inl front ↦ inl (inr front) | inr back ↦ inr back ]

  -- an empty step calls nothing
  after_empty : (more : Elements StepIn) → HaveCall (then (atom Empty) more) j → HaveCall more j
  after_empty more (inl c) = absurd c
  after_empty more (inr c) = c

  -- one of the primaries, or what follows
  primary_call : (primaries : List (Elements StepIn)) (more : Elements StepIn) → HaveCall (after_primary primaries more) j
      → OneCalls (either primaries) j ⊎ HaveCall more j
  primary_call [] more c = c
  primary_call (x ∷ []) more c = elim (onto_call x (then (atom Empty) more) c)
      [ inl front ↦ inl (inl front) | inr back ↦ inr (after_empty more back) ]
  primary_call (x ∷ y ∷ others) more c = c

  -- an alternative that begins with the rule itself has the calls of what follows
  operator_call : (x rest : Elements StepIn) (k : ℕ) → after_self (calls k) x ≡ Some rest → HaveCall rest j → HaveCall x j
  operator_call empty rest k h c = absurd (cc)
  operator_call (then (atom a) xs) rest k h c = let operator = operator_here k (then (atom a) xs) rest h in
      inr (subst (λ (ys : Elements StepIn). HaveCall ys j) operator.1 c)
  operator_call (then (block label repeat ys) xs) rest k h c = absurd (operator_here k (then (block label repeat ys) xs) rest h)

  module _ (k : ℕ) (xs : List Written) where
    -- a call of a primary is one of an alternative
    in_primary : OneCalls (either (primary_forms k xs)) j → OneCalls (bodies xs) j
    in_primary c =
        let found = calling_one CallsRule (either (primary_forms k xs)) j c in
        let source : IsPrimaryOf k (bodies xs) found.0 = primary_source k xs found.0 found.1 in
        one_calling CallsRule (bodies xs) source.written j source.among (differing_call source.differs found.2)

    -- and a call of an operator
    in_operator : OneCalls (either (operator_forms k xs)) j → OneCalls (bodies xs) j
    in_operator c =
        let found = calling_one CallsRule (either (operator_forms k xs)) j c in
        let source : IsOperatorOf k (bodies xs) found.0 = operator_source k xs found.0 found.1 in
        let back : HaveCall (then (atom (Level source.level)) source.changed) j =
        subst (λ (ys : Elements StepIn). HaveCall ys j) source.is found.2 in
        let rest : HaveCall source.rest j = elim back [ inl never ↦ absurd never | inr more ↦ differing_call source.differs more ] in
        one_calling CallsRule (bodies xs) source.written j source.among (operator_call source.written source.rest k source.begins rest)

    -- any number of operators
    in_turns : HaveCall (turns_of (operator_forms k xs)) j → OneCalls (bodies xs) j
    in_turns (inl c) = in_operator c
    in_turns (inr c) = absurd c

    -- the whole loop
    in_loop : OneCalls (only (loop_of k xs)) j → OneCalls (bodies xs) j
    in_loop (inl c) = elim (primary_call (primary_forms k xs) (turns_of (operator_forms k xs)) c)
        [ inl front ↦ in_primary front | inr back ↦ in_turns back ]
    in_loop (inr c) = absurd c

  -- a call of a rule as it is laid
  pub formed_call : (k : ℕ) (rule : StepRule) → SomeHasCall CallsRule (alternatives_of (formed (k, rule))) j
      → SomeHasCall CallsRule (alternatives_of rule) j
  formed_call k rule c = elim (formed_cases k rule) [
    | inl plain ↦ subst (λ (ys : Alternatives StepIn). OneCalls ys j) plain.1 c
    | inr looped ↦ in_loop k rule.alternatives (subst (λ (ys : Alternatives StepIn). OneCalls ys j) looped.1 c)
  ]
