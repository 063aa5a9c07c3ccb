-- No loop of rules as they are laid has a body that derives the empty word.
use Rattle.std.proofs.Common.{◌≡◌, ◌⊎◌, ℕ, List, [], ◌∷◌, Some, inl, inr, refl, subst, slice_get}
use Rattle.g4_source.specs.declared.element.Repeat.TheVariants.{Once, Optional, Star, Plus}
use Rattle.g4_source.specs.Elements.{Element, atom, block, Elements, empty, then, Alternatives, none, or, only, either}
use Rattle.g4_source.specs.Marks.{onto}
use Rattle.g4_source.specs.Rules.{alternatives_of}
use Rattle.g4_grammar.specs.declared.step.Step.TheVariants.{Level, Empty}
use Rattle.g4_grammar.specs.Loops.{IsEmptyBody, HasEmptyLoop, OneHasEmptyLoop, SomeHasEmptyLoop}
use Rattle.g4_grammar.specs.OwnCalls.{HasEmptyOperator}
use Rattle.g4_grammar.specs.StepRules.{StepRule}
use Rattle.g4_grammar.specs.Steps.{CallsRule, ReadsSymbols}
use Rattle.g4_grammar.proofs.Empty.{one_derives_nothing, one_is_nullable}
use Rattle.g4_leftrec.specs.OwnCalls.{after_self}
use Rattle.g4_leftrec.specs.OwnSteps.{calls}
use Rattle.g4_leftrec.specs.Rewriting.{StepIn, Written, after_primary, formed, loop_of, operator_forms, primary_forms, turns_of}
use Rattle.g4_leftrec.proofs.Among.{looped_one, nullable_one, one_looped}
use Rattle.g4_leftrec.proofs.EmptyWord.{AreEmpty, OneIsEmpty, differing_empty, front_empty, one_empty_back}
use Rattle.g4_leftrec.proofs.OtherLevel.{DiffersInLevel, nowhere, here, later}
use Rattle.g4_leftrec.proofs.Sources.{IsOperatorOf, IsPrimaryOf, bodies, formed_cases, operator_here, operator_source, primary_source}

-- one of these has a loop that can be empty, in these rules
abbrev pub HaveLoop : List (Alternatives StepIn) → Elements StepIn → Type 0
HaveLoop rules xs = OneHasEmptyLoop ReadsSymbols CallsRule rules xs

-- one of the alternatives has
abbrev pub OneHasLoop : List (Alternatives StepIn) → Alternatives StepIn → Type 0
OneHasLoop rules xs = SomeHasEmptyLoop ReadsSymbols CallsRule rules xs

-- an alternative that begins with the rule itself has the loops of what follows
operator_loop : (rules : List (Alternatives StepIn)) (k : ℕ) (x rest : Elements StepIn) → after_self (calls k) x ≡ Some rest
    → HaveLoop rules rest → HaveLoop rules x
operator_loop rules k empty rest h l = absurd (cc)
operator_loop rules k (then (atom a) xs) rest h l = let operator = operator_here k (then (atom a) xs) rest h in
    inr (subst (HaveLoop rules) operator.1 l)
operator_loop rules k (then (block label repeat ys) xs) rest h l = absurd (operator_here k (then (block label repeat ys) xs) rest h)

module _ (rules : List (Alternatives StepIn)) where
  -- elements with a call at another level
  differing_loop : {k : ℕ} {xs ys : Elements StepIn} → DiffersInLevel k xs ys → HaveLoop rules ys → HaveLoop rules xs
  differing_loop (nowhere xs) l = l
  differing_loop (here p q xs) (inl l) = absurd l
  differing_loop (here p q xs) (inr l) = inr l
  differing_loop (later x xs ys d) (inl l) = inl l
  differing_loop (later x xs ys d) (inr l) = inr (differing_loop d l)

  -- elements in two parts
  onto_loop : (xs ys : Elements StepIn) → HaveLoop rules (onto xs ys) → HaveLoop rules xs ⊎ HaveLoop rules ys
  onto_loop empty ys l = inr l
  onto_loop (then x xs) ys (inl l) = inl (inl l)
  onto_loop (then x xs) ys (inr l) = elim (onto_loop xs ys l) [ inl front ↦ inl (inr front) | inr back ↦ inr back ]

  -- an empty step has no loop
  after_empty : (more : Elements StepIn) → HaveLoop rules (then (atom Empty) more) → HaveLoop rules more
  after_empty more (inl l) = absurd l
  after_empty more (inr l) = l

  -- one of the primaries, or what follows
  primary_loop : (primaries : List (Elements StepIn)) (more : Elements StepIn) → HaveLoop rules (after_primary primaries more)
      → OneHasLoop rules (either primaries) ⊎ HaveLoop rules more
  primary_loop [] more l = l
  primary_loop (x ∷ []) more l = elim (onto_loop x (then (atom Empty) more) l)
      [ inl front ↦ inl (inl front) | inr back ↦ inr (after_empty more back) ]
  primary_loop (x ∷ y ∷ others) more l = l

  module _ (k : ℕ) (xs : List Written) (full : HasEmptyOperator ReadsSymbols CallsRule CallsRule rules k (bodies xs) → ⊥) where
    -- the loop of a primary is one of an alternative
    in_primary : OneHasLoop rules (either (primary_forms k xs)) → OneHasLoop rules (bodies xs)
    in_primary l =
        let found = looped_one ReadsSymbols CallsRule rules (either (primary_forms k xs)) l in
        let source : IsPrimaryOf k (bodies xs) found.0 = primary_source k xs found.0 found.1 in
        one_looped ReadsSymbols CallsRule rules (bodies xs) source.written source.among (differing_loop source.differs found.2)

    -- and that of an operator
    in_operator : OneHasLoop rules (either (operator_forms k xs)) → OneHasLoop rules (bodies xs)
    in_operator l =
        let found = looped_one ReadsSymbols CallsRule rules (either (operator_forms k xs)) l in
        let source : IsOperatorOf k (bodies xs) found.0 = operator_source k xs found.0 found.1 in
        let back : HaveLoop rules (then (atom (Level source.level)) source.changed) = subst (HaveLoop rules) source.is found.2 in
        let rest : HaveLoop rules source.rest = elim back [ inl never ↦ absurd never | inr more ↦ differing_loop source.differs more ] in
        one_looped ReadsSymbols CallsRule rules (bodies xs) source.written source.among
        (operator_loop rules k source.written source.rest source.begins rest)

    -- no operator derives the empty word
    turns_read : IsEmptyBody ReadsSymbols CallsRule rules (either (operator_forms k xs)) → ⊥
    turns_read e =
        let found = nullable_one ReadsSymbols CallsRule rules (either (operator_forms k xs))
        (one_is_nullable ReadsSymbols CallsRule rules e refl) in
        let source : IsOperatorOf k (bodies xs) found.0 = operator_source k xs found.0 found.1 in
        let rest : AreEmpty rules source.rest = differing_empty rules source.differs
        (front_empty rules (subst (AreEmpty rules) source.is found.2)).1 in
        full (source.written, source.rest, source.among, operator_here k source.written source.rest source.begins, rest)

    -- any number of operators
    in_turns : HaveLoop rules (turns_of (operator_forms k xs)) → OneHasLoop rules (bodies xs)
    in_turns (inl (inl e)) = absurd (turns_read e)
    in_turns (inl (inr l)) = in_operator l
    in_turns (inr l) = absurd l

    -- the whole loop
    in_loop : OneHasLoop rules (only (loop_of k xs)) → OneHasLoop rules (bodies xs)
    in_loop (inl l) = elim (primary_loop (primary_forms k xs) (turns_of (operator_forms k xs)) l)
        [ inl front ↦ in_primary front | inr back ↦ in_turns back ]
    in_loop (inr l) = absurd l

  -- a loop that can be empty of a rule as it is laid is one of the rule
  pub formed_loop : (k : ℕ) (rule : StepRule) → (HasEmptyOperator ReadsSymbols CallsRule CallsRule rules k (alternatives_of rule) → ⊥)
      → OneHasLoop rules (alternatives_of (formed (k, rule))) → OneHasLoop rules (alternatives_of rule)
  formed_loop k rule full l = elim (formed_cases k rule) [
    | inl plain ↦ subst (OneHasLoop rules) plain.1 l
    | inr looped ↦ in_loop k rule.alternatives full (subst (OneHasLoop rules) looped.1 l)
  ]

-- a loop of other rules can be empty only where it can be in these
module _ (rules laid : List (Alternatives StepIn))
    (back : (k : ℕ) (ys : Alternatives StepIn) → slice_get laid k ≡ Some ys → OneIsEmpty rules ys
    → (xs : Alternatives StepIn) × (slice_get rules k ≡ Some xs) × OneIsEmpty rules xs) where
  -- a body
  body_back : (xs : Alternatives StepIn) → IsEmptyBody ReadsSymbols CallsRule laid xs → IsEmptyBody ReadsSymbols CallsRule rules xs
  body_back xs e = one_derives_nothing ReadsSymbols CallsRule rules
      (one_empty_back rules laid back (one_is_nullable ReadsSymbols CallsRule laid e refl))

  mutual
    -- an element
    loop_back : (x : Element StepIn) → HasEmptyLoop ReadsSymbols CallsRule laid x → HasEmptyLoop ReadsSymbols CallsRule rules x
    loop_back (atom a) l = l
    loop_back (block label Once xs) l = one_loop_back xs l
    loop_back (block label (Optional sign) xs) l = one_loop_back xs l
    loop_back (block label (Star sign) xs) (inl e) = inl (body_back xs e)
    loop_back (block label (Star sign) xs) (inr l) = inr (one_loop_back xs l)
    loop_back (block label (Plus sign) xs) (inl e) = inl (body_back xs e)
    loop_back (block label (Plus sign) xs) (inr l) = inr (one_loop_back xs l)

    -- elements one after another
    all_loop_back : (xs : Elements StepIn) → HaveLoop laid xs → HaveLoop rules xs
    all_loop_back empty l = l
    all_loop_back (then x xs) (inl l) = inl (loop_back x l)
    all_loop_back (then x xs) (inr l) = inr (all_loop_back xs l)

    -- alternatives
    pub one_loop_back : (xs : Alternatives StepIn) → OneHasLoop laid xs → OneHasLoop rules xs
    one_loop_back none l = l
    one_loop_back (or x xs) (inl l) = inl (all_loop_back x l)
    one_loop_back (or x xs) (inr l) = inr (one_loop_back xs l)
