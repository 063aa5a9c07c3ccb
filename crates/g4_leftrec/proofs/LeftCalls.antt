-- A left call of a rule as it is laid is one of the rule as it is run.
use Rattle.std.proofs.Common.{◌≡◌, ◌⊎◌, ℕ, List, [], ◌∷◌, true, false, Some, None, inl, inr, subst, slice_get}
use Rattle.g4_source.specs.declared.element.Repeat.TheVariants.{Once}
use Rattle.g4_source.specs.Elements.{Element, atom, block, Elements, empty, then, Alternatives, none, or, only, either}
use Rattle.g4_source.specs.Marks.{onto}
use Rattle.g4_source.specs.Rules.{alternatives_of}
use Rattle.g4_grammar.specs.declared.step.Step.TheVariants.{Level, Empty}
use Rattle.g4_grammar.specs.LeftCalls.{Nullable, a_call, nothing, one_more, this, IsLeftOf, IsLeftOfAll, IsLeftOfOne}
use Rattle.g4_grammar.specs.OwnCalls.{IsOperator, IsLeftAsRun, IsLeftOfOneAsRun}
use Rattle.g4_grammar.specs.StepRules.{StepRule}
use Rattle.g4_grammar.specs.Steps.{CallsRule, ReadsSymbols}
use Rattle.g4_leftrec.specs.OwnCalls.{after_self, is_left_recursive}
use Rattle.g4_leftrec.specs.OwnSteps.{calls}
use Rattle.g4_leftrec.specs.Rewriting.{StepIn, Written, after_primary, formed, loop_of, operator_forms, primary_forms, turns_of}
use Rattle.g4_leftrec.proofs.Among.{left_one, one_left_as_run}
use Rattle.g4_leftrec.proofs.EmptyWord.{AreEmpty, OneIsEmpty, body_empty, call_empty, empty_back, primaries_empty}
use Rattle.g4_leftrec.proofs.OtherLevel.{DiffersInLevel, nowhere, here, later}
use Rattle.g4_leftrec.proofs.Sources.{IsOperatorOf, IsPrimaryOf, bodies, formed_cases, none_begins, operator_here, operator_source, primary_source, step_own}

-- these call rule j before anything is read, in these rules
abbrev pub AreLeft : List (Alternatives StepIn) → Elements StepIn → ℕ → Type 0
AreLeft rules xs j = IsLeftOfAll ReadsSymbols CallsRule rules xs j

-- one of the alternatives does
abbrev pub OneIsLeft : List (Alternatives StepIn) → Alternatives StepIn → ℕ → Type 0
OneIsLeft rules xs j = IsLeftOfOne ReadsSymbols CallsRule rules xs j

-- the same of an alternative of rule k as it is run
abbrev pub IsLeftRun : List (Alternatives StepIn) → ℕ → Elements StepIn → ℕ → Type 0
IsLeftRun rules k x j = IsLeftAsRun ReadsSymbols CallsRule CallsRule rules k x j

-- one of the alternatives does, as it is run
abbrev pub OneIsLeftRun : List (Alternatives StepIn) → ℕ → Alternatives StepIn → ℕ → Type 0
OneIsLeftRun rules k xs j = IsLeftOfOneAsRun ReadsSymbols CallsRule CallsRule rules k xs j

module _ (rules : List (Alternatives StepIn)) (j : ℕ) where
  -- an alternative that does not begin with the rule itself
  left_apart : (k : ℕ) (x : Elements StepIn) → after_self (calls k) x ≡ None → AreLeft rules x j → IsLeftRun rules k x j
  left_apart k empty h l = l
  left_apart k (then (atom a) xs) h (inl l) = inl
      (l, λ own. let begins : calls k a ≡ true = step_own k a own in let e : Some xs ≡ None = rw begins at h in absurd (cc))
  left_apart k (then (atom a) xs) h (inr l) = inr l
  left_apart k (then (block label repeat ys) xs) h l = l

  -- an alternative that begins with it, where the rule derives the empty word
  left_operator : (k : ℕ) (x rest : Elements StepIn) → IsOperator CallsRule k x rest
      → ((a : StepIn) → CallsRule a k → Nullable ReadsSymbols CallsRule rules (atom a)) → AreLeft rules rest j → IsLeftRun rules k x j
  left_operator k empty rest o silent l = absurd o
  left_operator k (then (atom a) xs) rest o silent l = inr (silent a o.0, subst (λ (ys : Elements StepIn). AreLeft rules ys j) o.1 l)
  left_operator k (then (block label repeat ys) xs) rest o silent l = absurd o

  -- elements with a call at another level
  differing_left : {k : ℕ} {xs ys : Elements StepIn} → DiffersInLevel k xs ys → AreLeft rules ys j → AreLeft rules xs j
  differing_left (nowhere xs) l = l
  differing_left (here p q xs) (inl l) = inl l
  differing_left {k} (here p q xs) (inr l) = inr (call_empty rules k p q l.0, l.1)
  differing_left (later x xs ys d) (inl l) = inl l
  differing_left (later x xs ys d) (inr l) = inr (l.0, differing_left d l.1)

  -- elements in two parts
  onto_left : (xs ys : Elements StepIn) → AreLeft rules (onto xs ys) j → AreLeft rules xs j ⊎ (AreEmpty rules xs × AreLeft rules ys j)
  onto_left empty ys l = inr (nothing, l)
  onto_left (then x xs) ys (inl l) = inl (inl l)
  onto_left (then x xs) ys (inr l) = elim (onto_left xs ys l.1)
      [ inl front ↦ inl (inr (l.0, front)) | inr back ↦ inr (one_more x xs l.0 back.0, back.1) ]

  -- an empty step calls nothing
  after_empty : (more : Elements StepIn) → AreLeft rules (then (atom Empty) more) j → AreLeft rules more j
  after_empty more (inl l) = absurd l
  after_empty more (inr l) = l.1

  -- a block taken once, or what follows
  block_left : (ys : Alternatives StepIn) (more : Elements StepIn) → AreLeft rules (then (block None Once ys) more) j
      → OneIsLeft rules ys j ⊎ (OneIsEmpty rules ys × AreLeft rules more j)
  block_left ys more (inl l) = inl l
  block_left ys more (inr l) = inr (body_empty rules l.0, l.1)

  -- one of the primaries, or what follows
  primary_left : (primaries : List (Elements StepIn)) (more : Elements StepIn) → AreLeft rules (after_primary primaries more) j
      → OneIsLeft rules (either primaries) j ⊎ (OneIsEmpty rules (either primaries) × AreLeft rules more j)
  primary_left [] more l = block_left none more l
  primary_left (x ∷ []) more l = elim (onto_left x (then (atom Empty) more) l)
      [ inl front ↦ inl (inl front) | inr back ↦ inr (this x none back.0, after_empty more back.1) ]
  primary_left (x ∷ y ∷ others) more l = block_left (either (x ∷ y ∷ others)) more l

  module _ (k : ℕ) (xs : List Written) (is : slice_get rules k ≡ Some (bodies xs)) where
    -- a left call of a primary
    in_primary : OneIsLeft rules (either (primary_forms k xs)) j → OneIsLeftRun rules k (bodies xs) j
    in_primary l =
        let found = left_one ReadsSymbols CallsRule rules (either (primary_forms k xs)) j l in
        let source : IsPrimaryOf k (bodies xs) found.0 = primary_source k xs found.0 found.1 in
        one_left_as_run ReadsSymbols CallsRule rules CallsRule k (bodies xs) source.written j source.among
        (left_apart k source.written source.apart (differing_left source.differs found.2))

    -- a left call of an operator, where a primary derives the empty word
    in_operator : OneIsEmpty rules (either (primary_forms k xs)) → OneIsLeft rules (either (operator_forms k xs)) j
        → OneIsLeftRun rules k (bodies xs) j
    in_operator silent l =
        let found = left_one ReadsSymbols CallsRule rules (either (operator_forms k xs)) j l in
        let source : IsOperatorOf k (bodies xs) found.0 = operator_source k xs found.0 found.1 in
        let back : AreLeft rules (then (atom (Level source.level)) source.changed) j =
        subst (λ (ys : Elements StepIn). AreLeft rules ys j) source.is found.2 in
        let rest : AreLeft rules source.rest j = elim back [ inl never ↦ absurd never | inr more ↦ differing_left source.differs more.1 ] in
        one_left_as_run ReadsSymbols CallsRule rules CallsRule k (bodies xs) source.written j source.among
        (left_operator k source.written source.rest (operator_here k source.written source.rest source.begins)
        (λ a c. a_call a k (bodies xs) c is (primaries_empty rules k xs silent)) rest)

    -- any number of operators
    in_turns : OneIsEmpty rules (either (primary_forms k xs)) → AreLeft rules (turns_of (operator_forms k xs)) j
        → OneIsLeftRun rules k (bodies xs) j
    in_turns silent (inl l) = in_operator silent l
    in_turns silent (inr l) = absurd l.1

    -- the whole loop
    in_loop : OneIsLeft rules (only (loop_of k xs)) j → OneIsLeftRun rules k (bodies xs) j
    in_loop (inl l) = elim (primary_left (primary_forms k xs) (turns_of (operator_forms k xs)) l)
        [ inl front ↦ in_primary front | inr back ↦ in_turns back.0 back.1 ]
    in_loop (inr l) = absurd l

    -- a rule that stays as it is written
    in_written : is_left_recursive (calls k) xs ≡ false → OneIsLeft rules (bodies xs) j → OneIsLeftRun rules k (bodies xs) j
    in_written plain l =
        let found = left_one ReadsSymbols CallsRule rules (bodies xs) j l in
        one_left_as_run ReadsSymbols CallsRule rules CallsRule k (bodies xs) found.0 j found.1
        (left_apart k found.0 (none_begins k xs plain found.0 found.1) found.2)

  -- a left call of rule k as it is laid
  pub formed_left : (k : ℕ) (rule : StepRule) → slice_get rules k ≡ Some (alternatives_of rule)
      → OneIsLeft rules (alternatives_of (formed (k, rule))) j → OneIsLeftRun rules k (alternatives_of rule) j
  formed_left k rule is l = elim (formed_cases k rule) [
    | inl plain ↦ in_written k rule.alternatives is plain.0 (subst (λ (ys : Alternatives StepIn). OneIsLeft rules ys j) plain.1 l)
    | inr looped ↦ in_loop k rule.alternatives is (subst (λ (ys : Alternatives StepIn). OneIsLeft rules ys j) looped.1 l)
  ]

-- left calls by which words of other rules are empty, are left calls by these
module _ (rules laid : List (Alternatives StepIn))
    (back : (k : ℕ) (ys : Alternatives StepIn) → slice_get laid k ≡ Some ys → OneIsEmpty rules ys
    → (xs : Alternatives StepIn) × (slice_get rules k ≡ Some xs) × OneIsEmpty rules xs) (j : ℕ) where
  mutual
    -- an element
    left_back : (x : Element StepIn) → IsLeftOf ReadsSymbols CallsRule laid x j → IsLeftOf ReadsSymbols CallsRule rules x j
    left_back (atom a) l = l
    left_back (block label repeat xs) l = one_left_back xs l

    -- elements one after another
    all_left_back : (xs : Elements StepIn) → AreLeft laid xs j → AreLeft rules xs j
    all_left_back empty l = l
    all_left_back (then x xs) (inl l) = inl (left_back x l)
    all_left_back (then x xs) (inr l) = inr (empty_back rules laid back l.0, all_left_back xs l.1)

    -- alternatives
    pub one_left_back : (xs : Alternatives StepIn) → OneIsLeft laid xs j → OneIsLeft rules xs j
    one_left_back none l = l
    one_left_back (or x xs) (inl l) = inl (all_left_back x l)
    one_left_back (or x xs) (inr l) = inr (one_left_back xs l)
