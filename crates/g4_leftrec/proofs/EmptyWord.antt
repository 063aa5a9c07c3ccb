-- What derives the empty word in rules as they are laid, does so in the rules as they are written.
use Rattle.std.proofs.Common.{◌≡◌, ℕ, List, [], ◌∷◌, Some, None, inl, inr, refl, subst, slice_get}
use Rattle.g4_source.specs.declared.element.Repeat.TheVariants.{Once}
use Rattle.g4_source.specs.Elements.{Element, atom, block, Elements, empty, then, Alternatives, none, only, either}
use Rattle.g4_source.specs.Marks.{onto}
use Rattle.g4_source.specs.Rules.{alternatives_of}
use Rattle.g4_grammar.specs.declared.step.Step.TheVariants.{Call, Empty}
use Rattle.g4_grammar.specs.LeftCalls.{Nullable, an_atom, a_call, a_block, an_optional, a_star, a_plus, AllNullable, nothing, one_more, OneNullable, this, another}
use Rattle.g4_grammar.specs.StepRules.{StepRule}
use Rattle.g4_grammar.specs.Steps.{CallsRule, ReadsSymbols}
use Rattle.g4_leftrec.specs.Rewriting.{StepIn, Written, after_primary, formed, loop_of, operator_forms, primary_forms, turns_of}
use Rattle.g4_leftrec.proofs.Among.{nullable_one, one_nullable}
use Rattle.g4_leftrec.proofs.OtherLevel.{DiffersInLevel, nowhere, here, later}
use Rattle.g4_leftrec.proofs.Sources.{IsPrimaryOf, bodies, formed_cases, primary_source}

-- these derive the empty word, in these rules
abbrev pub AreEmpty : List (Alternatives StepIn) → Elements StepIn → Type 0
AreEmpty rules xs = AllNullable ReadsSymbols CallsRule rules xs

-- one of the alternatives does
abbrev pub OneIsEmpty : List (Alternatives StepIn) → Alternatives StepIn → Type 0
OneIsEmpty rules xs = OneNullable ReadsSymbols CallsRule rules xs

module _ (rules : List (Alternatives StepIn)) where
  -- the first of elements, and the others
  pub front_empty : {x : Element StepIn} {xs : Elements StepIn} → AreEmpty rules (then x xs)
      → Nullable ReadsSymbols CallsRule rules x × AreEmpty rules xs
  front_empty (one_more x xs h hs) = (h, hs)

  -- the body of a block
  pub body_empty : {xs : Alternatives StepIn} → Nullable ReadsSymbols CallsRule rules (block None Once xs) → OneIsEmpty rules xs
  body_empty (a_block label xs h) = h

  -- no alternatives derive nothing
  pub no_alternative : OneIsEmpty rules none → ⊥
  no_alternative h = absurd (nullable_one ReadsSymbols CallsRule rules none h).1

  -- a call at another level
  pub call_empty : (k p q : ℕ) → Nullable ReadsSymbols CallsRule rules (atom (Call k q))
      → Nullable ReadsSymbols CallsRule rules (atom (Call k p))
  call_empty k p q (an_atom a h) = absurd h
  call_empty k p q (a_call a rule xs c is h) = a_call (Call k p) rule xs c is h

  -- elements with a call at another level
  pub differing_empty : {k : ℕ} {xs ys : Elements StepIn} → DiffersInLevel k xs ys → AreEmpty rules ys → AreEmpty rules xs
  differing_empty (nowhere xs) h = h
  differing_empty {k} (here p q xs) h = let parts = front_empty h in one_more (atom (Call k p)) xs (call_empty k p q parts.0) parts.1
  differing_empty (later x xs ys d) h = let parts = front_empty h in one_more x xs parts.0 (differing_empty d parts.1)

  -- elements in two parts
  onto_empty : (xs ys : Elements StepIn) → AreEmpty rules (onto xs ys) → AreEmpty rules xs × AreEmpty rules ys
  onto_empty empty ys h = (nothing, h)
  onto_empty (then x xs) ys h = let parts = front_empty h in let others = onto_empty xs ys parts.1 in
      (one_more x xs parts.0 others.0, others.1)

  -- one of the primaries, and what follows
  pub primary_empty : (primaries : List (Elements StepIn)) (more : Elements StepIn) → AreEmpty rules (after_primary primaries more)
      → OneIsEmpty rules (either primaries) × AreEmpty rules more
  primary_empty [] more h = let parts = front_empty h in (body_empty parts.0, parts.1)
  primary_empty (x ∷ []) more h = let parts = onto_empty x (then (atom Empty) more) h in (this x none parts.0, (front_empty parts.1).1)
  primary_empty (x ∷ y ∷ others) more h = let parts = front_empty h in (body_empty parts.0, parts.1)

  -- a primary of a rule is one of its alternatives
  pub primaries_empty : (k : ℕ) (xs : List Written) → OneIsEmpty rules (either (primary_forms k xs)) → OneIsEmpty rules (bodies xs)
  primaries_empty k xs h =
      let found = nullable_one ReadsSymbols CallsRule rules (either (primary_forms k xs)) h in
      let source : IsPrimaryOf k (bodies xs) found.0 = primary_source k xs found.0 found.1 in
      one_nullable ReadsSymbols CallsRule rules (bodies xs) source.written source.among (differing_empty source.differs found.2)

  -- a rule as it is laid
  pub formed_empty : (k : ℕ) (rule : StepRule) → OneIsEmpty rules (alternatives_of (formed (k, rule)))
      → OneIsEmpty rules (alternatives_of rule)
  formed_empty k rule h = elim (formed_cases k rule) [
    | inl plain ↦ subst (OneIsEmpty rules) plain.1 h
    | inr looped ↦ looped_empty (loop_of k rule.alternatives) refl (subst (OneIsEmpty rules) looped.1 h)
  ]
    where
      -- a loop
      looped_empty : (x : Elements StepIn) → x ≡ loop_of k rule.alternatives → OneIsEmpty rules (only x)
          → OneIsEmpty rules (alternatives_of rule)
      looped_empty _ e (this x xs h) = primaries_empty k rule.alternatives
          (primary_empty (primary_forms k rule.alternatives) (turns_of (operator_forms k rule.alternatives)) (subst (AreEmpty rules) e h)).0
      looped_empty _ e (another x xs h) = absurd (no_alternative h)

-- a rule of others derives the empty word only where one of these does
module _ (rules laid : List (Alternatives StepIn))
    (back : (k : ℕ) (ys : Alternatives StepIn) → slice_get laid k ≡ Some ys → OneIsEmpty rules ys
    → (xs : Alternatives StepIn) × (slice_get rules k ≡ Some xs) × OneIsEmpty rules xs) where
  mutual
    -- an element
    pub empty_back : {x : Element StepIn} → Nullable ReadsSymbols CallsRule laid x → Nullable ReadsSymbols CallsRule rules x
    empty_back (an_atom a h) = an_atom a h
    empty_back (a_call a rule ys c is h) = let found = back rule ys is (one_empty_back h) in a_call a rule found.0 c found.1 found.2
    empty_back (a_block label xs h) = a_block label xs (one_empty_back h)
    empty_back (an_optional label sign xs) = an_optional label sign xs
    empty_back (a_star label sign xs) = a_star label sign xs
    empty_back (a_plus label sign xs h) = a_plus label sign xs (one_empty_back h)

    -- elements one after another
    pub all_empty_back : {xs : Elements StepIn} → AreEmpty laid xs → AreEmpty rules xs
    all_empty_back nothing = nothing
    all_empty_back (one_more x xs h hs) = one_more x xs (empty_back h) (all_empty_back hs)

    -- alternatives
    pub one_empty_back : {xs : Alternatives StepIn} → OneIsEmpty laid xs → OneIsEmpty rules xs
    one_empty_back (this x xs h) = this x xs (all_empty_back h)
    one_empty_back (another x xs h) = another x xs (one_empty_back h)
