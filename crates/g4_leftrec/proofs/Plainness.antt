-- What holds of the steps of a rule as it is written, holds of them as it is laid: that they are plain, and that none is a predicate.
use Rattle.std.proofs.Common.{◌≡◌, ℕ, List, [], ◌∷◌, Some, inl, inr, sym, subst}
use Rattle.std.specs.List.{All}
use Rattle.std.proofs.lemmas.List.Elements.{All-nil, All-cons, All-append, All-weaker}
use Rattle.g4_source.specs.Elements.{Element, atom, block, Elements, empty, then, Alternatives, only, either, atoms, atoms_in_order, atoms_of_either}
use Rattle.g4_source.specs.Marks.{onto}
use Rattle.g4_source.proofs.Parts.{All-front, All-rest}
use Rattle.g4_source.specs.Rules.{alternatives_of}
use Rattle.g4_grammar.specs.declared.step.Step.TheVariants.{Edge, Call, Predicate, Level, Action, Empty}
use Rattle.g4_grammar.specs.StepRules.{IsNoPredicate, IsPlain, IsPlainLaid, RuleIsPlain, RuleIsPlainLaid, RuleIsUnpredicated, StepRule}
use Rattle.g4_leftrec.specs.OwnCalls.{after_self}
use Rattle.g4_leftrec.specs.OwnSteps.{calls}
use Rattle.g4_leftrec.specs.Rewriting.{StepIn, Written, after_primary, formed, loop_of, operator_forms, primary_forms, turns_of}
use Rattle.g4_leftrec.proofs.Among.{atoms_one, each_atoms}
use Rattle.g4_leftrec.proofs.OtherLevel.{DiffersInLevel, nowhere, here, later}
use Rattle.g4_leftrec.proofs.Sources.{IsOperatorOf, IsPrimaryOf, bodies, formed_cases, operator_here, operator_source, primary_source}

-- a property of steps that any call has, any level and an empty step
record IsOfForms (P : StepIn → Type 0) : Type 0 where
  call : (rule level : ℕ) → P (Call rule level)
  level : (q : ℕ) → P (Level q)
  empty_step : P Empty

module _ (P : StepIn → Type 0) (forms : IsOfForms P) where
  -- the steps have it
  abbrev HaveIt : Elements StepIn → Type 0
  HaveIt xs = All P (atoms_in_order xs)

  -- the steps of each alternative do
  abbrev EachHasIt : Alternatives StepIn → Type 0
  EachHasIt xs = All P (atoms_of_either xs)

  -- one more element
  more_steps : (x : Element StepIn) (xs : Elements StepIn) → All P (atoms x) → HaveIt xs → HaveIt (then x xs)
  more_steps x xs h hs = All-append P (atoms x) (atoms_in_order xs) h hs

  -- one step
  one_step : (a : StepIn) → P a → All P (a ∷ [])
  one_step a h = All-cons P a [] h (All-nil P)

  -- elements with a call at another level
  differing_steps : {k : ℕ} {xs ys : Elements StepIn} → DiffersInLevel k xs ys → HaveIt xs → HaveIt ys
  differing_steps (nowhere xs) h = h
  differing_steps {k} (here p q xs) h = more_steps (atom (Call k q)) xs (one_step (Call k q) (forms.call k q))
      (All-rest P (Call k p ∷ []) (atoms_in_order xs) h)
  differing_steps (later x xs ys d) h = more_steps x ys (All-front P (atoms x) (atoms_in_order xs) h)
      (differing_steps d (All-rest P (atoms x) (atoms_in_order xs) h))

  -- elements in two parts
  onto_steps : (xs ys : Elements StepIn) → HaveIt xs → HaveIt ys → HaveIt (onto xs ys)
  onto_steps empty ys h hs = hs
  onto_steps (then x xs) ys h hs = more_steps x (onto xs ys) (All-front P (atoms x) (atoms_in_order xs) h)
      (onto_steps xs ys (All-rest P (atoms x) (atoms_in_order xs) h) hs)

  -- one of the primaries, and then these
  primary_steps : (primaries : List (Elements StepIn)) (more : Elements StepIn) → EachHasIt (either primaries) → HaveIt more
      → HaveIt (after_primary primaries more)
  primary_steps [] more each h = h
  primary_steps (x ∷ []) more each h = onto_steps x (then (atom Empty) more) (All-front P (atoms_in_order x) [] each)
      (more_steps (atom Empty) more (one_step Empty forms.empty_step) h)
  primary_steps (x ∷ y ∷ others) more each h =
      All-append P (atoms_of_either (either (x ∷ y ∷ others))) (atoms_in_order more) each h

  -- what follows the rule itself in an alternative
  operator_steps : (k : ℕ) (x rest : Elements StepIn) → after_self (calls k) x ≡ Some rest → HaveIt x → HaveIt rest
  operator_steps k empty rest h p = absurd (cc)
  operator_steps k (then (atom a) xs) rest h p = let operator = operator_here k (then (atom a) xs) rest h in
      subst HaveIt (sym operator.1) (All-rest P (a ∷ []) (atoms_in_order xs) p)
  operator_steps k (then (block label repeat ys) xs) rest h p = absurd (operator_here k (then (block label repeat ys) xs) rest h)

  module _ (k : ℕ) (xs : List Written) (each : EachHasIt (bodies xs)) where
    -- the steps of a primary
    in_primary : (y : Elements StepIn) → IsPrimaryOf k (bodies xs) y → HaveIt y
    in_primary y source = differing_steps source.differs (atoms_one P (bodies xs) source.written each source.among)

    -- the steps of an operator
    in_operator : (y : Elements StepIn) → IsOperatorOf k (bodies xs) y → HaveIt y
    in_operator y source =
        let rest : HaveIt source.rest = operator_steps k source.written source.rest source.begins
        (atoms_one P (bodies xs) source.written each source.among) in
        subst HaveIt (sym source.is) (more_steps (atom (Level source.level)) source.changed
        (one_step (Level source.level) (forms.level source.level)) (differing_steps source.differs rest))

    -- the steps of the turns
    turns_steps : HaveIt (turns_of (operator_forms k xs))
    turns_steps = All-append P (atoms_of_either (either (operator_forms k xs))) []
        (each_atoms P (either (operator_forms k xs)) (λ y among. in_operator y (operator_source k xs y among)))
        (All-nil P)

    -- the steps of the whole loop
    loop_steps : EachHasIt (only (loop_of k xs))
    loop_steps =
        let loop : HaveIt (loop_of k xs) = primary_steps (primary_forms k xs) (turns_of (operator_forms k xs))
        (each_atoms P (either (primary_forms k xs)) (λ y among. in_primary y (primary_source k xs y among))) turns_steps in
        All-append P (atoms_in_order (loop_of k xs)) [] loop (All-nil P)

  -- the steps of a rule as it is laid have it, where those of the rule do as it is written
  formed_steps : (k : ℕ) (rule : StepRule) → EachHasIt (alternatives_of rule) → EachHasIt (alternatives_of (formed (k, rule)))
  formed_steps k rule each = elim (formed_cases k rule) [
    | inl same ↦ subst EachHasIt (sym same.1) each
    | inr looped ↦ subst EachHasIt (sym looped.1) (loop_steps k rule.alternatives each)
  ]

-- a step of a rule as it is written is one of a rule as it is laid
plain_laid : (a : StepIn) → IsPlain a → IsPlainLaid a
plain_laid (Edge set) h = h
plain_laid (Call rule level) h = tt
plain_laid (Predicate k) h = tt
plain_laid (Level q) h = absurd h
plain_laid Action h = tt
plain_laid Empty h = absurd h

-- the steps of a rule as it is laid are plain
pub formed_plain : (k : ℕ) (rule : StepRule) → RuleIsPlain rule → RuleIsPlainLaid (formed (k, rule))
formed_plain k rule h =
    formed_steps IsPlainLaid (record { call = λ r l. tt; level = λ q. tt; empty_step = tt }) k rule
    (All-weaker IsPlain IsPlainLaid plain_laid (atoms_of_either (alternatives_of rule)) h)

-- none of them is a predicate, where none is as it is written
pub formed_unpredicated : (k : ℕ) (rule : StepRule) → RuleIsUnpredicated rule → RuleIsUnpredicated (formed (k, rule))
formed_unpredicated k rule h = formed_steps IsNoPredicate (record { call = λ r l. tt; level = λ q. tt; empty_step = tt }) k rule h
