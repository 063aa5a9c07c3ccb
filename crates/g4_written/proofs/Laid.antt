-- A rule as it is laid derives what it derives as it is written.
use Rattle.std.proofs.Common.{◌≡◌, ◌⊎◌, ℕ, List, [], ◌∷◌, ◌++◌, Some, length, inl, inr, refl, sym, ◌∙◌, ap, subst, append-nil, append_assoc, slice_get}
use Rattle.std.proofs.lemmas.Bool.{cases_Bool}
use Rattle.std.proofs.lemmas.Option.{same_Some}
use Rattle.g4_source.specs.declared.element.Repeat.TheVariants.{Once}
use Rattle.g4_source.specs.Elements.{atom, block, Elements, empty, then, Alternatives, none, only, either}
use Rattle.g4_source.specs.Rules.{alternatives_of}
use Rattle.g4_grammar.specs.declared.step.Step.TheVariants.{Call, Empty}
use Rattle.g4_grammar.specs.Derives.{an_atom, a_call, a_block, no_turn, nothing, one_more, this}
use Rattle.g4_grammar.specs.StepRules.{StepRule}
use Rattle.g4_grammar.specs.Steps.{any_number}
use Rattle.std.proofs.Common.{None, true}
use Rattle.g4_leftrec.specs.OwnCalls.{is_left_recursive}
use Rattle.g4_leftrec.specs.OwnSteps.{calls}
use Rattle.g4_leftrec.specs.Rewriting.{StepIn, Written, after_primary, formed, loop_of, operator_forms, primary_forms, turns_of}
use Rattle.g4_written.proofs.Operators.{bodies, kind_of, operator_written, primary_written}
use Rattle.g4_written.proofs.Parts.{ByOne, ByAll, ByEither, InParts, after_empty, body_of, first_or_others, front_and_rest, no_alternative, none_left, onto_parts, parts_onto, through_turns, turn_after}

-- a rule stays as it is written, or it becomes a loop
formed_cases : (k : ℕ) (rule : StepRule) → (alternatives_of (formed (k, rule)) ≡ alternatives_of rule)
    ⊎ (alternatives_of (formed (k, rule)) ≡ only (loop_of k rule.alternatives))
formed_cases k rule = elim (cases_Bool (is_left_recursive (calls k) rule.alternatives)) [
  | inl recursive ↦ inr (rw recursive)
  | inr plain ↦ inl (rw plain)
]

module _ (rules : List (Alternatives StepIn)) where
  -- one of the primaries, and what follows
  primary_parts : (primaries : List (Elements StepIn)) (more : Elements StepIn) (w : List ℕ) → ByAll rules (after_primary primaries more) w
      → InParts rules (ByEither rules (either primaries)) (ByAll rules more) w
  primary_parts [] more w d =
      let h = front_and_rest rules d in
      record { front = h.front; back = h.back; is = h.is; first = body_of rules h.first; second = h.second }
  primary_parts (x ∷ []) more w d =
      let h = onto_parts rules x (then (atom Empty) more) w d in
      record { front = h.front; back = h.back; is = h.is; first = this x none h.front h.first; second = after_empty rules h.second }
  primary_parts (x ∷ y ∷ others) more w d =
      let h = front_and_rest rules d in
      record { front = h.front; back = h.back; is = h.is; first = body_of rules h.first; second = h.second }

  -- a block of primaries and what follows
  parts_block : (xs : Alternatives StepIn) (more : Elements StepIn) (w : List ℕ) → InParts rules (ByEither rules xs) (ByAll rules more) w
      → ByAll rules (then (block None Once xs) more) w
  parts_block xs more w p = one_more (block None Once xs) more p.front p.back w (a_block None xs p.front p.first) p.second p.is

  -- and both together
  parts_primary : (primaries : List (Elements StepIn)) (more : Elements StepIn) (w : List ℕ)
      → InParts rules (ByEither rules (either primaries)) (ByAll rules more) w → ByAll rules (after_primary primaries more) w
  parts_primary [] more w p = parts_block none more w p
  parts_primary (x ∷ []) more w p = elim (first_or_others rules p.first) [
    | inl h ↦ parts_onto rules x (then (atom Empty) more) w (record {
      front = p.front;
      back = p.back;
      is = p.is;
      first = h;
      second = one_more (atom Empty) more [] p.back p.back (an_atom Empty [] refl) p.second refl;
    })
    | inr h ↦ absurd (no_alternative rules h)
  ]
  parts_primary (x ∷ y ∷ others) more w p = parts_block (either (x ∷ y ∷ others)) more w p

  -- operators any number of times
  abbrev Turns : List (Elements StepIn) → List ℕ → Type 0
  Turns operators = ByOne rules (block None any_number (either operators))

  turns_alone : (operators : List (Elements StepIn)) (w : List ℕ) → ByAll rules (turns_of operators) w → Turns operators w
  turns_alone operators w d =
      let h = front_and_rest rules d in
      subst (Turns operators) (sym (h.is ∙ (ap (λ (v : List ℕ). h.front ++ v) (none_left rules h.second) ∙ append-nil h.front))) h.first

  alone_turns : (operators : List (Elements StepIn)) (w : List ℕ) → Turns operators w → ByAll rules (turns_of operators) w
  alone_turns operators w d = one_more (block None any_number (either operators)) empty w [] w d nothing (sym (append-nil w))

  -- A left-recursive rule as it is laid: a primary, and then operators any number of times.
  module _ (k : ℕ) (xs : List Written) where
    abbrev InLoop : List ℕ → Type 0
    InLoop = InParts rules (ByEither rules (either (primary_forms k xs))) (Turns (operator_forms k xs))

    loop_parts : (w : List ℕ) → ByAll rules (loop_of k xs) w → InLoop w
    loop_parts w d =
        let h = primary_parts (primary_forms k xs) (turns_of (operator_forms k xs)) w d in
        record { front = h.front; back = h.back; is = h.is; first = h.first; second = turns_alone (operator_forms k xs) h.back h.second }

    parts_loop : (w : List ℕ) → InLoop w → ByAll rules (loop_of k xs) w
    parts_loop w p = parts_primary (primary_forms k xs) (turns_of (operator_forms k xs)) w (record {
      front = p.front;
      back = p.back;
      is = p.is;
      first = p.first;
      second = alone_turns (operator_forms k xs) p.back p.second;
    })

    -- where rule k is that as it is written, it derives what the loop derives: operator by operator, from the left
    loop_written : slice_get rules k ≡ Some (bodies xs) → (w : List ℕ) → ByAll rules (loop_of k xs) w → ByEither rules (bodies xs) w
    loop_written at w d =
        let p = loop_parts w d in
        through_turns rules (either (operator_forms k xs)) (ByEither rules (bodies xs)) turn p.front p.back w
        (primary_written k (length xs) rules 1 xs p.front p.first) p.second p.is
      where
        turn : (u v w : List ℕ) → ByEither rules (bodies xs) u → ByEither rules (either (operator_forms k xs)) v → w ≡ u ++ v
            → ByEither rules (bodies xs) w
        turn u v w own d e =
            operator_written k (length xs) rules 1 xs u v w (λ q. a_call (Call k q) k (bodies xs) u refl at own) e d

    -- one more operator after a loop
    one_turn_more : (u v w : List ℕ) → InLoop u → ByEither rules (either (operator_forms k xs)) v → w ≡ u ++ v → InLoop w
    one_turn_more u v w p d e = record {
      front = p.front;
      back = p.back ++ v;
      is = e ∙ (ap (λ (x : List ℕ). x ++ v) p.is ∙ append_assoc p.front p.back v);
      first = p.first;
      second = turn_after rules (either (operator_forms k xs)) p.back v (p.back ++ v) p.second d refl;
    }

    -- a call of rule k, where that is a loop
    called_loop : slice_get rules k ≡ Some (only (loop_of k xs)) → (q : ℕ) (u : List ℕ) → ByOne rules (atom (Call k q)) u → InLoop u
    called_loop at q _ (an_atom a u h) = absurd h
    called_loop at q _ (a_call a rule ys u c is d) =
        let there : slice_get rules k ≡ Some ys = subst (λ (j : ℕ). slice_get rules j ≡ Some ys) c is in
        let same : ys ≡ only (loop_of k xs) = same_Some ys (only (loop_of k xs)) (sym there ∙ at) in
        elim (first_or_others rules (subst (λ (zs : Alternatives StepIn). ByEither rules zs u) same d)) [
          | inl h ↦ loop_parts u h
          | inr h ↦ absurd (no_alternative rules h)
        ]

    -- where rule k is the loop, it derives what the alternatives as they are written derive
    written_loop : slice_get rules k ≡ Some (only (loop_of k xs)) → (w : List ℕ) → ByEither rules (bodies xs) w
        → ByAll rules (loop_of k xs) w
    written_loop at w d = elim (kind_of k (length xs) rules 1 xs w d) [
      | inl h ↦ parts_loop w (record {
        front = w;
        back = [];
        is = sym (append-nil w);
        first = h;
        second = no_turn None (record { greedy = true }) (either (operator_forms k xs));
      })
      | inr h ↦ parts_loop w (one_turn_more h.1.front h.1.back w (called_loop at h.0 h.1.front h.1.first) h.1.second h.1.is)
    ]

  -- what a rule derives as it is laid, it derives as it is written
  pub laid_written : (k : ℕ) (rule : StepRule) → slice_get rules k ≡ Some (alternatives_of rule) → (w : List ℕ)
      → ByEither rules (alternatives_of (formed (k, rule))) w → ByEither rules (alternatives_of rule) w
  laid_written k rule at w d = elim (formed_cases k rule) [
    | inl same ↦ subst (λ (xs : Alternatives StepIn). ByEither rules xs w) same d
    | inr loop ↦ elim (first_or_others rules (subst (λ (xs : Alternatives StepIn). ByEither rules xs w) loop d)) [
      | inl h ↦ loop_written k rule.alternatives at w h
      | inr h ↦ absurd (no_alternative rules h)
    ]
  ]

  -- and the other way round
  pub written_laid : (k : ℕ) (rule : StepRule) → slice_get rules k ≡ Some (alternatives_of (formed (k, rule))) → (w : List ℕ)
      → ByEither rules (alternatives_of rule) w → ByEither rules (alternatives_of (formed (k, rule))) w
  written_laid k rule at w d = elim (formed_cases k rule) [
    | inl same ↦ subst (λ (xs : Alternatives StepIn). ByEither rules xs w) (sym same) d
    | inr loop ↦ subst (λ (xs : Alternatives StepIn). ByEither rules xs w) (sym loop)
        (this (loop_of k rule.alternatives) none w
        (written_loop k rule.alternatives (at ∙ ap (λ (xs : Alternatives StepIn). Some xs) loop) w d))
  ]
