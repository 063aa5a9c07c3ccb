-- What the primaries and the operators of a rule derive, and what its alternatives as they are written derive.
use Rattle.std.proofs.Common.{◌≡◌, ◌⊎◌, ℕ, ◌+◌, List, [], ◌∷◌, ◌++◌, Option, Some, None, map, inl, inr, refl, sym, ◌∙◌, ap, subst}
use Rattle.std.specs.List.{cons_option, enumerate_from, filter_map}
use Rattle.std.proofs.lemmas.Option.{cond_some}
use Rattle.g4_source.specs.Elements.{Element, atom, Elements, empty, then, Alternatives, or, either}
use Rattle.g4_grammar.specs.declared.step.Step.TheVariants.{Call, Level}
use Rattle.g4_grammar.specs.Derives.{one_more, this, another, an_atom}
use Rattle.g4_leftrec.specs.OwnCalls.{Part, after_self, is_atom, operator_of, operator_with, primary_of, primary_with}
use Rattle.g4_leftrec.specs.OwnSteps.{calls}
use Rattle.g4_leftrec.specs.Rewriting.{StepIn, Written, operand_level, operator_form, precedence, primary_form, with_last_at}
use Rattle.g4_leftrec.proofs.OtherLevel.{differs_back, last_differs, own_call}
use Rattle.g4_written.proofs.Parts.{ByOne, ByAll, ByEither, InParts, first_or_others, front_and_rest, no_alternative, other_level, after_level}

-- the alternatives as trees
abbrev pub bodies : List Written → Alternatives StepIn
bodies xs = either (map (λ (a : Written). a.elements) xs)

-- elements that begin with a call of rule k, by what follows
pub begins_with : (k : ℕ) (x rest : Elements StepIn) → after_self (calls k) x ≡ Some rest → (q : ℕ) × (x ≡ then (atom (Call k q)) rest)
begins_with k empty rest h = absurd (cc)
begins_with k (then y ys) rest h =
    let parts = cond_some (is_atom (calls k) y) ys rest h in
    let call = own_call k y parts.0 in
    (call.0, ap (λ (z : Element StepIn). then z ys) call.1 ∙ ap (then (atom (Call k call.0))) parts.1)

module _ (k n : ℕ) where
  -- the primaries among alternatives that count from this number, and the operators
  abbrev pub primaries_from : ℕ → List Written → Alternatives StepIn
  primaries_from number xs = either (map (primary_form k n) (filter_map (primary_of (calls k)) (enumerate_from number xs)))

  abbrev pub operators_from : ℕ → List Written → Alternatives StepIn
  operators_from number xs = either (map (operator_form k n) (filter_map (operator_of (calls k)) (enumerate_from number xs)))

  -- those of an alternative and others, by what follows the rule itself in it
  abbrev PrimaryOr : ℕ → Written → Option (Elements StepIn) → List (Part StepIn) → Alternatives StepIn
  PrimaryOr number a o kept = either (map (primary_form k n) (cons_option (primary_with (calls k) number a.right a.elements o) kept))

  abbrev OperatorOr : ℕ → Written → Option (Elements StepIn) → List (Part StepIn) → Alternatives StepIn
  OperatorOr number a o kept = either (map (operator_form k n) (cons_option (operator_with (calls k) number a.right o) kept))

  module _ (rules : List (Alternatives StepIn)) where
    -- rule k derives the word, at any level
    abbrev pub Own : List ℕ → Type 0
    Own w = (q : ℕ) → ByOne rules (atom (Call k q)) w

    -- what a primary in front derives, if it is one
    primary_front : (number : ℕ) (a : Written) (o : Option (Elements StepIn)) (kept : List (Part StepIn))
        (others : Alternatives StepIn) (w : List ℕ) → (ByEither rules (either (map (primary_form k n) kept)) w → ByEither rules others w)
        → ByEither rules (PrimaryOr number a o kept) w → ByEither rules (or a.elements others) w
    primary_front number a None kept others w more d = elim (first_or_others rules d) [
      | inl h ↦ this a.elements others w
          (other_level rules w (differs_back (last_differs k (precedence n number) a.elements)) h)
      | inr h ↦ another a.elements others w (more h)
    ]
    primary_front number a (Some rest) kept others w more d = another a.elements others w (more d)

    -- what a primary derives, one of the alternatives does
    pub primary_written : (number : ℕ) (xs : List Written) (w : List ℕ) → ByEither rules (primaries_from number xs) w
        → ByEither rules (bodies xs) w
    primary_written number [] w d = d
    primary_written number (a ∷ xs) w d =
        primary_front number a (after_self (calls k) a.elements) (filter_map (primary_of (calls k)) (enumerate_from (number + 1) xs))
        (bodies xs) w (primary_written (number + 1) xs w) d

    -- what follows the rule itself, in an operator in front
    operator_front : (number : ℕ) (a : Written) (o : Option (Elements StepIn)) (kept : List (Part StepIn))
        (others : Alternatives StepIn) (u v w : List ℕ) → after_self (calls k) a.elements ≡ o → Own u → w ≡ u ++ v
        → (ByEither rules (either (map (operator_form k n) kept)) v → ByEither rules others w)
        → ByEither rules (OperatorOr number a o kept) v → ByEither rules (or a.elements others) w
    operator_front number a None kept others u v w is own e more d = another a.elements others w (more d)
    operator_front number a (Some rest) kept others u v w is own e more d = elim (first_or_others rules d) [
      | inl h ↦ (let begins = begins_with k a.elements rest is in
          let level : ℕ = operand_level (precedence n number) a.right in
          let rests : ByAll rules rest v = other_level rules v (differs_back (last_differs k level rest)) (after_level rules h) in
          this a.elements others w (subst (λ (x : Elements StepIn). ByAll rules x w) (sym begins.1)
          (one_more (atom (Call k begins.0)) rest u v w (own begins.0) rests e)))
      | inr h ↦ another a.elements others w (more h)
    ]

    -- what the rule itself and then an operator derive, one of the alternatives does
    pub operator_written : (number : ℕ) (xs : List Written) (u v w : List ℕ) → Own u → w ≡ u ++ v
        → ByEither rules (operators_from number xs) v → ByEither rules (bodies xs) w
    operator_written number [] u v w own e d = absurd (no_alternative rules d)
    operator_written number (a ∷ xs) u v w own e d =
        operator_front number a (after_self (calls k) a.elements) (filter_map (operator_of (calls k)) (enumerate_from (number + 1) xs))
        (bodies xs) u v w refl own e (operator_written (number + 1) xs u v w own e) d

    -- A primary derives the word, or the rule itself and then an operator do.
    abbrev pub IsOfKind : Alternatives StepIn → Alternatives StepIn → List ℕ → Type 0
    IsOfKind primaries operators w = ByEither rules primaries w
        ⊎ ((q : ℕ) × InParts rules (ByOne rules (atom (Call k q))) (ByEither rules operators) w)

    -- the kind of an alternative in front
    kind_front : (number : ℕ) (a : Written) (o : Option (Elements StepIn)) (kept others : List (Part StepIn)) (w : List ℕ)
        → after_self (calls k) a.elements ≡ o → ByAll rules a.elements w
        → IsOfKind (PrimaryOr number a o kept) (OperatorOr number a o others) w
    kind_front number a None kept others w is d =
        inl (this (with_last_at k (precedence n number) a.elements) (either (map (primary_form k n) kept)) w
        (other_level rules w (last_differs k (precedence n number) a.elements) d))
    kind_front number a (Some rest) kept others w is d =
        let begins = begins_with k a.elements rest is in
        let h = front_and_rest rules (subst (λ (x : Elements StepIn). ByAll rules x w) begins.1 d) in
        let p : ℕ = precedence n number in
        let changed : Elements StepIn = with_last_at k (operand_level p a.right) rest in
        let rests : ByAll rules changed h.back = other_level rules h.back (last_differs k (operand_level p a.right) rest) h.second in
        inr (
          begins.0,
          record {
            front = h.front;
            back = h.back;
            is = h.is;
            first = h.first;
            second = this (then (atom (Level p)) changed) (either (map (operator_form k n) others)) h.back
                (one_more (atom (Level p)) changed [] h.back h.back (an_atom (Level p) [] refl) rests refl);
          },
        )

    -- the kind of one of the others
    kind_later : (number : ℕ) (a : Written) (o : Option (Elements StepIn)) (kept others : List (Part StepIn)) (w : List ℕ)
        → IsOfKind (either (map (primary_form k n) kept)) (either (map (operator_form k n) others)) w
        → IsOfKind (PrimaryOr number a o kept) (OperatorOr number a o others) w
    kind_later number a None kept others w (inl d) =
        inl (another (with_last_at k (precedence n number) a.elements) (either (map (primary_form k n) kept)) w d)
    kind_later number a None kept others w (inr h) = inr h
    kind_later number a (Some rest) kept others w (inl d) = inl d
    kind_later number a (Some rest) kept others w (inr h) =
        let p : ℕ = precedence n number in
        inr (
          h.0,
          record {
            front = h.1.front;
            back = h.1.back;
            is = h.1.is;
            first = h.1.first;
            second = another (then (atom (Level p)) (with_last_at k (operand_level p a.right) rest))
                (either (map (operator_form k n) others)) h.1.back h.1.second;
          },
        )

    -- what one of the alternatives derives is of one of the two kinds
    pub kind_of : (number : ℕ) (xs : List Written) (w : List ℕ) → ByEither rules (bodies xs) w
        → IsOfKind (primaries_from number xs) (operators_from number xs) w
    kind_of number [] w d = inl d
    kind_of number (a ∷ xs) w d =
        let kept = filter_map (primary_of (calls k)) (enumerate_from (number + 1) xs) in
        let others = filter_map (operator_of (calls k)) (enumerate_from (number + 1) xs) in
        elim (first_or_others rules d) [
          | inl h ↦ kind_front number a (after_self (calls k) a.elements) kept others w refl h
          | inr h ↦ kind_later number a (after_self (calls k) a.elements) kept others w (kind_of (number + 1) xs w h)
        ]
