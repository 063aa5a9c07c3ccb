-- What elements, alternatives and loops derive, by rules over steps.
use Rattle.std.proofs.Common.{◌≡◌, ◌⊎◌, ℕ, List, [], ◌++◌, inl, inr, refl, sym, ◌∙◌, ap, subst, append-nil, append_assoc}
use Rattle.g4_source.specs.declared.element.Suffix.{Suffix}
use Rattle.g4_source.specs.declared.name.Label.{Label}
use Rattle.g4_source.specs.declared.element.Repeat.TheVariants.{Once, Star}
use Rattle.g4_source.specs.Elements.{Element, atom, block, Elements, empty, then, Alternatives, none, or}
use Rattle.g4_source.specs.Marks.{onto}
use Rattle.g4_grammar.specs.declared.step.Step.TheVariants.{Call, Level, Empty}
use Rattle.g4_grammar.specs.Derives.{Derives, an_atom, a_call, a_block, no_turn, a_turn, DerivesAll, nothing, one_more, DerivesOne, this, another}
use Rattle.g4_grammar.specs.Steps.{CallsRule, ReadsSymbols}
use Rattle.g4_leftrec.specs.Rewriting.{StepIn}
use Rattle.g4_leftrec.proofs.OtherLevel.{DiffersInLevel, nowhere, here, later}
use Rattle.std.proofs.Common.{Option}

-- there is an alternative
abbrev HasAlternative : Alternatives StepIn → Type 0
HasAlternative none = ⊥
HasAlternative (or x xs) = Unit {0}

module _ (rules : List (Alternatives StepIn)) where
  -- the element derives the word, by these rules
  abbrev pub ByOne : Element StepIn → List ℕ → Type 0
  ByOne = Derives ReadsSymbols CallsRule rules

  -- the elements do
  abbrev pub ByAll : Elements StepIn → List ℕ → Type 0
  ByAll = DerivesAll ReadsSymbols CallsRule rules

  -- one of the alternatives does
  abbrev pub ByEither : Alternatives StepIn → List ℕ → Type 0
  ByEither = DerivesOne ReadsSymbols CallsRule rules

  -- The word in two parts, of which these are so.
  pub record InParts (First Second : List ℕ → Type 0) (w : List ℕ) : Type 0 where
    pub front : List ℕ
    pub back : List ℕ
    pub is : w ≡ front ++ back
    pub first : First front
    pub second : Second back

  -- the first of elements, and the others
  pub front_and_rest : {x : Element StepIn} {xs : Elements StepIn} {w : List ℕ} → ByAll (then x xs) w → InParts (ByOne x) (ByAll xs) w
  front_and_rest (one_more x xs u v w h hs e) = record { front = u; back = v; is = e; first = h; second = hs }

  -- no elements derive the empty word alone
  pub none_left : {w : List ℕ} → ByAll empty w → w ≡ []
  none_left nothing = refl

  -- the first of alternatives, or one of the others
  pub first_or_others : {x : Elements StepIn} {xs : Alternatives StepIn} {w : List ℕ} → ByEither (or x xs) w → ByAll x w ⊎ ByEither xs w
  first_or_others (this x xs w h) = inl h
  first_or_others (another x xs w h) = inr h

  -- what derives a word has an alternative
  some_alternative : {xs : Alternatives StepIn} {w : List ℕ} → ByEither xs w → HasAlternative xs
  some_alternative (this x xs w h) = tt
  some_alternative (another x xs w h) = tt

  -- so no alternatives derive none
  pub no_alternative : {w : List ℕ} → ByEither none w → ⊥
  no_alternative d = some_alternative d

  -- the body of a block that is taken once
  pub body_of : {label : Option Label} {xs : Alternatives StepIn} {w : List ℕ} → ByOne (block label Once xs) w → ByEither xs w
  body_of (a_block label xs w h) = h

  -- a call at another level
  call_level : (k p q : ℕ) {w : List ℕ} → ByOne (atom (Call k p)) w → ByOne (atom (Call k q)) w
  call_level k p q (an_atom a w h) = absurd h
  call_level k p q (a_call a rule xs w c is h) = a_call (Call k q) rule xs w c is h

  -- elements with a call at another level
  pub other_level : {k : ℕ} {xs ys : Elements StepIn} (w : List ℕ) → DiffersInLevel k xs ys → ByAll xs w → ByAll ys w
  other_level w (nowhere xs) d = d
  other_level {k} w (here p q xs) d =
      let h = front_and_rest d in one_more (atom (Call k q)) xs h.front h.back w (call_level k p q h.first) h.second h.is
  other_level w (later x xs ys e) d =
      let h = front_and_rest d in one_more x ys h.front h.back w h.first (other_level h.back e h.second) h.is

  -- a level reads nothing
  level_reads : {q : ℕ} {w : List ℕ} → ByOne (atom (Level q)) w → w ≡ []
  level_reads (an_atom a w h) = h
  level_reads (a_call a rule xs w c is h) = absurd c

  -- an empty step neither
  empty_reads : {w : List ℕ} → ByOne (atom Empty) w → w ≡ []
  empty_reads (an_atom a w h) = h
  empty_reads (a_call a rule xs w c is h) = absurd c

  -- what an element that reads nothing precedes
  after_nothing : {x : Element StepIn} {xs : Elements StepIn} {w : List ℕ} → ((u : List ℕ) → ByOne x u → u ≡ []) → ByAll (then x xs) w
      → ByAll xs w
  after_nothing {x} {xs} reads d =
      let h = front_and_rest d in
      subst (ByAll xs) (sym (h.is ∙ ap (λ (u : List ℕ). u ++ h.back) (reads h.front h.first))) h.second

  -- elements after a level
  pub after_level : {q : ℕ} {xs : Elements StepIn} {w : List ℕ} → ByAll (then (atom (Level q)) xs) w → ByAll xs w
  after_level d = after_nothing (λ u h. level_reads h) d

  -- elements after an empty step
  pub after_empty : {xs : Elements StepIn} {w : List ℕ} → ByAll (then (atom Empty) xs) w → ByAll xs w
  after_empty d = after_nothing (λ u h. empty_reads h) d

  -- elements in two parts
  pub onto_parts : (xs ys : Elements StepIn) (w : List ℕ) → ByAll (onto xs ys) w → InParts (ByAll xs) (ByAll ys) w
  onto_parts empty ys w d = record { front = []; back = w; is = refl; first = nothing; second = d }
  onto_parts (then x xs) ys w d =
      let h = front_and_rest d in
      let more = onto_parts xs ys h.back h.second in
      record {
        front = h.front ++ more.front;
        back = more.back;
        is = h.is ∙ (ap (λ (v : List ℕ). h.front ++ v) more.is ∙ sym (append_assoc h.front more.front more.back));
        first = one_more x xs h.front more.front (h.front ++ more.front) h.first more.first refl;
        second = more.second;
      }

  -- and both together
  pub parts_onto : (xs ys : Elements StepIn) (w : List ℕ) → InParts (ByAll xs) (ByAll ys) w → ByAll (onto xs ys) w
  parts_onto empty ys w p = subst (ByAll ys) (sym (p.is ∙ ap (λ (u : List ℕ). u ++ p.back) (none_left p.first))) p.second
  parts_onto (then x xs) ys w p =
      let h = front_and_rest p.first in
      one_more x (onto xs ys) h.front (h.back ++ p.back) w h.first
      (parts_onto xs ys (h.back ++ p.back) (record { front = h.back; back = p.back; is = refl; first = h.second; second = p.second }))
      (p.is ∙ (ap (λ (u : List ℕ). u ++ p.back) h.is ∙ append_assoc h.front h.back p.back))

  -- What holds of a word and is kept when a turn is read after it, holds after all turns of a loop.
  pub through_turns : {label : Option Label} {sign : Suffix} (xs : Alternatives StepIn) (P : List ℕ → Type 0)
      → ((u v w : List ℕ) → P u → ByEither xs v → w ≡ u ++ v → P w) → (u v w : List ℕ) → P u
      → ByOne (block label (Star sign) xs) v → w ≡ u ++ v → P w
  through_turns _ P turn u _ w p (no_turn label sign xs) e = subst P (sym (e ∙ append-nil u)) p
  through_turns _ P turn u _ w p (a_turn label sign xs a b v d more is) e =
      through_turns xs P turn (u ++ a) b w (turn u a (u ++ a) p d refl) more
      (e ∙ (ap (λ (x : List ℕ). u ++ x) is ∙ sym (append_assoc u a b)))

  -- one more turn at the end of a loop
  pub turn_after : {label : Option Label} {sign : Suffix} (xs : Alternatives StepIn) (u v w : List ℕ)
      → ByOne (block label (Star sign) xs) u → ByEither xs v → w ≡ u ++ v → ByOne (block label (Star sign) xs) w
  turn_after _ _ v w (no_turn label sign xs) d e =
      a_turn label sign xs v [] w d (no_turn label sign xs) (e ∙ sym (append-nil v))
  turn_after _ _ v w (a_turn label sign xs a b u first more is) d e =
      a_turn label sign xs a (b ++ v) w first (turn_after xs b v (b ++ v) more d refl)
      (e ∙ (ap (λ (x : List ℕ). x ++ v) is ∙ append_assoc a b v))
