-- What shifted marks mean: a word leads from them to an end where the word with the next letter before it led there.
use Rattle.std.proofs.Common.{◌≡◌, ◌↔◌, ◌⊎◌, inl, inr, List, [], ◌∷◌, ◌++◌, Bool, true, false, ◌||◌, IsTrue, Option, refl, sym, ap, ◌∙◌, subst, append_assoc}
use Rattle.g4_source.specs.declared.name.Label.{Label}
use Rattle.g4_source.specs.declared.element.Suffix.{Suffix}
use Rattle.g4_source.specs.declared.element.Repeat.{Repeat}
use Rattle.g4_source.specs.declared.element.Repeat.TheVariants.{Once, Optional, Star, Plus}
use Rattle.g4_source.specs.Elements.{Element, atom, block, Elements, empty, then, Alternatives, none, or}
use Rattle.g4_grammar.specs.Derives.{an_atom, a_block, taken, a_turn, turns, one_more, this, another}
use Rattle.g4_tree_check.specs.Marks.{past, past_all, past_either, block_ends, body_begins, ends, ends_either, shift, shift_all, shift_either}
use Rattle.g4_tree_check.proofs.Derivations.{Gives, GivesAll, GivesOne, atom_parts, empty_parts, then_parts, none_parts, or_parts, once_parts, optional_parts, plus_parts, star_turn}
use Rattle.g4_tree_check.proofs.Rest.{Leads, LeadsAll, LeadsOne, ends_to, ends_from, ends_one_to, ends_one_from}
use Rattle.g4_tree_check.proofs.Outcomes.{true_or, true_and}
use Rattle.g4_tree_check.proofs.Words.{Joined, first_letter}

-- where a function of a test is true, it stays so once the test is true
steady : (f : Bool → Bool) → (IsTrue (f false) → IsTrue (f true)) → (b : Bool) → f false ≡ b → f b ≡ b
steady f up true is = up is
steady f up false is = is

module _ {A W : Type 0} (Reads : A → List W → Type 0) (quiet : A → Bool) (is_quiet : (a : A) → IsTrue (quiet a) ↔ Reads a []) where
  -- more words lead to the end where what is before may have ended
  ends_more : (xs : Alternatives A) (m : List Bool) → IsTrue (ends_either quiet false xs m) → IsTrue (ends_either quiet true xs m)
  ends_more xs m h = ends_one_from Reads quiet is_quiet true xs m
      (elim (ends_one_to Reads quiet is_quiet false xs m h) [ inl l ↦ inl l | inr g ↦ absurd (cc (g.0)) ])

  -- a body that is begun again ends where it would anyway
  begun_ends : (before : Bool) (xs : Alternatives A) (m : List Bool)
      → ends_either quiet (before || ends_either quiet false xs m) xs m ≡ ends_either quiet before xs m
  begun_ends true xs m = refl
  begun_ends false xs m = steady (λ b. ends_either quiet b xs m) (ends_more xs m) (ends_either quiet false xs m) refl

  pub body_ends : (repeat : Repeat) (before : Bool) (xs : Alternatives A) (m : List Bool) →
      block_ends repeat before (ends_either quiet (body_begins repeat before (ends_either quiet false xs m)) xs m)
      ≡ block_ends repeat before (ends_either quiet before xs m)
  body_ends Once before xs m = refl
  body_ends (Optional sign) before xs m = refl
  body_ends (Star sign) before xs m = ap (λ b. before || b) (begun_ends before xs m)
  body_ends (Plus sign) before xs m = begun_ends before xs m

  module _ (takes : A → Bool) where
    mutual
      -- what comes after the shifted marks
      pub past_shift : (before : Bool) (x : Element A) (m later : List Bool) → past x (shift quiet takes before x m ++ later) ≡ later
      past_shift before (atom a) m later = refl
      past_shift before (block label repeat xs) m later =
          past_shift_one (body_begins repeat before (ends_either quiet false xs m)) xs m later

      pub past_shift_all : (before : Bool) (xs : Elements A) (m later : List Bool)
          → past_all xs (shift_all quiet takes before xs m ++ later) ≡ later
      past_shift_all before empty m later = refl
      past_shift_all before (then x xs) m later =
          let first = shift quiet takes before x m in
          let second = shift_all quiet takes (ends quiet before x m) xs (past x m) in
          ap (λ (z : List Bool). past_all xs (past x z)) (append_assoc first second later)
          ∙ ap (past_all xs) (past_shift before x m (second ++ later)) ∙ past_shift_all (ends quiet before x m) xs (past x m) later

      pub past_shift_one : (before : Bool) (xs : Alternatives A) (m later : List Bool)
          → past_either xs (shift_either quiet takes before xs m ++ later) ≡ later
      past_shift_one before none m later = refl
      past_shift_one before (or x xs) m later =
          let first = shift_all quiet takes before x m in
          let second = shift_either quiet takes before xs (past_all x m) in
          ap (λ (z : List Bool). past_either xs (past_all x z)) (append_assoc first second later)
          ∙ ap (past_either xs) (past_shift_all before x m (second ++ later)) ∙ past_shift_one before xs (past_all x m) later

    module _ (c : W) (is_taken : (a : A) → IsTrue (takes a) ↔ Reads a (c ∷ []))
        (short : (a : A) (w : List W) → Reads a (c ∷ w) → w ≡ []) where
      -- a turn that is not empty, of turns that are not
      a_full_turn : (label : Option Label) (sign : Suffix) (xs : Alternatives A) (w : List W)
          → Joined (GivesOne Reads xs) (Gives Reads (block label (Star sign) xs)) (c ∷ w)
          → Joined (λ u. GivesOne Reads xs (c ∷ u)) (Gives Reads (block label (Star sign) xs)) w
      a_full_turn label sign xs w h = elim (first_letter (GivesOne Reads xs) (Gives Reads (block label (Star sign) xs)) c w h)
          [ inl j ↦ j | inr both ↦ star_turn Reads label sign xs c w (c ∷ w) both.1 refl ]

      mutual
        -- of an element
        pub shift_to : (before : Bool) (x : Element A) (m later : List Bool) (w : List W)
            → Leads Reads x (shift quiet takes before x m ++ later) w → Leads Reads x m (c ∷ w) ⊎ (IsTrue before × Gives Reads x (c ∷ w))
        shift_to before (atom a) m later w h =
            let both = (true_and before (takes a)).0 h.0 in
            inr (both.0, an_atom a (c ∷ w) (subst (λ (v : List W). Reads a (c ∷ v)) (sym h.1) ((is_taken a).0 both.1)))
        shift_to before (block label Once xs) m later w h =
            elim (shift_one_to before xs m later w h) [ inl l ↦ inl l | inr g ↦ inr (g.0, a_block label xs (c ∷ w) g.1) ]
        shift_to before (block label (Optional sign) xs) m later w h =
            elim (shift_one_to before xs m later w h) [ inl l ↦ inl l | inr g ↦ inr (g.0, taken label sign xs (c ∷ w) g.1) ]
        shift_to before (block label (Star sign) xs) m later w h =
            let whole : c ∷ w ≡ (c ∷ h.0) ++ h.1 = ap (λ (v : List W). c ∷ v) h.2 in
            elim (shift_one_to (before || ends_either quiet false xs m) xs m later h.0 h.3) [
              | inl l ↦ inl (c ∷ h.0, h.1, whole, l, h.4)
              | inr g ↦ let turned = a_turn label sign xs (c ∷ h.0) h.1 (c ∷ w) g.1 h.4 whole in
                  elim ((true_or before (ends_either quiet false xs m)).0 g.0) [
                    | inl b ↦ inr (b, turned)
                    | inr e ↦ elim (ends_one_to Reads quiet is_quiet false xs m e)
                        [ inl l ↦ inl ([], c ∷ w, refl, l, turned) | inr f ↦ absurd (cc (f.0)) ]
                  ]
            ]
        shift_to before (block label (Plus sign) xs) m later w h =
            let whole : c ∷ w ≡ (c ∷ h.0) ++ h.1 = ap (λ (v : List W). c ∷ v) h.2 in
            elim (shift_one_to (before || ends_either quiet false xs m) xs m later h.0 h.3) [
              | inl l ↦ inl (c ∷ h.0, h.1, whole, l, h.4)
              | inr g ↦ elim ((true_or before (ends_either quiet false xs m)).0 g.0) [
                | inl b ↦ inr (b, turns label sign xs (c ∷ h.0) h.1 (c ∷ w) g.1 h.4 whole)
                | inr e ↦ elim (ends_one_to Reads quiet is_quiet false xs m e) [
                  | inl l ↦ inl ([], c ∷ w, refl, l, a_turn label sign xs (c ∷ h.0) h.1 (c ∷ w) g.1 h.4 whole)
                  | inr f ↦ absurd
                      (cc (f.0))
                ]
              ]
            ]

        -- of elements one after another
        pub shift_all_to : (before : Bool) (xs : Elements A) (m later : List Bool) (w : List W)
            → LeadsAll Reads xs (shift_all quiet takes before xs m ++ later) w
            → LeadsAll Reads xs m (c ∷ w) ⊎ (IsTrue before × GivesAll Reads xs (c ∷ w))
        shift_all_to before empty m later w h = absurd h
        shift_all_to before (then x xs) m later w h =
            let first = shift quiet takes before x m in
            let second = shift_all quiet takes (ends quiet before x m) xs (past x m) in
            elim (subst (λ (z : List Bool). LeadsAll Reads (then x xs) z w) (append_assoc first second later) h) [
              | inl j ↦ let whole : c ∷ w ≡ (c ∷ j.0) ++ j.1 = ap (λ (v : List W). c ∷ v) j.2 in
                  elim (shift_to before x m (second ++ later) j.0 j.3) [
                    | inl l ↦ inl (inl (c ∷ j.0, j.1, whole, l, j.4))
                    | inr g ↦ inr (g.0, one_more x xs (c ∷ j.0) j.1 (c ∷ w) g.1 j.4 whole)
                  ]
              | inr more ↦ elim (shift_all_to (ends quiet before x m) xs (past x m) later w
                  (subst (λ (z : List Bool). LeadsAll Reads xs z w) (past_shift before x m (second ++ later)) more)) [
                    | inl l ↦ inl (inr l)
                    | inr g ↦ elim (ends_to Reads quiet is_quiet before x m g.0) [
                      | inl l ↦ inl (inl ([], c ∷ w, refl, l, g.1))
                      | inr f ↦ inr (f.0, one_more x xs [] (c ∷ w) (c ∷ w) f.1 g.1 refl)
                    ]
                  ]
            ]

        -- of alternatives
        pub shift_one_to : (before : Bool) (xs : Alternatives A) (m later : List Bool) (w : List W)
            → LeadsOne Reads xs (shift_either quiet takes before xs m ++ later) w
            → LeadsOne Reads xs m (c ∷ w) ⊎ (IsTrue before × GivesOne Reads xs (c ∷ w))
        shift_one_to before none m later w h = absurd h
        shift_one_to before (or x xs) m later w h =
            let first = shift_all quiet takes before x m in
            let second = shift_either quiet takes before xs (past_all x m) in
            elim (subst (λ (z : List Bool). LeadsOne Reads (or x xs) z w) (append_assoc first second later) h) [
              | inl j ↦ elim (shift_all_to before x m (second ++ later) w j)
                  [ inl l ↦ inl (inl l) | inr g ↦ inr (g.0, this x xs (c ∷ w) g.1) ]
              | inr more ↦ elim (shift_one_to before xs (past_all x m) later w
                  (subst (λ (z : List Bool). LeadsOne Reads xs z w) (past_shift_all before x m (second ++ later)) more)) [
                    | inl l ↦ inl (inr l)
                    | inr g ↦ inr (g.0, another x xs (c ∷ w) g.1)
                  ]
            ]

      -- from turns of a loop to those after the letter, given as much of one turn
      loop_from : (before : Bool) (label : Option Label) (sign : Suffix) (xs : Alternatives A) (m shifted : List Bool) (w : List W) →
          ((u : List W) → LeadsOne Reads xs m (c ∷ u) ⊎ (IsTrue (before || ends_either quiet false xs m) × GivesOne Reads xs (c ∷ u))
          → LeadsOne Reads xs shifted u) →
          Joined (LeadsOne Reads xs m) (Gives Reads (block label (Star sign) xs)) (c ∷ w)
          ⊎ (IsTrue before × Joined (λ u. GivesOne Reads xs (c ∷ u)) (Gives Reads (block label (Star sign) xs)) w) →
          Joined (LeadsOne Reads xs shifted) (Gives Reads (block label (Star sign) xs)) w
      loop_from before label sign xs m shifted w turn (inl h) =
          elim (first_letter (LeadsOne Reads xs m) (Gives Reads (block label (Star sign) xs)) c w h) [
            | inl j ↦ (j.0, j.1, j.2, turn j.0 (inl j.3), j.4)
            | inr both ↦ let j = star_turn Reads label sign xs c w (c ∷ w) both.1 refl in (
              j.0,
              j.1,
              j.2,
              turn j.0 (inr (
                (true_or before (ends_either quiet false xs m)).1
                    (inr (ends_one_from Reads quiet is_quiet false xs m (inl both.0))),
                j.3,
              )),
              j.4,
            )
          ]
      loop_from before label sign xs m shifted w turn (inr h) = let j = h.1 in
          (j.0, j.1, j.2, turn j.0 (inr ((true_or before (ends_either quiet false xs m)).1 (inl h.0), j.3)), j.4)

      mutual
        -- and back: of an element
        pub shift_from : (before : Bool) (x : Element A) (m later : List Bool) (w : List W)
            → Leads Reads x m (c ∷ w) ⊎ (IsTrue before × Gives Reads x (c ∷ w)) → Leads Reads x (shift quiet takes before x m ++ later) w
        shift_from before (atom a) m later w (inl h) = absurd (let n : ⊥ = cc (h.1) in n)
        shift_from before (atom a) m later w (inr h) =
            let reads = atom_parts Reads a (c ∷ w) h.1 in
            let last = short a w reads in
            ((true_and before (takes a)).1 (h.0, (is_taken a).1 (subst (λ (v : List W). Reads a (c ∷ v)) last reads)), last)
        shift_from before (block label Once xs) m later w (inl h) = shift_one_from before xs m later w (inl h)
        shift_from before (block label Once xs) m later w (inr h) =
            shift_one_from before xs m later w (inr (h.0, once_parts Reads label xs (c ∷ w) h.1))
        shift_from before (block label (Optional sign) xs) m later w (inl h) = shift_one_from before xs m later w (inl h)
        shift_from before (block label (Optional sign) xs) m later w (inr h) = elim (optional_parts Reads label sign xs (c ∷ w) h.1) [
          | inl e ↦ absurd (let n : ⊥ = cc in n)
          | inr g ↦ shift_one_from before xs m later w (inr (h.0, g))
        ]
        shift_from before (block label (Star sign) xs) m later w (inl h) =
            loop_from before label sign xs m (shift_either quiet takes (before || ends_either quiet false xs m) xs m ++ later) w
            (λ u g. shift_one_from (before || ends_either quiet false xs m) xs m later u g) (inl h)
        shift_from before (block label (Star sign) xs) m later w (inr h) =
            loop_from before label sign xs m (shift_either quiet takes (before || ends_either quiet false xs m) xs m ++ later) w
            (λ u g. shift_one_from (before || ends_either quiet false xs m) xs m later u g)
            (inr (h.0, star_turn Reads label sign xs c w (c ∷ w) h.1 refl))
        shift_from before (block label (Plus sign) xs) m later w (inl h) =
            loop_from before label sign xs m (shift_either quiet takes (before || ends_either quiet false xs m) xs m ++ later) w
            (λ u g. shift_one_from (before || ends_either quiet false xs m) xs m later u g) (inl h)
        shift_from before (block label (Plus sign) xs) m later w (inr h) =
            loop_from before label sign xs m (shift_either quiet takes (before || ends_either quiet false xs m) xs m ++ later) w
            (λ u g. shift_one_from (before || ends_either quiet false xs m) xs m later u g)
            (inr (h.0, a_full_turn label sign xs w (plus_parts Reads label sign xs (c ∷ w) h.1)))

        -- of elements one after another
        pub shift_all_from : (before : Bool) (xs : Elements A) (m later : List Bool) (w : List W)
            → LeadsAll Reads xs m (c ∷ w) ⊎ (IsTrue before × GivesAll Reads xs (c ∷ w))
            → LeadsAll Reads xs (shift_all quiet takes before xs m ++ later) w
        shift_all_from before empty m later w (inl h) = h
        shift_all_from before empty m later w (inr h) = let e = empty_parts Reads (c ∷ w) h.1 in let n : ⊥ = cc in n
        shift_all_from before (then x xs) m later w h =
            let first = shift quiet takes before x m in
            let second = shift_all quiet takes (ends quiet before x m) xs (past x m) in
            let here : Joined (λ u. Leads Reads x m (c ∷ u) ⊎ (IsTrue before × Gives Reads x (c ∷ u))) (GivesAll Reads xs) w
            → LeadsAll Reads (then x xs) (first ++ (second ++ later)) w =
            λ j. inl (j.0, j.1, j.2, shift_from before x m (second ++ later) j.0 j.3, j.4) in
            let further : LeadsAll Reads xs (past x m) (c ∷ w) ⊎ (IsTrue (ends quiet before x m) × GivesAll Reads xs (c ∷ w))
            → LeadsAll Reads (then x xs) (first ++ (second ++ later)) w =
            λ g. inr (subst (λ (z : List Bool). LeadsAll Reads xs z w) (sym (past_shift before x m (second ++ later)))
            (shift_all_from (ends quiet before x m) xs (past x m) later w g)) in
            subst (λ (z : List Bool). LeadsAll Reads (then x xs) z w) (sym (append_assoc first second later)) (elim h [
              | inl led ↦ elim led [
                | inl j ↦ elim (first_letter (Leads Reads x m) (GivesAll Reads xs) c w j) [
                  | inl k ↦ here (k.0, k.1, k.2, inl k.3, k.4)
                  | inr both ↦ further (inr (ends_from Reads quiet is_quiet before x m (inl both.0), both.1))
                ]
                | inr l ↦ further (inl l)
              ]
              | inr g ↦ elim (first_letter (Gives Reads x) (GivesAll Reads xs) c w (then_parts Reads x xs (c ∷ w) g.1)) [
                | inl k ↦ here (k.0, k.1, k.2, inr (g.0, k.3), k.4)
                | inr both ↦ further (inr (ends_from Reads quiet is_quiet before x m (inr (g.0, both.0)), both.1))
              ]
            ])

        -- of alternatives
        pub shift_one_from : (before : Bool) (xs : Alternatives A) (m later : List Bool) (w : List W)
            → LeadsOne Reads xs m (c ∷ w) ⊎ (IsTrue before × GivesOne Reads xs (c ∷ w))
            → LeadsOne Reads xs (shift_either quiet takes before xs m ++ later) w
        shift_one_from before none m later w (inl h) = h
        shift_one_from before none m later w (inr h) = none_parts Reads (c ∷ w) h.1
        shift_one_from before (or x xs) m later w h =
            let first = shift_all quiet takes before x m in
            let second = shift_either quiet takes before xs (past_all x m) in
            let here : LeadsAll Reads x m (c ∷ w) ⊎ (IsTrue before × GivesAll Reads x (c ∷ w))
            → LeadsOne Reads (or x xs) (first ++ (second ++ later)) w =
            λ g. inl (shift_all_from before x m (second ++ later) w g) in
            let further : LeadsOne Reads xs (past_all x m) (c ∷ w) ⊎ (IsTrue before × GivesOne Reads xs (c ∷ w))
            → LeadsOne Reads (or x xs) (first ++ (second ++ later)) w =
            λ g. inr (subst (λ (z : List Bool). LeadsOne Reads xs z w) (sym (past_shift_all before x m (second ++ later)))
            (shift_one_from before xs (past_all x m) later w g)) in
            subst (λ (z : List Bool). LeadsOne Reads (or x xs) z w) (sym (append_assoc first second later)) (elim h [
              | inl led ↦ elim led [ inl l ↦ here (inl l) | inr l ↦ further (inl l) ]
              | inr g ↦ elim (or_parts Reads x xs (c ∷ w) g.1) [ inl one ↦ here (inr (g.0, one)) | inr one ↦ further (inr (g.0, one)) ]
            ])
