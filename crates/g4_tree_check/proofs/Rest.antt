-- What marks mean: the words that lead from a mark of an element to its end.
use Rattle.std.proofs.Common.{◌≡◌, ◌↔◌, ◌⊎◌, inl, inr, List, [], Bool, ◌&&◌, IsTrue, refl, ap, ◌∙◌, subst}
use Rattle.g4_source.specs.declared.element.Repeat.TheVariants.{Once, Optional, Star, Plus}
use Rattle.g4_source.specs.Elements.{Element, atom, block, Elements, empty, then, Alternatives, none, or}
use Rattle.g4_grammar.specs.Derives.{an_atom, a_block, left_out, taken, no_turn, turns, nothing, one_more, this, another}
use Rattle.g4_tree_check.specs.Marks.{first_mark, past, past_all, past_either, ends, ends_all, ends_either}
use Rattle.g4_tree_check.proofs.Derivations.{Gives, GivesAll, GivesOne, atom_parts, then_parts, none_parts, or_parts, once_parts, plus_parts}
use Rattle.g4_tree_check.proofs.Outcomes.{true_or, true_and}
use Rattle.g4_tree_check.proofs.Words.{Joined, both_empty}

module _ {A W : Type 0} (Reads : A → List W → Type 0) where
  abbrev mutual
    -- the word leads from a mark of the element to its end
    pub Leads : Element A → List Bool → List W → Type 0
    Leads (atom a) marks w = IsTrue (first_mark marks) × (w ≡ [])
    Leads (block label Once xs) marks w = LeadsOne xs marks w
    Leads (block label (Optional sign) xs) marks w = LeadsOne xs marks w
    Leads (block label (Star sign) xs) marks w = Joined (LeadsOne xs marks) (Gives Reads (block label (Star sign) xs)) w
    Leads (block label (Plus sign) xs) marks w = Joined (LeadsOne xs marks) (Gives Reads (block label (Star sign) xs)) w

    -- of elements one after another
    pub LeadsAll : Elements A → List Bool → List W → Type 0
    LeadsAll empty marks w = ⊥
    LeadsAll (then x xs) marks w = Joined (Leads x marks) (GivesAll Reads xs) w ⊎ LeadsAll xs (past x marks) w

    -- of alternatives
    pub LeadsOne : Alternatives A → List Bool → List W → Type 0
    LeadsOne none marks w = ⊥
    LeadsOne (or x xs) marks w = LeadsAll x marks w ⊎ LeadsOne xs (past_all x marks) w

  -- where there is no mark, no word does
  mutual
    pub no_past : (x : Element A) → past x [] ≡ []
    no_past (atom a) = refl
    no_past (block label repeat xs) = no_past_one xs

    pub no_past_all : (xs : Elements A) → past_all xs [] ≡ []
    no_past_all empty = refl
    no_past_all (then x xs) = ap (past_all xs) (no_past x) ∙ no_past_all xs

    pub no_past_one : (xs : Alternatives A) → past_either xs [] ≡ []
    no_past_one none = refl
    no_past_one (or x xs) = ap (past_either xs) (no_past_all x) ∙ no_past_one xs

  mutual
    pub no_lead : (x : Element A) (w : List W) → Leads x [] w → ⊥
    no_lead (atom a) w h = cc (h.0)
    no_lead (block label Once xs) w h = no_lead_one xs w h
    no_lead (block label (Optional sign) xs) w h = no_lead_one xs w h
    no_lead (block label (Star sign) xs) w (u, v, is, p, q) = no_lead_one xs u p
    no_lead (block label (Plus sign) xs) w (u, v, is, p, q) = no_lead_one xs u p

    pub no_lead_all : (xs : Elements A) (w : List W) → LeadsAll xs [] w → ⊥
    no_lead_all empty w h = h
    no_lead_all (then x xs) w (inl (u, v, is, p, q)) = no_lead x u p
    no_lead_all (then x xs) w (inr h) = no_lead_all xs w (subst (λ (m : List Bool). LeadsAll xs m w) (no_past x) h)

    pub no_lead_one : (xs : Alternatives A) (w : List W) → LeadsOne xs [] w → ⊥
    no_lead_one none w h = h
    no_lead_one (or x xs) w (inl h) = no_lead_all x w h
    no_lead_one (or x xs) w (inr h) = no_lead_one xs w (subst (λ (m : List Bool). LeadsOne xs m w) (no_past_all x) h)

  -- a test that decides which atoms read nothing
  module _ (quiet : A → Bool) (is_quiet : (a : A) → IsTrue (quiet a) ↔ Reads a []) where
    mutual
      -- what was read may end where an element ends exactly where the empty word leads there
      pub ends_to : (before : Bool) (x : Element A) (m : List Bool) → IsTrue (ends quiet before x m)
          → Leads x m [] ⊎ (IsTrue before × Gives Reads x [])
      ends_to before (atom a) m h = elim ((true_or (first_mark m) (before && quiet a)).0 h) [
        | inl marked ↦ inl (marked, refl)
        | inr both ↦ let p = (true_and before (quiet a)).0 both in inr (p.0, an_atom a [] ((is_quiet a).0 p.1))
      ]
      ends_to before (block label Once xs) m h =
          elim (ends_one_to before xs m h) [ inl l ↦ inl l | inr g ↦ inr (g.0, a_block label xs [] g.1) ]
      ends_to before (block label (Optional sign) xs) m h = elim ((true_or before (ends_either quiet before xs m)).0 h) [
        | inl b ↦ inr (b, left_out label sign xs)
        | inr e ↦ elim (ends_one_to before xs m e) [ inl l ↦ inl l | inr g ↦ inr (g.0, taken label sign xs [] g.1) ]
      ]
      ends_to before (block label (Star sign) xs) m h = elim ((true_or before (ends_either quiet before xs m)).0 h) [
        | inl b ↦ inr (b, no_turn label sign xs)
        | inr e ↦ elim (ends_one_to before xs m e)
            [ inl l ↦ inl ([], [], refl, l, no_turn label sign xs) | inr g ↦ inr (g.0, no_turn label sign xs) ]
      ]
      ends_to before (block label (Plus sign) xs) m h =
          elim (ends_one_to before xs m h) [
            | inl l ↦ inl ([], [], refl, l, no_turn label sign xs)
            | inr g ↦ inr
                (g.0, turns label sign xs [] [] [] g.1 (no_turn label sign xs) refl)
          ]

      pub ends_all_to : (before : Bool) (xs : Elements A) (m : List Bool) → IsTrue (ends_all quiet before xs m)
          → LeadsAll xs m [] ⊎ (IsTrue before × GivesAll Reads xs [])
      ends_all_to before empty m h = inr (h, nothing)
      ends_all_to before (then x xs) m h = elim (ends_all_to (ends quiet before x m) xs (past x m) h) [
        | inl l ↦ inl (inr l)
        | inr g ↦ elim (ends_to before x m g.0) [
          | inl l ↦ inl (inl ([], [], refl, l, g.1))
          | inr f ↦ inr
              (f.0, one_more x xs [] [] [] f.1 g.1 refl)
        ]
      ]

      pub ends_one_to : (before : Bool) (xs : Alternatives A) (m : List Bool) → IsTrue (ends_either quiet before xs m)
          → LeadsOne xs m [] ⊎ (IsTrue before × GivesOne Reads xs [])
      ends_one_to before none m h = absurd (cc)
      ends_one_to before (or x xs) m h = elim ((true_or (ends_all quiet before x m) (ends_either quiet before xs (past_all x m))).0 h) [
        | inl e ↦ elim (ends_all_to before x m e) [ inl l ↦ inl (inl l) | inr g ↦ inr (g.0, this x xs [] g.1) ]
        | inr e ↦ elim (ends_one_to before xs (past_all x m) e) [ inl l ↦ inl (inr l) | inr g ↦ inr (g.0, another x xs [] g.1) ]
      ]

    mutual
      -- and back
      pub ends_from : (before : Bool) (x : Element A) (m : List Bool) → Leads x m [] ⊎ (IsTrue before × Gives Reads x [])
          → IsTrue (ends quiet before x m)
      ends_from before (atom a) m (inl h) = (true_or (first_mark m) (before && quiet a)).1 (inl h.0)
      ends_from before (atom a) m (inr h) = (true_or (first_mark m) (before && quiet a)).1
          (inr ((true_and before (quiet a)).1 (h.0, (is_quiet a).1 (atom_parts Reads a [] h.1))))
      ends_from before (block label Once xs) m (inl h) = ends_one_from before xs m (inl h)
      ends_from before (block label Once xs) m (inr h) = ends_one_from before xs m (inr (h.0, once_parts Reads label xs [] h.1))
      ends_from before (block label (Optional sign) xs) m (inl h) =
          (true_or before (ends_either quiet before xs m)).1 (inr (ends_one_from before xs m (inl h)))
      ends_from before (block label (Optional sign) xs) m (inr h) = (true_or before (ends_either quiet before xs m)).1 (inl h.0)
      ends_from before (block label (Star sign) xs) m (inl h) =
          (true_or before (ends_either quiet before xs m)).1
          (inr (ends_one_from before xs m (inl (both_empty (LeadsOne xs m) (Gives Reads (block label (Star sign) xs)) h).0)))
      ends_from before (block label (Star sign) xs) m (inr h) = (true_or before (ends_either quiet before xs m)).1 (inl h.0)
      ends_from before (block label (Plus sign) xs) m (inl h) =
          ends_one_from before xs m (inl (both_empty (LeadsOne xs m) (Gives Reads (block label (Star sign) xs)) h).0)
      ends_from before (block label (Plus sign) xs) m (inr h) =
          ends_one_from before xs m (inr (
            h.0,
            (both_empty (GivesOne Reads xs) (Gives Reads (block label (Star sign) xs))
                (plus_parts Reads label sign xs [] h.1)).0,
          ))

      pub ends_all_from : (before : Bool) (xs : Elements A) (m : List Bool)
          → LeadsAll xs m [] ⊎ (IsTrue before × GivesAll Reads xs []) → IsTrue (ends_all quiet before xs m)
      ends_all_from before empty m (inl h) = absurd h
      ends_all_from before empty m (inr h) = h.0
      ends_all_from before (then x xs) m (inl (inl h)) =
          let both = both_empty (Leads x m) (GivesAll Reads xs) h in
          ends_all_from (ends quiet before x m) xs (past x m) (inr (ends_from before x m (inl both.0), both.1))
      ends_all_from before (then x xs) m (inl (inr h)) = ends_all_from (ends quiet before x m) xs (past x m) (inl h)
      ends_all_from before (then x xs) m (inr h) =
          let both = both_empty (Gives Reads x) (GivesAll Reads xs) (then_parts Reads x xs [] h.1) in
          ends_all_from (ends quiet before x m) xs (past x m) (inr (ends_from before x m (inr (h.0, both.0)), both.1))

      pub ends_one_from : (before : Bool) (xs : Alternatives A) (m : List Bool)
          → LeadsOne xs m [] ⊎ (IsTrue before × GivesOne Reads xs []) → IsTrue (ends_either quiet before xs m)
      ends_one_from before none m (inl h) = absurd h
      ends_one_from before none m (inr h) = absurd (none_parts Reads [] h.1)
      ends_one_from before (or x xs) m (inl (inl h)) =
          (true_or (ends_all quiet before x m) (ends_either quiet before xs (past_all x m))).1 (inl (ends_all_from before x m (inl h)))
      ends_one_from before (or x xs) m (inl (inr h)) =
          (true_or (ends_all quiet before x m) (ends_either quiet before xs (past_all x m))).1
          (inr (ends_one_from before xs (past_all x m) (inl h)))
      ends_one_from before (or x xs) m (inr h) =
          (true_or (ends_all quiet before x m) (ends_either quiet before xs (past_all x m))).1 (elim (or_parts Reads x xs [] h.1) [
            | inl g ↦ inl (ends_all_from before x m (inr (h.0, g)))
            | inr g ↦ inr (ends_one_from before xs (past_all x m) (inr (h.0, g)))
          ])
