-- Children are read one by one, with marks.
use Rattle.std.proofs.Common.{◌≡◌, ◌↔◌, ℕ, ◌+◌, ◌<◌, ◌≤◌, ◌⊎◌, inl, inr, List, [], ◌∷◌, ◌++◌, length, drop, get_or, Bool, true, false, IsTrue, refl, sym, ◌∙◌, subst}
use Rattle.std.proofs.lemmas.List.{append-nil, drop_all, drop_more}
use Rattle.g4_source.specs.Elements.{Elements}
use Rattle.g4_grammar.specs.declared.step.Step.{Step}
use Rattle.g4_trees.specs.declared.tree.Item.{Item}
use Rattle.g4_tree_check.specs.Children.{child_of, is_quiet, takes}
use Rattle.g4_tree_check.specs.Marks.{ends_all, shift_all}
use Rattle.g4_tree_check.specs.TreesOf.{ReadsChildren, DerivesChildren}
use Rattle.g4_tree_check.proofs.Reading.{quiet_child, one_child, taken_child}
use Rattle.g4_tree_check.proofs.Rest.{LeadsAll, no_lead_all, ends_all_to, ends_all_from}
use Rattle.g4_tree_check.proofs.Shifts.{shift_all_to, shift_all_from}

module _ (word : List ℕ) (x : Elements (Step (List ℕ))) where
  -- the children lead from the marks to the end of the elements, or are a word of them where nothing is read yet
  abbrev pub Goes : Bool → List Bool → List Item → Type 0
  Goes first marks heads = LeadsAll (ReadsChildren word) x marks heads ⊎ (IsTrue first × DerivesChildren word x heads)

  -- the children are a word of the elements exactly where those from an index on go from the marks
  abbrev pub Stands : List Item → Bool → List Bool → ℕ → Type 0
  Stands heads first marks i = DerivesChildren word x heads ↔ Goes first marks (drop i heads)

  pub no_child : (heads : List Item) → Stands heads true [] 0
  no_child heads = (λ d. inr (refl, d), λ g. elim g [ inl l ↦ absurd (no_lead_all (ReadsChildren word) x heads l) | inr d ↦ d.1 ])

  -- one more child
  one_more : (first : Bool) (marks next : List Bool) (c : Item) (w : List Item)
      → next ≡ shift_all is_quiet (takes (child_of word c)) first x marks → Goes first marks (c ∷ w) ↔ Goes false next w
  one_more first marks next c w is =
      let made : next ≡ shift_all is_quiet (takes (child_of word c)) first x marks ++ [] =
      is ∙ sym (append-nil (shift_all is_quiet (takes (child_of word c)) first x marks)) in (
        λ g. inl (subst (λ (m : List Bool). LeadsAll (ReadsChildren word) x m w) (sym made)
            (shift_all_from (ReadsChildren word) is_quiet (quiet_child word) (takes (child_of word c)) c (taken_child word c)
            (λ a v. one_child word a c v) first x marks [] w g)),
        λ g. elim g [
          | inl l ↦ shift_all_to (ReadsChildren word) is_quiet (quiet_child word) (takes (child_of word c)) c (taken_child word c)
              (λ a v. one_child word a c v) first x marks [] w (subst (λ (m : List Bool). LeadsAll (ReadsChildren word) x m w) made l)
          | inr d ↦ absurd (cc (d.0))
        ],
      )

  pub more_children : (heads : List Item) (i : ℕ) (other : Item) (first : Bool) (marks next : List Bool) → i < length heads
      → next ≡ shift_all is_quiet (takes (child_of word (get_or heads i other))) first x marks → Stands heads first marks i
      → Stands heads false next (i + 1)
  more_children heads i other first marks next within is stands =
      let c = get_or heads i other in
      let split : drop i heads ≡ c ∷ drop (i + 1) heads = drop_more heads i other within in
      let step = one_more first marks next c (drop (i + 1) heads) is in (
        λ d. step.0 (subst (Goes first marks) split (stands.0 d)),
        λ g. stands.1 (subst (Goes first marks) (sym split) (step.1 g)),
      )

  -- all children
  pub all_children : (heads : List Item) (i : ℕ) (first reached : Bool) (marks : List Bool) → length heads ≤ i
      → reached ≡ ends_all is_quiet first x marks → Stands heads first marks i → IsTrue reached ↔ DerivesChildren word x heads
  all_children heads i first reached marks past is stands =
      let last : drop i heads ≡ [] = drop_all i heads past in (
        λ h. stands.1 (subst (Goes first marks) (sym last)
            (ends_all_to (ReadsChildren word) is_quiet (quiet_child word) first x marks (sym is ∙ h))),
        λ d. is ∙ ends_all_from (ReadsChildren word) is_quiet (quiet_child word) first x marks (subst (Goes first marks) last (stands.0 d)),
      )
