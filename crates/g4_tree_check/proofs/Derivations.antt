-- Derivations without calls, by their parts.
use Rattle.std.proofs.Common.{◌≡◌, ◌⊎◌, inl, inr, List, [], ◌∷◌, ◌++◌, Option, refl, sym, ◌∙◌, subst}
use Rattle.g4_source.specs.declared.name.Label.{Label}
use Rattle.g4_source.specs.declared.element.Suffix.{Suffix}
use Rattle.g4_source.specs.declared.element.Repeat.TheVariants.{Once, Optional, Star, Plus}
use Rattle.g4_source.specs.Elements.{Element, atom, block, Elements, empty, then, Alternatives, none, or}
use Rattle.g4_grammar.specs.Derives.{NoCalls, Derives, an_atom, a_call, a_block, left_out, taken, no_turn, a_turn, turns, DerivesAll, nothing, one_more, DerivesOne, this, another}
use Rattle.g4_tree_check.proofs.Words.{Joined}

module _ {A W : Type 0} (Reads : A → List W → Type 0) where
  -- the element derives the word
  abbrev pub Gives : Element A → List W → Type 0
  Gives x w = Derives Reads NoCalls [] x w

  -- the elements
  abbrev pub GivesAll : Elements A → List W → Type 0
  GivesAll xs w = DerivesAll Reads NoCalls [] xs w

  -- one of the alternatives
  abbrev pub GivesOne : Alternatives A → List W → Type 0
  GivesOne xs w = DerivesOne Reads NoCalls [] xs w

  pub atom_parts : (a : A) (w : List W) → Gives (atom a) w → Reads a w
  atom_parts a w (an_atom b v reads) = reads
  atom_parts a w (a_call b rule xs v calls at one) = absurd calls

  pub empty_parts : (w : List W) → GivesAll empty w → w ≡ []
  empty_parts w nothing = refl

  pub then_parts : (x : Element A) (xs : Elements A) (w : List W) → GivesAll (then x xs) w → Joined (Gives x) (GivesAll xs) w
  then_parts x xs w (one_more y ys u v z h hs is) = (u, v, is, h, hs)

  pub none_parts : (w : List W) → GivesOne none w → ⊥
  none_parts w h = elim h [ ]

  pub or_parts : (x : Elements A) (xs : Alternatives A) (w : List W) → GivesOne (or x xs) w → GivesAll x w ⊎ GivesOne xs w
  or_parts x xs w (this y ys z h) = inl h
  or_parts x xs w (another y ys z h) = inr h

  pub once_parts : (label : Option Label) (xs : Alternatives A) (w : List W) → Gives (block label Once xs) w → GivesOne xs w
  once_parts label xs w (a_block name ys z h) = h

  pub optional_parts : (label : Option Label) (sign : Suffix) (xs : Alternatives A) (w : List W)
      → Gives (block label (Optional sign) xs) w → (w ≡ []) ⊎ GivesOne xs w
  optional_parts label sign xs w (left_out name s ys) = inl refl
  optional_parts label sign xs w (taken name s ys z h) = inr h

  pub star_parts : (label : Option Label) (sign : Suffix) (xs : Alternatives A) (w : List W) → Gives (block label (Star sign) xs) w
      → (w ≡ []) ⊎ Joined (GivesOne xs) (Gives (block label (Star sign) xs)) w
  star_parts label sign xs w (no_turn name s ys) = inl refl
  star_parts label sign xs w (a_turn name s ys u v z h hs is) = inr (u, v, is, h, hs)

  pub plus_parts : (label : Option Label) (sign : Suffix) (xs : Alternatives A) (w : List W) → Gives (block label (Plus sign) xs) w
      → Joined (GivesOne xs) (Gives (block label (Star sign) xs)) w
  plus_parts label sign xs w (turns name s ys u v z h hs is) = (u, v, is, h, hs)

  -- a star that derives a word that is not empty has a turn that is not
  pub star_turn : (label : Option Label) (sign : Suffix) (xs : Alternatives A) (c : W) (w z : List W)
      → Gives (block label (Star sign) xs) z → z ≡ c ∷ w → Joined (λ u. GivesOne xs (c ∷ u)) (Gives (block label (Star sign) xs)) w
  star_turn label sign xs c w z (no_turn name s ys) e = absurd (let n : ⊥ = cc in n)
  star_turn label sign xs c w z (a_turn name s ys [] v y h hs is) e = star_turn label sign xs c w v hs (sym is ∙ e)
  star_turn label sign xs c w z (a_turn name s ys (d ∷ u) v y h hs is) e =
      let first : d ≡ c = cc in
      let others : w ≡ u ++ v = cc in
      (u, v, others, subst (λ (x : W). GivesOne xs (x ∷ u)) first h, hs)
