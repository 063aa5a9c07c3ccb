-- Which elements derive the empty word, and which rule calls which before anything is read.
use Rattle.std.specs.Prelude.{◌≡◌, ◌<◌, ℕ, List, [], ◌⊎◌, length, Option, Some, slice_get}
use Rattle.g4_source.specs.declared.name.Label.{Label}
use Rattle.g4_source.specs.declared.element.Suffix.{Suffix}
use Rattle.g4_source.specs.declared.element.Repeat.TheVariants.{Once, Optional, Star, Plus}
use Rattle.g4_source.specs.Elements.{Element, atom, block, Elements, empty, then, Alternatives, none, or}

mutual
  -- the element derives the empty word
  pub data Nullable {A : Type 0} (Reads : A → List ℕ → Type 0) (Calls : A → ℕ → Type 0) (rules : List (Alternatives A)) : Element A
      → Type 0 where
    an_atom : (a : A) → Reads a [] → Nullable Reads Calls rules (atom a)
    a_call : (a : A) (rule : ℕ) (xs : Alternatives A) → Calls a rule → slice_get rules rule ≡ Some xs
        → OneNullable Reads Calls rules xs → Nullable Reads Calls rules (atom a)
    a_block : (label : Option Label) (xs : Alternatives A) → OneNullable Reads Calls rules xs
        → Nullable Reads Calls rules (block label Once xs)
    an_optional : (label : Option Label) (sign : Suffix) (xs : Alternatives A) → Nullable Reads Calls rules (block label (Optional sign) xs)
    a_star : (label : Option Label) (sign : Suffix) (xs : Alternatives A) → Nullable Reads Calls rules (block label (Star sign) xs)
    a_plus : (label : Option Label) (sign : Suffix) (xs : Alternatives A) → OneNullable Reads Calls rules xs
        → Nullable Reads Calls rules (block label (Plus sign) xs)

  -- each of the elements does
  pub data AllNullable {A : Type 0} (Reads : A → List ℕ → Type 0) (Calls : A → ℕ → Type 0) (rules : List (Alternatives A)) :
      Elements A → Type 0 where
    nothing : AllNullable Reads Calls rules empty
    one_more : (x : Element A) (xs : Elements A) → Nullable Reads Calls rules x → AllNullable Reads Calls rules xs
        → AllNullable Reads Calls rules (then x xs)

  -- one of the alternatives does
  pub data OneNullable {A : Type 0} (Reads : A → List ℕ → Type 0) (Calls : A → ℕ → Type 0) (rules : List (Alternatives A)) :
      Alternatives A → Type 0 where
    this : (x : Elements A) (xs : Alternatives A) → AllNullable Reads Calls rules x → OneNullable Reads Calls rules (or x xs)
    another : (x : Elements A) (xs : Alternatives A) → OneNullable Reads Calls rules xs → OneNullable Reads Calls rules (or x xs)

module _ {A : Type 0} (Reads : A → List ℕ → Type 0) (Calls : A → ℕ → Type 0) (rules : List (Alternatives A)) where
  abbrev mutual
    -- the element is or has in it a call of rule j that only elements that derive the empty word precede
    pub IsLeftOf : Element A → ℕ → Type 0
    IsLeftOf (atom a) j = Calls a j
    IsLeftOf (block label repeat xs) j = IsLeftOfOne xs j

    -- the elements have
    pub IsLeftOfAll : Elements A → ℕ → Type 0
    IsLeftOfAll empty j = ⊥
    IsLeftOfAll (then x xs) j = IsLeftOf x j ⊎ (Nullable Reads Calls rules x × IsLeftOfAll xs j)

    -- one of the alternatives has
    pub IsLeftOfOne : Alternatives A → ℕ → Type 0
    IsLeftOfOne none j = ⊥
    IsLeftOfOne (or x xs) j = IsLeftOfAll x j ⊎ IsLeftOfOne xs j

  -- rule k calls rule j before anything is read
  abbrev pub LeftCalls : ℕ → ℕ → Type 0
  LeftCalls k j = (xs : Alternatives A) × (slice_get rules k ≡ Some xs) × IsLeftOfOne xs j

-- by calls of one kind, one or more, k reaches j
pub data ReachesBy (Call : ℕ → ℕ → Type 0) (k : ℕ) : ℕ → Type 0 where
  one_call : (j : ℕ) → Call k j → ReachesBy Call k j
  more_calls : (i j : ℕ) → ReachesBy Call k i → Call i j → ReachesBy Call k j

-- none reaches itself
abbrev pub NoCycle : (ℕ → ℕ → Type 0) → Type 0
NoCycle Call = (k : ℕ) → ReachesBy Call k k → ⊥

-- rule k reaches rule j by left calls
abbrev pub ReachesLeft : {A : Type 0} → (A → List ℕ → Type 0) → (A → ℕ → Type 0) → List (Alternatives A) → ℕ → ℕ → Type 0
ReachesLeft Reads Calls rules k j = ReachesBy (LeftCalls Reads Calls rules) k j

-- no rule reaches itself by left calls
abbrev pub NoLeftCycle : {A : Type 0} → (A → List ℕ → Type 0) → (A → ℕ → Type 0) → List (Alternatives A) → Type 0
NoLeftCycle Reads Calls rules = NoCycle (LeftCalls Reads Calls rules)

module _ {A : Type 0} (Calls : A → ℕ → Type 0) where
  abbrev mutual
    -- the element is or has in it a call of rule j
    pub HasCall : Element A → ℕ → Type 0
    HasCall (atom a) j = Calls a j
    HasCall (block label repeat xs) j = SomeHasCall xs j

    -- one of the elements has
    pub OneHasCall : Elements A → ℕ → Type 0
    OneHasCall empty j = ⊥
    OneHasCall (then x xs) j = HasCall x j ⊎ OneHasCall xs j

    -- one of the alternatives has
    pub SomeHasCall : Alternatives A → ℕ → Type 0
    SomeHasCall none j = ⊥
    SomeHasCall (or x xs) j = OneHasCall x j ⊎ SomeHasCall xs j

  -- each call is of a rule of the list
  abbrev pub CallsAreInRange : List (Alternatives A) → Type 0
  CallsAreInRange rules = (k j : ℕ) (xs : Alternatives A) → slice_get rules k ≡ Some xs → SomeHasCall xs j → j < length rules
