-- The first item of a list of which something is reported.
use Rattle.std.specs.Prelude.{◌≡◌, List, ◌∷◌, ◌++◌, All, Option, Some, None}

-- nothing is reported of any item
abbrev pub IsNone : {A B : Type 0} → (A → B → Type 0) → List A → Type 0
IsNone {A} {B} Reports xs = All (λ x. (b : B) → Reports x b → ⊥) xs

-- b is what is reported of the first item of which anything is reported
pub record IsFirst {A B : Type 0} (Reports : A → B → Type 0) (xs : List A) (b : B) : Type 0 where
  pub before : List A
  pub item : A
  pub after : List A
  pub parts : xs ≡ before ++ item ∷ after
  pub none_before : IsNone Reports before
  pub reported : Reports item b

-- nothing is reported, or what is reported of the first
abbrev pub FindsFirst : {A B : Type 0} → (A → B → Type 0) → List A → Option B → Type 0
FindsFirst Reports xs None = IsNone Reports xs
FindsFirst Reports xs (Some b) = IsFirst Reports xs b

-- nothing is reported of the item, or b
abbrev pub Finds : {A B : Type 0} → (A → B → Type 0) → A → Option B → Type 0
Finds {A} {B} Reports x None = (b : B) → Reports x b → ⊥
Finds Reports x (Some b) = Reports x b
