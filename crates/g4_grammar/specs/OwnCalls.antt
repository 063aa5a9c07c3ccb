-- Rules with alternatives that begin with a plain reference to the rule itself. Such a rule is run as a loop: one of its other
-- alternatives, which are its primaries, and then any number of turns, each of which is what follows the reference in one of its
-- operators, the alternatives that begin with it. So this reference is the turn of a loop and no left call.
use Rattle.std.specs.Prelude.{◌≡◌, ℕ, List, ◌⊎◌, Some, slice_get}
use Rattle.g4_source.specs.Elements.{atom, block, Elements, empty, then, Alternatives, none, or}
use Rattle.g4_grammar.specs.LeftCalls.{Nullable, AllNullable, IsLeftOfAll, NoCycle}
use Rattle.g4_grammar.specs.Loops.{NoEmptyLoop}

-- the elements are one of the alternatives
abbrev pub IsOneOf : {A : Type 0} → Alternatives A → Elements A → Type 0
IsOneOf none x = ⊥
IsOneOf (or y ys) x = (x ≡ y) ⊎ IsOneOf ys x

-- `Own` says of an atom that it is a reference to the rule of this number with which an operator of that rule may begin
module _ {A : Type 0} (Own : A → ℕ → Type 0) where
  -- the elements are an operator of rule k, and these follow the reference to the rule itself
  abbrev pub IsOperator : ℕ → Elements A → Elements A → Type 0
  IsOperator k empty rest = ⊥
  IsOperator k (then (atom a) xs) rest = Own a k × (rest ≡ xs)
  IsOperator k (then (block label repeat ys) xs) rest = ⊥

  -- rule k of these alternatives has an operator, and each alternative is one
  pub record LacksPrimary (k : ℕ) (xs : Alternatives A) : Type 0 where
    pub some : (x rest : Elements A) × IsOneOf xs x × IsOperator k x rest
    pub each : (x : Elements A) → IsOneOf xs x → (rest : Elements A) × IsOperator k x rest

module _ {A : Type 0} (Reads : A → List ℕ → Type 0) (Calls Own : A → ℕ → Type 0) (rules : List (Alternatives A)) where
  -- what follows the reference in an operator of rule k derives the empty word
  abbrev pub HasEmptyOperator : ℕ → Alternatives A → Type 0
  HasEmptyOperator k xs = (x rest : Elements A) × IsOneOf xs x × IsOperator Own k x rest × AllNullable Reads Calls rules rest

  -- the alternative of rule k calls rule j before anything is read, as the rule is run
  abbrev pub IsLeftAsRun : ℕ → Elements A → ℕ → Type 0
  IsLeftAsRun k empty j = ⊥
  IsLeftAsRun k (then (atom a) xs) j = (Calls a j × (Own a k → ⊥))
      ⊎ (Nullable Reads Calls rules (atom a) × IsLeftOfAll Reads Calls rules xs j)
  IsLeftAsRun k (then (block label repeat ys) xs) j = IsLeftOfAll Reads Calls rules (then (block label repeat ys) xs) j

  -- one of the alternatives of rule k does
  abbrev pub IsLeftOfOneAsRun : ℕ → Alternatives A → ℕ → Type 0
  IsLeftOfOneAsRun k none j = ⊥
  IsLeftOfOneAsRun k (or x xs) j = IsLeftAsRun k x j ⊎ IsLeftOfOneAsRun k xs j

  -- rule k calls rule j before anything is read, as it is run
  abbrev pub LeftCallsAsRun : ℕ → ℕ → Type 0
  LeftCallsAsRun k j = (xs : Alternatives A) × (slice_get rules k ≡ Some xs) × IsLeftOfOneAsRun k xs j

  -- What running rules asks of them: no loop has a body that derives the empty word, no rule with an operator lacks a primary, no
  -- operator can be passed without reading, and no rule reaches itself by left calls.
  pub record CanRun : Type 0 where
    pub loops : NoEmptyLoop Reads Calls rules
    pub primaries : (k : ℕ) (xs : Alternatives A) → slice_get rules k ≡ Some xs → LacksPrimary Own k xs → ⊥
    pub operators : (k : ℕ) (xs : Alternatives A) → slice_get rules k ≡ Some xs → HasEmptyOperator k xs → ⊥
    pub cycles : NoCycle LeftCallsAsRun
