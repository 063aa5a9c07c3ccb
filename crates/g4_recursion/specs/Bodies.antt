-- Bodies by number and their clauses. A body is the alternatives of a rule or of a block. It derives the empty word where the
-- needs of one of its alternatives do, which are bodies again.
use Rattle.std.specs.Prelude.{◌≡◌, ◌<◌, ◌≤◌, ℕ, List, [], ◌∷◌, ◌++◌, ◌⊎◌, Bool, true, false, Some, All, Contains, length, slice_get}
use Rattle.g4_source.specs.declared.element.Repeat.TheVariants.{Once, Optional, Star, Plus}
use Rattle.g4_source.specs.Elements.{Element, atom, block, Elements, empty, then, Alternatives, none, or}
use Rattle.g4_grammar.specs.LeftCalls.{Nullable, AllNullable}
use Rattle.g4_horn.specs.declared.clause.Clause.{Clause}
use Rattle.g4_recursion.specs.declared.lead.Lead.{Lead}
use Rattle.g4_recursion.specs.declared.lead.Lead.TheVariants.{Empty, Symbol, Call}
use Rattle.g4_recursion.specs.declared.clauses.Bodies.{Bodies}
use Rattle.g4_recursion.specs.Leads.{ReadsLead, CallsLead}

-- the elements are one of the alternatives
abbrev pub IsAlternative : Alternatives Lead → Elements Lead → Type 0
IsAlternative none x = ⊥
IsAlternative (or y ys) x = (y ≡ x) ⊎ IsAlternative ys x

module _ (rules bodies : List (Alternatives Lead)) where
  -- the element derives the empty word where these bodies do: a symbol never does
  abbrev pub HasNeeds : Element Lead → List ℕ → Type 0
  HasNeeds (atom Empty) ns = ns ≡ []
  HasNeeds (atom Symbol) ns = ⊥
  HasNeeds (atom (Call rule)) ns = (ns ≡ rule ∷ []) × (rule < length rules)
  HasNeeds (block label Once xs) ns = (n : ℕ) × (ns ≡ n ∷ []) × (slice_get bodies n ≡ Some xs)
  HasNeeds (block label (Optional sign) xs) ns = ns ≡ []
  HasNeeds (block label (Star sign) xs) ns = ns ≡ []
  HasNeeds (block label (Plus sign) xs) ns = (n : ℕ) × (ns ≡ n ∷ []) × (slice_get bodies n ≡ Some xs)

  -- the elements do where these bodies do
  abbrev pub HaveNeeds : Elements Lead → List ℕ → Type 0
  HaveNeeds empty ns = ns ≡ []
  HaveNeeds (then x xs) ns = (us vs : List ℕ) × (ns ≡ us ++ vs) × HasNeeds x us × HaveNeeds xs vs

  -- the clause is of an alternative of a body
  pub record IsOfBody (clause : Clause) : Type 0 where
    pub body : Alternatives Lead
    pub at : slice_get bodies clause.head ≡ Some body
    pub alternative : Elements Lead
    pub among : IsAlternative body alternative
    pub needs : HaveNeeds alternative clause.needs.items

  -- the alternative of the body of this number has a clause
  pub record HasClause (clauses : List Clause) (number : ℕ) (alternative : Elements Lead) : Type 0 where
    pub clause : Clause
    pub among : Contains clauses clause
    pub head : clause.head ≡ number
    pub needs : HaveNeeds alternative clause.needs.items

  -- each alternative that may derive the empty word has a clause
  abbrev pub IsCovered : List Clause → ℕ → Alternatives Lead → Type 0
  IsCovered clauses number xs = (x : Elements Lead) → IsAlternative xs x → AllNullable ReadsLead CallsLead rules x
      → HasClause clauses number x

  -- the same of each body
  abbrev pub AreCovered : List Clause → Type 0
  AreCovered clauses = (k : ℕ) (xs : Alternatives Lead) → slice_get bodies k ≡ Some xs → IsCovered clauses k xs

  -- These are the bodies, the rules first, and the clauses are theirs.
  pub record AreBodies (made : Bodies) : Type 0 where
    pub rule_count : made.rules ≡ length rules
    pub body_count : made.count ≡ length bodies
    pub no_fewer : length rules ≤ length bodies
    pub rules_first : (k : ℕ) (xs : Alternatives Lead) → slice_get rules k ≡ Some xs → slice_get bodies k ≡ Some xs
    pub of_bodies : All IsOfBody made.clauses.items

  -- what an element needs is added to these needs, where it may derive the empty word
  pub record AddsNeeds (x : Element Lead) (before after : List ℕ) (can : Bool) : Type 0 where
    pub added : can ≡ true → (us : List ℕ) × (after ≡ before ++ us) × HasNeeds x us
    pub never : can ≡ false → Nullable ReadsLead CallsLead rules x → ⊥

-- There are later bodies and more clauses than before, and each new body has all its clauses.
pub record Grows (rules bodies later : List (Alternatives Lead)) (before after : Bodies) : Type 0 where
  pub are_bodies : AreBodies rules later after
  pub bodies_kept : (k : ℕ) (xs : Alternatives Lead) → slice_get bodies k ≡ Some xs → slice_get later k ≡ Some xs
  pub clauses_kept : (clause : Clause) → Contains before.clauses.items clause → Contains after.clauses.items clause
  pub covered : (k : ℕ) (xs : Alternatives Lead) → slice_get later k ≡ Some xs → length bodies ≤ k
      → IsCovered rules later after.clauses.items k xs
