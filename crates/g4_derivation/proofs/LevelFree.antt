-- Elements without levels, and that rules as they are written have none.
use Rattle.std.proofs.Common.{ℕ, List, [], All}
use Rattle.std.proofs.lemmas.List.Elements.{All-head}
use Rattle.g4_source.specs.Elements.{Element, atom, block, Elements, empty, then, Alternatives, none, or, atoms, atoms_in_order, atoms_of_either}
use Rattle.g4_source.specs.Full.{IsFull, AreFull, EachIsFull}
use Rattle.g4_source.proofs.Parts.{All-front, All-rest}
use Rattle.g4_grammar.specs.declared.step.Step.{Step}
use Rattle.g4_grammar.specs.declared.step.Step.TheVariants.{Edge, Call, Predicate, Level, Action, Empty}
use Rattle.g4_grammar.specs.StepRules.{IsPlain}
use Rattle.g4_layout.proofs.Trees.{IsSound, AreSound, EachIsSound}

-- the step is no level
abbrev pub IsNotLevel : {L : Type 0} → Step L → Type 0
IsNotLevel (Edge label) = Unit {0}
IsNotLevel (Call rule level) = Unit {0}
IsNotLevel (Predicate k) = Unit {0}
IsNotLevel (Level q) = ⊥
IsNotLevel Action = Unit {0}
IsNotLevel Empty = Unit {0}

-- no step of the elements is a level, and each block has an alternative
abbrev pub AreLevelFree : {L : Type 0} → Elements (Step L) → Type 0
AreLevelFree = AreSound IsNotLevel

-- the same of alternatives
abbrev pub EachIsLevelFree : {L : Type 0} → Alternatives (Step L) → Type 0
EachIsLevelFree = EachIsSound IsNotLevel

-- a plain step is no level
plain_step : (a : Step (List ℕ)) → IsPlain a → IsNotLevel a
plain_step (Edge set) h = tt
plain_step (Call rule level) h = tt
plain_step (Predicate k) h = tt
plain_step (Level q) h = h
plain_step Action h = tt
plain_step Empty h = tt

mutual
  -- a full element whose steps are plain has no level
  plain_element : (x : Element (Step (List ℕ))) → IsFull x → All IsPlain (atoms x) → IsSound IsNotLevel x
  plain_element (atom a) full every = plain_step a (All-head IsPlain a [] every)
  plain_element (block label repeat xs) full every = (full.0, plain_alternatives xs full.1 every)

  -- the same of elements
  pub plain_elements : (xs : Elements (Step (List ℕ))) → AreFull xs → All IsPlain (atoms_in_order xs) → AreLevelFree xs
  plain_elements empty full every = tt
  plain_elements (then x xs) full every = (
    plain_element x full.0 (All-front IsPlain (atoms x) (atoms_in_order xs) every),
    plain_elements xs full.1 (All-rest IsPlain (atoms x) (atoms_in_order xs) every),
  )

  -- the same of alternatives
  pub plain_alternatives : (xs : Alternatives (Step (List ℕ))) → EachIsFull xs → All IsPlain (atoms_of_either xs) → EachIsLevelFree xs
  plain_alternatives none full every = tt
  plain_alternatives (or x xs) full every = (
    plain_elements x full.0 (All-front IsPlain (atoms_in_order x) (atoms_of_either xs) every),
    plain_alternatives xs full.1 (All-rest IsPlain (atoms_in_order x) (atoms_of_either xs) every),
  )
