-- The children so far of an open rule are part of a word of its alternative: what walks from its state to the end of the rule
-- read, without passing a level, completes them to such a word.
use Rattle.std.proofs.Common.{◌≡◌, ℕ, ◌+◌, List, [], ◌∷◌, ◌++◌, Option, Some, refl, sym, ◌∙◌, ap, subst, append_assoc, append-nil}
use Rattle.g4_source.specs.Elements.{atom, Elements, then}
use Rattle.g4_source.specs.Rules.{bodies_of}
use Rattle.g4_grammar.specs.declared.step.Step.{Step}
use Rattle.g4_grammar.specs.declared.step.Step.TheVariants as steps
use Rattle.g4_grammar.specs.Derives.{an_atom, one_more}
use Rattle.g4_grammar.specs.StepRules.{StepRule}
use Rattle.g4_net.specs.declared.network.State.{State}
use Rattle.g4_net.specs.declared.network.State.TheVariants.{End}
use Rattle.g4_net.specs.Network.{ParserNetwork, state_at}
use Rattle.g4_derivation.specs.Alternatives.{IsWrittenAs}
use Rattle.g4_derivation.specs.WalkSpelling.{IsSpelled}
use Rattle.g4_derivation.specs.Walks.{NoLevel, ReadsLetter, MovesBy, Walk, WalksTo, stays, goes}
use Rattle.g4_derivation.proofs.Beginnings.{item_of_alternative}
use Rattle.g4_trees.specs.declared.tree.Item.{Item}
use Rattle.g4_trees.specs.declared.tree.Item.TheVariants as items
use Rattle.g4_tree_check.specs.TreesOf.{IsTakenAt, ReadsChildren, IsBody, DerivesChildren}
use Rattle.g4_parse.proofs.MoreWords.{all_derive_more}

-- the item is a token that the set has at its place of the word
abbrev pub TakesToken : List ℕ → List ℕ → Item → Type 0
TakesToken word set (items.Token at) = IsTakenAt word set at
TakesToken word set (items.Enter rule alt at) = ⊥
TakesToken word set items.Exit = ⊥

-- a node of the rule begins with the item
abbrev pub EntersRule : ℕ → Item → Type 0
EntersRule rule (items.Token at) = ⊥
EntersRule rule (items.Enter entered alt at) = entered ≡ rule
EntersRule rule items.Exit = ⊥

-- what a walk reads of a step, a node's children are
reads_children : (word : List ℕ) (a : Step (List ℕ)) (w : List Item) → ReadsLetter (TakesToken word) EntersRule NoLevel a w
    → ReadsChildren word a w
reads_children word (steps.Edge set) w (items.Token at, taken, is) = (at, is, taken)
reads_children word (steps.Edge set) w (items.Enter rule alt at, taken, is) = absurd taken
reads_children word (steps.Edge set) w (items.Exit, taken, is) = absurd taken
reads_children word (steps.Call rule level) w (items.Token at, entered, is) = absurd entered
reads_children word (steps.Call rule level) w (items.Enter other alt at, entered, is) =
    (alt, at, is ∙ ap (λ (q : ℕ). items.Enter q alt at ∷ []) entered)
reads_children word (steps.Call rule level) w (items.Exit, entered, is) = absurd entered
reads_children word (steps.Predicate k) w h = h
reads_children word (steps.Level q) w h = absurd h.0
reads_children word steps.Action w h = h
reads_children word steps.Empty w h = h

-- an alternative as it is written is one of the rule's bodies
pub body_of : (rules : List StepRule) (rule i : ℕ) (x : Elements (Step (List ℕ))) → IsWrittenAs rules rule i x → IsBody rules rule i x
body_of rules rule i x (k, r, number, is, alternative) =
    let h = item_of_alternative (bodies_of r) i x alternative in
    (k, h.0, r, number, h.2, is, h.1)

module _ (rules : List StepRule) (net : ParserNetwork) (word : List ℕ) where
  -- a walk of items that passes no level
  abbrev WalkOfItems : ℕ → ℕ → ℕ → List Item → Type 0
  WalkOfItems = Walk (TakesToken word) EntersRule NoLevel net

  -- what walks from the state to the end of a rule read completes these items to a word of the elements
  abbrev Completes : Elements (Step (List ℕ)) → List Item → ℕ → Type 0
  Completes x done p = (e ended n : ℕ) (w : List Item) → state_at net e ≡ Some (End ended) → WalkOfItems n p e w
      → DerivesChildren word x (done ++ w)

  -- the same of the elements of an alternative
  abbrev pub IsPart : ℕ → ℕ → List Item → ℕ → Type 0
  IsPart rule alt done p = (x : Elements (Step (List ℕ))) × IsBody rules rule alt x × Completes x done p

  -- the items are a word of an alternative
  abbrev pub IsWord : ℕ → ℕ → List Item → Type 0
  IsWord rule alt done = (x : Elements (Step (List ℕ))) × IsBody rules rule alt x × DerivesChildren word x done

  -- one step more
  pub part_on : (rule alt p t : ℕ) (done u : List Item) (o : Option (State (List ℕ))) → state_at net p ≡ o
      → MovesBy (TakesToken word) EntersRule NoLevel o t u → IsPart rule alt done p → IsPart rule alt (done ++ u) t
  part_on rule alt p t done u o is moves (x, body, completes) = (
    x,
    body,
    λ e ended n w end walk.
        let step = subst (λ (s : Option (State (List ℕ))). MovesBy (TakesToken word) EntersRule NoLevel s t u) (sym is) moves in
        subst (DerivesChildren word x) (sym (append_assoc done u w))
        (completes e ended (n + 1) (u ++ w) end (goes n p t e u w (u ++ w) step walk refl)),
  )

  -- where a walk to the end of a rule reads nothing, nothing needs to come
  pub part_whole : (rule alt p e ended : ℕ) (done : List Item) → state_at net e ≡ Some (End ended)
      → WalksTo (TakesToken word) EntersRule NoLevel net p e [] → IsPart rule alt done p → IsWord rule alt done
  part_whole rule alt p e ended done end (n, walk) (x, body, completes) =
      (x, body, subst (DerivesChildren word x) (append-nil done) (completes e ended n [] end walk))

  -- so it is at the end itself
  pub part_ends : (rule alt p ended : ℕ) (done : List Item) → state_at net p ≡ Some (End ended) → IsPart rule alt done p
      → IsWord rule alt done
  part_ends rule alt p ended done is = part_whole rule alt p p ended done is (0, stays p)

  -- where an alternative begins, all is to come
  pub part_begins : (rule i p : ℕ) (x : Elements (Step (List ℕ))) → IsWrittenAs rules rule i x
      → IsSpelled (TakesToken word) EntersRule net rule x p → IsPart rule i [] p
  part_begins rule i p x written spelled = (
    x,
    body_of rules rule i x written,
    λ e ended n w end walk. all_derive_more (ReadsLetter (TakesToken word) EntersRule NoLevel) (ReadsChildren word)
        (reads_children word) (spelled.derives e ended n w end walk),
  )

  -- where an operator begins, a node of its rule is there and what follows is to come
  pub part_continues : (rule i level p alt at : ℕ) (x : Elements (Step (List ℕ)))
      → IsWrittenAs rules rule i (then (atom (steps.Call rule level)) x) → IsSpelled (TakesToken word) EntersRule net rule x p
      → IsPart rule i (items.Enter rule alt at ∷ []) p
  part_continues rule i level p alt at x written spelled = (
    then (atom (steps.Call rule level)) x,
    body_of rules rule i (then (atom (steps.Call rule level)) x) written,
    λ e ended n w end walk.
        let rest : DerivesChildren word x w = all_derive_more (ReadsLetter (TakesToken word) EntersRule NoLevel) (ReadsChildren word)
        (reads_children word) (spelled.derives e ended n w end walk) in
        let node : List Item = items.Enter rule alt at ∷ [] in
        one_more (atom (steps.Call rule level)) x node w (node ++ w) (an_atom (steps.Call rule level) node (alt, at, refl)) rest refl,
  )
