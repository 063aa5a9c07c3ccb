-- What reading at a place changes.
use Rattle.std.proofs.Common.{◌≡◌, ℕ, List, get_or, Option, None, Some, MatchOption, refl, sym, ◌∙◌, subst}
use mathlib.Core.Option.{some}
use lib.ListN.{get_elem?}
use Rattle.g4_store.specs.declared.path.Looked.{Looked}
use Rattle.g4_store.specs.declared.path.Path.{Path}
use Rattle.g4_core.specs.declared.event.Change.{Change}
use Rattle.g4_core.specs.declared.event.Entry.{Entry}
use Rattle.g4_core.specs.declared.event.Place.TheVariants as place
use Rattle.g4_core.specs.States.{State, cell_of}
use Rattle.g4_core.specs.Steps.{LeftToLearn, ReadsStart, ReadsCell, Reads}
use Rattle.g4_core.proofs.Lists.{one_there}

module _ {C : Type 0} where
  pub start_left : (w file q : ℕ) (path : Path C) (found : Option ℕ) → found ≡ None → (r : Option (Change C))
      → MatchOption r ((c : Change C) → LeftToLearn w file q path c → ⊥) (LeftToLearn w file q path)
      → MatchOption r ((c : Change C) → ReadsStart w file q path found c → ⊥) (ReadsStart w file q path found)
  start_left w file q path found e r h =
      subst (λ (o : Option ℕ). MatchOption r ((c : Change C) → ReadsStart w file q path o c → ⊥) (ReadsStart w file q path o)) (sym e) h

module _ {N C : Type 0} (s : State N C) (w file q row at : ℕ) (path : Path C) (l : Looked C)
    (there : get_elem? path.looked.items at ≡ some l) (found : Option Entry)
    (is : get_or s.cells (cell_of s row l.column) None ≡ found) where
  pub cell_change : (c : Change C) → ReadsCell s w file q path at found c → Reads s w file q path (place.Cell row at) c
  cell_change c h = (l, there, subst (λ (o : Option Entry). ReadsCell s w file q path at o c) (sym is) h)

  cell_only : (c : Change C) → Reads s w file q path (place.Cell row at) c → ReadsCell s w file q path at found c
  cell_only c (m, at', h) =
      subst (λ (o : Option Entry). ReadsCell s w file q path at o c) is
      (subst (λ (k : Looked C). ReadsCell s w file q path at (get_or s.cells (cell_of s row k.column) None) c)
      (one_there path.looked.items at m l at' there) h)

  pub cell_changes : (r : Option (Change C))
      → MatchOption r ((c : Change C) → ReadsCell s w file q path at found c → ⊥) (ReadsCell s w file q path at found)
      → MatchOption r ((c : Change C) → Reads s w file q path (place.Cell row at) c → ⊥) (Reads s w file q path (place.Cell row at))
  cell_changes None h = λ c k. h c (cell_only c k)
  cell_changes (Some c) h = cell_change c h
