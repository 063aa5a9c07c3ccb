-- The level of a call changes nothing of what elements derive.
use Rattle.std.proofs.Common.{◌≡◌, ◌↔◌, ◌++◌, ℕ, List, []}
use Rattle.g4_source.specs.Elements.{Element, atom, Elements, then}
use Rattle.g4_grammar.specs.declared.step.Step.TheVariants.{Call}
use Rattle.g4_grammar.specs.Derives.{Derives, an_atom, a_call, DerivesAll, one_more, NoCalls}
use Rattle.g4_leftrec.specs.Rewriting.{StepIn, with_last_at}
use Rattle.g4_leftrec.proofs.OtherLevel.{DiffersInLevel, nowhere, here, later, differs_back, last_differs}

module _ {W : Type 0} (Reads : StepIn → List W → Type 0) (same : (k p q : ℕ) (w : List W) → Reads (Call k p) w → Reads (Call k q) w) where
  -- the words of the first of elements, and of the others
  parts : {x : Element StepIn} {xs : Elements StepIn} {w : List W} → DerivesAll Reads NoCalls [] (then x xs) w
      → (u v : List W) × Derives Reads NoCalls [] x u × DerivesAll Reads NoCalls [] xs v × (w ≡ u ++ v)
  parts (one_more x xs u v w h hs is) = (u, v, h, hs, is)

  -- a call at another level
  call_kept : (k p q : ℕ) {w : List W} → Derives Reads NoCalls [] (atom (Call k p)) w → Derives Reads NoCalls [] (atom (Call k q)) w
  call_kept k p q (an_atom a w h) = an_atom (Call k q) w (same k p q w h)
  call_kept k p q (a_call a rule xs w c is h) = absurd c

  -- elements with a call at another level
  differing_kept : {k : ℕ} {xs ys : Elements StepIn} (w : List W) → DiffersInLevel k xs ys → DerivesAll Reads NoCalls [] xs w
      → DerivesAll Reads NoCalls [] ys w
  differing_kept w (nowhere xs) d = d
  differing_kept {k} w (here p q xs) d = let (u, v, h, hs, is) = parts d in one_more (atom (Call k q)) xs u v w (call_kept k p q h) hs is
  differing_kept w (later x xs ys e) d = let (u, v, h, hs, is) = parts d in one_more x ys u v w h (differing_kept v e hs) is

  -- elements derive the same words where the last call is at another level
  pub last_kept : (k q : ℕ) (xs : Elements StepIn) (w : List W)
      → DerivesAll Reads NoCalls [] (with_last_at k q xs) w ↔ DerivesAll Reads NoCalls [] xs w
  last_kept k q xs w = (differing_kept w (differs_back (last_differs k q xs)), differing_kept w (last_differs k q xs))
