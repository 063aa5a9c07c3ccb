-- Elements that are others but for the level of a call.
use Rattle.std.proofs.Common.{◌≡◌, ℕ, Bool, true, false, cond, Option, Some, None, refl, sym, ap, subst, arith}
use Rattle.std.proofs.lemmas.Bool.Decides.{nat_tests}
use Rattle.g4_source.specs.Elements.{Element, atom, block, Elements, empty, then}
use Rattle.g4_grammar.specs.declared.step.Step.TheVariants.{Edge, Call, Predicate, Level, Action, Empty}
use Rattle.g4_leftrec.specs.OwnCalls.{LastSelf, are_silent, before_self, is_atom, with_first}
use Rattle.g4_leftrec.specs.OwnSteps.{calls, is_silent}
use Rattle.g4_leftrec.specs.Rewriting.{StepIn, last_at, with_last_at}

-- The second elements are the first, but for the level of at most one call of rule k.
pub data DiffersInLevel (k : ℕ) : Elements StepIn → Elements StepIn → Type 0 where
  nowhere : (xs : Elements StepIn) → DiffersInLevel k xs xs
  here : (p q : ℕ) (xs : Elements StepIn) → DiffersInLevel k (then (atom (Call k p)) xs) (then (atom (Call k q)) xs)
  later : (x : Element StepIn) (xs ys : Elements StepIn) → DiffersInLevel k xs ys → DiffersInLevel k (then x xs) (then x ys)

-- the same the other way round
pub differs_back : {k : ℕ} {xs ys : Elements StepIn} → DiffersInLevel k xs ys → DiffersInLevel k ys xs
differs_back (nowhere xs) = nowhere xs
differs_back (here p q xs) = here q p xs
differs_back (later x xs ys d) = later x ys xs (differs_back d)

-- an element that is a plain call of rule k calls it at some level
pub own_call : (k : ℕ) (x : Element StepIn) → is_atom (calls k) x ≡ true → (p : ℕ) × (x ≡ atom (Call k p))
own_call k (atom (Edge label)) h = absurd (cc)
own_call k (atom (Call rule level)) h = let same : rule ≡ k = grind (arith, nat_tests) in (level, ap (λ (r : ℕ). atom (Call r level)) same)
own_call k (atom (Predicate n)) h = absurd (cc)
own_call k (atom (Level q)) h = absurd (cc)
own_call k (atom Action) h = absurd (cc)
own_call k (atom Empty) h = absurd (cc)
own_call k (block label repeat xs) h = absurd (cc)

module _ (k q : ℕ) where
  -- an element in front, by what is last
  by_cases : (x : Element StepIn) (xs : Elements StepIn) (quiet own : Bool) (w : Option (LastSelf StepIn)) → is_atom (calls k) x ≡ own
      → DiffersInLevel k xs (last_at k q xs w) →
      DiffersInLevel k (then x xs) (last_at k q (then x xs)
      (cond quiet (cond own (Some (record { before = empty; trailing = xs })) None) (with_first x w)))
  by_cases x xs true true w h d =
      let call = own_call k x h in
      subst (λ (y : Element StepIn). DiffersInLevel k (then y xs) (then (atom (Call k q)) xs)) (sym call.1) (here call.0 q xs)
  by_cases x xs true false w h d = nowhere (then x xs)
  by_cases x xs false own None h d = nowhere (then x xs)
  by_cases x xs false own (Some last) h d = later x xs (last_at k q xs (Some last)) d

  -- with rule k at a level where it is the last
  pub last_differs : (xs : Elements StepIn) → DiffersInLevel k xs (with_last_at k q xs)
  last_differs empty = nowhere empty
  last_differs (then x xs) = by_cases x xs (are_silent is_silent xs) (is_atom (calls k) x) (before_self (calls k) is_silent xs) refl
      (last_differs xs)
