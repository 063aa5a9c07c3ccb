-- The level of the last call does not matter for what elements read.
use Rattle.std.proofs.Common.{◌≡◌, ℕ, List, [], Bool, true, false, cond, Option, Some, None, refl, sym, subst, arith}
use Rattle.std.proofs.lemmas.Bool.Decides.{nat_tests}
use Rattle.g4_source.specs.Elements.{Element, atom, block, Elements, empty, then}
use Rattle.g4_source.specs.Marks.{onto}
use Rattle.g4_grammar.specs.declared.step.Step.TheVariants.{Edge, Call, Predicate, Level, Action, Empty}
use Rattle.g4_grammar.specs.Derives.{NoCalls, Derives, an_atom, a_call, DerivesAll, one_more}
use Rattle.g4_leftrec.specs.OwnCalls.{LastSelf, is_atom, are_silent, before_self, with_first}
use Rattle.g4_leftrec.specs.OwnSteps.{calls, is_silent}
use Rattle.g4_leftrec.specs.Rewriting.{StepIn, last_at, with_last_at}
use Rattle.g4_derivation.specs.Walks.{ReadsLetter}
use Rattle.g4_derivation.proofs.LevelFree.{AreLevelFree}

-- the elements are the same but perhaps for the level of one call
pub data AreAlike : Elements StepIn → Elements StepIn → Type 0 where
  the_same : (xs : Elements StepIn) → AreAlike xs xs
  another_level : (rule level other : ℕ) (xs : Elements StepIn)
      → AreAlike (then (atom (Call rule level)) xs) (then (atom (Call rule other)) xs)
  later : (x : Element StepIn) (xs ys : Elements StepIn) → AreAlike xs ys → AreAlike (then x xs) (then x ys)

-- and back
pub alike_back : {xs ys : Elements StepIn} → AreAlike xs ys → AreAlike ys xs
alike_back (the_same xs) = the_same xs
alike_back (another_level rule level other xs) = another_level rule other level xs
alike_back (later x xs ys h) = later x ys xs (alike_back h)

-- the one has no level where the other has none
pub alike_level_free : {xs ys : Elements StepIn} → AreAlike xs ys → AreLevelFree xs → AreLevelFree ys
alike_level_free (the_same xs) free = free
alike_level_free (another_level rule level other xs) free = (tt, free.1)
alike_level_free (later x xs ys h) free = (free.0, alike_level_free h free.1)

module _ (k level : ℕ) where
  -- the call itself, where the element is one of rule k
  own_call : (x : Element StepIn) (xs : Elements StepIn) (b : Bool) → is_atom (calls k) x ≡ b →
      AreAlike (then x xs) (last_at k level (then x xs) (cond b (Some (record { before = empty; trailing = xs })) None))
  own_call x xs false own = the_same (then x xs)
  own_call (block label repeat ys) xs true own = absurd (let n : ⊥ = cc in n)
  own_call (atom (Edge label)) xs true own = absurd (let n : ⊥ = cc in n)
  own_call (atom (Predicate n)) xs true own = absurd (let n : ⊥ = cc in n)
  own_call (atom (Level q)) xs true own = absurd (let n : ⊥ = cc in n)
  own_call (atom Action) xs true own = absurd (let n : ⊥ = cc in n)
  own_call (atom Empty) xs true own = absurd (let n : ⊥ = cc in n)
  own_call (atom (Call rule before)) xs true own =
      let same : k ≡ rule = grind (arith, nat_tests) in
      subst (λ (j : ℕ). AreAlike (then (atom (Call rule before)) xs) (then (atom (Call j level)) xs)) (sym same)
      (another_level rule before level xs)

  -- an element in front
  in_front : (x : Element StepIn) (xs : Elements StepIn) (last : Option (LastSelf StepIn)) → AreAlike xs (last_at k level xs last)
      → AreAlike (then x xs) (last_at k level (then x xs) (with_first x last))
  in_front x xs None h = the_same (then x xs)
  in_front x xs (Some last) h = later x xs (onto last.before (then (atom (Call k level)) last.trailing)) h

  -- either of the two
  by_trailing : (x : Element StepIn) (xs : Elements StepIn) (silent : Bool) (last : Option (LastSelf StepIn))
      → AreAlike xs (last_at k level xs last) →
      AreAlike (then x xs) (last_at k level (then x xs)
      (cond silent (cond (is_atom (calls k) x) (Some (record { before = empty; trailing = xs })) None) (with_first x last)))
  by_trailing x xs true last h = own_call x xs (is_atom (calls k) x) refl
  by_trailing x xs false last h = in_front x xs last h

  -- elements with a level at their last call are alike
  pub with_last_alike : (xs : Elements StepIn) → AreAlike xs (with_last_at k level xs)
  with_last_alike empty = the_same empty
  with_last_alike (then x xs) = by_trailing x xs (are_silent is_silent xs) (before_self (calls k) is_silent xs) (with_last_alike xs)

module _ {C : Type 0} (Takes : List ℕ → C → Type 0) (Names : ℕ → C → Type 0) (Passes : ℕ → Type 0) where
  -- what elements derive
  abbrev pub Reading : Elements StepIn → List C → Type 0
  Reading = DerivesAll (ReadsLetter Takes Names Passes) NoCalls []

  -- a call reads the same at another level
  other_call : {rule level : ℕ} {w : List C} (other : ℕ)
      → Derives (ReadsLetter Takes Names Passes) NoCalls [] (atom (Call rule level)) w
      → Derives (ReadsLetter Takes Names Passes) NoCalls [] (atom (Call rule other)) w
  other_call {rule} other (an_atom _ w reads) = an_atom (Call rule other) w reads
  other_call other (a_call a called xs w is at d) = absurd is

  -- alike elements derive the same words
  pub alike_derive : {xs ys : Elements StepIn} {w : List C} → AreAlike xs ys → Reading xs w → Reading ys w
  alike_derive (the_same xs) d = d
  alike_derive (another_level rule level other xs) (one_more _ _ u v w d ds parts) =
      one_more (atom (Call rule other)) xs u v w (other_call other d) ds parts
  alike_derive (later x xs ys h) (one_more _ _ u v w d ds parts) = one_more x ys u v w d (alike_derive h ds) parts
