-- Classes by the edges of states.
use Rattle.std.proofs.Common.{◌≡◌, ℕ, zero, suc, ◌<◌, ◌≤◌, ◌⊎◌, ◌↔◌, inl, inr, List, [], ◌∷◌, ◌++◌, Some, Result, Ok, Err, IfOk, length, get_or, slice_get, refl, sym, ap, subst, arith}
use Rattle.g4_chars.specs.CharSets.{Has}
use Rattle.g4_net.specs.declared.network.State.{State}
use Rattle.g4_net.specs.declared.network.State.TheVariants.{Decision, End, Edge, Call, Predicate, Level, Action, Empty}
use Rattle.g4_ordered.specs.declared.network.Reads.{Reads}
use Rattle.g4_ordered.specs.declared.network.Reads.TheVariants.{Characters, EndOfText}
use Rattle.g4_ordered.specs.Network.{LexerNetwork}
use Rattle.g4_matching.specs.Classes.{AreAlike, AreClasses, TellsStates, ranges_at}
use Rattle.g4_matching.specs.Joining.{TellsBoth}
use Rattle.g4_matching.specs.declared.partition.Partition.{Partition}
use Rattle.g4_matching.specs.Partitions.{Classing, IsPartition, TellsSet, class_in, classing}
use Rattle.g4_matching.proofs.Lookups.{at_left, same_some}

-- the edge of the state takes both of the characters or neither
abbrev Together : State Reads → ℕ → ℕ → Type 0
Together s a b = Has (ranges_at s) a ↔ Has (ranges_at s) b

-- with one class all numbers have the same
pub whole_alike : (c : Classing) → IsPartition c → c.count ≡ 1 → (a b : ℕ) → class_in c a ≡ class_in c b
whole_alike c p one a b = let x = p.within a in let y = p.within b in omega arith

-- no state distinguishes anything
pub tells_none : (c : Classing) → IsPartition c → c.count ≡ 1 → TellsStates [] c
tells_none c p one a b = ((λ same k s is. absurd (nothing k s is)), λ alike. whole_alike c p one a b)
  where
    nothing : (k : ℕ) (s : State Reads) → slice_get [] k ≡ Some s → ⊥
    nothing k s is = cc

-- by one state
pub tells_one_state : (s : State Reads) (c : Classing) → TellsSet (ranges_at s) c
    → TellsStates (s ∷ []) c
tells_one_state s c tells a b = ((λ same k t is. at k t is ((tells a b).0 same)), λ alike. (tells a b).1 (alike 0 s refl))
  where
    at : (k : ℕ) (t : State Reads) → slice_get (s ∷ []) k ≡ Some t → Together s a b → Together t a b
    at zero t is together = subst (λ (x : State Reads). Together x a b) (same_some s t is) together
    at (suc k) t is together = absurd (cc)

-- a place in two lists is one in the first or in the second
at_either : (xs ys : List (State Reads)) (k : ℕ) (s : State Reads) → slice_get (xs ++ ys) k ≡ Some s
    → (slice_get xs k ≡ Some s) ⊎ ((n : ℕ) × (slice_get ys n ≡ Some s))
at_either [] ys k s is = inr (k, is)
at_either (x ∷ xs) ys zero s is = inl is
at_either (x ∷ xs) ys (suc k) s is = at_either xs ys k s is

-- what is in the second list has a place in both together
at_right : (xs ys : List (State Reads)) (n : ℕ) (s : State Reads) → slice_get ys n ≡ Some s → (k : ℕ) × (slice_get (xs ++ ys) k ≡ Some s)
at_right [] ys n s is = (n, is)
at_right (x ∷ xs) ys n s is = let r = at_right xs ys n s is in (suc r.0, r.1)

-- by states of two lists
pub tells_halves : (xs ys all : List (State Reads)) (left right c : Classing) → all ≡ xs ++ ys → TellsStates xs left → TellsStates ys right
    → TellsBoth left right c → TellsStates all c
tells_halves xs ys all left right c is by_left by_right both =
    subst (λ (l : List (State Reads)). TellsStates l c) (sym is) (λ a b. (
      (λ same k s at. let h = (both a b).0 same in elim (at_either xs ys k s at) [
        | inl here ↦ (by_left a b).0 h.0 k s here
        | inr there ↦ (by_right a b).0 h.1 there.0 s there.1
      ]),
      (λ alike. (both a b).1 (
        (by_left a b).1 (λ k s at. alike k s (at_left xs ys k s at)),
        (by_right a b).1 (λ n s at. let r = at_right xs ys n s at in alike r.0 s r.1),
      )),
    ))

-- by the states of a network
pub tells_network : (net : LexerNetwork) (c : Classing) → IsPartition c → TellsStates net.states c → AreClasses net c
tells_network net c p tells = record {
  same = λ a b. (
    (λ same k t set is. (tells a b).0 same k (Edge (Characters set) t) is),
    (λ alike. (tells a b).1 (λ k s is. at a b alike k s is)),
  );
  within = p.within;
}
  where
    at : (a b : ℕ) → AreAlike net a b → (k : ℕ) (s : State Reads) → slice_get net.states k ≡ Some s → Together s a b
    at a b alike k (Decision targets) is = ((λ h. h), λ h. h)
    at a b alike k (End rule) is = ((λ h. h), λ h. h)
    at a b alike k (Edge (Characters set) t) is = alike k t set is
    at a b alike k (Edge EndOfText t) is = ((λ h. h), λ h. h)
    at a b alike k (Call rule level back) is = ((λ h. h), λ h. h)
    at a b alike k (Predicate n t) is = ((λ h. h), λ h. h)
    at a b alike k (Level q t) is = ((λ h. h), λ h. h)
    at a b alike k (Action t) is = ((λ h. h), λ h. h)
    at a b alike k (Empty t) is = ((λ h. h), λ h. h)

-- the same of answers that may be errors
pub whole_by : {E : Type 0} (r : Result Partition E) → IfOk r (λ p. IsPartition (classing p)) → IfOk r (λ p. p.count ≡ 1)
    → IfOk r (λ p. TellsStates [] (classing p))
whole_by (Ok p) is one = tells_none (classing p) is one
whole_by (Err e) is one = tt

pub one_by : {E : Type 0} (s : State Reads) (r : Result Partition E) → IfOk r (λ p. TellsSet (ranges_at s) (classing p))
    → IfOk r (λ p. TellsStates (s ∷ []) (classing p))
one_by s (Ok p) tells = tells_one_state s (classing p) tells
one_by s (Err e) tells = tt

-- lists of no state, and of one
pub length_zero : (ss : List (State Reads)) → length ss < 1 → ss ≡ []
length_zero [] less = refl
length_zero (s ∷ ss) less = absurd (omega arith)

pub length_one : (ss : List (State Reads)) (s : State Reads) → 1 ≤ length ss → length ss < 2 → s ≡ get_or ss 0 s → ss ≡ s ∷ []
length_one [] s some few is = absurd (omega arith)
length_one (x ∷ []) s some few is = ap (λ (y : State Reads). y ∷ []) (sym is)
length_one (x ∷ y ∷ ss) s some few is = absurd (omega arith)
