-- Where the way from a state comes to the end of a rule within this many states, and where it does not.
use Rattle.std.proofs.Common.{◌≡◌, ◌↔◌, ℕ, suc, ◌+◌, ◌-◌, ◌<◌, ◌≤◌, List, length, Contains, Option, Some, None, slice_get, refl, sym, ◌∙◌, subst, ap, arith}
use Rattle.std.proofs.lemmas.Option.{slice_get_within, get_or_from_slice_get}
use Rattle.g4_net.specs.declared.network.State.{State}
use Rattle.g4_net.specs.declared.network.State.TheVariants.{Decision, End, Edge, Call, Predicate, Level, Action, Empty}
use Rattle.g4_net.specs.Network.{ParserNetwork, state_at}
use Rattle.g4_lookahead.specs.declared.ways.Way.{Way}
use Rattle.g4_lookahead.specs.declared.ways.Way.TheVariants.{Ended, To, Stuck}
use Rattle.g4_lookahead.specs.Ways.{IsSilent, EndsAtOnce, at_end, along, to_target, way_by, EndsWithin, ended, onward}

-- the way to a target is no end
no_end : (o : Option ℕ) → to_target o ≡ Ended → ⊥
no_end (Some t) e = cc
no_end None e = cc

-- where the way ends is the end of a rule
pub is_end : (o : Option (State (List ℕ))) → way_by o ≡ Ended → (rule : ℕ) × (o ≡ Some (End rule))
is_end None e = absurd (let no : ⊥ = cc in no)
is_end (Some (Decision targets)) e = absurd (no_end (slice_get targets (length targets - 1)) e)
is_end (Some (End rule)) e = (rule, refl)
is_end (Some (Edge set t)) e = absurd (let no : ⊥ = cc in no)
is_end (Some (Call rule level back)) e = absurd (let no : ⊥ = cc in no)
is_end (Some (Predicate k t)) e = absurd (let no : ⊥ = cc in no)
is_end (Some (Level q t)) e = absurd (let no : ⊥ = cc in no)
is_end (Some (Action t)) e = absurd (let no : ⊥ = cc in no)
is_end (Some (Empty t)) e = absurd (let no : ⊥ = cc in no)

-- the number to which a way goes on
abbrev target_of : Way → ℕ
target_of Ended = 0
target_of (To t) = t
target_of Stuck = 0

-- the way to a target goes to this one
target_is : (o : Option ℕ) (t : ℕ) → to_target o ≡ To t → o ≡ Some t
target_is (Some u) t e = ap (λ (x : ℕ). Some x) (ap target_of e)
target_is None t e = absurd (let no : ⊥ = cc in no)

-- a target is among all of them
among : (targets : List ℕ) (k t : ℕ) → slice_get targets k ≡ Some t → Contains targets t
among targets k t is = (k, slice_get_within targets k t is, get_or_from_slice_get targets k t t is)

-- where it goes on, an edge leads that reads nothing and opens no rule
pub is_silent : (o : Option (State (List ℕ))) (t : ℕ) → way_by o ≡ To t → (s : State (List ℕ)) × (o ≡ Some s) × IsSilent s t
is_silent None t e = absurd (let no : ⊥ = cc in no)
is_silent (Some (Decision targets)) t e = (
  Decision targets,
  refl,
  among targets (length targets - 1) t (target_is (slice_get targets (length targets - 1)) t e),
)
is_silent (Some (End rule)) t e = absurd (let no : ⊥ = cc in no)
is_silent (Some (Edge set u)) t e = absurd (let no : ⊥ = cc in no)
is_silent (Some (Call rule level back)) t e = absurd (let no : ⊥ = cc in no)
is_silent (Some (Predicate k u)) t e = (Predicate k u, refl, sym (ap target_of e))
is_silent (Some (Level q u)) t e = (Level q u, refl, sym (ap target_of e))
is_silent (Some (Action u)) t e = (Action u, refl, sym (ap target_of e))
is_silent (Some (Empty u)) t e = (Empty u, refl, sym (ap target_of e))

-- at the end of a rule the rule ends at once
pub ends_here : (net : ParserNetwork) (p : ℕ) → way_by (state_at net p) ≡ Ended → EndsAtOnce net p
ends_here net p e = let (rule, is) = is_end (state_at net p) e in at_end p rule is

-- and where it ends at once from the next state of the way
pub ends_on : (net : ParserNetwork) (p t : ℕ) → way_by (state_at net p) ≡ To t → EndsAtOnce net t → EndsAtOnce net p
ends_on net p t e ends = let (s, is, edge) = is_silent (state_at net p) t e in along p t s is edge ends

-- a way that does not go on, at a state that is no end, comes to none
pub stuck : (net : ParserNetwork) (n p : ℕ) → way_by (state_at net p) ≡ Stuck → EndsWithin net n p → ⊥
stuck net _ p e (ended n _ is) = cc
stuck net _ p e (onward n _ t is more) = cc

-- one that goes on comes to an end where it does from there, within one state less
pub goes_on : (net : ParserNetwork) (n p t : ℕ) → way_by (state_at net p) ≡ To t → EndsWithin net (suc n) p → EndsWithin net n t
goes_on net n p t e (ended _ _ is) = absurd (let no : ⊥ = cc in no)
goes_on net n p t e (onward _ _ u is more) = subst (EndsWithin net n) (ap target_of (sym is ∙ e)) more

-- within no states none does
none_within : (net : ParserNetwork) (p : ℕ) → EndsWithin net 0 p → ⊥
none_within net p h = of_none 0 refl h
  where
    of_none : (n : ℕ) → n ≡ 0 → EndsWithin net n p → ⊥
    of_none _ e (ended n _ is) = omega arith
    of_none _ e (onward n _ t is more) = omega arith

-- after one state more, one less of 64 is left
pub one_less : (k : ℕ) → k < 64 → 64 - k ≡ suc (64 - (k + 1))
one_less k less = omega (arith, less)

-- a way that goes on comes to an end within what is left, where it does from the next state within one less
pub next_within : (net : ParserNetwork) (k p t q : ℕ) → k < 64 → way_by (state_at net p) ≡ To t
    → (EndsWithin net (64 - k) p ↔ EndsWithin net 64 q) → EndsWithin net (64 - (k + 1)) t ↔ EndsWithin net 64 q
next_within net k p t q less e before = (
  (λ more. before.0 (subst (λ (n : ℕ). EndsWithin net n p) (sym (one_less k less)) (onward (64 - (k + 1)) p t e more))),
  (λ from. goes_on net (64 - (k + 1)) p t e (subst (λ (n : ℕ). EndsWithin net n p) (one_less k less) (before.1 from))),
)

-- where the way ends, it comes to an end within what is left
pub ended_within : (net : ParserNetwork) (k p q : ℕ) → k < 64 → way_by (state_at net p) ≡ Ended
    → (EndsWithin net (64 - k) p ↔ EndsWithin net 64 q) → EndsWithin net 64 q
ended_within net k p q less e before = before.0 (subst (λ (n : ℕ). EndsWithin net n p) (sym (one_less k less)) (ended (64 - (k + 1)) p e))

-- where nothing is left, it comes to none
pub none_left : (net : ParserNetwork) (k p : ℕ) → 64 ≤ k → EndsWithin net (64 - k) p → ⊥
none_left net k p all within = none_within net p
    (subst (λ (n : ℕ). EndsWithin net n p) (let none : 64 - k ≡ 0 = omega (arith, all) in none) within)
