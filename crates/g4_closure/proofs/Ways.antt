-- The way from a state: where it leads by the first edge of each state, what is kept ahead, and what the ends of rules lead to.
use Rattle.std.proofs.Common.{◌≡◌, ℕ, ◌*◌, ◌<◌, ◌≤◌, ◌==◌, List, ◌∷◌, Bool, true, false, Option, Some, None, length, Contains, slice_get, if◌then◌else◌, refl, sym, ap, subst, arith}
use Rattle.std.proofs.lemmas.Bool.Decides.{nat_tests}
use Rattle.std.proofs.lemmas.Option.{slice_get_within, get_or_from_slice_get}
use Rattle.g4_net.specs.declared.network.State.{State}
use Rattle.g4_net.specs.declared.network.State.TheVariants.{Decision, End, Edge, Call, Predicate, Level, Action, Empty}
use Rattle.g4_net.specs.Configurations.{Stack, config}
use Rattle.g4_net.specs.Leads.{Leads, LeadsBy, Reaches, WellFormed, here, further}
use Rattle.g4_net.specs.Lookahead.{IsKeptBy}
use Rattle.g4_net.specs.Network.{ParserNetwork, start_of, state_at}
use Rattle.g4_closure.specs.declared.ahead.Onward.{Onward}
use Rattle.g4_closure.specs.declared.ahead.Onward.TheVariants as onwards
use Rattle.g4_closure.specs.Ahead.{LeadsToEnd, LeadsToKept, onward_by, to_target}

-- the parts of an answer
abbrev pub state_of : Onward → ℕ
state_of onwards.Kept = 0
state_of (onwards.Ends rule) = rule
state_of (onwards.To t) = t
state_of (onwards.Into rule) = rule
state_of onwards.Nowhere = 0

target_is : (o : Option ℕ) (t : ℕ) → to_target o ≡ onwards.To t → o ≡ Some t
target_is (Some u) t e = ap (λ (x : ℕ). Some x) (ap state_of e)
target_is None t e = absurd (let no : ⊥ = cc in no)

no_target_kept : (o : Option ℕ) → to_target o ≡ onwards.Kept → ⊥
no_target_kept (Some t) e = cc
no_target_kept None e = cc

no_target_end : (o : Option ℕ) (rule : ℕ) → to_target o ≡ onwards.Ends rule → ⊥
no_target_end (Some t) rule e = cc
no_target_end None rule e = cc

no_target_into : (o : Option ℕ) (rule : ℕ) → to_target o ≡ onwards.Into rule → ⊥
no_target_into (Some t) rule e = cc
no_target_into None rule e = cc

-- what the end of a rule is, by whether the rule is the added one
abbrev end_by : ℕ → Bool → Onward
end_by rule b = if b then onwards.Kept else onwards.Ends rule

-- such a state is kept
kept_by : (o : Option (State (List ℕ))) → onward_by o ≡ onwards.Kept → IsKeptBy o
kept_by (Some (Edge set t)) e = tt
kept_by (Some (End rule)) e = one (rule == 0) refl e
  where
    one : (b : Bool) → (rule == 0) ≡ b → end_by rule b ≡ onwards.Kept → rule ≡ 0
    one true h is = grind (arith, nat_tests)
    one false h is = absurd (let no : ⊥ = cc in no)
kept_by (Some (Decision targets)) e = absurd (no_target_kept (slice_get targets 0) e)
kept_by (Some (Call rule level back)) e = absurd (let no : ⊥ = cc in no)
kept_by (Some (Predicate k t)) e = absurd (let no : ⊥ = cc in no)
kept_by (Some (Level q t)) e = absurd (let no : ⊥ = cc in no)
kept_by (Some (Action t)) e = absurd (let no : ⊥ = cc in no)
kept_by (Some (Empty t)) e = absurd (let no : ⊥ = cc in no)
kept_by None e = absurd (let no : ⊥ = cc in no)

-- such a state is the end of the rule
ended_by : (o : Option (State (List ℕ))) (rule : ℕ) → onward_by o ≡ onwards.Ends rule → o ≡ Some (End rule)
ended_by (Some (End ended)) rule e = one (ended == 0) e
  where
    one : (b : Bool) → end_by ended b ≡ onwards.Ends rule → Path (Option (State (List ℕ))) (Some (End ended)) (Some (End rule))
    one true is = absurd (let no : ⊥ = cc in no)
    one false is = ap (λ (r : ℕ). Some (End r)) (ap state_of is)
ended_by (Some (Edge set t)) rule e = absurd (let no : ⊥ = cc in no)
ended_by (Some (Decision targets)) rule e = absurd (no_target_end (slice_get targets 0) rule e)
ended_by (Some (Call called level back)) rule e = absurd (let no : ⊥ = cc in no)
ended_by (Some (Predicate k t)) rule e = absurd (let no : ⊥ = cc in no)
ended_by (Some (Level q t)) rule e = absurd (let no : ⊥ = cc in no)
ended_by (Some (Action t)) rule e = absurd (let no : ⊥ = cc in no)
ended_by (Some (Empty t)) rule e = absurd (let no : ⊥ = cc in no)
ended_by None rule e = absurd (let no : ⊥ = cc in no)

-- a target is among all of them
among : (targets : List ℕ) (k t : ℕ) → slice_get targets k ≡ Some t → Contains targets t
among targets k t is = (k, slice_get_within targets k t is, get_or_from_slice_get targets k t t is)

-- the end of a rule leads to no state of its own
no_end_to : (rule t : ℕ) (b : Bool) → end_by rule b ≡ onwards.To t → ⊥
no_end_to rule t true e = cc
no_end_to rule t false e = cc

no_end_into : (rule called : ℕ) (b : Bool) → end_by rule b ≡ onwards.Into called → ⊥
no_end_into rule called true e = cc
no_end_into rule called false e = cc

-- where it goes on to a state, a step leads there, whatever the stack
steps_to : (net : ParserNetwork) (o : Option (State (List ℕ))) (t p i : ℕ) (s : Stack) → onward_by o ≡ onwards.To t
    → LeadsBy net o (config p i s) (config t i s)
steps_to net (Some (Decision targets)) t p i s e = (t, among targets 0 t (target_is (slice_get targets 0) t e), refl)
steps_to net (Some (Predicate k u)) t p i s e = ap (λ (q : ℕ). config q i s) (sym (ap state_of e))
steps_to net (Some (Level q u)) t p i s e = ap (λ (q : ℕ). config q i s) (sym (ap state_of e))
steps_to net (Some (Action u)) t p i s e = ap (λ (q : ℕ). config q i s) (sym (ap state_of e))
steps_to net (Some (Empty u)) t p i s e = ap (λ (q : ℕ). config q i s) (sym (ap state_of e))
steps_to net (Some (End rule)) t p i s e = absurd (no_end_to rule t (rule == 0) e)
steps_to net (Some (Edge set u)) t p i s e = absurd (let no : ⊥ = cc in no)
steps_to net (Some (Call rule level back)) t p i s e = absurd (let no : ⊥ = cc in no)
steps_to net None t p i s e = absurd (let no : ⊥ = cc in no)

-- where it goes into a rule, it calls it
calls_by : (o : Option (State (List ℕ))) (rule : ℕ) → onward_by o ≡ onwards.Into rule → (level back : ℕ) × (o ≡ Some (Call rule level back))
calls_by (Some (Call called level back)) rule e = (level, back, ap (λ (r : ℕ). Some (Call r level back)) (ap state_of e))
calls_by (Some (Decision targets)) rule e = absurd (no_target_into (slice_get targets 0) rule e)
calls_by (Some (End ended)) rule e = absurd (no_end_into ended rule (ended == 0) e)
calls_by (Some (Edge set t)) rule e = absurd (let no : ⊥ = cc in no)
calls_by (Some (Predicate k t)) rule e = absurd (let no : ⊥ = cc in no)
calls_by (Some (Level q t)) rule e = absurd (let no : ⊥ = cc in no)
calls_by (Some (Action t)) rule e = absurd (let no : ⊥ = cc in no)
calls_by (Some (Empty t)) rule e = absurd (let no : ⊥ = cc in no)
calls_by None rule e = absurd (let no : ⊥ = cc in no)

-- the state q is on the way from p: what is at p leads to it, whatever the stack; with the same stack, where no rule was called
pub record IsOnWay (net : ParserNetwork) (p q : ℕ) (inside : Bool) : Type 0 where
  pub reaches : (i : ℕ) (s : Stack) → (z : Stack) × Reaches net (config p i s) (config q i z)
  pub same : inside ≡ false → (i : ℕ) (s : Stack) → Reaches net (config p i s) (config q i s)

-- a state is on the way from itself
pub on_way_here : (net : ParserNetwork) (p : ℕ) → IsOnWay net p p false
on_way_here net p = record { reaches = λ i s. (s, here); same = λ e i s. here }

-- so is where it leads
pub on_way_next : (net : ParserNetwork) (p q t : ℕ) (inside : Bool) → onward_by (state_at net q) ≡ onwards.To t
    → IsOnWay net p q inside → IsOnWay net p t inside
on_way_next net p q t inside e h = record {
  reaches = λ i s. let (z, r) = h.reaches i s in (z, further (config q i z) (config t i z) r (steps_to net (state_at net q) t q i z e));
  same = λ none i s. further (config q i s) (config t i s) (h.same none i s) (steps_to net (state_at net q) t q i s e);
}

-- and where the rule starts that it calls
pub on_way_into : (net : ParserNetwork) (p q rule : ℕ) (inside : Bool) → onward_by (state_at net q) ≡ onwards.Into rule
    → IsOnWay net p q inside → IsOnWay net p (start_of rule) true
on_way_into net p q rule inside e h = record {
  reaches = λ i s. (
      let (z, r) = h.reaches i s in
      let (level, back, is) = calls_by (state_at net q) rule e in
      let above : Stack = record { returns = back ∷ z.returns; wild = z.wild } in
      let step : Leads net (config q i z) (config (start_of rule) i above) =
      subst (λ (o : Option (State (List ℕ))). LeadsBy net o (config q i z) (config (start_of rule) i above)) (sym is) refl in
      (above, further (config q i z) (config (start_of rule) i above) r step)
      );
  same = λ none. absurd (let no : ⊥ = cc in no);
}

-- the start of a rule that is called is a state
pub start_fits : (net : ParserNetwork) (q rule : ℕ) → WellFormed net → onward_by (state_at net q) ≡ onwards.Into rule
    → start_of rule < length net.states
start_fits net q rule well e =
    let (level, back, is) = calls_by (state_at net q) rule e in
    let called : rule < length net.callers = well.calls q rule level back is in
    let twice : 2 * length net.callers ≤ length net.states = well.rules in
    omega (arith, called, twice)

-- where the way comes to what is kept, the first state leads to it
pub way_kept : (net : ParserNetwork) (p q : ℕ) (inside : Bool) → onward_by (state_at net q) ≡ onwards.Kept → IsOnWay net p q inside
    → LeadsToKept net p
way_kept net p q inside e h i s = let (z, r) = h.reaches i s in (config q i z, r, kept_by (state_at net q) e)

-- where it comes to the end of a rule and no rule was called, the first state leads to it
pub way_ended : (net : ParserNetwork) (p q rule : ℕ) (inside : Bool) → inside ≡ false → onward_by (state_at net q) ≡ onwards.Ends rule
    → IsOnWay net p q inside → LeadsToEnd net p rule
way_ended net p q rule inside none e h = record { end = q; is_end = ended_by (state_at net q) rule e; reaches = h.same none }
