-- A network is well formed where its numbers fit, its callers are right, and no state leads above its own stack to itself.
use Rattle.std.proofs.Common.{◌≡◌, ◌↔◌, ℕ, ◌<◌, List, length, get_or, Bool, true, false, IsTrue, not, is_some, is_none, option_map, Option, Some, None, refl, sym, subst}
use Rattle.std.specs.List.{slice_get, All}
use Rattle.std.proofs.lemmas.List.Elements.{All-contains, Contains-get_or}
use Rattle.std.proofs.lemmas.Option.{slice_get-get_or, slice_get_within, get_or_from_slice_get}
use Rattle.g4_cycles.specs.Cycles.{Answers}
use Rattle.g4_cycles.proofs.OneCycle.{reaches_first}
use Rattle.g4_net.specs.declared.network.Network.{Network}
use Rattle.g4_net.specs.declared.network.State.{State}
use Rattle.g4_net.specs.declared.network.State.TheVariants.{Decision, End, Edge, Call, Predicate, Level, Action, Empty}
use Rattle.g4_net.specs.Network.{state_at}
use Rattle.g4_net.specs.Leads.{IsTarget, WellFormed}
use Rattle.g4_net_check.specs.Numbers.{StateFits, NumbersFit}
use Rattle.g4_net_check.specs.Callers.{CallersFit}
use Rattle.g4_net_check.specs.Steps.{StepsTo, NeverAgain}
use Rattle.g4_net_check.proofs.Frames.{never_again}
use Rattle.g4_net_check.proofs.Paths.{no_cycle}

-- what holds of each item, by its index
each_at : {X : Type 0} (P : X → Type 0) (xs : List X) (k : ℕ) (x : X) → All P xs → slice_get xs k ≡ Some x → P x
each_at P xs k x all at = subst P (get_or_from_slice_get xs k x x at) (all k x (slice_get_within xs k x at))

each_from : {X : Type 0} (P : X → Type 0) (xs : List X) → ((k : ℕ) (x : X) → slice_get xs k ≡ Some x → P x) → All P xs
each_from P xs h k d within = h k (get_or xs k d) (slice_get-get_or xs k d within)

module _ {L : Type 0} where
  target_fits : (n r t : ℕ) (s : State L) → StateFits n r s → IsTarget s t → t < n
  target_fits n r t (Decision ts) fits has = All-contains (λ (x : ℕ). x < n) ts t fits.1 has
  target_fits n r t (End rule) fits has = absurd has
  target_fits n r t (Edge label u) fits is = subst (λ (x : ℕ). x < n) (sym is) fits
  target_fits n r t (Call rule level back) fits is = subst (λ (x : ℕ). x < n) (sym is) fits.1
  target_fits n r t (Predicate k u) fits is = subst (λ (x : ℕ). x < n) (sym is) fits
  target_fits n r t (Level q u) fits is = subst (λ (x : ℕ). x < n) (sym is) fits
  target_fits n r t (Action u) fits is = subst (λ (x : ℕ). x < n) (sym is) fits
  target_fits n r t (Empty u) fits is = subst (λ (x : ℕ). x < n) (sym is) fits

module _ {L : Type 0} (net : Network L) where
  module _ (has : NumbersFit net) where
    fits_at : (p : ℕ) (s : State L) → state_at net p ≡ Some s → StateFits (length net.states) (length net.callers) s
    fits_at p s at = each_at (StateFits (length net.states) (length net.callers)) net.states p s has.states at

    well_formed : CallersFit net → NeverAgain net → WellFormed net
    well_formed callers never = record {
      targets = λ p t s at is. target_fits (length net.states) (length net.callers) t s (fits_at p s at) is;
      rules = has.rules;
      calls = λ p rule level back at. (fits_at p (Call rule level back) at).0;
      ends = λ p rule at. fits_at p (End rule) at;
      written = has.written;
      decisions = λ p targets at. (fits_at p (Decision targets) at).0;
      callers = λ rule t listed at. callers rule t listed at;
      never_again = λ p i returns on. never p i returns on;
    }

  module _ (well : WellFormed net) where
    fits_of : (p : ℕ) (s : State L) → state_at net p ≡ Some s → StateFits (length net.states) (length net.callers) s
    fits_of p (Decision ts) at = (
      well.decisions p ts at,
      λ k d within. well.targets p (get_or ts k d) (Decision ts) at (Contains-get_or ts k d within),
    )
    fits_of p (End rule) at = well.ends p rule at
    fits_of p (Edge label t) at = well.targets p t (Edge label t) at refl
    fits_of p (Call rule level back) at = (well.calls p rule level back at, well.targets p back (Call rule level back) at refl)
    fits_of p (Predicate k t) at = well.targets p t (Predicate k t) at refl
    fits_of p (Level q t) at = well.targets p t (Level q t) at refl
    fits_of p (Action t) at = well.targets p t (Action t) at refl
    fits_of p (Empty t) at = well.targets p t (Empty t) at refl

    numbers_fit : NumbersFit net
    numbers_fit = record {
      rules = well.rules;
      written = well.written;
      states = each_from (StateFits (length net.states) (length net.callers)) net.states fits_of;
    }

  -- where the numbers do not fit
  pub no_numbers : (NumbersFit net → ⊥) → IsTrue false ↔ WellFormed net
  no_numbers wrong = (λ t. absurd (cc), λ well. absurd (wrong (numbers_fit well)))

  -- where the callers are not right
  pub no_callers : (CallersFit net → ⊥) → IsTrue false ↔ WellFormed net
  no_callers wrong = (λ t. absurd (cc), λ well. absurd (wrong (λ rule t listed at. well.callers rule t listed at)))

  -- where both are
  pub both_right : (answer : Bool) → NumbersFit net → CallersFit net → (IsTrue answer ↔ NeverAgain net) → IsTrue answer ↔ WellFormed net
  both_right answer numbers callers is = (
    λ t. well_formed numbers callers (is.0 t),
    λ well. is.1 (λ p i returns on. well.never_again p i returns on),
  )

  -- whether there is a cycle of steps
  pub cycle_answer : (found : Option (List ℕ)) → Answers (StepsTo net) found → IsTrue (is_none found) ↔ NeverAgain net
  cycle_answer None none = (λ t. never_again net none, λ never. refl)
  cycle_answer (Some cycle) f = (
    λ t. absurd (cc),
    λ never. absurd (no_cycle net never f.first (reaches_first (StepsTo net) f.first cycle f.shortest.begins f.shortest.is_cycle)),
  )

-- whether a mapped option is none
pub none_told : {X Y : Type 0} (f : X → Y) (o : Option X) (b : Bool) → is_some o ≡ not b → is_none (option_map f o) ≡ b
none_told f None true e = refl
none_told f None false e = cc
none_told f (Some x) true e = cc
none_told f (Some x) false e = refl
