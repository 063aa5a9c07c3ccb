-- What a state leads to above its own stack: in each open frame it stays on a path of edges and of calls that were returned
-- from, so what it leads to is reached by steps too.
use Rattle.std.proofs.Common.{◌≡◌, ℕ, ◌⊎◌, inl, inr, List, [], ◌∷◌, Bool, true, false, true≢false, Option, Some, None, Contains, refl, sym, ◌∙◌, subst, lit<}
use Rattle.g4_cycles.specs.Cycles.{Reaches, once as one_edge}
use Rattle.g4_cycles.proofs.Reaching.{reaches_on}
use Rattle.g4_net.specs.declared.network.Network.{Network}
use Rattle.g4_net.specs.declared.network.State.{State}
use Rattle.g4_net.specs.declared.network.State.TheVariants.{Decision, End, Edge, Call, Predicate, Level, Action, Empty}
use Rattle.g4_net.specs.Configurations.{Config, at}
use Rattle.g4_net.specs.Network.{state_at, start_of}
use Rattle.g4_net.specs.Leads.{Returns, LeadsBy, LeadsOn, once, again}
use Rattle.g4_net.proofs.Frames.{bottomed}
use Rattle.g4_net.proofs.Finite.{keeps}
use Rattle.g4_net_check.specs.Steps.{IsEpsilon, IsNullable, ends, by_edge, by_call, StepsTo, along, into, past, NeverAgain}

-- the second state is reached from the first one in its frame
data Stays {L : Type 0} (net : Network L) (p : ℕ) : ℕ → Type 0 where
  here : Stays net p p
  edge : (q t : ℕ) → Stays net p q → IsEpsilon net q t → Stays net p t
  over : (q rule level back : ℕ) → Stays net p q → state_at net q ≡ Some (Call rule level back) → IsNullable net (start_of rule)
      → Stays net p back

module _ {L : Type 0} (net : Network L) where
  -- a state from which a nullable one is reached is nullable
  stays_null : (p q : ℕ) → Stays net p q → IsNullable net q → IsNullable net p
  stays_null p _ here n = n
  stays_null p _ (edge q t s e) n = stays_null p q s (by_edge q t e n)
  stays_null p _ (over q rule level back s is m) n = stays_null p q s (by_call q rule level back is m n)

  -- The state p led to d above these return states: p stays in the lowest frame up to a call, the start of the rule called in
  -- the next one up to a call, and so on up to d.
  abbrev IsOpen : ℕ → List ℕ → ℕ → Type 0
  IsOpen p [] d = Stays net p d
  IsOpen p (back ∷ rest) d = (q rule level : ℕ) × (state_at net q ≡ Some (Call rule level back)) × IsOpen p rest q
      × Stays net (start_of rule) d

  -- more in the newest frame
  open_on : (p : ℕ) (rs : List ℕ) (d t : ℕ) → ((x : ℕ) → Stays net x d → Stays net x t) → IsOpen p rs d → IsOpen p rs t
  open_on p [] d t more s = more p s
  open_on p (back ∷ rest) d t more (q, rule, level, is, o, s) = (q, rule, level, is, o, more (start_of rule) s)

  -- steps lead from p to d, if they are not one state
  abbrev Comes : ℕ → ℕ → Type 0
  Comes p d = (p ≡ d) ⊎ Reaches (StepsTo net) p d

  comes_on : (p q t : ℕ) → Comes p q → StepsTo net q t → Reaches (StepsTo net) p t
  comes_on p q t (inl same) s = subst (λ (x : ℕ). Reaches (StepsTo net) x t) (sym same) (one_edge q t s)
  comes_on p q t (inr steps) s = reaches_on (StepsTo net) p q t steps (one_edge q t s)

  stays_comes : (p q d : ℕ) → Comes p q → Stays net q d → Comes p d
  stays_comes p q _ c here = c
  stays_comes p q _ c (edge x t s e) = inr (comes_on p x t (stays_comes p q x c s) (along t e))
  stays_comes p q _ c (over x rule level back s is n) = inr (comes_on p x back (stays_comes p q x c s) (past rule level back is n))

  open_comes : (p : ℕ) (rs : List ℕ) (d : ℕ) → IsOpen p rs d → Comes p d
  open_comes p [] d s = stays_comes p p d (inl refl) s
  open_comes p (back ∷ rest) d (q, rule, level, is, o, s) =
      stays_comes p (start_of rule) d (inr (comes_on p q (start_of rule) (open_comes p rest q o) (into rule level back is))) s

  module _ (p : ℕ) where
    -- p led to the configuration, and steps lead to its state
    abbrev Led : Config → Type 0
    Led d = IsOpen p d.stack.returns d.state × Reaches (StepsTo net) p d.state

    -- along an edge
    led_along : (c d : Config) (t : ℕ) → IsEpsilon net c.state t → IsOpen p c.stack.returns c.state → d ≡ at c t → Led d
    led_along c d t e o l = subst Led (sym l) (
      open_on p c.stack.returns c.state t (λ x s. edge c.state t s e) o,
      comes_on p c.state t (open_comes p c.stack.returns c.state o) (along t e),
    )

    -- from the end of a rule
    led_back : (rule : ℕ) (c d : Config) (returns : List ℕ) (wild : Bool) → state_at net c.state ≡ Some (End rule) → wild ≡ false
        → IsOpen p returns c.state → Returns net rule c returns wild d → Led d
    led_back rule c d (back ∷ rest) wild at_end w (q, called, level, is, o, s) l =
        let n : IsNullable net (start_of called) = stays_null (start_of called) c.state s (ends c.state rule at_end) in
        subst Led (sym l) (
          open_on p rest q back (λ x s. over q called level back s is n) o,
          comes_on p q back (open_comes p rest q o) (past called level back is n),
        )
    led_back rule c d [] true at_end w o l = absurd (true≢false w)
    led_back rule c d [] false at_end w o l = absurd l

    one_target : (t : ℕ) → Contains (t ∷ []) t
    one_target t = (0, lit< tt, refl)

    -- a step
    led : (c d : Config) (o : Option (State L)) → state_at net c.state ≡ o → c.stack.wild ≡ false → IsOpen p c.stack.returns c.state
        → LeadsBy net o c d → Led d
    led c d None is w o l = absurd l
    led c d (Some (Decision ts)) is w o l = led_along c d l.0 (Decision ts, is, l.1) o l.2
    led c d (Some (End rule)) is w o l = led_back rule c d c.stack.returns c.stack.wild is w o l
    led c d (Some (Edge label t)) is w o l = absurd l
    led c d (Some (Call rule level back)) is w o l = subst Led (sym l) (
      (c.state, rule, level, is, o, here),
      comes_on p c.state (start_of rule) (open_comes p c.stack.returns c.state o) (into rule level back is),
    )
    led c d (Some (Predicate k t)) is w o l = led_along c d t (Predicate k t, is, one_target t) o l
    led c d (Some (Level q t)) is w o l = led_along c d t (Level q t, is, one_target t) o l
    led c d (Some (Action t)) is w o l = led_along c d t (Action t, is, one_target t) o l
    led c d (Some (Empty t)) is w o l = led_along c d t (Empty t, is, one_target t) o l

    -- one step or more
    led_on : (i : ℕ) (d : Config) → LeadsOn net (bottomed p i []) d → Led d × (d.stack.wild ≡ false)
    led_on i _ (once d l) = (
      led (bottomed p i []) d (state_at net p) refl refl here l,
      sym (keeps net (bottomed p i []) d (state_at net p) l).1,
    )
    led_on i _ (again e d on l) = let before = led_on i e on in
        (led e d (state_at net e.state) refl before.1 before.0.0 l, sym (keeps net e d (state_at net e.state) l).1 ∙ before.1)

  -- where no state is on a cycle of steps, none leads above its own stack to itself
  pub never_again : ((p : ℕ) → Reaches (StepsTo net) p p → ⊥) → NeverAgain net
  never_again none p i returns on = none p (led_on p i (bottomed p i returns) on).0.1
