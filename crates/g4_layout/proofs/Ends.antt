-- Nothing endless leads on from a configuration; and how a configuration's own edges show it.
use Rattle.std.proofs.Common.{◌≡◌, ℕ, ◌+◌, ◌<◌, ◌≤◌, ◌⊎◌, inl, inr, List, [], ◌∷◌, Bool, true, false, Option, Some, sym, subst, arith, Contains}
use Rattle.std.proofs.lemmas.List.Elements.{Contains-push_cases}
use native.Mathlib.Decide.{dec_lt}
use Rattle.g4_net.specs.declared.network.Network.{Network}
use Rattle.g4_net.specs.declared.network.State.{State}
use Rattle.g4_net.specs.declared.network.State.TheVariants.{Decision, End, Call, Empty}
use Rattle.g4_net.specs.Configurations.{Config}
use Rattle.g4_net.specs.Network.{state_at, start_of}
use Rattle.g4_net.specs.Leads.{LeadsBy, Leads}
use Rattle.g4_net.proofs.Frames.{bottomed}
use Rattle.g4_layout.specs.Layout.{with_exit}
use Rattle.g4_layout.proofs.Spans.{member_cases}

-- nothing endless leads on from the configuration
pub data Ends {L : Type 0} (net : Network L) : Config → Type 0 where
  ends : (c : Config) → ((d : Config) → Leads net c d → Ends net d) → Ends net c

-- up to n or at n
pub at_or_below : {P : ℕ → Type 0} {n : ℕ} (m : ℕ) → ((q : ℕ) → n ≤ q → q < m → P q) → P m → (p : ℕ) → n ≤ p → p < m + 1 → P p
at_or_below {P} m below here p from upto = elim (dec_lt p m) [
  | yes before ↦ below p from before
  | no after ↦ (let same : m ≡ p = omega arith in subst P same here)
]

-- up to n, at n or next to n
pub at_two : {P : ℕ → Type 0} {n : ℕ} (m : ℕ) → ((q : ℕ) → n ≤ q → q < m → P q) → P m → P (m + 1) → (p : ℕ) → n ≤ p → p < m + 2 → P p
at_two {P} m below here next p from upto = elim (dec_lt p (m + 1)) [
  | yes before ↦ at_or_below {P = P} m below here p from before
  | no after ↦ (let same : m + 1 ≡ p = omega arith in subst P same next)
]

-- the edges of a decision with an exit branch
pub with_exit_cases : (greedy : Bool) (firsts : List ℕ) (exit q : ℕ) → Contains (with_exit greedy firsts exit) q
    → (q ≡ exit) ⊎ Contains firsts q
with_exit_cases true firsts exit q h = elim (Contains-push_cases firsts exit q h) [ inl old ↦ inr old | inr same ↦ inl (sym same) ]
with_exit_cases false firsts exit q h = member_cases exit firsts q h

module _ {L : Type 0} (net : Network L) (i : ℕ) where
  -- nothing endless leads on from the state with these return states
  abbrev pub EndsAt : List ℕ → ℕ → Type 0
  EndsAt returns p = Ends net (bottomed p i returns)

  -- a state whose edges are known
  pub ends_by : (returns : List ℕ) (p : ℕ) (o : Option (State L)) → state_at net p ≡ o
      → ((d : Config) → LeadsBy net o (bottomed p i returns) d → Ends net d) → EndsAt returns p
  ends_by returns p o is on = ends (bottomed p i returns)
      (λ d l. on d (subst (λ (s : Option (State L)). LeadsBy net s (bottomed p i returns) d) is l))

  -- a state with an empty edge
  pub ends_empty : (returns : List ℕ) (p t : ℕ) → state_at net p ≡ Some (Empty t) → EndsAt returns t → EndsAt returns p
  ends_empty returns p t is h = ends_by returns p (Some (Empty t)) is (λ d l. subst (Ends net) (sym l) h)

  -- a decision
  pub ends_decision : (returns : List ℕ) (p : ℕ) (targets : List ℕ) → state_at net p ≡ Some (Decision targets)
      → ((q : ℕ) → Contains targets q → EndsAt returns q) → EndsAt returns p
  ends_decision returns p targets is on = ends_by returns p (Some (Decision targets)) is (λ d l. subst (Ends net) (sym l.2) (on l.0 l.1))

  -- a decision with an exit branch
  pub ends_exit : (returns : List ℕ) (p : ℕ) (greedy : Bool) (firsts : List ℕ) (exit : ℕ)
      → state_at net p ≡ Some (Decision (with_exit greedy firsts exit)) →
      ((q : ℕ) → Contains firsts q → EndsAt returns q) → EndsAt returns exit → EndsAt returns p
  ends_exit returns p greedy firsts exit is on h = ends_decision returns p (with_exit greedy firsts exit) is
      (λ q c. elim (with_exit_cases greedy firsts exit q c) [ inl same ↦ subst (EndsAt returns) (sym same) h | inr old ↦ on q old ])

  -- a call
  pub ends_call : (returns : List ℕ) (p rule level back : ℕ) → state_at net p ≡ Some (Call rule level back)
      → EndsAt (back ∷ returns) (start_of rule) → EndsAt returns p
  ends_call returns p rule level back is h = ends_by returns p (Some (Call rule level back)) is (λ d l. subst (Ends net) (sym l) h)

  -- a rule's end with a return state
  pub ends_return : (returns : List ℕ) (p rule back : ℕ) → state_at net p ≡ Some (End rule) → EndsAt returns back
      → EndsAt (back ∷ returns) p
  ends_return returns p rule back is h = ends_by (back ∷ returns) p (Some (End rule)) is (λ d l. subst (Ends net) (sym l) h)

  -- a rule's end at the bottom
  pub ends_bottom : (p rule : ℕ) → state_at net p ≡ Some (End rule) → EndsAt [] p
  ends_bottom p rule is = ends_by [] p (Some (End rule)) is (λ d l. absurd l)
