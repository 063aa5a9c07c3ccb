-- What is kept ahead of a group.
use Rattle.std.proofs.Common.{rules, true≢false, ◌≡◌, ◌==◌, ◌↔◌, IsTrue, not, length, ℕ, List, [], ◌∷◌, Bool, true, false, Option, Some, map, slice_get, inl, inr, refl, sym, ◌∙◌, subst, arith}
use Rattle.std.proofs.lemmas.Bool.Decides.{nat_tests}
use Rattle.g4_stacks.specs.Graph as graphs
use Rattle.g4_stacks.specs.Graph.{HasTops}
use Rattle.g4_stacks.specs.Stack.{pushed}
use Rattle.g4_net.specs.declared.network.State.{State}
use Rattle.g4_net.specs.Configurations.{Config, Stack, config, wildcard}
use Rattle.g4_net.specs.Leads.{Leads, LeadsBy, Reaches, Returns, WellFormed, here, further}
use Rattle.g4_net.specs.Network.{ParserNetwork}
use Rattle.g4_configs.specs.declared.group.Group.{Group}
use Rattle.g4_configs.specs.Configs.{HasStack, IsOfGroup, IsStacks, View}
use Rattle.g4_closure.proofs.Joining.{some_append}
use Rattle.g4_closure.proofs.Stepping.{placed_some, popped_some, popped_to_returns, ended_wild}
use Rattle.g4_closure.specs.Ahead.{GoesOn, IsNextReturn, LeadsToEnd, LeadsToKept}
use Rattle.g4_closure.specs.Steps.{ReachedFrom, listed_by, placed, popped_to}

-- what is at the first place of a list is in it
first_in : {X : Type 0} (xs : List X) (x : X) → slice_get xs 0 ≡ Some x → graphs.In x xs
first_in [] x e = absurd (let no : ⊥ = cc in no)
first_in (y ∷ ys) x e = inl (sym (some_is y x e))
  where
    some_is : {X : Type 0} (y x : X) → Some y ≡ Some x → y ≡ x
    some_is y x e = cc

-- the end of a rule leads to the first state on top, with what is below it
pub top_returned : (net : ParserNetwork) (well : WellFormed net) (v : View) (x : Group) (rule : ℕ) (tops : List (ℕ × ℕ)) (t m : ℕ)
    → HasTops v.graph x.stacks tops → slice_get tops 0 ≡ Some (t, m)
    → IsNextReturn net v rule x (record { state = t; alternative = x.alternative; stacks = m })
top_returned net well v x rule tops t m has is =
    let i = first_in tops (t, m) is in record {
      known = has.known t m i;
      returned = λ d j. popped_to_returns net well rule v.graph x tops has d (popped_some v.graph x.alternative tops d (t, m) i j);
    }

-- with the wildcard alone, to the first return state that is listed
pub wild_returned : (net : ParserNetwork) (well : WellFormed net) (v : View) (x : Group) (rule : ℕ) (tops : List (ℕ × ℕ)) (node t : ℕ)
    → HasTops v.graph x.stacks tops → IsStacks v node → ((s : Stack) → HasStack v node s ↔ (s ≡ wildcard))
    → HasStack v x.stacks wildcard → slice_get (listed_by (slice_get net.callers rule)) 0 ≡ Some t
    → IsNextReturn net v rule x (record { state = t; alternative = x.alternative; stacks = node })
wild_returned net well v x rule tops node t has known means there is = record {
  known = known;
  returned = λ d j. (ended_wild net well rule v.graph x tops has node means there d).0
      ((some_append v.graph (map (popped_to x.alternative) tops)
      (map (placed x.alternative node) (listed_by (slice_get net.callers rule))) d).1
      (inr (placed_some v.graph x.alternative node (listed_by (slice_get net.callers rule)) d t
      (first_in (listed_by (slice_get net.callers rule)) t is) j)));
}

-- where some state is on top there is a stack
pub some_stack : (v : View) (n : ℕ) (tops : List (ℕ × ℕ)) → HasTops v.graph n tops → (none : Bool) → none ≡ (length tops == 0)
    → IsTrue (not none) → (s : Stack) × HasStack v n s
some_stack v n [] has none is so = absurd (not_so none (is ∙ zero_is) so)
  where
    zero_is : (0 == 0) ≡ true
    zero_is = grind (arith, nat_tests)

    not_so : (b : Bool) → b ≡ true → IsTrue (not b) → ⊥
    not_so true e h = let f : IsTrue false = h in absurd (search rules)
    not_so false e h = absurd (true≢false (sym e))
some_stack v n ((t, m) ∷ more) has none is so =
    let (s, held) = has.some t m (inl refl) in
    (pushed t s, (has.rests t m (inl refl) s).0 held)

-- steps after steps
pub reaches_on : (net : ParserNetwork) (c d e : Config) → Reaches net c d → Reaches net d e → Reaches net c e
reaches_on net c d e r here = r
reaches_on net c d e r (further x _ q l) = further x e (reaches_on net c d x r q) l

-- a configuration of a group by its parts
of_group : (v : View) (x : Group) (c : Config) → IsOfGroup v x c → c ≡ config x.state x.alternative c.stack
of_group v x c i = rw (← i.state, ← i.alt) refl

-- What is followed: each member of the group at is reached from the group from.
pub record IsFollowed (net : ParserNetwork) (v : View) (from at : Group) : Type 0 where
  pub known : IsStacks v at.stacks
  pub reached : (d : Config) → IsOfGroup v at d → ReachedFrom net (IsOfGroup v from) d

pub followed_here : (net : ParserNetwork) (v : View) (from : Group) → IsStacks v from.stacks → IsFollowed net v from from
followed_here net v from known = record { known = known; reached = λ d i. (d, i, here) }

-- the end of a rule is left as from any state with the same stack
returns_from : (net : ParserNetwork) (rule e : ℕ) (c d : Config) (returns : List ℕ) (wild : Bool) → c.stack.returns ≡ returns
    → c.stack.wild ≡ wild → Returns net rule c returns wild d → Returns net rule (config e c.alt c.stack) returns wild d
returns_from net rule e c d (t ∷ rest) wild is mark r = r
returns_from net rule e c d [] true is mark r = r
returns_from net rule e c d [] false is mark r = r

-- from a state that leads to the end of a rule, what that end leads to is reached
pub end_reached : (net : ParserNetwork) (rule : ℕ) (c d : Config) → LeadsToEnd net c.state rule
    → Returns net rule c c.stack.returns c.stack.wild d → Reaches net c d
end_reached net rule c d way r =
    let e : Config = config way.end c.alt c.stack in
    let step : Leads net e d = subst (λ (o : Option (State (List ℕ))). LeadsBy net o e d) (sym way.is_end)
    (returns_from net rule way.end c d c.stack.returns c.stack.wild refl refl r) in
    further e d (way.reaches c.alt c.stack) step

-- where the group's state leads to the end of a rule, the next group is followed
pub followed_next : (net : ParserNetwork) (v : View) (from at next : Group) (rule : ℕ) → LeadsToEnd net at.state rule
    → IsNextReturn net v rule at next → IsFollowed net v from at → IsFollowed net v from next
followed_next net v from at next rule way h before = record {
  known = h.known;
  reached = λ d i. (
      let (c, j, r) = h.returned d i in
      let (b, k, far) = before.reached c j in
      (b, k, reaches_on net b c d far (end_reached net rule c d (subst (λ (p : ℕ). LeadsToEnd net p rule) (sym j.state) way) r))
      );
}

-- where the group's state leads to what is kept and the group has a stack, something is kept
pub kept_ahead : (net : ParserNetwork) (v : View) (from at : Group) → LeadsToKept net at.state
    → ((s : Stack) × HasStack v at.stacks s) → IsFollowed net v from at → GoesOn net (IsOfGroup v from)
kept_ahead net v from at way (s, held) h =
    let c : Config = config at.state at.alternative s in
    let i : IsOfGroup v at c = record { state = refl; alt = refl; stack = held } in
    let (b, k, far) = h.reached c i in
    let (d, r, kept) = way at.alternative s in
    (d, (b, k, reaches_on net b c d far r, kept))
