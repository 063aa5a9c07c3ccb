-- One step of a run, at a decision along any alternative: it takes a token, or it leads its configuration on.
use Rattle.std.proofs.Common.{◌≡◌, ◌⊎◌, inl, inr, ◌+◌, ◌∷◌, [], ℕ, List, Contains, slice_get, refl, sym, ◌∙◌, ap, subst}
use Rattle.std.specs.Prelude.{Option, Some, None}
use Rattle.g4_net.specs.declared.network.State.{State}
use Rattle.g4_net.specs.declared.network.State.TheVariants.{Decision, End, Edge, Call, Predicate, Level, Action, Empty}
use Rattle.g4_net.specs.Configurations.{Config, config, above_bottom}
use Rattle.g4_net.specs.Network.{ParserNetwork, state_at, start_of, IsFirst, written_at}
use Rattle.g4_net.specs.Leads.{LeadsBy, Leads}
use Rattle.g4_run.specs.Running.{Frame, Run, deepest, GoesBy, ClosesBy, with_alt, begun, node_of, stack_of, backs, Values}
use Rattle.g4_run.proofs.Moments.{first_in, backs_alt, backs_child, backs_token, backs_wrapped, state_child, place_child}

-- one step of the run by the state, at a decision along any of its alternatives
abbrev pub ProceedsBy : ParserNetwork → Values → List ℕ → Option (State (List ℕ)) → Run → Run → Type 0
ProceedsBy net values word (Some (Decision targets)) r s = (i t : ℕ) × IsFirst net r.state i t
    × (s ≡ record r { state = t; frames = with_alt (begun net t (state_at net t)) r.frames })
ProceedsBy net values word o r s = GoesBy net values word deepest o r s

-- one step of the run, at a decision along any of its alternatives
abbrev pub Proceeds : ParserNetwork → Values → List ℕ → Run → Run → Type 0
Proceeds net values word r s = ProceedsBy net values word (state_at net r.state) r s

-- a step along the chosen alternative is one
pub proceeds_by : (net : ParserNetwork) (values : Values) (word : List ℕ) (o : Option (State (List ℕ))) (r s : Run)
    → GoesBy net values word deepest o r s → ProceedsBy net values word o r s
proceeds_by net values word None r s g = g
proceeds_by net values word (Some (Decision targets)) r s (i, t, says, first, e) = (i, t, first, e)
proceeds_by net values word (Some (End rule)) r s g = g
proceeds_by net values word (Some (Edge set t)) r s g = g
proceeds_by net values word (Some (Call rule level back)) r s g = g
proceeds_by net values word (Some (Predicate k t)) r s g = g
proceeds_by net values word (Some (Level q t)) r s g = g
proceeds_by net values word (Some (Action t)) r s g = g
proceeds_by net values word (Some (Empty t)) r s g = g

-- where a run is, as a configuration of an alternative
abbrev pub config_of : ℕ → Run → Config
config_of i r = config r.state i (stack_of r)

-- A step that takes a token, along the edge of its state.
pub record TakesToken (net : ParserNetwork) (word : List ℕ) (r s : Run) : Type 0 where
  pub set : List ℕ
  pub target : ℕ
  pub symbol : ℕ
  pub edge : state_at net r.state ≡ Some (Edge set target)
  pub next : slice_get word r.place ≡ Some symbol
  pub takes : Contains set symbol
  pub state : s.state ≡ target
  pub place : s.place ≡ r.place + 1
  pub returns : backs s.frames ≡ backs r.frames

-- A step that takes none: the configuration of each alternative leads on.
pub record TakesNone (net : ParserNetwork) (r s : Run) : Type 0 where
  pub place : s.place ≡ r.place
  pub leads : (i : ℕ) → Leads net (config_of i r) (config_of i s)

-- where a run is follows from its state and the return states
config_is : (i : ℕ) (s : Run) (t : ℕ) (returns : List ℕ) → s.state ≡ t → backs s.frames ≡ returns
    → config_of i s ≡ config t i (above_bottom returns)
config_is i s t returns a b = ap (λ (p : ℕ). config p i (stack_of s)) a ∙ ap (λ (bs : List ℕ). config t i (above_bottom bs)) b

-- an edge that is taken as empty
silent_edge : (net : ParserNetwork) (r s : Run) (t : ℕ) (o : Option (State (List ℕ))) (returns : List ℕ) → state_at net r.state ≡ o
    → ((i : ℕ) → LeadsBy net o (config_of i r) (config t i (above_bottom returns))) → s.state ≡ t → s.place ≡ r.place
    → backs s.frames ≡ returns → TakesNone net r s
silent_edge net r s t o returns is l state place same = record {
  place = place;
  leads = λ i. subst (λ (d : Config). Leads net (config_of i r) d) (sym (config_is i s t returns state same))
      (subst (λ (x : Option (State (List ℕ))). LeadsBy net x (config_of i r) (config t i (above_bottom returns))) (sym is) (l i));
}

-- closing a rule
closing : (net : ParserNetwork) (values : Values) (word : List ℕ) (r : Run) (ended : ℕ) (fs : List Frame) (s : Run) → r.frames ≡ fs
    → state_at net r.state ≡ Some (End ended) → ClosesBy net values word r fs s → TakesNone net r s
closing net values word r ended [] s e is g = absurd g
closing net values word r ended (f ∷ fs) s e is g =
    let after : Run = record { state = f.back; place = r.place; frames = fs; tree = r.tree } in
    let state : s.state ≡ f.back = ap (λ (x : Run). x.state) g ∙ state_child after fs (node_of f) in
    let place : s.place ≡ r.place = ap (λ (x : Run). x.place) g ∙ place_child after fs (node_of f) in
    let returns : backs s.frames ≡ backs fs = ap (λ (x : Run). backs x.frames) g ∙ backs_child after fs (node_of f) in
    silent_edge net r s f.back (Some (End ended)) (backs fs) is
    (λ i. subst (λ (gs : List Frame). LeadsBy net (Some (End ended)) (config r.state i (above_bottom (backs gs)))
    (config f.back i (above_bottom (backs fs)))) (sym e) refl) state place returns

-- each step is one of the two
pub token_or_none : (net : ParserNetwork) (values : Values) (word : List ℕ) (r s : Run) (o : Option (State (List ℕ)))
    → state_at net r.state ≡ o
    → ProceedsBy net values word o r s → TakesNone net r s ⊎ TakesToken net word r s
token_or_none net values word r s None is g = absurd g
token_or_none net values word r s (Some (Decision targets)) is (i, t, first, e) =
    inl (silent_edge net r s t (Some (Decision targets)) (backs r.frames) is
    (λ j. (t, first_in net r.state i t targets is first, refl)) (ap (λ (x : Run). x.state) e) (ap (λ (x : Run). x.place) e)
    (ap (λ (x : Run). backs x.frames) e ∙ backs_alt (begun net t (state_at net t)) r.frames))
token_or_none net values word r s (Some (End ended)) is g = inl (closing net values word r ended r.frames s refl is g)
token_or_none net values word r s (Some (Edge set t)) is (a, next, has, e) = inr (record {
  set = set;
  target = t;
  symbol = a;
  edge = is;
  next = next;
  takes = has;
  state = ap (λ (x : Run). x.state) e;
  place = ap (λ (x : Run). x.place) e;
  returns = ap (λ (x : Run). backs x.frames) e ∙ backs_token r r.frames refl;
})
token_or_none net values word r s (Some (Call called level back)) is (room, e) =
    inl (silent_edge net r s (start_of called) (Some (Call called level back)) (back ∷ backs r.frames) is (λ i. refl)
    (ap (λ (x : Run). x.state) e) (ap (λ (x : Run). x.place) e) (ap (λ (x : Run). backs x.frames) e))
token_or_none net values word r s (Some (Predicate k t)) is (holds, e) =
    inl (silent_edge net r s t (Some (Predicate k t)) (backs r.frames) is (λ i. refl) (ap (λ (x : Run). x.state) e)
    (ap (λ (x : Run). x.place) e) (ap (λ (x : Run). backs x.frames) e))
token_or_none net values word r s (Some (Level q t)) is (below, e) =
    inl (silent_edge net r s t (Some (Level q t)) (backs r.frames) is (λ i. refl) (ap (λ (x : Run). x.state) e)
    (ap (λ (x : Run). x.place) e) (ap (λ (x : Run). backs x.frames) e ∙ backs_wrapped (written_at net r.state) r.frames))
token_or_none net values word r s (Some (Action t)) is e =
    inl (silent_edge net r s t (Some (Action t)) (backs r.frames) is (λ i. refl) (ap (λ (x : Run). x.state) e)
    (ap (λ (x : Run). x.place) e) (ap (λ (x : Run). backs x.frames) e))
token_or_none net values word r s (Some (Empty t)) is e =
    inl (silent_edge net r s t (Some (Empty t)) (backs r.frames) is (λ i. refl) (ap (λ (x : Run). x.state) e)
    (ap (λ (x : Run). x.place) e) (ap (λ (x : Run). backs x.frames) e))
