-- A configuration that fits a word leads, without a symbol read, to a kept one that fits it, and so does the target of the
-- edge that takes the first symbol there.
use Rattle.std.proofs.Common.{◌≡◌, ℕ, List, [], ◌∷◌, slice_get, Bool, true, Option, Some, None, refl, sym, ap, subst, Contains}
use Rattle.std.proofs.lemmas.Option.{slice_get_within, get_or_from_slice_get}
use Rattle.g4_net.specs.declared.network.State.{State}
use Rattle.g4_net.specs.declared.network.State.TheVariants.{Decision, End, Edge, Call, Predicate, Level, Action, Empty}
use Rattle.g4_net.specs.AddedRule.{IsReady}
use Rattle.g4_net.specs.Configurations.{Config, config}
use Rattle.g4_net.specs.Leads.{Returns, LeadsBy, Leads, Reaches, here, further}
use Rattle.g4_net.specs.Lookahead.{IsKeptBy, Start, TakesBy, Next}
use Rattle.g4_net.specs.Network.{ParserNetwork, state_at, start_of, IsReturn}
use Rattle.g4_net.specs.Proper.{IsOf, IsProper, at_bottom, called}
use Rattle.g4_lookahead.proofs.Proper.{Inside, at_call, at_last, at_loop, at_turn, after_turn, at_end, after_end, inside_cases, stack_for, proper_target, proper_call, proper_return}
use Rattle.g4_net.specs.Spelling.{SpellsWord, ends, takes, calls, passes}
use Rattle.g4_net.proofs.Passing.{pass_is, pass_leads}
use Rattle.g4_fits.specs.Fitting.{SpellsEach, FitsFrom, Fits}

-- a rule that is called has no end but its own
abbrev pub CalledAreOwn : ParserNetwork → Type 0
CalledAreOwn net = (k p r t : ℕ) → IsReturn net k t → IsOf net k p → state_at net p ≡ Some (End r) → r ≡ k

-- it is so where the network can be parsed with
pub called_are_own : (net : ParserNetwork) → IsReady net → CalledAreOwn net
called_are_own net (rule, loop, set, runnable) k p r t (q, level, call) of end =
    runnable.own_ends k p r (runnable.well_formed.calls q k level t call) of end

-- The return states above a mark are the newest of some return states: above the bottom all of them, above the wildcard as many
-- as are seen.
pub data Shown (net : ParserNetwork) (wild : Bool) : List ℕ → List ℕ → Type 0 where
  bottom : Shown net wild [] []
  below : (rest : List ℕ) → wild ≡ true → CalledAreOwn net → Shown net wild [] rest
  above : (t : ℕ) (shown returns : List ℕ) → Shown net wild shown returns → Shown net wild (t ∷ shown) (t ∷ returns)

-- A state with these return states stops at the word: it has an edge that takes the first symbol, and what is left fits there; or
-- nothing is left, neither of the word nor of the rules.
pub data Stops (net : ParserNetwork) (p : ℕ) (returns : List ℕ) : List ℕ → Type 0 where
  first_taken : (a t : ℕ) (w : List ℕ) → TakesBy (state_at net p) a t → FitsFrom net t returns w → Stops net p returns (a ∷ w)
  all_over : (rule : ℕ) → state_at net p ≡ Some (End rule) → returns ≡ [] → Stops net p returns []

-- the end of the added rule is its own
abbrev pub LastIsOwn : ParserNetwork → Type 0
LastIsOwn net = (p r : ℕ) → IsOf net 0 p → state_at net p ≡ Some (End r) → r ≡ 0

-- it is so where the network can be parsed with
pub last_is_own : (net : ParserNetwork) → IsReady net → LastIsOwn net
last_is_own net (rule, loop, set, runnable) p r of is = by
    (inside_cases net rule loop runnable.apart p (stack_for net rule loop runnable.apart p [] (at_bottom p of)))
  where
    by : Inside net rule loop runnable.apart p → r ≡ 0
    by (at_call e s) = let no : ⊥ = cc in absurd no
    by (at_last e s) = cc
    by (at_loop e s) = let no : ⊥ = cc in absurd no
    by (at_turn e s) = let no : ⊥ = cc in absurd no
    by (after_turn e s) = let no : ⊥ = cc in absurd no
    by (at_end e s) = let no : ⊥ = cc in absurd no
    by (after_end e s) = let no : ⊥ = cc in absurd no

-- what takes a symbol is an edge with a set
pub take_is : (o : Option (State (List ℕ))) (a t : ℕ) → TakesBy o a t → (set : List ℕ) × (o ≡ Some (Edge set t)) × Contains set a
take_is (Some (Edge set u)) a t h = (set, ap (λ (x : ℕ). Some (Edge set x)) (sym h.1), h.0)
take_is (Some (End r)) a t h = absurd h
take_is (Some (Decision ts)) a t h = absurd h
take_is (Some (Call r level back)) a t h = absurd h
take_is (Some (Predicate k u)) a t h = absurd h
take_is (Some (Level q u)) a t h = absurd h
take_is (Some (Action u)) a t h = absurd h
take_is (Some (Empty u)) a t h = absurd h
take_is None a t h = absurd h

-- an element that is read is contained
read_in : (xs : List ℕ) (k x : ℕ) → slice_get xs k ≡ Some x → Contains xs x
read_in xs k x is = (k, slice_get_within xs k x is, get_or_from_slice_get xs k x x is)

-- a state with no return state on a proper stack is of the added rule
of_added : (net : ParserNetwork) (p : ℕ) (returns : List ℕ) → IsProper net p returns → returns ≡ [] → IsOf net 0 p
of_added net p _ (at_bottom _ of) none = of
of_added net p _ (called _ _ t more of back h) none = let no : ⊥ = cc in absurd no

-- what stops on a proper stack is kept
kept : (net : ParserNetwork) (p : ℕ) (returns w : List ℕ) → LastIsOwn net → IsProper net p returns → Stops net p returns w →
    IsKeptBy (state_at net p)
kept net p returns _ own proper (first_taken a t w takes_it fits) =
    let edge = take_is (state_at net p) a t takes_it in
    subst IsKeptBy (sym edge.1) tt
kept net p returns _ own proper (all_over rule is none) = subst IsKeptBy (sym is) (own p rule (of_added net p returns proper none) is)

module _ (net : ParserNetwork) (own : LastIsOwn net) (i : ℕ) (wild : Bool) where
  -- a state with return states above the mark
  abbrev pub marked : ℕ → List ℕ → Config
  marked p shown = config p i (record { returns = shown; wild = wild })

  -- from here, without a symbol read, a configuration is reached that stops at the word
  record Arrives (c : Config) (w : List ℕ) : Type 0 where
    to : ℕ
    shown : List ℕ
    returns : List ℕ
    reaches : Reaches net c (marked to shown)
    shows : Shown net wild shown returns
    proper : IsProper net to returns
    stops : Stops net to returns w

  -- What is spelled leads to such a one, if what is left when it ends does.
  spelled : (c : Config) (p : ℕ) (w v : List ℕ) → SpellsWord net p w v → (shown returns : List ℕ) → Reaches net c (marked p shown) →
      Shown net wild shown returns → IsProper net p returns → SpellsEach net returns v [] →
      ((e rule : ℕ) → state_at net e ≡ Some (End rule) → IsProper net e returns → Reaches net c (marked e shown) → Arrives c v) →
      Arrives c w
  spelled c p w v (ends _ rule _ end) shown returns reach shows proper rest then = then p rule end proper reach
  spelled c p w v (takes _ t label _ u _ is (a, begins, has) h) shown returns reach shows proper rest then = record {
    to = p;
    shown = shown;
    returns = returns;
    reaches = reach;
    shows = shows;
    proper = proper;
    stops = subst (λ (x : List ℕ). Stops net p returns x) (sym begins)
        (first_taken a t u (subst (λ (o : Option (State (List ℕ))). TakesBy o a t) (sym is) (has, refl)) (v, h, rest));
  }
  spelled c p w v (calls _ rule level back _ u _ is h j) shown returns reach shows proper rest then =
      let begun : Leads net (marked p shown) (marked (start_of rule) (back ∷ shown)) =
      subst (λ (o : Option (State (List ℕ))). LeadsBy net o (marked p shown) (marked (start_of rule) (back ∷ shown))) (sym is) refl in
      spelled c (start_of rule) w u h (back ∷ shown) (back ∷ returns) (further (marked p shown) _ reach begun)
      (above back shown returns shows) (proper_call net p rule level back returns is proper) (v, j, rest)
      (λ e r end proper' reach'.
      let left : Leads net (marked e (back ∷ shown)) (marked back shown) =
      subst (λ (o : Option (State (List ℕ))). LeadsBy net o (marked e (back ∷ shown)) (marked back shown)) (sym end) refl in
      spelled c back u v j shown returns (further (marked e (back ∷ shown)) _ reach' left) shows
      (proper_return net e back returns proper') rest then)
  spelled c p w v (passes _ t _ _ m h) shown returns reach shows proper rest then =
      let s = pass_is (state_at net p) t m in
      spelled c t w v h shown returns (further (marked p shown) _ reach (pass_leads net (state_at net p) (marked p shown) t m)) shows
      (proper_target p t s.0 returns s.1 s.2 proper) rest then

  -- what a rule's end with return states leads to
  record Popped (e t : ℕ) (shown more : List ℕ) : Type 0 where
    left : List ℕ
    leads : Leads net (marked e shown) (marked t left)
    shows : Shown net wild left more

  -- it leads to the newest of them, seen or not
  popped : (e rule t : ℕ) (shown more : List ℕ) → state_at net e ≡ Some (End rule) → IsProper net e (t ∷ more) →
      Shown net wild shown (t ∷ more) → Popped e t shown more
  popped e rule t _ more end proper (above _ shown _ h) = record {
    left = shown;
    leads = subst (λ (o : Option (State (List ℕ))). LeadsBy net o (marked e (t ∷ shown)) (marked t shown)) (sym end) refl;
    shows = h;
  }
  popped e rule t _ more end (called k _ _ _ of back proper) (below _ is_wild all_own) = record {
    left = [];
    leads = subst (λ (o : Option (State (List ℕ))). LeadsBy net o (marked e []) (marked t [])) (sym end)
        (subst (λ (b : Bool). Returns net rule (marked e []) [] b (marked t [])) (sym is_wild)
        (t, subst (λ (r : ℕ). IsReturn net r t) (sym (all_own k e rule t back of end)) back, refl));
    shows = below more is_wild all_own;
  }

  -- so what fits leads to such a one
  arrives : (c : Config) (p : ℕ) (returns shown w : List ℕ) → Reaches net c (marked p shown) → Shown net wild shown returns →
      IsProper net p returns → FitsFrom net p returns w → Arrives c w
  arrives c p [] shown w reach shows proper (v, h, rest) =
      spelled c p w v h shown [] reach shows proper rest (λ e rule end proper' reach'. record {
        to = e;
        shown = shown;
        returns = [];
        reaches = reach';
        shows = shows;
        proper = proper';
        stops = subst (λ (x : List ℕ). Stops net e [] x) (sym rest) (all_over rule end refl);
      })
  arrives c p (t ∷ more) shown w reach shows proper (v, h, rest) =
      spelled c p w v h shown (t ∷ more) reach shows proper rest (λ e rule end proper' reach'.
      let q = popped e rule t shown more end proper' shows in
      arrives c t more q.left v (further (marked e shown) _ reach' q.leads) q.shows (proper_return net e t more proper') rest)

  -- the set has a configuration of the alternative that stops at the word
  pub record Holds (C : Config → Type 0) (w : List ℕ) : Type 0 where
    pub state : ℕ
    pub shown : List ℕ
    pub returns : List ℕ
    pub has : C (marked state shown)
    pub shows : Shown net wild shown returns
    pub proper : IsProper net state returns
    pub stops : Stops net state returns w

  -- the start set has one, if the alternative fits
  pub holds_start : (d : ℕ) (A : ℕ → Type 0) (shown returns w : List ℕ) → Shown net wild shown returns → IsProper net d returns → A i →
      Fits net d i returns w → Holds (Start net d A (record { returns = shown; wild = wild })) w
  holds_start d A shown returns w shows proper allowed (t, (targets, k, is, at_k, number), fits) =
      let at_t = proper_target d t (Decision targets) returns is (read_in targets k t at_k) proper in
      let r = arrives (marked t shown) t returns shown w here shows at_t fits in
      record {
        state = r.to;
        shown = r.shown;
        returns = r.returns;
        has = (marked t shown, (allowed, (targets, k, is, at_k, number), refl), r.reaches, kept net r.to r.returns w own r.proper r.stops);
        shows = r.shows;
        proper = r.proper;
        stops = r.stops;
      }

  -- the next set has one, if this one has
  pub holds_next : (C : Config → Type 0) (a : ℕ) (w : List ℕ) → Holds C (a ∷ w) → Holds (Next net C a) w
  holds_next C a w h = by h.stops
    where
      by : Stops net h.state h.returns (a ∷ w) → Holds (Next net C a) w
      by (first_taken _ t _ takes_it fits) =
          let edge = take_is (state_at net h.state) a t takes_it in
          let at_t = proper_target h.state t (Edge edge.0 t) h.returns edge.1 refl h.proper in
          let r = arrives (marked t h.shown) t h.returns h.shown w here h.shows at_t fits in
          record {
            state = r.to;
            shown = r.shown;
            returns = r.returns;
            has = (
              marked t h.shown,
              (marked h.state h.shown, h.has, takes_it, refl),
              r.reaches,
              kept net r.to r.returns w own r.proper r.stops,
            );
            shows = r.shows;
            proper = r.proper;
            stops = r.stops;
          }
