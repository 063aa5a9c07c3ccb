-- What holds at every moment of a run over a network that can be parsed with.
use Rattle.std.proofs.Common.{◌≡◌, ◌+◌, ◌<◌, ◌≤◌, ◌++◌, ◌∷◌, [], ℕ, zero, suc, List, length, All, refl, sym, ◌∙◌, ap, subst, arith, length-append}
use Rattle.std.specs.Prelude.{Option, Some, None, slice_get}
use Rattle.std.specs.List.{Contains}
use Rattle.std.proofs.lemmas.Option.{slice_get_within, slice_get-get_or}
use Rattle.std.proofs.lemmas.List.Elements.{All-head}
use Rattle.g4_tokens.specs.Symbols.{end_of_list}
use Rattle.g4_net.specs.declared.network.State.{State}
use Rattle.g4_net.specs.declared.network.State.TheVariants.{Decision, End, Edge, Call, Predicate, Level, Action, Empty}
use Rattle.g4_net.specs.Network.{ParserNetwork, state_at, start_of, written_at}
use Rattle.g4_net.specs.Leads.{IsTarget}
use Rattle.g4_net.specs.AddedRule.{IsRunnable}
use Rattle.g4_net.specs.Proper.{start, IsProper, at_bottom}
use Rattle.g4_lookahead.proofs.Proper.{IsStackFor, Inside, at_call, at_last, at_loop, at_turn, after_turn, at_end, after_end, inside_cases, stack_for, proper_within, proper_target, proper_call, proper_return}
use Rattle.g4_tokens.specs.TokenList.{EndsInEnd}
use Rattle.g4_trees.specs.Trees.{Tree}
use Rattle.g4_run.proofs.Moments.{state_child, place_child, first_in, backs_alt, backs_child, backs_token, backs_wrapped}
use Rattle.g4_run.specs.Running.{Frame, Run, beginning, deepest, ClosesBy, with_child, with_token, with_alt, wrapped, begun, node_of, backs, Values}
use Rattle.g4_parse.specs.Standing.{IsFitBy}
use Rattle.g4_parse.proofs.Steps.{ProceedsBy, Proceeds}

-- a symbol other than the last is not at the last place
last_place : (front : List ℕ) (x i a : ℕ) → slice_get (front ++ x ∷ []) i ≡ Some a → (a ≡ x → ⊥) → i < length front
last_place [] x zero a e n = absurd (n cc)
last_place [] x (suc i) a e n = cc
last_place (b ∷ front) x zero a e n = omega arith
last_place (b ∷ front) x (suc i) a e n = omega (arith, last_place front x i a e n)

-- after a symbol other than END there is one more
before_end : (word : List ℕ) (i a : ℕ) → EndsInEnd word → slice_get word i ≡ Some a → (a ≡ end_of_list → ⊥) → i + 1 < length word
before_end word i a (front, same, once) e n =
    let within : i < length front = last_place front end_of_list i a (subst (λ (w : List ℕ). slice_get w i ≡ Some a) same e) n in
    omega (arith, ap length same, length-append front (end_of_list ∷ []))

-- what holds at a moment, the token list having n tokens
pub record Stage (net : ParserNetwork) (loop n : ℕ) (r : Run) : Type 0 where
  pub state_in : r.state < length net.states
  pub proper : IsProper net r.state (backs r.frames)
  pub short : length r.frames ≤ deepest
  -- a token is left, but after END
  pub more : (r.state ≡ loop + 4 → ⊥) → (r.state ≡ 1 → ⊥) → r.place < n

-- other alternatives, more children and levels open no rule
length_wrapped : (i : ℕ) (fs : List Frame) → length (wrapped i fs) ≡ length fs
length_wrapped i [] = refl
length_wrapped i (f ∷ fs) = refl

length_alt : (i : ℕ) (fs : List Frame) → length (with_alt i fs) ≡ length fs
length_alt i [] = refl
length_alt i (f ∷ fs) = refl

length_child : (r : Run) (fs : List Frame) (t : Tree) → length (with_child r fs t).frames ≡ length fs
length_child r [] t = refl
length_child r (f ∷ fs) t = refl

length_token : (r : Run) (fs : List Frame) → r.frames ≡ fs → length (with_token r fs).frames ≡ length fs
length_token r [] e = ap length e
length_token r (f ∷ fs) e = refl

module _ {looped : List ℕ} (net : ParserNetwork) (rule loop : ℕ) (ready : IsRunnable net rule loop looped) where
  -- only the added rule ends with no return state
  inside_end : (p ended : ℕ) → Inside net rule loop ready.apart p → state_at net p ≡ Some (End ended) → ended ≡ 0
  inside_end p ended (at_call e at) is = cc
  inside_end p ended (at_last e at) is = cc
  inside_end p ended (at_loop e at) is = cc
  inside_end p ended (at_turn e at) is = cc
  inside_end p ended (after_turn e at) is = cc
  inside_end p ended (at_end e at) is = cc
  inside_end p ended (after_end e at) is = cc

  -- a symbol that is taken is not END, but where the run goes on after END
  takes_end : (p t a : ℕ) (set returns : List ℕ) → state_at net p ≡ Some (Edge set t) → IsStackFor loop p returns → Contains set a
      → (t ≡ loop + 4 → ⊥) → a ≡ end_of_list → ⊥
  takes_end p t a set (u ∷ rest) is h has other e = ready.apart.leaves_end p t set h.0 is (subst (Contains set) e has)
  takes_end p t a set [] is h has other e = of_inside (inside_cases net rule loop ready.apart p h)
    where
      of_inside : Inside net rule loop ready.apart p → ⊥
      of_inside (at_call f at) = cc
      of_inside (at_last f at) = cc
      of_inside (at_loop f at) = cc
      of_inside (at_turn f at) = let same : set ≡ looped = cc in
          ready.apart.loops_without_end (subst (λ (xs : List ℕ). Contains xs end_of_list) same (subst (Contains set) e has))
      of_inside (after_turn f at) = cc
      of_inside (at_end f at) = other cc
      of_inside (after_end f at) = cc

  -- the state of the added rule's last edge
  at_last_edge : (p : ℕ) → p ≡ loop + 4 → state_at net p ≡ Some (Empty 1)
  at_last_edge p e = ap (λ (q : ℕ). state_at net q) e ∙ ready.apart.added.last

  at_end_of_all : (p : ℕ) → p ≡ 1 → state_at net p ≡ Some (End 0)
  at_end_of_all p e = ap (λ (q : ℕ). state_at net q) e ∙ ready.apart.added.end

  -- where a called rule starts is a state
  starts_within : (p callee level back : ℕ) → state_at net p ≡ Some (Call callee level back) → start_of callee < length net.states
  starts_within p callee level back is = let listed = ready.well_formed.calls p callee level back is in
      omega (arith, ready.well_formed.rules)

  module _ (values : Values) (word : List ℕ) (ends : EndsInEnd word) where
    -- the beginning
    pub begins : Stage net loop (length word) beginning
    begins = record {
      state_in = slice_get_within net.states 0 (Call rule 0 loop) ready.apart.added.call;
      proper = at_bottom 0 start;
      short = omega arith;
      more = λ a b. let e = ends.1 in omega (arith, ap length e, length-append ends.0 (end_of_list ∷ []));
    }

    -- a token is left at a state that is none of the last two
    left : (r : Run) (s : State (List ℕ)) → Stage net loop (length word) r → state_at net r.state ≡ Some s → (s ≡ Empty 1 → ⊥)
        → (s ≡ End 0 → ⊥) → r.place < length word
    left r s h is a b = h.more (λ e. a (let at = at_last_edge r.state e in cc)) (λ e. b (let at = at_end_of_all r.state e in cc))

    -- going along an edge that takes no token
    moves : (r : Run) (s : State (List ℕ)) (t : ℕ) (frames : List Frame) (after : Run) → Stage net loop (length word) r
        → state_at net r.state ≡ Some s → IsTarget s t → after.state ≡ t → after.place ≡ r.place → backs after.frames ≡ backs r.frames
        → length after.frames ≡ length r.frames → ((t ≡ 1 → ⊥) → r.place < length word) → Stage net loop (length word) after
    moves r s t frames after h is to a b c d more = record {
      state_in = let less = ready.well_formed.targets r.state t s is to in omega (arith, a);
      proper = subst (λ (bs : List ℕ). IsProper net after.state bs) (sym c)
          (subst (λ (p : ℕ). IsProper net p (backs r.frames)) (sym a) (proper_target r.state t s (backs r.frames) is to h.proper));
      short = let few = h.short in omega (arith, d);
      more = λ x y. let less = more (λ e. y (a ∙ e)) in omega (arith, b);
    }

    -- closing a rule
    closes : (r : Run) (ended : ℕ) (fs : List Frame) (s : Run) → r.frames ≡ fs → Stage net loop (length word) r
        → state_at net r.state ≡ Some (End ended) → ClosesBy net values word r fs s → Stage net loop (length word) s
    closes r ended [] s e h is g = absurd g
    closes r ended (f ∷ fs) s e h is g =
        let open_backs : backs r.frames ≡ f.back ∷ backs fs = ap backs e in
        let proper : IsProper net r.state (f.back ∷ backs fs) = subst (λ (bs : List ℕ). IsProper net r.state bs) open_backs h.proper in
        let stack : IsStackFor loop r.state (f.back ∷ backs fs) = stack_for net rule loop ready.apart r.state (f.back ∷ backs fs) proper in
        let all : All (λ t. t < length net.states) (f.back ∷ backs fs) =
        proper_within net r.state (f.back ∷ backs fs) ready.well_formed proper in
        let after : Run = record { state = f.back; place = r.place; frames = fs; tree = r.tree } in
        let state : s.state ≡ f.back = ap (λ (x : Run). x.state) g ∙ state_child after fs (node_of f) in
        let place : s.place ≡ r.place = ap (λ (x : Run). x.place) g ∙ place_child after fs (node_of f) in
        let returns : backs s.frames ≡ backs fs = ap (λ (x : Run). backs x.frames) g ∙ backs_child after fs (node_of f) in
        let count : length s.frames ≡ length fs = ap (λ (x : Run). length x.frames) g ∙ length_child after fs (node_of f) in
        record {
          state_in = let less = All-head (λ t. t < length net.states) f.back (backs fs) all in omega (arith, state);
          proper = subst (λ (bs : List ℕ). IsProper net s.state bs) (sym returns)
              (subst (λ (p : ℕ). IsProper net p (backs fs)) (sym state) (proper_return net r.state f.back (backs fs) proper));
          short = let few = h.short in omega (arith, count, ap length e);
          more = λ x y. let less = h.more (λ e. absurd (let at = at_last_edge r.state e in cc))
              (λ e. absurd (let two = stack.0.0 in omega arith)) in omega (arith, place);
        }

    -- a step
    advances_by : (r s : Run) (o : Option (State (List ℕ))) → state_at net r.state ≡ o → Stage net loop (length word) r
        → ProceedsBy net values word o r s → Stage net loop (length word) s
    advances_by r s None is h g = absurd g
    advances_by r s (Some (Decision targets)) is h (i, t, first, e) =
        moves r (Decision targets) t r.frames s h is (first_in net r.state i t targets is first) (ap (λ (x : Run). x.state) e)
        (ap (λ (x : Run). x.place) e)
        (ap (λ (x : Run). backs x.frames) e ∙ backs_alt (begun net t (state_at net t)) r.frames)
        (ap (λ (x : Run). length x.frames) e ∙ length_alt (begun net t (state_at net t)) r.frames)
        (λ x. left r (Decision targets) h is (λ e. cc) (λ e. cc))
    advances_by r s (Some (End ended)) is h g = closes r ended r.frames s refl h is g
    advances_by r s (Some (Edge set t)) is h (a, next, has, e) = record {
      state_in = let less = ready.well_formed.targets r.state t (Edge set t) is refl in omega (arith, ap (λ (x : Run). x.state) e);
      proper = subst (λ (bs : List ℕ). IsProper net s.state bs) (sym returns)
          (subst (λ (p : ℕ). IsProper net p (backs r.frames)) (sym (ap (λ (x : Run). x.state) e))
          (proper_target r.state t (Edge set t) (backs r.frames) is refl h.proper));
      short = let few = h.short in omega (arith, ap (λ (x : Run). length x.frames) e, length_token r r.frames refl);
      more = λ x y. let less = before_end word r.place a ends next
          (takes_end r.state t a set (backs r.frames) is (stack_for net rule loop ready.apart r.state (backs r.frames) h.proper) has
          (λ u. x (ap (λ (z : Run). z.state) e ∙ u))) in omega (arith, ap (λ (x : Run). x.place) e);
    }
      where
        returns : backs s.frames ≡ backs r.frames
        returns = ap (λ (x : Run). backs x.frames) e ∙ backs_token r r.frames refl
    advances_by r s (Some (Call callee level back)) is h (room, e) = record {
      state_in = let less = starts_within r.state callee level back is in omega (arith, ap (λ (x : Run). x.state) e);
      proper = subst (λ (x : Run). IsProper net x.state (backs x.frames)) (sym e)
          (proper_call net r.state callee level back (backs r.frames) is h.proper);
      short = omega (arith, ap (λ (x : Run). length x.frames) e);
      more = λ x y. let less = left r (Call callee level back) h is (λ e. cc) (λ e. cc) in omega (arith, ap (λ (x : Run). x.place) e);
    }
    advances_by r s (Some (Predicate k t)) is h (holds, e) =
        moves r (Predicate k t) t r.frames s h is refl (ap (λ (x : Run). x.state) e) (ap (λ (x : Run). x.place) e)
        (ap (λ (x : Run). backs x.frames) e) (ap (λ (x : Run). length x.frames) e)
        (λ x. left r (Predicate k t) h is (λ u. cc) (λ u. cc))
    advances_by r s (Some (Level q t)) is h (below, e) =
        moves r (Level q t) t r.frames s h is refl (ap (λ (x : Run). x.state) e) (ap (λ (x : Run). x.place) e)
        (ap (λ (x : Run). backs x.frames) e ∙ backs_wrapped (written_at net r.state) r.frames)
        (ap (λ (x : Run). length x.frames) e ∙ length_wrapped (written_at net r.state) r.frames)
        (λ x. left r (Level q t) h is (λ u. cc) (λ u. cc))
    advances_by r s (Some (Action t)) is h e =
        moves r (Action t) t r.frames s h is refl (ap (λ (x : Run). x.state) e) (ap (λ (x : Run). x.place) e)
        (ap (λ (x : Run). backs x.frames) e) (ap (λ (x : Run). length x.frames) e)
        (λ x. left r (Action t) h is (λ u. cc) (λ u. cc))
    advances_by r s (Some (Empty t)) is h e =
        moves r (Empty t) t r.frames s h is refl (ap (λ (x : Run). x.state) e) (ap (λ (x : Run). x.place) e)
        (ap (λ (x : Run). backs x.frames) e) (ap (λ (x : Run). length x.frames) e)
        (λ x. left r (Empty t) h is (λ u. x cc) (λ u. cc))

    pub advances : (r s : Run) → Stage net loop (length word) r → Proceeds net values word r s → Stage net loop (length word) s
    advances r s h g = advances_by r s (state_at net r.state) refl h g

    -- what each state asks
    fits_by : (r : Run) (o : Option (State (List ℕ))) → state_at net r.state ≡ o → Stage net loop (length word) r
        → IsFitBy net (length word) o r
    fits_by r None is h = let within = h.state_in in absurd (past within)
      where
        past : r.state < length net.states → ⊥
        past less = let at = slice_get-get_or net.states r.state (Empty 0) less in cc
    fits_by r (Some (Decision targets)) is h = record
        { ready = (rule, loop, looped, ready); proper = h.proper; more = left r (Decision targets) h is (λ e. cc) (λ e. cc) }
    fits_by r (Some (End ended)) is h = λ e. inside_end r.state ended
        (inside_cases net rule loop ready.apart r.state
        (subst (λ (fs : List Frame). IsStackFor loop r.state (backs fs)) e
        (stack_for net rule loop ready.apart r.state (backs r.frames) h.proper))) is
    fits_by r (Some (Edge set t)) is h = left r (Edge set t) h is (λ e. cc) (λ e. cc)
    fits_by r (Some (Call callee level back)) is h =
        let less = starts_within r.state callee level back is in
        let same = ready.well_formed.written in
        let few = ready.few in
        (omega arith, omega arith)
    fits_by r (Some (Predicate k t)) is h = tt
    fits_by r (Some (Level q t)) is h = let within = h.state_in in omega (arith, ready.well_formed.written)
    fits_by r (Some (Action t)) is h = tt
    fits_by r (Some (Empty t)) is h = tt

    pub fits : (r : Run) → Stage net loop (length word) r → IsFitBy net (length word) (state_at net r.state) r
    fits r h = fits_by r (state_at net r.state) refl h
