-- Where levels are only at loops, a level that a run comes to is never one that the open rule must not pass: the decision before it chose
-- an alternative whose first tests hold. So what fails is a predicate.
use Rattle.std.proofs.Common.{◌≡◌, ◌≤◌, ℕ, List, [], ◌∷◌, Option, Some, None, refl, sym, ◌∙◌, ap, subst, arith}
use Rattle.g4_guards.proofs.Granted.{chosen_allowed}
use Rattle.g4_lookahead.proofs.OneChoice.{one_first}
use Rattle.g4_net.specs.AddedRule.{IsReady}
use Rattle.g4_net.specs.Leads.{IsTarget}
use Rattle.g4_net.specs.Loops.{HasLoops}
use Rattle.g4_net.specs.Network.{ParserNetwork, state_at, start_of, written_at, IsFirst}
use Rattle.g4_net.specs.Prediction.{chosen, IsTestBy}
use Rattle.g4_net.specs.declared.network.State.{State}
use Rattle.g4_net.specs.declared.network.State.TheVariants.{Decision, End, Edge, Call, Predicate, Level, Action, Empty}
use Rattle.g4_run.specs.Failing.{FailsAtPredicate}
use Rattle.g4_run.specs.Running.{Frame, Run, Ending, Values, failed_predicate, beginning, begun, with_alt, with_child, with_token, wrapped, level_of, node_of, rule_of, Passes, no_test, predicate_holds, level_holds, AllowsAt, Predicts, ClosesBy, GoesBy, StopsBy, Comes, comes_there, comes_on, Runs, stops, goes, deepest}
use Rattle.g4_run.proofs.Levelled.{level_alt}
use Rattle.g4_run.proofs.Moments.{state_child}
use Rattle.g4_trees.specs.Trees.{Tree}

-- each open rule returns to where some call does
abbrev AreCalled : ParserNetwork → List Frame → Type 0
AreCalled net [] = Unit {0}
AreCalled net (f ∷ fs) = ((c k level : ℕ) × (state_at net c ≡ Some (Call k level f.back))) × AreCalled net fs

called_alt : (net : ParserNetwork) (i : ℕ) (fs : List Frame) → AreCalled net fs → AreCalled net (with_alt i fs)
called_alt net i [] h = h
called_alt net i (f ∷ fs) h = h

called_wrapped : (net : ParserNetwork) (i : ℕ) (fs : List Frame) → AreCalled net fs → AreCalled net (wrapped i fs)
called_wrapped net i [] h = h
called_wrapped net i (f ∷ fs) h = h

called_child : (net : ParserNetwork) (r : Run) (fs : List Frame) (t : Tree) → AreCalled net fs → AreCalled net (with_child r fs t).frames
called_child net r [] t h = h
called_child net r (f ∷ fs) t h = h

called_token : (net : ParserNetwork) (r : Run) (fs : List Frame) → r.frames ≡ fs → AreCalled net fs → AreCalled net (with_token r fs).frames
called_token net r [] e h = subst (AreCalled net) (sym e) h
called_token net r (f ∷ fs) e h = h

module _ (net : ParserNetwork) (ready : IsReady net) (levels : HasLoops net) (values : Values) (word : List ℕ) where
  -- What holds at each moment: a level that the run is at is no less than that of the open rule.
  record IsPassing (r : Run) : Type 0 where
    called : AreCalled net r.frames
    passes : (q t : ℕ) → state_at net r.state ≡ Some (Level q t) → level_of r.frames ≤ q

  -- it holds of a moment at a state that is no level
  at_none : (s : Run) (t : ℕ) → s.state ≡ t → AreCalled net s.frames → ((q v : ℕ) → state_at net t ≡ Some (Level q v) → ⊥) → IsPassing s
  at_none s t is called none = record {
    called = called;
    passes = λ q v at. absurd (none q v (subst (λ (p : ℕ). state_at net p ≡ Some (Level q v)) is at));
  }

  -- no edge but a decision's leads to a level
  no_level : (p t q v : ℕ) (s : State (List ℕ)) → state_at net p ≡ Some s → IsTarget s t → ((targets : List ℕ) → s ≡ Decision targets → ⊥) →
      state_at net t ≡ Some (Level q v) → ⊥
  no_level p t q v s is to other at = let d = levels.decided p t q v s is to at in other d.0 d.1

  -- a level that passes holds
  passes_level : (r : Run) (p q v : ℕ) → state_at net p ≡ Some (Level q v) → Passes net values word r p → level_of r.frames ≤ q
  passes_level r p q v is (no_test _ none) = absurd (none (subst IsTestBy (sym is) tt))
  passes_level r p q v is (predicate_holds _ k t at holds more) = absurd (let no : ⊥ = cc in no)
  passes_level r p q v is (level_holds _ n t at low more) = let same : n ≡ q = cc in subst (λ (x : ℕ). level_of r.frames ≤ x) same low

  -- so do the first tests of the alternative that is chosen
  chosen_passes : (r : Run) (i t : ℕ) → Predicts net values word r (chosen i) → IsFirst net r.state i t → Passes net values word r t
  chosen_passes r i t says first =
      let allowed : AllowsAt net values word r i = (chosen_allowed net r.state (AllowsAt net values word r) _ _ i says).1.0 in
      subst (Passes net values word r) (one_first net r.state i allowed.0 t allowed.1 first) allowed.2

  -- closing a rule
  closed : (r s : Run) (fs : List Frame) → AreCalled net fs → ClosesBy net values word r fs s → IsPassing s
  closed r s [] called g = absurd g
  closed r s (f ∷ fs) ((c, k, level, is), more) g =
      let after : Run = record { state = f.back; place = r.place; frames = fs; tree = r.tree } in
      at_none s f.back (ap (λ (x : Run). x.state) g ∙ state_child after fs (node_of f))
      (subst (λ (x : Run). AreCalled net x.frames) (sym g) (called_child net after fs (node_of f) more))
      (λ q v at. no_level c f.back q v (Call k level f.back) is refl (λ ts e. let no : ⊥ = cc in no) at)

  module _ (limit : ℕ) where
    -- it holds after a step
    onward_by : (r s : Run) (o : Option (State (List ℕ))) → state_at net r.state ≡ o → IsPassing r → GoesBy net values word limit o r s →
        IsPassing s
    onward_by r s None is h g = absurd g
    onward_by r s (Some (Decision targets)) is h (i, t, says, first, e) =
        let n = begun net t (state_at net t) in
        let level : level_of s.frames ≡ level_of r.frames = ap (λ (x : Run). level_of x.frames) e ∙ level_alt n r.frames in
        let there : s.state ≡ t = ap (λ (x : Run). x.state) e in
        let tests = chosen_passes r i t says first in
        record {
          called = subst (λ (x : Run). AreCalled net x.frames) (sym e) (called_alt net n r.frames h.called);
          passes = λ q v at. subst (λ (x : ℕ). x ≤ q) (sym level)
              (passes_level r t q v (subst (λ (p : ℕ). state_at net p ≡ Some (Level q v)) there at) tests);
        }
    onward_by r s (Some (End rule)) is h g = closed r s r.frames h.called g
    onward_by r s (Some (Edge set t)) is h (a, next, has, e) =
        at_none s t (ap (λ (x : Run). x.state) e)
        (subst (λ (x : Run). AreCalled net x.frames) (sym e) (called_token net r r.frames refl h.called))
        (λ q v at. no_level r.state t q v (Edge set t) is refl (λ ts d. let no : ⊥ = cc in no) at)
    onward_by r s (Some (Call rule level back)) is h (room, e) =
        at_none s (start_of rule) (ap (λ (x : Run). x.state) e)
        (subst (λ (x : Run). AreCalled net x.frames) (sym e) ((r.state, rule, level, is), h.called))
        (λ q v at. levels.starts r.state rule level back q v is at)
    onward_by r s (Some (Predicate k t)) is h (holds, e) =
        at_none s t (ap (λ (x : Run). x.state) e) (subst (λ (x : Run). AreCalled net x.frames) (sym e) h.called)
        (λ q v at. no_level r.state t q v (Predicate k t) is refl (λ ts d. let no : ⊥ = cc in no) at)
    onward_by r s (Some (Level n t)) is h (low, e) =
        at_none s t (ap (λ (x : Run). x.state) e)
        (subst (λ (x : Run). AreCalled net x.frames) (sym e) (called_wrapped net (written_at net r.state) r.frames h.called))
        (λ q v at. no_level r.state t q v (Level n t) is refl (λ ts d. let no : ⊥ = cc in no) at)
    onward_by r s (Some (Action t)) is h e =
        at_none s t (ap (λ (x : Run). x.state) e) (subst (λ (x : Run). AreCalled net x.frames) (sym e) h.called)
        (λ q v at. no_level r.state t q v (Action t) is refl (λ ts d. let no : ⊥ = cc in no) at)
    onward_by r s (Some (Empty t)) is h e =
        at_none s t (ap (λ (x : Run). x.state) e) (subst (λ (x : Run). AreCalled net x.frames) (sym e) h.called)
        (λ q v at. no_level r.state t q v (Empty t) is refl (λ ts d. let no : ⊥ = cc in no) at)

  -- what fails at a moment is a predicate
  fails_by : (r : Run) (o : Option (State (List ℕ))) (at rule : ℕ) → state_at net r.state ≡ o → IsPassing r
      → Comes net values word deepest beginning r → StopsBy net values word deepest o r (failed_predicate at rule)
      → FailsAtPredicate net values word at rule
  fails_by r None at rule is h came g = absurd g
  fails_by r (Some (Decision targets)) at rule is h came (k, says, e) = absurd (let no : ⊥ = cc in no)
  fails_by r (Some (End ended)) at rule is h came (none, added, (tree, one, e)) = absurd (let no : ⊥ = cc in no)
  fails_by r (Some (Edge set t)) at rule is h came (a, next, has, e) = absurd (let no : ⊥ = cc in no)
  fails_by r (Some (Call called level back)) at rule is h came (deep, e) = absurd (let no : ⊥ = cc in no)
  fails_by r (Some (Predicate k t)) at rule is h came (fails, e) =
      let place : r.place ≡ at = cc in
      let newest : rule_of r.frames ≡ rule = cc in
      record {
        moment = r;
        reached = came;
        number = k;
        target = t;
        predicate = is;
        is_false = fails;
        place = place;
        newest = newest;
      }
  fails_by r (Some (Level q t)) at rule is h came (above, e) = let low = h.passes q t is in absurd (omega (arith, above, low))
  fails_by r (Some (Action t)) at rule is h came g = absurd g
  fails_by r (Some (Empty t)) at rule is h came g = absurd g

  -- and so at the end of a run from it
  run_fails : (r : Run) (e : Ending) (at rule : ℕ) → IsPassing r → Comes net values word deepest beginning r
      → Runs net values word deepest r e → e ≡ failed_predicate at rule → FailsAtPredicate net values word at rule
  run_fails r e at rule h came (stops _ _ stop) is = fails_by r (state_at net r.state) at rule refl h came
      (subst (λ (x : Ending). StopsBy net values word deepest (state_at net r.state) r x) is stop)
  run_fails r e at rule h came (goes _ s _ step more) is =
      run_fails s e at rule (onward_by deepest r s (state_at net r.state) refl h step) (comes_on beginning r s came step) more is

  -- no state of the added rule that a run begins at is a level
  begins : IsPassing beginning
  begins = at_none beginning 0 refl tt (λ q v at. let call = ready.3.apart.added.call in let no : ⊥ = cc in no)

  pub fails_at_predicate : (at rule : ℕ) → Runs net values word deepest beginning (failed_predicate at rule)
      → FailsAtPredicate net values word at rule
  fails_at_predicate at rule run = run_fails beginning (failed_predicate at rule) at rule begins (comes_there beginning) run refl
