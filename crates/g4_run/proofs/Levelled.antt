-- Where levels are only at loops to which calls at a level return, and there are no predicates, what is left goes on to fit.
use Rattle.std.proofs.Common.{◌≡◌, ◌≤◌, ◌<◌, ◌⊎◌, inl, inr, ℕ, ◌+◌, List, [], ◌∷◌, drop, length, Option, Some, None, Contains, refl, sym, ◌∙◌, ap, subst, arith}
use Rattle.g4_fits.specs.Fitting.{FitsFrom, SomeFits, IsLeastThatFits}
use Rattle.g4_net.specs.Spelling.{SpellsWord}
use Rattle.g4_fits.proofs.Arriving.{called_are_own, last_is_own}
use Rattle.g4_fits.proofs.Leaving.{leave_fits}
use Rattle.g4_net.specs.Loops.{HasLoops}
use Rattle.g4_guards.proofs.Choosing.{chooses_least}
use Rattle.g4_lookahead.proofs.OneChoice.{one_first}
use Rattle.g4_net.specs.AddedRule.{IsReady, IsUnpredicated}
use Rattle.g4_net.specs.Leads.{IsTarget}
use Rattle.g4_net.specs.Network.{ParserNetwork, state_at, start_of, IsFirst}
use Rattle.g4_net.specs.Prediction.{Choice, chosen, no_viable, IsTestBy}
use Rattle.g4_net.specs.Proper.{IsOf, start, further, IsProper, at_bottom, called}
use Rattle.g4_net.specs.declared.network.State.{State}
use Rattle.g4_net.specs.declared.network.State.TheVariants.{Decision, End, Edge, Call, Predicate, Level, Action, Empty}
use Rattle.g4_run.specs.Running.{Frame, Run, backs, Ending, Values, parsed, too_deep, beginning, begun, with_alt, with_child, with_token, wrapped, level_of, node_of, Passes, no_test, predicate_holds, level_holds, AllowsAt, Predicts, ClosesBy, GoesBy, StopsBy, Runs, stops, goes}
use Rattle.g4_net.specs.Network.{written_at}
use Rattle.g4_derivation.proofs.Firsts.{at_is_member}
use Rattle.g4_run.proofs.Moments.{target_first, same_first, backs_alt, backs_child, backs_token, backs_wrapped, place_child, state_child, symbol_first}
use Rattle.g4_run.proofs.Unfolding.{unfold_at}
use Rattle.g4_trees.specs.Trees.{Tree}

-- The open rules, newest first, above a state: it is one of the newest rule, which was called at its level, to return where it will.
abbrev pub AreOpened : ParserNetwork → ℕ → List Frame → Type 0
AreOpened net p [] = IsOf net 0 p
AreOpened net p (f ∷ fs) = (k : ℕ) × IsOf net k p × ((c : ℕ) × (state_at net c ≡ Some (Call k f.level f.back))) × AreOpened net f.back fs

-- the return states are proper then
opened_proper : (net : ParserNetwork) (p : ℕ) (fs : List Frame) → AreOpened net p fs → IsProper net p (backs fs)
opened_proper net p [] of = at_bottom p of
opened_proper net p (f ∷ fs) (k, of, (c, is), more) = called k p f.back (backs fs) of (c, f.level, is) (opened_proper net f.back fs more)

-- an edge keeps this
opened_target : (net : ParserNetwork) (p t : ℕ) (s : State (List ℕ)) (fs : List Frame) → state_at net p ≡ Some s → IsTarget s t →
    AreOpened net p fs → AreOpened net t fs
opened_target net p t s [] is to of = further p t s of is to
opened_target net p t s (f ∷ fs) is to (k, of, call, more) = (k, further p t s of is to, call, more)

-- so do other alternatives, more children and a new node around
opened_alt : (net : ParserNetwork) (p i : ℕ) (fs : List Frame) → AreOpened net p fs → AreOpened net p (with_alt i fs)
opened_alt net p i [] h = h
opened_alt net p i (f ∷ fs) h = h

opened_wrapped : (net : ParserNetwork) (p i : ℕ) (fs : List Frame) → AreOpened net p fs → AreOpened net p (wrapped i fs)
opened_wrapped net p i [] h = h
opened_wrapped net p i (f ∷ fs) h = h

opened_child : (net : ParserNetwork) (p : ℕ) (r : Run) (fs : List Frame) (t : Tree) → AreOpened net p fs →
    AreOpened net p (with_child r fs t).frames
opened_child net p r [] t h = h
opened_child net p r (f ∷ fs) t h = h

opened_token : (net : ParserNetwork) (p : ℕ) (r : Run) (fs : List Frame) → r.frames ≡ fs → AreOpened net p fs →
    AreOpened net p (with_token r fs).frames
opened_token net p r [] e h = subst (AreOpened net p) (sym e) h
opened_token net p r (f ∷ fs) e h = h

pub level_alt : (i : ℕ) (fs : List Frame) → level_of (with_alt i fs) ≡ level_of fs
level_alt i [] = refl
level_alt i (f ∷ fs) = refl

module _ (net : ParserNetwork) (ready : IsReady net) (levels : HasLoops net) (none : IsUnpredicated net) (values : Values)
    (word : List ℕ) where
  -- the newest rule's number is that of a rule
  known : (p : ℕ) (fs : List Frame) → AreOpened net p fs → (k : ℕ) × (k < length net.callers) × IsOf net k p
  known p [] of = let first = ready.3.well_formed.calls 0 ready.0 0 ready.1 ready.3.apart.added.call in (0, omega (arith, first), of)
  known p (f ∷ fs) (k, of, (c, is), more) = (k, ready.3.well_formed.calls c k f.level f.back is, of)

  -- What holds at each moment: the rest of the word fits, and a level that the run is at is no less than that of the open rule.
  pub record IsFitting (r : Run) : Type 0 where
    pub opened : AreOpened net r.state r.frames
    pub fits : FitsFrom net r.state (backs r.frames) (drop r.place word)
    pub passes : (q t : ℕ) → state_at net r.state ≡ Some (Level q t) → level_of r.frames ≤ q

  -- it holds of a moment with this state, place and return states
  fitting_at : (s : Run) (t place : ℕ) (returns : List ℕ) → s.state ≡ t → s.place ≡ place → backs s.frames ≡ returns →
      AreOpened net t s.frames → FitsFrom net t returns (drop place word) →
      ((q v : ℕ) → state_at net t ≡ Some (Level q v) → level_of s.frames ≤ q) → IsFitting s
  fitting_at s t place returns a b c opened fits passes = record {
    opened = subst (λ (p : ℕ). AreOpened net p s.frames) (sym a) opened;
    fits = subst (λ (ps : List ℕ). FitsFrom net s.state ps (drop s.place word)) (sym c)
        (subst (λ (n : ℕ). FitsFrom net s.state returns (drop n word)) (sym b)
        (subst (λ (p : ℕ). FitsFrom net p returns (drop place word)) (sym a) fits));
    passes = subst (λ (p : ℕ). (q v : ℕ) → state_at net p ≡ Some (Level q v) → level_of s.frames ≤ q) (sym a) passes;
  }

  -- no edge but a decision's leads to a level
  no_level : (p t q v : ℕ) (s : State (List ℕ)) → state_at net p ≡ Some s → IsTarget s t → ((targets : List ℕ) → s ≡ Decision targets → ⊥) →
      state_at net t ≡ Some (Level q v) → ⊥
  no_level p t q v s is to other at = let d = levels.decided p t q v s is to at in other d.0 d.1

  -- no state is a predicate
  no_predicate : (p k t : ℕ) → state_at net p ≡ Some (Predicate k t) → ⊥
  no_predicate p k t is = none p (Predicate k t) is

  -- a state is a level or no test
  data IsTested (p : ℕ) : Type 0 where
    untested : (IsTestBy (state_at net p) → ⊥) → IsTested p
    at_level : (q v : ℕ) → state_at net p ≡ Some (Level q v) → IsTested p

  tested_by : (p : ℕ) (o : Option (State (List ℕ))) → state_at net p ≡ o → IsTested p
  tested_by p (Some (Level q v)) is = at_level q v is
  tested_by p (Some (Predicate k t)) is = absurd (no_predicate p k t is)
  tested_by p (Some (Decision ts)) is = untested (λ h. subst IsTestBy is h)
  tested_by p (Some (End rule)) is = untested (λ h. subst IsTestBy is h)
  tested_by p (Some (Edge label t)) is = untested (λ h. subst IsTestBy is h)
  tested_by p (Some (Call rule level back)) is = untested (λ h. subst IsTestBy is h)
  tested_by p (Some (Action t)) is = untested (λ h. subst IsTestBy is h)
  tested_by p (Some (Empty t)) is = untested (λ h. subst IsTestBy is h)
  tested_by p None is = untested (λ h. subst IsTestBy is h)

  -- what a level leads to is no test
  after_level : (p q v : ℕ) → state_at net p ≡ Some (Level q v) → IsTestBy (state_at net v) → ⊥
  after_level p q v is test = by (tested_by v (state_at net v) refl)
    where
      by : IsTested v → ⊥
      by (untested none) = none test
      by (at_level n x at) = no_level p v n x (Level q v) is refl (λ ts e. let no : ⊥ = cc in no) at

  -- a level that holds
  level_passes : (r : Run) (p q v : ℕ) → state_at net p ≡ Some (Level q v) → level_of r.frames ≤ q → Passes net values word r p
  level_passes r p q v is low = level_holds p q v is low (no_test v (after_level p q v is))

  -- and what passes at a level holds
  passes_level : (r : Run) (p q v : ℕ) → state_at net p ≡ Some (Level q v) → Passes net values word r p → level_of r.frames ≤ q
  passes_level r p q v is (no_test _ none) = absurd (none (subst IsTestBy (sym is) tt))
  passes_level r p q v is (predicate_holds _ k t at holds more) = absurd (no_predicate p k t at)
  passes_level r p q v is (level_holds _ n t at low more) = let same : n ≡ q = cc in subst (λ (x : ℕ). level_of r.frames ≤ x) same low

  -- where the level of the open rule is above 0, what it returns to leads to the loop, so leaving the loop fits
  leaving : (r : Run) (p t q v i : ℕ) (targets : List ℕ) (fs : List Frame) → state_at net p ≡ Some (Decision targets) → Contains targets t →
      state_at net t ≡ Some (Level q v) → q < level_of fs → AreOpened net p fs →
      IsFirst net p i t → FitsFrom net t (backs fs) (drop r.place word) → (j e : ℕ) × IsFirst net p j e × (IsTestBy (state_at net e) → ⊥) ×
      FitsFrom net e (backs fs) (drop r.place word)
  leaving r p t q v i targets [] is to at above opened first fits = absurd (omega (arith, above))
  leaving r p t q v i targets (f ∷ fs) is to at above (k, of, (c, call), more) first fits =
      let listed = ready.3.well_formed.calls c k f.level f.back call in
      let l = levels.loops k p t q v (Decision targets) listed of is to at in
      let h = leave_fits net k p l.0 l.1 f.back i (backs fs) (drop r.place word) (l.2 c f.level f.back call (omega (arith, above)))
      (t, first, fits) in
      (h.0.0, l.0, h.0.1, (λ test. subst IsTestBy l.1.to_end test), h.1)

  -- at a decision an allowed alternative fits
  some_fits : (r : Run) (targets : List ℕ) → state_at net r.state ≡ Some (Decision targets) → IsFitting r →
      SomeFits net r.state (AllowsAt net values word r) (backs r.frames) (drop r.place word)
  some_fits r targets is h = by (tested_by t (state_at net t) refl)
    where
      at_decision : (t : ℕ) × Contains targets t × SpellsWord net t (drop r.place word) h.fits.0
      at_decision = unfold_at net r.state (Some (Decision targets)) (drop r.place word) h.fits.0 is h.fits.1

      t : ℕ
      t = at_decision.0

      first : (i : ℕ) × IsFirst net r.state i t
      first = target_first net r.state t targets is at_decision.1

      fits : FitsFrom net t (backs r.frames) (drop r.place word)
      fits = (h.fits.0, at_decision.2, h.fits.2)

      split : (l q : ℕ) → (l ≤ q) ⊎ (q < l)
      split l q = grind arith

      by : IsTested t → SomeFits net r.state (AllowsAt net values word r) (backs r.frames) (drop r.place word)
      by (untested none) = (first.0, (t, first.1, no_test t none), (t, first.1, fits))
      by (at_level q v at) = elim (split (level_of r.frames) q) [
        | inl low ↦ (first.0, (t, first.1, level_passes r t q v at low), (t, first.1, fits))
        | inr above ↦ (let l = leaving r r.state t q v first.0 targets r.frames is at_decision.1 at above h.opened first.1 fits in
            (l.0, (l.1, l.2, no_test l.1 l.3), (l.1, l.2, l.4)))
      ]

  -- so prediction chooses one that does
  chosen_fits : (r : Run) (targets : List ℕ) (c : Choice) → state_at net r.state ≡ Some (Decision targets) → IsFitting r →
      Predicts net values word r c →
      (i : ℕ) × (c ≡ chosen i) × IsLeastThatFits net r.state (AllowsAt net values word r) (backs r.frames) (drop r.place word) i
  chosen_fits r targets c is h says =
      chooses_least net (last_is_own net ready) (called_are_own net ready) r.state (AllowsAt net values word r) (backs r.frames)
      (drop r.place word) (opened_proper net r.state r.frames h.opened) c (some_fits r targets is h) says

  -- no return state is a level
  back_level : (c k level back q v : ℕ) → state_at net c ≡ Some (Call k level back) → state_at net back ≡ Some (Level q v) → ⊥
  back_level c k level back q v is at = no_level c back q v (Call k level back) is refl (λ ts e. let no : ⊥ = cc in no) at

  -- closing a rule
  closed : (r s : Run) (rule : ℕ) (fs : List Frame) → state_at net r.state ≡ Some (End rule) → r.frames ≡ fs → IsFitting r →
      ClosesBy net values word r fs s → IsFitting s
  closed r s rule [] is e h g = absurd g
  closed r s rule (f ∷ fs) is e h g =
      let after : Run = record { state = f.back; place = r.place; frames = fs; tree = r.tree } in
      let opened : AreOpened net r.state (f ∷ fs) = subst (AreOpened net r.state) e h.opened in
      let fits : FitsFrom net r.state (f.back ∷ backs fs) (drop r.place word) =
      subst (λ (gs : List Frame). FitsFrom net r.state (backs gs) (drop r.place word)) e h.fits in
      let same : drop r.place word ≡ fits.0 = unfold_at net r.state (Some (End rule)) (drop r.place word) fits.0 is fits.1 in
      fitting_at s f.back r.place (backs fs) (ap (λ (x : Run). x.state) g ∙ state_child after fs (node_of f))
      (ap (λ (x : Run). x.place) g ∙ place_child after fs (node_of f))
      (ap (λ (x : Run). backs x.frames) g ∙ backs_child after fs (node_of f))
      (subst (λ (x : Run). AreOpened net f.back x.frames) (sym g) (opened_child net f.back after fs (node_of f) opened.3))
      (subst (λ (x : List ℕ). FitsFrom net f.back (backs fs) x) (sym same) fits.2)
      (λ q v at. absurd (back_level opened.2.0 opened.0 f.level f.back q v opened.2.1 at))

  module _ (limit : ℕ) where
    -- it holds after a step
    onward_by : (r s : Run) (o : Option (State (List ℕ))) → state_at net r.state ≡ o → IsFitting r → GoesBy net values word limit o r s →
        IsFitting s
    onward_by r s None is h g = absurd g
    onward_by r s (Some (Decision targets)) is h (i, t, says, first, e) =
        let c = chosen_fits r targets (chosen i) is h says in
        let same : i ≡ c.0 = (let e' = c.1 in cc) in
        let moved : IsFirst net r.state c.0 t = subst (λ (j : ℕ). IsFirst net r.state j t) same first in
        let target : c.2.fits.0 ≡ t = one_first net r.state c.0 c.2.fits.0 t c.2.fits.1 moved in
        let allowed : c.2.allowed.0 ≡ t = one_first net r.state c.0 c.2.allowed.0 t c.2.allowed.1 moved in
        let fits : FitsFrom net t (backs r.frames) (drop r.place word) =
        subst (λ (p : ℕ). FitsFrom net p (backs r.frames) (drop r.place word)) target c.2.fits.2 in
        let tests : Passes net values word r t = subst (Passes net values word r) allowed c.2.allowed.2 in
        let level : level_of s.frames ≡ level_of r.frames = ap (λ (x : Run). level_of x.frames) e
        ∙ level_alt (begun net t (state_at net t)) r.frames in
        fitting_at s t r.place (backs r.frames) (ap (λ (x : Run). x.state) e) (ap (λ (x : Run). x.place) e)
        (ap (λ (x : Run). backs x.frames) e ∙ backs_alt (begun net t (state_at net t)) r.frames)
        (subst (λ (x : Run). AreOpened net t x.frames) (sym e) (opened_alt net t (begun net t (state_at net t)) r.frames
        (decided t i first)))
        fits (λ q v at. subst (λ (x : ℕ). x ≤ q) (sym level) (passes_level r t q v at tests))
      where
        decided : (t i : ℕ) → IsFirst net r.state i t → AreOpened net t r.frames
        decided t i (us, k, at, has, number) = opened_target net r.state t (Decision us) r.frames at (at_is_member us k t has) h.opened
    onward_by r s (Some (End rule)) is h g = closed r s rule r.frames is refl h g
    onward_by r s (Some (Edge set t)) is h (a, next, has, e) =
        let by = unfold_at net r.state (Some (Edge set t)) (drop r.place word) h.fits.0 is h.fits.1 in
        let same = same_first (drop r.place word) by.0 (drop (r.place + 1) word) by.1.0 a by.1.1 (symbol_first word r.place a next) in
        fitting_at s t (r.place + 1) (backs r.frames) (ap (λ (x : Run). x.state) e) (ap (λ (x : Run). x.place) e)
        (ap (λ (x : Run). backs x.frames) e ∙ backs_token r r.frames refl)
        (subst (λ (x : Run). AreOpened net t x.frames) (sym e) (opened_token net t r r.frames refl
        (opened_target net r.state t (Edge set t) r.frames is refl h.opened)))
        (subst (λ (x : List ℕ). FitsFrom net t (backs r.frames) x) same.1 (h.fits.0, by.2, h.fits.2))
        (λ q v at. absurd (no_level r.state t q v (Edge set t) is refl (λ ts f. let no : ⊥ = cc in no) at))
    onward_by r s (Some (Call rule level back)) is h (room, e) =
        let by = unfold_at net r.state (Some (Call rule level back)) (drop r.place word) h.fits.0 is h.fits.1 in
        fitting_at s (start_of rule) r.place (back ∷ backs r.frames) (ap (λ (x : Run). x.state) e) (ap (λ (x : Run). x.place) e)
        (ap (λ (x : Run). backs x.frames) e)
        (subst (λ (x : Run). AreOpened net (start_of rule) x.frames) (sym e)
        (rule, start, (r.state, is), opened_target net r.state back (Call rule level back) r.frames is refl h.opened))
        (by.0, by.1, (h.fits.0, by.2, h.fits.2))
        (λ q v at. absurd (levels.starts r.state rule level back q v is at))
    onward_by r s (Some (Predicate k t)) is h g = absurd (no_predicate r.state k t is)
    onward_by r s (Some (Level n t)) is h (low, e) =
        fitting_at s t r.place (backs r.frames) (ap (λ (x : Run). x.state) e) (ap (λ (x : Run). x.place) e)
        (ap (λ (x : Run). backs x.frames) e ∙ backs_wrapped (written_at net r.state) r.frames)
        (subst (λ (x : Run). AreOpened net t x.frames) (sym e) (opened_wrapped net t (written_at net r.state) r.frames
        (opened_target net r.state t (Level n t) r.frames is refl h.opened)))
        (h.fits.0, unfold_at net r.state (Some (Level n t)) (drop r.place word) h.fits.0 is h.fits.1, h.fits.2)
        (λ q v at. absurd (no_level r.state t q v (Level n t) is refl (λ ts f. let no : ⊥ = cc in no) at))
    onward_by r s (Some (Action t)) is h e =
        fitting_at s t r.place (backs r.frames) (ap (λ (x : Run). x.state) e) (ap (λ (x : Run). x.place) e)
        (ap (λ (x : Run). backs x.frames) e)
        (subst (λ (x : Run). AreOpened net t x.frames) (sym e) (opened_target net r.state t (Action t) r.frames is refl h.opened))
        (h.fits.0, unfold_at net r.state (Some (Action t)) (drop r.place word) h.fits.0 is h.fits.1, h.fits.2)
        (λ q v at. absurd (no_level r.state t q v (Action t) is refl (λ ts f. let no : ⊥ = cc in no) at))
    onward_by r s (Some (Empty t)) is h e =
        fitting_at s t r.place (backs r.frames) (ap (λ (x : Run). x.state) e) (ap (λ (x : Run). x.place) e)
        (ap (λ (x : Run). backs x.frames) e)
        (subst (λ (x : Run). AreOpened net t x.frames) (sym e) (opened_target net r.state t (Empty t) r.frames is refl h.opened))
        (h.fits.0, unfold_at net r.state (Some (Empty t)) (drop r.place word) h.fits.0 is h.fits.1, h.fits.2)
        (λ q v at. absurd (no_level r.state t q v (Empty t) is refl (λ ts f. let no : ⊥ = cc in no) at))

    -- a tree, or too many open rules
    abbrev IsTreeOrDeep : Ending → Type 0
    IsTreeOrDeep e = ((tree : Tree) × (e ≡ parsed tree)) ⊎ ((at : ℕ) × (e ≡ too_deep at))

    -- where such a run stops
    stop_by : (r : Run) (o : Option (State (List ℕ))) (e : Ending) → state_at net r.state ≡ o → IsFitting r →
        StopsBy net values word limit o r e → IsTreeOrDeep e
    stop_by r None e is h g = absurd g
    stop_by r (Some (Decision targets)) e is h (k, says, was) = let c = (chosen_fits r targets (no_viable k) is h says).1 in
        absurd (let no : ⊥ = cc in no)
    stop_by r (Some (End rule)) e is h (none, added, (tree, one, was)) = inl (tree, was)
    stop_by r (Some (Edge set t)) e is h (a, next, has, was) =
        let by = unfold_at net r.state (Some (Edge set t)) (drop r.place word) h.fits.0 is h.fits.1 in
        let same = same_first (drop r.place word) by.0 (drop (r.place + 1) word) by.1.0 a by.1.1 (symbol_first word r.place a next) in
        absurd (has (subst (Contains set) same.0 by.1.2))
    stop_by r (Some (Call rule level back)) e is h (many, was) = inr (r.place, was)
    stop_by r (Some (Predicate k t)) e is h g = absurd (no_predicate r.state k t is)
    stop_by r (Some (Level q t)) e is h (above, was) = let low = h.passes q t is in absurd (omega (arith, above, low))
    stop_by r (Some (Action t)) e is h g = absurd g
    stop_by r (Some (Empty t)) e is h g = absurd g

    -- such a run ends so
    run_ends : (r : Run) (e : Ending) → IsFitting r → Runs net values word limit r e → IsTreeOrDeep e
    run_ends r e h (stops _ _ stop) = stop_by r (state_at net r.state) e refl h stop
    run_ends r e h (goes _ s _ step more) = run_ends s e (onward_by r s (state_at net r.state) refl h step) more

    -- and so does that over a word that is spelled
    pub word_ends : (e : Ending) → SpellsWord net 0 word [] → Runs net values word limit beginning e → IsTreeOrDeep e
    word_ends e h run = run_ends beginning e (record {
      opened = start;
      fits = ([], h, refl);
      passes = λ q t at. absurd
          (let call = ready.3.apart.added.call in let no : ⊥ = cc in no);
    }) run
