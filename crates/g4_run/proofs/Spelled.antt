-- What a run that ends with its tree has read is spelled from where it began.
use Rattle.std.proofs.Common.{◌≡◌, ℕ, ◌+◌, List, [], ◌∷◌, drop, Option, Some, None, refl, sym, ◌∙◌, ap, subst}
use Rattle.g4_fits.specs.Fitting.{SpellsEach}
use Rattle.g4_net.specs.Spelling.{PassesBy, SpellsWord, ends, takes, calls, passes}
use Rattle.g4_net.specs.AddedRule.{IsReady}
use Rattle.g4_net.specs.Network.{ParserNetwork, state_at, start_of, written_at}
use Rattle.g4_net.specs.declared.network.State.{State}
use Rattle.g4_net.specs.declared.network.State.TheVariants.{Decision, End, Edge, Call, Predicate, Level, Action, Empty}
use Rattle.g4_run.specs.Running.{Frame, Run, backs, Ending, Values, parsed, beginning, begun, node_of, ClosesBy, GoesBy, StopsBy, Runs, stops, goes}
use Rattle.g4_run.proofs.Moments.{first_in, backs_alt, backs_child, backs_token, backs_wrapped, place_child, state_child, symbol_first}
use Rattle.g4_run.proofs.LastSymbol.{last_symbol, nothing_left}
use Rattle.g4_tokens.specs.TokenList.{EndsInEnd}
use Rattle.g4_trees.specs.Trees.{Tree}

module _ (net : ParserNetwork) (values : Values) (word : List ℕ) where
  -- the state and the return states of this moment spell what is left of the word before z
  abbrev pub SpellsOn : Run → List ℕ → Type 0
  SpellsOn r z = SpellsEach net (r.state ∷ backs r.frames) (drop r.place word) z

  -- the same of a moment with this state, place and return states
  placed : (s : Run) (t place : ℕ) (returns z : List ℕ) → s.state ≡ t → s.place ≡ place → backs s.frames ≡ returns → SpellsOn s z →
      SpellsEach net (t ∷ returns) (drop place word) z
  placed s t place returns z a b c h =
      subst (λ (ps : List ℕ). SpellsEach net (t ∷ ps) (drop place word) z) c
      (subst (λ (n : ℕ). SpellsEach net (t ∷ backs s.frames) (drop n word) z) b
      (subst (λ (p : ℕ). SpellsEach net (p ∷ backs s.frames) (drop s.place word) z) a h))

  -- an edge that passes
  pub back_passed : (r s : Run) (o : Option (State (List ℕ))) (t : ℕ) (z : List ℕ) → state_at net r.state ≡ o → PassesBy o t → s.state ≡ t →
      s.place ≡ r.place → backs s.frames ≡ backs r.frames → SpellsOn s z → SpellsOn r z
  back_passed r s o t z is m a b c h =
      let g = placed s t r.place (backs r.frames) z a b c h in
      (g.0, passes r.state t (drop r.place word) g.0 (subst (λ (x : Option (State (List ℕ))). PassesBy x t) (sym is) m) g.1, g.2)

  -- closing a rule
  back_closed : (r s : Run) (rule : ℕ) (fs : List Frame) (z : List ℕ) → state_at net r.state ≡ Some (End rule) → r.frames ≡ fs →
      ClosesBy net values word r fs s → SpellsOn s z → SpellsOn r z
  back_closed r s rule [] z is e g h = absurd g
  back_closed r s rule (f ∷ fs) z is e g h =
      let after : Run = record { state = f.back; place = r.place; frames = fs; tree = r.tree } in
      let on = placed s f.back r.place (backs fs) z (ap (λ (x : Run). x.state) g ∙ state_child after fs (node_of f))
      (ap (λ (x : Run). x.place) g ∙ place_child after fs (node_of f))
      (ap (λ (x : Run). backs x.frames) g ∙ backs_child after fs (node_of f)) h in
      subst (λ (gs : List Frame). SpellsEach net (r.state ∷ backs gs) (drop r.place word) z) (sym e)
      (drop r.place word, ends r.state rule (drop r.place word) is, on)

  module _ (limit : ℕ) where
    -- what is spelled after a step is spelled before it, with the symbol that it took
    pub back_by : (r s : Run) (o : Option (State (List ℕ))) (z : List ℕ) → state_at net r.state ≡ o → GoesBy net values word limit o r s →
        SpellsOn s z → SpellsOn r z
    back_by r s None z is g h = absurd g
    back_by r s (Some (Decision targets)) z is (i, t, says, first, e) h =
        back_passed r s (Some (Decision targets)) t z is (first_in net r.state i t targets is first) (ap (λ (x : Run). x.state) e)
        (ap (λ (x : Run). x.place) e) (ap (λ (x : Run). backs x.frames) e ∙ backs_alt (begun net t (state_at net t)) r.frames) h
    back_by r s (Some (End rule)) z is g h = back_closed r s rule r.frames z is refl g h
    back_by r s (Some (Edge set t)) z is (a, next, has, e) h =
        let on = placed s t (r.place + 1) (backs r.frames) z (ap (λ (x : Run). x.state) e) (ap (λ (x : Run). x.place) e)
        (ap (λ (x : Run). backs x.frames) e ∙ backs_token r r.frames refl) h in (
          on.0,
          takes r.state t set (drop r.place word) (drop (r.place + 1) word) on.0 is (a, symbol_first word r.place a next, has) on.1,
          on.2,
        )
    back_by r s (Some (Call rule level back)) z is (room, e) h =
        let on = placed s (start_of rule) r.place (back ∷ backs r.frames) z (ap (λ (x : Run). x.state) e) (ap (λ (x : Run). x.place) e)
        (ap (λ (x : Run). backs x.frames) e) h in
        (on.2.0, calls r.state rule level back (drop r.place word) on.0 on.2.0 is on.1 on.2.1, on.2.2)
    back_by r s (Some (Predicate k t)) z is (holds, e) h = back_passed r s (Some (Predicate k t)) t z is refl
        (ap (λ (x : Run). x.state) e) (ap (λ (x : Run). x.place) e) (ap (λ (x : Run). backs x.frames) e) h
    back_by r s (Some (Level q t)) z is (below, e) h = back_passed r s (Some (Level q t)) t z is refl (ap (λ (x : Run). x.state) e)
        (ap (λ (x : Run). x.place) e) (ap (λ (x : Run). backs x.frames) e ∙ backs_wrapped (written_at net r.state) r.frames) h
    back_by r s (Some (Action t)) z is e h = back_passed r s (Some (Action t)) t z is refl (ap (λ (x : Run). x.state) e)
        (ap (λ (x : Run). x.place) e) (ap (λ (x : Run). backs x.frames) e) h
    back_by r s (Some (Empty t)) z is e h = back_passed r s (Some (Empty t)) t z is refl (ap (λ (x : Run). x.state) e)
        (ap (λ (x : Run). x.place) e) (ap (λ (x : Run). backs x.frames) e) h

    -- where a run ends with its tree, nothing more is spelled
    stopped : (r : Run) (o : Option (State (List ℕ))) (tree : Tree) → state_at net r.state ≡ o →
        StopsBy net values word limit o r (parsed tree) → (z : List ℕ) × SpellsOn r z
    stopped r None tree is h = absurd h
    stopped r (Some (Decision targets)) tree is (k, says, e) = absurd (let no : ⊥ = cc in no)
    stopped r (Some (End rule)) tree is (none, added, one) = (
      drop r.place word,
      subst (λ (fs : List Frame). SpellsEach net (r.state ∷ backs fs) (drop r.place word) (drop r.place word))
          (sym none) (drop r.place word, ends r.state rule (drop r.place word) is, refl),
    )
    stopped r (Some (Edge set t)) tree is (a, next, has, e) = absurd (let no : ⊥ = cc in no)
    stopped r (Some (Call rule level back)) tree is (deep, e) = absurd (let no : ⊥ = cc in no)
    stopped r (Some (Predicate k t)) tree is (fails, e) = absurd (let no : ⊥ = cc in no)
    stopped r (Some (Level q t)) tree is (above, e) = absurd (let no : ⊥ = cc in no)
    stopped r (Some (Action t)) tree is h = absurd h
    stopped r (Some (Empty t)) tree is h = absurd h

    -- what a run to its tree reads is spelled
    pub run_spells : (r : Run) (e : Ending) (tree : Tree) → Runs net values word limit r e → e ≡ parsed tree → (z : List ℕ) × SpellsOn r z
    run_spells r e tree (stops _ _ stop) is = stopped r (state_at net r.state) tree refl
        (subst (λ (x : Ending). StopsBy net values word limit (state_at net r.state) r x) is stop)
    run_spells r e tree (goes _ s _ step more) is = let rest = run_spells s e tree more is in
        (rest.0, back_by r s (state_at net r.state) rest.0 refl step rest.1)

    -- and it is the whole word
    pub tree_is_spelled : (tree : Tree) → IsReady net → EndsInEnd word → Runs net values word limit beginning (parsed tree) →
        SpellsWord net 0 word []
    tree_is_spelled tree (rule, loop, set, runnable) once run =
        let r = run_spells beginning (parsed tree) tree run refl in
        let whole : SpellsWord net 0 word r.0 = subst (λ (x : List ℕ). SpellsWord net 0 word x) r.1.2 r.1.1 in
        subst (λ (x : List ℕ). SpellsWord net 0 word x) (nothing_left word r.0 once
        (last_symbol net rule loop runnable.apart word r.0 whole)) whole
