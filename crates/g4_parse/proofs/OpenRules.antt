-- The open rules of a run over a network of rules: the children of each are part of a word of its alternative.
use Rattle.std.proofs.Common.{◌≡◌, inl, inr, ℕ, ◌+◌, ◌-◌, List, [], ◌∷◌, ◌++◌, length, Some, Contains, refl, sym, ◌∙◌, ap, subst, arith, slice_get}
use Rattle.std.proofs.lemmas.Option.{slice_get_cases}
use Rattle.std.proofs.lemmas.List.{length-map}
use Rattle.std.proofs.lemmas.List.FromFn.{length-map-range_with_len, length-enumerate_from}
use Rattle.std.specs.List.{enumerate_from}
use Rattle.g4_grammar.specs.StepRules.{StepRule, CanBeRewritten}
use Rattle.g4_net.specs.declared.network.State.{State}
use Rattle.g4_net.specs.declared.network.State.TheVariants.{Decision, End, Edge, Call, Level}
use Rattle.g4_net.specs.Leads.{IsTarget}
use Rattle.g4_net.specs.Network.{ParserNetwork, state_at, start_of, written_at, IsFirst}
use Rattle.g4_net.specs.Proper.{IsOf}
use Rattle.g4_net.specs.Proper as proper
use Rattle.g4_layout.specs.Built.{IsBuilt}
use Rattle.g4_layout.specs.Callers.{returns_of}
use Rattle.g4_leftrec.specs.Rewriting.{rewritten, numberings, formed}
use Rattle.g4_lookahead.proofs.Apart.{split, calls_outside}
use Rattle.g4_derivation.specs.Alternatives.{IsNoLevel}
use Rattle.g4_derivation.specs.Walks.{NoLevel, MovesBy}
use Rattle.g4_derivation.proofs.Rewritten.{before_level, never_to_outer_start}
use Rattle.g4_trees.specs.declared.tree.Item.{Item}
use Rattle.g4_trees.specs.declared.tree.Item.TheVariants as items
use Rattle.g4_trees.specs.Trees.{leaf, no_tree, and_then, only}
use Rattle.g4_tree_check.specs.TreesOf.{heads_of, AllConform, Conforms}
use Rattle.g4_run.proofs.Moments.{first_in}
use Rattle.g4_run.specs.Running.{Frame, Run, begun, with_alt, with_token, with_child, wrapped, node_of}
use Rattle.g4_parse.proofs.Begun.{IsNoOuterStart, IsNewest, has_begun, begun_on, begun_silently, chosen_begins, decides_inside, called_begins, wrapped_begins}
use Rattle.g4_parse.proofs.Forests.{heads_and_then, fit_and_then}
use Rattle.g4_parse.proofs.Parts.{TakesToken, EntersRule, IsPart, part_on, part_ends}

module _ (rules : List StepRule) (net : ParserNetwork) (word : List ℕ) where
  -- an open rule that has called a rule and goes on at this return state
  pub record Awaits (callee back : ℕ) (f : Frame) : Type 0 where
    pub no_start : IsNoOuterStart rules net word back
    pub of_rule : IsOf net f.rule back
    pub no_level : IsNoLevel net back
    pub part : (alt at : ℕ) → IsPart rules net word f.rule f.alt (heads_of f.children ++ items.Enter callee alt at ∷ []) back

  -- the open rules that wait for this rule, newest first
  abbrev AreWaiting : ℕ → ℕ → List Frame → Type 0
  AreWaiting callee back [] = Unit {0}
  AreWaiting callee back (f ∷ fs) = Awaits callee back f × AllConform rules word f.children × AreWaiting f.rule f.back fs

  -- all open rules, newest first
  abbrev pub AreOpen : ℕ → List Frame → Type 0
  AreOpen p [] = Unit {0}
  AreOpen p (f ∷ fs) = IsNewest rules net word p f × AllConform rules word f.children × AreWaiting f.rule f.back fs

  module _ (set start : List ℕ) (can : CanBeRewritten rules) (built : IsBuilt set (rewritten rules) (numberings rules) start net) where
    -- as many rules are laid
    as_many : length (rewritten rules) ≡ length rules
    as_many = length-map (enumerate_from 1 rules) formed ∙ length-enumerate_from 1 rules

    -- a rule that is called is one of the rules
    called_rule : (p callee level back : ℕ) → state_at net p ≡ Some (Call callee level back)
        → (j : ℕ) × (r : StepRule) × (callee ≡ j + 1) × (slice_get rules j ≡ Some r)
    called_rule p callee level back is =
        let apart = built.runnable.apart in
        let outside = calls_outside net _ _ p callee level back apart (split _ p apart.loop_from) is in
        let below = built.runnable.well_formed.calls p callee level back is in
        let count : length net.callers ≡ length (rewritten rules) + 1 =
        ap length built.callers ∙ length-map-range_with_len (returns_of net.states) 0 (length (rewritten rules) + 1) in
        let number : callee ≡ callee - 1 + 1 = omega (arith, outside.0) in
        elim (slice_get_cases rules (callee - 1)).1 [
          | inl found ↦ (callee - 1, found.0, number, found.2)
          | inr past ↦ absurd (omega (arith, past.0, outside.0, as_many))
        ]

    -- a decision
    pub open_decided : (p i t : ℕ) (targets : List ℕ) (fs : List Frame) → state_at net p ≡ Some (Decision targets) → IsFirst net p i t
        → AreOpen p fs → AreOpen t (with_alt (begun net t (state_at net t)) fs)
    open_decided p i t targets [] is first h = tt
    open_decided p i t targets (f ∷ fs) is first (inl begun_here, fit, waiting) = (
      inl (decides_inside rules net word set start can built p t targets f is (first_in net p i t targets is first) begun_here),
      fit,
      waiting,
    )
    open_decided p i t targets (f ∷ fs) is first (inr choice, fit, waiting) =
        (inl (chosen_begins rules net word set start can built p t targets f is (first_in net p i t targets is first) choice), fit, waiting)

    -- a step that reads nothing
    pub open_silently : (p t : ℕ) (s : State (List ℕ)) (fs : List Frame) → state_at net p ≡ Some s
        → ((targets : List ℕ) → s ≡ Decision targets → ⊥) → IsTarget s t → MovesBy (TakesToken word) EntersRule NoLevel (Some s) t []
        → AreOpen p fs → AreOpen t fs
    open_silently p t s [] is other target moves h = tt
    open_silently p t s (f ∷ fs) is other target moves (newest, fit, waiting) = (
      inl (begun_silently rules net word set start can built p t f s is target moves
          (has_begun rules net word set start can built p f s is other newest)),
      fit,
      waiting,
    )

    -- a token
    pub open_token : (r : Run) (t a : ℕ) (taken : List ℕ) (fs : List Frame) → r.frames ≡ fs
        → state_at net r.state ≡ Some (Edge taken t) → slice_get word r.place ≡ Some a → Contains taken a → AreOpen r.state fs
        → AreOpen t (with_token r fs).frames
    open_token r t a taken [] same is next has h = subst (AreOpen t) (sym same) tt
    open_token r t a taken (f ∷ fs) same is next has (newest, fit, waiting) = (
      inl (begun_on rules net word set start can built r.state t f (items.Token r.place ∷ [])
          (and_then f.children (only (leaf r.place))) (Edge taken t) is refl (refl, (items.Token r.place, (a, next, has), refl))
          (heads_and_then f.children (only (leaf r.place)))
          (has_begun rules net word set start can built r.state f (Edge taken t) is (λ targets e. cc) newest)),
      fit_and_then rules word f.children (only (leaf r.place)) fit (tt, tt),
      waiting,
    )

    -- a call
    pub open_call : (p callee level back at : ℕ) (fs : List Frame) → state_at net p ≡ Some (Call callee level back) → AreOpen p fs →
        AreOpen (start_of callee) (record {
          back = back;
          level = level;
          rule = callee;
          alt = written_at net (start_of callee);
          at = at;
          children = no_tree;
        } ∷ fs)
    open_call p callee level back at fs is h =
        let c = called_rule p callee level back is in
        (called_begins rules net word set start can built callee level back at c.0 c.1 c.2 c.3, tt, all_wait fs h)
      where
        s : State (List ℕ)
        s = Call callee level back

        no_level : IsNoLevel net back
        no_level q t level_at = let before = before_level (TakesToken word) EntersRule set rules start net can built p back q t
            (Call callee level back) is refl level_at in let same = before.0.1 in let n : ⊥ = cc in n

        all_wait : (fs : List Frame) → AreOpen p fs → AreWaiting callee back fs
        all_wait [] h = tt
        all_wait (f ∷ fs) (newest, fit, waiting) =
            let here = has_begun rules net word set start can built p f (Call callee level back) is (λ targets e. cc) newest in (
              record {
                no_start = never_to_outer_start (TakesToken word) EntersRule set rules start net can built p back
                    (Call callee level back) is refl;
                of_rule = proper.further p back (Call callee level back) here.of_rule is refl;
                no_level = no_level;
                part = λ alt begun_at. part_on rules net word f.rule f.alt p back (heads_of f.children)
                    (items.Enter callee alt begun_at ∷ []) (Some (Call callee level back)) is
                    (refl, (items.Enter callee alt begun_at, refl, refl)) here.part;
              },
              fit,
              waiting,
            )

    -- the node of a rule at its end fits
    pub node_fits : (p ended : ℕ) (f : Frame) (fs : List Frame) → state_at net p ≡ Some (End ended) → AreOpen p (f ∷ fs)
        → Conforms rules word (node_of f)
    node_fits p ended f fs is (newest, fit, waiting) = (
      part_ends rules net word f.rule f.alt p ended (heads_of f.children) is
          (has_begun rules net word set start can built p f (End ended) is (λ targets e. cc) newest).part,
      fit,
    )

    -- closing a rule
    pub open_closed : (r : Run) (ended : ℕ) (f : Frame) (fs : List Frame) → state_at net r.state ≡ Some (End ended)
        → AreOpen r.state (f ∷ fs) → AreOpen f.back (with_child (record r { state = f.back; frames = fs }) fs (node_of f)).frames
    open_closed r ended f [] is h = tt
    open_closed r ended f (g ∷ gs) is h =
        let w = h.2.0 in (
          inl (record {
            no_start = w.no_start;
            of_rule = w.of_rule;
            part = subst (λ (v : List Item). IsPart rules net word g.rule g.alt v f.back)
                (sym (heads_and_then g.children (only (node_of f)))) (w.part f.alt f.at);
            whole = λ q t level. absurd (w.no_level q t level);
          }),
          fit_and_then rules word g.children (only (node_of f)) h.2.1 (node_fits r.state ended f (g ∷ gs) is h, tt),
          h.2.2,
        )

    -- passing a level
    pub open_wrapped : (p q t : ℕ) (fs : List Frame) → state_at net p ≡ Some (Level q t) → AreOpen p fs
        → AreOpen t (wrapped (written_at net p) fs)
    open_wrapped p q t [] is h = tt
    open_wrapped p q t (f ∷ fs) is (newest, fit, waiting) =
        let here = has_begun rules net word set start can built p f (Level q t) is (λ targets e. cc) newest in
        (inl (wrapped_begins rules net word set start can built p q t f is here), ((here.whole q t is, fit), tt), waiting)
