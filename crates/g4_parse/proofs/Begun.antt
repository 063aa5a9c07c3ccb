-- One rule of those that are open: its children are part of a word of its alternative.
use Rattle.std.proofs.Common.{◌≡◌, ◌⊎◌, inl, inr, ℕ, ◌+◌, ◌<◌, ◌≤◌, List, [], ◌∷◌, ◌++◌, length, Option, Some, None, Contains, cond, ◌==◌, refl, sym, ◌∙◌, ap, subst, append-nil, arith, slice_get}
use Rattle.std.proofs.lemmas.Option.{slice_get-get_or, slice_get_within}
use Rattle.g4_grammar.specs.declared.step.Numbering.{Numbering}
use Rattle.g4_grammar.specs.StepRules.{StepRule, CanBeRewritten}
use Rattle.g4_net.specs.declared.network.State.{State}
use Rattle.g4_net.specs.declared.network.State.TheVariants.{Decision, End, Edge, Call, Predicate, Level, Action, Empty}
use Rattle.g4_net.specs.Leads.{IsTarget}
use Rattle.g4_net.specs.Network.{ParserNetwork, state_at, start_of, written_at}
use Rattle.g4_net.specs.Proper.{IsOf}
use Rattle.g4_net.specs.Proper as proper
use Rattle.g4_layout.specs.Built.{IsBuilt}
use Rattle.g4_leftrec.specs.Rewriting.{rewritten, numberings}
use Rattle.g4_derivation.specs.Alternatives.{all_numberings, IsOuterStart, IsNoLevel}
use Rattle.g4_derivation.specs.Walks.{NoLevel, MovesBy}
use Rattle.g4_derivation.proofs.Rewritten.{starts_once, starts_several, level_begins, before_level, unbegun, never_to_outer_start}
use Rattle.g4_trees.specs.declared.tree.Item.{Item}
use Rattle.g4_trees.specs.declared.tree.Item.TheVariants as items
use Rattle.g4_trees.specs.Trees.{Forest, no_tree, only}
use Rattle.g4_tree_check.specs.TreesOf.{heads_of}
use Rattle.g4_run.specs.Running.{Frame, begun, node_of}
use Rattle.g4_parse.proofs.Parts.{TakesToken, EntersRule, IsPart, IsWord, part_on, part_whole, part_begins, part_continues}
use Rattle.g4_parse.proofs.Turns.{alt_is}

-- the alternative of a node is the number that begins, where one does
alt_of : (n i alt : ℕ) → n ≡ i → 1 ≤ i → i ≡ cond (n == 0) alt n
alt_of n i alt same some = sym same ∙ sym (alt_is n alt (λ none. omega arith))

module _ (rules : List StepRule) (net : ParserNetwork) (word : List ℕ) where
  -- the start of no rule of several alternatives
  abbrev pub IsNoOuterStart : ℕ → Type 0
  IsNoOuterStart p = IsOuterStart (all_numberings rules) p → ⊥

  -- The rule is at the state, which is one of its own, and its alternative has begun. At a level the children are a word of it.
  pub record HasBegun (p : ℕ) (f : Frame) : Type 0 where
    pub no_start : IsNoOuterStart p
    pub of_rule : IsOf net f.rule p
    pub part : IsPart rules net word f.rule f.alt (heads_of f.children) p
    pub whole : (q t : ℕ) → state_at net p ≡ Some (Level q t) → IsWord rules net word f.rule f.alt (heads_of f.children)

  -- the rule is at its start, where one of several alternatives is to be chosen
  abbrev pub IsToChoose : ℕ → Frame → Type 0
  IsToChoose p f = (f.children ≡ no_tree) × (p ≡ start_of f.rule) × IsOuterStart (all_numberings rules) (start_of f.rule)

  -- the newest open rule
  abbrev pub IsNewest : ℕ → Frame → Type 0
  IsNewest p f = HasBegun p f ⊎ IsToChoose p f

  -- whether the rule starts with several alternatives
  outer_or_not : (k : ℕ) (o : Option Numbering) → slice_get (all_numberings rules) k ≡ o
      → IsOuterStart (all_numberings rules) (start_of k) ⊎ IsNoOuterStart (start_of k)
  outer_or_not k None is = inr (λ (j, x, at, two, same). let here : j ≡ k = omega arith in let n : ⊥ = cc in n)
  outer_or_not k (Some x) is =
      let ways : (2 ≤ length x.starts) ⊎ (length x.starts < 2) = grind arith in
      elim ways [
        | inl two ↦ inl (k, x, is, two, refl)
        | inr few ↦ inr (λ (j, y, at, two, same).
            let here : j ≡ k = omega arith in
            let numbering : y ≡ x = cc in
            let many = subst (λ (z : Numbering). 2 ≤ length z.starts) numbering two in
            omega arith)
      ]

  module _ (set start : List ℕ) (can : CanBeRewritten rules) (built : IsBuilt set (rewritten rules) (numberings rules) start net) where
    -- at a rule's start that is to choose there is a decision
    choosing_decides : (p : ℕ) (f : Frame) → IsToChoose p f → (targets : List ℕ) × (state_at net p ≡ Some (Decision targets))
    choosing_decides p f (none, at, outer) =
        let d = starts_several (TakesToken word) EntersRule set rules start net can built f.rule outer in
        (d.0, ap (state_at net) at ∙ d.1)

    -- at any state but a decision the alternative has begun
    pub has_begun : (p : ℕ) (f : Frame) (s : State (List ℕ)) → state_at net p ≡ Some s
        → ((targets : List ℕ) → s ≡ Decision targets → ⊥) → IsNewest p f → HasBegun p f
    has_begun p f s is other (inl h) = h
    has_begun p f s is other (inr h) = absurd (let d = choosing_decides p f h in let at = d.1 in other d.0 cc)

    -- a step of a rule that has begun
    pub begun_on : (p t : ℕ) (f : Frame) (u : List Item) (children : Forest) (s : State (List ℕ)) → state_at net p ≡ Some s
        → IsTarget s t → MovesBy (TakesToken word) EntersRule NoLevel (Some s) t u → heads_of children ≡ heads_of f.children ++ u →
        HasBegun p f → HasBegun t (record f { children = children })
    begun_on p t f u children s is target moves heads h = record {
      no_start = never_to_outer_start (TakesToken word) EntersRule set rules start net can built p t s is target;
      of_rule = proper.further p t s h.of_rule is target;
      part = subst (λ (w : List Item). IsPart rules net word f.rule f.alt w t) (sym heads)
          (part_on rules net word f.rule f.alt p t (heads_of f.children) u (Some s) is moves h.part);
      whole = whole;
    }
      where
        read : (targets : List ℕ) → s ≡ Decision targets → u ≡ []
        read targets same = (subst (λ (x : State (List ℕ)). MovesBy (TakesToken word) EntersRule NoLevel (Some x) t u) same moves).1

        whole : (q v : ℕ) → state_at net t ≡ Some (Level q v) → IsWord rules net word f.rule f.alt (heads_of children)
        whole q v level =
            let before = before_level (TakesToken word) EntersRule set rules start net can built p t q v s is target level in
            let same : heads_of children ≡ heads_of f.children =
            heads ∙ (ap (λ (w : List Item). heads_of f.children ++ w) (read before.0.0 before.0.1)
            ∙ append-nil (heads_of f.children)) in
            let end = before.1 in
            subst (IsWord rules net word f.rule f.alt) (sym same)
            (part_whole rules net word f.rule f.alt p end.0 end.1 (heads_of f.children) end.2 end.3 h.part)

    -- a step that reads nothing
    pub begun_silently : (p t : ℕ) (f : Frame) (s : State (List ℕ)) → state_at net p ≡ Some s → IsTarget s t
        → MovesBy (TakesToken word) EntersRule NoLevel (Some s) t [] → HasBegun p f → HasBegun t f
    begun_silently p t f s is target moves h = begun_on p t f [] f.children s is target moves (sym (append-nil (heads_of f.children))) h

    -- the number of an alternative that begins at a state that is no level is the written one
    begun_by : (t : ℕ) (o : Option (State (List ℕ))) → state_at net t ≡ o → t < length net.states → IsNoLevel net t
        → begun net t o ≡ written_at net t
    begun_by t None is within other = absurd (let at = slice_get-get_or net.states t (Empty 0) within in let k : ⊥ = cc in k)
    begun_by t (Some (Decision targets)) is within other = refl
    begun_by t (Some (End rule)) is within other = refl
    begun_by t (Some (Edge taken u)) is within other = refl
    begun_by t (Some (Call rule level back)) is within other = refl
    begun_by t (Some (Predicate k u)) is within other = refl
    begun_by t (Some (Level q u)) is within other = absurd (other q u is)
    begun_by t (Some (Action u)) is within other = refl
    begun_by t (Some (Empty u)) is within other = refl

    -- where none is written, and at a level, none begins
    none_begun : (t : ℕ) (o : Option (State (List ℕ))) → (written_at net t ≡ 0) ⊎ ((q u : ℕ) × (o ≡ Some (Level q u))) → begun net t o ≡ 0
    none_begun t o (inr (q, u, is)) = ap (begun net t) is
    none_begun t None (inl z) = refl
    none_begun t (Some (Decision targets)) (inl z) = z
    none_begun t (Some (End rule)) (inl z) = z
    none_begun t (Some (Edge taken u)) (inl z) = z
    none_begun t (Some (Call rule level back)) (inl z) = z
    none_begun t (Some (Predicate k u)) (inl z) = z
    none_begun t (Some (Level q u)) (inl z) = refl
    none_begun t (Some (Action u)) (inl z) = z
    none_begun t (Some (Empty u)) (inl z) = z

    -- the alternative that prediction chooses begins
    pub chosen_begins : (p t : ℕ) (targets : List ℕ) (f : Frame) → state_at net p ≡ Some (Decision targets) → Contains targets t
        → IsToChoose p f →
        HasBegun t (record f { alt = cond (begun net t (state_at net t) == 0) f.alt (begun net t (state_at net t)) })
    chosen_begins p t targets f is target (none, at, outer) =
        let d = starts_several (TakesToken word) EntersRule set rules start net can built f.rule outer in
        let decides : state_at net p ≡ Some (Decision d.0) = ap (state_at net) at ∙ d.1 in
        let same : targets ≡ d.0 = cc in
        let begins = d.3 t (subst (λ (xs : List ℕ). Contains xs t) same target) in
        let i : ℕ = begins.0 in
        let is_i : begun net t (state_at net t) ≡ i =
        begun_by t (state_at net t) refl (built.runnable.well_formed.targets p t (Decision targets) is target) begins.6 ∙ begins.4 in
        let alt : i ≡ cond (begun net t (state_at net t) == 0) f.alt (begun net t (state_at net t)) =
        alt_of (begun net t (state_at net t)) i f.alt is_i begins.2 in
        let no_head : [] ≡ heads_of f.children = ap heads_of (sym none) in
        let part : IsPart rules net word f.rule i (heads_of f.children) t =
        subst (λ (w : List Item). IsPart rules net word f.rule i w t) no_head
        (part_begins rules net word f.rule i t begins.1 begins.3 begins.5) in
        record {
          no_start = never_to_outer_start (TakesToken word) EntersRule set rules start net can built p t (Decision targets) is target;
          of_rule = proper.further p t (Decision targets) (subst (IsOf net f.rule) (sym at) proper.start) is target;
          part = subst (λ (j : ℕ). IsPart rules net word f.rule j (heads_of f.children) t) alt part;
          whole = λ q v level. absurd (begins.6 q v level);
        }

    -- any other decision is inside an alternative
    pub decides_inside : (p t : ℕ) (targets : List ℕ) (f : Frame) → state_at net p ≡ Some (Decision targets) → Contains targets t
        → HasBegun p f →
        HasBegun t (record f { alt = cond (begun net t (state_at net t) == 0) f.alt (begun net t (state_at net t)) })
    decides_inside p t targets f is target h =
        let none : begun net t (state_at net t) ≡ 0 =
        none_begun t (state_at net t) (unbegun (TakesToken word) EntersRule set rules start net can built p t targets is
        h.no_start target) in
        let after = begun_silently p t f (Decision targets) is target (target, refl) h in
        rw none after

    -- how a called rule begins
    pub called_begins : (callee level back at j : ℕ) (r : StepRule) → callee ≡ j + 1 → slice_get rules j ≡ Some r
        → IsNewest (start_of callee) (record {
          back = back;
          level = level;
          rule = callee;
          alt = written_at net (start_of callee);
          at = at;
          children = no_tree;
        })
    called_begins callee level back at j r number is = elim (outer_or_not callee (slice_get (all_numberings rules) callee) refl) [
      | inl outer ↦ inr (refl, refl, outer)
      | inr apart ↦ inl (
          let b = starts_once (TakesToken word) EntersRule set rules start net can built callee j r number is apart in
          record {
            no_start = apart;
            of_rule = proper.start;
            part = subst (λ (i : ℕ). IsPart rules net word callee i [] (start_of callee)) (sym b.3)
                (part_begins rules net word callee b.0 (start_of callee) b.1 b.2 b.4);
            whole = λ q t level. absurd (b.5 q t level);
          })
    ]

    -- the new node at a level has the node so far, whose children are a word, as its first child
    pub wrapped_begins : (p q t : ℕ) (f : Frame) → state_at net p ≡ Some (Level q t) → HasBegun p f
        → HasBegun t (record f { alt = written_at net p; children = only (node_of f) })
    wrapped_begins p q t f is h =
        let body = (h.whole q t is).1 in
        let found = slice_get_within rules body.0 body.2 body.5 in
        let from : 1 ≤ f.rule = omega (arith, body.3) in
        let upto : f.rule ≤ length rules = omega (arith, body.3, found) in
        let b = level_begins (TakesToken word) EntersRule set rules start net can built f.rule p q t from upto h.of_rule is in
        record {
          no_start = never_to_outer_start (TakesToken word) EntersRule set rules start net can built p t (Level q t) is refl;
          of_rule = proper.further p t (Level q t) h.of_rule is refl;
          part = subst (λ (i : ℕ). IsPart rules net word f.rule i (items.Enter f.rule f.alt f.at ∷ []) t) (sym b.5)
              (part_continues rules net word f.rule b.0 b.1 t f.alt f.at b.2 b.4 b.6);
          whole = λ n v level. absurd (b.7 n v level);
        }
