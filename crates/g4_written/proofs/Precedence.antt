-- A run keeps precedence: the level at which an operand is called bounds the operators that go on from it, one after another.
use Rattle.std.proofs.Common.{◌≡◌, ◌≤◌, ◌⊎◌, inl, inr, ℕ, ◌+◌, List, [], ◌∷◌, Bool, false, cond, ◌==◌, Option, Some, None, refl, sym, ◌∙◌, ap, subst, arith, Contains}
use Rattle.std.proofs.lemmas.Bool.Decides.{nat_tests}
use Rattle.g4_grammar.specs.StepRules.{CanBeRewritten, StepRule}
use Rattle.g4_layout.specs.Built.{IsBuilt}
use Rattle.g4_leftrec.specs.Rewriting.{numberings, rewritten}
use Rattle.g4_net.specs.Leads.{IsTarget}
use Rattle.g4_net.specs.Loops.{IsSilentBy, LeadsSilently, there, onward}
use Rattle.g4_net.specs.Network.{ParserNetwork, IsFirst, state_at, start_of, end_of, written_at}
use Rattle.g4_net.specs.Proper.{IsOf, start, further}
use Rattle.g4_net.specs.declared.network.State.{State}
use Rattle.g4_net.specs.declared.network.State.TheVariants.{Decision, End, Edge, Call, Predicate, Level, Action, Empty}
use Rattle.g4_run.specs.Running.{Frame, Run, Ending, Ends, Values, parsed, beginning, begun, deepest, level_of, node_of, with_alt, with_child, with_token, wrapped, ClosesBy, GoesBy, StopsBy, Runs, stops, goes}
use Rattle.g4_run.proofs.Moments.{first_in, state_child}
use Rattle.g4_trees.specs.Trees.{Tree, leaf, node, Forest, no_tree, a_tree, and_then, only}
use Rattle.g4_written.specs.Precedence.{AllKeepPrecedence, HasOperand, of_operator, of_prefix, HasOperatorsFrom, a_primary, an_operator, IsFirstTree, IsLastTree, KeepsPrecedence}
use Rattle.g4_written.proofs.Beginning.{BeginsPrimary, IsChosen, unnumbered, level_there, primary_there, LeftRecursive, chosen, level_begins, recursive_or_not, rule_starts}
use Rattle.g4_written.proofs.Operands.{IsTurning, Owes, owes_no_end, owes_no_level, owes_on}

-- a state with an edge that reads nothing, calls nothing and is no level's
abbrev IsQuiet : State (List ℕ) → Type 0
IsQuiet (Decision targets) = Unit {0}
IsQuiet (End rule) = ⊥
IsQuiet (Edge set t) = ⊥
IsQuiet (Call rule level back) = ⊥
IsQuiet (Predicate k t) = Unit {0}
IsQuiet (Level q t) = ⊥
IsQuiet (Action t) = Unit {0}
IsQuiet (Empty t) = Unit {0}

-- a level
abbrev IsLevel : State (List ℕ) → Type 0
IsLevel (Decision targets) = ⊥
IsLevel (End rule) = ⊥
IsLevel (Edge set t) = ⊥
IsLevel (Call rule level back) = ⊥
IsLevel (Predicate k t) = ⊥
IsLevel (Level q t) = Unit {0}
IsLevel (Action t) = ⊥
IsLevel (Empty t) = ⊥

-- one tree more at the end
last_added : (ts : Forest) (t u : Tree) → IsLastTree (and_then ts (only t)) u → u ≡ t
last_added no_tree t u h = h
last_added (a_tree v no_tree) t u h = h
last_added (a_tree v (a_tree w more)) t u h = last_added (a_tree w more) t u h

-- keeps the first
first_kept : (ts : Forest) (t u : Tree) → IsFirstTree ts u → IsFirstTree (and_then ts (only t)) u
first_kept no_tree t u h = absurd h
first_kept (a_tree v more) t u h = h

module _ (rules : List StepRule) where
  -- one more tree that keeps precedence
  all_added : (ts : Forest) (t : Tree) → AllKeepPrecedence rules ts → KeepsPrecedence rules t
      → AllKeepPrecedence rules (and_then ts (only t))
  all_added no_tree t all h = (h, tt)
  all_added (a_tree u ts) t all h = (all.0, all_added ts t all.1 h)

  -- one more child of a node at the end changes none of its operators
  operators_added : {k q j i at : ℕ} {children : Forest} (t : Tree) → HasOperatorsFrom rules k q (node j i at children)
      → HasOperatorsFrom rules k q (node j i at (and_then children (only t)))
  operators_added t (a_primary i at children none) = a_primary i at (and_then children (only t)) none
  operators_added t (an_operator i at p children left operator low first more) =
      an_operator i at p (and_then children (only t)) left operator low (first_kept children t left first) more

  -- an alternative with an operand is one of a left-recursive rule
  left_of : {k i q : ℕ} → HasOperand rules k i q → LeftRecursive rules k
  left_of (of_operator n a rest last h begins ends) = (h.rule, h.rule_is)
  left_of (of_prefix n a last h begins ends) = (h.rule, h.rule_is)

  module _ (set name : List ℕ) (net : ParserNetwork) (can : CanBeRewritten rules)
      (built : IsBuilt set (rewritten rules) (numberings rules) name net) where
    -- an alternative of rule k is over at the state: from there edges that read nothing lead to the next operator or to the rule's end
    data IsOver (k p : ℕ) : Type 0 where
      before_turns : (u : ℕ) → IsTurning net k u → LeadsSilently net p u → IsOver k p
      at_level : (q v : ℕ) → state_at net p ≡ Some (Level q v) → IsOver k p
      leaving : (e rule : ℕ) → state_at net p ≡ Some (Empty e) → state_at net e ≡ Some (End rule) → IsOver k p
      at_end : (rule : ℕ) → state_at net p ≡ Some (End rule) → IsOver k p

    -- the edge of the decision of the turns
    turned : {k u p t : ℕ} {s : State (List ℕ)} → IsTurning net k u → p ≡ u → state_at net p ≡ Some s → IsTarget s t
        → IsQuiet s × IsOver k t
    turned {k} {u} {p} {t} {s} turns at is to =
        let here : state_at net p ≡ Some (Decision turns.targets) =
        subst (λ (x : ℕ). state_at net x ≡ Some (Decision turns.targets)) (sym at) turns.decides in
        let same : s ≡ Decision turns.targets = cc in
        let target : Contains turns.targets t = subst (λ (x : State (List ℕ)). IsTarget x t) same to in
        let exits : t ≡ turns.exit → state_at net t ≡ Some (Empty (end_of k)) =
        λ e. subst (λ (x : ℕ). state_at net x ≡ Some (Empty (end_of k))) (sym e) turns.leaves in (
          subst IsQuiet (sym same) tt,
          elim (turns.ways t target) [
            | inl exit ↦ leaving (end_of k) k (exits exit) turns.end
            | inr level ↦ at_level level.0 level.1 level.2
          ],
        )

    -- an edge that reads nothing, on the way to the turns
    silent : {k u v t : ℕ} (s : State (List ℕ)) → IsTurning net k u → IsSilentBy (Some s) v → LeadsSilently net v u → IsTarget s t
        → IsQuiet s × IsOver k t
    silent {k} {u} (Predicate n w) turns m more to =
        (tt, before_turns u turns (subst (λ (x : ℕ). LeadsSilently net x u) (m ∙ sym to) more))
    silent {k} {u} (Action w) turns m more to = (tt, before_turns u turns (subst (λ (x : ℕ). LeadsSilently net x u) (m ∙ sym to) more))
    silent {k} {u} (Empty w) turns m more to = (tt, before_turns u turns (subst (λ (x : ℕ). LeadsSilently net x u) (m ∙ sym to) more))
    silent (Decision targets) turns m more to = absurd m
    silent (End rule) turns m more to = absurd m
    silent (Edge label w) turns m more to = absurd m
    silent (Call rule level back) turns m more to = absurd m
    silent (Level q w) turns m more to = absurd m

    -- the edge of a state where an alternative is over: a level's, or one that keeps this and reads nothing
    over_on : {k p t : ℕ} (s : State (List ℕ)) → IsOver k p → state_at net p ≡ Some s → IsTarget s t → IsLevel s ⊎ (IsQuiet s × IsOver k t)
    over_on s (before_turns u turns (there _)) is to = inr (turned turns refl is to)
    over_on s (before_turns u turns (onward _ v _ m more)) is to =
        inr (silent s turns (subst (λ (o : Option (State (List ℕ))). IsSilentBy o v) is m) more to)
    over_on s (at_level q v level) is to = let same : Level q v ≡ s = cc in inl (subst IsLevel same tt)
    over_on {t = t} s (leaving e rule empty end) is to =
        let same : s ≡ Empty e = cc in
        let target : t ≡ e = subst (λ (x : State (List ℕ)). IsTarget x t) same to in
        inr (subst IsQuiet (sym same) tt, at_end rule (subst (λ (x : ℕ). state_at net x ≡ Some (End rule)) (sym target) end))
    over_on {t = t} s (at_end rule end) is to =
        let same : s ≡ End rule = cc in absurd (subst (λ (x : State (List ℕ)). IsTarget x t) same to)

    -- What holds of an open rule that is left-recursive, at a state: the operators of its node so far are those that its level lets in,
    -- and the right operand is to come or has those that its alternative lets in.
    record InLoop (f : Frame) (p : ℕ) : Type 0 where
      recursive : LeftRecursive rules f.rule
      chain : HasOperatorsFrom rules f.rule f.level (node_of f)
      operand : (q : ℕ) → HasOperand rules f.rule f.alt q → Owes net f.rule q p
          ⊎ (IsOver f.rule p × ((t : Tree) → IsLastTree f.children t → HasOperatorsFrom rules f.rule q t))

    -- of any open rule
    abbrev IsKept : Frame → ℕ → Type 0
    IsKept f p = (LeftRecursive rules f.rule → ⊥) ⊎ InLoop f p

    -- of all open rules, newest first, above a state: each of them is at the call of the one that is newer
    abbrev AreKept : ℕ → List Frame → Type 0
    AreKept p [] = Unit {0}
    AreKept p (f ∷ fs) = IsOf net f.rule p × AllKeepPrecedence rules f.children × IsKept f p
        × ((c : ℕ) × (state_at net c ≡ Some (Call f.rule f.level f.back)) × AreKept c fs)

    -- an edge that reads nothing keeps it
    loop_on : (f : Frame) {p t : ℕ} (s : State (List ℕ)) → IsQuiet s → state_at net p ≡ Some s → IsTarget s t → InLoop f p → InLoop f t
    loop_on f {p} {t} s quiet is to h = record {
      recursive = h.recursive;
      chain = h.chain;
      operand = λ q o. elim (h.operand q o) [
        | inl owed ↦ elim (owes_on net owed s is t to) [
          | inl later ↦ inl later
          | inr call ↦ absurd (subst IsQuiet call.0 quiet)
        ]
        | inr paid ↦ elim (over_on s paid.0 is to) [
          | inl level ↦ absurd (quiet_no_level s quiet level)
          | inr over ↦ inr (over.1, paid.1)
        ]
      ];
    }
      where
        quiet_no_level : (x : State (List ℕ)) → IsQuiet x → IsLevel x → ⊥
        quiet_no_level (Decision targets) a b = b
        quiet_no_level (End rule) a b = b
        quiet_no_level (Edge label w) a b = b
        quiet_no_level (Call rule level back) a b = b
        quiet_no_level (Predicate n w) a b = b
        quiet_no_level (Level q w) a b = a
        quiet_no_level (Action w) a b = b
        quiet_no_level (Empty w) a b = b

    -- the open rule with one child more
    abbrev grown : Frame → Tree → Frame
    grown f t = record f { children = and_then f.children (only t) }

    -- an edge that gives a child keeps it, where the child of a call has the operators that its level lets in
    loop_grown : (f : Frame) {p t : ℕ} (s : State (List ℕ)) (child : Tree) → (IsLevel s → ⊥) → (IsQuiet s → ⊥) → state_at net p ≡ Some s
        → IsTarget s t → ((q back : ℕ) → s ≡ Call f.rule q back → HasOperatorsFrom rules f.rule q child) → InLoop f p
        → InLoop (grown f child) t
    loop_grown f {p} {t} s child level quiet is to called h = record {
      recursive = h.recursive;
      chain = operators_added child h.chain;
      operand = λ q o. elim (h.operand q o) [
        | inl owed ↦ elim (owes_on net owed s is t to) [
          | inl later ↦ inl later
          | inr call ↦ inr (
            before_turns call.1.0 call.1.1 call.1.2,
            λ u last. subst (HasOperatorsFrom rules f.rule q) (sym (last_added f.children child u last)) (called q t call.0),
          )
        ]
        | inr paid ↦ elim (over_on s paid.0 is to) [
          | inl a_level ↦ absurd (level a_level)
          | inr over ↦ absurd (quiet over.0)
        ]
      ];
    }

    -- the node of an open rule that owes no operand keeps precedence
    node_kept : (f : Frame) (p : ℕ) → ((q : ℕ) → Owes net f.rule q p → ⊥) → AllKeepPrecedence rules f.children → IsKept f p
        → KeepsPrecedence rules (node_of f)
    node_kept f p nothing all (inl plain) = (λ q t o last. absurd (plain (left_of o)), all)
    node_kept f p nothing all (inr h) = (
      λ q t o last. elim (h.operand q o) [
        | inl owed ↦ absurd (nothing q owed)
        | inr paid ↦ paid.1 t last
      ],
      all,
    )

    -- of a whole run
    abbrev IsKeeping : Run → Type 0
    IsKeeping r = AreKept r.state r.frames × AllKeepPrecedence rules r.tree

    -- edges that change no open rule
    frames_on : (fs : List Frame) (p t : ℕ) (s : State (List ℕ)) → IsQuiet s → state_at net p ≡ Some s → IsTarget s t → AreKept p fs
        → AreKept t fs
    frames_on [] p t s quiet is to h = tt
    frames_on (f ∷ fs) p t s quiet is to (of, all, kept, more) = (
      further p t s of is to,
      all,
      elim kept [ inl plain ↦ inl plain | inr h ↦ inr (loop_on f s quiet is to h) ],
      more,
    )

    -- the newest open rule with one child more
    frames_grown : (r : Run) (fs : List Frame) (p t : ℕ) (s : State (List ℕ)) (child : Tree) → (IsLevel s → ⊥) → (IsQuiet s → ⊥)
        → state_at net p ≡ Some s → IsTarget s t
        → ((k q back : ℕ) → LeftRecursive rules k → s ≡ Call k q back → HasOperatorsFrom rules k q child) → KeepsPrecedence rules child
        → AreKept p fs → AllKeepPrecedence rules r.tree
        → AreKept t (with_child r fs child).frames × AllKeepPrecedence rules (with_child r fs child).tree
    frames_grown r [] p t s child level quiet is to called keeps h tree = (tt, all_added r.tree child tree keeps)
    frames_grown r (f ∷ fs) p t s child level quiet is to called keeps (of, all, kept, more) tree = (
      (
        further p t s of is to,
        all_added f.children child all keeps,
        elim kept [
          | inl plain ↦ inl plain
          | inr h ↦ inr (loop_grown f s child level quiet is to (λ q back e. called f.rule q back h.recursive e) h)
        ],
        more,
      ),
      tree,
    )

    -- a number that is written begins an alternative
    alt_of : (a n : ℕ) → cond (n + 1 == 0) a (n + 1) ≡ n + 1
    alt_of a n =
        let other : (n + 1 == 0) ≡ false = grind (arith, nat_tests) in ap (λ (b : Bool). cond b a (n + 1)) other

    -- the alternative stays where none begins
    loop_same : (f : Frame) {p : ℕ} (n : ℕ) → n ≡ 0 → InLoop f p → IsKept (record f { alt = cond (n == 0) f.alt n }) p
    loop_same f n none h =
        let e : cond (n == 0) f.alt n ≡ f.alt = ap (λ (m : ℕ). cond (m == 0) f.alt m) none in
        inr (record {
          recursive = h.recursive;
          chain = subst (λ (i : ℕ). HasOperatorsFrom rules f.rule f.level (node f.rule i f.at f.children)) (sym e) h.chain;
          operand = λ q o. h.operand q (subst (λ (i : ℕ). HasOperand rules f.rule i q) e o);
        })

    -- and is that which begins
    loop_begun : (f : Frame) {p t : ℕ} (n j : ℕ) → n ≡ j + 1 → BeginsPrimary rules net f.rule (j + 1) t → InLoop f p
        → IsKept (record f { alt = cond (n == 0) f.alt n }) t
    loop_begun f n j counted b h =
        let e : cond (n == 0) f.alt n ≡ j + 1 = ap (λ (m : ℕ). cond (m == 0) f.alt m) counted ∙ alt_of f.alt j in
        inr (record {
          recursive = h.recursive;
          chain = subst (λ (i : ℕ). HasOperatorsFrom rules f.rule f.level (node f.rule i f.at f.children)) (sym e)
              (a_primary (j + 1) f.at f.children b.no_operator);
          operand = λ q o. inl (b.operand q (subst (λ (i : ℕ). HasOperand rules f.rule i q) e o));
        })

    -- what begins at a state: nothing, or what is written there
    begun_or_none : (t : ℕ) (o : Option (State (List ℕ))) → (begun net t o ≡ 0) ⊎ (begun net t o ≡ written_at net t)
    begun_or_none t None = inl refl
    begun_or_none t (Some (Decision ts)) = inr refl
    begun_or_none t (Some (End rule)) = inr refl
    begun_or_none t (Some (Edge label v)) = inr refl
    begun_or_none t (Some (Call rule level back)) = inr refl
    begun_or_none t (Some (Predicate n v)) = inr refl
    begun_or_none t (Some (Level q v)) = inl refl
    begun_or_none t (Some (Action v)) = inr refl
    begun_or_none t (Some (Empty v)) = inr refl

    -- the decision of an open rule that is left-recursive
    loop_chosen : (f : Frame) {p : ℕ} (t : ℕ) (targets : List ℕ) → state_at net p ≡ Some (Decision targets) → Contains targets t
        → (h : InLoop f p) → IsChosen rules set name net can built f.rule h.recursive.0 h.recursive.1 t
        → IsKept (record f { alt = cond (begun net t (state_at net t) == 0) f.alt (begun net t (state_at net t)) }) t
    loop_chosen f t targets is target h (unnumbered none) = elim (begun_or_none t (state_at net t)) [
      | inl zero_is ↦ loop_same f (begun net t (state_at net t)) zero_is (loop_on f (Decision targets) tt is target h)
      | inr written ↦ loop_same f (begun net t (state_at net t)) (written ∙ none) (loop_on f (Decision targets) tt is target h)
    ]
    loop_chosen f t targets is target h (level_there q v at) =
        loop_same f (begun net t (state_at net t)) (ap (begun net t) at) (loop_on f (Decision targets) tt is target h)
    loop_chosen f t targets is target h (primary_there j written b) = elim (begun_or_none t (state_at net t)) [
      | inl zero_is ↦ loop_same f (begun net t (state_at net t)) zero_is (loop_on f (Decision targets) tt is target h)
      | inr shown ↦ loop_begun f (begun net t (state_at net t)) j (shown ∙ written) b h
    ]

    -- the decision of the newest open rule
    frames_chosen : (fs : List Frame) (p i t : ℕ) (targets : List ℕ) → state_at net p ≡ Some (Decision targets) → IsFirst net p i t
        → Contains targets t → AreKept p fs → AreKept t (with_alt (begun net t (state_at net t)) fs)
    frames_chosen [] p i t targets is first target h = tt
    frames_chosen (f ∷ fs) p i t targets is first target (of, all, kept, more) = (
      further p t (Decision targets) of is target,
      all,
      elim kept [
        | inl plain ↦ inl plain
        | inr h ↦ loop_chosen f t targets is target h
            (chosen rules set name net can built f.rule h.recursive.0 h.recursive.1 p i t targets of first is target)
      ],
      more,
    )

    -- a level makes the node so far the first child of an operator
    frames_wrapped : (fs : List Frame) (p q t : ℕ) → state_at net p ≡ Some (Level q t) → level_of fs ≤ q → AreKept p fs
        → AreKept t (wrapped (written_at net p) fs)
    frames_wrapped [] p q t is low h = tt
    frames_wrapped (f ∷ fs) p q t is low (of, all, kept, more) =
        (further p t (Level q t) of is refl, (node_kept f p (λ n o. owes_no_level net q t o is) all kept, tt), by kept, more)
      where
        by : IsKept f p → IsKept (record f { alt = written_at net p; children = only (node_of f) }) t
        by (inl plain) = inl plain
        by (inr h) =
            let b = level_begins rules set name net can built f.rule h.recursive.0 h.recursive.1 p q t of is in
            inr (record {
              recursive = h.recursive;
              chain = an_operator (written_at net p) f.at q (only (node_of f)) (node_of f) b.operator low refl h.chain;
              operand = λ n o. inl (b.operand n o);
            })

    -- a rule that is called
    frame_called : (rule level back at : ℕ) → IsKept (record
        { back = back; level = level; rule = rule; alt = written_at net (start_of rule); at = at; children = no_tree }) (start_of rule)
    frame_called rule level back at = elim (recursive_or_not rules rule) [
      | inl plain ↦ inl plain
      | inr left ↦ (let b = rule_starts rules set name net can built rule left.0 left.1 in inr (record {
        recursive = left;
        chain = a_primary (written_at net (start_of rule)) at no_tree b.no_operator;
        operand = λ q o. inl (b.operand q o);
      }))
    ]

    module _ (values : Values) (word : List ℕ) where
      -- the end of a rule
      closed : (r s : Run) (rule : ℕ) (fs : List Frame) → state_at net r.state ≡ Some (End rule) → AreKept r.state fs
          → AllKeepPrecedence rules r.tree → ClosesBy net values word r fs s → IsKeeping s
      closed r s rule [] is h tree g = absurd g
      closed r s rule (f ∷ fs) is (of, all, kept, (c, call, more)) tree g =
          let after : Run = record { state = f.back; place = r.place; frames = fs; tree = r.tree } in
          let keeps : KeepsPrecedence rules (node_of f) = node_kept f r.state (λ n o. owes_no_end net rule o is) all kept in
          let grown_so = frames_grown after fs c f.back (Call f.rule f.level f.back) (node_of f) (λ l. l) (λ q. q) call refl
          (called kept) keeps more tree in
          subst IsKeeping (sym g) (
            subst (λ (q : ℕ). AreKept q (with_child after fs (node_of f)).frames)
                (sym (state_child after fs (node_of f))) grown_so.0,
            grown_so.1,
          )
        where
          called : IsKept f r.state → (k q back : ℕ) → LeftRecursive rules k
              → ◌≡◌ {A = State (List ℕ)} (Call f.rule f.level f.back) (Call k q back)
              → HasOperatorsFrom rules k q (node_of f)
          called (inl plain) k q back left e = absurd (plain (subst (LeftRecursive rules) (let same : k ≡ f.rule = cc in same) left))
          called (inr h) k q back left e =
              let rule_same : f.rule ≡ k = cc in
              let level_same : f.level ≡ q = cc in
              subst (λ (j : ℕ). HasOperatorsFrom rules j q (node_of f)) rule_same
              (subst (λ (n : ℕ). HasOperatorsFrom rules f.rule n (node_of f)) level_same h.chain)

      module _ (limit : ℕ) where
        -- a step keeps it
        step_by : (r s : Run) (o : Option (State (List ℕ))) → state_at net r.state ≡ o → IsKeeping r → GoesBy net values word limit o r s
            → IsKeeping s
        step_by r s None is h g = absurd g
        step_by r s (Some (Decision targets)) is h (i, t, says, first, e) =
            let target = first_in net r.state i t targets is first in
            subst IsKeeping (sym e) (frames_chosen r.frames r.state i t targets is first target h.0, h.1)
        step_by r s (Some (End rule)) is h g = closed r s rule r.frames is h.0 h.1 g
        step_by r s (Some (Edge set t)) is h (a, next, has, e) = subst IsKeeping (sym e) (by r.frames refl)
          where
            by : (fs : List Frame) → r.frames ≡ fs → IsKeeping (record (with_token r fs) { state = t; place = r.place + 1 })
            by [] none = (subst (λ (fs : List Frame). AreKept t fs) (sym none) tt, h.1)
            by (f ∷ fs) some = frames_grown r (f ∷ fs) r.state t (Edge set t) (leaf r.place) (λ l. l) (λ q. q) is refl
                (λ k q back left no. absurd (let n : ⊥ = cc in n)) tt (subst (AreKept r.state) some h.0) h.1
        step_by r s (Some (Call rule level back)) is h (room, e) =
            subst IsKeeping (sym e) ((start, tt, frame_called rule level back r.place, (r.state, is, h.0)), h.1)
        step_by r s (Some (Predicate k t)) is h (holds, e) =
            subst IsKeeping (sym e) (frames_on r.frames r.state t (Predicate k t) tt is refl h.0, h.1)
        step_by r s (Some (Level q t)) is h (low, e) = subst IsKeeping (sym e) (frames_wrapped r.frames r.state q t is low h.0, h.1)
        step_by r s (Some (Action t)) is h e = subst IsKeeping (sym e) (frames_on r.frames r.state t (Action t) tt is refl h.0, h.1)
        step_by r s (Some (Empty t)) is h e = subst IsKeeping (sym e) (frames_on r.frames r.state t (Empty t) tt is refl h.0, h.1)

        -- where a run stops with a tree
        stop_by : (r : Run) (tree : Tree) (o : Option (State (List ℕ))) → IsKeeping r → StopsBy net values word limit o r (parsed tree)
            → KeepsPrecedence rules tree
        stop_by r tree None h g = absurd g
        stop_by r tree (Some (Decision targets)) h (k, says, was) = absurd (let no : ⊥ = cc in no)
        stop_by r tree (Some (End rule)) h (none, added, (t, one, was)) =
            let same : t ≡ tree = cc in
            subst (KeepsPrecedence rules) same (subst (AllKeepPrecedence rules) one h.1).0
        stop_by r tree (Some (Edge set t)) h (a, next, has, was) = absurd (let no : ⊥ = cc in no)
        stop_by r tree (Some (Call rule level back)) h (many, was) = absurd (let no : ⊥ = cc in no)
        stop_by r tree (Some (Predicate k t)) h (fails, was) = absurd (let no : ⊥ = cc in no)
        stop_by r tree (Some (Level q t)) h (above, was) = absurd (let no : ⊥ = cc in no)
        stop_by r tree (Some (Action t)) h g = absurd g
        stop_by r tree (Some (Empty t)) h g = absurd g

        -- the tree of a run
        run_keeps : (r : Run) (e : Ending) (tree : Tree) → e ≡ parsed tree → IsKeeping r → Runs net values word limit r e
            → KeepsPrecedence rules tree
        run_keeps r e tree same h (stops _ _ stop) =
            stop_by r tree (state_at net r.state) h (subst (StopsBy net values word limit (state_at net r.state) r) same stop)
        run_keeps r e tree same h (goes _ s _ step more) = run_keeps s e tree same (step_by r s (state_at net r.state) refl h step) more

      -- the tree of a token list keeps precedence
      pub tree_keeps : (tree : Tree) → Ends net values word (parsed tree) → KeepsPrecedence rules tree
      tree_keeps tree run = run_keeps deepest beginning (parsed tree) tree refl (tt, tt) run
