-- How the right operand of an alternative is laid out: each way through the alternative goes over a call of the rule at its level, and
-- from there on by edges that read nothing.
use Rattle.std.proofs.Common.{◌≡◌, ℕ, ◌+◌, ◌<◌, ◌≤◌, ◌⊎◌, inl, inr, List, Bool, true, false, cond, Option, Some, None, refl, sym, ◌∙◌, ap, subst, Contains}
use Rattle.std.proofs.lemmas.Option.{none-some}
use Rattle.g4_source.specs.Elements.{Element, atom, block, Elements, empty, then}
use Rattle.g4_source.specs.Marks.{onto}
use Rattle.g4_grammar.specs.Steps.{CallsRule}
use Rattle.g4_grammar.specs.StepRules.{IsPlain}
use Rattle.g4_grammar.specs.declared.step.Step.TheVariants as steps
use Rattle.g4_layout.specs.Layout.{LieInOrder, no_more, one_more, a_call, an_action, a_predicate, an_edge, a_level, an_empty}
use Rattle.g4_layout.proofs.Sound.{IsSoundState, SoundAt, in_order_sound, target_allowed, within_in_order_sound}
use Rattle.g4_layout.proofs.Trees.{IsSound, AreSound, CallsKnown}
use Rattle.g4_leftrec.specs.OwnCalls.{LastSelf, are_silent, before_self, is_atom, with_first}
use Rattle.g4_leftrec.specs.OwnSteps.{calls, is_silent}
use Rattle.g4_leftrec.specs.Rewriting.{StepIn, last_at, with_last_at}
use Rattle.g4_net.specs.Leads.{IsTarget}
use Rattle.g4_net.specs.Loops.{IsSilentBy, LeadsSilently, there, onward}
use Rattle.g4_net.specs.Network.{ParserNetwork, state_at, end_of}
use Rattle.g4_net.specs.declared.network.State.{State}
use Rattle.g4_net.specs.declared.network.State.TheVariants.{Call, Decision, Empty, End, Level}

-- a step that is no level
abbrev pub IsNotLevel : StepIn → Type 0
IsNotLevel (steps.Edge set) = Unit {0}
IsNotLevel (steps.Call rule level) = Unit {0}
IsNotLevel (steps.Predicate k) = Unit {0}
IsNotLevel (steps.Level q) = ⊥
IsNotLevel steps.Action = Unit {0}
IsNotLevel steps.Empty = Unit {0}

-- each step of a rule as it is written is so
pub plain_is_not_level : (a : StepIn) → IsPlain a → IsNotLevel a
plain_is_not_level (steps.Edge set) plain = tt
plain_is_not_level (steps.Call rule level) plain = tt
plain_is_not_level (steps.Predicate k) plain = tt
plain_is_not_level (steps.Level q) plain = plain
plain_is_not_level steps.Action plain = tt
plain_is_not_level steps.Empty plain = tt

-- the same, whatever it calls
abbrev pub IsFree : StepIn → Type 0
IsFree = CallsKnown IsNotLevel CallsRule (λ j. Unit {0})

module _ (k : ℕ) where
  -- what is before the last element has no level, and what follows it is silent
  abbrev IsSplit : LastSelf StepIn → Type 0
  IsSplit last = AreSound IsFree last.before × (are_silent is_silent last.trailing ≡ true)

  -- by what the elements after the first are, and the first
  split_by : (x : Element StepIn) (xs : Elements StepIn) (quiet own : Bool) (w : Option (LastSelf StepIn)) (last : LastSelf StepIn)
      → are_silent is_silent xs ≡ quiet → IsSound IsFree x → ((before : LastSelf StepIn) → w ≡ Some before → IsSplit before)
      → cond quiet (cond own (Some (record { before = empty; trailing = xs })) None) (with_first x w) ≡ Some last → IsSplit last
  split_by x xs true true w last silent sound more e =
      let same : record { before = empty; trailing = xs } ≡ last = cc in subst IsSplit same (tt, silent)
  split_by x xs true false w last silent sound more e = absurd (none-some last e)
  split_by x xs false own None last silent sound more e = absurd (none-some last e)
  split_by x xs false own (Some found) last silent sound more e =
      let h = more found refl in
      let same : record { before = then x found.before; trailing = found.trailing } ≡ last = cc in
      subst IsSplit same ((sound, h.0), h.1)

  -- so it is where the rule itself is the last element but for silent ones
  split : (xs : Elements StepIn) (last : LastSelf StepIn) → AreSound IsFree xs → before_self (calls k) is_silent xs ≡ Some last
      → IsSplit last
  split empty last sound e = absurd (none-some last e)
  split (then x xs) last sound e =
      split_by x xs (are_silent is_silent xs) (is_atom (calls k) x) (before_self (calls k) is_silent xs) last refl sound.0
      (λ before f. split xs before sound.1 f) e

module _ (net : ParserNetwork) where
  -- silent elements lead silently
  silent_lies : {xs : Elements StepIn} {s t n m : ℕ} → LieInOrder net xs s t n m → are_silent is_silent xs ≡ true → LeadsSilently net s t
  silent_lies (no_more s n) h = there s
  silent_lies (one_more _ xs s mid t n j m (an_action _ _ is) ls) h =
      onward s n t (subst (λ (o : Option (State (List ℕ))). IsSilentBy o n) (sym is) refl) (silent_lies ls h)
  silent_lies (one_more _ xs s mid t n j m (a_predicate q _ _ is) ls) h =
      onward s n t (subst (λ (o : Option (State (List ℕ))). IsSilentBy o n) (sym is) refl) (silent_lies ls h)
  silent_lies (one_more (block label repeat ys) xs s mid t n j m l ls) h = absurd (let no : ⊥ = cc in no)
  silent_lies (one_more _ xs s mid t n j m (an_edge label _ _ is) ls) h = absurd (let no : ⊥ = cc in no)
  silent_lies (one_more _ xs s mid t n j m (a_call rule level _ _ is) ls) h = absurd (let no : ⊥ = cc in no)
  silent_lies (one_more _ xs s mid t n j m (a_level q _ _ is) ls) h = absurd (let no : ⊥ = cc in no)
  silent_lies (one_more _ xs s mid t n j m (an_empty _ _ is) ls) h = absurd (let no : ⊥ = cc in no)

  -- one empty edge more
  lead_on : (a b u : ℕ) → LeadsSilently net a b → state_at net b ≡ Some (Empty u) → LeadsSilently net a u
  lead_on a _ u (there _) is = onward a u u (subst (λ (o : Option (State (List ℕ))). IsSilentBy o u) (sym is) refl) (there u)
  lead_on a b u (onward _ t _ m more) is = onward a t u m (lead_on t b u more is)

  -- The decision of the turns of rule k: it leads to levels, and out of the turns to the end of the rule.
  pub record IsTurning (k u : ℕ) : Type 0 where
    pub targets : List ℕ
    pub exit : ℕ
    pub decides : state_at net u ≡ Some (Decision targets)
    pub ways : (t : ℕ) → Contains targets t → (t ≡ exit) ⊎ ((q v : ℕ) × (state_at net t ≡ Some (Level q v)))
    pub leaves : state_at net exit ≡ Some (Empty (end_of k))
    pub end : state_at net (end_of k) ≡ Some (End k)

  -- elements with a call after which the others are silent
  record Halves (k q s t n m : ℕ) (before trailing : Elements StepIn) : Type 0 where
    call : ℕ
    upto : ℕ
    front : LieInOrder net before s call n upto
    is : state_at net call ≡ Some (Call k q upto)
    rest : LieInOrder net trailing upto t (upto + 1) m

  -- what is laid out so is in two parts
  halves : {k q : ℕ} (before trailing : Elements StepIn) {s t n m : ℕ}
      → LieInOrder net (onto before (then (atom (steps.Call k q)) trailing)) s t n m → Halves k q s t n m before trailing
  halves empty trailing {s} {n = n} (one_more _ _ _ _ _ _ _ _ (a_call _ _ _ _ is) ls) =
      record { call = s; upto = n; front = no_more s n; is = is; rest = ls }
  halves (then x xs) trailing (one_more _ _ s mid t n j m l ls) =
      let h = halves xs trailing ls in
      record { call = h.call; upto = h.upto; front = one_more x xs s mid h.call n j h.upto l h.front; is = h.is; rest = h.rest }

  -- a state of elements that begin at the first, the others being those from n up to m
  abbrev IsAmong : ℕ → ℕ → ℕ → ℕ → Type 0
  IsAmong first n m p = (p ≡ first) ⊎ ((n ≤ p) × (p < m))

  -- no rule ends there
  abbrev NoEnd : ℕ → Type 0
  NoEnd rule = ⊥

  -- From the state p of an alternative of rule k each way to the rule's turns goes over a call of the rule at level q, and then over edges
  -- that read nothing.
  pub record Owes (k q p : ℕ) : Type 0 where
    pub turning : ℕ
    pub turns : IsTurning k turning
    pub first : ℕ
    pub from : ℕ
    pub upto : ℕ
    pub call : ℕ
    pub is : state_at net call ≡ Some (Call k q upto)
    pub returns : LeadsSilently net upto turning
    pub leads : (x : ℕ) → IsAmong first from upto x → (x ≡ call) ⊎ SoundAt net IsFree NoEnd (IsAmong first from upto) x
    pub within : IsAmong first from upto p

  -- it is so where an alternative begins whose last element, but for silent ones, is the rule itself
  pub owes : (k q : ℕ) {u s t n m : ℕ} (xs : Elements StepIn) (last : LastSelf StepIn) → IsTurning k u
      → LieInOrder net (with_last_at k q xs) s t n m → state_at net t ≡ Some (Empty u) → AreSound IsFree xs
      → before_self (calls k) is_silent xs ≡ Some last → Owes k q s
  owes k q {u} {s} {t} {n} {m} xs last turns l leads sound e =
      let parts = split k xs last sound e in
      let h = halves last.before last.trailing
      (subst (λ (o : Option (LastSelf StepIn)). LieInOrder net (last_at k q xs o) s t n m) e l) in
      let allowed : (x : ℕ) → n ≤ x → x < h.upto → IsAmong s n h.upto x = λ x from below. inr (from, below) in
      record {
        turning = u;
        turns = turns;
        first = s;
        from = n;
        upto = h.upto;
        call = h.call;
        is = h.is;
        returns = lead_on h.upto t u (silent_lies h.rest parts.1) leads;
        leads = λ x among. elim among [
          | inl same ↦ elim (in_order_sound net IsFree NoEnd (IsAmong s n h.upto) h.front parts.0 allowed) [
            | inl still ↦ inl (same ∙ sym still)
            | inr safe ↦ inr (subst (SoundAt net IsFree NoEnd (IsAmong s n h.upto)) (sym same) safe)
          ]
          | inr place ↦ within_in_order_sound net IsFree NoEnd (IsAmong s n h.upto) h.front parts.0 (inl refl) allowed x place.0 place.1
        ];
        within = inl refl;
      }

  module _ {k q p : ℕ} (o : Owes k q p) (s : State (List ℕ)) (is : state_at net p ≡ Some s) where
    -- the call itself
    abbrev pub IsOperandCall : ℕ → Type 0
    IsOperandCall t = (s ≡ Call k q t) × ((u : ℕ) × IsTurning k u × LeadsSilently net t u)

    -- an edge keeps this, or it is that of the call
    pub owes_on : (t : ℕ) → IsTarget s t → Owes k q t ⊎ IsOperandCall t
    owes_on t to = elim (o.leads p o.within) [
      | inl same ↦ (let at = subst (λ (x : ℕ). state_at net x ≡ Some (Call k q o.upto)) (sym same) o.is in
          let called : s ≡ Call k q o.upto = cc in
          let here : t ≡ o.upto = subst (λ (x : State (List ℕ)). IsTarget x t) called to in
          inr (
            called ∙ ap (λ (x : ℕ). Call k q x) (sym here),
            (o.turning, o.turns, subst (λ (x : ℕ). LeadsSilently net x o.turning) (sym here) o.returns),
          ))
      | inr safe ↦ inl (record {
        turning = o.turning;
        turns = o.turns;
        first = o.first;
        from = o.from;
        upto = o.upto;
        call = o.call;
        is = o.is;
        returns = o.returns;
        leads = o.leads;
        within = target_allowed IsFree NoEnd (IsAmong o.first o.from o.upto) s t
            (subst (IsSoundState IsFree NoEnd (IsAmong o.first o.from o.upto)) is safe) to;
      })
    ]

  -- such a state is no level, and no end
  pub owes_no_level : {k q p : ℕ} (v t : ℕ) → Owes k q p → state_at net p ≡ Some (Level v t) → ⊥
  owes_no_level {k} {q} {p} v t o is = elim (o.leads p o.within) [
    | inl same ↦ (let at = subst (λ (x : ℕ). state_at net x ≡ Some (Call k q o.upto)) (sym same) o.is in let no : ⊥ = cc in no)
    | inr safe ↦ (subst (IsSoundState IsFree NoEnd (IsAmong o.first o.from o.upto)) is safe).0.0
  ]

  pub owes_no_end : {k q p : ℕ} (rule : ℕ) → Owes k q p → state_at net p ≡ Some (End rule) → ⊥
  owes_no_end {k} {q} {p} rule o is = elim (o.leads p o.within) [
    | inl same ↦ (let at = subst (λ (x : ℕ). state_at net x ≡ Some (Call k q o.upto)) (sym same) o.is in let no : ⊥ = cc in no)
    | inr safe ↦ subst (IsSoundState IsFree NoEnd (IsAmong o.first o.from o.upto)) is safe
  ]
