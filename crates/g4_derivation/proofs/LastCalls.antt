-- Where the calls at a level above 0 are in elements that are laid out: each is the last but for silent ones, so its return state
-- leads silently to where the elements lead.
use Rattle.std.proofs.Common.{◌≡◌, ◌<◌, ◌≤◌, ◌⊎◌, inl, inr, ℕ, ◌+◌, List, [], ◌∷◌, Bool, true, false, cond, ◌&&◌, Option, Some, None, refl, sym, ◌∙◌, subst, arith}
use native.Mathlib.Decide.{dec_lt}
use Rattle.g4_source.specs.Elements.{Element, atom, block, Elements, empty, then, either}
use Rattle.g4_source.specs.Marks.{onto}
use Rattle.g4_layout.specs.Layout.{AllLeadTo, LieInOrder, no_more, one_more, LieSideBySide, no_other, another, a_call, an_action, a_predicate, an_edge, a_level, an_empty}
use Rattle.g4_layout.proofs.Sound.{IsSoundState, SoundAt, first_sound, in_order_sound, within_sound, within_in_order_sound}
use Rattle.g4_layout.proofs.Trees.{IsSound, AreSound}
use Rattle.g4_net.specs.Loops.{IsSilentBy, LeadsSilently, there, onward}
use Rattle.g4_leftrec.specs.OwnCalls.{LastSelf, is_atom, are_silent, before_self, with_first}
use Rattle.g4_leftrec.specs.OwnSteps.{calls, is_silent}
use Rattle.g4_leftrec.specs.Rewriting.{StepIn, last_at, with_last_at}
use Rattle.g4_grammar.specs.StepRules.{IsPlain}
use Rattle.g4_grammar.specs.declared.step.Step.TheVariants as steps
use Rattle.g4_net.specs.Network.{ParserNetwork, state_at, start_of}
use Rattle.g4_net.specs.declared.network.State.{State}
use Rattle.g4_net.specs.declared.network.State.TheVariants.{Call, Empty}
use Rattle.g4_derivation.proofs.Starting.{StartsLie, one_start, several_starts, TurnsLie}

-- a step that calls at level 0, or not at all
abbrev pub IsZero : StepIn → Type 0
IsZero (steps.Edge set) = Unit {0}
IsZero (steps.Call rule level) = level ≡ 0
IsZero (steps.Predicate k) = Unit {0}
IsZero (steps.Level q) = Unit {0}
IsZero steps.Action = Unit {0}
IsZero steps.Empty = Unit {0}

-- each step of a rule as it is written is so
pub plain_is_zero : (a : StepIn) → IsPlain a → IsZero a
plain_is_zero (steps.Edge set) plain = tt
plain_is_zero (steps.Call rule level) plain = plain
plain_is_zero (steps.Predicate k) plain = tt
plain_is_zero (steps.Level q) plain = tt
plain_is_zero steps.Action plain = tt
plain_is_zero steps.Empty plain = tt

-- a step that reads nothing and calls nothing
abbrev IsSilentStep : StepIn → Type 0
IsSilentStep (steps.Edge set) = ⊥
IsSilentStep (steps.Call rule level) = ⊥
IsSilentStep (steps.Predicate k) = Unit {0}
IsSilentStep (steps.Level q) = ⊥
IsSilentStep steps.Action = Unit {0}
IsSilentStep steps.Empty = ⊥

-- elements that are such steps
abbrev AreSilent : Elements StepIn → Type 0
AreSilent empty = Unit {0}
AreSilent (then (atom a) xs) = IsSilentStep a × AreSilent xs
AreSilent (then (block label repeat ys) xs) = ⊥

-- both of two tests
both : (a b : Bool) → (a && b) ≡ true → (a ≡ true) × (b ≡ true)
both true b e = (refl, e)
both false b e = absurd (let no : ⊥ = cc in no)

silent_step : (a : StepIn) → is_silent a ≡ true → IsSilentStep a
silent_step (steps.Edge set) e = absurd (let no : ⊥ = cc in no)
silent_step (steps.Call rule level) e = absurd (let no : ⊥ = cc in no)
silent_step (steps.Predicate k) e = tt
silent_step (steps.Level q) e = absurd (let no : ⊥ = cc in no)
silent_step steps.Action e = tt
silent_step steps.Empty e = absurd (let no : ⊥ = cc in no)

silent_by : (xs : Elements StepIn) → are_silent is_silent xs ≡ true → AreSilent xs
silent_by empty e = tt
silent_by (then (atom a) xs) e = let b = both (is_silent a) (are_silent is_silent xs) e in (silent_step a b.0, silent_by xs b.1)
silent_by (then (block label repeat ys) xs) e = absurd (let no : ⊥ = cc in no)

-- they call nothing
zero_step : (a : StepIn) → IsSilentStep a → IsZero a
zero_step (steps.Edge set) h = absurd h
zero_step (steps.Call rule level) h = absurd h
zero_step (steps.Predicate k) h = tt
zero_step (steps.Level q) h = absurd h
zero_step steps.Action h = tt
zero_step steps.Empty h = absurd h

silent_zero : (xs : Elements StepIn) → AreSilent xs → AreSound IsZero xs
silent_zero empty h = tt
silent_zero (then (atom a) xs) h = (zero_step a h.0, silent_zero xs h.1)
silent_zero (then (block label repeat ys) xs) h = absurd h

-- elements whose calls are at level 0, but for one of rule k that is the last but for silent ones
pub data LastLevelled (k : ℕ) : Elements StepIn → Type 0 where
  all_zero : (xs : Elements StepIn) → AreSound IsZero xs → LastLevelled k xs
  last_call : (level : ℕ) (xs : Elements StepIn) → AreSilent xs → LastLevelled k (then (atom (steps.Call k level)) xs)
  later_on : (x : Element StepIn) (xs : Elements StepIn) → IsSound IsZero x → LastLevelled k xs → LastLevelled k (then x xs)

module _ (k level : ℕ) where
  -- the call itself
  own_call : (x : Element StepIn) (xs : Elements StepIn) (b : Bool) → AreSilent xs → AreSound IsZero (then x xs) →
      LastLevelled k (last_at k level (then x xs) (cond b (Some (record { before = empty; trailing = xs })) None))
  own_call x xs true silent z = last_call level xs silent
  own_call x xs false silent z = all_zero (then x xs) z

  -- an element in front
  in_front : (x : Element StepIn) (xs : Elements StepIn) (last : Option (LastSelf StepIn)) → AreSound IsZero (then x xs) →
      LastLevelled k (last_at k level xs last) → LastLevelled k (last_at k level (then x xs) (with_first x last))
  in_front x xs None z h = all_zero (then x xs) z
  in_front x xs (Some last) z h = later_on x (onto last.before (then (atom (steps.Call k level)) last.trailing)) z.0 h

  by_trailing : (x : Element StepIn) (xs : Elements StepIn) (silent : Bool) (last : Option (LastSelf StepIn)) →
      are_silent is_silent xs ≡ silent → AreSound IsZero (then x xs) → LastLevelled k (last_at k level xs last) →
      LastLevelled k (last_at k level (then x xs) (cond silent
      (cond (is_atom (calls k) x) (Some (record { before = empty; trailing = xs })) None) (with_first x last)))
  by_trailing x xs true last e z h = own_call x xs (is_atom (calls k) x) (silent_by xs e) z
  by_trailing x xs false last e z h = in_front x xs last z h

  -- elements at level 0 with a level at their last call are so
  pub with_last : (xs : Elements StepIn) → AreSound IsZero xs → LastLevelled k (with_last_at k level xs)
  with_last empty z = all_zero empty z
  with_last (then x xs) z = by_trailing x xs (are_silent is_silent xs) (before_self (calls k) is_silent xs) refl z (with_last xs z.1)

module _ (net : ParserNetwork) where
  -- silent elements lead silently
  silent_lies : {xs : Elements StepIn} {s t n m : ℕ} → LieInOrder net xs s t n m → AreSilent xs → LeadsSilently net s t
  silent_lies (no_more s n) h = there s
  silent_lies (one_more _ xs s mid t n j m (an_action _ _ is) ls) h =
      onward s n t (subst (λ (o : Option (State (List ℕ))). IsSilentBy o n) (sym is) refl) (silent_lies ls h.1)
  silent_lies (one_more _ xs s mid t n j m (a_predicate q _ _ is) ls) h =
      onward s n t (subst (λ (o : Option (State (List ℕ))). IsSilentBy o n) (sym is) refl) (silent_lies ls h.1)
  silent_lies (one_more (block label repeat ys) xs s mid t n j m l ls) h = absurd h
  silent_lies (one_more _ xs s mid t n j m (an_edge label _ _ is) ls) h = absurd h.0
  silent_lies (one_more _ xs s mid t n j m (a_call rule level _ _ is) ls) h = absurd h.0
  silent_lies (one_more _ xs s mid t n j m (a_level q _ _ is) ls) h = absurd h.0
  silent_lies (one_more _ xs s mid t n j m (an_empty _ _ is) ls) h = absurd h.0

  -- one empty edge more
  lead_on : (a b u : ℕ) → LeadsSilently net a b → state_at net b ≡ Some (Empty u) → LeadsSilently net a u
  lead_on a _ u (there _) is = onward a u u (subst (λ (o : Option (State (List ℕ))). IsSilentBy o u) (sym is) refl) (there u)
  lead_on a b u (onward _ t _ m more) is = onward a t u m (lead_on t b u more is)

  -- every state
  abbrev Any : ℕ → Type 0
  Any q = Unit {0}

  -- a call at level 0 is not at a level above
  not_above : (c called level back : ℕ) → state_at net c ≡ Some (Call called level back) → 1 ≤ level → SoundAt net IsZero Any Any c → ⊥
  not_above c called level back is above sound = let h = subst (IsSoundState IsZero Any Any) is sound in omega (arith, h.0)

  module _ (c called level back : ℕ) (is : state_at net c ≡ Some (Call called level back)) (above : 1 ≤ level) where
    -- elements at level 0 have such a call at most where they lead
    zero_place : {xs : Elements StepIn} {s t n m : ℕ} → LieInOrder net xs s t n m → AreSound IsZero xs → (c ≡ s) ⊎ ((n ≤ c) × (c < m)) →
        c ≡ t
    zero_place {s = s} l z (inl same) = elim (in_order_sound net IsZero Any Any l z (λ q a b. tt)) [
      | inl still ↦ same ∙ sym still
      | inr sound ↦ absurd (not_above c called level back is above (subst (SoundAt net IsZero Any Any) (sym same) sound))
    ]
    zero_place l z (inr (from, below)) = elim (within_in_order_sound net IsZero Any Any l z tt (λ q a b. tt) c from below) [
      | inl same ↦ same
      | inr sound ↦ absurd (not_above c called level back is above sound)
    ]

    -- and others have it where they lead, or as the last call
    levelled : {k : ℕ} {xs : Elements StepIn} {s t n m : ℕ} → LastLevelled k xs → LieInOrder net xs s t n m →
        (c ≡ s) ⊎ ((n ≤ c) × (c < m)) → (c ≡ t) ⊎ ((called ≡ k) × LeadsSilently net back t)
    levelled (all_zero xs z) l place = inl (zero_place l z place)
    levelled {k} (last_call lev xs silent) (one_more _ _ s mid t n j m (a_call _ _ _ _ at) ls) (inl same) =
        let here : state_at net s ≡ Some (Call called level back) =
        subst (λ (q : ℕ). state_at net q ≡ Some (Call called level back)) same is in
        let own : k ≡ called = cc in
        let returns : n ≡ back = cc in
        inr (sym own, subst (λ (q : ℕ). LeadsSilently net q t) returns (silent_lies ls silent))
    levelled (last_call lev xs silent) (one_more _ _ s mid t n j m (a_call _ _ _ _ at) ls) (inr (from, below)) =
        inl (zero_place ls (silent_zero xs silent) (elim (dec_lt n c)
        [ yes after ↦ inr (omega arith, below) | no not_after ↦ inl (omega arith) ]))
    levelled (later_on x xs z more) (one_more _ _ s mid t n j m l ls) (inl same) = elim (first_sound net IsZero Any Any l z (λ q a b. tt)) [
      | inl still ↦ levelled more ls (inl (same ∙ sym still))
      | inr sound ↦ absurd (not_above c called level back is above (subst (SoundAt net IsZero Any Any) (sym same) sound))
    ]
    levelled (later_on x xs z more) (one_more _ _ s mid t n j m l ls) (inr (from, below)) = elim (dec_lt c j) [
      | yes before ↦ elim (within_sound net IsZero Any Any l z tt (λ q a b. tt) c from before) [
        | inl same ↦ levelled more ls (inl same)
        | inr sound ↦ absurd (not_above c called level back is above sound)
      ]
      | no after ↦ levelled more ls (inr (omega arith, below))
    ]

    -- each of some is so
    abbrev pub EachLastLevelled : ℕ → List (Elements StepIn) → Type 0
    EachLastLevelled k [] = Unit {0}
    EachLastLevelled k (x ∷ xs) = LastLevelled k x × EachLastLevelled k xs

    -- where elements lead to u by an empty edge
    led : {k last u : ℕ} → state_at net last ≡ Some (Empty u) → (c ≡ last) ⊎ ((called ≡ k) × LeadsSilently net back last) → (called ≡ k) ×
        LeadsSilently net back u
    led {last = last} leads (inl same) = absurd (let here : state_at net last ≡ Some (Call called level back) = subst
        (λ (q : ℕ). state_at net q ≡ Some (Call called level back)) same is in let no : ⊥ = cc in no)
    led {last = last} {u = u} leads (inr (own, silently)) = (own, lead_on back last u silently leads)

    -- bodies side by side that lead to u
    side_levelled : {k u n m : ℕ} {firsts lasts : List ℕ} (xs : List (Elements StepIn)) → EachLastLevelled k xs →
        LieSideBySide net (either xs) firsts lasts n m → AllLeadTo net lasts u → n ≤ c → c < m → (called ≡ k) × LeadsSilently net back u
    side_levelled [] each (no_other n) leads from below = absurd (omega arith)
    side_levelled (x ∷ xs) each (another _ _ last n j m firsts lasts l ls) leads from below = elim (dec_lt c j) [
      | yes before ↦ led leads.0 (levelled each.0 l (elim (dec_lt n c)
          [ yes after ↦ inr (omega arith, before) | no not_after ↦ inl (omega arith) ]))
      | no after ↦ side_levelled xs each.1 ls leads.1 (omega arith) below
    ]

    -- the alternatives with which a rule starts
    pub starts_levelled : {k g rule n m : ℕ} {xs : List (Elements StepIn)} → EachLastLevelled k xs → StartsLie net rule g n m xs →
        (c ≡ start_of rule) ⊎ ((n ≤ c) × (c < m)) → (called ≡ k) × LeadsSilently net back g
    starts_levelled each (one_start x last l leads) place = led leads (levelled each.0 l place)
    starts_levelled {rule = rule} each (several_starts xs firsts lasts two at l leads) (inl same) =
        absurd (let here : state_at net (start_of rule) ≡ Some (Call called level back) = subst
        (λ (q : ℕ). state_at net q ≡ Some (Call called level back)) same is in let no : ⊥ = cc in no)
    starts_levelled each (several_starts xs firsts lasts two at l leads) (inr (from, below)) = side_levelled xs each l leads from below

    -- the turns
    pub turns_levelled : {k rule u m : ℕ} (xs : List (Elements StepIn)) → EachLastLevelled k xs →
        (turns : TurnsLie net rule u (u + 1) m xs) → u ≤ c → c < m → (called ≡ k) × LeadsSilently net back u
    turns_levelled {k} {rule} {u} {m} xs each turns from below = elim (dec_lt u c) [
      | no at_u ↦ absurd (let same : c ≡ u = omega arith in let d = turns.decides in
          let here : state_at net u ≡ Some (Call called level back) =
          subst (λ (q : ℕ). state_at net q ≡ Some (Call called level back)) same is in let no : ⊥ = cc in no)
      | yes after ↦ elim (dec_lt c turns.exit) [
        | yes inside ↦ side_levelled xs each turns.bodies turns.back (omega arith) inside
        | no at_exit ↦ absurd (let end = turns.after in let same : c ≡ turns.exit = omega arith in let d = turns.leaves in
            let here : state_at net turns.exit ≡ Some (Call called level back) =
            subst (λ (q : ℕ). state_at net q ≡ Some (Call called level back)) same is in let no : ⊥ = cc in no)
      ]
    ]
