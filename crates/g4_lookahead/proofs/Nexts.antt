-- The start set is finite, and so is the set after a finite set.
use Rattle.std.proofs.Common.{◌≡◌, ◌⊎◌, inl, inr, ℕ, zero, suc, ◌+◌, ◌<◌, List, [], ◌∷◌, length, slice_get, Bool, true, false, true≢false, Option, Some, None, All, Contains, refl, sym, ◌∙◌, ap, subst, arith}
use Rattle.std.proofs.Math.Decide.{ℕ_discrete}
use Rattle.std.proofs.lemmas.Option.{slice_get_within}
use Rattle.g4_net.specs.declared.network.State.{State}
use Rattle.g4_net.specs.declared.network.State.TheVariants.{Decision, End, Edge, Call, Predicate, Level, Action, Empty}
use Rattle.g4_net.specs.Configurations.{Stack, Config, config, at, at_with, IsWithin}
use Rattle.g4_net.specs.Leads.{Returns, LeadsBy, Leads, Reaches, here, further, WellFormed}
use Rattle.g4_net.specs.Lookahead.{IsKeptBy, IsKept, Rest, Firsts, Start, TakesBy, Targets, Next}
use Rattle.g4_net.specs.Network.{ParserNetwork, state_at, start_of}
use Rattle.g4_net.proofs.Finite.{below, In-below, reached_keeps, reached_within, target_within}
use Rattle.g4_net.proofs.Frames.{grows_little}
use Rattle.g4_net.proofs.Pigeons.{In, In-from, In-to}
use Rattle.g4_net.proofs.Ranks.{IsShort, rank, rank_falls}
use Rattle.g4_lookahead.proofs.Apart.{taken}
use Rattle.g4_lookahead.proofs.Listed.{IsFinite, finite_same, finite_none, finite_one, finite_both, finite_some, finite_each, finite_those, contains_decided}

-- each configuration is within the network, above the bottom of the parser's stack
abbrev pub IsPlain : ParserNetwork → Config → Type 0
IsPlain net c = IsWithin net c × (c.stack.wild ≡ false)

-- where the end of a rule leads, above the bottom
returns_finite : (net : ParserNetwork) (rule : ℕ) (c : Config) (returns : List ℕ) (wild : Bool) → wild ≡ false
    → IsFinite (Returns net rule c returns wild)
returns_finite net rule c (t ∷ rest) wild w = finite_one (at_with c t rest)
returns_finite net rule c [] true w = absurd (true≢false w)
returns_finite net rule c [] false w = finite_none (λ d. ⊥) (λ d h. h)

-- where a configuration leads in one step, by its state
leads_finite : (net : ParserNetwork) (o : Option (State (List ℕ))) (c : Config) → c.stack.wild ≡ false → IsFinite (LeadsBy net o c)
leads_finite net None c w = finite_none (λ d. ⊥) (λ d h. h)
leads_finite net (Some (Decision targets)) c w =
    finite_same (λ d. (t : ℕ) × In t targets × (d ≡ at c t)) (LeadsBy net (Some (Decision targets)) c)
    (λ d (t, i, is). (t, In-to targets t i, is))
    (λ d (t, i, is). (t, In-from targets t i.0 i.1 i.2, is))
    (finite_some targets (λ t d. d ≡ at c t) (λ t i. finite_one (at c t)))
leads_finite net (Some (End rule)) c w = returns_finite net rule c c.stack.returns c.stack.wild w
leads_finite net (Some (Edge set t)) c w = finite_none (λ d. ⊥) (λ d h. h)
leads_finite net (Some (Call rule level back)) c w = finite_one (at_with c (start_of rule) (back ∷ c.stack.returns))
leads_finite net (Some (Predicate k t)) c w = finite_one (at c t)
leads_finite net (Some (Level q t)) c w = finite_one (at c t)
leads_finite net (Some (Action t)) c w = finite_one (at c t)
leads_finite net (Some (Empty t)) c w = finite_one (at c t)

-- the configuration with alternative 0
abbrev numberless : Config → Config
numberless c = record c { alt = 0 }

-- it leads on in the same way
numberless_returns : (net : ParserNetwork) (rule : ℕ) (c d : Config) (returns : List ℕ) (wild : Bool)
    → Returns net rule c returns wild d → Returns net rule (numberless c) returns wild (numberless d)
numberless_returns net rule c d (t ∷ rest) wild l = ap numberless l
numberless_returns net rule c d [] true l = (l.0, l.1, ap numberless l.2)
numberless_returns net rule c d [] false l = absurd l

-- so it does in each step
numberless_leads : (net : ParserNetwork) (o : Option (State (List ℕ))) (c d : Config) → LeadsBy net o c d
    → LeadsBy net o (numberless c) (numberless d)
numberless_leads net None c d l = absurd l
numberless_leads net (Some (Decision targets)) c d l = (l.0, l.1, ap numberless l.2)
numberless_leads net (Some (End rule)) c d l = numberless_returns net rule c d c.stack.returns c.stack.wild l
numberless_leads net (Some (Edge set t)) c d l = absurd l
numberless_leads net (Some (Call rule level back)) c d l = ap numberless l
numberless_leads net (Some (Predicate k t)) c d l = ap numberless l
numberless_leads net (Some (Level q t)) c d l = ap numberless l
numberless_leads net (Some (Action t)) c d l = ap numberless l
numberless_leads net (Some (Empty t)) c d l = ap numberless l

module _ (net : ParserNetwork) where
  -- one step and then more
  step_first : (c e d : Config) → Leads net c e → Reaches net e d → Reaches net c d
  step_first c e _ l here = further c e here l
  step_first c e d l (further x _ r m) = further x d (step_first c e x l r) m

  -- what a configuration reaches is itself, or reached from where it leads
  first_step : (c d : Config) → Reaches net c d → (d ≡ c) ⊎ ((e : Config) × Leads net c e × Reaches net e d)
  first_step c _ here = inl refl
  first_step c d (further x _ r l) = elim (first_step c x r) [
    | inl is ↦ inr (d, subst (λ (y : Config). Leads net y d) is l, here)
    | inr s ↦ inr (s.0, s.1, further x d s.2 l)
  ]

  -- a configuration that is reached is short, with alternative 0
  reached_short : (b c : Config) → WellFormed net → IsPlain net b → Reaches net b c
      → IsShort net (length net.states + length b.stack.returns) (numberless c)
  reached_short b c well plain r = record {
    within = reached_within net b c well plain.0 r;
    first = refl;
    bottomed = sym (reached_keeps net b c r).1 ∙ plain.1;
    short = grows_little net b c well.never_again r;
  }

  -- all that a configuration reaches is a finite set, if what it leads to reaches finite sets
  one_more : (c : Config) → ((e : Config) → Leads net c e → IsFinite (Reaches net e)) → c.stack.wild ≡ false → IsFinite (Reaches net c)
  one_more c on w =
      finite_same (λ d. (d ≡ c) ⊎ ((e : Config) × Leads net c e × Reaches net e d)) (Reaches net c)
      (λ d h. elim h [ inl is ↦ subst (Reaches net c) (sym is) here | inr s ↦ step_first c s.0 d s.1 s.2 ])
      (first_step c)
      (finite_both (λ d. d ≡ c) (λ d. (e : Config) × Leads net c e × Reaches net e d) (finite_one c)
      (finite_each (Leads net c) (Reaches net) (leads_finite net (state_at net c.state) c w) on))

  -- and so it is, by induction on how far it goes
  goes_finite : (n : ℕ) (b c : Config) → WellFormed net → IsPlain net b → Reaches net b c
      → rank net (length net.states + length b.stack.returns) (numberless c) < n → IsFinite (Reaches net c)
  goes_finite zero b c well plain r less = absurd (omega arith)
  goes_finite (suc n) b c well plain r less =
      one_more c (λ e l.
      let falls = rank_falls net (length net.states + length b.stack.returns) (numberless c) (numberless e) well
      (reached_short b c well plain r) (numberless_leads net (state_at net c.state) c e l) in
      goes_finite n b e well plain (further c e r l) (omega (arith, falls, less)))
      (sym (reached_keeps net b c r).1 ∙ plain.1)

  -- all that a configuration reaches is a finite set
  reach_finite : (c : Config) → WellFormed net → IsPlain net c → IsFinite (Reaches net c)
  reach_finite c well plain = goes_finite (suc (rank net (length net.states + length c.stack.returns) (numberless c))) c c well plain
      here (omega arith)

  -- whether a configuration is kept can be decided
  kept_decided : (o : Option (State (List ℕ))) → Dec (IsKeptBy o)
  kept_decided None = no (λ h. h)
  kept_decided (Some (Edge set t)) = yes tt
  kept_decided (Some (End rule)) = ℕ_discrete rule 0
  kept_decided (Some (Decision targets)) = no (λ h. h)
  kept_decided (Some (Call rule level back)) = no (λ h. h)
  kept_decided (Some (Predicate k t)) = no (λ h. h)
  kept_decided (Some (Level q t)) = no (λ h. h)
  kept_decided (Some (Action t)) = no (λ h. h)
  kept_decided (Some (Empty t)) = no (λ h. h)

  -- what is kept of all that a finite set leads to is finite
  rest_finite : (C : Config → Type 0) → WellFormed net → ((c : Config) → C c → IsPlain net c) → IsFinite C → IsFinite (Rest net C)
  rest_finite C well plain f =
      finite_same (λ d. (c : Config) × C c × (Reaches net c d × IsKept net d)) (Rest net C)
      (λ d (c, h, (r, k)). (c, h, r, k))
      (λ d (c, h, r, k). (c, h, (r, k)))
      (finite_each C (λ c d. Reaches net c d × IsKept net d) f
      (λ c h. finite_those (Reaches net c) (IsKept net) (reach_finite c well (plain c h)) (λ d. kept_decided (state_at net d.state))))

  -- and its configurations are within the network above the bottom, as the set's are
  rest_plain : (C : Config → Type 0) → WellFormed net → ((c : Config) → C c → IsPlain net c) → (d : Config) → Rest net C d → IsPlain net d
  rest_plain C well plain d (c, h, r, k) = (reached_within net c d well (plain c h).0 r, sym (reached_keeps net c d r).1 ∙ (plain c h).1)

  -- the target on a symbol, by the state
  takes_finite : (o : Option (State (List ℕ))) (c : Config) (a : ℕ) → IsFinite (λ d. TakesBy o a d.state × (d ≡ at c d.state))
  takes_finite None c a = finite_none _ (λ d h. h.0)
  takes_finite (Some (Edge set t)) c a = by (contains_decided set a)
    where
      by : Dec (Contains set a) → IsFinite (λ d. TakesBy (Some (Edge set t)) a d.state × (d ≡ at c d.state))
      by (no n) = finite_none _ (λ d h. n h.0.0)
      by (yes has) =
          finite_same (λ d. d ≡ at c t) (λ d. TakesBy (Some (Edge set t)) a d.state × (d ≡ at c d.state))
          (λ d is. ((has, ap (λ (x : Config). x.state) is), is ∙ ap (λ (p : ℕ). at c p) (sym (ap (λ (x : Config). x.state) is))))
          (λ d h. h.1 ∙ ap (λ (p : ℕ). at c p) h.0.1)
          (finite_one (at c t))
  takes_finite (Some (End rule)) c a = finite_none _ (λ d h. h.0)
  takes_finite (Some (Decision targets)) c a = finite_none _ (λ d h. h.0)
  takes_finite (Some (Call rule level back)) c a = finite_none _ (λ d h. h.0)
  takes_finite (Some (Predicate k t)) c a = finite_none _ (λ d h. h.0)
  takes_finite (Some (Level q t)) c a = finite_none _ (λ d h. h.0)
  takes_finite (Some (Action t)) c a = finite_none _ (λ d h. h.0)
  takes_finite (Some (Empty t)) c a = finite_none _ (λ d h. h.0)

  -- the target of an edge that takes a symbol is within the network
  took_within : (o : Option (State (List ℕ))) (c d : Config) (a : ℕ) → WellFormed net → state_at net c.state ≡ o → TakesBy o a d.state
      → d ≡ at c d.state → IsWithin net c → IsWithin net d
  took_within None c d a well is t e w = absurd t
  took_within (Some (Edge set u)) c d a well is t e w =
      subst (IsWithin net) (sym (e ∙ ap (λ (p : ℕ). at c p) t.1)) (target_within net c set u well is w)
  took_within (Some (End rule)) c d a well is t e w = absurd t
  took_within (Some (Decision targets)) c d a well is t e w = absurd t
  took_within (Some (Call rule level back)) c d a well is t e w = absurd t
  took_within (Some (Predicate k u)) c d a well is t e w = absurd t
  took_within (Some (Level q u)) c d a well is t e w = absurd t
  took_within (Some (Action u)) c d a well is t e w = absurd t
  took_within (Some (Empty u)) c d a well is t e w = absurd t

  -- the targets of a set are within the network above the bottom
  targets_plain : (C : Config → Type 0) (a : ℕ) → WellFormed net → ((c : Config) → C c → IsPlain net c) → (d : Config)
      → Targets net C a d → IsPlain net d
  targets_plain C a well plain d (c, h, t, is) =
      (took_within (state_at net c.state) c d a well refl t is (plain c h).0, ap (λ (x : Config). x.stack.wild) is ∙ (plain c h).1)

  -- the targets of a finite set are finite
  targets_finite : (C : Config → Type 0) (a : ℕ) → IsFinite C → IsFinite (Targets net C a)
  targets_finite C a f =
      finite_same (λ d. (c : Config) × C c × (TakesBy (state_at net c.state) a d.state × (d ≡ at c d.state))) (Targets net C a)
      (λ d (c, h, (t, is)). (c, h, t, is))
      (λ d (c, h, t, is). (c, h, (t, is)))
      (finite_each C (λ c d. TakesBy (state_at net c.state) a d.state × (d ≡ at c d.state)) f
      (λ c h. takes_finite (state_at net c.state) c a))

  -- the set after a finite set is finite
  pub next_finite : (C : Config → Type 0) (a : ℕ) → WellFormed net → ((c : Config) → C c → IsPlain net c) → IsFinite C
      → IsFinite (Next net C a)
  next_finite C a well plain f = rest_finite (Targets net C a) well (targets_plain C a well plain) (targets_finite C a f)

  -- and within the network above the bottom
  pub next_plain : (C : Config → Type 0) (a : ℕ) → WellFormed net → ((c : Config) → C c → IsPlain net c) → (d : Config)
      → Next net C a d → IsPlain net d
  next_plain C a well plain = rest_plain (Targets net C a) well (targets_plain C a well plain)

-- a state is a decision, or none
decision_or_not : (o : Option (State (List ℕ)))
    → ((targets : List ℕ) × (o ≡ Some (Decision targets))) ⊎ ((targets : List ℕ) → o ≡ Some (Decision targets) → ⊥)
decision_or_not (Some (Decision targets)) = inl (targets, refl)
decision_or_not None = inr (λ ts e. let clash : ⊥ = cc in clash)
decision_or_not (Some (End rule)) = inr (λ ts e. let clash : ⊥ = cc in clash)
decision_or_not (Some (Edge set t)) = inr (λ ts e. let clash : ⊥ = cc in clash)
decision_or_not (Some (Call rule level back)) = inr (λ ts e. let clash : ⊥ = cc in clash)
decision_or_not (Some (Predicate k t)) = inr (λ ts e. let clash : ⊥ = cc in clash)
decision_or_not (Some (Level q t)) = inr (λ ts e. let clash : ⊥ = cc in clash)
decision_or_not (Some (Action t)) = inr (λ ts e. let clash : ⊥ = cc in clash)
decision_or_not (Some (Empty t)) = inr (λ ts e. let clash : ⊥ = cc in clash)

module _ (net : ParserNetwork) (d : ℕ) (A : ℕ → Type 0) (decided : (i : ℕ) → Dec (A i)) (z : Stack) where
  -- the configuration is the first of the decision's alternative of this place
  IsFirstAt : List ℕ → ℕ → Config → Type 0
  IsFirstAt targets k c = A (k + 1) × (slice_get targets k ≡ Some c.state) × (c ≡ config c.state (k + 1) z)

  -- there is one or none
  first_finite : (targets : List ℕ) (k : ℕ) → IsFinite (IsFirstAt targets k)
  unfolding IsFirstAt
  first_finite targets k = by (decided (k + 1)) (slice_get targets k) refl
    where
      by : Dec (A (k + 1)) → (o : Option ℕ) → slice_get targets k ≡ o → IsFinite (IsFirstAt targets k)
      by (no n) o e = finite_none (IsFirstAt targets k) (λ c h. n h.0)
      by (yes a) None e = finite_none (IsFirstAt targets k) (λ c h. let e' = h.1 in let clash : ⊥ = cc in clash)
      by (yes a) (Some t) e =
          finite_same (λ c. c ≡ config t (k + 1) z) (IsFirstAt targets k)
          (λ c is. let same = ap (λ (x : Config). x.state) is in
          (a, e ∙ ap (λ (p : ℕ). Some p) (sym same), is ∙ ap (λ (p : ℕ). config p (k + 1) z) (sym same)))
          (λ c h. let e' = h.1 in let same : c.state ≡ t = cc in h.2 ∙ ap (λ (p : ℕ). config p (k + 1) z) same)
          (finite_one (config t (k + 1) z))

  -- the first states of the allowed alternatives of a decision are finite
  firsts_of : (targets : List ℕ) → state_at net d ≡ Some (Decision targets) → IsFinite (Firsts net d A z)
  unfolding IsFirstAt
  firsts_of targets is = finite_same (λ c. (k : ℕ) × In k (below (length targets)) × IsFirstAt targets k c) (Firsts net d A z) to from
      (finite_some (below (length targets)) (IsFirstAt targets) (λ k i. first_finite targets k))
    where
      to : (c : Config) → (k : ℕ) × In k (below (length targets)) × IsFirstAt targets k c → Firsts net d A z c
      to c (k, i, (a, at_place, same)) =
          let alt : c.alt ≡ k + 1 = ap (λ (x : Config). x.alt) same in
          (subst A (sym alt) a, (targets, k, is, at_place, alt), ap (λ (x : Config). x.stack) same)

      from : (c : Config) → Firsts net d A z c → (k : ℕ) × In k (below (length targets)) × IsFirstAt targets k c
      from c (a, (ts, k, is', at_place, alt), stack) =
          let same : ts ≡ targets = cc in
          let at_own : slice_get targets k ≡ Some c.state = subst (λ (xs : List ℕ). slice_get xs k ≡ Some c.state) same at_place in (
            k,
            In-below (length targets) k (slice_get_within targets k c.state at_own),
            (subst A alt a, at_own, ap (λ (i : ℕ). config c.state i c.stack) alt ∙ ap (λ (y : Stack). config c.state (k + 1) y) stack),
          )

  -- and where there is no decision there are none
  firsts_finite : IsFinite (Firsts net d A z)
  firsts_finite = elim (decision_or_not (state_at net d)) [
    | inl h ↦ firsts_of h.0 h.1
    | inr never ↦ finite_none (Firsts net d A z) (λ c h. never h.1.0 h.1.2)
  ]

  -- they are within the network above the bottom, as the stack is
  firsts_plain : WellFormed net → All (λ t. t < length net.states) z.returns → z.wild ≡ false → (c : Config) → Firsts net d A z c
      → IsPlain net c
  firsts_plain well all marked c (a, (targets, k, is, at_place, alt), stack) = (
    (
      well.targets d c.state (Decision targets) is (taken targets k c.state at_place),
      subst (λ (y : Stack). All (λ t. t < length net.states) y.returns) (sym stack) all,
    ),
    ap (λ (y : Stack). y.wild) stack ∙ marked,
  )

  -- the start set is finite
  pub start_finite : WellFormed net → All (λ t. t < length net.states) z.returns → z.wild ≡ false → IsFinite (Start net d A z)
  start_finite well all marked = rest_finite net (Firsts net d A z) well (firsts_plain well all marked) firsts_finite

  -- and within the network above the bottom
  pub start_plain : WellFormed net → All (λ t. t < length net.states) z.returns → z.wild ≡ false → (c : Config) → Start net d A z c
      → IsPlain net c
  start_plain well all marked = rest_plain net (Firsts net d A z) well (firsts_plain well all marked)
