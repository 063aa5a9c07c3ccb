-- A trial that comes to the end took at each decision the least alternative that fits, so the run takes the same.
use Rattle.std.proofs.Common.{◌≡◌, ◌≤◌, ℕ, List, [], ◌∷◌, drop, Option, Some, None, refl, sym, ◌∙◌, ap, subst, arith}
use Rattle.g4_fits.specs.Fitting.{Fits, IsLeastThatFits, SpellsEach}
use Rattle.g4_fits.proofs.Arriving.{called_are_own, last_is_own}
use Rattle.g4_guards.proofs.Choosing.{chooses_least}
use Rattle.g4_lookahead.proofs.OneChoice.{one_first}
use Rattle.g4_net.specs.AddedRule.{IsReady}
use Rattle.g4_net.specs.Network.{ParserNetwork, state_at, IsFirst}
use Rattle.g4_net.specs.Prediction.{chosen}
use Rattle.g4_net.specs.Proper.{IsProper}
use Rattle.g4_net.specs.Spelling.{ends}
use Rattle.g4_net.specs.declared.network.State.{State}
use Rattle.g4_net.specs.declared.network.State.TheVariants.{Decision, End, Edge, Call, Predicate, Level, Action, Empty}
use Rattle.g4_run.specs.Running.{AllowsAt, ClosesBy, Frame, Goes, GoesBy, Run, Values, backs, begun, deepest, with_alt}
use Rattle.g4_run.specs.Trials.{TrialEnds, decided, decisions_by, ended, went}
use Rattle.g4_run.proofs.Moments.{backs_alt, first_in}
use Rattle.g4_run.proofs.OneEnding.{goes_once}
use Rattle.g4_run.proofs.Spelled.{SpellsOn, back_by, back_passed}

module _ (net : ParserNetwork) (values : Values) (word : List ℕ) where
  -- the moment after an alternative of a decision
  abbrev at_target : Run → ℕ → Run
  at_target r t = record r { state = t; frames = with_alt (begun net t (state_at net t)) r.frames }

  -- what is spelled from a target of a decision is spelled from the decision
  back_decided : (r : Run) (targets : List ℕ) (i t : ℕ) → state_at net r.state ≡ Some (Decision targets) → IsFirst net r.state i t
      → SpellsOn net values word (at_target r t) [] → SpellsOn net values word r []
  back_decided r targets i t is first h =
      back_passed net values word r (at_target r t) (Some (Decision targets)) t [] is (first_in net r.state i t targets is first) refl refl
      (backs_alt (begun net t (state_at net t)) r.frames) h

  -- where a trial comes to the end, all that is left of the word is spelled
  trial_spells : (r : Run) (alternatives : List ℕ) → TrialEnds net values word r alternatives → SpellsOn net values word r []
  trial_spells r _ (ended _ rule is none nothing) =
      subst (λ (fs : List Frame). SpellsEach net (r.state ∷ backs fs) (drop r.place word) []) (sym none)
      (drop r.place word, ends r.state rule (drop r.place word) is, nothing)
  trial_spells r _ (decided _ targets i t more is may least first h) =
      back_decided r targets i t is first (trial_spells (at_target r t) more h)
  trial_spells r alternatives (went _ s _ none step h) =
      back_by net values word deepest r s (state_at net r.state) [] refl step (trial_spells s alternatives h)

  -- what is spelled from a target of a decision fits
  target_fits : (r : Run) (i t : ℕ) → IsFirst net r.state i t → SpellsOn net values word (at_target r t) []
      → Fits net r.state i (backs r.frames) (drop r.place word)
  target_fits r i t first h = (
    t,
    first,
    subst (λ (ps : List ℕ). SpellsEach net (t ∷ ps) (drop r.place word) [])
        (backs_alt (begun net t (state_at net t)) r.frames) h,
  )

  -- a rule's end is no decision
  no_end : (p rule : ℕ) (targets : List ℕ) → state_at net p ≡ Some (End rule) → state_at net p ≡ Some (Decision targets) → ⊥
  no_end p rule targets is at = let no : ⊥ = cc in no

  -- The alternative of a trial that comes to the end, at the decision of a moment.
  record IsTried (r : Run) (alternatives : List ℕ) : Type 0 where
    first : ℕ
    more : List ℕ
    target : ℕ
    are : alternatives ≡ first ∷ more
    least : IsLeastThatFits net r.state (AllowsAt net values word r) (backs r.frames) (drop r.place word) first
    begins : IsFirst net r.state first target
    after : TrialEnds net values word (at_target r target) more

  -- it is the least that fits
  tried : (r : Run) (targets alternatives : List ℕ) → state_at net r.state ≡ Some (Decision targets)
      → TrialEnds net values word r alternatives → IsTried r alternatives
  tried r targets _ at (ended _ rule is none nothing) = absurd (no_end r.state rule targets is at)
  tried r targets _ at (decided _ _ i t more is may least first h) = record {
    first = i;
    more = more;
    target = t;
    are = refl;
    least = record { allowed = may; fits = target_fits r i t first (trial_spells (at_target r t) more h); least = least };
    begins = first;
    after = h;
  }
  tried r targets alternatives at (went _ s _ none step h) = absurd (none targets at)

  pub trial_least : (r : Run) (targets : List ℕ) (i : ℕ) (more : List ℕ) → state_at net r.state ≡ Some (Decision targets)
      → TrialEnds net values word r (i ∷ more)
      → IsLeastThatFits net r.state (AllowsAt net values word r) (backs r.frames) (drop r.place word) i
  trial_least r targets i more at h =
      let t = tried r targets (i ∷ more) at h in
      let are : i ∷ more ≡ t.first ∷ t.more = t.are in
      let same : t.first ≡ i = cc in
      subst (λ (j : ℕ). IsLeastThatFits net r.state (AllowsAt net values word r) (backs r.frames) (drop r.place word) j) same t.least

  -- with no rule open a rule's end leads nowhere
  closes_nowhere : (r : Run) (fs : List Frame) (s : Run) → fs ≡ [] → ClosesBy net values word r fs s → ⊥
  closes_nowhere r [] s none h = h
  closes_nowhere r (f ∷ fs) s none h = cc

  -- at a state that is no decision a trial goes where the run does
  pub goes_on : (r s : Run) (alternatives : List ℕ) → ((targets : List ℕ) → state_at net r.state ≡ Some (Decision targets) → ⊥)
      → Goes net values word deepest r s → TrialEnds net values word r alternatives → TrialEnds net values word s alternatives
  goes_on r s _ other step (ended _ rule is none nothing) =
      absurd (closes_nowhere r r.frames s none (subst (λ (o : Option (State (List ℕ))). GoesBy net values word deepest o r s) is step))
  goes_on r s _ other step (decided _ targets i t more is may least first h) = absurd (other targets is)
  goes_on r s alternatives other step (went _ u _ none first h) =
      subst (λ (x : Run). TrialEnds net values word x alternatives)
      (goes_once net values word (state_at net r.state) r u s first step) h

  -- at a decision the run chooses the least alternative that fits, which is that of the trial
  pub chooses_on : (r s : Run) (targets alternatives : List ℕ) → IsReady net → IsProper net r.state (backs r.frames)
      → state_at net r.state ≡ Some (Decision targets) → GoesBy net values word deepest (Some (Decision targets)) r s
      → TrialEnds net values word r alternatives → TrialEnds net values word s (drop 1 alternatives)
  chooses_on r s targets alternatives ready proper at (j, u, says, first, e) h =
      let t = tried r targets alternatives at h in
      let c = chooses_least net (last_is_own net ready) (called_are_own net ready) r.state (AllowsAt net values word r) (backs r.frames)
      (drop r.place word) proper (chosen j) (t.first, t.least.allowed, t.least.fits) says in
      let said : chosen j ≡ chosen c.0 = c.1 in
      let number : j ≡ c.0 = cc in
      let low : t.first ≤ c.0 = t.least.least c.0 c.2.allowed c.2.fits in
      let high : c.0 ≤ t.first = c.2.least t.first t.least.allowed t.least.fits in
      let same : j ≡ t.first = omega (arith, number, low, high) in
      let target : u ≡ t.target = one_first net r.state t.first u t.target (subst (λ (n : ℕ). IsFirst net r.state n u) same first)
      t.begins in
      let moment : at_target r t.target ≡ s = ap (λ (x : ℕ). at_target r x) (sym target) ∙ sym e in
      let rest : t.more ≡ drop 1 alternatives = sym (ap (λ (xs : List ℕ). drop 1 xs) t.are) in
      subst (λ (xs : List ℕ). TrialEnds net values word s xs) rest
      (subst (λ (x : Run). TrialEnds net values word x t.more) moment t.after)

  -- so a trial comes to the end from the next moment of the run too, with the alternatives that are left
  trial_by : (r s : Run) (o : Option (State (List ℕ))) (alternatives : List ℕ) → IsReady net → IsProper net r.state (backs r.frames)
      → state_at net r.state ≡ o → Goes net values word deepest r s → TrialEnds net values word r alternatives
      → TrialEnds net values word s (drop (decisions_by o) alternatives)
  trial_by r s (Some (Decision targets)) alternatives ready proper is step h =
      chooses_on r s targets alternatives ready proper is
      (subst (λ (o : Option (State (List ℕ))). GoesBy net values word deepest o r s) is step) h
  trial_by r s (Some (End rule)) alternatives ready proper is step h = goes_on r s alternatives (λ targets at. cc) step h
  trial_by r s (Some (Edge set t)) alternatives ready proper is step h = goes_on r s alternatives (λ targets at. cc) step h
  trial_by r s (Some (Call rule level back)) alternatives ready proper is step h = goes_on r s alternatives (λ targets at. cc) step h
  trial_by r s (Some (Predicate k t)) alternatives ready proper is step h = goes_on r s alternatives (λ targets at. cc) step h
  trial_by r s (Some (Level q t)) alternatives ready proper is step h = goes_on r s alternatives (λ targets at. cc) step h
  trial_by r s (Some (Action t)) alternatives ready proper is step h = goes_on r s alternatives (λ targets at. cc) step h
  trial_by r s (Some (Empty t)) alternatives ready proper is step h = goes_on r s alternatives (λ targets at. cc) step h
  trial_by r s None alternatives ready proper is step h = goes_on r s alternatives (λ targets at. cc) step h

  pub trial_goes : (r s : Run) (alternatives : List ℕ) → IsReady net → IsProper net r.state (backs r.frames)
      → Goes net values word deepest r s → TrialEnds net values word r alternatives
      → TrialEnds net values word s (drop (decisions_by (state_at net r.state)) alternatives)
  trial_goes r s alternatives ready proper step h = trial_by r s (state_at net r.state) alternatives ready proper refl step h
