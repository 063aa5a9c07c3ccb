-- What a trial has found goes with the run, and tells the least alternative that fits.
use Rattle.std.proofs.Common.{◌≡◌, ◌↔◌, ◌+◌, ℕ, zero, suc, List, [], ◌∷◌, drop, reverse, Option, Some, None, slice_get, refl, sym, ◌∙◌, ap, subst, add-one}
use Rattle.std.specs.Global.{Global}
use Rattle.std.specs.Prelude.{IfSome, OnOk, Result, Ok, Err, Vec}
use Rattle.g4_fits.specs.Fitting.{IsLeastThatFits}
use Rattle.g4_guards.specs.Levels.{AllowedAt}
use Rattle.g4_net.specs.Network.{ParserNetwork, state_at}
use Rattle.g4_net.specs.Proper.{IsProper}
use Rattle.g4_net.specs.declared.network.State.{State}
use Rattle.g4_net.specs.declared.network.State.TheVariants.{Decision}
use Rattle.g4_run.specs.Running.{AllowsAt, Goes, GoesBy, Run, Values, backs, beginning, deepest}
use Rattle.g4_run.specs.Trials.{TrialEnds}
use Rattle.g4_run.proofs.Trying.{chooses_on, goes_on, trial_least}
use Rattle.g4_parse.specs.Foresight.{Foresees, ForeseesBy, IsForeseen, IsNextBy, IsNextOf, LeadsOn, found_by}
use Rattle.g4_parse.specs.Standing.{IsDeciding, StandsFor}
use Rattle.g4_parse.specs.Teaching.{IsConditionAt}
use Rattle.g4_parse.specs.declared.parser.Parser.{Parser}
use Rattle.g4_parse.specs.declared.trial.Found.{Found}
use Rattle.g4_parse.specs.declared.trial.Found.TheVariants.{Alternatives, NoEnd, Nothing}
use Rattle.g4_parse.specs.declared.trial.Trial.{Trial}
use Rattle.g4_parse.proofs.Grown.{reverse_returns}
use Rattle.g4_parse.proofs.Turns.{under_here}

-- what holds in any case
pub always_ok : {X E P : Type 0} (x : Result X E) → P → OnOk x P
always_ok (Ok x) h = h
always_ok (Err e) h = tt

-- what is left after one more
drop_one_more : (n : ℕ) (xs : List ℕ) → drop 1 (drop n xs) ≡ drop (n + 1) xs
drop_one_more n xs = by n xs ∙ ap (λ (k : ℕ). drop k xs) (sym (add-one n))
  where
    by : (k : ℕ) (ys : List ℕ) → drop 1 (drop k ys) ≡ drop (suc k) ys
    by zero [] = refl
    by zero (y ∷ ys) = refl
    by (suc k) [] = refl
    by (suc k) (y ∷ ys) = by k ys

-- what is at a place is the first of what is left from there
first_left : (xs : List ℕ) (n i : ℕ) → slice_get xs n ≡ Some i → drop n xs ≡ i ∷ drop (suc n) xs
first_left [] zero i is = let no : ⊥ = cc in absurd no
first_left [] (suc n) i is = let no : ⊥ = cc in absurd no
first_left (x ∷ xs) zero i is = ap (λ (y : ℕ). y ∷ xs) (same x i is)
  where
    same : (a b : ℕ) → Some a ≡ Some b → a ≡ b
    same a b e = cc
first_left (x ∷ xs) (suc n) i is = first_left xs n i is

module _ (net : ParserNetwork) (values : Values) (word : List ℕ) where
  -- a trial that leads on once more
  leads_more : (n : ℕ) (q r s : Run) → LeadsOn net values word n q r → LeadsOn net values word 1 r s → LeadsOn net values word (n + 1) q s
  leads_more n q r s first next = λ alternatives h.
      subst (λ (xs : List ℕ). TrialEnds net values word s xs) (drop_one_more n alternatives)
      (next (drop n alternatives) (first alternatives h))

  -- what is found goes on with a decision more
  pub foresees_decided : (n : ℕ) (found : Found) (r s : Run) → LeadsOn net values word 1 r s → ForeseesBy net values word n found r
      → ForeseesBy net values word (n + 1) found s
  foresees_decided n Nothing r s next h = leads_more n beginning r s h next
  foresees_decided n NoEnd r s next h = tt
  foresees_decided n (Alternatives found) r s next h =
      subst (λ (xs : List ℕ). TrialEnds net values word s xs) (drop_one_more n found.items) (next (drop n found.items) h)

  -- a trial that was made has found what is right
  pub foresees_noted : (n : ℕ) (x : Option (Vec ℕ Global)) (r : Run)
      → IfSome x (λ alternatives. TrialEnds net values word beginning alternatives.items) → ForeseesBy net values word n Nothing r
      → ForeseesBy net values word n (found_by x) r
  foresees_noted n (Some alternatives) r ends h = h alternatives.items ends
  foresees_noted n None r ends h = tt

  -- and with a step without one
  foresees_stepped : (n : ℕ) (found : Found) (r s : Run) → ((targets : List ℕ) → state_at net r.state ≡ Some (Decision targets) → ⊥)
      → Goes net values word deepest r s → ForeseesBy net values word n found r → ForeseesBy net values word n found s
  foresees_stepped n Nothing r s other step h = λ alternatives ends.
      goes_on net values word r s (drop n alternatives) other step (h alternatives ends)
  foresees_stepped n NoEnd r s other step h = tt
  foresees_stepped n (Alternatives found) r s other step h = goes_on net values word r s (drop n found.items) other step h

  pub foresees_step : (t : Trial) (r s : Run) → ((targets : List ℕ) → state_at net r.state ≡ Some (Decision targets) → ⊥)
      → Goes net values word deepest r s → Foresees net values word t r → Foresees net values word t s
  foresees_step t r s other step h = foresees_stepped t.decided t.found r s other step h

  -- the stack of a moment at which the parser decides is proper
  proper_now : (n : ℕ) (p : Parser) (r : Run) → StandsFor p r → IsDeciding net n p → IsProper net r.state (backs r.frames)
  proper_now n p r stands (q, other, fit) =
      let states : q.state ≡ r.state = sym other.state ∙ stands.state in
      let returns : backs q.frames ≡ backs r.frames =
      sym (ap reverse other.returns ∙ reverse_returns q.frames) ∙ (ap reverse stands.returns ∙ reverse_returns r.frames) in
      subst (λ (bs : List ℕ). IsProper net r.state bs) returns
      (subst (λ (d : ℕ). IsProper net d (backs q.frames)) states fit.proper)

  -- a decision of the run leads a trial on
  pub decision_leads : (n : ℕ) (p : Parser) (r s : Run) (targets : List ℕ) → StandsFor p r → IsDeciding net n p
      → state_at net p.state ≡ Some (Decision targets) → Goes net values word deepest r s → LeadsOn net values word 1 r s
  decision_leads n p r s targets stands deciding at step = λ alternatives h.
      let decides : state_at net r.state ≡ Some (Decision targets) =
      subst (λ (d : ℕ). state_at net d ≡ Some (Decision targets)) stands.state at in
      chooses_on net values word r s targets alternatives deciding.2.ready (proper_now n p r stands deciding) decides
      (subst (λ (o : Option (State (List ℕ))). GoesBy net values word deepest o r s) decides step) h

  -- the alternative that is found next is the least that fits
  next_by : (n : ℕ) (found : Found) (i : ℕ) (r : Run) (targets : List ℕ) → IsNextBy n found i
      → state_at net r.state ≡ Some (Decision targets) → ForeseesBy net values word n found r
      → IsLeastThatFits net r.state (AllowsAt net values word r) (backs r.frames) (drop r.place word) i
  next_by n Nothing i r targets next decides h = absurd next
  next_by n NoEnd i r targets next decides h = absurd next
  next_by n (Alternatives found) i r targets next decides h =
      trial_least net values word r targets i (drop (suc n) found.items) decides
      (subst (λ (xs : List ℕ). TrialEnds net values word r xs) (first_left found.items n i next) h)

  -- over the same alternatives said in another way
  least_over : (d : ℕ) (A B : ℕ → Type 0) → ((i : ℕ) → A i ↔ B i) → (returns w : List ℕ) (i : ℕ) → IsLeastThatFits net d B returns w i
      → IsLeastThatFits net d A returns w i
  least_over d A B same returns w i h =
      record { allowed = (same i).1 h.allowed; fits = h.fits; least = λ j a f. h.least j ((same j).0 a) f }

  -- so it is where the parser is
  pub known_here : (p : Parser) (t : Trial) (condition i : ℕ) (targets : List ℕ) → IsNextOf t i
      → state_at net p.state ≡ Some (Decision targets) → ((r : Run) → StandsFor p r → IsConditionAt net values word r condition)
      → IsForeseen net values word p t
      → IsLeastThatFits net p.state (AllowedAt net p.state condition) (reverse p.returns.items) (drop p.place word) i
  known_here p t condition i targets next at under (r, stands, h) =
      let decides : state_at net r.state ≡ Some (Decision targets) =
      subst (λ (d : ℕ). state_at net d ≡ Some (Decision targets)) stands.state at in
      let least = next_by t.decided t.found i r targets next decides h in
      let stack : reverse p.returns.items ≡ backs r.frames = ap reverse stands.returns ∙ reverse_returns r.frames in
      let here : IsLeastThatFits net p.state (AllowsAt net values word r) (reverse p.returns.items) (drop p.place word) i =
      rw (stands.state, stands.place, stack) least in
      least_over p.state (AllowedAt net p.state condition) (AllowsAt net values word r)
      (under_here net values word r p condition stands (under r stands)).1 (reverse p.returns.items) (drop p.place word) i here

-- what a turn in the network of the plan foresees
pub own_foresees : (net own : ParserNetwork) (values : Values) (word : List ℕ) (p : Parser) (before after : Trial) → net ≡ own
    → ((r s : Run) → StandsFor p r → Foresees net values word before r → Goes net values word deepest r s
    → Foresees net values word after s)
    → (r s : Run) → StandsFor p r → Foresees own values word before r → Goes own values word deepest r s → Foresees own values word after s
own_foresees net own values word p before after same turn =
    subst (λ (n : ParserNetwork). (r s : Run) → StandsFor p r → Foresees n values word before r → Goes n values word deepest r s
    → Foresees n values word after s) same turn
