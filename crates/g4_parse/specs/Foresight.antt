-- What a trial has found, at a moment of the run, and what a step of a trial does.
use Rattle.std.specs.Prelude.{◌≡◌, ℕ, List, [], ◌∷◌, ◌++◌, Option, Some, None, Vec, drop, slice_get}
use Rattle.std.specs.Global.{Global}
use Rattle.g4_net.specs.declared.network.State.{State}
use Rattle.g4_net.specs.declared.network.State.TheVariants.{Decision}
use Rattle.g4_net.specs.Network.{ParserNetwork, state_at, IsFirst}
use Rattle.g4_run.specs.Running.{AllowsAt, GoesBy, Run, Values, beginning, begun, deepest, with_alt}
use Rattle.g4_run.specs.Trials.{IsBeforeFitting, TrialEnds}
use Rattle.g4_parse.specs.Standing.{StandsFor}
use Rattle.g4_parse.specs.declared.parser.Parser.{Parser}
use Rattle.g4_parse.specs.declared.trial.Found.{Found}
use Rattle.g4_parse.specs.declared.trial.Found.TheVariants.{Alternatives, NoEnd, Nothing}
use Rattle.g4_parse.specs.declared.trial.Trial.{Trial}

-- the moment after an alternative that begins at t
abbrev pub at_target : ParserNetwork → Run → ℕ → Run
at_target net r t = record r { state = t; frames = with_alt (begun net t (state_at net t)) r.frames }

module _ (net : ParserNetwork) (values : Values) (word : List ℕ) where
  -- a trial that comes to the end from the one moment does so from the other, after so many more decisions
  abbrev pub LeadsOn : ℕ → Run → Run → Type 0
  LeadsOn n r s = (alternatives : List ℕ) → TrialEnds net values word r alternatives → TrialEnds net values word s (drop n alternatives)

  -- After so many decisions from the beginning the run is at this moment; and where a trial has found alternatives, a trial from there
  -- comes to the end with those that are left.
  abbrev pub ForeseesBy : ℕ → Found → Run → Type 0
  ForeseesBy n Nothing r = LeadsOn n beginning r
  ForeseesBy n NoEnd r = Unit {0}
  ForeseesBy n (Alternatives found) r = TrialEnds net values word r (drop n found.items)

  abbrev pub Foresees : Trial → Run → Type 0
  Foresees t r = ForeseesBy t.decided t.found r

  -- the parser is at a moment at which the trial is right
  abbrev pub IsForeseen : Parser → Trial → Type 0
  IsForeseen p t = (r : Run) × StandsFor p r × Foresees t r

  -- the alternative is allowed at the moment, none that is less is allowed and fits, and the parser is at where it begins
  abbrev pub TakesBy : Run → Parser → ℕ → Type 0
  TakesBy r p i = AllowsAt net values word r i × IsBeforeFitting net values word r i
      × ((t : ℕ) × IsFirst net r.state i t × StandsFor p (at_target net r t))

  -- a step of a trial by the state, with the alternatives before and after it
  abbrev pub TriesBy : Option (State (List ℕ)) → Run → Run → List ℕ → List ℕ → Type 0
  TriesBy (Some (Decision targets)) r s before after = (i t : ℕ) × AllowsAt net values word r i × IsBeforeFitting net values word r i
      × IsFirst net r.state i t × (s ≡ at_target net r t) × (after ≡ before ++ i ∷ [])
  TriesBy o r s before after = GoesBy net values word deepest o r s × (after ≡ before)

  abbrev pub Tries : Run → Run → List ℕ → List ℕ → Type 0
  Tries r s before after = TriesBy (state_at net r.state) r s before after

-- what is found by a trial that was made
abbrev pub found_by : Option (Vec ℕ Global) → Found
found_by (Some alternatives) = Alternatives alternatives
found_by None = NoEnd

-- this is the alternative of the next decision among those that were found
abbrev pub IsNextBy : ℕ → Found → ℕ → Type 0
IsNextBy n Nothing i = ⊥
IsNextBy n NoEnd i = ⊥
IsNextBy n (Alternatives found) i = slice_get found.items n ≡ Some i

abbrev pub IsNextOf : Trial → ℕ → Type 0
IsNextOf t i = IsNextBy t.decided t.found i
