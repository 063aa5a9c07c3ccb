-- A trial of a run: at a decision it takes an alternative before any that fits, and goes on as a run does elsewhere.
use Rattle.std.specs.Prelude.{◌≡◌, ◌≤◌, ℕ, List, [], ◌∷◌, Option, Some, None, drop}
use Rattle.g4_fits.specs.Fitting.{Fits}
use Rattle.g4_net.specs.declared.network.State.{State}
use Rattle.g4_net.specs.declared.network.State.TheVariants.{Decision, End, Edge, Call, Predicate, Level, Action, Empty}
use Rattle.g4_net.specs.Network.{ParserNetwork, state_at, IsFirst}
use Rattle.g4_run.specs.Running.{AllowsAt, Goes, Run, Values, backs, begun, deepest, with_alt}

module _ (net : ParserNetwork) (values : Values) (word : List ℕ) where
  -- No alternative that is allowed at the decision of this moment and fits what is left of the word is less than i.
  abbrev pub IsBeforeFitting : Run → ℕ → Type 0
  IsBeforeFitting r i = (j : ℕ) → AllowsAt net values word r j → Fits net r.state j (backs r.frames) (drop r.place word) → i ≤ j

  -- A trial from the moment comes to the end of a rule with no rule open, and to the end of the word, with these alternatives at its
  -- decisions, in their order. At each it takes an allowed one, and none that is less is allowed and fits. Elsewhere it goes as the run.
  pub data TrialEnds : Run → List ℕ → Type 0 where
    ended : (r : Run) (rule : ℕ) → state_at net r.state ≡ Some (End rule) → r.frames ≡ [] → drop r.place word ≡ [] → TrialEnds r []
    decided : (r : Run) (targets : List ℕ) (i t : ℕ) (more : List ℕ) → state_at net r.state ≡ Some (Decision targets)
        → AllowsAt net values word r i → IsBeforeFitting r i → IsFirst net r.state i t
        → TrialEnds (record r { state = t; frames = with_alt (begun net t (state_at net t)) r.frames }) more → TrialEnds r (i ∷ more)
    went : (r s : Run) (alternatives : List ℕ) → ((targets : List ℕ) → state_at net r.state ≡ Some (Decision targets) → ⊥)
        → Goes net values word deepest r s → TrialEnds s alternatives → TrialEnds r alternatives

-- how many decisions are taken at a state
abbrev pub decisions_by : Option (State (List ℕ)) → ℕ
decisions_by (Some (Decision targets)) = 1
decisions_by (Some (End rule)) = 0
decisions_by (Some (Edge set t)) = 0
decisions_by (Some (Call rule level back)) = 0
decisions_by (Some (Predicate k t)) = 0
decisions_by (Some (Level q t)) = 0
decisions_by (Some (Action t)) = 0
decisions_by (Some (Empty t)) = 0
decisions_by None = 0
