-- A number that falls with every step of a run: the tokens left, and how far the moment can go on without one.
use Rattle.std.proofs.Common.{◌≡◌, inl, inr, ◌+◌, ◌*◌, ◌-◌, ◌<◌, ℕ, suc, List, length, refl, ◌∙◌, ap, arith}
use Rattle.std.proofs.Math.ListN.{length-map}
use Rattle.std.proofs.Math.Nat.{suc-mul}
use Rattle.std.proofs.lemmas.Option.{slice_get_within}
use Rattle.g4_net.specs.Configurations.{Config, config, above_bottom}
use Rattle.g4_net.specs.Network.{ParserNetwork, state_at}
use Rattle.g4_net.specs.Leads.{WellFormed}
use Rattle.g4_net.specs.AddedRule.{IsRunnable}
use Rattle.g4_tokens.specs.TokenList.{EndsInEnd}
use Rattle.g4_net.proofs.Ranks.{IsShort, size, rank, rank_small, rank_falls}
use Rattle.g4_lookahead.proofs.Proper.{proper_within}
use Rattle.g4_run.specs.Running.{Frame, Run, Values, backs, deepest}
use Rattle.g4_parse.proofs.Stages.{Stage, advances}
use Rattle.g4_parse.proofs.Steps.{TakesToken, TakesNone, token_or_none, Proceeds}

-- where a run is, as a configuration
abbrev pub config_at : ℕ → List ℕ → Config
config_at p returns = config p 0 (above_bottom returns)

-- the number at a place, a state and return states, newest first, the token list having n tokens
pub measure_at : ParserNetwork → ℕ → ℕ → ℕ → List ℕ → ℕ
measure_at net n place p returns = (n - place) * size net deepest + rank net deepest (config_at p returns)

-- one more of something outweighs less than it
outweighs : (k m s a b : ℕ) → m ≡ suc k → a < s → k * s + a < m * s + b
outweighs k m s a b e less = let more : m * s ≡ k * s + s = ap (λ (j : ℕ). j * s) e ∙ suc-mul k s in omega arith

-- a moment of a run is within bounds
is_short : (net : ParserNetwork) (loop n : ℕ) (r : Run) → WellFormed net → Stage net loop n r
    → IsShort net deepest (config_at r.state (backs r.frames))
is_short net loop n r well h = record {
  within = (h.state_in, proper_within net r.state (backs r.frames) well h.proper);
  first = refl;
  bottomed = refl;
  short = let few = h.short in omega (arith, length-map r.frames (λ (f : Frame). f.back));
}

module _ {looped : List ℕ} (net : ParserNetwork) (rule loop : ℕ) (ready : IsRunnable net rule loop looped) (values : Values)
    (word : List ℕ) (ends : EndsInEnd word) where
  -- a step without a token
  falls_along : (r s : Run) → Stage net loop (length word) r → TakesNone net r s
      → measure_at net (length word) s.place s.state (backs s.frames) < measure_at net (length word) r.place r.state (backs r.frames)
  unfolding measure_at
  falls_along r s h step =
      let less = rank_falls net deepest (config_at r.state (backs r.frames)) (config_at s.state (backs s.frames)) ready.well_formed
      (is_short net loop (length word) r ready.well_formed h) (step.leads 0) in
      let left : (length word - s.place) * size net deepest ≡ (length word - r.place) * size net deepest =
      ap (λ (k : ℕ). (length word - k) * size net deepest) step.place in
      omega arith

  -- one with a token
  falls_taking : (r s : Run) → Stage net loop (length word) s → TakesToken net word r s
      → measure_at net (length word) s.place s.state (backs s.frames) < measure_at net (length word) r.place r.state (backs r.frames)
  unfolding measure_at
  falls_taking r s k step =
      let within = slice_get_within word r.place step.symbol step.next in
      let small = rank_small net deepest (config_at s.state (backs s.frames)) ready.well_formed
      (is_short net loop (length word) s ready.well_formed k) in
      outweighs (length word - s.place) (length word - r.place) (size net deepest)
      (rank net deepest (config_at s.state (backs s.frames))) (rank net deepest (config_at r.state (backs r.frames)))
      (omega (arith, step.place)) small

  -- each step makes it fall
  pub falls : (r s : Run) → Stage net loop (length word) r → Proceeds net values word r s
      → measure_at net (length word) s.place s.state (backs s.frames) < measure_at net (length word) r.place r.state (backs r.frames)
  falls r s h g = elim (token_or_none net values word r s (state_at net r.state) refl g) [
    | inl step ↦ falls_along r s h step
    | inr step ↦ falls_taking r s (advances net rule loop ready values word ends r s h g) step
  ]
