-- The parser goes on from an index, and stops there.
use Rattle.std.proofs.Common.{◌≡◌, ℕ, zero, suc, ◌+◌, ◌<◌, ◌≤◌, List, [], ◌∷◌, Option, Some, None, Result, Ok, Err, drop, length, get_or, refl, ap, sym, ◌∙◌, arith}
use Rattle.std.proofs.lemmas.List.{drop_all, drop_more, drop-drop}
use Rattle.g4_preds.specs.declared.fault.Fault.{Fault}
use Rattle.g4_preds.specs.declared.fault.Fault.TheVariants.{Unknown, NoMemory}
use Rattle.g4_preds.specs.declared.node.Node.{Node}
use Rattle.g4_preds.specs.declared.token.Token.{Token}
use Rattle.g4_preds.specs.declared.token.Token.TheVariants.{Exclamation}
use Rattle.g4_preds.specs.Answers.{Answers}
use Rattle.g4_preds.specs.Parsing.{AreNodesOf}
use Rattle.g4_preds.specs.Steps.{State, Step, start, next_step, nodes_from, finished, Takes}
use Rattle.g4_preds.specs.Tests.{Gives}
use Rattle.g4_preds.proofs.Complete.{no_tree}
use Rattle.g4_preds.proofs.Sound.{sound}

-- tokens that are passed over are dropped
skipped : (skip : ℕ) (s : State) (tokens : List Token) → nodes_from skip s tokens ≡ nodes_from 0 s (drop skip tokens)
skipped zero s tokens = refl
skipped (suc skip) s [] = refl
skipped (suc skip) s (token ∷ rest) = skipped skip s rest

by_step : (o p : Option Step) (rest : List Token) → o ≡ p
    → ◌≡◌ {A = Option (List Node)} (elim o [ Some step ↦ nodes_from step.more step.state rest | None ↦ None ])
    (elim p [ Some step ↦ nodes_from step.more step.state rest | None ↦ None ])
by_step o p rest is = ap (λ (q : Option Step).
    elim q as (λ _. Option (List Node)) [ Some step ↦ nodes_from step.more step.state rest | None ↦ None ]) is

-- one more step from an index
pub goes_on : (tokens rest : List Token) (at more : ℕ) (s next : State) → at < length tokens → rest ≡ drop at tokens
    → next_step s rest ≡ Some (record { state = next; more = more })
    → nodes_from 0 next (drop (at + (1 + more)) tokens) ≡ nodes_from 0 s (drop at tokens)
goes_on tokens rest at more s next within rest_is step_is =
    let first : Token = get_or tokens at Exclamation in
    let after : List Token = drop (at + 1) tokens in
    let cut : drop at tokens ≡ first ∷ after = drop_more tokens at Exclamation within in
    let step : next_step s (first ∷ after) ≡ Some (record { state = next; more = more }) =
    ap (next_step s) (sym (rest_is ∙ cut)) ∙ step_is in
    let sum : at + 1 + more ≡ at + (1 + more) = omega arith in
    let left : drop more after ≡ drop (at + (1 + more)) tokens = drop-drop more (at + 1) tokens ∙ ap (λ n. drop n tokens) sum in
    ap (nodes_from 0 next) (sym left) ∙ sym (skipped more next after)
    ∙ sym (by_step (next_step s (first ∷ after)) (Some (record { state = next; more = more })) after step)
    ∙ ap (nodes_from 0 s) (sym cut)

-- no step from an index
stops : (tokens rest : List Token) (at : ℕ) (s : State) → at < length tokens → rest ≡ drop at tokens → next_step s rest ≡ None
    → nodes_from 0 s (drop at tokens) ≡ None
stops tokens rest at s within rest_is step_is =
    let first : Token = get_or tokens at Exclamation in
    let after : List Token = drop (at + 1) tokens in
    let cut : drop at tokens ≡ first ∷ after = drop_more tokens at Exclamation within in
    let step : next_step s (first ∷ after) ≡ None = ap (next_step s) (sym (rest_is ∙ cut)) ∙ step_is in
    ap (nodes_from 0 s) cut ∙ by_step (next_step s (first ∷ after)) None after step

-- where no step goes on there is no predicate
pub refused_at : (tokens rest : List Token) (at : ℕ) (s new : State) (e : Fault) → at < length tokens → rest ≡ drop at tokens
    → nodes_from 0 s (drop at tokens) ≡ nodes_from 0 start tokens → Takes (next_step s rest) new (Err e)
    → Answers (AreNodesOf tokens) (Err e)
refused_at tokens rest at s new Unknown within rest_is so_far takes =
    λ nodes are. no_tree tokens (sym so_far ∙ stops tokens rest at s within rest_is takes) are.tree are.reads
refused_at tokens rest at s new NoMemory within rest_is so_far takes = tt

-- at the end
pub ended_at : (tokens : List Token) (at : ℕ) (s : State) (r : Result (List Node) Fault) → length tokens ≤ at
    → nodes_from 0 s (drop at tokens) ≡ nodes_from 0 start tokens → Gives (finished s) r → Answers (AreNodesOf tokens) r
ended_at tokens at s (Ok nodes) done so_far gives = sound tokens nodes (sym so_far ∙ ap (nodes_from 0 s) (drop_all at tokens done) ∙ gives)
ended_at tokens at s (Err Unknown) done so_far gives =
    λ nodes are. no_tree tokens (sym so_far ∙ ap (nodes_from 0 s) (drop_all at tokens done) ∙ gives) are.tree are.reads
ended_at tokens at s (Err NoMemory) done so_far gives = tt
