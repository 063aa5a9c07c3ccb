use Rattle.std.proofs.Common.{List, drop, length, refl, reverse, sym, ◌∙◌, ap, subst, ℕ}
use Rattle.g4_full.specs.Ahead.{IsCandidate}
use Rattle.g4_guards.specs.Levels.{AllowedAt}
use Rattle.g4_learned.specs.Tables.{Tables}
use Rattle.g4_learned.proofs.Rests.{ends_ahead}
use Rattle.g4_net.specs.AddedRule.{IsReady}
use Rattle.g4_net.specs.Loops.{HasLoops}
use Rattle.g4_net.specs.Network.{IsFirst, ParserNetwork}
use Rattle.g4_net.specs.Proper.{IsProper}
use Rattle.g4_tokens.specs.TokenList.{word_of}
use Rattle.g4_parse.specs.Foresight.{at_target}
use Rattle.g4_parse.specs.Standing.{StandsFor}
use Rattle.g4_parse.proofs.Trying.{candidate_here, takes_candidate}
use Rattle.g4_parse.proofs.Turns.{more_here, proper_stack}
use Rattle.g4_parse.proofs.parser.Parser.try_alternative.Goals as goal

pub candidate-requires-clause-own : goal.candidate-requires-clause-own
candidate-requires-clause-own g c = c.net-net.ensures ∙ ap (λ (t : Tables). t.net) c.requires.own

pub candidate-requires-clause-ready : goal.candidate-requires-clause-ready
candidate-requires-clause-ready g c =
    subst IsReady (sym (c.net-net.ensures ∙ ap (λ (t : Tables). t.net) c.requires.own)) c.requires.plan.ready

pub candidate-requires-clause-loops : goal.candidate-requires-clause-loops
candidate-requires-clause-loops g c =
    subst HasLoops (sym (c.net-net.ensures ∙ ap (λ (t : Tables). t.net) c.requires.own)) c.requires.plan.loops

pub candidate-requires-clause-proper : goal.candidate-requires-clause-proper
candidate-requires-clause-proper g c =
    subst (λ (n : ParserNetwork). IsProper n c.args.self.now.state (reverse c.as_slice-returns.result.now)) (sym c.net-net.ensures)
    (proper_stack c.args.decisions.now.net (length c.args.tokens.now) c.args.self.now c.as_slice-returns.result.now
    c.as_slice-returns.ensures.value c.requires.deciding)

pub candidate-requires-clause-ends : goal.candidate-requires-clause-ends
candidate-requires-clause-ends g c = ends_ahead c.args.self.now.place c.args.tokens.now c.requires.ends
    (more_here c.args.decisions.now.net (length c.args.tokens.now) c.args.self.now c.requires.deciding)

pub go_to-requires-clause-first : goal.go_to-requires-clause-first
go_to-requires-clause-first g c =
    (candidate_here c.net-net.result.now c.net-net.result.now c.args.self.now.state c.in-Some.condition c.args.self.now.place
    (reverse c.as_slice-returns.result.now) c.args.tokens.now c.in_ok-found.found c.in-Some-found.alternative refl c.in-Some-found.is
    c.in_ok-found.ensures).begins

pub returns : goal.returns
returns g c = λ r h.
    let own = c.args.decisions.now.net in
    let values = g.P.Predicates.values c.args.predicates.now in
    let word : List ℕ = word_of c.args.tokens.now in
    let i : ℕ = c.in-Some-found.alternative in
    let d : ℕ = c.args.self.now.state in
    let found = candidate_here c.net-net.result.now own d c.in-Some.condition c.args.self.now.place (reverse c.as_slice-returns.result.now)
    c.args.tokens.now c.in_ok-found.found i c.net-net.ensures c.in-Some-found.is c.in_ok-found.ensures in
    takes_candidate own values word r c.args.self.now c.go_to.new.self c.in-Some.condition i h (c.in-Some.ensures word r h)
    (subst (λ (rs : List ℕ). IsCandidate own d (AllowedAt own d c.in-Some.condition) (reverse rs) (drop c.args.self.now.place word) i)
    c.as_slice-returns.ensures.value found)
    (λ t first. subst (λ (n : ParserNetwork). StandsFor c.go_to.new.self (at_target n r t)) c.net-net.ensures
    (c.go_to.ensures r t h (subst (λ (n : ParserNetwork). IsFirst n r.state i t) (sym c.net-net.ensures) first)))
