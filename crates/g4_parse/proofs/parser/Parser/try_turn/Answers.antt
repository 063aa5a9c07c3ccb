use Rattle.std.proofs.Common.{List, length, sym, ◌∙◌, subst, ℕ}
use Rattle.g4_net.specs.Network.{ParserNetwork}
use Rattle.g4_net.specs.declared.network.State.TheVariants.{Decision}
use Rattle.g4_tokens.specs.TokenList.{word_of}
use Rattle.g4_parse.specs.Foresight.{TakesBy}
use Rattle.g4_parse.specs.Standing.{HasEnded, IsUnderway}
use Rattle.g4_parse.proofs.Trying.{decides_at, same_state, some_is, stepped_ok, tries_decided, undecided_at}
use Rattle.g4_parse.proofs.parser.Parser.try_turn.Goals as goal

pub returns-in-Decision : goal.returns-in-Decision
returns-in-Decision g c = λ r h is.
    let net = c.args.decisions.now.net in
    let values = g.P.Predicates.values c.args.predicates.now in
    let word : List ℕ = word_of c.args.tokens.now in
    tries_decided net values word r c.try_alternative.new.self _ c.in-Some.alternative c.args.alternatives.now.items c.push.new.self.items
    (decides_at c.net-net.result.now net r c.args.self.now c.state_of.result.now _ h c.net-net.ensures c.state_of.ensures c.in-Decision.is)
    (some_is (TakesBy net values word r c.try_alternative.new.self) c.in_ok-found.found c.in-Some.alternative c.in-Some.is
    (c.in_ok-found.ensures r h)) c.in_ok-push.ensures.items

pub try_step-requires : goal.try_step-requires
try_step-requires g c = record {
  underway = subst (λ (n : ParserNetwork). IsUnderway n (length c.args.tokens.now) c.args.self.now) (sym c.net-net.ensures)
      c.requires.underway;
  goes_on = subst (λ (n : ParserNetwork). HasEnded n c.args.self.now → ⊥) (sym c.net-net.ensures) c.requires.goes_on;
  chooses_none = λ targets at. c.in_default.not-Decision targets
      (same_state c.state_of.result.now (Decision targets) (sym c.state_of.ensures ∙ at));
  few = c.requires.few;
}

pub returns : goal.returns
returns g c = λ r h.
    let net = c.args.decisions.now.net in
    let values = g.P.Predicates.values c.args.predicates.now in
    let word : List ℕ = word_of c.args.tokens.now in
    stepped_ok c.net-net.result.now net values word r c.try_step.new.self c.args.alternatives.now.items c.try_step.result c.net-net.ensures
    (undecided_at c.net-net.result.now net r c.args.self.now c.state_of.result.now h c.net-net.ensures c.state_of.ensures
    (λ targets. c.in_default.not-Decision targets)) (c.try_step.ensures r h)
