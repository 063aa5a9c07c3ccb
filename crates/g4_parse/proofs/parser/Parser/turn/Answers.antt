use Rattle.std.proofs.Common.{subst}
use Rattle.g4_guards.specs.Levels.{IsDecision}
use Rattle.g4_net.specs.Network.{ParserNetwork}
use Rattle.g4_tokens.specs.TokenList.{word_of}
use Rattle.g4_parse.proofs.Foreseeing.{always_ok, foresees_step}
use Rattle.g4_parse.proofs.Teaching.{kept_same, untaught}
use Rattle.g4_parse.proofs.Turns.{undecided}
use Rattle.g4_parse.proofs.parser.Parser.turn.Goals as goal

pub returns : goal.returns
returns g c = record {
  turns = c.step.ensures;
  foresees = always_ok c.step.result (λ r s h foresees step. foresees_step c.args.net.now (g.P.Predicates.values c.args.predicates.now)
      (word_of c.args.tokens.now) c.args.trial.now r s
      (λ targets at. undecided c.args.net.now r c.args.self.now c.state_of.result.now h c.state_of.ensures
      (λ others. c.in_default.not-Decision others) (targets, at)) step foresees);
  kept = kept_same c.args.pass.now;
  taught = λ had r h. untaught g.B.Home.plan c.requires.plan (g.P.Predicates.values c.args.predicates.now) (word_of c.args.tokens.now) r
      c.args.pass.now
      (subst (λ (n : ParserNetwork). IsDecision n r.state → ⊥) c.requires.own
      (undecided c.args.net.now r c.args.self.now c.state_of.result.now h c.state_of.ensures
      (λ targets. c.in_default.not-Decision targets)));
}
