use Rattle.std.proofs.Common.{refl}
use Rattle.g4_parse.proofs.Turns.{begins_alt}
use Rattle.g4_parse.proofs.parser.Parser.begin_alternative.Goals as goal

pub returns : goal.returns
returns c = λ r h. begins_alt r c.args.self.now _ c.args.alternative (λ e. c.if-alternative-eq0.false e) h refl refl refl refl
    c.set_alternative.ensures
