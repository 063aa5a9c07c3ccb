use Rattle.std.proofs.Common.{◌≡◌, length, refl, ap, ◌∙◌, rules}
use Rattle.g4_parse.proofs.Turns.{keeps_token}
use Rattle.g4_parse.proofs.parser.Parser.keep.Goals as goal

pub returns-in_ok-token-clause-kept : goal.returns-in_ok-token-clause-kept
returns-in_ok-token-clause-kept c = λ r h. keeps_token r r.frames c.args.self.now _ refl
    (λ e. let none : length c.args.self.now.returns.items ≡ 0 = ap length (h.returns ∙ e) in search rules) h refl refl refl refl
    c.in_ok-token.ensures
