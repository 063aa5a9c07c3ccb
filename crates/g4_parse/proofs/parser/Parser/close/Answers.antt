use Rattle.std.proofs.Common.{ℕ, ◌-◌, take, refl, ap, ◌∙◌}
use Rattle.g4_parse.proofs.Turns.{closes}
use Rattle.g4_parse.proofs.parser.Parser.close.Goals as goal

pub returns : goal.returns
returns c = λ net values word rule r h. closes net values word r r.frames c.args.self.now _ c.in-Some.back c.pop.new.self.items refl h
    c.in-Some.ensures.items refl refl refl (c.pop-2.ensures.rest
    ∙ ap (λ (n : ℕ). take (n - 1) c.args.self.now.opened.items) c.args.self.now.opened.ok.0) c.in_ok-close.ensures
