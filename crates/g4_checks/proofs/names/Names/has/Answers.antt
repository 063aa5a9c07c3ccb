use Rattle.std.proofs.Common.{ℕ, List, ap, ◌∙◌}
use Rattle.g4_checks.specs.Names.{is_one_of}
use Rattle.g4_checks.proofs.Sets.{set_has}
use Rattle.g4_checks.proofs.names.Names.has.Goals as goal

pub returns : goal.returns
returns c = c.contains.ensures ∙ (set_has c.args.text.now c.self.inside.set
    ∙ ap (λ (names : List (List ℕ)). is_one_of names c.args.text.now) c.self.view_is)
