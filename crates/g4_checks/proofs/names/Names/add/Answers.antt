use Rattle.std.proofs.Common.{ℕ, List, not, ◌||◌, ap, ◌∙◌}
use Rattle.std.specs.Str.{bytes_eq}
use Rattle.g4_checks.specs.Names.{is_one_of}
use Rattle.g4_checks.proofs.Sets.{set_has, set_added}
use Rattle.g4_checks.proofs.names.Names.add.Goals as goal

pub returns-clause-new : goal.returns-clause-new
returns-clause-new c =
    c.in_ok-is_new.ensures.added ∙ ap not (set_has c.args.name.now c.self.inside.set
    ∙ ap (λ (names : List (List ℕ)). is_one_of names c.args.name.now) c.self.view_is)

pub returns-clause-added : goal.returns-clause-added
returns-clause-added c =
    λ text. set_added c.self.inside.set c.insert.new.self c.args.name c.in_ok-is_new.ensures.updates text
    ∙ ap (λ (names : List (List ℕ)). is_one_of names text || bytes_eq text c.args.name.now) c.self.view_is
