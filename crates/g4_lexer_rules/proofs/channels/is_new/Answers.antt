use Rattle.std.proofs.Common.{not, ap, ◌∙◌}
use Rattle.g4_checks.proofs.Sets.{set_added, set_has}
use Rattle.g4_lexer_rules.proofs.channels.is_new.Goals as goal

pub returns-clause-new : goal.returns-clause-new
returns-clause-new c = c.in_ok-is_new.ensures.added ∙ ap not (set_has c.args.name.now c.args.seen.now)

pub returns-clause-added : goal.returns-clause-added
returns-clause-added c = λ text. set_added c.args.seen.now c.insert.new.self c.args.name c.in_ok-is_new.ensures.updates text
