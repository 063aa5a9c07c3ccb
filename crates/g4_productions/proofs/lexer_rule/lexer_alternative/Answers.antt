use Rattle.std.proofs.Common.{refl, ◌∙◌, ap}
use Rattle.g4_cursor.proofs.Moving.{so, upon}
use Rattle.g4_source.specs.Trees.{in_order}
use Rattle.g4_productions.proofs.lexer_rule.lexer_alternative.Goals as goal

pub returns : goal.returns
returns c = upon c.in_ok-elements.ensures (so c.in_ok-commands.ensures (λ cs q xs p. rw (q, c.new-elements.ensures ∙ ap in_order p) refl))
