use Rattle.g4_imports.proofs.Kept.{all_kept}
use Rattle.g4_imports.proofs.composite.integrate.Goals as goal

pub returns-clause-rules : goal.returns-clause-rules
returns-clause-rules c = all_kept c.args.grammar.files c.args.lexer c.in_ok-composites.composites c.in_ok-composites.ensures
