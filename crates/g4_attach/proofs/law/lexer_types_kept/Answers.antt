use Rattle.g4_attach.proofs.KeptTypes.{types_grow, types_same}
use Rattle.g4_attach.proofs.law.lexer_types_kept.Goals as goal

pub returns-clause-same : goal.returns-clause-same
returns-clause-same c = types_same

pub returns-clause-grown : goal.returns-clause-grown
returns-clause-grown c = types_grow
