use Rattle.std.proofs.lemmas.Result.{err_from_is_err_and}
use Rattle.g4_load.proofs.Composed.{import_halts}
use Rattle.g4_load.proofs.Kept.{both_full}
use Rattle.g4_load.proofs.loading.compose.Goals as goal

pub returns-in_err-composites-clause-composes : goal.returns-in_err-composites-clause-composes
returns-in_err-composites-clause-composes c =
    let p = err_from_is_err_and c.from_residual.result c.from_residual.ensures.1 in
    rw (p.1, p.2) (import_halts c.args.grammar c.args.lexer c.in_err-composites.field-0.0 c.in_err-composites.ensures.composites)

pub returns-clause-full : goal.returns-clause-full
returns-clause-full c =
    both_full c.args.grammar.files c.in_ok-composites.composites c.requires.whole.1 c.in_ok-composites.ensures.rules
