use Rattle.std.proofs.Common.{ap, ◌∙◌}
use Rattle.std.proofs.lemmas.Result.{err_from_is_err_and}
use Rattle.std.proofs.Common.{List}
use Rattle.g4_resolve.specs.Resolving.{resolved}
use Rattle.g4_token_file.specs.declared.entry.TokenEntry.{TokenEntry}
use Rattle.g4_load.proofs.Built.{check_exit, fits_limits, number_exit, types_are}
use Rattle.g4_load.proofs.loading.number_and_check.Goals as goal

pub returns-in_err-vocabulary-clause-numbered : goal.returns-in_err-vocabulary-clause-numbered
returns-in_err-vocabulary-clause-numbered c =
    let p = err_from_is_err_and c.from_residual.result c.from_residual.ensures.1 in
    let fault = c.in_err-vocabulary.field-0.0 in
    rw (p.1, p.2) (number_exit c.args.table c.args.source.now fault c.in_err-vocabulary.ensures)

pub returns-in_err-check-clause-numbered : goal.returns-in_err-check-clause-numbered
returns-in_err-check-clause-numbered c =
    let p = err_from_is_err_and c.from_residual-in_err-check.result c.from_residual-in_err-check.ensures.1 in
    rw (p.1, p.2)
    (check_exit c.args.table c.args.source.now c.in_ok-vocabulary.vocabulary c.in_ok-vocabulary.ensures _
    c.in_err-check.ensures.checked)

pub resolve-requires-clause-numbered : goal.resolve-requires-clause-numbered
resolve-requires-clause-numbered c = c.in_ok-vocabulary.ensures.fits

pub resolve-requires-clause-checked : goal.resolve-requires-clause-checked
resolve-requires-clause-checked c = record {
  full = c.requires.full;
  defined = c.in_ok-check.ensures.defined;
  run = c.in_ok-check.ensures.run;
}

pub predicates_of-requires : goal.predicates_of-requires
predicates_of-requires c = c.in_ok-check.ensures.checked.0.0

pub returns-clause-numbered : goal.returns-clause-numbered
returns-clause-numbered c =
    let table = c.args.table in
    let source = c.args.source.now in
    let numbered = c.in_ok-vocabulary.ensures in
    record {
      fits = fits_limits table source c.in_ok-vocabulary.vocabulary numbered;
      checked = c.in_ok-check.ensures.checked;
      rules = c.in_ok-rules.ensures ∙ ap (λ (ts : List TokenEntry). resolved ts source) numbered.types;
      predicates = c.in_ok-predicates.ensures;
      types = c.in_ok-types.ensures.types ∙ types_are table source c.in_ok-vocabulary.vocabulary numbered;
    }

pub returns-clause-ready : goal.returns-clause-ready
returns-clause-ready c = record {
  low_names = c.in_ok-types.ensures.names;
  low_literals = c.in_ok-types.ensures.literals;
  defined = c.in_ok-check.ensures.defined;
  run = c.in_ok-check.ensures.run;
}
