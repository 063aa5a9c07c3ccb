use Rattle.std.proofs.Common.{◌∙◌}
use Rattle.std.proofs.lemmas.Result.{err_from_is_err_and}
use Rattle.g4_fetch.proofs.Whole.{gives_too, main_and_imports, not_main}
use Rattle.g4_fetch.specs.Closures.{FetchesGrammar, FetchesImports}
use Rattle.g4_fetch.proofs.grammar.fetch_with_imports.Goals as goal

pub returns-in_err-source-clause-content : goal.returns-in_err-source-clause-content
returns-in_err-source-clause-content g c = λ files library told folder.
    let p = err_from_is_err_and c.from_residual.result c.from_residual.ensures.1 in
    rw (p.1, p.2) (not_main files library c.args.name.now c.in_err-source.field-0.0 (c.in_err-source.ensures.content files told))

pub returns-clause-content : goal.returns-clause-content
returns-clause-content g c = λ files library told folder.
    gives_too (FetchesImports files c.args.prefix.now _) (FetchesGrammar files library c.args.name.now)
    (main_and_imports files library c.args.name.now c.args.prefix.now _ folder
    c.in_ok-copy_of.ensures (c.in_ok-source.ensures.content files told))
    c.fetch_imports.result
    (c.fetch_imports.ensures.content files (c.in_ok-source.ensures.keeps ∙ told))
