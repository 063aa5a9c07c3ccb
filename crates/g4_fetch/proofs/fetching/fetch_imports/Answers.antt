use Rattle.g4_fetch.specs.Closures.{FetchesImports}
use Rattle.g4_fetch.specs.Tasks.{GoesOn}
use Rattle.g4_fetch.proofs.Whole.{gives_too}
use Rattle.g4_fetch.proofs.fetching.fetch_imports.Goals as goal

pub returns-clause-content : goal.returns-clause-content
returns-clause-content g c = λ files told.
    let prefix = c.args.prefix.now in
    gives_too (GoesOn files prefix c.in_ok-fetching.fetching) (FetchesImports files prefix c.args.main)
    (c.in_ok-fetching.ensures files prefix) c.finish.result (c.finish.ensures.content files told)
