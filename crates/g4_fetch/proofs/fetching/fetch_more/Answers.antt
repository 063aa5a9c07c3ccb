use Rattle.g4_fetch.specs.Closures.{FetchesMore}
use Rattle.g4_fetch.specs.Tasks.{GoesOn}
use Rattle.g4_fetch.proofs.Whole.{gives_too, grown}
use Rattle.g4_fetch.proofs.fetching.fetch_more.Goals as goal

pub returns-clause-content : goal.returns-clause-content
returns-clause-content g c = λ files told.
    let prefix = c.args.prefix.now in
    gives_too (GoesOn files prefix c.in_ok-fetching.fetching) (FetchesMore files prefix c.args.reached c.args.file)
    (c.in_ok-fetching.ensures.content files prefix) c.finish.result (c.finish.ensures.content files told)

pub returns-clause-grows : goal.returns-clause-grows
returns-clause-grows g c =
    grown _ _ c.in_ok-fetching.ensures.grows c.finish.result c.finish.ensures.grows
