use Rattle.g4_recursion.proofs.Read.{loop_found}
use Rattle.g4_recursion.proofs.grammar.Grammar.has_empty_loop.Goals as goal

pub returns : goal.returns
returns c = loop_found c.args.self.now c.requires.leads c.args.rule c.index.result.now c.requires.within c.index.ensures
    c.as_slice.result.now c.has_empty_loop.result c.as_slice.ensures.value c.has_empty_loop.ensures
