use Rattle.std.proofs.Common.{List, refl, subst}
use Rattle.g4_fetch.specs.declared.closure.GrammarFile.{GrammarFile}
use Rattle.g4_imports.specs.Composites.{IsComposite, apart}
use Rattle.g4_imports.proofs.composite.compose_apart.Goals as goal

pub returns : goal.returns
returns c =
    let lexer = c.in_ok-lexer.lexer in
    apart c.args.lexer _ lexer
    (subst (λ (files : List GrammarFile). IsComposite files c.in_ok-grammar.grammar) c.in_ok-others.ensures.items c.in_ok-grammar.ensures)
    refl (subst (λ (files : List GrammarFile). IsComposite files lexer) c.in_ok-others.ensures.tail c.in_ok-lexer.ensures)
