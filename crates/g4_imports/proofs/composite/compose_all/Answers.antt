use Rattle.std.proofs.Common.{List, refl, subst}
use Rattle.g4_fetch.specs.declared.closure.GrammarFile.{GrammarFile}
use Rattle.g4_imports.specs.Composites.{IsComposite, as_one}
use Rattle.g4_imports.proofs.composite.compose_all.Goals as goal

pub returns : goal.returns
returns c = rw c.in-None.is (as_one _
    (subst (λ (files : List GrammarFile). IsComposite files c.in_ok-grammar-in-None.grammar) c.into_vec-files.ensures
    c.in_ok-grammar-in-None.ensures) refl)
