use Rattle.std.proofs.Common.{◌≡◌, List, [], ◌∷◌, ◌++◌, take, sym, ap, ◌∙◌, subst, arith}
use Rattle.std.specs.List.{Contains}
use Rattle.std.proofs.lemmas.List.{take_all, take_more}
use Rattle.g4_fetch.specs.declared.closure.Import.{Import}
use Rattle.g4_imports.specs.Clauses.{Covers}
use Rattle.g4_imports.proofs.modes.push_imports.Goals as goal

pub loop-import-preserved : goal.loop-import-preserved
loop-import-preserved c = λ grammar all same start.
    let imports = c.args.imports.now in
    let i = c.loop-import.import-index in
    let item = c.import-item.result in
    let there : Contains grammar.imports item =
    subst (λ (is : List Import). Contains is item) (sym same) (i, c.loop-import-test.true, sym c.import-item.is) in
    subst (λ (is : List Import). Covers grammar c.args.count is c.push_import.new.clauses.items)
    (sym (take_more imports i item c.loop-import-test.true
    ∙ ap (λ (z : Import). take i imports ++ z ∷ []) (sym c.import-item.is)))
    (c.in_ok-push_import.ensures grammar (take i imports) all there (c.loop-import.invariant grammar all same start))

pub returns : goal.returns
returns c = λ grammar all same start.
    subst (λ (is : List Import). Covers grammar c.args.count is c.loop-import.clauses.items)
    (take_all c.loop-import.import-index c.args.imports.now c.loop-import-test.false) (c.loop-import.invariant grammar all same start)
