use Rattle.std.proofs.Common.{◌++◌, ◌∷◌, [], ℕ, List, Ok, reverse, ap, subst, ◌∙◌}
use Rattle.std.proofs.lemmas.Result.{err_from_is_err_and}
use Rattle.g4_merge.specs.Importing.{imported_by}
use Rattle.g4_fetch.proofs.Continuing.{missing_fetched, missing_halts}
use Rattle.g4_fetch.specs.Reading.{IsHaltOf, Reads}
use Rattle.g4_fetch.specs.Tasks.{fetches_of}
use Rattle.g4_fetch.specs.declared.task.Task.{Task}
use Rattle.g4_fetch.specs.declared.task.Task.TheVariants as tasks
use Rattle.g4_fetch.proofs.fetching.Fetching.fetch.Goals as goal

pub returns-in_err-source-clause-content : goal.returns-in_err-source-clause-content
returns-in_err-source-clause-content g c = λ files told.
    let p = err_from_is_err_and c.from_residual.result c.from_residual.ensures.1 in
    let halt = c.in_err-source.field-0.0 in
    rw (p.1, p.2) (missing_halts files c.args.prefix.now c.args.self.reached c.args.missing c.requires (reverse c.args.self.tasks.items)
    halt (subst (λ (n : List ℕ). IsHaltOf (Reads files n) halt) c.as_str.ensures (c.in_err-source.ensures.content files told)))

pub returns-clause-content : goal.returns-clause-content
returns-clause-content g c = λ files told result h.
    let source = c.in_ok-source.source in
    let next = c.push.new.self.items in
    let number = c.count-imported.ensures.count in
    let old = c.args.self.tasks.items in
    let task : ℕ → Task = λ k. tasks.Test (record { importer = c.args.missing.importer; imported = k; name = c.args.missing.name }) in
    missing_fetched files c.args.prefix.now c.args.self.reached c.args.missing c.requires old next c.push_imports.new.tasks.items source
    c.in_ok-reached.reached
    (subst (λ (n : List ℕ). Reads files n (Ok source)) c.as_str.ensures (c.in_ok-source.ensures.content files told))
    (c.in_ok-push.ensures.items ∙ ap (λ (k : ℕ). old ++ task k ∷ []) number)
    (c.in_ok-push_imports.ensures ∙ ap (λ (k : ℕ). next ++ reverse (fetches_of k (imported_by source))) number)
    c.in_ok-reached.ensures result h
