use Rattle.std.proofs.Common.{List, ℕ, Ok, subst, ◌∙◌}
use Rattle.std.proofs.lemmas.Result.{err_from_is_err_and}
use Rattle.g4_fetch.specs.Closures.{IsHaltAfter}
use Rattle.g4_fetch.specs.Fetching.{FetchesVocabulary}
use Rattle.g4_fetch.proofs.WithVocabulary.{all_fetched, all_without_grammar, all_without_table, all_without_vocabulary}
use Rattle.g4_fetch.proofs.grammar.fetch_grammar.Goals as goal

pub returns-in_err-reached-clause-content : goal.returns-in_err-reached-clause-content
returns-in_err-reached-clause-content g c = λ files told.
    let p = err_from_is_err_and c.from_residual-in_err-reached.result c.from_residual-in_err-reached.ensures.1 in
    rw (p.1, p.2) (all_without_grammar files _ c.args.name.now c.in_err-reached.field-0.0
    (c.in_err-reached.ensures.content files _ told (c.as_str.ensures ∙ c.in_ok-prefix.ensures)))

pub returns-in_err-fetched-clause-content : goal.returns-in_err-fetched-clause-content
returns-in_err-fetched-clause-content g c = λ files told.
    let p = err_from_is_err_and c.from_residual-in_err-fetched.result c.from_residual-in_err-fetched.ensures.1 in
    let grammar = c.in_ok-reached.reached in
    let halt = c.in_err-fetched.field-0.0 in
    let is = c.in_ok-reached.ensures.content files _ told (c.as_str.ensures ∙ c.in_ok-prefix.ensures) in
    rw (p.1, p.2) (all_without_vocabulary files _ c.args.name.now grammar is halt
    (subst (λ (f : List ℕ). IsHaltAfter (FetchesVocabulary files f grammar) halt) (c.as_str-2.ensures ∙ c.in_ok-prefix.ensures)
    (c.in_err-fetched.ensures.content files (c.in_ok-reached.ensures.keeps ∙ told))))

pub returns-in_err-table-clause-content : goal.returns-in_err-table-clause-content
returns-in_err-table-clause-content g c = λ files told.
    let p = err_from_is_err_and c.from_residual-in_err-table.result c.from_residual-in_err-table.ensures.1 in
    let grammar = c.in_ok-reached.reached in
    let parts = c.in_ok-fetched.fetched in
    let is = c.in_ok-reached.ensures.content files _ told (c.as_str.ensures ∙ c.in_ok-prefix.ensures) in
    let has = subst (λ (f : List ℕ). FetchesVocabulary files f grammar (Ok parts)) (c.as_str-2.ensures ∙ c.in_ok-prefix.ensures)
    (c.in_ok-fetched.ensures.content files (c.in_ok-reached.ensures.keeps ∙ told)) in
    rw (p.1, p.2) (all_without_table files _ c.args.name.now grammar is parts has c.in_err-table.field-0.0
    (c.in_err-table.ensures.content files (c.in_ok-fetched.ensures.keeps ∙ (c.in_ok-reached.ensures.keeps ∙ told))))

pub returns-clause-content : goal.returns-clause-content
returns-clause-content g c = λ files told.
    let grammar = c.in_ok-reached.reached in
    let parts = c.in_ok-fetched.fetched in
    let is = c.in_ok-reached.ensures.content files _ told (c.as_str.ensures ∙ c.in_ok-prefix.ensures) in
    let has = subst (λ (f : List ℕ). FetchesVocabulary files f grammar (Ok parts)) (c.as_str-2.ensures ∙ c.in_ok-prefix.ensures)
    (c.in_ok-fetched.ensures.content files (c.in_ok-reached.ensures.keeps ∙ told)) in
    all_fetched files _ c.args.name.now grammar is parts has c.in_ok-table.table
    (c.in_ok-table.ensures.content files (c.in_ok-fetched.ensures.keeps ∙ (c.in_ok-reached.ensures.keeps ∙ told)))
