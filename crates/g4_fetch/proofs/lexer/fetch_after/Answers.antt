use Rattle.std.proofs.Common.{List, ℕ, Ok, subst, ◌∙◌, arith}
use Rattle.std.proofs.lemmas.Result.{err_from_is_err_and}
use Rattle.g4_fetch.specs.Closures.{FetchesMore}
use Rattle.g4_fetch.specs.Fetching.{FetchesFile, added, halted_below}
use Rattle.g4_fetch.specs.Reading.{IsHaltOf, Reads}
use Rattle.g4_fetch.proofs.Continuing.{halts_below}
use Rattle.g4_fetch.proofs.WithVocabulary.{file_unread, is_later}
use Rattle.g4_fetch.proofs.lexer.fetch_after.Goals as goal

pub returns-in_err-source-clause-content : goal.returns-in_err-source-clause-content
returns-in_err-source-clause-content g c = λ files told.
    let p = err_from_is_err_and c.from_residual.result c.from_residual.ensures.1 in
    let halt = c.in_err-source.field-0.0 in
    rw (p.1, p.2) (file_unread files c.args.prefix.now c.args.reached c.args.name c.requires halt
    (subst (λ (n : List ℕ). IsHaltOf (Reads files n) halt) c.as_str.ensures (c.in_err-source.ensures.content files told)))

pub returns-in_err-more-clause-content : goal.returns-in_err-more-clause-content
returns-in_err-more-clause-content g c = λ files told.
    let p = err_from_is_err_and c.from_residual-in_err-more.result c.from_residual-in_err-more.ensures.1 in
    let source = c.in_ok-source.source in
    let reads = subst (λ (n : List ℕ). Reads files n (Ok source)) c.as_str.ensures (c.in_ok-source.ensures.content files told) in
    rw (p.1, p.2) (halts_below (FetchesMore files c.args.prefix.now c.args.reached _)
    (FetchesFile files c.args.prefix.now c.args.reached c.args.name)
    (λ h is. halted_below source h c.requires reads is) c.in_err-more.field-0.0
    (c.in_err-more.ensures.content files (c.in_ok-source.ensures.keeps ∙ told)))

pub returns-clause-content : goal.returns-clause-content
returns-clause-content g c = λ files told.
    let source = c.in_ok-source.source in
    let reads = subst (λ (n : List ℕ). Reads files n (Ok source)) c.as_str.ensures (c.in_ok-source.ensures.content files told) in
    rw (c.finish.ensures.same, c.lexer_number-lexer.ensures, c.count.ensures.count, c.in_ok-table.ensures)
    (added source c.in_ok-more.more c.requires reads (c.in_ok-more.ensures.content files (c.in_ok-source.ensures.keeps ∙ told)))

pub returns-clause-lexer : goal.returns-clause-lexer
returns-clause-lexer g c =
    rw (c.finish.ensures.same, c.lexer_number-lexer.ensures)
    (is_later _ c.count.result c.in_ok-more.more c.count.ensures.some
    (omega (arith, c.count.ensures.count, c.in_ok-more.ensures.grows)))
