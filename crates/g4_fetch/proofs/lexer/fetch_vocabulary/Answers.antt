use Rattle.std.proofs.Common.{◌≡◌, None, Some, Ok, sym, subst, ◌∙◌}
use Rattle.g4_source.specs.declared.source.Source.{Source}
use Rattle.g4_fetch.specs.Fetching.{FetchesFile, FetchesVocabulary, a_grammar, no_grammar}
use Rattle.g4_fetch.specs.Vocabularies.{lexer_file, table_file}
use Rattle.g4_fetch.proofs.Whole.{gives_too}
use Rattle.g4_fetch.proofs.lexer.fetch_vocabulary.Goals as goal

pub returns-in-Some-clause-content : goal.returns-in-Some-clause-content
returns-in-Some-clause-content g c = λ files told.
    let prefix = c.args.prefix.now in
    let main = c.main-main.ensures in
    let name = c.in-Some.name in
    let named = subst (λ (s : Source). lexer_file prefix s s.kind ≡ Some name) main.2 (sym c.in_ok-name.ensures ∙ c.in-Some.is) in
    gives_too (FetchesFile files prefix c.args.reached name) (FetchesVocabulary files prefix c.args.reached)
    (λ r h. a_grammar main.0 name r main.1 named h) c.fetch_file.result (c.fetch_file.ensures.content files told)

pub returns-clause-content : goal.returns-clause-content
returns-clause-content g c = λ files told.
    let prefix = c.args.prefix.now in
    let main = c.main-main.ensures in
    let named = subst (λ (s : Source). lexer_file prefix s s.kind ≡ None) main.2 (sym c.in_ok-name.ensures ∙ c.in_default.is) in
    rw (c.finish.ensures.same, c.in_ok-table.ensures)
    (subst (λ (s : Source). FetchesVocabulary files prefix c.args.reached
    (Ok (record { grammar = c.args.reached; lexer = None; table = table_file prefix s s.kind }))) (sym main.2)
    (no_grammar main.0 main.1 named))
