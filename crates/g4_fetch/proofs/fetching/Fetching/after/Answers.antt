use Rattle.std.proofs.Common.{◌≡◌, ◌++◌, [], ℕ, List, length, reverse, ap, sym, subst, ◌∙◌}
use Rattle.std.proofs.lemmas.List.{append-nil, reverse-reverse}
use Rattle.g4_fetch.proofs.Continuing.{fetches_all}
use Rattle.g4_fetch.specs.Closures.{imported_by_lexer, with_file}
use Rattle.g4_fetch.specs.Tasks.{Continues, fetches_of}
use Rattle.g4_fetch.specs.declared.closure.WithImports.{WithImports}
use Rattle.g4_fetch.specs.declared.task.Task.{Task}
use Rattle.g4_fetch.proofs.fetching.Fetching.after.Goals as goal

pub returns-clause-content : goal.returns-clause-content
returns-clause-content c = λ files prefix end h.
    let source = c.args.file.source in
    let names = imported_by_lexer source source.kind in
    let number = length c.args.reached.files in
    let items : c.push_lexer_imports.new.tasks.items ≡ reverse (fetches_of number names) =
    c.in_ok-push_lexer_imports.ensures
    ∙ (ap (λ (k : ℕ). c.new-tasks.result.items ++ reverse (fetches_of k names)) c.count.ensures.count
    ∙ ap (λ (ts : List Task). ts ++ reverse (fetches_of number names)) c.new-tasks.ensures.items) in
    let all : reverse c.push_lexer_imports.new.tasks.items ≡ fetches_of number names ++ [] =
    ap reverse items ∙ (reverse-reverse (fetches_of number names) ∙ sym (append-nil (fetches_of number names))) in
    let grammar = with_file c.args.reached c.args.file.name source in
    let here = subst (λ (s : WithImports). Continues files prefix (reverse c.push_lexer_imports.new.tasks.items) s end)
    c.in_ok-reached.ensures h in
    fetches_all files prefix number names grammar end
    (subst (λ (ts : List Task). Continues files prefix ts grammar end) all here)
