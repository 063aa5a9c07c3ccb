use Rattle.std.proofs.Common.{◌≡◌, ◌++◌, [], List, reverse, ap, sym, subst, ◌∙◌}
use Rattle.std.proofs.lemmas.List.{append-nil, reverse-reverse}
use Rattle.g4_fetch.proofs.Continuing.{fetches_all}
use Rattle.g4_fetch.specs.Closures.{alone}
use Rattle.g4_fetch.specs.Tasks.{Continues, fetches_of}
use Rattle.g4_fetch.specs.declared.closure.WithImports.{WithImports}
use Rattle.g4_fetch.specs.declared.task.Task.{Task}
use Rattle.g4_merge.specs.Importing.{imported_by}
use Rattle.g4_fetch.proofs.fetching.Fetching.new.Goals as goal

pub returns : goal.returns
returns c = λ files prefix end h.
    let names = imported_by c.args.main.source in
    let items : c.push_imports.new.tasks.items ≡ reverse (fetches_of 0 names) =
    c.in_ok-push_imports.ensures ∙ ap (λ (ts : List Task). ts ++ reverse (fetches_of 0 names)) c.new-tasks.ensures.items in
    let all : reverse c.push_imports.new.tasks.items ≡ fetches_of 0 names ++ [] =
    ap reverse items ∙ (reverse-reverse (fetches_of 0 names) ∙ sym (append-nil (fetches_of 0 names))) in
    let here = subst (λ (s : WithImports). Continues files prefix (reverse c.push_imports.new.tasks.items) s end)
    c.in_ok-reached.ensures h in
    fetches_all files prefix 0 names (alone c.args.main) end
    (subst (λ (ts : List Task). Continues files prefix ts (alone c.args.main) end) all here)
