use Rattle.std.proofs.Common.{◌≡◌, List, ℕ, Some, sym, subst, ◌∙◌}
use Rattle.g4_fetch.specs.Closures.{number_of}
use Rattle.g4_fetch.specs.Fetching.{known}
use Rattle.g4_fetch.proofs.lexer.fetch_file.Goals as goal

pub returns-clause-content : goal.returns-clause-content
returns-clause-content g c = λ files told.
    let number = c.in-Some.number in
    let there = subst (λ (n : List ℕ). number_of c.args.reached n ≡ Some number) c.as_str.ensures
    (sym c.number_of.ensures ∙ c.in-Some.is) in
    rw (c.finish.ensures.same, c.in_ok-table.ensures, c.files.ensures) (known number there)
