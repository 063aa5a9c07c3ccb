use Rattle.std.proofs.Common.{ℕ, List, ◌++◌, encode_utf8, ap, sym, ◌∙◌}
use Rattle.std.specs.String.{string_bytes}
use Rattle.g4_checks.proofs.FirstLetters.{capitalised_is}
use Rattle.g4_checks.proofs.capital.capitalised.Goals as goal

pub returns : goal.returns
returns c =
    capitalised_is c.args.name.now c.as_str.result.now (string_bytes c.in_ok-text.text) c.new-2.result c.in-Some.first c.utf8.name
    c.as_str.utf8
    (sym c.chars-characters.ensures.rest ∙ (c.in-Some.ensures.steps.0
    ∙ ap (λ (rest : List ℕ). encode_utf8 c.in-Some.first ++ rest) (sym c.as_str.ensures))) c.in_ok-text.ensures
    (c.new-2.ensures ∙ c.in_ok-push_str.ensures.bytes)
