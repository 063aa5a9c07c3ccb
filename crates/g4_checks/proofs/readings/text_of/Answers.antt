use Rattle.std.proofs.Common.{◌≡◌, ℕ, List, ap, ◌∙◌, arith}
use Rattle.std.specs.Borrow.{Bor}
use Rattle.std.proofs.lemmas.Str.Pattern.{strip_prefix_char, strip_suffix_char}
use Rattle.g4_checks.specs.Predicates.{without_first, without_last}
use Rattle.g4_checks.proofs.Braces.{front_is, end_is}
use Rattle.g4_checks.proofs.readings.text_of.Goals as goal

pub returns : goal.returns
returns c =
    let action = c.args.action in
    let text = c.unwrap_or-text.result in
    let front : text.now ≡ without_first 123 action.now =
    ap (λ (t : Bor (List ℕ)). t.now) c.unwrap_or-text.ensures
    ∙ front_is 123 action c.strip_prefix.result
    (strip_prefix_char 123 action.now c.strip_prefix.result c.strip_prefix.ensures.cases (omega arith)) in
    ap (λ (t : Bor (List ℕ)). t.now) c.unwrap_or.ensures
    ∙ (end_is 125 text c.strip_suffix.result (strip_suffix_char 125 text.now c.strip_suffix.result c.strip_suffix.ensures.cases
    (omega arith)) ∙ ap (without_last 125) front)
