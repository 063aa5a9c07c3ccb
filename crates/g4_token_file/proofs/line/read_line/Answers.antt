use Rattle.std.proofs.Common.{◌≡◌, ◌+◌, ℕ, List, Err, ap, drop, subst, sym, take, ◌∙◌}
use Rattle.std.proofs.lemmas.List.{take_rest}
use Rattle.std.proofs.lemmas.Result.{err_from_is_err_and}
use Rattle.g4_token_file.specs.Answers.{Answers}
use Rattle.g4_token_file.specs.Lines.{IsKey, is_number}
use Rattle.g4_token_file.proofs.Splits.{last_cuts}
use Rattle.g4_token_file.proofs.Steps.{key_fault, no_equals, no_number, no_subject}
use Rattle.g4_token_file.proofs.WholeTokens.{no_text}
use Rattle.g4_token_file.proofs.line.read_line.Goals as goal

pub returns-in_default : goal.returns-in_default
returns-in_default c = no_equals c.args.line.now c.in_default.ensures

pub returns-then-not-is_number : goal.returns-then-not-is_number
returns-then-not-is_number c =
    let line = c.args.line.now in
    let at = c.in-Some.at in
    let cut = last_cuts line at c.in-Some.ensures.0 c.in-Some.ensures.1 in
    no_number line (take at line) (drop (at + 1) line) cut.parts cut.lacks
    (sym (c.is_number.ensures ∙ ap is_number (take_rest line (at + 1))) ∙ c.if-not-is_number.true)

pub returns-in_default-from_utf8 : goal.returns-in_default-from_utf8
returns-in_default-from_utf8 c =
    let line = c.args.line.now in
    let at = c.in-Some.at in
    let cut = last_cuts line at c.in-Some.ensures.0 c.in-Some.ensures.1 in
    no_subject line (take at line) (drop (at + 1) line) cut.parts cut.lacks
    (no_text (take at line) c.in_default-from_utf8.ensures.cases.0)

pub returns-in_err-key : goal.returns-in_err-key
returns-in_err-key c =
    let line = c.args.line.now in
    let at = c.in-Some.at in
    let fault = c.in_err-key.field-0.0 in
    let cut = last_cuts line at c.in-Some.ensures.0 c.in-Some.ensures.1 in
    let text : c.in-Ok.text.now ≡ take at line = c.in-Ok.ensures.cases.0 in
    let p = err_from_is_err_and c.from_residual.result c.from_residual.ensures.1 in
    rw (p.1, p.2) (key_fault line (take at line) (drop (at + 1) line) fault cut.parts cut.lacks
    (subst (λ (t : List ℕ). Answers (IsKey t) (Err fault)) text c.in_err-key.ensures))
