use Rattle.std.proofs.Common.{ℕ, List, Err, subst, sym}
use Rattle.g4_grammar_tokens.specs.Answers.{HasTokens, IsScan}
use Rattle.g4_grammar_tokens.specs.declared.token.Token.{Token}
use Rattle.g4_token_file.proofs.WholeTokens.{not_scanned, not_whole, whole_is}
use Rattle.g4_token_file.proofs.line.token_kind.Goals as goal

pub returns-in-Some : goal.returns-in-Some
returns-in-Some c =
    let text = c.args.text.now in
    let scanned : HasTokens text c.in-Ok.tokens =
    subst (λ (bytes : List ℕ). HasTokens bytes c.in-Ok.tokens) c.as_bytes.ensures.value c.in-Ok.ensures.value in
    whole_is text c.as_slice.result.now c.in-Some.kind
    (subst (λ (tokens : List Token). HasTokens text tokens) (sym c.as_slice.ensures) scanned) (sym c.in-Some.ensures)

pub returns-in-Ok : goal.returns-in-Ok
returns-in-Ok c =
    let text = c.args.text.now in
    let scanned : HasTokens text c.in-Ok.tokens =
    subst (λ (bytes : List ℕ). HasTokens bytes c.in-Ok.tokens) c.as_bytes.ensures.value c.in-Ok.ensures.value in
    not_whole text c.as_slice.result.now
    (subst (λ (tokens : List Token). HasTokens text tokens) (sym c.as_slice.ensures) scanned) (sym c.in-None.ensures)

pub returns-in-Err-NotUtf8 : goal.returns-in-Err-NotUtf8
returns-in-Err-NotUtf8 c =
    let arm = c.in-Err-NotUtf8 in
    let is = arm.field-0-is in
    not_scanned c.args.text.now arm.field-0
    (subst (λ (bytes : List ℕ). IsScan bytes (Err arm.field-0)) c.as_bytes.ensures.value arm.ensures.value) (λ e. absurd cc)

pub returns-in-Err-Syntax : goal.returns-in-Err-Syntax
returns-in-Err-Syntax c =
    let arm = c.in-Err-Syntax in
    let is = arm.field-0-is in
    not_scanned c.args.text.now arm.field-0
    (subst (λ (bytes : List ℕ). IsScan bytes (Err arm.field-0)) c.as_bytes.ensures.value arm.ensures.value) (λ e. absurd cc)
