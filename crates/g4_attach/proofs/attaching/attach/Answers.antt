use Rattle.std.proofs.Common.{◌≡◌, ◌≤◌, None, length, option_map, sym, ap, ◌∙◌, arith, rules}
use Rattle.std.proofs.lemmas.Result.{err_from_is_err_and}
use Rattle.g4_source.specs.declared.source.Source.{Source}
use Rattle.g4_vocab.specs.Numbering.{first_own_literal}
use Rattle.g4_vocab.specs.declared.fault.TheConstants.{MOST_RULES}
use Rattle.g4_attach.specs.Attaching.{attached_of}
use Rattle.g4_attach.proofs.Answered.{not_numbered}
use Rattle.g4_attach.proofs.attaching.attach.Goals as goal

pub returns-in_err-table : goal.returns-in_err-table
returns-in_err-table c =
    let p = err_from_is_err_and c.from_residual-in_err-table.result c.from_residual-in_err-table.ensures.1 in
    let parser = c.args.parser in
    let lexer = c.in-Some.lexer in
    let whole : c.in_ok-source.source ≡ attached_of parser lexer = c.in_ok-source.ensures in
    let none : c.in_ok-literal.field-0 ≡ None = search rules in
    let named : first_own_literal (attached_of parser lexer) ≡ None =
    ap first_own_literal (sym whole) ∙ (sym c.in_ok-literal.ensures ∙ ap (option_map (λ l. l.now)) none) in
    let few : length (attached_of parser lexer).rules ≤ MOST_RULES =
    omega (arith, c.if-len-gt-MOST_RULES.false, c.len.ensures, ap (λ (s : Source). length s.rules) whole) in
    rw (p.1, p.2) (not_numbered c.args.table parser lexer c.args.lexer (sym c.lexer_of.ensures ∙ c.in-Some.is) c.in_err-table.field-0.0
    named few c.in_err-table.ensures)
