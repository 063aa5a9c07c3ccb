use Rattle.std.proofs.Common.{◌≤◌, List, Ok, Err, length, map, ap, subst, arith}
use Rattle.std.proofs.lemmas.Result.{err_from_is_err_and}
use Rattle.g4_source.specs.declared.rule.LexerRule.{LexerRule}
use Rattle.g4_source.specs.declared.rule.Rule.{Rule}
use Rattle.g4_vocab.specs.Answers.{GivesTypes}
use Rattle.g4_vocab.specs.Halves.{AreHalves}
use Rattle.g4_vocab.specs.Tables.{AreNamed}
use Rattle.g4_vocab.specs.declared.fault.TheConstants.{MOST_RULES}
use Rattle.g4_vocab.proofs.Sources.{rules_err, rules_ok}
use Rattle.g4_vocab.proofs.numbering.number.Goals as goal

pub returns : goal.returns
returns c =
    let source = c.args.source.now in
    let named = c.in_ok-named.named in
    let parsers = map (λ r. r.now) c.in_ok-halves.halves.parsers.items in
    let lexers : List LexerRule = map (λ r. r.now) c.in_ok-halves.halves.lexers.items in
    let halves : AreHalves source.rules parsers lexers =
    subst (λ (rs : List Rule). AreHalves rs parsers lexers) c.as_slice-rules.ensures c.in_ok-halves.ensures in
    let are : AreNamed source parsers named =
    subst (λ ps. AreNamed source (map (λ r. r.now) ps) named) c.as_slice.ensures.value c.in_ok-named.ensures in
    let few : length source.rules ≤ MOST_RULES = omega (arith, ap length c.as_slice-rules.ensures, c.if-rules-gt-MOST_RULES.false) in
    rules_ok c.args.table source parsers lexers named halves are few c.in_ok-vocabulary.vocabulary
    (subst (λ (ls : List LexerRule). GivesTypes c.args.table ls named (Ok c.in_ok-vocabulary.vocabulary)) c.in_ok-wholes.ensures
    c.in_ok-vocabulary.ensures)

pub returns-in_err-vocabulary : goal.returns-in_err-vocabulary
returns-in_err-vocabulary c =
    let p = err_from_is_err_and c.from_residual-in_err-vocabulary.result c.from_residual-in_err-vocabulary.ensures.1 in
    let fault = c.in_err-vocabulary.field-0.0 in
    let source = c.args.source.now in
    let named = c.in_ok-named.named in
    let parsers = map (λ r. r.now) c.in_ok-halves.halves.parsers.items in
    let lexers : List LexerRule = map (λ r. r.now) c.in_ok-halves.halves.lexers.items in
    let halves : AreHalves source.rules parsers lexers =
    subst (λ (rs : List Rule). AreHalves rs parsers lexers) c.as_slice-rules.ensures c.in_ok-halves.ensures in
    let are : AreNamed source parsers named =
    subst (λ ps. AreNamed source (map (λ r. r.now) ps) named) c.as_slice.ensures.value c.in_ok-named.ensures in
    let few : length source.rules ≤ MOST_RULES = omega (arith, ap length c.as_slice-rules.ensures, c.if-rules-gt-MOST_RULES.false) in
    rw (p.1, p.2) (rules_err c.args.table source parsers lexers named halves are few fault
    (subst (λ (ls : List LexerRule). GivesTypes c.args.table ls named (Err fault)) c.in_ok-wholes.ensures c.in_err-vocabulary.ensures))
