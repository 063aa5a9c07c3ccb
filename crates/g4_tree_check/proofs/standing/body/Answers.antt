use Rattle.std.proofs.Common.{◌≡◌, ◌-◌, ◌∙◌, List, length, Some, refl, sym, ap, arith}
use Rattle.std.specs.List.{slice_get}
use Rattle.std.proofs.lemmas.Option.{slice_get_read}
use Rattle.g4_tree_check.proofs.Bodies.{body_at}
use Rattle.g4_tree_check.proofs.standing.body.Goals as goal

pub returns-clause-found : goal.returns-clause-found
returns-clause-found c =
    let k = c.args.rule - 1 in
    let i = c.args.alt - 1 in
    let rule = c.in_ok-rule.rule.now in
    let first = c.in_ok-rule.ensures.lookup in
    let second = c.in_ok-alternative.ensures.lookup in
    let found : slice_get c.args.rules.now k ≡ Some rule =
    slice_get_read c.args.rules.now (length c.args.rules.now) k rule refl first.3.0 first.1 in
    let there : slice_get c.as_slice.result.now i ≡ Some c.in_ok-alternative.alternative.now =
    slice_get_read c.as_slice.result.now (length c.as_slice.result.now) i c.in_ok-alternative.alternative.now refl second.3.0
    second.1 in (
      k,
      i,
      rule,
      omega (arith, c.if-rule-eq0.false),
      omega (arith, c.if-alt-eq0.false),
      found,
      body_at rule i c.in_ok-alternative.alternative.now (ap (λ (xs : List _). slice_get xs i) (sym c.as_slice.ensures) ∙ there),
    )
