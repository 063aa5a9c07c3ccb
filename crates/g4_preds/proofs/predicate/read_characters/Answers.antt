use Rattle.std.proofs.Common.{List, ap, sym, ◌∙◌, subst}
use Rattle.std.proofs.lemmas.Result.{err_from_is_err_and}
use Rattle.g4_preds.specs.Branches.{branches_of}
use Rattle.g4_preds.specs.Postfix.{tree_of}
use Rattle.g4_preds.specs.Tokens.{AreTokens}
use Rattle.g4_preds.specs.declared.token.Token.{Token}
use Rattle.g4_preds.proofs.Predicates.{HasDepth, are_postfix, predicate_is, not_parsed, too_deep}
use Rattle.g4_preds.proofs.predicate.read_characters.Goals as goal

pub returns-in_err-nodes : goal.returns-in_err-nodes
returns-in_err-nodes c =
    let p = err_from_is_err_and c.from_residual-in_err-nodes.result c.from_residual-in_err-nodes.ensures.1 in
    let cut : AreTokens c.args.text.now c.as_slice.result.now =
    subst (AreTokens c.args.text.now) (sym c.as_slice.ensures) c.in_ok-tokens.ensures in
    rw (p.1, p.2) (not_parsed c.args.text.now c.as_slice.result.now c.in_err-nodes.field-0.0 cut c.in_err-nodes.ensures)

pub returns-then-depth-gt-MOST_NESTED : goal.returns-then-depth-gt-MOST_NESTED
returns-then-depth-gt-MOST_NESTED c =
    let cut : AreTokens c.args.text.now c.as_slice.result.now =
    subst (AreTokens c.args.text.now) (sym c.as_slice.ensures) c.in_ok-tokens.ensures in
    let depth : HasDepth c.as_slice.result.now c.in_ok-depth.depth =
    subst (λ (ts : List Token). HasDepth ts c.in_ok-depth.depth) (c.as_slice-2.ensures ∙ sym c.as_slice.ensures) c.in_ok-depth.ensures in
    too_deep c.args.text.now c.as_slice.result.now c.in_ok-depth.depth cut depth c.if-depth-gt-MOST_NESTED.true

pub branches-requires : goal.branches-requires
branches-requires c = rw c.as_slice-3.ensures (are_postfix c.as_slice.result.now c.in_ok-nodes.nodes c.in_ok-nodes.ensures)

pub invariant_of-result : goal.invariant_of-result
invariant_of-result c = (
  are_postfix c.as_slice.result.now c.in_ok-nodes.nodes c.in_ok-nodes.ensures,
  c.in_ok-branches.ensures ∙ ap (λ ns. branches_of (tree_of ns)) c.as_slice-3.ensures,
)

pub returns : goal.returns
returns c =
    let cut : AreTokens c.args.text.now c.as_slice.result.now =
    subst (AreTokens c.args.text.now) (sym c.as_slice.ensures) c.in_ok-tokens.ensures in
    let depth : HasDepth c.as_slice.result.now c.in_ok-depth.depth =
    subst (λ (ts : List Token). HasDepth ts c.in_ok-depth.depth) (c.as_slice-2.ensures ∙ sym c.as_slice.ensures) c.in_ok-depth.ensures in
    predicate_is c.args.text.now c.as_slice.result.now c.in_ok-nodes.nodes c.in_ok-depth.depth cut c.in_ok-nodes.ensures depth
    c.if-depth-gt-MOST_NESTED.false
