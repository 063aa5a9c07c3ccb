use Rattle.std.proofs.Common.{subst}
use Rattle.g4_source.specs.Elements.{Elements}
use Rattle.g4_tokens.specs.TokenList.{word_of}
use Rattle.g4_tree_check.specs.TreesOf.{DerivesChildren}
use Rattle.g4_tree_check.proofs.Bodies.{one_body}
use Rattle.g4_tree_check.proofs.standing.fits.Goals as goal

pub returns-in_ok-yes-in-Some : goal.returns-in_ok-yes-in-Some
returns-in_ok-yes-in-Some c =
    let x = c.in-Some.elements.now in
    let yes = c.in_ok-yes-in-Some.ensures in
    let found = c.in-Some.ensures.found in (
      λ h. (x, found, yes.0 h),
      λ f. yes.1 (subst (λ (y : Elements _). DerivesChildren (word_of c.args.tokens.now) y c.args.heads.now)
          (one_body c.args.rules.now c.args.node.now.rule c.args.node.now.alt f.0 x f.1 found) f.2),
    )

pub returns-in-None : goal.returns-in-None
returns-in-None c = (λ h. absurd (cc), λ f. absurd (c.in-None.ensures.none f.0 f.1))
