use Rattle.std.proofs.Common.{rules, ◌≡◌, ◌↔◌, IsTrue, All, List, Some, slice_get, subst}
use Rattle.g4_configs.specs.declared.group.Group.{Group}
use Rattle.g4_configs.specs.Verdicts.{IsLike}
use Rattle.g4_configs.proofs.Alike.{first_block, like_exact, member_at}
use Rattle.g4_configs.proofs.verdicts.are_alike.Goals as goal

pub returns : goal.returns
returns c =
    let at : slice_get c.args.groups.now 0 ≡ Some c.in-Some.first = search rules in
    let block : c.deref.result.now ≡ first_block c.in-Some.first c.args.groups.now = search rules in
    let answer = subst (λ (others : List Group). IsTrue c.all_like-answer.result
    ↔ All (IsLike c.args.nodes.now.entries c.in-Some.first others) c.args.groups.now) block c.all_like-answer.ensures in
    let same = like_exact c.args.nodes.now.entries c.args.groups.now c.requires c.in-Some.first
    (member_at c.args.groups.now 0 c.in-Some.first at) in
    ((λ t. same.0 (answer.0 t)), (λ a. answer.1 (same.1 a)))
