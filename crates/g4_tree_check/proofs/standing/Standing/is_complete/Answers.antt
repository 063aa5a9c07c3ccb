use Rattle.std.proofs.Common.{◌≡◌, ◌∙◌, List, [], reverse, vec_len, sym, ap, subst, eqb-true, eq-eqb}
use Rattle.g4_tree_check.specs.declared.standing.OpenNode.{OpenNode}
use Rattle.g4_tree_check.specs.Standing.{IsOneNode, Completes}
use Rattle.g4_tree_check.proofs.Growing.{read_all}
use Rattle.g4_tree_check.proofs.Stacks.{empty_vec, vec_of_none, open_not_complete}
use Rattle.g4_tree_check.proofs.standing.Standing.is_complete.Goals as goal

pub returns-then-is_empty : goal.returns-then-is_empty
returns-then-is_empty c = λ rules word.
    let now = c.args.self.now in
    let none : now.nodes.items ≡ [] = empty_vec now.nodes (eqb-true (vec_len now.nodes) 0 (sym c.if-is_empty.ensures)) in
    let all = read_all rules word now.heads.items now.next in (
      λ h. subst (λ (ns : List OpenNode). Completes rules word ns now.heads.items now.next []) (sym (ap reverse none))
          (all.0 (subst IsOneNode c.as_slice.ensures.value (c.is_one_node.ensures.0 h))),
      λ h. c.is_one_node.ensures.1 (subst IsOneNode (sym c.as_slice.ensures.value)
          (all.1 (subst (λ (ns : List OpenNode). Completes rules word ns now.heads.items now.next []) (ap reverse none) h))),
    )

pub returns-else-is_empty : goal.returns-else-is_empty
returns-else-is_empty c = λ rules word.
    let now = c.args.self.now in (
      λ h. absurd (let no = c.if-is_empty.false in let n : ⊥ = cc in n),
      λ h. c.is_empty.ensures ∙ eq-eqb (vec_len now.nodes) 0
          (vec_of_none now.nodes (open_not_complete rules word now.nodes.items now.heads.items now.next h)),
    )
