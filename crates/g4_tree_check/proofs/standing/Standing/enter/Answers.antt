use Rattle.std.proofs.Common.{◌≡◌, ◌∙◌, List, [], ◌∷◌, reverse, refl, sym, ap, subst}
use Rattle.g4_trees.specs.declared.tree.Item.{Item}
use Rattle.g4_tree_check.specs.declared.standing.OpenNode.{OpenNode}
use Rattle.g4_tree_check.specs.Standing.{Completes}
use Rattle.g4_tree_check.proofs.Growing.{no_enter, read_enter}
use Rattle.g4_tree_check.proofs.Stacks.{newest_first}
use Rattle.g4_tree_check.proofs.standing.Standing.enter.Goals as goal

pub returns : goal.returns
returns c = λ rules word rest.
    let old = c.args.self.now in
    let opened : OpenNode = record { rule = c.args.rule; alt = c.args.alt; at = c.args.at; before = c.replace-before.result } in
    let heads : c.replace-before.new.dest.items ≡ [] = ap (λ v. v.items) c.replace-before.ensures.after ∙ c.new.ensures.items in
    let nodes : reverse c.push.new.self.items ≡ opened ∷ reverse old.nodes.items =
    ap reverse c.in_ok-push.ensures.items ∙ newest_first old.nodes.items opened in
    let before : opened.before.items ≡ old.heads.items = ap (λ v. v.items) c.replace-before.ensures.value in
    let read = read_enter rules word (reverse old.nodes.items) old.heads.items old.next opened rest before in
    let same : c.args.at ≡ old.next = c.if-at-self.false in (
      λ h. (
        refl,
        subst (λ (ns : List OpenNode). Completes rules word ns c.replace-before.new.dest.items old.next rest) (sym nodes)
            (subst (λ (hs : List Item). Completes rules word (opened ∷ reverse old.nodes.items) hs old.next rest) (sym heads) (read.0 h).1),
      ),
      λ h. read.1 (
        same,
        subst (λ (hs : List Item). Completes rules word (opened ∷ reverse old.nodes.items) hs old.next rest) heads
            (subst (λ (ns : List OpenNode). Completes rules word ns c.replace-before.new.dest.items old.next rest) nodes h.1),
      ),
    )

pub returns-then-at-self : goal.returns-then-at-self
returns-then-at-self c = λ rules word rest.
    let old = c.args.self.now in (
      λ h. absurd (c.if-at-self.true (no_enter rules word (reverse old.nodes.items) old.heads.items old.next c.args.rule c.args.alt
          c.args.at rest h)),
      λ h. absurd (let n : ⊥ = cc (h.0) in n),
    )
