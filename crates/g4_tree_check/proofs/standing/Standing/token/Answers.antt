use Rattle.std.proofs.Common.{◌≡◌, ℕ, ◌+◌, List, [], ◌∷◌, ◌++◌, reverse, refl, sym, subst}
use Rattle.g4_trees.specs.declared.tree.Item.{Item}
use Rattle.g4_trees.specs.declared.tree.Item.TheVariants as items
use Rattle.g4_tree_check.specs.Standing.{Completes}
use Rattle.g4_tree_check.proofs.Growing.{read_token}
use Rattle.g4_tree_check.proofs.standing.Standing.token.Goals as goal

pub returns-then-at-self : goal.returns-then-at-self
returns-then-at-self c = λ rules word rest.
    let read = read_token rules word (reverse c.args.self.now.nodes.items) c.args.self.now.heads.items c.args.self.now.next c.args.at
    rest in
    (λ h. absurd (c.if-at-self.true (read.0 h).0), λ h. absurd (let n : ⊥ = cc (h.0) in n))

pub returns : goal.returns
returns c = λ rules word rest.
    let old = c.args.self.now in
    let nodes = reverse old.nodes.items in
    let read = read_token rules word nodes old.heads.items old.next c.args.at rest in
    let same : c.args.at ≡ old.next = c.if-at-self.false in
    let pushed : c.push.new.self.items ≡ old.heads.items ++ items.Token c.args.at ∷ [] = c.in_ok-push.ensures.items in (
      λ h. (
        refl,
        subst (λ (hs : List Item). Completes rules word nodes hs (c.args.at + 1) rest) (sym pushed)
            (subst (λ (n : ℕ). Completes rules word nodes (old.heads.items ++ items.Token c.args.at ∷ []) (n + 1) rest) (sym same)
            (read.0 h).1),
      ),
      λ h. read.1 (
        same,
        subst (λ (n : ℕ). Completes rules word nodes (old.heads.items ++ items.Token c.args.at ∷ []) (n + 1) rest)
            same (subst (λ (hs : List Item). Completes rules word nodes hs (c.args.at + 1) rest) pushed h.1),
      ),
    )
