use Rattle.std.proofs.Common.{◌≡◌, ◌∙◌, List, [], ◌∷◌, ◌++◌, reverse, refl, sym, ap, subst}
use Rattle.g4_tokens.specs.TokenList.{word_of}
use Rattle.g4_trees.specs.declared.tree.Item.{Item}
use Rattle.g4_trees.specs.declared.tree.Item.TheVariants as items
use Rattle.g4_tree_check.specs.declared.standing.OpenNode.{OpenNode}
use Rattle.g4_tree_check.specs.Standing.{Completes, FitsBody}
use Rattle.g4_tree_check.proofs.Growing.{read_exit, no_exit}
use Rattle.g4_tree_check.proofs.Stacks.{newest_first, empty_vec}
use Rattle.g4_tree_check.proofs.standing.Standing.exit.Goals as goal

pub returns-in_default : goal.returns-in_default
returns-in_default c = λ rest.
    let old = c.args.self.now in
    let none : old.nodes.items ≡ [] = empty_vec old.nodes c.in_default.ensures.cases.0 in (
      λ h. absurd (no_exit c.args.rules.now (word_of c.args.tokens.now) old.heads.items old.next rest
          (subst (λ (ns : List OpenNode). Completes c.args.rules.now (word_of c.args.tokens.now) ns old.heads.items old.next
          (items.Exit ∷ rest)) (ap reverse none) h)),
      λ h. absurd (let n : ⊥ = cc (h.0) in n),
    )

pub returns-then-not-branch : goal.returns-then-not-branch
returns-then-not-branch c = λ rest.
    let old = c.args.self.now in
    let rules = c.args.rules.now in
    let word = word_of c.args.tokens.now in
    let node = c.in-Some.node in
    let nodes : reverse old.nodes.items ≡ node ∷ reverse c.pop.new.self.items =
    ap reverse c.in-Some.ensures.items ∙ newest_first c.pop.new.self.items node in
    let read = read_exit rules word node (reverse c.pop.new.self.items) old.heads.items old.next rest in (
      λ h.
          let fits : FitsBody rules word node.rule node.alt old.heads.items =
          (read.0 (subst (λ (ns : List OpenNode). Completes rules word ns old.heads.items old.next (items.Exit ∷ rest)) nodes h)).0 in
          let yes = c.in_ok-fits.ensures.1 (subst (λ (hs : List Item). FitsBody rules word node.rule node.alt hs)
          (sym c.as_slice.ensures.value) fits) in
          absurd (let no = c.if-not-branch.true in let n : ⊥ = cc in n),
      λ h. absurd (let n : ⊥ = cc (h.0) in n),
    )

pub returns : goal.returns
returns c = λ rest.
    let old = c.args.self.now in
    let rules = c.args.rules.now in
    let word = word_of c.args.tokens.now in
    let node = c.in-Some.node in
    let nodes : reverse old.nodes.items ≡ node ∷ reverse c.pop.new.self.items =
    ap reverse c.in-Some.ensures.items ∙ newest_first c.pop.new.self.items node in
    let read = read_exit rules word node (reverse c.pop.new.self.items) old.heads.items old.next rest in
    let heads : c.push.new.self.items ≡ node.before.items ++ items.Enter node.rule node.alt node.at ∷ [] = c.in_ok-push.ensures.items in (
      λ h.
          let both = read.0 (subst (λ (ns : List OpenNode). Completes rules word ns old.heads.items old.next (items.Exit ∷ rest))
          nodes h) in
          (refl, subst (λ (hs : List Item). Completes rules word (reverse c.pop.new.self.items) hs old.next rest) (sym heads) both.1),
      λ h.
          let fits : FitsBody rules word node.rule node.alt old.heads.items =
          subst (λ (hs : List Item). FitsBody rules word node.rule node.alt hs) c.as_slice.ensures.value
          (c.in_ok-fits.ensures.0 c.if-not-branch.false) in
          subst (λ (ns : List OpenNode). Completes rules word ns old.heads.items old.next (items.Exit ∷ rest)) (sym nodes)
          (read.1 (fits, subst (λ (hs : List Item). Completes rules word (reverse c.pop.new.self.items) hs old.next rest) heads h.1)),
    )
