use Rattle.std.proofs.Common.{◌≡◌, ◌↔◌, ℕ, ◌+◌, List, [], ◌∷◌, reverse, drop, get_or, sym, ap, subst, IsTrue, arith}
use Rattle.std.proofs.lemmas.List.{drop_all, drop_more}
use Rattle.g4_tokens.specs.TokenList.{word_of}
use Rattle.g4_trees.specs.declared.tree.Item.{Item}
use Rattle.g4_trees.specs.declared.tree.Item.TheVariants as items
use Rattle.g4_tree_check.specs.declared.standing.OpenNode.{OpenNode}
use Rattle.g4_tree_check.specs.Standing.{CanEnd, Completes}
use Rattle.g4_tree_check.proofs.Growing.{read_none}
use Rattle.g4_tree_check.proofs.check.check_tree.Goals as goal

pub loop-item-init : goal.loop-item-init
loop-item-init c =
    let rules = c.args.rules.now in
    let word = word_of c.args.tokens.now in
    let standing = c.new-standing.result in
    let new = c.new-standing.ensures in
    let read = read_none rules word c.args.tree.now in
    let to : Completes rules word [] [] 0 c.args.tree.now → CanEnd rules word standing c.items-item-items.result.now =
    λ h. subst (λ (ns : List OpenNode). Completes rules word ns standing.heads.items standing.next c.items-item-items.result.now)
    (sym (ap reverse new.0))
    (subst (λ (hs : List Item). Completes rules word [] hs standing.next c.items-item-items.result.now) (sym new.1)
    (subst (λ (n : ℕ). Completes rules word [] [] n c.items-item-items.result.now) (sym new.2)
    (subst (λ (xs : List Item). Completes rules word [] [] 0 xs) (sym c.items-item-items.ensures) h))) in
    let back : CanEnd rules word standing c.items-item-items.result.now → Completes rules word [] [] 0 c.args.tree.now =
    λ h. subst (λ (xs : List Item). Completes rules word [] [] 0 xs) c.items-item-items.ensures
    (subst (λ (n : ℕ). Completes rules word [] [] n c.items-item-items.result.now) new.2
    (subst (λ (hs : List Item). Completes rules word [] hs standing.next c.items-item-items.result.now) new.1
    (subst (λ (ns : List OpenNode). Completes rules word ns standing.heads.items standing.next c.items-item-items.result.now)
    (ap reverse new.0) h))) in
    (λ t. to (read.0 t), λ h. read.1 (back h))

pub loop-item-preserved : goal.loop-item-preserved
loop-item-preserved c =
    let rules = c.args.rules.now in
    let word = word_of c.args.tokens.now in
    let xs = c.items-item-items.result.now in
    let i = c.loop-item.item-index in
    let item : Item = get_or xs i (items.Enter 0 0 0) in
    let split : drop i xs ≡ item ∷ drop (i + 1) xs = drop_more xs i (items.Enter 0 0 0) (omega arith) in
    let read : CanEnd rules word c.loop-item.standing (item ∷ drop (i + 1) xs)
    ↔ (IsTrue c.in_ok-read.field-0 × CanEnd rules word c.read.new.self (drop (i + 1) xs)) = c.in_ok-read.ensures (drop (i + 1) xs) in (
      λ t. (read.0 (subst (CanEnd rules word c.loop-item.standing) split (c.loop-item.invariant.0 t))).1,
      λ h. c.loop-item.invariant.1 (subst (CanEnd rules word c.loop-item.standing) (sym split) (read.1 (c.if-not-branch.false, h))),
    )

pub returns-then-not-branch : goal.returns-then-not-branch
returns-then-not-branch c =
    let rules = c.args.rules.now in
    let word = word_of c.args.tokens.now in
    let xs = c.items-item-items.result.now in
    let i = c.loop-item.item-index in
    let item : Item = get_or xs i (items.Enter 0 0 0) in
    let split : drop i xs ≡ item ∷ drop (i + 1) xs = drop_more xs i (items.Enter 0 0 0) (omega arith) in
    let read : CanEnd rules word c.loop-item.standing (item ∷ drop (i + 1) xs)
    ↔ (IsTrue c.in_ok-read.field-0 × CanEnd rules word c.read.new.self (drop (i + 1) xs)) = c.in_ok-read.ensures (drop (i + 1) xs) in (
      λ h. absurd (let n : ⊥ = cc in n),
      λ t.
          let yes = (read.0 (subst (CanEnd rules word c.loop-item.standing) split (c.loop-item.invariant.0 t))).0 in
          let no = c.if-not-branch.true in absurd (let n : ⊥ = cc in n),
    )

pub returns : goal.returns
returns c =
    let rules = c.args.rules.now in
    let word = word_of c.args.tokens.now in
    let last : drop c.loop-item.item-index c.items-item-items.result.now ≡ [] =
    drop_all c.loop-item.item-index c.items-item-items.result.now (omega arith) in
    let complete = c.is_complete.ensures rules word in (
      λ h. c.loop-item.invariant.1 (subst (CanEnd rules word c.loop-item.standing) (sym last) (complete.0 h)),
      λ t. complete.1 (subst (CanEnd rules word c.loop-item.standing) last (c.loop-item.invariant.0 t)),
    )
