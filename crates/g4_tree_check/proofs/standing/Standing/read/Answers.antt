use Rattle.std.proofs.Common.{◌↔◌, ◌∷◌, sym, subst, IsTrue}
use Rattle.g4_tokens.specs.TokenList.{word_of}
use Rattle.g4_trees.specs.declared.tree.Item.{Item}
use Rattle.g4_tree_check.specs.Standing.{CanEnd}
use Rattle.g4_tree_check.proofs.standing.Standing.read.Goals as goal

pub returns-in_ok-in_place-in-Enter : goal.returns-in_ok-in_place-in-Enter
returns-in_ok-in_place-in-Enter c = λ rest.
    let rules = c.args.rules.now in
    let word = word_of c.args.tokens.now in
    subst (λ (i : Item). CanEnd rules word c.args.self.now (i ∷ rest)
    ↔ (IsTrue c.in_ok-in_place-in-Enter.in_place × CanEnd rules word c.enter.new.self rest)) (sym c.in-Enter.is)
    (c.in_ok-in_place-in-Enter.ensures rules word rest)

pub returns-in_ok-in_order-in-Token : goal.returns-in_ok-in_order-in-Token
returns-in_ok-in_order-in-Token c = λ rest.
    let rules = c.args.rules.now in
    let word = word_of c.args.tokens.now in
    subst (λ (i : Item). CanEnd rules word c.args.self.now (i ∷ rest)
    ↔ (IsTrue c.in_ok-in_order-in-Token.in_order × CanEnd rules word c.token.new.self rest)) (sym c.in-Token.is)
    (c.in_ok-in_order-in-Token.ensures rules word rest)

pub returns-in_ok-closed-in-Exit : goal.returns-in_ok-closed-in-Exit
returns-in_ok-closed-in-Exit c = λ rest.
    let rules = c.args.rules.now in
    let word = word_of c.args.tokens.now in
    subst (λ (i : Item). CanEnd rules word c.args.self.now (i ∷ rest)
    ↔ (IsTrue c.in_ok-closed-in-Exit.closed × CanEnd rules word c.exit.new.self rest)) (sym c.in-Exit.is)
    (c.in_ok-closed-in-Exit.ensures rest)
