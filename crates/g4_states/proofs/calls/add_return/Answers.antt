use Rattle.std.proofs.Common.{List, ◌∷◌, [], ◌++◌, ◌∙◌, ap, ℕ, arith}
use Rattle.g4_states.proofs.Returns.{no_return_past, return_put}
use Rattle.g4_states.proofs.calls.add_return.Goals as goal

pub returns-then-rule-len : goal.returns-then-rule-len
returns-then-rule-len c = no_return_past c.args.rule c.args.back c.args.lists.now.items
    (omega (arith, c.if-rule-len.true, c.len.ensures, c.args.lists.now.ok.0))

pub returns : goal.returns
returns c =
    return_put c.args.lists.now.items c.args.rule c.args.back c.index_mut.result.now c.replace-list.new.dest c.new-2.result
    c.push.new.self.items (omega (arith, c.if-rule-len.false, c.len.ensures, c.args.lists.now.ok.0)) c.index_mut.ensures.value
    (c.in_ok-push.ensures.items ∙ ap (λ (l : List ℕ). l ++ c.args.back ∷ [])
    (c.into_vec-returns.ensures ∙ c.replace-list.ensures.value)) c.new-2.ensures
