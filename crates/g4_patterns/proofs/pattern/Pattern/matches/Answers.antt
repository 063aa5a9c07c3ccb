use Rattle.std.proofs.Common.{◌∙◌, length, sym, ap, arith}
use Rattle.g4_patterns.proofs.There.{Lent, bindings_there, none_there}
use Rattle.g4_patterns.proofs.pattern.Pattern.matches.Goals as goal

pub bindings_at-requires : goal.bindings_at-requires
bindings_at-requires c = let same = ap length c.ground-ground.ensures.items in omega arith

pub returns-then-not-is_node : goal.returns-then-not-is_node
returns-then-not-is_node c =
    let p = c.args.self.now in
    let s = c.args.subject.now in
    none_there p.0 p.1 s.0 c.ground-ground.result.items.now s.1 c.ground-ground.ensures.items c.args.node
    (sym c.if-not-is_node.true ∙ c.is_node.ensures)

pub returns : goal.returns
returns c =
    let p = c.args.self.now in
    let s = c.args.subject.now in
    let g = c.ground-ground.result in
    let lent : Lent p.0 c.items-items.result.now p.1 c.tokens-tokens.result.now s.0 g.items.now s.1 g.tokens.now =
    record {
      items = c.items-items.ensures ∙ c.tree.ensures.tree;
      pattern_tokens = c.tokens-tokens.ensures;
      tree = c.ground-ground.ensures.items;
      file = c.ground-ground.ensures.tokens;
    } in
    bindings_there p.0 c.items-items.result.now p.1 c.tokens-tokens.result.now s.0 g.items.now s.1 g.tokens.now g.lasts.now lent
    c.ground-ground.ensures.indexed c.tree.ensures.nested c.args.node (sym c.if-not-is_node.false ∙ c.is_node.ensures)
    c.in_ok-bindings.bindings c.in_ok-bindings.ensures
