use Rattle.std.proofs.Common.{rules, ◌≡◌, ◌+◌, ◌∙◌, List, map, Vec, sym, ap}
use Rattle.std.specs.Global.{Global}
use Rattle.std.specs.List.{flat_map}
use Rattle.std.proofs.lemmas.List.{map-id}
use Rattle.std.proofs.lemmas.Iterator.Adapters.{YieldsList-from_vec}
use Rattle.std.proofs.lemmas.Iterator.Consumers.{YieldsList-end}
use Rattle.g4_grammar.specs.declared.token_types.TokenLiteral.{TokenLiteral}
use Rattle.g4_token_file.specs.Keys.{greatest_number}
use Rattle.g4_vocab.specs.Shown.{own_token}
use Rattle.g4_vocab.proofs.Groups.{flat_groups}
use Rattle.g4_vocab.proofs.by_type.by_type.Goals as goal

pub returns : goal.returns
returns c =
    let types = c.args.types.now in
    let groups = c.in_ok-groups.groups in
    let end = YieldsList-end (YieldsList-from_vec {s = c.into_iter-group-iterator.result} groups.items (search rules) (search rules))
    c.loop-group.yielded c.loop-group.group-iterator c.loop-group.yielded_by c.next.result c.next.new.self c.in-None.is
    c.next.ensures.steps in
    let all : c.loop-group.yielded ≡ groups.items = sym (map-id c.loop-group.yielded) ∙ end.0 in
    c.new.ensures
    ∙ (c.loop-group.invariant
    ∙ (ap (λ (gs : List (Vec TokenLiteral Global)). flat_map (λ g. g.items) gs) all
    ∙ flat_groups (greatest_number types + 1) (map (own_token types) (map (λ l. l.now) c.args.literals.now)) groups
    c.in_ok-groups.ensures))
