use Rattle.std.proofs.Common.{List, ◌++◌, ◌∷◌, [], refl, sym, ap, ◌∙◌}
use Rattle.g4_grammar.specs.declared.token_types.TokenLiteral.{TokenLiteral}
use Rattle.g4_vocab.proofs.Groups.{group_at, joins_set}
use Rattle.g4_vocab.proofs.by_type.join.Goals as goal

pub returns : goal.returns
returns c =
    let old = c.args.groups.now.items in
    let token = c.args.token in
    let at = group_at old token.symbol c.index_mut.result.now c.requires c.index_mut.ensures.value in
    joins_set old _ token c.push.new.self c.requires
    (c.in_ok-push.ensures.items ∙ ap (λ (ts : List TokenLiteral). ts ++ token ∷ []) (sym at)) refl
