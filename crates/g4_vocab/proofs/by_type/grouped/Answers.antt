use Rattle.std.proofs.Common.{◌≡◌, ◌+◌, ◌++◌, ◌∷◌, [], List, map, take, sym, ap, ◌∙◌, subst, arith}
use Rattle.g4_grammar.specs.declared.token_types.TokenLiteral.{TokenLiteral}
use Rattle.g4_token_file.specs.Keys.{greatest_number}
use Rattle.g4_token_file.specs.declared.entry.TokenKey.TheVariants.{Literal}
use Rattle.g4_vocab.specs.Shown.{own_token}
use Rattle.g4_vocab.specs.Tables.{HaveJoined}
use Rattle.g4_vocab.proofs.Groups.{joined_more}
use Rattle.g4_vocab.proofs.Laws.{type_low}
use Rattle.g4_vocab.proofs.Lists.{made_more}
use Rattle.g4_vocab.proofs.by_type.grouped.Goals as goal

pub join-requires : goal.join-requires
join-requires c =
    let low = type_low c.args.types.now (Literal c.literal-item.result.now.characters) in
    omega (arith, low, ap (λ (t : TokenLiteral). t.symbol) c.in_ok-own_token.ensures, c.loop-literal.invariant.counted)

pub loop-literal-preserved : goal.loop-literal-preserved
loop-literal-preserved c =
    let types = c.args.types.now in
    let literals = c.args.literals.now in
    let i = c.loop-literal.literal-index in
    let literal = c.literal-item.result in
    let token = c.in_ok-own_token.field-0 in
    let old : List TokenLiteral = map (own_token types) (map (λ l. l.now) (take i literals)) in
    let next : map (own_token types) (map (λ l. l.now) (take (i + 1) literals)) ≡ old ++ token ∷ [] =
    made_more (own_token types) (λ l. l.now) literals i literal c.loop-literal-test.true c.literal-item.is
    ∙ ap (λ (t : TokenLiteral). old ++ t ∷ []) (sym c.in_ok-own_token.ensures) in
    subst (λ (ts : List TokenLiteral). HaveJoined (greatest_number types + 1) ts c.join.new.groups) (sym next)
    (joined_more (greatest_number types + 1) old token c.loop-literal.groups c.join.new.groups c.loop-literal.invariant
    c.in_ok-join.ensures)
