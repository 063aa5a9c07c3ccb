use Rattle.std.proofs.Common.{◌≡◌, ℕ, List, Some, cond, sym, ap, ◌∙◌}
use Rattle.std.specs.Option.{is_some}
use Rattle.std.specs.Str.{bytes_eq}
use Rattle.std.proofs.lemmas.Map.Text.{btree_map_updates_str}
use Rattle.g4_vocab.specs.Tables.{at}
use Rattle.g4_vocab.proofs.Kept.{rule_kept, several, alone}
use Rattle.g4_vocab.proofs.wholes.add_rule.Goals as goal
use Rattle.g4_vocab.proofs.wholes.add_rule.Goals.{then-contains_key, else-contains_key}

pub returns-in_ok-insert : goal.returns-in_ok-insert
returns-in_ok-insert c =
    let old = c.args.names.now in
    let literal = c.in-Some.literal.now in
    let name = c.args.rule.now.name in
    let only = c.if-contains_key.only in
    let chars : c.as_slice-characters.result.now ≡ literal.characters = c.as_slice-characters.ensures in
    let there : c.contains_key.result ≡ is_some (at old literal.characters) = rw chars at c.contains_key.ensures in
    rule_kept c.args.rule.now literal old c.insert.new.self only c.in-Some.ensures
    (λ q. btree_map_updates_str c.as_slice-characters.result.now old c.insert.new.self (Some only) c.in_ok-insert.ensures.updates q
    ∙ ap (λ (cs : List ℕ). cond (bytes_eq cs q) (Some only) (at old q)) chars)
    (elim c.if-contains_key.branch [
      | then-contains_key w ↦ rw w.only-is (several old literal.characters name (sym there ∙ w.if-contains_key.true))
      | else-contains_key w ↦ rw (w.only-is, w.as_str.ensures) (alone old literal.characters name (sym there ∙ w.if-contains_key.false))
    ])
