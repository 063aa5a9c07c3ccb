use Rattle.std.proofs.Common.{List, ap, max, subst, sym, ◌∙◌}
use Rattle.g4_token_file.specs.Indexed.{IsIndexed}
use Rattle.g4_token_file.specs.Keys.{number_of}
use Rattle.g4_token_file.specs.declared.entry.TokenEntry.{TokenEntry}
use Rattle.g4_token_file.proofs.Keyed.{indexed_more}
use Rattle.g4_token_file.proofs.table.TokenTable.with_entry.Goals as goal

pub invariant_of-result : goal.invariant_of-result
invariant_of-result c =
    let entry = c.args.entry in
    let inside = c.self.inside in
    let fresh = ap (λ (es : List TokenEntry). number_of es entry.key) c.self.view_is ∙ c.requires.fresh in
    rw c.max-greatest.ensures
    (subst (λ (es : List TokenEntry). IsIndexed es c.add.new.self (max inside.greatest entry.number)) (sym c.in_ok-push.ensures.items)
    (indexed_more inside.entries.items inside.numbers c.add.new.self inside.greatest entry c.self.invariant fresh c.requires.within
    c.in_ok-add.ensures))
