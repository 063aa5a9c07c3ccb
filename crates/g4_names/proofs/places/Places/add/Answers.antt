use Rattle.std.proofs.Common.{◌≡◌, ℕ, List, Option, Some, true, false, sym, ap, ◌∙◌, Bor}
use Rattle.std.specs.BTreeMap.{BTreeMap, get_by, is_at}
use Rattle.std.specs.Cmp.Lexicographic.{slice_cmp}
use Rattle.std.specs.Map.{lookup}
use Rattle.std.specs.Option.{is_some}
use Rattle.std.specs.Ordering.{nat_cmp}
use Rattle.std.proofs.lemmas.Map.Text.{btree_map_updates_str}
use Rattle.g4_names.specs.Places.{place_in}
use Rattle.g4_names.proofs.Firsts.{on_err, new_name, old_name}
use Rattle.g4_names.proofs.places.Places.add.Goals as goal

-- the number that a map has for a name
abbrev number_at : BTreeMap (Bor (List ℕ)) ℕ → List ℕ → Option ℕ
number_at numbers name = get_by (λ other. slice_cmp nat_cmp name other.now) numbers

pub returns-in_err-insert-clause-kept : goal.returns-in_err-insert-clause-kept
unfolding place_in
returns-in_err-insert-clause-kept c = on_err c.from_residual.result
    (λ other. ap (λ (entries : List (Bor (List ℕ) × ℕ)).
    lookup (is_at (λ (name : Bor (List ℕ)). slice_cmp nat_cmp other name.now)) entries) c.in_err-insert.ensures.err)

pub returns-in_ok-insert-clause-added : goal.returns-in_ok-insert-clause-added
unfolding place_in
returns-in_ok-insert-clause-added c =
    let absent : is_some (number_at c.args.self.now.by_name c.args.name.now) ≡ false = cc in
    λ other. btree_map_updates_str c.args.name.now c.args.self.now.by_name c.insert.new.self (Some c.args.place)
    c.in_ok-insert.ensures.updates other ∙ new_name (number_at c.args.self.now.by_name) c.args.name.now c.args.place absent other

pub returns-else-not-contains_key-clause-added : goal.returns-else-not-contains_key-clause-added
unfolding place_in
returns-else-not-contains_key-clause-added c =
    let there : is_some (number_at c.args.self.now.by_name c.args.name.now) ≡ true =
    sym c.contains_key.ensures ∙ c.if-not-contains_key.false in
    old_name (number_at c.args.self.now.by_name) c.args.name.now c.args.place there
