use Rattle.std.proofs.Common.{◌≡◌, ◌<◌, ℕ, List, [], Some, length, refl, sym, ap, ◌∙◌, subst, rules}
use Rattle.std.specs.List.{slice_get}
use Rattle.std.proofs.lemmas.Option.{slice_get_read}
use Rattle.g4_horn.specs.Chaining.{Known}
use Rattle.g4_horn.proofs.Steps.{waits_taken}
use Rattle.g4_horn.proofs.chaining.Chaining.next_waits.Goals as goal

pub returns-clause-under_way : goal.returns-clause-under_way
returns-clause-under_way c =
    let within : c.in_ok-number.number < length c.args.self.now.waiting.items = search rules in
    let there : slice_get c.args.self.now.waiting.items c.in_ok-number.number ≡ Some c.index_mut-waits.result.now =
    slice_get_read c.args.self.now.waiting.items (length c.args.self.now.waiting.items) c.in_ok-number.number
    c.index_mut-waits.result.now refl within c.index_mut-waits.ensures.value in
    λ clauses count known. waits_taken clauses count c.args.self.now.follows.items c.args.self.now.waiting.items c.pop.new.self.items
    c.in_ok-number.number c.replace.result c.replace.new.dest
    (subst (λ (ready : List ℕ). Known clauses count [] c.args.self.now.follows.items c.args.self.now.waiting.items ready)
    c.in_ok-number.ensures.items known)
    (there ∙ ap Some (sym c.replace.ensures.value)) (ap (λ ws. ws.items) c.replace.ensures.after ∙ c.new.ensures.items)
