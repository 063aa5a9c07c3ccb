use Rattle.std.proofs.Common.{◌≡◌, ◌<◌, List, length, ℕ, sym, subst}
use Rattle.std.specs.List.{All}
use Rattle.g4_horn.specs.declared.clause.Clause.{Clause}
use Rattle.g4_imports.specs.Clauses.{Covers}
use Rattle.g4_imports.proofs.Following.{follows_where_has}
use Rattle.g4_imports.proofs.modes.with_modes.Goals as goal

pub returns : goal.returns
returns c =
    let grammar = c.args.grammar.now in
    let clauses = c.as_slice.result.now in
    let covers : Covers grammar (length grammar.files) grammar.imports clauses =
    subst (λ (cs : List Clause). Covers grammar (length grammar.files) grammar.imports cs) (sym c.as_slice.ensures.value)
    c.in_ok-clauses.ensures in
    λ n. (
      λ said. (follows_where_has grammar clauses covers n).0 ((c.in_ok-modes.ensures.follows n).0 said),
      λ has. (c.in_ok-modes.ensures.follows n).1 ((follows_where_has grammar clauses covers n).1 has),
    )
