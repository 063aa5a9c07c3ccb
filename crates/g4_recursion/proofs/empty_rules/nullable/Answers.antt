use Rattle.std.proofs.Common.{◌≡◌, ◌<◌, ℕ, List, Bool, length, take, sym, ap, ◌∙◌, subst, arith}
use Rattle.std.specs.List.{All}
use Rattle.std.proofs.lemmas.List.{length-map}
use Rattle.std.proofs.lemmas.List.Elements.{All-weaker}
use Rattle.std.proofs.lemmas.Option.{slice_get_within}
use Rattle.g4_horn.specs.declared.clause.Clause.{Clause}
use Rattle.g4_horn.specs.Follows.{Follows, Tells}
use Rattle.g4_recursion.specs.Leads.{IsNullableRule, alternatives_of, trees_of}
use Rattle.g4_recursion.specs.Bodies.{IsOfBody}
use Rattle.g4_recursion.proofs.Nullability.{rule_follows, rules_told}
use Rattle.g4_recursion.proofs.empty_rules.nullable.Goals as goal

pub consequences-requires : goal.consequences-requires
consequences-requires c =
    let (bodies, are, covered) = c.in_ok-bodies.ensures in
    let heads : All (λ (k : Clause). k.head < c.in_ok-bodies.bodies.count) c.in_ok-bodies.bodies.clauses.items =
    All-weaker (IsOfBody (trees_of c.args.rules.now) bodies) (λ (k : Clause). k.head < c.in_ok-bodies.bodies.count)
    (λ k b. omega (arith, slice_get_within bodies k.head b.body b.at, are.body_count)) c.in_ok-bodies.bodies.clauses.items
    are.of_bodies in
    subst (All (λ (k : Clause). k.head < c.in_ok-bodies.bodies.count)) (sym c.as_slice.ensures.value) heads

pub returns-clause-count : goal.returns-clause-count
returns-clause-count c =
    let (bodies, are, covered) = c.in_ok-bodies.ensures in
    omega (
      arith,
      c.truncate.ensures.len,
      c.in_ok-answers.ensures.count,
      are.body_count,
      are.no_fewer,
      length-map c.args.rules.now alternatives_of,
    )

pub returns-clause-nullable : goal.returns-clause-nullable
returns-clause-nullable c =
    let rules = trees_of c.args.rules.now in
    let clauses = c.in_ok-bodies.bodies.clauses.items in
    let (bodies, are, covered) = c.in_ok-bodies.ensures in
    let answers = c.in_ok-answers.answers.items in
    let told : Tells answers (Follows clauses) =
    subst (λ (cs : List Clause). Tells answers (Follows cs)) c.as_slice.ensures.value c.in_ok-answers.ensures.follows in
    let first : take (length rules) answers ≡ c.truncate.new.self.items =
    ap (λ (n : ℕ). take n answers) (length-map c.args.rules.now alternatives_of) ∙ sym c.truncate.ensures.items in
    subst (λ (l : List Bool). Tells l (IsNullableRule rules)) first
    (rules_told rules clauses answers (rule_follows rules bodies clauses are.rules_first are.of_bodies covered) told)
