use Rattle.std.proofs.Common.{◌≡◌, ◌∙◌, ◌++◌, [], ap}
use Rattle.std.specs.List.{cons_option}
use Rattle.g4_checks.specs.Uses.{parser_predicate_text}
use Rattle.g4_checks.specs.Views.{use_view}
use Rattle.g4_checks.proofs.ParserPredicates.{atom_known, kept_none, kept_one, one_more}
use Rattle.g4_checks.proofs.rule_predicates.read_all.Goals.{in-Some+in_ok-push, in_default}
use Rattle.g4_checks.proofs.rule_predicates.read_all.Goals as goal

pub read_use-requires : goal.read_use-requires
read_use-requires c =
    atom_known c.args.atoms.now c.loop-atom.atom-index c.atom-item.result c.loop-atom-test.true c.atom-item.is c.requires

pub loop-atom-preserved : goal.loop-atom-preserved
loop-atom-preserved c =
    let old = c.loop-atom.predicates.items in
    let new = c.match-branch-2.predicates.items in
    let found = c.in_ok-predicate.field-0 in
    let made : new ≡ old ++ cons_option found [] = elim c.match-branch-2.branch [
      | in-Some+in_ok-push w ↦ kept_one found w.in-Some.predicate old new w.in-Some.is
          (ap (λ v. v.items) w.predicates-is ∙ w.in_ok-push.ensures.items)
      | in_default w ↦ kept_none found old new w.in_default.is (ap (λ v. v.items) w.predicates-is)
    ] in
    one_more (λ x. parser_predicate_text (use_view x)) c.args.atoms.now c.loop-atom.atom-index old c.atom-item.result found new
    c.loop-atom-test.true c.atom-item.is c.in_ok-predicate.ensures made c.loop-atom.invariant
