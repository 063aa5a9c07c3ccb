use Rattle.std.proofs.Common.{◌≡◌, ◌∙◌, ℕ, List, ap, map, subst, sym}
use Rattle.std.specs.List.{flat_map}
use Rattle.g4_source.proofs.Lists.{parts-map}
use Rattle.g4_source.specs.Atoms.{all_atoms}
use Rattle.g4_source.specs.Views.{rule_view}
use Rattle.g4_checks.specs.Predicates.{ArePredicates}
use Rattle.g4_checks.specs.Uses.{parser_predicate_text}
use Rattle.g4_checks.specs.Views.{use_view}
use Rattle.g4_checks.proofs.ParserPredicates.{texts_are}
use Rattle.g4_checks.proofs.rule_predicates.predicates_of.Goals as goal

pub returns : goal.returns
returns c =
    let rules = c.args.source.now.rules in
    let atoms : map use_view c.as_slice-3.result.now ≡ all_atoms rules =
    ap (map use_view) c.as_slice-3.ensures.value ∙ (c.in_ok-atoms.ensures
    ∙ (ap (λ views. all_atoms (map rule_view views)) c.as_slice-2.ensures.value
    ∙ ap all_atoms (c.in_ok-rules.ensures ∙ c.as_slice.ensures))) in
    subst (λ (texts : List (List ℕ)). ArePredicates texts c.in_ok-predicates.predicates)
    (sym (parts-map parser_predicate_text use_view c.as_slice-3.result.now) ∙ (ap (flat_map parser_predicate_text) atoms ∙ texts_are rules))
    c.in_ok-predicates.ensures
