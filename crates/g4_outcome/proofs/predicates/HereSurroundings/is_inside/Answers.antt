use Rattle.std.proofs.Common.{◌∙◌, ℕ, List, sym, ap}
use Rattle.std.specs.List.{list_any}
use Rattle.std.specs.Str.{bytes_eq}
use Rattle.g4_parse.specs.declared.predicates.Opened.{Opened}
use Rattle.g4_outcome.specs.Predicates.{rule_name}
use Rattle.g4_outcome.proofs.OpenNames.{open_names}
use Rattle.g4_outcome.proofs.predicates.HereSurroundings.is_inside.Goals as goal

pub returns : goal.returns
returns c =
    let opened : List Opened = c.args.self.now.opened.now in
    c.is_open.ensures
    ∙ ap (λ (names : List (List ℕ)). list_any (λ (o : Opened). bytes_eq c.args.rule.now (rule_name names o.rule)) opened) c.as_slice.ensures
    ∙ sym (open_names c.args.self.now.grammar.now.names c.args.rule.now opened)
