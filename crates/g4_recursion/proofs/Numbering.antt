-- The numbers of rules by their names, one rule more at a time.
use Rattle.std.proofs.Common.{◌≡◌, ℕ, ◌+◌, ◌<◌, List, [], ◌∷◌, ◌++◌, length, map, take, get_or, cond, Option, Some, None, sym, ap, ◌∙◌, arith}
use Rattle.std.specs.List.{position}
use Rattle.std.specs.Option.{option_or}
use Rattle.std.proofs.lemmas.List.{take_more, map-append, length-map, length-take}
use Rattle.g4_names.proofs.Firsts.{position-push}
use Rattle.g4_source.specs.declared.kind.RuleKind.{RuleKind}
use Rattle.g4_source.specs.declared.rules.RuleView.{RuleView}
use Rattle.g4_source.specs.Views.{rule_view}
use Rattle.g4_grammar.specs.Written.{is_rule_of}
use Rattle.g4_recursion.specs.declared.numbers.Numbers.{Numbers}
use Rattle.g4_recursion.specs.Numbers.{AreNumbers, number_in, rule_number}

-- these are the numbers of the rules before an index
abbrev pub AreNumbered : List RuleView → ℕ → Numbers → Type 0
AreNumbered rules i numbers = AreNumbers (map rule_view (take i rules)) numbers

-- and with the next rule
pub one_numbered : (rules : List RuleView) (i : ℕ) (rule : RuleView) (old new : Numbers) → i < length rules
    → rule ≡ get_or rules i rule → AreNumbered rules i old →
    ((kind : RuleKind) (name : List ℕ) → number_in new kind name
    ≡ option_or (number_in old kind name) (cond (is_rule_of kind name (rule_view rule)) (Some i) None)) → AreNumbered rules (i + 1) new
one_numbered rules i rule old new within item before added kind name =
    let front : List _ = map rule_view (take i rules) in
    let next : map rule_view (take (i + 1) rules) ≡ front ++ rule_view rule ∷ [] =
    ap (map rule_view) (take_more rules i rule within ∙ ap (λ (r : RuleView). take i rules ++ r ∷ []) (sym item))
    ∙ map-append rule_view (take i rules) (rule ∷ []) in
    let long : length front ≡ i = omega (arith, length-map (take i rules) rule_view, length-take i rules) in
    added kind name
    ∙ (ap (λ (o : Option ℕ). option_or o (cond (is_rule_of kind name (rule_view rule)) (Some i) None)) (before kind name)
    ∙ (ap (λ (n : ℕ). option_or (rule_number front kind name) (cond (is_rule_of kind name (rule_view rule)) (Some n) None)) (sym long)
    ∙ (sym (position-push (is_rule_of kind name) front (rule_view rule)) ∙ ap (position (is_rule_of kind name)) (sym next))))
