-- The rules of a lexer's network.
use Rattle.std.specs.Prelude.{ℕ, ◌+◌, ◌*◌, List, ◌++◌, length, map, sum_by}
use Rattle.std.specs.List.{range_with_len}
use Rattle.g4_source.specs.Bind.{in_order_bind, in_order_over}
use Rattle.g4_source.specs.Elements.{Elements, Alternatives, either}
use Rattle.g4_source.specs.declared.rule.Command.{Command}
use Rattle.g4_source.specs.declared.rule.LexerRule.{LexerRule}
use Rattle.g4_source.specs.Rules.{lexer_alternatives_of}
use Rattle.g4_grammar.specs.declared.step.Numbering.{Numbering}
use Rattle.g4_grammar.specs.declared.step.Step.{Step}
use Rattle.g4_layout.specs.Size.{states_of_rule_by}
use Rattle.g4_states.specs.AtomSizes.{states_of_atom}
use Rattle.g4_ordered.specs.declared.network.Reads.{Reads}
use Rattle.g4_lexer_rules.specs.declared.step.LexerStep.{LexerStep}
use Rattle.g4_lexer_rules.specs.Steps.{element_of_kind, step_of}

-- all rules of the network: those of literals that have tokens of their own, by type, and then the lexer rules of all modes in order
-- of the text; their numbers are their places
abbrev pub all_rules : List LexerRule → List LexerRule → List LexerRule
all_rules literals rules = literals ++ rules

-- the names of rules
abbrev pub names_of : List LexerRule → List (List ℕ)
names_of rules = map (λ rule. rule.name) rules

-- the alternatives of one of these rules over steps
abbrev pub lowered : List LexerRule → LexerRule → List (Elements LexerStep)
lowered rules rule = map (λ x. in_order_bind (λ a. element_of_kind (names_of rules) a.kind) x.elements) rule.alternatives

-- the alternatives of the rules in the network
abbrev pub trees_of : List LexerRule → List (Alternatives (Step Reads))
trees_of rules = map (λ rule. either (map (in_order_over step_of) (lowered rules rule))) rules

-- a rule begins with each of `count` alternatives
abbrev pub numbering_of : ℕ → Numbering
numbering_of count = record { starts = range_with_len 1 count; count = count }

-- each rule begins with each of its alternatives
abbrev pub numberings_of : List LexerRule → List Numbering
numberings_of rules = map (λ rule. numbering_of (length rule.alternatives)) rules

-- the commands of the alternatives of each rule
abbrev pub commands_of : List LexerRule → List (List (List Command))
commands_of rules = map (λ rule. map (λ x. x.commands) rule.alternatives) rules

-- how many states the network has: two a rule, and those of each rule's alternatives, a literal making one for each of its characters
abbrev pub lexer_states : List LexerRule → ℕ
lexer_states rules = 2 * length rules + sum_by (λ rule. states_of_rule_by states_of_atom (lexer_alternatives_of rule)) rules
