-- The atoms of rules, each with the kind of its rule: what a name means differs with it.
use Rattle.std.specs.Prelude.{List, map}
use Rattle.std.specs.List.{flat_map}
use Rattle.g4_source.specs.Elements.{Alternatives, atoms_of_either}
use Rattle.g4_source.specs.Bind.{either_over}
use Rattle.g4_source.specs.declared.atom.Atom.{Atom}
use Rattle.g4_source.specs.declared.rule.Rule.{Rule}
use Rattle.g4_source.specs.declared.rule.Rule.TheVariants as rules
use Rattle.g4_source.specs.Rules.{alternatives_of, lexer_alternatives_of}
use Rattle.g4_source.specs.declared.kind.RuleKind.{RuleKind}
use Rattle.g4_source.specs.declared.kind.RuleKind.TheVariants.{Parser, Lexer}

-- an atom in a rule of a kind
pub record AtomIn : Type 0 where
  pub kind : RuleKind
  pub atom : Atom

abbrev pub atom_in : RuleKind → Atom → AtomIn
atom_in kind a = record { kind = kind; atom = a }

-- the alternatives of a rule over such atoms
abbrev pub body_of : Rule → Alternatives AtomIn
body_of (rules.Parser rule) = either_over (atom_in Parser) (alternatives_of rule)
body_of (rules.Lexer rule) = either_over (atom_in Lexer) (lexer_alternatives_of rule)

-- those of each rule in order
abbrev pub bodies_of : List Rule → List (Alternatives AtomIn)
bodies_of rules = map body_of rules

-- the atoms of a rule in order
abbrev pub rule_atoms : Rule → List AtomIn
rule_atoms (rules.Parser rule) = map (atom_in Parser) (atoms_of_either (alternatives_of rule))
rule_atoms (rules.Lexer rule) = map (atom_in Lexer) (atoms_of_either (lexer_alternatives_of rule))

-- the atoms of rules in order
abbrev pub all_atoms : List Rule → List AtomIn
all_atoms rules = flat_map rule_atoms rules
