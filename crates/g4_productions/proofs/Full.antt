-- Each rule and each block of a grammar text has an alternative.
use Rattle.std.proofs.Common.{ℕ, List, [], ◌∷◌, ◌++◌, map, Option}
use Rattle.std.specs.List.{flat_map}
use Rattle.g4_grammar_tokens.specs.declared.token.Kind.TheVariants as kinds
use Rattle.g4_source.specs.declared.name.Label.{Label}
use Rattle.g4_source.specs.Full.{IsSome, IsFull, AreFull, EachIsFull, AreFullAlternatives}
use Rattle.g4_source.specs.Elements.{either}
use Rattle.g4_source.specs.Trees.{in_order}
use Rattle.g4_source.specs.declared.element.Repeat.{Repeat}
use Rattle.g4_source.specs.declared.element.Repeat.TheVariants as repeats
use Rattle.g4_source.specs.declared.rule.Rule.{Rule}
use Rattle.g4_source.specs.Blocks.{LexerRuleIsFull, RulesAreFull, HaveAlternatives}
use Rattle.g4_syntax.specs.Notation.{element, lexer_element, ◌▸◌, ◌∣◌, repeated, part, sign}
use Rattle.g4_syntax.specs.Productions.{action, alternative, unnamed_item, item, labelled_item, unnamed_lexer_item, lexer_item, labelled_lexer_item, rule_alternative, parser_rule, lexer_alternative, lexer_rule, mode, grammar}
use Rattle.g4_syntax.specs.Trees.{Tree, both, left, right, absent, present, end, more, inner}
use Rattle.g4_productions.specs.Elements.{Labelled, single, brackets, with_suffix, optional_suffix_of, action_of}
use Rattle.g4_productions.specs.ParserElements.{parser_element, parser_elements, labelled, named_item, unnamed, alternative_elements, alternatives_after}
use Rattle.g4_productions.specs.LexerElements.{lexer_element_of, lexer_elements, labelled_lexer, named_lexer_item, unnamed_lexer, lexer_alternatives_after}
use Rattle.g4_productions.specs.Rules.{rule_alternatives_after, parser_rule_of, rule_lexer_alternatives_after, lexer_rule_of, lexer_rules, combined_rules, default_rules, parser_rules, in_mode, section_rules, sections_of}
use Rattle.g4_cursor.specs.Texts.{text_of}
use Rattle.g4_productions.specs.Grammars.{source_of}

-- an action is no block
action_full : (a : Tree action) → IsFull (action_of a)
action_full (both a absent) = tt
action_full (both a (present (both question options))) = tt

-- brackets have an alternative, and each block in them
abbrev LabelledIsFull : Labelled → Type 0
LabelledIsFull (single associates a) = Unit {0}
LabelledIsFull (brackets label alternatives) = IsSome alternatives × EachIsFull alternatives

-- an element with a sign or without one
suffix_full : (x : Labelled) (r : Repeat) → LabelledIsFull x → IsFull (with_suffix x r)
suffix_full (single associates a) repeats.Once full = tt
suffix_full (single associates a) (repeats.Optional s) full = (tt, ((tt, tt), tt))
suffix_full (single associates a) (repeats.Star s) full = (tt, ((tt, tt), tt))
suffix_full (single associates a) (repeats.Plus s) full = (tt, ((tt, tt), tt))
suffix_full (brackets label alternatives) r full = full

mutual
  -- an element of a parser rule
  parser_full : (x : Tree (part element)) → IsFull (parser_element x)
  parser_full (inner (left a)) = action_full a
  parser_full (inner (right (both x s))) = suffix_full (labelled x) (optional_suffix_of s) (labelled_full x)

  labelled_full : (x : Tree labelled_item) → LabelledIsFull (labelled x)
  labelled_full (left (both n (left (both a i)))) = named_full _ i
  labelled_full (left (both n (right (both arguments options)))) = tt
  labelled_full (right (left (both n (left (both a i))))) = named_full _ i
  labelled_full (right (left (both n (right options)))) = tt
  labelled_full (right (right u)) = unnamed_full _ u

  named_full : (l : Option Label) (i : Tree item) → LabelledIsFull (named_item l i)
  named_full l (left (both n (both arguments options))) = tt
  named_full l (right (left (both n options))) = tt
  named_full l (right (right u)) = unnamed_full l u

  unnamed_full : (l : Option Label) (u : Tree unnamed_item) → LabelledIsFull (unnamed l u)
  unnamed_full l (left (both literal options)) = tt
  unnamed_full l (right (left (both dot options))) = tt
  unnamed_full l (right (right (left (both tilde s)))) = tt
  unnamed_full l (right (right (right (both opening (both prequel (both (both x xs) closing)))))) =
      (tt, (alternative_full x, after_full xs))

  -- the elements of an alternative
  parser_elements_full : (xs : Tree (repeated (part element))) → AreFull (in_order (parser_elements xs))
  parser_elements_full end = tt
  parser_elements_full (more x xs) = (parser_full x, parser_elements_full xs)

  alternative_full : (x : Tree alternative) → AreFull (alternative_elements x)
  alternative_full (both options xs) = parser_elements_full xs

  -- the alternatives after bars
  after_full : (xs : Tree (repeated (sign kinds.Bar ▸ alternative))) → EachIsFull (either (alternatives_after xs))
  after_full end = tt
  after_full (more (both bar x) xs) = (alternative_full x, after_full xs)

mutual
  -- an element of a lexer rule
  lexer_full : (x : Tree (part lexer_element)) → IsFull (lexer_element_of x)
  lexer_full (inner (left a)) = action_full a
  lexer_full (inner (right (both x s))) = suffix_full (labelled_lexer x) (optional_suffix_of s) (labelled_lexer_full x)

  labelled_lexer_full : (x : Tree labelled_lexer_item) → LabelledIsFull (labelled_lexer x)
  labelled_lexer_full (left (both n (both a i))) = named_lexer_full _ i
  labelled_lexer_full (right (left (both n (left (both a i))))) = named_lexer_full _ i
  labelled_lexer_full (right (left (both n (right options)))) = tt
  labelled_lexer_full (right (right u)) = unnamed_lexer_full _ u

  named_lexer_full : (l : Option Label) (i : Tree lexer_item) → LabelledIsFull (named_lexer_item l i)
  named_lexer_full l (left (both n options)) = tt
  named_lexer_full l (right u) = unnamed_lexer_full l u

  unnamed_lexer_full : (l : Option Label) (u : Tree unnamed_lexer_item) → LabelledIsFull (unnamed_lexer l u)
  unnamed_lexer_full l (left (both literal (left (both dots last)))) = tt
  unnamed_lexer_full l (left (both literal (right options))) = tt
  unnamed_lexer_full l (right (left set)) = tt
  unnamed_lexer_full l (right (right (left dot))) = tt
  unnamed_lexer_full l (right (right (right (left (both tilde s))))) = tt
  unnamed_lexer_full l (right (right (right (right (both opening (both (both x xs) closing)))))) =
      (tt, (lexer_elements_full x, lexer_after_full xs))

  -- the elements of an alternative
  lexer_elements_full : (xs : Tree (repeated (part lexer_element))) → AreFull (in_order (lexer_elements xs))
  lexer_elements_full end = tt
  lexer_elements_full (more x xs) = (lexer_full x, lexer_elements_full xs)

  -- the alternatives after bars
  lexer_after_full : (xs : Tree (repeated (sign kinds.Bar ▸ repeated (part lexer_element))))
      → EachIsFull (either (lexer_alternatives_after xs))
  lexer_after_full end = tt
  lexer_after_full (more (both bar x) xs) = (lexer_elements_full x, lexer_after_full xs)

-- the alternatives of a parser rule after bars
rule_after_full : (xs : Tree (repeated (sign kinds.Bar ▸ rule_alternative)))
    → EachIsFull (either (map (λ a. a.elements) (rule_alternatives_after xs)))
rule_after_full end = tt
rule_after_full (more (both bar (both x l)) xs) = (alternative_full x, rule_after_full xs)

-- a parser rule
parser_rule_full : (r : Tree parser_rule) → AreFullAlternatives (map (λ a. a.elements) (parser_rule_of r).alternatives)
parser_rule_full (both modifier (both n (both prequels (both colon (both (both (both x l) xs) (both semicolon handlers)))))) =
    (tt, (alternative_full x, rule_after_full xs))

-- the alternatives of a lexer rule after bars
rule_lexer_after_full : (xs : Tree (repeated (sign kinds.Bar ▸ lexer_alternative)))
    → EachIsFull (either (map (λ a. a.elements) (rule_lexer_alternatives_after xs)))
rule_lexer_after_full end = tt
rule_lexer_after_full (more (both bar (both x cs)) xs) = (lexer_elements_full x, rule_lexer_after_full xs)

-- a lexer rule
lexer_rule_full : (r : Tree lexer_rule) → LexerRuleIsFull (lexer_rule_of r)
lexer_rule_full (both fragment (both n (both options (both colon (both (both (both x cs) xs) semicolon))))) =
    (tt, (lexer_elements_full x, rule_lexer_after_full xs))

-- rules of each kind
combined_full : (rs : Tree (repeated (lexer_rule ∣ parser_rule))) → RulesAreFull (combined_rules rs)
combined_full end = tt
combined_full (more (left r) rs) = (lexer_rule_full r, combined_full rs)
combined_full (more (right r) rs) = (parser_rule_full r, combined_full rs)

default_full : (rs : Tree (repeated lexer_rule)) → RulesAreFull (default_rules rs)
default_full end = tt
default_full (more r rs) = (lexer_rule_full r, default_full rs)

parser_rules_full : (rs : Tree (repeated parser_rule)) → RulesAreFull (parser_rules rs)
parser_rules_full end = tt
parser_rules_full (more r rs) = (parser_rule_full r, parser_rules_full rs)

-- the rules of a section, and those of sections
section_rules_full : (name : List ℕ) (rs : Tree (repeated lexer_rule)) → RulesAreFull (map (in_mode name) (lexer_rules rs))
section_rules_full name end = tt
section_rules_full name (more r rs) = (lexer_rule_full r, section_rules_full name rs)

both_full : (xs ys : List Rule) → RulesAreFull xs → RulesAreFull ys → RulesAreFull (xs ++ ys)
both_full [] ys first second = second
both_full (x ∷ xs) ys first second = (first.0, both_full xs ys first.1 second)

sections_full : (ms : Tree (repeated mode)) → RulesAreFull (flat_map section_rules (sections_of ms))
sections_full end = tt
sections_full (more (both keyword (both n (both semicolon rs))) ms) =
    both_full (map (in_mode (text_of n)) (lexer_rules rs)) (flat_map section_rules (sections_of ms)) (section_rules_full (text_of n) rs)
    (sections_full ms)

-- each rule and each block of a grammar has an alternative
pub source_full : (x : Tree grammar) → HaveAlternatives (source_of x)
source_full (left (both keyword (both h rs))) = combined_full rs
source_full (right (left (both keyword (both other (both h (both rs ms)))))) =
    both_full (default_rules rs) (flat_map section_rules (sections_of ms)) (default_full rs) (sections_full ms)
source_full (right (right (both keyword (both other (both h rs))))) = parser_rules_full rs
