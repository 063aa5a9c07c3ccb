-- What the atoms of rules read as they are written, and which rules they call.
use Rattle.std.specs.Prelude.{◌≡◌, ◌≤◌, ◌⊎◌, ℕ, List, [], ◌∷◌, Bool, true, false, Some, All, codes}
use Rattle.std.specs.List.{flat_map, position}
use Rattle.std.specs.Str.{bytes_eq}
use Rattle.g4_chars.specs.CharSets.{Has}
use Rattle.g4_source.specs.Elements.{atoms_of_either}
use Rattle.g4_source.specs.declared.atom.Atom.{Atom}
use Rattle.g4_source.specs.declared.atom.AtomKind.{AtomKind}
use Rattle.g4_source.specs.declared.atom.AtomKind.TheVariants as kinds
use Rattle.g4_source.specs.declared.atom.Literal.{Literal}
use Rattle.g4_source.specs.declared.rule.Rule.{Rule}
use Rattle.g4_source.specs.declared.rule.Rule.TheVariants.{Parser, Lexer}
use Rattle.g4_source.specs.declared.rule.ParserRule.{ParserRule}
use Rattle.g4_source.specs.Rules.{alternatives_of, parser_rules}
use Rattle.g4_source.specs.declared.kind.RuleKind.{RuleKind}
use Rattle.g4_source.specs.declared.kind.RuleKind.TheVariants as rule_kinds
use Rattle.g4_source.specs.Atoms.{AtomIn, all_atoms, bodies_of}
use Rattle.g4_grammar.specs.LeftCalls.{NoCycle}
use Rattle.g4_grammar.specs.Loops.{NoEmptyLoop}
use Rattle.g4_grammar.specs.OwnCalls.{CanRun, LeftCallsAsRun}

-- the words of an atom of a parser rule, while it is not known which symbol its tokens are: any one symbol; predicates and
-- actions read nothing, and a reference reads nothing of its own
abbrev pub ReadsAnySymbol : AtomKind → List ℕ → Type 0
ReadsAnySymbol (kinds.Rule name) w = ⊥
ReadsAnySymbol (kinds.Token name) w = (s : ℕ) × (w ≡ s ∷ [])
ReadsAnySymbol (kinds.Literal literal) w = (s : ℕ) × (w ≡ s ∷ [])
ReadsAnySymbol (kinds.Range first last) w = ⊥
ReadsAnySymbol (kinds.Set set) w = ⊥
ReadsAnySymbol kinds.Any w = (s : ℕ) × (w ≡ s ∷ [])
ReadsAnySymbol (kinds.NotTokens tokens) w = (s : ℕ) × (w ≡ s ∷ [])
ReadsAnySymbol (kinds.NotCharacters set) w = ⊥
ReadsAnySymbol kinds.Action w = w ≡ []
ReadsAnySymbol (kinds.Predicate name) w = w ≡ []

-- the character is one from that of the first literal to that of the last
abbrev pub IsBetween : Literal → Literal → ℕ → Type 0
IsBetween first last c = (a b : ℕ) × (first.characters ≡ a ∷ []) × (last.characters ≡ b ∷ []) × (a ≤ c) × (c ≤ b)

-- the texts that an atom of a lexer rule matches: the characters of a literal, one character of a set; a reference matches
-- nothing of its own
abbrev pub MatchesKind : AtomKind → List ℕ → Type 0
MatchesKind (kinds.Rule name) w = ⊥
MatchesKind (kinds.Token name) w = ⊥
MatchesKind (kinds.Literal literal) w = w ≡ literal.characters
MatchesKind (kinds.Range first last) w = (c : ℕ) × (w ≡ c ∷ []) × IsBetween first last c
MatchesKind (kinds.Set set) w = (c : ℕ) × (w ≡ c ∷ []) × Has set c
MatchesKind kinds.Any w = (c : ℕ) × (w ≡ c ∷ [])
MatchesKind (kinds.NotTokens tokens) w = ⊥
MatchesKind (kinds.NotCharacters set) w = (c : ℕ) × (w ≡ c ∷ []) × (Has set c → ⊥)
MatchesKind kinds.Action w = w ≡ []
MatchesKind (kinds.Predicate name) w = w ≡ []

-- an atom of a lexer rule that is the end of the file
abbrev pub IsEndOfFile : AtomKind → Type 0
IsEndOfFile (kinds.Token name) = bytes_eq name.text (codes "EOF") ≡ true
IsEndOfFile a = ⊥

-- the words of an atom of a rule of this kind; in a lexer rule the end of the file is the empty text
abbrev pub KindReads : RuleKind → AtomKind → List ℕ → Type 0
KindReads rule_kinds.Parser a w = ReadsAnySymbol a w
KindReads rule_kinds.Lexer a w = MatchesKind a w ⊎ (IsEndOfFile a × (w ≡ []))

abbrev pub ReadsIn : AtomIn → List ℕ → Type 0
ReadsIn a w = KindReads a.kind a.atom.kind w

-- the rule is of this kind and has this name
abbrev pub is_rule_of : RuleKind → List ℕ → Rule → Bool
is_rule_of rule_kinds.Parser name (Parser rule) = bytes_eq rule.name name
is_rule_of rule_kinds.Parser name (Lexer rule) = false
is_rule_of rule_kinds.Lexer name (Parser rule) = false
is_rule_of rule_kinds.Lexer name (Lexer rule) = bytes_eq rule.name name

-- a lower-case name in a parser rule calls the first parser rule of that name, and an upper-case name in a lexer rule the first
-- lexer rule, but for the end of the file; these are the rules, which count from 0
abbrev pub KindCalls : List Rule → RuleKind → AtomKind → ℕ → Type 0
KindCalls rules rule_kinds.Parser (kinds.Rule name) k = position (is_rule_of rule_kinds.Parser name.text) rules ≡ Some k
KindCalls rules rule_kinds.Lexer (kinds.Token name) k = (bytes_eq name.text (codes "EOF") ≡ false)
    × (position (is_rule_of rule_kinds.Lexer name.text) rules ≡ Some k)
KindCalls rules kind a k = ⊥

abbrev pub CallsIn : List Rule → AtomIn → ℕ → Type 0
CallsIn rules a k = KindCalls rules a.kind a.atom.kind k

-- a reference with which an operator of rule k may begin: lexer rules have none
abbrev pub OwnIn : List Rule → AtomIn → ℕ → Type 0
OwnIn rules a k = (a.kind ≡ rule_kinds.Parser) × CallsIn rules a k

-- rule k of these calls rule j before anything is read, as it is run
abbrev pub RuleLeftCalls : List Rule → ℕ → ℕ → Type 0
RuleLeftCalls rules k j = LeftCallsAsRun ReadsIn (CallsIn rules) (OwnIn rules) (bodies_of rules) k j

-- no rule of these reaches itself by left calls
abbrev pub HaveNoLeftCycle : List Rule → Type 0
HaveNoLeftCycle rules = NoCycle (RuleLeftCalls rules)

-- none of these rules has a loop whose body derives the empty word, or for a lexer rule matches no character
abbrev pub HaveNoEmptyLoop : List Rule → Type 0
HaveNoEmptyLoop rules = NoEmptyLoop ReadsIn (CallsIn rules) (bodies_of rules)

-- the rules can be run
abbrev pub RulesCanRun : List Rule → Type 0
RulesCanRun rules = CanRun ReadsIn (CallsIn rules) (OwnIn rules) (bodies_of rules)

-- an atom of a rule of this kind that calls one of the rules, if it is a reference
abbrev pub KindIsDefined : List Rule → RuleKind → AtomKind → Type 0
KindIsDefined rules rule_kinds.Parser (kinds.Rule name) = (k : ℕ) × KindCalls rules rule_kinds.Parser (kinds.Rule name) k
KindIsDefined rules rule_kinds.Lexer (kinds.Token name) = bytes_eq name.text (codes "EOF") ≡ false
    → (k : ℕ) × KindCalls rules rule_kinds.Lexer (kinds.Token name) k
KindIsDefined rules kind a = Unit {0}

-- each reference of the rules is to one of them
abbrev pub RulesAreDefined : List Rule → Type 0
RulesAreDefined rules = All (λ a. KindIsDefined rules a.kind a.atom.kind) (all_atoms rules)

-- the texts of an atom of a rule that makes tokens
abbrev pub ReadsCharacters : Atom → List ℕ → Type 0
ReadsCharacters a w = MatchesKind a.kind w

-- an upper-case name in a lexer rule calls the first lexer rule of that name; these are the names of the lexer rules
abbrev pub LexerCalls : List (List ℕ) → AtomKind → ℕ → Type 0
LexerCalls names (kinds.Rule name) k = ⊥
LexerCalls names (kinds.Token name) k = position (λ other. bytes_eq other name.text) names ≡ Some k
LexerCalls names (kinds.Literal literal) k = ⊥
LexerCalls names (kinds.Range first last) k = ⊥
LexerCalls names (kinds.Set set) k = ⊥
LexerCalls names kinds.Any k = ⊥
LexerCalls names (kinds.NotTokens tokens) k = ⊥
LexerCalls names (kinds.NotCharacters set) k = ⊥
LexerCalls names kinds.Action k = ⊥
LexerCalls names (kinds.Predicate name) k = ⊥

-- an atom of a parser rule that tests nothing
abbrev pub ParserKindIsUntested : AtomKind → Type 0
ParserKindIsUntested (kinds.Rule name) = Unit {0}
ParserKindIsUntested (kinds.Token name) = Unit {0}
ParserKindIsUntested (kinds.Literal literal) = Unit {0}
ParserKindIsUntested (kinds.Range first last) = Unit {0}
ParserKindIsUntested (kinds.Set set) = Unit {0}
ParserKindIsUntested kinds.Any = Unit {0}
ParserKindIsUntested (kinds.NotTokens tokens) = Unit {0}
ParserKindIsUntested (kinds.NotCharacters set) = Unit {0}
ParserKindIsUntested kinds.Action = Unit {0}
ParserKindIsUntested (kinds.Predicate name) = ⊥

-- the text of an atom that is a predicate, as it is written
abbrev pub predicate_text : AtomKind → List (List ℕ)
predicate_text (kinds.Predicate name) = name.text ∷ []
predicate_text (kinds.Rule name) = []
predicate_text (kinds.Token name) = []
predicate_text (kinds.Literal literal) = []
predicate_text (kinds.Range first last) = []
predicate_text (kinds.Set set) = []
predicate_text kinds.Any = []
predicate_text (kinds.NotTokens tokens) = []
predicate_text (kinds.NotCharacters set) = []
predicate_text kinds.Action = []

-- the texts of the predicates of a parser rule, in order
abbrev pub rule_predicates : ParserRule Atom → List (List ℕ)
rule_predicates rule = flat_map (λ a. predicate_text a.kind) (atoms_of_either (alternatives_of rule))

-- the texts of the predicates of the parser rules of a grammar, in order
abbrev pub predicate_texts : List Rule → List (List ℕ)
predicate_texts rules = flat_map rule_predicates (parser_rules rules)

-- no atom of the alternatives of a parser rule tests anything
abbrev pub ParserRuleIsUntested : ParserRule Atom → Type 0
ParserRuleIsUntested rule = All (λ a. ParserKindIsUntested a.kind) (atoms_of_either (alternatives_of rule))
