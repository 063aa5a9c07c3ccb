-- Lexer rules of which a network is made that can be lexed with.
use Rattle.std.specs.Prelude.{◌≡◌, ◌⊎◌, ℕ, List, [], false, codes, map}
use Rattle.std.specs.List.{position_or_len}
use Rattle.std.specs.Str.{bytes_eq}
use Rattle.g4_source.specs.declared.atom.Atom.{Atom}
use Rattle.g4_source.specs.declared.atom.AtomKind.{AtomKind}
use Rattle.g4_source.specs.declared.atom.AtomKind.TheVariants as kinds
use Rattle.g4_source.specs.declared.rule.LexerRule.{LexerRule}
use Rattle.g4_source.specs.Blocks.{LexerRulesAreFull}
use Rattle.g4_source.specs.Rules.{lexer_alternatives_of}
use Rattle.g4_grammar.specs.LeftCalls.{CallsAreInRange, NoLeftCycle}
use Rattle.g4_grammar.specs.Loops.{NoEmptyLoop}
use Rattle.g4_grammar.specs.Written.{IsEndOfFile, MatchesKind}
use Rattle.g4_lexer_rules.specs.NetworkRules.{names_of}

-- the texts of an atom of a lexer rule: what it matches; the end of the file is the empty text
abbrev pub ReadsKind : AtomKind → List ℕ → Type 0
ReadsKind a w = MatchesKind a w ⊎ (IsEndOfFile a × (w ≡ []))

abbrev pub ReadsAtom : Atom → List ℕ → Type 0
ReadsAtom a w = ReadsKind a.kind w

-- a name that is not the end of the file calls the first of the rules with this name, or their number where there is none
abbrev pub KindCallsNamed : List (List ℕ) → AtomKind → ℕ → Type 0
KindCallsNamed names (kinds.Rule name) k = ⊥
KindCallsNamed names (kinds.Token name) k = (bytes_eq name.text (codes "EOF") ≡ false)
    × (k ≡ position_or_len (λ other. bytes_eq other name.text) names)
KindCallsNamed names (kinds.Literal literal) k = ⊥
KindCallsNamed names (kinds.Range first last) k = ⊥
KindCallsNamed names (kinds.Set set) k = ⊥
KindCallsNamed names kinds.Any k = ⊥
KindCallsNamed names (kinds.NotTokens tokens) k = ⊥
KindCallsNamed names (kinds.NotCharacters set) k = ⊥
KindCallsNamed names kinds.Action k = ⊥
KindCallsNamed names (kinds.Predicate name) k = ⊥

abbrev pub CallsNamed : List (List ℕ) → Atom → ℕ → Type 0
CallsNamed names a k = KindCallsNamed names a.kind k

-- The rules can be lexed with: each of their blocks has an alternative, each reference is to one of them, no loop has a body that
-- matches the empty text, and no rule reaches itself by left calls.
pub record CanBeLexed (rules : List LexerRule) : Type 0 where
  pub full : LexerRulesAreFull rules
  pub within : CallsAreInRange (CallsNamed (names_of rules)) (map lexer_alternatives_of rules)
  pub loops : NoEmptyLoop ReadsAtom (CallsNamed (names_of rules)) (map lexer_alternatives_of rules)
  pub cycles : NoLeftCycle ReadsAtom (CallsNamed (names_of rules)) (map lexer_alternatives_of rules)
