-- The lexer of a grammar can be lexed with, and gives token types.
use Rattle.std.proofs.Common.{◌≡◌, ◌≤◌, ℕ, zero, suc, List, [], ◌∷◌, All, get_or, sym, ap, subst, arith}
use Rattle.std.proofs.lemmas.List.Elements.{All-nil, All-head, All-tail}
use Rattle.g4_tokens.specs.declared.symbol.TheConstants.{MOST_TYPES}
use Rattle.g4_source.specs.declared.rule.LexerRule.{LexerRule}
use Rattle.g4_ordered.specs.Network.{IsLexable}
use Rattle.g4_lexer.specs.declared.command.LexerCommand.{LexerCommand}
use Rattle.g4_lexer.specs.declared.lexer.Lexer.{Lexer}
use Rattle.g4_lexer.specs.Lexers.{GivesTokenType, HasTokenTypes, of_alternative}
use Rattle.g4_lexer_rules.specs.declared.tables.CommandTables.{CommandTables}
use Rattle.g4_lexer_rules.proofs.Lexed.{is_lexable}
use Rattle.g4_lexer_rules.specs.LexNets.{IsLexNet}
use Rattle.g4_lexer_rules.specs.declared.lex_net.LexNet.{LexNet}
use Rattle.g4_lexer_rules.specs.declared.lexer_rules.LexerRules.{LexerRules}
use Rattle.g4_lexer_rules.specs.Lexers.{CanBeMade, lexer_with}

-- the network is that of these rules, where it is that of equal ones
pub network_of : (literals lits rules rs : List LexerRule) (modes ms : List (List ℕ)) (made : LexNet) → lits ≡ literals → rs ≡ rules
    → ms ≡ modes → IsLexNet lits rs ms made → IsLexNet literals rules modes made
network_of literals lits rules rs modes ms made a b d is =
    subst (λ (xs : List LexerRule). IsLexNet xs rules modes made) a
    (subst (λ (ys : List LexerRule). IsLexNet lits ys modes made) b (subst (λ (ns : List (List ℕ)). IsLexNet lits rs ns made) d is))

-- the lexer of rules that can be lexed with can be lexed with
pub lexable : (rules : LexerRules) (made : LexNet) (lexer : Lexer) (types : List ℕ) (tables : CommandTables)
    → IsLexNet rules.literals rules.rules tables.modes made → lexer ≡ lexer_with made types tables →
    CanBeMade rules tables → IsLexable lexer.net
lexable rules made lexer types tables is same can =
    subst (λ (l : Lexer). IsLexable l.net) (sym same) (is_lexable rules.literals rules.rules tables.modes made is can.lexed)

-- a number of a list that is low, or 0
low_at : (types : List ℕ) (k : ℕ) → All (λ type. type ≤ MOST_TYPES) types → get_or types k 0 ≤ MOST_TYPES
low_at [] k low = omega arith
low_at (t ∷ ts) zero low = All-head (λ (type : ℕ). type ≤ MOST_TYPES) t ts low
low_at (t ∷ ts) (suc k) low = low_at ts k (All-tail (λ (type : ℕ). type ≤ MOST_TYPES) t ts low)

-- a list among lists whose members all have a property, or the empty one
all_at : {X : Type 0} (P : X → Type 0) (lists : List (List X)) (k : ℕ) → All (All P) lists → All P (get_or lists k [])
all_at P [] k h = All-nil P
all_at P (xs ∷ more) zero h = All-head (All P) xs more h
all_at P (xs ∷ more) (suc k) h = all_at P more k (All-tail (All P) xs more h)

alternative_types : (alternatives : List (List LexerCommand)) (k : ℕ) → All (All GivesTokenType) alternatives
    → All GivesTokenType (of_alternative alternatives k)
alternative_types alternatives zero h = All-nil GivesTokenType
alternative_types alternatives (suc k) h = all_at GivesTokenType alternatives k h

-- the lexer gives token types, where its rules have such types and its commands give such
pub token_types : (made : LexNet) (types : List ℕ) (tables : CommandTables) (lexer : Lexer) → lexer ≡ lexer_with made types tables
    → All (λ type. type ≤ MOST_TYPES) types →
    All (All (All GivesTokenType)) lexer.commands → HasTokenTypes lexer
token_types made types tables lexer same low given = record {
  rules = λ rule. subst (λ (ts : List ℕ). get_or ts rule 0 ≤ MOST_TYPES) (sym (ap (λ (l : Lexer). l.types) same)) (low_at types rule low);
  commands = λ rule alternative. alternative_types (get_or lexer.commands rule []) alternative
      (all_at (All GivesTokenType) lexer.commands rule given);
}
