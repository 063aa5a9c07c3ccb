-- What reading a grammar text answers. To trust `read_grammar`, read this file and those that it uses: the productions and trees
-- of `g4_syntax`, what trees say in `g4_productions` and `g4_cursor` (`Options`, `Prequels`, `Texts`), which sets are bad
-- (`Sets` of `g4_cursor`), which brackets open too deep (`Nesting` of `g4_productions`), and the tokens of `g4_grammar_tokens`.
use Rattle.std.specs.Prelude.{◌≡◌, ◌⊎◌, ℕ, List, [], ◌∷◌, ◌++◌, take, drop, Result, Ok, Err, codes}
use Rattle.std.specs.Str.{IsValidUpTo, chars}
use Rattle.g4_base.specs.declared.place.Place.{Place}
use Rattle.g4_base.specs.Place.{first_place, place_after}
use Rattle.g4_grammar_tokens.specs.Answers.{HasTokens, HasFault, unmarked}
use Rattle.g4_grammar_tokens.specs.declared.position.Position.{Position}
use Rattle.g4_grammar_tokens.specs.declared.token.Token.{Token}
use Rattle.g4_source.specs.declared.source.Source.{Source}
use Rattle.g4_syntax.specs.Notation.{Spelled}
use Rattle.g4_syntax.specs.Productions.{grammar}
use Rattle.g4_syntax.specs.Trees.{BeginsText, Ends}
use Rattle.g4_cursor.specs.Sets.{HasNoBad}
use Rattle.g4_cursor.specs.Texts.{spelled}
use Rattle.g4_productions.specs.Grammars.{IsGrammarText, HasBadSetAt}
use Rattle.g4_productions.specs.Nesting.{NoneTooDeep, NoneTooDeepBefore, IsNested}
use Rattle.g4_reader.specs.declared.reader.ReadFault.{ReadFault}
use Rattle.g4_reader.specs.declared.reader.ReadFault.TheVariants.{NotUtf8, Syntax, BadSet, Nesting, NoMemory}

-- the place after the text
abbrev pub end_of : List ℕ → Place
end_of text = place_after first_place (unmarked (chars text))

-- a syntax fault: its place and its characters
pub record Fault : Type 0 where
  pub place : Place
  pub characters : List ℕ

-- the fault in front of these tokens: the first of them, or the end of the text
abbrev pub fault_at : List ℕ → List Spelled → Fault
fault_at text [] = record { place = end_of text; characters = codes "<EOF>" }
fault_at text (token ∷ _) = record { place = token.place; characters = chars token.bytes }

-- what opens there and doesn't close, or holds a bad escape: the character that opens it, which is one byte
abbrev pub opened_fault : List ℕ → Position → Fault
opened_fault text opened = record { place = opened.place; characters = take 1 (drop opened.index text) }

-- the bytes are a text with these tokens
pub record HasSpelled (bytes : List ℕ) (tokens : List Spelled) : Type 0 where
  pub scanned : List Token
  pub has : HasTokens bytes scanned
  pub are : tokens ≡ spelled bytes scanned

-- the text's tokens are a grammar text, which is this grammar; no set of them is bad, and no bracket opens too deep
pub record IsGrammar (bytes : List ℕ) (source : Source) : Type 0 where
  pub tokens : List Spelled
  pub has : HasSpelled bytes tokens
  pub is : IsGrammarText tokens source
  pub good : HasNoBad grammar tokens
  pub shallow : NoneTooDeep tokens

-- the tokens as far as some grammar text begins with them, and the others
pub record IsCut (tokens front rest : List Spelled) : Type 0 where
  pub parts : tokens ≡ front ++ rest
  pub begins : BeginsText front
  pub ends : Ends front rest

-- the first syntax fault of the tokens: a grammar text begins with those before it, and none goes on with it; reading comes to
-- no bad set before it, and no bracket opens too deep before it
pub record IsFirstFault (bytes : List ℕ) (tokens : List Spelled) (fault : Fault) : Type 0 where
  pub front : List Spelled
  pub rest : List Spelled
  pub cut : IsCut tokens front rest
  pub good : HasNoBad grammar tokens
  pub shallow : NoneTooDeepBefore tokens rest
  pub is : fault ≡ fault_at bytes rest

-- the fault of the text that has no tokens, or the first syntax fault of its tokens
abbrev pub IsFaultOf : List ℕ → Fault → Type 0
IsFaultOf bytes fault =
    ((opened : Position) × HasFault bytes opened × (fault ≡ opened_fault bytes opened))
    ⊎ ((tokens : List Spelled) × HasSpelled bytes tokens × IsFirstFault bytes tokens fault)

-- the call answers with the grammar that the bytes are, or reports how far they are UTF-8, or reports the text's first fault, bad
-- set or bracket that opens too deep, whichever comes first, unless memory runs out
abbrev pub IsReading : List ℕ → Result Source ReadFault → Type 0
IsReading bytes (Ok source) = IsGrammar bytes source
IsReading bytes (Err (NotUtf8 at)) = IsValidUpTo bytes at
IsReading bytes (Err (Syntax place characters)) = IsFaultOf bytes (record { place = place; characters = characters })
IsReading bytes (Err (BadSet place)) = (tokens : List Spelled) × HasSpelled bytes tokens × HasBadSetAt tokens place
IsReading bytes (Err Nesting) = (tokens : List Spelled) × HasSpelled bytes tokens × IsNested tokens
IsReading bytes (Err NoMemory) = Unit {0}
