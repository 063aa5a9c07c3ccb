-- Which files a run accepts, in the terms of the text of its grammar: by the names of rules and tokens and by literals.
use Rattle.std.specs.Prelude.{◌≡◌, ◌↔◌, ℕ, List, All, Ok, true}
use Rattle.g4_tokens.specs.TokenList.{word_of}
use Rattle.g4_tokens.specs.declared.token.Tokens.{Tokens}
use Rattle.g4_words.specs.declared.command.Parse.{Parse}
use Rattle.g4_fetch.specs.Files.{Files}
use Rattle.g4_resolve.specs.Resolving.{RulesAreUntested}
use Rattle.g4_load.specs.Derivations.{DerivesList}
use Rattle.g4_load.specs.Loading.{Unifies}
use Rattle.g4_load.specs.declared.whole.United.{United}
use Rattle.g4_parse.specs.declared.parser.ParseFault.TheVariants.{TooDeep}
use Rattle.g4_outcome.specs.Outcomes.{is_accepted}
use Rattle.g4_outcome.specs.declared.outcome.Outcome.{Outcome}
use Rattle.g4_outcome.specs.declared.outcome.Outcome.TheVariants as outcomes
use Rattle.g4_tool.specs.Ends.{End, stopped, checked, listed, all_parsed}

-- A file with this outcome has these tokens. One that is too large, or whose characters make no tokens, has none.
abbrev pub HasTokens : Outcome → Tokens → Type 0
HasTokens (outcomes.Tree own tree) tokens = own ≡ tokens
HasTokens (outcomes.Parse own fault) tokens = own ≡ tokens
HasTokens (outcomes.Lex fault) tokens = ⊥
HasTokens (outcomes.TooLarge size) tokens = ⊥

-- a file with this outcome has tokens, and the parser rule of this name derives them, as the text of the grammar has it
abbrev pub TextDerives : United → List ℕ → Outcome → Type 0
TextDerives united start outcome = (tokens : Tokens) × HasTokens outcome tokens × DerivesList united start (word_of tokens.list)

-- a file with this outcome is refused because more rules would be open than may be
abbrev pub IsTooDeep : Outcome → Type 0
IsTooDeep outcome = (tokens : Tokens) × (at : ℕ) × (outcome ≡ outcomes.Parse tokens (TooDeep at))

-- A file is accepted only where the text of the grammar derives its tokens. Where no parser rule of the text has a predicate, it is
-- accepted exactly there, unless too many rules would be open.
pub record IsAcceptedByText (united : United) (start : List ℕ) (outcome : Outcome) : Type 0 where
  pub only : is_accepted outcome ≡ true → TextDerives united start outcome
  pub exactly : RulesAreUntested united.whole.source.rules → ¬ IsTooDeep outcome
      → (is_accepted outcome ≡ true) ↔ TextDerives united start outcome

-- The text of the grammar is read as one, with all that it imports and with its lexer grammar, and each file is accepted by this text, from
-- the start rule that is asked for.
pub record AreAcceptedByText (files : Files) (parse : Parse) (os : List Outcome) : Type 0 where
  pub fetched : List (List ℕ)
  pub united : United
  pub text : Unifies files parse.library parse.grammar fetched (Ok united)
  pub each : All (IsAcceptedByText united parse.start) os

-- of an end where files are parsed, the outcomes are so
abbrev pub AcceptsByText : Files → Parse → End → Type 0
AcceptsByText files parse (stopped stop) = Unit {0}
AcceptsByText files parse (checked grammar) = Unit {0}
AcceptsByText files parse (listed listing) = Unit {0}
AcceptsByText files parse (all_parsed output interpreter names os learned) = AreAcceptedByText files parse os
