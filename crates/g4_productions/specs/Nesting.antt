-- How deep the brackets of a grammar text are nested.
use Rattle.std.specs.Prelude.{◌≡◌, ◌≤◌, ◌-◌, ℕ, List, [], ◌∷◌, ◌++◌, Bool, true, length}
use Rattle.std.specs.List.{count_by}
use Rattle.g4_grammar_tokens.specs.declared.token.Kind.{Kind}
use Rattle.g4_grammar_tokens.specs.declared.token.Kind.TheVariants as kinds
use Rattle.g4_syntax.specs.Notation.{Spelled, is_kind, Terminal, sign}
use Rattle.g4_syntax.specs.Productions.{grammar}
use Rattle.g4_syntax.specs.Trees.{BeginsText, Comes, begins_there}
use Rattle.g4_cursor.specs.Sets.{BeginsBad}
use Rattle.g4_productions.specs.declared.nesting.TheConstants.{MOST_OPEN}

-- whether the token is of this kind
abbrev pub is_of : Kind → Spelled → Bool
is_of kind token = is_kind kind token.kind

-- how many brackets are open after these tokens: those that opened less those that closed
abbrev pub open_after : List Spelled → ℕ
open_after tokens = count_by (is_of kinds.LeftParenthesis) tokens - count_by (is_of kinds.RightParenthesis) tokens

-- the first of the tokens `rest` is a bracket that opens while as many are open as may be
pub record IsTooDeep (front rest : List Spelled) : Type 0 where
  pub opens : begins_there (sign kinds.LeftParenthesis) rest ≡ true
  pub many : MOST_OPEN ≤ open_after front

-- no bracket opens too deep
abbrev pub NoneTooDeep : List Spelled → Type 0
NoneTooDeep tokens = (front rest : List Spelled) → tokens ≡ front ++ rest → ¬ (IsTooDeep front rest)

-- no bracket opens too deep before the tokens `rest`
abbrev pub NoneTooDeepBefore : List Spelled → List Spelled → Type 0
NoneTooDeepBefore tokens rest = (front other : List Spelled) → tokens ≡ front ++ other → IsTooDeep front other
    → length other ≤ length rest

-- reading a grammar text comes to no bad set before the tokens `rest`
abbrev pub HasNoBadBefore : List Spelled → List Spelled → Type 0
HasNoBadBefore tokens rest = (t : Terminal) (other : List Spelled) → Comes t grammar tokens other → BeginsBad t other
    → length other ≤ length rest

-- a bracket opens too deep, some grammar text begins with the tokens up to it, and no bad set comes before it
pub record IsNested (tokens : List Spelled) : Type 0 where
  pub front : List Spelled
  pub bracket : Spelled
  pub others : List Spelled
  pub parts : tokens ≡ front ++ bracket ∷ others
  pub deep : IsTooDeep front (bracket ∷ others)
  pub begins : BeginsText (front ++ bracket ∷ [])
  pub good : HasNoBadBefore tokens (bracket ∷ others)
