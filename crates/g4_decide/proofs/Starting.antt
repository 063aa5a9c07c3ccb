-- The start of a decision, and what SLL's whole path from there leaves.
use Rattle.std.proofs.Common.{◌≡◌, ◌+◌, ◌<◌, ℕ, List, Some, All, Contains, drop, sym, ◌∙◌, subst, arith, length, length-drop}
use Rattle.std.proofs.lemmas.List.{drop-drop, length-map}
use Rattle.std.proofs.lemmas.List.Elements.{All-drop}
use Rattle.g4_classes.specs.Classes.{IsSymbol}
use Rattle.g4_guards.proofs.Same.{start_same}
use Rattle.g4_guards.specs.Levels.{AllowedAt, AreAllowedAt}
use Rattle.g4_learned.proofs.Rests.{ahead, from_on, word_from}
use Rattle.g4_learned.specs.Stored.{IsPlan}
use Rattle.g4_learned.specs.Tables.{Tables}
use Rattle.g4_learned.specs.Walks.{Begins, Walks}
use Rattle.g4_learned.specs.declared.walk.Walk.TheVariants.{NoEdge}
use Rattle.g4_lookahead.proofs.Judging.{row_of_set}
use Rattle.g4_net.specs.Configurations.{Config, IsRow, wildcard}
use Rattle.g4_net.specs.Lookahead.{Start}
use Rattle.g4_net.specs.Network.{ParserNetwork}
use Rattle.g4_predict.specs.Verdicts.{IsStartSet}
use Rattle.g4_store.specs.declared.automaton.Plan.{Plan}
use Rattle.g4_store.specs.Known.{KnowsRows}
use Rattle.g4_store.specs.Walks as walks
use Rattle.g4_tokens.specs.declared.token.Token.{Token}
use Rattle.g4_tokens.specs.Symbols.{end_of_list}
use Rattle.g4_tokens.specs.TokenList.{EndsInEnd, word_of}
use Rattle.g4_decide.proofs.Going.{start_came, start_keeps, walk_came}
use Rattle.g4_decide.specs.Asked.{Told}
use Rattle.g4_decide.specs.Going.{CameTo, Keeps, Question}

-- the row of the start set over the alternatives that were listed is that over the allowed ones
pub start_row : (net : ParserNetwork) (d condition : ℕ) (A : ℕ → Type 0) (H : Config → Type 0) (row : List Config)
    → AreAllowedAt net d condition A → IsStartSet net d A H → IsRow row H
    → IsRow row (Start net d (AllowedAt net d condition) wildcard)
start_row net d condition A H row same first is =
    row_of_set row (Start net d A wildcard) (Start net d (AllowedAt net d condition) wildcard)
    (start_same net d A (AllowedAt net d condition) (λ i t first. (same i t first).0) (λ i t first. (same i t first).1) wildcard)
    (row_of_set row H (Start net d A wildcard) first.members is)

-- what SLL is asked at a decision, on the tokens from a place on
module _ (d condition from : ℕ) (tokens : List Token) (symbols : All IsSymbol (word_of tokens)) (ends : EndsInEnd (word_of tokens))
    (more : from < length tokens) where
  abbrev pub asked_here : Question
  asked_here = record { decision = d; condition = condition; word = drop from (word_of tokens) }

  many : length (word_of tokens) ≡ length tokens
  many = length-map tokens (λ (t : Token). t.symbol)

  its_symbols : All IsSymbol (drop from (word_of tokens))
  its_symbols = All-drop IsSymbol from (word_of tokens) symbols

  its_end : Contains (drop from (word_of tokens)) end_of_list
  its_end = ahead from (word_of tokens) ends (let m = many in omega arith)

  its_ends : (j : ℕ) → j < length (drop from (word_of tokens)) → Contains (drop j (drop from (word_of tokens))) end_of_list
  its_ends j less =
      let left = length-drop from (word_of tokens) in
      subst (λ (w : List ℕ). Contains w end_of_list) (sym (drop-drop j from (word_of tokens)))
      (ahead (from + j) (word_of tokens) ends (let m = many in omega arith))

  -- a walk that stopped came to a row
  pub walked_to : (p : Plan Tables) (old new : Told) (row at : ℕ) → IsPlan p
      → Walks p d condition (drop from (word_of tokens)) old.0 new.0 (NoEdge row at) → KnowsRows p.rows new → CameTo p asked_here at row new
  walked_to p old new row at plan walked rows =
      walk_came p d condition (drop from (word_of tokens)) old new row at plan its_symbols its_end its_ends walked rows

  -- where the start was read, its row is come to, and no word was seen but one of SLL's path
  module _ (p : Plan Tables) (plan : IsPlan p) (row : ℕ) (old new : Told) (begins : Begins p.net d condition old.0 new.0 (Some row))
      (kept : walks.Keeps old.0 new.0) (rows : KnowsRows p.rows new) where
    pub began_at : CameTo p asked_here 0 row new
    began_at = start_came p asked_here plan its_symbols its_end its_ends row old new begins kept rows

    pub began_keeps : Keeps p asked_here old new
    began_keeps = start_keeps p asked_here plan its_symbols its_end its_ends row old new begins kept rows

-- the rest from a place on is what the decision's word has left there
pub rest_at : (from at : ℕ) (tokens : List Token) → drop at (drop from (word_of tokens)) ≡ word_of (from_on (from + at) tokens)
rest_at from at tokens = drop-drop at from (word_of tokens) ∙ sym (word_from (from + at) tokens)

pub rest_first : (from : ℕ) (tokens : List Token) → drop 0 (drop from (word_of tokens)) ≡ word_of (from_on from tokens)
rest_first from tokens = sym (word_from from tokens)
