-- A walk along tokens is one along their columns.
use Rattle.std.proofs.Common.{◌≡◌, ◌<◌, ℕ, List, length, get_or, sym, ◌∙◌, ap, subst, arith}
use Rattle.std.proofs.lemmas.List.{get_or-map, length-map}
use Rattle.std.proofs.lemmas.Option.{slice_get_within}
use Rattle.g4_tokens.specs.TokenList.{word_of}
use Rattle.g4_tokens.specs.declared.token.Token.{Token}
use Rattle.g4_net.specs.Configurations.{Config}
use Rattle.g4_store.specs.declared.automaton.Fact.{Fact}
use Rattle.g4_store.specs.declared.automaton.Plan.{Plan}
use Rattle.g4_store.specs.declared.view.View.{View}
use Rattle.g4_store.specs.Numbers.{Among}
use Rattle.g4_store.specs.Walks.{SawAlso}
use Rattle.g4_learned.specs.Stored.{IsPlan, columns_of}
use Rattle.g4_learned.specs.Tables.{IsStartOf, Tables, column_of}

pub many_columns : (t : Tables) (tokens : List Token) → length (columns_of t (word_of tokens)) ≡ length tokens
many_columns t tokens = length-map (word_of tokens) (column_of t) ∙ length-map tokens (λ (x : Token). x.symbol)

pub column_at : (q t : Tables) (tokens : List Token) (k column : ℕ) (d : Token) → q ≡ t → k < length tokens
    → column ≡ column_of q (get_or tokens k d).symbol → get_or (columns_of t (word_of tokens)) k 0 ≡ column
column_at q t tokens k column d same lt is =
    let many : length (word_of tokens) ≡ length tokens = length-map tokens (λ (y : Token). y.symbol) in
    let symbol : get_or (word_of tokens) k 0 ≡ (get_or tokens k d).symbol = get_or-map (λ (y : Token). y.symbol) tokens k d 0 lt in
    let here : column ≡ column_of t (get_or tokens k d).symbol = is ∙ ap (λ (u : Tables). column_of u (get_or tokens k d).symbol) same in
    get_or-map (column_of t) (word_of tokens) k 0 0 (omega arith) ∙ (ap (column_of t) symbol ∙ sym here)

-- the start of a decision is one of the plan
pub start_within : (p : Plan Tables) (d condition i : ℕ) → IsPlan p → IsStartOf p.net d condition i → i < p.starts
start_within p d condition i plan (guard, at, guards) =
    subst (λ n. i < n) (sym plan.starts) (slice_get_within p.net.starts i (d, guard) at)

-- what was seen is seen where no more was seen
pub saw_same : (fs : List (Fact (List Config))) (old mid new : View (List Config)) → SawAlso fs old mid → new.seen ≡ mid.seen
    → SawAlso fs old new
saw_same fs old mid new saw same f = (
  (λ m. (saw f).0 (subst (λ (l : List (Fact (List Config))). Among f l) same m)),
  (λ m. subst (λ (l : List (Fact (List Config))). Among f l) (sym same) ((saw f).1 m)),
)
