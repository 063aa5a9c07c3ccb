-- What SLL's loop over the tokens keeps, and what it says of where it began.
use Rattle.std.proofs.Common.{◌≡◌, ℕ, suc, ◌+◌, ◌<◌, List, [], ◌∷◌, ◌++◌, map, drop, length, get_or, append_assoc, sym, ap, ◌∙◌, subst, arith, Contains}
use Rattle.std.proofs.lemmas.List.{map-append}
use Rattle.g4_tokens.specs.Symbols.{end_of_list}
use Rattle.g4_net.specs.Network.{ParserNetwork}
use Rattle.g4_tokens.specs.declared.token.Token.{Token}
use Rattle.g4_net.specs.AddedRule.{IsReady}
use Rattle.g4_net.specs.Configurations.{Config, wildcard, IsRow}
use Rattle.g4_net.specs.Lookahead.{Next, Start}
use Rattle.g4_net.specs.Prediction.{Verdict, Looked, SllFrom, Sll}
use Rattle.g4_tokens.specs.TokenList.{word_of}
use Rattle.g4_lookahead.proofs.Judging.{AreSame, row_of_set, sll_same}
use Rattle.g4_lookahead.proofs.Looking.{IsLooking, left, looking_next}
use Rattle.g4_lookahead.proofs.Settling.{settled_sll}
use Rattle.g4_predict.specs.declared.path.Looked as code
use Rattle.g4_predict.specs.declared.verdict.Verdict as said
use Rattle.g4_predict.specs.Paths.{looked_of, verdict_of}
use Rattle.g4_predict.specs.Verdicts.{EndsWith, IsOnward, IsStartSet}
use Rattle.g4_predict.specs.Reached.{IsReached}
use Rattle.g4_predict.proofs.Ending.{last_entry, next_entry, sll_ends, sll_goes_on}
use Rattle.g4_predict.proofs.Reached.{looking_from, reached_start}

-- the symbol of the token at an index
abbrev symbol_at : List Token → ℕ → Token → ℕ
symbol_at tokens i t = (get_or tokens i t).symbol

-- What the loop over the tokens keeps, `first` being the set before symbol k and `looked` the entries so far: what SLL says from here it
-- says from that set.
pub record IsSimulating (net : ParserNetwork) (first : Config → Type 0) (k : ℕ) (tokens : List Token) (i : ℕ) (C : Config → Type 0)
    (looked : List Looked) : Type 0 where
  pub looking : IsLooking net wildcard tokens i C
  pub says : (v : Verdict) (more : List Looked) → SllFrom net C (word_of (drop i tokens)) (k + i) v more
      → SllFrom net first (word_of tokens) k v (looked ++ more)

-- it holds of that set
pub simulating_start : (net : ParserNetwork) (C : Config → Type 0) (k : ℕ) (tokens : List Token) → IsReady net
    → ((c : Config) → C c → IsReached net c) → Contains (word_of tokens) end_of_list → IsSimulating net C k tokens 0 C []
simulating_start net C k tokens ready reached ends = record {
  looking = looking_from net tokens C ready reached ends;
  says = λ v more h. let same : k + 0 ≡ k = omega arith in subst (λ (n : ℕ). SllFrom net C (word_of tokens) n v more) same h;
}

-- entries, and then one more, and then others
with_entry : (net : ParserNetwork) (C : Config → Type 0) (w : List ℕ) (k : ℕ) (v : Verdict) (looked : List Looked) (entry : Looked)
    (more : List Looked) → SllFrom net C w k v (looked ++ (entry ∷ more)) → SllFrom net C w k v ((looked ++ entry ∷ []) ++ more)
with_entry net C w k v looked entry more h =
    subst (λ (all : List Looked). SllFrom net C w k v all) (sym (append_assoc looked (entry ∷ []) more)) h

-- it holds of the next set, where SLL goes on after it
pub simulating_next : (net : ParserNetwork) (first : Config → Type 0) (k : ℕ) (tokens : List Token) (i : ℕ) (t : Token)
    (C D : Config → Type 0) (row : List Config) (looked : List Looked) → i < length tokens
    → IsOnward net (Next net C (symbol_at tokens i t)) D → IsRow row D → IsSimulating net first k tokens i C looked
    → IsSimulating net first k tokens (i + 1) D (looked ++ next_entry (symbol_at tokens i t) row ∷ [])
simulating_next net first k tokens i t C D row looked less found is h =
    let a = symbol_at tokens i t in
    let w = word_of (drop (i + 1) tokens) in
    let g = found.goes_on in
    let one : k + (i + 1) ≡ suc (k + i) = omega arith in
    record {
      looking = looking_next net wildcard tokens i t C D less found.members found.within (λ p y one. settled_sll p y D one g) h.looking;
      says = λ v more s.
          with_entry net first (word_of tokens) k v looked (next_entry a row) more (h.says v (next_entry a row ∷ more)
          (subst (λ (u : List ℕ). SllFrom net C u (k + i) v (next_entry a row ∷ more)) (sym (left tokens i t less))
          (sll_goes_on net C D a w (k + i) v more row found.members is g
          (subst (λ (m : ℕ). SllFrom net D w m v more) one s))));
    }

-- what SLL ends with at the next set is its verdict
pub simulated : (net : ParserNetwork) (first : Config → Type 0) (k : ℕ) (tokens : List Token) (i : ℕ) (t : Token) (C : Config → Type 0)
    (looked : List Looked) (v : said.Verdict) → i < length tokens → EndsWith (Next net C (symbol_at tokens i t)) (k + i) v
    → IsSimulating net first k tokens i C looked
    → SllFrom net first (word_of tokens) k (verdict_of v) (looked ++ last_entry (symbol_at tokens i t) (verdict_of v) ∷ [])
simulated net first k tokens i t C looked v less ends h =
    let a = symbol_at tokens i t in
    let s = sll_ends net C a (word_of (drop (i + 1) tokens)) (k + i) v ends in
    h.says (verdict_of v) (last_entry a (verdict_of v) ∷ [])
    (subst (λ (w : List ℕ). SllFrom net C w (k + i) (verdict_of v) (last_entry a (verdict_of v) ∷ [])) (sym (left tokens i t less)) s)

-- the entries of the code and one more
pub more_entries : (before after : List code.Looked) (entry : code.Looked) → after ≡ before ++ entry ∷ []
    → map looked_of after ≡ map looked_of before ++ looked_of entry ∷ []
more_entries before after entry is = ap (map looked_of) is ∙ map-append looked_of before (entry ∷ [])

-- a set with the members of a start set is reached
pub start_reached : (net : ParserNetwork) (d : ℕ) (A : ℕ → Type 0) (C : Config → Type 0) → IsStartSet net d A C
    → (c : Config) → C c → IsReached net c
start_reached net d A C first c i = reached_start net d A c ((first.members c).0 i)

-- and what SLL says from it, it says at the decision
pub from_start : (net : ParserNetwork) (d : ℕ) (A : ℕ → Type 0) (C : Config → Type 0) (w : List ℕ) (v : Verdict) (start : List Config)
    (looked : List Looked) → IsStartSet net d A C → IsRow start C → SllFrom net C w 0 v looked
    → Sll net d A w v (record { start = start; looked = looked })
from_start net d A C w v start looked first is says =
    let has : AreSame C (Start net d A wildcard) = first.members in (
      row_of_set start C (Start net d A wildcard) has is,
      sll_same net C (Start net d A wildcard) (λ c. (has c).0) (λ c. (has c).1) w 0 v looked says,
    )

-- what SLL says from a set that has the row, it says from the row's members
pub from_row : (net : ParserNetwork) (row : List Config) (C : Config → Type 0) (w : List ℕ) (k : ℕ) (v : Verdict) (looked : List Looked)
    → IsRow row C → SllFrom net C w k v looked → SllFrom net (Contains row) w k v looked
from_row net row C w k v looked is says =
    sll_same net C (Contains row) (λ c. (is.exactly c).1) (λ c. (is.exactly c).0) w k v looked says
