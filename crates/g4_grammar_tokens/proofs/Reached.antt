-- What scanning has reached: the tokens before, and what the rest of the text adds to them.
use Rattle.std.proofs.Common.{◌≡◌, ℕ, ◌+◌, ◌-◌, ◌<◌, ◌≤◌, List, [], ◌∷◌, ◌++◌, drop, take, length, get_or, refl, ap, sym, subst, ◌∙◌, append_assoc}
use Rattle.std.proofs.lemmas.List.{append-nil, drop_all}
use Rattle.g4_grammar_tokens.specs.Pieces.{IsPiece, opening, IsWithin}
use Rattle.g4_grammar_tokens.specs.Positions.{position_past}
use Rattle.g4_grammar_tokens.specs.Readings.{statement_of, statement_past, holds_sets}
use Rattle.g4_grammar_tokens.specs.Scanning.{AreTokens, IsFaultyAt, at_end, after_gap, with_token, right_here, past_gap, past_token, PieceAt, token_at}
use Rattle.g4_grammar_tokens.specs.Statements.{Word}
use Rattle.g4_grammar_tokens.specs.declared.piece.Piece.{Piece}
use Rattle.g4_grammar_tokens.specs.declared.piece.Piece.TheVariants.{Gap, Formed, Faulty}
use Rattle.g4_grammar_tokens.specs.declared.position.Position.{Position}
use Rattle.g4_grammar_tokens.specs.declared.statement.Statement.{Statement}
use Rattle.g4_grammar_tokens.specs.declared.token.Kind.{Kind}
use Rattle.g4_grammar_tokens.specs.declared.token.Token.{Token}
use Rattle.g4_grammar_tokens.proofs.Skips.{from_index, word_is, beyond}

-- the tokens so far are those up to the index, where the statement and the position are these
pub record Reached (start : Position) (text : List ℕ) (statement : Statement) (p : Position) (at : ℕ) (tokens : List Token) : Type 0 where
  pub words : List Word
  pub known : statement ≡ statement_of words
  pub tokens_go_on : (more : List Token) → AreTokens words p (drop at text) more → AreTokens [] start text (tokens ++ more)
  pub fault_goes_on : (fault : Position) → IsFaultyAt words p (drop at text) fault → IsFaultyAt [] start text fault

-- nothing is read
pub reached_start : (start p : Position) (text : List ℕ) (statement : Statement) → statement ≡ statement_of [] → p ≡ start
    → Reached start text statement p 0 []
reached_start start p text statement known same = record {
  words = [];
  known = known;
  tokens_go_on = λ more are. subst (λ (q : Position). AreTokens [] q text more) same are;
  fault_goes_on = λ fault opens. subst (λ (q : Position). IsFaultyAt [] q text fault) same opens;
}

-- the statement decides the piece
pub piece_is : (statement : Statement) (words : List Word) (c : ℕ) (rest : List ℕ) (found piece : Piece)
    → statement ≡ statement_of words → IsPiece (opening (holds_sets statement) statement.names_braces statement.in_braces c rest) rest
    found → found ≡ piece → PieceAt words c rest piece
piece_is statement words c rest found piece known is same =
    subst (PieceAt words c rest) same (subst (λ (s : Statement).
    IsPiece (opening (holds_sets s) s.names_braces s.in_braces c rest) rest found) known is)

-- tokens at the same position of the same text
pub same_tokens : (words : List Word) (p q : Position) (rest other : List ℕ) (tokens : List Token) → p ≡ q → rest ≡ other
    → AreTokens words p rest tokens → AreTokens words q other tokens
same_tokens words p q rest other tokens same_p same_rest are =
    subst (λ (r : List ℕ). AreTokens words q r tokens) same_rest (subst (λ (r : Position). AreTokens words r rest tokens) same_p are)

-- a fault at the same position of the same text
pub same_fault : (words : List Word) (p q : Position) (rest other : List ℕ) (fault : Position) → p ≡ q → rest ≡ other
    → IsFaultyAt words p rest fault → IsFaultyAt words q other fault
same_fault words p q rest other fault same_p same_rest opens =
    subst (λ (r : List ℕ). IsFaultyAt words q r fault) same_rest (subst (λ (r : Position). IsFaultyAt words r rest fault) same_p opens)

-- what is reached after a gap
pub reached_gap : (start : Position) (text : List ℕ) (statement : Statement) (p next : Position) (at c more : ℕ) (tokens : List Token)
    (found : Piece) → Reached start text statement p at tokens → at < length text → c ≡ get_or text at c →
    IsPiece (opening (holds_sets statement) statement.names_braces statement.in_braces c
    (take (length text - (at + 1)) (drop (at + 1) text))) (take (length text - (at + 1)) (drop (at + 1) text)) found
    → found ≡ Gap more → next ≡ position_past p (take (at + 1 + more - at) (drop at text))
    → Reached start text statement next (at + 1 + more) tokens
reached_gap start text statement p next at c more tokens found r h read found_is gap next_is =
    let rest : List ℕ = take (length text - (at + 1)) (drop (at + 1) text) in
    let cut : drop at text ≡ c ∷ rest = from_index text at c h read in
    let is : PieceAt r.words c rest (Gap more) = piece_is statement r.words c rest found (Gap more) r.known found_is gap in
    let moved : next ≡ position_past p (c ∷ take more rest) = next_is ∙ ap (position_past p) (word_is text at c more h read) in
    let left : drop (at + 1 + more) text ≡ drop more rest = sym (beyond text at more) in
    record {
      words = r.words;
      known = r.known;
      tokens_go_on = λ after are. r.tokens_go_on after
          (same_tokens r.words p p (c ∷ rest) (drop at text) after refl (sym cut)
          (after_gap r.words p c more rest after is
          (same_tokens r.words next (position_past p (c ∷ take more rest)) (drop (at + 1 + more) text) (drop more rest) after moved
          left are)));
      fault_goes_on = λ fault opens. r.fault_goes_on fault
          (same_fault r.words p p (c ∷ rest) (drop at text) fault refl (sym cut)
          (past_gap r.words p fault c more rest is (same_fault r.words next (position_past p (c ∷ take more rest))
          (drop (at + 1 + more) text) (drop more rest) fault moved left opens)));
    }

-- the statement after one more token is that of the tokens with it
pub statement_more : (statement after : Statement) (words : List Word) (kind : Kind) (word characters : List ℕ)
    → statement ≡ statement_of words → after ≡ statement_past statement kind word → word ≡ characters
    → after ≡ statement_of (record { kind = kind; characters = characters } ∷ words)
statement_more statement after words kind word characters known after_is same =
    after_is ∙ ap (λ (s : Statement). statement_past s kind word) known ∙ ap (statement_past (statement_of words) kind) same

-- what is reached after a token
pub reached_token : (start : Position) (text : List ℕ) (statement after : Statement) (p next : Position) (at c more : ℕ) (kind : Kind)
    (tokens longer : List Token) (found : Piece) → Reached start text statement p at tokens → at < length text → c ≡ get_or text at c →
    IsPiece (opening (holds_sets statement) statement.names_braces statement.in_braces c
    (take (length text - (at + 1)) (drop (at + 1) text))) (take (length text - (at + 1)) (drop (at + 1) text)) found
    → found ≡ Formed kind more → next ≡ position_past p (take (at + 1 + more - at) (drop at text)) →
    after ≡ statement_past statement kind (take (at + 1 + more - at) (drop at text))
    → longer ≡ tokens ++ (record { kind = kind; place = p.place; start = p.index; end = next.index } ∷ [])
    → Reached start text after next (at + 1 + more) longer
reached_token start text statement after p next at c more kind tokens longer found r h read found_is formed next_is after_is longer_is =
    let rest : List ℕ = take (length text - (at + 1)) (drop (at + 1) text) in
    let piece_characters : List ℕ = c ∷ take more rest in
    let cut : drop at text ≡ c ∷ rest = from_index text at c h read in
    let word : take (at + 1 + more - at) (drop at text) ≡ piece_characters = word_is text at c more h read in
    let is : PieceAt r.words c rest (Formed kind more) =
    piece_is statement r.words c rest found (Formed kind more) r.known found_is formed in
    let moved : next ≡ position_past p piece_characters = next_is ∙ ap (position_past p) word in
    let left : drop (at + 1 + more) text ≡ drop more rest = sym (beyond text at more) in
    let token : Token = token_at kind p piece_characters in
    let same_token : longer ≡ tokens ++ (token ∷ []) =
    longer_is ∙ ap (λ (q : Position). tokens ++ (record { kind = kind; place = p.place; start = p.index; end = q.index } ∷ [])) moved in
    let words : List Word = record { kind = kind; characters = piece_characters } ∷ r.words in
    record {
      words = words;
      known = statement_more statement after r.words kind (take (at + 1 + more - at) (drop at text)) piece_characters r.known after_is word;
      tokens_go_on = λ others are. subst (λ (ts : List Token). AreTokens [] start text ts)
          (sym (ap (λ (ts : List Token). ts ++ others) same_token ∙ append_assoc tokens (token ∷ []) others))
          (r.tokens_go_on (token ∷ others) (same_tokens r.words p p (c ∷ rest) (drop at text) (token ∷ others) refl (sym cut)
          (with_token r.words p c more kind rest others is
          (same_tokens words next (position_past p piece_characters) (drop (at + 1 + more) text) (drop more rest) others moved left are))));
      fault_goes_on = λ fault opens. r.fault_goes_on fault
          (same_fault r.words p p (c ∷ rest) (drop at text) fault refl (sym cut)
          (past_token r.words p fault c more kind rest is
          (same_fault words next (position_past p piece_characters) (drop (at + 1 + more) text) (drop more rest) fault moved left opens)));
    }

-- what is reached at the end
pub reached_end : (start : Position) (text : List ℕ) (statement : Statement) (p : Position) (at : ℕ) (tokens : List Token)
    → Reached start text statement p at tokens → length text ≤ at → AreTokens [] start text tokens
reached_end start text statement p at tokens r h =
    subst (λ (ts : List Token). AreTokens [] start text ts) (append-nil tokens)
    (r.tokens_go_on [] (same_tokens r.words p p [] (drop at text) [] refl (sym (drop_all at text h)) (at_end r.words p)))

-- what is reached at a fault
pub reached_fault : (start : Position) (text : List ℕ) (statement : Statement) (p : Position) (at c : ℕ) (tokens : List Token)
    (found : Piece) → Reached start text statement p at tokens → at < length text → c ≡ get_or text at c →
    IsPiece (opening (holds_sets statement) statement.names_braces statement.in_braces c
    (take (length text - (at + 1)) (drop (at + 1) text))) (take (length text - (at + 1)) (drop (at + 1) text)) found
    → found ≡ Faulty → IsFaultyAt [] start text p
reached_fault start text statement p at c tokens found r h read found_is faulty =
    let rest : List ℕ = take (length text - (at + 1)) (drop (at + 1) text) in
    let cut : drop at text ≡ c ∷ rest = from_index text at c h read in
    let is : PieceAt r.words c rest Faulty = piece_is statement r.words c rest found Faulty r.known found_is faulty in
    r.fault_goes_on p (same_fault r.words p p (c ∷ rest) (drop at text) p refl (sym cut) (right_here r.words p c rest is))

-- a gap within what follows its first character
pub gap_within : (most more : ℕ) (found : Piece) → found ≡ Gap more → IsWithin most found → more ≤ most
gap_within most more found is within = let P : Piece → Type 0 = IsWithin most in subst P is within

-- a token within what follows its first character
pub token_within : (most more : ℕ) (kind : Kind) (found : Piece) → found ≡ Formed kind more → IsWithin most found → more ≤ most
token_within most more kind found is within = let P : Piece → Type 0 = IsWithin most in subst P is within
