-- A text begins with at most one piece.
use Rattle.std.proofs.Common.{◌≡◌, ℕ, suc, ◌+◌, ◌-◌, ◌<◌, ◌≤◌, List, [], ◌∷◌, Some, None, Result, length, take, drop, get_or, encode_utf8_all, refl, ap, sym, ◌∙◌, subst, arith}
use Rattle.g4_chars.specs.declared.escape.Context.TheVariants as contexts
use Rattle.g4_grammar_tokens.specs.Enclosed.{Encloses}
use Rattle.g4_grammar_tokens.specs.Spelling.{literal_spelling}
use Rattle.g4_grammar_tokens.proofs.Ends.{one_enclosed}
use Rattle.std.proofs.lemmas.List.{take_rest}
use Rattle.g4_preds.specs.declared.fault.Fault.{Fault}
use Rattle.g4_preds.specs.declared.piece.Piece.{Piece}
use Rattle.g4_preds.specs.declared.piece.Piece.TheVariants.{Formed}
use Rattle.g4_preds.specs.declared.token.Token.TheVariants.{Literal}
use Rattle.g4_preds.specs.Answers.{Answers}
use Rattle.g4_preds.specs.Tokens.{Opening, known, a_literal, opening, IsOpened, at_once, with_end, IsPiece, IsLiteralPiece}

-- the literal piece with this many characters after its first
abbrev literal_piece : ℕ → List ℕ → ℕ → Piece
literal_piece c after more = Formed (Literal (encode_utf8_all (literal_spelling (c ∷ take more after)))) more

-- a piece that is known at once
known_piece : (c : ℕ) (after : List ℕ) (o : Opening) (p q : Piece) → IsOpened c after o q → o ≡ known (Some p) → p ≡ q
known_piece c after _ p _ (at_once q) is = cc
known_piece c after _ p _ (with_end more ends few) is = absurd cc

-- a literal
one_literal : (c : ℕ) (after : List ℕ) (o : Opening) (more : ℕ) (q : Piece) → IsOpened c after o q → o ≡ a_literal
    → Encloses contexts.Literal 39 after more → literal_piece c after more ≡ q
one_literal c after _ more _ (at_once q) is ends = absurd cc
one_literal c after _ more _ (with_end other other_ends few) is ends =
    ap (literal_piece c after) (one_enclosed contexts.Literal 39 more other after ends other_ends)

opened_once : (c : ℕ) (after : List ℕ) (o : Opening) (p q : Piece) → IsOpened c after o p → IsOpened c after o q → p ≡ q
opened_once c after _ _ q (at_once p) second = known_piece c after (known (Some p)) p q second refl
opened_once c after _ _ q (with_end more ends few) second = one_literal c after a_literal more q second refl ends

-- a text begins with at most one piece
pub one_piece : (text : List ℕ) (p q : Piece) → IsPiece text p → IsPiece text q → p ≡ q
one_piece [] p q first second = absurd first
one_piece (c ∷ after) p q first second = opened_once c after (opening c after) p q first second

-- a literal that does not end, or has no character
no_literal : (c : ℕ) (after : List ℕ) (o : Opening) (p : Piece) → IsOpened c after o p → o ≡ a_literal
    → ((more : ℕ) → Encloses contexts.Literal 39 after more → 1 < more → ⊥) → ⊥
no_literal c after _ _ (at_once p) is none = absurd cc
no_literal c after _ _ (with_end more ends few) is none = none more ends few

-- a literal with nothing between its quotes is none
pub too_short : (text after : List ℕ) (more : ℕ) (p : Piece) → after ≡ drop 1 text → Encloses contexts.Literal 39 after more
    → more < 2 → IsLiteralPiece text p → ⊥
too_short [] after more p after_is ends short is = is
too_short (c ∷ cs) after more p after_is ends short is =
    let ends_here : Encloses contexts.Literal 39 cs more = subst (λ (b : List ℕ). Encloses contexts.Literal 39 b more) after_is ends in
    no_literal c cs a_literal p is refl (λ other also few. let same : more ≡ other =
    one_enclosed contexts.Literal 39 more other cs ends_here also in omega arith)

-- the literal that the text begins with
pub literal_at : (text after meant : List ℕ) (more : ℕ) → 1 ≤ length text → after ≡ drop 1 text
    → Encloses contexts.Literal 39 after more → 2 ≤ more → meant ≡ encode_utf8_all (literal_spelling (take (more + 1) text))
    → IsLiteralPiece text (Formed (Literal meant) more)
literal_at [] after meant more within after_is ends few spelled = absurd (omega arith)
literal_at (c ∷ cs) after meant more within after_is ends few spelled =
    let count : more + 1 ≡ suc more = omega arith in
    let same : meant ≡ encode_utf8_all (literal_spelling (c ∷ take more cs)) =
    spelled ∙ ap (λ n. encode_utf8_all (literal_spelling (take n (c ∷ cs)))) count in
    let P : List ℕ → Type 0 = λ ls. IsOpened c cs a_literal (Formed (Literal ls) more) in
    subst P (sym same) (with_end more (subst (λ (b : List ℕ). Encloses contexts.Literal 39 b more) after_is ends) (omega arith))

-- a text with a first character
pub begun : (text : List ℕ) (c : ℕ) → 1 ≤ length text → c ≡ get_or text 0 c → text ≡ c ∷ take (length text - 1) (drop 1 text)
begun [] c within is = absurd (omega arith)
begun (d ∷ ds) c within is = ap (λ e. e ∷ ds) (sym is) ∙ ap (λ es. c ∷ es) (sym (take_rest (d ∷ ds) 1))

-- nothing begins with the character
nothing_opened : (c : ℕ) (after : List ℕ) (o : Opening) (p : Piece) → IsOpened c after o p → o ≡ known None → ⊥
nothing_opened c after _ _ (at_once p) is = absurd cc
nothing_opened c after _ _ (with_end more ends few) is = absurd cc

-- the piece that is known at once
pub piece_at : (text after : List ℕ) (c : ℕ) (p : Piece) → text ≡ c ∷ after → opening c after ≡ known (Some p) → IsPiece text p
piece_at text after c p whole is = subst (λ (t : List ℕ). IsPiece t p) (sym whole)
    (subst (λ (o : Opening). IsOpened c after o p) (sym is) (at_once p))

-- where it is known that no piece begins, none does
pub nothing_at : (text after : List ℕ) (c : ℕ) (p : Piece) → text ≡ c ∷ after → opening c after ≡ known None → IsPiece text p → ⊥
nothing_at text after c p whole is piece = nothing_opened c after (opening c after) p (subst (λ (t : List ℕ). IsPiece t p) whole piece) is

-- where a literal begins, the piece is that
pub literal_answers : (text after : List ℕ) (c : ℕ) (r : Result Piece Fault) → text ≡ c ∷ after → opening c after ≡ a_literal
    → Answers (IsLiteralPiece text) r → Answers (IsPiece text) r
literal_answers text after c r whole is answers =
    let here : Answers (IsLiteralPiece (c ∷ after)) r = subst (λ (t : List ℕ). Answers (IsLiteralPiece t) r) whole answers in
    let opened : Answers (IsPiece (c ∷ after)) r = subst (λ (o : Opening). Answers (IsOpened c after o) r) (sym is) here in
    subst (λ (t : List ℕ). Answers (IsPiece t) r) (sym whole) opened
