-- A text is cut into tokens in one way, or has one first fault.
use Rattle.std.proofs.Common.{◌≡◌, ℕ, zero, suc, ◌+◌, ◌≤◌, List, [], ◌∷◌, Option, Some, None, Result, Ok, Err, ◌⊎◌, inl, inr, refl, sym, ◌∙◌, ap, take, drop, length, arith, length-drop}
use Rattle.std.specs.Str.{IsUtf8, chars}
use Rattle.std.proofs.lemmas.Bool.{cases_lt}
use Rattle.g4_chars.specs.declared.escape.Context.TheVariants as Context
use Rattle.g4_grammar_tokens.specs.Answers.{HasTokens, HasFault, IsScan, start_of, unmarked}
use Rattle.g4_grammar_tokens.specs.Comments.{comment_end}
use Rattle.g4_grammar_tokens.specs.Enclosed.{Encloses}
use Rattle.g4_grammar_tokens.specs.Nesting.{Nests}
use Rattle.g4_grammar_tokens.specs.Pieces.{Closing, comment, literal, set, arguments, action, Opening, decided, up_to, ends, IsEnd, IsPiece, at_once, with_end, endless, closed_piece}
use Rattle.g4_grammar_tokens.specs.Positions.{position_past}
use Rattle.g4_grammar_tokens.specs.Scanning.{AreTokens, IsFaultyAt, at_end, after_gap, with_token, right_here, past_gap, past_token, PieceAt, token_at}
use Rattle.g4_grammar_tokens.specs.Statements.{Word}
use Rattle.g4_grammar_tokens.specs.declared.piece.Piece.{Piece}
use Rattle.g4_grammar_tokens.specs.declared.piece.Piece.TheVariants.{Gap, Formed, Faulty}
use Rattle.g4_grammar_tokens.specs.declared.position.Position.{Position}
use Rattle.g4_grammar_tokens.specs.declared.scanner.ScanFault.{ScanFault}
use Rattle.g4_grammar_tokens.specs.declared.scanner.ScanFault.TheVariants.{NotUtf8, Syntax, NoMemory}
use Rattle.g4_grammar_tokens.specs.declared.token.Token.{Token}
use Rattle.g4_grammar_tokens.specs.Ends.{Finds}
use Rattle.g4_grammar_tokens.proofs.Ends.{enclosed, find_enclosed, find_nesting}
use Rattle.g4_grammar_tokens.proofs.Found.{no_comment, no_literal}
use Rattle.g4_grammar_tokens.proofs.OneScan.{one_scan}

-- where a piece ends, or that it doesn't
abbrev SomeEnd : Closing → List ℕ → Type 0
SomeEnd closing after = ((more : ℕ) × IsEnd closing after more) ⊎ ((more : ℕ) → IsEnd closing after more → ⊥)

-- a comment ends or doesn't
comment_ends : (after : List ℕ) → SomeEnd comment after
comment_ends after = by_end (comment_end (drop 1 after)) refl
  where
    by_end : (o : Option ℕ) → comment_end (drop 1 after) ≡ o → SomeEnd comment after
    by_end (Some taken) e = inl (taken + 1, ends taken e)
    by_end None e = inr (λ more is. no_comment after more e is)

-- a literal ends or doesn't
literal_ends : (after : List ℕ) → SomeEnd literal after
literal_ends after = by_end (enclosed Context.Literal 39 after) (find_enclosed Context.Literal 39 after _ refl)
  where
    by_end : (o : Option ℕ) → Finds (Encloses Context.Literal 39 after) o → SomeEnd literal after
    by_end (Some taken) is = elim (cases_lt taken 2)
        [ inl less ↦ inr (λ more end. no_literal after taken more is less end) | inr enough ↦ inl (taken, (is, enough)) ]
    by_end None never = inr (λ more end. never more end.0)

-- a piece ends or doesn't, as what is found says
ends_as : (Ends : ℕ → Type 0) (o : Option ℕ) → Finds Ends o → ((more : ℕ) × Ends more) ⊎ ((more : ℕ) → Ends more → ⊥)
ends_as Ends (Some taken) is = inl (taken, is)
ends_as Ends None never = inr never

-- a piece ends or doesn't
some_end : (closing : Closing) (after : List ℕ) → SomeEnd closing after
some_end comment after = comment_ends after
some_end literal after = literal_ends after
some_end set after = ends_as (Encloses Context.Set 93 after) _ (find_enclosed Context.Set 93 after _ refl)
some_end arguments after = ends_as (Nests 91 93 after) _ (find_nesting 91 93 after _ refl)
some_end action after = ends_as (Nests 123 125 after) _ (find_nesting 123 125 after _ refl)

-- a piece begins at a character
some_piece : (opening : Opening) (after : List ℕ) → (piece : Piece) × IsPiece opening after piece
some_piece (decided piece) after = (piece, at_once piece after)
some_piece (up_to closing) after = elim (some_end closing after)
    [ inl end ↦ (closed_piece closing end.0, with_end closing after end.0 end.1) | inr never ↦ (Faulty, endless closing after never) ]

-- what the rest of a text is: these tokens, or one whose first fault is here
abbrev IsRest : List Word → Position → List ℕ → List Token ⊎ Position → Type 0
IsRest words p text (inl tokens) = AreTokens words p text tokens
IsRest words p text (inr at) = IsFaultyAt words p text at

-- the rest of a text is something
abbrev SomeRest : List Word → Position → List ℕ → Type 0
SomeRest words p text = (x : List Token ⊎ Position) × IsRest words p text x

-- a piece before the rest of a text
rest_more : (words : List Word) (p : Position) (c : ℕ) (cs : List ℕ) (found : Piece) → PieceAt words c cs found
    → ((later : List Word) (q : Position) (more : ℕ) → SomeRest later q (drop more cs)) → SomeRest words p (c ∷ cs)
rest_more words p c cs Faulty is further = (inr p, right_here words p c cs is)
rest_more words p c cs (Gap more) is further = by_rest (further words (position_past p (c ∷ take more cs)) more)
  where
    by_rest : SomeRest words (position_past p (c ∷ take more cs)) (drop more cs) → SomeRest words p (c ∷ cs)
    by_rest (inl tokens, are) = (inl tokens, after_gap words p c more cs tokens is are)
    by_rest (inr at, opens) = (inr at, past_gap words p at c more cs is opens)
rest_more words p c cs (Formed kind more) is further =
    by_rest (further (record { kind = kind; characters = c ∷ take more cs } ∷ words) (position_past p (c ∷ take more cs)) more)
  where
    by_rest : SomeRest (record { kind = kind; characters = c ∷ take more cs } ∷ words) (position_past p (c ∷ take more cs))
        (drop more cs) → SomeRest words p (c ∷ cs)
    by_rest (inl tokens, are) = (inl (token_at kind p (c ∷ take more cs) ∷ tokens), with_token words p c more kind cs tokens is are)
    by_rest (inr at, opens) = (inr at, past_token words p at c more kind cs is opens)

-- the rest of a text is something
some_rest : (fuel : ℕ) (words : List Word) (p : Position) (text : List ℕ) → length text ≤ fuel → SomeRest words p text
some_rest fuel words p [] h = (inl [], at_end words p)
some_rest zero words p (c ∷ cs) h = absurd (omega (arith, h))
some_rest (suc fuel) words p (c ∷ cs) h =
    let found = some_piece _ cs in
    rest_more words p c cs found.0 found.1 (λ later q more.
    some_rest fuel later q (drop more cs) (omega (arith, h, length-drop {A = ℕ} more cs)))

-- the bytes are a text that has these tokens, or whose first fault is here
abbrev pub IsCut : List ℕ → List Token ⊎ Position → Type 0
IsCut bytes (inl tokens) = HasTokens bytes tokens
IsCut bytes (inr at) = HasFault bytes at

-- what is cut is a text
pub cut_utf8 : (bytes : List ℕ) (x : List Token ⊎ Position) → IsCut bytes x → IsUtf8 bytes
cut_utf8 bytes (inl tokens) is = is.utf8
cut_utf8 bytes (inr at) is = is.utf8

-- what scanning answers
abbrev answer : List Token ⊎ Position → Result (List Token) ScanFault
answer (inl tokens) = Ok tokens
answer (inr at) = Err (Syntax at.place at.index)

-- a text is cut in one way
pub one_cut : (bytes : List ℕ) (a b : List Token ⊎ Position) → IsCut bytes a → IsCut bytes b → a ≡ b
one_cut bytes a b is also = same a b (one_scan bytes (answer a) (answer b) (scanned a is) (scanned b also) (enough a) (enough b))
  where
    scanned : (x : List Token ⊎ Position) → IsCut bytes x → IsScan bytes (answer x)
    scanned (inl tokens) is = is
    scanned (inr at) is = is

    enough : (x : List Token ⊎ Position) → answer x ≡ Err NoMemory → ⊥
    enough (inl tokens) e = cc
    enough (inr at) e = cc

    back : Result (List Token) ScanFault → List Token ⊎ Position
    back (Ok tokens) = inl tokens
    back (Err (Syntax place index)) = inr (record { place = place; index = index })
    back (Err (NotUtf8 at)) = inl []
    back (Err NoMemory) = inl []

    again : (x : List Token ⊎ Position) → back (answer x) ≡ x
    again (inl tokens) = refl
    again (inr at) = refl

    same : (x y : List Token ⊎ Position) → answer x ≡ answer y → x ≡ y
    same x y e = sym (again x) ∙ ap back e ∙ again y

-- a text is cut in some way
pub some_cut : (bytes : List ℕ) → IsUtf8 bytes → (x : List Token ⊎ Position) × IsCut bytes x
some_cut bytes utf8 = let rest = some_rest (length (unmarked (chars bytes))) [] (start_of (chars bytes)) (unmarked (chars bytes))
    (omega arith) in (rest.0, cut rest.0 rest.1)
  where
    cut : (x : List Token ⊎ Position) → IsRest [] (start_of (chars bytes)) (unmarked (chars bytes)) x → IsCut bytes x
    cut (inl tokens) are = record { utf8 = utf8; tokens_are = are }
    cut (inr at) opens = record { utf8 = utf8; opens = opens }
