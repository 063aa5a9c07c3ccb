-- The tokens so far are those of the text up to an index.
use Rattle.std.proofs.Common.{◌≡◌, ℕ, ◌+◌, ◌<◌, ◌≤◌, List, [], ◌∷◌, ◌++◌, Err, drop, length, get_or, refl, ap, sym, ◌∙◌, subst, append_assoc, arith}
use Rattle.std.proofs.lemmas.List.{append-nil, drop_all, drop_more, drop-drop}
use Rattle.g4_preds.specs.declared.fault.Fault.{Fault}
use Rattle.g4_preds.specs.declared.fault.Fault.TheVariants.{Unknown, NoMemory}
use Rattle.g4_preds.specs.declared.piece.Piece.{Piece}
use Rattle.g4_preds.specs.declared.piece.Piece.TheVariants.{Blank, Formed}
use Rattle.g4_preds.specs.declared.token.Token.{Token}
use Rattle.g4_preds.specs.Answers.{Answers}
use Rattle.g4_preds.specs.Tokens.{IsPiece, IsWithin, AreTokens, at_end, past_blank, with_token}
use Rattle.g4_preds.proofs.Pieces.{one_piece}

-- these tokens, and then others of the rest
pub record Rest (rest : List ℕ) (tokens all : List Token) : Type 0 where
  pub others : List Token
  pub are : all ≡ tokens ++ others
  pub cut : AreTokens rest others

-- the text has these tokens first, and then those of the rest
pub record Scanned (text rest : List ℕ) (tokens : List Token) : Type 0 where
  pub goes_on : (others : List Token) → AreTokens rest others → AreTokens text (tokens ++ others)
  pub comes_from : (all : List Token) → AreTokens text all → Rest rest tokens all

-- nothing is read
pub scanned_start : (text : List ℕ) → Scanned text text []
scanned_start text = record {
  goes_on = λ others cut. cut;
  comes_from = λ all cut. record { others = all; are = refl; cut = cut };
}

blank_or_token : (token : Token) (more : ℕ) → Blank ≡ Formed token more → ⊥
blank_or_token token more is = absurd cc

same_token : (s t : Token) (m n : ℕ) → Formed s m ≡ Formed t n → s ≡ t
same_token s t m n is = cc

same_more : (s t : Token) (m n : ℕ) → Formed s m ≡ Formed t n → m ≡ n
same_more s t m n is = cc

-- after a blank
pub after_blank : (text : List ℕ) (c : ℕ) (cs : List ℕ) (all : List Token) → text ≡ c ∷ cs → IsPiece (c ∷ cs) Blank
    → AreTokens text all → AreTokens cs all
after_blank _ c cs _ is blank at_end = absurd cc
after_blank _ c cs _ is blank (past_blank d ds tokens _ cut) = let same : ds ≡ cs = cc in
    subst (λ (r : List ℕ). AreTokens r tokens) same cut
after_blank _ c cs _ is blank (with_token d more ds token tokens formed cut) =
    absurd (blank_or_token token more (one_piece (c ∷ cs) Blank (Formed token more) blank
    (subst (λ (r : List ℕ). IsPiece r (Formed token more)) is formed)))

-- after a token
pub after_token : (text : List ℕ) (c more : ℕ) (cs : List ℕ) (token : Token) (all : List Token) → text ≡ c ∷ cs
    → IsPiece (c ∷ cs) (Formed token more) → AreTokens text all → Rest (drop more cs) (token ∷ []) all
after_token _ c more cs token _ is formed at_end = absurd cc
after_token _ c more cs token _ is formed (past_blank d ds tokens blank cut) =
    absurd (blank_or_token token more (one_piece (c ∷ cs) Blank (Formed token more) (subst (λ (r : List ℕ). IsPiece r Blank) is blank)
    formed))
after_token _ c more cs token _ is formed (with_token d n ds other tokens also cut) =
    let pair = one_piece (c ∷ cs) (Formed other n) (Formed token more) (subst (λ (r : List ℕ). IsPiece r (Formed other n)) is also)
    formed in
    let rest_is : drop n ds ≡ drop more cs = ap (λ k. drop k ds) (same_more other token n more pair)
    ∙ ap (drop more) (let same : ds ≡ cs = cc in same) in
    record {
      others = tokens;
      are = ap (λ t. t ∷ tokens) (same_token other token n more pair);
      cut = subst (λ (r : List ℕ). AreTokens r tokens) rest_is cut;
    }

-- no text has no token
pub no_token : (text : List ℕ) (all : List Token) → text ≡ [] → AreTokens text all → all ≡ []
no_token _ _ is at_end = refl
no_token _ _ is (past_blank d ds tokens blank cut) = absurd cc
no_token _ _ is (with_token d more ds token tokens formed cut) = absurd cc

-- a blank is read
pub scanned_blank : (text : List ℕ) (c : ℕ) (cs : List ℕ) (tokens : List Token) → Scanned text (c ∷ cs) tokens
    → IsPiece (c ∷ cs) Blank → Scanned text cs tokens
scanned_blank text c cs tokens s blank = record {
  goes_on = λ others cut. s.goes_on others (past_blank c cs others blank cut);
  comes_from = λ all cut. let r = s.comes_from all cut in
      record { others = r.others; are = r.are; cut = after_blank (c ∷ cs) c cs r.others refl blank r.cut };
}

-- a token is read
pub scanned_token : (text : List ℕ) (c more : ℕ) (cs : List ℕ) (token : Token) (tokens : List Token) → Scanned text (c ∷ cs) tokens
    → IsPiece (c ∷ cs) (Formed token more) → Scanned text (drop more cs) (tokens ++ token ∷ [])
scanned_token text c more cs token tokens s formed = record {
  goes_on = λ others cut. subst (AreTokens text) (sym (append_assoc tokens (token ∷ []) others))
      (s.goes_on (token ∷ others) (with_token c more cs token others formed cut));
  comes_from = λ all cut.
      let r = s.comes_from all cut in
      let next = after_token (c ∷ cs) c more cs token r.others refl formed r.cut in
      record {
        others = next.others;
        are = r.are ∙ ap (λ ts. tokens ++ ts) next.are
            ∙ sym (append_assoc tokens (token ∷ []) next.others);
        cut = next.cut;
      };
}

-- the text is read
pub scanned_end : (text : List ℕ) (tokens : List Token) → Scanned text [] tokens → AreTokens text tokens
scanned_end text tokens s = subst (AreTokens text) (append-nil tokens) (s.goes_on [] at_end)

no_piece : (rest : List ℕ) (others : List Token) (c : ℕ) (cs : List ℕ) → rest ≡ c ∷ cs → ((p : Piece) → IsPiece rest p → ⊥)
    → AreTokens rest others → ⊥
no_piece _ _ c cs is none at_end = absurd cc
no_piece _ _ c cs is none (past_blank d ds tokens blank cut) = none Blank blank
no_piece _ _ c cs is none (with_token d more ds token tokens formed cut) = none (Formed token more) formed

-- a fault where the rest begins with no piece
pub scanned_fault : (text : List ℕ) (c : ℕ) (cs : List ℕ) (tokens : List Token) (e : Fault) → Scanned text (c ∷ cs) tokens
    → Answers (IsPiece (c ∷ cs)) (Err e) → Answers (AreTokens text) (Err e)
scanned_fault text c cs tokens Unknown s none = λ all cut.
    let found = s.comes_from all cut in
    no_piece (c ∷ cs) found.others c cs refl none found.cut
scanned_fault text c cs tokens NoMemory s none = tt

-- a blank at an index
pub blank_at : (text rest : List ℕ) (at : ℕ) (tokens : List Token) (found : Piece) → at < length text → rest ≡ drop at text
    → Scanned text (drop at text) tokens → IsPiece rest found → found ≡ Blank → Scanned text (drop (at + 1) text) tokens
blank_at text rest at tokens found within rest_is s is blank =
    let cut : drop at text ≡ get_or text at 0 ∷ drop (at + 1) text = drop_more text at 0 within in
    scanned_blank text (get_or text at 0) (drop (at + 1) text) tokens (subst (λ (r : List ℕ). Scanned text r tokens) cut s)
    (subst (λ (r : List ℕ). IsPiece r Blank) (rest_is ∙ cut) (subst (IsPiece rest) blank is))

-- a token at an index
pub token_at : (text rest : List ℕ) (at more : ℕ) (token : Token) (tokens longer : List Token) (found : Piece) → at < length text
    → rest ≡ drop at text → Scanned text (drop at text) tokens → IsPiece rest found → found ≡ Formed token more
    → longer ≡ tokens ++ token ∷ [] → Scanned text (drop (at + (1 + more)) text) longer
token_at text rest at more token tokens longer found within rest_is s is formed longer_is =
    let cut : drop at text ≡ get_or text at 0 ∷ drop (at + 1) text = drop_more text at 0 within in
    let further = scanned_token text (get_or text at 0) more (drop (at + 1) text) token tokens
    (subst (λ (r : List ℕ). Scanned text r tokens) cut s)
    (subst (λ (r : List ℕ). IsPiece r (Formed token more)) (rest_is ∙ cut) (subst (IsPiece rest) formed is)) in
    let sum : at + 1 + more ≡ at + (1 + more) = omega arith in
    let left : drop more (drop (at + 1) text) ≡ drop (at + (1 + more)) text = drop-drop more (at + 1) text ∙ ap (λ n. drop n text) sum in
    let moved : Scanned text (drop (at + (1 + more)) text) (tokens ++ token ∷ []) =
    subst (λ (r : List ℕ). Scanned text r (tokens ++ token ∷ [])) left further in
    subst (Scanned text (drop (at + (1 + more)) text)) (sym longer_is) moved

-- no piece at an index
pub fault_at : (text rest : List ℕ) (at : ℕ) (tokens : List Token) (e : Fault) → at < length text → rest ≡ drop at text
    → Scanned text (drop at text) tokens → Answers (IsPiece rest) (Err e) → Answers (AreTokens text) (Err e)
fault_at text rest at tokens e within rest_is s none =
    let cut : drop at text ≡ get_or text at 0 ∷ drop (at + 1) text = drop_more text at 0 within in
    scanned_fault text (get_or text at 0) (drop (at + 1) text) tokens e (subst (λ (l : List ℕ). Scanned text l tokens) cut s)
    (subst (λ (l : List ℕ). Answers (IsPiece l) (Err e)) (rest_is ∙ cut) none)

-- the end of the text
pub end_at : (text : List ℕ) (at : ℕ) (tokens : List Token) → length text ≤ at → Scanned text (drop at text) tokens → AreTokens text tokens
end_at text at tokens done s = scanned_end text tokens (subst (λ (r : List ℕ). Scanned text r tokens) (drop_all at text done) s)

-- a token within what is left
pub formed_within : (most more : ℕ) (token : Token) (found : Piece) → found ≡ Formed token more → IsWithin most found → 1 + more ≤ most
formed_within most more token found formed within = let P : Piece → Type 0 = IsWithin most in subst P formed within
