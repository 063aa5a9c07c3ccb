-- The text of a predicate without its braces.
use Rattle.std.proofs.Common.{◌≡◌, ◌≢◌, ℕ, List, [], ◌∷◌, ◌++◌, Bool, true, false, ◌==◌, Option, Some, None, refl, sym, ap, ◌∙◌, arith}
use Rattle.std.specs.Prelude.{MatchOption, reverse, unwrap_or}
use Rattle.std.specs.Borrow.{Bor}
use Rattle.std.proofs.lemmas.Bool.Decides.{nat_tests}
use Rattle.std.proofs.lemmas.List.{reverse-append, reverse-reverse}
use Rattle.g4_checks.specs.Predicates.{text_of_predicate, without_first, without_last}

-- a text that begins with the byte
first-at : (byte : ℕ) (rest : List ℕ) → without_first byte (byte ∷ rest) ≡ rest
first-at byte rest = go (byte == byte) refl (grind (arith, nat_tests))
  where
    go : (t : Bool) → (byte == byte) ≡ t → t ≡ true → without_first byte (byte ∷ rest) ≡ rest
    go t e f = rw (e, f)

-- a text that ends with it
last-at : (byte : ℕ) (text : List ℕ) → without_last byte (text ++ (byte ∷ [])) ≡ text
last-at byte text =
    let turned : reverse (text ++ (byte ∷ [])) ≡ byte ∷ reverse text = reverse-append text (byte ∷ []) in
    ap (λ (bytes : List ℕ). reverse (without_first byte bytes)) turned ∙ (ap reverse (first-at byte (reverse text)) ∙ reverse-reverse text)

-- a text that does not begin with it
first-other : (byte : ℕ) (text : List ℕ) → ((rest : List ℕ) → text ≢ byte ∷ rest) → without_first byte text ≡ text
first-other byte [] h = refl
first-other byte (b ∷ bs) h = go (b == byte) refl
  where
    go : (t : Bool) → (b == byte) ≡ t → without_first byte (b ∷ bs) ≡ b ∷ bs
    go true e = absurd (h bs (ap (λ (n : ℕ). n ∷ bs) (grind (arith, nat_tests))))
    go false e = rw e

-- what is left of a text where its first byte is taken away, if it is this byte
pub front_is : (byte : ℕ) (text : Bor (List ℕ)) (r : Option (Bor (List ℕ)))
    → MatchOption r ((rest : List ℕ) → text.now ≢ byte ∷ rest) (λ x. text.now ≡ byte ∷ x.now)
    → (unwrap_or r text).now ≡ without_first byte text.now
front_is byte text None h = sym (first-other byte text.now h)
front_is byte text (Some x) h = sym (ap (without_first byte) h ∙ first-at byte x.now)

-- and where its last byte is
pub end_is : (byte : ℕ) (text : Bor (List ℕ)) (r : Option (Bor (List ℕ)))
    → MatchOption r ((front : List ℕ) → text.now ≢ front ++ (byte ∷ [])) (λ x. text.now ≡ x.now ++ (byte ∷ []))
    → (unwrap_or r text).now ≡ without_last byte text.now
end_is byte text None h =
    sym (ap reverse (first-other byte (reverse text.now)
    (λ rest e. h (reverse rest) (sym (reverse-reverse text.now) ∙ (ap reverse e ∙ reverse-append (byte ∷ []) rest))))
    ∙ reverse-reverse text.now)
end_is byte text (Some x) h = sym (ap (without_last byte) h ∙ last-at byte x.now)

-- the text between braces
pub between_braces : (text : List ℕ) → text_of_predicate (123 ∷ (text ++ (125 ∷ []))) ≡ text
between_braces text = ap (without_last 125) (first-at 123 (text ++ (125 ∷ []))) ∙ last-at 125 text
