-- What holds of all numbers of a list holds of all of it the other way.
use Rattle.std.proofs.Common.{ℕ, List, [], ◌∷◌, All, reverse, sym, subst, arith}
use Rattle.std.proofs.lemmas.List.{reverse-append}
use Rattle.std.proofs.lemmas.List.Elements.{All-head, All-tail, All-cons, All-append}

pub all_reversed : (P : ℕ → Type 0) (xs : List ℕ) → All P xs → All P (reverse xs)
all_reversed P [] h = h
all_reversed P (x ∷ xs) h =
    let last : All P (x ∷ []) = All-cons P x [] (All-head P x xs h) (λ k d lt. absurd (omega (arith, lt))) in
    subst (All P) (sym (reverse-append (x ∷ []) xs)) (All-append P (reverse xs) (x ∷ []) (all_reversed P xs (All-tail P x xs h)) last)
