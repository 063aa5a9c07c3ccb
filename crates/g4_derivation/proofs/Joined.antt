-- Lists joined in order.
use Rattle.std.proofs.Common.{◌≡◌, List, [], ◌∷◌, ◌++◌, refl, sym, ◌∙◌, ap, append_assoc}

-- the lists joined in order
abbrev pub joined : {X : Type 0} → List (List X) → List X
joined [] = []
joined (x ∷ xs) = x ++ joined xs

-- first some of them, then the others
pub joined-append : {X : Type 0} (xs ys : List (List X)) → joined (xs ++ ys) ≡ joined xs ++ joined ys
joined-append [] ys = refl
joined-append (x ∷ xs) ys = ap (λ (zs : List _). x ++ zs) (joined-append xs ys) ∙ sym (append_assoc x (joined xs) (joined ys))
