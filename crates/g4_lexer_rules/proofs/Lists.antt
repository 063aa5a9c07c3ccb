-- Lists of rules and of their parts.
use Rattle.std.proofs.Common.{◌≡◌, ℕ, zero, suc, ◌+◌, ◌<◌, ◌≤◌, List, [], ◌∷◌, ◌++◌, length, map, take, get_or, refl, sym, ◌∙◌, ap, arith}
use Rattle.std.specs.List.{range_with_len}
use Rattle.std.proofs.lemmas.List.{map-append, take_all, take_more}
use Rattle.g4_source.specs.declared.rule.LexerRule.{LexerRule}
use Rattle.g4_lexer_rules.specs.NetworkRules.{names_of}

-- the name of the rule at a place
pub name_at : (rules : List LexerRule) (k : ℕ) (rule : LexerRule) → k < length rules → rule ≡ get_or rules k rule
    → rule.name ≡ get_or (names_of rules) k rule.name
name_at rules k rule less is = ap (λ (r : LexerRule). r.name) is ∙ sym (at rules k less)
  where
    at : (rules : List LexerRule) (k : ℕ) → k < length rules → get_or (names_of rules) k rule.name ≡ (get_or rules k rule).name
    at [] k less = absurd (omega arith)
    at (r ∷ rules) zero less = refl
    at (r ∷ rules) (suc k) less = at rules k (omega arith)

-- numbers that rise by one, with the next
range_next : (a n : ℕ) → range_with_len a (suc n) ≡ range_with_len a n ++ (a + n) ∷ []
range_next a zero = let e : a ≡ a + zero = omega arith in ap (λ (x : ℕ). x ∷ []) e
range_next a (suc n) = let e : a + 1 + n ≡ a + suc n = omega arith in
    ap (λ (xs : List ℕ). a ∷ xs) (range_next (a + 1) n ∙ ap (λ (x : ℕ). range_with_len (a + 1) n ++ x ∷ []) e)

pub range_more : (a n j : ℕ) → j ≡ a + n → range_with_len a (n + 1) ≡ range_with_len a n ++ j ∷ []
range_more a n j is = let one : n + 1 ≡ suc n = omega arith in
    ap (range_with_len a) one ∙ (range_next a n ∙ ap (λ (x : ℕ). range_with_len a n ++ x ∷ []) (sym is))

-- the images of the front items, with the next
pub image_more : {X Y : Type 0} (f : X → Y) (xs : List X) (i : ℕ) (d : X) (y : Y) (old new : List Y) → i < length xs
    → d ≡ get_or xs i d → y ≡ f d → new ≡ old ++ y ∷ [] → old ≡ map f (take i xs) → new ≡ map f (take (i + 1) xs)
image_more {X} {Y} f xs i d y old new less at is push so_far =
    push ∙ (ap (λ (ys : List Y). ys ++ y ∷ []) so_far ∙ (ap (λ (z : Y). map f (take i xs) ++ z ∷ []) is ∙ sym
    (ap (map f) (take_more xs i d less ∙ ap (λ (z : X). take i xs ++ z ∷ []) (sym at)) ∙ map-append f (take i xs) (d ∷ []))))

-- all images
pub image_all : {X Y : Type 0} (f : X → Y) (xs : List X) (i : ℕ) (all : List Y) → length xs ≤ i → all ≡ map f (take i xs) → all ≡ map f xs
image_all f xs i all past so_far = so_far ∙ ap (map f) (take_all i xs past)
