-- Numbers of configurations added up; and how many there are below one, with every repetition.
use Rattle.std.proofs.Common.{◌≡◌, ℕ, zero, suc, ◌+◌, ◌<◌, ◌≤◌, inl, inr, List, [], ◌∷◌, ◌++◌, Bool, refl, ap, arith}
use Rattle.g4_ordered.specs.Network.{LexerNetwork}
use Rattle.g4_ordered.specs.Configurations.{LexerConfig, In}
use Rattle.g4_ordered.specs.Leads.{leads}
use Rattle.g4_ordered.proofs.Ending.{EndsWithin}

-- the sum over a list
abbrev pub total : (LexerConfig → ℕ) → List LexerConfig → ℕ
total weight [] = 0
total weight (c ∷ cs) = weight c + total weight cs

-- over two lists, one after the other
pub total_append : (weight : LexerConfig → ℕ) (xs ys : List LexerConfig) → total weight (xs ++ ys) ≡ total weight xs + total weight ys
total_append weight [] ys = omega arith
total_append weight (x ∷ xs) ys = let e = total_append weight xs ys in omega arith

-- no member weighs more than all
pub each_within : (weight : LexerConfig → ℕ) (xs : List LexerConfig) (x : LexerConfig) → In x xs → weight x ≤ total weight xs
each_within weight [] x i = absurd i
each_within weight (y ∷ xs) x (inl is) = let e = ap weight is in omega arith
each_within weight (y ∷ xs) x (inr i) = let e = each_within weight xs x i in omega arith

-- equal numbers add up to the same
same_total : (f g : LexerConfig → ℕ) (xs : List LexerConfig) → ((x : LexerConfig) → In x xs → f x ≡ g x) → total f xs ≡ total g xs
same_total f g [] h = refl
same_total f g (x ∷ xs) h = let e = h x (inl refl) in let t = same_total f g xs (λ y i. h y (inr i)) in omega arith

-- how many configurations there are below one, with every repetition, within n steps
unfoldable pub size : LexerNetwork → Bool → ℕ → LexerConfig → ℕ
size net last zero c = 0
size net last (suc n) c = suc (total (size net last n) (leads net last c))

-- more steps count no more, where fewer follow one another
stable : (net : LexerNetwork) (last : Bool) (m n : ℕ) (c : LexerConfig) → m ≤ n → EndsWithin net last m c
    → size net last n c ≡ size net last m c
unfolding size
stable net last zero n c le h = absurd h
stable net last (suc m) zero c le h = absurd (omega arith)
stable net last (suc m) (suc n) c le h = ap suc
    (same_total (size net last n) (size net last m) (leads net last c) (λ d i. stable net last m n d (omega arith) (h d i)))

-- what a configuration leads to has less below it
pub size_more : (net : LexerNetwork) (last : Bool) (n : ℕ) (c : LexerConfig) → EndsWithin net last n c
    → total (size net last n) (leads net last c) < size net last n c
unfolding size
size_more net last zero c h = absurd h
size_more net last (suc n) c h =
    let e = same_total (size net last (suc n)) (size net last n) (leads net last c)
    (λ d i. stable net last n (suc n) d (omega arith) (h d i)) in omega arith

-- what ends within some steps ends within one more
ends_one_later : (net : LexerNetwork) (last : Bool) (n : ℕ) (c : LexerConfig) → EndsWithin net last n c → EndsWithin net last (suc n) c
ends_one_later net last zero c h = absurd h
ends_one_later net last (suc n) c h = λ d i. ends_one_later net last n d (h d i)

-- and so does what it leads to
pub ends_on : (net : LexerNetwork) (last : Bool) (n : ℕ) (c d : LexerConfig) → EndsWithin net last n c → In d (leads net last c)
    → EndsWithin net last n d
ends_on net last zero c d h i = absurd h
ends_on net last (suc n) c d h i = ends_one_later net last n d (h d i)
