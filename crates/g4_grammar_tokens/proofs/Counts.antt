-- Counts of characters, from the front and after others.
use Rattle.std.proofs.Common.{◌≡◌, ℕ, suc, ◌+◌, Option, Some, None, option_map, refl, ap, arith}

-- n more, if there is a count
abbrev pub more_by : ℕ → Option ℕ → Option ℕ
more_by n o = option_map (λ (m : ℕ). n + m) o

-- one more before or after
pub one_more : (n : ℕ) (o : Option ℕ) → more_by (n + 1) o ≡ more_by n (option_map suc o)
one_more n None = refl
one_more n (Some m) = let same : (n + 1) + m ≡ n + suc m = omega arith in ap Some same

-- none more
pub none_more : (o : Option ℕ) → more_by 0 o ≡ o
none_more None = refl
none_more (Some m) = let same : 0 + m ≡ m = omega arith in ap Some same
