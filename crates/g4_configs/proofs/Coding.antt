-- Codes of rows, part by part.
use Rattle.std.proofs.Common.{◌≡◌, ℕ, zero, suc, ◌+◌, ◌*◌, ◌%◌, ◌<◌, List, [], ◌∷◌, ◌++◌, length, take, get_or, refl, sym, ◌∙◌, ap, arith, add-one}
use Rattle.g4_net.specs.Configurations.{Config, Stack}
use Rattle.g4_stacks.specs.Hashing.{EachSum, IsSumOf}
use Rattle.g4_stacks.specs.Sums.{number_of, sum_of}
use Rattle.g4_stacks.specs.declared.sum.Sum.{Sum}
use Rattle.g4_stacks.specs.declared.sum.TheConstants.{MODULUS}
use Rattle.g4_stacks.proofs.Sums.{rests_added, rests_timed, timed_more, timed_none}
use Rattle.g4_configs.specs.Hashing.{config_number, factor_of, row_code, row_sum}
use Rattle.g4_configs.specs.Rows.{IsParted, configs_of, row_of}

row_sum-append : (xs ys : List Config) → row_sum (xs ++ ys) ≡ row_sum xs + row_sum ys
row_sum-append [] ys = none (row_sum ys)
  where
    none : (n : ℕ) → n ≡ 0 + n
    none n = omega arith
row_sum-append (x ∷ xs) ys = next (config_number x) (row_sum (xs ++ ys)) (row_sum xs) (row_sum ys) (row_sum-append xs ys)
  where
    next : (n a b c : ℕ) → a ≡ b + c → n + a ≡ n + b + c
    next n a b c e = omega arith

-- that of one state and alternative
sum_of_part : (q : ℕ × ℕ) (stacks : List Stack)
    → row_sum (configs_of q stacks) ≡ factor_of q.0 q.1 * (sum_of stacks + 3 * length stacks)
sum_of_part q [] = timed_none (factor_of q.0 q.1)
sum_of_part q (s ∷ ss) =
    timed_more (factor_of q.0 q.1) (number_of s) (sum_of ss) (length ss) (row_sum (configs_of q ss)) (sum_of_part q ss)

-- there is a sum at each place
sum_at : (sums : List Sum) (lists : List (List Stack)) (i : ℕ) (sum : Sum) → EachSum sums lists → i < length sums → sum ≡ get_or sums i sum
    → IsSumOf sum (get_or lists i [])
sum_at [] lists i sum each lt at = absurd (omega arith)
sum_at (x ∷ xs) [] i sum each lt at = absurd each
sum_at (x ∷ xs) (l ∷ ls) zero sum each lt at = let is = each.0 in rw at is
sum_at (x ∷ xs) (l ∷ ls) (suc i) sum each lt at = sum_at xs ls i sum each.1 (omega arith) at

pub as_many : (sums : List Sum) (lists : List (List Stack)) → EachSum sums lists → length sums ≡ length lists
as_many [] [] each = refl
as_many [] (l ∷ ls) each = absurd each
as_many (x ∷ xs) [] each = absurd each
as_many (x ∷ xs) (l ∷ ls) each = ap suc (as_many xs ls each.1)

pub as_many_parts : (keys : List (ℕ × ℕ)) (lists : List (List Stack)) → IsParted keys lists → length keys ≡ length lists
as_many_parts [] [] parted = refl
as_many_parts [] (l ∷ ls) parted = absurd parted
as_many_parts (q ∷ qs) [] parted = absurd parted
as_many_parts (q ∷ qs) (l ∷ ls) parted = ap suc (as_many_parts qs ls parted.2)

-- one state and alternative more
row_more : (keys : List (ℕ × ℕ)) (lists : List (List Stack)) (i : ℕ) → i < length keys → i < length lists
    → row_sum (row_of (take (suc i) keys) lists)
    ≡ row_sum (row_of (take i keys) lists)
    + factor_of (get_or keys i (0, 0)).0 (get_or keys i (0, 0)).1 * (sum_of (get_or lists i []) + 3 * length (get_or lists i []))
row_more [] lists i lt less = absurd (omega arith)
row_more (q ∷ qs) [] i lt less = absurd (omega arith)
row_more (q ∷ qs) (l ∷ ls) zero lt less =
    row_sum-append (configs_of q l) (row_of [] ls)
    ∙ (ap (λ n. n + 0) (sum_of_part q l) ∙ turned (factor_of q.0 q.1 * (sum_of l + 3 * length l)))
  where
    turned : (n : ℕ) → n + 0 ≡ 0 + n
    turned n = omega arith
row_more (q ∷ qs) (l ∷ ls) (suc i) lt less =
    row_sum-append (configs_of q l) (row_of (take (suc i) qs) ls)
    ∙ (ap (λ n. row_sum (configs_of q l) + n) (row_more qs ls i (omega arith) (omega arith))
    ∙ (turned (row_sum (configs_of q l)) (row_sum (row_of (take i qs) ls)) _
    ∙ ap (λ n. n + factor_of (get_or qs i (0, 0)).0 (get_or qs i (0, 0)).1 * (sum_of (get_or ls i []) + 3 * length (get_or ls i [])))
    (sym (row_sum-append (configs_of q l) (row_of (take i qs) ls)))))
  where
    turned : (a b c : ℕ) → a + (b + c) ≡ a + b + c
    turned a b c = omega arith

-- the code with one state and alternative more
pub code_more : (keys : List (ℕ × ℕ)) (lists : List (List Stack)) (sums : List Sum) (sum : Sum) (i code times : ℕ) → EachSum sums lists
    → i < length keys → i < length sums → sum ≡ get_or sums i sum → code ≡ row_code (row_of (take i keys) lists)
    → times ≡ (factor_of (get_or keys i (0, 0)).0 (get_or keys i (0, 0)).1 * ((sum.total + 3 * sum.count) % MODULUS)) % MODULUS
    → (code + times) % MODULUS ≡ row_code (row_of (take (i + 1) keys) lists)
code_more keys lists sums sum i code times each lt less at e f =
    let is = sum_at sums lists i sum each less at in
    let many = as_many sums lists each in
    let factor = factor_of (get_or keys i (0, 0)).0 (get_or keys i (0, 0)).1 in
    let stacks = get_or lists i [] in
    let part : times ≡ (factor * (sum_of stacks + 3 * length stacks)) % MODULUS =
    f ∙ rests_timed MODULUS factor sum.total (sum_of stacks) sum.count (length stacks) is.totals is.counts in
    let next : row_sum (row_of (take (i + 1) keys) lists) ≡ row_sum (row_of (take i keys) lists)
    + factor * (sum_of stacks + 3 * length stacks) = rw add-one (row_more keys lists i lt (omega arith)) in
    rests_added MODULUS code (row_sum (row_of (take i keys) lists)) times (factor * (sum_of stacks + 3 * length stacks)) e part
    ∙ ap (λ n. n % MODULUS) (sym next)
