-- Numbers of stacks, and their sums over the stacks of a set. Equal sets have equal sums.
use Rattle.std.specs.Prelude.{◌≡◌, ℕ, ◌+◌, ◌*◌, ◌/◌, ◌%◌, ◌^◌, List, [], ◌∷◌, Bool, true, false, length}
use Rattle.g4_net.specs.Configurations.{Stack}
use Rattle.g4_stacks.specs.declared.sum.TheConstants.{MODULUS, SPREAD}

-- the middle of the square of the number's high half, once it is spread over 64 bits
unfoldable pub mixed_from : ℕ → ℕ
mixed_from n = let high = n * SPREAD % 2 ^ 64 / 2 ^ 32 in high * high % 2 ^ 64 / 2 ^ 16 % 2 ^ 32 + 1

-- the number of a mark
abbrev pub number_of_mark : Bool → ℕ
number_of_mark false = 1
number_of_mark true = 2

-- the number of these return states above a mark: each state is mixed into that of what is below it
abbrev pub number_above : List ℕ → Bool → ℕ
number_above [] wild = number_of_mark wild
number_above (t ∷ ts) wild = mixed_from (t + 1) * (number_above ts wild + 3)

-- the number of a stack
abbrev pub number_of : Stack → ℕ
number_of s = number_above s.returns s.wild

-- the sum of the numbers of stacks
abbrev pub sum_of : List Stack → ℕ
sum_of [] = 0
sum_of (s ∷ ss) = number_of s + sum_of ss

-- the stack is a mark alone, with this number
abbrev pub IsMark : Stack → ℕ → Type 0
IsMark s n = (s.returns ≡ []) × (number_of_mark s.wild ≡ n)

-- how many these stacks are, and the sum of their numbers
pub record IsSum (count total : ℕ) (stacks : List Stack) : Type 0 where
  pub counts : count ≡ length stacks % MODULUS
  pub totals : total ≡ sum_of stacks % MODULUS
