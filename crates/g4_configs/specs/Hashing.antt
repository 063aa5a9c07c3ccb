-- Numbers of configurations, and the code of a row: the sum over its configurations.
use Rattle.std.specs.Prelude.{ℕ, ◌+◌, ◌*◌, ◌%◌, List, [], ◌∷◌}
use Rattle.g4_net.specs.Configurations.{Config}
use Rattle.g4_stacks.specs.Sums.{mixed_from, number_of}
use Rattle.g4_stacks.specs.declared.sum.TheConstants.{MODULUS}

-- by what the numbers of stacks are multiplied at a state and an alternative
abbrev pub factor_of : ℕ → ℕ → ℕ
factor_of state alt = mixed_from (mixed_from (state + 1) + alt)

-- the number of a configuration
abbrev pub config_number : Config → ℕ
config_number c = factor_of c.state c.alt * (number_of c.stack + 3)

-- the sum over a row
abbrev pub row_sum : List Config → ℕ
row_sum [] = 0
row_sum (c ∷ cs) = config_number c + row_sum cs

-- Equal rows have equal codes.
abbrev pub row_code : List Config → ℕ
row_code row = row_sum row % MODULUS
