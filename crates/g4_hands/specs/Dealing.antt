-- Which files are dealt to which hand, and which of them comes next.
use Rattle.std.specs.Prelude.{◌%◌, ◌==◌, ℕ, zero, suc, List, [], ◌∷◌, ◌++◌, if◌then◌else◌, sum_by}

-- the files below `files` that go to hand `hand` of so many, in order: those whose number has this remainder
abbrev pub dealt : ℕ → ℕ → ℕ → List ℕ
dealt jobs hand zero = []
dealt jobs hand (suc k) = if k % jobs == hand then dealt jobs hand k ++ k ∷ [] else dealt jobs hand k

-- how often a number is in a list
abbrev pub times : ℕ → List ℕ → ℕ
times x xs = sum_by (λ y. if y == x then 1 else 0) xs
