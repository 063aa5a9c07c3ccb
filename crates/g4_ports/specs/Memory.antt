-- Files in memory, and what an output in memory answers.
use Rattle.std.specs.Prelude.{ℕ, ◌-◌, ◌==◌, List, length, min, Option, Some, None, option_map, find, Result, Ok, Err, cond, ◌||◌}
use Rattle.std.specs.List.{list_any}
use Rattle.std.specs.Str.{bytes_eq}
use Rattle.g4_ports.specs.declared.memory_shelf.MemFile.{MemFile}
use Rattle.g4_ports.specs.Sunk.{Sunk}

-- the bytes of the first file of this name
abbrev pub find_file : List MemFile → List ℕ → Option (List ℕ)
find_file files name = option_map (λ f. f.bytes) (find (λ f. bytes_eq f.name name) files)

-- how many bytes of a piece an output takes, or none: where it is to fail, or has no room
abbrev pub taken_or_none : Sunk → ℕ → Option ℕ
taken_or_none s count = cond ((count == 0) || list_any (λ call. call == s.calls) s.failing) None (Some count)

-- how many bytes of a piece of this size an output takes: at most the most of a put, and at most what there is room for
abbrev pub put_count : Sunk → ℕ → Option ℕ
put_count s size = taken_or_none s (min (min size s.most) (s.room - length s.bytes))

-- how many bytes a put answers that it took, or none
abbrev pub put_answer : {E : Type 0} → Result ℕ E → Option ℕ
put_answer (Ok n) = Some n
put_answer (Err e) = None
