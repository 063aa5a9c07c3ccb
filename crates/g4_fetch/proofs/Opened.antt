-- Fetching a file.
use Rattle.std.proofs.Common.{◌≡◌, ◌<◌, ℕ, List, length, Option, Some, None, IfSome, Err, sym, subst}
use Rattle.g4_base.specs.declared.limits.TheConstants.{MOST_BYTES}
use Rattle.g4_ports.specs.Ports.{IsFileOf}
use Rattle.g4_ports.specs.declared.ports.Got.{Got}
use Rattle.g4_ports.specs.declared.ports.Got.TheVariants as answers
use Rattle.g4_fetch.specs.declared.stop.Stop.TheVariants as stopping
use Rattle.g4_fetch.specs.Files.{Files, Opens, absent, too_large}

-- what is answered for a file, where the files are known
pub told_file : (told : Option Files) (files : Files) (name : List ℕ) (got : Got) → told ≡ Some files
    → IfSome told (λ f. IsFileOf (f name) got) → IsFileOf (files name) got
told_file told files name got is content = let P : Option Files → Type 0 = λ t. IfSome t (λ f. IsFileOf (f name) got) in subst P is content

-- a file that is absent, whose name is copied
pub absent_file : (files : Files) (name copy : List ℕ) → copy ≡ name → files name ≡ None → Opens files name (Err (stopping.Absent copy))
absent_file files name copy same none = subst (λ (n : List ℕ). Opens files name (Err (stopping.Absent n))) (sym same) (absent none)

-- a file that is too large
pub large_file : (files : Files) (name copy : List ℕ) (size : ℕ) → copy ≡ name → IsFileOf (files name) (answers.TooLarge size)
    → MOST_BYTES < size → Opens files name (Err (stopping.TooLarge copy size))
large_file files name copy size same is large =
    let here : MOST_BYTES < length is.0 = subst (λ n. MOST_BYTES < n) (sym is.2) large in
    let stop : Opens files name (Err (stopping.TooLarge name size)) =
    subst (λ n. Opens files name (Err (stopping.TooLarge name n))) is.2 (too_large is.0 is.1 here) in
    subst (λ (n : List ℕ). Opens files name (Err (stopping.TooLarge n size))) (sym same) stop
