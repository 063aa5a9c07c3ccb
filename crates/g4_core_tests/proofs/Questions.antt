-- Paths along digits are questions of the automaton of numbers.
use Rattle.std.proofs.Common.{◌≡◌, ◌<◌, inl, inr, ℕ, suc, ◌+◌, ◌%◌, List, [], ◌∷◌, ◌++◌, length, get_or, refl, sym, ◌∙◌, ap, subst, arith}
use Rattle.g4_store.specs.declared.automaton.Led.TheVariants.{Row, End}
use Rattle.g4_store.specs.declared.automaton.Plan.{Plan}
use Rattle.g4_store.specs.declared.path.Looked.{Looked}
use Rattle.g4_store.specs.declared.path.Path.{Path}
use Rattle.g4_store.specs.Paths.{LeadsOn}
use Rattle.g4_core.specs.States.{AreQuestions, IsQuestion}
use Rattle.g4_core.proofs.Lists.{snoc_at, there}
use Rattle.g4_core.proofs.Reached.{at_file}
use Rattle.g4_core_tests.specs.declared.numbers.Number.{Number}
use Rattle.g4_core_tests.specs.Numbers.{AreAlong, FilesAreAlong, IsAlong, IsOne, LeadsTo, after, StartsAt, column_of, looks, next_of, number}

mod_less : (n : ℕ) → n % 9 < 9
mod_less n = omega arith

-- each step leads on
looks_lead : (p : Plan ℕ) (v : ℕ) (digits : List ℕ) → 9 < p.columns → LeadsOn StartsAt LeadsTo p (number v) (looks v digits)
looks_lead p v [] wide = (omega (arith, wide), refl, refl)
looks_lead p v (digit ∷ digits) wide = (
  (let less : column_of digit < 9 = mod_less digit in omega (arith, wide, less)),
  (let more : suc (column_of digit) ≡ column_of digit + 1 = omega arith in ap (after (number v)) more),
  looks_lead p (next_of v digit) digits wide,
)

-- the last is an end
looks_end : (v : ℕ) (digits : List ℕ) → (front : List (Looked Number)) × (column code : ℕ)
    × (looks v digits ≡ front ++ record { column = column; led = End code } ∷ [])
looks_end v [] = ([], 0, v, refl)
looks_end v (digit ∷ digits) =
    let h = looks_end (next_of v digit) digits in
    let step : Looked Number = record { column = column_of digit + 1; led = Row (number (next_of v digit)) 0 } in
    (step ∷ h.0, h.1, h.2, ap (λ (ls : List (Looked Number)). step ∷ ls) h.3)

-- one path more
pub along_more : (paths : List (Path Number)) (path : Path Number) → AreAlong paths → IsOne path → AreAlong (paths ++ path ∷ [])
along_more paths path all one k other at =
    elim (let f = snoc_at paths path other k at in f) [ inl a ↦ all k other a | inr b ↦ subst IsOne b.1 one ]

-- one file more
pub files_more : (files : List (List (Path Number))) (paths : List (Path Number)) → FilesAreAlong files → AreAlong paths
    → FilesAreAlong (files ++ paths ∷ [])
files_more files paths all one k other at =
    elim (let f = snoc_at files paths other k at in f) [ inl a ↦ all k other a | inr b ↦ subst AreAlong b.1 one ]

-- a path along digits is a question
question : (p : Plan ℕ) → 9 < p.columns → 7 < p.starts → (path : Path Number) → IsOne path → IsQuestion StartsAt LeadsTo p path
question p wide many path one =
    let along : IsAlong one.0 one.1 path = one.3 in
    let end = looks_end (one.0 % 1000) one.1 in
    let low : one.0 < p.starts = omega (arith, one.2, many) in (
      (
        subst (λ (s : ℕ). s < p.starts) (sym along.0) low,
        along.1 ∙ ap (λ (s : ℕ). number (s % 1000)) (sym along.0),
        subst (λ (x : Number). LeadsOn StartsAt LeadsTo p x path.looked.items) (sym along.1)
            (subst (LeadsOn StartsAt LeadsTo p (number (one.0 % 1000))) (sym along.2) (looks_lead p (one.0 % 1000) one.1 wide)),
      ),
      (end.2, length end.0, (end.0, end.1, along.2 ∙ end.3, refl)),
    )

-- so files of them are files of questions
pub questions : (p : Plan ℕ) → 9 < p.columns → 7 < p.starts → (files : List (List (Path Number))) → FilesAreAlong files
    → AreQuestions StartsAt LeadsTo p files
questions p wide many files all file q path at =
    let within = at_file files file q path at in
    question p wide many path (all file (get_or files file []) (there files file [] within) q path at)
