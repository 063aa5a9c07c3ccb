-- Fetching the files one by one.
use Rattle.std.proofs.Common.{◌≡◌, ℕ, ◌+◌, ◌<◌, List, [], ◌∷◌, ◌++◌, length, drop, None, Result, Ok, Err, get_or, refl, sym, ap, ◌∙◌}
use Rattle.std.proofs.lemmas.List.{append_assoc, drop_more}
use Rattle.g4_outcome.specs.declared.input.Input.{Input}
use Rattle.g4_fetch.specs.Files.{Files}
use Rattle.g4_tool.specs.Inputs.{inputs_of, fetch_next, then_more}

-- inputs before those that are still to be fetched
abbrev pub with_front : List Input → Result (List Input) (List ℕ) → Result (List Input) (List ℕ)
with_front front (Ok inputs) = Ok (front ++ inputs)
with_front front (Err name) = Err name

pub with_front-nothing : (r : Result (List Input) (List ℕ)) → with_front [] r ≡ r
with_front-nothing (Ok inputs) = refl
with_front-nothing (Err name) = refl

pub with_front-next : (front : List Input) (input : Input) (r : Result (List Input) (List ℕ)) →
    with_front (front ++ input ∷ []) r ≡ with_front front (then_more input r)
with_front-next front input (Ok inputs) = ap (λ xs. Ok xs) (append_assoc front (input ∷ []) inputs)
with_front-next front input (Err name) = refl

-- the first absent name ends the reading
pub absent_at : (files : Files) (names : List (List ℕ)) (k : ℕ) (front : List Input) (name : List ℕ) →
    k < length names → get_or names k [] ≡ name → files name ≡ None →
    with_front front (inputs_of files (drop k names)) ≡ inputs_of files names → inputs_of files names ≡ Err (get_or names k [])
absent_at files names k front name within at none so_far =
    sym so_far ∙ ap (λ xs. with_front front (inputs_of files xs)) (drop_more names k [] within)
    ∙ ap (λ o. with_front front (fetch_next (get_or names k []) o (inputs_of files (drop (k + 1) names)))) (ap files at ∙ none)
