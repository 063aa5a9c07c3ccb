-- The numbers of files by their names, with one file more.
use Rattle.std.proofs.Common.{◌≡◌, ℕ, List, [], ◌∷◌, ◌++◌, length, Bool, false, cond, Option, Some, None, refl, sym, ap, ◌∙◌}
use Rattle.std.specs.List.{position}
use Rattle.std.specs.Option.{is_some, option_or}
use Rattle.std.specs.Str.{bytes_eq}
use Rattle.std.proofs.lemmas.List.{map-append, length-map}
use Rattle.g4_names.specs.Places.{first_place}
use Rattle.g4_names.proofs.Firsts.{new_name, position-push}
use Rattle.g4_fetch.specs.ByNames.{value_of}
use Rattle.g4_fetch.specs.Closures.{file_names}
use Rattle.g4_fetch.specs.Reaching.{AreNumbers}
use Rattle.g4_fetch.specs.declared.by_name.ByName.{ByName}
use Rattle.g4_fetch.specs.declared.closure.GrammarFile.{GrammarFile}

-- one file more has the next number
pub number_more : (files more : List GrammarFile) (file : GrammarFile) (name : List ℕ) (old new : ByName ℕ) → more ≡ files ++ file ∷ []
    → file.name ≡ name → AreNumbers files old → first_place (file_names files) name ≡ None
    → ((other : List ℕ) → value_of new other ≡ cond (bytes_eq name other) (Some (length files)) (value_of old other))
    → AreNumbers more new
number_more files more file name old new is named before none added other =
    let test : List ℕ → Bool = λ (n : List ℕ). bytes_eq n other in
    let absent : is_some (value_of old name) ≡ false = ap (λ (o : Option ℕ). is_some o) (before name ∙ none) in
    let names : file_names more ≡ file_names files ++ name ∷ [] =
    ap file_names is ∙ (map-append (λ (f : GrammarFile). f.name) files (file ∷ [])
    ∙ ap (λ (n : List ℕ). file_names files ++ n ∷ []) named) in
    added other
    ∙ (new_name (λ (n : List ℕ). value_of old n) name (length files) absent other
    ∙ (ap (λ (o : Option ℕ). option_or o (cond (bytes_eq name other) (Some (length files)) None)) (before other)
    ∙ (ap (λ (n : ℕ). option_or (first_place (file_names files) other) (cond (bytes_eq name other) (Some n) None))
    (sym (length-map files (λ (f : GrammarFile). f.name)))
    ∙ (sym (position-push test (file_names files) name) ∙ ap (position test) (sym names)))))

-- the first file has the number 0
pub number_first : (file : GrammarFile) (more : List GrammarFile) (old new : ByName ℕ) → more ≡ file ∷ []
    → ((other : List ℕ) → value_of old other ≡ None)
    → ((other : List ℕ) → value_of new other ≡ cond (bytes_eq file.name other) (Some 0) (value_of old other)) → AreNumbers more new
number_first file more old new is empty added = number_more [] more file file.name old new is refl (λ other. empty other) refl added
