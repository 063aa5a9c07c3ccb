-- Each file is fetched once: its number is its index.
use Rattle.std.proofs.Common.{◌≡◌, ◌⊎◌, inl, inr, ℕ, zero, suc, ◌+◌, List, [], ◌∷◌, ◌++◌, Option, Some, None, Bool, cond, Result, Ok, Err, length, map, slice_get, refl, sym, ap, ◌∙◌, subst, arith}
use Rattle.std.specs.List.{position}
use Rattle.std.specs.Option.{option_or}
use Rattle.std.specs.Str.{bytes_eq}
use Rattle.std.proofs.lemmas.List.{map-append}
use Rattle.std.proofs.lemmas.Slice.Eq.{bytes_eq-Decides}
use Rattle.g4_names.proofs.Firsts.{position-push}
use Rattle.g4_names.specs.Places.{first_place}
use Rattle.g4_source.specs.declared.source.Source.{Source}
use Rattle.g4_fetch.specs.Closures.{Fetches, no_more, again, fetched, FetchesGrammar, read_first, Halted, IsEachOnce, file_names, number_of, with_file}
use Rattle.g4_fetch.specs.Fetching.{FetchesAll, FetchesFile, FetchesVocabulary, a_grammar, added, grammar_halts, halted_below, known as is_known, known_table, lexer_number, no_grammar, table_read, unread as not_read, vocabulary_halts}
use Rattle.g4_fetch.specs.Files.{Files}
use Rattle.g4_fetch.specs.Names.{grammar_file, prefix_of}
use Rattle.g4_fetch.specs.Vocabularies.{lexer_table_file, table_file}
use Rattle.g4_fetch.specs.declared.closure.Fetched.{Fetched}
use Rattle.g4_fetch.specs.declared.lexer.WithLexer.{WithLexer}
use Rattle.g4_fetch.specs.declared.stop.Stop.{Stop}
use Rattle.g4_fetch.specs.declared.closure.GrammarFile.{GrammarFile}
use Rattle.g4_fetch.specs.declared.closure.WithImports.{WithImports}

-- an item of a list with one more is one of the list, or that one
get_cases : (xs : List (List ℕ)) (y : List ℕ) (k : ℕ) (x : List ℕ) → slice_get (xs ++ y ∷ []) k ≡ Some x
    → (slice_get xs k ≡ Some x) ⊎ ((k ≡ length xs) × (x ≡ y))
get_cases [] y zero x is = inr (refl, (let e : x ≡ y = cc in e))
get_cases [] y (suc k) x is = absurd (let no_way : ⊥ = cc in no_way)
get_cases (z ∷ xs) y zero x is = inl is
get_cases (z ∷ xs) y (suc k) x is = elim (get_cases xs y k x is) [
  | inl left ↦ inl left
  | inr right ↦ inr ((let r = right.0 in let e : suc k ≡ suc (length xs) = omega (arith, r) in e), right.1)
]

-- with a name more that is not there
once_more : (names : List (List ℕ)) (name : List ℕ) → first_place names name ≡ None
    → ((k : ℕ) (n : List ℕ) → slice_get names k ≡ Some n → first_place names n ≡ Some k)
    → (k : ℕ) (n : List ℕ) → slice_get (names ++ name ∷ []) k ≡ Some n → first_place (names ++ name ∷ []) n ≡ Some k
once_more names name none once k n is =
    position-push (λ (m : List ℕ). bytes_eq m n) names name ∙ elim (get_cases names name k n is) [
      | inl left ↦ ap (λ (o : Option ℕ). option_or o (cond (bytes_eq name n) (Some (length names)) None)) (once k n left)
      | inr right ↦ last right.0 right.1
    ]
  where
    last : k ≡ length names → n ≡ name → option_or (first_place names n) (cond (bytes_eq name n) (Some (length names)) None) ≡ Some k
    last at same =
        ap (λ (o : Option ℕ). option_or o (cond (bytes_eq name n) (Some (length names)) None)) (ap (first_place names) same ∙ none)
        ∙ (ap (λ (b : Bool). cond b (Some (length names)) None) ((bytes_eq-Decides name n).1 (sym same))
        ∙ ap (λ (m : ℕ). Some m) (sym at))

module _ (files : Files) (prefix : List ℕ) where
  once_with : (s : WithImports) (name : List ℕ) (source : Source) → number_of s name ≡ None → IsEachOnce s
      → IsEachOnce (with_file s name source)
  once_with s name source none once =
      subst (λ (ns : List (List ℕ)). (k : ℕ) (n : List ℕ) → slice_get ns k ≡ Some n → first_place ns n ≡ Some k)
      (sym (map-append (λ (f : GrammarFile). f.name) s.files ((record { name = name; source = source }) ∷ [])))
      (once_more (file_names s.files) name none once)

  imports_once : (g : ℕ) (names : List (List ℕ)) (s t : WithImports) → Fetches files prefix g names s (Ok t) → IsEachOnce s → IsEachOnce t
  imports_once g _ s t (no_more _ _) once = once
  imports_once g _ s t (again _ k name names _ _ known more) once = imports_once g names _ t more once
  imports_once g _ s t (fetched _ name names _ below source _ none is inner more) once =
      imports_once g names _ t more
      (imports_once _ _ _ below inner (once_with s (grammar_file prefix name) source none once))

-- of the main grammar and all that it imports
pub grammar_once : (files : Files) (library : Option (List ℕ)) (name : List ℕ) (t : WithImports)
    → FetchesGrammar files library name (Ok t) → IsEachOnce t
grammar_once files library name t (read_first source _ is more) =
    imports_once files (prefix_of library name) 0 _ _ t more (λ k n at. by k n at)
  where
    by : (k : ℕ) (n : List ℕ) → slice_get (name ∷ []) k ≡ Some n → first_place (name ∷ []) n ≡ Some k
    by k n at = once_more [] name refl (λ j m there. absurd (let no_way : ⊥ = cc in no_way)) k n at

module _ (files : Files) (prefix : List ℕ) where
  file_once : (s : WithImports) (name : List ℕ) (r : Result WithLexer Halted) → FetchesFile files prefix s name r → IsEachOnce s
      → (parts : WithLexer) → r ≡ Ok parts → IsEachOnce parts.grammar
  file_once s name _ (is_known number there) once parts same =
      let here : s ≡ parts.grammar = ok_same (record { grammar = s; lexer = None; table = known_table prefix (slice_get s.files number) })
      parts same in
      subst IsEachOnce here once
    where
      ok_same : (v w : WithLexer) → ◌≡◌ {A = Result WithLexer Halted} (Ok v) (Ok w) → v.grammar ≡ w.grammar
      ok_same v w e = let both : v ≡ w = cc in ap (λ (x : WithLexer). x.grammar) both
  file_once s name _ (not_read stop none is) once parts same = absurd (let no_way : ⊥ = cc in no_way)
  file_once s name _ (halted_below source halted none is more) once parts same = absurd (let no_way : ⊥ = cc in no_way)
  file_once s name _ (added source more none is fetches) once parts same =
      let here : more ≡ parts.grammar = ok_same (record {
        grammar = more;
        lexer = lexer_number source.kind (length s.files);
        table = lexer_table_file prefix source source.kind;
      }) parts same in
      subst IsEachOnce here
      (imports_once files prefix _ _ _ more fetches (once_with files prefix s name source none once))
    where
      ok_same : (v w : WithLexer) → ◌≡◌ {A = Result WithLexer Halted} (Ok v) (Ok w) → v.grammar ≡ w.grammar
      ok_same v w e = let both : v ≡ w = cc in ap (λ (x : WithLexer). x.grammar) both

  vocabulary_once : (s : WithImports) (r : Result WithLexer Halted) → FetchesVocabulary files prefix s r → IsEachOnce s
      → (parts : WithLexer) → r ≡ Ok parts → IsEachOnce parts.grammar
  vocabulary_once s _ (no_grammar main first none) once parts same =
      let both : ◌≡◌ {A = WithLexer}
      (record { grammar = s; lexer = None; table = table_file prefix main.source main.source.kind }) parts = cc in
      subst IsEachOnce (ap (λ (x : WithLexer). x.grammar) both) once
  vocabulary_once s _ (a_grammar main name result first named at) once parts same = file_once s name result at once parts same

-- of all that is fetched
pub all_once : (files : Files) (library : Option (List ℕ)) (name : List ℕ) (names : List (List ℕ)) (all : Fetched)
    → FetchesAll files library name names (Ok all) → IsEachOnce all.grammar
all_once files library name names all h = by names (Ok all) h refl
  where
    by : (f : List (List ℕ)) (r : Result Fetched Stop) → FetchesAll files library name f r → r ≡ Ok all → IsEachOnce all.grammar
    by _ _ (grammar_halts halted is) same = absurd (let no_way : ⊥ = cc in no_way)
    by _ _ (vocabulary_halts grammar halted is at) same = absurd (let no_way : ⊥ = cc in no_way)
    by _ _ (table_read grammar parts (Err other) is has at) same = absurd (let no_way : ⊥ = cc in no_way)
    by _ _ (table_read grammar parts (Ok table) is has at) same =
        let both : ◌≡◌ {A = Fetched} (record { grammar = parts.grammar; lexer = parts.lexer; table = table }) all = cc in
        subst IsEachOnce (ap (λ (x : Fetched). x.grammar) both)
        (vocabulary_once files (prefix_of library name) grammar (Ok parts) has (grammar_once files library name grammar is) parts refl)
