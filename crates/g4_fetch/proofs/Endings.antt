-- Nothing is fetched after the file at which fetching stops.
use Rattle.std.proofs.Common.{◌≡◌, ℕ, List, [], ◌∷◌, ◌++◌, Option, Some, None, Result, Ok, Err, refl, sym, ap, subst}
use Rattle.g4_fetch.specs.Closures.{Fetches, again, stopped, stopped_below, fetched, FetchesGrammar, unread, read_first, Halted, file_names, stop_name}
use Rattle.g4_fetch.specs.Files.{Files, Opens, absent, too_large}
use Rattle.g4_fetch.specs.Names.{grammar_file, prefix_of}
use Rattle.g4_fetch.specs.Reading.{Reads, missing, faulty}
use Rattle.g4_fetch.specs.declared.closure.WithImports.{WithImports}
use Rattle.g4_fetch.specs.Fetching.{FetchesAll, FetchesFile, FetchesVocabulary, a_grammar, grammar_halts, halted_below, if_named, table_read, unread as not_read, vocabulary_halts}
use Rattle.g4_fetch.specs.Tables as no_table
use Rattle.g4_fetch.specs.Tables.{ReadsFile, ReadsTable}
use Rattle.g4_fetch.specs.declared.closure.Fetched.{Fetched}
use Rattle.g4_fetch.specs.declared.stop.Stop.{Stop}

module _ (files : Files) where
  -- fetching stops at the file that is opened
  opening_stops : (name : List ℕ) (stop : Stop) → Opens files name (Err stop) → stop_name stop ≡ name
  opening_stops name stop (absent is) = refl
  opening_stops name stop (too_large bytes is large) = refl

  -- or read
  reading_stops : (name : List ℕ) (stop : Stop) → Reads files name (Err stop) → stop_name stop ≡ name
  reading_stops name stop (missing _ opens) = opening_stops name stop opens
  reading_stops name stop (faulty bytes error fault opens is told) = refl

  -- the last name that is fetched is that of the stop
  abbrev pub EndsThere : Halted → Type 0
  EndsThere halted = (front : List (List ℕ)) × (halted.fetched ≡ front ++ stop_name halted.stop ∷ [])

  imports_end : (prefix : List ℕ) (g : ℕ) (names : List (List ℕ)) (s : WithImports) (h : Halted)
      → Fetches files prefix g names s (Err h) → EndsThere h
  imports_end prefix g _ s h (again _ k name names _ _ known more) = imports_end prefix g names _ h more
  imports_end prefix g _ s h (stopped _ name names _ stop none is) =
      (file_names s.files, ap (λ (n : List ℕ). file_names s.files ++ n ∷ []) (sym (reading_stops (grammar_file prefix name) stop is)))
  imports_end prefix g _ s h (stopped_below _ name names _ source _ none is below) = imports_end prefix _ _ _ h below
  imports_end prefix g _ s h (fetched _ name names _ t source _ none is below more) = imports_end prefix g names _ h more

  pub grammar_ends : (library : Option (List ℕ)) (name : List ℕ) (h : Halted) → FetchesGrammar files library name (Err h) → EndsThere h
  grammar_ends library name h (unread stop is) = ([], ap (λ (n : List ℕ). n ∷ []) (sym (reading_stops name stop is)))
  grammar_ends library name h (read_first source _ is more) = imports_end (prefix_of library name) 0 _ _ h more

  -- a file of tokens
  table_stops : (name : List ℕ) (stop : Stop) → ReadsFile files name (Err stop) → stop_name stop ≡ name
  table_stops name stop (no_table.missing _ opens) = opening_stops name stop opens
  table_stops name stop (no_table.faulty bytes error fault opens is told) = refl

  file_ends : (prefix : List ℕ) (s : WithImports) (name : List ℕ) (h : Halted) → FetchesFile files prefix s name (Err h) → EndsThere h
  file_ends prefix s name h (not_read stop none is) =
      (file_names s.files, ap (λ (n : List ℕ). file_names s.files ++ n ∷ []) (sym (reading_stops name stop is)))
  file_ends prefix s name h (halted_below source _ none is more) = imports_end prefix _ _ _ h more

  vocabulary_ends : (prefix : List ℕ) (s : WithImports) (h : Halted) → FetchesVocabulary files prefix s (Err h) → EndsThere h
  vocabulary_ends prefix s h (a_grammar main name _ first named at) = file_ends prefix s name h at

  abbrev EndsAt : List (List ℕ) → Stop → Type 0
  EndsAt names stop = (front : List (List ℕ)) × (names ≡ front ++ stop_name stop ∷ [])

  table_ends : (front : List (List ℕ)) (table : Option (List ℕ)) (stop : Stop) → ReadsTable files table (Err stop)
      → EndsAt (front ++ if_named table) stop
  table_ends front None stop is = absurd (let no_way : ⊥ = cc in no_way)
  table_ends front (Some name) stop is = (front, ap (λ (n : List ℕ). front ++ n ∷ []) (sym (table_stops name stop is)))

  pub all_end : (library : Option (List ℕ)) (name : List ℕ) (names : List (List ℕ)) (stop : Stop)
      → FetchesAll files library name names (Err stop) → EndsAt names stop
  all_end library name names stop h = by names (Err stop) h refl
    where
      by : (f : List (List ℕ)) (r : Result Fetched Stop) → FetchesAll files library name f r → r ≡ Err stop → EndsAt f stop
      by _ _ (grammar_halts halted is) same =
          let here : halted.stop ≡ stop = cc in
          subst (λ (s : Stop). EndsAt halted.fetched s) here (grammar_ends library name halted is)
      by _ _ (vocabulary_halts grammar halted is at) same =
          let here : halted.stop ≡ stop = cc in
          subst (λ (s : Stop). EndsAt halted.fetched s) here (vocabulary_ends (prefix_of library name) grammar halted at)
      by _ _ (table_read grammar parts (Ok table) is has at) same = absurd (let no_way : ⊥ = cc in no_way)
      by _ _ (table_read grammar parts (Err other) is has at) same =
          let here : other ≡ stop = cc in
          subst (λ (s : Stop). EndsAt (file_names parts.grammar.files ++ if_named parts.table) s) here
          (table_ends (file_names parts.grammar.files) parts.table other at)
