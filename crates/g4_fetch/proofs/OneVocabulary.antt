-- A grammar is fetched with its vocabulary in at most one way.
use Rattle.std.proofs.Common.{◌≡◌, ◌≢◌, ℕ, List, [], ◌∷◌, ◌++◌, length, slice_get, Option, Some, None, Result, Ok, Err, refl, sym, ap, subst, ◌∙◌}
use Rattle.g4_source.specs.declared.source.Source.{Source}
use Rattle.g4_token_file.proofs.OneTable.{one_table}
use Rattle.g4_token_file.specs.Files.{IsTokenFile}
use Rattle.g4_token_file.specs.declared.entry.TokenEntry.{TokenEntry}
use Rattle.g4_token_file.specs.declared.fault.TokenFileFault.{TokenFileFault}
use Rattle.g4_token_file.specs.declared.fault.TokenFileFault.TheVariants as reading
use Rattle.g4_fetch.proofs.OneFetched.{known_or_not, not_both, not_read_both, one_fetched, one_fetches, one_opened, one_read, same_bytes, same_source}
use Rattle.g4_fetch.specs.Closures.{FetchesGrammar, FetchesMore, Halted, file_names, number_of}
use Rattle.g4_fetch.specs.Fetching.{FetchesAll, FetchesFile, FetchesVocabulary, a_grammar, added, grammar_halts, halted_below, known, known_table, lexer_number, no_grammar, table_read, unread, vocabulary_halts, with_table}
use Rattle.g4_fetch.specs.Files.{Files, Opens}
use Rattle.g4_fetch.specs.Names.{prefix_of}
use Rattle.g4_fetch.specs.Reading.{Reads}
use Rattle.g4_fetch.specs.Tables.{ReadsFile, ReadsTable, missing, faulty, read, of_tokens}
use Rattle.g4_fetch.specs.Vocabularies.{lexer_file, lexer_table_file, table_file}
use Rattle.g4_fetch.specs.declared.closure.Fetched.{Fetched}
use Rattle.g4_fetch.specs.declared.closure.GrammarFile.{GrammarFile}
use Rattle.g4_fetch.specs.declared.closure.WithImports.{WithImports}
use Rattle.g4_fetch.specs.declared.lexer.WithLexer.{WithLexer}
use Rattle.g4_fetch.specs.declared.stop.FileFault.{FileFault}
use Rattle.g4_fetch.specs.declared.stop.Stop.{Stop}
use Rattle.g4_fetch.specs.declared.stop.Stop.TheVariants as stops

module _ (files : Files) where
  -- a fault is told of an error other than want of memory
  told_apart : (error : TokenFileFault) (fault : FileFault) → of_tokens error ≡ Some fault
      → ◌≢◌ {A = Result (List TokenEntry) TokenFileFault} (Err error) (Err reading.NoMemory)
  told_apart error fault told same =
      let here : error ≡ reading.NoMemory = cc in
      let seen : of_tokens error ≡ None = ap of_tokens here in cc

  -- a file of tokens is read in at most one way
  one_table_file : (name : List ℕ) (a b : Result (List TokenEntry) Stop) → ReadsFile files name a → ReadsFile files name b → a ≡ b
  one_table_file name a b (missing stop p) (missing other q) =
      let same : ◌≡◌ {A = Result (List ℕ) Stop} (Err stop) (Err other) = one_opened files name (Err stop) (Err other) p q in cc
  one_table_file name a b (missing stop p) (faulty bytes error fault q is told) = absurd (not_both files name bytes stop q p)
  one_table_file name a b (missing stop p) (read bytes table q is) = absurd (not_both files name bytes stop q p)
  one_table_file name a b (faulty bytes error fault p is told) (missing stop q) = absurd (not_both files name bytes stop p q)
  one_table_file name a b (faulty bytes error fault p is told) (faulty others second flaw q also says) =
      let here = subst (λ (bs : List ℕ). IsTokenFile bs (Err second)) (same_bytes files name bytes others p q) also in
      let same : ◌≡◌ {A = Result (List TokenEntry) TokenFileFault} (Err error) (Err second) =
      one_table bytes (Err error) (Err second) is here (told_apart error fault told) (told_apart second flaw says) in
      let faults : error ≡ second = cc in
      let seen : of_tokens error ≡ of_tokens second = ap of_tokens faults in
      let flaws : fault ≡ flaw = cc in
      ap (λ (f : FileFault). Err (stops.Unreadable name f)) flaws
  one_table_file name a b (faulty bytes error fault p is told) (read others table q also) =
      let here = subst (λ (bs : List ℕ). IsTokenFile bs (Ok table)) (same_bytes files name bytes others p q) also in
      let same : ◌≡◌ {A = Result (List TokenEntry) TokenFileFault} (Ok table) (Err error) =
      one_table bytes (Ok table) (Err error) here is (λ e. cc) (told_apart error fault told) in
      absurd (let no_way : ⊥ = cc in no_way)
  one_table_file name a b (read bytes table p is) (missing stop q) = absurd (not_both files name bytes stop p q)
  one_table_file name a b (read bytes table p is) (faulty others error fault q also told) =
      let here = subst (λ (bs : List ℕ). IsTokenFile bs (Err error)) (same_bytes files name bytes others p q) also in
      let same : ◌≡◌ {A = Result (List TokenEntry) TokenFileFault} (Ok table) (Err error) =
      one_table bytes (Ok table) (Err error) is here (λ e. cc) (told_apart error fault told) in
      absurd (let no_way : ⊥ = cc in no_way)
  one_table_file name a b (read bytes table p is) (read others second q also) =
      let here = subst (λ (bs : List ℕ). IsTokenFile bs (Ok second)) (same_bytes files name bytes others p q) also in
      let same : ◌≡◌ {A = Result (List TokenEntry) TokenFileFault} (Ok table) (Ok second) =
      one_table bytes (Ok table) (Ok second) is here (λ e. cc) (λ e. cc) in
      let tables : table ≡ second = cc in
      ap (λ (t : List TokenEntry). Ok t) tables

  one_named_table : (table : Option (List ℕ)) (a b : Result (List TokenEntry) Stop) → ReadsTable files table a → ReadsTable files table b
      → a ≡ b
  one_named_table None a b p q = p ∙ sym q
  one_named_table (Some name) a b p q = one_table_file name a b p q

  module _ (prefix : List ℕ) (grammar : WithImports) where
    one_more : (file : GrammarFile) (a b : Result WithImports Halted) → FetchesMore files prefix grammar file a
        → FetchesMore files prefix grammar file b → a ≡ b
    one_more file a b p q = one_fetches files prefix _ _ _ a b p q

    -- the same of a grammar with the same source
    more_of : (name : List ℕ) (source second : Source) (r : Result WithImports Halted) → Reads files name (Ok source)
        → Reads files name (Ok second) → FetchesMore files prefix grammar (record { name = name; source = second }) r
        → FetchesMore files prefix grammar (record { name = name; source = source }) r
    more_of name source second r is also more =
        subst (λ (s : Source). FetchesMore files prefix grammar (record { name = name; source = s }) r)
        (same_source files name source second is also) more

    one_file : (name : List ℕ) (a b : Result WithLexer Halted) → FetchesFile files prefix grammar name a
        → FetchesFile files prefix grammar name b → a ≡ b
    one_file name a b (known n p) (known m q) =
        let same : n ≡ m = let both = sym p ∙ q in cc in
        ap (λ (k : ℕ). Ok (record { grammar = grammar; lexer = None; table = known_table prefix (slice_get grammar.files k) })) same
    one_file name a b (known n p) (unread stop q is) = absurd (known_or_not files _ n p q)
    one_file name a b (known n p) (halted_below source halted q is more) = absurd (known_or_not files _ n p q)
    one_file name a b (known n p) (added source more q is fetches) = absurd (known_or_not files _ n p q)
    one_file name a b (unread stop p is) (known n q) = absurd (known_or_not files _ n q p)
    one_file name a b (unread stop p is) (unread other q also) =
        let same : ◌≡◌ {A = Result Source Stop} (Err stop) (Err other) = one_read files name (Err stop) (Err other) is also in
        let stops_same : stop ≡ other = cc in
        ap (λ (o : Stop). Err (record { fetched = file_names grammar.files ++ name ∷ []; stop = o })) stops_same
    one_file name a b (unread stop p is) (halted_below source halted q also more) = absurd (not_read_both files name source stop also is)
    one_file name a b (unread stop p is) (added source more q also fetches) = absurd (not_read_both files name source stop also is)
    one_file name a b (halted_below source halted p is more) (known n q) = absurd (known_or_not files _ n q p)
    one_file name a b (halted_below source halted p is more) (unread stop q also) = absurd (not_read_both files name source stop is also)
    one_file name a b (halted_below source halted p is more) (halted_below second other q also rest) =
        let same : ◌≡◌ {A = Result WithImports Halted} (Err halted) (Err other) =
        one_more _ (Err halted) (Err other) more (more_of name source second (Err other) is also rest) in cc
    one_file name a b (halted_below source halted p is more) (added second rest q also fetches) =
        let same : ◌≡◌ {A = Result WithImports Halted} (Err halted) (Ok rest) =
        one_more _ (Err halted) (Ok rest) more (more_of name source second (Ok rest) is also fetches) in
        absurd (let no_way : ⊥ = cc in no_way)
    one_file name a b (added source more p is fetches) (known n q) = absurd (known_or_not files _ n q p)
    one_file name a b (added source more p is fetches) (unread stop q also) = absurd (not_read_both files name source stop is also)
    one_file name a b (added source more p is fetches) (halted_below second other q also rest) =
        let same : ◌≡◌ {A = Result WithImports Halted} (Ok more) (Err other) =
        one_more _ (Ok more) (Err other) fetches (more_of name source second (Err other) is also rest) in
        absurd (let no_way : ⊥ = cc in no_way)
    one_file name a b (added source more p is fetches) (added second rest q also goes) =
        let same : ◌≡◌ {A = Result WithImports Halted} (Ok more) (Ok rest) =
        one_more _ (Ok more) (Ok rest) fetches (more_of name source second (Ok rest) is also goes) in
        let grammars : more ≡ rest = cc in
        let sources : source ≡ second = sym (same_source files name source second is also) in
        ap (λ (m : WithImports). Ok (record {
          grammar = m;
          lexer = lexer_number source.kind (length grammar.files);
          table = lexer_table_file prefix source source.kind;
        })) grammars
        ∙ ap (λ (s : Source). Ok (record {
          grammar = rest;
          lexer = lexer_number s.kind (length grammar.files);
          table = lexer_table_file prefix s s.kind;
        })) sources

    same_main : (x y : GrammarFile) → slice_get grammar.files 0 ≡ Some x → slice_get grammar.files 0 ≡ Some y → x ≡ y
    same_main x y p q = let both = sym p ∙ q in cc

    one_vocabulary : (a b : Result WithLexer Halted) → FetchesVocabulary files prefix grammar a → FetchesVocabulary files prefix grammar b
        → a ≡ b
    one_vocabulary a b (no_grammar main p none) (no_grammar other q also) =
        ap (λ (m : GrammarFile). Ok (record { grammar = grammar; lexer = None; table = table_file prefix m.source m.source.kind }))
        (same_main main other p q)
    one_vocabulary a b (no_grammar main p none) (a_grammar other name result q named at) =
        let here = subst (λ (m : GrammarFile). lexer_file prefix m.source m.source.kind ≡ None) (same_main main other p q) none in
        absurd (let no_way : ⊥ = cc in no_way)
    one_vocabulary a b (a_grammar main name result p named at) (no_grammar other q none) =
        let here = subst (λ (m : GrammarFile). lexer_file prefix m.source m.source.kind ≡ None) (same_main other main q p) none in
        absurd (let no_way : ⊥ = cc in no_way)
    one_vocabulary a b (a_grammar main name result p named at) (a_grammar other second end q called on) =
        let here = subst (λ (m : GrammarFile). lexer_file prefix m.source m.source.kind ≡ Some name) (same_main main other p q) named in
        let names : second ≡ name = let both = sym called ∙ here in cc in
        one_file name a b at (subst (λ (n : List ℕ). FetchesFile files prefix grammar n b) names on)

  module _ (library : Option (List ℕ)) (name : List ℕ) where
    one_grammar : (a b : WithImports) → FetchesGrammar files library name (Ok a) → FetchesGrammar files library name (Ok b) → b ≡ a
    one_grammar a b p q =
        let same : ◌≡◌ {A = Result WithImports Halted} (Ok a) (Ok b) = one_fetched files library name (Ok a) (Ok b) p q in cc

    not_grammar : (a : WithImports) (h : Halted) → FetchesGrammar files library name (Ok a) → FetchesGrammar files library name (Err h) → ⊥
    not_grammar a h p q =
        let same : ◌≡◌ {A = Result WithImports Halted} (Ok a) (Err h) = one_fetched files library name (Ok a) (Err h) p q in cc

    abbrev prefix_here : List ℕ
    prefix_here = prefix_of library name

    same_vocabulary : (g k : WithImports) (a b : Result WithLexer Halted) → FetchesGrammar files library name (Ok g)
        → FetchesGrammar files library name (Ok k) → FetchesVocabulary files prefix_here g a
        → FetchesVocabulary files prefix_here k b → a ≡ b
    same_vocabulary g k a b p q at on = one_vocabulary prefix_here g a b at
        (subst (λ (x : WithImports). FetchesVocabulary files prefix_here x b) (one_grammar g k p q) on)

    pub one_all : (f g : List (List ℕ)) (a b : Result Fetched Stop) → FetchesAll files library name f a → FetchesAll files library name g b
        → a ≡ b
    one_all f g a b (grammar_halts h p) (grammar_halts i q) =
        let same : ◌≡◌ {A = Result WithImports Halted} (Err h) (Err i) = one_fetched files library name (Err h) (Err i) p q in
        let one : h ≡ i = cc in
        ap (λ (x : Halted). Err x.stop) one
    one_all f g a b (grammar_halts h p) (vocabulary_halts k i q on) = absurd (not_grammar k h q p)
    one_all f g a b (grammar_halts h p) (table_read k parts r q on at) = absurd (not_grammar k h q p)
    one_all f g a b (vocabulary_halts k h p at) (grammar_halts i q) = absurd (not_grammar k i p q)
    one_all f g a b (vocabulary_halts k h p at) (vocabulary_halts l i q on) =
        let same : ◌≡◌ {A = Result WithLexer Halted} (Err h) (Err i) = same_vocabulary k l (Err h) (Err i) p q at on in
        let one : h ≡ i = cc in
        ap (λ (x : Halted). Err x.stop) one
    one_all f g a b (vocabulary_halts k h p at) (table_read l parts r q on reads) =
        let same : ◌≡◌ {A = Result WithLexer Halted} (Err h) (Ok parts) = same_vocabulary k l (Err h) (Ok parts) p q at on in
        absurd (let no_way : ⊥ = cc in no_way)
    one_all f g a b (table_read k parts r p at reads) (grammar_halts i q) = absurd (not_grammar k i p q)
    one_all f g a b (table_read k parts r p at reads) (vocabulary_halts l i q on) =
        let same : ◌≡◌ {A = Result WithLexer Halted} (Ok parts) (Err i) = same_vocabulary k l (Ok parts) (Err i) p q at on in
        absurd (let no_way : ⊥ = cc in no_way)
    one_all f g a b (table_read k parts r p at reads) (table_read l others s q on also) =
        let same : ◌≡◌ {A = Result WithLexer Halted} (Ok parts) (Ok others) = same_vocabulary k l (Ok parts) (Ok others) p q at on in
        let one : others ≡ parts = cc in
        let here = subst (λ (x : WithLexer). ReadsTable files x.table s) one also in
        ap (with_table parts) (one_named_table parts.table r s reads here) ∙ ap (λ (x : WithLexer). with_table x s) (sym one)
