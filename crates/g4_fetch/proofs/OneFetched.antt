-- A grammar is fetched in at most one way.
use Rattle.std.proofs.Common.{◌≡◌, ◌≢◌, ℕ, List, [], ◌∷◌, ◌++◌, length, Option, Some, None, Result, Ok, Err, refl, ap, subst, arith}
use Rattle.g4_merge.specs.Importing.{imported_by}
use Rattle.g4_reader.specs.Reading.{IsReading}
use Rattle.g4_reader.specs.declared.reader.ReadFault.{ReadFault}
use Rattle.g4_reader.specs.declared.reader.ReadFault.TheVariants as reading
use Rattle.g4_reader.proofs.OneReading.{one_reading}
use Rattle.g4_source.specs.declared.source.Source.{Source}
use Rattle.g4_fetch.specs.Closures.{Fetches, no_more, again, stopped, stopped_below, fetched, FetchesGrammar, unread, read_first, Halted, file_names, with_file, with_import}
use Rattle.g4_fetch.specs.Files.{Files, Opens, absent, too_large, there}
use Rattle.g4_fetch.specs.Names.{grammar_file, prefix_of}
use Rattle.g4_fetch.specs.Reading.{Reads, missing, faulty, read, of_read}
use Rattle.g4_fetch.specs.declared.closure.WithImports.{WithImports}
use Rattle.g4_fetch.specs.declared.stop.FileFault.{FileFault}
use Rattle.g4_fetch.specs.declared.stop.Stop.{Stop}
use Rattle.g4_fetch.specs.declared.stop.Stop.TheVariants as stops

module _ (files : Files) where
  -- a name has at most one file
  pub one_opened : (name : List ℕ) (a b : Result (List ℕ) Stop) → Opens files name a → Opens files name b → a ≡ b
  one_opened name a b (absent p) (absent q) = refl
  one_opened name a b (absent p) (too_large bytes q large) = absurd (let no_way : ⊥ = cc in no_way)
  one_opened name a b (absent p) (there bytes q small) = absurd (let no_way : ⊥ = cc in no_way)
  one_opened name a b (too_large bytes p large) (absent q) = absurd (let no_way : ⊥ = cc in no_way)
  one_opened name a b (too_large bytes p large) (too_large others q larger) =
      let same : bytes ≡ others = cc in
      ap (λ (bs : List ℕ). Err (stops.TooLarge name (length bs))) same
  one_opened name a b (too_large bytes p large) (there others q small) =
      let same : bytes ≡ others = cc in
      absurd (omega (arith, large, small, ap length same))
  one_opened name a b (there bytes p small) (absent q) = absurd (let no_way : ⊥ = cc in no_way)
  one_opened name a b (there bytes p small) (too_large others q large) =
      let same : bytes ≡ others = cc in
      absurd (omega (arith, large, small, ap length same))
  one_opened name a b (there bytes p small) (there others q little) =
      let same : bytes ≡ others = cc in
      ap (λ bs. Ok bs) same

  -- a name with bytes has these
  pub same_bytes : (name bytes others : List ℕ) → Opens files name (Ok bytes) → Opens files name (Ok others) → others ≡ bytes
  same_bytes name bytes others p q =
      let same : ◌≡◌ {A = Result (List ℕ) Stop} (Ok bytes) (Ok others) = one_opened name (Ok bytes) (Ok others) p q in cc

  pub not_both : (name bytes : List ℕ) (stop : Stop) → Opens files name (Ok bytes) → Opens files name (Err stop) → ⊥
  not_both name bytes stop p q =
      let same : ◌≡◌ {A = Result (List ℕ) Stop} (Ok bytes) (Err stop) = one_opened name (Ok bytes) (Err stop) p q in cc

  -- a fault is told of an error other than want of memory
  told_apart : (error : ReadFault) (fault : FileFault) → of_read error ≡ Some fault
      → ◌≢◌ {A = Result Source ReadFault} (Err error) (Err reading.NoMemory)
  told_apart error fault told same =
      let here : error ≡ reading.NoMemory = cc in
      let seen : of_read error ≡ None = ap of_read here in cc

  -- a file is read in at most one way
  pub one_read : (name : List ℕ) (a b : Result Source Stop) → Reads files name a → Reads files name b → a ≡ b
  one_read name a b (missing stop p) (missing other q) =
      let same : ◌≡◌ {A = Result (List ℕ) Stop} (Err stop) (Err other) = one_opened name (Err stop) (Err other) p q in cc
  one_read name a b (missing stop p) (faulty bytes error fault q is told) = absurd (not_both name bytes stop q p)
  one_read name a b (missing stop p) (read bytes source q is) = absurd (not_both name bytes stop q p)
  one_read name a b (faulty bytes error fault p is told) (missing stop q) = absurd (not_both name bytes stop p q)
  one_read name a b (faulty bytes error fault p is told) (faulty others second flaw q also says) =
      let here = subst (λ (bs : List ℕ). IsReading bs (Err second)) (same_bytes name bytes others p q) also in
      let same : ◌≡◌ {A = Result Source ReadFault} (Err error) (Err second) =
      one_reading bytes (Err error) (Err second) is here (told_apart error fault told) (told_apart second flaw says) in
      let faults : error ≡ second = cc in
      let seen : of_read error ≡ of_read second = ap of_read faults in
      let flaws : fault ≡ flaw = cc in
      ap (λ (f : FileFault). Err (stops.Unreadable name f)) flaws
  one_read name a b (faulty bytes error fault p is told) (read others source q also) =
      let here = subst (λ (bs : List ℕ). IsReading bs (Ok source)) (same_bytes name bytes others p q) also in
      let same : ◌≡◌ {A = Result Source ReadFault} (Ok source) (Err error) =
      one_reading bytes (Ok source) (Err error) here is (λ e. cc) (told_apart error fault told) in
      absurd (let no_way : ⊥ = cc in no_way)
  one_read name a b (read bytes source p is) (missing stop q) = absurd (not_both name bytes stop p q)
  one_read name a b (read bytes source p is) (faulty others error fault q also told) =
      let here = subst (λ (bs : List ℕ). IsReading bs (Err error)) (same_bytes name bytes others p q) also in
      let same : ◌≡◌ {A = Result Source ReadFault} (Ok source) (Err error) =
      one_reading bytes (Ok source) (Err error) is here (λ e. cc) (told_apart error fault told) in
      absurd (let no_way : ⊥ = cc in no_way)
  one_read name a b (read bytes source p is) (read others second q also) =
      let here = subst (λ (bs : List ℕ). IsReading bs (Ok second)) (same_bytes name bytes others p q) also in
      let same : ◌≡◌ {A = Result Source ReadFault} (Ok source) (Ok second) =
      one_reading bytes (Ok source) (Ok second) is here (λ e. cc) (λ e. cc) in
      let sources : source ≡ second = cc in
      ap (λ (s : Source). Ok s) sources

  pub same_source : (name : List ℕ) (source second : Source) → Reads files name (Ok source) → Reads files name (Ok second) → second ≡ source
  same_source name source second p q =
      let same : ◌≡◌ {A = Result Source Stop} (Ok source) (Ok second) = one_read name (Ok source) (Ok second) p q in cc

  pub not_read_both : (name : List ℕ) (source : Source) (stop : Stop) → Reads files name (Ok source) → Reads files name (Err stop) → ⊥
  not_read_both name source stop p q =
      let same : ◌≡◌ {A = Result Source Stop} (Ok source) (Err stop) = one_read name (Ok source) (Err stop) p q in cc

  pub known_or_not : (o : Option ℕ) (k : ℕ) → o ≡ Some k → o ≡ None → ⊥
  known_or_not o k p q = cc

  -- imports are fetched in at most one way
  module _ (prefix : List ℕ) where
    pub one_fetches : (g : ℕ) (names : List (List ℕ)) (s : WithImports) (a b : Result WithImports Halted) → Fetches files prefix g names s a
        → Fetches files prefix g names s b → a ≡ b
    one_fetches g _ s a b (no_more _ _) (no_more _ _) = refl
    one_fetches g _ s a b (again _ k name names _ _ p more) (again _ l _ _ _ _ q rest) =
        let same : l ≡ k = cc in
        one_fetches g names _ a b more
        (subst (λ (n : ℕ). Fetches files prefix g names (with_import s (record { importer = g; imported = n; name = name })) b) same rest)
    one_fetches g _ s a b (again _ k name names _ _ p more) (stopped _ _ _ _ stop q is) = absurd (known_or_not _ k p q)
    one_fetches g _ s a b (again _ k name names _ _ p more) (stopped_below _ _ _ _ source h q is below) = absurd (known_or_not _ k p q)
    one_fetches g _ s a b (again _ k name names _ _ p more) (fetched _ _ _ _ t source _ q is below rest) = absurd (known_or_not _ k p q)
    one_fetches g _ s a b (stopped _ name names _ stop p is) (again _ k _ _ _ _ q rest) = absurd (known_or_not _ k q p)
    one_fetches g _ s a b (stopped _ name names _ stop p is) (stopped _ _ _ _ other q also) =
        let same : ◌≡◌ {A = Result Source Stop} (Err stop) (Err other) = one_read _ (Err stop) (Err other) is also in
        let stops_same : stop ≡ other = cc in
        ap (λ (o : Stop). Err (record { fetched = file_names s.files ++ grammar_file prefix name ∷ []; stop = o })) stops_same
    one_fetches g _ s a b (stopped _ name names _ stop p is) (stopped_below _ _ _ _ source h q also below) =
        absurd (not_read_both _ source stop also is)
    one_fetches g _ s a b (stopped _ name names _ stop p is) (fetched _ _ _ _ t source _ q also below rest) =
        absurd (not_read_both _ source stop also is)
    one_fetches g _ s a b (stopped_below _ name names _ source h p is below) (again _ k _ _ _ _ q rest) = absurd (known_or_not _ k q p)
    one_fetches g _ s a b (stopped_below _ name names _ source h p is below) (stopped _ _ _ _ stop q also) =
        absurd (not_read_both _ source stop is also)
    one_fetches g _ s a b (stopped_below _ name names _ source h p is below) (stopped_below _ _ _ _ second i q also under) =
        one_fetches (length s.files) (imported_by source) _ (Err h) (Err i) below
        (subst (λ (x : Source). Fetches files prefix (length s.files) (imported_by x) (with_file s (grammar_file prefix name) x) (Err i))
        (same_source _ source second is also) under)
    one_fetches g _ s a b (stopped_below _ name names _ source h p is below) (fetched _ _ _ _ t second _ q also under rest) =
        let same : ◌≡◌ {A = Result WithImports Halted} (Err h) (Ok t) =
        one_fetches (length s.files) (imported_by source) _ (Err h) (Ok t) below
        (subst (λ (x : Source). Fetches files prefix (length s.files) (imported_by x) (with_file s (grammar_file prefix name) x) (Ok t))
        (same_source _ source second is also) under) in
        absurd (let no_way : ⊥ = cc in no_way)
    one_fetches g _ s a b (fetched _ name names _ t source _ p is below more) (again _ k _ _ _ _ q rest) = absurd (known_or_not _ k q p)
    one_fetches g _ s a b (fetched _ name names _ t source _ p is below more) (stopped _ _ _ _ stop q also) =
        absurd (not_read_both _ source stop is also)
    one_fetches g _ s a b (fetched _ name names _ t source _ p is below more) (stopped_below _ _ _ _ second i q also under) =
        let same : ◌≡◌ {A = Result WithImports Halted} (Ok t) (Err i) =
        one_fetches (length s.files) (imported_by source) _ (Ok t) (Err i) below
        (subst (λ (x : Source). Fetches files prefix (length s.files) (imported_by x) (with_file s (grammar_file prefix name) x) (Err i))
        (same_source _ source second is also) under) in
        absurd (let no_way : ⊥ = cc in no_way)
    one_fetches g _ s a b (fetched _ name names _ t source _ p is below more) (fetched _ _ _ _ u second _ q also under rest) =
        let same : ◌≡◌ {A = Result WithImports Halted} (Ok t) (Ok u) =
        one_fetches (length s.files) (imported_by source) _ (Ok t) (Ok u) below
        (subst (λ (x : Source). Fetches files prefix (length s.files) (imported_by x) (with_file s (grammar_file prefix name) x) (Ok u))
        (same_source _ source second is also) under) in
        let states : u ≡ t = cc in
        one_fetches g names _ a b more (subst (λ (x : WithImports). Fetches files prefix g names
        (with_import x (record { importer = g; imported = length s.files; name = name })) b) states rest)

  -- a grammar is fetched in at most one way
  pub one_fetched : (library : Option (List ℕ)) (name : List ℕ) (a b : Result WithImports Halted) → FetchesGrammar files library name a
      → FetchesGrammar files library name b → a ≡ b
  one_fetched library name a b (unread stop p) (unread other q) =
      let same : ◌≡◌ {A = Result Source Stop} (Err stop) (Err other) = one_read name (Err stop) (Err other) p q in
      let stops_same : stop ≡ other = cc in
      ap (λ (o : Stop). Err (record { fetched = name ∷ []; stop = o })) stops_same
  one_fetched library name a b (unread stop p) (read_first source _ q more) = absurd (not_read_both name source stop q p)
  one_fetched library name a b (read_first source _ p more) (unread stop q) = absurd (not_read_both name source stop p q)
  one_fetched library name a b (read_first source _ p more) (read_first second _ q rest) =
      one_fetches (prefix_of library name) 0 (imported_by source) _ a b more
      (subst (λ (x : Source). Fetches files (prefix_of library name) 0 (imported_by x)
      (record { files = (record { name = name; source = x }) ∷ []; imports = [] }) b) (same_source name source second p q) rest)
