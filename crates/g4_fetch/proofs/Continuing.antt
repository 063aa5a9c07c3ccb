-- Tasks one after another are the fetches of a grammar's imports.
use Rattle.std.proofs.Common.{◌≡◌, ℕ, List, [], ◌∷◌, ◌++◌, length, reverse, Some, None, Result, Ok, Err, refl, sym, ap, subst, ◌∙◌}
use Rattle.std.proofs.lemmas.List.{reverse-append, reverse-reverse}
use Rattle.g4_merge.specs.Importing.{imported_by}
use Rattle.g4_source.specs.declared.source.Source.{Source}
use Rattle.g4_fetch.specs.Closures.{Fetches, IsHaltAfter, no_more, again, stopped, stopped_below, fetched, Halted, file_names, number_of, with_file, with_import}
use Rattle.g4_fetch.specs.Files.{Files}
use Rattle.g4_fetch.specs.Names.{grammar_file}
use Rattle.g4_fetch.specs.Reading.{IsHaltOf, Reads}
use Rattle.g4_fetch.specs.Tasks.{Continues, nothing, tests, stops, fetches, fetches_of, IsMissing, task_of}
use Rattle.g4_fetch.specs.declared.closure.Import.{Import}
use Rattle.g4_fetch.specs.declared.closure.WithImports.{WithImports}
use Rattle.g4_fetch.specs.declared.reached.Missing.{Missing}
use Rattle.g4_fetch.specs.declared.stop.Halt.{Halt}
use Rattle.g4_fetch.specs.declared.stop.Halt.TheVariants as halts
use Rattle.g4_fetch.specs.declared.stop.Stop.{Stop}
use Rattle.g4_fetch.specs.declared.task.Task.{Task}
use Rattle.g4_fetch.specs.declared.task.Task.TheVariants as tasks

-- the last of the tasks in place is the next
pub next_task : (items rest : List Task) (task : Task) → items ≡ rest ++ task ∷ [] → reverse items ≡ task ∷ reverse rest
next_task items rest task is = ap reverse is ∙ reverse-append rest (task ∷ [])

-- tasks that are put in place in reverse are the next, in order
pub more_tasks : (old next new : List Task) (test : Task) (more : List Task) → next ≡ old ++ test ∷ [] → new ≡ next ++ reverse more
    → reverse new ≡ more ++ test ∷ reverse old
more_tasks old next new test more is also =
    ap reverse also
    ∙ (reverse-append next (reverse more)
    ∙ (ap (λ (ts : List Task). ts ++ reverse next) (reverse-reverse more)
    ∙ ap (λ (ts : List Task). more ++ ts) (next_task next old test is)))

-- what holds wherever another thing does, holds where a call halts
pub halts_too : {X : Type 0} (P Q : Result X Halted → Type 0) → ((r : Result X Halted) → P r → Q r) → (halt : Halt)
    → IsHaltAfter P halt → IsHaltAfter Q halt
halts_too P Q step (halts.Stop stop) is = (is.0, step _ is.1)
halts_too P Q step halts.Failed is = tt
halts_too P Q step halts.NoMemory is = tt

-- the same of what gives another thing
pub halts_below : {X Y : Type 0} (P : Result X Halted → Type 0) (Q : Result Y Halted → Type 0)
    → ((halted : Halted) → P (Err halted) → Q (Err halted)) → (halt : Halt) → IsHaltAfter P halt → IsHaltAfter Q halt
halts_below P Q step (halts.Stop stop) is = (is.0, step _ is.1)
halts_below P Q step halts.Failed is = tt
halts_below P Q step halts.NoMemory is = tt

module _ (files : Files) (prefix : List ℕ) where
  -- nothing is left to fetch, so nothing stops
  ends_well : (g : ℕ) (s : WithImports) (r : Result WithImports Halted) → Fetches files prefix g [] s r → r ≡ Ok s
  ends_well g s r (no_more _ _) = refl

  -- one name and then the others
  pub one_and_rest : (g : ℕ) (name : List ℕ) (names : List (List ℕ)) (s t : WithImports) (r : Result WithImports Halted)
      → Fetches files prefix g (name ∷ []) s (Ok t) → Fetches files prefix g names t r → Fetches files prefix g (name ∷ names) s r
  one_and_rest g name names s t r (again _ k _ _ _ _ known rest) more =
      let same : t ≡ with_import s (record { importer = g; imported = k; name = name }) = ok_same (ends_well g _ _ rest) in
      again g k name names s r known (subst (λ (u : WithImports). Fetches files prefix g names u r) same more)
    where
      ok_same : {x y : WithImports} → ◌≡◌ {A = Result WithImports Halted} (Ok x) (Ok y) → x ≡ y
      ok_same e = cc
  one_and_rest g name names s t r (fetched _ _ _ _ below source _ none is inner rest) more =
      let same : t ≡ with_import below (record { importer = g; imported = length s.files; name = name }) = ok_same (ends_well g _ _ rest) in
      fetched g name names s below source r none is inner (subst (λ (u : WithImports). Fetches files prefix g names u r) same more)
    where
      ok_same : {x y : WithImports} → ◌≡◌ {A = Result WithImports Halted} (Ok x) (Ok y) → x ≡ y
      ok_same e = cc

  -- where the first name stops, all stops
  pub first_stops : (g : ℕ) (name : List ℕ) (names : List (List ℕ)) (s : WithImports) (h : Halted)
      → Fetches files prefix g (name ∷ []) s (Err h) → Fetches files prefix g (name ∷ names) s (Err h)
  first_stops g name names s h (again _ k _ _ _ _ known rest) =
      let no_way : ◌≡◌ {A = Result WithImports Halted} (Err h) (Ok _) = ends_well g _ _ rest in
      absurd (let no : ⊥ = cc in no)
  first_stops g name names s h (stopped _ _ _ _ stop none is) = stopped g name names s stop none is
  first_stops g name names s h (stopped_below _ _ _ _ source _ none is inner) = stopped_below g name names s source h none is inner
  first_stops g name names s h (fetched _ _ _ _ below source _ none is inner rest) =
      let no_way : ◌≡◌ {A = Result WithImports Halted} (Err h) (Ok _) = ends_well g _ _ rest in
      absurd (let no : ⊥ = cc in no)

  -- What comes of fetching names and then of other tasks.
  data Parts (g : ℕ) (names : List (List ℕ)) (rest : List Task) (s : WithImports) : Result WithImports Halted → Type 0 where
    all : (t : WithImports) (r : Result WithImports Halted) → Fetches files prefix g names s (Ok t) → Continues files prefix rest t r
        → Parts g names rest s r
    some : (h : Halted) → Fetches files prefix g names s (Err h) → Parts g names rest s (Err h)

  parts_of : (g : ℕ) (names : List (List ℕ)) (rest : List Task) (s : WithImports) (r : Result WithImports Halted)
      → Continues files prefix (fetches_of g names ++ rest) s r → Parts g names rest s r
  parts_of g [] rest s r h = all s r (no_more g s) h
  parts_of g (name ∷ names) rest s r (stops _ _ _ _ h is) = some h (first_stops g name names s h is)
  parts_of g (name ∷ names) rest s r (fetches _ _ _ _ t _ is more) = longer (parts_of g names rest t r more)
    where
      longer : {q : Result WithImports Halted} → Parts g names rest t q → Parts g (name ∷ names) rest s q
      longer (all u q also last) = all u q (one_and_rest g name names s t (Ok u) is also) last
      longer (some h also) = some h (one_and_rest g name names s t (Err h) is also)

  -- to fetch names, and nothing else
  pub fetches_all : (g : ℕ) (names : List (List ℕ)) (s : WithImports) (r : Result WithImports Halted)
      → Continues files prefix (fetches_of g names ++ []) s r → Fetches files prefix g names s r
  fetches_all g names s r h = by r (parts_of g names [] s r h)
    where
      last : (t : WithImports) (q : Result WithImports Halted) → Continues files prefix [] t q → q ≡ Ok t
      last t q (nothing _) = refl

      by : (q : Result WithImports Halted) → Parts g names [] s q → Fetches files prefix g names s q
      by q (all t _ is more) = subst (λ (u : Result WithImports Halted). Fetches files prefix g names s u) (sym (last t q more)) is
      by q (some h is) = is

  -- a grammar that is there
  pub known_import : (g k : ℕ) (name : List ℕ) (rest : List Task) (s : WithImports) (r : Result WithImports Halted)
      → number_of s (grammar_file prefix name) ≡ Some k
      → Continues files prefix rest (with_import s (record { importer = g; imported = k; name = name })) r
      → Continues files prefix (tasks.Fetch g name ∷ rest) s r
  known_import g k name rest s r known more =
      let t = with_import s (record { importer = g; imported = k; name = name }) in
      fetches g name rest s t r (again g k name [] s (Ok t) known (no_more g t)) more

  module _ (g : ℕ) (name : List ℕ) (rest : List Task) (s : WithImports) (none : number_of s (grammar_file prefix name) ≡ None) where
    -- a grammar that is not there and cannot be read
    pub missing_stops : (stop : Stop) → Reads files (grammar_file prefix name) (Err stop)
        → Continues files prefix (tasks.Fetch g name ∷ rest) s
        (Err (record { fetched = file_names s.files ++ grammar_file prefix name ∷ []; stop = stop }))
    missing_stops stop is = stops g name rest s _ (stopped g name [] s stop none is)

    -- a grammar that is not there is read, and then its imports are fetched
    pub missing_read : (source : Source) (r : Result WithImports Halted) → Reads files (grammar_file prefix name) (Ok source)
        → Continues files prefix (fetches_of (length s.files) (imported_by source)
        ++ tasks.Test (record { importer = g; imported = length s.files; name = name }) ∷ rest)
        (with_file s (grammar_file prefix name) source) r
        → Continues files prefix (tasks.Fetch g name ∷ rest) s r
    missing_read source r is h = by r (parts_of k names (tasks.Test import ∷ rest) s' r h)
      where
        k : ℕ
        k = length s.files

        names : List (List ℕ)
        names = imported_by source

        import : Import
        import = record { importer = g; imported = k; name = name }

        s' : WithImports
        s' = with_file s (grammar_file prefix name) source

        after : (t : WithImports) (q : Result WithImports Halted) → Continues files prefix (tasks.Test import ∷ rest) t q
            → Continues files prefix rest (with_import t import) q
        after t q (tests _ _ _ _ more) = more

        by : (q : Result WithImports Halted) → Parts k names (tasks.Test import ∷ rest) s' q
            → Continues files prefix (tasks.Fetch g name ∷ rest) s q
        by q (all t _ below more) =
            let u = with_import t import in
            fetches g name rest s u q (fetched g name [] s t source (Ok u) none is below (no_more g u)) (after t q more)
        by q (some h below) = stops g name rest s h (stopped_below g name [] s source h none is below)

  -- a task that is carried out
  pub after_task : (items rest : List Task) (task : Task) (s t : WithImports) → items ≡ rest ++ task ∷ []
      → ((others : List Task) (r : Result WithImports Halted) → Continues files prefix others t r
      → Continues files prefix (task ∷ others) s r)
      → (r : Result WithImports Halted) → Continues files prefix (reverse rest) t r → Continues files prefix (reverse items) s r
  after_task items rest task s t is step r h =
      subst (λ (ts : List Task). Continues files prefix ts s r) (sym (next_task items rest task is)) (step (reverse rest) r h)

  -- a task to fetch what is there
  pub known_task : (s t : WithImports) (g k : ℕ) (name file : List ℕ) → file ≡ grammar_file prefix name → number_of s file ≡ Some k
      → t ≡ with_import s (record { importer = g; imported = k; name = name })
      → (rest : List Task) (r : Result WithImports Halted) → Continues files prefix rest t r
      → Continues files prefix (tasks.Fetch g name ∷ rest) s r
  known_task s t g k name file named known noted rest r h =
      known_import g k name rest s r (ap (number_of s) (sym named) ∙ known)
      (subst (λ (u : WithImports). Continues files prefix rest u r) noted h)

  -- a task to note an import
  pub noted_task : (s t : WithImports) (import : Import) (task : Task) → task ≡ tasks.Test import → t ≡ with_import s import
      → (rest : List Task) (r : Result WithImports Halted) → Continues files prefix rest t r → Continues files prefix (task ∷ rest) s r
  noted_task s t import task is noted rest r h =
      subst (λ (x : Task). Continues files prefix (x ∷ rest) s r) (sym is)
      (tests import rest s r (subst (λ (u : WithImports). Continues files prefix rest u r) noted h))

  module _ (s : WithImports) (missing : Missing) (is : IsMissing prefix s missing) where
    not_there : number_of s (grammar_file prefix missing.name) ≡ None
    not_there = ap (number_of s) (sym is.named) ∙ is.none

    -- a missing grammar is fetched, with its imports still to do
    pub missing_fetched : (old next new : List Task) (source : Source) (t : WithImports) → Reads files missing.file (Ok source)
        → next ≡ old ++ tasks.Test (record { importer = missing.importer; imported = length s.files; name = missing.name }) ∷ []
        → new ≡ next ++ reverse (fetches_of (length s.files) (imported_by source))
        → t ≡ with_file s missing.file source
        → (r : Result WithImports Halted) → Continues files prefix (reverse new) t r
        → Continues files prefix (task_of missing ∷ reverse old) s r
    missing_fetched old next new source t reads tested imports filed r h =
        let all = more_tasks old next new _ (fetches_of (length s.files) (imported_by source)) tested imports in
        let here : t ≡ with_file s (grammar_file prefix missing.name) source =
        filed ∙ ap (λ (name : List ℕ). with_file s name source) is.named in
        missing_read missing.importer missing.name (reverse old) s not_there source r
        (subst (λ (name : List ℕ). Reads files name (Ok source)) is.named reads)
        (subst (λ (u : WithImports). Continues files prefix (fetches_of (length s.files) (imported_by source)
        ++ tasks.Test (record { importer = missing.importer; imported = length s.files; name = missing.name }) ∷ reverse old) u r) here
        (subst (λ (ts : List Task). Continues files prefix ts t r) all h))

    -- or fetching it halts
    pub missing_halts : (rest : List Task) (halt : Halt) → IsHaltOf (Reads files missing.file) halt
        → IsHaltAfter (Continues files prefix (task_of missing ∷ rest) s) halt
    missing_halts rest (halts.Stop stop) reads = (
      _,
      missing_stops missing.importer missing.name rest s not_there stop
          (subst (λ (name : List ℕ). Reads files name (Err stop)) is.named reads),
    )
    missing_halts rest halts.Failed reads = tt
    missing_halts rest halts.NoMemory reads = tt
