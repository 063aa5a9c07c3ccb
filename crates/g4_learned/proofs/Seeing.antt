-- The words of SLL's path are those of a way along columns to an end.
use Rattle.std.proofs.Common.{◌≡◌, ◌<◌, ◌≤◌, ◌+◌, ℕ, suc, List, [], ◌∷◌, ◌++◌, All, length, map, take, get_or, slice_get, Some, refl, sym, ◌∙◌, ap, subst, arith, append_assoc}
use Rattle.std.proofs.lemmas.List.{append-nil, length-append}
use Rattle.std.proofs.Math.Seq.{get_or-append_seam, take-append_seam}
use Rattle.g4_net.specs.Configurations.{Config, wildcard}
use Rattle.g4_net.specs.Lookahead.{Next, Start}
use Rattle.g4_net.specs.Prediction.{Judges, Path, SllFrom, Verdict}
use Rattle.g4_net.specs.Prediction as prediction
use Rattle.g4_classes.specs.Classes.{IsSymbol}
use Rattle.g4_lookahead.proofs.OneChoice.{one_sll}
use Rattle.g4_store.specs.declared.automaton.Fact.{Fact}
use Rattle.g4_store.specs.declared.automaton.Fact.TheVariants.{Cell}
use Rattle.g4_store.specs.declared.automaton.Fact.TheVariants as fact
use Rattle.g4_store.specs.declared.automaton.Led.{Led}
use Rattle.g4_store.specs.declared.automaton.Led.TheVariants.{Row, End}
use Rattle.g4_store.specs.declared.automaton.Plan.{Plan}
use Rattle.g4_store.specs.declared.path.Looked.{Looked}
use Rattle.g4_store.specs.declared.view.View.{View}
use Rattle.g4_store.specs.Paths.{LeadsOn, Next as Onward, cells_of, next_facts}
use Rattle.g4_store.specs.Walks.{Along, Came}
use Rattle.g4_store.specs.Walks.Along.{here, onward}
use Rattle.g4_learned.specs.Automata.{LeadsTo, StartsAt, code_of}
use Rattle.g4_guards.specs.Levels.{AllowSame, AllowedAt}
use Rattle.g4_guards.proofs.Same.{sll_over}
use Rattle.g4_learned.specs.Stored.{ArePassed, IsPlan, columns_of, facts_from, stored_entry}
use Rattle.g4_learned.specs.Tables.{AreStarts, IsStartOf, Tables, column_of}
use Rattle.g4_learned.proofs.Paths.{sll_is_way}
use Rattle.g4_learned.proofs.Telling.{along_length}

-- the columns of entries
abbrev columns_in : List (Looked (List Config)) → List ℕ
columns_in entries = map (λ (l : Looked (List Config)). l.column) entries

-- the entries lead to rows, and the last of them to the end of this code
abbrev EndsBy : ℕ → Led (List Config) → Type 0 → Type 0
EndsBy code (Row z mark) Later = Later
EndsBy code (End other) Later = other ≡ code

abbrev AreTo : ℕ → List (Looked (List Config)) → Type 0
AreTo code [] = ⊥
AreTo code (l ∷ ls) = EndsBy code l.led (AreTo code ls)

module _ (t : Tables) where
  -- the entries of a path of SLL are such ones, and their columns are the first ones of the word
  abbrev Enters : Verdict → List prediction.Looked → List ℕ → Type 0
  Enters v looked w = AreTo (code_of v) (map (stored_entry t) looked)
      × ((rest : List ℕ) × (columns_of t w ≡ columns_in (map (stored_entry t) looked) ++ rest))

  judged_enters : (D : Config → Type 0) (a k : ℕ) (w : List ℕ) (Later : Verdict → List prediction.Looked → Type 0)
      → ((v : Verdict) (more : List prediction.Looked) → Later v more → Enters v more w)
      → (v : Verdict) (looked : List prediction.Looked) → Judges D k a Later v looked → Enters v looked (a ∷ w)
  judged_enters D a k w Later on _ _ (prediction.nothing_left e) = (refl, (columns_of t w, refl))
  judged_enters D a k w Later on _ _ (prediction.one_left i o) = (refl, (columns_of t w, refl))
  judged_enters D a k w Later on _ _ (prediction.gives_up n c l) = (refl, (columns_of t w, refl))
  judged_enters D a k w Later on v _ (prediction.goes_on _ more next e n m has later) =
      let (to, (rest, are)) = on v more later in
      (to, (rest, ap (λ (xs : List ℕ). column_of t a ∷ xs) are))

  sll_enters : (C : Config → Type 0) (w : List ℕ) (k : ℕ) (v : Verdict) (looked : List prediction.Looked) → SllFrom t.net C w k v looked
      → Enters v looked w
  sll_enters C [] k v looked h = absurd h
  sll_enters C (a ∷ w) k v looked h =
      judged_enters (Next t.net C a) a k w (SllFrom t.net (Next t.net C a) w (suc k))
      (λ u more later. sll_enters (Next t.net C a) w (suc k) u more later) v looked h

module _ (p : Plan Tables) (first : List Config) where
  -- A way goes on along entries to an end.
  record Goes (x : List Config) (ss : List ℕ) (fs : List (Fact (List Config))) (entries : List (Looked (List Config))) (code : ℕ)
      : Type 0 where
    y : List Config
    columns : List ℕ
    on : List (Fact (List Config))
    last : ℕ
    along : Along LeadsTo p.net first (ss ++ columns) (fs ++ on) y
    leads : LeadsTo p.net y last (End code)
    are : columns_in entries ≡ columns ++ last ∷ []
    cells : cells_of x entries ≡ on ++ Cell y last (End code) ∷ []

  -- where more entries go on, so do they with one before them
  goes_by : (x : List Config) (ss : List ℕ) (fs : List (Fact (List Config))) (l : Looked (List Config)) (ls : List (Looked (List Config)))
      (code : ℕ) (led : Led (List Config)) → l.led ≡ led
      → ((z : List Config) (ts : List ℕ) (gs : List (Fact (List Config))) → Along LeadsTo p.net first ts gs z
      → LeadsOn StartsAt LeadsTo p z ls → AreTo code ls → Goes z ts gs ls code)
      → Along LeadsTo p.net first ss fs x → LeadsTo p.net x l.column led
      → Onward StartsAt LeadsTo led (λ z. LeadsOn StartsAt LeadsTo p z ls) (ls ≡ []) → EndsBy code led (AreTo code ls)
      → Goes x ss fs (l ∷ ls) code
  goes_by x ss fs l ls code (End other) is later along leads none same = record {
    y = x;
    columns = [];
    on = [];
    last = l.column;
    along =
        subst (λ (ts : List ℕ). Along LeadsTo p.net first ts (fs ++ []) x) (sym (append-nil ss))
        (subst (λ (gs : List (Fact (List Config))). Along LeadsTo p.net first ss gs x) (sym (append-nil fs)) along);
    leads = subst (λ n. LeadsTo p.net x l.column (End n)) same leads;
    are = ap (λ (ms : List (Looked (List Config))). l.column ∷ columns_in ms) none;
    cells =
        ap (λ (d : Led (List Config)). Cell x l.column d ∷ next_facts d (λ z. cells_of z ls)) is
        ∙ ap (λ n. Cell x l.column (End n) ∷ []) same;
  }
  goes_by x ss fs l ls code (Row z mark) is later along leads on to =
      let s = l.column in
      let cell = Cell x s (Row z mark) in
      let more = later z (ss ++ s ∷ []) (fs ++ cell ∷ []) (onward ss fs x s z mark along leads) on to in
      record {
        y = more.y;
        columns = s ∷ more.columns;
        on = cell ∷ more.on;
        last = more.last;
        along =
            subst (λ (ts : List ℕ). Along LeadsTo p.net first ts (fs ++ (cell ∷ more.on)) more.y)
            (append_assoc ss (s ∷ []) more.columns)
            (subst (λ (gs : List (Fact (List Config))). Along LeadsTo p.net first ((ss ++ s ∷ []) ++ more.columns) gs more.y)
            (append_assoc fs (cell ∷ []) more.on) more.along);
        leads = more.leads;
        are = ap (λ (ts : List ℕ). s ∷ ts) more.are;
        cells =
            ap (λ (d : Led (List Config)). Cell x s d ∷ next_facts d (λ u. cells_of u ls)) is
            ∙ ap (λ (gs : List (Fact (List Config))). cell ∷ gs) more.cells;
      }

  goes : (entries : List (Looked (List Config))) (code : ℕ) (x : List Config) (ss : List ℕ) (fs : List (Fact (List Config)))
      → Along LeadsTo p.net first ss fs x → LeadsOn StartsAt LeadsTo p x entries → AreTo code entries → Goes x ss fs entries code
  goes [] code x ss fs along leads to = absurd to
  goes (l ∷ ls) code x ss fs along (within, leads, on) to =
      goes_by x ss fs l ls code l.led refl (λ z ts gs more rest to'. goes ls code z ts gs more rest to') along leads on to

-- a decision has one start under a condition
pub one_start_of : (t : Tables) (d condition i j : ℕ) → AreStarts t.net t.starts → IsStartOf t d condition i → IsStartOf t d condition j
    → i ≡ j
one_start_of t d condition i j starts (g, at, guards) (h, at', guards') =
    let less : g ≤ h = guards.least h guards'.same in
    let more : h ≤ g = guards'.least g guards.same in
    let same : h ≡ g = omega arith in
    starts.once i j d g at (subst (λ n. slice_get t.starts j ≡ Some (d, n)) same at')

-- SLL's path has the same verdict and words at each time
pub one_passed : (p : Plan Tables) → IsPlan p → (d condition : ℕ) (w : List ℕ) (v u : Verdict) (facts facts' : List (Fact (List Config)))
    → ArePassed p.net d condition w v facts → ArePassed p.net d condition w u facts' → (v ≡ u) × (facts ≡ facts')
one_passed p plan d condition w v u facts facts' one two =
    let same = one_sll p.net.net d (AllowedAt p.net.net d condition) w v u one.path two.path one.sll two.sll in
    let starts = one_start_of p.net d condition one.start two.start plan.tables.starts one.is_start two.is_start in (
      same.0,
      one.are ∙ (ap (λ n. facts_from p.net n one.path) starts ∙ (ap (facts_from p.net two.start) same.1 ∙ sym two.are)),
    )

-- SLL's path is a way along the columns of its word to an end.
pub record IsWay (p : Plan Tables) (i : ℕ) (w : List ℕ) (v : Verdict) (facts : List (Fact (List Config))) (old : View (List Config))
    : Type 0 where
  pub k : ℕ
  pub y : List Config
  pub before : List (Fact (List Config))
  pub within : k < length (columns_of p.net w)
  pub came : Came StartsAt LeadsTo p i (columns_of p.net w) k old y before
  pub leads : LeadsTo p.net y (get_or (columns_of p.net w) k 0) (End (code_of v))
  pub are : facts ≡ before ++ Cell y (get_or (columns_of p.net w) k 0) (End (code_of v)) ∷ []
  pub count : length facts ≡ k + 2

pub sll_way : (p : Plan Tables) (d condition i : ℕ) (w : List ℕ) (v : Verdict) (facts : List (Fact (List Config))) (old : View
    (List Config))
    → IsPlan p → All IsSymbol w → (passed : ArePassed p.net d condition w v facts) → IsStartOf p.net d condition i → IsWay p i w v facts old
sll_way p d condition i w v facts old plan symbols passed start =
    let is : passed.start ≡ i = one_start_of p.net d condition passed.start i plan.tables.starts passed.is_start start in
    let path : Path = passed.path in
    let first = path.start in
    let entries = map (stored_entry p.net) path.looked in
    let way = sll_is_way p plan d condition passed.start w v path symbols passed.sll passed.is_start in
    let enters = sll_enters p.net (Start p.net.net d (AllowedAt p.net.net d condition) wildcard) w 0 v path.looked passed.sll.1 in
    let more = goes p first entries (code_of v) first [] [] here way.1 enters.0 in
    let columns = columns_of p.net w in
    let front = more.columns in
    let rest = enters.1.0 in
    let parts : columns ≡ front ++ (more.last ∷ rest) =
    enters.1.1 ∙ (ap (λ (xs : List ℕ). xs ++ rest) more.are ∙ append_assoc front (more.last ∷ []) rest) in
    let taken : take (length front) columns ≡ front = ap (take (length front)) parts ∙ take-append_seam front (more.last ∷ rest) in
    let here' : get_or columns (length front) 0 ≡ more.last =
    ap (λ (xs : List ℕ). get_or xs (length front) 0) parts ∙ get_or-append_seam front more.last rest 0 in
    let cell = Cell more.y more.last (End (code_of v)) in
    let are : facts ≡ fact.Start i first ∷ (more.on ++ cell ∷ []) =
    passed.are ∙ (ap (λ n. fact.Start n first ∷ cells_of first entries) is
    ∙ ap (λ (gs : List (Fact (List Config))). fact.Start i first ∷ gs) more.cells) in
    record {
      k = length front;
      y = more.y;
      before = fact.Start i first ∷ more.on;
      within = let one = ap length parts in let two = length-append front (more.last ∷ rest) in omega arith;
      came = record {
        first = first;
        starts_so = subst (λ n. StartsAt p.net n first) is way.0;
        on = more.on;
        along = subst (λ (ss : List ℕ). Along LeadsTo p.net first ss more.on more.y) (sym taken) more.along;
        facts = refl;
      };
      leads = subst (λ n. LeadsTo p.net more.y n (End (code_of v))) (sym here') more.leads;
      are = are ∙ ap (λ n. fact.Start i first ∷ (more.on ++ Cell more.y n (End (code_of v)) ∷ [])) (sym here');
      count =
          let one = ap length are in
          let two = length-append more.on (cell ∷ []) in
          let three = along_length p.net first more.y front more.on more.along in omega arith;
    }

-- conditions under which the same may be taken have the same starts and paths
pub passed_alike : (t : Tables) (d m n : ℕ) (w : List ℕ) (v : Verdict) (facts : List (Fact (List Config))) → AllowSame t.net d m n
    → ArePassed t d m w v facts → ArePassed t d n w v facts
passed_alike t d m n w v facts same passed = record {
  path = passed.path;
  sll = sll_over t.net d (AllowedAt t.net d m) (AllowedAt t.net d n) (λ j u first. (same j).0) (λ j u first. (same j).1) w v passed.path
      passed.sll;
  start = passed.start;
  is_start = (let (guard, at, is) = passed.is_start in (
    guard,
    at,
    record {
      same = λ i. ((λ a. (same i).0 ((is.same i).0 a)), (λ a. (is.same i).1 ((same i).1 a)));
      least = λ k like. is.least k (λ i. ((λ a. (same i).1 ((like i).0 a)), (λ a. (like i).1 ((same i).0 a))));
    },
  ));
  are = passed.are;
}

pub one_passed_alike : (p : Plan Tables) → IsPlan p → (d m n : ℕ) (w : List ℕ) (v u : Verdict) (facts facts' : List (Fact (List Config)))
    → AllowSame p.net.net d m n → ArePassed p.net d m w v facts → ArePassed p.net d n w u facts' → (v ≡ u) × (facts ≡ facts')
one_passed_alike p plan d m n w v u facts facts' same one two =
    one_passed p plan d n w v u facts facts' (passed_alike p.net d m n w v facts same one) two
