-- What each step on the way of SLL's path leaves.
use Rattle.std.proofs.Common.{◌≡◌, ◌+◌, ◌<◌, ◌≤◌, inl, inr, ℕ, List, [], ◌∷◌, ◌++◌, true≢false, All, Contains, None, Some, drop, get_or, length, map, refl, sym, ◌∙◌, ap, subst, arith, add-one, drop-cons, get_or-drop, length-drop}
use Rattle.std.proofs.lemmas.List.{drop-drop, get_or-map, length-map}
use Rattle.std.proofs.lemmas.List.Elements.{All-get_or}
use Rattle.g4_classes.specs.Classes.{IsSymbol}
use Rattle.g4_decide.specs.Asked.{Asked, Told}
use Rattle.g4_decide.specs.Going.{CameTo, IsNext, IsPath, Keeps, LacksRow, Question}
use Rattle.g4_guards.specs.Levels.{AllowedAt}
use Rattle.g4_learned.proofs.Rests.{from_on, word_from}
use Rattle.g4_learned.proofs.Seeing.{one_passed, one_start_of, sll_way}
use Rattle.g4_learned.proofs.Telling.{ends_says, not_open, starts_so, stopped_reached, stopped_row, stopped_says}
use Rattle.g4_learned.specs.Automata.{LeadsTo, StartsAt, code_of, verdict_at}
use Rattle.g4_learned.specs.Stored.{IsPlan, columns_of, stored_entry}
use Rattle.g4_learned.specs.Tables.{IsStartOf, Tables, column_of}
use Rattle.g4_learned.specs.Unique.{one_led, one_start}
use Rattle.g4_learned.specs.Walks.{Begins, Walks}
use Rattle.g4_learned.specs.declared.walk.Walk.TheVariants.{NoEdge}
use Rattle.g4_net.proofs.Rows.{one_row}
use Rattle.g4_net.specs.Configurations.{Config, IsRow, wildcard}
use Rattle.g4_net.specs.Lookahead.{Start}
use Rattle.g4_net.specs.Prediction.{Looked, SllFrom, Verdict}
use Rattle.g4_predict.specs.Reached.{IsReached}
use Rattle.g4_store.proofs.Known.{no_more_rows}
use Rattle.g4_store.proofs.Lists.{among_either, among_right}
use Rattle.g4_store.proofs.Seen.{came_within}
use Rattle.g4_store.proofs.Walking.{came_first, came_next}
use Rattle.g4_store.specs.declared.automaton.Fact.{Fact}
use Rattle.g4_store.specs.declared.automaton.Fact.TheVariants.{Cell}
use Rattle.g4_store.specs.declared.automaton.Fact.TheVariants as fact
use Rattle.g4_store.specs.declared.automaton.Led.TheVariants.{End, Row}
use Rattle.g4_store.specs.declared.automaton.Plan.{Plan}
use Rattle.g4_store.specs.declared.book.Learned.{Learned}
use Rattle.g4_store.specs.declared.book.Learned.TheVariants as learned
use Rattle.g4_store.specs.declared.view.View.{View}
use Rattle.g4_store.specs.Known.{KnowsRows}
use Rattle.g4_store.specs.Learned.{IsLearned}
use Rattle.g4_store.specs.Numbers.{Among}
use Rattle.g4_store.specs.Paths.{IsIn, Learns, LearnsPart, cells_of}
use Rattle.g4_store.specs.Walks as walks
use Rattle.g4_store.specs.Walks.{Came, SawAlso}
use Rattle.g4_tokens.specs.declared.token.Token.{Token}
use Rattle.g4_tokens.specs.Symbols.{end_of_list}
use Rattle.g4_tokens.specs.TokenList.{word_of}

abbrev Facts : Type 0
Facts = List (Fact (List Config))

module _ (p : Plan Tables) (q : Question) where
  -- each of the facts is one of SLL's path
  abbrev pub OnPath : Facts → Type 0
  OnPath fs = (v : Verdict) (facts : Facts) → IsPath p q v facts → (f : Fact (List Config)) → Among f fs → Among f facts

  -- nothing was done
  pub keeps_same : (old new : Told) → new ≡ old → Keeps p q old new
  keeps_same old new same = record {
    seen = λ f seen. subst (λ (x : Told). Among f x.0.seen) (sym same) seen;
    within = λ v facts passed f seen. inl (subst (λ (x : Told). Among f x.0.seen) same seen);
    taught = λ f told. subst (λ (x : Told). Among f x.0.taught) (sym same) told;
    teaches = λ v facts passed f told. inl (subst (λ (x : Told). Among f x.0.taught) same told);
    known = λ t y known. subst (λ (x : Told). Among (t, y) x.0.known) (sym same) known;
    holds = ap (λ (x : Told). x.0.holds) same;
    count = ap (λ (x : Told). x.0.count) same;
  }

  -- one thing was done after another
  pub keeps_on : (old mid new : Told) → Keeps p q old mid → Keeps p q mid new → Keeps p q old new
  keeps_on old mid new one two = record {
    seen = λ f seen. two.seen f (one.seen f seen);
    within = λ v facts passed f seen. elim (two.within v facts passed f seen) [
      | inl before ↦ one.within v facts passed f before
      | inr now ↦ inr now
    ];
    taught = λ f told. two.taught f (one.taught f told);
    teaches = λ v facts passed f told. elim (two.teaches v facts passed f told) [
      | inl before ↦ one.teaches v facts passed f before
      | inr now ↦ inr now
    ];
    known = λ t y known. two.known t y (one.known t y known);
    holds = two.holds ∙ one.holds;
    count = two.count ∙ one.count;
  }

  -- words of SLL's path were looked at
  pub keeps_saw : (old new : Told) (fs : Facts) → OnPath fs → SawAlso fs old.0 new.0 → walks.Keeps old.0 new.0 → Keeps p q old new
  keeps_saw old new fs on saw kept = record {
    seen = λ f seen. (saw f).1 (inl seen);
    within = λ v facts passed f seen. elim ((saw f).0 seen) [
      | inl before ↦ inl before
      | inr now ↦ inr (on v facts passed f now)
    ];
    taught = λ f told. subst (λ (gs : Facts). Among f gs) (sym kept.taught) told;
    teaches = λ v facts passed f told. inl (subst (λ (gs : Facts). Among f gs) kept.taught told);
    known = kept.known;
    holds = kept.holds;
    count = kept.count;
  }

  -- words of SLL's path were learned
  keeps_learns : (old new : Told) (fs : Facts) → OnPath fs → Learns fs old.0 new.0 → Keeps p q old new
  keeps_learns old new fs on learns = record {
    seen = λ f seen. (learns.seen f).1 (inl seen);
    within = λ v facts passed f seen. elim ((learns.seen f).0 seen) [
      | inl before ↦ inl before
      | inr now ↦ inr (on v facts passed f now.0)
    ];
    taught = λ f told. subst (λ (gs : Facts). Among f gs) (sym learns.taught) (among_right f learns.stored old.0.taught told);
    teaches = λ v facts passed f told.
        elim (among_either f learns.stored old.0.taught (subst (λ (gs : Facts). Among f gs) learns.taught told)) [
          | inl now ↦ inr (on v facts passed f (learns.stores f now).0)
          | inr before ↦ inl before
        ];
    known = learns.known_kept;
    holds = learns.holds;
    count = learns.count;
  }

  pub keeps_learned : (old new : Told) (fs : Facts) (l : Learned) → OnPath fs → IsLearned p.rows fs old new l → Keeps p q old new
  keeps_learned old new fs learned.All on (all, same) = keeps_learns old new fs on all.learns
  keeps_learned old new fs learned.Full on (part, full) = keeps_learns old new fs on part.learns

  -- where all words of SLL's path are seen, and there was no new want of room, it was asked
  pub asked_all : (old new : Told) (v : Verdict) (facts : Facts) → IsPath p q v facts → ((f : Fact (List Config)) → Among f facts
      → Among f new.0.seen) → new.1 ≡ old.1 → KnowsRows p.rows new → Asked p q.decision q.condition q.word v old new
  asked_all old new v facts passed all same rows = record {
    facts = facts;
    passed = passed;
    some = λ f among within. all f among;
    whole = λ room f among. all f among;
    missing = λ room none. absurd (true≢false (sym none ∙ (same ∙ room)));
    stays_full = λ none. same ∙ none;
    rows = rows;
  }

  -- what was done before, without a new want of room
  pub asked_from : (old mid new : Told) (v : Verdict) → mid.1 ≡ old.1 → Asked p q.decision q.condition q.word v mid new
      → Asked p q.decision q.condition q.word v old new
  asked_from old mid new v same asked = record {
    facts = asked.facts;
    passed = asked.passed;
    some = asked.some;
    whole = asked.whole;
    missing = λ room none. asked.missing (same ∙ room) none;
    stays_full = λ none. asked.stays_full (same ∙ none);
    rows = asked.rows;
  }

  -- and with one
  pub asked_lacking : (old mid new : Told) (v : Verdict) → LacksRow p q mid → KnowsRows p.rows mid → Keeps p q mid new
      → Asked p q.decision q.condition q.word v mid new → Asked p q.decision q.condition q.word v old new
  asked_lacking old mid new v lacks knows kept asked = record {
    facts = asked.facts;
    passed = asked.passed;
    some = asked.some;
    whole = asked.whole;
    missing = λ room none. (
      lacks.row,
      lacks.of_path v asked.facts asked.passed,
      λ found. lacks.missing
          (no_more_rows p.rows mid.0.known new.0.known (knows.all lacks.full) kept.known asked.rows.are found.0 lacks.row found.1),
    );
    stays_full = λ none. asked.stays_full lacks.full;
    rows = asked.rows;
  }

  -- a want of room
  pub lacks : (old new : Told) (fs : Facts) → OnPath fs → IsLearned p.rows fs old new learned.Full → LacksRow p q new
  lacks old new fs on (part, full) =
      let (y, (f, among, is), unknown) = part.missing in
      record {
        full = full;
        row = y;
        of_path = λ v facts passed. (f, on v facts passed f among, is);
        missing = unknown;
      }

  -- each word of a way is one of SLL's path
  way_on_path : IsPlan p → All IsSymbol q.word → (start k : ℕ) → IsStartOf p.net q.decision q.condition start → (view : View (List Config))
      (y : List Config) (fs : Facts) → k ≤ length q.word → Came StartsAt LeadsTo p start (columns_of p.net q.word) k view y fs → OnPath fs
  way_on_path plan symbols start k is_start view y fs le came v facts passed f among =
      let way = sll_way p q.decision q.condition start q.word v facts view plan symbols passed is_start in
      let many : length (columns_of p.net q.word) ≡ length q.word = length-map q.word (column_of p.net) in
      subst (λ (gs : Facts). Among f gs) (sym way.are)
      (came_within StartsAt LeadsTo one_start one_led p start (columns_of p.net q.word) way.k k (code_of v) view way.y y way.before fs
      way.within (omega arith) way.came way.leads came f among)

  -- a cell alone
  pub cell_on : (f : Fact (List Config)) (fs : Facts) → OnPath (fs ++ f ∷ []) → OnPath (f ∷ [])
  cell_on f fs on v facts passed g among = on v facts passed g (among_right g fs (f ∷ []) among)

  module _ (k row : ℕ) (now : Told) (came : CameTo p q k row now) where
    -- the row has its own members, to which SLL comes
    pub here_row : IsRow came.content (Contains came.content)
    here_row = stopped_row p q.decision q.condition came.start k q.word came.view came.content came.before came.is_start came.symbols
        came.came

    pub here_reached : (c : Config) → Contains came.content c → IsReached p.net.net c
    here_reached = stopped_reached p q.decision q.condition came.start k q.word came.view came.content came.before came.is_start
        came.symbols came.came

    -- what SLL says from there on makes its path, with the words of the way
    pub here_says : (v : Verdict) (looked : List Looked) → SllFrom p.net.net (Contains came.content) (drop k q.word) k v looked
        → IsPath p q v (came.before ++ cells_of came.content (map (stored_entry p.net) looked))
    here_says v looked says =
        stopped_says p q.decision q.condition came.start k q.word came.view came.content came.before came.is_start came.symbols came.came
        came.within v looked says

    -- the same of a pass that has seen and knows more
    abbrev pub came_kept : (new : Told) → Keeps p q now new → CameTo p q k row new
    came_kept new kept = record {
      plan = came.plan;
      symbols = came.symbols;
      ends = came.ends;
      ahead = came.ahead;
      number = came.number;
      start = came.start;
      is_start = came.is_start;
      view = came.view;
      content = came.content;
      before = came.before;
      within = came.within;
      came = came.came;
      known = kept.known row came.content came.known;
      seen = λ f among. kept.seen f (came.seen f among);
    }

    -- a way with END does not lead past it
    pub not_at_end : k ≡ length q.word → ⊥
    not_at_end last =
        let many : length (columns_of p.net q.word) ≡ length q.word = length-map q.word (column_of p.net) in
        let whole : k ≡ length (columns_of p.net q.word) = last ∙ sym many in
        not_open p p.net q.decision q.condition came.start q.word now.0 now.0 refl came.plan.ready came.is_start came.symbols came.ends (
          came.content,
          came.before,
          subst (λ (n : ℕ). Came StartsAt LeadsTo p came.start (columns_of p.net q.word) n now.0 came.content came.before) whole
              (record {
                first = came.came.first;
                starts_so = came.came.starts_so;
                on = came.came.on;
                along = came.came.along;
                facts = came.came.facts;
              }),
          (λ f. ((λ h. inl h), (λ h. elim h [ inl before ↦ before | inr on ↦ came.seen f on ]))),
        )

    module _ (a : ℕ) (next : IsNext q k a) where
      pub next_symbol : IsSymbol a
      next_symbol = subst IsSymbol next.1 (All-get_or IsSymbol q.word k 0 next.0 came.symbols)

      column : get_or (columns_of p.net q.word) k 0 ≡ column_of p.net a
      column = get_or-map (column_of p.net) q.word k 0 0 next.0 ∙ ap (column_of p.net) next.1

      pub rest : drop k q.word ≡ a ∷ drop (k + 1) q.word
      rest =
          let one : drop k q.word ≡ get_or q.word k 0 ∷ drop (k + 1) q.word = let lt = next.0 in rw (add-one, drop-cons q.word k 0) in
          one ∙ ap (λ (n : ℕ). n ∷ drop (k + 1) q.word) next.1

      -- SLL comes on to the row of a learned cell
      abbrev pub row_cell : List Config → ℕ → Fact (List Config)
      row_cell z mark = Cell came.content (column_of p.net a) (Row z mark)

      pub came_on : (z : List Config) (mark : ℕ) → LeadsTo p.net came.content (column_of p.net a) (Row z mark)
          → Came StartsAt LeadsTo p came.start (columns_of p.net q.word) (k + 1) came.view z (came.before ++ row_cell z mark ∷ [])
      came_on z mark leads =
          let many : length (columns_of p.net q.word) ≡ length q.word = length-map q.word (column_of p.net) in
          let lt : k < length (columns_of p.net q.word) = let a = next.0 in omega arith in
          subst (λ (n : ℕ). Came StartsAt LeadsTo p came.start (columns_of p.net q.word) (k + 1) came.view z
          (came.before ++ Cell came.content n (Row z mark) ∷ [])) column
          (came_next StartsAt LeadsTo p came.start (columns_of p.net q.word) k came.view came.content z mark came.before lt came.came
          (subst (λ (n : ℕ). LeadsTo p.net came.content n (Row z mark)) (sym column) leads))

      pub row_on_path : (z : List Config) (mark : ℕ) → LeadsTo p.net came.content (column_of p.net a) (Row z mark)
          → OnPath (row_cell z mark ∷ [])
      row_on_path z mark leads =
          cell_on (row_cell z mark) came.before
          (way_on_path came.plan came.symbols came.start (k + 1) came.is_start came.view z (came.before ++ row_cell z mark ∷ [])
          (let a = next.0 in omega arith) (came_on z mark leads))

      abbrev pub came_next_to : (z : List Config) (mark to : ℕ) (new : Told) → LeadsTo p.net came.content (column_of p.net a) (Row z mark)
          → Keeps p q now new → KnowsRows p.rows new → Among (to, z) new.0.known → Among (row_cell z mark) new.0.seen
          → CameTo p q (k + 1) to new
      came_next_to z mark to new leads kept rows known seen = record {
        plan = came.plan;
        symbols = came.symbols;
        ends = came.ends;
        ahead = came.ahead;
        number = rows.are.within to z known;
        start = came.start;
        is_start = came.is_start;
        view = came.view;
        content = z;
        before = came.before ++ row_cell z mark ∷ [];
        within = let a = next.0 in omega arith;
        came = came_on z mark leads;
        known = known;
        seen = λ f among. elim (among_either f came.before (row_cell z mark ∷ []) among) [
          | inl before ↦ kept.seen f (came.seen f before)
          | inr on ↦ elim on [
            | inl is ↦ subst (λ (g : Fact (List Config)). Among g new.0.seen) (sym is) seen
            | inr never ↦ absurd never
          ]
        ];
      }

      -- SLL ends by a learned cell
      abbrev pub end_cell : ℕ → Fact (List Config)
      end_cell code = Cell came.content (column_of p.net a) (End code)

      pub end_passed : (code : ℕ) → LeadsTo p.net came.content (column_of p.net a) (End code)
          → IsPath p q (verdict_at code k) (came.before ++ end_cell code ∷ [])
      end_passed code leads =
          let last = ends_says p.net came.content (Contains came.content) a code k (drop (k + 1) q.word)
          (leads.each a next_symbol refl).1 in
          subst (λ (gs : Facts). IsPath p q (verdict_at code k) (came.before ++ gs)) last.2
          (here_says (verdict_at code k) last.0
          (subst (λ (w : List ℕ). SllFrom p.net.net (Contains came.content) w k (verdict_at code k) last.0) (sym rest) last.1))

      pub end_on_path : (code : ℕ) → LeadsTo p.net came.content (column_of p.net a) (End code) → OnPath (end_cell code ∷ [])
      end_on_path code leads v facts passed f among =
          subst (λ (gs : Facts). Among f gs)
          (one_passed p came.plan q.decision q.condition q.word (verdict_at code k) v (came.before ++ end_cell code ∷ []) facts
          (end_passed code leads) passed).1
          (among_right f came.before (end_cell code ∷ []) among)

      pub asked_end : (code : ℕ) (v : Verdict) (new : Told) → v ≡ verdict_at code k
          → LeadsTo p.net came.content (column_of p.net a) (End code) → Keeps p q now new → Among (end_cell code) new.0.seen
          → new.1 ≡ now.1 → KnowsRows p.rows new → Asked p q.decision q.condition q.word v now new
      asked_end code v new is leads kept seen same rows =
          asked_all now new v (came.before ++ end_cell code ∷ [])
          (subst (λ (u : Verdict). IsPath p q u (came.before ++ end_cell code ∷ [])) (sym is) (end_passed code leads))
          (λ f among. elim (among_either f came.before (end_cell code ∷ []) among) [
            | inl before ↦ kept.seen f (came.seen f before)
            | inr on ↦ elim on [
              | inl same ↦ subst (λ (g : Fact (List Config)). Among g new.0.seen) (sym same) seen
              | inr never ↦ absurd never
            ]
          ]) same rows

      -- an end needs no room
      never_full : (code : ℕ) (new : Told) → LearnsPart p.rows (end_cell code ∷ []) now.0 new.0 → ⊥
      never_full code new part =
          let (y, (f, among, is), unknown) = part.missing in
          let same : f ≡ end_cell code = elim among [ inl e ↦ e | inr never ↦ absurd never ] in
          let here : came.content ≡ y =
          subst (λ (g : Fact (List Config)). IsIn y g) same is in
          unknown (
            row,
            subst (λ (z : List Config). Among (row, z) new.0.known) here
                (part.learns.known_kept row came.content came.known),
          )

      pub asked_learned : (code : ℕ) (v : Verdict) (new : Told) (l : Learned) → v ≡ verdict_at code k
          → LeadsTo p.net came.content (column_of p.net a) (End code) → IsLearned p.rows (end_cell code ∷ []) now new l
          → KnowsRows p.rows new → Asked p q.decision q.condition q.word v now new
      asked_learned code v new learned.All is leads (all, same) rows =
          asked_end code v new is leads (keeps_learned now new (end_cell code ∷ []) learned.All (end_on_path code leads) (all, same))
          ((all.learns.seen (end_cell code)).1 (inr (inl refl, all.whole (end_cell code) (inl refl)))) same rows
      asked_learned code v new learned.Full is leads (part, full) rows = absurd (never_full code new part)

-- a walk that stopped came to a row
pub walk_came : (p : Plan Tables) (d condition : ℕ) (word : List ℕ) (old new : Told) (row at : ℕ) → IsPlan p → All IsSymbol word
    → Contains word end_of_list → ((j : ℕ) → j < length word → Contains (drop j word) end_of_list)
    → Walks p d condition word old.0 new.0 (NoEdge row at) → KnowsRows p.rows new
    → CameTo p (record { decision = d; condition = condition; word = word }) at row new
walk_came p d condition word old new row at plan symbols ends ahead walked rows =
    let (content, before, lt, came, known, saw) = walked.walked.1 in
    record {
      plan = plan;
      symbols = symbols;
      ends = ends;
      ahead = ahead;
      number = rows.are.within row content known;
      start = walked.start;
      is_start = walked.is_start;
      view = old.0;
      content = content;
      before = before;
      within = omega arith;
      came = came;
      known = known;
      seen = λ f among. (saw f).1 (inr among);
    }

-- the start of a decision under a condition is on its path
pub start_on_path : (p : Plan Tables) (q : Question) → IsPlan p → (i : ℕ) → IsStartOf p.net q.decision q.condition i → (y : List Config)
    → IsRow y (Start p.net.net q.decision (AllowedAt p.net.net q.decision q.condition) wildcard) → OnPath p q (fact.Start i y ∷ [])
start_on_path p q plan i is_start y is v facts passed f among =
    let same : i ≡ passed.start =
    one_start_of p.net q.decision q.condition i passed.start plan.tables.starts is_start passed.is_start in
    let row : y ≡ passed.path.start =
    one_row (Start p.net.net q.decision (AllowedAt p.net.net q.decision q.condition) wildcard) y passed.path.start is passed.sll.0 in
    let cells = cells_of passed.path.start (map (stored_entry p.net) passed.path.looked) in
    let here : Among f (fact.Start passed.start passed.path.start ∷ cells) = elim among [
      | inl e ↦ inl (e ∙ (ap (λ (n : ℕ). fact.Start n y) same ∙ ap (λ (x : List Config). fact.Start passed.start x) row))
      | inr never ↦ absurd never
    ] in
    subst (λ (gs : Facts). Among f gs) (sym passed.are) here

-- where the start was read, its row is that to which no symbols lead
module _ (p : Plan Tables) (q : Question) (plan : IsPlan p) (symbols : All IsSymbol q.word)
    (ends : Contains q.word end_of_list) (ahead : (j : ℕ) → j < length q.word → Contains (drop j q.word) end_of_list)
    (row : ℕ) (old new : Told) (begins : Begins p.net q.decision q.condition old.0 new.0 (Some row))
    (kept : walks.Keeps old.0 new.0) (rows : KnowsRows p.rows new) where
  pub start_keeps : Keeps p q old new
  start_keeps =
      let (i, is_start, (y, starts, known, saw)) = begins in
      keeps_saw p q old new (fact.Start i y ∷ [])
      (start_on_path p q plan i is_start y (starts_so p.net q.decision q.condition i y is_start starts)) saw kept

  pub start_came : CameTo p q 0 row new
  start_came =
      let (i, is_start, (y, starts, known, saw)) = begins in
      record {
        plan = plan;
        symbols = symbols;
        ends = ends;
        ahead = ahead;
        number = rows.are.within row y known;
        start = i;
        is_start = is_start;
        view = new.0;
        content = y;
        before = fact.Start i y ∷ [];
        within = omega arith;
        came = came_first StartsAt LeadsTo p i (columns_of p.net q.word) new.0 y starts;
        known = known;
        seen = λ f among. (saw f).1 (inr among);
      }

-- a start that was learned is read
pub start_read : (p : Plan Tables) (q : Question) (i : ℕ) (y : List Config) (old mid new : Told)
    → IsStartOf p.net q.decision q.condition i → IsLearned p.rows (fact.Start i y ∷ []) old mid learned.All
    → Begins p.net q.decision q.condition mid.0 new.0 None → ⊥
start_read p q i y old mid new is_start (all, same) (none, saw) =
    none i is_start y ((all.learns.seen (fact.Start i y)).1 (inr (inl refl, all.whole (fact.Start i y) (inl refl))))

-- the rest of a word, and its symbols
module _ (tokens : List Token) (q : Question) (at index : ℕ) (t : Token) (rest : drop at q.word ≡ word_of tokens)
    (less : index < length tokens) where
  pub next_is : IsNext q (at + index) (get_or tokens index t).symbol
  next_is =
      let many : length (word_of tokens) ≡ length tokens = length-map tokens (λ (x : Token). x.symbol) in
      let left = length-drop at q.word in
      let long : length (drop at q.word) ≡ length (word_of tokens) = ap length rest in
      let symbol : get_or (word_of tokens) index 0 ≡ (get_or tokens index t).symbol =
      get_or-map (λ (x : Token). x.symbol) tokens index t 0 less in (
        omega arith,
        sym (get_or-drop at q.word index 0) ∙ (ap (λ (w : List ℕ). get_or w index 0) rest ∙ symbol),
      )

-- a place of the rest is one of the word
pub place_is : (tokens : List Token) (q : Question) (at index : ℕ) → drop at q.word ≡ word_of tokens → index < length tokens
    → at + index < length q.word
place_is tokens q at index rest less =
    let many : length (word_of tokens) ≡ length tokens = length-map tokens (λ (x : Token). x.symbol) in
    let left = length-drop at q.word in
    let long : length (drop at q.word) ≡ length (word_of tokens) = ap length rest in omega arith

-- the rest from a further place on
pub rest_on : (tokens : List Token) (q : Question) (at index : ℕ) → drop at q.word ≡ word_of tokens
    → drop (at + index) q.word ≡ word_of (from_on index tokens)
rest_on tokens q at index rest =
    let whole : drop index (drop at q.word) ≡ drop (at + index) q.word = drop-drop index at q.word in
    sym whole ∙ (ap (drop index) rest ∙ sym (word_from index tokens))
