-- What a step is by what was found, or made and learned.
use Rattle.std.proofs.Common.{◌≡◌, ◌⊎◌, ◌+◌, inl, inr, ℕ, suc, List, [], ◌∷◌, ◌++◌, Contains, drop, map, refl, sym, ◌∙◌, ap, subst, arith}
use Rattle.g4_classes.specs.Classes.{IsSymbol}
use Rattle.g4_decide.proofs.Going.{OnPath, asked_from, asked_learned, came_kept, came_next_to, end_on_path, asked_end, asked_lacking, here_row, here_says, keeps_learned, keeps_saw, lacks, next_symbol, rest, row_on_path}
use Rattle.g4_decide.proofs.Telling.{learned_asks}
use Rattle.g4_decide.specs.Asked.{Asked, HaveCodes, Told}
use Rattle.g4_decide.specs.Going.{CameTo, IsNext, IsPath, IsStep, Keeps, LacksRow, Question}
use Rattle.g4_decide.specs.declared.stepping.Step.{Step}
use Rattle.g4_decide.specs.declared.stepping.Step.TheVariants as step
use Rattle.g4_guards.specs.Levels.{AllowedAt}
use Rattle.g4_learned.proofs.Alike.{goes_on_same, matters_same, next_of_same}
use Rattle.g4_learned.proofs.Seeing.{one_passed}
use Rattle.g4_learned.proofs.Paths.{has_code, leads_by, same_as_row}
use Rattle.g4_learned.specs.Automata.{EndsAs, IsLed, LeadsTo, code_of, verdict_at}
use Rattle.g4_learned.specs.Stored.{stored_entry}
use Rattle.g4_learned.specs.Tables.{Tables, column_of}
use Rattle.g4_learned.specs.Unique.{one_led}
use Rattle.g4_learned.specs.Walks.{Finds}
use Rattle.g4_learned.specs.declared.target.Target.{Target}
use Rattle.g4_learned.specs.declared.target.Target.TheVariants.{NotLearned}
use Rattle.g4_learned.specs.declared.target.Target.TheVariants as target
use Rattle.g4_lookahead.proofs.Judging.{AreSame, empty_same, only_same, row_of_set}
use Rattle.g4_net.specs.Configurations.{Config, IsRow}
use Rattle.g4_net.specs.Lookahead.{Next}
use Rattle.g4_net.specs.Network.{ParserNetwork}
use Rattle.g4_net.specs.Prediction as prediction
use Rattle.g4_predict.proofs.Ending.{last_entry, sll_ends}
use Rattle.g4_predict.specs.declared.verdict.Verdict.{Verdict}
use Rattle.g4_predict.specs.declared.verdict.Verdict.TheVariants.{Answer, ErrorAt, Sensitive}
use Rattle.g4_predict.specs.Paths.{verdict_of}
use Rattle.g4_predict.specs.declared.sll.Seen.{Seen}
use Rattle.g4_predict.specs.declared.sll.Seen.TheVariants as sees
use Rattle.g4_predict.specs.Verdicts.{EndsWith, IsOnward, IsSeen}
use Rattle.g4_store.specs.declared.automaton.Fact.{Fact}
use Rattle.g4_store.specs.declared.automaton.Fact.TheVariants.{Cell}
use Rattle.g4_store.specs.declared.automaton.Led.{Led}
use Rattle.g4_store.specs.declared.automaton.Led.TheVariants.{End, Row}
use Rattle.g4_store.specs.declared.automaton.Plan.{Plan}
use Rattle.g4_store.specs.declared.book.Learned.{Learned}
use Rattle.g4_store.specs.declared.book.Learned.TheVariants as learned
use Rattle.g4_store.specs.Known.{KnowsRows}
use Rattle.g4_store.specs.Learned.{IsLearned}
use Rattle.g4_store.proofs.Lists.{among_either, among_right}
use Rattle.g4_store.specs.Numbers.{Among}
use Rattle.g4_store.specs.Paths.{cells_of}
use Rattle.g4_store.specs.Walks as walks

-- where SLL ends with a verdict, its code is that of the end
ends_as : (D : Config → Type 0) (k : ℕ) (v : Verdict) → EndsWith D k v → EndsAs D (code_of (verdict_of v))
ends_as D k (Answer i) only = let e : i + 2 ≡ suc (suc i) = omega arith in subst (EndsAs D) (sym e) only
ends_as D k (ErrorAt j) (is, empty) = empty
ends_as D k (Sensitive j) (is, several, matters) = (several, matters)

pub verdict_so : (D : Config → Type 0) (k : ℕ) (v : Verdict) → EndsWith D k v → verdict_of v ≡ verdict_at (code_of (verdict_of v)) k
verdict_so D k (Answer i) only =
    let e : i + 2 ≡ suc (suc i) = omega arith in ap (λ (n : ℕ). verdict_at n k) (sym e)
verdict_so D k (ErrorAt j) (is, empty) = ap prediction.error_at is
verdict_so D k (Sensitive j) (is, several, matters) = ap prediction.sensitive is

-- what is seen after a set is seen after the members of its row
ends_same : (D E : Config → Type 0) → AreSame D E → (k : ℕ) (v : Verdict) → EndsWith D k v → EndsWith E k v
ends_same D E same k (Answer i) only = only_same D E (λ c. (same c).0) (λ c. (same c).1) i only
ends_same D E same k (ErrorAt j) (is, empty) = (is, empty_same D E (λ c. (same c).0) (λ c. (same c).1) empty)
ends_same D E same k (Sensitive j) (is, several, matters) = (
  is,
  (λ i only. several i (only_same E D (λ c. (same c).1) (λ c. (same c).0) i only)),
  matters_same D E same matters,
)

seen_same : (net : ParserNetwork) (D E : Config → Type 0) → AreSame D E → (k : ℕ) (s : Seen) → IsSeen net D k s → IsSeen net E k s
seen_same net D E same k (sees.Ended v) ends = ends_same D E same k v ends
seen_same net D E same k (sees.Onward set) onward = record {
  members = λ c. ((λ h. (same c).0 ((onward.members c).0 h)), (λ h. (onward.members c).1 ((same c).1 h)));
  within = onward.within;
  row = onward.row;
  goes_on = onward.goes_on;
}

pub seen_here : (net own : ParserNetwork) → net ≡ own → (row : List Config) (H : Config → Type 0) → IsRow row H → (a k : ℕ) (s : Seen)
    → IsSeen net (Next net H a) k s → IsSeen own (Next own (Contains row) a) k s
seen_here net own same row H is a k s saw =
    subst (λ (n : ParserNetwork). IsSeen n (Next n (Contains row) a) k s) same
    (seen_same net (Next net H a) (Next net (Contains row) a) (next_of_same net a H (Contains row) (same_as_row row H is)) k s saw)

-- where SLL looks on, the row of the next set is led to
pub onward_led : (net : ParserNetwork) (D H : Config → Type 0) (row : List Config) → IsOnward net D H → IsRow row H → IsLed D (Row row 0)
onward_led net D H row onward is = (refl, goes_on_same H D onward.members onward.goes_on, row_of_set row H D onward.members is)

module _ (p : Plan Tables) (q : Question) (k row : ℕ) (now : Told) (came : CameTo p q k row now) (a : ℕ) (next : IsNext q k a) where
  abbrev D : Config → Type 0
  D = Next p.net.net (Contains came.content) a

  abbrev column : ℕ
  column = column_of p.net a

  -- what was found

  pub found_keeps : (new : Told) (t : Target) → Finds p.net came.content a k now.0 new.0 t → walks.Keeps now.0 new.0 → Keeps p q now new
  found_keeps new NotLearned (none, saw) kept = keeps_saw p q now new [] (λ v facts passed f among. absurd among) saw kept
  found_keeps new (target.Row to) (z, mark, leads, known, saw) kept =
      keeps_saw p q now new (Cell came.content column (Row z mark) ∷ []) (row_on_path p q k row now came a next z mark leads) saw kept
  found_keeps new (target.Ended v) (code, is, leads, saw) kept =
      keeps_saw p q now new (Cell came.content column (End code) ∷ []) (end_on_path p q k row now came a next code leads) saw kept

  pub found_row : (new : Told) (to : ℕ) → Finds p.net came.content a k now.0 new.0 (target.Row to) → walks.Keeps now.0 new.0
      → KnowsRows p.rows new → (on : CameTo p q (k + 1) to new) × IsRow on.content D
  found_row new to finds kept rows =
      let (z, mark, leads, known, saw) = finds in (
        came_next_to p q k row now came a next z mark to new leads (found_keeps new (target.Row to) finds kept) rows known
            ((saw (Cell came.content column (Row z mark))).1 (inr (inl refl))),
        (leads.each a (next_symbol p q k row now came a next) refl).2,
      )

  pub found_end : (new : Told) (v : Verdict) → Finds p.net came.content a k now.0 new.0 (target.Ended v) → walks.Keeps now.0 new.0
      → new.1 ≡ now.1 → KnowsRows p.rows new → Asked p q.decision q.condition q.word (verdict_of v) now new
  found_end new v finds kept same rows =
      let (code, is, leads, saw) = finds in
      asked_end p q k row now came a next code (verdict_of v) new is leads (found_keeps new (target.Ended v) finds kept)
      ((saw (Cell came.content column (End code))).1 (inr (inl refl))) same rows

  -- what was made

  pub symbol : IsSymbol a
  symbol = next_symbol p q k row now came a next

  -- a verdict
  pub ends_led : (v : Verdict) → EndsWith D k v → IsLed D (End (code_of (verdict_of v)))
  ends_led v ends =
      let says = sll_ends p.net.net (Contains came.content) a (drop (k + 1) q.word) k v ends in
      let passed = here_says p q k row now came (verdict_of v) (last_entry a (verdict_of v) ∷ [])
      (subst (λ (w : List ℕ). prediction.SllFrom p.net.net (Contains came.content) w k (verdict_of v)
      (last_entry a (verdict_of v) ∷ [])) (sym (rest p q k row now came a next)) says) in (
        has_code p came.plan q.decision (AllowedAt p.net.net q.decision q.condition) q.word (verdict_of v) passed.path passed.sll,
        ends_as D k v ends,
      )

  leads_so : (l : Led (List Config)) → IsLed D l → LeadsTo p.net came.content column l
  leads_so l led = leads_by p came.plan came.content (Contains came.content) a l (here_row p q k row now came) symbol led

  pub made_end_keeps : (v : Verdict) → EndsWith D k v → (new : Told) (l : Learned)
      → IsLearned p.rows (Cell came.content column (End (code_of (verdict_of v))) ∷ []) now new l → Keeps p q now new
  made_end_keeps v ends new l is =
      let code = code_of (verdict_of v) in
      keeps_learned p q now new (Cell came.content column (End code) ∷ []) l
      (end_on_path p q k row now came a next code (leads_so (End code) (ends_led v ends))) is

  pub made_end : (v : Verdict) → EndsWith D k v → (new : Told) (l : Learned)
      → IsLearned p.rows (Cell came.content column (End (code_of (verdict_of v))) ∷ []) now new l → KnowsRows p.rows new
      → Asked p q.decision q.condition q.word (verdict_of v) now new
  made_end v ends new l is rows =
      let code = code_of (verdict_of v) in
      asked_learned p q k row now came a next code (verdict_of v) new l (verdict_so D k v ends) (leads_so (End code) (ends_led v ends)) is
      rows

  -- a row
  module _ (H : Config → Type 0) (onward : IsOnward p.net.net D H) (z : List Config) (is : IsRow z H) where
    abbrev cell : Fact (List Config)
    cell = Cell came.content column (Row z 0)

    pub made_led : IsLed D (Row z 0)
    made_led = onward_led p.net.net D H z onward is

    made_leads : LeadsTo p.net came.content column (Row z 0)
    made_leads = leads_so (Row z 0) made_led

    on_path : OnPath p q (cell ∷ [])
    on_path = row_on_path p q k row now came a next z 0 made_leads

    pub made_row_keeps : (new : Told) (l : Learned) → IsLearned p.rows (cell ∷ []) now new l → Keeps p q now new
    made_row_keeps new l learned = keeps_learned p q now new (cell ∷ []) l on_path learned

    pub made_row_lacks : (new : Told) → IsLearned p.rows (cell ∷ []) now new learned.Full → CameTo p q k row new × LacksRow p q new
    made_row_lacks new full = (
      came_kept p q k row now came new (made_row_keeps new learned.Full full),
      lacks p q now new (cell ∷ []) on_path full,
    )

    module _ (mid : Told) (all : IsLearned p.rows (cell ∷ []) now mid learned.All) where
      abbrev pub made_here : CameTo p q k row mid
      made_here = came_kept p q k row now came mid (made_row_keeps mid learned.All all)

      seen : Among cell mid.0.seen
      seen = (all.0.learns.seen cell).1 (inr (inl refl, all.0.whole cell (inl refl)))

      pub made_is_learned : (new : Told) → Finds p.net came.content a k mid.0 new.0 NotLearned → ⊥
      made_is_learned new (none, saw) = none (Row z 0) seen

      pub made_no_end : (new : Told) (v : Verdict) → Finds p.net came.content a k mid.0 new.0 (target.Ended v) → ⊥
      made_no_end new v (code, same, leads, saw) =
          let e : Row z 0 ≡ End code = one_led p.net came.content column (Row z 0) (End code) made_leads leads in absurd cc

-- the set at hand is that of the row that was found
pub set_at_hand : (net : ParserNetwork) (D H : Config → Type 0) (row : List Config) → IsOnward net D H → IsRow row D → IsRow row H
set_at_hand net D H row onward is = row_of_set row D H (λ c. ((onward.members c).1, (onward.members c).0)) is

-- a want of room, where something was done before without a new one
pub lacks_from : (p : Plan Tables) (q : Question) (old mid new : Told) → mid.1 ≡ old.1 → LacksRow p q new ⊎ (new.1 ≡ mid.1)
    → LacksRow p q new ⊎ (new.1 ≡ old.1)
lacks_from p q old mid new same (inl lacks) = inl lacks
lacks_from p q old mid new same (inr stays) = inr (stays ∙ same)

-- what came of a step, where something was done before without a new want of room
pub step_from : (p : Plan Tables) (q : Question) (k : ℕ) (old mid new : Told) (s : Step) → mid.1 ≡ old.1 → IsStep p q k mid new s
    → IsStep p q k old new s
step_from p q k old mid new (step.Ended v) same asked = asked_from p q old mid new (verdict_of v) same asked
step_from p q k old mid new (step.Onward here) same (is, full) = (is, full ∙ same)
step_from p q k old mid new (step.NoRoom row) same (came, lacks, knows) = (came, lacks_from p q old mid new same lacks, knows)

-- Where there was no room, the rest of SLL's path was looked at and learned at once.
module _ (p : Plan Tables) (q : Question) (k row : ℕ) (mid : Told) (came : CameTo p q k row mid) where
  -- what SLL says from there on has a code
  pub here_codes : HaveCodes p.net.net came.content (drop k q.word) k
  here_codes v looked says =
      let passed = here_says p q k row mid came v looked says in
      has_code p came.plan q.decision (AllowedAt p.net.net q.decision q.condition) q.word v passed.path passed.sll

  module _ (new : Told) (v : prediction.Verdict) (looked : List prediction.Looked)
      (says : prediction.SllFrom p.net.net (Contains came.content) (drop k q.word) k v looked) (l : Learned)
      (is : IsLearned p.rows (cells_of came.content (map (stored_entry p.net) looked)) mid new l) where
    abbrev cells : List (Fact (List Config))
    cells = cells_of came.content (map (stored_entry p.net) looked)

    passed : IsPath p q v (came.before ++ cells)
    passed = here_says p q k row mid came v looked says

    cells_on : OnPath p q cells
    cells_on u facts other f among =
        subst (λ (gs : List (Fact (List Config))). Among f gs)
        (one_passed p came.plan q.decision q.condition q.word v u (came.before ++ cells) facts passed other).1
        (among_right f came.before cells among)

    pub rest_keeps : Keeps p q mid new
    rest_keeps = keeps_learned p q mid new cells l cells_on is

    asks : KnowsRows p.rows new → Asked p q.decision q.condition q.word v mid new
    asks rows =
        learned_asks p q.decision q.condition q.word came.plan v (came.before ++ cells) passed cells
        (λ f among. among_right f came.before cells among) mid mid new l
        (λ f among. elim (among_either f came.before cells among) [
          | inl before ↦ inl (came.seen f before)
          | inr late ↦ inr late
        ]) refl is rows

    pub rest_asked : (old : Told) → LacksRow p q mid ⊎ (mid.1 ≡ old.1) → KnowsRows p.rows mid → KnowsRows p.rows new
        → Asked p q.decision q.condition q.word v old new
    rest_asked old (inl lacks) knows rows = asked_lacking p q old mid new v lacks knows rest_keeps (asks rows)
    rest_asked old (inr same) knows rows = asked_from p q old mid new v same (asks rows)
