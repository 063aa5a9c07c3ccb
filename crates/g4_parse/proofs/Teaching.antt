-- What turns leave the pass, from the run's beginning to its end.
use Rattle.std.proofs.Common.{◌≡◌, ◌⊎◌, inl, inr, ℕ, List, drop, true≢false, refl, sym, ◌∙◌, ap, subst}
use Rattle.std.specs.Prelude.{Bool, true, false}
use Rattle.g4_decide.specs.Asked.{Asked, KeepsToPath, Told}
use Rattle.g4_guards.specs.Levels.{AllowSame, IsCondition, IsDecision}
use Rattle.g4_learned.proofs.Seeing.{one_passed_alike}
use Rattle.g4_learned.specs.Stored.{IsPlan}
use Rattle.g4_learned.specs.Tables.{Tables}
use Rattle.g4_net.specs.Configurations.{Config}
use Rattle.g4_net.specs.Network.{state_at}
use Rattle.g4_net.specs.Prediction.{Verdict}
use Rattle.g4_run.proofs.OneEnding.{goes_once, never_both}
use Rattle.g4_run.specs.Running.{Comes, comes_on, comes_there, Ending, Goes, Reaches, Run, Stops, beginning, deepest, Values}
use Rattle.g4_store.specs.declared.automaton.Fact.{Fact}
use Rattle.g4_store.specs.declared.automaton.Plan.{Plan}
use Rattle.g4_store.specs.Known.{KnowsRows}
use Rattle.g4_store.specs.Numbers.{Among}
use Rattle.g4_store.specs.Paths.{InKnown, Within}
use Rattle.g4_store.proofs.Following as following
use Rattle.g4_store.proofs.Known.{no_more_rows}
use Rattle.g4_parse.specs.Standing.{StandsFor}
use Rattle.g4_parse.specs.declared.parser.Parser.{Parser}
use Rattle.g4_parse.specs.Teaching.{HasKept, HasPassedRow, IsConditionAt, IsPassed, IsPassedAt, IsTaught}

-- what is kept in two steps
pub kept_then : (a b c : Told) → HasKept a b → HasKept b c → HasKept a c
kept_then a b c h g = record {
  seen = λ f x. g.seen f (h.seen f x);
  taught = λ f x. g.taught f (h.taught f x);
  known = λ t y x. g.known t y (h.known t y x);
  holds = g.holds ∙ h.holds;
  count = g.count ∙ h.count;
}

pub kept_same : (a : Told) → HasKept a a
kept_same a = record { seen = λ f x. x; taught = λ f x. x; known = λ t y x. x; holds = refl; count = refl }

pub keeps_kept : (p : Plan Tables) (d level : ℕ) (word : List ℕ) (old new : Told) → KeepsToPath p d level word old new → HasKept old new
keeps_kept p d level word old new k =
    record { seen = k.seen; taught = k.taught; known = k.known; holds = k.holds; count = k.count }

-- What is left so far, at a moment of the run, of the moments that do not come after this one.
pub record IsTaughtTo (p : Plan Tables) (values : Values) (word : List ℕ) (r : Run) (old new : Told) : Type 0 where
  pub within : (f : Fact (List Config)) → Among f new.0.seen → Among f old.0.seen ⊎ IsPassed p.net values word f
  pub teaches : (f : Fact (List Config)) → Among f new.0.taught → Among f old.0.taught ⊎ IsPassed p.net values word f
  pub whole : new.1 ≡ false → (s : Run) → Reaches p.net.net values word s
      → Comes p.net.net values word deepest r s ⊎ ((f : Fact (List Config)) → IsPassedAt p.net values word s f → Among f new.0.seen)
  pub some : (s : Run) → Reaches p.net.net values word s → Comes p.net.net values word deepest r s
      ⊎ ((f : Fact (List Config)) → IsPassedAt p.net values word s f → Within (InKnown new.0.known) f → Among f new.0.seen)
  pub missing : old.1 ≡ false → new.1 ≡ true
      → (y : List Config) × HasPassedRow (IsPassed p.net values word) y × (InKnown new.0.known y → ⊥)
  pub stays_full : old.1 ≡ true → new.1 ≡ true
  pub rows : (((s : Run) → Reaches p.net.net values word s → Comes p.net.net values word deepest r s
      ⊎ ((f : Fact (List Config)) → IsPassedAt p.net values word s f → ⊥)) × (new ≡ old)) ⊎ KnowsRows p.rows new

module _ (p : Plan Tables) (plan : IsPlan p) (values : Values) (word : List ℕ) where
  -- under two conditions of a moment the same alternatives may be taken
  allow_same : (r : Run) (m n : ℕ) → IsConditionAt p.net.net values word r m → IsConditionAt p.net.net values word r n
      → AllowSame p.net.net r.state m n
  allow_same r m n a b i = ((λ h. (b.allows i).1 ((a.allows i).0 h)), λ h. (a.allows i).1 ((b.allows i).0 h))

  -- what asking at the decision of a moment leaves
  module _ (r : Run) (n : ℕ) (under : IsConditionAt p.net.net values word r n) (v : Verdict) (old new : Told)
      (keeps : KeepsToPath p r.state n (drop r.place word) old new) (asked : Asked p r.state n (drop r.place word) v old new) where
    passes_now : (f : Fact (List Config)) → Among f asked.facts → IsPassedAt p.net values word r f
    passes_now f now = record { condition = n; under = under; verdict = v; facts = asked.facts; passed = asked.passed; among = now }

    -- what is passed at the moment is of that path
    among_asked : (f : Fact (List Config)) → IsPassedAt p.net values word r f → Among f asked.facts
    among_asked f passed =
        let same = (one_passed_alike p plan r.state passed.condition n (drop r.place word) passed.verdict v passed.facts asked.facts
        (allow_same r passed.condition n passed.under under) passed.passed asked.passed).1 in
        subst (λ (fs : List (Fact (List Config))). Among f fs) same passed.among

    pub asked_taught : IsTaught p (IsPassedAt p.net values word r) old new
    asked_taught = record {
      within = λ f seen. elim (keeps.within v asked.facts asked.passed f seen) [
        | inl before ↦ inl before
        | inr now ↦ inr (passes_now f now)
      ];
      teaches = λ f told. elim (keeps.teaches v asked.facts asked.passed f told) [
        | inl before ↦ inl before
        | inr now ↦ inr (passes_now f now)
      ];
      whole = λ room f passed. asked.whole room f (among_asked f passed);
      some = λ f passed known. asked.some f (among_asked f passed) known;
      missing = λ room full.
          let (y, (f, among, is), unknown) = asked.missing room full in (y, (f, passes_now f among, is), unknown);
      stays_full = asked.stays_full;
      rows = inr asked.rows;
    }

  -- the same where the parser is
  pub asked_at : (r : Run) (q : Parser) (n : ℕ) (v : Verdict) (old new : Told) → StandsFor q r
      → IsConditionAt p.net.net values word r n → KeepsToPath p q.state n (drop q.place word) old new
      → Asked p q.state n (drop q.place word) v old new → IsTaught p (IsPassedAt p.net values word r) old new
  asked_at r q n v old new h under keeps asked =
      asked_taught r n under v old new
      (subst (λ (d : ℕ). KeepsToPath p d n (drop r.place word) old new) h.state
      (subst (λ (k : ℕ). KeepsToPath p q.state n (drop k word) old new) h.place keeps))
      (subst (λ (d : ℕ). Asked p d n (drop r.place word) v old new) h.state
      (subst (λ (k : ℕ). Asked p q.state n (drop k word) v old new) h.place asked))

  -- at a moment where nothing is passed, nothing is left
  nothing_taught : (r : Run) (told : Told) → ((f : Fact (List Config)) → IsPassedAt p.net values word r f → ⊥)
      → IsTaught p (IsPassedAt p.net values word r) told told
  nothing_taught r told none = record {
    within = λ f seen. inl seen;
    teaches = λ f told. inl told;
    whole = λ room f passed. absurd (none f passed);
    some = λ f passed known. absurd (none f passed);
    missing = λ room full. absurd (true≢false (sym full ∙ room));
    stays_full = λ full. full;
    rows = inl (none, refl);
  }

  -- so it is at a moment without a decision
  pub untaught : (r : Run) (told : Told) → (IsDecision p.net.net r.state → ⊥) → IsTaught p (IsPassedAt p.net values word r) told told
  untaught r told none = nothing_taught r told
      (λ f passed. let start = passed.passed.is_start in
      none (plan.tables.starts.guards passed.passed.start r.state start.0 start.1).0)

  -- and at one whose decision has no condition
  pub unguarded : (r : Run) (told : Told) → ((n : ℕ) → IsCondition p.net.net r.state n → ⊥)
      → IsTaught p (IsPassedAt p.net values word r) told told
  unguarded r told none = nothing_taught r told (λ f passed. none passed.condition passed.under.is)

  pub taught_begins : (told : Told) → IsTaughtTo p values word beginning told told
  taught_begins told = record {
    within = λ f seen. inl seen;
    teaches = λ f told. inl told;
    whole = λ room s reaches. inl reaches;
    some = λ s reaches. inl reaches;
    missing = λ room full. absurd (true≢false (sym full ∙ room));
    stays_full = λ full. full;
    rows = inl ((λ s reaches. inl reaches), refl);
  }

  -- a way from a moment is none, or begins with a step
  begins : (r s : Run) → Comes p.net.net values word deepest r s
      → (r ≡ s) ⊎ ((u : Run) × Goes p.net.net values word deepest r u × Comes p.net.net values word deepest u s)
  begins r _ (comes_there _) = inl refl
  begins r s (comes_on _ t _ way step) = elim (begins r t way) [
    | inl same ↦ inr (s, subst (λ (q : Run). Goes p.net.net values word deepest q s) (sym same) step, comes_there s)
    | inr (u, first, more) ↦ inr (u, first, comes_on u t s more step)
  ]

  -- whether there is room, before and after
  room_before : (mid new : Bool) → (mid ≡ true → new ≡ true) → new ≡ false → mid ≡ false
  room_before true new stays room = absurd (true≢false (sym (stays refl) ∙ room))
  room_before false new stays room = refl

  module _ (r : Run) (reaches : Reaches p.net.net values word r) (old mid new : Told) (before : IsTaughtTo p values word r old mid)
      (kept : HasKept mid new) (taught : IsTaught p (IsPassedAt p.net values word r) mid new) where
    within_more : (f : Fact (List Config)) → Among f new.0.seen → Among f old.0.seen ⊎ IsPassed p.net values word f
    within_more f seen = elim (taught.within f seen) [
      | inl known ↦ before.within f known
      | inr passed ↦ inr (r, reaches, passed)
    ]

    teaches_more : (f : Fact (List Config)) → Among f new.0.taught → Among f old.0.taught ⊎ IsPassed p.net values word f
    teaches_more f told = elim (taught.teaches f told) [
      | inl known ↦ before.teaches f known
      | inr passed ↦ inr (r, reaches, passed)
    ]

    -- where all rows were known, no others are known now
    known_before : mid.1 ≡ true → KnowsRows p.rows mid → (y : List Config) → InKnown new.0.known y → InKnown mid.0.known y
    known_before full rows y (t, m) = elim taught.rows [
      | inl (none, same) ↦ (t, subst (λ (v : Told). Among (t, y) v.0.known) same m)
      | inr now ↦ no_more_rows p.rows mid.0.known new.0.known (rows.all full) kept.known now.are t y m
    ]

    missing_now : (m : Bool) → mid.1 ≡ m → old.1 ≡ false → new.1 ≡ true
        → (y : List Config) × HasPassedRow (IsPassed p.net values word) y × (InKnown new.0.known y → ⊥)
    missing_now true is room full = elim before.rows [
      | inl (none, same) ↦ absurd (true≢false (sym is ∙ (ap (λ (v : Told). v.1) same ∙ room)))
      | inr rows ↦
          let (y, has, unknown) = before.missing room is in
          (y, has, λ known. unknown (known_before is rows y known))
    ]
    missing_now false is room full =
        let (y, (f, passed, names), unknown) = taught.missing is full in
        (y, (f, (r, reaches, passed), names), unknown)

    -- what was seen of a moment before, and of this one
    whole_to : new.1 ≡ false → (s : Run) → Reaches p.net.net values word s
        → Comes p.net.net values word deepest r s ⊎ ((f : Fact (List Config)) → IsPassedAt p.net values word s f → Among f new.0.seen)
    whole_to room s reached = elim (before.whole (room_before mid.1 new.1 taught.stays_full room) s reached) [
      | inl comes ↦ inl comes
      | inr all ↦ inr (λ f passed. kept.seen f (all f passed))
    ]

    some_to : (m : Bool) → mid.1 ≡ m → (s : Run) → Reaches p.net.net values word s → Comes p.net.net values word deepest r s
        ⊎ ((f : Fact (List Config)) → IsPassedAt p.net values word s f → Within (InKnown new.0.known) f → Among f new.0.seen)
    some_to false is s reached = elim (before.whole is s reached) [
      | inl comes ↦ inl comes
      | inr all ↦ inr (λ f passed known. kept.seen f (all f passed))
    ]
    some_to true is s reached = elim before.rows [
      | inl (none, same) ↦ elim (none s reached) [
        | inl comes ↦ inl comes
        | inr unpassed ↦ inr (λ f passed known. absurd (unpassed f passed))
      ]
      | inr rows ↦ elim (before.some s reached) [
        | inl comes ↦ inl comes
        | inr all ↦ inr (λ f passed known. kept.seen f
            (all f passed (following.within_more (InKnown new.0.known) (InKnown mid.0.known) (known_before is rows) f known)))
      ]
    ]

    rows_to : (((s : Run) → Reaches p.net.net values word s → Comes p.net.net values word deepest r s
        ⊎ ((f : Fact (List Config)) → IsPassedAt p.net values word s f → ⊥))
        × ((f : Fact (List Config)) → IsPassedAt p.net values word r f → ⊥) × (new ≡ old)) ⊎ KnowsRows p.rows new
    rows_to = elim taught.rows [
      | inl (none, same) ↦ elim before.rows [
        | inl (never, was) ↦ inl (never, none, same ∙ was)
        | inr rows ↦ inr (subst (λ (v : Told). KnowsRows p.rows v) (sym same) rows)
      ]
      | inr rows ↦ inr rows
    ]

    -- of what is said of each moment before, and of this one, from the next one on
    from_next : (P : Run → Type 0) (next : Run) → Goes p.net.net values word deepest r next → P r → (s : Run)
        → Comes p.net.net values word deepest r s ⊎ P s → Comes p.net.net values word deepest next s ⊎ P s
    from_next P next step here s (inr there) = inr there
    from_next P next step here s (inl comes) = elim (begins r s comes) [
      | inl same ↦ inr (subst P same here)
      | inr (u, first, more) ↦ inl
          (subst (λ (q : Run). Comes p.net.net values word deepest q s)
          (goes_once p.net.net values word (state_at p.net.net r.state) r u next first step) more)
    ]

    -- and where the run stops, of each moment
    of_all : (P : Run → Type 0) (e : Ending) → Stops p.net.net values word deepest r e → P r → (s : Run)
        → Comes p.net.net values word deepest r s ⊎ P s → P s
    of_all P e stop here s (inr there) = there
    of_all P e stop here s (inl comes) = elim (begins r s comes) [
      | inl same ↦ subst P same here
      | inr (u, first, more) ↦ absurd (never_both p.net.net values word (state_at p.net.net r.state) r u e first stop)
    ]

    -- what is said of a moment
    abbrev AllSeen : Run → Type 0
    AllSeen s = (f : Fact (List Config)) → IsPassedAt p.net values word s f → Among f new.0.seen

    abbrev KnownSeen : Run → Type 0
    KnownSeen s = (f : Fact (List Config)) → IsPassedAt p.net values word s f → Within (InKnown new.0.known) f → Among f new.0.seen

    abbrev NonePassed : Run → Type 0
    NonePassed s = (f : Fact (List Config)) → IsPassedAt p.net values word s f → ⊥

    -- a step leads on
    pub taught_on : (next : Run) → Goes p.net.net values word deepest r next → IsTaughtTo p values word next old new
    taught_on next step = record {
      within = within_more;
      teaches = teaches_more;
      whole = λ room s reached. from_next AllSeen next step (λ f passed. taught.whole room f passed) s (whole_to room s reached);
      some = λ s reached. from_next KnownSeen next step (λ f passed known. taught.some f passed known) s (some_to mid.1 refl s reached);
      missing = missing_now mid.1 refl;
      stays_full = λ full. taught.stays_full (before.stays_full full);
      rows = elim rows_to [
        | inl (never, none, same) ↦ inl ((λ s reached. from_next NonePassed next step none s (never s reached)), same)
        | inr rows ↦ inr rows
      ];
    }

    -- and where the run stops, all of it is passed
    pub taught_whole : (e : Ending) → Stops p.net.net values word deepest r e → IsTaught p (IsPassed p.net values word) old new
    taught_whole e stop = record {
      within = within_more;
      teaches = teaches_more;
      whole = λ room f (s, reached, passed). of_all AllSeen e stop (λ g p. taught.whole room g p) s (whole_to room s reached) f passed;
      some = λ f (s, reached, passed) known.
          of_all KnownSeen e stop (λ g p k. taught.some g p k) s (some_to mid.1 refl s reached) f passed known;
      missing = missing_now mid.1 refl;
      stays_full = λ full. taught.stays_full (before.stays_full full);
      rows = elim rows_to [
        | inl (never, none, same) ↦ inl ((λ f (s, reached, passed). of_all NonePassed e stop none s (never s reached) f passed), same)
        | inr rows ↦ inr rows
      ];
    }

  -- the same of a run that has ended, at a moment without a decision
  pub taught_ended : (r : Run) (old new : Told) → Reaches p.net.net values word r → IsTaughtTo p values word r old new
      → (IsDecision p.net.net r.state → ⊥) → (e : Ending) → Stops p.net.net values word deepest r e
      → IsTaught p (IsPassed p.net values word) old new
  taught_ended r old new reaches before none e stop =
      taught_whole r reaches old new new before (kept_same new) (untaught r new none) e stop
