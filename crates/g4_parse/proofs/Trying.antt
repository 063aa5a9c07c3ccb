-- A trial from the run's beginning, step by step.
use Rattle.std.proofs.Common.{◌≡◌, ◌↔◌, ◌<◌, ◌≤◌, ℕ, List, [], ◌∷◌, ◌++◌, drop, length, reverse, Option, Some, None, refl, sym, ◌∙◌, ap, subst, arith, append-nil, append_assoc, true≢false}
use Rattle.std.proofs.lemmas.List.{drop_all}
use Rattle.g4_full.specs.Ahead.{IsCandidate}
use Rattle.g4_fits.specs.Fitting.{Fits}
use Rattle.g4_guards.specs.Levels.{AllowedAt}
use Rattle.std.specs.Prelude.{Bool, IfOk, IfSome, IsTrue, Result, Ok, Err, true, false}
use Rattle.g4_learned.proofs.Rests.{from_on, word_from}
use Rattle.g4_net.specs.AddedRule.{IsReady, IsRunnable}
use Rattle.g4_net.specs.Network.{ParserNetwork, state_at, IsFirst}
use Rattle.g4_net.specs.declared.network.State.{State}
use Rattle.g4_net.specs.declared.network.State.TheVariants.{Decision, End, Edge, Call, Predicate, Level, Action, Empty}
use Rattle.g4_run.specs.Running.{Goes, GoesBy, Run, Values, backs, beginning, deepest}
use Rattle.g4_run.specs.Trials.{TrialEnds, decided, ended, went}
use Rattle.g4_tokens.specs.TokenList.{EndsInEnd, word_of}
use Rattle.g4_tokens.specs.declared.token.Token.{Token}
use Rattle.g4_parse.specs.Foresight.{Tries, TriesBy, TakesBy, at_target}
use Rattle.g4_parse.specs.Standing.{HasEnded, IsFitBy, IsUnderway, StandsFor}
use Rattle.g4_parse.specs.Teaching.{IsConditionAt}
use Rattle.g4_parse.specs.declared.parser.Parser.{Parser}
use Rattle.g4_parse.proofs.Grown.{reverse_returns}
use Rattle.g4_parse.proofs.Measure.{falls, measure_at}
use Rattle.g4_parse.proofs.Stages.{Stage, advances, begins, fits}
use Rattle.g4_parse.proofs.Steps.{Proceeds, ProceedsBy}
use Rattle.g4_parse.proofs.Turns.{none_opened, under_here}
use Rattle.g4_parse.proofs.Words.{length_word}

-- The parser is at a moment of a trial, which has taken these alternatives. What comes of it there comes of it from the beginning.
pub record IsTrying (net : ParserNetwork) (values : Values) (word : List ℕ) (p : Parser) (taken : List ℕ) : Type 0 where
  pub rule : ℕ
  pub loop : ℕ
  pub set : List ℕ
  pub ready : IsRunnable net rule loop set
  pub ends : EndsInEnd word
  pub run : Run
  pub stands : StandsFor p run
  pub stage : Stage net loop (length word) run
  pub onward : (more : List ℕ) → TrialEnds net values word run more → TrialEnds net values word beginning (taken ++ more)

-- what holds of what there is
pub some_is : (P : ℕ → Type 0) (x : Option ℕ) (i : ℕ) → x ≡ Some i → IfSome x P → P i
some_is P None i e k = absurd (let no : ⊥ = cc in no)
some_is P (Some j) i e k = let equal : j ≡ i = cc in subst P equal k

-- states are equal where what is at a number is
pub same_state : (s u : State (List ℕ)) → Some s ≡ Some u → s ≡ u
same_state s u e = cc

-- the parser's decision is that of the moment, in the network of the plan
pub decides_at : (net own : ParserNetwork) (r : Run) (p : Parser) (s : State (List ℕ)) (targets : List ℕ) → StandsFor p r → net ≡ own
    → state_at net p.state ≡ Some s → s ≡ Decision targets → state_at own r.state ≡ Some (Decision targets)
decides_at net own r p s targets h same at is =
    subst (λ (d : ℕ). state_at own d ≡ Some (Decision targets)) h.state
    (subst (λ (n : ParserNetwork). state_at n p.state ≡ Some (Decision targets)) same
    (subst (λ (x : State (List ℕ)). state_at net p.state ≡ Some x) is at))

pub undecided_at : (net own : ParserNetwork) (r : Run) (p : Parser) (s : State (List ℕ)) → StandsFor p r → net ≡ own
    → state_at net p.state ≡ Some s → ((targets : List ℕ) → s ≡ Decision targets → ⊥) → (targets : List ℕ)
    → state_at own r.state ≡ Some (Decision targets) → ⊥
undecided_at net own r p s h same at none targets decides =
    let here : state_at net p.state ≡ Some (Decision targets) =
    subst (λ (n : ParserNetwork). state_at n p.state ≡ Some (Decision targets)) (sym same)
    (subst (λ (d : ℕ). state_at own d ≡ Some (Decision targets)) (sym h.state) decides) in
    none targets (same_state s (Decision targets) (sym at ∙ here))

-- where the test says that the parser has not ended, it has not
pub goes_past : (net own : ParserNetwork) (p : Parser) (x : Bool) → net ≡ own → IsTrue x ↔ HasEnded net p → x ≡ false
    → HasEnded own p → ⊥
goes_past net own p x same test is over =
    let true_is : x ≡ true = test.1 (subst (λ (n : ParserNetwork). HasEnded n p) (sym same) over) in
    true≢false (sym true_is ∙ is)

-- what is found of the tokens from a place on, in the network of the plan
pub candidate_here : (net own : ParserNetwork) (d condition from : ℕ) (returns : List ℕ) (tokens : List Token) (found : Option ℕ) (i : ℕ)
    → net ≡ own → found ≡ Some i → IfSome found (IsCandidate net d (AllowedAt net d condition) returns (word_of (from_on from tokens)))
    → IsCandidate own d (AllowedAt own d condition) returns (drop from (word_of tokens)) i
candidate_here net own d condition from returns tokens found i same is h =
    subst (λ (w : List ℕ). IsCandidate own d (AllowedAt own d condition) returns w i) (word_from from tokens)
    (subst (λ (n : ParserNetwork). IsCandidate n d (AllowedAt n d condition) returns (word_of (from_on from tokens)) i) same
    (some_is (IsCandidate net d (AllowedAt net d condition) returns (word_of (from_on from tokens))) found i is h))

module _ (net : ParserNetwork) (values : Values) where
  -- the beginning
  pub trying_begins : (word : List ℕ) (p : Parser) → IsReady net → EndsInEnd word → StandsFor p beginning
      → IsTrying net values word p []
  trying_begins word p (rule, loop, set, ready) ends stands = record {
    rule = rule;
    loop = loop;
    set = set;
    ready = ready;
    ends = ends;
    run = beginning;
    stands = stands;
    stage = begins net rule loop ready values word ends;
    onward = λ more h. h;
  }

  -- the parser can take its step
  pub trying_underway : (tokens : List Token) (p : Parser) (taken : List ℕ) → IsTrying net values (word_of tokens) p taken
      → IsUnderway net (length tokens) p
  trying_underway tokens p taken o = (
    o.run,
    o.stands,
    subst (λ (n : ℕ). IsFitBy net n (state_at net o.run.state) o.run) (length_word tokens)
        (fits net o.rule o.loop o.ready values (word_of tokens) o.ends o.run o.stage),
  )

  pub trying_within : (word : List ℕ) (p : Parser) (taken : List ℕ) → IsTrying net values word p taken → p.state < length net.states
  trying_within word p taken o = let within = o.stage.state_in in omega (arith, o.stands.state, within)

  -- a step of a trial is one along any alternative
  proceeds : (word : List ℕ) (o : Option (State (List ℕ))) (r s : Run) (before after : List ℕ)
      → TriesBy net values word o r s before after → ProceedsBy net values word o r s
  proceeds word None r s before after g = g.0
  proceeds word (Some (Decision targets)) r s before after (i, t, may, least, first, e, are) = (i, t, first, e)
  proceeds word (Some (End rule)) r s before after g = g.0
  proceeds word (Some (Edge set t)) r s before after g = g.0
  proceeds word (Some (Call rule level back)) r s before after g = g.0
  proceeds word (Some (Predicate k t)) r s before after g = g.0
  proceeds word (Some (Level q t)) r s before after g = g.0
  proceeds word (Some (Action t)) r s before after g = g.0
  proceeds word (Some (Empty t)) r s before after g = g.0

  -- what comes of it there comes of it before a step at a state that is no decision
  back_went : (word : List ℕ) (r s : Run) (before after : List ℕ) → ((targets : List ℕ) → state_at net r.state ≡ Some
      (Decision targets) → ⊥)
      → Goes net values word deepest r s → after ≡ before
      → ((more : List ℕ) → TrialEnds net values word r more → TrialEnds net values word beginning (before ++ more))
      → (more : List ℕ) → TrialEnds net values word s more → TrialEnds net values word beginning (after ++ more)
  back_went word r s before after other step are onward more h =
      subst (λ (xs : List ℕ). TrialEnds net values word beginning (xs ++ more)) (sym are)
      (onward more (went r s more other step h))

  -- and before any step
  back_by : (word : List ℕ) (o : Option (State (List ℕ))) (r s : Run) (before after : List ℕ) → state_at net r.state ≡ o
      → TriesBy net values word o r s before after
      → ((more : List ℕ) → TrialEnds net values word r more → TrialEnds net values word beginning (before ++ more))
      → (more : List ℕ) → TrialEnds net values word s more → TrialEnds net values word beginning (after ++ more)
  back_by word (Some (Decision targets)) r s before after is (i, t, may, least, first, e, are) onward more h =
      let joined : before ++ i ∷ more ≡ after ++ more =
      sym (append_assoc before (i ∷ []) more) ∙ ap (λ (xs : List ℕ). xs ++ more) (sym are) in
      subst (λ (xs : List ℕ). TrialEnds net values word beginning xs) joined
      (onward (i ∷ more) (decided r targets i t more is may least first
      (subst (λ (x : Run). TrialEnds net values word x more) e h)))
  back_by word None r s before after is (step, are) onward more h = absurd step
  back_by word (Some (End rule)) r s before after is (step, are) onward more h =
      back_went word r s before after (λ targets at. cc) (rw is step) are onward more h
  back_by word (Some (Edge set t)) r s before after is (step, are) onward more h =
      back_went word r s before after (λ targets at. cc) (rw is step) are onward more h
  back_by word (Some (Call rule level back)) r s before after is (step, are) onward more h =
      back_went word r s before after (λ targets at. cc) (rw is step) are onward more h
  back_by word (Some (Predicate k t)) r s before after is (step, are) onward more h =
      back_went word r s before after (λ targets at. cc) (rw is step) are onward more h
  back_by word (Some (Level q t)) r s before after is (step, are) onward more h =
      back_went word r s before after (λ targets at. cc) (rw is step) are onward more h
  back_by word (Some (Action t)) r s before after is (step, are) onward more h =
      back_went word r s before after (λ targets at. cc) (rw is step) are onward more h
  back_by word (Some (Empty t)) r s before after is (step, are) onward more h =
      back_went word r s before after (λ targets at. cc) (rw is step) are onward more h

  -- a step leads on
  pub trying_on : (word : List ℕ) (p q : Parser) (before after : List ℕ) → (o : IsTrying net values word p before)
      → (s : Run) × Tries net values word o.run s before after × StandsFor q s → IsTrying net values word q after
  trying_on word p q before after o (s, step, stands) = record {
    rule = o.rule;
    loop = o.loop;
    set = o.set;
    ready = o.ready;
    ends = o.ends;
    run = s;
    stands = stands;
    stage = advances net o.rule o.loop o.ready values word o.ends o.run s o.stage
        (proceeds word (state_at net o.run.state) o.run s before after step);
    onward = back_by word (state_at net o.run.state) o.run s before after refl step o.onward;
  }

  -- and makes the measure fall
  pub trying_falls : (tokens : List Token) (p q : Parser) (before after : List ℕ) → (o : IsTrying net values (word_of tokens) p before)
      → (s : Run) × Tries net values (word_of tokens) o.run s before after × StandsFor q s
      → measure_at net (length tokens) q.place q.state (reverse q.returns.items)
      < measure_at net (length tokens) p.place p.state (reverse p.returns.items)
  trying_falls tokens p q before after o (s, step, stands) =
      let on : Proceeds net values (word_of tokens) o.run s =
      proceeds (word_of tokens) (state_at net o.run.state) o.run s before after step in
      let less : measure_at net (length (word_of tokens)) s.place s.state (backs s.frames)
      < measure_at net (length (word_of tokens)) o.run.place o.run.state (backs o.run.frames) =
      falls net o.rule o.loop o.ready values (word_of tokens) o.ends o.run s o.stage on in
      let later : reverse q.returns.items ≡ backs s.frames = ap reverse stands.returns ∙ reverse_returns s.frames in
      let before' : reverse p.returns.items ≡ backs o.run.frames = ap reverse o.stands.returns ∙ reverse_returns o.run.frames in
      rw (← length_word tokens, stands.place, stands.state, later, o.stands.place, o.stands.state, before') less

  -- where the parser has ended and no token is left, so it is from the beginning
  pub trying_ends : (tokens : List Token) (p : Parser) (taken : List ℕ) → IsTrying net values (word_of tokens) p taken → HasEnded net p
      → length tokens ≤ p.place → TrialEnds net values (word_of tokens) beginning taken
  trying_ends tokens p taken o (none, (rule, at_end)) past =
      subst (λ (xs : List ℕ). TrialEnds net values (word_of tokens) beginning xs) (append-nil taken)
      (o.onward [] (ended o.run rule at_run empty nothing))
    where
      empty : o.run.frames ≡ []
      empty = none_opened o.run.frames (sym o.stands.returns ∙ none)

      at_run : state_at net o.run.state ≡ Some (End rule)
      at_run = ap (λ (n : ℕ). state_at net n) (sym o.stands.state) ∙ at_end

      nothing : drop o.run.place (word_of tokens) ≡ []
      nothing = drop_all o.run.place (word_of tokens) (omega (arith, past, length_word tokens, o.stands.place))

  -- a candidate of the decision is before any that fits at the moment
  pub takes_candidate : (word : List ℕ) (r : Run) (p q : Parser) (condition i : ℕ) → StandsFor p r
      → IsConditionAt net values word r condition
      → IsCandidate net p.state (AllowedAt net p.state condition) (reverse p.returns.items) (drop p.place word) i
      → ((t : ℕ) → IsFirst net r.state i t → StandsFor q (at_target net r t)) → TakesBy net values word r q i
  takes_candidate word r p q condition i stands under h after =
      let same = (under_here net values word r p condition stands under).1 in
      let stack : reverse p.returns.items ≡ backs r.frames = ap reverse stands.returns ∙ reverse_returns r.frames in
      let first : IsFirst net r.state i h.begins.0 = subst (λ (d : ℕ). IsFirst net d i h.begins.0) stands.state h.begins.1 in (
        (same i).0 h.allowed,
        (λ j may f. h.least j ((same j).1 may)
            (let f' : Fits net p.state j (reverse p.returns.items) (drop p.place word) = rw (stands.state, stands.place, stack) f in f')),
        (h.begins.0, first, after h.begins.0 first),
      )

  -- an alternative that is taken is a step of a trial
  pub tries_decided : (word : List ℕ) (r : Run) (p : Parser) (targets : List ℕ) (i : ℕ) (before after : List ℕ)
      → state_at net r.state ≡ Some (Decision targets) → TakesBy net values word r p i → after ≡ before ++ i ∷ []
      → (s : Run) × Tries net values word r s before after × StandsFor p s
  tries_decided word r p targets i before after at (may, least, (t, first, stands)) are = (
    at_target net r t,
    subst (λ (o : Option (State (List ℕ))). TriesBy net values word o r (at_target net r t) before after) (sym at)
        (i, t, may, least, first, refl, are),
    stands,
  )

  -- and so is a step of the run at a state that is no decision
  stepped_by : (word : List ℕ) (o : Option (State (List ℕ))) (r s : Run) (before after : List ℕ)
      → ((targets : List ℕ) → o ≡ Some (Decision targets) → ⊥) → GoesBy net values word deepest o r s → after ≡ before
      → TriesBy net values word o r s before after
  stepped_by word (Some (Decision targets)) r s before after other step are = absurd (other targets refl)
  stepped_by word None r s before after other step are = absurd step
  stepped_by word (Some (End rule)) r s before after other step are = (step, are)
  stepped_by word (Some (Edge set t)) r s before after other step are = (step, are)
  stepped_by word (Some (Call rule level back)) r s before after other step are = (step, are)
  stepped_by word (Some (Predicate k t)) r s before after other step are = (step, are)
  stepped_by word (Some (Level q t)) r s before after other step are = (step, are)
  stepped_by word (Some (Action t)) r s before after other step are = (step, are)
  stepped_by word (Some (Empty t)) r s before after other step are = (step, are)

  pub tries_stepped : (word : List ℕ) (r : Run) (p : Parser) (before after : List ℕ)
      → ((targets : List ℕ) → state_at net r.state ≡ Some (Decision targets) → ⊥)
      → (s : Run) × Goes net values word deepest r s × StandsFor p s → after ≡ before
      → (s : Run) × Tries net values word r s before after × StandsFor p s
  tries_stepped word r p before after other (s, step, stands) are =
      (s, stepped_by word (state_at net r.state) r s before after other step are, stands)

-- the same of an answer, in the network of the plan
pub stepped_ok : {E : Type 0} (net own : ParserNetwork) (values : Values) (word : List ℕ) (r : Run) (p : Parser) (before : List ℕ)
    (x : Result Bool E) → net ≡ own → ((targets : List ℕ) → state_at own r.state ≡ Some (Decision targets) → ⊥)
    → IfOk x (λ went. went ≡ true → (s : Run) × Goes net values word deepest r s × StandsFor p s)
    → IfOk x (λ went. went ≡ true → (s : Run) × Tries own values word r s before before × StandsFor p s)
stepped_ok net own values word r p before (Ok b) same other step = λ is.
    tries_stepped own values word r p before before other
    (subst (λ (n : ParserNetwork). (s : Run) × Goes n values word deepest r s × StandsFor p s) same (step is)) refl
stepped_ok net own values word r p before (Err e) same other step = tt
