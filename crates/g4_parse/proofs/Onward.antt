-- From the run's beginning to where the parser is.
use Rattle.std.proofs.Common.{◌≡◌, ◌<◌, [], ℕ, List, length, reverse, refl, sym, ◌∙◌, ap, subst, arith, append-nil}
use Rattle.std.specs.Prelude.{Option, Some, ⊤, Result, Ok, Err, IsErrAnd}
use Rattle.g4_decide.specs.Asked.{Told}
use Rattle.g4_guards.specs.Levels.{IsDecision}
use Rattle.g4_learned.specs.Stored.{IsPlan}
use Rattle.g4_learned.specs.Tables.{Tables}
use Rattle.g4_net.specs.declared.network.State.{State}
use Rattle.g4_net.specs.declared.network.State.TheVariants.{End}
use Rattle.g4_tokens.specs.declared.token.Token.{Token}
use Rattle.g4_net.specs.Network.{ParserNetwork, state_at}
use Rattle.g4_net.specs.AddedRule.{IsRunnable}
use Rattle.g4_store.specs.declared.automaton.Plan.{Plan}
use Rattle.g4_tokens.specs.TokenList.{word_of, EndsInEnd}
use Rattle.g4_trees.specs.declared.tree.Item.{Item}
use Rattle.g4_trees.specs.Trees.{Tree, Forest, only, items_of, items_of_all}
use Rattle.g4_trees.specs.Kept.{HasGrown}
use Rattle.g4_parse.specs.declared.parser.ParseFault.{ParseFault}
use Rattle.g4_parse.specs.declared.parser.ParseFault.TheVariants.{NoViable, Mismatch, FailedPredicate, TooDeep, NoMemory}
use Rattle.g4_parse.specs.declared.parser.Parser.{Parser}
use Rattle.g4_run.specs.Running.{Frame, Run, Ending, parsed, not_viable, mismatch, failed_predicate, too_deep, beginning, comes_on, comes_there, deepest, Goes, Reaches, StopsBy, Runs, stops, goes, backs, Ends, Values}
use Rattle.g4_parse.specs.declared.trial.Trial.{Trial}
use Rattle.g4_parse.specs.Foresight.{Foresees}
use Rattle.g4_parse.specs.Parsing.{IsParse, IsParseFault}
use Rattle.g4_parse.specs.Standing.{StandsFor, IsFitBy, IsFaultBy, IsTurnBy, IsUnderway, HasEnded, grown}
use Rattle.g4_parse.specs.Teaching.{HadMemory, HasKept, IsNoRefusal, IsPassed, IsPassedAt, IsTaught}
use Rattle.g4_parse.proofs.Grown.{reverse_returns}
use Rattle.g4_parse.proofs.OneTree.{HasOneTree, one_tree_on, ended_tree}
use Rattle.g4_parse.proofs.Measure.{measure_at, falls}
use Rattle.g4_parse.proofs.Stages.{Stage, advances, fits, begins}
use Rattle.g4_parse.proofs.Steps.{Proceeds, proceeds_by}
use Rattle.g4_parse.proofs.Teaching.{IsTaughtTo, kept_same, kept_then, taught_begins, taught_ended, taught_on, taught_whole}
use Rattle.g4_parse.proofs.Turns.{none_opened}
use Rattle.g4_parse.proofs.Words.{length_word}

-- The parser is at a moment of the run, which ends as it does from this moment; and what the pass has seen since.
pub record Onward (p : Plan Tables) (values : Values) (word : List ℕ) (old now : Told) (q : Parser) : Type 0 where
  pub rule : ℕ
  pub loop : ℕ
  pub set : List ℕ
  pub ready : IsRunnable p.net.net rule loop set
  pub ends : EndsInEnd word
  pub run : Run
  pub stands : StandsFor q run
  pub stage : Stage p.net.net loop (length word) run
  pub one : HasOneTree (backs run.frames) run.state run.tree
  pub onward : (e : Ending) → Runs p.net.net values word deepest run e → Ends p.net.net values word e
  pub reaches : Reaches p.net.net values word run
  pub kept : HasKept old now
  pub taught : IsTaughtTo p values word run old now

module _ (p : Plan Tables) (plan : IsPlan p) (values : Values) where
  -- the beginning
  pub begun_onward : (word : List ℕ) (told : Told) (q : Parser) → EndsInEnd word → StandsFor q beginning → Onward p values word told told q
  begun_onward word told q ends stands = record {
    rule = plan.ready.0;
    loop = plan.ready.1;
    set = plan.ready.2;
    ready = plan.ready.3;
    ends = ends;
    run = beginning;
    stands = stands;
    stage = begins p.net.net plan.ready.0 plan.ready.1 plan.ready.3 values word ends;
    one = (λ e. refl, λ n. absurd (n refl));
    onward = λ e runs. runs;
    reaches = comes_there beginning;
    kept = kept_same told;
    taught = taught_begins p plan values word told;
  }

  -- the beginning, with what a trial has found
  pub begun_foreseen : (word : List ℕ) (told : Told) (q : Parser) (trial : Trial) → EndsInEnd word → StandsFor q beginning
      → Foresees p.net.net values word trial beginning
      → (o : Onward p values word told told q) × Foresees p.net.net values word trial o.run
  unfolding begun_onward
  begun_foreseen word told q trial ends stands foresees = (begun_onward word told q ends stands, foresees)

  -- its state is in range
  pub state_within : (word : List ℕ) (old now : Told) (q : Parser) → Onward p values word old now q → q.state < length p.net.net.states
  state_within word old now q o = let within = o.stage.state_in in omega (arith, o.stands.state)

  -- the parser can take its turn
  pub underway : (tokens : List Token) (old now : Told) (q : Parser) → Onward p values (word_of tokens) old now q
      → IsUnderway p.net.net (length tokens) q
  underway tokens old now q o = (
    o.run,
    o.stands,
    subst (λ (n : ℕ). IsFitBy p.net.net n (state_at p.net.net o.run.state) o.run) (length_word tokens)
        (fits p.net.net o.rule o.loop o.ready values (word_of tokens) o.ends o.run o.stage),
  )

  -- a turn leads on
  pub turn_onward : (word : List ℕ) (old mid new : Told) (q after : Parser) → Onward p values word old mid q
      → ((r : Run) → StandsFor q r → IsTurnBy p.net.net values word (state_at p.net.net r.state) r after (Ok tt)) → HasKept mid new
      → ((r : Run) → StandsFor q r → IsTaught p (IsPassedAt p.net values word r) mid new) → Onward p values word old new after
  turn_onward word old mid new q after o turn kept taught =
      let step = turn o.run o.stands in
      let on : Proceeds p.net.net values word o.run step.0 = proceeds_by p.net.net values word
      (state_at p.net.net o.run.state) o.run step.0 step.1 in
      record {
        rule = o.rule;
        loop = o.loop;
        set = o.set;
        ready = o.ready;
        ends = o.ends;
        run = step.0;
        stands = step.2;
        stage = advances p.net.net o.rule o.loop o.ready values word o.ends o.run step.0 o.stage on;
        one = one_tree_on p.net.net o.rule o.loop o.ready (length word) values word o.run step.0 o.stage on o.one;
        onward = λ e runs. o.onward e (goes o.run step.0 e step.1 runs);
        reaches = comes_on beginning o.run step.0 o.reaches step.1;
        kept = kept_then old mid new o.kept kept;
        taught = taught_on p plan values word o.run o.reaches old mid new o.taught kept (taught o.run o.stands) step.0 step.1;
      }

  -- with what a trial has found
  pub turn_foreseen : (word : List ℕ) (old mid new : Told) (q after : Parser) (trial next : Trial)
      → (o : Onward p values word old mid q) × Foresees p.net.net values word trial o.run
      → ((r : Run) → StandsFor q r → IsTurnBy p.net.net values word (state_at p.net.net r.state) r after (Ok tt)) → HasKept mid new
      → ((r : Run) → StandsFor q r → IsTaught p (IsPassedAt p.net values word r) mid new)
      → ((r s : Run) → StandsFor q r → Foresees p.net.net values word trial r → Goes p.net.net values word deepest r s
      → Foresees p.net.net values word next s)
      → (o : Onward p values word old new after) × Foresees p.net.net values word next o.run
  unfolding turn_onward
  turn_foreseen word old mid new q after trial next (o, foresees) turn kept taught leads =
      let step = turn o.run o.stands in
      (turn_onward word old mid new q after o turn kept taught, leads o.run step.0 o.stands foresees step.1)

  -- and makes the measure fall
  pub turn_falls : (tokens : List Token) (old now : Told) (q after : Parser) → Onward p values (word_of tokens) old now q
      → ((r : Run) → StandsFor q r → IsTurnBy p.net.net values (word_of tokens) (state_at p.net.net r.state) r after (Ok tt)) →
      measure_at p.net.net (length tokens) after.place after.state (reverse after.returns.items)
      < measure_at p.net.net (length tokens) q.place q.state (reverse q.returns.items)
  turn_falls tokens old now q after o turn =
      let step = turn o.run o.stands in
      let on : Proceeds p.net.net values (word_of tokens) o.run step.0 =
      proceeds_by p.net.net values (word_of tokens) (state_at p.net.net o.run.state) o.run step.0 step.1 in
      let less : measure_at p.net.net (length (word_of tokens)) step.0.place step.0.state (backs step.0.frames)
      < measure_at p.net.net (length (word_of tokens)) o.run.place o.run.state (backs o.run.frames) =
      falls p.net.net o.rule o.loop o.ready values (word_of tokens) o.ends o.run step.0 o.stage on in
      let later : reverse after.returns.items ≡ backs step.0.frames = ap reverse step.2.returns ∙ reverse_returns step.0.frames in
      let before : reverse q.returns.items ≡ backs o.run.frames = ap reverse o.stands.returns ∙ reverse_returns o.run.frames in
      rw (← length_word tokens, step.2.place, step.2.state, later, o.stands.place, o.stands.state, before) less

  -- a fault at a moment is one of the whole run
  fault_onward : (word : List ℕ) (r : Run) (fault : ParseFault)
      → ((e : Ending) → Runs p.net.net values word deepest r e → Ends p.net.net values word e)
      → IsFaultBy p.net.net values word (state_at p.net.net r.state) r fault → IsParseFault p.net.net values word fault
  fault_onward word r (NoViable at) onward h = onward (not_viable at) (stops r (not_viable at) h)
  fault_onward word r (Mismatch at state) onward h = onward (mismatch at state) (stops r (mismatch at state) h)
  fault_onward word r (FailedPredicate at rule) onward h = onward (failed_predicate at rule) (stops r (failed_predicate at rule) h)
  fault_onward word r (TooDeep at) onward h = onward (too_deep at) (stops r (too_deep at) h)
  fault_onward word r NoMemory onward h = tt

  -- a turn that fails gives the run's fault
  pub turn_fails : (word : List ℕ) (old now : Told) (q after : Parser) (fault : ParseFault) → Onward p values word old now q
      → ((r : Run) → StandsFor q r → IsTurnBy p.net.net values word (state_at p.net.net r.state) r after (Err fault))
      → IsParseFault p.net.net values word fault
  turn_fails word old now q after fault o turn = fault_onward word o.run fault o.onward (turn o.run o.stands)

  -- the run stops with a fault
  stop_of : (word : List ℕ) (r : Run) (o : Option (State (List ℕ))) (fault : ParseFault) → IsNoRefusal fault
      → IsFaultBy p.net.net values word o r fault → (e : Ending) × StopsBy p.net.net values word deepest o r e
  stop_of word r o (NoViable at) had h = (not_viable at, h)
  stop_of word r o (Mismatch at state) had h = (mismatch at state, h)
  stop_of word r o (FailedPredicate at rule) had h = (failed_predicate at rule, h)
  stop_of word r o (TooDeep at) had h = (too_deep at, h)
  stop_of word r o NoMemory had h = absurd had

  -- and then all of the run is passed
  pub fails_taught : (word : List ℕ) (old mid new : Told) (q after : Parser) (fault : ParseFault) → Onward p values word old mid q
      → ((r : Run) → StandsFor q r → IsTurnBy p.net.net values word (state_at p.net.net r.state) r after (Err fault)) → HasKept mid new
      → IsNoRefusal fault
      → ((r : Run) → StandsFor q r → IsTaught p (IsPassedAt p.net values word r) mid new) → IsTaught p (IsPassed p.net values word) old new
  fails_taught word old mid new q after fault o turn kept had taught =
      let stop = stop_of word o.run (state_at p.net.net o.run.state) fault had (turn o.run o.stands) in
      taught_whole p plan values word o.run o.reaches old mid new o.taught kept (taught o.run o.stands) stop.0 stop.1

  -- Where a parser has ended there is one tree, with which the run stops here, and which the parser has grown.
  record HasTree (word : List ℕ) (q : Parser) (r : Run) : Type 0 where
    tree : Tree
    at_end : (rule : ℕ) × (state_at p.net.net r.state ≡ Some (End rule))
    stop : StopsBy p.net.net values word deepest (state_at p.net.net r.state) r (parsed tree)
    grows : HasGrown q.tree (record { nodes = []; trees = only tree })

  -- at the end of the added rule there is one tree
  ended_tree_of : (word : List ℕ) (old now : Told) (q : Parser) → (o : Onward p values word old now q) → HasEnded p.net.net q
      → HasTree word q o.run
  ended_tree_of word old now q o (none, (rule, at_end)) = record { tree = one.0; at_end = (rule, at_run); stop = stop; grows = grows }
    where
      empty : o.run.frames ≡ []
      empty = none_opened o.run.frames (sym o.stands.returns ∙ none)

      at_run : state_at p.net.net o.run.state ≡ Some (End rule)
      at_run = ap (λ (n : ℕ). state_at p.net.net n) (sym o.stands.state) ∙ at_end

      fit : IsFitBy p.net.net (length word) (Some (End rule)) o.run
      fit = subst (λ (s : Option (State (List ℕ))). IsFitBy p.net.net (length word) s o.run) at_run
          (fits p.net.net o.rule o.loop o.ready values word o.ends o.run o.stage)

      one : (t : Tree) × (o.run.tree ≡ only t)
      one = ended_tree p.net.net o.rule o.loop o.ready (length word) values o.run rule empty at_run o.one

      stop : StopsBy p.net.net values word deepest (state_at p.net.net o.run.state) o.run (parsed one.0)
      stop = subst (λ (s : Option (State (List ℕ))). StopsBy p.net.net values word deepest s o.run (parsed one.0)) (sym at_run)
          (empty, fit empty, (one.0, one.1, refl))

      grows : HasGrown q.tree (grown [] (only one.0))
      grows = subst (λ (ts : Forest). HasGrown q.tree (grown [] ts)) one.1
          (subst (λ (fs : List Frame). HasGrown q.tree (grown fs o.run.tree)) empty o.stands.tree)

  -- the answer of a parser that has ended
  pub run_ends : (word : List ℕ) (old now : Told) (q : Parser) (xs : List Item) → Onward p values word old now q → HasEnded p.net.net q
      → ((trees : Forest) → HasGrown q.tree (record { nodes = []; trees = trees }) → xs ≡ items_of_all trees)
      → IsParse p.net.net values word (Ok xs)
  run_ends word old now q xs o ended is =
      let e = ended_tree_of word old now q o ended in (
        e.tree,
        o.onward (parsed e.tree) (stops o.run (parsed e.tree) e.stop),
        is (only e.tree) e.grows ∙ append-nil (items_of e.tree),
      )

  -- a rule's end is no decision
  end_decides : (n rule : ℕ) → state_at p.net.net n ≡ Some (End rule) → IsDecision p.net.net n → ⊥
  end_decides n rule at (targets, is) = let no : ⊥ = cc in no

  -- and all of the run is passed
  pub ends_taught : (word : List ℕ) (old now : Told) (q : Parser) → Onward p values word old now q → HasEnded p.net.net q
      → IsTaught p (IsPassed p.net values word) old now
  ends_taught word old now q o ended =
      let e = ended_tree_of word old now q o ended in
      taught_ended p plan values word o.run old now o.reaches o.taught (end_decides o.run.state e.at_end.0 e.at_end.1)
      (parsed e.tree) e.stop

-- an answer that is this fault
pub parse_fails : (net : ParserNetwork) (values : Values) (word : List ℕ) (x : Result (List Item) ParseFault) (fault : ParseFault)
    → IsErrAnd x (λ e. e ≡ fault) → IsParseFault net values word fault → IsParse net values word x
parse_fails net values word (Ok xs) fault is h = absurd is
parse_fails net values word (Err e) fault is h = subst (IsParseFault net values word) (sym is) h

-- and where memory was not refused
pub had_fault : {X : Type 0} (x : Result X ParseFault) (fault : ParseFault) → IsErrAnd x (λ e. e ≡ fault) → HadMemory x
    → IsNoRefusal fault
had_fault (Ok x) fault is had = absurd is
had_fault (Err e) fault is had = subst IsNoRefusal is had

-- a turn in the network of the plan
pub own_turn : (net own : ParserNetwork) (values : Values) (word : List ℕ) (q after : Parser) (x : Result ⊤ ParseFault) → net ≡ own
    → ((r : Run) → StandsFor q r → IsTurnBy net values word (state_at net r.state) r after x)
    → (r : Run) → StandsFor q r → IsTurnBy own values word (state_at own r.state) r after x
own_turn net own values word q after x same turn =
    subst (λ (n : ParserNetwork). (r : Run) → StandsFor q r → IsTurnBy n values word (state_at n r.state) r after x) same turn
