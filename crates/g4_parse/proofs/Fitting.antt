-- Each tree that a parse over a network of rules gives is a tree of these rules over the word.
use Rattle.std.proofs.Common.{◌≡◌, ℕ, ◌+◌, ◌*◌, List, [], ◌∷◌, ◌++◌, length, length-append, Option, Some, None, refl, sym, ◌∙◌, ap, subst, append-nil, arith, Result, Ok, Err, IfOk}
use Rattle.g4_grammar.specs.StepRules.{StepRule, CanBeRewritten}
use Rattle.g4_net.specs.declared.network.State.{State}
use Rattle.g4_net.specs.declared.network.State.TheVariants.{Decision, End, Edge, Call, Predicate, Level, Action, Empty}
use Rattle.g4_net.specs.Network.{ParserNetwork, state_at, written_at}
use Rattle.g4_layout.specs.Built.{IsBuilt}
use Rattle.g4_layout.specs.Rules.{rule_number}
use Rattle.g4_leftrec.specs.Rewriting.{rewritten, numberings}
use Rattle.g4_tokens.specs.TokenList.{EndsInEnd}
use Rattle.g4_trees.specs.declared.tree.Item.{Item}
use Rattle.g4_trees.specs.Trees.{Tree, node, Forest, no_tree, a_tree, and_then, only, items_of, tokens_of_all, leaf}
use Rattle.g4_tree_check.specs.TreesOf.{ArePlaced, Conforms, IsPlaced, IsTreeOf}
use Rattle.g4_run.specs.Running.{Frame, Run, Ending, parsed, beginning, ClosesBy, GoesBy, Goes, StopsBy, Runs, stops, goes, with_alt, with_token, with_child, wrapped, node_of, begun, deepest, backs, Ends, Values}
use Rattle.g4_parse.specs.declared.parser.ParseFault.{ParseFault}
use Rattle.g4_parse.specs.Parsing.{IsParse}
use Rattle.g4_parse.proofs.Forests.{placed_and_then, tokens_and_then, two_are_not_one}
use Rattle.g4_parse.proofs.OneTree.{HasOneTree, one_tree_on}
use Rattle.g4_parse.proofs.OpenRules.{AreOpen, open_decided, open_silently, open_token, open_call, node_fits, open_closed, open_wrapped}
use Rattle.g4_parse.proofs.Stages.{Stage, begins, advances}
use Rattle.g4_parse.proofs.Steps.{proceeds_by}

-- how many tokens the open rules have
abbrev pub count_open : List Frame → ℕ
count_open [] = 0
count_open (f ∷ fs) = count_open fs + length (tokens_of_all f.children)

-- The open rules, newest first: each node is at the place of its first token, or of the next one, and its children are placed from there.
abbrev pub AreOpenAt : List Frame → Type 0
AreOpenAt [] = Unit {0}
AreOpenAt (f ∷ fs) = (f.at ≡ count_open fs) × ArePlaced f.at f.children × AreOpenAt fs

-- the open rules are placed, and have as many tokens
abbrev pub ArePlacedTo : ℕ → List Frame → Type 0
ArePlacedTo place fs = AreOpenAt fs × (count_open fs ≡ place)

-- another alternative changes nothing of this
placed_alt : (i place : ℕ) (fs : List Frame) → ArePlacedTo place fs → ArePlacedTo place (with_alt i fs)
placed_alt i place [] h = h
placed_alt i place (f ∷ fs) h = h

-- nor does a rule that is closed while another is open
placed_closed : (r : Run) (f g : Frame) (gs : List Frame) (place : ℕ) → ArePlacedTo place (f ∷ g ∷ gs) →
    ArePlacedTo place (with_child r (g ∷ gs) (node_of f)).frames
placed_closed r f g gs place ((at, children, (outer, before, more)), count) =
    let here : f.at ≡ g.at + length (tokens_of_all g.children) = omega (arith, at, outer) in
    let node_placed : IsPlaced (g.at + length (tokens_of_all g.children)) (node_of f) =
    (here, subst (λ (n : ℕ). ArePlaced n f.children) here children) in
    let joined : length (tokens_of_all (and_then g.children (only (node_of f)))) ≡ length (tokens_of_all g.children) + length
    (tokens_of_all f.children) =
    ap length (tokens_and_then g.children (only (node_of f))
    ∙ ap (λ (w : List ℕ). tokens_of_all g.children ++ w) (append-nil (tokens_of_all f.children)))
    ∙ length-append (tokens_of_all g.children) (tokens_of_all f.children) in
    ((outer, placed_and_then g.at g.children (only (node_of f)) before (node_placed, tt), more), omega (arith, joined, count))

-- nor does a node that becomes a first child
placed_wrapped : (i place : ℕ) (fs : List Frame) → ArePlacedTo place fs → ArePlacedTo place (wrapped i fs)
placed_wrapped i place [] h = h
placed_wrapped i place (f ∷ fs) ((at, children, more), count) =
    let same : length (tokens_of_all f.children ++ []) ≡ length (tokens_of_all f.children) =
    ap length (append-nil (tokens_of_all f.children)) in
    ((at, ((refl, children), tt), more), omega (arith, same, count))

-- one more token
placed_more : (r : Run) (f : Frame) (fs : List Frame) → ArePlacedTo r.place (f ∷ fs) →
    ArePlacedTo (r.place + 1) (with_token r (f ∷ fs)).frames
placed_more r f fs ((at, children, more), count) =
    let here : r.place ≡ f.at + length (tokens_of_all f.children) = omega (arith, at, count) in
    let joined : length (tokens_of_all (and_then f.children (only (leaf r.place)))) ≡ length (tokens_of_all f.children) + 1 =
    ap length (tokens_and_then f.children (only (leaf r.place))) ∙ length-append (tokens_of_all f.children) (r.place ∷ []) in
    ((at, placed_and_then f.at f.children (only (leaf r.place)) children (here, tt), more), omega (arith, joined, count))

module _ (rules : List StepRule) (word : List ℕ) where
  -- a node that conforms, whose tokens are the first of the word
  abbrev IsWhole : Tree → Type 0
  IsWhole t = (rule alt at : ℕ) × (children : Forest) × (t ≡ node rule alt at children) × IsPlaced 0 t × Conforms rules word t

  -- its items are those of a tree of the rules
  whole_is_tree : (t : Tree) → IsWhole t → IsTreeOf rules word (items_of t)
  whole_is_tree t (rule, alt, at, children, is, tokens, fits) =
      (rule, alt, at, children, ap items_of is, subst (IsPlaced 0) is tokens, subst (Conforms rules word) is fits)

-- What holds at a moment of a run: the open rules are parts of words of their alternatives, the tokens of the open rules are all
-- so far where no tree is outside, and a tree outside is whole.
pub record IsFitting (rules : List StepRule) (net : ParserNetwork) (word : List ℕ) (r : Run) : Type 0 where
  pub stage : Stage net (2 * length (rewritten rules) + 2) (length word) r
  pub one : HasOneTree (backs r.frames) r.state r.tree
  pub are_open : AreOpen rules net word r.state r.frames
  pub tokens : r.tree ≡ no_tree → ArePlacedTo r.place r.frames
  pub whole : (t : Tree) → r.tree ≡ only t → IsWhole rules word t

module _ (set : List ℕ) (rules : List StepRule) (start : List ℕ) (net : ParserNetwork) (values : Values) (word : List ℕ)
    (can : CanBeRewritten rules) (built : IsBuilt set (rewritten rules) (numberings rules) start net) (ends : EndsInEnd word) where
  abbrev Fitting : Run → Type 0
  Fitting = IsFitting rules net word

  abbrev Open : ℕ → List Frame → Type 0
  Open = AreOpen rules net word

  -- the open rules after closing one
  closed_open : (r s : Run) (ended : ℕ) (fs : List Frame) → state_at net r.state ≡ Some (End ended) →
      ClosesBy net values word r fs s → Open r.state fs → Open s.state s.frames
  closed_open r s ended [] is g h = absurd g
  closed_open r s ended (f ∷ []) is g h = subst (λ (x : Run). Open x.state x.frames) (sym g) tt
  closed_open r s ended (f ∷ k ∷ fs) is g h = subst (λ (x : Run). Open x.state x.frames) (sym g)
      (open_closed rules net word set start can built r ended f (k ∷ fs) is h)

  -- the open rules after a step
  open_on : (r s : Run) (o : Option (State (List ℕ))) → state_at net r.state ≡ o → GoesBy net values word deepest o r s →
      Open r.state r.frames → Open s.state s.frames
  open_on r s None is g h = absurd g
  open_on r s (Some (Decision targets)) is (i, t, says, first, e) h =
      subst (λ (x : Run). Open x.state x.frames) (sym e) (open_decided rules net word set start can built r.state i t targets r.frames is
      first h)
  open_on r s (Some (End ended)) is g h = closed_open r s ended r.frames is g h
  open_on r s (Some (Edge taken t)) is (a, next, has, e) h =
      subst (λ (x : Run). Open x.state x.frames) (sym e) (open_token rules net word set start can built r t a taken r.frames refl is next
      has h)
  open_on r s (Some (Call callee level back)) is (room, e) h =
      subst (λ (x : Run). Open x.state x.frames) (sym e) (open_call rules net word set start can built r.state callee level back r.place
      r.frames is h)
  open_on r s (Some (Predicate k t)) is (holds, e) h = subst (λ (x : Run). Open x.state x.frames) (sym e)
      (open_silently rules net word set start can built r.state t (Predicate k t) r.frames is (λ targets f. cc) refl (refl, refl) h)
  open_on r s (Some (Level q t)) is (below, e) h = subst (λ (x : Run). Open x.state x.frames) (sym e)
      (open_wrapped rules net word set start can built r.state q t r.frames is h)
  open_on r s (Some (Action t)) is e h = subst (λ (x : Run). Open x.state x.frames) (sym e)
      (open_silently rules net word set start can built r.state t (Action t) r.frames is (λ targets f. cc) refl (refl, refl) h)
  open_on r s (Some (Empty t)) is e h = subst (λ (x : Run). Open x.state x.frames) (sym e)
      (open_silently rules net word set start can built r.state t (Empty t) r.frames is (λ targets f. cc) refl (refl, refl) h)

  -- the tokens of the open rules are all so far
  abbrev HasTokens : Run → Type 0
  HasTokens r = r.tree ≡ no_tree → ArePlacedTo r.place r.frames

  -- where no rule is open, an edge is taken after the start rule is closed
  outside_token : (r : Run) (taken : List ℕ) (t : ℕ) → state_at net r.state ≡ Some (Edge taken t) → HasOneTree [] r.state r.tree →
      r.tree ≡ no_tree → ⊥
  outside_token r taken t is one none =
      let h = one.1 (λ zero_is. let at = ap (state_at net) zero_is ∙ built.runnable.apart.added.call in cc) in
      let tree = h.1 in cc

  -- a token
  token_tokens : (r : Run) (t : ℕ) (taken : List ℕ) (fs : List Frame) → r.frames ≡ fs → state_at net r.state ≡ Some (Edge taken t) →
      HasOneTree (backs fs) r.state r.tree → (r.tree ≡ no_tree → ArePlacedTo r.place fs) →
      (with_token r fs).tree ≡ no_tree → ArePlacedTo (r.place + 1) (with_token r fs).frames
  token_tokens r t taken [] same is one h none = absurd (outside_token r taken t is one none)
  token_tokens r t taken (f ∷ fs) same is one h none = placed_more r f fs (h none)

  -- closing a rule
  closed_tokens : (r s : Run) (fs : List Frame) → ClosesBy net values word r fs s → (r.tree ≡ no_tree → ArePlacedTo r.place fs) →
      HasTokens s
  closed_tokens r s [] g h = absurd g
  closed_tokens r s (f ∷ []) g h = subst HasTokens (sym g) (λ none. absurd (not_none r.tree none))
    where
      not_none : (ts : Forest) → and_then ts (only (node_of f)) ≡ no_tree → ⊥
      not_none no_tree e = cc
      not_none (a_tree t ts) e = cc
  closed_tokens r s (f ∷ k ∷ fs) g h = subst HasTokens (sym g)
      (λ none. placed_closed (record r { state = f.back; frames = k ∷ fs }) f k fs r.place (h none))

  tokens_on : (r s : Run) (o : Option (State (List ℕ))) → state_at net r.state ≡ o → GoesBy net values word deepest o r s →
      HasOneTree (backs r.frames) r.state r.tree → HasTokens r → HasTokens s
  tokens_on r s None is g one h = absurd g
  tokens_on r s (Some (Decision targets)) is (i, t, says, first, e) one h =
      subst HasTokens (sym e) (λ none. placed_alt (begun net t (state_at net t)) r.place r.frames (h none))
  tokens_on r s (Some (End ended)) is g one h = closed_tokens r s r.frames g h
  tokens_on r s (Some (Edge taken t)) is (a, next, has, e) one h = subst HasTokens (sym e) (token_tokens r t taken r.frames refl is one h)
  tokens_on r s (Some (Call callee level back)) is (room, e) one h =
      subst HasTokens (sym e) (λ none. let h' = h none in let still : count_open r.frames + 0 ≡ r.place = omega (arith, h'.1) in
      ((sym h'.1, tt, h'.0), still))
  tokens_on r s (Some (Predicate k t)) is (holds, e) one h = subst HasTokens (sym e) h
  tokens_on r s (Some (Level q t)) is (below, e) one h = subst HasTokens (sym e)
      (λ none. placed_wrapped (written_at net r.state) r.place r.frames (h none))
  tokens_on r s (Some (Action t)) is e one h = subst HasTokens (sym e) h
  tokens_on r s (Some (Empty t)) is e one h = subst HasTokens (sym e) h

  -- a tree outside the open rules is whole
  abbrev HasWhole : Forest → Type 0
  HasWhole ts = (t : Tree) → ts ≡ only t → IsWhole rules word t

  -- the last open rule is closed
  last_closed : (ts : Forest) (f : Frame) (place : ℕ) → Conforms rules word (node_of f) → (ts ≡ no_tree → ArePlacedTo place (f ∷ [])) →
      HasWhole (and_then ts (only (node_of f)))
  last_closed no_tree f place fits tokens t is =
      let same : node_of f ≡ t = cc in
      let placed = (tokens refl).0 in
      let own : IsWhole rules word (node_of f) = (
        f.rule,
        f.alt,
        f.at,
        f.children,
        refl,
        (placed.0, subst (λ (n : ℕ). ArePlaced n f.children) placed.0 placed.1),
        fits,
      ) in
      subst (IsWhole rules word) same own
  last_closed (a_tree u ts) f place fits tokens t is = absurd (two_are_not_one u (node_of f) ts no_tree t is)

  closed_whole : (r s : Run) (ended : ℕ) (fs : List Frame) → state_at net r.state ≡ Some (End ended) →
      ClosesBy net values word r fs s → Open r.state fs → (r.tree ≡ no_tree → ArePlacedTo r.place fs) → HasWhole r.tree →
      HasWhole s.tree
  closed_whole r s ended [] is g h tokens whole = absurd g
  closed_whole r s ended (f ∷ []) is g h tokens whole = subst (λ (x : Run). HasWhole x.tree) (sym g)
      (last_closed r.tree f r.place (node_fits rules net word set start can built r.state ended f [] is h) tokens)
  closed_whole r s ended (f ∷ k ∷ fs) is g h tokens whole = subst (λ (x : Run). HasWhole x.tree) (sym g) whole

  token_tree : (r : Run) (fs : List Frame) → HasWhole r.tree → HasWhole (with_token r fs).tree
  token_tree r [] h = h
  token_tree r (f ∷ fs) h = h

  whole_on : (r s : Run) (o : Option (State (List ℕ))) → state_at net r.state ≡ o → GoesBy net values word deepest o r s →
      Open r.state r.frames → HasTokens r → HasWhole r.tree → HasWhole s.tree
  whole_on r s None is g h tokens whole = absurd g
  whole_on r s (Some (Decision targets)) is (i, t, says, first, e) h tokens whole = subst (λ (x : Run). HasWhole x.tree) (sym e) whole
  whole_on r s (Some (End ended)) is g h tokens whole = closed_whole r s ended r.frames is g h tokens whole
  whole_on r s (Some (Edge taken t)) is (a, next, has, e) h tokens whole =
      subst (λ (x : Run). HasWhole x.tree) (sym e) (token_tree r r.frames whole)
  whole_on r s (Some (Call callee level back)) is (room, e) h tokens whole = subst (λ (x : Run). HasWhole x.tree) (sym e) whole
  whole_on r s (Some (Predicate k t)) is (holds, e) h tokens whole = subst (λ (x : Run). HasWhole x.tree) (sym e) whole
  whole_on r s (Some (Level q t)) is (below, e) h tokens whole = subst (λ (x : Run). HasWhole x.tree) (sym e) whole
  whole_on r s (Some (Action t)) is e h tokens whole = subst (λ (x : Run). HasWhole x.tree) (sym e) whole
  whole_on r s (Some (Empty t)) is e h tokens whole = subst (λ (x : Run). HasWhole x.tree) (sym e) whole

  -- a step
  pub fitting_on : (r s : Run) → Goes net values word deepest r s → Fitting r → Fitting s
  fitting_on r s g h = record {
    stage = advances net (rule_number (rewritten rules) start) (2 * length
        (rewritten rules) + 2) built.runnable values word ends r s h.stage
        (proceeds_by net values word (state_at net r.state) r s g);
    one = one_tree_on net (rule_number (rewritten rules) start) (2 * length (rewritten rules) + 2) built.runnable
        (length word) values word r s h.stage (proceeds_by net values word (state_at net r.state) r s g)
        h.one;
    are_open = open_on r s (state_at net r.state) refl g h.are_open;
    tokens = tokens_on r s (state_at net r.state) refl g h.one h.tokens;
    whole = whole_on r s (state_at net r.state) refl g h.are_open h.tokens h.whole;
  }

  -- the beginning
  pub fitting_begins : Fitting beginning
  fitting_begins = record {
    stage = begins net (rule_number (rewritten rules) start) (2 * length (rewritten rules) + 2) built.runnable values word ends;
    one = (λ e. refl, λ n. absurd (n refl));
    are_open = tt;
    tokens = λ none. (tt, refl);
    whole = λ t e. absurd (let k : ⊥ = cc in k);
  }

  -- where a run stops with a tree, this is the one outside
  pub stops_tree : (r : Run) (o : Option (State (List ℕ))) (t : Tree) → StopsBy net values word deepest o r (parsed t) →
      r.tree ≡ only t
  stops_tree r None t stop = absurd stop
  stops_tree r (Some (Decision targets)) t (k, says, e) = absurd (let n : ⊥ = cc in n)
  stops_tree r (Some (End rule)) t (none, added, (u, is, e)) = let same : u ≡ t = cc in is ∙ ap only same
  stops_tree r (Some (Edge taken u)) t (a, next, has, e) = absurd (let n : ⊥ = cc in n)
  stops_tree r (Some (Call callee level back)) t (deep, e) = absurd (let n : ⊥ = cc in n)
  stops_tree r (Some (Predicate k u)) t (fails, e) = absurd (let n : ⊥ = cc in n)
  stops_tree r (Some (Level q u)) t (above, e) = absurd (let n : ⊥ = cc in n)
  stops_tree r (Some (Action u)) t stop = absurd stop
  stops_tree r (Some (Empty u)) t stop = absurd stop

  -- a run that stops with a tree
  runs_whole : (r : Run) (e : Ending) (t : Tree) → Runs net values word deepest r e → e ≡ parsed t → Fitting r → IsWhole rules word t
  runs_whole r e t (stops _ _ stop) is h = h.whole t (stops_tree r (state_at net r.state) t
      (subst (StopsBy net values word deepest (state_at net r.state) r) is stop))
  runs_whole r e t (goes _ s _ step more) is h = runs_whole s e t more is (fitting_on r s step h)

-- the tree of a run over the network of rules is one of the trees of the rules as they are written
pub tree_fits : (set : List ℕ) (rules : List StepRule) (start : List ℕ) (net : ParserNetwork) (values : Values) (word : List ℕ)
    → CanBeRewritten rules → IsBuilt set (rewritten rules) (numberings rules) start net → EndsInEnd word → (t : Tree)
    → Ends net values word (parsed t) →
    IsTreeOf rules word (items_of t)
tree_fits set rules start net values word can built ends t runs =
    whole_is_tree rules word t (runs_whole set rules start net values word can built ends beginning (parsed t) t runs refl
    (fitting_begins set rules start net values word can built ends))

-- so what the parse call answers is the items of one of the rules' trees
pub answer_fits : (net : ParserNetwork) (values : Values) (word : List ℕ) (x : Result (List Item) ParseFault) → EndsInEnd word
    → IsParse net values word x → (set : List ℕ) (rules : List StepRule) (start : List ℕ) → CanBeRewritten rules →
    IsBuilt set (rewritten rules) (numberings rules) start net → IfOk x (IsTreeOf rules word)
answer_fits net values word (Ok xs) ends (t, runs, is) set rules start can built =
    subst (IsTreeOf rules word) (sym is) (tree_fits set rules start net values word can built ends t runs)
answer_fits net values word (Err fault) ends fails set rules start can built = tt
