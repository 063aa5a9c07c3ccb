-- Of a token list that is parsed, nothing is left out of the tree but what ends the list.
use Rattle.std.proofs.Common.{◌≡◌, ◌⊎◌, inl, inr, ℕ, ◌+◌, ◌*◌, List, [], ◌∷◌, length, drop, Option, Some, None, refl, sym, ◌∙◌, ap, subst, arith, Contains, Result, Ok, Err, IfOk}
use Rattle.g4_tokens.specs.Symbols.{end_of_list}
use Rattle.g4_grammar.specs.StepRules.{StepRule, CanBeRewritten}
use Rattle.g4_net.specs.declared.network.State.{State}
use Rattle.g4_net.specs.declared.network.State.TheVariants.{Decision, End, Edge, Call, Predicate, Level, Action, Empty}
use Rattle.g4_net.specs.Network.{ParserNetwork, state_at}
use Rattle.g4_net.specs.Proper.{IsProper}
use Rattle.g4_layout.specs.Built.{IsBuilt}
use Rattle.g4_layout.specs.Rules.{rule_number}
use Rattle.g4_leftrec.specs.Rewriting.{rewritten, numberings}
use Rattle.g4_tokens.specs.TokenList.{EndsInEnd}
use Rattle.g4_trees.specs.declared.tree.Item.{Item}
use Rattle.g4_trees.specs.Trees.{Tree, Forest, no_tree, and_then, only, tokens_of}
use Rattle.g4_run.proofs.Closing.{closing_left, returns_to_loop}
use Rattle.g4_run.proofs.Moments.{tree_token}
use Rattle.g4_run.specs.Running.{Frame, Run, Ending, parsed, beginning, ClosesBy, GoesBy, StopsBy, Runs, stops, goes, with_child, node_of, deepest, backs, Values}
use Rattle.g4_parse.specs.declared.parser.ParseFault.{ParseFault}
use Rattle.g4_parse.specs.Parsing.{IsParse, LeavesClosing}
use Rattle.g4_parse.proofs.Fitting.{ArePlacedTo, IsFitting, fitting_begins, fitting_on, stops_tree}
use Rattle.g4_parse.proofs.OneTree.{HasOneTree}

module _ (net : ParserNetwork) (values : Values) (word : List ℕ) where
  -- the only open rule is closed
  abbrev ClosesLast : Run → Run → Type 0
  ClosesLast r s = (f : Frame) × (r.frames ≡ f ∷ []) × (s ≡ with_child (record r { state = f.back; frames = [] }) [] (node_of f))

  closed : (r s : Run) (fs : List Frame) → r.frames ≡ fs → ClosesBy net values word r fs s → (s.tree ≡ r.tree) ⊎ ClosesLast r s
  closed r s [] e g = absurd g
  closed r s (f ∷ []) e g = inr (f, e, g)
  closed r s (f ∷ k ∷ fs) e g = inl (ap (λ (x : Run). x.tree) g)

  -- each other step leaves the tree outside the open rules as it is
  tree_on : (r s : Run) (o : Option (State (List ℕ))) → GoesBy net values word deepest o r s → (s.tree ≡ r.tree) ⊎ ClosesLast r s
  tree_on r s None g = absurd g
  tree_on r s (Some (Decision targets)) (i, t, says, first, e) = inl (ap (λ (x : Run). x.tree) e)
  tree_on r s (Some (End ended)) g = closed r s r.frames refl g
  tree_on r s (Some (Edge taken t)) (a, next, has, e) = inl (ap (λ (x : Run). x.tree) e ∙ tree_token r r.frames)
  tree_on r s (Some (Call callee level back)) (room, e) = inl (ap (λ (x : Run). x.tree) e)
  tree_on r s (Some (Predicate k t)) (holds, e) = inl (ap (λ (x : Run). x.tree) e)
  tree_on r s (Some (Level q t)) (below, e) = inl (ap (λ (x : Run). x.tree) e)
  tree_on r s (Some (Action t)) e = inl (ap (λ (x : Run). x.tree) e)
  tree_on r s (Some (Empty t)) e = inl (ap (λ (x : Run). x.tree) e)

module _ (set : List ℕ) (rules : List StepRule) (start : List ℕ) (net : ParserNetwork) (values : Values) (word : List ℕ)
    (can : CanBeRewritten rules) (built : IsBuilt set (rewritten rules) (numberings rules) start net) (ends : EndsInEnd word) where
  -- what follows the first n symbols of the word is what ends it
  abbrev ClosesAfter : ℕ → Type 0
  ClosesAfter n = (a : ℕ) → Contains (drop n word) a → Contains set a ⊎ (a ≡ end_of_list)

  -- so it is after the tokens of a tree outside the open rules
  abbrev HasClosing : Forest → Type 0
  HasClosing ts = (t : Tree) → ts ≡ only t → ClosesAfter (length (tokens_of t))

  -- it is once the only open rule is closed, which has all tokens so far
  last_closed : (r s : Run) (tree : Tree) → IsFitting rules net word r → ClosesLast net values word r s →
      Runs net values word deepest s (parsed tree) → HasClosing s.tree
  last_closed r s tree h (f, e, g) run t is =
      let returns : backs r.frames ≡ f.back ∷ [] = ap backs e in
      let none : r.tree ≡ no_tree = (subst (λ (bs : List ℕ). HasOneTree bs r.state r.tree) returns h.one).0 in
      let placed : ArePlacedTo r.place (f ∷ []) = subst (ArePlacedTo r.place) e (h.tokens none) in
      let own : s.tree ≡ only (node_of f) = ap (λ (x : Run). x.tree) g ∙ ap (λ (ts : Forest). and_then ts (only (node_of f))) none in
      let same : only (node_of f) ≡ only t = sym own ∙ is in
      let node_is : node_of f ≡ t = cc in
      let count : length (tokens_of (node_of f)) ≡ r.place = omega (arith, placed.1) in
      let place : s.place ≡ length (tokens_of t) =
      ap (λ (x : Run). x.place) g ∙ sym count ∙ ap (λ (u : Tree). length (tokens_of u)) node_is in
      let loop = 2 * length (rewritten rules) + 2 in
      let to_loop : f.back ≡ loop = returns_to_loop net (rule_number (rewritten rules) start) loop built.runnable.apart r.state f.back
      (subst (IsProper net r.state) returns h.stage.proper) in
      subst ClosesAfter place (closing_left net (rule_number (rewritten rules) start) loop built.runnable.apart values word deepest s
      tree ends (ap (λ (x : Run). x.state) g ∙ to_loop) (ap (λ (x : Run). x.frames) g) run)

  -- so it is with the tree that a run ends with
  runs_close : (r : Run) (e : Ending) (t : Tree) → Runs net values word deepest r e → e ≡ parsed t → IsFitting rules net word r →
      HasClosing r.tree → ClosesAfter (length (tokens_of t))
  runs_close r e t (stops _ _ stop) is h closing = closing t (stops_tree set rules start net values word can built ends r
      (state_at net r.state) t
      (subst (StopsBy net values word deepest (state_at net r.state) r) is stop))
  runs_close r e t (goes _ s _ step more) is h closing =
      runs_close s e t more is (fitting_on set rules start net values word can built ends r s step h)
      (elim (tree_on net values word r s (state_at net r.state) step) [
        | inl same ↦ subst HasClosing (sym same) closing
        | inr last ↦ last_closed r s t h last (subst (Runs net values word deepest s) is more)
      ])

-- so it is with what the parse call answers
pub answer_closes : (net : ParserNetwork) (values : Values) (word : List ℕ) (x : Result (List Item) ParseFault) → EndsInEnd word
    → IsParse net values word x → (set : List ℕ) (rules : List StepRule) (start : List ℕ) → CanBeRewritten rules →
    IsBuilt set (rewritten rules) (numberings rules) start net → IfOk x (LeavesClosing set word)
answer_closes net values word (Ok xs) ends (t, runs, is) set rules start can built = (
  t,
  is,
  runs_close set rules start net values word can built ends beginning (parsed t) t runs refl
      (fitting_begins set rules start net values word can built ends) (λ u e. absurd (let n : ⊥ = cc in n)),
)
answer_closes net values word (Err fault) ends fails set rules start can built = tt
