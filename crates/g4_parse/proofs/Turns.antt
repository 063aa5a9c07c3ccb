-- What a turn of the parser is in the run.
use Rattle.std.proofs.Common.{◌≡◌, ◌+◌, ◌-◌, ◌<◌, ◌≤◌, ◌++◌, ◌∷◌, [], ℕ, ◌↔◌, List, length, map, get_or, take, drop, reverse, false, cond, ◌==◌, refl, sym, ◌∙◌, ap, subst, arith, length-append}
use Rattle.std.specs.Prelude.{Contains, Option, Some, Result, Ok, Err, IsErrAnd, ⊤, slice_get}
use Rattle.std.proofs.lemmas.Option.{slice_get_within, get_or_from_slice_get}
use Rattle.std.proofs.lemmas.List.Elements.{Contains-get_or}
use Rattle.std.proofs.lemmas.Bool.{false_from_ne_true}
use Rattle.std.proofs.lemmas.Bool.Decides.{nat_tests}
use Rattle.g4_net.specs.declared.network.State.{State}
use Rattle.g4_net.specs.declared.network.State.TheVariants.{Decision}
use Rattle.g4_net.specs.Network.{ParserNetwork, state_at, IsFirst}
use Rattle.g4_net.specs.Leads.{WellFormed}
use Rattle.g4_net.specs.Configurations.{above_bottom}
use Rattle.g4_net.specs.Prediction.{Choice, chosen, no_viable}
use Rattle.g4_net.specs.Proper.{IsProper}
use Rattle.g4_guards.proofs.Choosing.{choice_over}
use Rattle.g4_guards.specs.Choosing.{Chooses}
use Rattle.g4_decide.specs.Deciding as decided
use Rattle.g4_decide.specs.Deciding.{AllowedFirsts, IsChosenOver}
use Rattle.g4_guards.specs.Levels.{AllowedAt, IsCondition, IsDecision}
use Rattle.g4_net.specs.declared.allowed.Allowed.TheVariants.{Listed}
use Rattle.g4_decide.specs.declared.fault.DecideFault.{DecideFault}
use Rattle.g4_decide.specs.declared.fault.DecideFault.TheVariants as deciding
use Rattle.g4_parse.specs.Deciding.{IsPredicted, of_decide}
use Rattle.g4_trees.specs.Trees.{leaf}
use Rattle.g4_trees.specs.Growing.{Growing, with_tree, with_alternative, with_close, with_wrap}
use Rattle.g4_trees.specs.Kept.{HasGrown}
use Rattle.g4_parse.specs.declared.predicates.Opened.{Opened}
use Rattle.g4_parse.specs.declared.parser.Parser.{Parser}
use Rattle.g4_parse.specs.declared.parser.ParseFault.{ParseFault}
use Rattle.g4_run.proofs.Moments.{place_child, state_child}
use Rattle.g4_run.specs.Running.{Frame, Run, not_viable, Predicts, ClosesBy, with_child, with_token, with_begun, begun, wrapped, node_of, stack_of, AllowsAt, backs, open_rules, Values}
use Rattle.g4_parse.specs.Teaching.{HadMemory, IsConditionAt, IsNoRefusal}
use Rattle.g4_parse.specs.Standing.{StandsFor, IsFaultBy, IsTurnBy, IsDeciding, returns_of, opened_of, grown}
use Rattle.g4_parse.proofs.Grown.{all_but_last, returns_child, opened_child, grown_close, returns_alt, opened_alt, grown_alt, returns_wrapped, opened_wrapped, grown_wrapped, reverse_returns, rules_open}

-- lists that end alike are alike
same_last : (xs ys : List ℕ) (x y : ℕ) → xs ++ x ∷ [] ≡ ys ++ y ∷ [] → (xs ≡ ys) × (x ≡ y)
same_last [] [] x y e = (refl, cc)
same_last [] (b ∷ ys) x y e = absurd (omega (arith, ap length e, length-append ys (y ∷ [])))
same_last (a ∷ xs) [] x y e = absurd (omega (arith, ap length e, length-append xs (x ∷ [])))
same_last (a ∷ xs) (b ∷ ys) x y e =
    let tail : xs ++ x ∷ [] ≡ ys ++ y ∷ [] = cc in
    let head : a ≡ b = cc in
    let same : (xs ≡ ys) × (x ≡ y) = same_last xs ys x y tail in
    (cc, same.1)

-- no rule is open where none is listed
pub none_opened : (fs : List Frame) → returns_of fs ≡ [] → fs ≡ []
none_opened [] e = refl
none_opened (f ∷ fs) e = absurd (omega (arith, ap length e, length-append (returns_of fs) (f.back ∷ [])))

-- Popping the newest open rule and closing its node is a step of the run.
pub closes : (net : ParserNetwork) (values : Values) (word : List ℕ) (r : Run) (fs : List Frame) (p q : Parser) (back : ℕ) (rest : List ℕ)
    → r.frames ≡ fs → StandsFor p r → p.returns.items ≡ rest ++ back ∷ [] → q.state ≡ back → q.place ≡ p.place
    → q.returns.items ≡ rest → q.opened.items ≡ take (length p.opened.items - 1) p.opened.items
    → ((g : Growing) → HasGrown p.tree g → HasGrown q.tree (with_close g))
    → (s : Run) × ClosesBy net values word r fs s × StandsFor q s
closes net values word r [] p q back rest same h popped a b d o e =
    let none : rest ++ back ∷ [] ≡ [] = sym popped ∙ h.returns ∙ ap returns_of same in
    absurd (omega (arith, ap length none, length-append rest (back ∷ [])))
closes net values word r (f ∷ fs) p q back rest same h popped a b d o e =
    let after : Run = record { state = f.back; place = r.place; frames = fs; tree = r.tree } in
    let last : (returns_of fs ≡ rest) × (f.back ≡ back) =
    same_last (returns_of fs) rest f.back back (sym (ap returns_of same) ∙ sym h.returns ∙ popped) in
    let tree : HasGrown p.tree (grown (f ∷ fs) r.tree) = subst (λ (gs : List Frame). HasGrown p.tree (grown gs r.tree)) same h.tree in
    let newest : Opened = record { rule = f.rule; level = f.level } in
    let rest_open : take (length p.opened.items - 1) p.opened.items ≡ opened_of fs =
    ap (λ (xs : List Opened). take (length xs - 1) xs) (h.opened ∙ ap opened_of same) ∙ all_but_last (opened_of fs) newest in (
      with_child after fs (node_of f),
      refl,
      record {
        state = a ∙ sym last.1 ∙ sym (state_child after fs (node_of f));
        place = b ∙ h.place ∙ sym (place_child after fs (node_of f));
        returns = d ∙ sym last.0 ∙ sym (returns_child after fs (node_of f));
        opened = o ∙ rest_open ∙ sym (opened_child after fs (node_of f));
        tree = subst (HasGrown q.tree) (sym (grown_close after f fs)) (e (grown (f ∷ fs) r.tree) tree);
      },
    )

-- what a predicate's value is asked of is that of the moment
pub held : (values : Values) (r : Run) (p : Parser) (opened : List Opened) (k : ℕ) → opened ≡ p.opened.items → StandsFor p r
    → values k (reverse (map (λ o. o.rule) opened)) p.place ≡ values k (open_rules r) r.place
held values r p opened k same h =
    ap (λ (rs : List ℕ). values k rs p.place)
    (ap (λ (os : List Opened). reverse (map (λ o. o.rule) os)) (same ∙ h.opened) ∙ rules_open r.frames)
    ∙ ap (λ (n : ℕ). values k (open_rules r) n) h.place

-- an alternative other than 0 is the node's
pub alt_is : (i alt : ℕ) → (i ≡ 0 → ⊥) → cond (i == 0) alt i ≡ i
alt_is i alt n = let other : (i == 0) ≡ false = false_from_ne_true (i == 0) (λ e. n (grind (arith, nat_tests))) in rw other refl

-- Writing the alternative of the newest open rule's node.
pub begins_alt : (r : Run) (p q : Parser) (i : ℕ) → (i ≡ 0 → ⊥) → StandsFor p r → q.state ≡ p.state → q.place ≡ p.place
    → q.returns.items ≡ p.returns.items → q.opened.items ≡ p.opened.items
    → ((g : Growing) → HasGrown p.tree g → HasGrown q.tree (with_alternative i g)) → StandsFor q (with_begun i r)
begins_alt r p q i n h a b c o e = record {
  state = a ∙ h.state;
  place = b ∙ h.place;
  returns = c ∙ h.returns ∙ sym (returns_alt i r.frames);
  opened = o ∙ h.opened ∙ sym (opened_alt i r.frames);
  tree = subst (HasGrown q.tree) (sym (grown_alt i r.frames r (λ alt. alt_is i alt n))) (e (grown r.frames r.tree) h.tree);
}

-- Passing a level makes the node so far a first child.
pub passes_level : (r : Run) (p q : Parser) (t i : ℕ) → StandsFor p r → q.state ≡ t → q.place ≡ p.place
    → q.returns.items ≡ p.returns.items → q.opened.items ≡ p.opened.items
    → ((g : Growing) → HasGrown p.tree g → HasGrown q.tree (with_wrap i g))
    → StandsFor q (record r { state = t; frames = wrapped i r.frames })
passes_level r p q t i h a b c o e = record {
  state = a;
  place = b ∙ h.place;
  returns = c ∙ h.returns ∙ sym (returns_wrapped i r.frames);
  opened = o ∙ h.opened ∙ sym (opened_wrapped i r.frames);
  tree = subst (HasGrown q.tree) (sym (grown_wrapped i r.frames r)) (e (grown r.frames r.tree) h.tree);
}

-- Keeping a token makes it a child of the newest open rule.
pub keeps_token : (r : Run) (fs : List Frame) (p q : Parser) → r.frames ≡ fs → (returns_of fs ≡ [] → ⊥) → StandsFor p r
    → q.state ≡ p.state → q.place ≡ p.place → q.returns.items ≡ p.returns.items → q.opened.items ≡ p.opened.items
    → ((g : Growing) → HasGrown p.tree g → HasGrown q.tree (with_tree (leaf p.place) g)) → StandsFor q (with_token r fs)
keeps_token r [] p q same some h a b c o e = absurd (some refl)
keeps_token r (f ∷ fs) p q same some h a b c o e = record {
  state = a ∙ h.state;
  place = b ∙ h.place;
  returns = c ∙ h.returns ∙ ap returns_of same;
  opened = o ∙ h.opened ∙ ap opened_of same;
  tree = subst (λ (k : ℕ). HasGrown q.tree (with_tree (leaf k) (grown (f ∷ fs) r.tree))) h.place
      (e (grown (f ∷ fs) r.tree) (subst (λ (gs : List Frame). HasGrown p.tree (grown gs r.tree)) same h.tree));
}

-- what is chosen over the alternatives of a set is what prediction says where the moment allows these
pub predicted : (net : ParserNetwork) (values : Values) (word : List ℕ) (r : Run) (p : Parser) (A : ℕ → Type 0) (choice : Choice)
    → ((i : ℕ) → A i ↔ AllowsAt net values word r i) → StandsFor p r
    → Chooses net p.state A (above_bottom (reverse p.returns.items)) (drop p.place word) choice → Predicts net values word r choice
predicted net values word r p A choice allows h says =
    let stack : reverse p.returns.items ≡ backs r.frames = ap reverse h.returns ∙ reverse_returns r.frames in
    let said : Chooses net r.state A (stack_of r) (drop r.place word) choice = rw (← h.state, ← h.place, ← stack) says in
    choice_over net r.state A (AllowsAt net values word r) allows (stack_of r) (drop r.place word) choice said

-- so it is with the answer of deciding
pub predicted_by : (net : ParserNetwork) (values : Values) (word : List ℕ) (r : Run) (p : Parser) (A : ℕ → Type 0)
    (x : Result ℕ DecideFault) → ((i : ℕ) → A i ↔ AllowsAt net values word r i) → StandsFor p r
    → IsChosenOver net p.state A (reverse p.returns.items) (drop p.place word) p.place x → IsPredicted net values word r x
predicted_by net values word r p A (Ok i) allows h (says, (t, first)) =
    (predicted net values word r p A (chosen i) allows h says, (t, subst (λ (d : ℕ). IsFirst net d i t) h.state first))
predicted_by net values word r p A (Err (deciding.NoViable at)) allows h (k, says, is) =
    (k, predicted net values word r p A (no_viable k) allows h says, is ∙ ap (λ (n : ℕ). n + k) h.place)
predicted_by net values word r p A (Err deciding.NoMemory) allows h is = tt

-- what prediction says in the network of the plan
pub own_predicted : (net own : ParserNetwork) (values : Values) (word : List ℕ) (r : Run) (x : Result ℕ DecideFault) → net ≡ own
    → IsPredicted own values word r x → IsPredicted net values word r x
own_predicted net own values word r x same said = subst (λ (n : ParserNetwork). IsPredicted n values word r x) (sym same) said

-- where the alternative that is chosen begins
pub first_at : (net own : ParserNetwork) (values : Values) (word : List ℕ) (n : ℕ) (p : Parser) (i : ℕ) → net ≡ own → IsDeciding net n p
    → ((r : Run) → StandsFor p r → IsPredicted own values word r (Ok i)) → (t : ℕ) × IsFirst net p.state i t
first_at net own values word n p i same (r, stands, fit) says =
    let said = own_predicted net own values word r (Ok i) same (says r stands) in
    (said.1.0, subst (λ (d : ℕ). IsFirst net d i said.1.0) (sym stands.state) said.1.1)

-- the condition of the moment is one of the decision where the parser is
pub under_here : (net : ParserNetwork) (values : Values) (word : List ℕ) (r : Run) (p : Parser) (n : ℕ) → StandsFor p r
    → IsConditionAt net values word r n → IsCondition net p.state n × ((i : ℕ) → AllowedAt net p.state n i ↔ AllowsAt net values word r i)
under_here net values word r p n h under = (
  subst (λ (d : ℕ). IsCondition net d n) (sym h.state) under.is,
  λ i. subst (λ (d : ℕ). AllowedAt net d n i ↔ AllowsAt net values word r i) (sym h.state) (under.allows i),
)

-- where the parser's state is no decision, neither is that of the moment
pub undecided : (net : ParserNetwork) (r : Run) (p : Parser) (s : State (List ℕ)) → StandsFor p r → state_at net p.state ≡ Some s
    → ((targets : List ℕ) → s ≡ Decision targets → ⊥) → IsDecision net r.state → ⊥
undecided net r p s h at none (targets, decides) =
    let here : state_at net p.state ≡ Some (Decision targets) =
    subst (λ (d : ℕ). state_at net d ≡ Some (Decision targets)) (sym h.state) decides in
    none targets (let e = sym at ∙ here in cc)

-- a token is left where the parser is at a decision
pub more_here : (net : ParserNetwork) (n : ℕ) (p : Parser) → IsDeciding net n p → p.place < n
more_here net n p (r, stands, fit) = let more = fit.more in omega (arith, stands.place, more)

-- the alternatives of the decision that are listed are those that the moment allows
pub listed_here : (net : ParserNetwork) (values : Values) (word : List ℕ) (r : Run) (p : Parser) (found : List ℕ) → StandsFor p r
    → ((i t : ℕ) → IsFirst net r.state i t → Contains found i ↔ AllowsAt net values word r i)
    → (i : ℕ) → AllowedFirsts net p.state (Listed found) i ↔ AllowsAt net values word r i
listed_here net values word r p found h are i = (
  (λ (has, (t, first)). (are i t (subst (λ (d : ℕ). IsFirst net d i t) h.state first)).0 has),
  (λ (t, first, passes). ((are i t first).1 (t, first, passes), (t, subst (λ (d : ℕ). IsFirst net d i t) (sym h.state) first))),
)

-- Going to the alternative that is chosen is a turn of the parser.
pub chooses : (net : ParserNetwork) (values : Values) (word : List ℕ) (r : Run) (q : Parser) (targets : List ℕ) (i t : ℕ)
    → Predicts net values word r (chosen i) → IsFirst net r.state i t
    → StandsFor q (record (with_begun (begun net t (state_at net t)) r) { state = t })
    → IsTurnBy net values word (Some (Decision targets)) r q (Ok tt)
chooses net values word r q targets i t says first after =
    (record (with_begun (begun net t (state_at net t)) r) { state = t }, (i, t, says, first, refl), after)

-- the stack of a parser at a decision is proper
pub proper_stack : (net : ParserNetwork) (n : ℕ) (p : Parser) (returns : List ℕ) → returns ≡ p.returns.items → IsDeciding net n p
    → IsProper net p.state (reverse returns)
proper_stack net n p returns are (r, stands, fit) =
    let stack : reverse returns ≡ backs r.frames = ap reverse (are ∙ stands.returns) ∙ reverse_returns r.frames in
    subst (λ (bs : List ℕ). IsProper net p.state bs) (sym stack)
    (subst (λ (at : ℕ). IsProper net at (backs r.frames)) (sym stands.state) fit.proper)

-- a turn by the parser's state is one by the state of the moment
pub turned : (net : ParserNetwork) (values : Values) (word : List ℕ) (r : Run) (p q : Parser) (s : State (List ℕ)) (x : Result ⊤ ParseFault)
    → StandsFor p r → state_at net p.state ≡ Some s → IsTurnBy net values word (Some s) r q x
    → IsTurnBy net values word (state_at net r.state) r q x
turned net values word r p q s x h at_s = subst (λ (o : Option (State (List ℕ))). IsTurnBy net values word o r q x)
    (sym at_s ∙ ap (λ (n : ℕ). state_at net n) h.state)

-- an alternative of a decision is one of its targets
pub first_of : (net : ParserNetwork) (d i t : ℕ) (targets : List ℕ) → state_at net d ≡ Some (Decision targets) → IsFirst net d i t
    → (i - 1 < length targets) × (get_or targets (i - 1) 0 ≡ t) × (1 ≤ i)
first_of net d i t targets at_d (us, k, at_u, has, is) =
    let same : us ≡ targets = cc in
    let got : slice_get targets k ≡ Some t = subst (λ (xs : List ℕ). slice_get xs k ≡ Some t) same has in
    let place : i - 1 ≡ k = omega arith in
    let within = slice_get_within targets k t got in
    (omega arith, ap (λ (n : ℕ). get_or targets n 0) place ∙ get_or_from_slice_get targets k t 0 got, omega arith)

-- a target of a decision is a state
pub state_within : (net : ParserNetwork) (d : ℕ) (targets : List ℕ) (k : ℕ) → WellFormed net
    → state_at net d ≡ Some (Decision targets) → k < length targets → get_or targets k 0 < length net.states
state_within net d targets k well at_d less = well.targets d (get_or targets k 0) (Decision targets) at_d (Contains-get_or targets k 0 less)

-- where prediction finds no alternative the run stops
pub decides_fault : (net : ParserNetwork) (values : Values) (word : List ℕ) (r : Run) (targets : List ℕ) (fault : DecideFault)
    → IsPredicted net values word r (Err fault) → IsFaultBy net values word (Some (Decision targets)) r (of_decide fault)
decides_fault net values word r targets (deciding.NoViable at) (k, says, is) = (k, says, ap not_viable is)
decides_fault net values word r targets deciding.NoMemory is = tt

-- a turn that answers with this fault
pub fails_with : (net : ParserNetwork) (values : Values) (word : List ℕ) (o : Option (State (List ℕ))) (r : Run) (q : Parser)
    (fault : ParseFault)
    (x : Result ⊤ ParseFault) → IsErrAnd x (λ e. e ≡ fault) → IsFaultBy net values word o r fault → IsTurnBy net values word o r q x
fails_with net values word o r q fault (Ok done) is h = absurd is
fails_with net values word o r q fault (Err e) is h = subst (IsFaultBy net values word o r) (sym is) h

-- the parser at another state is at the moment of that state
pub moved_to : (p : Parser) (r s : Run) (t : ℕ) → r ≡ s → StandsFor p r → StandsFor (record p { state = t }) (record s { state = t })
moved_to p r s t same h =
    let k : StandsFor p s = subst (StandsFor p) same h in
    record { state = refl; place = k.place; returns = k.returns; opened = k.opened; tree = k.tree }

-- a fault of deciding that is no want of memory is one of parsing that is none
pub had_decided : (x : Result ⊤ ParseFault) (fault : DecideFault) → IsErrAnd x (λ e. e ≡ of_decide fault) → HadMemory x
    → decided.HadMemory {X = ℕ} (Err fault)
had_decided (Ok done) fault is had = absurd is
had_decided (Err e) (deciding.NoViable at) is had = tt
had_decided (Err e) deciding.NoMemory is had = subst IsNoRefusal is had
