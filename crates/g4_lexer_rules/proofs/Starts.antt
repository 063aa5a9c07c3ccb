-- Where matches may begin, one rule more at a time.
use Rattle.std.proofs.Common.{◌≡◌, ◌==◌, ℕ, zero, suc, ◌+◌, ◌<◌, ◌≤◌, List, [], ◌∷◌, ◌++◌, length, map, take, drop, get_or, replicate, Bool, true, false, cond, Option, Some, None, refl, sym, ◌∙◌, ap, subst, arith, append_assoc, slice_get}
use Rattle.std.proofs.Math.ListN.{set}
use Rattle.std.specs.List.{range_with_len}
use Rattle.std.proofs.lemmas.Bool.Decides.{nat_tests}
use Rattle.std.proofs.lemmas.List.{append-nil, at_drop_more, at_drop_all, drop_more, set-set}
use Rattle.g4_names.specs.Places.{first_place}
use Rattle.g4_source.specs.declared.rule.LexerAlternative.{LexerAlternative}
use Rattle.g4_source.specs.declared.rule.LexerRule.{LexerRule}
use Rattle.g4_net.specs.declared.network.State.{State}
use Rattle.g4_net.specs.declared.network.State.TheVariants.{Decision, End, Edge, Call, Predicate, Level, Action, Empty}
use Rattle.g4_net.specs.Network.{start_of}
use Rattle.g4_ordered.specs.declared.network.Reads.{Reads}
use Rattle.g4_ordered.specs.declared.start.Start.{Start}
use Rattle.g4_lexer_rules.specs.Starts.{AllCanStart, CanStart, decided_starts, is_in_mode, is_place, matched_starts, mode_name, mode_starts, numbered_starts, rule_starts, starts_from, starts_in, with_rule, with_rules, with_starts, with_starts_at}

-- what is added, and then the rest
pub added : {X : Type 0} (old new part rest all : List X) (whole : List X) → old ++ whole ≡ all → new ≡ old ++ part
    → whole ≡ part ++ rest → new ++ rest ≡ all
added {X} old new part rest all whole so_far push parts =
    ap (λ (xs : List X). xs ++ rest) push ∙ (append_assoc old part rest ∙ (ap (λ (xs : List X). old ++ xs) (sym parts) ∙ so_far))

-- nothing is left
pub none_left : {X : Type 0} (old all rest : List X) → rest ≡ [] → old ++ rest ≡ all → old ≡ all
none_left {X} old all rest nothing so_far = sym (append-nil old) ∙ (ap (λ (xs : List X). old ++ xs) (sym nothing) ∙ so_far)

-- one alternative more
pub next_numbered : (rule k : ℕ) (ps : List ℕ) (i p : ℕ) → i < length ps → p ≡ get_or ps i p →
    numbered_starts rule k (drop i ps) ≡ (record { rule = rule; alternative = k; state = p } ∷ [])
    ++ numbered_starts rule (k + 1) (drop (i + 1) ps)
next_numbered rule k ps i p less at =
    at_drop_more (numbered_starts rule k) ps i p less
    ∙ ap (λ (q : ℕ). record { rule = rule; alternative = k; state = q } ∷ numbered_starts rule (k + 1) (drop (i + 1) ps)) (sym at)

-- no alternative more
pub no_numbered : (rule k : ℕ) (ps : List ℕ) (i : ℕ) → length ps ≤ i → numbered_starts rule k (drop i ps) ≡ []
no_numbered rule k ps i past = at_drop_all (numbered_starts rule k) ps i past

-- one alternative begins at the start itself
pub one_start : (states : List (State Reads)) (rule : ℕ) (xs : List LexerAlternative) → 1 ≤ length xs → length xs < 2
    → rule_starts states rule xs ≡ record { rule = rule; alternative = 1; state = start_of rule } ∷ []
one_start states rule [] low high = absurd (omega arith)
one_start states rule (x ∷ []) low high = refl
one_start states rule (x ∷ y ∷ xs) low high = absurd (omega arith)

-- several begin where the decision says
pub several_starts : (states : List (State Reads)) (rule : ℕ) (xs : List LexerAlternative) → 2 ≤ length xs
    → rule_starts states rule xs ≡ decided_starts rule (slice_get states (start_of rule))
several_starts states rule [] low = absurd (omega arith)
several_starts states rule (x ∷ []) low = absurd (omega arith)
several_starts states rule (x ∷ y ∷ xs) low = refl

-- a state that is no decision
pub undecided : (rule : ℕ) (s : State Reads) → ((firsts : List ℕ) → s ≡ Decision firsts → ⊥) → decided_starts rule (Some s) ≡ []
undecided rule (Decision firsts) other = absurd (other firsts refl)
undecided rule (End ended) other = refl
undecided rule (Edge label t) other = refl
undecided rule (Call called level back) other = refl
undecided rule (Predicate k t) other = refl
undecided rule (Level q t) other = refl
undecided rule (Action t) other = refl
undecided rule (Empty t) other = refl

-- one rule more
pub next_starts : (states : List (State Reads)) (k : ℕ) (rules : List LexerRule) (i : ℕ) (rule : LexerRule) → i < length rules
    → rule ≡ get_or rules i rule →
    starts_from states k (drop i rules) ≡ matched_starts states k rule ++ starts_from states (k + 1) (drop (i + 1) rules)
next_starts states k rules i rule less at =
    at_drop_more (starts_from states k) rules i rule less
    ∙ ap (λ (r : LexerRule). matched_starts states k r ++ starts_from states (k + 1) (drop (i + 1) rules)) (sym at)

-- no rule more
pub no_starts : (states : List (State Reads)) (k : ℕ) (rules : List LexerRule) (i : ℕ) → length rules ≤ i
    → starts_from states k (drop i rules) ≡ []
no_starts states k rules i past = at_drop_all (starts_from states k) rules i past

-- the next rule can start, and so can the others
pub next_can : (states : List (State Reads)) (k : ℕ) (rules : List LexerRule) (i : ℕ) (rule : LexerRule) → i < length rules
    → rule ≡ get_or rules i rule → AllCanStart states k (drop i rules) →
    CanStart states k rule × AllCanStart states (k + 1) (drop (i + 1) rules)
next_can states k rules i rule less at can =
    let known = subst (AllCanStart states k) (drop_more rules i rule less) can in
    (subst (CanStart states k) (sym at) known.0, known.1)

-- the front ones can
pub can_take : (states : List (State Reads)) (k : ℕ) (rules : List LexerRule) (n : ℕ) → AllCanStart states k rules
    → AllCanStart states k (take n rules)
can_take states k rules zero can = tt
can_take states k [] (suc n) can = tt
can_take states k (rule ∷ rules) (suc n) can = (can.0, can_take states (k + 1) rules n can.1)

-- the rest can
pub can_drop : (states : List (State Reads)) (k : ℕ) (rules : List LexerRule) (n : ℕ) → AllCanStart states k rules
    → AllCanStart states (k + n) (drop n rules)
can_drop states k rules zero can = let e : k ≡ k + zero = omega arith in subst (λ (j : ℕ). AllCanStart states j rules) e can
can_drop states k [] (suc n) can = tt
can_drop states k (rule ∷ rules) (suc n) can = let e : k + 1 + n ≡ k + suc n = omega arith in
    subst (λ (j : ℕ). AllCanStart states j (drop n rules)) e (can_drop states (k + 1) rules n can.1)

-- the front part of two lists
pub take_front : {X : Type 0} (xs ys : List X) → take (length xs) (xs ++ ys) ≡ xs
take_front [] ys = refl
take_front (x ∷ xs) ys = ap (λ (zs : List _). x ∷ zs) (take_front xs ys)

-- the rest of them
pub drop_front : {X : Type 0} (xs ys : List X) → drop (length xs) (xs ++ ys) ≡ ys
drop_front [] ys = refl
drop_front (x ∷ xs) ys = drop_front xs ys

-- one rule more, of which the starts are those of its mode
pub next_rules : (states : List (State Reads)) (modes : List (List ℕ)) (k : ℕ) (rules : List LexerRule) (i : ℕ) (rule : LexerRule)
    (all : List (List Start)) → i < length rules → rule ≡ get_or rules i rule →
    with_rules states modes k (drop i rules) all
    ≡ with_rules states modes (k + 1) (drop (i + 1) rules) (with_rule modes rule (matched_starts states k rule) all)
next_rules states modes k rules i rule all less at =
    at_drop_more (λ (rs : List LexerRule). with_rules states modes k rs all) rules i rule less
    ∙ ap (λ (r : LexerRule). with_rules states modes (k + 1) (drop (i + 1) rules) (with_rule modes r (matched_starts states k r) all))
    (sym at)

-- no rule more
pub no_rules : (states : List (State Reads)) (modes : List (List ℕ)) (k : ℕ) (rules : List LexerRule) (i : ℕ) (all : List (List Start))
    → length rules ≤ i → with_rules states modes k (drop i rules) all ≡ all
no_rules states modes k rules i all past = at_drop_all (λ (rs : List LexerRule). with_rules states modes k rs all) rules i past

module _ (f : ℕ → List Start) (more : List Start) where
  -- what is added at place k
  abbrev added_at : ℕ → ℕ → List Start
  added_at k j = f j ++ cond (k == j) more []

  -- nothing is added past place k
  nothing_past : (a n k : ℕ) → k < a → map (added_at k) (range_with_len a n) ≡ map f (range_with_len a n)
  nothing_past a zero k less = refl
  nothing_past a (suc n) k less =
      let other : (k == a) ≡ false = not_same k a less in
      ap (λ (b : Bool). (f a ++ cond b more []) ∷ map (added_at k) (range_with_len (a + 1) n)) other
      ∙ (ap (λ (xs : List Start). xs ∷ map (added_at k) (range_with_len (a + 1) n)) (append-nil (f a))
      ∙ ap (λ (all : List (List Start)). f a ∷ all) (nothing_past (a + 1) n k (omega (arith, less))))
    where
      not_same : (k a : ℕ) → k < a → (k == a) ≡ false
      not_same k a less = grind (arith, nat_tests)

  -- the starts of list k among those from place a on
  added_there : (a n k : ℕ) → with_starts k more (map f (range_with_len a n)) ≡ map (added_at (a + k)) (range_with_len a n)
  added_there a zero k = refl
  added_there a (suc n) zero =
      let here : (a + zero == a) ≡ true = grind (arith, nat_tests) in
      sym (ap (λ (b : Bool). (f a ++ cond b more []) ∷ map (added_at (a + zero)) (range_with_len (a + 1) n)) here
      ∙ ap (λ (all : List (List Start)). (f a ++ more) ∷ all) (nothing_past (a + 1) n (a + zero) (omega arith)))
  added_there a (suc n) (suc k) =
      let other : (a + suc k == a) ≡ false = grind (arith, nat_tests) in
      let next : a + 1 + k ≡ a + suc k = omega arith in
      sym (ap (λ (b : Bool). (f a ++ cond b more []) ∷ map (added_at (a + suc k)) (range_with_len (a + 1) n)) other
      ∙ (ap (λ (xs : List Start). xs ∷ map (added_at (a + suc k)) (range_with_len (a + 1) n)) (append-nil (f a))
      ∙ ap (λ (all : List (List Start)). f a ∷ all)
      (sym (added_there (a + 1) n k ∙ ap (λ (m : ℕ). map (added_at m) (range_with_len (a + 1) n)) next))))

module _ (states : List (State Reads)) (modes : List (List ℕ)) (n : ℕ) where
  -- the same of a rule, of which a mode may not be there
  one_rule : (f : ℕ → List Start) (rule : LexerRule) (more : List Start) →
      with_rule modes rule more (map f (range_with_len 0 n))
      ≡ map (λ j. f j ++ cond (is_in_mode modes j rule) more []) (range_with_len 0 n)
  one_rule f rule more = by (first_place modes (mode_name rule))
    where
      none : (js : List ℕ) → map f js ≡ map (λ j. f j ++ []) js
      none [] = refl
      none (j ∷ js) = ap (λ (xs : List Start). xs ∷ map f js) (sym (append-nil (f j)))
          ∙ ap (λ (all : List (List Start)). (f j ++ []) ∷ all) (none js)

      by : (place : Option ℕ) → with_starts_at place more (map f (range_with_len 0 n))
          ≡ map (λ j. f j ++ cond (is_place j place) more []) (range_with_len 0 n)
      by None = none (range_with_len 0 n)
      by (Some k) =
          let here : 0 + k ≡ k = omega arith in
          added_there f more 0 n k ∙ ap (λ (m : ℕ). map (added_at f more m) (range_with_len 0 n)) here

  -- the starts of all rules, mode by mode
  all_rules_added : (rules : List LexerRule) (k : ℕ) (f : ℕ → List Start) →
      with_rules states modes k rules (map f (range_with_len 0 n))
      ≡ map (λ j. f j ++ starts_in states modes j k rules) (range_with_len 0 n)
  all_rules_added [] k f = none (range_with_len 0 n)
    where
      none : (js : List ℕ) → map f js ≡ map (λ j. f j ++ []) js
      none [] = refl
      none (j ∷ js) = ap (λ (xs : List Start). xs ∷ map f js) (sym (append-nil (f j)))
          ∙ ap (λ (all : List (List Start)). (f j ++ []) ∷ all) (none js)
  all_rules_added (rule ∷ rules) k f =
      let more : List Start = matched_starts states k rule in
      ap (with_rules states modes (k + 1) rules) (one_rule f rule more)
      ∙ (all_rules_added rules (k + 1) (λ j. f j ++ cond (is_in_mode modes j rule) more []) ∙ regroup (range_with_len 0 n))
    where
      regroup : (js : List ℕ) →
          map (λ j. (f j ++ cond (is_in_mode modes j rule) (matched_starts states k rule) []) ++ starts_in states modes j (k + 1) rules) js
          ≡ map (λ j. f j ++ starts_in states modes j k (rule ∷ rules)) js
      regroup [] = refl
      regroup (j ∷ js) =
          ap (λ (xs : List Start). xs ∷ map (λ j. (f j ++ cond (is_in_mode modes j rule) (matched_starts states k rule) [])
          ++ starts_in states modes j (k + 1) rules) js)
          (append_assoc (f j) (cond (is_in_mode modes j rule) (matched_starts states k rule) []) (starts_in states modes j (k + 1) rules))
          ∙ ap (λ (all : List (List Start)). (f j ++ starts_in states modes j k (rule ∷ rules)) ∷ all) (regroup js)

-- the same starts in each mode
same_in_each : (front : List Start) (a n : ℕ) → replicate n front ≡ map (λ j. front) (range_with_len a n)
same_in_each front a zero = refl
same_in_each front a (suc n) = ap (λ (all : List (List Start)). front ∷ all) (same_in_each front (a + 1) n)

-- the starts of all modes
pub by_modes : (states : List (State Reads)) (front rules : List LexerRule) (modes : List (List ℕ)) (k : ℕ) → k ≡ length front →
    with_rules states modes k rules (replicate (length modes) (starts_from states 0 front)) ≡ mode_starts states front rules modes
by_modes states front rules modes k is =
    ap (with_rules states modes k rules) (same_in_each (starts_from states 0 front) 0 (length modes))
    ∙ (all_rules_added states modes (length modes) rules k (λ j. starts_from states 0 front)
    ∙ ap (λ (m : ℕ). map (λ j. starts_from states 0 front ++ starts_in states modes j m rules) (range_with_len 0 (length modes))) is)

-- starts that are set in the place of those of list k
starts_set : (all : List (List Start)) (k : ℕ) (more d : List Start) → k < length all
    → set all k (get_or all k d ++ more) ≡ with_starts k more all
starts_set [] k more d less = absurd (omega (arith, less))
starts_set (xs ∷ all) zero more d less = refl
starts_set (xs ∷ all) (suc k) more d less =
    ap (λ (others : List (List Start)). xs ∷ others) (starts_set all k more d (omega (arith, less)))

-- starts that are taken, added to and put back
pub starts_put : (all : List (List Start)) (k : ℕ) (more taken empty new pushed : List Start) → k < length all
    → taken ≡ get_or all k taken → pushed ≡ taken ++ more → new ≡ pushed → set (set all k empty) k new ≡ with_starts k more all
starts_put all k more taken empty new pushed less at grown is =
    set-set all k empty new ∙ (ap (set all k) (is ∙ (grown ∙ ap (λ (xs : List Start). xs ++ more) at)) ∙ starts_set all k more taken less)

-- a list that is not there
pub starts_past : (k : ℕ) (more : List Start) (all : List (List Start)) → length all ≤ k → all ≡ with_starts k more all
starts_past k more [] past = refl
starts_past zero more (xs ∷ all) past = absurd (omega (arith, past))
starts_past (suc k) more (xs ∷ all) past = ap (λ (others : List (List Start)). xs ∷ others) (starts_past k more all (omega (arith, past)))
