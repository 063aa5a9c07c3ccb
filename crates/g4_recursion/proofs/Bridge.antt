-- What is found of rules over leads is so of the rules themselves.
use Rattle.std.proofs.Common.{◌≡◌, ◌↔◌, ℕ, zero, suc, ◌+◌, ◌<◌, List, [], ◌∷◌, length, map, get_or, Bool, true, inl, inr, Contains, Option, Some, None, Vec, Global, refl, sym, ap, ◌∙◌, subst, arith}
use Rattle.std.specs.List.{All, slice_get}
use Rattle.std.proofs.lemmas.List.{length-map}
use Rattle.std.proofs.lemmas.List.Elements.{All-nil, All-cons}
use Rattle.std.proofs.lemmas.Option.{same_Some, slice_get_within, slice_get-get_or}
use Rattle.g4_source.specs.Elements.{atom, block, Elements, empty, then, Alternatives, none, or, either}
use Rattle.g4_source.specs.Bind.{in_order_over, either_over}
use Rattle.g4_source.specs.declared.atom.Atom.{Atom}
use Rattle.g4_source.specs.declared.rule.ParserRule.{ParserRule}
use Rattle.g4_source.specs.declared.rule.RuleAlternative.{RuleAlternative}
use Rattle.g4_source.specs.declared.rule.LexerRule.{LexerRule}
use Rattle.g4_source.specs.declared.rule.Rule.{Rule}
use Rattle.g4_source.specs.declared.rule.Rule.TheVariants.{Parser, Lexer}
use Rattle.g4_source.specs.Atoms.{AtomIn, atom_in, body_of, bodies_of}
use Rattle.g4_source.specs.declared.kind.RuleKind.TheVariants as kinds
use Rattle.g4_grammar.specs.LeftCalls.{ReachesBy, one_call, more_calls}
use Rattle.g4_grammar.specs.OwnCalls.{IsOneOf, IsOperator, LeftCallsAsRun}
use Rattle.g4_grammar.specs.Loops.{SomeHasEmptyLoop}
use Rattle.g4_grammar.specs.Written.{CallsIn, HaveNoEmptyLoop, HaveNoLeftCycle, OwnIn, ReadsIn, RuleLeftCalls}
use Rattle.g4_cycles.specs.Cycles.{Reaches, once, further, LeadsAlong, IsCycle, IsFirstCycle}
use Rattle.g4_cycles.specs.Edges.{EdgeOf, listed_by}
use Rattle.g4_cycles.proofs.Reaching.{reaches_on}
use Rattle.g4_recursion.specs.declared.lead.Lead.{Lead}
use Rattle.g4_recursion.specs.declared.lead.Lead.TheVariants.{Call}
use Rattle.g4_recursion.specs.declared.lead.LeadRule.{LeadRule}
use Rattle.g4_recursion.specs.Leads.{ReadsLead, CallsLead, FollowsCall, OwnLead, operators_of, trees_of}
use Rattle.g4_recursion.proofs.LeadsRunning.{is_call}
use Rattle.g4_recursion.specs.Checking.{alternatives_in, HasEmptyLoop, HasEmptyOperator, IsAlternative, IsEmptyOperator, LacksPrimary}
use Rattle.g4_recursion.specs.AtomLeads.{AllBegin, IsEmptyAt, lead_in, leads_by, leads_in, may_have_operators, operators_in}
use Rattle.g4_recursion.specs.Least.{FindsLeast}
use Rattle.g4_recursion.specs.Numbers.{rule_number}
use Rattle.g4_recursion.proofs.Leading.{calls, own, reads, rule_tree, trees_over}
use Rattle.g4_recursion.proofs.Over.{all_back, all_over, left_calls_over, mapped_at, mapped_back, some_loop_back, some_loop_over}

-- the least number with a property is the least with the same property
pub least_same : (P Q : ℕ → Type 0) → ((k : ℕ) → P k ↔ Q k) → (o : Option ℕ) → FindsLeast P o → FindsLeast Q o
least_same P Q same None h = λ k q. h k ((same k).1 q)
least_same P Q same (Some k) h = ((same k).0 h.0, λ j q. h.1 j ((same j).1 q))

-- an index of a list has an item
not_past : {X : Type 0} (xs : List X) (k : ℕ) → k < length xs → slice_get xs k ≡ None → ⊥
not_past [] k within e = omega (arith, within)
not_past (x ∷ xs) zero within e = let n : ⊥ = cc in n
not_past (x ∷ xs) (suc k) within e = not_past xs k (omega (arith, within)) e

-- one of the alternatives of a parser rule has a place
pub one_place : (alternatives : List (RuleAlternative Atom)) (x : Elements AtomIn)
    → IsOneOf (either_over (atom_in kinds.Parser) (either (map (λ a. a.elements) alternatives))) x →
    (place : ℕ) × (slice_get (map (λ a. in_order_over (atom_in kinds.Parser) a.elements) alternatives) place ≡ Some x)
one_place [] x h = absurd h
one_place (a ∷ more) x (inl e) = (0, ap Some (sym e))
one_place (a ∷ more) x (inr h) = let (place, at) = one_place more x h in (suc place, at)

-- and what is at a place is one of them
pub place_one : (alternatives : List (RuleAlternative Atom)) (place : ℕ) (x : Elements AtomIn)
    → slice_get (map (λ a. in_order_over (atom_in kinds.Parser) a.elements) alternatives) place ≡ Some x →
    IsOneOf (either_over (atom_in kinds.Parser) (either (map (λ a. a.elements) alternatives))) x
place_one [] place x at = absurd (let n : ⊥ = cc in n)
place_one (a ∷ more) zero x at = inl (sym (same_Some (in_order_over (atom_in kinds.Parser) a.elements) x at))
place_one (a ∷ more) (suc place) x at = inr (place_one more place x at)

module _ (rules : List Rule) where
  -- elements of a lexer rule are no operator
  no_operator : (k : ℕ) (xs : Elements Atom) (rest : Elements AtomIn)
      → IsOperator (OwnIn rules) k (in_order_over (atom_in kinds.Lexer) xs) rest → ⊥
  no_operator k empty rest h = h
  no_operator k (then (atom a) xs) rest h = let wrong : kinds.Lexer ≡ kinds.Parser = h.0.0 in let n : ⊥ = cc in n
  no_operator k (then (block label repeat ys) xs) rest h = h

  -- so none of its alternatives is one
  pub no_lexer_operator : (k : ℕ) (xs : Alternatives Atom) (x rest : Elements AtomIn)
      → IsOneOf (either_over (atom_in kinds.Lexer) xs) x → IsOperator (OwnIn rules) k x rest → ⊥
  no_lexer_operator k none x rest one h = one
  no_lexer_operator k (or y ys) x rest (inl e) h =
      no_operator k y rest (subst (λ (zs : Elements AtomIn). IsOperator (OwnIn rules) k zs rest) e h)
  no_lexer_operator k (or y ys) x rest (inr more) h = no_lexer_operator k ys x rest more h

  -- the trees of the rules over leads
  abbrev pub trees : List (Alternatives Lead)
  trees = map (either_over (lead_in rules)) (bodies_of rules)

  -- an operator of a rule begins with a call of it over leads
  begins_over : (k : ℕ) (xs rest : Elements AtomIn) → IsOperator (OwnIn rules) k xs rest
      → FollowsCall k (in_order_over (lead_in rules) xs) (in_order_over (lead_in rules) rest)
  begins_over k empty rest h = absurd h
  begins_over k (then (atom a) others) rest (o, same) = let e : lead_in rules a ≡ Call k =
      is_call (lead_in rules a) k ((calls rules a k).0 o.1) in cc
  begins_over k (then (block label repeat body) others) rest h = absurd h

  -- and back, where the rule may have operators
  begins_back : (k : ℕ) (xs : Elements AtomIn) (after : Elements Lead) → slice_get (operators_in rules) k ≡ Some true
      → FollowsCall k (in_order_over (lead_in rules) xs) after
      → (rest : Elements AtomIn) × IsOperator (OwnIn rules) k xs rest × (after ≡ in_order_over (lead_in rules) rest)
  begins_back k empty after may e = cc
  begins_back k (then (atom a) others) after may e =
      let is : Call k ≡ lead_in rules a = cc in
      let rest : after ≡ in_order_over (lead_in rules) others = cc in
      (others, ((own rules a k).1 (subst (λ (l : Lead). CallsLead l k) is refl, may), refl), rest)
  begins_back k (then (block label repeat body) others) after may e = cc

  -- an alternative of a rule that is there
  alternative_at : (k i : ℕ) (xs : Elements AtomIn) (rule : ParserRule Atom) → slice_get rules k ≡ Some (Parser rule)
      → (alternative : IsAlternative rules k i xs) → slice_get (alternatives_in rule) alternative.place ≡ Some xs
  alternative_at k i xs rule at alternative =
      let same : Parser alternative.rule ≡ Parser rule = same_Some (Parser alternative.rule) (Parser rule) (sym alternative.at ∙ at) in
      let one : alternative.rule ≡ rule = cc in
      subst (λ (r : ParserRule Atom). slice_get (alternatives_in r) alternative.place ≡ Some xs) one alternative.among

  -- a lexer rule has no such alternatives
  pub not_in_lexer : (k i : ℕ) (xs : Elements AtomIn) (rule : LexerRule) → slice_get rules k ≡ Some (Lexer rule)
      → IsAlternative rules k i xs → ⊥
  not_in_lexer k i xs rule at alternative =
      let wrong : Parser alternative.rule ≡ Lexer rule = same_Some (Parser alternative.rule) (Lexer rule) (sym alternative.at ∙ at) in
      let n : ⊥ = cc in n

  module _ (k : ℕ) (rule : ParserRule Atom) (at : slice_get rules k ≡ Some (Parser rule)) where
    -- the alternatives of this rule over leads
    abbrev pub made : List (Elements Lead)
    made = map (in_order_over (lead_in rules)) (alternatives_in rule)

    -- an alternative at a place
    at_place : (place : ℕ) (xs : Elements AtomIn) → slice_get (alternatives_in rule) place ≡ Some xs → IsAlternative rules k (place + 1) xs
    at_place place xs among = record { rule = rule; at = at; place = place; number = refl; among = among }

    -- the rule may have operators
    may : slice_get (operators_in rules) k ≡ Some true
    may = mapped_at may_have_operators rules k (Parser rule) at

    -- each alternative begins with the rule itself over leads, and so it does
    lacks_to : AllBegin k made → LacksPrimary rules k
    lacks_to all = (
      body_of (Parser rule),
      mapped_at body_of rules k (Parser rule) at,
      record { some = (first, (each first among).0, among, (each first among).1); each = each },
    )
      where
        each : (xs : Elements AtomIn) → IsOneOf (body_of (Parser rule)) xs → (rest : Elements AtomIn) × IsOperator (OwnIn rules) k xs rest
        each xs one =
            let (place, there) = one_place rule.alternatives xs one in
            let (after, follows) = all.each place (in_order_over (lead_in rules) xs)
            (mapped_at (in_order_over (lead_in rules)) (alternatives_in rule) place xs there) in
            let (rest, begins, is) = begins_back k xs after may follows in (rest, begins)

        first : Elements AtomIn
        first = get_or (alternatives_in rule) 0 empty

        among : IsOneOf (body_of (Parser rule)) first
        among = let some = all.some in place_one rule.alternatives 0 first
            (slice_get-get_or (alternatives_in rule) 0 empty
            (omega (arith, some, length-map (alternatives_in rule) (in_order_over (lead_in rules)))))

    -- and back
    lacks_from : LacksPrimary rules k → AllBegin k made
    lacks_from (body, there, lacks) = record { some = some; each = each }
      where
        same : body ≡ body_of (Parser rule)
        same = same_Some body (body_of (Parser rule)) (sym there ∙ mapped_at body_of rules k (Parser rule) at)

        some : 0 < length made
        some =
            let one = subst (λ (ys : Alternatives AtomIn). IsOneOf ys lacks.some.0) same lacks.some.2 in
            let (place, found) = one_place rule.alternatives lacks.some.0 one in
            let within = slice_get_within (alternatives_in rule) place lacks.some.0 found in
            omega (arith, within, length-map (alternatives_in rule) (in_order_over (lead_in rules)))

        each : (place : ℕ) (ys : Elements Lead) → slice_get made place ≡ Some ys → (rest : Elements Lead) × FollowsCall k ys rest
        each place ys found =
            let (xs, among, is) = mapped_back (in_order_over (lead_in rules)) (alternatives_in rule) place ys found in
            let (rest, begins) = lacks.each xs (subst (λ (zs : Alternatives AtomIn). IsOneOf zs xs) (sym same)
            (place_one rule.alternatives place xs among)) in
            (in_order_over (lead_in rules) rest, is ∙ begins_over k xs rest begins)

    -- each alternative begins with the rule itself, over leads and so
    pub lacks_primary : AllBegin k made ↔ LacksPrimary rules k
    lacks_primary = (lacks_to, lacks_from)

    -- an empty operator over leads is one
    empty_to : (place : ℕ) → IsEmptyAt trees k made place → IsEmptyOperator rules k (place + 1)
    empty_to place (ys, there, (after, follows, null)) =
        let (xs, among, is) = mapped_back (in_order_over (lead_in rules)) (alternatives_in rule) place ys there in
        let (rest, begins, same) = begins_back k xs after may (sym is ∙ follows) in (
          rest,
          (xs, at_place place xs among, begins),
          all_back (lead_in rules) ReadsIn ReadsLead (CallsIn rules) CallsLead (bodies_of rules) (reads rules) (calls rules) after
              null rest same,
        )

    -- and back
    empty_from : (place : ℕ) → IsEmptyOperator rules k (place + 1) → IsEmptyAt trees k made place
    empty_from place (rest, (xs, alternative, begins), null) =
        let same : alternative.place ≡ place = omega (arith, alternative.number) in
        let among = subst (λ (p : ℕ). slice_get (alternatives_in rule) p ≡ Some xs) same
        (alternative_at k (place + 1) xs rule at alternative) in (
          in_order_over (lead_in rules) xs,
          mapped_at (in_order_over (lead_in rules)) (alternatives_in rule) place xs among,
          (
            in_order_over (lead_in rules) rest,
            begins_over k xs rest begins,
            all_over (lead_in rules) ReadsIn ReadsLead (CallsIn rules) CallsLead (bodies_of rules) (reads rules) (calls rules) null,
          ),
        )

    -- an alternative begins with the rule itself and what follows derives the empty word, over leads and so
    pub empty_operator : (place : ℕ) → IsEmptyAt trees k made place ↔ IsEmptyOperator rules k (place + 1)
    empty_operator place = (empty_to place, empty_from place)

  -- a rule has a loop that can be empty, over leads and so
  pub empty_loop : (k : ℕ) (rule : Rule) → slice_get rules k ≡ Some rule
      → SomeHasEmptyLoop ReadsLead CallsLead trees (either (leads_by (rule_number rules) rule)) ↔ HasEmptyLoop rules k
  empty_loop k rule at = (to, from)
    where
      to : SomeHasEmptyLoop ReadsLead CallsLead trees (either (leads_by (rule_number rules) rule)) → HasEmptyLoop rules k
      to h = (
        body_of rule,
        mapped_at body_of rules k rule at,
        some_loop_back (lead_in rules) ReadsIn ReadsLead (CallsIn rules) CallsLead (bodies_of rules) (reads rules) (calls rules)
            (body_of rule) (subst (λ (xs : Alternatives Lead). SomeHasEmptyLoop ReadsLead CallsLead trees xs) (rule_tree rules rule) h),
      )

      from : HasEmptyLoop rules k → SomeHasEmptyLoop ReadsLead CallsLead trees (either (leads_by (rule_number rules) rule))
      from (body, there, h) =
          let same : body ≡ body_of rule = same_Some body (body_of rule) (sym there ∙ mapped_at body_of rules k rule at) in
          subst (λ (xs : Alternatives Lead). SomeHasEmptyLoop ReadsLead CallsLead trees xs) (sym (rule_tree rules rule))
          (some_loop_over (lead_in rules) ReadsIn ReadsLead (CallsIn rules) CallsLead (bodies_of rules) (reads rules) (calls rules)
          (body_of rule) (subst (λ (xs : Alternatives AtomIn). SomeHasEmptyLoop ReadsIn (CallsIn rules) (bodies_of rules) xs) same h))

  -- a rule that lacks a primary is there
  pub lacking_within : (k : ℕ) → LacksPrimary rules k → k < length rules
  lacking_within k (body, at, lacks) = omega (arith, slice_get_within (bodies_of rules) k body at, length-map rules body_of)

  -- so is one with an empty operator
  pub operator_within : (k : ℕ) → HasEmptyOperator rules k → k < length rules
  operator_within k (i, (rest, (xs, alternative, begins), null)) = slice_get_within rules k (Parser alternative.rule) alternative.at

  -- and one with a loop that can be empty
  pub loop_within : (k : ℕ) → HasEmptyLoop rules k → k < length rules
  loop_within k (body, at, loop) = omega (arith, slice_get_within (bodies_of rules) k body at, length-map rules body_of)

  -- an empty operator is at a place
  pub operator_place : (k i : ℕ) → IsEmptyOperator rules k i → (place : ℕ) × (i ≡ place + 1)
  operator_place k i (rest, (xs, alternative, begins), null) = (alternative.place, alternative.number)

  -- where no rule has a loop that can be empty, that is so in both definitions
  pub no_empty_loop : ((k : ℕ) → HasEmptyLoop rules k → ⊥) → HaveNoEmptyLoop rules
  no_empty_loop never k body at loop = never k (body, at, loop)

  -- a rule that calls another is there
  caller_within : (k j : ℕ) → RuleLeftCalls rules k j → k < length rules
  caller_within k j (xs, at, left) = omega (arith, slice_get_within (bodies_of rules) k xs at, length-map rules body_of)

  -- so are all callers on a walk
  walk_within : (k : ℕ) (nodes : List ℕ) (j : ℕ) → LeadsAlong (RuleLeftCalls rules) k nodes j → All (λ r. r < length rules) (k ∷ nodes)
  walk_within k [] j e = All-cons (λ r. r < length rules) k [] (caller_within k j e) (All-nil (λ r. r < length rules))
  walk_within k (i ∷ nodes) j (e, walk) = All-cons (λ r. r < length rules) k (i ∷ nodes) (caller_within k i e) (walk_within i nodes j walk)

  -- so are the rules of a cycle
  cycle_within : (cycle : List ℕ) → IsCycle (RuleLeftCalls rules) cycle → All (λ r. r < length rules) cycle
  cycle_within [] h = absurd h
  cycle_within (k ∷ nodes) walk = walk_within k nodes k walk

  -- the rules of the first cycle are there
  pub first_within : (cycle : List ℕ) → IsFirstCycle (RuleLeftCalls rules) cycle → All (λ r. r < length rules) cycle
  first_within cycle first = cycle_within cycle first.shortest.is_cycle

  -- one more call before what is reached
  reaches_from : (k i j : ℕ) → RuleLeftCalls rules k i → ReachesBy (RuleLeftCalls rules) i j → ReachesBy (RuleLeftCalls rules) k j
  reaches_from k i j e (one_call h last) = more_calls i j (one_call i e) last
  reaches_from k i j e (more_calls h l more last) = more_calls h j (reaches_from k i h e more) last

  -- what is reached by left calls is so in both definitions
  pub reaches_left : (k j : ℕ) → Reaches (RuleLeftCalls rules) k j → ReachesBy (RuleLeftCalls rules) k j
  reaches_left k j (once a b e) = one_call j e
  reaches_left k j (further a i b e more) = reaches_from k i j e (reaches_left i j more)

  -- and back
  pub left_reaches : (k j : ℕ) → ReachesBy (RuleLeftCalls rules) k j → Reaches (RuleLeftCalls rules) k j
  left_reaches k j (one_call i e) = once k j e
  left_reaches k j (more_calls i l more last) = reaches_on (RuleLeftCalls rules) k i j (left_reaches k i more) (once i j last)

  -- where no rule reaches itself, there is no cycle of left calls
  pub no_left_cycle : ((k : ℕ) → Reaches (RuleLeftCalls rules) k k → ⊥) → HaveNoLeftCycle rules
  no_left_cycle never k reaches = never k (left_reaches k k reaches)

  -- the edges of the lists of left calls over leads are the left calls of the rules
  pub same_calls : (leads : List LeadRule) (all : List (Vec ℕ Global)) → map (λ lead. lead.alternatives) leads ≡ leads_in rules
      → operators_of leads ≡ operators_in rules → length all ≡ length leads →
      ((k : ℕ) (listed : Vec ℕ Global) → slice_get all k ≡ Some listed → (j : ℕ)
      → Contains listed.items j ↔ LeftCallsAsRun ReadsLead CallsLead (OwnLead (operators_of leads)) (trees_of leads) k j) →
      (k j : ℕ) → EdgeOf all k j ↔ RuleLeftCalls rules k j
  same_calls leads all is operators count told k j = by (slice_get all k) refl
    where
      -- the left calls over leads
      over : LeftCallsAsRun ReadsLead CallsLead (OwnLead (operators_of leads)) (trees_of leads) k j ↔ RuleLeftCalls rules k j
      over =
          let both = left_calls_over (lead_in rules) ReadsIn ReadsLead (CallsIn rules) CallsLead (bodies_of rules) (reads rules)
          (calls rules) (OwnIn rules) (OwnLead (operators_in rules)) (own rules) k j in
          subst (λ (may : List Bool). LeftCallsAsRun ReadsLead CallsLead (OwnLead may) (trees_of leads) k j ↔ RuleLeftCalls rules k j)
          (sym operators)
          (subst (λ (ts : List (Alternatives Lead)). LeftCallsAsRun ReadsLead CallsLead (OwnLead (operators_in rules)) ts k j
          ↔ RuleLeftCalls rules k j) (sym (trees_over rules leads is)) (both.1, both.0))

      by : (o : Option (Vec ℕ Global)) → slice_get all k ≡ o → Contains (listed_by o) j ↔ RuleLeftCalls rules k j
      by None e = (
        λ h. absurd (omega (arith, h.1)),
        λ h. absurd (let within = caller_within k j h in
            let long : length leads ≡ length rules =
            sym (length-map leads (λ (lead : LeadRule). lead.alternatives))
            ∙ (ap length is ∙ length-map rules (leads_by (rule_number rules))) in
            not_past all k (omega (arith, within, long, count)) e),
      )
      by (Some listed) e = let here = told k listed e j in (λ h. over.0 (here.0 h), λ h. here.1 (over.1 h))
