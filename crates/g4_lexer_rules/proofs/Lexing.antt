-- The rules of a lexer can be lexed with where the rules of the grammar are checked: the rules of literals call nothing, and each other
-- rule is a lexer rule of the grammar, with the calls that it has there.
use Rattle.std.proofs.Common.{codes, true, ◌≡◌, ◌<◌, ◌⊎◌, inl, inr, ℕ, zero, suc, List, [], ◌∷◌, ◌++◌, length, map, false, Option, Some, None, option_map, refl, sym, ap, ◌∙◌, subst, slice_get, All, arith}
use Rattle.std.specs.List.{position, position_or_len}
use Rattle.std.specs.Str.{bytes_eq}
use Rattle.std.proofs.lemmas.Bool.{cases_Bool}
use Rattle.std.proofs.lemmas.List.{length-map}
use Rattle.std.proofs.lemmas.List.Elements.{All-nil, All-cons, All-head, All-tail}
use Rattle.std.proofs.lemmas.Option.{slice_get_within, slice_get-map}
use Rattle.g4_source.specs.Elements.{Element, atom, block, Elements, empty, then, Alternatives, none, or, atoms, atoms_in_order, atoms_of_either}
use Rattle.g4_source.specs.Bind.{over, in_order_over, either_over}
use Rattle.g4_source.proofs.Parts.{All-front, All-rest}
use Rattle.g4_source.specs.declared.atom.Atom.{Atom}
use Rattle.g4_source.specs.declared.atom.AtomKind.{AtomKind}
use Rattle.g4_source.specs.declared.atom.AtomKind.TheVariants as kinds
use Rattle.g4_source.specs.declared.rule.Rule.{Rule}
use Rattle.g4_source.specs.declared.rule.Rule.TheVariants.{Parser, Lexer}
use Rattle.g4_source.specs.declared.rule.LexerRule.{LexerRule}
use Rattle.g4_source.specs.Blocks.{LexerRulesAreFull}
use Rattle.g4_source.specs.Rules.{lexer_rules, lexer_alternatives_of}
use Rattle.g4_source.specs.declared.kind.RuleKind.{RuleKind}
use Rattle.g4_source.specs.declared.kind.RuleKind.TheVariants as rule_kinds
use Rattle.g4_source.specs.Atoms.{AtomIn, all_atoms, atom_in, body_of, bodies_of, rule_atoms}
use Rattle.g4_grammar.specs.LeftCalls.{HasCall, OneHasCall, SomeHasCall}
use Rattle.g4_grammar.specs.Written.{ReadsIn, KindReads, CallsIn, KindCalls, OwnIn, is_rule_of, KindIsDefined, RulesAreDefined, RulesCanRun}
use Rattle.g4_grammar.proofs.Carried.{either_over_twice}
use Rattle.g4_grammar.proofs.Positions.{from_later, found_within, within_found}
use Rattle.g4_lexer_rules.specs.Lexable.{CallsNamed, CanBeLexed, KindCallsNamed, ReadsAtom}
use Rattle.g4_lexer_rules.specs.NetworkRules.{names_of}
use Rattle.std.proofs.lemmas.Slice.Eq.{bytes_eq-Decides}
use Rattle.g4_lexer_rules.proofs.LexerPlaces.{place_of, at_place, first_place, first_lexer, found_after}
use Rattle.g4_lexer_rules.proofs.LiteralRules.{IsLiteralRule, literal_closed}
use Rattle.g4_lexer_rules.proofs.Renumbered.{IsClosed, IsMadeOf, no_empty_loop, no_left_cycle}

mutual
  -- a tree over its own atoms is itself
  same : (x : Element Atom) → over (λ a. a) x ≡ x
  same (atom a) = refl
  same (block label repeat xs) = ap (block label repeat) (same_either xs)

  same_in_order : (xs : Elements Atom) → in_order_over (λ a. a) xs ≡ xs
  same_in_order empty = refl
  same_in_order (then x xs) = ap (λ (y : Element Atom). then y (in_order_over (λ a. a) xs)) (same x) ∙ ap (then x) (same_in_order xs)

  same_either : (xs : Alternatives Atom) → either_over (λ a. a) xs ≡ xs
  same_either none = refl
  same_either (or x xs) = ap (λ (y : Elements Atom). or y (either_over (λ a. a) xs)) (same_in_order x) ∙ ap (or x) (same_either xs)

module _ {A : Type 0} (P : A → Type 0) (Calls : A → ℕ → Type 0) (j : ℕ) where
  -- an atom that calls this rule, and of which P holds
  abbrev Caller : Type 0
  Caller = (a : A) × P a × Calls a j

  mutual
    -- where P holds of each atom, it holds of one that calls
    caller : (x : Element A) → All P (atoms x) → HasCall Calls x j → Caller
    caller (atom a) h c = (a, All-head P a [] h, c)
    caller (block label repeat xs) h c = some_caller xs h c

    one_caller : (xs : Elements A) → All P (atoms_in_order xs) → OneHasCall Calls xs j → Caller
    one_caller empty h c = absurd c
    one_caller (then x xs) h (inl c) = caller x (All-front P (atoms x) (atoms_in_order xs) h) c
    one_caller (then x xs) h (inr c) = one_caller xs (All-rest P (atoms x) (atoms_in_order xs) h) c

    some_caller : (xs : Alternatives A) → All P (atoms_of_either xs) → SomeHasCall Calls xs j → Caller
    some_caller none h c = absurd c
    some_caller (or x xs) h (inl c) = one_caller x (All-front P (atoms_in_order x) (atoms_of_either xs) h) c
    some_caller (or x xs) h (inr c) = some_caller xs (All-rest P (atoms_in_order x) (atoms_of_either xs) h) c

-- what holds of what items become, holds of it for each item
all_unmap : {X Y : Type 0} (P : Y → Type 0) (f : X → Y) (xs : List X) → All P (map f xs) → All (λ x. P (f x)) xs
all_unmap P f [] h = All-nil (λ x. P (f x))
all_unmap P f (x ∷ xs) h = All-cons (λ x. P (f x)) x xs (All-head P (f x) (map f xs) h) (all_unmap P f xs (All-tail P (f x) (map f xs) h))

-- an atom as a lexer has it: one of a parser rule matches nothing
abbrev lexed_as : RuleKind → Atom → Atom
lexed_as rule_kinds.Lexer a = a
lexed_as rule_kinds.Parser a = record { label = None; kind = kinds.Set [] }

abbrev lexed : AtomIn → Atom
lexed a = lexed_as a.kind a.atom

-- what derives the empty word as a lexer has it, does so in its rule
reads_in : (kind : RuleKind) (a : Atom) → ReadsAtom (lexed_as kind a) [] → KindReads kind a.kind []
reads_in rule_kinds.Lexer a r = r
reads_in rule_kinds.Parser a (inl r) = absurd (let wrong : [] ≡ r.0 ∷ [] = r.1 in let n : ⊥ = cc in n)
reads_in rule_kinds.Parser a (inr r) = absurd r.0

-- the alternatives of a lexer rule are those of its body
body_over : (rule : LexerRule) → lexer_alternatives_of rule ≡ either_over lexed (body_of (Lexer rule))
body_over rule = sym (either_over_twice lexed (atom_in rule_kinds.Lexer) (lexer_alternatives_of rule)
    ∙ same_either (lexer_alternatives_of rule))

-- the rule in whose place an alternative of a list is
rule_back : (lexers : List LexerRule) (k : ℕ) (ys : Alternatives Atom) → slice_get (map lexer_alternatives_of lexers) k ≡ Some ys
    → (rule : LexerRule) × (slice_get lexers k ≡ Some rule) × (ys ≡ lexer_alternatives_of rule)
rule_back lexers k ys is = by (slice_get lexers k) refl (sym (slice_get-map lexer_alternatives_of lexers k) ∙ is)
  where
    by : (o : Option LexerRule) → slice_get lexers k ≡ o → option_map lexer_alternatives_of (slice_get lexers k) ≡ Some ys
        → (rule : LexerRule) × (slice_get lexers k ≡ Some rule) × (ys ≡ lexer_alternatives_of rule)
    by None e h = let wrong : None ≡ Some ys = ap (λ (o : Option LexerRule). option_map lexer_alternatives_of o) (sym e) ∙ h in cc
    by (Some rule) e h =
        let one : Some (lexer_alternatives_of rule) ≡ Some ys =
        ap (λ (o : Option LexerRule). option_map lexer_alternatives_of o) (sym e) ∙ h in
        (rule, e, (cc))

-- the place among all rules of rule k, where rules of literals come first: these have none
abbrev number : List LexerRule → List Rule → ℕ → ℕ
number [] all k = place_of all k
number (rule ∷ front) all zero = length all
number (rule ∷ front) all (suc k) = number front all k

module _ (all : List Rule) (names : List (List ℕ)) (made : List (Alternatives Atom)) where
  -- alternatives that are closed, or those of the rule with this number
  abbrev IsClosedHere : Alternatives Atom → Type 0
  IsClosedHere ys = IsClosed ReadsAtom (CallsNamed names) made ys

  -- a lexer rule
  lexer_body : (k : ℕ) (ys : Alternatives Atom) → slice_get (map lexer_alternatives_of (lexer_rules all)) k ≡ Some ys
      → IsMadeOf lexed (bodies_of all) (place_of all k) ys
  lexer_body k ys is =
      let rule = rule_back (lexer_rules all) k ys is in (
        body_of (Lexer rule.0),
        slice_get-map body_of all (place_of all k) ∙ ap (option_map body_of) (at_place all k rule.0 rule.1),
        rule.2 ∙ body_over rule.0,
      )

  -- the first rule is a literal
  first_closed : (rule : LexerRule) (others : List LexerRule) (ys : Alternatives Atom) → IsLiteralRule rule
      → slice_get (map lexer_alternatives_of (rule ∷ others)) 0 ≡ Some ys → IsClosedHere ys
  first_closed rule others ys lit is =
      let one : Some (lexer_alternatives_of rule) ≡ Some ys = is in
      let e : lexer_alternatives_of rule ≡ ys = cc in
      subst IsClosedHere e (literal_closed names made rule lit)

  -- a literal's rule has another name than a reference that is no end of the file
  other_name : (rule : LexerRule) → IsLiteralRule rule → (name : List ℕ) → bytes_eq name (codes "EOF") ≡ false
      → bytes_eq rule.name name ≡ true → ⊥
  other_name rule (literal, is, named) name apart same =
      let is_name : rule.name ≡ name = (bytes_eq-Decides rule.name name).0 same in
      let end : bytes_eq name (codes "EOF") ≡ true = (bytes_eq-Decides name (codes "EOF")).1 (sym is_name ∙ named) in
      absurd (let no : ⊥ = cc in no)

  -- the rules of literals, and then the lexer rules
  bodies : (front : List LexerRule) → All IsLiteralRule front → (k : ℕ) (ys : Alternatives Atom)
      → slice_get (map lexer_alternatives_of (front ++ lexer_rules all)) k ≡ Some ys
      → IsClosedHere ys ⊎ IsMadeOf lexed (bodies_of all) (number front all k) ys
  bodies [] lits k ys is = inr (lexer_body k ys is)
  bodies (rule ∷ front) lits zero ys is = inl (first_closed rule (front ++ lexer_rules all) ys (All-head IsLiteralRule rule front lits) is)
  bodies (rule ∷ front) lits (suc k) ys is = bodies front (All-tail IsLiteralRule rule front lits) k ys is

  -- the first rule of a name, which is not that of the end of the file, is the first lexer rule of this name
  abbrev IsFirst : List LexerRule → List ℕ → Alternatives Atom → ℕ → Type 0
  IsFirst front name ys k = (position (is_rule_of rule_kinds.Lexer name) all ≡ Some (number front all k))
      × IsMadeOf lexed (bodies_of all) (number front all k) ys

  called : (front : List LexerRule) → All IsLiteralRule front → (name : List ℕ) → bytes_eq name (codes "EOF") ≡ false
      → (k : ℕ) (ys : Alternatives Atom) → position (λ other. bytes_eq other name) (names_of (front ++ lexer_rules all)) ≡ Some k →
      slice_get (map lexer_alternatives_of (front ++ lexer_rules all)) k ≡ Some ys → IsFirst front name ys k
  called [] lits name apart k ys found is = (first_place all name k found, lexer_body k ys is)
  called (rule ∷ front) lits name apart k ys found is = elim (cases_Bool (bytes_eq rule.name name)) [
    | inl e ↦ absurd (other_name rule (All-head IsLiteralRule rule front lits) name apart e)
    | inr e ↦
        let later = from_later (λ other. bytes_eq other name) rule.name (names_of (front ++ lexer_rules all)) k e found in
        let next : slice_get (map lexer_alternatives_of (rule ∷ (front ++ lexer_rules all))) (suc later.0) ≡ Some ys =
        subst (λ (n : ℕ). slice_get (map lexer_alternatives_of (rule ∷ (front ++ lexer_rules all))) n ≡ Some ys) later.2 is in
        subst (IsFirst (rule ∷ front) name ys) (sym later.2)
        (called front (All-tail IsLiteralRule rule front lits) name apart later.0 ys later.1 next)
  ]

  -- the atoms of a lexer rule among these are defined
  defined_body : (some : List Rule) → All (λ a. KindIsDefined all a.kind a.atom.kind) (all_atoms some)
      → (k : ℕ) (ys : Alternatives Atom) → slice_get (map lexer_alternatives_of (lexer_rules some)) k ≡ Some ys →
      All (λ a. KindIsDefined all rule_kinds.Lexer a.kind) (atoms_of_either ys)
  defined_body [] h k ys is = absurd (let wrong : None ≡ Some ys = is in let n : ⊥ = cc in n)
  defined_body (Parser rule ∷ some) h k ys is =
      defined_body some (All-rest (λ a. KindIsDefined all a.kind a.atom.kind) (rule_atoms (Parser rule)) (all_atoms some) h) k ys is
  defined_body (Lexer rule ∷ some) h zero ys is =
      let one : Some (lexer_alternatives_of rule) ≡ Some ys = is in
      let e : lexer_alternatives_of rule ≡ ys = cc in
      subst (λ (xs : Alternatives Atom). All (λ a. KindIsDefined all rule_kinds.Lexer a.kind) (atoms_of_either xs)) e
      (all_unmap (λ a. KindIsDefined all a.kind a.atom.kind) (atom_in rule_kinds.Lexer) (atoms_of_either (lexer_alternatives_of rule))
      (All-front (λ a. KindIsDefined all a.kind a.atom.kind) (rule_atoms (Lexer rule)) (all_atoms some) h))
  defined_body (Lexer rule ∷ some) h (suc k) ys is =
      defined_body some (All-rest (λ a. KindIsDefined all a.kind a.atom.kind) (rule_atoms (Lexer rule)) (all_atoms some) h) k ys is

module _ (literals : List LexerRule) (all : List Rule) where
  -- the rules of the lexer, their names and their alternatives
  abbrev rules : List LexerRule
  rules = literals ++ lexer_rules all

  abbrev names : List (List ℕ)
  names = names_of rules

  abbrev made : List (Alternatives Atom)
  made = map lexer_alternatives_of rules

  -- there is a name for each of the alternatives
  as_many : length names ≡ length made
  as_many = length-map rules (λ rule. rule.name) ∙ sym (length-map rules lexer_alternatives_of)

  module _ (lits : All IsLiteralRule literals) where
    -- a name that is called
    name_called : (name : List ℕ) → bytes_eq name (codes "EOF") ≡ false → (k : ℕ) (ys : Alternatives Atom)
        → k ≡ position_or_len (λ other. bytes_eq other name) names → slice_get made k ≡ Some ys → IsFirst all names made literals name ys k
    name_called name apart k ys same is =
        let less : position_or_len (λ other. bytes_eq other name) names < length names =
        omega (arith, same, as_many, slice_get_within made k ys is) in
        called all names made literals lits name apart k ys
        (within_found (λ other. bytes_eq other name) names less ∙ ap (λ (n : ℕ). Some n) (sym same)) is

    -- what an atom calls
    abbrev IsCalled : AtomKind → ℕ → Alternatives Atom → Type 0
    IsCalled a k ys = KindCalls all rule_kinds.Lexer a (number literals all k) × IsMadeOf lexed (bodies_of all) (number literals all k) ys

    kind_called : (a : AtomKind) (k : ℕ) (ys : Alternatives Atom) → KindCallsNamed names a k → slice_get made k ≡ Some ys → IsCalled a k ys
    kind_called (kinds.Rule name) k ys c is = absurd c
    kind_called (kinds.Token name) k ys c is = let first = name_called name.text c.0 k ys c.1 is in ((c.0, first.0), first.1)
    kind_called (kinds.Literal literal) k ys c is = absurd c
    kind_called (kinds.Range first last) k ys c is = absurd c
    kind_called (kinds.Set set) k ys c is = absurd c
    kind_called kinds.Any k ys c is = absurd c
    kind_called (kinds.NotTokens tokens) k ys c is = absurd c
    kind_called (kinds.NotCharacters set) k ys c is = absurd c
    kind_called kinds.Action k ys c is = absurd c
    kind_called (kinds.Predicate name) k ys c is = absurd c

    calls_in : (kind : RuleKind) (a : Atom) (k : ℕ) (ys : Alternatives Atom) → CallsNamed names (lexed_as kind a) k
        → slice_get made k ≡ Some ys →
        CallsIn all (atom_in kind a) (number literals all k) × IsMadeOf lexed (bodies_of all) (number literals all k) ys
    calls_in rule_kinds.Lexer a k ys c is = kind_called a.kind k ys c is
    calls_in rule_kinds.Parser a k ys c is = absurd c

    -- no atom that calls begins an operator
    unowned : (kind : RuleKind) (a : Atom) (j k : ℕ) → CallsNamed names (lexed_as kind a) j → OwnIn all (atom_in kind a) k → ⊥
    unowned rule_kinds.Lexer a j k c o = let wrong : rule_kinds.Lexer ≡ rule_kinds.Parser = o.0 in let n : ⊥ = cc in n
    unowned rule_kinds.Parser a j k c o = c

    -- a reference that is defined is to one of the rules
    name_within : (name : List ℕ) (place j : ℕ) → position (is_rule_of rule_kinds.Lexer name) all ≡ Some place
        → j ≡ position_or_len (λ other. bytes_eq other name) names → j < length names
    name_within name place j is same =
        let first = first_lexer all name place is in
        let found = found_after literals (lexer_rules all) name first.0 first.1 in
        omega (arith, same, found_within (λ other. bytes_eq other name) names found.0 found.1)

    kind_within : (a : AtomKind) (j : ℕ) → KindIsDefined all rule_kinds.Lexer a → KindCallsNamed names a j → j < length names
    kind_within (kinds.Rule name) j d c = absurd c
    kind_within (kinds.Token name) j d c = let place = d c.0 in name_within name.text place.0 j place.1.1 c.1
    kind_within (kinds.Literal literal) j d c = absurd c
    kind_within (kinds.Range first last) j d c = absurd c
    kind_within (kinds.Set set) j d c = absurd c
    kind_within kinds.Any j d c = absurd c
    kind_within (kinds.NotTokens tokens) j d c = absurd c
    kind_within (kinds.NotCharacters set) j d c = absurd c
    kind_within kinds.Action j d c = absurd c
    kind_within (kinds.Predicate name) j d c = absurd c

    -- each call is of one of the rules
    front_within : RulesAreDefined all → (front : List LexerRule) → All IsLiteralRule front → (k j : ℕ) (ys : Alternatives Atom)
        → slice_get (map lexer_alternatives_of (front ++ lexer_rules all)) k ≡ Some ys → SomeHasCall (CallsNamed names) ys j
        → j < length names
    front_within defined [] front_lits k j ys is has =
        let one = some_caller (λ (a : Atom). KindIsDefined all rule_kinds.Lexer a.kind) (CallsNamed names) j ys
        (defined_body all names made all defined k ys is) has in
        kind_within one.0.kind j one.1 one.2
    front_within defined (rule ∷ front) front_lits zero j ys is has =
        absurd ((first_closed all names made rule (front ++ lexer_rules all) ys (All-head IsLiteralRule rule front front_lits)
        is).callless j has)
    front_within defined (rule ∷ front) front_lits (suc k) j ys is has =
        front_within defined front (All-tail IsLiteralRule rule front front_lits) k j ys is has

    -- the rules can be lexed with
    pub rules_lexed : LexerRulesAreFull rules → RulesAreDefined all → RulesCanRun all → CanBeLexed rules
    rules_lexed full defined can = record {
      full = full;
      within = λ k j ys is has. omega (arith, as_many, front_within defined literals lits k j ys is has);
      loops =
          no_empty_loop lexed ReadsIn ReadsAtom (CallsIn all) (CallsNamed names) (bodies_of all) made (number literals all)
          (λ a r. reads_in a.kind a.atom r) (λ a k ys c is. calls_in a.kind a.atom k ys c is)
          (bodies all names made literals lits) can.loops;
      cycles =
          no_left_cycle lexed ReadsIn ReadsAtom (CallsIn all) (CallsNamed names) (bodies_of all) made (number literals all)
          (λ a r. reads_in a.kind a.atom r) (λ a k ys c is. calls_in a.kind a.atom k ys c is) (bodies all names made literals lits)
          (OwnIn all) (λ a j k c o. unowned a.kind a.atom j k c o) can.cycles;
    }
