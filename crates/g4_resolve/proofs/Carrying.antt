-- Rules that have no fault can be rewritten, once they are over steps.
use Rattle.std.proofs.Common.{◌≡◌, ◌≤◌, ◌<◌, ◌⊎◌, ◌↔◌, ℕ, zero, suc, ◌+◌, inl, inr, List, [], ◌∷◌, length, map, Option, Some, None, option_map, refl, sym, ap, ◌∙◌, subst, slice_get, Contains, arith}
use Rattle.std.specs.List.{All, position}
use Rattle.std.specs.Str.{bytes_eq}
use Rattle.std.proofs.lemmas.List.{length-map}
use Rattle.std.proofs.lemmas.List.Elements.{All-nil, All-cons, All-map, All-weaker, All-head, All-tail, All-contains_itself, Contains-append_right}
use Rattle.std.proofs.lemmas.Option.{slice_get_within, slice_get-map}
use Rattle.g4_tokens.specs.declared.symbol.TheConstants.{MOST_TYPES}
use Rattle.g4_source.specs.Elements.{Alternatives, none, or, either, atoms_of_either}
use Rattle.g4_source.specs.Bind.{in_order_over, either_over}
use Rattle.g4_source.specs.Full.{IsSome, EachIsFull}
use Rattle.g4_source.proofs.Parts.{All-front, All-rest}
use Rattle.g4_source.specs.declared.atom.Atom.{Atom}
use Rattle.g4_source.specs.declared.atom.AtomKind.{AtomKind}
use Rattle.g4_source.specs.declared.atom.AtomKind.TheVariants as kinds
use Rattle.g4_source.specs.declared.rule.Rule.{Rule}
use Rattle.g4_source.specs.declared.rule.Rule.TheVariants.{Parser, Lexer}
use Rattle.g4_source.specs.declared.rule.ParserRule.{ParserRule}
use Rattle.g4_source.specs.declared.rule.RuleAlternative.{RuleAlternative}
use Rattle.g4_source.specs.declared.rule.LexerRule.{LexerRule}
use Rattle.g4_source.specs.Rules.{parser_rules, alternatives_of}
use Rattle.g4_source.specs.Blocks.{ParserRuleIsFull, RulesAreFull, ParserRulesAreFull}
use Rattle.g4_source.specs.declared.kind.RuleKind.{RuleKind}
use Rattle.g4_source.specs.declared.kind.RuleKind.TheVariants as rule_kinds
use Rattle.g4_source.specs.Atoms.{AtomIn, all_atoms, atom_in, body_of, bodies_of, rule_atoms}
use Rattle.g4_grammar.specs.declared.step.Step.{Step}
use Rattle.g4_grammar.specs.declared.step.Step.TheVariants.{Edge}
use Rattle.g4_grammar.specs.Steps.{CallsRule, ReadsSymbols}
use Rattle.g4_grammar.specs.StepRules.{StepRule, by_number, AreUnpredicated, IsNoPredicate, IsPlain, RuleIsPlain, RuleIsUnpredicated, CallsWithin, CanBeRewritten}
use Rattle.g4_grammar.specs.OwnCalls.{CanRun}
use Rattle.g4_grammar.specs.Written.{ReadsAnySymbol, ReadsIn, KindReads, CallsIn, OwnIn, is_rule_of, RulesCanRun, KindIsDefined, ParserKindIsUntested, ParserRuleIsUntested, predicate_texts}
use Rattle.g4_grammar.specs.Written as written
use Rattle.g4_grammar.proofs.Carried.{either_over_twice, can_run_over}
use Rattle.g4_grammar.proofs.Positions.{found_within, within_found}
use Rattle.g4_token_file.specs.Keys.{greatest_number}
use Rattle.g4_token_file.specs.declared.entry.TokenEntry.{TokenEntry}
use Rattle.g4_vocab.proofs.Laws.{leaves_end}
use Rattle.g4_resolve.specs.Resolving.{CanBeResolved, parser_names, place_named, step_of, resolved_alternative, resolved_rule}
use Rattle.g4_resolve.proofs.Parsers.{place_of, at_place, first_place, first_parser, found_less, first_of_place}
use Rattle.g4_resolve.proofs.Trees.{atoms_either_over, some_over, each_full_over, CallsHave, one_call_has}

-- the empty set has no symbol
no_symbol : (s : ℕ) → Contains [] s → ⊥
no_symbol s (k, less, is) = omega (arith, less)

-- what holds of each item of a list over others, holds of what these become
All-unmap : {X Y : Type 0} (P : Y → Type 0) (f : X → Y) (xs : List X) → All P (map f xs) → All (λ x. P (f x)) xs
All-unmap P f [] h = All-nil (λ x. P (f x))
All-unmap P f (x ∷ xs) h = All-cons (λ x. P (f x)) x xs (All-head P (f x) (map f xs) h) (All-unmap P f xs (All-tail P (f x) (map f xs) h))

-- what holds of everything, holds of each item of a list
all_of : {X : Type 0} (P : X → Type 0) → ((x : X) → P x) → (xs : List X) → All P xs
all_of P h [] = All-nil P
all_of P h (x ∷ xs) = All-cons P x xs (h x) (all_of P h xs)

-- what holds of each parser rule among rules
pub each_parser_rule : (P : ParserRule Atom → Type 0) (rules : List Rule)
    → ((rule : ParserRule Atom) → Contains rules (Parser rule) → P rule) → All P (parser_rules rules)
each_parser_rule P [] h = All-nil P
each_parser_rule P (Parser rule ∷ rules) h =
    All-cons P rule (parser_rules rules) (h rule
    (All-head (Contains (Parser rule ∷ rules)) (Parser rule) rules (All-contains_itself (Parser rule ∷ rules))))
    (each_parser_rule P rules (λ other has. h other (Contains-append_right (Parser rule ∷ []) rules (Parser other) has)))
each_parser_rule P (Lexer rule ∷ rules) h = each_parser_rule P rules
    (λ other has. h other (Contains-append_right (Lexer rule ∷ []) rules (Parser other) has))

module _ (names predicates : List (List ℕ)) (lexers : List LexerRule) (types : List TokenEntry) where
  -- the step of an atom
  abbrev pub becomes : Atom → Step (List ℕ)
  becomes a = step_of names predicates lexers types a.kind

  -- the alternatives of a rule over steps
  pub tree_of : (rule : ParserRule Atom)
      → alternatives_of (resolved_rule names predicates lexers types rule) ≡ either_over becomes (alternatives_of rule)
  tree_of rule = go rule.alternatives
    where
      go : (xs : List (RuleAlternative Atom)) → either (map (λ a. a.elements) (map (resolved_alternative names predicates lexers types) xs))
          ≡ either_over becomes (either (map (λ a. a.elements) xs))
      go [] = refl
      go (x ∷ xs) = ap (or (in_order_over becomes x.elements)) (go xs)

  -- what holds of the steps of all atoms of a rule, holds of the steps of the rule
  each_step : (P : Step (List ℕ) → Type 0) (rule : ParserRule Atom) → All (λ a. P (becomes a)) (atoms_of_either (alternatives_of rule))
      → All P (atoms_of_either (alternatives_of (resolved_rule names predicates lexers types rule)))
  each_step P rule all =
      subst (λ (xs : Alternatives (Step (List ℕ))). All P (atoms_of_either xs)) (sym (tree_of rule))
      (subst (All P) (sym (atoms_either_over becomes (alternatives_of rule)))
      (All-map P becomes (atoms_of_either (alternatives_of rule)) all))

  -- an atom is a plain step
  plain_step : greatest_number types ≤ MOST_TYPES → (kind : AtomKind) → IsPlain (step_of names predicates lexers types kind)
  plain_step few (kinds.Rule name) = refl
  plain_step few (kinds.Token name) = leaves_end lexers types few (kinds.Token name)
  plain_step few (kinds.Literal literal) = leaves_end lexers types few (kinds.Literal literal)
  plain_step few (kinds.Range first last) = leaves_end lexers types few (kinds.Range first last)
  plain_step few (kinds.Set set) = leaves_end lexers types few (kinds.Set set)
  plain_step few kinds.Any = leaves_end lexers types few kinds.Any
  plain_step few (kinds.NotTokens tokens) = leaves_end lexers types few (kinds.NotTokens tokens)
  plain_step few (kinds.NotCharacters set) = leaves_end lexers types few (kinds.NotCharacters set)
  plain_step few kinds.Action = tt
  plain_step few (kinds.Predicate name) = tt

  plain_rules : greatest_number types ≤ MOST_TYPES → (rules : List (ParserRule Atom))
      → All RuleIsPlain (map (resolved_rule names predicates lexers types) rules)
  plain_rules few [] = All-nil RuleIsPlain
  plain_rules few (rule ∷ rules) =
      All-cons RuleIsPlain (resolved_rule names predicates lexers types rule) (map (resolved_rule names predicates lexers types) rules)
      (each_step IsPlain rule
      (all_of (λ (a : Atom). IsPlain (becomes a)) (λ a. plain_step few a.kind) (atoms_of_either (alternatives_of rule))))
      (plain_rules few rules)

  -- an atom that is no predicate is no such step
  other_step : (kind : AtomKind) → ParserKindIsUntested kind → IsNoPredicate (step_of names predicates lexers types kind)
  other_step (kinds.Rule name) h = tt
  other_step (kinds.Token name) h = tt
  other_step (kinds.Literal literal) h = tt
  other_step (kinds.Range first last) h = tt
  other_step (kinds.Set set) h = tt
  other_step kinds.Any h = tt
  other_step (kinds.NotTokens tokens) h = tt
  other_step (kinds.NotCharacters set) h = tt
  other_step kinds.Action h = tt
  other_step (kinds.Predicate name) h = absurd h

  -- rules without predicates have no such steps
  pub unpredicated_rules : (rules : List (ParserRule Atom)) → All ParserRuleIsUntested rules
      → AreUnpredicated (map (resolved_rule names predicates lexers types) rules)
  unpredicated_rules rules h =
      All-map RuleIsUnpredicated (resolved_rule names predicates lexers types) rules
      (All-weaker ParserRuleIsUntested (λ (rule : ParserRule Atom). RuleIsUnpredicated (resolved_rule names predicates lexers types rule))
      (λ rule untested. each_step IsNoPredicate rule
      (All-weaker (λ (a : Atom). ParserKindIsUntested a.kind) (λ (a : Atom). IsNoPredicate (becomes a)) (λ a. other_step a.kind)
      (atoms_of_either (alternatives_of rule)) untested))
      rules h)

  -- a rule keeps its alternatives
  full_rule : (rule : ParserRule Atom) → ParserRuleIsFull rule → ParserRuleIsFull (resolved_rule names predicates lexers types rule)
  full_rule rule full =
      subst (λ (xs : Alternatives (Step (List ℕ))). IsSome xs × EachIsFull xs) (sym (tree_of rule))
      (some_over becomes (alternatives_of rule) full.0, each_full_over becomes (alternatives_of rule) full.1)

  full_rules : (rules : List Rule) → RulesAreFull rules
      → ParserRulesAreFull (map (resolved_rule names predicates lexers types) (parser_rules rules))
  full_rules [] h = tt
  full_rules (Parser rule ∷ rules) h = (full_rule rule h.0, full_rules rules h.1)
  full_rules (Lexer rule ∷ rules) h = full_rules rules h.1

  -- what a step reads of the empty word, its atom reads
  reads : (kind : AtomKind) → ReadsSymbols (step_of names predicates lexers types kind) [] → ReadsAnySymbol kind []
  reads (kinds.Rule name) r = r
  reads (kinds.Token name) r = (r.0, r.2)
  reads (kinds.Literal literal) r = (r.0, r.2)
  reads (kinds.Range first last) r = no_symbol r.0 r.1
  reads (kinds.Set set) r = no_symbol r.0 r.1
  reads kinds.Any r = (r.0, r.2)
  reads (kinds.NotTokens tokens) r = (r.0, r.2)
  reads (kinds.NotCharacters set) r = no_symbol r.0 r.1
  reads kinds.Action r = r
  reads (kinds.Predicate name) r = r

  -- an atom of a rule of a kind as a step: one of a lexer rule reads nothing
  abbrev step_as : RuleKind → Atom → Step (List ℕ)
  step_as rule_kinds.Parser a = becomes a
  step_as rule_kinds.Lexer a = Edge []

  abbrev step_in : AtomIn → Step (List ℕ)
  step_in a = step_as a.kind a.atom

  -- the alternatives of a parser rule over steps
  body_over : (rule : ParserRule Atom) → either_over becomes (alternatives_of rule) ≡ either_over step_in (body_of (Parser rule))
  body_over rule = sym (either_over_twice step_in (atom_in rule_kinds.Parser) (alternatives_of rule))

  -- a step derives the empty word only where its atom does
  reads_in : (kind : RuleKind) (a : Atom) → ReadsSymbols (step_as kind a) [] → KindReads kind a.kind []
  reads_in rule_kinds.Parser a r = reads a.kind r
  reads_in rule_kinds.Lexer a r = absurd (no_symbol r.0 r.1)

module _ (all : List Rule) (lexers : List LexerRule) (types : List TokenEntry) where
  -- the names of the rules
  abbrev names : List (List ℕ)
  names = parser_names all

  -- the texts of their predicates
  abbrev predicates : List (List ℕ)
  predicates = predicate_texts all

  -- the rules over steps
  abbrev made : List StepRule
  made = map (resolved_rule names predicates lexers types) (parser_rules all)

  -- the place among all rules of the rule with this number, where the numbers of parser rules count from 1, and none has number 0
  abbrev number : ℕ → ℕ
  number zero = length all
  number (suc k) = place_of all k

  -- this is made of the body of the rule with this number
  abbrev IsBodyOf : ℕ → Alternatives (Step (List ℕ)) → Type 0
  IsBodyOf k ys = (xs : Alternatives AtomIn) × (slice_get (bodies_of all) (number k) ≡ Some xs)
      × (ys ≡ either_over (step_in names predicates lexers types) xs)

  -- a rule over steps is one of the rules
  pub rule_back : (k : ℕ) (ys : Alternatives (Step (List ℕ))) → slice_get (map alternatives_of made) k ≡ Some ys →
      (rule : ParserRule Atom) × (slice_get (parser_rules all) k ≡ Some rule)
      × (ys ≡ either_over (becomes names predicates lexers types) (alternatives_of rule))
  rule_back k ys is = by (slice_get (parser_rules all) k) refl
    where
      twice : slice_get (map alternatives_of made) k
          ≡ option_map alternatives_of (option_map (resolved_rule names predicates lexers types) (slice_get (parser_rules all) k))
      twice = slice_get-map alternatives_of made k
          ∙ ap (option_map alternatives_of) (slice_get-map (resolved_rule names predicates lexers types) (parser_rules all) k)

      by : (o : Option (ParserRule Atom)) → slice_get (parser_rules all) k ≡ o →
          (rule : ParserRule Atom) × (slice_get (parser_rules all) k ≡ Some rule)
          × (ys ≡ either_over (becomes names predicates lexers types) (alternatives_of rule))
      by None e = absurd (let wrong : None ≡ Some ys =
          sym (twice
          ∙ ap (λ (o : Option (ParserRule Atom)).
          option_map alternatives_of (option_map (resolved_rule names predicates lexers types) o)) e)
          ∙ is in let n : ⊥ = cc in n)
      by (Some rule) e =
          let same : Some (alternatives_of (resolved_rule names predicates lexers types rule)) ≡ Some ys =
          sym (twice
          ∙ ap (λ (o : Option (ParserRule Atom)).
          option_map alternatives_of (option_map (resolved_rule names predicates lexers types) o)) e)
          ∙ is in
          let here : ys ≡ alternatives_of (resolved_rule names predicates lexers types rule) = cc in
          (rule, e, here ∙ tree_of names predicates lexers types rule)

  -- the body of a rule over steps
  body_back : (k : ℕ) (ys : Alternatives (Step (List ℕ))) → slice_get (map alternatives_of made) k ≡ Some ys → IsBodyOf (suc k) ys
  body_back k ys is =
      let rule = rule_back k ys is in (
        body_of (Parser rule.0),
        slice_get-map body_of all (place_of all k) ∙ ap (option_map body_of) (at_place all k rule.0 rule.1),
        rule.2 ∙ body_over names predicates lexers types rule.0,
      )

  bodies : (k : ℕ) (ys : Alternatives (Step (List ℕ))) → slice_get (by_number made) k ≡ Some ys → (ys ≡ none) ⊎ IsBodyOf k ys
  bodies zero ys is = inl (let same : Some none ≡ Some ys = is in let e : ys ≡ none = cc in e)
  bodies (suc k) ys is = inr (body_back k ys is)

  -- parser rule k is one of the names
  less_than_names : (k : ℕ) (ys : Alternatives (Step (List ℕ))) → slice_get (map alternatives_of made) k ≡ Some ys → k < length names
  less_than_names k ys is =
      let rule = rule_back k ys is in
      subst (λ (n : ℕ). k < n) (sym (length-map (parser_rules all) (λ rule. rule.name)))
      (slice_get_within (parser_rules all) k rule.0 rule.1)

  -- the rule that an atom calls is the one with this number
  abbrev IsCalled : RuleKind → AtomKind → ℕ → Alternatives (Step (List ℕ)) → Type 0
  IsCalled kind a k ys = written.KindCalls all kind a (number k) × IsBodyOf k ys

  -- a reference
  called_by : (name : List ℕ) (k : ℕ) (ys : Alternatives (Step (List ℕ))) → k ≡ place_named names name + 1
      → slice_get (by_number made) k ≡ Some ys → (position (is_rule_of rule_kinds.Parser name) all ≡ Some (number k)) × IsBodyOf k ys
  called_by name zero ys same is = absurd (omega (arith, same))
  called_by name (suc k) ys same is =
      let here : place_named names name ≡ k = omega (arith, same) in
      let found = within_found (λ other. bytes_eq other name) names (omega (arith, here, less_than_names k ys is)) in
      (first_place all name k (found ∙ ap (λ (n : ℕ). Some n) here), body_back k ys is)

  -- the rule that a step calls is made of the one that its atom calls
  called_back : (kind : AtomKind) (k : ℕ) (ys : Alternatives (Step (List ℕ))) → CallsRule (step_of names predicates lexers types kind) k
      → slice_get (by_number made) k ≡ Some ys → IsCalled rule_kinds.Parser kind k ys
  called_back (kinds.Rule name) k ys c is = called_by name.text k ys c is
  called_back (kinds.Token name) k ys c is = absurd c
  called_back (kinds.Literal literal) k ys c is = absurd c
  called_back (kinds.Range first last) k ys c is = absurd c
  called_back (kinds.Set set) k ys c is = absurd c
  called_back kinds.Any k ys c is = absurd c
  called_back (kinds.NotTokens tokens) k ys c is = absurd c
  called_back (kinds.NotCharacters set) k ys c is = absurd c
  called_back kinds.Action k ys c is = absurd c
  called_back (kinds.Predicate name) k ys c is = absurd c

  called_in : (kind : RuleKind) (a : Atom) (k : ℕ) (ys : Alternatives (Step (List ℕ)))
      → CallsRule (step_as names predicates lexers types kind a) k → slice_get (by_number made) k ≡ Some ys → IsCalled kind a.kind k ys
  called_in rule_kinds.Parser a k ys c is = called_back a.kind k ys c is
  called_in rule_kinds.Lexer a k ys c is = absurd c

  -- a reference to the rule of a number is a step that calls this number
  called_on : (name : List ℕ) (k : ℕ) (ys : Alternatives (Step (List ℕ))) → slice_get (by_number made) k ≡ Some ys
      → position (is_rule_of rule_kinds.Parser name) all ≡ Some (number k) → k ≡ place_named names name + 1
  called_on name zero ys is c = absurd (omega (arith, found_less (is_rule_of rule_kinds.Parser name) all (length all) c))
  called_on name (suc k) ys is c =
      let rule = rule_back k ys is in
      let less : k < length (parser_rules all) = slice_get_within (parser_rules all) k rule.0 rule.1 in
      let test = λ (other : List ℕ). bytes_eq other name in
      let found = first_of_place all name k less c in
      let twice : Some k ≡ Some (place_named names name) = sym found ∙ within_found test names (found_within test names k found) in
      let here : k ≡ place_named names name = cc in omega (arith, here)

  -- so is any atom that calls this rule
  calls_on : (kind : AtomKind) (k : ℕ) (ys : Alternatives (Step (List ℕ))) → slice_get (by_number made) k ≡ Some ys
      → written.KindCalls all rule_kinds.Parser kind (number k) → CallsRule (step_of names predicates lexers types kind) k
  calls_on (kinds.Rule name) k ys is c = called_on name.text k ys is c
  calls_on (kinds.Token name) k ys is c = absurd c
  calls_on (kinds.Literal literal) k ys is c = absurd c
  calls_on (kinds.Range first last) k ys is c = absurd c
  calls_on (kinds.Set set) k ys is c = absurd c
  calls_on kinds.Any k ys is c = absurd c
  calls_on (kinds.NotTokens tokens) k ys is c = absurd c
  calls_on (kinds.NotCharacters set) k ys is c = absurd c
  calls_on kinds.Action k ys is c = absurd c
  calls_on (kinds.Predicate name) k ys is c = absurd c

  -- an operator of a rule may begin with an atom exactly where one of the rule over steps may begin with its step
  own : (kind : RuleKind) (a : Atom) (k : ℕ) (ys : Alternatives (Step (List ℕ))) → slice_get (by_number made) k ≡ Some ys
      → CallsRule (step_as names predicates lexers types kind a) k ↔ OwnIn all (atom_in kind a) (number k)
  own rule_kinds.Parser a k ys is = (λ c. (refl, (called_back a.kind k ys c is).0), λ o. calls_on a.kind k ys is o.1)
  own rule_kinds.Lexer a k ys is = (
    λ c. absurd c,
    λ o. let wrong : rule_kinds.Lexer ≡ rule_kinds.Parser = o.0 in
        absurd (let n : ⊥ = cc in n),
  )

  -- the rules over steps can be run
  steps_run : RulesCanRun all → CanRun ReadsSymbols CallsRule CallsRule (by_number made)
  steps_run can =
      can_run_over (step_in names predicates lexers types) ReadsIn ReadsSymbols (CallsIn all) CallsRule
      (bodies_of all) (by_number made) number
      (λ a r. reads_in names predicates lexers types a.kind a.atom r)
      (λ a k ys c is. called_in a.kind a.atom k ys c is) bodies (OwnIn all) CallsRule
      (λ a k ys is. own a.kind a.atom k ys is) can

  -- the step of a reference that is defined calls one of the rules
  abbrev IsNumber : ℕ → Type 0
  IsNumber j = (1 ≤ j) × (j ≤ length made)

  number_called : (kind : AtomKind) → KindIsDefined all rule_kinds.Parser kind → (j : ℕ)
      → CallsRule (step_of names predicates lexers types kind) j → IsNumber j
  number_called (kinds.Rule name) d j c =
      let found = first_parser all name.text d.0 d.1 in
      let less : place_named names name.text < length names = found_within (λ other. bytes_eq other name.text) names found.0 found.1 in
      let many : length names ≡ length made = length-map (parser_rules all) (λ rule. rule.name)
      ∙ sym (length-map (parser_rules all) (resolved_rule names predicates lexers types)) in
      let same : j ≡ place_named names name.text + 1 = c in (omega (arith, same), omega (arith, same, less, many))
  number_called (kinds.Token name) d j c = absurd c
  number_called (kinds.Literal literal) d j c = absurd c
  number_called (kinds.Range first last) d j c = absurd c
  number_called (kinds.Set set) d j c = absurd c
  number_called kinds.Any d j c = absurd c
  number_called (kinds.NotTokens tokens) d j c = absurd c
  number_called (kinds.NotCharacters set) d j c = absurd c
  number_called kinds.Action d j c = absurd c
  number_called (kinds.Predicate name) d j c = absurd c

  -- each reference of the atoms is defined
  abbrev AtomIsDefined : AtomIn → Type 0
  AtomIsDefined a = KindIsDefined all a.kind a.atom.kind

  within_rule : (rule : ParserRule Atom) → All AtomIsDefined (rule_atoms (Parser rule))
      → CallsWithin (length made) (resolved_rule names predicates lexers types rule)
  within_rule rule h =
      one_call_has CallsRule IsNumber (alternatives_of (resolved_rule names predicates lexers types rule))
      (each_step names predicates lexers types (CallsHave CallsRule IsNumber) rule
      (All-weaker (λ (a : Atom). AtomIsDefined (atom_in rule_kinds.Parser a))
      (λ (a : Atom). CallsHave CallsRule IsNumber (becomes names predicates lexers types a))
      (λ a d. number_called a.kind d) (atoms_of_either (alternatives_of rule))
      (All-unmap AtomIsDefined (atom_in rule_kinds.Parser) (atoms_of_either (alternatives_of rule)) h)))

  within_rules : (some : List Rule) → All AtomIsDefined (all_atoms some)
      → All (CallsWithin (length made)) (map (resolved_rule names predicates lexers types) (parser_rules some))
  within_rules [] h = All-nil (CallsWithin (length made))
  within_rules (Parser rule ∷ some) h =
      All-cons (CallsWithin (length made)) (resolved_rule names predicates lexers types rule)
      (map (resolved_rule names predicates lexers types) (parser_rules some))
      (within_rule rule (All-front AtomIsDefined (rule_atoms (Parser rule)) (all_atoms some) h))
      (within_rules some (All-rest AtomIsDefined (rule_atoms (Parser rule)) (all_atoms some) h))
  within_rules (Lexer rule ∷ some) h = within_rules some (All-rest AtomIsDefined (rule_atoms (Lexer rule)) (all_atoms some) h)

  -- they can be rewritten
  pub can_be_rewritten : greatest_number types ≤ MOST_TYPES → CanBeResolved all → CanBeRewritten made
  can_be_rewritten few can = record {
    plain = plain_rules names predicates lexers types few (parser_rules all);
    full = full_rules names predicates lexers types all can.full;
    within = within_rules all can.defined;
    run = steps_run can.run;
  }
