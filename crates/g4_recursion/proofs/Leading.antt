-- An atom of a rule and what it does before anything is read: both read the empty word, and both call the same rules. So the
-- rules over leads are the rules over their atoms.
use Rattle.std.proofs.Common.{◌≡◌, ◌↔◌, ◌⊎◌, ℕ, List, [], ◌∷◌, map, inl, inr, Bool, true, false, cond, codes, Option, Some, None, refl, sym, ap, ◌∙◌, subst, arith}
use Rattle.std.specs.List.{position, slice_get}
use Rattle.std.proofs.lemmas.Bool.{cases_Bool}
use Rattle.std.proofs.lemmas.Option.{same_Some}
use Rattle.std.specs.Str.{bytes_eq}
use Rattle.g4_source.specs.Elements.{Elements, either}
use Rattle.g4_source.specs.Bind.{in_order_over, either_over}
use Rattle.g4_source.specs.declared.atom.Atom.{Atom}
use Rattle.g4_source.specs.declared.atom.AtomKind.{AtomKind}
use Rattle.g4_source.specs.declared.atom.AtomKind.TheVariants as atoms
use Rattle.g4_source.specs.declared.rule.Rule.{Rule}
use Rattle.g4_source.specs.declared.rule.Rule.TheVariants as rule_variants
use Rattle.g4_source.specs.declared.rule.RuleAlternative.{RuleAlternative}
use Rattle.g4_source.specs.declared.rule.LexerAlternative.{LexerAlternative}
use Rattle.g4_source.specs.declared.kind.RuleKind.{RuleKind}
use Rattle.g4_source.specs.declared.kind.RuleKind.TheVariants.{Parser, Lexer}
use Rattle.g4_source.specs.Atoms.{AtomIn, atom_in, body_of, bodies_of}
use Rattle.g4_source.specs.declared.rules.RuleView.{RuleView}
use Rattle.g4_source.specs.Views.{rule_view}
use Rattle.g4_source.proofs.Lists.{map-map}
use mathlib.Core.Path.{fun_ext}
use Rattle.g4_grammar.specs.Written.{CallsIn, is_rule_of, KindCalls, KindReads, OwnIn, ReadsIn}
use Rattle.g4_grammar.proofs.Carried.{in_order_over_twice}
use Rattle.g4_grammar.proofs.Positions.{at_first, found_within, from_later}
use Rattle.g4_recursion.specs.declared.lead.Lead.{Lead}
use Rattle.g4_recursion.specs.declared.lead.Lead.TheVariants.{Empty, Symbol}
use Rattle.g4_recursion.specs.declared.lead.LeadRule.{LeadRule}
use Rattle.g4_recursion.specs.Leads.{ReadsLead, CallsLead, OwnLead, trees_of}
use Rattle.g4_recursion.specs.declared.numbers.Numbers.{Numbers}
use Rattle.g4_recursion.specs.Numbers.{AreNumbers, number_in, rule_number}
use Rattle.g4_recursion.specs.AtomLeads.{lead_by, lead_in, leads_by, leads_in, may_have_operators, operators_in, reference_lead, text_lead}
use Rattle.g4_recursion.proofs.Over.{mapped_at}

-- a symbol does not read the empty word
symbol_reads : ReadsLead Symbol [] → ⊥
symbol_reads h = let e : [] ≡ h.0 ∷ [] = h.1 in let n : ⊥ = cc in n

-- a reference does not read the empty word
reference_reads : (o : Option ℕ) → ReadsLead (reference_lead o) [] → ⊥
reference_reads None h = symbol_reads h
reference_reads (Some k) h = h

-- the rule that a reference calls
reference_calls : (o : Option ℕ) (k : ℕ) → (o ≡ Some k) ↔ CallsLead (reference_lead o) k
reference_calls None k = (λ e. absurd (let n : ⊥ = cc in n), λ h. absurd h)
reference_calls (Some j) k = (λ e. let s : k ≡ j = cc in s, λ e. ap (λ (n : ℕ). Some n) (sym e))

-- a text reads the empty word where it is empty
text_reads : (cs : List ℕ) → ([] ≡ cs) ↔ ReadsLead (text_lead cs) []
text_reads [] = (λ e. refl, λ e. refl)
text_reads (c ∷ cs) = (λ e. absurd (let n : ⊥ = cc in n), λ h. absurd (symbol_reads h))

-- the end of the file reads the empty word, and any other upper-case name of a lexer rule does not
token_reads : (b : Bool) (o : Option ℕ) → (⊥ ⊎ ((b ≡ true) × (◌≡◌ {A = List ℕ} [] []))) ↔ ReadsLead (cond b Empty (reference_lead o)) []
token_reads true o = (λ h. refl, λ h. inr (refl, refl))
token_reads false o = (
  λ h. elim h [ inl n ↦ absurd n | inr e ↦ absurd (let wrong : false ≡ true = e.0 in let n : ⊥ = cc in n) ],
  λ h. absurd (reference_reads o h),
)

-- the end of the file calls no rule
token_calls : (b : Bool) (o : Option ℕ) (k : ℕ) → ((b ≡ false) × (o ≡ Some k)) ↔ CallsLead (cond b Empty (reference_lead o)) k
token_calls true o k = (λ h. absurd (let wrong : true ≡ false = h.0 in let n : ⊥ = cc in n), λ h. absurd h)
token_calls false o k = (λ h. (reference_calls o k).0 h.1, λ h. (refl, (reference_calls o k).1 h))

-- what reads a character does not read the empty word
one_character : {P : ℕ → Type 0} {Q : Type 0} → (((c : ℕ) × ([] ≡ c ∷ []) × P c) ⊎ (⊥ × Q)) ↔ ReadsLead Symbol []
one_character = (
  λ h. elim h [ inl m ↦ absurd (let e : [] ≡ m.0 ∷ [] = m.1 in let n : ⊥ = cc in n) | inr n ↦ absurd n.0 ],
  λ h. absurd (symbol_reads h),
)

-- what reads nothing at all
no_word : {Q : Type 0} → (⊥ ⊎ (⊥ × Q)) ↔ ReadsLead Symbol []
no_word = (λ h. elim h [ inl n ↦ absurd n | inr n ↦ absurd n.0 ], λ h. absurd (symbol_reads h))

-- what reads the empty word alone
empty_word : {Q : Type 0} → ((◌≡◌ {A = List ℕ} [] []) ⊎ (⊥ × Q)) ↔ ReadsLead Empty []
empty_word = (λ h. refl, λ h. inl refl)

module _ (rules : List Rule) where
  -- what atoms do, by the numbers of these rules
  abbrev lead : RuleKind → AtomKind → Lead
  lead kind a = lead_by (rule_number rules) kind a

  -- an atom of a rule of this kind reads the empty word where its lead does
  reads_kind : (kind : RuleKind) (a : AtomKind) → KindReads kind a [] ↔ ReadsLead (lead kind a) []
  reads_kind Parser (atoms.Rule name) = (λ h. absurd h, λ h. absurd (reference_reads (rule_number rules Parser name.text) h))
  reads_kind Parser (atoms.Token name) = (λ h. h, λ h. h)
  reads_kind Parser (atoms.Literal literal) = (λ h. h, λ h. h)
  reads_kind Parser (atoms.Range first last) = (λ h. absurd h, λ h. absurd (symbol_reads h))
  reads_kind Parser (atoms.Set set) = (λ h. absurd h, λ h. absurd (symbol_reads h))
  reads_kind Parser atoms.Any = (λ h. h, λ h. h)
  reads_kind Parser (atoms.NotTokens tokens) = (λ h. h, λ h. h)
  reads_kind Parser (atoms.NotCharacters set) = (λ h. absurd h, λ h. absurd (symbol_reads h))
  reads_kind Parser atoms.Action = (λ h. h, λ h. h)
  reads_kind Parser (atoms.Predicate name) = (λ h. h, λ h. h)
  reads_kind Lexer (atoms.Rule name) = no_word
  reads_kind Lexer (atoms.Token name) = token_reads (bytes_eq name.text (codes "EOF")) (rule_number rules Lexer name.text)
  reads_kind Lexer (atoms.Literal literal) = (
    λ h. elim h [ inl e ↦ (text_reads literal.characters).0 e | inr n ↦ absurd n.0 ],
    λ h. inl ((text_reads literal.characters).1 h),
  )
  reads_kind Lexer (atoms.Range first last) = (λ h. elim h [ inl m ↦ (m.0, m.1) | inr n ↦ absurd n.0 ], λ h. absurd (symbol_reads h))
  reads_kind Lexer (atoms.Set set) = (λ h. elim h [ inl m ↦ (m.0, m.1) | inr n ↦ absurd n.0 ], λ h. absurd (symbol_reads h))
  reads_kind Lexer atoms.Any = (λ h. elim h [ inl m ↦ (m.0, m.1) | inr n ↦ absurd n.0 ], λ h. absurd (symbol_reads h))
  reads_kind Lexer (atoms.NotTokens tokens) = no_word
  reads_kind Lexer (atoms.NotCharacters set) = (λ h. elim h [ inl m ↦ (m.0, m.1) | inr n ↦ absurd n.0 ], λ h. absurd (symbol_reads h))
  reads_kind Lexer atoms.Action = empty_word
  reads_kind Lexer (atoms.Predicate name) = empty_word

  -- an atom reads the empty word where its lead does
  pub reads : (a : AtomIn) → ReadsIn a [] ↔ ReadsLead (lead_in rules a) []
  reads a = reads_kind a.kind a.atom.kind

  -- an atom of a rule of this kind calls a rule where its lead does
  calls_kind : (kind : RuleKind) (a : AtomKind) (k : ℕ) → KindCalls rules kind a k ↔ CallsLead (lead kind a) k
  calls_kind Parser (atoms.Rule name) k = reference_calls (rule_number rules Parser name.text) k
  calls_kind Parser (atoms.Token name) k = (λ h. h, λ h. h)
  calls_kind Parser (atoms.Literal literal) k = (λ h. h, λ h. h)
  calls_kind Parser (atoms.Range first last) k = (λ h. h, λ h. h)
  calls_kind Parser (atoms.Set set) k = (λ h. h, λ h. h)
  calls_kind Parser atoms.Any k = (λ h. h, λ h. h)
  calls_kind Parser (atoms.NotTokens tokens) k = (λ h. h, λ h. h)
  calls_kind Parser (atoms.NotCharacters set) k = (λ h. h, λ h. h)
  calls_kind Parser atoms.Action k = (λ h. h, λ h. h)
  calls_kind Parser (atoms.Predicate name) k = (λ h. h, λ h. h)
  calls_kind Lexer (atoms.Rule name) k = (λ h. h, λ h. h)
  calls_kind Lexer (atoms.Token name) k = token_calls (bytes_eq name.text (codes "EOF")) (rule_number rules Lexer name.text) k
  calls_kind Lexer (atoms.Literal literal) k = by literal.characters
    where
      by : (cs : List ℕ) → ⊥ ↔ CallsLead (text_lead cs) k
      by [] = (λ h. h, λ h. h)
      by (c ∷ cs) = (λ h. h, λ h. h)
  calls_kind Lexer (atoms.Range first last) k = (λ h. h, λ h. h)
  calls_kind Lexer (atoms.Set set) k = (λ h. h, λ h. h)
  calls_kind Lexer atoms.Any k = (λ h. h, λ h. h)
  calls_kind Lexer (atoms.NotTokens tokens) k = (λ h. h, λ h. h)
  calls_kind Lexer (atoms.NotCharacters set) k = (λ h. h, λ h. h)
  calls_kind Lexer atoms.Action k = (λ h. h, λ h. h)
  calls_kind Lexer (atoms.Predicate name) k = (λ h. h, λ h. h)

  -- an atom calls a rule where its lead does
  pub calls : (a : AtomIn) (k : ℕ) → CallsIn rules a k ↔ CallsLead (lead_in rules a) k
  calls a k = calls_kind a.kind a.atom.kind k

-- the item that is found is one of which the test holds
found_item : {X : Type 0} (p : X → Bool) (xs : List X) (k : ℕ) → position p xs ≡ Some k → (x : X) × (slice_get xs k ≡ Some x) × (p x ≡ true)
found_item p [] k is = absurd (omega (arith, found_within p [] k is))
found_item p (x ∷ xs) k is = elim (cases_Bool (p x)) [
  | inl holds ↦
      let here : Some 0 ≡ Some k = sym (at_first p x xs holds) ∙ is in
      let first : 0 ≡ k = cc in
      (x, subst (λ (n : ℕ). slice_get (x ∷ xs) n ≡ Some x) first refl, holds)
  | inr fails ↦
      let (j, later, next) = from_later p x xs k fails is in
      let (y, at, holds) = found_item p xs j later in
      (y, subst (λ (n : ℕ). slice_get (x ∷ xs) n ≡ Some y) (sym next) at, holds)
]

-- a rule of a kind may have operators where this is the kind of parser rules
kinds_agree : (kind : RuleKind) (name : List ℕ) (rule : Rule) → is_rule_of kind name rule ≡ true
    → (kind ≡ Parser) ↔ (may_have_operators rule ≡ true)
kinds_agree Parser name (rule_variants.Parser rule) is = (λ h. refl, λ h. refl)
kinds_agree Parser name (rule_variants.Lexer rule) is = absurd (let n : ⊥ = cc in n)
kinds_agree Lexer name (rule_variants.Parser rule) is = absurd (let n : ⊥ = cc in n)
kinds_agree Lexer name (rule_variants.Lexer rule) is = (λ h. absurd (let n : ⊥ = cc in n), λ h. absurd (let n : ⊥ = cc in n))

module _ (rules : List Rule) where
  -- a rule that an atom calls has the kind and the name that the atom says
  called : (kind : RuleKind) (a : AtomKind) (k : ℕ) → KindCalls rules kind a k
      → (name : List ℕ) × (position (is_rule_of kind name) rules ≡ Some k)
  called Parser (atoms.Rule name) k h = (name.text, h)
  called Parser (atoms.Token name) k h = absurd h
  called Parser (atoms.Literal literal) k h = absurd h
  called Parser (atoms.Range first last) k h = absurd h
  called Parser (atoms.Set set) k h = absurd h
  called Parser atoms.Any k h = absurd h
  called Parser (atoms.NotTokens tokens) k h = absurd h
  called Parser (atoms.NotCharacters set) k h = absurd h
  called Parser atoms.Action k h = absurd h
  called Parser (atoms.Predicate name) k h = absurd h
  called Lexer (atoms.Rule name) k h = absurd h
  called Lexer (atoms.Token name) k h = (name.text, h.1)
  called Lexer (atoms.Literal literal) k h = absurd h
  called Lexer (atoms.Range first last) k h = absurd h
  called Lexer (atoms.Set set) k h = absurd h
  called Lexer atoms.Any k h = absurd h
  called Lexer (atoms.NotTokens tokens) k h = absurd h
  called Lexer (atoms.NotCharacters set) k h = absurd h
  called Lexer atoms.Action k h = absurd h
  called Lexer (atoms.Predicate name) k h = absurd h

  -- a rule that an atom calls may have operators where the atom is one of a parser rule
  called_may : (a : AtomIn) (k : ℕ) → CallsIn rules a k → (a.kind ≡ Parser) ↔ (slice_get (operators_in rules) k ≡ Some true)
  called_may a k calls =
      let (name, is) = called a.kind a.atom.kind k calls in
      let (rule, at, holds) = found_item (is_rule_of a.kind name) rules k is in
      let here : slice_get (operators_in rules) k ≡ Some (may_have_operators rule) = mapped_at may_have_operators rules k rule at in
      let both = kinds_agree a.kind name rule holds in
      (λ h. here ∙ ap (λ (b : Bool). Some b) (both.0 h), λ h. both.1 (same_Some (may_have_operators rule) true (sym here ∙ h)))

  -- an atom begins an operator of a rule where its lead does
  pub own : (a : AtomIn) (k : ℕ) → OwnIn rules a k ↔ OwnLead (operators_in rules) (lead_in rules a) k
  own a k = (
    λ h. ((calls rules a k).0 h.1, (called_may a k h.1).0 h.0),
    λ h. let there = (calls rules a k).1 h.0 in ((called_may a k there).1 h.1, there),
  )

-- what becomes of items in two steps
map_twice : {X Y Z : Type 0} (whole : X → Z) (first : X → Y) (second : Y → Z) → ((x : X) → whole x ≡ second (first x)) → (xs : List X)
    → map whole xs ≡ map second (map first xs)
map_twice whole first second same [] = refl
map_twice whole first second same (x ∷ xs) = let e = same x in let es = map_twice whole first second same xs in cc

module _ (rules : List Rule) where
  -- the alternatives of a parser rule over leads
  pub parser_leads : (alternatives : List (RuleAlternative Atom)) →
      map (λ a. in_order_over (λ b. lead_by (rule_number rules) Parser b.kind) a.elements) alternatives
      ≡ map (in_order_over (lead_in rules)) (map (λ a. in_order_over (atom_in Parser) a.elements) alternatives)
  parser_leads alternatives =
      map_twice (λ (a : RuleAlternative Atom). in_order_over (λ b. lead_by (rule_number rules) Parser b.kind) a.elements)
      (λ a. in_order_over (atom_in Parser) a.elements) (in_order_over (lead_in rules))
      (λ a. sym (in_order_over_twice (lead_in rules) (atom_in Parser) a.elements)) alternatives

  -- as trees
  parser_trees : (alternatives : List (RuleAlternative Atom)) →
      either (map (λ a. in_order_over (λ b. lead_by (rule_number rules) Parser b.kind) a.elements) alternatives)
      ≡ either_over (lead_in rules) (either_over (atom_in Parser) (either (map (λ a. a.elements) alternatives)))
  parser_trees [] = refl
  parser_trees (a ∷ more) = let e = in_order_over_twice (lead_in rules) (atom_in Parser) a.elements in let es = parser_trees more in cc

  -- those of a lexer rule
  lexer_trees : (alternatives : List LexerAlternative) →
      either (map (λ a. in_order_over (λ b. lead_by (rule_number rules) Lexer b.kind) a.elements) alternatives)
      ≡ either_over (lead_in rules) (either_over (atom_in Lexer) (either (map (λ a. a.elements) alternatives)))
  lexer_trees [] = refl
  lexer_trees (a ∷ more) = let e = in_order_over_twice (lead_in rules) (atom_in Lexer) a.elements in let es = lexer_trees more in cc

  -- the tree of a rule over leads
  pub rule_tree : (rule : Rule) → either (leads_by (rule_number rules) rule) ≡ either_over (lead_in rules) (body_of rule)
  rule_tree (rule_variants.Parser rule) = parser_trees rule.alternatives
  rule_tree (rule_variants.Lexer rule) = lexer_trees rule.alternatives

  -- the trees of some of the rules
  some_trees : (some : List Rule) → map either (map (leads_by (rule_number rules)) some)
      ≡ map (either_over (lead_in rules)) (map body_of some)
  some_trees [] = refl
  some_trees (rule ∷ more) = let e = rule_tree rule in let es = some_trees more in cc

  -- the trees of all rules over leads are their trees
  pub trees_over : (leads : List LeadRule) → map (λ lead. lead.alternatives) leads ≡ leads_in rules
      → trees_of leads ≡ map (either_over (lead_in rules)) (bodies_of rules)
  trees_over leads is = sym (map-map either (λ (lead : LeadRule). lead.alternatives) leads) ∙ (ap (map either) is ∙ some_trees rules)

-- the leads that are made by the numbers of rules are theirs
pub all_leads : (views : List RuleView) (numbers : Numbers) (made : List (List (Elements Lead))) →
    AreNumbers (map rule_view views) numbers → made ≡ map (λ view. leads_by (number_in numbers) (rule_view view)) views
    → made ≡ leads_in (map rule_view views)
all_leads views numbers made are is =
    let same : number_in numbers ≡ rule_number (map rule_view views) = fun_ext (λ kind. fun_ext (λ name. are kind name)) in
    is ∙ (ap (λ (find : RuleKind → List ℕ → Option ℕ). map (λ view. leads_by find (rule_view view)) views) same
    ∙ sym (map-map (leads_by (rule_number (map rule_view views))) rule_view views))
