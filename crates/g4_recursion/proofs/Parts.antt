-- What elements and alternatives are, by their first one and the rest.
use Rattle.std.proofs.Common.{◌↔◌, ℕ, ◌⊎◌, inl, inr, List, [], Option, refl, sym, ap, ◌∙◌}
use Rattle.std.specs.List.{slice_get}
use Rattle.g4_source.specs.declared.name.Label.{Label}
use Rattle.g4_source.specs.declared.element.Suffix.{Suffix}
use Rattle.g4_source.specs.declared.element.Repeat.TheVariants.{Once, Plus}
use Rattle.g4_source.specs.Elements.{Element, atom, block, Elements, then, Alternatives, none, or}
use Rattle.g4_grammar.specs.Derives.{DerivesOne}
use Rattle.g4_grammar.specs.LeftCalls.{Nullable, an_atom, a_call, a_block, a_plus, AllNullable, one_more, OneNullable, this, another}
use Rattle.g4_grammar.proofs.Empty.{one_derives_nothing, one_is_nullable}
use Rattle.g4_recursion.specs.declared.lead.Lead.{Lead}
use Rattle.g4_recursion.specs.declared.lead.Lead.TheVariants.{Empty, Symbol, Call}
use Rattle.g4_recursion.specs.Leads.{ReadsLead, CallsLead, IsNullableRule}

module _ (rules : List (Alternatives Lead)) where
  -- alternatives
  pub one_parts : (x : Elements Lead) (xs : Alternatives Lead)
      → OneNullable ReadsLead CallsLead rules (or x xs)
      ↔ (AllNullable ReadsLead CallsLead rules x ⊎ OneNullable ReadsLead CallsLead rules xs)
  one_parts x xs = (to, λ h. elim h [ inl a ↦ this x xs a | inr o ↦ another x xs o ])
    where
      to : OneNullable ReadsLead CallsLead rules (or x xs)
          → AllNullable ReadsLead CallsLead rules x ⊎ OneNullable ReadsLead CallsLead rules xs
      to (this y ys a) = inl a
      to (another y ys o) = inr o

  pub not_one_of_none : OneNullable ReadsLead CallsLead rules none → ⊥
  not_one_of_none h = elim h [ ]

  -- elements
  pub all_parts : (x : Element Lead) (xs : Elements Lead)
      → AllNullable ReadsLead CallsLead rules (then x xs)
      ↔ (Nullable ReadsLead CallsLead rules x × AllNullable ReadsLead CallsLead rules xs)
  all_parts x xs = (to, λ h. one_more x xs h.0 h.1)
    where
      to : AllNullable ReadsLead CallsLead rules (then x xs)
          → Nullable ReadsLead CallsLead rules x × AllNullable ReadsLead CallsLead rules xs
      to (one_more y ys h hs) = (h, hs)

  -- a block that is taken once
  pub once_parts : (label : Option Label) (xs : Alternatives Lead)
      → OneNullable ReadsLead CallsLead rules xs ↔ Nullable ReadsLead CallsLead rules (block label Once xs)
  once_parts label xs = (λ h. a_block label xs h, from)
    where
      from : Nullable ReadsLead CallsLead rules (block label Once xs) → OneNullable ReadsLead CallsLead rules xs
      from (a_block name ys one) = one

  -- a plus
  pub plus_parts : (label : Option Label) (sign : Suffix) (xs : Alternatives Lead)
      → OneNullable ReadsLead CallsLead rules xs ↔ Nullable ReadsLead CallsLead rules (block label (Plus sign) xs)
  plus_parts label sign xs = (λ h. a_plus label sign xs h, from)
    where
      from : Nullable ReadsLead CallsLead rules (block label (Plus sign) xs) → OneNullable ReadsLead CallsLead rules xs
      from (a_plus name s ys one) = one

  -- the body of a loop
  pub body_parts : (xs : Alternatives Lead) → OneNullable ReadsLead CallsLead rules xs ↔ DerivesOne ReadsLead CallsLead rules xs []
  body_parts xs = (λ h. one_derives_nothing ReadsLead CallsLead rules h, λ d. one_is_nullable ReadsLead CallsLead rules d refl)

  -- atoms
  pub empty_lead_null : Nullable ReadsLead CallsLead rules (atom Empty)
  empty_lead_null = an_atom Empty refl

  pub symbol_not_null : Nullable ReadsLead CallsLead rules (atom Symbol) → ⊥
  symbol_not_null (an_atom a reads) = let n : ⊥ = cc (reads.1) in n
  symbol_not_null (a_call a rule xs calls at one) = calls

  pub call_parts : (rule : ℕ) → IsNullableRule rules rule ↔ Nullable ReadsLead CallsLead rules (atom (Call rule))
  call_parts rule = (λ h. a_call (Call rule) rule h.0 refl h.1 h.2, from)
    where
      from : Nullable ReadsLead CallsLead rules (atom (Call rule)) → IsNullableRule rules rule
      from (an_atom a reads) = absurd reads
      from (a_call a k xs calls at one) = (xs, ap (slice_get rules) (sym calls) ∙ at, one)
