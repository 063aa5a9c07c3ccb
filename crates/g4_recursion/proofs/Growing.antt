-- Each step adds bodies and clauses, and keeps what is known.
use Rattle.std.proofs.Common.{◌≡◌, ℕ, ◌+◌, ◌<◌, ◌≤◌, ◌⊎◌, inl, inr, List, [], ◌∷◌, ◌++◌, length, take, zero, suc, Bool, true, false, Option, Some, Vec, refl, sym, ap, ◌∙◌, subst, append_assoc, arith}
use Rattle.std.specs.Global.{Global}
use Rattle.std.specs.List.{slice_get, All, Contains}
use Rattle.std.proofs.lemmas.List.{append-nil, length-append}
use Rattle.std.proofs.lemmas.List.Elements.{All-nil, All-push, All-weaker, Contains-push, Contains-append_left}
use Rattle.std.proofs.lemmas.Option.{same_Some, slice_get_within, slice_get_cases}
use Rattle.g4_source.specs.declared.name.Label.{Label}
use Rattle.g4_source.specs.declared.element.Suffix.{Suffix}
use Rattle.g4_source.specs.declared.element.Repeat.{Repeat}
use Rattle.g4_source.specs.declared.element.Repeat.TheVariants.{Once, Optional, Star, Plus}
use Rattle.g4_source.specs.Elements.{Element, atom, block, Elements, empty, then, Alternatives, either}
use Rattle.g4_source.specs.Trees.{in_order}
use Rattle.g4_grammar.specs.LeftCalls.{Nullable, AllNullable}
use Rattle.g4_horn.specs.declared.clause.Clause.{Clause}
use Rattle.g4_recursion.specs.declared.lead.Lead.{Lead}
use Rattle.g4_recursion.specs.declared.lead.Lead.TheVariants.{Empty, Symbol, Call}
use Rattle.g4_recursion.specs.declared.clauses.Bodies.{Bodies}
use Rattle.g4_recursion.specs.Leads.{ReadsLead, CallsLead}
use Rattle.g4_recursion.specs.Bodies.{IsAlternative, HasNeeds, HaveNeeds, IsOfBody, HasClause, IsCovered, AreCovered, AreBodies, AddsNeeds, Grows}
use Rattle.g4_recursion.proofs.Parts.{symbol_not_null, call_parts}
use Rattle.g4_recursion.proofs.Trees.{take_at, alternative_cases}

module _ (rules bodies later : List (Alternatives Lead))
    (kept : (k : ℕ) (xs : Alternatives Lead) → slice_get bodies k ≡ Some xs → slice_get later k ≡ Some xs) where
  -- needs are needs among more bodies
  need_kept : (x : Element Lead) (ns : List ℕ) → HasNeeds rules bodies x ns → HasNeeds rules later x ns
  need_kept (atom Empty) ns h = h
  need_kept (atom Symbol) ns h = h
  need_kept (atom (Call rule)) ns h = h
  need_kept (block label Once xs) ns (n, is, at) = (n, is, kept n xs at)
  need_kept (block label (Optional sign) xs) ns h = h
  need_kept (block label (Star sign) xs) ns h = h
  need_kept (block label (Plus sign) xs) ns (n, is, at) = (n, is, kept n xs at)

  pub needs_kept : (x : Elements Lead) (ns : List ℕ) → HaveNeeds rules bodies x ns → HaveNeeds rules later x ns
  needs_kept empty ns h = h
  needs_kept (then x xs) ns (us, vs, is, h, hs) = (us, vs, is, need_kept x us h, needs_kept xs vs hs)

  -- a clause of a body
  of_body_kept : (clause : Clause) → IsOfBody rules bodies clause → IsOfBody rules later clause
  of_body_kept clause b = record {
    body = b.body;
    at = kept clause.head b.body b.at;
    alternative = b.alternative;
    among = b.among;
    needs = needs_kept b.alternative clause.needs.items b.needs;
  }

  -- a clause of an alternative
  pub has_kept : (clauses more : List Clause) → ((c : Clause) → Contains clauses c → Contains more c) → (n : ℕ) (x : Elements Lead)
      → HasClause rules bodies clauses n x → HasClause rules later more n x
  has_kept clauses more on n x h = record {
    clause = h.clause;
    among = on h.clause h.among;
    head = h.head;
    needs = needs_kept x h.clause.needs.items h.needs;
  }

  -- the clauses of a body
  pub covered_kept : (clauses more : List Clause) → ((c : Clause) → Contains clauses c → Contains more c)
      → (n : ℕ) (xs : Alternatives Lead) → IsCovered rules bodies clauses n xs → IsCovered rules later more n xs
  covered_kept clauses more on n xs h x among all = has_kept clauses more on n x (h x among all)

-- the needs of one more element
pub needs_push : (rules bodies : List (Alternatives Lead)) (xs : List (Element Lead)) (x : Element Lead) (ns us : List ℕ)
    → HaveNeeds rules bodies (in_order xs) ns → HasNeeds rules bodies x us → HaveNeeds rules bodies (in_order (xs ++ x ∷ [])) (ns ++ us)
needs_push rules bodies [] x ns us h need = (us, [], ap (λ (l : List ℕ). l ++ us) h ∙ sym (append-nil us), need, refl)
needs_push rules bodies (y ∷ xs) x ns us (ws, vs, is, h, hs) need =
    (ws, vs ++ us, ap (λ (l : List ℕ). l ++ us) is ∙ append_assoc ws vs us, h, needs_push rules bodies xs x vs us hs need)

-- no more bodies and clauses
pub grows_none : (rules bodies : List (Alternatives Lead)) (made : Bodies) → AreBodies rules bodies made
    → Grows rules bodies bodies made made
grows_none rules bodies made are = record {
  are_bodies = are;
  bodies_kept = λ k xs at. at;
  clauses_kept = λ c h. h;
  covered = λ k xs at past. absurd (omega (arith, past, slice_get_within bodies k xs at));
}

-- more, and then more
pub grows_more : (rules bodies mid later : List (Alternatives Lead)) (a b c : Bodies) → Grows rules bodies mid a b
    → Grows rules mid later b c → Grows rules bodies later a c
grows_more rules bodies mid later a b c g h = record {
  are_bodies = h.are_bodies;
  bodies_kept = λ k xs at. h.bodies_kept k xs (g.bodies_kept k xs at);
  clauses_kept = λ clause has. h.clauses_kept clause (g.clauses_kept clause has);
  covered = λ k xs at past. elim (slice_get_cases mid k).1 [
    | inl some ↦
        let same : some.0 ≡ xs = same_Some some.0 xs (sym (h.bodies_kept k some.0 some.2) ∙ at) in
        subst (IsCovered rules later c.clauses.items k) same
        (covered_kept rules mid later h.bodies_kept b.clauses.items c.clauses.items h.clauses_kept k some.0
        (g.covered k some.0 some.2 past))
    | inr out ↦ h.covered k xs at out.0
  ];
}

-- a call of no rule never derives the empty word
unknown_never : (rules : List (Alternatives Lead)) (rule : ℕ) → length rules ≤ rule
    → Nullable ReadsLead CallsLead rules (atom (Call rule)) → ⊥
unknown_never rules rule past n = let (xs, at, one) = (call_parts rules rule).1 n in omega (arith, past, slice_get_within rules rule xs at)

module _ (rules bodies : List (Alternatives Lead)) (before : List ℕ) where
  -- the needs of an atom
  pub empty_lead : AddsNeeds rules bodies (atom Empty) before before true
  empty_lead = record { added = λ e. ([], sym (append-nil before), refl); never = λ e n. absurd (cc) }

  pub symbol_lead : AddsNeeds rules bodies (atom Symbol) before before false
  symbol_lead = record { added = λ e. absurd (cc); never = λ e n. symbol_not_null rules n }

  pub call_lead : (rule : ℕ) → rule < length rules → AddsNeeds rules bodies (atom (Call rule)) before (before ++ rule ∷ []) true
  call_lead rule within = record { added = λ e. (rule ∷ [], refl, (refl, within)); never = λ e n. absurd (cc) }

  pub unknown_lead : (rule : ℕ) → length rules ≤ rule → AddsNeeds rules bodies (atom (Call rule)) before before false
  unknown_lead rule past = record { added = λ e. absurd (cc); never = λ e n. unknown_never rules rule past n }

  -- the needs of a block
  pub optional_block : (label : Option Label) (sign : Suffix) (xs : Alternatives Lead)
      → AddsNeeds rules bodies (block label (Optional sign) xs) before before true
  optional_block label sign xs = record { added = λ e. ([], sym (append-nil before), refl); never = λ e n. absurd (cc) }

  pub star_block : (label : Option Label) (sign : Suffix) (xs : Alternatives Lead)
      → AddsNeeds rules bodies (block label (Star sign) xs) before before true
  star_block label sign xs = record { added = λ e. ([], sym (append-nil before), refl); never = λ e n. absurd (cc) }

  pub once_block : (label : Option Label) (xs : Alternatives Lead) (n : ℕ) (after : List ℕ) → after ≡ before ++ n ∷ []
      → slice_get bodies n ≡ Some xs → AddsNeeds rules bodies (block label Once xs) before after true
  once_block label xs n after pushed at = record { added = λ e. (n ∷ [], pushed, (n, refl, at)); never = λ e h. absurd (cc) }

  pub plus_block : (label : Option Label) (sign : Suffix) (xs : Alternatives Lead) (n : ℕ) (after : List ℕ) → after ≡ before ++ n ∷ []
      → slice_get bodies n ≡ Some xs → AddsNeeds rules bodies (block label (Plus sign) xs) before after true
  plus_block label sign xs n after pushed at = record { added = λ e. (n ∷ [], pushed, (n, refl, at)); never = λ e h. absurd (cc) }

-- the needs of a block with this repeat
pub so_often : (rules bodies : List (Alternatives Lead)) (before after : List ℕ) (can : Bool) (label : Option Label)
    (repeat r : Repeat) (xs : Alternatives Lead) → repeat ≡ r → AddsNeeds rules bodies (block label r xs) before after can
    → AddsNeeds rules bodies (block label repeat xs) before after can
so_often rules bodies before after can label repeat r xs is adds =
    subst (λ (q : Repeat). AddsNeeds rules bodies (block label q xs) before after can) (sym is) adds

-- the needs of no elements, and of one more
pub needs_none : (rules bodies : List (Alternatives Lead)) (xs : List (Element Lead)) (ns : List ℕ) → ns ≡ []
    → HaveNeeds rules bodies (in_order (take 0 xs)) ns
needs_none rules bodies xs ns is = is

pub needs_more : (rules mid later : List (Alternatives Lead)) (xs : List (Element Lead)) (i : ℕ) (x : Element Lead)
    (ns new us : List ℕ) → ((k : ℕ) (ys : Alternatives Lead) → slice_get mid k ≡ Some ys → slice_get later k ≡ Some ys)
    → slice_get xs i ≡ Some x → HaveNeeds rules mid (in_order (take i xs)) ns → new ≡ ns ++ us → HasNeeds rules later x us →
    HaveNeeds rules later (in_order (take (i + 1) xs)) new
needs_more rules mid later xs i x ns new us kept at so_far added need =
    subst (λ (ys : List (Element Lead)). HaveNeeds rules later (in_order ys) new) (sym (take_at xs i x at))
    (subst (HaveNeeds rules later (in_order (take i xs ++ x ∷ []))) (sym added)
    (needs_push rules later (take i xs) x ns us (needs_kept rules mid later kept (in_order (take i xs)) ns so_far) need))

-- no alternatives have their clauses
pub covered_none : (rules bodies : List (Alternatives Lead)) (clauses : List Clause) (n : ℕ) (xs : List (Elements Lead))
    → IsCovered rules bodies clauses n (either (take 0 xs))
covered_none rules bodies clauses n xs x among all = absurd among

-- a body after others
last_at : (bodies : List (Alternatives Lead)) (xs : Alternatives Lead) → slice_get (bodies ++ xs ∷ []) (length bodies) ≡ Some xs
last_at [] xs = refl
last_at (y ∷ bodies) xs = last_at bodies xs

front_at : (bodies : List (Alternatives Lead)) (xs : Alternatives Lead) (k : ℕ) (ys : Alternatives Lead)
    → slice_get bodies k ≡ Some ys → slice_get (bodies ++ xs ∷ []) k ≡ Some ys
front_at [] xs k ys at = absurd (let n : ⊥ = cc in n)
front_at (y ∷ bodies) xs zero ys at = at
front_at (y ∷ bodies) xs (suc k) ys at = front_at bodies xs k ys at

-- a new body
module _ (rules bodies : List (Alternatives Lead)) (before numbered : Bodies) (n : ℕ) (xs : Alternatives Lead)
    (number : n ≡ before.count) (count : numbered.count ≡ before.count + 1) (same_rules : numbered.rules ≡ before.rules)
    (same_clauses : numbered.clauses ≡ before.clauses) (are : AreBodies rules bodies before) where
  pub are_numbered : AreBodies rules (bodies ++ xs ∷ []) numbered
  are_numbered = record {
    rule_count = same_rules ∙ are.rule_count;
    body_count = omega (arith, count, are.body_count, length-append bodies (xs ∷ []));
    no_fewer = omega (arith, are.no_fewer, length-append bodies (xs ∷ []));
    rules_first = λ k ys at. front_at bodies xs k ys (are.rules_first k ys at);
    of_bodies = subst (All (IsOfBody rules (bodies ++ xs ∷ []))) (ap (λ (v : Vec Clause Global). v.items) (sym same_clauses))
        (All-weaker (IsOfBody rules bodies) (IsOfBody rules (bodies ++ xs ∷ []))
        (of_body_kept rules bodies (bodies ++ xs ∷ []) (front_at bodies xs)) before.clauses.items are.of_bodies);
  }

  pub numbered_at : slice_get (bodies ++ xs ∷ []) n ≡ Some xs
  numbered_at = ap (slice_get (bodies ++ xs ∷ [])) (number ∙ are.body_count) ∙ last_at bodies xs

  pub grows_numbered : (later : List (Alternatives Lead)) (after : Bodies) → Grows rules (bodies ++ xs ∷ []) later numbered after
      → IsCovered rules later after.clauses.items n xs → Grows rules bodies later before after
  grows_numbered later after g covered = record {
    are_bodies = g.are_bodies;
    bodies_kept = λ k ys at. g.bodies_kept k ys (front_at bodies xs k ys at);
    clauses_kept = λ c has. g.clauses_kept c (subst (λ (v : Vec Clause Global). Contains v.items c) (sym same_clauses) has);
    covered = λ k ys at past. elim (let cases : (n ≡ k) ⊎ (length bodies + 1 ≤ k) = grind (arith, past, number, are.body_count) in cases) [
      | inl this ↦
          let same : xs ≡ ys = same_Some xs ys (sym (g.bodies_kept n xs numbered_at) ∙ (ap (slice_get later) this ∙ at)) in
          subst (IsCovered rules later after.clauses.items k) same
          (subst (λ (i : ℕ). IsCovered rules later after.clauses.items i xs) this covered)
      | inr beyond ↦ g.covered k ys at (omega (arith, beyond, length-append bodies (xs ∷ [])))
    ];
  }

-- one more clause
module _ (rules bodies later : List (Alternatives Lead)) (first before after : Bodies) (n : ℕ) (body : Alternatives Lead)
    (x : Elements Lead) (clause : Clause) (g : Grows rules bodies later first before) (at : slice_get bodies n ≡ Some body)
    (among : IsAlternative body x) (head : clause.head ≡ n) (needs : HaveNeeds rules later x clause.needs.items)
    (pushed : after.clauses.items ≡ before.clauses.items ++ clause ∷ []) (same_rules : after.rules ≡ before.rules)
    (same_count : after.count ≡ before.count) where
  on : (c : Clause) → Contains before.clauses.items c → Contains after.clauses.items c
  on c has = subst (λ (cs : List Clause). Contains cs c) (sym pushed) (Contains-append_left before.clauses.items (clause ∷ []) c has)

  pub clause_pushed : Grows rules bodies later first after
  clause_pushed = record {
    are_bodies = record {
      rule_count = same_rules ∙ g.are_bodies.rule_count;
      body_count = same_count ∙ g.are_bodies.body_count;
      no_fewer = g.are_bodies.no_fewer;
      rules_first = g.are_bodies.rules_first;
      of_bodies = subst (All (IsOfBody rules later)) (sym pushed)
          (All-push (IsOfBody rules later) before.clauses.items clause g.are_bodies.of_bodies
          (record {
            body = body;
            at = ap (slice_get later) head ∙ g.bodies_kept n body at;
            alternative = x;
            among = among;
            needs = needs;
          }));
    };
    bodies_kept = g.bodies_kept;
    clauses_kept = λ c has. on c (g.clauses_kept c has);
    covered = λ k xs at past. covered_kept rules later later (λ i ys h. h) before.clauses.items after.clauses.items on k xs
        (g.covered k xs at past);
  }

  pub has_pushed : HasClause rules later after.clauses.items n x
  has_pushed = record {
    clause = clause;
    among =
        subst (λ (cs : List Clause). Contains cs clause) (sym pushed) (Contains-push before.clauses.items clause);
    head = head;
    needs = needs;
  }

-- one more alternative of a body has its clause
pub covered_more : (rules mid later : List (Alternatives Lead)) (before after : Bodies) (n : ℕ) (xs : List (Elements Lead)) (i : ℕ)
    (x : Elements Lead) → Grows rules mid later before after → slice_get xs i ≡ Some x
    → IsCovered rules mid before.clauses.items n (either (take i xs)) →
    (AllNullable ReadsLead CallsLead rules x → HasClause rules later after.clauses.items n x)
    → IsCovered rules later after.clauses.items n (either (take (i + 1) xs))
covered_more rules mid later before after n xs i x g at before_covered this y among all =
    elim (alternative_cases (take i xs) x y (subst (λ (ys : List (Elements Lead)). IsAlternative (either ys) y) (take_at xs i x at)
    among)) [
      | inl early ↦ has_kept rules mid later g.bodies_kept before.clauses.items after.clauses.items g.clauses_kept n y
          (before_covered y early all)
      | inr last ↦ subst (HasClause rules later after.clauses.items n) last
          (this (subst (AllNullable ReadsLead CallsLead rules) (sym last) all))
    ]

-- at first the bodies are the rules
pub rules_are_bodies : (rules : List (Alternatives Lead)) (made : Bodies) → made.rules ≡ length rules → made.count ≡ length rules
    → made.clauses.items ≡ [] → AreBodies rules rules made
rules_are_bodies rules made rule_count body_count none_yet = record {
  rule_count = rule_count;
  body_count = body_count;
  no_fewer = omega arith;
  rules_first = λ k xs at. at;
  of_bodies = subst (All (IsOfBody rules rules)) (sym none_yet) (All-nil (IsOfBody rules rules));
}

-- at last all bodies have their clauses
pub all_covered : (rules later : List (Alternatives Lead)) (first made : Bodies) → Grows rules rules later first made
    → ((k : ℕ) (xs : Alternatives Lead) → k < length rules → slice_get rules k ≡ Some xs
    → IsCovered rules later made.clauses.items k xs) → AreCovered rules later made.clauses.items
all_covered rules later first made g each k xs at = elim (slice_get_cases rules k).1 [
  | inl some ↦
      let same : some.0 ≡ xs = same_Some some.0 xs (sym (g.bodies_kept k some.0 some.2) ∙ at) in
      subst (IsCovered rules later made.clauses.items k) same (each k some.0 some.1 some.2)
  | inr past ↦ g.covered k xs at past.0
]

-- one more rule has its clauses
pub rule_covered : (rules mid later : List (Alternatives Lead)) (before after : Bodies) (i : ℕ) (xs : Alternatives Lead)
    → Grows rules mid later before after → slice_get rules i ≡ Some xs
    → ((k : ℕ) (ys : Alternatives Lead) → k < i → slice_get rules k ≡ Some ys → IsCovered rules mid before.clauses.items k ys) →
    IsCovered rules later after.clauses.items i xs → (k : ℕ) (ys : Alternatives Lead) → k < i + 1 → slice_get rules k ≡ Some ys
    → IsCovered rules later after.clauses.items k ys
rule_covered rules mid later before after i xs g at earlier this k ys less there =
    elim (let cases : (k < i) ⊎ (i ≡ k) = grind arith in cases) [
      | inl early ↦ covered_kept rules mid later g.bodies_kept before.clauses.items after.clauses.items g.clauses_kept k ys
          (earlier k ys early there)
      | inr same ↦
          let one : xs ≡ ys = same_Some xs ys (sym at ∙ (ap (slice_get rules) same ∙ there)) in
          subst (IsCovered rules later after.clauses.items k) one
          (subst (λ (j : ℕ). IsCovered rules later after.clauses.items j xs) same this)
    ]
