-- What is found of loops, by what elements are made of.
use Rattle.std.proofs.Common.{◌≡◌, ◌↔◌, ℕ, ◌+◌, ◌≤◌, ◌⊎◌, inl, inr, List, [], length, drop, Bool, true, false, ◌||◌, ◌&&◌, IsTrue, Option, Some, refl, sym, ap, subst}
use Rattle.std.specs.List.{slice_get}
use Rattle.std.proofs.lemmas.List.{drop_all}
use Rattle.g4_source.specs.declared.name.Label.{Label}
use Rattle.g4_source.specs.declared.element.Suffix.{Suffix}
use Rattle.g4_source.specs.declared.element.Repeat.TheVariants.{Once, Optional, Star, Plus}
use Rattle.g4_source.specs.Elements.{Element, atom, block, Elements, empty, then, Alternatives, none, or, either}
use Rattle.g4_source.specs.Trees.{in_order}
use Rattle.g4_grammar.specs.Derives.{DerivesOne}
use Rattle.g4_grammar.specs.LeftCalls.{Nullable, an_optional, a_star, AllNullable, nothing, OneNullable}
use Rattle.g4_grammar.specs.Loops.{HasEmptyLoop, OneHasEmptyLoop, SomeHasEmptyLoop}
use Rattle.g4_recursion.specs.declared.lead.Lead.{Lead}
use Rattle.g4_recursion.specs.declared.loops.Found.{Found}
use Rattle.g4_recursion.specs.Leads.{ReadsLead, CallsLead}
use Rattle.g4_recursion.specs.Finds.{TellsLoops}
use Rattle.g4_recursion.proofs.Parts.{one_parts, not_one_of_none, all_parts, once_parts, plus_parts, body_parts}
use Rattle.g4_recursion.proofs.Steps.{drop_at, or_tells, or_more, and_more}

-- both ways, one after the other
both : (X Y Z : Type 0) → (X ↔ Y) → (Y ↔ Z) → X ↔ Z
both X Y Z f g = (λ x. g.0 (f.0 x), λ z. f.1 (g.1 z))

module _ (rules : List (Alternatives Lead)) where
  -- What is found of an element, of elements one after another, and of alternatives.
  abbrev pub TellsElement : Found → Element Lead → Type 0
  TellsElement found x = TellsLoops found (Nullable ReadsLead CallsLead rules x) (HasEmptyLoop ReadsLead CallsLead rules x)

  abbrev pub TellsAll : Found → Elements Lead → Type 0
  TellsAll found xs = TellsLoops found (AllNullable ReadsLead CallsLead rules xs) (OneHasEmptyLoop ReadsLead CallsLead rules xs)

  abbrev pub TellsOne : Found → Alternatives Lead → Type 0
  TellsOne found xs = TellsLoops found (OneNullable ReadsLead CallsLead rules xs) (SomeHasEmptyLoop ReadsLead CallsLead rules xs)

  -- an atom
  pub atom_told : (a : Lead) (found : Found) → (IsTrue found.nullable ↔ Nullable ReadsLead CallsLead rules (atom a))
      → found.looped ≡ false → TellsElement found (atom a)
  atom_told a found is not_looped = record { nullable = is; looped = (λ h. absurd (cc), λ l. absurd l) }

  -- a block that is taken once
  pub once_told : (label : Option Label) (xs : Alternatives Lead) (body : Found) → TellsOne body xs
      → TellsElement body (block label Once xs)
  once_told label xs body t = record {
    nullable = both (IsTrue body.nullable) (OneNullable ReadsLead CallsLead rules xs)
        (Nullable ReadsLead CallsLead rules (block label Once xs)) t.nullable (once_parts rules label xs);
    looped = t.looped;
  }

  -- a block that may be left out
  pub optional_told : (label : Option Label) (sign : Suffix) (xs : Alternatives Lead) (body : Found) → TellsOne body xs
      → TellsElement (record { nullable = true; looped = body.looped }) (block label (Optional sign) xs)
  optional_told label sign xs body t = record {
    nullable = (λ h. an_optional label sign xs, λ n. refl);
    looped = t.looped;
  }

  loop_told : (xs : Alternatives Lead) (body : Found) (loops : Bool) → TellsOne body xs → loops ≡ (body.nullable || body.looped)
      → IsTrue loops ↔ (DerivesOne ReadsLead CallsLead rules xs [] ⊎ SomeHasEmptyLoop ReadsLead CallsLead rules xs)
  loop_told xs body loops t is =
      or_tells (DerivesOne ReadsLead CallsLead rules xs []) (SomeHasEmptyLoop ReadsLead CallsLead rules xs) loops body.nullable
      body.looped is
      (both (IsTrue body.nullable) (OneNullable ReadsLead CallsLead rules xs) (DerivesOne ReadsLead CallsLead rules xs []) t.nullable
      (body_parts rules xs)) t.looped

  -- a star
  pub star_told : (label : Option Label) (sign : Suffix) (xs : Alternatives Lead) (body : Found) (loops : Bool) → TellsOne body xs
      → loops ≡ (body.nullable || body.looped) → TellsElement (record { nullable = true; looped = loops }) (block label (Star sign) xs)
  star_told label sign xs body loops t is = record {
    nullable = (λ h. a_star label sign xs, λ n. refl);
    looped = loop_told xs body loops t is;
  }

  -- a plus
  pub plus_told : (label : Option Label) (sign : Suffix) (xs : Alternatives Lead) (body : Found) (loops : Bool) → TellsOne body xs
      → loops ≡ (body.nullable || body.looped) → TellsElement (record { nullable = body.nullable; looped = loops })
      (block label (Plus sign) xs)
  plus_told label sign xs body loops t is = record {
    nullable = both (IsTrue body.nullable) (OneNullable ReadsLead CallsLead rules xs)
        (Nullable ReadsLead CallsLead rules (block label (Plus sign) xs)) t.nullable (plus_parts rules label sign xs);
    looped = loop_told xs body loops t is;
  }

  -- What is found of the alternatives before an index, and what the rest adds to it, is what all of them are.
  pub record EitherLeft (xs : List (Elements Lead)) (found : Found) (i : ℕ) : Type 0 where
    pub nullable : (IsTrue found.nullable ⊎ OneNullable ReadsLead CallsLead rules (either (drop i xs)))
        ↔ OneNullable ReadsLead CallsLead rules (either xs)
    pub looped : (IsTrue found.looped ⊎ SomeHasEmptyLoop ReadsLead CallsLead rules (either (drop i xs)))
        ↔ SomeHasEmptyLoop ReadsLead CallsLead rules (either xs)

  pub either_start : (xs : List (Elements Lead)) → EitherLeft xs (record { nullable = false; looped = false }) 0
  either_start xs = record {
    nullable = (λ h. elim h [ inl e ↦ absurd (cc) | inr d ↦ d ], λ d. inr d);
    looped = (λ h. elim h [ inl e ↦ absurd (cc) | inr d ↦ d ], λ d. inr d);
  }

  pub either_step : (xs : List (Elements Lead)) (i : ℕ) (x : Elements Lead) (found next new : Found) → slice_get xs i ≡ Some x
      → TellsAll next x → new.nullable ≡ (found.nullable || next.nullable) → new.looped ≡ (found.looped || next.looped)
      → EitherLeft xs found i → EitherLeft xs new (i + 1)
  either_step xs i x found next new at t nullable_is looped_is w =
      let rest : Alternatives Lead = either (drop (i + 1) xs) in
      let split : either (drop i xs) ≡ or x rest = ap either (drop_at xs i x at) in
      record {
        nullable = or_more (AllNullable ReadsLead CallsLead rules x) (OneNullable ReadsLead CallsLead rules (or x rest))
            (OneNullable ReadsLead CallsLead rules rest) (OneNullable ReadsLead CallsLead rules (either xs))
            new.nullable found.nullable next.nullable nullable_is t.nullable (one_parts rules x rest)
            (subst (λ (ys : Alternatives Lead). (IsTrue found.nullable ⊎ OneNullable ReadsLead CallsLead rules ys)
            ↔ OneNullable ReadsLead CallsLead rules (either xs)) split w.nullable);
        looped = or_more (OneHasEmptyLoop ReadsLead CallsLead rules x) (SomeHasEmptyLoop ReadsLead CallsLead rules (or x rest))
            (SomeHasEmptyLoop ReadsLead CallsLead rules rest) (SomeHasEmptyLoop ReadsLead CallsLead rules (either xs))
            new.looped found.looped next.looped looped_is t.looped (λ h. h, λ h. h)
            (subst (λ (ys : Alternatives Lead). (IsTrue found.looped ⊎ SomeHasEmptyLoop ReadsLead CallsLead rules ys)
            ↔ SomeHasEmptyLoop ReadsLead CallsLead rules (either xs)) split w.looped);
      }

  pub either_end : (xs : List (Elements Lead)) (i : ℕ) (found : Found) → length xs ≤ i → EitherLeft xs found i → TellsOne found (either xs)
  either_end xs i found past w =
      let last : either (drop i xs) ≡ none = ap either (drop_all i xs past) in
      record {
        nullable = (
          λ h. w.nullable.0 (inl h),
          λ d.
              elim (w.nullable.1 d) [
                | inl e ↦ e
                | inr n ↦ absurd
                    (not_one_of_none rules (subst (OneNullable ReadsLead CallsLead rules) last n))
              ],
        );
        looped = (
          λ h. w.looped.0 (inl h),
          λ d. elim (w.looped.1 d)
              [ inl e ↦ e | inr n ↦ absurd (subst (SomeHasEmptyLoop ReadsLead CallsLead rules) last n) ],
        );
      }

  -- the same of elements one after another
  pub record InOrderLeft (xs : List (Element Lead)) (found : Found) (i : ℕ) : Type 0 where
    pub nullable : (IsTrue found.nullable × AllNullable ReadsLead CallsLead rules (in_order (drop i xs)))
        ↔ AllNullable ReadsLead CallsLead rules (in_order xs)
    pub looped : (IsTrue found.looped ⊎ OneHasEmptyLoop ReadsLead CallsLead rules (in_order (drop i xs)))
        ↔ OneHasEmptyLoop ReadsLead CallsLead rules (in_order xs)

  pub in_order_start : (xs : List (Element Lead)) → InOrderLeft xs (record { nullable = true; looped = false }) 0
  in_order_start xs = record {
    nullable = (λ h. h.1, λ d. (refl, d));
    looped = (λ h. elim h [ inl e ↦ absurd (cc) | inr d ↦ d ], λ d. inr d);
  }

  pub in_order_step : (xs : List (Element Lead)) (i : ℕ) (x : Element Lead) (found next new : Found) → slice_get xs i ≡ Some x
      → TellsElement next x → new.nullable ≡ (found.nullable && next.nullable) → new.looped ≡ (found.looped || next.looped)
      → InOrderLeft xs found i → InOrderLeft xs new (i + 1)
  in_order_step xs i x found next new at t nullable_is looped_is w =
      let rest : Elements Lead = in_order (drop (i + 1) xs) in
      let split : in_order (drop i xs) ≡ then x rest = ap in_order (drop_at xs i x at) in
      record {
        nullable = and_more (Nullable ReadsLead CallsLead rules x) (AllNullable ReadsLead CallsLead rules (then x rest))
            (AllNullable ReadsLead CallsLead rules rest) (AllNullable ReadsLead CallsLead rules (in_order xs))
            new.nullable found.nullable next.nullable nullable_is t.nullable (all_parts rules x rest)
            (subst (λ (ys : Elements Lead). (IsTrue found.nullable × AllNullable ReadsLead CallsLead rules ys)
            ↔ AllNullable ReadsLead CallsLead rules (in_order xs)) split w.nullable);
        looped = or_more (HasEmptyLoop ReadsLead CallsLead rules x) (OneHasEmptyLoop ReadsLead CallsLead rules (then x rest))
            (OneHasEmptyLoop ReadsLead CallsLead rules rest) (OneHasEmptyLoop ReadsLead CallsLead rules (in_order xs))
            new.looped found.looped next.looped looped_is t.looped (λ h. h, λ h. h)
            (subst (λ (ys : Elements Lead). (IsTrue found.looped ⊎ OneHasEmptyLoop ReadsLead CallsLead rules ys)
            ↔ OneHasEmptyLoop ReadsLead CallsLead rules (in_order xs)) split w.looped);
      }

  pub in_order_end : (xs : List (Element Lead)) (i : ℕ) (found : Found) → length xs ≤ i → InOrderLeft xs found i
      → TellsAll found (in_order xs)
  in_order_end xs i found past w =
      let last : in_order (drop i xs) ≡ empty = ap in_order (drop_all i xs past) in
      record {
        nullable = (λ h. w.nullable.0 (h, subst (AllNullable ReadsLead CallsLead rules) (sym last) nothing), λ d. (w.nullable.1 d).0);
        looped = (
          λ h. w.looped.0 (inl h),
          λ d. elim (w.looped.1 d)
              [ inl e ↦ e | inr n ↦ absurd (subst (OneHasEmptyLoop ReadsLead CallsLead rules) last n) ],
        );
      }

  -- no alternative before an index has such a loop: all have one where the rest has
  abbrev pub NoneBefore : List (Elements Lead) → ℕ → Type 0
  NoneBefore xs i = SomeHasEmptyLoop ReadsLead CallsLead rules (either xs) ↔ SomeHasEmptyLoop ReadsLead CallsLead rules (either (drop i xs))

  -- an alternative has such a loop
  pub loop_found : (xs : List (Elements Lead)) (i : ℕ) (x : Elements Lead) → slice_get xs i ≡ Some x
      → OneHasEmptyLoop ReadsLead CallsLead rules x → NoneBefore xs i → SomeHasEmptyLoop ReadsLead CallsLead rules (either xs)
  loop_found xs i x at looped w = w.1 (subst (λ (ys : List (Elements Lead)). SomeHasEmptyLoop ReadsLead CallsLead rules (either ys))
      (sym (drop_at xs i x at)) (inl looped))

  -- an alternative has not
  pub no_loop_found : (xs : List (Elements Lead)) (i : ℕ) (x : Elements Lead) → slice_get xs i ≡ Some x
      → (OneHasEmptyLoop ReadsLead CallsLead rules x → ⊥) → NoneBefore xs i → NoneBefore xs (i + 1)
  no_loop_found xs i x at not_looped w = (
    λ h. elim (subst (λ (ys : List (Elements Lead)). SomeHasEmptyLoop ReadsLead CallsLead rules (either ys)) (drop_at xs i x at)
        (w.0 h)) [ inl this ↦ absurd (not_looped this) | inr rest ↦ rest ],
    λ h. w.1 (subst (λ (ys : List (Elements Lead)). SomeHasEmptyLoop ReadsLead CallsLead rules (either ys)) (sym (drop_at xs i x at))
        (inr h)),
  )

  -- none has
  pub no_loops : (xs : List (Elements Lead)) (i : ℕ) → length xs ≤ i → NoneBefore xs i
      → SomeHasEmptyLoop ReadsLead CallsLead rules (either xs) → ⊥
  no_loops xs i past w h = subst (λ (ys : List (Elements Lead)). SomeHasEmptyLoop ReadsLead CallsLead rules (either ys))
      (drop_all i xs past) (w.0 h)
