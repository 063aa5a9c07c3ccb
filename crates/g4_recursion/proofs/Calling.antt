-- The left calls that are found, by what elements are made of.
use Rattle.std.proofs.Common.{◌≡◌, ◌↔◌, ℕ, ◌+◌, ◌≤◌, ◌⊎◌, inl, inr, List, [], ◌∷◌, ◌++◌, length, drop, Bool, true, false, ◌||◌, IsTrue, Option, Some, refl, sym, ap, subst}
use Rattle.std.specs.List.{slice_get, Contains}
use Rattle.std.proofs.lemmas.List.{drop_all}
use Rattle.std.proofs.lemmas.List.Elements.{Contains-push, Contains-push_cases, Contains-append_left}
use Rattle.g4_source.specs.declared.name.Label.{Label}
use Rattle.g4_source.specs.declared.element.Repeat.{Repeat}
use Rattle.g4_source.specs.Elements.{Element, atom, block, Elements, empty, then, Alternatives, none, or, either}
use Rattle.g4_source.specs.Trees.{in_order}
use Rattle.g4_grammar.specs.LeftCalls.{Nullable, AllNullable, nothing, OneNullable, IsLeftOf, IsLeftOfAll, IsLeftOfOne}
use Rattle.g4_recursion.specs.declared.lead.Lead.{Lead}
use Rattle.g4_recursion.specs.declared.lead.Lead.TheVariants.{Call}
use Rattle.g4_recursion.specs.Leads.{ReadsLead, CallsLead}
use Rattle.g4_recursion.specs.Finds.{TellsCalls}
use Rattle.g4_recursion.proofs.Parts.{one_parts, not_one_of_none, all_parts}
use Rattle.g4_recursion.proofs.Steps.{drop_at, or_more}

-- one more alternative: its calls are added to those of before
pub calls_more : (Later Now One Rest : Type 0) → (Later ↔ (Now ⊎ One)) → (Later ⊎ Rest) ↔ (Now ⊎ (One ⊎ Rest))
calls_more Later Now One Rest one = (to, from)
  where
    to : Later ⊎ Rest → Now ⊎ (One ⊎ Rest)
    to (inl h) = elim (one.0 h) [ inl old ↦ inl old | inr new ↦ inr (inl new) ]
    to (inr r) = inr (inr r)

    from : Now ⊎ (One ⊎ Rest) → Later ⊎ Rest
    from (inl old) = inl (one.1 (inl old))
    from (inr (inl new)) = inl (one.1 (inr new))
    from (inr (inr r)) = inr r

module _ (rules : List (Alternatives Lead)) where
  -- What is found of an element, of elements one after another, and of alternatives, and the calls from before and after.
  abbrev pub CallsElement : Bool → List ℕ → List ℕ → Element Lead → Type 0
  CallsElement answer before after x = TellsCalls answer before after (Nullable ReadsLead CallsLead rules x)
      (IsLeftOf ReadsLead CallsLead rules x)

  abbrev pub CallsAll : Bool → List ℕ → List ℕ → Elements Lead → Type 0
  CallsAll answer before after xs = TellsCalls answer before after (AllNullable ReadsLead CallsLead rules xs)
      (IsLeftOfAll ReadsLead CallsLead rules xs)

  abbrev pub CallsOne : Bool → List ℕ → List ℕ → Alternatives Lead → Type 0
  CallsOne answer before after xs = TellsCalls answer before after (OneNullable ReadsLead CallsLead rules xs)
      (IsLeftOfOne ReadsLead CallsLead rules xs)

  -- an atom that calls no rule
  pub quiet_lead : (a : Lead) (answer : Bool) (before : List ℕ) → ((j : ℕ) → CallsLead a j → ⊥)
      → (IsTrue answer ↔ Nullable ReadsLead CallsLead rules (atom a)) → CallsElement answer before before (atom a)
  quiet_lead a answer before quiet is = record
      { nullable = is; calls = λ j. (λ h. inl h, λ h. elim h [ inl old ↦ old | inr called ↦ absurd (quiet j called) ]) }

  -- a call
  pub calling_lead : (rule : ℕ) (answer : Bool) (before after : List ℕ) → after ≡ before ++ rule ∷ []
      → (IsTrue answer ↔ Nullable ReadsLead CallsLead rules (atom (Call rule))) → CallsElement answer before after (atom (Call rule))
  calling_lead rule answer before after pushed is = record { nullable = is; calls = λ j. (to j, from j) }
    where
      to : (j : ℕ) → Contains after j → Contains before j ⊎ (j ≡ rule)
      to j h = elim (Contains-push_cases before rule j (subst (λ (l : List ℕ). Contains l j) pushed h))
          [ inl old ↦ inl old | inr new ↦ inr (sym new) ]

      from : (j : ℕ) → Contains before j ⊎ (j ≡ rule) → Contains after j
      from j (inl old) = subst (λ (l : List ℕ). Contains l j) (sym pushed) (Contains-append_left before (rule ∷ []) j old)
      from j (inr new) = subst (λ (l : List ℕ). Contains l j) (sym pushed)
          (subst (Contains (before ++ rule ∷ [])) (sym new) (Contains-push before rule))

  -- What is found of the alternatives before an index, and what the rest adds to it, is what all of them are.
  pub record CallsLeft (xs : List (Elements Lead)) (found : Bool) (before now : List ℕ) (i : ℕ) : Type 0 where
    pub nullable : (IsTrue found ⊎ OneNullable ReadsLead CallsLead rules (either (drop i xs)))
        ↔ OneNullable ReadsLead CallsLead rules (either xs)
    pub calls : (j : ℕ) → (Contains now j ⊎ IsLeftOfOne ReadsLead CallsLead rules (either (drop i xs)) j)
        ↔ (Contains before j ⊎ IsLeftOfOne ReadsLead CallsLead rules (either xs) j)

  pub calls_start : (xs : List (Elements Lead)) (before : List ℕ) → CallsLeft xs false before before 0
  calls_start xs before = record {
    nullable = (λ h. elim h [ inl e ↦ absurd (cc) | inr d ↦ d ], λ d. inr d);
    calls = λ j. (λ h. h, λ h. h);
  }

  pub calls_step : (xs : List (Elements Lead)) (i : ℕ) (x : Elements Lead) (found one new : Bool) (before now later : List ℕ)
      → slice_get xs i ≡ Some x → CallsAll one now later x → new ≡ (found || one) → CallsLeft xs found before now i
      → CallsLeft xs new before later (i + 1)
  calls_step xs i x found one new before now later at t is w =
      let rest : Alternatives Lead = either (drop (i + 1) xs) in
      let split : either (drop i xs) ≡ or x rest = ap either (drop_at xs i x at) in
      record {
        nullable = or_more (AllNullable ReadsLead CallsLead rules x) (OneNullable ReadsLead CallsLead rules (or x rest))
            (OneNullable ReadsLead CallsLead rules rest) (OneNullable ReadsLead CallsLead rules (either xs))
            new found one is t.nullable (one_parts rules x rest)
            (subst (λ (ys : Alternatives Lead). (IsTrue found ⊎ OneNullable ReadsLead CallsLead rules ys)
            ↔ OneNullable ReadsLead CallsLead rules (either xs)) split w.nullable);
        calls = λ j.
            let more = calls_more (Contains later j) (Contains now j) (IsLeftOfAll ReadsLead CallsLead rules x j)
            (IsLeftOfOne ReadsLead CallsLead rules rest j) (t.calls j) in
            let so_far : (Contains now j ⊎ IsLeftOfOne ReadsLead CallsLead rules (or x rest) j)
            ↔ (Contains before j ⊎ IsLeftOfOne ReadsLead CallsLead rules (either xs) j) =
            subst (λ (ys : Alternatives Lead). (Contains now j ⊎ IsLeftOfOne ReadsLead CallsLead rules ys j)
            ↔ (Contains before j ⊎ IsLeftOfOne ReadsLead CallsLead rules (either xs) j)) split (w.calls j) in
            (λ h. so_far.0 (more.0 h), λ h. more.1 (so_far.1 h));
      }

  pub calls_end : (xs : List (Elements Lead)) (i : ℕ) (found : Bool) (before now : List ℕ) → length xs ≤ i
      → CallsLeft xs found before now i → CallsOne found before now (either xs)
  calls_end xs i found before now past w =
      let last : either (drop i xs) ≡ none = ap either (drop_all i xs past) in
      record {
        nullable = (
          λ h. w.nullable.0 (inl h),
          λ d.
              elim (w.nullable.1 d) [
                | inl e ↦ e
                | inr n ↦ absurd
                    (not_one_of_none rules (subst (OneNullable ReadsLead CallsLead rules) last n))
              ],
        );
        calls = λ j. (
          λ h. (w.calls j).0 (inl h),
          λ h. elim ((w.calls j).1 h) [
            | inl old ↦ old
            | inr n ↦ absurd
                (subst (λ (ys : Alternatives Lead). IsLeftOfOne ReadsLead CallsLead rules ys j) last n)
          ],
        );
      }

  -- The elements before an index derive the empty word: what the rest adds to the calls is what all of them have.
  pub record CallsPassed (xs : List (Element Lead)) (before now : List ℕ) (i : ℕ) : Type 0 where
    pub nullable : AllNullable ReadsLead CallsLead rules (in_order (drop i xs)) ↔ AllNullable ReadsLead CallsLead rules (in_order xs)
    pub calls : (j : ℕ) → (Contains now j ⊎ IsLeftOfAll ReadsLead CallsLead rules (in_order (drop i xs)) j)
        ↔ (Contains before j ⊎ IsLeftOfAll ReadsLead CallsLead rules (in_order xs) j)

  pub passed_start : (xs : List (Element Lead)) (before : List ℕ) → CallsPassed xs before before 0
  passed_start xs before = record { nullable = (λ h. h, λ h. h); calls = λ j. (λ h. h, λ h. h) }

  module _ (xs : List (Element Lead)) (i : ℕ) (x : Element Lead) (answer : Bool) (before now later : List ℕ)
      (at : slice_get xs i ≡ Some x) (t : CallsElement answer now later x) (w : CallsPassed xs before now i) where
    abbrev rest : Elements Lead
    rest = in_order (drop (i + 1) xs)

    split : in_order (drop i xs) ≡ then x rest
    split = ap in_order (drop_at xs i x at)

    all_of : AllNullable ReadsLead CallsLead rules (then x rest) ↔ AllNullable ReadsLead CallsLead rules (in_order xs)
    all_of = subst (λ (ys : Elements Lead). AllNullable ReadsLead CallsLead rules ys
        ↔ AllNullable ReadsLead CallsLead rules (in_order xs)) split w.nullable

    calls_of : (j : ℕ) → (Contains now j ⊎ IsLeftOfAll ReadsLead CallsLead rules (then x rest) j)
        ↔ (Contains before j ⊎ IsLeftOfAll ReadsLead CallsLead rules (in_order xs) j)
    calls_of j = subst (λ (ys : Elements Lead). (Contains now j ⊎ IsLeftOfAll ReadsLead CallsLead rules ys j)
        ↔ (Contains before j ⊎ IsLeftOfAll ReadsLead CallsLead rules (in_order xs) j)) split (w.calls j)

    -- one more element, which derives the empty word
    pub passed_step : answer ≡ true → CallsPassed xs before later (i + 1)
    passed_step holds =
        let null : Nullable ReadsLead CallsLead rules x = t.nullable.0 holds in
        record {
          nullable = (λ h. all_of.0 ((all_parts rules x rest).1 (null, h)), λ h. ((all_parts rules x rest).0 (all_of.1 h)).1);
          calls = λ j. (
            λ h. (calls_of j).0 (elim h [
              | inl made ↦ elim ((t.calls j).0 made) [ inl old ↦ inl old | inr this ↦ inr (inl this) ]
              | inr more ↦ inr (inr (null, more))
            ]),
            λ h. elim ((calls_of j).1 h) [
              | inl old ↦ inl ((t.calls j).1 (inl old))
              | inr left ↦ elim left [ inl this ↦ inl ((t.calls j).1 (inr this)) | inr more ↦ inr more.1 ]
            ],
          );
        }

    -- an element that does not derive it is the last one
    pub passed_stop : answer ≡ false → CallsAll false before later (in_order xs)
    passed_stop not_null =
        let never : Nullable ReadsLead CallsLead rules x → ⊥ = λ n. let holds : answer ≡ true = t.nullable.1 n in
        let wrong : ⊥ = cc in wrong in
        record {
          nullable = (λ h. absurd (cc), λ h. absurd (never ((all_parts rules x rest).0 (all_of.1 h)).0));
          calls = λ j. (
            λ h. (calls_of j).0 (elim ((t.calls j).0 h) [ inl old ↦ inl old | inr this ↦ inr (inl this) ]),
            λ h. elim ((calls_of j).1 h) [
              | inl old ↦ (t.calls j).1 (inl old)
              | inr left ↦ elim left [ inl this ↦ (t.calls j).1 (inr this) | inr more ↦ absurd (never more.0) ]
            ],
          );
        }

  pub passed_end : (xs : List (Element Lead)) (i : ℕ) (before now : List ℕ) → length xs ≤ i → CallsPassed xs before now i
      → CallsAll true before now (in_order xs)
  passed_end xs i before now past w =
      let last : in_order (drop i xs) ≡ empty = ap in_order (drop_all i xs past) in
      record {
        nullable = (λ h. w.nullable.0 (subst (AllNullable ReadsLead CallsLead rules) (sym last) nothing), λ h. refl);
        calls = λ j. (
          λ h. (w.calls j).0 (inl h),
          λ h. elim ((w.calls j).1 h) [
            | inl old ↦ old
            | inr n ↦ absurd
                (subst (λ (ys : Elements Lead). IsLeftOfAll ReadsLead CallsLead rules ys j) last n)
          ],
        );
      }

  -- a block has the left calls of its alternatives
  pub block_calls : (label : Option Label) (repeat : Repeat) (xs : Alternatives Lead) (body answer : Bool) (before after : List ℕ)
      → CallsOne body before after xs → (IsTrue answer ↔ Nullable ReadsLead CallsLead rules (block label repeat xs))
      → CallsElement answer before after (block label repeat xs)
  block_calls label repeat xs body answer before after one is = record { nullable = is; calls = one.calls }
