-- What is done with a worker's state: at first, after one file more, and after another's pass was met.
use Rattle.std.proofs.Common.{◌≡◌, ◌⊎◌, inl, inr, ℕ, zero, suc, ◌+◌, List, [], ◌∷◌, ◌++◌, Bool, true, false, ◌||◌, if◌then◌else◌, Contains, Some, slice_get, refl, sym, ◌∙◌, ap, subst, arith, true≢false}
use Rattle.std.proofs.lemmas.List.Elements.{Contains-append_cases, Contains-append_left, Contains-append_right}
use Rattle.g4_decide.specs.Asked.{Told}
use Rattle.g4_learned.specs.Tables.{Tables}
use Rattle.g4_net.specs.Configurations.{Config}
use Rattle.g4_outcome.specs.Taught.{HasTaught, IsPassedIn, IsRunOf}
use Rattle.g4_outcome.specs.declared.input.Input.{Input}
use Rattle.g4_store.specs.declared.automaton.Fact.{Fact}
use Rattle.g4_store.specs.declared.automaton.Plan.{Plan}
use Rattle.g4_store.specs.Numbers.{Among, has}
use Rattle.g4_store.specs.Views.{met, no_looks, pass_view}
use Rattle.g4_store.proofs.Lists.{among_either, among_left, among_right, at_insert, at_union, here_insert, left_union, right_union}
use Rattle.g4_pool.specs.Done.{HasDone, IsPassedAt, IsShort}
use Rattle.g4_pool.specs.Files.{Files}

-- a flag is given or not
flag_cases : (b : Bool) → (b ≡ true) ⊎ (b ≡ false)
flag_cases true = inl refl
flag_cases false = inr refl

either_flag : (a b : Bool) → (a || b) ≡ true → (a ≡ true) ⊎ (b ≡ true)
either_flag true b is = inl refl
either_flag false b is = inr is

no_flag : (a b : Bool) → (a || b) ≡ false → (a ≡ false) × (b ≡ false)
no_flag true b is = absurd (true≢false is)
no_flag false b is = (refl, is)

module _ (p : Plan Tables) (files : Files) (jobs : ℕ) where
  abbrev Passed : List ℕ → Fact (List Config) → Type 0
  Passed done = IsPassedAt p.net files done

  -- what is passed by some files is passed by these and others
  left_passed : (done more : List ℕ) (f : Fact (List Config)) → Passed done f → Passed (done ++ more) f
  left_passed done more f h = record {
    number = h.number;
    among = Contains-append_left done more h.number h.among;
    input = h.input;
    given = h.given;
    passed = h.passed;
  }

  right_passed : (done more : List ℕ) (f : Fact (List Config)) → Passed more f → Passed (done ++ more) f
  right_passed done more f h = record {
    number = h.number;
    among = Contains-append_right done more h.number h.among;
    input = h.input;
    given = h.given;
    passed = h.passed;
  }

  either_passed : (done more : List ℕ) (f : Fact (List Config)) → Passed (done ++ more) f → Passed done f ⊎ Passed more f
  either_passed done more f h = elim (Contains-append_cases done more h.number h.among) [
    | inl one ↦ inl (record { number = h.number; among = one; input = h.input; given = h.given; passed = h.passed })
    | inr other ↦ inr (record { number = h.number; among = other; input = h.input; given = h.given; passed = h.passed })
  ]

  -- a want of room stays one, for a pass that knows as much, where as much is passed
  more_short : (One Other : Fact (List Config) → Type 0) (old new : Told) → ((f : Fact (List Config)) → One f → Other f)
      → ((t : ℕ) (y : List Config) → Among (t, y) old.0.known → Among (t, y) new.0.known) → IsShort p One old → IsShort p Other new
  more_short One Other old new more known h = record {
    table = h.table;
    known = λ t y among. known t y (h.known t y among);
    all = h.all;
    row = h.row;
    passed = (h.passed.0, more h.passed.0 h.passed.1, h.passed.2);
    missing = h.missing;
  }

  -- nothing is done with a pass that has seen nothing
  pub none_done : (number count : ℕ) → (number ≡ 0 → count ≡ jobs + 1)
      → HasDone p files jobs (number ∷ []) [] (pass_view [] [] [] (number ∷ []) count no_looks, false)
  none_done number count first = record {
    holds = λ n among. own n (only n among);
    count = λ is. first (zero_is number is);
    passed = record {
      within = λ f seen. absurd seen;
      teaches = λ f taught. absurd taught;
      whole = λ _ f passed. absurd (none passed);
      short = λ is. absurd (true≢false (sym is));
    };
    symbols = λ number among. absurd (none_in number among);
  }
    where
      none_in : (n : ℕ) → Contains [] n → ⊥
      none_in n (k, less, is) = omega (arith, less)

      none : {f : Fact (List Config)} → Passed [] f → ⊥
      none passed = none_in passed.number passed.among

      only : (n : ℕ) → Contains (number ∷ []) n → n ≡ number
      only n (zero, less, is) = sym is
      only n (suc k, less, is) = absurd (omega (arith, less))

      own : (n : ℕ) → n ≡ number → has n (number ∷ []) ≡ true
      own n is = subst (λ (m : ℕ). has m (number ∷ []) ≡ true) (sym is) (here_insert number [])

      zero_is : (m : ℕ) → has 0 (m ∷ []) ≡ true → m ≡ 0
      zero_is m is = elim (at_insert 0 m [] is) [ inl e ↦ sym e | inr none_there ↦ absurd (true≢false (sym none_there)) ]

  -- one file more was parsed
  pub one_done : (numbers done : List ℕ) (number : ℕ) (input : Input) (old new : Told) → HasDone p files jobs numbers done old
      → slice_get files.inputs number ≡ Some input → HasTaught p files.interpreter input old new
      → HasDone p files jobs numbers (done ++ number ∷ []) new
  one_done numbers done number input old new h given taught = record {
    holds = λ n among. subst (λ (ns : List ℕ). has n ns ≡ true) (sym taught.kept.holds) (h.holds n among);
    count = λ is. taught.kept.count ∙ h.count (subst (λ (ns : List ℕ). has 0 ns ≡ true) taught.kept.holds is);
    passed = record {
      within = λ f seen. by (taught.taught.within f seen) (h.passed.within f);
      teaches = λ f seen. by (taught.taught.teaches f seen) (h.passed.teaches f);
      whole = λ not_full f passed. elim (either_passed done (number ∷ []) f passed) [
        | inl before ↦ taught.kept.seen f (h.passed.whole (was_not not_full) f before)
        | inr now ↦ taught.taught.whole not_full f (in_this f now)
      ];
      short = λ full. elim (flag_cases old.1) [
        | inl was ↦ more_short (Passed done) (Passed (done ++ number ∷ [])) old new (left_passed done (number ∷ [])) taught.kept.known
            (h.passed.short was)
        | inr was_not_full ↦ new_short full was_not_full
      ];
    };
    symbols = λ k among. elim (Contains-append_cases done (number ∷ []) k among) [
      | inl before ↦ h.symbols k before
      | inr now ↦ λ other is over of. taught.symbols over
          (subst (λ (i : Input). IsRunOf files.interpreter i over) (one_input k other now is) of)
    ];
  }
    where
      only : (n : ℕ) → Contains (number ∷ []) n → n ≡ number
      only n (zero, less, is) = sym is
      only n (suc k, less, is) = absurd (omega (arith, less))

      this_one : Contains (number ∷ []) number
      this_one = (0, omega arith, refl)

      one_input : (k : ℕ) (other : Input) → Contains (number ∷ []) k → slice_get files.inputs k ≡ Some other → other ≡ input
      one_input k other now is =
          let at : slice_get files.inputs number ≡ Some other =
          subst (λ (n : ℕ). slice_get files.inputs n ≡ Some other) (only k now) is in cc

      in_this : (f : Fact (List Config)) → Passed (number ∷ []) f → IsPassedIn p.net files.interpreter input f
      in_this f now = subst (λ (i : Input). IsPassedIn p.net files.interpreter i f) (one_input now.number now.input now.among now.given)
          now.passed

      of_this : (f : Fact (List Config)) → IsPassedIn p.net files.interpreter input f → Passed (done ++ number ∷ []) f
      of_this f now = right_passed done (number ∷ []) f
          (record { number = number; among = this_one; input = input; given = given; passed = now })

      by : {f : Fact (List Config)} {Before : Type 0} → Before ⊎ IsPassedIn p.net files.interpreter input f → (Before → Passed done f)
          → Passed (done ++ number ∷ []) f
      by {f} (inl before) was = left_passed done (number ∷ []) f (was before)
      by {f} (inr now) was = of_this f now

      was_not : new.1 ≡ false → old.1 ≡ false
      was_not not_full = elim (flag_cases old.1) [
        | inl was ↦ absurd (true≢false (sym (taught.taught.stays_full was) ∙ not_full))
        | inr was_not_full ↦ was_not_full
      ]

      new_short : new.1 ≡ true → old.1 ≡ false → IsShort p (Passed (done ++ number ∷ [])) new
      new_short full was_not_full =
          let m = taught.taught.missing was_not_full full in
          elim taught.taught.rows [
            | inl same ↦ absurd (true≢false (sym full ∙ (ap (λ (t : Told). t.1) same.1 ∙ was_not_full)))
            | inr knows ↦ record {
              table = new.0.known;
              known = λ t y among. among;
              all = knows.all full;
              row = m.0;
              passed = (m.1.0, of_this m.1.0 m.1.1, m.1.2);
              missing = m.2;
            }
          ]

  -- another pass was met
  pub both_done : (numbers done others more : List ℕ) (one other now : Told) → HasDone p files jobs numbers done one
      → HasDone p files jobs others more other → now.0 ≡ met one.0 other.0 → now.1 ≡ (one.1 || other.1)
      → HasDone p files jobs (numbers ++ others) (done ++ more) now
  both_done numbers done others more one other now h k view full =
      subst (HasDone p files jobs (numbers ++ others) (done ++ more)) same both
    where
      same : ◌≡◌ {A = Told} (met one.0 other.0, one.1 || other.1) now
      same = sym (λ i. (view i, full i))

      both : HasDone p files jobs (numbers ++ others) (done ++ more) (met one.0 other.0, one.1 || other.1)
      both = record {
        holds = λ n among. elim (Contains-append_cases numbers others n among) [
          | inl mine ↦ left_union n one.0.holds other.0.holds (h.holds n mine)
          | inr its ↦ right_union n one.0.holds other.0.holds (k.holds n its)
        ];
        count = λ is. elim (flag_cases (has 0 one.0.holds)) [
          | inl leads ↦ counted (has 0 one.0.holds) leads (h.count leads)
          | inr follows ↦ elim (at_union 0 one.0.holds other.0.holds is) [
            | inl mine ↦ absurd (true≢false (sym mine ∙ follows))
            | inr its ↦ uncounted (has 0 one.0.holds) follows (k.count its)
          ]
        ];
        passed = record {
          within = λ f seen. elim (among_either f one.0.seen other.0.seen seen) [
            | inl mine ↦ left_passed done more f (h.passed.within f mine)
            | inr its ↦ right_passed done more f (k.passed.within f its)
          ];
          teaches = λ f taught. elim (among_either f one.0.taught other.0.taught taught) [
            | inl mine ↦ left_passed done more f (h.passed.teaches f mine)
            | inr its ↦ right_passed done more f (k.passed.teaches f its)
          ];
          whole = λ not_full f passed.
              let nots = no_flag one.1 other.1 not_full in
              elim (either_passed done more f passed) [
                | inl mine ↦ among_left f one.0.seen other.0.seen (h.passed.whole nots.0 f mine)
                | inr its ↦ among_right f one.0.seen other.0.seen (k.passed.whole nots.1 f its)
              ];
          short = λ is. elim (either_flag one.1 other.1 is) [
            | inl mine ↦ more_short (Passed done) (Passed (done ++ more)) one (met one.0 other.0, one.1 || other.1) (left_passed done more)
                (λ t y among. among_left (t, y) one.0.known other.0.known among) (h.passed.short mine)
            | inr its ↦ more_short (Passed more) (Passed (done ++ more)) other (met one.0 other.0, one.1 || other.1)
                (right_passed done more)
                (λ t y among. among_right (t, y) one.0.known other.0.known among) (k.passed.short its)
          ];
        };
        symbols = λ number among. elim (Contains-append_cases done more number among) [
          | inl mine ↦ h.symbols number mine
          | inr its ↦ k.symbols number its
        ];
      }
        where
          counted : (b : Bool) → b ≡ true → one.0.count ≡ jobs + 1 → (if b then one.0.count else other.0.count) ≡ jobs + 1
          counted b is count = subst (λ (x : Bool). (if x then one.0.count else other.0.count) ≡ jobs + 1) (sym is) count

          uncounted : (b : Bool) → b ≡ false → other.0.count ≡ jobs + 1 → (if b then one.0.count else other.0.count) ≡ jobs + 1
          uncounted b is count = subst (λ (x : Bool). (if x then one.0.count else other.0.count) ≡ jobs + 1) (sym is) count
