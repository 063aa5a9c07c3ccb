-- States that are filled and made are laid out by the table, whatever the labels are.
use Rattle.std.proofs.Common.{◌≡◌, ◌≢◌, ℕ, zero, suc, ◌+◌, ◌<◌, ◌≤◌, ◌⊎◌, inl, inr, List, [], ◌∷◌, ◌++◌, length, refl, ◌∙◌, ap, subst, arith, get_or, slice_get, Some}
use Rattle.std.proofs.Math.ListN.{set}
use Rattle.std.proofs.lemmas.List.{length-set, length-append}
use Rattle.g4_source.specs.Elements.{Alternatives, atom, block}
use Rattle.g4_net.specs.declared.network.Network.{Network}
use Rattle.g4_net.specs.declared.network.State.{State}
use Rattle.g4_net.specs.declared.network.State.TheVariants.{Decision, Empty}
use Rattle.g4_net.specs.Network.{state_at}
use Rattle.g4_source.specs.declared.element.Suffix.{Suffix}
use Rattle.g4_source.specs.declared.element.Repeat.{Repeat}
use Rattle.g4_source.specs.declared.element.Repeat.TheVariants.{Once, Optional, Star, Plus}
use Rattle.g4_grammar.specs.declared.step.Step.{Step}
use Rattle.g4_grammar.specs.declared.step.Step.TheVariants.{Edge, Call, Predicate, Level, Action}
use Rattle.g4_grammar.specs.declared.step.Step.TheVariants as steps
use Rattle.g4_states.specs.Drafts.{Among, linked, Grows, Shares, IsLaid, AreBeside, BlockIsLaid, state_of, stepped, joined, passed_by, starred, choice_of, repeated_once, closed, states_after, AreApart, states_of_block}
use Rattle.g4_layout.specs.Layout as lay
use Rattle.g4_layout.specs.Layout.{with_exit, Lies, LieSideBySide, AllLeadTo}
use Rattle.g4_layout.specs.Size.{states_of_bodies}
use Rattle.g4_states.proofs.Lists.{get_set_same, get_set_other, get_left, get_right, same_or_not}

-- a number is among some or not
pub among_or_not : (bs : List ℕ) (p : ℕ) → Among bs p ⊎ (Among bs p → ⊥)
among_or_not [] p = inr (λ h. h)
among_or_not (b ∷ bs) p = elim (same_or_not p b) [
  | inl e ↦ inl (inl e)
  | inr ne ↦ elim (among_or_not bs p) [
    | inl h ↦ inl (inr h)
    | inr non ↦ inr (λ h. elim h [ inl e ↦ ne e | inr k ↦ non k ])
  ]
]

-- a number among some and one more
pub among_more : (bs : List ℕ) (b p : ℕ) → Among (bs ++ b ∷ []) p → Among bs p ⊎ (p ≡ b)
among_more [] b p h = elim h [ inl e ↦ inr e | inr k ↦ absurd k ]
among_more (x ∷ bs) b p h = elim h [
  | inl e ↦ inl (inl e)
  | inr k ↦ elim (among_more bs b p k) [ inl m ↦ inl (inr m) | inr e ↦ inr e ]
]

-- an item is among the items
pub among_item : (bs : List ℕ) (i : ℕ) → i < length bs → Among bs (get_or bs i 0)
among_item [] i less = absurd (omega arith)
among_item (b ∷ bs) zero less = inl refl
among_item (b ∷ bs) (suc i) less = inr (among_item bs i (omega arith))

module _ {L : Type 0} where
  -- linking keeps how many states there are
  pub length-linked : (t : ℕ) (bs : List ℕ) (xs : List (State L)) → length (linked t bs xs) ≡ length xs
  length-linked t [] xs = refl
  length-linked t (b ∷ bs) xs = length-linked t bs (set xs b (Empty t)) ∙ length-set xs b (Empty t)

  -- a state that is not linked is as it was
  pub linked_other : (t : ℕ) (bs : List ℕ) (xs : List (State L)) (p : ℕ) → (Among bs p → ⊥) → slice_get (linked t bs xs) p ≡ slice_get xs p
  linked_other t [] xs p non = refl
  linked_other t (b ∷ bs) xs p non = linked_other t bs (set xs b (Empty t)) p (λ h. non (inr h))
      ∙ get_set_other xs b p (Empty t) (λ e. non (inl e))

  -- one that is linked has the edge
  pub linked_same : (t : ℕ) (bs : List ℕ) (xs : List (State L)) (p : ℕ) → p < length xs → Among bs p
      → slice_get (linked t bs xs) p ≡ Some (Empty t)
  linked_same t [] xs p less h = absurd h
  linked_same t (b ∷ bs) xs p less h =
      elim (among_or_not bs p) [
        | inl k ↦ linked_same t bs (set xs b (Empty t)) p (omega (arith, length-set xs b (Empty t))) k
        | inr non ↦ linked_other t bs (set xs b (Empty t)) p non ∙ elim h [
          | inl e ↦ subst (λ (q : ℕ). slice_get (set xs q (Empty t)) p ≡ Some (Empty t)) e (get_set_same xs p (Empty t) less)
          | inr k ↦ absurd (non k)
        ]
      ]

  -- what closing the bodies has made: s is filled, the last states lead on, and some states come after
  pub record IsClosed (old new : List (State L)) (s : ℕ) (d : State L) (lasts : List ℕ) (t : ℕ) (tail : List (State L)) : Type 0 where
    pub size : length new ≡ length old + length tail
    pub start : slice_get new s ≡ Some d
    pub inner : (p : ℕ) → p < length old → p ≢ s → (Among lasts p → ⊥) → slice_get new p ≡ slice_get old p
    pub leads : (p : ℕ) → Among lasts p → slice_get new p ≡ Some (Empty t)
    pub after : (q j : ℕ) → q ≡ length old + j → slice_get new q ≡ slice_get tail j

  -- it is so where the code fills and adds
  pub closing_of : (old : List (State L)) (s : ℕ) (d : State L) (lasts : List ℕ) (t : ℕ) (tail : List (State L)) → s < length old
      → ((p : ℕ) → Among lasts p → (s < p) × (p < length old)) →
      (new : List (State L)) → new ≡ linked t lasts (set old s d) ++ tail → IsClosed old new s d lasts t tail
  closing_of old s d lasts t tail below above new is =
      let filled : List (State L) = linked t lasts (set old s d) in
      let same : length filled ≡ length old = length-linked t lasts (set old s d) ∙ length-set old s d in
      record {
        size = ap length is ∙ (length-append filled tail ∙ ap (λ (k : ℕ). k + length tail) same);
        start = at s ∙ (get_left filled tail s (omega arith)
            ∙ (linked_other t lasts (set old s d) s (λ h. omega (arith, (above s h).0)) ∙ get_set_same old s d below));
        inner = λ p less ne non. at p ∙ (get_left filled tail p (omega arith)
            ∙ (linked_other t lasts (set old s d) p non ∙ get_set_other old s p d ne));
        leads = λ p h. let less : p < length old = (above p h).1 in
            at p ∙ (get_left filled tail p (omega arith) ∙ linked_same t lasts (set old s d) p (omega (arith, length-set old s d)) h);
        after = λ q j e. at q ∙ get_right filled tail q j (omega arith);
      }
    where
      at : (p : ℕ) → slice_get new p ≡ slice_get (linked t lasts (set old s d) ++ tail) p
      at p = ap (λ (xs : List (State L)). slice_get xs p) is

  -- each of the last states leads on
  all_lead : (net : Network L) (lasts : List ℕ) (t : ℕ) → ((p : ℕ) → Among lasts p → state_at net p ≡ Some (Empty t))
      → AllLeadTo net lasts t
  all_lead net [] t h = tt
  all_lead net (b ∷ bs) t h = (h b (inl refl), all_lead net bs t (λ p k. h p (inr k)))

  -- what a network that has the closed states has
  pub record HasClosed (net : Network L) (base old new : List (State L)) (s : ℕ) (d : State L) (firsts lasts : List ℕ)
      (xs : Alternatives (Step L)) (to : ℕ) (tail : List (State L)) (t : ℕ) : Type 0 where
    pub start : state_at net s ≡ Some d
    pub sides : LieSideBySide net xs firsts lasts (length base) (length old)
    pub leads : AllLeadTo net lasts to
    pub after : (q j : ℕ) → q ≡ length old + j → j < length tail → q ≢ t → state_at net q ≡ slice_get tail j

  -- the bodies are closed and the network shares the states
  pub has_closed : (net : Network L) (base old new : List (State L)) (s : ℕ) (d : State L) (firsts lasts : List ℕ)
      (xs : Alternatives (Step L)) (to : ℕ) (tail : List (State L)) (t : ℕ) →
      s < length base → AreBeside base old firsts lasts xs → IsClosed old new s d lasts to tail → length old ≤ t
      → Shares net new s (length base) t → HasClosed net base old new s d firsts lasts xs to tail t
  has_closed net base old new s d firsts lasts xs to tail t below beside closing after shares =
      let size : length new ≡ length old + length tail = closing.size in
      let longer : length old ≡ length base + states_of_bodies xs = beside.size in
      record {
        start = shares s (inl refl) (omega arith) (λ e. omega arith) ∙ closing.start;
        sides = beside.lie net (λ p low high non. shares p (inr low) (omega arith) (λ e. omega arith)
            ∙ closing.inner p high (λ e. omega arith) non);
        leads = all_lead net lasts to (λ p h. let low = (beside.inside p h).0 in let high = (beside.inside p h).1 in
            shares p (inr low) (omega arith) (λ e. omega arith) ∙ closing.leads p h);
        after = λ q j e less ne. shares q (inr (omega arith)) (omega arith) ne ∙ closing.after q j e;
      }

  -- the states that closing keeps
  pub closed_grows : (base old new : List (State L)) (s : ℕ) (d : State L) (firsts lasts : List ℕ) (xs : Alternatives (Step L))
      (to : ℕ) (tail : List (State L)) →
      AreBeside base old firsts lasts xs → IsClosed old new s d lasts to tail → Grows base new s
  closed_grows base old new s d firsts lasts xs to tail beside closing p less ne =
      let longer : length old ≡ length base + states_of_bodies xs = beside.size in
      closing.inner p (omega arith) ne (λ h. omega (arith, (beside.inside p h).0)) ∙ beside.grown p less (λ e. omega arith)

  -- where the last states are
  above : (base old : List (State L)) (s : ℕ) (firsts lasts : List ℕ) (xs : Alternatives (Step L)) → s < length base
      → AreBeside base old firsts lasts xs → (p : ℕ) → Among lasts p → (s < p) × (p < length old)
  above base old s firsts lasts xs below beside p h = (omega (arith, (beside.inside p h).0), (beside.inside p h).1)

  -- `*` is laid out
  star_laid : (base old new : List (State L)) (s t : ℕ) (firsts lasts : List ℕ) (xs : Alternatives (Step L)) (sign : Suffix)
      → s < length base → AreBeside base old firsts lasts xs → t ≡ length old →
      new ≡ starred sign.greedy s firsts lasts old → BlockIsLaid base new s t (Star sign) xs
  star_laid base old new s t firsts lasts xs sign below beside end_at is label =
      let longer : length old ≡ length base + states_of_bodies xs = beside.size in
      let d : State L = Decision (with_exit sign.greedy firsts (length old)) in
      let tail : List (State L) = Empty 0 ∷ [] in
      let closing = closing_of old s d lasts s tail (omega arith) (above base old s firsts lasts xs below beside) new is in
      let size : length new ≡ length old + 1 = closing.size in
      record {
        size = omega arith;
        after = inr (omega arith);
        within = omega arith;
        grown = closed_grows base old new s d firsts lasts xs s tail beside closing;
        lies = λ net shares.
            let has = has_closed net base old new s d firsts lasts xs s tail t below beside closing (omega arith) shares in
            rw (size, end_at) (lay.a_star label sign xs firsts lasts s (length base) (length old) has.start has.sides has.leads);
      }

  -- `?` is laid out
  optional_laid : (base old new : List (State L)) (s t : ℕ) (firsts lasts : List ℕ) (xs : Alternatives (Step L)) (sign : Suffix)
      → s < length base → AreBeside base old firsts lasts xs → t ≡ length old + 1 →
      new ≡ passed_by sign.greedy s firsts lasts old → BlockIsLaid base new s t (Optional sign) xs
  optional_laid base old new s t firsts lasts xs sign below beside end_at is label =
      let longer : length old ≡ length base + states_of_bodies xs = beside.size in
      let d : State L = Decision (with_exit sign.greedy firsts (length old)) in
      let tail : List (State L) = Empty (length old + 1) ∷ Empty 0 ∷ [] in
      let closing = closing_of old s d lasts (length old + 1) tail (omega arith) (above base old s firsts lasts xs below beside) new is in
      let size : length new ≡ length old + 2 = closing.size in
      record {
        size = omega arith;
        after = inr (omega arith);
        within = omega arith;
        grown = closed_grows base old new s d firsts lasts xs (length old + 1) tail beside closing;
        lies = λ net shares.
            let has = has_closed net base old new s d firsts lasts xs (length old + 1) tail t below beside closing (omega arith) shares in
            let exit : state_at net (length old) ≡ Some (Empty (length old + 1)) =
            has.after (length old) 0 (omega arith) (omega arith) (λ e. omega arith) in
            rw (size, end_at) (lay.an_optional label sign xs firsts lasts s (length base) (length old) has.start has.sides has.leads exit);
      }

  -- a block of several is laid out
  joined_laid : (base old new : List (State L)) (s t : ℕ) (firsts lasts : List ℕ) (xs : Alternatives (Step L)) → s < length base
      → AreBeside base old firsts lasts xs → 2 ≤ length firsts →
      states_of_block Once xs ≡ states_of_bodies xs + 1 → t ≡ length old → new ≡ joined s firsts lasts old
      → BlockIsLaid base new s t Once xs
  joined_laid base old new s t firsts lasts xs below beside many count end_at is label =
      let longer : length old ≡ length base + states_of_bodies xs = beside.size in
      let d : State L = Decision firsts in
      let tail : List (State L) = Empty 0 ∷ [] in
      let closing = closing_of old s d lasts (length old) tail (omega arith) (above base old s firsts lasts xs below beside) new is in
      let size : length new ≡ length old + 1 = closing.size in
      record {
        size = omega arith;
        after = inr (omega arith);
        within = omega arith;
        grown = closed_grows base old new s d firsts lasts xs (length old) tail beside closing;
        lies = λ net shares.
            let has = has_closed net base old new s d firsts lasts xs (length old) tail t below beside closing (omega arith) shares in
            rw (size, end_at) (lay.a_block label xs firsts lasts s (length base) (length old) many has.start has.sides has.leads);
      }

  -- `+` is laid out
  plus_laid : (base old new : List (State L)) (s t : ℕ) (firsts lasts : List ℕ) (xs : Alternatives (Step L)) (sign : Suffix)
      → s < length base → AreBeside base old firsts lasts xs → 1 ≤ length firsts →
      t ≡ length old + 1 → new ≡ repeated_once sign.greedy s firsts lasts old → BlockIsLaid base new s t (Plus sign) xs
  plus_laid base old new s t firsts lasts xs sign below beside many end_at is label =
      let longer : length old ≡ length base + states_of_bodies xs = beside.size in
      let d : State L = choice_of firsts in
      let again : State L = Decision (with_exit sign.greedy firsts (length old + 1)) in
      let tail : List (State L) = again ∷ Empty 0 ∷ [] in
      let closing = closing_of old s d lasts (length old) tail (omega arith) (above base old s firsts lasts xs below beside) new is in
      let size : length new ≡ length old + 2 = closing.size in
      record {
        size = omega arith;
        after = inr (omega arith);
        within = omega arith;
        grown = closed_grows base old new s d firsts lasts xs (length old) tail beside closing;
        lies = λ net shares.
            let has = has_closed net base old new s d firsts lasts xs (length old) tail t below beside closing (omega arith) shares in
            let decision : state_at net (length old) ≡ Some again =
            has.after (length old) 0 (omega arith) (omega arith) (λ e. omega arith) in
            rw (size, end_at) (lies net firsts many has.start has.sides has.leads decision);
      }
    where
      lies : (net : Network L) (fs : List ℕ) → 1 ≤ length fs → state_at net s ≡ Some (choice_of fs)
          → LieSideBySide net xs fs lasts (length base) (length old) → AllLeadTo net lasts (length old) →
          state_at net (length old) ≡ Some (Decision (with_exit sign.greedy fs (length old + 1)))
          → Lies net (block label (Plus sign) xs) s (length old + 1) (length base) (length old + 2)
      lies net [] low start sides leads decision = absurd (omega arith)
      lies net (a ∷ []) low start sides leads decision =
          lay.a_plus_of_one label sign xs a lasts s (length base) (length old) start sides leads decision
      lies net (a ∷ b ∷ more) low start sides leads decision =
          lay.a_plus label sign xs (a ∷ b ∷ more) lasts s (length base) (length old) (omega arith) start sides leads decision

  -- a block whose alternatives are side by side is laid out
  pub block_laid : (base old new : List (State L)) (s t : ℕ) (repeat : Repeat) (firsts lasts : List ℕ) (xs : Alternatives (Step L))
      → s < length base → AreBeside base old firsts lasts xs → AreApart repeat (length firsts) →
      states_of_block repeat xs ≡ states_of_bodies xs + states_after repeat → t + 1 ≡ length old + states_after repeat
      → new ≡ closed repeat s firsts lasts old → BlockIsLaid base new s t repeat xs
  block_laid base old new s t Once firsts lasts xs below beside apart count end_at is =
      joined_laid base old new s t firsts lasts xs below beside apart count (omega arith) is
  block_laid base old new s t (Optional sign) firsts lasts xs below beside apart count end_at is =
      optional_laid base old new s t firsts lasts xs sign below beside (omega arith) is
  block_laid base old new s t (Star sign) firsts lasts xs below beside apart count end_at is =
      star_laid base old new s t firsts lasts xs sign below beside (omega arith) is
  block_laid base old new s t (Plus sign) firsts lasts xs below beside apart count end_at is =
      plus_laid base old new s t firsts lasts xs sign below beside apart (omega arith) is

  -- a step is laid out where its state is
  step_lies : (net : Network L) (step : Step L) (s n : ℕ) → state_at net s ≡ Some (state_of step n) → Lies net (atom step) s n n (n + 1)
  step_lies net (Edge label) s n at = lay.an_edge label s n at
  step_lies net (Call rule level) s n at = lay.a_call rule level s n at
  step_lies net (Predicate k) s n at = lay.a_predicate k s n at
  step_lies net (Level q) s n at = lay.a_level q s n at
  step_lies net Action s n at = lay.an_action s n at
  step_lies net steps.Empty s n at = lay.an_empty s n at

  -- one step is laid out
  pub step_laid : (old new : List (State L)) (s t : ℕ) (step : Step L) → s < length old → t ≡ length old → new ≡ stepped s step old
      → IsLaid old new s t (atom step)
  step_laid old new s t step below end_at is =
      let d : State L = state_of step (length old) in
      let tail : List (State L) = Empty 0 ∷ [] in
      let closing = closing_of old s d [] t tail below (λ p h. absurd h) new is in
      let size : length new ≡ length old + 1 = closing.size in
      record {
        size = omega arith;
        after = inr (omega arith);
        within = omega arith;
        grown = λ p less ne. closing.inner p less ne (λ h. h);
        lies = λ net shares.
            let start : state_at net s ≡ Some d = shares s (inl refl) (omega arith) (λ e. omega arith) ∙ closing.start in
            rw (size, end_at) (step_lies net step s (length old) start);
      }
