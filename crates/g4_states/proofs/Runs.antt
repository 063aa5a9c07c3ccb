-- Elements one after another and alternatives side by side, as far as they are laid.
use Rattle.std.proofs.Common.{◌≡◌, ◌≢◌, ℕ, ◌+◌, ◌<◌, ◌≤◌, ◌⊎◌, inl, inr, List, [], ◌∷◌, ◌++◌, length, refl, ◌∙◌, subst, arith, slice_get, append_assoc, Result, Ok, Err, IfOk}
use Rattle.std.proofs.lemmas.List.{length-append, append-nil}
use Rattle.g4_source.specs.Elements.{Element, Elements, Alternatives, empty, then, none, or, only}
use Rattle.g4_source.specs.declared.element.Repeat.TheVariants.{Once}
use Rattle.g4_net.specs.declared.network.Network.{Network}
use Rattle.g4_net.specs.declared.network.State.{State}
use Rattle.g4_net.specs.declared.network.State.TheVariants.{Empty}
use Rattle.g4_grammar.specs.declared.step.Step.{Step}
use Rattle.g4_states.specs.Drafts.{Among, Grows, Shares, IsLaid, AreLaid, BlockIsLaid, SharesBut, IsRising, AreBeside}
use Rattle.g4_layout.specs.Layout as lay
use Rattle.g4_layout.specs.Layout.{LieInOrder, LieSideBySide}
use Rattle.g4_layout.specs.Size.{states_of, states_in_order, states_of_bodies}
use Rattle.g4_states.proofs.Lists.{get_left}
use Rattle.g4_states.proofs.Drafts.{among_more}

-- a number past rising ones
rising_more : (ps : List ℕ) (n k m : ℕ) → IsRising n ps k → k < m → IsRising n (ps ++ k ∷ []) m
rising_more [] n k m low high = (low, omega arith)
rising_more (p ∷ ps) n k m (low, rest) high = (low, rising_more ps (p + 1) k m rest high)

module _ {L : Type 0} where
  -- the elements before the rest are laid out from s to t
  pub record HasLaid (old now : List (State L)) (s t : ℕ) (all rest : Elements (Step L)) : Type 0 where
    pub size : length now + states_in_order rest ≡ length old + states_in_order all
    pub after : (t ≡ s) ⊎ (length old ≤ t)
    pub within : t < length now
    pub longer : length old ≤ length now
    pub grown : Grows old now s
    pub lie : (net : Network L) → Shares net now s (length old) t → (u m : ℕ) → LieInOrder net rest t u (length now) m
        → LieInOrder net all s u (length old) m

  -- none is laid
  pub none_laid : (old : List (State L)) (s : ℕ) (all : Elements (Step L)) → s < length old → HasLaid old old s s all all
  none_laid old s all below =
      record {
        size = refl;
        after = inl refl;
        within = below;
        longer = omega arith;
        grown = λ p less ne. refl;
        lie = λ net shares u m lie. lie;
      }

  -- one more is laid
  pub more_laid : (old now new : List (State L)) (s t u : ℕ) (all : Elements (Step L)) (x : Element (Step L)) (xs : Elements (Step L))
      → s < length old →
      HasLaid old now s t all (then x xs) → IsLaid now new t u x → HasLaid old new s u all xs
  more_laid old now new s t u all x xs below so_far one =
      let longer : length old ≤ length now = so_far.longer in
      let total : length now + (states_of x + states_in_order xs) ≡ length old + states_in_order all = so_far.size in
      let grows : length new ≡ length now + states_of x = one.size in
      record {
        size = omega arith;
        after = elim one.after [ inl same ↦ reached u (inl same) | inr low ↦ inr (omega arith) ];
        within = one.within;
        longer = omega arith;
        grown = λ p less ne. one.grown p (omega arith) (λ e. apart p e less ne) ∙ so_far.grown p less ne;
        lie = λ net shares v m lie.
            so_far.lie net (λ p place less ne. shares p place (omega arith) (λ e. ne (stays p less e)) ∙ one.grown p less ne) v m
            (lay.one_more x xs t u v (length now) (length new) m
            (one.lies net (λ p place less ne. shares p (reached p place) less ne)) lie);
      }
    where
      apart : (p : ℕ) → p ≡ t → p < length old → p ≢ s → ⊥
      apart p e less ne = elim so_far.after [ inl same ↦ ne (e ∙ same) | inr low ↦ omega arith ]

      stays : (p : ℕ) → p < length now → p ≡ u → p ≡ t
      stays p less e = elim one.after [ inl same ↦ e ∙ same | inr low ↦ absurd (omega arith) ]

      reached : (p : ℕ) → (p ≡ t) ⊎ (length now ≤ p) → (p ≡ s) ⊎ (length old ≤ p)
      reached p (inl e) = elim so_far.after [ inl same ↦ inl (e ∙ same) | inr low ↦ inr (omega arith) ]
      reached p (inr low) = let longer : length old ≤ length now = so_far.longer in inr (omega arith)

  -- all are laid
  pub all_laid : (old new : List (State L)) (s t : ℕ) (all : Elements (Step L)) → HasLaid old new s t all empty → AreLaid old new s t all
  all_laid old new s t all so_far =
      let total : length new + 0 ≡ length old + states_in_order all = so_far.size in
      record {
        size = omega arith;
        after = so_far.after;
        within = so_far.within;
        grown = so_far.grown;
        lie = λ net shares. so_far.lie net shares t (length new) (lay.no_more t (length new));
      }

  -- a block of one alternative is laid out as that alternative
  pub lone_laid : (old new : List (State L)) (s t : ℕ) (x : Elements (Step L)) → AreLaid old new s t x
      → BlockIsLaid old new s t Once (only x)
  lone_laid old new s t x laid label =
      let size : length new ≡ length old + states_in_order x = laid.size in
      record {
        size = omega arith;
        after = laid.after;
        within = laid.within;
        grown = laid.grown;
        lies = λ net shares. lay.one_alternative label x s t (length old) (length new) (laid.lie net shares);
      }

  -- the alternatives before the rest are laid out side by side
  pub record HasSides (old now : List (State L)) (firsts lasts : List ℕ) (all rest : Alternatives (Step L)) : Type 0 where
    pub size : length now + states_of_bodies rest ≡ length old + states_of_bodies all
    pub longer : length old ≤ length now
    pub rising : IsRising (length old) firsts (length now)
    pub inside : (p : ℕ) → Among lasts p → (length old ≤ p) × (p < length now)
    pub grown : Grows old now (length old)
    pub lie : (net : Network L) → SharesBut net now (length old) lasts → (fs ls : List ℕ) (m : ℕ)
        → LieSideBySide net rest fs ls (length now) m → LieSideBySide net all (firsts ++ fs) (lasts ++ ls) (length old) m

  -- none is laid
  pub no_sides : (old : List (State L)) (all : Alternatives (Step L)) → HasSides old old [] [] all all
  no_sides old all =
      record {
        size = refl;
        longer = omega arith;
        rising = omega arith;
        inside = λ p h. absurd h;
        grown = λ p less ne. refl;
        lie = λ net shares fs ls m lie. lie;
      }

  -- one more is laid, from a new state on
  pub more_sides : (old now new : List (State L)) (firsts lasts : List ℕ) (u : ℕ) (all : Alternatives (Step L))
      (x : Elements (Step L)) (xs : Alternatives (Step L)) →
      HasSides old now firsts lasts all (or x xs) → AreLaid (now ++ Empty 0 ∷ []) new (length now) u x
      → HasSides old new (firsts ++ length now ∷ []) (lasts ++ u ∷ []) all xs
  more_sides old now new firsts lasts u all x xs so_far one =
      let mid : List (State L) = now ++ Empty 0 ∷ [] in
      let longer : length old ≤ length now = so_far.longer in
      let total : length now + (1 + states_in_order x + states_of_bodies xs) ≡ length old + states_of_bodies all = so_far.size in
      let pushed : length mid ≡ length now + 1 = length-append now (Empty 0 ∷ []) in
      let grows : length new ≡ length mid + states_in_order x = one.size in
      let within : u < length new = one.within in
      record {
        size = omega arith;
        longer = omega arith;
        rising = rising_more firsts (length old) (length now) (length new) so_far.rising (omega arith);
        inside = λ p h. elim (among_more lasts u p h) [
          | inl k ↦ (omega (arith, (so_far.inside p k).0), omega (arith, (so_far.inside p k).1))
          | inr e ↦ (omega (arith, low), omega arith)
        ];
        grown = λ p less ne. kept p (omega arith) ∙ so_far.grown p less ne;
        lie = λ net shares fs ls m lie.
            let before = λ (p : ℕ) (from : length old ≤ p) (less : p < length now) (non : Among lasts p → ⊥).
            shares p from (omega arith) (λ h. elim (among_more lasts u p h) [ inl k ↦ non k | inr e ↦ omega (arith, low) ]) ∙ kept p less in
            let inner : LieInOrder net x (length now) u (length now + 1) (length new) =
            subst (λ (k : ℕ). LieInOrder net x (length now) u k (length new)) pushed
            (one.lie net (λ p place less ne. shares p (omega (arith, from_now p place)) less
            (λ h. later p place ne (among_more lasts u p h)))) in
            let both : LieSideBySide net (or x xs) (length now ∷ fs) (u ∷ ls) (length now) m =
            lay.another x xs u (length now) (length new) m fs ls inner lie in
            rw (append_assoc, append_assoc) (so_far.lie net before (length now ∷ fs) (u ∷ ls) m both);
      }
    where
      low : length now ≤ u
      low = let pushed = length-append now (Empty 0 ∷ []) in elim one.after [ inl e ↦ omega arith | inr h ↦ omega arith ]

      kept : (p : ℕ) → p < length now → slice_get new p ≡ slice_get now p
      kept p less = let pushed = length-append now (Empty 0 ∷ []) in
          one.grown p (omega arith) (λ e. omega arith) ∙ get_left now (Empty 0 ∷ []) p less

      from_now : (p : ℕ) → (p ≡ length now) ⊎ (length (now ++ Empty 0 ∷ []) ≤ p) → length now ≤ p
      from_now p (inl e) = omega arith
      from_now p (inr h) = let pushed = length-append now (Empty 0 ∷ []) in omega arith

      later : (p : ℕ) → (p ≡ length now) ⊎ (length (now ++ Empty 0 ∷ []) ≤ p) → p ≢ u → Among lasts p ⊎ (p ≡ u) → ⊥
      later p place ne (inl k) = omega (arith, from_now p place, (so_far.inside p k).1)
      later p place ne (inr e) = ne e

  -- all are laid
  pub all_sides : (old new : List (State L)) (firsts lasts : List ℕ) (all : Alternatives (Step L))
      → HasSides old new firsts lasts all none → AreBeside old new firsts lasts all
  all_sides old new firsts lasts all so_far =
      let total : length new + 0 ≡ length old + states_of_bodies all = so_far.size in
      record {
        size = omega arith;
        rising = so_far.rising;
        inside = so_far.inside;
        grown = so_far.grown;
        lie = λ net shares. rw (append-nil, append-nil) at (so_far.lie net shares [] [] (length new) (lay.no_other (length new)));
      }

  -- one more is laid where the code pushes
  pub more_sides_at : (old now mid new : List (State L)) (firsts firsts_on lasts lasts_on : List ℕ) (first u : ℕ)
      (all : Alternatives (Step L)) (x : Elements (Step L)) (xs : Alternatives (Step L)) →
      mid ≡ now ++ Empty 0 ∷ [] → first ≡ length now → firsts_on ≡ firsts ++ first ∷ [] → lasts_on ≡ lasts ++ u ∷ [] →
      HasSides old now firsts lasts all (or x xs) → AreLaid mid new first u x → HasSides old new firsts_on lasts_on all xs
  more_sides_at old now mid new firsts firsts_on lasts lasts_on first u all x xs pushed at made ended so_far one =
      let one_at : AreLaid (now ++ Empty 0 ∷ []) new (length now) u x = rw (pushed, at) at one in
      rw (made, ended, at) (more_sides old now new firsts lasts u all x xs so_far one_at)

-- on success, what follows from what holds
pub on_ok : {T E : Type 0} (r : Result T E) (P Q : T → Type 0) → ((t : T) → P t → Q t) → IfOk r P → IfOk r Q
on_ok (Ok t) P Q f h = f t h
on_ok (Err e) P Q f h = h
