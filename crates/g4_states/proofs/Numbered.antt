-- The numbers of rules, once they are written.
use Rattle.std.proofs.Common.{◌≡◌, ◌≢◌, ℕ, zero, suc, ◌+◌, ◌-◌, ◌<◌, ◌≤◌, ◌⊎◌, inl, inr, List, [], ◌∷◌, ◌++◌, length, map, take, drop, replicate, refl, sym, ◌∙◌, ap, subst, arith, get_or, slice_get, slice_index, Some}
use Rattle.std.proofs.Math.ListN.{set}
use Rattle.std.proofs.lemmas.List.{length-append, length-map, length-set, length-take-le, length-drop, drop_more, drop_all, get_or-set_same, get_or-set_other, get_or_append_left, get_or-append_right}
use Rattle.std.proofs.lemmas.Option.{get_or_from_slice_get}
use Rattle.g4_source.specs.Elements.{Alternatives}
use Rattle.g4_grammar.specs.declared.step.Numbering.{Numbering}
use Rattle.g4_grammar.specs.declared.step.Step.{Step}
use Rattle.g4_net.specs.declared.network.Network.{Network}
use Rattle.g4_net.specs.declared.network.State.{State}
use Rattle.g4_net.specs.declared.network.State.TheVariants.{Decision}
use Rattle.g4_net.specs.Network.{state_at, start_of, end_of, written_at}
use Rattle.g4_layout.specs.Numbers.{AreNumbered, StartsAreWritten, StartsAt, number_by}
use Rattle.g4_layout.specs.Size.{states_of_rule}
use Rattle.g4_states.specs.Drafts.{Among, IsRising}
use Rattle.g4_states.specs.Numberings.{AreWrittenBefore, CanAllBeNumbered, CanBeNumbered, HaveNumbers, RuleIsNumbered, RulesAreNumbered, StartsAreLaid, marked}
use Rattle.g4_states.specs.Rules.{IsBefore, ends_from}

-- where rising numbers are
pub rising_among : (n : ℕ) (ps : List ℕ) (m p : ℕ) → IsRising n ps m → Among ps p → (n ≤ p) × (p < m)
rising_among n [] m p h among = absurd among
rising_among n (q ∷ ps) m p (low, rest) (inl e) = let high : q + 1 ≤ m = below ps (q + 1) rest in (omega arith, omega arith)
  where
    below : (ps : List ℕ) (k : ℕ) → IsRising k ps m → k ≤ m
    below [] k h = h
    below (q ∷ ps) k (low, rest) = let more = below ps (q + 1) rest in omega arith
rising_among n (q ∷ ps) m p (low, rest) (inr h) = let more = rising_among (q + 1) ps m p rest h in (omega (arith, more.0), more.1)

-- a number among some is at a place
at_place : (ps : List ℕ) (p : ℕ) → Among ps p → (k : ℕ) × (slice_get ps k ≡ Some p)
at_place [] p h = absurd h
at_place (q ∷ ps) p (inl e) = (0, ap Some (sym e))
at_place (q ∷ ps) p (inr h) = let more = at_place ps p h in (suc more.0, more.1)

-- a list of zeros has no other number
zero_at : (k p : ℕ) → slice_index (replicate k 0) p ≡ 0
zero_at zero zero = refl
zero_at zero (suc p) = refl
zero_at (suc k) zero = refl
zero_at (suc k) (suc p) = zero_at k p

-- marking keeps how many numbers there are
pub length-marked : (ps is w : List ℕ) → length (marked ps is w) ≡ length w
length-marked [] is w = refl
length-marked (p ∷ ps) [] w = refl
length-marked (p ∷ ps) (i ∷ is) w = length-marked ps is (set w p i) ∙ length-set w p i

-- and what is at other places
marked_other : (ps is w : List ℕ) (q : ℕ) → (Among ps q → ⊥) → slice_index (marked ps is w) q ≡ slice_index w q
marked_other [] is w q non = refl
marked_other (p ∷ ps) [] w q non = refl
marked_other (p ∷ ps) (i ∷ is) w q non = marked_other ps is (set w p i) q (λ h. non (inr h)) ∙ get_or-set_other w p q i 0 (λ e. non (inl e))

-- at the places themselves are these numbers
marked_at : (n : ℕ) (ps is : List ℕ) (m : ℕ) (w : List ℕ) → IsRising n ps m → m ≤ length w → length ps ≡ length is
    → map (slice_index (marked ps is w)) ps ≡ is
marked_at n [] [] m w rising wide many = refl
marked_at n [] (i ∷ is) m w rising wide many = absurd (omega arith)
marked_at n (p ∷ ps) [] m w rising wide many = absurd (omega arith)
marked_at n (p ∷ ps) (i ∷ is) m w rising wide many =
    let at = rising_among n (p ∷ ps) m p rising (inl refl) in
    let here : slice_index (marked ps is (set w p i)) p ≡ i =
    marked_other ps is (set w p i) p (λ h. omega (arith, (rising_among (p + 1) ps m p rising.1 h).0))
    ∙ get_or-set_same w p i 0 (omega (arith, at.1)) in
    let rest : map (slice_index (marked ps is (set w p i))) ps ≡ is =
    marked_at (p + 1) ps is m (set w p i) rising.1 (omega (arith, length-set w p i)) (omega arith) in
    ap (λ (k : ℕ). k ∷ map (slice_index (marked ps is (set w p i))) ps) here ∙ ap (λ (ks : List ℕ). i ∷ ks) rest

-- functions that are the same at some places give the same numbers there
same_at_each : (f g : ℕ → ℕ) (ps : List ℕ) → ((p : ℕ) → Among ps p → f p ≡ g p) → map f ps ≡ map g ps
same_at_each f g [] same = refl
same_at_each f g (p ∷ ps) same =
    ap (λ (k : ℕ). k ∷ map f ps) (same p (inl refl)) ∙ ap (λ (ks : List ℕ). g p ∷ ks) (same_at_each f g ps (λ q h. same q (inr h)))

-- a list of one number
pub one_number : (xs : List ℕ) → length xs ≡ 1 → xs ≡ get_or xs 0 0 ∷ []
one_number [] one = absurd (omega arith)
one_number (x ∷ []) one = refl
one_number (x ∷ y ∷ xs) one = absurd (omega arith)

module _ {L : Type 0} where
  -- the states from n up to m
  abbrev between : List (State L) → ℕ → ℕ → List (State L)
  between states n m = take (m - n) (drop n states)

  -- the number at each of some states
  abbrev pub numbers_of : ℕ → List (State L) → List ℕ
  numbers_of count states = map (λ (s : State L). number_by count (Some s)) states

  -- a state of a front part
  front_at : (k : ℕ) (xs : List (State L)) (j : ℕ) → j < k → slice_get (take k xs) j ≡ slice_get xs j
  front_at zero xs j less = absurd (omega arith)
  front_at (suc k) [] j less = refl
  front_at (suc k) (x ∷ xs) zero less = refl
  front_at (suc k) (x ∷ xs) (suc j) less = front_at k xs j (omega arith)

  -- a state of the rest
  rest_at : (n : ℕ) (xs : List (State L)) (j p : ℕ) → p ≡ n + j → slice_get (drop n xs) j ≡ slice_get xs p
  rest_at zero xs j p is = let e : j ≡ p = omega arith in ap (slice_get xs) e
  rest_at (suc n) [] j p is = refl
  rest_at (suc n) (x ∷ xs) j zero is = absurd (omega arith)
  rest_at (suc n) (x ∷ xs) j (suc p) is = rest_at n xs j p (omega arith)

  -- the number at one of some states
  number_of_state : (count : ℕ) (xs : List (State L)) (j : ℕ) → j < length xs
      → slice_index (numbers_of count xs) j ≡ number_by count (slice_get xs j)
  number_of_state count [] j less = absurd (omega arith)
  number_of_state count (x ∷ xs) zero less = refl
  number_of_state count (x ∷ xs) (suc j) less = number_of_state count xs j (omega arith)

  -- how many states are between
  length-between : (states : List (State L)) (n m : ℕ) → n ≤ m → m ≤ length states → n + length (between states n m) ≡ m
  length-between states n m up within =
      let rest = length-drop n states in omega (arith, length-take-le (m - n) (drop n states) (omega (arith, rest)))

  -- the numbers at the states of a rule are added, those with which it starts not being written yet
  pub record AreAdded (states : List (State L)) (count : ℕ) (old mid : List ℕ) (m : ℕ) : Type 0 where
    pub size : length mid ≡ m
    pub before : (p : ℕ) → p < length old → slice_index mid p ≡ slice_index old p
    pub after : (p : ℕ) → length old ≤ p → p < m → slice_index mid p ≡ number_by count (slice_get states p)

  pub added : (states : List (State L)) (count : ℕ) (old mid : List ℕ) (m : ℕ) → length old ≤ m → m ≤ length states
      → mid ≡ old ++ numbers_of count (between states (length old) m) → AreAdded states count old mid m
  added states count old mid m up within is =
      let long = length-between states (length old) m up within in
      let many = length-map (between states (length old) m) (λ (s : State L). number_by count (Some s)) in
      record {
        size = omega (arith, ap length is ∙ length-append old (numbers_of count (between states (length old) m)));
        before = λ p less. ap (λ (w : List ℕ). slice_index w p) is
            ∙ get_or_append_left old (numbers_of count (between states (length old) m)) 0 p less;
        after = λ p low high.
            let j : ℕ = p - length old in
            ap (λ (w : List ℕ). slice_index w p) is ∙
            (get_or-append_right old (numbers_of count (between states (length old) m)) (length old) p 0 refl low ∙
            (number_of_state count (between states (length old) m) j (omega arith) ∙
            ap (number_by count) (front_at (m - length old) (drop (length old) states) j (omega arith)
            ∙ rest_at (length old) states j p (omega arith))));
      }

  module _ (states : List (State L)) (rule : ℕ) (numbering : Numbering) (old mid new : List ℕ) (m : ℕ)
      (filled : AreAdded states numbering.count old mid m) (up : length old ≤ m) (heads : end_of rule < length old)
      (blank : (p : ℕ) → start_of rule ≤ p → p ≤ end_of rule → slice_index old p ≡ 0) where
    -- nothing is written at the rule's end
    end_blank : slice_index mid (end_of rule) ≡ 0
    end_blank = filled.before (end_of rule) heads ∙ blank (end_of rule) (omega arith) (omega arith)

    -- the rule starts with one alternative
    pub starts_with_one : (i : ℕ) → numbering.starts ≡ i ∷ [] → new ≡ set mid (start_of rule) i
        → RuleIsNumbered states old new rule numbering m
    starts_with_one i one is =
        let size : length new ≡ m = ap length is ∙ (length-set mid (start_of rule) i ∙ filled.size) in
        record {
          size = size;
          kept = λ p less ne. other p ne ∙ filled.before p less;
          numbered = λ net same shares. record {
            starts = subst (StartsAreWritten net rule) (sym one)
                (shares (start_of rule) (inl (omega arith)) (omega (arith, size)) ∙
                (ap (λ (w : List ℕ). slice_index w (start_of rule)) is
                ∙ get_or-set_same mid (start_of rule) i 0 (omega (arith, filled.size))));
            end = shares (end_of rule) (inl (omega arith)) (omega (arith, size)) ∙ (other (end_of rule) (λ e. omega arith) ∙ end_blank);
            others = λ p low high none.
                shares p (inr low) (omega (arith, size)) ∙
                (other p (λ e. omega arith) ∙ (filled.after p low high
                ∙ ap (λ (xs : List (State L)). number_by numbering.count (slice_get xs p)) (sym same)));
          };
        }
      where
        other : (p : ℕ) → p ≢ start_of rule → slice_index new p ≡ slice_index mid p
        other p ne = ap (λ (w : List ℕ). slice_index w p) is ∙ get_or-set_other mid (start_of rule) p i 0 ne

    -- the rule starts with several alternatives, which begin at these states
    pub starts_with_several : (i j : ℕ) (more firsts : List ℕ) → numbering.starts ≡ i ∷ j ∷ more
        → slice_get states (start_of rule) ≡ Some (Decision firsts) → length firsts ≡ length (i ∷ j ∷ more) →
        IsRising (length old) firsts m → new ≡ marked firsts (i ∷ j ∷ more) mid → RuleIsNumbered states old new rule numbering m
    starts_with_several i j more firsts several decides many rising is =
        let size : length new ≡ m = ap length is ∙ (length-marked firsts (i ∷ j ∷ more) mid ∙ filled.size) in
        record {
          size = size;
          kept = λ p less ne. other p (λ h. omega (arith, (inside p h).0)) ∙ filled.before p less;
          numbered = λ net same shares.
              let decision : state_at net (start_of rule) ≡ Some (Decision firsts) =
              ap (λ (xs : List (State L)). slice_get xs (start_of rule)) same ∙ decides in
              let named : map (written_at net) firsts ≡ i ∷ j ∷ more =
              same_at_each (written_at net) (slice_index new) firsts
              (λ p h. shares p (inr (inside p h).0) (omega (arith, size, (inside p h).1))) ∙
              (ap (λ (w : List ℕ). map (slice_index w) firsts) is
              ∙ marked_at (length old) firsts (i ∷ j ∷ more) m mid rising (omega (arith, filled.size)) many) in
              let clear : written_at net (start_of rule) ≡ 0 =
              shares (start_of rule) (inl (omega arith)) (omega (arith, size)) ∙
              (other (start_of rule) (λ h. omega (arith, (inside (start_of rule) h).0))
              ∙ (filled.before (start_of rule) (omega arith) ∙ blank (start_of rule) (omega arith) (omega arith))) in
              record {
                starts = subst (StartsAreWritten net rule) (sym several) (firsts, decision, named, clear);
                end = shares (end_of rule) (inl (omega arith)) (omega (arith, size))
                    ∙ (other (end_of rule) (λ h. omega (arith, (inside (end_of rule) h).0)) ∙ end_blank);
                others = λ p low high none.
                    shares p (inr low) (omega (arith, size)) ∙
                    (other p (λ h. let place = at_place firsts p h in
                    subst (λ (starts : List ℕ). StartsAt net rule starts p → ⊥) several none
                    (place.0 + 1, (firsts, place.0, decision, place.1, refl))) ∙
                    (filled.after p low high ∙ ap (λ (xs : List (State L)). number_by numbering.count (slice_get xs p)) (sym same)));
              };
        }
      where
        inside : (p : ℕ) → Among firsts p → (length old ≤ p) × (p < m)
        inside p h = rising_among (length old) firsts m p rising h

        other : (p : ℕ) → (Among firsts p → ⊥) → slice_index new p ≡ slice_index mid p
        other p non = ap (λ (w : List ℕ). slice_index w p) is ∙ marked_other firsts (i ∷ j ∷ more) mid p non

  -- what is laid where a rule starts with several alternatives
  pub record SeveralAreLaid (states : List (State L)) (rule : ℕ) (starts : List ℕ) (n m : ℕ) : Type 0 where
    pub first : ℕ
    pub second : ℕ
    pub more : List ℕ
    pub several : starts ≡ first ∷ second ∷ more
    pub firsts : List ℕ
    pub decides : slice_get states (start_of rule) ≡ Some (Decision firsts)
    pub many : length firsts ≡ length (first ∷ second ∷ more)
    pub rising : IsRising n firsts m

  -- of starts that are laid there are several, if not one
  pub several_laid : (states : List (State L)) (rule : ℕ) (starts : List ℕ) (n m : ℕ) → StartsAreLaid states rule starts n m
      → (length starts ≡ 1 → ⊥) → SeveralAreLaid states rule starts n m
  several_laid states rule [] n m laid ne = absurd laid
  several_laid states rule (i ∷ []) n m laid ne = absurd (ne refl)
  several_laid states rule (i ∷ j ∷ more) n m (firsts, decides, many, rising) ne =
      record { first = i; second = j; more = more; several = refl; firsts = firsts; decides = decides; many = many; rising = rising }

  -- the state that is read is the decision
  pub decided : (states : List (State L)) (k : ℕ) (s : State L) (firsts : List ℕ) → s ≡ get_or states k s
      → slice_get states k ≡ Some (Decision firsts) → s ≡ Decision firsts
  decided states k s firsts read decides = read ∙ get_or_from_slice_get states k (Decision firsts) s decides

  module _ (states : List (State L)) (rule : ℕ) (numbering : Numbering) (old mid starts : List ℕ) (n m : ℕ)
      (fit : CanBeNumbered states rule numbering (length old) m) (heads : end_of rule < length old)
      (blank : (p : ℕ) → start_of rule ≤ p → p ≤ end_of rule → slice_index old p ≡ 0) (first : n ≡ length old)
      (made : mid ≡ old ++ numbers_of numbering.count (between states n m)) (same : starts ≡ numbering.starts) where
    -- the numbers at the states of the rule are added
    rule_added : AreAdded states numbering.count old mid m
    rule_added = added states numbering.count old mid m fit.up fit.within
        (made ∙ ap (λ (k : ℕ). old ++ numbers_of numbering.count (between states k m)) first)

    -- the numbers of a rule that starts with one alternative
    pub one_start : (new : List ℕ) → length starts ≡ 1 → new ≡ set mid (start_of rule) (get_or starts 0 0)
        → RuleIsNumbered states old new rule numbering m
    one_start new one is = starts_with_one states rule numbering old mid new m rule_added fit.up heads blank (get_or starts 0 0)
        (sym same ∙ one_number starts one) is

    module _ (state : State L) (places firsts : List ℕ) (ne : length starts ≡ 1 → ⊥)
        (read : state ≡ get_or states (start_of rule) state) (decision : state ≡ Decision firsts) (listed : places ≡ firsts) where
      -- what is laid where it starts with several
      laid_starts : SeveralAreLaid states rule numbering.starts (length old) m
      laid_starts = several_laid states rule numbering.starts (length old) m fit.starts (λ e. ne (ap length same ∙ e))

      -- the places are their first states
      same_places : places ≡ laid_starts.firsts
      same_places = let known = decided states (start_of rule) state laid_starts.firsts read laid_starts.decides in
          let e : firsts ≡ laid_starts.firsts = cc in listed ∙ e

      -- these are places of numbers
      pub places_within : (p : ℕ) → Among places p → p < length mid
      places_within p h =
          let inside = rising_among (length old) laid_starts.firsts m p laid_starts.rising
          (subst (λ (ps : List ℕ). Among ps p) same_places h) in
          omega (arith, inside.1, rule_added.size)

      -- there are as many as starts
      pub as_many_places : length places ≡ length starts
      as_many_places = ap length same_places ∙ (laid_starts.many ∙ sym (ap length (same ∙ laid_starts.several)))

      -- the numbers of a rule that starts with several alternatives
      pub several_starts : (new : List ℕ) → new ≡ marked places starts mid → RuleIsNumbered states old new rule numbering m
      several_starts new is =
          starts_with_several states rule numbering old mid new m rule_added fit.up heads blank laid_starts.first laid_starts.second
          laid_starts.more laid_starts.firsts laid_starts.several laid_starts.decides
          laid_starts.many laid_starts.rising (is ∙ (ap (λ (ps : List ℕ). marked ps starts mid) same_places
          ∙ ap (λ (ks : List ℕ). marked laid_starts.firsts ks mid) (same ∙ laid_starts.several)))

    -- where it starts with several alternatives its start is a decision
    pub must_decide : (state : State L) {Q : Type 0} → (length starts ≡ 1 → ⊥) → state ≡ get_or states (start_of rule) state
        → ((firsts : List ℕ) → state ≡ Decision firsts → ⊥) → Q
    must_decide state ne read other =
        let laid = several_laid states rule numbering.starts (length old) m fit.starts (λ e. ne (ap length same ∙ e)) in
        absurd (other laid.firsts (decided states (start_of rule) state laid.firsts read laid.decides))

  -- no number is written yet
  pub none_written : (states : List (State L)) (old : List ℕ) (first : ℕ) (ends : List ℕ) (numberings : List Numbering)
      → AreWrittenBefore states old old first first ends ends numberings numberings
  none_written states old first ends numberings = record {
    longer = omega arith;
    kept = λ p less place. refl;
    numbered = λ net same shares rest. rest;
  }

  -- the numbers of one more rule are written
  pub one_more_written : (states : List (State L)) (old now new : List ℕ) (first rule m : ℕ) (ends rest_ends : List ℕ)
      (numberings rest : List Numbering) (numbering : Numbering) → first ≤ rule → start_of rule < length old →
      AreWrittenBefore states old now first rule ends (m ∷ rest_ends) numberings (numbering ∷ rest) → length now ≤ m
      → RuleIsNumbered states now new rule numbering m →
      AreWrittenBefore states old new first (rule + 1) ends rest_ends numberings rest
  one_more_written states old now new first rule m ends rest_ends numberings rest numbering from low so_far up one =
      let longer = so_far.longer in
      record {
        longer = omega (arith, one.size);
        kept = λ p less place. one.kept p (omega arith) (elsewhere p place) ∙ so_far.kept p less (before p place);
        numbered = λ net same shares more.
            so_far.numbered net same (λ p place less. shares p (wider p place) (omega (arith, one.size)) ∙ one.kept p less (off p place)) (
              one.numbered net same (λ p place less. shares p (inside p place) less),
              subst (λ (k : ℕ). HaveNumbers net (rule + 1) k rest_ends rest) one.size more,
            );
      }
    where
      elsewhere : (p : ℕ) → (p < start_of first) ⊎ (start_of (rule + 1) ≤ p) → p ≢ start_of rule
      elsewhere p (inl h) e = omega arith
      elsewhere p (inr h) e = omega arith

      before : (p : ℕ) → (p < start_of first) ⊎ (start_of (rule + 1) ≤ p) → (p < start_of first) ⊎ (start_of rule ≤ p)
      before p (inl h) = inl h
      before p (inr h) = inr (omega arith)

      wider : (p : ℕ) → IsBefore rule (length old) p → IsBefore (rule + 1) (length old) p
      wider p (inl h) = inl (omega arith)
      wider p (inr h) = inr h

      off : (p : ℕ) → IsBefore rule (length old) p → p ≢ start_of rule
      off p (inl h) e = omega arith
      off p (inr h) e = omega arith

      inside : (p : ℕ) → IsBefore (rule + 1) (length now) p → IsBefore (rule + 1) (length old) p
      inside p (inl h) = inl h
      inside p (inr h) = let longer = so_far.longer in inr (omega arith)

  -- there is an end for each numbering that is left
  pub end_is_left : (states : List (State L)) (rule n k : ℕ) (ends : List ℕ) (numbering : Numbering) (rest : List Numbering)
      → CanAllBeNumbered states rule n (drop k ends) (numbering ∷ rest) → k < length ends
  end_is_left states rule n zero [] numbering rest can = absurd can
  end_is_left states rule n zero (m ∷ ends) numbering rest can = omega arith
  end_is_left states rule n (suc k) [] numbering rest can = absurd can
  end_is_left states rule n (suc k) (m ∷ ends) numbering rest can = omega (arith, end_is_left states rule n k ends numbering rest can)

  -- the next rule's numbers can be written, and those of the rest
  pub next_can : (states : List (State L)) (rule n k : ℕ) (ends : List ℕ) (numberings : List Numbering) (numbering : Numbering)
      → k < length numberings → numbering ≡ get_or numberings k numbering →
      CanAllBeNumbered states rule n (drop k ends) (drop k numberings) →
      (drop k numberings ≡ numbering ∷ drop (k + 1) numberings) × (drop k ends ≡ get_or ends k 0 ∷ drop (k + 1) ends)
      × CanBeNumbered states rule numbering n (get_or ends k 0) ×
      CanAllBeNumbered states (rule + 1) (get_or ends k 0) (drop (k + 1) ends) (drop (k + 1) numberings) × (k < length ends)
  next_can states rule n k ends numberings numbering less at can =
      let these : drop k numberings ≡ numbering ∷ drop (k + 1) numberings =
      drop_more numberings k numbering less ∙ ap (λ (x : Numbering). x ∷ drop (k + 1) numberings) (sym at) in
      let known = subst (λ (xs : List Numbering). CanAllBeNumbered states rule n (drop k ends) xs) these can in
      let inside = end_is_left states rule n k ends numbering (drop (k + 1) numberings) known in
      let places : drop k ends ≡ get_or ends k 0 ∷ drop (k + 1) ends = drop_more ends k 0 inside in
      let next = subst (λ (xs : List ℕ). CanAllBeNumbered states rule n xs (numbering ∷ drop (k + 1) numberings)) places known in
      (these, places, next.0, next.1, inside)

  -- where no numbering is left, no end is, and all states have numbers
  pub none_can : (states : List (State L)) (rule n k : ℕ) (ends : List ℕ) (numberings : List Numbering) → length numberings ≤ k
      → CanAllBeNumbered states rule n (drop k ends) (drop k numberings) →
      (drop k numberings ≡ []) × (drop k ends ≡ []) × (n ≡ length states)
  none_can states rule n k ends numberings past can =
      let these : drop k numberings ≡ [] = drop_all k numberings past in
      let last = no_end states rule n (drop k ends)
      (subst (λ (xs : List Numbering). CanAllBeNumbered states rule n (drop k ends) xs) these can) in
      (these, last.0, last.1)
    where
      no_end : (states : List (State L)) (rule n : ℕ) (ends : List ℕ) → CanAllBeNumbered states rule n ends []
          → (ends ≡ []) × (n ≡ length states)
      no_end states rule n [] can = (refl, can)
      no_end states rule n (m ∷ ends) can = absurd can

  -- the states of rules whose numbers can be written are states
  pub can_within : (states : List (State L)) (rule n : ℕ) (ends : List ℕ) (numberings : List Numbering)
      → CanAllBeNumbered states rule n ends numberings → n ≤ length states
  can_within states rule n [] [] can = omega (arith, can)
  can_within states rule n [] (numbering ∷ others) can = absurd can
  can_within states rule n (m ∷ ends) [] can = absurd can
  can_within states rule n (m ∷ ends) (numbering ∷ others) can = let up = can.0.up in let within = can.0.within in omega arith

  -- all numbers are written
  pub all_written : (states : List (State L)) (old now : List ℕ) (first rule : ℕ) (ends : List ℕ) (numberings : List Numbering)
      → rule ≡ first + length numberings →
      AreWrittenBefore states old now first rule ends [] numberings [] → length now ≡ length states
      → RulesAreNumbered states old now first ends numberings
  all_written states old now first rule ends numberings last so_far size = record {
    size = size;
    kept = λ p less place. so_far.kept p less (subst (λ (k : ℕ). (p < start_of first) ⊎ (start_of k ≤ p)) (sym last) place);
    numbered = λ net same written. so_far.numbered net same (λ p place less. ap (λ (w : List ℕ). slice_index w p) written) tt;
  }

  -- where nothing is written at the starts and ends of the rules that are left, nothing is at those of the next
  pub still_blank : (states : List (State L)) (old now : List ℕ) (first rule count : ℕ) (ends rest_ends : List ℕ)
      (numberings rest : List Numbering) → AreWrittenBefore states old now first rule ends rest_ends numberings rest →
      first ≤ rule → rule < first + count → start_of (first + count) ≤ length old
      → ((p : ℕ) → start_of first ≤ p → p < start_of (first + count) → slice_index old p ≡ 0) →
      (p : ℕ) → start_of rule ≤ p → p ≤ end_of rule → slice_index now p ≡ 0
  still_blank states old now first rule count ends rest_ends numberings rest so_far from low heads blank p start end =
      so_far.kept p (omega arith) (inr start) ∙ blank p (omega arith) (omega arith)

-- the ends of rules, by how many states these have
pub same_ends : {L : Type 0} (net : Network L) (rule n : ℕ) (ends : List ℕ) (rules : List (Alternatives (Step L)))
    (numberings : List Numbering) → ends ≡ ends_from n rules → HaveNumbers net rule n ends numberings
    → AreNumbered net rule n rules numberings
same_ends net rule n ends [] [] is h = tt
same_ends net rule n ends [] (numbering ∷ others) is h = subst (λ (ms : List ℕ). HaveNumbers net rule n ms (numbering ∷ others)) is h
same_ends net rule n ends (xs ∷ more) [] is h = subst (λ (ms : List ℕ). HaveNumbers net rule n ms []) is h
same_ends net rule n ends (xs ∷ more) (numbering ∷ others) is h =
    let known = subst (λ (ms : List ℕ). HaveNumbers net rule n ms (numbering ∷ others)) is h in
    (known.0, same_ends net (rule + 1) (n + states_of_rule xs) (ends_from (n + states_of_rule xs) more) more others refl known.1)
