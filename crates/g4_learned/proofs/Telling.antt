-- What a walk along learned words tells is what SLL says, and no walk goes past END.
use Rattle.std.proofs.Common.{◌≡◌, ◌<◌, ◌≤◌, ◌+◌, ◌^◌, ◌⊎◌, inl, inr, ℕ, zero, suc, List, [], ◌∷◌, ◌++◌, All, Contains, length, take, drop, get_or, map, refl, sym, ◌∙◌, ap, subst, arith, true, add-one, drop-cons, append_assoc}
use Rattle.std.proofs.lemmas.List.{get_or-map, length-append, length-map, length-take-le, take_all, take-append-drop, take-map}
use Rattle.std.proofs.lemmas.List.Elements.{All-cons, All-get_or, All-head, All-nil, All-tail, All-take}
use Rattle.g4_tokens.specs.Symbols.{end_of_list}
use Rattle.g4_net.specs.AddedRule.{IsReady}
use Rattle.g4_net.specs.Configurations.{Config, IsRow, wildcard}
use Rattle.g4_net.specs.Lookahead.{Next, Start}
use Rattle.g4_net.specs.Network.{ParserNetwork}
use Rattle.g4_net.specs.Prediction.{Looked, SllFrom, Verdict}
use Rattle.g4_net.specs.Prediction as prediction
use Rattle.g4_net.proofs.Pigeons.{In, In-from}
use Rattle.g4_classes.specs.Classes.{IsSymbol}
use Rattle.g4_lookahead.specs.EndOfList.{After, GoesOn}
use Rattle.g4_lookahead.proofs.Apart.{after_end, stands_start}
use Rattle.g4_lookahead.proofs.Judging.{AreSame, row_of_set, sll_same}
use Rattle.g4_lookahead.proofs.Settling.{settled_sll}
use Rattle.g4_store.specs.declared.automaton.Fact.{Fact}
use Rattle.g4_store.specs.declared.automaton.Fact.TheVariants.{Cell}
use Rattle.g4_store.specs.declared.automaton.Fact.TheVariants as fact
use Rattle.g4_store.specs.declared.automaton.Led.TheVariants.{Row, End}
use Rattle.g4_store.specs.declared.automaton.Plan.{Plan}
use Rattle.g4_store.specs.declared.view.View.{View}
use Rattle.g4_store.specs.declared.walk.Walk.TheVariants as walk
use Rattle.g4_store.specs.Paths.{cells_of}
use Rattle.g4_predict.specs.Reached.{IsReached}
use Rattle.g4_predict.proofs.Reached.{AreReached, reached_next, reached_row, reached_start}
use Rattle.g4_store.specs.Walks.{Along, Came, SawAlso, Walked}
use Rattle.g4_store.specs.Walks.Along.{here, onward}
use Rattle.g4_learned.specs.Automata.{EndsAs, IsLed, LeadsTo, StartsAt, verdict_at}
use Rattle.g4_guards.specs.Levels.{AllowedAt}
use Rattle.g4_learned.specs.Stored.{ArePassed, columns_of, stored_entry}
use Rattle.g4_learned.specs.Tables.{IsStartOf, Tables, column_of}
use Rattle.g4_learned.proofs.Alike.{goes_on_same, guard_same, next_of_same, same_back}
use Rattle.g4_learned.proofs.Paths.{same_as_row}

-- a set is itself
same_self : (C : Config → Type 0) → AreSame C C
same_self C c = ((λ h. h), (λ h. h))

same_on : (C D E : Config → Type 0) → AreSame C D → AreSame D E → AreSame C E
same_on C D E one two c = ((λ h. (two c).0 ((one c).0 h)), (λ h. (one c).1 ((two c).1 h)))

-- words that end with a symbol

-- the columns of a word, where there is a last one
record IsLast (t : Tables) (w ss : List ℕ) (s : ℕ) : Type 0 where
  front : List ℕ
  symbol : ℕ
  split : w ≡ front ++ symbol ∷ []
  columns : columns_of t front ≡ ss
  column : column_of t symbol ≡ s

last_of : (t : Tables) (w ss : List ℕ) (s : ℕ) → columns_of t w ≡ ss ++ s ∷ [] → IsLast t w ss s
last_of t [] [] s e = absurd cc
last_of t [] (r ∷ rs) s e = absurd cc
last_of t (a ∷ []) [] s e = record { front = []; symbol = a; split = refl; columns = refl; column = cc }
last_of t (a ∷ b ∷ w) [] s e = absurd cc
last_of t (a ∷ w) (r ∷ rs) s e =
    let first : column_of t a ≡ r = cc in
    let rest : columns_of t w ≡ rs ++ s ∷ [] = cc in
    let last = last_of t w rs s rest in
    record {
      front = a ∷ last.front;
      symbol = last.symbol;
      split = ap (λ (xs : List ℕ). a ∷ xs) last.split;
      columns = ap (λ n. n ∷ columns_of t last.front) first ∙ ap (λ (xs : List ℕ). r ∷ xs) last.columns;
      column = last.column;
    }

none_of : (t : Tables) (w : List ℕ) → columns_of t w ≡ [] → w ≡ []
none_of t [] e = refl
none_of t (a ∷ w) e = absurd cc

All-front : (w : List ℕ) (a : ℕ) → All IsSymbol (w ++ a ∷ []) → All IsSymbol w × IsSymbol a
All-front [] a all = (All-nil IsSymbol, All-head IsSymbol a [] all)
All-front (b ∷ w) a all =
    let rest = All-front w a (All-tail IsSymbol b (w ++ a ∷ []) all) in
    (All-cons IsSymbol b w (All-head IsSymbol b (w ++ a ∷ []) all) rest.0, rest.1)

length-last : (w : List ℕ) (a : ℕ) → length (w ++ a ∷ []) ≡ suc (length w)
length-last [] a = refl
length-last (b ∷ w) a = ap suc (length-last w a)

module _ (t : Tables) where
  -- what SLL says after a walk along columns, it says before it, and the cells of the way come first in its path
  along_says : (x y : List Config) (ss : List ℕ) (fs : List (Fact (List Config))) → Along LeadsTo t x ss fs y
      → (w rest : List ℕ) (k : ℕ) (v : Verdict) (looked : List Looked) → All IsSymbol w → columns_of t w ≡ ss
      → SllFrom t.net (Contains y) rest (k + length w) v looked
      → (more : List Looked) × SllFrom t.net (Contains x) (w ++ rest) k v more
      × (cells_of x (map (stored_entry t) more) ≡ fs ++ cells_of y (map (stored_entry t) looked))
  along_says x _ _ _ here w rest k v looked symbols e says =
      let none = none_of t w e in
      let start : k + 0 ≡ k = omega arith in (
        looked,
        subst (λ (u : List ℕ). SllFrom t.net (Contains x) (u ++ rest) k v looked) (sym none)
            (subst (λ n. SllFrom t.net (Contains x) rest n v looked) start
            (subst (λ (u : List ℕ). SllFrom t.net (Contains x) rest (k + length u) v looked) none says)),
        refl,
      )
  along_says x _ _ _ (onward ss fs y s z mark along leads) w rest k v looked symbols e says =
      let last = last_of t w ss s e in
      let u = last.front in
      let a = last.symbol in
      let all = All-front u a (subst (All IsSymbol) last.split symbols) in
      let led : IsLed (Next t.net (Contains y) a) (Row z mark) = leads.each a all.1 last.column in
      let places : k + length w ≡ suc (k + length u) =
      let l : length w ≡ suc (length u) = ap length last.split ∙ length-last u a in omega arith in
      let here' : SllFrom t.net (Contains z) rest (suc (k + length u)) v looked =
      subst (λ n. SllFrom t.net (Contains z) rest n v looked) places says in
      let same = same_as_row z (Next t.net (Contains y) a) led.2 in
      let later : SllFrom t.net (Next t.net (Contains y) a) rest (suc (k + length u)) v looked =
      sll_same t.net (Contains z) (Next t.net (Contains y) a) (λ c. (same c).1) (λ c. (same c).0) rest (suc (k + length u)) v looked
      here' in
      let goes = led.1 in
      let before : SllFrom t.net (Contains y) (a ∷ rest) (k + length u) v (record { symbol = a; led = prediction.led_to z } ∷ looked) =
      prediction.goes_on v looked z (λ empty. goes.some empty) (λ i only. goes.several i only)
      (λ conflict lone. goes.clear (record { conflict = conflict; none_lone = lone })) led.2 later in
      let found = along_says x y ss fs along u (a ∷ rest) k v _ all.0 last.columns before in
      let whole : w ++ rest ≡ u ++ (a ∷ rest) = ap (λ (xs : List ℕ). xs ++ rest) last.split ∙ append_assoc u (a ∷ []) rest in
      let cells = cells_of z (map (stored_entry t) looked) in
      let one : Cell y (column_of t a) (Row z 0) ∷ cells ≡ Cell y s (Row z mark) ∷ cells =
      ap (λ n. Cell y n (Row z 0) ∷ cells) last.column ∙ ap (λ n. Cell y s (Row z n) ∷ cells) (sym led.0) in (
        found.0,
        subst (λ (xs : List ℕ). SllFrom t.net (Contains x) xs k v found.0) (sym whole) found.1,
        found.2 ∙ (ap (λ (xs : List (Fact (List Config))). fs ++ xs) one ∙ sym (append_assoc fs (Cell y s (Row z mark) ∷ []) cells)),
      )

  -- what SLL says where it ends, with one cell
  pub ends_says : (x : List Config) (C : Config → Type 0) (a code k : ℕ) (rest : List ℕ) → EndsAs (Next t.net C a) code
      → (looked : List Looked) × SllFrom t.net C (a ∷ rest) k (verdict_at code k) looked
      × (cells_of x (map (stored_entry t) looked) ≡ Cell x (column_of t a) (End code) ∷ [])
  ends_says x C a zero k rest e = (_, prediction.nothing_left e, refl)
  ends_says x C a (suc zero) k rest (several, matters) =
      (_, prediction.gives_up several matters.conflict matters.none_lone, refl)
  ends_says x C a (suc (suc i)) k rest only =
      let code : i + 2 ≡ suc (suc i) = omega arith in
      (_, prediction.one_left i only, ap (λ n. Cell x (column_of t a) (End n) ∷ []) code)

  -- a way along columns has a cell for each
  pub along_length : (x y : List Config) (ss : List ℕ) (fs : List (Fact (List Config))) → Along LeadsTo t x ss fs y → length fs ≡ length ss
  along_length x _ _ _ here = refl
  along_length x _ _ _ (onward ss fs y s z mark along leads) =
      let before = along_length x y ss fs along in
      let one = length-append fs (Cell y s (Row z mark) ∷ []) in
      let two = length-append ss (s ∷ []) in
      omega arith

  -- the start of a decision under a condition has the row of its start set there
  pub starts_so : (d condition i : ℕ) (row : List Config) → IsStartOf t d condition i → StartsAt t i row
      → IsRow row (Start t.net d (AllowedAt t.net d condition) wildcard)
  starts_so d condition i row (guard, at, guards) (e, other, at', is) =
      let same : ◌≡◌ {A = ℕ × ℕ} (e, other) (d, guard) = cc in
      row_of_set row (Start t.net d (AllowedAt t.net d guard) wildcard) (Start t.net d (AllowedAt t.net d condition) wildcard)
      (guard_same t.net d condition guard guards)
      (subst (λ (key : ℕ × ℕ). IsRow row (Start t.net key.0 (AllowedAt t.net key.0 key.1) wildcard)) same is)

  module _ (p : Plan Tables) (is_net : p.net ≡ t) where
    -- a walk to an end tells SLL's verdict, and has seen the words of its path
    pub walked_says : (d condition i code k : ℕ) (w : List ℕ) (old new : View (List Config)) → IsStartOf t d condition i → All IsSymbol w
        → Walked StartsAt LeadsTo p i (columns_of t w) old new (walk.End code k)
        → (code < 2 ^ 32) × ((facts : List (Fact (List Config))) × ArePassed t d condition w (verdict_at code k) facts
        × SawAlso facts old new × (length facts ≡ k + 2))
    walked_says d condition i code k w old new start symbols (y, fs, lt, came, ends, saw) =
        let many : length (columns_of t w) ≡ length w = length-map w (column_of t) in
        let within : k < length w = omega arith in
        let a = get_or w k 0 in
        let s = get_or (columns_of t w) k 0 in
        let symbol : IsSymbol a = All-get_or IsSymbol w k 0 within symbols in
        let column : s ≡ column_of t a = get_or-map (column_of t) w k 0 0 within in
        let leads : LeadsTo t y s (End code) = subst (λ (q : Tables). LeadsTo q y s (End code)) is_net ends in
        let led : IsLed (Next t.net (Contains y) a) (End code) = leads.each a symbol (sym column) in
        let last = ends_says y (Contains y) a code k (drop (k + 1) w) led.1 in
        let taken : length (take k w) ≡ k = length-take-le k w (omega arith) in
        let front : k ≡ 0 + length (take k w) = omega arith in
        let along : Along LeadsTo t came.first (take k (columns_of t w)) came.on y =
        subst (λ (q : Tables). Along LeadsTo q came.first (take k (columns_of t w)) came.on y) is_net came.along in
        let found = along_says came.first y (take k (columns_of t w)) came.on along (take k w) (a ∷ drop (k + 1) w) 0
        (verdict_at code k) last.0 (All-take IsSymbol k w symbols) (sym (take-map (column_of t) k w))
        (subst (λ n. SllFrom t.net (Contains y) (a ∷ drop (k + 1) w) n (verdict_at code k) last.0) front last.1) in
        let rest : drop k w ≡ a ∷ drop (k + 1) w = rw (add-one, drop-cons w k 0) in
        let whole : take k w ++ (a ∷ drop (k + 1) w) ≡ w =
        ap (λ (xs : List ℕ). take k w ++ xs) (sym rest) ∙ take-append-drop k w in
        let says : SllFrom t.net (Contains came.first) w 0 (verdict_at code k) found.0 =
        subst (λ (xs : List ℕ). SllFrom t.net (Contains came.first) xs 0 (verdict_at code k) found.0) whole found.1 in
        let first : StartsAt t i came.first = subst (λ (q : Tables). StartsAt q i came.first) is_net came.starts_so in
        let row = starts_so d condition i came.first start first in
        let C = Start t.net d (AllowedAt t.net d condition) wildcard in
        let same = same_as_row came.first C row in
        let cell = Cell y s (End code) in
        let cells : cells_of came.first (map (stored_entry t) found.0) ≡ came.on ++ cell ∷ [] =
        found.2 ∙ ap (λ (xs : List (Fact (List Config))). came.on ++ xs) (last.2 ∙ ap (λ n. Cell y n (End code) ∷ []) (sym column)) in
        let are : fs ++ cell ∷ [] ≡ fact.Start i came.first ∷ cells_of came.first (map (stored_entry t) found.0) =
        ap (λ (xs : List (Fact (List Config))). xs ++ cell ∷ []) came.facts
        ∙ ap (λ (xs : List (Fact (List Config))). fact.Start i came.first ∷ xs) (sym cells) in
        let count : length (fs ++ cell ∷ []) ≡ k + 2 =
        let one = length-append fs (cell ∷ []) in
        let two : length fs ≡ suc (length came.on) = ap length came.facts in
        let three = along_length came.first y (take k (columns_of t w)) came.on along in
        let four = length-take-le k (columns_of t w) (omega arith) in
        omega arith in (
          led.0,
          (
            fs ++ cell ∷ [],
            record {
              path = record { start = came.first; looked = found.0 };
              sll = (
                row,
                sll_same t.net (Contains came.first) C (λ c. (same c).1) (λ c. (same c).0) w 0 (verdict_at code k) found.0 says,
              );
              start = i;
              is_start = start;
              are = are;
            },
            saw,
            count,
          ),
        )

  -- SLL comes to the configurations of a row to which a way leads
  along_reached : (x y : List Config) (ss : List ℕ) (fs : List (Fact (List Config))) → Along LeadsTo t x ss fs y → (w : List ℕ)
      → All IsSymbol w → columns_of t w ≡ ss → AreReached t.net (Contains x) → AreReached t.net (Contains y)
  along_reached x _ _ _ here w symbols e all = all
  along_reached x _ _ _ (onward ss fs y s z mark along leads) w symbols e all =
      let last = last_of t w ss s e in
      let u = last.front in
      let a = last.symbol in
      let parts = All-front u a (subst (All IsSymbol) last.split symbols) in
      let led : IsLed (Next t.net (Contains y) a) (Row z mark) = leads.each a parts.1 last.column in
      reached_row t.net z (Next t.net (Contains y) a) led.2
      (reached_next t.net (Contains y) a (along_reached x y ss fs along u parts.0 last.columns all))

  -- which is the row of its own members
  along_row : (x y : List Config) (ss : List ℕ) (fs : List (Fact (List Config))) → Along LeadsTo t x ss fs y → IsRow x (Contains x)
      → IsRow y (Contains y)
  along_row x _ _ _ here is = is
  along_row x _ _ _ (onward ss fs y s z mark along leads) is =
      let (a, symbol, column) = leads.some in
      let led : IsLed (Next t.net (Contains y) a) (Row z mark) = leads.each a symbol column in
      row_of_set z (Next t.net (Contains y) a) (Contains z) (same_as_row z (Next t.net (Contains y) a) led.2) led.2

-- A walk came to a row after k symbols.
module _ (p : Plan Tables) (d condition i k : ℕ) (w : List ℕ) (old : View (List Config)) (y : List Config) (fs : List (Fact (List Config)))
    (start : IsStartOf p.net d condition i) (symbols : All IsSymbol w)
    (came : Came StartsAt LeadsTo p i (columns_of p.net w) k old y fs) where
  abbrev C : Config → Type 0
  C = Start p.net.net d (AllowedAt p.net.net d condition) wildcard

  row : IsRow came.first C
  row = starts_so p.net d condition i came.first start came.starts_so

  -- SLL comes to its configurations
  pub stopped_reached : (c : Config) → Contains y c → IsReached p.net.net c
  stopped_reached = along_reached p.net came.first y (take k (columns_of p.net w)) came.on came.along (take k w)
      (All-take IsSymbol k w symbols) (sym (take-map (column_of p.net) k w))
      (reached_row p.net.net came.first C row (reached_start p.net.net d (AllowedAt p.net.net d condition)))

  -- it is the row of its own members
  pub stopped_row : IsRow y (Contains y)
  stopped_row = along_row p.net came.first y (take k (columns_of p.net w)) came.on came.along
      (row_of_set came.first C (Contains came.first) (same_as_row came.first C row) row)

  -- what SLL says from there on makes its path, with the words of the walk
  pub stopped_says : k ≤ length w → (v : Verdict) (looked : List Looked) → SllFrom p.net.net (Contains y) (drop k w) k v looked
      → ArePassed p.net d condition w v (fs ++ cells_of y (map (stored_entry p.net) looked))
  stopped_says le v looked says =
      let taken : length (take k w) ≡ k = length-take-le k w le in
      let front : k ≡ 0 + length (take k w) = omega arith in
      let found = along_says p.net came.first y (take k (columns_of p.net w)) came.on came.along (take k w) (drop k w) 0 v looked
      (All-take IsSymbol k w symbols) (sym (take-map (column_of p.net) k w))
      (subst (λ n. SllFrom p.net.net (Contains y) (drop k w) n v looked) front says) in
      let whole : SllFrom p.net.net (Contains came.first) w 0 v found.0 =
      subst (λ (xs : List ℕ). SllFrom p.net.net (Contains came.first) xs 0 v found.0) (take-append-drop k w) found.1 in
      let same = same_as_row came.first C row in
      let cells = cells_of y (map (stored_entry p.net) looked) in
      record {
        path = record { start = came.first; looked = found.0 };
        sll = (row, sll_same p.net.net (Contains came.first) C (λ c. (same c).1) (λ c. (same c).0) w 0 v found.0 whole);
        start = i;
        is_start = start;
        are =
            ap (λ (xs : List (Fact (List Config))). xs ++ cells) came.facts
            ∙ ap (λ (xs : List (Fact (List Config))). fact.Start i came.first ∷ xs) (sym found.2);
      }

-- words with END

In-last : (x : ℕ) (w : List ℕ) (a : ℕ) → In x (w ++ a ∷ []) → In x w ⊎ (x ≡ a)
In-last x [] a (inl is) = inr is
In-last x [] a (inr none) = absurd none
In-last x (b ∷ w) a (inl is) = inl (inl is)
In-last x (b ∷ w) a (inr i) = elim (In-last x w a i) [ inl j ↦ inl (inr j) | inr e ↦ inr e ]

after_last : (net : ParserNetwork) (C : Config → Type 0) (w : List ℕ) (a : ℕ)
    → AreSame (After net C (w ++ a ∷ [])) (Next net (After net C w) a)
after_last net C [] a = same_self (Next net C a)
after_last net C (b ∷ w) a = after_last net (Next net C b) w a

module _ (t : Tables) (C : Config → Type 0) (no_further : (w : List ℕ) → GoesOn (After t.net C (w ++ end_of_list ∷ [])) → ⊥) where
  -- a walk comes to the set after its word, which is without END
  along_stops : (x y : List Config) (ss : List ℕ) (fs : List (Fact (List Config))) → Along LeadsTo t x ss fs y
      → AreSame (Contains x) C → (w : List ℕ) → All IsSymbol w → columns_of t w ≡ ss
      → AreSame (Contains y) (After t.net C w) × (In end_of_list w → ⊥)
  along_stops x _ _ _ here first w symbols e =
      let none = none_of t w e in (
        subst (λ (u : List ℕ). AreSame (Contains x) (After t.net C u)) (sym none) first,
        (λ i. let never : In end_of_list [] = subst (In end_of_list) none i in absurd never),
      )
  along_stops x _ _ _ (onward ss fs y s z mark along leads) first w symbols e =
      let last = last_of t w ss s e in
      let u = last.front in
      let a = last.symbol in
      let all = All-front u a (subst (All IsSymbol) last.split symbols) in
      let before = along_stops x y ss fs along first u all.0 last.columns in
      let led : IsLed (Next t.net (Contains y) a) (Row z mark) = leads.each a all.1 last.column in
      let next : AreSame (Next t.net (Contains y) a) (Next t.net (After t.net C u) a) =
      next_of_same t.net a (Contains y) (After t.net C u) before.0 in
      let after : AreSame (Next t.net (Contains y) a) (After t.net C (u ++ a ∷ [])) =
      same_on (Next t.net (Contains y) a) (Next t.net (After t.net C u) a) (After t.net C (u ++ a ∷ [])) next
      (same_back (After t.net C (u ++ a ∷ [])) (Next t.net (After t.net C u) a) (after_last t.net C u a)) in
      let here' : AreSame (Contains z) (After t.net C (u ++ a ∷ [])) =
      same_on (Contains z) (Next t.net (Contains y) a) (After t.net C (u ++ a ∷ []))
      (same_back (Next t.net (Contains y) a) (Contains z) (same_as_row z (Next t.net (Contains y) a) led.2)) after in
      let goes : GoesOn (After t.net C (u ++ a ∷ [])) =
      goes_on_same (Next t.net (Contains y) a) (After t.net C (u ++ a ∷ [])) after led.1 in (
        subst (λ (xs : List ℕ). AreSame (Contains z) (After t.net C xs)) (sym last.split) here',
        (λ i. elim (In-last end_of_list u a (subst (In end_of_list) last.split i)) [
          | inl earlier ↦ before.1 earlier
          | inr is ↦ no_further u (subst (λ n. GoesOn (After t.net C (u ++ n ∷ []))) (sym is) goes)
        ]),
      )

-- so a walk along a word with END does not come past it
pub not_open : (p : Plan Tables) (t : Tables) (d condition i : ℕ) (w : List ℕ) (old new : View (List Config)) → p.net ≡ t → IsReady t.net
    → IsStartOf t d condition i → All IsSymbol w → Contains w end_of_list
    → Walked StartsAt LeadsTo p i (columns_of t w) old new walk.Open → ⊥
not_open p t d condition i w old new is_net (rule, loop, set, runnable) start symbols ends (y, fs, came, saw) =
    let C = Start t.net d (AllowedAt t.net d condition) wildcard in
    let first : StartsAt t i came.first = subst (λ (q : Tables). StartsAt q i came.first) is_net came.starts_so in
    let row = starts_so t d condition i came.first start first in
    let no_further : (u : List ℕ) → GoesOn (After t.net C (u ++ end_of_list ∷ [])) → ⊥ = λ u.
    settled_sll 1 wildcard (After t.net C (u ++ end_of_list ∷ []))
    (after_end t.net rule loop true C runnable.apart
    (stands_start t.net rule loop d (AllowedAt t.net d condition) wildcard runnable.apart (record { alone = λ i. refl; apart = tt })) u) in
    let all : take (length (columns_of t w)) (columns_of t w) ≡ columns_of t w =
    take_all (length (columns_of t w)) (columns_of t w) (omega arith) in
    let along : Along LeadsTo t came.first (columns_of t w) came.on y =
    subst (λ (xs : List ℕ). Along LeadsTo t came.first xs came.on y) all
    (subst (λ (q : Tables). Along LeadsTo q came.first (take (length (columns_of t w)) (columns_of t w)) came.on y) is_net came.along) in
    (along_stops t C no_further came.first y (columns_of t w) came.on along
    (same_back C (Contains came.first) (same_as_row came.first C row)) w symbols refl).1
    (In-from w end_of_list ends.0 ends.1 ends.2)
