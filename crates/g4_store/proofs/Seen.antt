-- A walk along words that the pass has seen ends where they end, and of a way to an end no walk leaves it.
use Rattle.std.proofs.Common.{◌≡◌, ℕ, zero, suc, ◌<◌, ◌≤◌, List, [], ◌∷◌, ◌++◌, length, take, get_or, refl, sym, ap, ◌∙◌, subst, inl, inr, arith, length-append}
use native.Mathlib.Decide.{dec_le}
use mathlib.Core.Logic.{dite}
use Rattle.g4_store.specs.declared.automaton.Led.{Led}
use Rattle.g4_store.specs.declared.automaton.Led.TheVariants.{Row, End as ends}
use Rattle.g4_store.specs.declared.automaton.Fact.{Fact}
use Rattle.g4_store.specs.declared.automaton.Fact.TheVariants.{Start, Cell}
use Rattle.g4_store.specs.declared.automaton.Plan.{Plan}
use Rattle.g4_store.specs.declared.view.View.{View}
use Rattle.g4_store.specs.declared.walk.Walk.{Walk}
use Rattle.g4_store.specs.declared.walk.Walk.TheVariants.{End, Open, NotLearned}
use Rattle.g4_store.specs.Numbers.{Among}
use Rattle.g4_store.specs.Walks.{Along, Came, Walked, SeenTo}
use Rattle.g4_store.specs.Walks.Along.{here, onward}
use Rattle.g4_store.proofs.Lists.{get_front, get_end, among_either, among_left, among_right}

take_front : (xs ys : List ℕ) (j : ℕ) → j ≤ length xs → take j (xs ++ ys) ≡ take j xs
take_front xs ys zero le = refl
take_front [] ys (suc j) le = absurd (omega arith)
take_front (x ∷ xs) ys (suc j) le = ap (λ l. x ∷ l) (take_front xs ys j (omega arith))

take_all : (xs : List ℕ) → take (length xs) xs ≡ xs
take_all [] = refl
take_all (x ∷ xs) = ap (λ l. x ∷ l) (take_all xs)

take_take : (xs : List ℕ) (j k : ℕ) → j ≤ k → take j (take k xs) ≡ take j xs
take_take xs zero k le = refl
take_take [] (suc j) zero le = absurd (omega arith)
take_take [] (suc j) (suc k) le = refl
take_take (x ∷ xs) (suc j) zero le = absurd (omega arith)
take_take (x ∷ xs) (suc j) (suc k) le = ap (λ l. x ∷ l) (take_take xs j k (omega arith))

get_take : (xs : List ℕ) (j k : ℕ) → j < k → get_or (take k xs) j 0 ≡ get_or xs j 0
get_take xs j zero lt = absurd (omega arith)
get_take [] j (suc k) lt = refl
get_take (x ∷ xs) zero (suc k) lt = refl
get_take (x ∷ xs) (suc j) (suc k) lt = get_take xs j k (omega arith)

length_take : (xs : List ℕ) (k : ℕ) → k ≤ length xs → length (take k xs) ≡ k
length_take xs zero le = refl
length_take [] (suc k) le = absurd (omega arith)
length_take (x ∷ xs) (suc k) le = ap suc (length_take xs k (omega arith))

snoc_one : (xs ys : List ℕ) (s t : ℕ) → xs ++ s ∷ [] ≡ ys ++ t ∷ [] → (xs ≡ ys) × (s ≡ t)
snoc_one xs ys s t e =
    let n : length xs ≡ length ys = let a = ap length e in let b = length-append xs (s ∷ []) in let c = length-append ys (t ∷ []) in
    omega arith in (
      sym (take_all xs) ∙ sym (take_front xs (s ∷ []) (length xs) (omega arith)) ∙ (λ i. take (n i) (e i))
          ∙ take_front ys (t ∷ []) (length ys) (omega arith) ∙ take_all ys,
      sym (get_end xs s) ∙ (λ i. get_or (e i) (n i) 0) ∙ get_end ys t,
    )

not_row : {C : Type 0} {A : Type 0} (y : C) (m c : ℕ) → Row y m ≡ ends c → A
not_row {C} {A} y m c e = absurd (subst {A = Led C} is_row e tt)
  where
    is_row : Led C → Type 0
    is_row (Row z n) = Unit {0}
    is_row (ends d) = ⊥

code_of : {C : Type 0} → Led C → ℕ
code_of (Row z n) = 0
code_of (ends d) = d

row_of : {C : Type 0} (y z : C) (m n : ℕ) → Row y m ≡ Row z n → y ≡ z
row_of {C} y z m n e = ap content e
  where
    content : Led C → C
    content (Row x k) = x
    content (ends d) = y

module _ {N C : Type 0} (leads : N → C → ℕ → Led C → Type 0) where
  -- at each column on the way a cell leads on
  along_cut : (net : N) (x : C) (ss : List ℕ) (fs : List (Fact C)) (y : C) → Along leads net x ss fs y → (j : ℕ) → j < length ss
      → (z w : C) × (m : ℕ) × (gs : List (Fact C)) × Along leads net x (take j ss) gs z × leads net z (get_or ss j 0) (Row w m)
      × Among (Cell z (get_or ss j 0) (Row w m)) fs
  along_cut net x _ _ _ here j lt = absurd (omega arith)
  along_cut net x _ _ _ (onward ss fs y s z m a l) j lt = dite (dec_le (suc j) (length ss))
      (λ (le : suc j ≤ length ss).
      let r = along_cut net x ss fs y a j (omega arith) in
      let g : get_or ss j 0 ≡ get_or (ss ++ s ∷ []) j 0 = sym (get_front ss (s ∷ []) j (omega arith)) in
      let t : take j ss ≡ take j (ss ++ s ∷ []) = sym (take_front ss (s ∷ []) j (omega arith)) in (
        r.0,
        r.1,
        r.2,
        r.3,
        subst (λ (q : List ℕ). Along leads net x q r.3 r.0) t r.4,
        subst (λ (q : ℕ). leads net r.0 q (Row r.1 r.2)) g r.5,
        among_left _ fs (Cell y s (Row z m) ∷ []) (subst (λ (q : ℕ). Among (Cell r.0 q (Row r.1 r.2)) fs) g r.6),
      ))
      (λ (ge : ¬ (suc j ≤ length ss)).
      let is : j ≡ length ss = let n = length-append ss (s ∷ []) in omega arith in
      let g : s ≡ get_or (ss ++ s ∷ []) j 0 = sym (ap (λ (k : ℕ). get_or (ss ++ s ∷ []) k 0) is ∙ get_end ss s) in
      let t : ss ≡ take j (ss ++ s ∷ []) = sym (ap (λ (k : ℕ). take k (ss ++ s ∷ [])) is
      ∙ take_front ss (s ∷ []) (length ss) (omega arith) ∙ take_all ss) in (
        y,
        z,
        m,
        fs,
        subst (λ (q : List ℕ). Along leads net x q fs y) t a,
        subst (λ (q : ℕ). leads net y q (Row z m)) g l,
        among_right _ fs (Cell y s (Row z m) ∷ []) (inl (ap (λ (q : ℕ). Cell y q (Row z m)) (sym g))),
      ))

  -- A cell on the way is at one of the columns, and leads on.
  record IsOnWay (net : N) (x : C) (ss : List ℕ) (f : Fact C) : Type 0 where
    place : ℕ
    within : place < length ss
    from : C
    to : C
    mark : ℕ
    before : List (Fact C)
    along : Along leads net x (take place ss) before from
    leads_on : leads net from (get_or ss place 0) (Row to mark)
    is : f ≡ Cell from (get_or ss place 0) (Row to mark)

  -- so is each of them
  along_each : (net : N) (x : C) (ss : List ℕ) (fs : List (Fact C)) (y : C) → Along leads net x ss fs y → (f : Fact C) → Among f fs
      → IsOnWay net x ss f
  along_each net x _ _ _ here f m = absurd m
  along_each net x _ _ _ (onward ss fs y s z mark a l) f m = elim (among_either f fs (Cell y s (Row z mark) ∷ []) m) [
    | inl early ↦
        let r = along_each net x ss fs y a f early in
        let n = length-append ss (s ∷ []) in
        let lt = r.within in
        let g : get_or ss r.place 0 ≡ get_or (ss ++ s ∷ []) r.place 0 = sym (get_front ss (s ∷ []) r.place lt) in
        let t : take r.place ss ≡ take r.place (ss ++ s ∷ []) = sym (take_front ss (s ∷ []) r.place (omega arith)) in
        record {
          place = r.place;
          within = omega arith;
          from = r.from;
          to = r.to;
          mark = r.mark;
          before = r.before;
          along = subst (λ (q : List ℕ). Along leads net x q r.before r.from) t r.along;
          leads_on = subst (λ (q : ℕ). leads net r.from q (Row r.to r.mark)) g r.leads_on;
          is = r.is ∙ ap (λ (q : ℕ). Cell r.from q (Row r.to r.mark)) g;
        }
    | inr last ↦
        let n = length-append ss (s ∷ []) in
        let g : s ≡ get_or (ss ++ s ∷ []) (length ss) 0 = sym (get_end ss s) in
        let t : ss ≡ take (length ss) (ss ++ s ∷ []) = sym (take_front ss (s ∷ []) (length ss) (omega arith) ∙ take_all ss) in
        record {
          place = length ss;
          within = omega arith;
          from = y;
          to = z;
          mark = mark;
          before = fs;
          along = subst (λ (q : List ℕ). Along leads net x q fs y) t a;
          leads_on = subst (λ (q : ℕ). leads net y q (Row z mark)) g l;
          is = only last ∙ ap (λ (q : ℕ). Cell y q (Row z mark)) g;
        }
  ]
    where
      only : Among f (Cell y s (Row z mark) ∷ []) → f ≡ Cell y s (Row z mark)
      only (inl e) = e
      only (inr none) = absurd none

module _ {N C : Type 0} (starts : N → ℕ → C → Type 0) (leads : N → C → ℕ → Led C → Type 0)
    (one_start : (net : N) (i : ℕ) (x y : C) → starts net i x → starts net i y → x ≡ y)
    (one_led : (net : N) (x : C) (s : ℕ) (a b : Led C) → leads net x s a → leads net x s b → a ≡ b) where
  -- the same columns lead to one content
  along_one : (net : N) (x : C) (ss : List ℕ) (fs : List (Fact C)) (y : C) (ts : List ℕ) (gs : List (Fact C)) (z : C)
      → Along leads net x ss fs y → Along leads net x ts gs z → ss ≡ ts → y ≡ z
  along_one net x _ _ _ _ _ _ here here e = refl
  along_one net x _ _ _ _ _ _ here (onward ts gs z t w n b m) e =
      absurd (let a = ap length e in let c = length-append ts (t ∷ []) in omega arith)
  along_one net x _ _ _ _ _ _ (onward ss fs y s v m a l) here e =
      absurd (let b = ap length e in let c = length-append ss (s ∷ []) in omega arith)
  along_one net x _ _ _ _ _ _ (onward ss fs y s v m a l) (onward ts gs z t w n b k) e =
      let one = snoc_one ss ts s t e in
      let same = along_one net x ss fs y ts gs z a b one.0 in
      row_of v w m n (one_led net z t (Row v m) (Row w n) (subst (λ (q : C × ℕ). leads net q.0 q.1 (Row v m)) (λ i. (same i, one.1 i)) l) k)

  came_one : (p : Plan N) (i : ℕ) (cs : List ℕ) (k : ℕ) (old : View C) (y z : C) (fs gs : List (Fact C))
      → Came starts leads p i cs k old y fs → Came starts leads p i cs k old z gs → y ≡ z
  came_one p i cs k old y z fs gs a b = along_one p.net b.first (take k cs) a.on y (take k cs) b.on z
      (subst (λ (q : C). Along leads p.net q (take k cs) a.on y) (one_start p.net i a.first b.first a.starts_so b.starts_so) a.along)
      b.along refl

  -- where the walk was before
  came_cut : (p : Plan N) (i : ℕ) (cs : List ℕ) (k j : ℕ) (old : View C) (y : C) (fs : List (Fact C)) → k ≤ length cs → j < k
      → Came starts leads p i cs k old y fs
      → (z w : C) × (m : ℕ) × (gs : List (Fact C)) × Came starts leads p i cs j old z gs × leads p.net z (get_or cs j 0) (Row w m)
      × Among (Cell z (get_or cs j 0) (Row w m)) fs
  came_cut p i cs k j old y fs le lt a =
      let r = along_cut leads p.net a.first (take k cs) a.on y a.along j (let n = length_take cs k le in omega arith) in
      let g = get_take cs j k lt in (
        r.0,
        r.1,
        r.2,
        Start i a.first ∷ r.3,
        record {
          first = a.first;
          starts_so = a.starts_so;
          on = r.3;
          along = subst (λ (q : List ℕ). Along leads p.net a.first q r.3 r.0) (take_take cs j k (omega arith)) r.4;
          facts = refl;
        },
        subst (λ (q : ℕ). leads p.net r.0 q (Row r.1 r.2)) g r.5,
        subst (λ (l : List (Fact C)). Among (Cell r.0 (get_or cs j 0) (Row r.1 r.2)) l) (sym a.facts)
            (inr (subst (λ (q : ℕ). Among (Cell r.0 q (Row r.1 r.2)) a.on) g r.6)),
      )

  -- the walk can't go on past an end
  no_end : (p : Plan N) (i : ℕ) (cs : List ℕ) (k j code : ℕ) (old : View C) (y z : C) (fs gs : List (Fact C)) {A : Type 0}
      → k ≤ length cs → j < k → Came starts leads p i cs k old y fs → Came starts leads p i cs j old z gs
      → leads p.net z (get_or cs j 0) (ends code) → A
  no_end p i cs k j code old y z fs gs {A} le lt a b l =
      let r = came_cut p i cs k j old y fs le lt a in
      let same = came_one p i cs j old r.0 z r.3 gs r.4 b in
      not_row r.1 r.2 code (one_led p.net z (get_or cs j 0) (Row r.1 r.2) (ends code)
      (subst (λ (q : C). leads p.net q (get_or cs j 0) (Row r.1 r.2)) same r.5) l)

  -- of a walk along the columns of a way to an end, each fact is one of the way's
  pub came_within : (p : Plan N) (i : ℕ) (cs : List ℕ) (k j code : ℕ) (old : View C) (y z : C) (fs gs : List (Fact C)) → k < length cs
      → j ≤ length cs → Came starts leads p i cs k old y fs → leads p.net y (get_or cs k 0) (ends code)
      → Came starts leads p i cs j old z gs → (f : Fact C) → Among f gs → Among f (fs ++ Cell y (get_or cs k 0) (ends code) ∷ [])
  came_within p i cs k j code old y z fs gs lt le way l came f m = first (subst (λ (q : List (Fact C)). Among f q) came.facts m)
    where
      last : List (Fact C)
      last = Cell y (get_or cs k 0) (ends code) ∷ []

      on_way : IsOnWay leads p.net came.first (take j cs) f → Among f fs
      on_way r =
          let n = length_take cs j le in
          let lt' = r.within in
          let m : ℕ = r.place in
          let g : get_or (take j cs) m 0 ≡ get_or cs m 0 = get_take cs m j (omega arith) in
          let here' : Came starts leads p i cs m old r.from (Start i came.first ∷ r.before) = record {
            first = came.first;
            starts_so = came.starts_so;
            on = r.before;
            along = subst (λ (q : List ℕ). Along leads p.net came.first q r.before r.from) (take_take cs m j (omega arith)) r.along;
            facts = refl;
          } in
          let to : leads p.net r.from (get_or cs m 0) (Row r.to r.mark) =
          subst (λ (q : ℕ). leads p.net r.from q (Row r.to r.mark)) g r.leads_on in
          dite (dec_le (suc m) k)
          (λ (before : suc m ≤ k).
          let c = came_cut p i cs k m old y fs (omega arith) (omega arith) way in
          let same : c.0 ≡ r.from = came_one p i cs m old c.0 r.from c.3 (Start i came.first ∷ r.before) c.4 here' in
          let led : Row c.1 c.2 ≡ Row r.to r.mark = one_led p.net r.from (get_or cs m 0) (Row c.1 c.2) (Row r.to r.mark)
          (subst (λ (q : C). leads p.net q (get_or cs m 0) (Row c.1 c.2)) same c.5) to in
          let is : Cell c.0 (get_or cs m 0) (Row c.1 c.2) ≡ f =
          ap (λ (q : C). Cell q (get_or cs m 0) (Row c.1 c.2)) same ∙ (ap (λ (q : Led C). Cell r.from (get_or cs m 0) q) led
          ∙ (ap (λ (q : ℕ). Cell r.from q (Row r.to r.mark)) (sym g) ∙ sym r.is)) in
          subst (λ (q : Fact C). Among q fs) is c.6)
          (λ (after : ¬ (suc m ≤ k)).
          no_end p i cs j k code old z y gs fs le (omega arith) came way l)

      first : Among f (Start i came.first ∷ came.on) → Among f (fs ++ last)
      first (inl e) =
          let same : Start i came.first ≡ Start i way.first =
          ap (λ (q : C). Start i q) (one_start p.net i came.first way.first came.starts_so way.starts_so) in
          among_left f fs last (subst (λ (q : List (Fact C)). Among f q) (sym way.facts) (inl (e ∙ same)))
      first (inr on) = among_left f fs last (on_way (along_each leads p.net came.first (take j cs) came.on z came.along f on))

  pub walked_seen : (p : Plan N) (i : ℕ) (cs : List ℕ) (old new : View C) (r : Walk) (k code : ℕ)
      → SeenTo starts leads p i cs k code old → Walked starts leads p i cs old new r → r ≡ End code k
  unfolding code_of
  walked_seen p i cs old new (End d j) k code s (z, gs, lt, came, l, also) = go (dec_le (suc k) j) (dec_le (suc j) k)
    where
      go : Dec (suc k ≤ j) → Dec (suc j ≤ k) → End d j ≡ End code k
      go (yes a) n = no_end p i cs j k code old z s.y gs s.facts (omega arith) (omega arith) came s.came s.leads_so
      go (no a) (yes b) = let t = s.within in no_end p i cs k j d old s.y z s.facts gs (omega arith) (omega arith) s.came came l
      go (no a) (no b) =
          let is : j ≡ k = omega arith in
          let same = came_one p i cs k old z s.y gs s.facts (subst (λ (q : ℕ). Came starts leads p i cs q old z gs) is came) s.came in
          let codes : d ≡ code = ap code_of (one_led p.net s.y (get_or cs k 0) (ends d) (ends code)
          (subst (λ (q : C × ℕ). leads p.net q.0 (get_or cs q.1 0) (ends d)) (λ i. (same i, is i)) l) s.leads_so) in
          λ i. End (codes i) (is i)
  walked_seen p i cs old new Open k code s (z, gs, came, also) = let t = s.within in
      no_end p i cs (length cs) k code old z s.y gs s.facts (omega arith) t came s.came s.leads_so
  walked_seen p i cs old new (NotLearned zero) k code s (none, also, last) =
      absurd (none s.came.first (s.seen (Start i s.came.first)
      (among_left (Start i s.came.first) s.facts (Cell s.y (get_or cs k 0) (ends code) ∷ [])
      (subst (λ (l : List (Fact C)). Among (Start i s.came.first) l) (sym s.came.facts) (inl refl)))))
  walked_seen p i cs old new (NotLearned (suc j)) k code s (z, gs, lt, came, none, also, last) = go (dec_le (suc k) j) (dec_le (suc j) k)
    where
      go : Dec (suc k ≤ j) → Dec (suc j ≤ k) → NotLearned (suc j) ≡ End code k
      go (yes a) n = no_end p i cs j k code old z s.y gs s.facts (omega arith) (omega arith) came s.came s.leads_so
      go (no a) (yes b) =
          let t = s.within in
          let r = came_cut p i cs k j old s.y s.facts (omega arith) (omega arith) s.came in
          let same = came_one p i cs j old r.0 z r.3 gs r.4 came in
          absurd (none (Row r.1 r.2) ((also (Cell z (get_or cs j 0) (Row r.1 r.2))).1
          (inl (s.seen (Cell z (get_or cs j 0) (Row r.1 r.2))
          (among_left (Cell z (get_or cs j 0) (Row r.1 r.2)) s.facts (Cell s.y (get_or cs k 0) (ends code) ∷ [])
          (subst (λ (q : C). Among (Cell q (get_or cs j 0) (Row r.1 r.2)) s.facts) same r.6))))))
      go (no a) (no b) =
          let is : j ≡ k = omega arith in
          let same = came_one p i cs k old z s.y gs s.facts (subst (λ (q : ℕ). Came starts leads p i cs q old z gs) is came) s.came in
          absurd (none (ends code) ((also (Cell z (get_or cs j 0) (ends code))).1
          (inl (s.seen (Cell z (get_or cs j 0) (ends code))
          (among_right (Cell z (get_or cs j 0) (ends code)) s.facts (Cell s.y (get_or cs k 0) (ends code) ∷ [])
          (inl (λ i. Cell (same i) (get_or cs (is i) 0) (ends code))))))))
