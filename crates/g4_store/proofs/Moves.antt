-- Splits and joins keep the rule.
use Rattle.std.proofs.Common.{◌≡◌, ◌≢◌, ◌⊎◌, ◌↔◌, ℕ, zero, suc, ◌+◌, ◌<◌, ◌≤◌, ◌==◌, ◌||◌, List, [], ◌∷◌, ◌++◌, length, set, get_or, if◌then◌else◌, Bool, true, false, true≢false, refl, sym, ap, ◌∙◌, subst, inl, inr, ⊎_elim, arith}
use Rattle.std.proofs.lemmas.Bool.Decides.{nat_tests}
use Rattle.std.proofs.lemmas.List.{length-set}
use native.Mathlib.Decide.{ℕ_discrete}
use mathlib.Core.Logic.{dite}
use mathlib.Core.Option.{some, some-ne-none, some-injective}
use lib.ListN.{get_elem?}
use Rattle.atomic_table.specs.Table.{Splits, Joins}
use Rattle.atomic_table.proofs.Lists.{at_set, set_else, at_longer, at_last}
use Rattle.g4_store.specs.declared.automaton.Led.{Led}
use Rattle.g4_store.specs.declared.automaton.Fact.{Fact}
use Rattle.g4_store.specs.declared.automaton.Fact.TheVariants.{Start, Cell}
use Rattle.g4_store.specs.declared.automaton.Plan.{Plan}
use Rattle.g4_store.specs.declared.view.View.{View}
use Rattle.g4_store.specs.Numbers.{Among, has, union}
use Rattle.g4_store.specs.Words.{size_of, cell_at, start_at, Stands}
use Rattle.g4_store.specs.Views.{opening_view, gone, count_of, hosting, without_guest, guest_of, numbered, told_guest, leading, copied, met, IsWhole, IsNamed, Knows, IsKept, Kept, Rule}
use Rattle.g4_store.proofs.Lists.{at_union, left_union, right_union, set_there, at_append, among_left, among_right}
use Rattle.g4_store.proofs.Views.{each_set, each_longer, kept_set, kept_longer}

module _ {C : Type 0} where
  join_parts : (views : List (View C)) (id other : ℕ) (both u : View C) → ¬ (other ≡ id)
      → get_elem? (set views id both) other ≡ some u → get_elem? views other ≡ some u
  join_parts views id other both u apart there =
      ⊎_elim (λ (t : (other ≡ id) × (both ≡ u)). absurd (apart t.0)) (λ (t : (other ≢ id) × (get_elem? views other ≡ some u)). t.1)
      (at_set views id other both u there)

  counts : (v u : View C) (count : ℕ) (b : Bool) → has 0 v.holds ≡ b → (has 0 v.holds ≡ true → v.count ≡ count)
      → (has 0 v.holds ≡ false → u.count ≡ count) → count_of v u ≡ count
  counts v u count true is mine theirs = ap (λ (b : Bool). if b then v.count else u.count) is ∙ mine is
  counts v u count false is mine theirs = ap (λ (b : Bool). if b then v.count else u.count) is ∙ theirs is

  -- the n-th row and those after it, with their numbers
  pub at_numbered : (n : ℕ) (xs : List C) (t : ℕ) (y : C) → Among (t, y) (numbered n xs) → (k : ℕ) × (t ≡ n + k) × (get_elem? xs k ≡ some y)
  at_numbered n [] t y m = absurd m
  at_numbered n (x ∷ xs) t y (inl e) = (0, ap (λ q. q.0) e ∙ (let z : n ≡ n + 0 = omega arith in z), ap some (sym (ap (λ q. q.1) e)))
  at_numbered n (x ∷ xs) t y (inr m) = let r = at_numbered (suc n) xs t y m in (suc r.0, (let a = r.1 in omega arith), r.2)

  pub numbered_at : (n : ℕ) (xs : List C) (k : ℕ) (y : C) → get_elem? xs k ≡ some y → Among (n + k, y) (numbered n xs)
  numbered_at n [] k y e = absurd (some-ne-none y (sym e))
  numbered_at n (x ∷ xs) zero y e = inl (let z : n + 0 ≡ n = omega arith in λ i. (z i, some-injective _ _ (sym e) i))
  numbered_at n (x ∷ xs) (suc k) y e = inr (subst (λ (j : ℕ). Among (j, y) (numbered (suc n) xs))
      (let z : suc n + k ≡ n + suc k = omega arith in z) (numbered_at (suc n) xs k y e))

-- the numbers in this list go to the seat `to`
moved : List ℕ → ℕ → (ℕ → ℕ) → ℕ → ℕ
moved holds to holder n = if has n holds then to else holder n

moved_in : (holds : List ℕ) (to : ℕ) (holder : ℕ → ℕ) (n : ℕ) → has n holds ≡ true → moved holds to holder n ≡ to
unfolding moved
moved_in holds to holder n h = ap (λ b. if b then to else holder n) h

moved_out : (holds : List ℕ) (to : ℕ) (holder : ℕ → ℕ) (n : ℕ) → has n holds ≡ false → moved holds to holder n ≡ holder n
unfolding moved
moved_out holds to holder n h = ap (λ b. if b then to else holder n) h

moved_to : (holds : List ℕ) (id : ℕ) (holder : ℕ → ℕ) (n : ℕ) → holder n ≡ id → moved holds id holder n ≡ id
unfolding moved
moved_to holds id holder n e = go (has n holds)
  where
    go : (b : Bool) → (if b then id else holder n) ≡ id
    go true = refl
    go false = e

pub not_true : (b : Bool) → (b ≡ true → ⊥) → b ≡ false
not_true true n = absurd (n refl)
not_true false n = refl

nothing : (i : ℕ) → has i [] ≡ true → ⊥
nothing i e = absurd (true≢false (sym e))

off : {A : Type 0} → false ≡ true → A
off e = absurd (true≢false (sym e))

is_one : (n c : ℕ) → has n (c ∷ []) ≡ true → n ≡ c
is_one n c e = go (n == c) refl e
  where
    go : (b : Bool) → (n == c) ≡ b → b || false ≡ true → n ≡ c
    go true is e = grind (arith, nat_tests)
    go false is e = off e

not_one : (n c : ℕ) → n < c → has n (c ∷ []) ≡ false
not_one n c lt = not_true (has n (c ∷ [])) (λ e. let is = is_one n c e in omega arith)

module _ {S N C : Type 0} (starts : N → ℕ → C → Type 0) (leads : N → C → ℕ → Led C → Type 0) where
  -- a seat's numbers and what it saw go to a new seat
  gives_off : (p : Plan N) (id : ℕ) (v left right : View C) → v.spent ≡ false → left.holds ≡ []
      → (left.spent ≡ false → (left.is_book ≡ v.is_book) × (left.rows ≡ v.rows) × (left.loose ≡ []) × (v.loose ≡ [])
      × (left.taught ≡ []) × (left.seen ≡ []) × (left.known ≡ []) × (left.facts ≡ v.facts))
      → right.spent ≡ false → right.is_book ≡ false → right.holds ≡ v.holds → right.count ≡ v.count → right.seen ≡ v.seen
      → right.taught ≡ v.taught
      → ((rows : List C) → (v.is_book ≡ true → v.rows ≡ rows) → ((t : ℕ) (y : C) → Among (t, y) v.known → get_elem? rows t ≡ some y)
      → (t : ℕ) (y : C) → Among (t, y) right.known → get_elem? rows t ≡ some y)
      → Splits (Rule {S = S} starts leads p) id v left right
  gives_off p id v left right live none same lives plain holds count seen taught knows s h mine =
      let k = h.each id v mine live in
      let new = length s.views in
      let holder = moved v.holds new h.holder in
      let longer = set s.views id left ++ right ∷ [] in
      let other : (j : ℕ) (u : View C) → j ≢ id → get_elem? s.views j ≡ some u → u.spent ≡ false
      → Knows p s.words h.rows h.desk h.count holder j u = λ j u ne e l. let ku = h.each j u e l in record {
        knows = ku.knows;
        sees = ku.sees;
        taught_seen = ku.taught_seen;
        book = ku.book;
        fills = ku.fills;
        named = ku.named;
        idle = ku.idle;
        first = ku.first;
        numbers = λ n x. (
          (ku.numbers n x).0,
          moved_out v.holds new h.holder n
              (not_true (has n v.holds) (λ y. ne (sym (ku.numbers n x).1 ∙ (k.numbers n y).1))) ∙ (ku.numbers n x).1,
        );
      } in
      let old : left.spent ≡ false → Knows p s.words h.rows h.desk h.count holder id left = λ l. let t = same l in record {
        knows = λ i y m. absurd (subst (λ (xs : List (ℕ × C)). Among (i, y) xs) t.6 m);
        sees = λ f m. absurd (subst (λ (xs : List (Fact C)). Among f xs) t.5 m);
        taught_seen = λ f m. absurd (subst (λ (xs : List (Fact C)). Among f xs) t.4 m);
        fills = λ b f. subst (λ (xs : List (Fact C)). Among f xs ↔ Stands p s.words h.rows f) (sym t.7) (k.fills (sym t.0 ∙ b) f);
        book = λ b. let c = k.book (sym t.0 ∙ b) in (c.0, t.1 ∙ c.1);
        named = λ b i y e. ⊎_elim
            (λ (m : Among y v.loose). absurd (subst (λ (xs : List C). Among y xs) t.3 m))
            (λ (n : IsNamed p s.words h.rows y). inr n)
            (k.named (sym t.0 ∙ b) i y e);
        idle = λ _ _. t.2;
        numbers = λ n x. absurd (nothing n (ap (λ (xs : List ℕ). has n xs) (sym none) ∙ x));
        first = λ x. absurd (nothing 0 (ap (λ (xs : List ℕ). has 0 xs) (sym none) ∙ x));
      } in
      let held : (n : ℕ) → has n right.holds ≡ true → has n v.holds ≡ true = λ n x. ap (λ (xs : List ℕ). has n xs) (sym holds) ∙ x in
      let newest : Knows p s.words h.rows h.desk h.count holder new right = record {
        knows = knows h.rows (λ b. (k.book b).1) k.knows;
        sees = λ f m. k.sees f (subst (λ (xs : List (Fact C)). Among f xs) seen m);
        taught_seen = λ f m. subst (λ (xs : List (Fact C)). Among f xs) (sym seen)
            (k.taught_seen f (subst (λ (xs : List (Fact C)). Among f xs) taught m));
        book = λ b. off (sym plain ∙ b);
        fills = λ b. off (sym plain ∙ b);
        named = λ b. off (sym plain ∙ b);
        idle = λ b. off (sym plain ∙ b);
        first = λ x. count ∙ k.first (held 0 x);
        numbers = λ n x. ((k.numbers n (held n x)).0, moved_in v.holds new h.holder n (held n x));
      } in
      let keeps_on : (f : Fact C) → IsKept s.views f → IsKept longer f = λ f q. dite (ℕ_discrete q.seat id)
      (λ (e : q.seat ≡ id).
      let is : q.view ≡ v = some-injective _ _ (sym q.there ∙ ap (λ (j : ℕ). get_elem? s.views j) e ∙ mine) in
      record {
        number = q.number;
        seat = new;
        view = right;
        there = at_last (set s.views id left) right new (length-set s.views id left);
        live = lives;
        holds = ap (λ (xs : List ℕ). has q.number xs) holds ∙ ap (λ (u : View C). has q.number u.holds) (sym is) ∙ q.holds;
        teaches = subst (λ (xs : List (Fact C)). Among f xs) (sym taught) (subst (λ (u : View C). Among f u.taught) is q.teaches);
      })
      (λ (ne : q.seat ≢ id). record {
        number = q.number;
        seat = q.seat;
        view = q.view;
        there = at_longer (set s.views id left) (right ∷ []) q.seat q.view (set_else s.views id q.seat left ne ∙ q.there);
        live = q.live;
        holds = q.holds;
        teaches = q.teaches;
      }) in
      record {
        rows = h.rows;
        desk = h.desk;
        count = h.count;
        holder = holder;
        shows = h.shows;
        keeper = λ f e. keeps_on f (h.keeper f e);
        each = λ j u e l. each_longer p s.words h.rows h.desk h.count holder (set s.views id left) right new
            (length-set s.views id left) (each_set p s.words h.rows h.desk h.count holder s.views id left other old) newest j u e l;
      }

  -- a pass comes off its seat
  pub leaves : (p : Plan N) (id : ℕ) (v : View C) → v.spent ≡ false → Splits (Rule {S = S} starts leads p) id v gone (guest_of v)
  leaves p id v live = gives_off p id v gone (guest_of v) live refl (λ l. absurd (true≢false l)) refl refl refl refl refl refl
      (λ rows _ k. k)

  pub sends_off : (p : Plan N) (id : ℕ) (v : View C) → v.spent ≡ false → v.is_book ≡ true → v.loose ≡ []
      → Splits (Rule {S = S} starts leads p) id v (without_guest v) (guest_of v)
  sends_off p id v live books tight = gives_off p id v (without_guest v) (guest_of v) live refl
      (λ l. (sym books, refl, tight, tight, refl, refl, refl, refl)) refl refl refl refl refl refl (λ rows _ k. k)

  -- the guest goes with all rows
  pub tells_all : (p : Plan N) (id : ℕ) (v : View C) → v.spent ≡ false → v.is_book ≡ true → v.loose ≡ []
      → Splits (Rule {S = S} starts leads p) id v (without_guest v) (told_guest v)
  tells_all p id v live books tight = gives_off p id v (without_guest v) (told_guest v) live refl
      (λ l. (sym books, refl, tight, tight, refl, refl, refl, refl)) refl refl refl refl refl refl
      (λ rows is k t y m. ⊎_elim
      (λ (n : Among (t, y) (numbered 0 v.rows)). let r = at_numbered 0 v.rows t y n in
      subst (λ (q : ℕ × List C). get_elem? q.1 q.0 ≡ some y)
      (λ i. ((let e : r.0 ≡ t = let a = r.1 in omega arith in e) i, is books i)) r.2)
      (λ (n : Among (t, y) v.known). k t y n)
      (at_append (t, y) (numbered 0 v.rows) v.known m))

  -- a leading pass is copied
  pub copies : (p : Plan N) (id : ℕ) (v : View C) → v.spent ≡ false → has 0 v.holds ≡ true → v.is_book ≡ false
      → Splits (Rule {S = S} starts leads p) id v (leading v) (copied v)
  copies p id v live leads_it plain s h mine =
      let k = h.each id v mine live in
      let new = length s.views in
      let c : v.count ≡ h.count = k.first leads_it in
      let some_number : 0 < h.count = (k.numbers 0 leads_it).0 in
      let holder = moved (v.count ∷ []) new h.holder in
      let stays : (n : ℕ) → n < h.count → holder n ≡ h.holder n =
      λ n lt. moved_out (v.count ∷ []) new h.holder n (not_one n v.count (omega arith)) in
      let others : (j : ℕ) (u : View C) → get_elem? s.views j ≡ some u → u.spent ≡ false → has 0 u.holds ≡ false
      → Knows p s.words h.rows h.desk (h.count + 1) holder j u = λ j u e l zero_not. let ku = h.each j u e l in record {
        knows = ku.knows;
        sees = ku.sees;
        taught_seen = ku.taught_seen;
        book = ku.book;
        fills = ku.fills;
        named = ku.named;
        idle = ku.idle;
        first = λ x. absurd (true≢false (sym x ∙ zero_not));
        numbers = λ n x. ((let q = (ku.numbers n x).0 in omega arith), stays n (ku.numbers n x).0 ∙ (ku.numbers n x).1);
      } in
      let other : (j : ℕ) (u : View C) → j ≢ id → get_elem? s.views j ≡ some u → u.spent ≡ false
      → Knows p s.words h.rows h.desk (h.count + 1) holder j u =
      λ j u ne e l. others j u e l (not_true (has 0 u.holds)
      (λ y. ne (sym ((h.each j u e l).numbers 0 y).1 ∙ (k.numbers 0 leads_it).1))) in
      let mine' : Knows p s.words h.rows h.desk (h.count + 1) holder id (leading v) =
      record {
        knows = k.knows;
        sees = k.sees;
        taught_seen = k.taught_seen;
        book = off;
        fills = off;
        named = off;
        idle = off;
        first = λ _. ap (λ (m : ℕ). m + 1) c;
        numbers =
            λ n x. ((let q = (k.numbers n x).0 in omega arith), stays n (k.numbers n x).0 ∙ (k.numbers n x).1);
      } in
      let newest : Knows p s.words h.rows h.desk (h.count + 1) holder new (copied v) = record {
        knows = k.knows;
        sees = k.sees;
        taught_seen = λ f m. absurd m;
        book = off;
        fills = off;
        named = off;
        idle = off;
        first = λ x. absurd (let e = is_one 0 v.count x in omega arith);
        numbers = λ n x. ((let e = is_one n v.count x in omega arith), moved_in (v.count ∷ []) new h.holder n x);
      } in
      record {
        rows = h.rows;
        desk = h.desk;
        count = h.count + 1;
        holder = holder;
        shows = h.shows;
        each = λ j u e l. each_longer p s.words h.rows h.desk (h.count + 1) holder (set s.views id (leading v)) (copied v) new
            (length-set s.views id (leading v)) (each_set p s.words h.rows h.desk (h.count + 1) holder s.views id (leading v) other
            (λ _. mine')) newest j u e l;
        keeper = λ f e. kept_longer (set s.views id (leading v)) (copied v) f
            (kept_set s.views id v (leading v) f mine refl (λ n e. e) (λ m. m) (h.keeper f e));
      }

  -- a seat takes another's view in, and the other is spent
  joins : (p : Plan N) (id : ℕ) (v : View C) (other : ℕ) (u both : View C) → v.spent ≡ false → u.spent ≡ false → both.spent ≡ false
      → both.seen ≡ v.seen ++ u.seen → both.taught ≡ v.taught ++ u.taught → both.known ≡ v.known ++ u.known
      → both.holds ≡ union v.holds u.holds → both.count ≡ count_of v u
      → (both.is_book ≡ true → (v.is_book ≡ true) × (both.rows ≡ v.rows) × (both.loose ≡ v.loose) × (both.loose ≡ [])
      × (both.facts ≡ v.facts))
      → Joins (Rule {S = S} starts leads p) id v other u both gone
  joins p id v other u both live lively lives seen taught known holds count book s h mine apart there =
      let at = join_parts s.views id other both u apart there in
      let k = h.each id v mine live in
      let ku = h.each other u at lively in
      let holder = moved u.holds id h.holder in
      let others : (j : ℕ) (y : View C) → j ≢ other → j ≢ id → get_elem? s.views j ≡ some y → y.spent ≡ false
      → Knows p s.words h.rows h.desk h.count holder j y = λ j y no_other no e l. let ky = h.each j y e l in record {
        knows = ky.knows;
        sees = ky.sees;
        taught_seen = ky.taught_seen;
        book = ky.book;
        fills = ky.fills;
        named = ky.named;
        idle = ky.idle;
        first = ky.first;
        numbers = λ n x. (
          (ky.numbers n x).0,
          moved_out u.holds id h.holder n
              (not_true (has n u.holds) (λ z. no_other (sym (ky.numbers n x).1 ∙ (ku.numbers n z).1))) ∙ (ky.numbers n x).1,
        );
      } in
      let held : (n : ℕ) → has n both.holds ≡ true
      → (has n v.holds ≡ true) ⊎ (has n u.holds ≡ true) =
      λ n x. at_union n v.holds u.holds (ap (λ (xs : List ℕ). has n xs) (sym holds) ∙ x) in
      let mine' : Knows p s.words h.rows h.desk h.count holder id both = record {
        knows = λ t y m. ⊎_elim (λ (x : Among (t, y) v.known). k.knows t y x) (λ (x : Among (t, y) u.known). ku.knows t y x)
            (at_append (t, y) v.known u.known (subst (λ (xs : List (ℕ × C)). Among (t, y) xs) known m));
        sees = λ f m. ⊎_elim (λ (x : Among f v.seen). k.sees f x) (λ (x : Among f u.seen). ku.sees f x)
            (at_append f v.seen u.seen (subst (λ (xs : List (Fact C)). Among f xs) seen m));
        taught_seen = λ f m. subst (λ (xs : List (Fact C)). Among f xs) (sym seen) (⊎_elim
            (λ (x : Among f v.taught). among_left f v.seen u.seen (k.taught_seen f x))
            (λ (x : Among f u.taught). among_right f v.seen u.seen (ku.taught_seen f x))
            (at_append f v.taught u.taught (subst (λ (xs : List (Fact C)). Among f xs) taught m)));
        fills = λ b f. subst (λ (xs : List (Fact C)). Among f xs ↔ Stands p s.words h.rows f) (sym (book b).4) (k.fills (book b).0 f);
        book = λ b. let c = k.book (book b).0 in (c.0, (book b).1 ∙ c.1);
        named = λ b t y e. ⊎_elim
            (λ (m : Among y v.loose). inl (subst (λ (xs : List C). Among y xs) (sym (book b).2) m))
            (λ (n : IsNamed p s.words h.rows y). inr n)
            (k.named (book b).0 t y e);
        idle = λ b _. (book b).3;
        numbers = λ n x. ⊎_elim
            (λ (y : has n v.holds ≡ true). ((k.numbers n y).0, moved_to u.holds id h.holder n (k.numbers n y).1))
            (λ (y : has n u.holds ≡ true). ((ku.numbers n y).0, moved_in u.holds id h.holder n y))
            (held n x);
        first = λ x. count ∙ counts v u h.count (has 0 v.holds) refl k.first
            (λ z. ⊎_elim (λ (y : has 0 v.holds ≡ true). absurd (true≢false (sym y ∙ z))) (λ (y : has 0 u.holds ≡ true). ku.first y)
            (held 0 x));
      } in
      let now = set s.views id both in
      let grown : (f : Fact C) → IsKept s.views f → IsKept now f = λ f q. kept_set s.views id v both f mine lives
      (λ n e. ap (λ (xs : List ℕ). has n xs) holds ∙ left_union n v.holds u.holds e)
      (λ m. subst (λ (xs : List (Fact C)). Among f xs) (sym taught) (among_left f v.taught u.taught m)) q in
      let given : (f : Fact C) → IsKept now f → IsKept (set now other gone) f = λ f q. dite (ℕ_discrete q.seat other)
      (λ (e : q.seat ≡ other).
      let is : q.view ≡ u = some-injective _ _ (sym q.there ∙ ap (λ (j : ℕ). get_elem? now j) e ∙ there) in
      record {
        number = q.number;
        seat = id;
        view = both;
        there = set_else now other id gone (λ y. apart (sym y)) ∙ set_there s.views id v both mine;
        live = lives;
        holds = ap (λ (xs : List ℕ). has q.number xs) holds
            ∙ right_union q.number v.holds u.holds (ap (λ (y : View C). has q.number y.holds) (sym is) ∙ q.holds);
        teaches = subst (λ (xs : List (Fact C)). Among f xs) (sym taught)
            (among_right f v.taught u.taught (subst (λ (y : View C). Among f y.taught) is q.teaches));
      })
      (λ (ne : q.seat ≢ other). record {
        number = q.number;
        seat = q.seat;
        view = q.view;
        there = set_else now other q.seat gone ne ∙ q.there;
        live = q.live;
        holds = q.holds;
        teaches = q.teaches;
      }) in
      record {
        rows = h.rows;
        desk = h.desk;
        count = h.count;
        holder = holder;
        shows = h.shows;
        keeper = λ f e. given f (grown f (h.keeper f e));
        each = each_set p s.words h.rows h.desk h.count holder now other gone
            (λ j y no e l. ⊎_elim
            (λ (t : (j ≡ id) × (both ≡ y)). subst (λ (z : ℕ × View C). Knows p s.words h.rows h.desk h.count holder z.0 z.1)
            (λ i. (sym t.0 i, t.1 i)) mine')
            (λ (t : (j ≢ id) × (get_elem? s.views j ≡ some y)). others j y no t.0 t.1 l)
            (at_set s.views id j both y e))
            (λ l. absurd (true≢false l));
      }

  pub meets : (p : Plan N) (id : ℕ) (v : View C) (other : ℕ) (u : View C) → v.spent ≡ false → u.spent ≡ false
      → Joins (Rule {S = S} starts leads p) id v other u (met v u) gone
  meets p id v other u live lively = joins p id v other u (met v u) live lively refl refl refl refl refl refl off

  pub takes_in : (p : Plan N) (id : ℕ) (v : View C) (other : ℕ) (u : View C) → v.spent ≡ false → v.is_book ≡ true → v.loose ≡ []
      → u.spent ≡ false → Joins (Rule {S = S} starts leads p) id v other u (hosting v u) gone
  takes_in p id v other u live books tight lively =
      joins p id v other u (hosting v u) live lively refl refl refl refl refl refl (λ _. (books, refl, refl, tight, refl))

module _ {N C : Type 0} (starts : N → ℕ → C → Type 0) (leads : N → C → ℕ → Led C → Type 0) where
  -- a whole view has taught each fact that stands
  pub teaches_all : (p : Plan N) (words : List ℕ) (views : List (View C)) (id : ℕ) (v : View C) (h : Kept starts leads p words views)
      → get_elem? views id ≡ some v → v.spent ≡ false → IsWhole v → (f : Fact C) → Stands p words h.rows f → Among f v.taught
  teaches_all p words views id v h mine live whole f stands =
      let k = h.each id v mine live in
      let q = h.keeper f stands in
      let kq = h.each q.seat q.view q.there q.live in
      let lt : q.number < v.count = let a = (kq.numbers q.number q.holds).0 in let b = k.first whole.0 in omega arith in
      let e : q.seat ≡ id = sym (kq.numbers q.number q.holds).1 ∙ (k.numbers q.number (whole.1 q.number lt)).1 in
      let is : q.view ≡ v = some-injective _ _ (sym q.there ∙ ap (λ (j : ℕ). get_elem? views j) e ∙ mine) in
      subst (λ (u : View C). Among f u.taught) is q.teaches

  pub begins : (p : Plan N) (words : List ℕ) → length words ≡ size_of p → p.rows ≤ 65536 → ((i : ℕ) → get_or words i 0 ≡ 0)
      → Kept starts leads p words (opening_view ∷ [])
  begins p words size limit empty = record {
    rows = [];
    desk = 0;
    count = 1;
    holder = λ _. 0;
    shows = record {
      size = size;
      limit = limit;
      fits = omega arith;
      differ = λ r q x a b. absurd (some-ne-none x (sym a));
      parents = λ r x a. absurd (some-ne-none x (sym a));
      no_row = λ r a b. empty r;
      cells = λ r s x a b. absurd (some-ne-none x (sym a));
      no_cell = λ r s a b c. empty (cell_at p r s);
      begun = λ i l. inl (empty (start_at p i));
    };
    each = one;
    keeper = λ f e. absurd (nowhere f e);
  }
    where
      nowhere : (f : Fact C) → Stands p words [] f → ⊥
      nowhere (Start i y) e = some-ne-none y (sym e.1.1)
      nowhere (Cell x s led) e = some-ne-none x (sym e.1.1)

      first_knows : Knows {C = C} p words [] 0 1 (λ _. 0) 0 opening_view
      first_knows = record {
        knows = λ t y m. absurd m;
        sees = λ f m. absurd m;
        taught_seen = λ f m. m;
        book = λ _. (refl, refl);
        fills = λ _ f. ((λ m. absurd m), nowhere f);
        named = λ _ t y e. absurd (some-ne-none y (sym e));
        idle = λ _ _. refl;
        numbers = λ n x. ((let e = is_one n 0 x in omega arith), refl);
        first = λ _. refl;
      }

      one : (by : ℕ) (v : View C) → get_elem? (opening_view ∷ []) by ≡ some v → v.spent ≡ false → Knows {C = C} p words [] 0 1 (λ _. 0) by v
      one zero v e l = subst (Knows p words [] 0 1 (λ _. 0) 0) (some-injective _ _ e) first_knows
      one (suc by) v e l = absurd (some-ne-none v (sym e))
