-- Rows that are linked by buckets.
use Rattle.std.proofs.Common.{◌≡◌, ◌≢◌, ℕ, ◌+◌, ◌-◌, ◌<◌, ◌≤◌, ◌%◌, List, [], ◌∷◌, ◌++◌, length, set, get_or, refl, sym, ap, ◌∙◌, subst, ⊎_elim, arith, length-append}
use Rattle.std.proofs.lemmas.List.{get_or-set_same, get_or-set_other, length-set}
use native.Mathlib.Decide.{ℕ_discrete, dec_le}
use mathlib.Core.Logic.{dite}
use mathlib.Core.Option.{some, some-ne-none}
use lib.ListN.{get_elem?}
use Rattle.atomic_table.proofs.Lists.{at_longer, at_last}
use Rattle.g4_store.specs.Buckets.{IsInBucket, IsNewest, AreLinked}
use Rattle.g4_store.proofs.Lists.{in_range, snoc_at, get_front, get_end}

module _ {C : Type 0} (code : C → ℕ) where
  pub no_links : (newest : List ℕ) → 0 < length newest → ((bucket : ℕ) → get_or newest bucket 0 ≡ 0) → AreLinked code [] newest []
  no_links newest some_bucket empty = record {
    buckets = some_bucket;
    count = refl;
    first = λ bucket lt. subst (λ (l : ℕ). IsNewest code (length newest) bucket [] 0 l) (sym (empty bucket)) record
        { within = omega arith; inside = λ n. absurd (n refl); none = λ r a b. absurd (omega arith) };
    next = λ r x e. absurd (some-ne-none x (sym e));
  }

  in_longer : (count bucket : ℕ) (rows : List C) (x : C) (r : ℕ) → IsInBucket code count bucket rows r
      → IsInBucket code count bucket (rows ++ x ∷ []) r
  in_longer count bucket rows x r k = (k.0, at_longer rows (x ∷ []) r k.0 k.1, k.2)

  -- a row that was made later does not matter to those before
  newest_longer : (count bucket : ℕ) (rows : List C) (x : C) (n link : ℕ) → n ≤ length rows → IsNewest code count bucket rows n link
      → IsNewest code count bucket (rows ++ x ∷ []) n link
  newest_longer count bucket rows x n link le k = record {
    within = k.within;
    inside = λ some. in_longer count bucket rows x (link - 1) (k.inside some);
    none = λ r a b q. ⊎_elim
        (λ (e : get_elem? rows r ≡ some q.0). k.none r a b (q.0, e, q.2))
        (λ (e : (r ≡ length rows) × (x ≡ q.0)). absurd (let at = e.0 in omega arith))
        (snoc_at rows x q.0 r q.1);
  }

  -- and one of another bucket does not either
  newest_passed : (count bucket : ℕ) (rows : List C) (x : C) (link : ℕ) → (code x % count ≢ bucket)
      → IsNewest code count bucket rows (length rows) link → IsNewest code count bucket (rows ++ x ∷ []) (length rows + 1) link
  newest_passed count bucket rows x link other k = record {
    within = let a = k.within in omega arith;
    inside = λ some. in_longer count bucket rows x (link - 1) (k.inside some);
    none = λ r a b q. ⊎_elim
        (λ (e : get_elem? rows r ≡ some q.0). k.none r a (in_range rows r q.0 e) (q.0, e, q.2))
        (λ (e : (r ≡ length rows) × (x ≡ q.0)). other (ap (λ (y : C). code y % count) e.1 ∙ q.2))
        (snoc_at rows x q.0 r q.1);
  }

  newest_last : (count : ℕ) (rows : List C) (x : C)
      → IsNewest code count (code x % count) (rows ++ x ∷ []) (length rows + 1) (length rows + 1)
  newest_last count rows x = record {
    within = omega arith;
    inside = λ _. let back : length rows ≡ length rows + 1 - 1 = omega arith in
        (x, ap (λ (r : ℕ). get_elem? (rows ++ x ∷ []) r) (sym back) ∙ at_last rows x (length rows) refl, refl);
    none = λ r a b q. omega arith;
  }

  pub links_more : (rows : List C) (newest older : List ℕ) (x : C) (bucket : ℕ) → bucket ≡ code x % length newest
      → bucket < length newest → AreLinked code rows newest older
      → AreLinked code (rows ++ x ∷ []) (set newest bucket (length rows + 1)) (older ++ get_or newest bucket 0 ∷ [])
  links_more rows newest older x bucket is lt k =
      let now = set newest bucket (length rows + 1) in
      let size : length now ≡ length newest = length-set newest bucket (length rows + 1) in
      let more : length (rows ++ x ∷ []) ≡ length rows + 1 = length-append rows (x ∷ []) in
      let first : (b : ℕ) → b < length newest → IsNewest code (length newest) b (rows ++ x ∷ []) (length rows + 1) (get_or now b 0) =
      λ b within. dite (ℕ_discrete b bucket)
      (λ (e : b ≡ bucket). subst (λ (q : ℕ × ℕ). IsNewest code (length newest) q.0 (rows ++ x ∷ []) (length rows + 1) q.1)
      (λ i. (sym (e ∙ is) i, sym (ap (λ (j : ℕ). get_or now j 0) e ∙ get_or-set_same newest bucket (length rows + 1) 0 lt) i))
      (newest_last (length newest) rows x))
      (λ (ne : b ≢ bucket). subst (λ (l : ℕ). IsNewest code (length newest) b (rows ++ x ∷ []) (length rows + 1) l)
      (sym (get_or-set_other newest bucket b (length rows + 1) 0 ne))
      (newest_passed (length newest) b rows x (get_or newest b 0) (λ e. ne (sym e ∙ sym is)) (k.first b within))) in
      let next : (r : ℕ) (y : C) → get_elem? (rows ++ x ∷ []) r ≡ some y
      → IsNewest code (length newest) (code y % length newest) (rows ++ x ∷ []) r
      (get_or (older ++ get_or newest bucket 0 ∷ []) r 0) = λ r y e. ⊎_elim
      (λ (a : get_elem? rows r ≡ some y).
      let below = in_range rows r y a in
      subst (λ (l : ℕ). IsNewest code (length newest) (code y % length newest) (rows ++ x ∷ []) r l)
      (sym (get_front older (get_or newest bucket 0 ∷ []) r (let n = k.count in omega arith)))
      (newest_longer (length newest) (code y % length newest) rows x r (get_or older r 0) (omega arith) (k.next r y a)))
      (λ (a : (r ≡ length rows) × (x ≡ y)).
      let at : r ≡ length older = a.0 ∙ sym k.count in
      let link : get_or newest bucket 0 ≡ get_or (older ++ get_or newest bucket 0 ∷ []) r 0 =
      sym (ap (λ (j : ℕ). get_or (older ++ get_or newest bucket 0 ∷ []) j 0) at ∙ get_end older (get_or newest bucket 0)) in
      let there : bucket ≡ code y % length newest = is ∙ ap (λ (z : C). code z % length newest) a.1 in
      subst (λ (q : ℕ × ℕ × ℕ). IsNewest code (length newest) q.0 (rows ++ x ∷ []) q.1 q.2) (λ i. (there i, sym a.0 i, link i))
      (newest_longer (length newest) bucket rows x (length rows) (get_or newest bucket 0) (omega arith) (k.first bucket lt)))
      (snoc_at rows x y r e) in
      record {
        buckets = let a = k.buckets in omega arith;
        count = let a = k.count in let b = length-append older (get_or newest bucket 0 ∷ []) in omega arith;
        first = λ b within. subst (λ (q : ℕ × ℕ). IsNewest code q.0 b (rows ++ x ∷ []) q.1 (get_or now b 0))
            (λ i. (sym size i, sym more i)) (first b (let a = size in omega arith));
        next = λ r y e. subst (λ (m : ℕ). IsNewest code m (code y % m) (rows ++ x ∷ []) r
            (get_or (older ++ get_or newest bucket 0 ∷ []) r 0)) (sym size) (next r y e);
      }

  -- What is known of a link on the way along a bucket: the content is in no row from it on.
  pub record IsOnWay (rows : List C) (count bucket : ℕ) (content : C) (link : ℕ) : Type 0 where
    pub within : link ≤ length rows
    pub inside : link ≢ 0 → IsInBucket code count bucket rows (link - 1)
    pub none : (r : ℕ) → link ≤ r → get_elem? rows r ≡ some content → ⊥

  pub first_on_way : (rows : List C) (newest older : List ℕ) (content : C) (bucket : ℕ) → AreLinked code rows newest older
      → bucket ≡ code content % length newest → bucket < length newest
      → IsOnWay rows (length newest) bucket content (get_or newest bucket 0)
  first_on_way rows newest older content bucket k is lt =
      let f = k.first bucket lt in
      record { within = f.within; inside = f.inside; none = λ r a e. f.none r a (in_range rows r content e) (content, e, sym is) }

  pub next_on_way : (rows : List C) (newest older : List ℕ) (content : C) (bucket link : ℕ) → AreLinked code rows newest older
      → bucket ≡ code content % length newest → link ≢ 0 → (get_elem? rows (link - 1) ≡ some content → ⊥)
      → IsOnWay rows (length newest) bucket content link
      → IsOnWay rows (length newest) bucket content (get_or older (link - 1) 0)
  next_on_way rows newest older content bucket link k is some_link differs w =
      let q = w.inside some_link in
      let f = subst (λ (b : ℕ). IsNewest code (length newest) b rows (link - 1) (get_or older (link - 1) 0)) q.2
      (k.next (link - 1) q.0 q.1) in
      record {
        within = let a = f.within in let b = w.within in omega arith;
        inside = f.inside;
        none = λ r a e. dite (dec_le link r)
            (λ (le : link ≤ r). w.none r le e)
            (λ (gt : ¬ (link ≤ r)). dite (ℕ_discrete r (link - 1))
            (λ (at : r ≡ link - 1). differs (ap (λ (j : ℕ). get_elem? rows j) (sym at) ∙ e))
            (λ (ne : r ≢ link - 1). f.none r a (omega arith) (content, e, sym is)));
      }
