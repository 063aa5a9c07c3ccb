-- Learning a path, fact by fact.
use Rattle.std.proofs.Common.{◌≡◌, ◌⊎◌, ℕ, ◌<◌, List, [], ◌∷◌, ◌++◌, length, Bool, true, false, Option, Some, None, IfSome, IfNone, true≢false, refl, sym, ap, ◌∙◌, subst, inl, inr, ⊎_elim, arith, append_assoc}
use mathlib.Core.Option as maybe
use lib.ListN.{get_elem?}
use Rattle.atomic_table.proofs.Lists.{at_longer, at_last}
use Rattle.g4_store.specs.declared.automaton.Led.{Led}
use Rattle.g4_store.specs.declared.automaton.Led.TheVariants.{Row, End}
use Rattle.g4_store.specs.declared.automaton.Fact.{Fact}
use Rattle.g4_store.specs.declared.automaton.Fact.TheVariants.{Start, Cell}
use Rattle.g4_store.specs.declared.view.View.{View}
use Rattle.g4_store.specs.Numbers.{Among}
use Rattle.g4_store.specs.Views.{saw, grown, filled}
use Rattle.g4_store.specs.Found.{Told}
use Rattle.g4_store.specs.Paths.{Within, InRows, InKnown, IsIn, HasRow, Stores, took, Takes, TakesEnd, TakesOr, Refuses, IsAt, Followed}
use Rattle.g4_store.proofs.Lists.{at_append, among_left, among_right}

module _ {C : Type 0} where
  pub within_more : (P Q : C → Type 0) → ((z : C) → P z → Q z) → (f : Fact C) → Within P f → Within Q f
  within_more P Q more (Start i y) h = more y h
  within_more P Q more (Cell x s (Row y mark)) h = (more x h.0, more y h.1)
  within_more P Q more (Cell x s (End code)) h = (more x h.0, tt)

  last : (f : Fact C) (done : List (Fact C)) → Among f (done ++ f ∷ [])
  last f done = among_right f done (f ∷ []) (inl refl)

  at_last_or : (g f : Fact C) (done : List (Fact C)) → Among g (done ++ f ∷ []) → Among g done ⊎ (g ≡ f)
  at_last_or g f done m = ⊎_elim (λ (x : Among g done). inl x)
      (λ (x : Among g (f ∷ [])). ⊎_elim (λ (e : g ≡ f). inr e) (λ (e : ⊥). absurd e) x) (at_append g done (f ∷ []) m)

  has_more : (f : Fact C) (done : List (Fact C)) (y : C) → HasRow done y → HasRow (done ++ f ∷ []) y
  has_more f done y h = (h.0, among_left h.0 done (f ∷ []) h.1, h.2)

  pub starts_followed : (most : ℕ) (b : View C) → b.loose ≡ [] → Followed most [] b b false
  starts_followed most b tight = record {
    loose = tight;
    holds = refl;
    count = refl;
    looks = refl;
    stored = [];
    facts = refl;
    taught = refl;
    stores = λ f m. absurd m;
    seen_kept = λ f m. m;
    known_kept = λ t y m. m;
    seen_new = λ f m. inl m;
    known_new = λ t y m. inl m;
    whole = λ _ f m. absurd m;
    all = λ e. absurd (true≢false (sym e));
    missing = λ e. absurd (true≢false (sym e));
    part = λ e. absurd (true≢false (sym e));
  }

  -- what is stored is the fact, and was not there
  stored_is : (f g : Fact C) (facts stored : List (Fact C)) → Stores f facts stored → Among g stored → (g ≡ f) × (Among g facts → ⊥)
  stored_is f g facts stored (inl (none, m)) at = absurd (subst (λ (l : List (Fact C)). Among g l) none at)
  stored_is f g facts stored (inr (one, new)) at = ⊎_elim
      (λ (e : g ≡ f). (e, (λ m. new (subst (λ (h : Fact C). Among h facts) e m))))
      (λ (e : ⊥). absurd e)
      (subst (λ (l : List (Fact C)). Among g l) one at)

  -- a fact was taken in, and its rows are there
  pub took_one : (most : ℕ) (done : List (Fact C)) (b0 b b' : View C) (full : Bool) (f : Fact C) (told : List (ℕ × C))
      (stored : List (Fact C)) → Followed most done b0 b full
      → Stores f b.facts stored
      → b' ≡ took f told stored b'.rows b
      → ((u : ℕ) (z : C) → Among (u, z) told → IsIn z f)
      → ((b'.rows ≡ b.rows) ⊎ ((y : C) × (b'.rows ≡ b.rows ++ y ∷ []) × (length b.rows < most)))
      → Within (InRows b'.rows) f
      → (full ≡ false → Within (InKnown b'.known) f)
      → Followed most (done ++ f ∷ []) b0 b' full
  took_one most done b0 b b' full f told stored h stores is tells rows own known =
      let seen : b'.seen ≡ f ∷ b.seen = ap (λ (v : View C). v.seen) is in
      let known_is : b'.known ≡ told ++ b.known = ap (λ (v : View C). v.known) is in
      let more : (z : C) → InRows b.rows z → InRows b'.rows z = λ z r. ⊎_elim
      (λ (e : b'.rows ≡ b.rows). (r.0, ap (λ (l : List C). get_elem? l r.0) e ∙ r.1))
      (λ (e : (y : C) × (b'.rows ≡ b.rows ++ y ∷ []) × (length b.rows < most)).
      (r.0, ap (λ (l : List C). get_elem? l r.0) e.1 ∙ at_longer b.rows (e.0 ∷ []) r.0 z r.1))
      rows in
      let facts : b'.facts ≡ (stored ++ h.stored) ++ b0.facts =
      ap (λ (v : View C). v.facts) is ∙ ap (λ (l : List (Fact C)). stored ++ l) h.facts ∙ sym (append_assoc stored h.stored b0.facts) in
      let same : full ≡ true → b'.rows ≡ b.rows = λ e. ⊎_elim
      (λ (x : b'.rows ≡ b.rows). x)
      (λ (x : (y : C) × (b'.rows ≡ b.rows ++ y ∷ []) × (length b.rows < most)). absurd (let a = h.all e in let b = x.2 in omega arith))
      rows in
      record {
        loose = ap (λ (v : View C). v.loose) is;
        holds = ap (λ (v : View C). v.holds) is ∙ h.holds;
        count = ap (λ (v : View C). v.count) is ∙ h.count;
        looks = ap (λ (v : View C). v.looks) is ∙ h.looks;
        stored = stored ++ h.stored;
        facts = facts;
        taught = ap (λ (v : View C). v.taught) is ∙ ap (λ (l : List (Fact C)). stored ++ l) h.taught
            ∙ sym (append_assoc stored h.stored b0.taught);
        stores = λ g m. ⊎_elim
            (λ (x : Among g stored). let r = stored_is f g b.facts stored stores x in (
              subst (λ (g : Fact C). Among g (done ++ f ∷ [])) (sym r.0) (last f done),
              subst (λ (g : Fact C). Within (InRows b'.rows) g) (sym r.0) own,
              (λ old. r.1 (subst (λ (l : List (Fact C)). Among g l) (sym h.facts) (among_right g h.stored b0.facts old))),
            ))
            (λ (x : Among g h.stored). let r = h.stores g x in
            (among_left g done (f ∷ []) r.0, within_more (InRows b.rows) (InRows b'.rows) more g r.1, r.2))
            (at_append g stored h.stored m);
        seen_kept = λ g m. subst (λ (l : List (Fact C)). Among g l) (sym seen) (inr (h.seen_kept g m));
        known_kept = λ t y m. subst (λ (l : List (ℕ × C)). Among (t, y) l) (sym known_is)
            (among_right (t, y) told b.known (h.known_kept t y m));
        seen_new = λ g m. ⊎_elim
            (λ (e : g ≡ f). inr (subst (λ (g : Fact C). Among g (done ++ f ∷ []) × Within (InRows b'.rows) g) (sym e) (last f done, own)))
            (λ (x : Among g b.seen). ⊎_elim
            (λ (a : Among g b0.seen). inl a)
            (λ (a : Among g done × Within (InRows b.rows) g).
            inr (among_left g done (f ∷ []) a.0, within_more (InRows b.rows) (InRows b'.rows) more g a.1))
            (h.seen_new g x))
            (subst (λ (l : List (Fact C)). Among g l) seen m);
        known_new = λ t y m. ⊎_elim
            (λ (x : Among (t, y) told). inr (f, last f done, tells t y x))
            (λ (x : Among (t, y) b.known). ⊎_elim (λ (a : Among (t, y) b0.known). inl a)
            (λ (a : HasRow done y). inr (has_more f done y a)) (h.known_new t y x))
            (at_append (t, y) told b.known (subst (λ (l : List (ℕ × C)). Among (t, y) l) known_is m));
        whole = λ e g m. ⊎_elim
            (λ (x : Among g done). let w = h.whole e g x in (
              subst (λ (l : List (Fact C)). Among g l) (sym seen) (inr w.0),
              within_more (InKnown b.known) (InKnown b'.known)
                  (λ z k. (k.0, subst (λ (l : List (ℕ × C)). Among (k.0, z) l) (sym known_is) (among_right (k.0, z) told b.known k.1)))
                  g w.1,
            ))
            (λ (x : g ≡ f). subst (λ (g : Fact C). Among g b'.seen × Within (InKnown b'.known) g) (sym x)
            (subst (λ (l : List (Fact C)). Among f l) (sym seen) (inl refl), known e))
            (at_last_or g f done m);
        all = λ e. ap length (same e) ∙ h.all e;
        missing = λ e. let r = h.missing e in (r.0, has_more f done r.0 r.1, subst (λ (l : List C). InRows l r.0 → ⊥) (sym (same e)) r.2);
        part = λ e g m w. ⊎_elim
            (λ (x : Among g done). subst (λ (l : List (Fact C)). Among g l) (sym seen)
            (inr (h.part e g x (subst (λ (l : List C). Within (InRows l) g) (same e) w))))
            (λ (x : g ≡ f). subst (λ (l : List (Fact C)). Among g l) (sym seen) (inl x))
            (at_last_or g f done m);
      }

  -- there was no room for a row of the fact
  pub refused_one : (most : ℕ) (done : List (Fact C)) (b0 b b' : View C) (full : Bool) (f : Fact C) (y : C)
      → Followed most done b0 b full → Refuses most y b b' → IsIn y f → (Within (InRows b.rows) f → ⊥)
      → Followed most (done ++ f ∷ []) b0 b' true
  refused_one most done b0 b b' full f y h r is_in none =
      subst (λ (v : View C). Followed most (done ++ f ∷ []) b0 v true) (sym r.same) record {
        loose = h.loose;
        holds = h.holds;
        count = h.count;
        looks = h.looks;
        stored = h.stored;
        facts = h.facts;
        taught = h.taught;
        stores = λ g m. let a = h.stores g m in (among_left g done (f ∷ []) a.0, a.1, a.2);
        seen_kept = h.seen_kept;
        known_kept = h.known_kept;
        seen_new = λ g m. ⊎_elim (λ (a : Among g b0.seen). inl a)
            (λ (a : Among g done × Within (InRows b.rows) g). inr (among_left g done (f ∷ []) a.0, a.1)) (h.seen_new g m);
        known_new = λ t z m. ⊎_elim (λ (a : Among (t, z) b0.known). inl a) (λ (a : HasRow done z). inr (has_more f done z a))
            (h.known_new t z m);
        whole = λ e. absurd (true≢false e);
        all = λ _. r.all;
        missing = λ _. (y, (f, last f done, is_in), r.missing);
        part = λ _ g m w. ⊎_elim
            (λ (x : Among g done). go full refl g x w)
            (λ (x : g ≡ f). absurd (none (subst (λ (g : Fact C). Within (InRows b.rows) g) x w)))
            (at_last_or g f done m);
      }
    where
      go : (c : Bool) → full ≡ c → (g : Fact C) → Among g done → Within (InRows b.rows) g → Among g b.seen
      go true e g m w = h.part e g m w
      go false e g m w = (h.whole e g m).0

  -- a fact whose own row is not there is passed over
  pub passed_one : (most : ℕ) (done : List (Fact C)) (b0 b : View C) (full : Bool) (f : Fact C) → Followed most done b0 b full
      → full ≡ true → (Within (InRows b.rows) f → ⊥) → Followed most (done ++ f ∷ []) b0 b full
  passed_one most done b0 b full f h is none = record {
    loose = h.loose;
    holds = h.holds;
    count = h.count;
    looks = h.looks;
    stored = h.stored;
    facts = h.facts;
    taught = h.taught;
    stores = λ g m. let a = h.stores g m in (among_left g done (f ∷ []) a.0, a.1, a.2);
    seen_kept = h.seen_kept;
    known_kept = h.known_kept;
    seen_new = λ g m. ⊎_elim (λ (a : Among g b0.seen). inl a)
        (λ (a : Among g done × Within (InRows b.rows) g). inr (among_left g done (f ∷ []) a.0, a.1)) (h.seen_new g m);
    known_new = λ t z m. ⊎_elim (λ (a : Among (t, z) b0.known). inl a) (λ (a : HasRow done z). inr (has_more f done z a))
        (h.known_new t z m);
    whole = λ e. absurd (true≢false (sym is ∙ e));
    all = h.all;
    missing = λ e. let r = h.missing e in (r.0, has_more f done r.0 r.1, r.2);
    part = λ e g m w. ⊎_elim
        (λ (x : Among g done). h.part e g x w)
        (λ (x : g ≡ f). absurd (none (subst (λ (g : Fact C). Within (InRows b.rows) g) x w)))
        (at_last_or g f done m);
  }

  told_one : (u : ℕ) (y : C) (i : ℕ) (z : C) → Among {A = ℕ × C} (i, z) ((u, y) ∷ []) → z ≡ y
  told_one u y i z m = ⊎_elim (λ (x : (i, z) ≡ (u, y)). ap (λ q. q.1) x) (λ (x : ⊥). absurd x) m

  -- a word that was filled already was read
  pub saw_takes : (most : ℕ) (f : Fact C) (y : C) (t u : ℕ) (old new : View C) → old.loose ≡ [] → Among f old.facts
      → new ≡ saw f ((u, y) ∷ []) old → get_elem? old.rows t ≡ maybe.some y → Takes most f y t old new
  saw_takes most f y t u old new tight there e at =
      let rows : new.rows ≡ old.rows = ap (λ (v : View C). v.rows) e in
      record {
        told = (u, y) ∷ [];
        tells = told_one u y;
        known = (u, inl refl);
        row = ap (λ (l : List C). get_elem? l t) rows ∙ at;
        stored = [];
        stores = inl (refl, there);
        is = e ∙ ap (λ (l : List C). record old { loose = l; seen = f ∷ old.seen; known = (u, y) ∷ old.known }) tight
            ∙ ap (λ (l : List C). took f ((u, y) ∷ []) [] l old) (sym rows);
        rows = inl rows;
      }

  pub fill_takes : (most : ℕ) (f : Fact C) (y : C) (t : ℕ) (old new : View C) → (Among f old.facts → ⊥)
      → new ≡ filled f ((t, y) ∷ []) old → get_elem? old.rows t ≡ maybe.some y → Takes most f y t old new
  fill_takes most f y t old new empty e at =
      let rows : new.rows ≡ old.rows = ap (λ (v : View C). v.rows) e in
      record {
        told = (t, y) ∷ [];
        tells = told_one t y;
        known = (t, inl refl);
        row = ap (λ (l : List C). get_elem? l t) rows ∙ at;
        stored = f ∷ [];
        stores = inr (refl, empty);
        is = e ∙ ap (λ (l : List C). took f ((t, y) ∷ []) (f ∷ []) l old) (sym rows);
        rows = inl rows;
      }

  pub grow_takes : (most : ℕ) (f : Fact C) (y : C) (t : ℕ) (old mid new : View C) → (Among f old.facts → ⊥) → mid ≡ grown y old
      → new ≡ filled f ((t, y) ∷ []) mid → t ≡ length old.rows → length old.rows < most → Takes most f y t old new
  grow_takes most f y t old mid new empty e e' len room =
      let is : new ≡ filled f ((t, y) ∷ []) (grown y old) = e' ∙ ap (λ (v : View C). filled f ((t, y) ∷ []) v) e in
      let rows : new.rows ≡ old.rows ++ y ∷ [] = ap (λ (v : View C). v.rows) is in
      record {
        told = (t, y) ∷ [];
        tells = told_one t y;
        known = (t, inl refl);
        row = ap (λ (l : List C). get_elem? l t) rows ∙ at_last old.rows y t (sym len);
        stored = f ∷ [];
        stores = inr (refl, empty);
        is = is ∙ ap (λ (l : List C). took f ((t, y) ∷ []) (f ∷ []) l old) (sym rows);
        rows = inr (rows, room);
      }

  pub saw_ends : (f : Fact C) (old new : View C) → old.loose ≡ [] → Among f old.facts → new ≡ saw f [] old → TakesEnd f old new
  saw_ends f old new tight there e = record {
    stored = [];
    stores = inl (refl, there);
    is = e ∙ ap (λ (l : List C). record old { loose = l; seen = f ∷ old.seen }) tight;
  }

  pub fill_ends : (f : Fact C) (old new : View C) → (Among f old.facts → ⊥) → new ≡ filled f [] old → TakesEnd f old new
  fill_ends f old new empty e = record { stored = f ∷ []; stores = inr (refl, empty); is = e }

  -- the steps of learning
  pub step_row : (most : ℕ) (done : List (Fact C)) (b0 b b' : View C) (full : Bool) (x y : C) (r s m t : ℕ)
      → Followed most done b0 b full → (get_elem? b.rows r ≡ maybe.some x) × (full ≡ false → InKnown b.known x)
      → Takes most (Cell x s (Row y m)) y t b b'
      → Followed most (done ++ Cell x s (Row y m) ∷ []) b0 b' full
      × ((get_elem? b'.rows t ≡ maybe.some y) × (full ≡ false → InKnown b'.known y))
  step_row most done b0 b b' full x y r s m t h at k =
      let known_is : b'.known ≡ k.told ++ b.known = ap (λ (v : View C). v.known) k.is in
      let y_known : InKnown b'.known y = (
        k.known.0,
        subst (λ (l : List (ℕ × C)). Among (k.known.0, y) l) (sym known_is) (among_left (k.known.0, y) k.told b.known k.known.1),
      ) in
      let x_known : full ≡ false → InKnown b'.known x = λ e. let q = at.1 e in
      (q.0, subst (λ (l : List (ℕ × C)). Among (q.0, x) l) (sym known_is) (among_right (q.0, x) k.told b.known q.1)) in
      let x_row : InRows b'.rows x = ⊎_elim
      (λ (e : b'.rows ≡ b.rows). (r, ap (λ (l : List C). get_elem? l r) e ∙ at.0))
      (λ (e : (b'.rows ≡ b.rows ++ y ∷ []) × (length b.rows < most)).
      (r, ap (λ (l : List C). get_elem? l r) e.0 ∙ at_longer b.rows (y ∷ []) r x at.0))
      k.rows in
      let rows : (b'.rows ≡ b.rows) ⊎ ((z : C) × (b'.rows ≡ b.rows ++ z ∷ []) × (length b.rows < most)) =
      ⊎_elim (λ (e : b'.rows ≡ b.rows). inl e) (λ (e : (b'.rows ≡ b.rows ++ y ∷ []) × (length b.rows < most)). inr (y, e.0, e.1))
      k.rows in (
        took_one most done b0 b b' full (Cell x s (Row y m)) k.told k.stored h k.stores k.is (λ u z q. inr (sym (k.tells u z q))) rows
            (x_row, (t, k.row)) (λ e. (x_known e, y_known)),
        (k.row, (λ _. y_known)),
      )

  pub step_refused : (most : ℕ) (done : List (Fact C)) (b0 b b' : View C) (full : Bool) (x y : C) (s m : ℕ)
      → Followed most done b0 b full → Refuses most y b b'
      → Followed most (done ++ Cell x s (Row y m) ∷ []) b0 b' true × ((true ≡ true) × (InRows b'.rows y → ⊥))
  step_refused most done b0 b b' full x y s m h k = (
    refused_one most done b0 b b' full (Cell x s (Row y m)) y h k (inr refl) (λ w. k.missing w.1),
    (refl, subst (λ (v : View C). InRows v.rows y → ⊥) (sym k.same) k.missing),
  )

  pub step_end : (most : ℕ) (done : List (Fact C)) (b0 b b' : View C) (full : Bool) (x : C) (r s c : ℕ) → Followed most done b0 b full
      → (get_elem? b.rows r ≡ maybe.some x) × (full ≡ false → InKnown b.known x) → TakesEnd (Cell x s (End c)) b b'
      → Followed most (done ++ Cell x s (End c) ∷ []) b0 b' full
  step_end most done b0 b b' full x r s c h at k =
      let rows : b'.rows ≡ b.rows = ap (λ (v : View C). v.rows) k.is in
      let known : b'.known ≡ b.known = ap (λ (v : View C). v.known) k.is in
      took_one most done b0 b b' full (Cell x s (End c)) [] k.stored h k.stores
      (k.is ∙ ap (λ (l : List C). took (Cell x s (End c)) [] k.stored l b) (sym rows)) (λ u z m. absurd m) (inl rows)
      ((r, ap (λ (l : List C). get_elem? l r) rows ∙ at.0), tt)
      (λ e. (subst (λ (l : List (ℕ × C)). InKnown l x) (sym known) (at.1 e), tt))

  pub begin_row : (most : ℕ) (b b' : View C) (i t : ℕ) (y : C) → b.loose ≡ [] → Takes most (Start i y) y t b b'
      → Followed most (Start i y ∷ []) b b' false × ((get_elem? b'.rows t ≡ maybe.some y) × (false ≡ false → InKnown b'.known y))
  begin_row most b b' i t y tight k =
      let known_is : b'.known ≡ k.told ++ b.known = ap (λ (v : View C). v.known) k.is in
      let y_known : InKnown b'.known y = (
        k.known.0,
        subst (λ (l : List (ℕ × C)). Among (k.known.0, y) l) (sym known_is) (among_left (k.known.0, y) k.told b.known k.known.1),
      ) in
      let rows : (b'.rows ≡ b.rows) ⊎ ((z : C) × (b'.rows ≡ b.rows ++ z ∷ []) × (length b.rows < most)) =
      ⊎_elim (λ (e : b'.rows ≡ b.rows). inl e) (λ (e : (b'.rows ≡ b.rows ++ y ∷ []) × (length b.rows < most)). inr (y, e.0, e.1))
      k.rows in (
        took_one most [] b b b' false (Start i y) k.told k.stored (starts_followed most b tight) k.stores k.is
            (λ u z q. sym (k.tells u z q)) rows (t, k.row) (λ _. y_known),
        (k.row, (λ _. y_known)),
      )

  pub begin_refused : (most : ℕ) (b b' : View C) (i : ℕ) (y : C) → b.loose ≡ [] → Refuses most y b b'
      → Followed most (Start i y ∷ []) b b' true × ((true ≡ true) × (InRows b'.rows y → ⊥))
  begin_refused most b b' i y tight k = (
    refused_one most [] b b b' false (Start i y) y (starts_followed most b tight) k refl
        k.missing,
    (refl, subst (λ (v : View C). InRows v.rows y → ⊥) (sym k.same) k.missing),
  )

  -- where a row was looked for that is there
  pub found_takes : (most : ℕ) (f : Fact C) (y : C) (u : ℕ) (old new : View C) (r : Option ℕ) → old.loose ≡ [] → Among f old.facts
      → get_elem? old.rows u ≡ maybe.some y → new ≡ saw f ((u, y) ∷ []) old
      → IfSome r (λ t. get_elem? new.rows t ≡ maybe.some y) → IfNone r (InRows new.rows y → ⊥) → TakesOr most f y old new r
  found_takes most f y u old new (Some t) tight there row e some none =
      saw_takes most f y t u old new tight there e (ap (λ (l : List C). get_elem? l t) (sym (ap (λ (v : View C). v.rows) e)) ∙ some)
  found_takes most f y u old new None tight there row e some none =
      absurd (none (u, ap (λ (l : List C). get_elem? l u) (ap (λ (v : View C). v.rows) e) ∙ row))

  pub cell_takes : (most : ℕ) (x : C) (s : ℕ) (y : C) (m : ℕ) (old new : View C) (led : Led C) (told : List (ℕ × C)) (r : Option ℕ)
      → old.loose ≡ [] → led ≡ Row y m → Told led told → Among (Cell x s led) old.facts
      → ((t : ℕ) (z : C) → Among (t, z) told → get_elem? old.rows t ≡ maybe.some z) → new ≡ saw (Cell x s led) told old
      → IfSome r (λ t. get_elem? new.rows t ≡ maybe.some y) → IfNone r (InRows new.rows y → ⊥)
      → TakesOr most (Cell x s (Row y m)) y old new r
  cell_takes most x s y m old new led told r tight is tells there rows e some none =
      let k = subst (λ (l : Led C). Told l told) is tells in
      found_takes most (Cell x s (Row y m)) y k.0 old new r tight (subst (λ (l : Led C). Among (Cell x s l) old.facts) is there)
      (rows k.0 y (subst (λ (l : List (ℕ × C)). Among (k.0, y) l) (sym k.1) (inl refl)))
      (e ∙ (λ i. saw (Cell x s (is i)) (k.1 i) old)) some none

  pub end_takes : (x : C) (s c : ℕ) (old new : View C) (led : Led C) (told : List (ℕ × C)) → old.loose ≡ [] → led ≡ End c
      → Told led told → Among (Cell x s led) old.facts → new ≡ saw (Cell x s led) told old → TakesEnd (Cell x s (End c)) old new
  end_takes x s c old new led told tight is tells there e =
      saw_ends (Cell x s (End c)) old new tight (subst (λ (l : Led C). Among (Cell x s l) old.facts) is there)
      (e ∙ (λ i. saw (Cell x s (is i)) (subst (λ (l : Led C). Told l told) is tells i) old))

  pub find_at : (v : View C) (full : Bool) (y : C) (r : Option ℕ) → IfSome r (λ t. get_elem? v.rows t ≡ maybe.some y)
      → IfNone r (InRows v.rows y → ⊥) → full ≡ true → IsAt v full y r
  find_at v full y (Some t) some none is = (some, λ e. absurd (true≢false (sym is ∙ e)))
  find_at v full y None some none is = (is, none)
