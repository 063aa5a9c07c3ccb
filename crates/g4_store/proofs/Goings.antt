-- Learning goes along a path, and what the pass has afterwards.
use Rattle.std.proofs.Common.{◌≡◌, ℕ, ◌+◌, ◌<◌, ◌≤◌, List, [], ◌∷◌, ◌++◌, length, Bool, true, false, Option, Some, None, is_none, refl, sym, ap, ◌∙◌, subst, inl, inr, ⊎_elim, arith, append_assoc, append-nil}
use mathlib.Core.Option as maybe
use lib.ListN.{get_elem?}
use Rattle.g4_store.specs.declared.automaton.Led.{Led}
use Rattle.g4_store.specs.declared.automaton.Led.TheVariants.{Row, End}
use Rattle.g4_store.specs.declared.automaton.Fact.{Fact}
use Rattle.g4_store.specs.declared.automaton.Fact.TheVariants.{Start, Cell}
use Rattle.g4_store.specs.declared.automaton.Plan.{Plan}
use Rattle.g4_store.specs.declared.path.Looked.{Looked}
use Rattle.g4_store.specs.declared.path.Origin.{Origin}
use Rattle.g4_store.specs.declared.path.Origin.TheVariants.{AtStart, AtRow}
use Rattle.g4_store.specs.declared.view.View.{View}
use Rattle.g4_store.specs.Numbers.{Among}
use Rattle.g4_store.specs.Views.{IsIdle, IsPassView, hosting, numbered}
use Rattle.g4_store.specs.Known.{AreRows}
use Rattle.g4_store.specs.Paths.{BeginsAt, HasKnownRow, IsKnownRow, Onward, Within, InRows, InKnown, HasRow, IsAt, TakesOr, Followed, Going, next_facts, cells_of, facts_of, LeadsOn, Learns, LearnsAll, LearnsPart, LearnedBy, Fills, Sent}
use Rattle.g4_store.specs.Paths.Going.{goes, ended}
use Rattle.g4_store.proofs.Lists.{at_append, among_left, among_right, in_range}
use Rattle.g4_store.proofs.Moves.{at_numbered, numbered_at}
use Rattle.g4_store.proofs.Following.{within_more, begin_row, begin_refused}

module _ {N C : Type 0} (starts : N → ℕ → C → Type 0) (leads : N → C → ℕ → Led C → Type 0) where
  Onto : Plan N → List (Looked C) → C → Type 0
  Onto p ls x = LeadsOn starts leads p x ls

  -- where the next step begins
  pub going_at : (p : Plan N) (facts : List (Fact C)) (b b' : View C) (full : Bool) (r : Option ℕ) (l : Looked C) (ls : List (Looked C))
      → Going p.rows facts b b' full r (l ∷ ls) (λ x. LeadsOn starts leads p x (l ∷ ls))
      → (l.column < p.columns) × ((x : C) × IsAt b' full x r × leads p.net x l.column l.led)
  going_at p facts b b' full r l ls (goes x done f at on is) = (on.0, (x, at, on.1))
  going_at p facts b b' full r l ls (ended f e) = absurd (let n = ap length e in omega arith)

  pub goes_on : (p : Plan N) (facts : List (Fact C)) (b b' b'' : View C) (full full' : Bool) (r r' : Option ℕ) (l : Looked C)
      (ls : List (Looked C)) → Going p.rows facts b b' full r (l ∷ ls) (λ x. LeadsOn starts leads p x (l ∷ ls))
      → ((x : C) → IsAt b' full x r → (b0 : View C) (done : List (Fact C)) → Followed p.rows done b0 b' full
      → Followed p.rows (done ++ Cell x l.column l.led ∷ []) b0 b'' full' × Onward l.led (λ y. IsAt b'' full' y r'))
      → Going p.rows facts b b'' full' r' ls (λ x. LeadsOn starts leads p x ls)
  goes_on p facts b b' b'' full full' r r' l ls (ended f e) step = absurd (let n = ap length e in omega arith)
  goes_on p facts b b' b'' full full' r r' l ls (goes x done f at on is) step =
      go l.led on.2 (step x at b done f) (is ∙ sym (append_assoc done (Cell x l.column l.led ∷ []) (next_facts l.led (λ y. cells_of y ls))))
    where
      go : (led : Led C) → Rattle.g4_store.specs.Paths.Next starts leads led (λ y. LeadsOn starts leads p y ls) (ls ≡ [])
          → Followed p.rows (done ++ Cell x l.column l.led ∷ []) b b'' full' × Onward led (λ y. IsAt b'' full' y r')
          → facts ≡ (done ++ Cell x l.column l.led ∷ []) ++ next_facts led (λ y. cells_of y ls)
          → Going p.rows facts b b'' full' r' ls (λ x. LeadsOn starts leads p x ls)
      go (Row y mark) n k e = goes y (done ++ Cell x l.column l.led ∷ []) k.0 k.1 n e
      go (End code) n k e = ended (subst (λ (fs : List (Fact C)). Followed p.rows fs b b'' full')
          (sym (e ∙ append-nil (done ++ Cell x l.column l.led ∷ []))) k.0) n

  pub going_ends : (p : Plan N) (facts : List (Fact C)) (b b' : View C) (full : Bool) (r : Option ℕ) (ls : List (Looked C)) → ls ≡ []
      → Going p.rows facts b b' full r ls (λ x. LeadsOn starts leads p x ls) → Followed p.rows facts b b' full
  going_ends p facts b b' full r ls none (ended f e) = f
  going_ends p facts b b' full r ls none (goes x done f at on is) =
      subst (λ (fs : List (Fact C)). Followed p.rows fs b b' full)
      (sym (is ∙ ap (λ (l : List (Looked C)). done ++ cells_of x l) none ∙ append-nil done)) f

module _ {C : Type 0} where
  -- a start was learned, or there was no room for its row
  pub begun : (most : ℕ) (b b' : View C) (i : ℕ) (y : C) (full : Bool) (r : Option ℕ) → b.loose ≡ [] → full ≡ is_none r
      → TakesOr most (Start i y) y b b' r → Followed most (Start i y ∷ []) b b' full × IsAt b' full y r
  begun most b b' i y full (Some t) tight is k =
      let r = begin_row most b b' i t y tight k in
      (subst (λ (f : Bool). Followed most (Start i y ∷ []) b b' f) (sym is) r.0, (r.1.0, λ _. r.1.1 refl))
  begun most b b' i y full None tight is k =
      let r = begin_refused most b b' i y tight k in
      (subst (λ (f : Bool). Followed most (Start i y ∷ []) b b' f) (sym is) r.0, (is, r.1.1))

  pub going_kept : (most : ℕ) (facts : List (Fact C)) (b b' : View C) (full : Bool) (r : Option ℕ) (ls : List (Looked C)) (on : C → Type 0)
      → Going most facts b b' full r ls on → (b'.loose ≡ []) × (b'.holds ≡ b.holds)
  going_kept most facts b b' full r ls on (ended f e) = (f.loose, f.holds)
  going_kept most facts b b' full r ls on (goes x done f at o is) = (f.loose, f.holds)

  learned : (most : ℕ) (facts : List (Fact C)) (old b0 b v : View C) (full : Bool) → b0.seen ≡ old.seen → b0.known ≡ old.known
      → b0.holds ≡ old.holds → b0.count ≡ old.count → b0.taught ≡ old.taught → b0.looks ≡ old.looks
      → ((f : Fact C) → Among f old.seen → Among f b0.facts) → Followed most facts b0 b full
      → v.seen ≡ b.seen → v.holds ≡ b.holds → v.count ≡ b.count → v.taught ≡ b.taught → v.looks ≡ b.looks
      → ((t : ℕ) (y : C) → Among (t, y) b.known → Among (t, y) v.known)
      → ((f : Fact C) → Among f facts → Within (InRows b.rows) f → Within (InKnown v.known) f)
      → ((f : Fact C) → Among f facts → Within (InKnown v.known) f → Among f b.seen)
      → Learns facts old v
  learned most facts old b0 b v full seen known holds count taught looks stood h vs vh vc vt vl more told all = record {
    holds = vh ∙ h.holds ∙ holds;
    count = vc ∙ h.count ∙ count;
    looks = vl ∙ h.looks ∙ looks;
    stored = h.stored;
    taught = vt ∙ h.taught ∙ ap (λ (l : List (Fact C)). h.stored ++ l) taught;
    stores = λ f m. let a = h.stores f m in (a.0, told f a.0 a.1, (λ s. a.2 (stood f s)));
    seen = λ f. (
      (λ m. ⊎_elim
          (λ (x : Among f b0.seen). inl (subst (λ (l : List (Fact C)). Among f l) seen x))
          (λ (x : Among f facts × Within (InRows b.rows) f). inr (x.0, told f x.0 x.1))
          (h.seen_new f (subst (λ (l : List (Fact C)). Among f l) vs m))),
      (λ m. subst (λ (l : List (Fact C)). Among f l) (sym vs) (⊎_elim
          (λ (x : Among f old.seen). h.seen_kept f (subst (λ (l : List (Fact C)). Among f l) (sym seen) x))
          (λ (x : Among f facts × Within (InKnown v.known) f). all f x.0 x.1)
          m)),
    );
    known_kept = λ t y m. more t y (h.known_kept t y (subst (λ (l : List (ℕ × C)). Among (t, y) l) (sym known) m));
  }

  pub learned_by : (most : ℕ) (facts : List (Fact C)) (old b0 b v : View C) (full : Bool) → b0.seen ≡ old.seen → b0.known ≡ old.known
      → b0.holds ≡ old.holds → b0.count ≡ old.count → b0.taught ≡ old.taught → b0.looks ≡ old.looks
      → ((f : Fact C) → Among f old.seen → Among f b0.facts) → Followed most facts b0 b full
      → ((t : ℕ) (y : C) → Among (t, y) b.known → get_elem? b.rows t ≡ maybe.some y)
      → ((r q : ℕ) (x : C) → get_elem? b.rows r ≡ maybe.some x → get_elem? b.rows q ≡ maybe.some x → r ≡ q)
      → Sent full b v → LearnedBy most facts old v full
  learned_by most facts old b0 b v false seen known holds count taught looks stood h rows differ sent =
      let vk : v.known ≡ b.known = ap (λ (u : View C). u.known) sent in
      let told : (f : Fact C) → Among f facts
      → Within (InKnown v.known) f = λ f m. subst (λ (l : List (ℕ × C)). Within (InKnown l) f) (sym vk) (h.whole refl f m).1 in
      record {
        learns = learned most facts old b0 b v false seen known holds count taught looks stood h (ap (λ (u : View C). u.seen) sent)
            (ap (λ (u : View C). u.holds) sent) (ap (λ (u : View C). u.count) sent)
            (ap (λ (u : View C). u.taught) sent) (ap (λ (u : View C). u.looks) sent)
            (λ t y m. subst (λ (l : List (ℕ × C)). Among (t, y) l) (sym vk) m) (λ f m _. told f m) (λ f m _. (h.whole refl f m).0);
        whole = told;
        known_new = λ t y m. ⊎_elim
            (λ (x : Among (t, y) b0.known). inl (subst (λ (l : List (ℕ × C)). Among (t, y) l) known x))
            (λ (x : HasRow facts y). inr x)
            (h.known_new t y (subst (λ (l : List (ℕ × C)). Among (t, y) l) vk m));
      }
  learned_by most facts old b0 b v true seen known holds count taught looks stood h rows differ sent =
      let vk : v.known ≡ numbered 0 b.rows ++ b.known = ap (λ (u : View C). u.known) sent in
      let in_rows : (y : C) → InKnown v.known y → InRows b.rows y = λ y k. ⊎_elim
      (λ (x : Among (k.0, y) (numbered 0 b.rows)). let r = at_numbered 0 b.rows k.0 y x in (r.0, r.2))
      (λ (x : Among (k.0, y) b.known). (k.0, rows k.0 y x))
      (at_append (k.0, y) (numbered 0 b.rows) b.known (subst (λ (l : List (ℕ × C)). Among (k.0, y) l) vk k.1)) in
      let in_known : (t : ℕ) (y : C) → get_elem? b.rows t ≡ maybe.some y
      → Among (t, y) v.known = λ t y e. subst (λ (l : List (ℕ × C)). Among (t, y) l) (sym vk)
      (among_left (t, y) (numbered 0 b.rows) b.known
      (subst (λ (k : ℕ). Among (k, y) (numbered 0 b.rows)) (let z : 0 + t ≡ t = omega arith in z) (numbered_at 0 b.rows t y e))) in
      record {
        learns = learned most facts old b0 b v true seen known holds count taught looks stood h (ap (λ (u : View C). u.seen) sent)
            (ap (λ (u : View C). u.holds) sent) (ap (λ (u : View C). u.count) sent)
            (ap (λ (u : View C). u.taught) sent) (ap (λ (u : View C). u.looks) sent)
            (λ t y m. subst (λ (l : List (ℕ × C)). Among (t, y) l) (sym vk) (among_right (t, y) (numbered 0 b.rows) b.known m))
            (λ f m w. within_more (InRows b.rows) (InKnown v.known) (λ z r. (r.0, in_known r.0 z r.1)) f w)
            (λ f m w. h.part refl f m (within_more (InKnown v.known) (InRows b.rows) in_rows f w));
        full = record { rows = b.rows; all = h.all refl; differ = differ; are_known = in_known };
        missing = let k = h.missing refl in (k.0, k.1, λ w. k.2 (in_rows k.0 w));
      }

  pub sent_pass : (full : Bool) (b v : View C) → Sent full b v → IsPassView v
  sent_pass true b v e = subst (λ (u : View C). IsPassView u) (sym e) refl
  sent_pass false b v e = subst (λ (u : View C). IsPassView u) (sym e) refl

  pub sent_taught : (full : Bool) (b v : View C) → Sent full b v → v.taught ≡ b.taught
  sent_taught true b v e = ap (λ (u : View C). u.taught) e
  sent_taught false b v e = ap (λ (u : View C). u.taught) e

  -- what the book filled is what the pass has taught then
  pub fills : (most : ℕ) (facts : List (Fact C)) (old b0 b v book book' : View C) (full : Bool) → b0.taught ≡ old.taught
      → b0.facts ≡ book.facts → Followed most facts b0 b full → ((f : Fact C) → Among f b.seen → Among f b.facts)
      → v.taught ≡ b.taught → book'.facts ≡ b.facts → book'.rows ≡ b.rows → Fills facts old v book book'
  fills most facts old b0 b v book book' full taught stood h stand vt bf br = record {
    stored = h.stored;
    taught = vt ∙ h.taught ∙ ap (λ (l : List (Fact C)). h.stored ++ l) taught;
    stand = bf ∙ h.facts ∙ ap (λ (l : List (Fact C)). h.stored ++ l) stood;
    stores = λ f m. let a = h.stores f m in (
      a.0,
      subst (λ (l : List C). Within (InRows l) f) (sym br) a.1,
      (λ x. a.2 (subst (λ (l : List (Fact C)). Among f l) (sym stood) x)),
    );
    filled = λ f m w. subst (λ (l : List (Fact C)). Among f l) (sym bf)
        (stand f (go full refl f m (subst (λ (l : List C). Within (InRows l) f) br w)));
  }
    where
      go : (c : Bool) → full ≡ c → (f : Fact C) → Among f facts → Within (InRows b.rows) f → Among f b.seen
      go true e f m w = h.part e f m w
      go false e f m w = (h.whole e f m).0

  -- what the guest knows, the bench that it visits knows of its rows
  pub guest_row : (b v h k : View C) → IsIdle b → h ≡ hosting b v → k ≡ h
      → ((t : ℕ) (y : C) → Among (t, y) h.known → get_elem? h.rows t ≡ maybe.some y) → (t : ℕ) (y : C) → IsKnownRow v t y
      → HasKnownRow k t y
  guest_row b v h k idle is same rows t y m =
      let known : h.known ≡ v.known = ap (λ (u : View C). u.known) is ∙ ap (λ (u : View C). u.known ++ v.known) idle in
      let m' = subst (λ (l : List (ℕ × C)). Among (t, y) l) (sym known) m in (
        ap (λ (u : View C). get_elem? u.rows t) same ∙ rows t y m',
        (t, subst (λ (u : View C). Among (t, y) u.known) (sym same) m'),
      )

  -- what a guest goes with is known of rows
  pub sent_rows : (most : ℕ) (full : Bool) (b v : View C) → Sent full b v
      → ((t : ℕ) (y : C) → Among (t, y) b.known → get_elem? b.rows t ≡ maybe.some y) → length b.rows ≤ most → AreRows most v.known
  sent_rows most full b v sent rows room = record {
    within = λ t y m. (let a = in_range b.rows t y (there full sent t y m) in omega arith);
    one = λ t y z m n. maybe.some-injective _ _ (sym (there full sent t y m) ∙ there full sent t z n);
  }
    where
      there : (c : Bool) → Sent c b v → (t : ℕ) (y : C) → Among (t, y) v.known → get_elem? b.rows t ≡ maybe.some y
      there true e t y m = elim (at_append (t, y) (numbered 0 b.rows) b.known
          (subst (λ (l : List (ℕ × C)). Among (t, y) l) (ap (λ (u : View C). u.known) e) m)) [
            | inl a ↦
                let r = at_numbered 0 b.rows t y a in
                let k : t ≡ r.0 = let q = r.1 in omega arith in ap (λ (j : ℕ). get_elem? b.rows j) k ∙ r.2
            | inr a ↦ rows t y a
          ]
      there false e t y m = rows t y (subst (λ (l : List (ℕ × C)). Among (t, y) l) (ap (λ (u : View C). u.known) e) m)

module _ {N C : Type 0} (starts : N → ℕ → C → Type 0) where
  -- where learning begins is said by what stands of rows
  pub begins_more : (p : Plan N) (P Q : ℕ → C → Type 0) → ((r : ℕ) (x : C) → P r x → Q r x) → (origin : Origin C) (x : C)
      → BeginsAt starts p P origin x → BeginsAt starts p Q origin x
  begins_more p P Q more (AtStart i y) x b = b
  begins_more p P Q more (AtRow r) x b = more r x b

  -- it begins at one content
  pub begins_one : (p : Plan N) (P : ℕ → C → Type 0) → ((r : ℕ) (x y : C) → P r x → P r y → x ≡ y) → (origin : Origin C) (x y : C)
      → BeginsAt starts p P origin x → BeginsAt starts p P origin y → x ≡ y
  begins_one p P one (AtStart i z) x y a b = sym a.2 ∙ b.2
  begins_one p P one (AtRow r) x y a b = one r x y a b
