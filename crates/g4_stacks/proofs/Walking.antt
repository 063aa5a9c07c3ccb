-- What the loop that takes nodes over keeps: the nodes under way, from the one that is wanted down to the lowest.
use Rattle.std.proofs.Common.{◌≡◌, ℕ, zero, suc, ◌<◌, inl, inr, List, [], ◌∷◌, ◌++◌, Bool, true, false, Option, Some, None, cond, length, slice_get, get_or, take, refl, sym, ◌∙◌, ap, subst, arith, length-append}
use Rattle.std.proofs.lemmas.Option.{slice_get_within, slice_get_read}
use Rattle.std.specs.Ordering.{nat_cmp, is_eq}
use Rattle.std.specs.Cmp.{Equal-is}
use Rattle.std.specs.BTreeMap.{BTreeMap, get, is_at}
use Rattle.std.proofs.lemmas.Map.Lookups.{exact_unsigned}
use Rattle.g4_stacks.specs.declared.copying.Frame.{Frame}
use Rattle.g4_stacks.specs.Graph.{Content, In, IsNode, Ascends}
use Rattle.g4_stacks.specs.Table.{IsAdded}
use Rattle.g4_stacks.specs.Canonical.{LeadBelow, IsPlain, IsCanonical, Grows}
use Rattle.g4_stacks.specs.Merge.{tops_by, tops_of}
use Rattle.g4_stacks.specs.Taking.{with_tops, Takes, takes, TakesTops, no_top, IsKnown}
use Rattle.g4_stacks.proofs.Ordered.{lead_below}
use Rattle.g4_stacks.proofs.Canonicity.{content_of}
use Rattle.g4_stacks.proofs.Merging.{Grows-self, LeadBelow-more}
use Rattle.g4_stacks.proofs.Taking.{Grows-added, sound_tops, again, TakesTops-push}

-- the tops so far of a node: as many of its own as these, taken over in turn
pub record IsPartly (other : List Content) (node : ℕ) (old new : List Content) (tops : List (ℕ × ℕ)) : Type 0 where
  pub held : Content
  pub at : slice_get other node ≡ Some held
  pub below : TakesTops other (take (length tops) held.tops) old new tops
  pub canonical : IsCanonical old

-- a node of which some tops are taken over waits for the node of the next
pub record IsWaiting (other : List Content) (f : Frame) (old mid : List Content) (node : ℕ) : Type 0 where
  pub partly : IsPartly other f.node old mid f.tops.items
  pub next : slice_get (tops_of other f.node) (length f.tops.items) ≡ Some (f.state, node)

-- the frames wait for one another, from the first node down to the last
abbrev pub Waits : List Content → List Frame → ℕ → List Content → ℕ → List Content → Type 0
Waits other [] first old last new = (first ≡ last) × (old ≡ new)
Waits other (f ∷ fs) first old last new = (f.node ≡ first)
    × ((mid : List Content) × (node : ℕ) × IsWaiting other f old mid node × Waits other fs node mid last new)

-- what the loop keeps
pub record IsWalking (other : List Content) (root : ℕ) (old : List Content) (waiting : List Frame) (node : ℕ) (tops : List (ℕ × ℕ))
    (new : List Content) (known : BTreeMap ℕ ℕ) : Type 0 where
  pub start : List Content
  pub frames : Waits other waiting root old node start
  pub partly : IsPartly other node start new tops
  pub sound : IsKnown other new known

some_equal : {X : Type 0} {x y : X} → Some x ≡ Some y → x ≡ y
some_equal e = cc

-- one node more that was taken over
known_more : (other g h : List Content) (known known' : BTreeMap ℕ ℕ) (node r : ℕ) → IsKnown other g known → Grows g h
    → Takes other node h h r
    → ((q : ℕ) → get nat_cmp known' q ≡ cond (is_at (nat_cmp node) q) (Some r) (get nat_cmp known q)) → IsKnown other h known'
known_more other g h known known' node r before grows took updates n q is = by (is_eq (nat_cmp node n)) refl
  where
    by : (b : Bool) → is_eq (nat_cmp node n) ≡ b → Takes other n h h q
    by true e =
        let same : node ≡ n = exact_unsigned node n ((Equal-is (nat_cmp node n)).0 e) in
        let found : get nat_cmp known' n ≡ Some r = updates n ∙ ap (λ (b : Bool). cond b (Some r) (get nat_cmp known n)) e in
        let at : r ≡ q = some_equal (sym found ∙ is) in
        subst (λ (m : ℕ). Takes other m h h q) same (subst (Takes other node h h) at took)
    by false e =
        let kept : get nat_cmp known' n ≡ get nat_cmp known n = updates n ∙ ap (λ (b : Bool). cond b (Some r) (get nat_cmp known n)) e in
        again other n q g g h (before n q (sym kept ∙ is)) grows

-- a frame more at the end, and one less
pub waits_push : (other : List Content) (fs : List Frame) (f : Frame) (first : ℕ) (old : List Content) (start mid : List Content)
    (node : ℕ) → Waits other fs first old f.node start → IsWaiting other f start mid node → Waits other (fs ++ f ∷ []) first old node mid
waits_push other [] f first old start mid node w is =
    (sym w.0, (mid, node, subst (λ (g : List Content). IsWaiting other f g mid node) (sym w.1) is, (refl, refl)))
waits_push other (e ∷ fs) f first old start mid node w is = let r = w.1 in
    (w.0, (r.0, r.1, r.2, waits_push other fs f r.1 r.0 start mid node r.3 is))

pub record IsPopped (other : List Content) (fs : List Frame) (f : Frame) (first : ℕ) (old : List Content) (node : ℕ)
    (new : List Content) : Type 0 where
  pub start : List Content
  pub frames : Waits other fs first old f.node start
  pub waiting : IsWaiting other f start new node

pub waits_pop : (other : List Content) (fs : List Frame) (f : Frame) (first : ℕ) (old : List Content) (node : ℕ) (new : List Content)
    → Waits other (fs ++ f ∷ []) first old node new → IsPopped other fs f first old node new
waits_pop other [] f first old node new w =
    let r = w.1 in
    let e = r.3 in
    record {
      start = old;
      frames = (sym w.0, refl);
      waiting = subst (λ (g : List Content). IsWaiting other f old g node) e.1 (subst (λ (n : ℕ). IsWaiting other f old r.0 n) e.0 r.2);
    }
waits_pop other (e ∷ fs) f first old node new w =
    let r = w.1 in
    let p = waits_pop other fs f r.1 r.0 node new r.3 in
    record { start = p.start; frames = (w.0, (r.0, r.1, r.2, p.frames)); waiting = p.waiting }

no_top_at : (i : ℕ) (x : ℕ × ℕ) → slice_get [] i ≡ Some x → ⊥
no_top_at i x e = cc

-- the tops of the content that is there
tops_at : (other : List Content) (node : ℕ) (c : Content) → slice_get other node ≡ Some c → tops_of other node ≡ c.tops
tops_at other node c at = ap (λ o. tops_by o) at

take_one_more : (xs : List (ℕ × ℕ)) (i : ℕ) (x : ℕ × ℕ) → slice_get xs i ≡ Some x → take (suc i) xs ≡ take i xs ++ x ∷ []
take_one_more [] i x is = absurd (cc)
take_one_more (y ∷ xs) zero x is = let e : y ≡ x = cc in ap (λ (z : ℕ × ℕ). z ∷ []) e
take_one_more (y ∷ xs) (suc i) x is = ap (λ zs. y ∷ zs) (take_one_more xs i x is)

take_whole : (xs : List (ℕ × ℕ)) (i : ℕ) → slice_get xs i ≡ None → take i xs ≡ xs
take_whole [] zero is = refl
take_whole [] (suc i) is = refl
take_whole (x ∷ xs) zero is = absurd (cc)
take_whole (x ∷ xs) (suc i) is = ap (λ ys. x ∷ ys) (take_whole xs i is)

pub In-at : (xs : List (ℕ × ℕ)) (i : ℕ) (x : ℕ × ℕ) → slice_get xs i ≡ Some x → In x xs
In-at [] i x is = absurd (cc)
In-at (y ∷ xs) zero x is = let e : y ≡ x = cc in inl (sym e)
In-at (y ∷ xs) (suc i) x is = inr (In-at xs i x is)

Ascends-take : (low i : ℕ) (es : List (ℕ × ℕ)) → Ascends low es → Ascends low (take i es)
Ascends-take low zero es a = tt
Ascends-take low (suc i) [] a = tt
Ascends-take low (suc i) (e ∷ es) a = (a.0, Ascends-take (suc e.0) i es a.1)

LeadBelow-take : (n i : ℕ) (es : List (ℕ × ℕ)) → LeadBelow n es → LeadBelow n (take i es)
LeadBelow-take n zero es b = tt
LeadBelow-take n (suc i) [] b = tt
LeadBelow-take n (suc i) (e ∷ es) b = (b.0, b.1, LeadBelow-take n i es b.2)

-- one top more
pub top_more : (other : List Content) (node : ℕ) (old mid new : List Content) (tops tops' : List (ℕ × ℕ)) (t m r : ℕ)
    → IsPartly other node old mid tops → slice_get (tops_of other node) (length tops) ≡ Some (t, m)
    → Takes other m mid new r → tops' ≡ tops ++ (t, r) ∷ [] → IsPartly other node old new tops'
top_more other node old mid new tops tops' t m r k next took is = record {
  held = k.held;
  at = k.at;
  below = subst (λ (rs : List (ℕ × ℕ)). TakesTops other (take (length rs) k.held.tops) old new rs) (sym is)
      (subst (λ (i : ℕ). TakesTops other (take i k.held.tops) old new (tops ++ (t, r) ∷ [])) (sym long)
      (subst (λ (es : List (ℕ × ℕ)). TakesTops other es old new (tops ++ (t, r) ∷ []))
      (sym (take_one_more k.held.tops (length tops) (t, m) there))
      (TakesTops-push other (take (length tops) k.held.tops) tops t m r old mid new k.below took)));
  canonical = k.canonical;
}
  where
    long : length (tops ++ (t, r) ∷ []) ≡ suc (length tops)
    long = let l = length-append tops ((t, r) ∷ []) in omega arith

    there : slice_get k.held.tops (length tops) ≡ Some (t, m)
    there = subst (λ (es : List (ℕ × ℕ)). slice_get es (length tops) ≡ Some (t, m)) (tops_at other node k.held k.at) next

-- the content of a node is read
pub record IsRead (other : List Content) (node : ℕ) (d : Content) : Type 0 where
  pub contents : List Content
  pub item : Content
  pub whole : contents ≡ other
  pub here : item ≡ get_or contents node item
  pub view : d ≡ item

read_at : (other : List Content) (node : ℕ) (d : Content) → node < length other → IsRead other node d → slice_get other node ≡ Some d
read_at other node d lt k =
    let inside : node < length k.contents = subst (λ (g : List Content). node < length g) (sym k.whole) lt in
    subst (λ (g : List Content). slice_get g node ≡ Some d) k.whole
    (slice_get_read k.contents _ node k.item refl inside k.here ∙ ap Some (sym k.view))

-- the node under way is one
pub node_in : (other : List Content) (root : ℕ) (old : List Content) (waiting : List Frame) (node : ℕ) (tops : List (ℕ × ℕ))
    (g : List Content) (known : BTreeMap ℕ ℕ) → IsWalking other root old waiting node tops g known → IsNode other node
node_in other root old waiting node tops g known k = slice_get_within other node k.partly.held k.partly.at

module _ (other : List Content) (canon : IsCanonical other) where
  -- the node of a top is a lower one
  pub lower_at : (node i t m : ℕ) → slice_get (tops_of other node) i ≡ Some (t, m) → (m < node) × IsNode other m
  lower_at node i t m is = by (slice_get other node) refl
    where
      by : (o : Option Content) → slice_get other node ≡ o → (m < node) × IsNode other m
      by None at = absurd (no_top_at i (t, m) (subst (λ o. slice_get (tops_by o) i ≡ Some (t, m)) at is))
      by (Some c) at =
          let there : slice_get c.tops i ≡ Some (t, m) = subst (λ o. slice_get (tops_by o) i ≡ Some (t, m)) at is in
          let low = (lead_below node t m c.tops (canon.plain node c at).lower (In-at c.tops i (t, m) there)).1 in
          let n_in = slice_get_within other node c at in
          (low, omega arith)

  -- a node with no top yet
  pub none_partly : (node : ℕ) (g : List Content) (tops : List (ℕ × ℕ)) → IsNode other node → IsCanonical g → tops ≡ []
      → IsPartly other node g g tops
  none_partly node g tops n_in canon_g is =
      let c = content_of other node n_in in
      record {
        held = c.0;
        at = c.1;
        below = subst (λ (rs : List (ℕ × ℕ)). TakesTops other (take (length rs) c.0.tops) g g rs)
            (sym is) (no_top g);
        canonical = canon_g;
      }

  -- the walk begins
  pub begun : (root : ℕ) (g : List Content) (waiting : List Frame) (tops : List (ℕ × ℕ)) (known : BTreeMap ℕ ℕ) → IsNode other root
      → IsCanonical g → IsKnown other g known → waiting ≡ [] → tops ≡ [] → IsWalking other root g waiting root tops g known
  begun root g waiting tops known r_in canon_g before none is = record {
    start = g;
    frames = subst (λ (fs : List Frame). Waits other fs root g root g) (sym none) (refl, refl);
    partly = none_partly root g tops r_in canon_g is;
    sound = before;
  }

  -- a top that was taken over before
  pub known_top : (root : ℕ) (old : List Content) (waiting : List Frame) (node : ℕ) (tops tops' : List (ℕ × ℕ)) (g : List Content)
      (known : BTreeMap ℕ ℕ) (t m r : ℕ) → IsWalking other root old waiting node tops g known
      → slice_get (tops_of other node) (length tops) ≡ Some (t, m) → get nat_cmp known m ≡ Some r → tops' ≡ tops ++ (t, r) ∷ []
      → IsWalking other root old waiting node tops' g known
  known_top root old waiting node tops tops' g known t m r k next found is = record {
    start = k.start;
    frames = k.frames;
    partly = top_more other node k.start g g tops tops' t m r k.partly next (k.sound m r found) is;
    sound = k.sound;
  }

  partly_canonical : (node : ℕ) (old new : List Content) (tops : List (ℕ × ℕ)) → IsPartly other node old new tops → IsCanonical new
  partly_canonical node old new tops k =
      let plain = canon.plain node k.held k.at in
      let n_in = slice_get_within other node k.held k.at in
      (sound_tops other canon 0 (take (length tops) k.held.tops) tops old new k.canonical
      (Ascends-take 0 (length tops) k.held.tops plain.sorted)
      (LeadBelow-take (length other) (length tops) k.held.tops
      (LeadBelow-more node (length other) k.held.tops (omega arith) plain.lower)) k.below).canonical

  -- the walk goes down
  pub down : (root : ℕ) (old : List Content) (waiting waiting' : List Frame) (f : Frame) (g : List Content) (known : BTreeMap ℕ ℕ)
      (m : ℕ) (tops : List (ℕ × ℕ)) → IsWalking other root old waiting f.node f.tops.items g known
      → slice_get (tops_of other f.node) (length f.tops.items) ≡ Some (f.state, m) → waiting' ≡ waiting ++ f ∷ [] → tops ≡ []
      → IsWalking other root old waiting' m tops g known
  down root old waiting waiting' f g known m tops k next is none = record {
    start = g;
    frames = subst (λ (fs : List Frame). Waits other fs root old m g) (sym is)
        (waits_push other waiting f root old k.start g m k.frames (record { partly = k.partly; next = next }));
    partly = none_partly m g tops (lower_at f.node (length f.tops.items) f.state m next).1
        (partly_canonical f.node k.start g f.tops.items k.partly) none;
    sound = k.sound;
  }

  -- the tops of a node are all taken over
  whole : (node : ℕ) (old new : List Content) (tops : List (ℕ × ℕ)) (c : Content) → IsPartly other node old new tops
      → slice_get (tops_of other node) (length tops) ≡ None → slice_get other node ≡ Some c → TakesTops other c.tops old new tops
  whole node old new tops c k end at =
      let done : slice_get c.tops (length tops) ≡ None =
      subst (λ (es : List (ℕ × ℕ)). slice_get es (length tops) ≡ None) (tops_at other node c at) end in
      let same : k.held ≡ c = some_equal (sym k.at ∙ at) in
      subst (λ (es : List (ℕ × ℕ)). TakesTops other es old new tops) (take_whole c.tops (length tops) done)
      (subst (λ (d : Content). TakesTops other (take (length tops) d.tops) old new tops) same k.below)

  -- what is made of a node may be at the end
  pub plain_at : (root : ℕ) (old : List Content) (waiting : List Frame) (node : ℕ) (tops : List (ℕ × ℕ)) (g : List Content)
      (known : BTreeMap ℕ ℕ) (c : Content) → IsWalking other root old waiting node tops g known
      → slice_get (tops_of other node) (length tops) ≡ None → IsRead other node c → IsPlain (length g) (with_tops c tops)
  plain_at root old waiting node tops g known c k end read =
      let at = read_at other node c (node_in other root old waiting node tops g known k) read in
      let plain = canon.plain node c at in
      let n_in = slice_get_within other node c at in
      let t = sound_tops other canon 0 c.tops tops k.start g k.partly.canonical plain.sorted
      (LeadBelow-more node (length other) c.tops (omega arith) plain.lower) (whole node k.start g tops c k.partly end at) in
      record { sorted = t.sorted; lower = t.lead }

  -- a node is taken over
  pub record IsDone (root : ℕ) (old : List Content) (waiting : List Frame) (node : ℕ) (new : List Content) (known : BTreeMap ℕ ℕ)
      (r : ℕ) : Type 0 where
    pub start : List Content
    pub frames : Waits other waiting root old node start
    pub took : Takes other node start new r
    pub sound : IsKnown other new known

  pub finished : (root : ℕ) (old : List Content) (waiting : List Frame) (node : ℕ) (tops : List (ℕ × ℕ)) (g new : List Content)
      (known known' : BTreeMap ℕ ℕ) (c : Content) (r : ℕ) → IsWalking other root old waiting node tops g known
      → slice_get (tops_of other node) (length tops) ≡ None → IsRead other node c → IsAdded g (with_tops c tops) new
      → slice_get new r ≡ Some (with_tops c tops)
      → ((q : ℕ) → get nat_cmp known' q ≡ cond (is_at (nat_cmp node) q) (Some r) (get nat_cmp known q))
      → IsDone root old waiting node new known' r
  finished root old waiting node tops g new known known' c r k end read added at_r updates =
      let at = read_at other node c (node_in other root old waiting node tops g known k) read in
      let took : Takes other node k.start new r =
      takes node r c k.start g new tops at (whole node k.start g tops c k.partly end at) added at_r in
      record {
        start = k.start;
        frames = k.frames;
        took = took;
        sound = known_more other g new known known' node r k.sound (Grows-added g new (with_tops c tops) added)
            (again other node r k.start new new took (Grows-self new)) updates;
      }

  -- no node waits for it
  pub taken : (root : ℕ) (old : List Content) (waiting : List Frame) (node : ℕ) (new : List Content) (known : BTreeMap ℕ ℕ) (r : ℕ)
      → IsDone root old waiting node new known r → waiting ≡ [] → Takes other root old new r
  taken root old waiting node new known r k none =
      let w : Waits other [] root old node k.start = subst (λ (fs : List Frame). Waits other fs root old node k.start) none k.frames in
      subst (λ (n : ℕ). Takes other n old new r) (sym w.0) (subst (λ (g : List Content). Takes other node g new r) (sym w.1) k.took)

  -- it is handed up to the node that waits for it
  pub up : (root : ℕ) (old : List Content) (waiting waiting' : List Frame) (f : Frame) (node : ℕ) (new : List Content)
      (known : BTreeMap ℕ ℕ) (r : ℕ) (tops : List (ℕ × ℕ)) → IsDone root old waiting node new known r
      → waiting ≡ waiting' ++ f ∷ [] → tops ≡ f.tops.items ++ (f.state, r) ∷ [] → IsWalking other root old waiting' f.node tops new known
  up root old waiting waiting' f node new known r tops k is made =
      let p = waits_pop other waiting' f root old node k.start
      (subst (λ (fs : List Frame). Waits other fs root old node k.start) is k.frames) in
      record {
        start = p.start;
        frames = p.frames;
        partly = top_more other f.node p.start k.start new f.tops.items tops f.state node r p.waiting.partly p.waiting.next k.took made;
        sound = k.sound;
      }
