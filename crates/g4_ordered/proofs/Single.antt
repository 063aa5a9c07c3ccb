-- The configurations of a rule in the list of many are the list of that rule alone.
use Rattle.std.proofs.Common.{◌≡◌, ℕ, inl, inr, List, [], ◌∷◌, ◌++◌, Bool, true, false, refl, sym, ◌∙◌, ap, subst}
use Rattle.std.proofs.lemmas.List.{append-nil}
use Rattle.g4_ordered.specs.Network.{LexerNetwork}
use Rattle.g4_ordered.specs.Configurations.{LexerConfig, In}
use Rattle.g4_ordered.specs.Leads.{Expands, nothing, each}
use Rattle.g4_ordered.specs.Lists.{IsDropped, late_in, Appends, done, dropped, appended, Keeps, keeps, leaves, ListOf, ReadAll, all_read, taken, refused, ListAt, first, step, is_last}
use Rattle.g4_ordered.specs.Lists.{no_more as nothing_kept}
use Rattle.g4_ordered.specs.Single.{OfRule, no_more, own, other}
use Rattle.g4_ordered.proofs.Steps.{read_follows}
use Rattle.g4_ordered.proofs.Order.{expanded_alike}
use Rattle.g4_ordered.proofs.Deciding.{same_number}

module _ (rule : ℕ) where
  -- the part of a list that is the rule's
  pub part : (cs : List LexerConfig) → (ds : List LexerConfig) × OfRule rule cs ds
  part [] = ([], no_more)
  part (c ∷ cs) = let r = part cs in elim (same_number c.rule rule)
      [ inl e ↦ (c ∷ r.0, own c cs r.0 e r.1) | inr differs ↦ (r.0, other c cs r.0 differs r.1) ]

  -- the parts of two lists are that of both together
  joined : (xs ys us vs : List LexerConfig) → OfRule rule xs us → OfRule rule ys vs → OfRule rule (xs ++ ys) (us ++ vs)
  joined xs ys us vs no_more h = h
  joined xs ys us vs (own c cs ds e g) h = own c (cs ++ ys) (ds ++ vs) e (joined cs ys ds vs g h)
  joined xs ys us vs (other c cs _ e g) h = other c (cs ++ ys) (us ++ vs) e (joined cs ys us vs g h)

  -- all of a list that is the rule's
  whole : (xs : List LexerConfig) → ((x : LexerConfig) → In x xs → x.rule ≡ rule) → OfRule rule xs xs
  whole [] h = no_more
  whole (x ∷ xs) h = own x xs xs (h x (inl refl)) (whole xs (λ y i. h y (inr i)))

  -- nothing of a list that has none of the rule's
  nowhere : (xs : List LexerConfig) → ((x : LexerConfig) → In x xs → x.rule ≡ rule → ⊥) → OfRule rule xs []
  nowhere [] h = no_more
  nowhere (x ∷ xs) h = other x xs [] (h x (inl refl)) (nowhere xs (λ y i. h y (inr i)))

  -- what is the rule's in the list is in its part
  pub in_part : (xs us : List LexerConfig) → OfRule rule xs us → (x : LexerConfig) → x.rule ≡ rule → In x xs → In x us
  in_part xs us no_more x e i = i
  in_part xs us (own c cs ds k h) x e (inl is) = inl is
  in_part xs us (own c cs ds k h) x e (inr i) = inr (in_part cs ds h x e i)
  in_part xs us (other c cs _ k h) x e (inl is) = absurd (k (sym (ap (λ (y : LexerConfig). y.rule) is) ∙ e))
  in_part xs us (other c cs _ k h) x e (inr i) = in_part cs us h x e i

  -- what is in the part is in the list
  pub part_in : (xs us : List LexerConfig) → OfRule rule xs us → (x : LexerConfig) → In x us → In x xs
  part_in xs us no_more x i = i
  part_in xs us (own c cs ds k h) x (inl is) = inl is
  part_in xs us (own c cs ds k h) x (inr i) = inr (part_in cs ds h x i)
  part_in xs us (other c cs _ k h) x i = inr (part_in cs us h x i)

  module _ (net : LexerNetwork) where
    -- the part of an expansion is the expansion of the part
    expands_part : (last : Bool) (cs zs us : List LexerConfig) → Expands net last cs zs → OfRule rule cs us
        → (vs : List LexerConfig) × OfRule rule zs vs × Expands net last us vs
    expands_part last cs zs us nothing no_more = ([], no_more, nothing)
    expands_part last cs zs us (each c others xs ys e f) (own _ _ ds k h) =
        let r = expands_part last others ys ds f h in
        let mine : (x : LexerConfig) → In x xs → x.rule ≡ rule = λ x i. (expanded_alike net last c xs e x i).rule ∙ k in
        (c ∷ xs ++ r.0, own c (xs ++ ys) (xs ++ r.0) k (joined xs ys xs r.0 (whole xs mine) r.1), each c ds xs r.0 e r.2)
    expands_part last cs zs us (each c others xs ys e f) (other _ _ _ k h) =
        let r = expands_part last others ys us f h in
        let not_mine : (x : LexerConfig) → In x xs → x.rule ≡ rule → ⊥ = λ x i m. k (sym (expanded_alike net last c xs e x i).rule ∙ m) in
        (r.0, other c (xs ++ ys) r.0 k (joined xs ys [] r.0 (nowhere xs not_mine) r.1), r.2)

    -- what is dropped of the rule is dropped by the rule's part of the list
    dropped_part : (in_step : Bool) (old us : List LexerConfig) (c : LexerConfig) → OfRule rule old us → c.rule ≡ rule
        → IsDropped (late_in net in_step) old c → IsDropped (late_in net in_step) us c
    dropped_part in_step old us c h k (inl i) = inl (in_part old us h c k i)
    dropped_part false old us c h k (inr l) = absurd l
    dropped_part true old us c h k (inr l) = inr (l.0, (l.1.0, in_part old us h l.1.0 (l.1.2 ∙ k) l.1.1, l.1.2, l.1.3))

    -- and what its part drops is dropped
    part_dropped : (in_step : Bool) (old us : List LexerConfig) (c : LexerConfig) → OfRule rule old us
        → IsDropped (late_in net in_step) us c → IsDropped (late_in net in_step) old c
    part_dropped in_step old us c h (inl i) = inl (part_in old us h c i)
    part_dropped false old us c h (inr l) = absurd l
    part_dropped true old us c h (inr l) = inr (l.0, (l.1.0, part_in old us h l.1.0 l.1.1, l.1.2, l.1.3))

    -- so appending the part makes the part
    appends_part : (in_step : Bool) (new more old us vs : List LexerConfig) → Appends (late_in net in_step) new more old
        → OfRule rule more us → OfRule rule old vs → (ws : List LexerConfig) × OfRule rule new ws × Appends (late_in net in_step) ws us vs
    appends_part in_step new more old us vs done no_more g = (vs, g, done)
    appends_part in_step new more old us vs (dropped c cs _ d a) (own _ _ ds k h) g =
        let r = appends_part in_step new cs old ds vs a h g in (r.0, r.1, dropped c ds vs (dropped_part in_step old vs c g k d) r.2)
    appends_part in_step new more old us vs (dropped c cs _ d a) (other _ _ _ k h) g = appends_part in_step new cs old us vs a h g
    appends_part in_step new more old us vs (appended c cs _ d a) (own _ _ ds k h) g =
        let r = appends_part in_step new cs (old ++ c ∷ []) ds (vs ++ c ∷ []) a h
        (joined old (c ∷ []) vs (c ∷ []) g (own c [] [] k no_more)) in
        (r.0, r.1, appended c ds vs (λ x. d (part_dropped in_step old vs c g x)) r.2)
    appends_part in_step new more old us vs (appended c cs _ d a) (other _ _ _ k h) g =
        appends_part in_step new cs (old ++ c ∷ []) us vs a h
        (subst (OfRule rule (old ++ c ∷ [])) (append-nil vs) (joined old (c ∷ []) vs [] g (other c [] [] k no_more)))

    -- and so does keeping
    keeps_part : (cs ds us : List LexerConfig) → Keeps net cs ds → OfRule rule cs us
        → (vs : List LexerConfig) × OfRule rule ds vs × Keeps net us vs
    keeps_part cs ds us nothing_kept no_more = ([], no_more, nothing_kept)
    keeps_part cs ds us (keeps c others kept q a) (own _ _ es k h) = let r = keeps_part others kept es a h in
        (c ∷ r.0, own c kept r.0 k r.1, keeps c es r.0 q r.2)
    keeps_part cs ds us (keeps c others kept q a) (other _ _ _ k h) = let r = keeps_part others kept us a h in
        (r.0, other c kept r.0 k r.1, r.2)
    keeps_part cs ds us (leaves c others _ q a) (own _ _ es k h) = let r = keeps_part others ds es a h in (r.0, r.1, leaves c es r.0 q r.2)
    keeps_part cs ds us (leaves c others _ q a) (other _ _ _ k h) = keeps_part others ds us a h

    -- and so the part of a list is that of the starts' part
    list_part : (last in_step : Bool) (starts list us : List LexerConfig) → ListOf net last (late_in net in_step) starts list
        → OfRule rule starts us → (vs : List LexerConfig) × OfRule rule list vs × ListOf net last (late_in net in_step) us vs
    list_part last in_step starts list us h g =
        let e = expands_part last starts h.expansion us h.expands g in
        let a = appends_part in_step h.all h.expansion [] e.0 [] h.appends e.1 no_more in
        let k = keeps_part h.all list a.0 h.keeps a.1 in
        (k.0, k.1, record { expansion = e.0; all = a.0; expands = e.2; appends = a.2; keeps = k.2 })

    -- and the part of what a list reads to is what its part reads to
    read_part : (a : ℕ) (cs rs us : List LexerConfig) → ReadAll net a cs rs → OfRule rule cs us
        → (vs : List LexerConfig) × OfRule rule rs vs × ReadAll net a us vs
    read_part a cs rs us all_read no_more = ([], no_more, all_read)
    read_part a cs rs us (taken c d others read q more) (own _ _ ds k h) =
        let r = read_part a others read ds more h in
        (d ∷ r.0, own d read r.0 ((read_follows net a c d q).rule ∙ k) r.1, taken c d ds r.0 q r.2)
    read_part a cs rs us (taken c d others read q more) (other _ _ _ k h) =
        let r = read_part a others read us more h in
        (r.0, other d read r.0 (λ m. k (sym (read_follows net a c d q).rule ∙ m)) r.1, r.2)
    read_part a cs rs us (refused c others _ q more) (own _ _ ds k h) = let r = read_part a others rs ds more h in
        (r.0, r.1, refused c ds r.0 q r.2)
    read_part a cs rs us (refused c others _ q more) (other _ _ _ k h) = read_part a others rs us more h

    -- the rule's part of the list is the list of the rule's starts
    pub list_alone : (starts us : List LexerConfig) (w v : List ℕ) (list : List LexerConfig) → ListAt net starts w v list
        → OfRule rule starts us → (vs : List LexerConfig) × OfRule rule list vs × ListAt net us w v vs
    list_alone starts us w v list (first _ h) g = let r = list_part (is_last w) false starts list us h g in (r.0, r.1, first r.0 r.2)
    list_alone starts us w v list (step a _ l read _ k q h) g =
        let b = list_alone starts us w (a ∷ v) l k g in
        let p = read_part a l read b.0 q b.1 in
        let r = list_part (is_last v) true read list p.0 h p.1 in
        (r.0, r.1, step a v b.0 p.0 r.0 b.2 p.2 r.2)
