-- What is in a list, the order forgotten.
use Rattle.std.proofs.Common.{ℕ, ◌⊎◌, inl, inr, List, [], ◌∷◌, ◌++◌, Bool, refl, sym, subst}
use Rattle.g4_ordered.specs.Network.{LexerNetwork}
use Rattle.g4_ordered.specs.Configurations.{LexerConfig, In}
use Rattle.g4_ordered.specs.Leads.{leads, ReadsTo, Expands, nothing, each, Reaches, here, further}
use Rattle.g4_ordered.specs.Lists.{IsKept, Appends, done, dropped, appended, Keeps, no_more, keeps, leaves, ListOf, ReadAll, all_read, taken, refused}
use Rattle.g4_ordered.proofs.Lists.{In-left, In-right, In-cases}
use Rattle.g4_ordered.proofs.Steps.{one_read}

module _ (net : LexerNetwork) (last : Bool) where
  -- a step and then steps are steps
  pub from_step : (c d e : LexerConfig) → In d (leads net last c) → Reaches net last d e → Reaches net last c e
  from_step c d e i here = further c d here i
  from_step c d e i (further f _ r j) = further f e (from_step c d f i r) j

  -- an expansion has what it is of
  begun : (cs zs : List LexerConfig) → Expands net last cs zs → (c : LexerConfig) → In c cs → In c zs
  begun cs zs nothing c h = absurd h
  begun cs zs (each b more xs ys e f) c (inl is) = inl is
  begun cs zs (each b more xs ys e f) c (inr i) = inr (In-right xs ys c (begun more ys f c i))

  -- and whatever a member leads to
  closed : (cs zs : List LexerConfig) → Expands net last cs zs → (c d : LexerConfig) → In c zs → In d (leads net last c) → In d zs
  closed cs zs nothing c d h l = absurd h
  closed cs zs (each b more xs ys e f) c d (inl is) l = inr (In-left xs ys d (begun _ xs e d (subst (λ x. In d (leads net last x)) is l)))
  closed cs zs (each b more xs ys e f) c d (inr i) l = elim (In-cases xs ys c i) [
    | inl j ↦ inr (In-left xs ys d (closed _ xs e c d j l))
    | inr j ↦ inr (In-right xs ys d (closed more ys f c d j l))
  ]

  -- so whatever they lead to is in it
  pub expanded : (cs zs : List LexerConfig) → Expands net last cs zs → (c d : LexerConfig) → In c cs → Reaches net last c d → In d zs
  expanded cs zs e c d i here = begun cs zs e c i
  expanded cs zs e c d i (further b _ r j) = closed cs zs e b d (expanded cs zs e c b i r) j

  -- and nothing else
  pub led : (cs zs : List LexerConfig) → Expands net last cs zs → (d : LexerConfig) → In d zs
      → (c : LexerConfig) × In c cs × Reaches net last c d
  led cs zs nothing d h = absurd h
  led cs zs (each b more xs ys e f) d (inl is) = (b, inl refl, subst (Reaches net last b) (sym is) here)
  led cs zs (each b more xs ys e f) d (inr i) = elim (In-cases xs ys d i) [
    | inl j ↦ (let r = led _ xs e d j in (b, inl refl, from_step b r.0 d r.1 r.2))
    | inr j ↦ (let r = led more ys f d j in (r.0, inr r.1, r.2))
  ]

module _ (Late : List LexerConfig → LexerConfig → Type 0) (new : List LexerConfig) where
  -- what is in the list stays
  stays : (more old : List LexerConfig) → Appends Late new more old → (d : LexerConfig) → In d old → In d new
  stays more old done d i = i
  stays more old (dropped c cs _ h a) d i = stays cs old a d i
  stays more old (appended c cs _ h a) d i = stays cs (old ++ c ∷ []) a d (In-left old (c ∷ []) d i)

  -- what is in the new list was in the old one, or is appended
  from_either : (more old : List LexerConfig) → Appends Late new more old → (d : LexerConfig) → In d new → In d old ⊎ In d more
  from_either more old done d i = inl i
  from_either more old (dropped c cs _ h a) d i = elim (from_either cs old a d i) [ inl j ↦ inl j | inr j ↦ inr (inr j) ]
  from_either more old (appended c cs _ h a) d i = elim (from_either cs (old ++ c ∷ []) a d i) [
    | inl j ↦ elim (In-cases old (c ∷ []) d j) [ inl k ↦ inl k | inr k ↦ elim k [ inl is ↦ inr (inl is) | inr no_place ↦ absurd no_place ] ]
    | inr j ↦ inr (inr j)
  ]

  -- what is never late is in the new list
  in_time : (more old : List LexerConfig) → Appends Late new more old → (d : LexerConfig)
      → ((list : List LexerConfig) → Late list d → ⊥) → In d more → In d new
  in_time more old done d never i = absurd i
  in_time more old (dropped c cs _ h a) d never (inl is) = elim h [
    | inl j ↦ stays cs old a d (subst (λ x. In x old) (sym is) j)
    | inr l ↦ absurd (never old (subst (Late old) (sym is) l))
  ]
  in_time more old (dropped c cs _ h a) d never (inr i) = in_time cs old a d never i
  in_time more old (appended c cs _ h a) d never (inl is) = stays cs (old ++ c ∷ []) a d (In-right old (c ∷ []) d (inl is))
  in_time more old (appended c cs _ h a) d never (inr i) = in_time cs (old ++ c ∷ []) a d never i

-- what is in the list of those kept was in the list, and is kept
pub kept_in : (net : LexerNetwork) (cs ds : List LexerConfig) → Keeps net cs ds → (d : LexerConfig) → In d ds → In d cs × IsKept net d
kept_in net cs ds no_more d h = absurd h
kept_in net cs ds (keeps c more kept k h) d (inl is) = (inl is, subst (IsKept net) (sym is) k)
kept_in net cs ds (keeps c more kept k h) d (inr i) = let r = kept_in net more kept h d i in (inr r.0, r.1)
kept_in net cs ds (leaves c more _ k h) d i = let r = kept_in net more ds h d i in (inr r.0, r.1)

-- what is in the list and kept is in the list of those kept
pub in_kept : (net : LexerNetwork) (cs ds : List LexerConfig) → Keeps net cs ds → (d : LexerConfig) → IsKept net d → In d cs → In d ds
in_kept net cs ds no_more d k i = i
in_kept net cs ds (keeps c more kept q h) d k (inl is) = inl is
in_kept net cs ds (keeps c more kept q h) d k (inr i) = inr (in_kept net more kept h d k i)
in_kept net cs ds (leaves c more _ q h) d k (inl is) = absurd (q (subst (IsKept net) is k))
in_kept net cs ds (leaves c more _ q h) d k (inr i) = in_kept net more ds h d k i

-- a list has only what is kept and led to
pub list_sound : (net : LexerNetwork) (last : Bool) (Late : List LexerConfig → LexerConfig → Type 0) (starts list : List LexerConfig)
    → ListOf net last Late starts list → (d : LexerConfig) → In d list
    → IsKept net d × ((c : LexerConfig) × In c starts × Reaches net last c d)
list_sound net last Late starts list h d i =
    let k = kept_in net h.all list h.keeps d i in
    elim (from_either Late h.all h.expansion [] h.appends d k.0) [
      | inl no_place ↦ absurd no_place
      | inr j ↦ (k.1, led net last starts h.expansion h.expands d j)
    ]

-- and all of that which is never late
pub list_complete : (net : LexerNetwork) (last : Bool) (Late : List LexerConfig → LexerConfig → Type 0)
    (starts list : List LexerConfig) → ListOf net last Late starts list → (c d : LexerConfig)
    → ((l : List LexerConfig) → Late l d → ⊥) → IsKept net d → In c starts → Reaches net last c d → In d list
list_complete net last Late starts list h c d never k i r =
    in_kept net h.all list h.keeps d k (in_time Late h.all h.expansion [] h.appends d never
    (expanded net last starts h.expansion h.expands c d i r))

module _ (net : LexerNetwork) (a : ℕ) where
  -- what a list reads to is what a member reads to
  pub read_by : (list read : List LexerConfig) → ReadAll net a list read → (d : LexerConfig) → In d read
      → (c : LexerConfig) × In c list × ReadsTo net a c d
  read_by list read all_read d i = absurd i
  read_by list read (taken c e cs ds h more) d (inl is) = (c, inl refl, subst (ReadsTo net a c) (sym is) h)
  read_by list read (taken c e cs ds h more) d (inr i) = let r = read_by cs ds more d i in (r.0, inr r.1, r.2)
  read_by list read (refused c cs _ h more) d i = let r = read_by cs read more d i in (r.0, inr r.1, r.2)

  -- and all of that
  pub in_read : (list read : List LexerConfig) → ReadAll net a list read → (c d : LexerConfig) → In c list → ReadsTo net a c d → In d read
  in_read list read all_read c d i h = absurd i
  in_read list read (taken b e cs ds k more) c d (inl is) h = inl (one_read net a b d e (subst (λ x. ReadsTo net a x d) is h) k)
  in_read list read (taken b e cs ds k more) c d (inr i) h = inr (in_read cs ds more c d i h)
  in_read list read (refused b cs _ k more) c d (inl is) h = absurd (k d (subst (λ x. ReadsTo net a x d) is h))
  in_read list read (refused b cs _ k more) c d (inr i) h = in_read cs read more c d i h
