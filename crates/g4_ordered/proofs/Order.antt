-- The alternatives of a rule come in their order in every list.
use Rattle.std.proofs.Common.{◌≡◌, ◌≤◌, ℕ, inl, inr, List, [], ◌∷◌, ◌++◌, Bool, refl, sym, ◌∙◌, subst, arith, append_assoc}
use Rattle.std.proofs.lemmas.List.{append-nil}
use Rattle.g4_ordered.specs.Network.{LexerNetwork}
use Rattle.g4_ordered.specs.Configurations.{LexerConfig, In}
use Rattle.g4_ordered.specs.Leads.{leads, Expands, nothing, each, Reaches, here, further}
use Rattle.g4_ordered.specs.Lists.{Appends, done, dropped, appended, Keeps, no_more, keeps, leaves, ListOf, ReadAll, all_read, taken, refused, ListAt, first, step, is_last, Never, BehindEnd}
use Rattle.g4_ordered.specs.Matching.{InOrder, more}
use Rattle.g4_ordered.specs.Matching.{no_more as empty}
use Rattle.g4_ordered.proofs.Lists.{In-left, In-right, In-cases}
use Rattle.g4_ordered.proofs.Members.{led, kept_in, read_by}
use Rattle.g4_ordered.proofs.Steps.{lead_follows, read_follows, Alike, alike, alike_on}

-- of one rule, c's alternative is not greater
abbrev Before : LexerConfig → LexerConfig → Type 0
Before c d = d.rule ≡ c.rule → c.alternative ≤ d.alternative

-- steps keep the rule and the alternative
reach_alike : (net : LexerNetwork) (last : Bool) (c d : LexerConfig) → Reaches net last c d → Alike c d
reach_alike net last c d here = alike c
reach_alike net last c d (further e _ r i) = alike_on c e d (reach_alike net last c e r) (lead_follows net last e d i)

-- so what comes of configurations in order is in order
alike_before : (b c d e : LexerConfig) → Alike b d → Alike c e → Before b c → Before d e
alike_before b c d e x y h r =
    let k : c.rule ≡ b.rule = sym y.rule ∙ r ∙ x.rule in
    let n = h k in let p = x.alternative in let q = y.alternative in omega arith

-- two lists one after the other are in order
both : (xs ys : List LexerConfig) → InOrder xs → InOrder ys → ((x y : LexerConfig) → In x xs → In y ys → Before x y) → InOrder (xs ++ ys)
both xs ys empty k h = k
both xs ys (more c cs f g) k h = more c (cs ++ ys) (λ d i. elim (In-cases cs ys d i) [ inl j ↦ f d j | inr j ↦ h c d (inl refl) j ])
    (both cs ys g k (λ x y i j. h x y (inr i) j))

-- what is all of one configuration is in order
all_of : (c : LexerConfig) (xs : List LexerConfig) → ((x : LexerConfig) → In x xs → Alike c x) → InOrder xs
all_of c [] h = empty
all_of c (x ∷ xs) h = more x xs (λ d i r. let p = (h x (inl refl)).alternative in let q = (h d (inr i)).alternative in omega arith)
    (all_of c xs (λ y i. h y (inr i)))

-- the first is before the others
head_before : (c : LexerConfig) (cs : List LexerConfig) → InOrder (c ∷ cs) → (d : LexerConfig) → In d cs → Before c d
head_before c cs (more _ _ f g) = f

-- and the others are in order
tail_in_order : (c : LexerConfig) (cs : List LexerConfig) → InOrder (c ∷ cs) → InOrder cs
tail_in_order c cs (more _ _ f g) = g

-- what a configuration expands to is of its rule and alternative
pub expanded_alike : (net : LexerNetwork) (last : Bool) (c : LexerConfig) (xs : List LexerConfig)
    → Expands net last (leads net last c) xs → (x : LexerConfig) → In x xs → Alike c x
expanded_alike net last c xs e x i =
    let r = led net last (leads net last c) xs e x i in
    let a = reach_alike net last r.0 x r.2 in
    let f = lead_follows net last c r.0 r.1 in
    record { rule = a.rule ∙ f.rule; alternative = a.alternative ∙ f.alternative }

-- an expansion is in order
expansion_in_order : (net : LexerNetwork) (last : Bool) (cs zs : List LexerConfig) → Expands net last cs zs → InOrder cs → InOrder zs
expansion_in_order net last cs zs nothing h = empty
expansion_in_order net last cs zs (each c others xs ys e f) h =
    both (c ∷ xs) ys (all_of c (c ∷ xs) own) (expansion_in_order net last others ys f (tail_in_order c others h)) across
  where
    own : (x : LexerConfig) → In x (c ∷ xs) → Alike c x
    own x (inl is) = subst (Alike c) (sym is) (alike c)
    own x (inr i) = expanded_alike net last c xs e x i

    across : (x y : LexerConfig) → In x (c ∷ xs) → In y ys → Before x y
    across x y i j =
        let r = led net last others ys f y j in
        alike_before c r.0 x y (own x i) (reach_alike net last r.0 y r.2) (head_before c others h r.0 r.1)

-- a list without one member is in order
without : (old : List LexerConfig) (c : LexerConfig) (others : List LexerConfig) → InOrder (old ++ c ∷ others) → InOrder (old ++ others)
without [] c others (more _ _ f g) = g
without (b ∷ old) c others (more _ _ f g) = more b (old ++ others)
    (λ d i. f d (elim (In-cases old others d i)
    [ inl j ↦ In-left old (c ∷ others) d j | inr j ↦ In-right old (c ∷ others) d (inr j) ])) (without old c others g)

-- so is a list that some are appended to
appended_in_order : (Late : List LexerConfig → LexerConfig → Type 0) (new others old : List LexerConfig) → Appends Late new others old
    → InOrder (old ++ others) → InOrder new
appended_in_order Late new others old done h = subst InOrder (append-nil new) h
appended_in_order Late new others old (dropped c cs _ d a) h = appended_in_order Late new cs old a (without old c cs h)
appended_in_order Late new others old (appended c cs _ d a) h =
    appended_in_order Late new cs (old ++ c ∷ []) a (subst InOrder (sym (append_assoc old (c ∷ []) cs)) h)

-- and a list of the kept
kept_in_order : (net : LexerNetwork) (cs ds : List LexerConfig) → Keeps net cs ds → InOrder cs → InOrder ds
kept_in_order net cs ds no_more h = empty
kept_in_order net cs ds (keeps c others kept k h) o =
    more c kept (λ d i. head_before c others o d (kept_in net others kept h d i).0)
    (kept_in_order net others kept h (tail_in_order c others o))
kept_in_order net cs ds (leaves c others _ k h) o = kept_in_order net others ds h (tail_in_order c others o)

-- and so a list of starts in order
list_in_order : (net : LexerNetwork) (last : Bool) (Late : List LexerConfig → LexerConfig → Type 0) (starts list : List LexerConfig)
    → ListOf net last Late starts list → InOrder starts → InOrder list
list_in_order net last Late starts list h o =
    kept_in_order net h.all list h.keeps (appended_in_order Late h.all h.expansion [] h.appends
    (expansion_in_order net last starts h.expansion h.expands o))

-- what a list in order reads to is in order
read_in_order : (net : LexerNetwork) (a : ℕ) (list read : List LexerConfig) → ReadAll net a list read → InOrder list → InOrder read
read_in_order net a list read all_read o = empty
read_in_order net a list read (taken c d cs ds h k) o = more d ds after (read_in_order net a cs ds k (tail_in_order c cs o))
  where
    after : (e : LexerConfig) → In e ds → Before d e
    after e i =
        let r = read_by net a cs ds k e i in
        alike_before c r.0 d e (alike_on c c d (alike c) (read_follows net a c d h))
        (alike_on r.0 r.0 e (alike r.0) (read_follows net a r.0 e r.2)) (head_before c cs o r.0 r.1)
read_in_order net a list read (refused c cs _ h k) o = read_in_order net a cs read k (tail_in_order c cs o)

-- every list of starts in order is in order
pub always_in_order : (net : LexerNetwork) (starts : List LexerConfig) (w v : List ℕ) (list : List LexerConfig)
    → ListAt net starts w v list → InOrder starts → InOrder list
always_in_order net starts w v list (first _ h) o = list_in_order net (is_last w) Never starts list h o
always_in_order net starts w v list (step a _ l read _ at q h) o =
    list_in_order net (is_last v) (BehindEnd net) read list h (read_in_order net a l read q (always_in_order net starts w (a ∷ v) l at o))
