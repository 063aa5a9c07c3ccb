-- There is at most one list.
use Rattle.std.proofs.Common.{◌≡◌, ℕ, ◌≤◌, ◌<◌, List, ◌∷◌, ◌++◌, [], Bool, length, length-append, refl, sym, ◌∙◌, ap, subst, arith}
use Rattle.g4_ordered.specs.Network.{LexerNetwork}
use Rattle.g4_ordered.specs.Configurations.{LexerConfig}
use Rattle.g4_ordered.specs.Leads.{leads, Expands, nothing, each}
use Rattle.g4_ordered.specs.Lists.{Never, BehindEnd, Appends, done, dropped, appended, Keeps, no_more, keeps, leaves, ListOf, ReadAll, all_read, taken, refused, ListAt, first, step, is_last}
use Rattle.g4_ordered.proofs.Steps.{one_read}
use Rattle.g4_ordered.proofs.Walked.{at_rest, same_rest, heads}

-- there is at most one expansion
one_expansion : (net : LexerNetwork) (last : Bool) (cs zs us : List LexerConfig) → Expands net last cs zs → Expands net last cs us → zs ≡ us
one_expansion net last cs zs us nothing nothing = refl
one_expansion net last cs zs us (each c more xs ys e f) (each _ _ xs2 ys2 e2 f2) =
    let p = one_expansion net last (leads net last c) xs xs2 e e2 in
    let q = one_expansion net last more ys ys2 f f2 in
    ap (λ l. c ∷ l) (ap (λ l. l ++ ys) p ∙ ap (λ l. xs2 ++ l) q)

-- appending makes at most one list
one_appending : (Late : List LexerConfig → LexerConfig → Type 0) (new other more old : List LexerConfig) → Appends Late new more old
    → Appends Late other more old → new ≡ other
one_appending Late new other more old done done = refl
one_appending Late new other more old (dropped c cs _ h a) (dropped _ _ _ k b) = one_appending Late new other cs old a b
one_appending Late new other more old (dropped c cs _ h a) (appended _ _ _ k b) = absurd (k h)
one_appending Late new other more old (appended c cs _ h a) (dropped _ _ _ k b) = absurd (h k)
one_appending Late new other more old (appended c cs _ h a) (appended _ _ _ k b) = one_appending Late new other cs (old ++ c ∷ []) a b

-- and so does keeping
one_keeping : (net : LexerNetwork) (cs ds es : List LexerConfig) → Keeps net cs ds → Keeps net cs es → ds ≡ es
one_keeping net cs ds es no_more no_more = refl
one_keeping net cs ds es (keeps c more ds2 k h) (keeps _ _ es2 q g) = ap (λ l. c ∷ l) (one_keeping net more ds2 es2 h g)
one_keeping net cs ds es (keeps c more ds2 k h) (leaves _ _ _ q g) = absurd (q k)
one_keeping net cs ds es (leaves c more _ k h) (keeps _ _ es2 q g) = absurd (k q)
one_keeping net cs ds es (leaves c more _ k h) (leaves _ _ _ q g) = one_keeping net more ds es h g

-- and so does reading
one_reading : (net : LexerNetwork) (a : ℕ) (cs ds es : List LexerConfig) → ReadAll net a cs ds → ReadAll net a cs es → ds ≡ es
one_reading net a cs ds es all_read all_read = refl
one_reading net a cs ds es (taken c d more ds2 k h) (taken _ e _ es2 q g) =
    ap (λ x. x ∷ ds2) (one_read net a c d e k q) ∙ ap (λ l. e ∷ l) (one_reading net a more ds2 es2 h g)
one_reading net a cs ds es (taken c d more ds2 k h) (refused _ _ _ q g) = absurd (q d k)
one_reading net a cs ds es (refused c more _ k h) (taken _ e _ es2 q g) = absurd (k e q)
one_reading net a cs ds es (refused c more _ k h) (refused _ _ _ q g) = one_reading net a more ds es h g

-- so there is at most one list of some starts
one_list_of : (net : LexerNetwork) (last : Bool) (Late : List LexerConfig → LexerConfig → Type 0)
    (starts list other : List LexerConfig) → ListOf net last Late starts list → ListOf net last Late starts other → list ≡ other
one_list_of net last Late starts list other h g =
    let e = one_expansion net last starts h.expansion g.expansion h.expands g.expands in
    let a = one_appending Late h.all g.all h.expansion [] h.appends (subst (λ l. Appends Late g.all l []) (sym e) g.appends) in
    one_keeping net h.all list other h.keeps (subst (λ l. Keeps net l other) (sym a) g.keeps)

-- the text after a list is no longer than the whole
not_longer : (net : LexerNetwork) (starts : List LexerConfig) (w v : List ℕ) (list : List LexerConfig) → ListAt net starts w v list
    → length v ≤ length w
not_longer net starts w v list h = let r = at_rest net starts w v list h in let n = ap length r.1 ∙ length-append r.0 v in omega arith

-- the list before the whole text is that of the starts
pub at_start : (net : LexerNetwork) (starts : List LexerConfig) (w v : List ℕ) (list : List LexerConfig) → ListAt net starts w v list
    → length w ≤ length v → ListOf net (is_last w) Never starts list
at_start net starts w v list (first _ h) le = h
at_start net starts w v list (step a _ l _ _ k q g) le = let n = not_longer net starts w (a ∷ v) l k in absurd (omega arith)

-- the list before a text, made of that before it and its character
record After (net : LexerNetwork) (starts : List LexerConfig) (w v : List ℕ) (list : List LexerConfig) : Type 0 where
  a : ℕ
  before : List LexerConfig
  read : List LexerConfig
  at : ListAt net starts w (a ∷ v) before
  reads : ReadAll net a before read
  makes : ListOf net (is_last v) (BehindEnd net) read list

-- the list before a part of the text is made so
after : (net : LexerNetwork) (starts : List LexerConfig) (w v : List ℕ) (list : List LexerConfig) → ListAt net starts w v list
    → length v < length w → After net starts w v list
after net starts w v list (first _ h) lt = absurd (omega arith)
after net starts w v list (step a _ l read _ k q g) lt = record { a = a; before = l; read = read; at = k; reads = q; makes = g }

-- there is at most one list before each rest of the text
pub one_list : (net : LexerNetwork) (starts : List LexerConfig) (w v : List ℕ) (list other : List LexerConfig)
    → ListAt net starts w v list → ListAt net starts w v other → list ≡ other
one_list net starts w v list other (first _ h) g =
    one_list_of net (is_last w) Never starts list other h (at_start net starts w w other g (omega arith))
one_list net starts w v list other (step a _ l read _ k q g) h =
    let n = not_longer net starts w (a ∷ v) l k in
    let s = after net starts w v other h (omega arith) in
    let r = at_rest net starts w (a ∷ v) l k in
    let r2 = at_rest net starts w (s.a ∷ v) s.before s.at in
    let same : a ∷ v ≡ s.a ∷ v = same_rest r.0 r2.0 (a ∷ v) (s.a ∷ v) (sym r.1 ∙ r2.1) refl in
    let e = one_list net starts w (a ∷ v) l s.before k (subst (λ x. ListAt net starts w x s.before) (sym same) s.at) in
    let reads : ReadAll net a l s.read = subst (λ (x : ℕ). ReadAll net x l s.read) (sym (heads a s.a v v same))
    (subst (λ (x : List LexerConfig). ReadAll net s.a x s.read) (sym e) s.reads) in
    one_list_of net (is_last v) (BehindEnd net) read list other g
    (subst (λ (x : List LexerConfig). ListOf net (is_last v) (BehindEnd net) x other)
    (sym (one_reading net a l read s.read q reads)) s.makes)
