-- There is a list.
use Rattle.std.proofs.Common.{◌≡◌, ℕ, inl, inr, List, [], ◌∷◌, ◌++◌, Bool, true, false, refl, subst}
use Rattle.g4_ordered.specs.Network.{LexerNetwork, IsLexable}
use Rattle.g4_ordered.specs.Configurations.{LexerConfig}
use Rattle.g4_ordered.specs.Lists.{late_in, Appends, done, dropped, appended, Keeps, no_more, keeps, leaves, ListOf, ReadAll, all_read, taken, refused, ListAt, first, step, is_last}
use Rattle.g4_ordered.proofs.Deciding.{is_dropped, is_kept, read_somewhere}
use Rattle.g4_ordered.proofs.Ending.{expansion}

-- appending makes a list
appending : (net : LexerNetwork) (in_step : Bool) (more old : List LexerConfig)
    → (new : List LexerConfig) × Appends (late_in net in_step) new more old
appending net in_step [] old = (old, done)
appending net in_step (c ∷ more) old = elim (is_dropped net in_step old c) [
  | inl d ↦ (let r = appending net in_step more old in (r.0, dropped c more old d r.1))
  | inr d ↦ (let r = appending net in_step more (old ++ c ∷ []) in (r.0, appended c more old d r.1))
]

-- and so does keeping
keeping : (net : LexerNetwork) (cs : List LexerConfig) → (ds : List LexerConfig) × Keeps net cs ds
keeping net [] = ([], no_more)
keeping net (c ∷ cs) = let r = keeping net cs in elim (is_kept net c) [
  | inl k ↦ (c ∷ r.0, keeps c cs r.0 k r.1)
  | inr k ↦ (r.0, leaves c cs r.0 k r.1)
]

-- and so does reading
reading_all : (net : LexerNetwork) (a : ℕ) (cs : List LexerConfig) → (ds : List LexerConfig) × ReadAll net a cs ds
reading_all net a [] = ([], all_read)
reading_all net a (c ∷ cs) = let r = reading_all net a cs in elim (read_somewhere net a c) [
  | inl d ↦ (d.0 ∷ r.0, taken c d.0 cs r.0 d.1 r.1)
  | inr d ↦ (r.0, refused c cs r.0 d r.1)
]

-- there is a list of some starts
a_list_of : (net : LexerNetwork) (last in_step : Bool) (starts : List LexerConfig) → IsLexable net
    → (list : List LexerConfig) × ListOf net last (late_in net in_step) starts list
a_list_of net last in_step starts well =
    let e = expansion net last well starts in
    let a = appending net in_step e.0 [] in
    let k = keeping net a.0 in
    (k.0, record { expansion = e.0; all = a.0; expands = e.1; appends = a.1; keeps = k.1 })

-- there is a list before every rest of the text
pub a_list : (net : LexerNetwork) (starts : List LexerConfig) (w u v : List ℕ) → IsLexable net → w ≡ u ++ v
    → (list : List LexerConfig) × ListAt net starts w v list
a_list net starts w u v well e = onward u w v (let h = a_list_of net (is_last w) false starts well in (h.0, first h.0 h.1)) e
  where
    onward : (u x v : List ℕ) → ((list : List LexerConfig) × ListAt net starts w x list) → x ≡ u ++ v
        → (list : List LexerConfig) × ListAt net starts w v list
    onward [] x v h e = subst (λ y. (list : List LexerConfig) × ListAt net starts w y list) e h
    onward (a ∷ u) x v h e =
        let k = subst (λ y. (list : List LexerConfig) × ListAt net starts w y list) e h in
        let r = reading_all net a k.0 in
        let n = a_list_of net (is_last (u ++ v)) true r.0 well in
        onward u (u ++ v) v (n.0, step a (u ++ v) k.0 r.0 n.0 k.1 r.1 n.1) refl
