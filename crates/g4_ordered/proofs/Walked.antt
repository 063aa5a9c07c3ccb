-- What has not passed a reluctant decision is in the list exactly where a walk leads to it.
use Rattle.std.proofs.Common.{◌≡◌, ℕ, suc, ◌<◌, ◌≤◌, List, [], ◌∷◌, ◌++◌, Bool, false, length, length-append, refl, sym, ◌∙◌, ap, subst, arith, append_assoc}
use Rattle.std.proofs.lemmas.Bool.{false≢true}
use Rattle.g4_ordered.specs.Network.{LexerNetwork}
use Rattle.g4_ordered.specs.Configurations.{LexerConfig, In}
use Rattle.g4_ordered.specs.Leads.{ReadsTo, Reaches, here, further}
use Rattle.g4_ordered.specs.Lists.{IsKept, Never, BehindEnd, ListOf, ListAt, first, step, is_last, ReadAll}
use Rattle.g4_ordered.specs.Walks.{Walks, leading, reading}
use Rattle.g4_ordered.specs.Walks.{here as stands}
use Rattle.g4_ordered.proofs.Members.{list_sound, list_complete, read_by, in_read}
use Rattle.g4_ordered.proofs.Steps.{lead_follows, read_follows, read_kept, not_before}

-- equal lists begin with the same number
pub heads : (a b : ℕ) (v w : List ℕ) → a ∷ v ≡ b ∷ w → a ≡ b
heads a b v w e = cc

-- ends of one list that are as long are the same
pub same_rest : (u t v s : List ℕ) → u ++ v ≡ t ++ s → length v ≡ length s → v ≡ s
same_rest [] [] v s e n = e
same_rest [] (b ∷ t) v s e n = let l = ap length e ∙ ap suc (length-append t s) in absurd (omega arith)
same_rest (a ∷ u) [] v s e n = let l = sym (ap suc (length-append u v)) ∙ ap length e in absurd (omega arith)
same_rest (a ∷ u) (b ∷ t) v s e n = same_rest u t v s tails n
  where
    tails : u ++ v ≡ t ++ s
    tails = cc

module _ (net : LexerNetwork) where
  -- the text before which a walk arrives ends that before which it sets out
  walk_rest : (c : LexerConfig) (w : List ℕ) (d : LexerConfig) (v : List ℕ) → Walks net c w d v → (u : List ℕ) × (w ≡ u ++ v)
  walk_rest c w d v stands = ([], refl)
  walk_rest c w d v (leading e _ _ k i) = walk_rest c w e v k
  walk_rest c w d v (reading a e _ _ k i) = let r = walk_rest c w e (a ∷ v) k in (r.0 ++ a ∷ [], r.1 ∙ sym (append_assoc r.0 (a ∷ []) v))

  -- the text after a list ends the whole text
  pub at_rest : (starts : List LexerConfig) (w v : List ℕ) (list : List LexerConfig) → ListAt net starts w v list
      → (u : List ℕ) × (w ≡ u ++ v)
  at_rest starts w v list (first _ h) = ([], refl)
  at_rest starts w v list (step a _ l _ _ k read h) = let r = at_rest starts w (a ∷ v) l k in
      (r.0 ++ a ∷ [], r.1 ∙ sym (append_assoc r.0 (a ∷ []) v))

  -- a walk that reads nothing only leads
  still : (c : LexerConfig) (w : List ℕ) (d : LexerConfig) (v : List ℕ) → Walks net c w d v → length w ≤ length v
      → Reaches net (is_last v) c d
  still c w d v stands le = here
  still c w d v (leading e _ _ k i) le = further e d (still c w e v k le) i
  still c w d v (reading a e _ _ k i) le = let r = walk_rest c w e (a ∷ v) k in let n = ap length r.1 ∙ length-append r.0 (a ∷ v) in
      absurd (omega arith)

  -- the last character that a walk reads
  record LastRead (c : LexerConfig) (w : List ℕ) (d : LexerConfig) (v : List ℕ) : Type 0 where
    a : ℕ
    from : LexerConfig
    to : LexerConfig
    before : Walks net c w from (a ∷ v)
    reads_it : ReadsTo net a from to
    after : Reaches net (is_last v) to d

  -- a walk that reads has one
  last_read : (c : LexerConfig) (w : List ℕ) (d : LexerConfig) (v : List ℕ) → Walks net c w d v → length v < length w → LastRead c w d v
  last_read c w d v stands lt = absurd (omega arith)
  last_read c w d v (leading e _ _ k i) lt = let r = last_read c w e v k lt in
      record { a = r.a; from = r.from; to = r.to; before = r.before; reads_it = r.reads_it; after = further e d r.after i }
  last_read c w d v (reading a e _ _ k i) lt = record { a = a; from = e; to = d; before = k; reads_it = i; after = here }

  -- what has not passed has not passed before
  reach_not_before : (last : Bool) (c d : LexerConfig) → Reaches net last c d → d.passed ≡ false → c.passed ≡ false
  reach_not_before last c d here not_yet = not_yet
  reach_not_before last c d (further e _ r i) not_yet = reach_not_before last c e r (not_before e d (lead_follows net last e d i) not_yet)

  -- a walk goes on without a character
  walk_on : (c : LexerConfig) (w v : List ℕ) (d e : LexerConfig) → Walks net c w d v → Reaches net (is_last v) d e → Walks net c w e v
  walk_on c w v d e k here = k
  walk_on c w v d e k (further f _ r i) = leading f e v (walk_on c w v d f k r) i

  -- what is in the list is kept, and walked to from a start
  pub walked : (starts : List LexerConfig) (w v : List ℕ) (list : List LexerConfig) → ListAt net starts w v list → (d : LexerConfig)
      → In d list → IsKept net d × ((s : LexerConfig) × In s starts × Walks net s w d v)
  walked starts w v list (first _ h) d i =
      let r = list_sound net (is_last w) Never starts list h d i in
      (r.0, (r.1.0, r.1.1, walk_on r.1.0 w w r.1.0 d stands r.1.2))
  walked starts w v list (step a _ l read _ k q h) d i =
      let r = list_sound net (is_last v) (BehindEnd net) read list h d i in
      let b = read_by net a l read q r.1.0 r.1.1 in
      let s = walked starts w (a ∷ v) l k b.0 b.1 in
      (r.0, (s.1.0, s.1.1, walk_on s.1.0 w v r.1.0 d (reading a b.0 r.1.0 v s.1.2 b.2) r.1.2))

  -- a step lists what is walked to and has not passed, where the list before it does
  then_listed : (starts : List LexerConfig) (w v : List ℕ) (a : ℕ) (l read list : List LexerConfig) (s d : LexerConfig)
      → ListAt net starts w (a ∷ v) l → ReadAll net a l read → ListOf net (is_last v) (BehindEnd net) read list
      → ((c : LexerConfig) → c.passed ≡ false → IsKept net c → Walks net s w c (a ∷ v) → In c l)
      → d.passed ≡ false → IsKept net d → Walks net s w d v → In d list
  then_listed starts w v a l read list s d at q h before not_yet k walk =
      list_complete net (is_last v) (BehindEnd net) read list h r.to d (λ l n. false≢true (sym not_yet ∙ n.0)) k
      (in_read net a l read q r.from r.to here_before (subst (λ b. ReadsTo net b r.from r.to) same r.reads_it)) r.after
    where
      left : (u : List ℕ) × (w ≡ u ++ (a ∷ v))
      left = at_rest starts w (a ∷ v) l at

      shorter : length v < length w
      shorter = let n = ap length left.1 ∙ length-append left.0 (a ∷ v) in omega arith

      r : LastRead s w d v
      r = last_read s w d v walk shorter

      same_text : r.a ∷ v ≡ a ∷ v
      same_text = let x = walk_rest s w r.from (r.a ∷ v) r.before in same_rest x.0 left.0 (r.a ∷ v) (a ∷ v) (sym x.1 ∙ left.1) refl

      same : r.a ≡ a
      same = heads r.a a v v same_text

      not_earlier : r.from.passed ≡ false
      not_earlier = not_before r.from r.to (read_follows net r.a r.from r.to r.reads_it)
          (reach_not_before (is_last v) r.to d r.after not_yet)

      here_before : In r.from l
      here_before = before r.from not_earlier (read_kept net r.a r.from r.to r.reads_it)
          (subst (λ x. Walks net s w r.from x) same_text r.before)

  -- what is walked to, kept, and has not passed is in the list
  pub listed : (starts : List LexerConfig) (w v : List ℕ) (list : List LexerConfig) → ListAt net starts w v list → (s d : LexerConfig)
      → d.passed ≡ false → IsKept net d → In s starts → Walks net s w d v → In d list
  listed starts w v list (first _ h) s d not_yet k i walk =
      list_complete net (is_last w) Never starts list h s d (λ l n. n) k i (still s w d w walk (omega arith))
  listed starts w v list (step a _ l read _ at q h) s d not_yet k i walk =
      then_listed starts w v a l read list s d at q h (λ c n p x. listed starts w (a ∷ v) l at s c n p i x) not_yet k walk
