-- What the loops of a match keep.
use Rattle.std.proofs.Common.{◌≡◌, ℕ, zero, suc, ◌+◌, ◌<◌, ◌≤◌, ◌⊎◌, inl, inr, List, [], ◌∷◌, ◌++◌, Bool, true, false, Option, Some, None, length, drop, get_or, eqb, length-append, refl, sym, ◌∙◌, ap, subst, arith, MatchOption}
use Rattle.std.proofs.lemmas.List.{drop_more, length-drop}
use Rattle.std.proofs.lemmas.Bool.{eqb-true}
use Rattle.g4_ordered.specs.Network.{LexerNetwork}
use Rattle.g4_ordered.specs.Configurations.{LexerConfig, In}
use Rattle.g4_ordered.specs.Leads.{Expands, nothing, each}
use Rattle.g4_ordered.specs.Lists.{IsAtEnd, HasEnd, ListAt, ListOf, ReadAll, all_read, taken, refused, first, step, is_last, Never, BehindEnd, Appends, done, dropped, appended, Keeps, no_more, keeps, leaves}
use Rattle.g4_ordered.specs.Matching.{IsFirst, here, later, EndsRule, ListAfter, IsMatch, NoMatch, IsLeastEnd}
use Rattle.g4_ordered.proofs.Lists.{In-cases, only}
use Rattle.g4_ordered.proofs.Once.{one_list}
use Rattle.g4_ordered.proofs.Walked.{at_rest, same_rest}
use Rattle.g4_matching.specs.declared.found.Match.{Match}
use Rattle.g4_matching.specs.declared.rule_end.RuleEnd.{RuleEnd}
use Rattle.g4_matching.specs.Ends.{HasNoEnd, TellsEnd}
use Rattle.g4_matching.specs.Listing.{IsNext}
use Rattle.g4_matching.specs.Matcher.{best_after}

-- an end of a rule that is not greater was found
abbrev pub IsAsGood : Option RuleEnd → ℕ → Type 0
IsAsGood best rule = MatchOption best ⊥ (λ b. b.rule ≤ rule)

module _ (net : LexerNetwork) where
  -- the first stays the first
  first_on : (rule : ℕ) (xs : List LexerConfig) (y c : LexerConfig) → IsFirst (EndsRule net rule) xs c
      → IsFirst (EndsRule net rule) (xs ++ y ∷ []) c
  first_on rule xs y c (here _ cs p) = here c (cs ++ y ∷ []) p
  first_on rule xs y c (later _ d cs no' h) = later c d (cs ++ y ∷ []) no' (first_on rule cs y c h)

  -- the last is the first where it is alone
  first_at : (rule : ℕ) (xs : List LexerConfig) (y : LexerConfig) → ((x : LexerConfig) → In x xs → EndsRule net rule x → ⊥)
      → EndsRule net rule y → IsFirst (EndsRule net rule) (xs ++ y ∷ []) y
  first_at rule [] y none p = here y [] p
  first_at rule (x ∷ xs) y none p = later y x (xs ++ y ∷ []) (none x (inl refl)) (first_at rule xs y (λ z i. none z (inr i)) p)

  -- one more that is no end, or not of a lesser rule
  pub tells_same : (xs : List LexerConfig) (y : LexerConfig) (best : Option RuleEnd) → (IsAtEnd net y → IsAsGood best y.rule)
      → TellsEnd net xs best → TellsEnd net (xs ++ y ∷ []) best
  tells_same xs y None h t = λ e i end. elim (In-cases xs (y ∷ []) e i) [
    | inl j ↦ t e j end
    | inr j ↦ h (subst (IsAtEnd net) (only y e j) end)
  ]
  tells_same xs y (Some b) h t = record {
    first = (t.first.0, first_on b.rule xs y t.first.0 t.first.1, t.first.2);
    least = λ r e. elim (In-cases xs (y ∷ []) e.0 e.1) [
      | inl j ↦ t.least r (e.0, j, e.2, e.3)
      | inr j ↦ (let is = only y e.0 j in let le = h (subst (IsAtEnd net) is e.3) in let a = ap (λ (x : LexerConfig). x.rule) is in
          let k = e.2 in omega arith)
    ];
  }

  -- not as good is of a greater rule
  greater : (b rule : ℕ) → (b ≤ rule → ⊥) → rule < b
  greater b rule h = go (split b rule)
    where
      split : (a b : ℕ) → (a ≤ b) ⊎ (b < a)
      split a b = grind arith

      go : (b ≤ rule) ⊎ (rule < b) → rule < b
      go (inl le) = absurd (h le)
      go (inr lt) = lt

  -- the first end, or the first of a lesser rule
  pub tells_new : (xs : List LexerConfig) (y : LexerConfig) (best : Option RuleEnd) → IsAtEnd net y → (IsAsGood best y.rule → ⊥)
      → TellsEnd net xs best → IsLeastEnd net (xs ++ y ∷ []) y.rule y.alternative
  tells_new xs y None end h t = record {
    first = (y, first_at y.rule xs y (λ x i e. t x i e.1) (refl, end), refl);
    least = λ r e. elim (In-cases xs (y ∷ []) e.0 e.1) [
      | inl j ↦ absurd (t e.0 j e.3)
      | inr j ↦ (let a = ap (λ (x : LexerConfig). x.rule) (only y e.0 j) in let b = e.2 in omega arith)
    ];
  }
  tells_new xs y (Some b) end h t = let lt = greater b.rule y.rule h in record {
    first = (y, first_at y.rule xs y (λ x i e. let le = t.least y.rule (x, i, e.0, e.1) in absurd (omega arith)) (refl, end), refl);
    least = λ r e. elim (In-cases xs (y ∷ []) e.0 e.1) [
      | inl j ↦ (let le = t.least r (e.0, j, e.2, e.3) in omega arith)
      | inr j ↦ (let a = ap (λ (x : LexerConfig). x.rule) (only y e.0 j) in let b = e.2 in omega arith)
    ];
  }

-- no end after prefixes from one character to n
abbrev pub NoneUpTo : LexerNetwork → List LexerConfig → List ℕ → ℕ → ℕ → Type 0
NoneUpTo net starts text from n = (m r : ℕ) (list : List LexerConfig) → from < m → m ≤ n → ListAfter net starts text m list
    → HasEnd net list r → ⊥

-- the best match of the prefixes up to n characters
abbrev pub IsBestUpTo : LexerNetwork → List LexerConfig → List ℕ → ℕ → Option Match → Type 0
IsBestUpTo net starts text n None = NoneUpTo net starts text 0 n
IsBestUpTo net starts text n (Some b) = (list : List LexerConfig) × (1 ≤ b.length) × (b.length ≤ n)
    × ListAfter net starts text b.length list × IsLeastEnd net list b.rule b.alternative × NoneUpTo net starts text b.length n

-- the list and the best match after n characters
pub record SoFar (net : LexerNetwork) (starts : List LexerConfig) (text : List ℕ) (n : ℕ) (list : List LexerConfig)
    (best : Option Match) : Type 0 where
  pub after : ListAfter net starts text n list
  pub best_is : IsBestUpTo net starts text n best

-- nothing is read from nothing
reads_nothing : (net : LexerNetwork) (a : ℕ) (list read : List LexerConfig) → ReadAll net a list read → list ≡ [] → read ≡ []
reads_nothing net a list read all_read e = refl
reads_nothing net a list read (taken c d cs ds h k) e = absurd (cc)
reads_nothing net a list read (refused c cs _ h k) e = absurd (cc)

-- nothing comes of nothing
expands_nothing : (net : LexerNetwork) (last : Bool) (cs zs : List LexerConfig) → Expands net last cs zs → cs ≡ [] → zs ≡ []
expands_nothing net last cs zs nothing e = refl
expands_nothing net last cs zs (each c more xs ys f g) e = absurd (cc)

-- nothing appended makes nothing new
appends_nothing : (Late : List LexerConfig → LexerConfig → Type 0) (new more old : List LexerConfig) → Appends Late new more old
    → more ≡ [] → new ≡ old
appends_nothing Late new more old done e = refl
appends_nothing Late new more old (dropped c cs _ h a) e = absurd (cc)
appends_nothing Late new more old (appended c cs _ h a) e = absurd (cc)

-- of nothing, nothing is kept
keeps_nothing : (net : LexerNetwork) (cs ds : List LexerConfig) → Keeps net cs ds → cs ≡ [] → ds ≡ []
keeps_nothing net cs ds no_more e = refl
keeps_nothing net cs ds (keeps c more kept k h) e = absurd (cc)
keeps_nothing net cs ds (leaves c more _ k h) e = absurd (cc)

-- so the list of nothing is empty
from_nothing : (net : LexerNetwork) (last : Bool) (Late : List LexerConfig → LexerConfig → Type 0) (starts list : List LexerConfig)
    → ListOf net last Late starts list → starts ≡ [] → list ≡ []
from_nothing net last Late starts list h e =
    keeps_nothing net h.all list h.keeps (appends_nothing Late h.all h.expansion [] h.appends
    (expands_nothing net last starts h.expansion h.expands e))

module _ (net : LexerNetwork) (starts : List LexerConfig) (text : List ℕ) where
  -- before the text
  pub begins : (last : Bool) (list : List LexerConfig) → last ≡ is_last text → ListOf net last Never starts list
      → SoFar net starts text 0 list None
  begins last list is h = record {
    after = (omega arith, first list (subst (λ b. ListOf net b Never starts list) is h));
    best_is = λ m r l lt le at e. absurd (omega arith);
  }

  -- one character further
  pub goes_on : (n a : ℕ) (last : Bool) (list new : List LexerConfig) (best : Option Match) → n < length text → a ≡ get_or text n 0
      → last ≡ is_last (drop (n + 1) text) → IsNext net last a list new → SoFar net starts text n list best
      → ListAfter net starts text (n + 1) new
  goes_on n a last list new best lt at is h so =
      let cut : drop n text ≡ a ∷ drop (n + 1) text = drop_more text n 0 lt ∙ ap (λ x. x ∷ drop (n + 1) text) (sym at) in (
        omega arith,
        step a (drop (n + 1) text) list h.read new (subst (λ v. ListAt net starts text v list) cut so.after.1) h.reads
            (subst (λ b. ListOf net b (BehindEnd net) h.read new) is h.makes),
      )

  -- with a rule's end
  with_end : (n : ℕ) (new : List LexerConfig) (end : RuleEnd) → ListAfter net starts text (n + 1) new
      → IsLeastEnd net new end.rule end.alternative
      → SoFar net starts text (n + 1) new (Some (record { length = n + 1; rule = end.rule; alternative = end.alternative }))
  with_end n new end at least = record {
    after = at;
    best_is = (new, omega arith, omega arith, at, least, λ m r l lt le o e. absurd (omega arith));
  }

  -- no end after one character more
  up_to : (from n : ℕ) (new : List LexerConfig) → ListAfter net starts text (n + 1) new → HasNoEnd net new
      → NoneUpTo net starts text from n → NoneUpTo net starts text from (n + 1)
  up_to from n new at none h m r l lt le o e = elim (split m le) [
    | inl less ↦ h m r l lt less o e
    | inr is ↦ (let same = one_list net starts text (drop (n + 1) text) l new
        (subst (λ (k : ℕ). ListAt net starts text (drop k text) l) is o.1) at.1 in none e.0 (subst (In e.0) same e.1) e.3)
  ]
    where
      split : (m : ℕ) → m ≤ n + 1 → (m ≤ n) ⊎ (m ≡ n + 1)
      split m le = grind arith

  -- without one
  without_end : (n : ℕ) (list new : List LexerConfig) (best : Option Match) → ListAfter net starts text (n + 1) new → HasNoEnd net new
      → SoFar net starts text n list best → SoFar net starts text (n + 1) new best
  without_end n list new None at none so = record { after = at; best_is = up_to 0 n new at none so.best_is }
  without_end n list new (Some b) at none so =
      let h = so.best_is in
      record { after = at; best_is = (h.0, h.1, (let le = h.2 in omega arith), h.3, h.4, up_to b.length n new at none h.5) }

  -- with what the list gives
  pub best_on : (n : ℕ) (list new : List LexerConfig) (best : Option Match) (end : Option RuleEnd)
      → ListAfter net starts text (n + 1) new → TellsEnd net new end → SoFar net starts text n list best
      → SoFar net starts text (n + 1) new (best_after best (n + 1) end)
  best_on n list new best None at none so = without_end n list new best at none so
  best_on n list new best (Some end) at least so = with_end n new end at least

  -- nothing comes of an empty list
  empty_stays : (v : List ℕ) → ListAt net starts text v [] → (w : List ℕ) (list : List LexerConfig) → ListAt net starts text w list
      → length w ≤ length v → list ≡ []
  empty_stays v h w list (first _ k) le =
      let r = at_rest net starts text v [] h in
      let n = ap length r.1 ∙ length-append r.0 v in
      let same : text ≡ v = same_rest [] r.0 text v r.1 (omega arith) in
      one_list net starts text text list [] (first list k) (subst (λ x. ListAt net starts text x []) (sym same) h)
  empty_stays v h w list (step a _ l read _ k q g) le = elim (split (length w) (length v) le) [
    | inl less ↦ from_nothing net (is_last w) (BehindEnd net) read list g
        (reads_nothing net a l read q (empty_stays v h (a ∷ w) l k (omega arith)))
    | inr e ↦ (let r = at_rest net starts text v [] h in
        let p = at_rest net starts text w list (step a w l read list k q g) in
        let same : w ≡ v = same_rest p.0 r.0 w v (sym p.1 ∙ r.1) e in
        one_list net starts text w list [] (step a w l read list k q g) (subst (λ x. ListAt net starts text x []) (sym same) h))
  ]
    where
      split : (a b : ℕ) → a ≤ b → (a < b) ⊎ (a ≡ b)
      split a b le = grind arith

  -- where all of the text is read, or nothing is left in the list
  pub whole : (n : ℕ) (list : List LexerConfig) (best : Option Match) → (length text ≤ n) ⊎ (list ≡ [])
      → SoFar net starts text n list best → MatchOption best (NoMatch net starts text)
      (λ b. IsMatch net starts text b.length b.rule b.alternative)
  whole n list best over so = go best so.best_is
    where
      past : (from m r : ℕ) (l : List LexerConfig) → NoneUpTo net starts text from n → from < m → ListAfter net starts text m l
          → HasEnd net l r → ⊥
      past from m r l none lt o e = elim (split m) [
        | inl le ↦ none m r l lt le o e
        | inr more ↦ elim over [
          | inl all ↦ (let k = o.0 in absurd (omega arith))
          | inr is ↦ (let k = empty_stays (drop n text) (subst (ListAt net starts text (drop n text)) is so.after.1) (drop m text) l
              o.1 (shorter m more) in absurd (subst (In e.0) k e.1))
        ]
      ]
        where
          shorter : (m : ℕ) → n < m → length (drop m text) ≤ length (drop n text)
          shorter m lt = let a = length-drop m text in let b = length-drop n text in omega arith

          split : (m : ℕ) → (m ≤ n) ⊎ (n < m)
          split m = grind arith

      go : (best : Option Match) → IsBestUpTo net starts text n best
          → MatchOption best (NoMatch net starts text) (λ b. IsMatch net starts text b.length b.rule b.alternative)
      go None h = λ m r l some o e. past 0 m r l h (omega arith) o e
      go (Some b) h = record { some = h.1; list = h.0; after = h.3; longest = λ m r l lt o e. past b.length m r l h.5 lt o e; tells = h.4 }

-- a test of whether anything is left
pub is_last_by : (b : Bool) (v : List ℕ) → (b ≡ true → length v ≡ 0) → (length v ≡ 0 → b ≡ true) → b ≡ is_last v
is_last_by true [] f g = refl
is_last_by true (x ∷ xs) f g = let n = f refl in absurd (omega arith)
is_last_by false [] f g = g refl
is_last_by false (x ∷ xs) f g = refl

-- characters are left where fewer are read
pub not_last : (n : ℕ) (text : List ℕ) → n < length text → false ≡ is_last (drop n text)
not_last n text lt = is_last_by false (drop n text) (λ e. absurd (cc)) (λ z. let d = length-drop n text in absurd (omega arith))

-- and none where all are
pub whole_read : (n : ℕ) (text : List ℕ) → length text ≤ n → true ≡ is_last (drop n text)
whole_read n text le = is_last_by true (drop n text) (λ e. let d = length-drop n text in omega arith) (λ z. refl)

-- a list that is found to be empty
pub empty_by : {X : Type 0} (b : Bool) (n : ℕ) (xs : List X) → b ≡ true → b ≡ eqb n 0 → n ≡ length xs → xs ≡ []
empty_by b n [] on is len = refl
empty_by b n (x ∷ xs) on is len = let e = eqb-true n 0 (sym is ∙ on) in absurd (omega arith)

-- and one that is found not to be
pub not_empty_by : (b : Bool) (n : ℕ) → b ≡ false → b ≡ eqb n 0 → 0 < n
not_empty_by b zero off is = absurd (cc)
not_empty_by b (suc n) off is = omega arith
