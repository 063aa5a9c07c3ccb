-- The match by the list of all rules is the best by the lists of each rule alone.
use Rattle.std.proofs.Common.{◌≡◌, ℕ, ◌≤◌, ◌<◌, ◌⊎◌, inl, inr, List, [], ◌∷◌, ◌++◌, take, drop, refl, sym, ◌∙◌, ap, subst, arith}
use Rattle.std.proofs.lemmas.List.{take-append-drop}
use Rattle.g4_ordered.specs.Network.{LexerNetwork, IsLexable}
use Rattle.g4_ordered.specs.Configurations.{LexerConfig, In}
use Rattle.g4_ordered.specs.Lists.{ListAt}
use Rattle.g4_ordered.specs.Matching.{IsFirst, here, later, EndsRule, ListAfter, IsMatch, HasEndOf, SpellsFront, MatchesAlone, AreFresh, IsGreedyRule, InOrder, more, IsBest}
use Rattle.g4_ordered.proofs.Single.{part, list_alone, in_part, part_in}
use Rattle.g4_ordered.proofs.Once.{one_list}
use Rattle.g4_ordered.proofs.Exists.{a_list}
use Rattle.g4_ordered.proofs.Deciding.{same_number, is_at_end}
use Rattle.g4_ordered.proofs.Order.{always_in_order}
use Rattle.g4_ordered.proofs.Matched.{ends_spelled, spelled_ends}

-- what comes after the first n characters ends the text
halves : (n : ℕ) (text : List ℕ) → (u : List ℕ) × (text ≡ u ++ drop n text)
halves n text = (take n text, sym (take-append-drop n text))

module _ (net : LexerNetwork) (starts : List LexerConfig) (text : List ℕ) where
  -- what the joint list ends, the rule's own list ends
  alone : (n r i : ℕ) (list : List LexerConfig) → ListAfter net starts text n list → HasEndOf net list r i
      → MatchesAlone net starts text r i n
  alone n r i list at e =
      let p = part r starts in
      let l = list_alone r net starts p.0 text (drop n text) list at.1 p.1 in
      record { own = p.0; list = l.0; of_rule = p.1; after = (at.0, l.2); end = (e.0, in_part r list l.0 l.1 e.0 e.2 e.1, e.2, e.3, e.4) }

  -- what the rule's own list ends, the joint list ends
  together : (n r i : ℕ) (list : List LexerConfig) → ListAfter net starts text n list → MatchesAlone net starts text r i n
      → HasEndOf net list r i
  together n r i list at m =
      let l = list_alone r net starts m.own text (drop n text) list at.1 m.of_rule in
      let same = one_list net m.own text (drop n text) m.list l.0 m.after.1 l.2 in
      let e = m.end in
      (e.0, part_in r list l.0 l.1 e.0 (subst (In e.0) same e.1), e.2, e.3, e.4)

  -- the first that ends a rule is in the list and ends it
  first_is : (rule : ℕ) (list : List LexerConfig) (c : LexerConfig) → IsFirst (EndsRule net rule) list c → In c list × EndsRule net rule c
  first_is rule list c (here _ cs p) = (inl refl, p)
  first_is rule list c (later _ d cs differs h) = let r = first_is rule cs c h in (inr r.0, r.1)

  -- the first end of a rule has its least alternative
  first_least : (rule : ℕ) (list : List LexerConfig) (c : LexerConfig) → IsFirst (EndsRule net rule) list c → InOrder list
      → (e : LexerConfig) → In e list → EndsRule net rule e → c.alternative ≤ e.alternative
  first_least rule list c (here _ cs p) (more _ _ f g) e (inl is) q = let a = ap (λ (x : LexerConfig). x.alternative) is in omega arith
  first_least rule list c (here _ cs p) (more _ _ f g) e (inr i) q = f e i (q.0 ∙ sym p.0)
  first_least rule list c (later _ d cs differs h) (more _ _ f g) e (inl is) q = absurd (differs (subst (EndsRule net rule) is q))
  first_least rule list c (later _ d cs differs h) (more _ _ f g) e (inr i) q = first_least rule cs c h g e i q

  -- a list that has an end of a rule has a first
  a_first : (rule : ℕ) (list : List LexerConfig) (e : LexerConfig) → In e list → EndsRule net rule e
      → (c : LexerConfig) × IsFirst (EndsRule net rule) list c
  a_first rule [] e i q = absurd i
  a_first rule (x ∷ xs) e i q = elim (ends x) [
    | inl p ↦ (x, here x xs p)
    | inr differs ↦ elim i [
      | inl is ↦ absurd (differs (subst (EndsRule net rule) is q))
      | inr j ↦ (let r = a_first rule xs e j q in (r.0, later r.0 x xs differs r.1))
    ]
  ]
    where
      ends : (x : LexerConfig) → EndsRule net rule x ⊎ (EndsRule net rule x → ⊥)
      ends x = elim (same_number x.rule rule) [
        | inr differs ↦ inr (λ h. differs h.0)
        | inl r ↦ elim (is_at_end net x) [ inl h ↦ inl (r, h) | inr differs ↦ inr (λ h. differs h.1) ]
      ]

  -- the match is the best of what rules match alone
  pub match_is_best : (n rule alternative : ℕ) → IsLexable net → InOrder starts → IsMatch net starts text n rule alternative
      → IsBest (MatchesAlone net starts text) n rule alternative
  match_is_best n rule alternative well order h = record {
    some = h.some;
    matches = alone n rule alternative h.list h.after (c, f.0, f.1.0, h.tells.first.2, f.1.1);
    longest = λ m r i g. within m r i g (apart m);
    first_rule = λ r i g. let e = together n r i h.list h.after g in h.tells.least r (e.0, e.1, e.2, e.4);
    first_alternative = λ i g. let e = together n rule i h.list h.after g in
        let le = first_least rule h.list c h.tells.first.1 (always_in_order net starts text (drop n text) h.list h.after.1 order) e.0
        e.1 (e.2, e.4) in
        let a = h.tells.first.2 in let b = e.3 in omega arith;
  }
    where
      c : LexerConfig
      c = h.tells.first.0

      f : In h.tells.first.0 h.list × EndsRule net rule h.tells.first.0
      f = first_is rule h.list h.tells.first.0 h.tells.first.1

      apart : (m : ℕ) → (m ≤ n) ⊎ (n < m)
      apart m = grind arith

      within : (m r i : ℕ) → MatchesAlone net starts text r i m → (m ≤ n) ⊎ (n < m) → m ≤ n
      within m r i g (inl le) = le
      within m r i g (inr lt) =
          let u = halves m text in
          let l = a_list net starts text u.0 (drop m text) well u.1 in
          let e = together m r i l.0 (g.after.0, l.1) g in
          absurd (h.longest m r l.0 lt (g.after.0, l.1) (e.0, e.1, e.2, e.4))

  -- and the best is the match
  pub best_is_match : (n rule alternative : ℕ) → IsLexable net → InOrder starts
      → IsBest (MatchesAlone net starts text) n rule alternative → IsMatch net starts text n rule alternative
  best_is_match n rule alternative well order h = record {
    some = h.some;
    list = l.0;
    after = at;
    longest = λ m r other lt o e. let le = h.longest m r e.0.alternative
        (alone m r e.0.alternative other o (e.0, e.1, e.2, refl, e.3)) in absurd (omega arith);
    tells = record {
      first = (
        c.0,
        c.1,
        let le = first_least rule l.0 c.0 c.1 (always_in_order net starts text (drop n text) l.0 l.1 order) e.0 e.1 (e.2, e.4) in
            let f = first_is rule l.0 c.0 c.1 in
            let ge = h.first_alternative c.0.alternative (alone n rule c.0.alternative l.0 at (c.0, f.0, f.1.0, refl, f.1.1)) in
            let b = e.3 in omega arith,
      );
      least = λ r e. h.first_rule r e.0.alternative (alone n r e.0.alternative l.0 at (e.0, e.1, e.2, refl, e.3));
    };
  }
    where
      u : (u : List ℕ) × (text ≡ u ++ drop n text)
      u = halves n text

      l : (list : List LexerConfig) × ListAt net starts text (drop n text) list
      l = a_list net starts text u.0 (drop n text) well u.1

      at : ListAfter net starts text n l.0
      at = (h.matches.after.0, l.1)

      e : HasEndOf net l.0 rule alternative
      e = together n rule alternative l.0 at h.matches

      c : (c : LexerConfig) × IsFirst (EndsRule net rule) l.0 c
      c = a_first rule l.0 e.0 e.1 (e.2, e.4)

  -- a rule without non-greedy parts matches alone what it spells
  pub alone_spells : (rule alternative n : ℕ) → IsLexable net → AreFresh starts → IsGreedyRule net starts rule
      → MatchesAlone net starts text rule alternative n → SpellsFront net starts text rule alternative n
  alone_spells rule alternative n well fresh greedy m =
      let own_fresh : AreFresh m.own = λ s i. fresh s (part_in rule starts m.own m.of_rule s i) in
      let s = ends_spelled net m.own text (drop n text) m.list rule alternative m.after.1 own_fresh m.end in
      (m.after.0, (s.0, part_in rule starts m.own m.of_rule s.0 s.1, s.2, s.3, s.4))

  -- and what it spells it matches alone
  pub spells_alone : (rule alternative n : ℕ) → IsLexable net → AreFresh starts → IsGreedyRule net starts rule
      → SpellsFront net starts text rule alternative n → MatchesAlone net starts text rule alternative n
  spells_alone rule alternative n well fresh greedy s =
      let u = halves n text in
      let l = a_list net starts text u.0 (drop n text) well u.1 in
      alone n rule alternative l.0 (s.0, l.1) (spelled_ends net starts text (drop n text) l.0 rule alternative l.1 fresh greedy s.1)
