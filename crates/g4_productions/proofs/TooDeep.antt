-- Brackets that open too deep: which is the first, and what reading the tokens up to it says of reading them all.
use Rattle.std.proofs.Common.{◌≡◌, ◌<◌, ◌≤◌, ◌+◌, ◌⊎◌, ℕ, zero, suc, List, [], ◌∷◌, ◌++◌, Bool, true, false, ◌||◌, Option, Some, None, length, refl, sym, ◌∙◌, ap, ap₂, subst, inl, inr, arith, true≢false, append_assoc, append-nil, length-append, length-take, length-drop, take, drop}
use Rattle.std.specs.List.{count_by}
use Rattle.std.specs.Prelude.{◌==◌, ◌-◌, ◌&&◌, get_or, nat_le}
use Rattle.std.proofs.Math.ListN.{get_or-map}
use Rattle.std.proofs.Math.Seq.{take-append_seam, drop-append_seam}
use Rattle.std.proofs.lemmas.Bool.{and_parts, cases_lt, cond-true, cond-false, eqb-true, leb-true, le-leb}
use Rattle.std.proofs.lemmas.List.{append_cancel_right, drop-append-le, drop_more, length-map, take-append-drop}
use Rattle.std.proofs.lemmas.List.Sums.{count_by-le-length, count_by_more_yes, count_by_more_no}
use Rattle.g4_base.specs.declared.place.Place.{Place}
use Rattle.g4_grammar_tokens.specs.declared.token.Kind.{Kind}
use Rattle.g4_grammar_tokens.specs.declared.token.Kind.TheVariants as kinds
use Rattle.g4_grammar_tokens.specs.declared.token.Token.{Token}
use Rattle.g4_syntax.specs.Notation.{Spelled, number_of, is_kind, Terminal, of_kind, keyword, a_name, a_set, characters, excluded, sign}
use Rattle.g4_syntax.specs.Productions.{grammar}
use Rattle.g4_syntax.specs.Trees.{begins_there, Reads, Comes, HasTree, BeginsText, TextStops, within, after, Ends}
use Rattle.g4_syntax.proofs.Complete.{completes}
use Rattle.g4_syntax.proofs.FirstStop.{ends_text}
use Rattle.g4_syntax.proofs.Local.{reads_again, comes_again}
use Rattle.g4_syntax.proofs.Texts.{text, reads_text, read_before, comes_after}
use Rattle.g4_syntax.proofs.WellFormed.{grammar_well_formed}
use Rattle.g4_cursor.specs.Sets.{bytes_if, bytes_at, IsBadSet, is_no_character, is_bad_range, begins_bad_range, BeginsBad, HasNoBad, HasFirstBad}
use Rattle.g4_cursor.specs.Texts.{place_of, spelled, spelled_token}
use Rattle.g4_productions.specs.Answering.{IsFirstTooDeep, BeginsBadAt, one_if, opens_too_deep}
use Rattle.g4_productions.specs.Grammars.{HasBadSetAt}
use Rattle.g4_productions.specs.declared.nesting.TheConstants.{MOST_OPEN}
use Rattle.g4_productions.specs.Nesting.{is_of, open_after, IsTooDeep, NoneTooDeep, NoneTooDeepBefore, HasNoBadBefore, IsNested}

-- the same lists have the same first token
same_first : (t s : Spelled) (ts ss : List Spelled) → t ∷ ts ≡ s ∷ ss → t ≡ s
same_first t s ts ss is = cc

-- the same lists have the same tokens after the first
same_others : (t s : Spelled) (ts ss : List Spelled) → t ∷ ts ≡ s ∷ ss → ts ≡ ss
same_others t s ts ss is = cc

-- of two ways to part the same tokens, the one with more tokens after the cut
pub record IsEarlier (front rest before other : List Spelled) : Type 0 where
  pub more : List Spelled
  pub rest_is : other ≡ more ++ rest
  pub front_is : front ≡ before ++ more

-- where no fewer tokens come after the one cut, it is no later than the other
pub parted : (front rest before other : List Spelled) → front ++ rest ≡ before ++ other → length rest ≤ length other
    → IsEarlier front rest before other
parted front rest [] other is long = record { more = front; rest_is = sym is; front_is = refl }
parted [] rest (t ∷ before) other is long = absurd (omega (arith, long, ap length is, length-append before other))
parted (s ∷ front) rest (t ∷ before) other is long =
    let inside = parted front rest before other (same_others s t (front ++ rest) (before ++ other) is) long in
    record {
      more = inside.more;
      rest_is = inside.rest_is;
      front_is = ap₂ (λ (x : Spelled) (l : List Spelled). x ∷ l) (same_first s t (front ++ rest) (before ++ other) is) inside.front_is;
    }

-- the token is a bracket that opens
abbrev pub Opens : Spelled → Type 0
Opens bracket = is_kind kinds.LeftParenthesis bracket.kind ≡ true

-- it is of no other kind
other_kind : (kind : Kind) (bracket : Spelled) → Opens bracket → is_kind kind kinds.LeftParenthesis ≡ false
    → is_kind kind bracket.kind ≡ false
other_kind kind bracket opens other = subst (λ (n : ℕ). (number_of kind == n) ≡ false)
    (eqb-true (number_of kinds.LeftParenthesis) (number_of bracket.kind) opens) other

-- it has no bytes as a token of another kind
none_there : (kind : Kind) (bracket : Spelled) → Opens bracket → is_kind kind kinds.LeftParenthesis ≡ false
    → bytes_if kind (Some bracket) ≡ None
none_there kind bracket opens other = cond-false (is_kind kind bracket.kind) (Some bracket.bytes) None
    (other_kind kind bracket opens other)

-- no range without dots is bad
no_dots : (first last : Option (List ℕ)) → is_bad_range first None last ≡ false
no_dots None last = refl
no_dots (Some first) last = refl

-- a literal before a bracket is no range
no_range : (s bracket : Spelled) (others : List Spelled) → Opens bracket → begins_bad_range (s ∷ bracket ∷ others) ≡ false
no_range s bracket others opens =
    let tokens = s ∷ bracket ∷ others in
    ap (λ (dots : Option (List ℕ)). is_bad_range (bytes_at 0 kinds.Literal tokens) dots (bytes_at 2 kinds.Literal tokens))
    (none_there kinds.DoubleDot bracket opens refl) ∙ no_dots (bytes_at 0 kinds.Literal tokens) (bytes_at 2 kinds.Literal tokens)

-- whether a range before a bracket is bad does not depend on what follows the bracket
same_range : (s : Spelled) (more : List Spelled) (bracket : Spelled) (others rest : List Spelled) → Opens bracket
    → begins_bad_range (s ∷ (more ++ bracket ∷ others)) ≡ begins_bad_range (s ∷ (more ++ bracket ∷ rest))
same_range s [] bracket others rest opens = no_range s bracket others opens ∙ sym (no_range s bracket rest opens)
same_range s (t ∷ []) bracket others rest opens = refl
same_range s (t ∷ u ∷ more) bracket others rest opens = refl

-- nor whether a set before it is
bad_again : (t : Terminal) (s : Spelled) (more : List Spelled) (bracket : Spelled) (others rest : List Spelled) → Opens bracket
    → BeginsBad t (s ∷ (more ++ bracket ∷ others)) → BeginsBad t (s ∷ (more ++ bracket ∷ rest))
bad_again (of_kind kind) s more bracket others rest opens bad = bad
bad_again (keyword spelling) s more bracket others rest opens bad = bad
bad_again a_name s more bracket others rest opens bad = bad
bad_again a_set s more bracket others rest opens bad = bad
bad_again characters s more bracket others rest opens bad = sym (same_range s more bracket others rest opens) ∙ bad
bad_again excluded s more bracket others rest opens bad =
    sym (ap (λ (b : Bool). is_no_character (bytes_at 0 kinds.Literal (s ∷ (more ++ bracket ∷ others))) || b)
    (same_range s more bracket others rest opens)) ∙ bad

-- no bad set begins with a bracket
pub bracket_good : (t : Terminal) (bracket : Spelled) (others : List Spelled) → Opens bracket → BeginsBad t (bracket ∷ others) → ⊥
bracket_good (of_kind kind) bracket others opens bad = bad
bracket_good (keyword spelling) bracket others opens bad = bad
bracket_good a_name bracket others opens bad = bad
bracket_good a_set bracket others opens bad = subst IsBadSet (none_there kinds.Set bracket opens refl) bad
bracket_good characters bracket others opens bad =
    let tokens = bracket ∷ others in
    let good : begins_bad_range tokens ≡ false =
    ap (λ (first : Option (List ℕ)). is_bad_range first (bytes_at 1 kinds.DoubleDot tokens) (bytes_at 2 kinds.Literal tokens))
    (none_there kinds.Literal bracket opens refl) in
    true≢false (sym bad ∙ good)
bracket_good excluded bracket others opens bad =
    let tokens = bracket ∷ others in
    let good : (is_no_character (bytes_at 0 kinds.Literal tokens) || begins_bad_range tokens) ≡ false =
    ap (λ (first : Option (List ℕ)).
    is_no_character first || is_bad_range first (bytes_at 1 kinds.DoubleDot tokens) (bytes_at 2 kinds.Literal tokens))
    (none_there kinds.Literal bracket opens refl) in
    true≢false (sym bad ∙ good)

-- nor after all tokens
end_good : (t : Terminal) → BeginsBad t [] → ⊥
end_good (of_kind kind) bad = bad
end_good (keyword spelling) bad = bad
end_good a_name bad = bad
end_good a_set bad = bad
end_good characters bad = true≢false (sym bad)
end_good excluded bad = true≢false (sym bad)

-- a grammar text begins with the first of the tokens with which one begins
begins_before : (first others : List Spelled) → BeginsText (first ++ others) → BeginsText first
begins_before first others (more, tree, has) =
    (others ++ more, tree, subst (λ (l : List Spelled). HasTree l tree) (append_assoc first others more) has)

-- a grammar text begins with what is read before a terminal to which reading comes
begins_read : {t : Terminal} {from rest : List Spelled} (comes : Comes t grammar from rest) → BeginsText (read_before comes)
begins_read comes =
    let whole = completes comes [] grammar_well_formed refl in
    let all : read_before comes ++ (whole.0 ++ []) ≡ read_before comes ++ whole.0 =
    ap (λ (l : List Spelled). read_before comes ++ l) (append-nil (whole.0)) in
    (whole.0, whole.1, subst (λ (l : List Spelled). Reads (whole.1) l []) all whole.2)

-- reading comes to a terminal whatever follows the next token
comes_with : {t : Terminal} (front : List Spelled) (s : Spelled) (r others : List Spelled) → Comes t grammar (front ++ s ∷ r) (s ∷ r)
    → Comes t grammar (front ++ s ∷ others) (s ∷ others)
comes_with {t} front s r others comes =
    let same : read_before comes ≡ front = append_cancel_right (read_before comes) front (s ∷ r) (sym (comes_after comes)) in
    subst (λ (l : List Spelled). Comes t grammar (l ++ s ∷ others) (s ∷ others)) same (comes_again comes (s ∷ others) (λ x. refl))

-- reading stops whatever follows the next token
stops_with : (front : List Spelled) (s : Spelled) (r others : List Spelled) → TextStops (front ++ s ∷ r) (s ∷ r)
    → TextStops (front ++ s ∷ others) (s ∷ others)
stops_with front s r others (within _ stop) = within (s ∷ others)
    (record { terminal = stop.terminal; comes = comes_with front s r others stop.comes; none = stop.none })
stops_with front s r others (after _ _ tree reads) =
    let same : text tree ≡ front = append_cancel_right (text tree) front (s ∷ r) (sym (reads_text tree (front ++ s ∷ r) (s ∷ r) reads)) in
    after s others tree (subst (λ (l : List Spelled). Reads tree (l ++ s ∷ others) (s ∷ others)) same
    (reads_again tree (front ++ s ∷ r) (s ∷ r) (s ∷ others) reads (inl (λ x. refl))))

-- reading comes to no terminal after the token before which it stops
no_further : {t : Terminal} (tokens front : List Spelled) (s : Spelled) (r other : List Spelled) → tokens ≡ front ++ s ∷ r
    → TextStops tokens (s ∷ r) → Comes t grammar tokens other → length (s ∷ r) ≤ length other
no_further tokens front s r other parts stop comes = by_length (cases_lt (length other) (length (s ∷ r)))
  where
    ends : Ends front (s ∷ r)
    ends = ends_text tokens front (s ∷ r) parts stop

    by_more : (more : List Spelled) → s ∷ r ≡ more ++ other → read_before comes ≡ front ++ more → length other < length (s ∷ r) → ⊥
    by_more [] rest_is front_is less = omega (arith, less, ap length rest_is)
    by_more (u ∷ more) rest_is front_is less =
        let read : BeginsText ((front ++ u ∷ []) ++ more) = subst BeginsText (front_is ∙ sym (append_assoc front (u ∷ []) more))
        (begins_read comes) in
        ends (subst (λ (x : Spelled). BeginsText (front ++ x ∷ [])) (sym (same_first s u r (more ++ other) rest_is))
        (begins_before (front ++ u ∷ []) more read))

    by_length : (length other < length (s ∷ r)) ⊎ (length (s ∷ r) ≤ length other) → length (s ∷ r) ≤ length other
    by_length (inr long) = long
    by_length (inl less) =
        let cut = parted (read_before comes) other front (s ∷ r) (sym (comes_after comes) ∙ parts) (omega (arith, less)) in
        absurd (by_more cut.more cut.rest_is cut.front_is less)

-- Tokens up to a bracket, and others after it.
module _ (front : List Spelled) (bracket : Spelled) (others : List Spelled) (opens : Opens bracket) where
  -- the tokens up to the bracket
  abbrev pub up_to : List Spelled
  up_to = front ++ bracket ∷ []

  -- all tokens
  abbrev pub all_tokens : List Spelled
  all_tokens = front ++ bracket ∷ others

  -- what reading comes to in all of them before the bracket, it comes to in those up to it
  record IsThere (t : Terminal) (other : List Spelled) : Type 0 where
    pub rest : List Spelled
    pub comes : Comes t grammar up_to rest
    pub bad : BeginsBad t rest
    pub long : length other ≡ length rest + length others

  bad_there : (t : Terminal) (other : List Spelled) → Comes t grammar all_tokens other → BeginsBad t other
      → length (bracket ∷ others) < length other → IsThere t other
  bad_there t other comes bad long =
      let cut = parted front (bracket ∷ others) (read_before comes) other (comes_after comes) (omega (arith, long)) in
      by_more cut.more cut.rest_is cut.front_is
    where
      by_more : (more : List Spelled) → other ≡ more ++ bracket ∷ others → front ≡ read_before comes ++ more → IsThere t other
      by_more [] rest_is front_is = absurd (omega (arith, long, ap length rest_is))
      by_more (s ∷ more) rest_is front_is =
          let before = read_before comes in
          let whole : Comes t grammar (before ++ other) other =
          subst (λ (l : List Spelled). Comes t grammar l other) (comes_after comes) comes in
          let parts : Comes t grammar (before ++ s ∷ (more ++ bracket ∷ others)) (s ∷ (more ++ bracket ∷ others)) =
          subst (λ (l : List Spelled). Comes t grammar (before ++ l) l) rest_is whole in
          let cut : up_to ≡ before ++ s ∷ (more ++ bracket ∷ []) =
          ap (λ (l : List Spelled). l ++ bracket ∷ []) front_is ∙ append_assoc before (s ∷ more) (bracket ∷ []) in
          record {
            rest = s ∷ (more ++ bracket ∷ []);
            comes = subst (λ (l : List Spelled). Comes t grammar l (s ∷ (more ++ bracket ∷ []))) (sym cut)
                (comes_with before s (more ++ bracket ∷ others) (more ++ bracket ∷ []) parts);
            bad = bad_again t s more bracket others [] opens (subst (BeginsBad t) rest_is bad);
            long = omega (arith, ap length rest_is, length-append more (bracket ∷ others), length-append more (bracket ∷ []));
          }

  -- where no set up to the bracket is bad, none comes before it
  pub good_before : HasNoBad grammar up_to → HasNoBadBefore all_tokens (bracket ∷ others)
  good_before good t other comes bad = by_length (cases_lt (length (bracket ∷ others)) (length other))
    where
      by_length : (length (bracket ∷ others) < length other) ⊎ (length other ≤ length (bracket ∷ others))
          → length other ≤ length (bracket ∷ others)
      by_length (inr short) = short
      by_length (inl long) = let there = bad_there t other comes bad long in absurd (good t there.rest there.comes there.bad)

  -- what reading all tokens answers where it stops at one of those up to the bracket
  pub record StopsAt (rest : List Spelled) : Type 0 where
    pub stop : TextStops all_tokens rest
    pub good : HasNoBad grammar all_tokens
    pub shallow : NoneTooDeepBefore all_tokens rest

  -- where reading the tokens up to the bracket stops before one of them, so does reading them all
  pub stops_at : NoneTooDeepBefore all_tokens (bracket ∷ others) → (before : List Spelled) (s : Spelled) (r : List Spelled)
      → up_to ≡ before ++ s ∷ r → TextStops up_to (s ∷ r) → HasNoBad grammar up_to → StopsAt (s ∷ (r ++ others))
  stops_at first before s r parts stop good = record { stop = stops; good = all_good; shallow = shallow }
    where
      whole : all_tokens ≡ before ++ s ∷ (r ++ others)
      whole = sym (append_assoc front (bracket ∷ []) others) ∙ ap (λ (l : List Spelled). l ++ others) parts
          ∙ append_assoc before (s ∷ r) others

      long : length (bracket ∷ others) ≤ length (s ∷ (r ++ others))
      long = omega (arith, length-append r others)

      stops : TextStops all_tokens (s ∷ (r ++ others))
      stops = subst (λ (l : List Spelled). TextStops l (s ∷ (r ++ others))) (sym whole) (stops_with before s r (r ++ others)
          (subst (λ (l : List Spelled). TextStops l (s ∷ r)) parts stop))

      shallow : NoneTooDeepBefore all_tokens (s ∷ (r ++ others))
      shallow front other is deep = omega (arith, long, first front other is deep)

      at_bracket : (t : Terminal) (other : List Spelled) (comes : Comes t grammar all_tokens other) (more : List Spelled)
          → other ≡ more ++ bracket ∷ others → length other ≤ length (bracket ∷ others) → BeginsBad t other → ⊥
      at_bracket t other comes [] rest_is short bad = bracket_good t bracket others opens (subst (BeginsBad t) rest_is bad)
      at_bracket t other comes (u ∷ more) rest_is short bad =
          omega (arith, short, ap length rest_is, length-append more (bracket ∷ others))

      all_good : HasNoBad grammar all_tokens
      all_good t other comes bad = by_length (cases_lt (length (bracket ∷ others)) (length other))
        where
          by_length : (length (bracket ∷ others) < length other) ⊎ (length other ≤ length (bracket ∷ others)) → ⊥
          by_length (inl far) = let there = bad_there t other comes bad far in good t there.rest there.comes there.bad
          by_length (inr short) =
              let near = no_further all_tokens before s (r ++ others) other whole stops comes in
              let cut = parted front (bracket ∷ others) (read_before comes) other (comes_after comes) (omega (arith, near, long)) in
              at_bracket t other comes cut.more cut.rest_is short bad

  -- so by the index of the token
  pub stops_from : NoneTooDeepBefore all_tokens (bracket ∷ others) → (index : ℕ) → index < length up_to
      → TextStops up_to (drop index up_to) → HasNoBad grammar up_to → StopsAt (drop index all_tokens)
  stops_from first index inside stop good = by_rest (drop index up_to) refl
    where
      by_rest : (rest : List Spelled) → drop index up_to ≡ rest → StopsAt (drop index all_tokens)
      by_rest [] is = absurd (omega (arith, inside, length-drop index up_to, ap length is))
      by_rest (s ∷ r) is =
          let parts : up_to ≡ take index up_to ++ s ∷ r =
          sym (take-append-drop index up_to) ∙ ap (λ (l : List Spelled). take index up_to ++ l) is in
          let later : drop index all_tokens ≡ s ∷ (r ++ others) =
          ap (drop index) (sym (append_assoc front (bracket ∷ []) others))
          ∙ drop-append-le index up_to others (omega (arith, inside)) ∙ ap (λ (l : List Spelled). l ++ others) is in
          subst StopsAt (sym later) (stops_at first (take index up_to) s r parts (subst (TextStops up_to) is stop) good)

  -- where the first bad set is before the bracket, it is the first of all
  bad_before : NoneTooDeepBefore all_tokens (bracket ∷ others) → (place : Place) (rest : List Spelled)
      (found : HasFirstBad grammar up_to rest) (s : Spelled) (more : List Spelled) → rest ≡ s ∷ (more ++ bracket ∷ [])
      → front ≡ read_before found.comes ++ s ∷ more → place ≡ place_of rest → HasBadSetAt all_tokens place
  bad_before first place rest found s more rest_is front_is is = (
    s ∷ (more ++ bracket ∷ others),
    record { terminal = found.terminal; comes = comes; bad = bad; first = before_all },
    shallow,
    is ∙ ap place_of rest_is,
  )
    where
      before : List Spelled
      before = read_before found.comes

      long : length (bracket ∷ others) ≤ length (s ∷ (more ++ bracket ∷ others))
      long = omega (arith, length-append more (bracket ∷ others))

      whole : all_tokens ≡ before ++ s ∷ (more ++ bracket ∷ others)
      whole = ap (λ (l : List Spelled). l ++ bracket ∷ others) front_is ∙ append_assoc before (s ∷ more) (bracket ∷ others)

      there : Comes found.terminal grammar (before ++ s ∷ (more ++ bracket ∷ [])) (s ∷ (more ++ bracket ∷ []))
      there = subst (λ (l : List Spelled). Comes found.terminal grammar (before ++ l) l) rest_is
          (subst (λ (l : List Spelled). Comes found.terminal grammar l rest) (comes_after found.comes) found.comes)

      comes : Comes found.terminal grammar all_tokens (s ∷ (more ++ bracket ∷ others))
      comes = subst (λ (l : List Spelled). Comes found.terminal grammar l (s ∷ (more ++ bracket ∷ others))) (sym whole)
          (comes_with before s (more ++ bracket ∷ []) (more ++ bracket ∷ others) there)

      bad : BeginsBad found.terminal (s ∷ (more ++ bracket ∷ others))
      bad = bad_again found.terminal s more bracket [] others opens (subst (BeginsBad found.terminal) rest_is found.bad)

      shallow : NoneTooDeepBefore all_tokens (s ∷ (more ++ bracket ∷ others))
      shallow front other is deep = omega (arith, long, first front other is deep)

      before_all : (t : Terminal) (other : List Spelled) → Comes t grammar all_tokens other → BeginsBad t other
          → length other ≤ length (s ∷ (more ++ bracket ∷ others))
      before_all t other comes bad = by_length (cases_lt (length (bracket ∷ others)) (length other))
        where
          by_length : (length (bracket ∷ others) < length other) ⊎ (length other ≤ length (bracket ∷ others))
              → length other ≤ length (s ∷ (more ++ bracket ∷ others))
          by_length (inr short) = omega (arith, long, short)
          by_length (inl far) =
              let there = bad_there t other comes bad far in
              omega (
                arith,
                there.long,
                found.first t there.rest there.comes there.bad,
                ap length rest_is,
                length-append more (bracket ∷ others),
                length-append more (bracket ∷ []),
              )

  -- the first bad set up to the bracket does not begin with it, and is the first of all
  pub bad_at : NoneTooDeepBefore all_tokens (bracket ∷ others) → (place : Place) → BeginsBadAt up_to place → HasBadSetAt all_tokens place
  bad_at first place (rest, found, is) = by_rest rest found is
    where
      by_more : (rest : List Spelled) (found : HasFirstBad grammar up_to rest) (more : List Spelled) → rest ≡ more ++ bracket ∷ []
          → front ≡ read_before found.comes ++ more → place ≡ place_of rest → HasBadSetAt all_tokens place
      by_more rest found [] rest_is front_is is =
          absurd (bracket_good found.terminal bracket [] opens (subst (BeginsBad found.terminal) rest_is found.bad))
      by_more rest found (s ∷ more) rest_is front_is is = bad_before first place rest found s more rest_is front_is is

      by_rest : (rest : List Spelled) → HasFirstBad grammar up_to rest → place ≡ place_of rest → HasBadSetAt all_tokens place
      by_rest [] found is = absurd (end_good found.terminal found.bad)
      by_rest (s ∷ r) found is =
          let cut = parted front (bracket ∷ []) (read_before found.comes) (s ∷ r) (comes_after found.comes) (omega arith) in
          by_more (s ∷ r) found cut.more cut.rest_is cut.front_is is

  -- where reading goes past the bracket and comes to no bad set before it, the bracket stops reading
  pub nested : IsTooDeep front (bracket ∷ others) → BeginsText up_to → HasNoBad grammar up_to → IsNested all_tokens
  nested deep begins good = record {
    front = front;
    bracket = bracket;
    others = others;
    parts = refl;
    deep = deep;
    begins = begins;
    good = good_before good;
  }

-- none of the brackets before this index opens too deep
abbrev pub NoneBelow : List Spelled → ℕ → Type 0
NoneBelow tokens at = (front other : List Spelled) → tokens ≡ front ++ other → IsTooDeep front other → at ≤ length front

-- before the first token there is none
pub none_below : (tokens : List Spelled) → NoneBelow tokens 0
none_below tokens front other is deep = omega arith

-- the token at this index opens none either
pub none_next : (tokens : List Spelled) (at : ℕ) → at < length tokens → NoneBelow tokens at
    → (IsTooDeep (take at tokens) (drop at tokens) → ⊥) → NoneBelow tokens (at + 1)
none_next tokens at inside none denied front other is deep = by_length (cases_lt at (length front))
  where
    by_length : (at < length front) ⊎ (length front ≤ at) → at + 1 ≤ length front
    by_length (inl less) = omega (arith, less)
    by_length (inr short) =
        let same : at ≡ length front = omega (arith, short, none front other is deep) in
        let first : take at tokens ≡ front =
        ap₂ (λ (n : ℕ) (l : List Spelled). take n l) same is ∙ take-append_seam front other in
        let second : drop at tokens ≡ other =
        ap₂ (λ (n : ℕ) (l : List Spelled). drop n l) same is ∙ drop-append_seam front other in
        absurd (denied (subst (λ (l : List Spelled). IsTooDeep l (drop at tokens)) (sym first)
        (subst (IsTooDeep front) (sym second) deep)))

-- the token at this index is the first
pub first_is : (tokens : List Spelled) (at : ℕ) → at < length tokens → NoneBelow tokens at → IsTooDeep (take at tokens) (drop at tokens)
    → IsFirstTooDeep tokens at
first_is tokens at inside none deep = record { within = inside; deep = deep; first = first }
  where
    first : NoneTooDeepBefore tokens (drop at tokens)
    first front other is deeper = omega (
      arith,
      none front other is deeper,
      ap length is,
      length-append front other,
      length-drop at tokens,
      inside,
    )

-- after all tokens there is none
pub none_at_all : (tokens : List Spelled) (at : ℕ) → length tokens ≤ at → NoneBelow tokens at → NoneTooDeep tokens
none_at_all tokens at done none front [] is deep = true≢false (sym deep.opens)
none_at_all tokens at done none front (s ∷ other) is deep =
    omega (arith, done, none front (s ∷ other) is deep, ap length is, length-append front (s ∷ other))

-- a bracket opens too deep there, or none does
too_deep_or_not : (front rest : List Spelled) → IsTooDeep front rest ⊎ (IsTooDeep front rest → ⊥)
too_deep_or_not front rest = by_bracket (begins_there (sign kinds.LeftParenthesis) rest) refl (cases_lt (open_after front) MOST_OPEN)
  where
    by_bracket : (b : Bool) → begins_there (sign kinds.LeftParenthesis) rest ≡ b
        → (open_after front < MOST_OPEN) ⊎ (MOST_OPEN ≤ open_after front) → IsTooDeep front rest ⊎ (IsTooDeep front rest → ⊥)
    by_bracket true opens (inr many) = inl (record { opens = opens; many = many })
    by_bracket true opens (inl few) = inr (λ deep. omega (arith, few, deep.many))
    by_bracket false none many = inr (λ deep. true≢false (sym deep.opens ∙ none))

-- the tokens from an index on have a first bracket that opens too deep, or none
search_from : (n : ℕ) (tokens : List Spelled) (at : ℕ) → length tokens ≤ at + n → NoneBelow tokens at
    → NoneTooDeep tokens ⊎ ((first : ℕ) × IsFirstTooDeep tokens first)
search_from zero tokens at left none = inl (none_at_all tokens at (omega (arith, left)) none)
search_from (suc n) tokens at left none =
    by_length (cases_lt at (length tokens)) (λ later. search_from n tokens (at + 1) (omega (arith, left)) later)
  where
    by_length : (at < length tokens) ⊎ (length tokens ≤ at)
        → (NoneBelow tokens (at + 1) → NoneTooDeep tokens ⊎ ((first : ℕ) × IsFirstTooDeep tokens first))
        → NoneTooDeep tokens ⊎ ((first : ℕ) × IsFirstTooDeep tokens first)
    by_length (inr done) later = inl (none_at_all tokens at done none)
    by_length (inl inside) later = by_depth (too_deep_or_not (take at tokens) (drop at tokens))
      where
        by_depth : IsTooDeep (take at tokens) (drop at tokens) ⊎ (IsTooDeep (take at tokens) (drop at tokens) → ⊥)
            → NoneTooDeep tokens ⊎ ((first : ℕ) × IsFirstTooDeep tokens first)
        by_depth (inl deep) = inr (at, first_is tokens at inside none deep)
        by_depth (inr shallow) = later (none_next tokens at inside none shallow)

-- tokens have a first bracket that opens too deep, or none
pub first_or_none : (tokens : List Spelled) → NoneTooDeep tokens ⊎ ((first : ℕ) × IsFirstTooDeep tokens first)
first_or_none tokens = search_from (length tokens) tokens 0 (omega arith) (none_below tokens)

-- how many of some tokens with one more are of a kind
one_more : (kind : Kind) (tokens : List Spelled) (at : ℕ) (d token : Spelled) → at < length tokens → get_or tokens at d ≡ token
    → count_by (is_of kind) (take (at + 1) tokens) ≡ count_by (is_of kind) (take at tokens) + one_if kind token.kind
one_more kind tokens at d token inside is = by_kind (is_kind kind token.kind) refl
  where
    by_kind : (b : Bool) → is_kind kind token.kind ≡ b
        → count_by (is_of kind) (take (at + 1) tokens) ≡ count_by (is_of kind) (take at tokens) + one_if kind token.kind
    by_kind true told = count_by_more_yes (is_of kind) tokens at d inside (ap (is_of kind) is ∙ told)
        ∙ ap (λ (n : ℕ). count_by (is_of kind) (take at tokens) + n) (sym (cond-true (is_kind kind token.kind) 1 0 told))
    by_kind false denied =
        let same : count_by (is_of kind) (take at tokens) ≡ count_by (is_of kind) (take at tokens) + 0 = omega arith in
        count_by_more_no (is_of kind) tokens at d inside (ap (is_of kind) is ∙ denied) ∙ same
        ∙ ap (λ (n : ℕ). count_by (is_of kind) (take at tokens) + n) (sym (cond-false (is_kind kind token.kind) 1 0 denied))

-- there are no more of a kind before an index than tokens
no_more_than : (kind : Kind) (tokens : List Spelled) (at : ℕ) → count_by (is_of kind) (take at tokens) ≤ at
no_more_than kind tokens at = omega (arith, count_by-le-length (is_of kind) (take at tokens), length-take at tokens)

-- What counting has found before an index: how many brackets opened and closed, and that none opened too deep.
pub record IsPassed (tokens : List Spelled) (opened closed at : ℕ) : Type 0 where
  pub opened_is : opened ≡ count_by (is_of kinds.LeftParenthesis) (take at tokens)
  pub closed_is : closed ≡ count_by (is_of kinds.RightParenthesis) (take at tokens)
  pub none : NoneBelow tokens at

-- how many are open then
open_is : (tokens : List Spelled) (opened closed at : ℕ) → IsPassed tokens opened closed at
    → opened - closed ≡ open_after (take at tokens)
open_is tokens opened closed at passed = ap₂ (λ (m n : ℕ). m - n) passed.opened_is passed.closed_is

-- before the first token
pub passed_none : (tokens : List Spelled) → IsPassed tokens 0 0 0
passed_none tokens = record { opened_is = refl; closed_is = refl; none = none_below tokens }

-- the token at an index comes first of those from there on
first_from : (tokens : List Spelled) (at : ℕ) (d token : Spelled) → at < length tokens → get_or tokens at d ≡ token
    → drop at tokens ≡ token ∷ drop (at + 1) tokens
first_from tokens at d token inside is = drop_more tokens at d inside ∙ ap (λ (t : Spelled). t ∷ drop (at + 1) tokens) is

-- where the test says so, the token at this index opens too deep
deep_there : (tokens : List Spelled) (opened closed at : ℕ) (d token : Spelled) → IsPassed tokens opened closed at → at < length tokens
    → get_or tokens at d ≡ token → opens_too_deep token.kind (opened - closed) ≡ true → IsFirstTooDeep tokens at
deep_there tokens opened closed at d token passed inside is told =
    let both = and_parts (is_kind kinds.LeftParenthesis token.kind) (nat_le MOST_OPEN (opened - closed)) told in
    let many : MOST_OPEN ≤ opened - closed = leb-true MOST_OPEN (opened - closed) both.1 in
    first_is tokens at inside passed.none (record {
      opens = ap (begins_there (sign kinds.LeftParenthesis)) (first_from tokens at d token inside is) ∙ both.0;
      many = subst (λ (n : ℕ). MOST_OPEN ≤ n) (open_is tokens opened closed at passed) many;
    })

-- where it says no, one more token is passed
passed_next : (tokens : List Spelled) (opened closed more_opened more_closed at : ℕ) (d token : Spelled)
    → IsPassed tokens opened closed at → at < length tokens → get_or tokens at d ≡ token
    → opens_too_deep token.kind (opened - closed) ≡ false → more_opened ≡ opened + one_if kinds.LeftParenthesis token.kind
    → more_closed ≡ closed + one_if kinds.RightParenthesis token.kind → IsPassed tokens more_opened more_closed (at + 1)
passed_next tokens opened closed more_opened more_closed at d token passed inside is denied first second = record {
  opened_is = first ∙ ap (λ (n : ℕ). n + one_if kinds.LeftParenthesis token.kind) passed.opened_is
      ∙ sym (one_more kinds.LeftParenthesis tokens at d token inside is);
  closed_is = second ∙ ap (λ (n : ℕ). n + one_if kinds.RightParenthesis token.kind) passed.closed_is
      ∙ sym (one_more kinds.RightParenthesis tokens at d token inside is);
  none = none_next tokens at inside passed.none not_deep;
}
  where
    not_deep : IsTooDeep (take at tokens) (drop at tokens) → ⊥
    not_deep deep =
        let opens : is_kind kinds.LeftParenthesis token.kind ≡ true =
        sym (ap (begins_there (sign kinds.LeftParenthesis)) (first_from tokens at d token inside is)) ∙ deep.opens in
        let many : nat_le MOST_OPEN (opened - closed) ≡ true = le-leb MOST_OPEN (opened - closed)
        (subst (λ (n : ℕ). MOST_OPEN ≤ n) (sym (open_is tokens opened closed at passed)) deep.many) in
        true≢false (sym (ap₂ (λ (a b : Bool). a && b) opens many) ∙ denied)

-- as far as that no more are counted than tokens
pub few_passed : (tokens : List Spelled) (opened closed at : ℕ) → IsPassed tokens opened closed at → (opened ≤ at) × (closed ≤ at)
few_passed tokens opened closed at passed = (
  subst (λ (n : ℕ). n ≤ at) (sym passed.opened_is) (no_more_than kinds.LeftParenthesis tokens at),
  subst (λ (n : ℕ). n ≤ at) (sym passed.closed_is) (no_more_than kinds.RightParenthesis tokens at),
)

-- so of the tokens of a text: where the test says so, the token at this index opens too deep
pub deep_at : (bytes : List ℕ) (tokens : List Token) (opened closed at : ℕ) (d : Token) (says : Bool)
    → IsPassed (spelled bytes tokens) opened closed at → at < length tokens
    → says ≡ opens_too_deep (get_or tokens at d).kind (opened - closed) → says ≡ true → IsFirstTooDeep (spelled bytes tokens) at
deep_at bytes tokens opened closed at d says passed inside is told =
    deep_there (spelled bytes tokens) opened closed at (spelled_token bytes d) (spelled_token bytes (get_or tokens at d)) passed
    (subst (λ (n : ℕ). at < n) (sym (length-map tokens (spelled_token bytes))) inside) (get_or-map (spelled_token bytes) tokens at d)
    (sym is ∙ told)

-- where it says no, the token is passed
pub passed_at : (bytes : List ℕ) (tokens : List Token) (opened closed more_opened more_closed at : ℕ) (d : Token) (says : Bool)
    → IsPassed (spelled bytes tokens) opened closed at → at < length tokens
    → says ≡ opens_too_deep (get_or tokens at d).kind (opened - closed) → says ≡ false
    → more_opened ≡ opened + one_if kinds.LeftParenthesis (get_or tokens at d).kind
    → more_closed ≡ closed + one_if kinds.RightParenthesis (get_or tokens at d).kind
    → IsPassed (spelled bytes tokens) more_opened more_closed (at + 1)
passed_at bytes tokens opened closed more_opened more_closed at d says passed inside is denied first second =
    passed_next (spelled bytes tokens) opened closed more_opened more_closed at (spelled_token bytes d)
    (spelled_token bytes (get_or tokens at d)) passed
    (subst (λ (n : ℕ). at < n) (sym (length-map tokens (spelled_token bytes))) inside) (get_or-map (spelled_token bytes) tokens at d)
    (sym is ∙ denied) first second

-- after all tokens none opens too deep
pub none_deep : (bytes : List ℕ) (tokens : List Token) (opened closed at : ℕ) → IsPassed (spelled bytes tokens) opened closed at
    → length tokens ≤ at → NoneTooDeep (spelled bytes tokens)
none_deep bytes tokens opened closed at passed done =
    none_at_all (spelled bytes tokens) at (omega (arith, done, length-map tokens (spelled_token bytes))) passed.none
