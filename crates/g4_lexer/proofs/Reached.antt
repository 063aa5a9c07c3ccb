-- How far the tokens of a text are found.
use Rattle.std.proofs.Common.{◌≡◌, ℕ, ◌+◌, ◌-◌, ◌≤◌, ◌<◌, List, [], ◌∷◌, ◌++◌, length, take, drop, Option, Some, None, Ok, Err, Result, refl, sym, ap, ◌∙◌, subst, append_assoc, append-nil, get_or, arith}
use Rattle.std.proofs.lemmas.List.{drop_more, drop-drop, drop_all, length-append}
use Rattle.g4_ordered.specs.Matching.{NoMatch}
use Rattle.g4_tokens.specs.declared.token.Token.{Token}
use Rattle.g4_lexer.specs.declared.effects.Effects.{Effects}
use Rattle.g4_lexer.specs.declared.lexer.Lexer.{Lexer}
use Rattle.g4_lexer.specs.declared.token.Begun.{Begun}
use Rattle.g4_lexer.specs.Lexers.{starts_in}
use Rattle.g4_lexer.specs.Lexing.{Course, first_course, current, NextMatch, made_at, course_after, Stuck, no_token, empty_mode_stack, too_many, with_tokens, LexesWithin, at_end, unfinished, no_match, no_mode, no_room, a_match, LexesText}

with_no_tokens : (more : Result (List Token) Stuck) → more ≡ with_tokens [] more
with_no_tokens (Ok more) = refl
with_no_tokens (Err stuck) = refl

with_tokens-append : (tokens others : List Token) (more : Result (List Token) Stuck)
    → with_tokens tokens (with_tokens others more) ≡ with_tokens (tokens ++ others) more
with_tokens-append tokens others (Ok more) = ap Ok (sym (append_assoc tokens others more))
with_tokens-append tokens others (Err stuck) = refl

module _ (lexer : Lexer) (text : List ℕ) (room : ℕ) where
  -- The tokens up to an index are found: what lexes the rest with the room that is left, with these tokens before it, lexes the
  -- text.
  pub record Reached (found : List Token) (start : ℕ) (s : Course) : Type 0 where
    pub left : ℕ
    pub room_is : length found + left ≡ room
    pub onward : (more : Result (List Token) Stuck) → LexesWithin lexer left s (drop start text) more
        → LexesText lexer room text (with_tokens found more)

  -- at first no tokens are found
  pub reached_none : Reached [] 0 first_course
  reached_none = record {
    left = room;
    room_is = omega arith;
    onward = λ more l. subst (λ (m : Result (List Token) Stuck). LexesText lexer room text m) (with_no_tokens more) l;
  }

  -- what the next match makes is found
  pub next_reached : (found new : List Token) (start n : ℕ) (s : Course) (e : Effects) → Reached found start s
      → NextMatch lexer s (drop start text) n (Some e) → new ≡ found ++ made_at s e (take n (drop start text)) → length new ≤ room →
      Reached new (start + n) (course_after s e (take n (drop start text)))
  next_reached found new start n s e r next new_is few =
      let w = take n (drop start text) in
      let makes = made_at s e w in
      let there = course_after s e w in
      let size : length new ≡ length found + length makes = ap length new_is ∙ length-append found makes in record {
        left = r.left - length makes;
        room_is = omega (arith, r.room_is, size, few);
        onward = λ more l.
            let enough : r.left ≡ length makes + (r.left - length makes) = omega (arith, r.room_is, size, few) in
            let rest = subst (λ v. LexesWithin lexer (r.left - length makes) there v more) (sym (drop-drop n start text)) l in
            let all : with_tokens found (with_tokens makes more) ≡ with_tokens new more =
            with_tokens-append found makes more ∙ ap (λ (ts : List Token). with_tokens ts more) (sym new_is) in
            subst (λ (m : Result (List Token) Stuck). LexesText lexer room text m) all
            (r.onward (with_tokens makes more) (a_match r.left (r.left - length makes) s (drop start text) n e more next enough rest));
      }

  -- the next match finds no mode to go back to
  pub reached_no_mode : (found : List Token) (start n : ℕ) (s : Course) → Reached found start s
      → NextMatch lexer s (drop start text) n None → LexesText lexer room text (Err (empty_mode_stack s.at.place))
  reached_no_mode found start n s r next = r.onward (Err (empty_mode_stack s.at.place)) (no_mode r.left s (drop start text) n next)

  -- there is no room for what the next match makes
  pub reached_no_room : (found : List Token) (start n : ℕ) (s : Course) (e : Effects) → Reached found start s
      → NextMatch lexer s (drop start text) n (Some e) → room < length found + length (made_at s e (take n (drop start text))) →
      LexesText lexer room text (Err (too_many (current s).from.place))
  reached_no_room found start n s e r next full =
      r.onward (Err (too_many (current s).from.place)) (no_room r.left s (drop start text) n e next (omega (arith, r.room_is, full)))

  -- no rule matches at the index
  pub reached_stuck : (found : List Token) (start x : ℕ) (s : Course) → Reached found start s → start < length text
      → x ≡ get_or (drop start text) 0 x → NoMatch lexer.net (starts_in lexer s.mode) (drop start text)
      → LexesText lexer room text (Err (no_token s.at.place (Some x)))
  reached_stuck found start x s r less is none =
      let split : drop start text ≡ get_or text start x ∷ drop (start + 1) text = drop_more text start x less in
      let same : x ≡ get_or text start x = is ∙ ap (λ (w : List ℕ). get_or w 0 x) split in
      let whole : drop start text ≡ x ∷ drop (start + 1) text = split ∙ ap (λ h. h ∷ drop (start + 1) text) (sym same) in
      let stuck = no_match r.left s x (drop (start + 1) text)
      (subst (λ (w : List ℕ). NoMatch lexer.net (starts_in lexer s.mode) w) whole none) in
      r.onward (Err (no_token s.at.place (Some x)))
      (subst (λ (w : List ℕ). LexesWithin lexer r.left s w (Err (no_token s.at.place (Some x)))) (sym whole) stuck)

  -- the end is reached, and no token has begun: the tokens are found
  pub reached_end : (found : List Token) (start : ℕ) (s : Course) → Reached found start s → length text ≤ start → s.begun ≡ None
      → LexesText lexer room text (Ok found)
  reached_end found start s r past none =
      let l = r.onward (Ok []) (subst (λ w. LexesWithin lexer r.left s w (Ok [])) (sym (drop_all start text past))
      (at_end r.left s none)) in
      subst (λ (tokens : List Token). LexesText lexer room text (Ok tokens)) (append-nil found) l

  -- the end is reached where a token has begun
  pub reached_unfinished : (found : List Token) (start : ℕ) (s : Course) (begun : Begun) → Reached found start s → length text ≤ start
      → s.begun ≡ Some begun → LexesText lexer room text (Err (no_token s.at.place None))
  reached_unfinished found start s begun r past some =
      r.onward (Err (no_token s.at.place None)) (subst (λ w. LexesWithin lexer r.left s w (Err (no_token s.at.place None)))
      (sym (drop_all start text past)) (unfinished r.left s begun some))

-- the token that has begun, if one has, begins after at most this many bytes
abbrev pub BeginsBy : ℕ → Option Begun → Type 0
BeginsBy bytes None = Unit {0}
BeginsBy bytes (Some begun) = begun.from.offset ≤ bytes
