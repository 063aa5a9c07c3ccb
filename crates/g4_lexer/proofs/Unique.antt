-- A text has at most one lexing.
use Rattle.std.proofs.Common.{◌≡◌, ◌≢◌, ◌<◌, ◌+◌, ◌⊎◌, inl, inr, ℕ, List, [], ◌∷◌, length, take, drop, Option, Some, None, Ok, Err, Result, refl, sym, ap, ◌∙◌, subst, arith}
use Rattle.std.specs.Str.{IsUtf8, IsValidUpTo, chars}
use Rattle.g4_ordered.specs.Matching.{NoMatch}
use Rattle.g4_tokens.specs.declared.token.Token.{Token}
use Rattle.g4_tokens.specs.declared.token.Tokens.{Tokens}
use Rattle.g4_lexer.specs.declared.effects.Effects.{Effects}
use Rattle.g4_lexer.specs.declared.fault.LexFault.{LexFault}
use Rattle.g4_lexer.specs.declared.fault.LexFault.TheVariants as faults
use Rattle.g4_lexer.specs.declared.lexer.Lexer.{Lexer}
use Rattle.g4_lexer.specs.declared.token.Begun.{Begun}
use Rattle.g4_lexer.specs.Lexers.{starts_in}
use Rattle.g4_lexer.specs.Lexing.{Course, first_course, current, NextMatch, made_at, course_after, Stuck, no_token, empty_mode_stack, too_many, with_tokens, LexesWithin, at_end, unfinished, no_match, no_mode, no_room, a_match, LexesText, token_list, IsLexingWithin}
use Rattle.g4_lexer.proofs.OneDecoding.{not_both_texts, one_end}
use Rattle.g4_lexer.proofs.OneMatch.{one_next, none_of_empty, none_next}

-- a number is not both below a length and that length with more
not_both : (room size left : ℕ) → room < size → room ≡ size + left → ⊥
not_both room size left less is = omega arith

-- an option is not both
some_none : {X : Type 0} (x : X) (o : Option X) → o ≡ None → o ≡ Some x → ⊥
some_none x o p q = cc

module _ (lexer : Lexer) where
  -- where no token has begun, the empty text has no tokens
  only_end : (room : ℕ) (s : Course) (b : Result (List Token) Stuck) → s.begun ≡ None → LexesWithin lexer room s [] b → Ok [] ≡ b
  only_end room s b none (at_end _ _ _) = refl
  only_end room s b none (unfinished _ q begun some) = absurd (some_none begun q.begun none some)
  only_end room s b none (no_mode _ q t n next) = absurd (none_of_empty lexer q n None next)
  only_end room s b none (no_room _ q t n e next less) = absurd (none_of_empty lexer q n (Some e) next)
  only_end room s b none (a_match _ left q t n e more next is rest) = absurd (none_of_empty lexer q n (Some e) next)

  -- where one has begun, it does not go on
  only_unfinished : (room : ℕ) (s : Course) (begun : Begun) (b : Result (List Token) Stuck) → s.begun ≡ Some begun
      → LexesWithin lexer room s [] b → Err (no_token s.at.place None) ≡ b
  only_unfinished room s begun b some (at_end _ q none) = absurd (some_none begun q.begun none some)
  only_unfinished room s begun b some (unfinished _ q other also) = refl
  only_unfinished room s begun b some (no_mode _ q t n next) = absurd (none_of_empty lexer q n None next)
  only_unfinished room s begun b some (no_room _ q t n e next less) = absurd (none_of_empty lexer q n (Some e) next)
  only_unfinished room s begun b some (a_match _ left q t n e more next is rest) = absurd (none_of_empty lexer q n (Some e) next)

  -- where no rule matches, a lexing is stuck
  only_stuck : (room : ℕ) (s : Course) (c : ℕ) (text : List ℕ) (b : Result (List Token) Stuck)
      → NoMatch lexer.net (starts_in lexer s.mode) (c ∷ text) → LexesWithin lexer room s (c ∷ text) b
      → Err (no_token s.at.place (Some c)) ≡ b
  only_stuck room s c text b none (no_match _ _ _ _ other) = refl
  only_stuck room s c text b none (no_mode _ q t n next) = absurd (none_next lexer q (c ∷ text) n None none next)
  only_stuck room s c text b none (no_room _ q t n e next less) = absurd (none_next lexer q (c ∷ text) n (Some e) none next)
  only_stuck room s c text b none (a_match _ left q t n e more next is rest) = absurd (none_next lexer q (c ∷ text) n (Some e) none next)

  -- the effects of two next matches are alike
  same_effects : (s : Course) (text : List ℕ) (n m : ℕ) (e f : Effects) → NextMatch lexer s text n (Some e)
      → NextMatch lexer s text m (Some f) → e ≡ f
  same_effects s text n m e f x y = let same = (one_next lexer s text n m (Some e) (Some f) x y).effects_are in cc

  -- a next match finds a mode to go back to, or not
  not_some_none : (s : Course) (text : List ℕ) (n m : ℕ) (e : Effects) → NextMatch lexer s text n (Some e)
      → NextMatch lexer s text m None → ⊥
  not_some_none s text n m e x y = let same = (one_next lexer s text n m (Some e) None x y).effects_are in cc

  -- where there is no mode to go back to, a lexing says so
  only_no_mode : (room : ℕ) (s : Course) (text : List ℕ) (n : ℕ) (b : Result (List Token) Stuck) → NextMatch lexer s text n None
      → LexesWithin lexer room s text b → Err (empty_mode_stack s.at.place) ≡ b
  only_no_mode room s text n b next (at_end _ q none) = absurd (none_of_empty lexer q n None next)
  only_no_mode room s text n b next (unfinished _ q begun some) = absurd (none_of_empty lexer q n None next)
  only_no_mode room s text n b next (no_match _ q c t none) = absurd (none_next lexer q (c ∷ t) n None none next)
  only_no_mode room s text n b next (no_mode _ q t m other) = refl
  only_no_mode room s text n b next (no_room _ q t m e other less) = absurd (not_some_none q t m n e other next)
  only_no_mode room s text n b next (a_match _ left q t m e more other is rest) = absurd (not_some_none q t m n e other next)

  -- where there is no room for what a match makes, a lexing says so
  only_no_room : (room : ℕ) (s : Course) (text : List ℕ) (n : ℕ) (e : Effects) (b : Result (List Token) Stuck)
      → NextMatch lexer s text n (Some e) → room < length (made_at s e (take n text)) → LexesWithin lexer room s text b
      → Err (too_many (current s).from.place) ≡ b
  only_no_room room s text n e b next less (at_end _ q none) = absurd (none_of_empty lexer q n (Some e) next)
  only_no_room room s text n e b next less (unfinished _ q begun some) = absurd (none_of_empty lexer q n (Some e) next)
  only_no_room room s text n e b next less (no_match _ q c t none) = absurd (none_next lexer q (c ∷ t) n (Some e) none next)
  only_no_room room s text n e b next less (no_mode _ q t m other) = absurd (not_some_none q t n m e next other)
  only_no_room room s text n e b next less (no_room _ q t m f other also) = refl
  only_no_room room s text n e b next less (a_match r left q t m f more other is rest) =
      let here = subst (λ (g : Effects). r < length (made_at q g (take n t))) (same_effects q t n m e f next other) less in
      let there = subst (λ k. r < length (made_at q f (take k t))) (one_next lexer q t n m (Some e) (Some f) next other).length_is here in
      absurd (not_both r (length (made_at q f (take m t))) left there is)

  -- a lexing goes on after a match of n characters with these effects
  abbrev GoesOn : ℕ → Course → List ℕ → Result (List Token) Stuck → ℕ → Effects → Type 0
  GoesOn room s text b n e =
      (left : ℕ) × (more : Result (List Token) Stuck) × (room ≡ length (made_at s e (take n text)) + left)
      × LexesWithin lexer left (course_after s e (take n text)) (drop n text) more × (with_tokens (made_at s e (take n text)) more ≡ b)

  -- where there is room for what a match makes, a lexing goes on after it
  only_match : (room left : ℕ) (s : Course) (text : List ℕ) (n : ℕ) (e : Effects) (b : Result (List Token) Stuck)
      → NextMatch lexer s text n (Some e) → room ≡ length (made_at s e (take n text)) + left → LexesWithin lexer room s text b
      → GoesOn room s text b n e
  only_match room left s text n e b next is (at_end _ q none) = absurd (none_of_empty lexer q n (Some e) next)
  only_match room left s text n e b next is (unfinished _ q begun some) = absurd (none_of_empty lexer q n (Some e) next)
  only_match room left s text n e b next is (no_match _ q c t none) = absurd (none_next lexer q (c ∷ t) n (Some e) none next)
  only_match room left s text n e b next is (no_mode _ q t m other) = absurd (not_some_none q t n m e next other)
  only_match room left s text n e b next is (no_room r q t m f other less) =
      let here = subst (λ (g : Effects). r < length (made_at q g (take m t))) (same_effects q t m n f e other next) less in
      let there = subst (λ k. r < length (made_at q e (take k t))) (one_next lexer q t m n (Some f) (Some e) other next).length_is here in
      absurd (not_both r (length (made_at q e (take n t))) left there is)
  only_match room left s text n e b next is (a_match r rest q t m f more other also lexes) =
      let here : GoesOn r q t b m f = (rest, more, also, lexes, refl) in
      let there = subst (λ (g : Effects). GoesOn r q t b m g) (same_effects q t m n f e other next) here in
      subst (λ k. GoesOn r q t b k e) (one_next lexer q t m n (Some f) (Some e) other next).length_is there

  same_left : (room size left rest : ℕ) → room ≡ size + left → room ≡ size + rest → rest ≡ left
  same_left room size left rest p q = omega arith

  -- a text has at most one lexing from where a lexing is
  pub one_lexing : (room : ℕ) (s : Course) (text : List ℕ) (a b : Result (List Token) Stuck) → LexesWithin lexer room s text a
      → LexesWithin lexer room s text b → a ≡ b
  one_lexing room s text a b (at_end r q none) other = only_end r q b none other
  one_lexing room s text a b (unfinished r q begun some) other = only_unfinished r q begun b some other
  one_lexing room s text a b (no_match r q c t none) other = only_stuck r q c t b none other
  one_lexing room s text a b (no_mode r q t n next) other = only_no_mode r q t n b next other
  one_lexing room s text a b (no_room r q t n e next less) other = only_no_room r q t n e b next less other
  one_lexing room s text a b (a_match r left q t n e more next is rest) other =
      let on = only_match r left q t n e b next is other in
      let there = course_after q e (take n t) in
      let lexes = subst (λ k. LexesWithin lexer k there (drop n t) on.1)
      (same_left r (length (made_at q e (take n t))) left on.0 is on.2) on.3 in
      ap (λ (m : Result (List Token) Stuck). with_tokens (made_at q e (take n t)) m)
      (one_lexing left there (drop n t) more on.1 rest lexes) ∙ on.4

  -- what a lexing of its characters makes of a file is its answer
  abbrev answer_of : List ℕ → Result (List Token) Stuck → Result Tokens LexFault
  answer_of bytes (Ok tokens) = Ok (token_list bytes tokens)
  answer_of bytes (Err (no_token place character)) = Err (faults.NoToken place character)
  answer_of bytes (Err (empty_mode_stack place)) = Err (faults.EmptyModeStack place)
  answer_of bytes (Err (too_many place)) = Err (faults.Tokens place)

  -- the answer says at which byte the file ends being UTF-8
  abbrev IsEndOfText : List ℕ → Result Tokens LexFault → Type 0
  IsEndOfText bytes a = (at : ℕ) × IsValidUpTo bytes at × (a ≡ Err (faults.NotUtf8 at))

  -- the answer is that of a lexing of the characters
  abbrev IsOfLexing : ℕ → List ℕ → Result Tokens LexFault → Type 0
  IsOfLexing room bytes a = IsUtf8 bytes × ((l : Result (List Token) Stuck) × LexesText lexer room (chars bytes) l
      × (a ≡ answer_of bytes l))

  -- an answer other than that memory ran out is one or the other
  answered : (room : ℕ) (bytes : List ℕ) (a : Result Tokens LexFault) → IsLexingWithin room lexer bytes a → a ≢ Err faults.NoMemory
      → IsEndOfText bytes a ⊎ IsOfLexing room bytes a
  answered room bytes (Ok found) is other = inr (is.0, (Ok found.all, is.1, ap Ok is.2))
  answered room bytes (Err (faults.NotUtf8 at)) is other = inl (at, is, refl)
  answered room bytes (Err (faults.NoToken place character)) is other = inr (is.0, (Err (no_token place character), is.1, refl))
  answered room bytes (Err (faults.EmptyModeStack place)) is other = inr (is.0, (Err (empty_mode_stack place), is.1, refl))
  answered room bytes (Err (faults.Tokens place)) is other = inr (is.0, (Err (too_many place), is.1, refl))
  answered room bytes (Err faults.NoMemory) is other = absurd (other refl)

  -- two such answers are one
  same_answers : (room : ℕ) (bytes : List ℕ) (a b : Result Tokens LexFault) → IsEndOfText bytes a ⊎ IsOfLexing room bytes a
      → IsEndOfText bytes b ⊎ IsOfLexing room bytes b → a ≡ b
  same_answers room bytes a b (inl x) (inl y) = x.2 ∙ ap (λ at. Err (faults.NotUtf8 at)) (one_end bytes x.0 y.0 x.1 y.1) ∙ sym y.2
  same_answers room bytes a b (inl x) (inr y) = absurd (not_both_texts bytes x.0 y.0 x.1)
  same_answers room bytes a b (inr x) (inl y) = absurd (not_both_texts bytes y.0 x.0 y.1)
  same_answers room bytes a b (inr x) (inr y) =
      x.1.2 ∙ ap (λ (l : Result (List Token) Stuck). answer_of bytes l)
      (one_lexing room first_course (chars bytes) x.1.0 y.1.0 x.1.1 y.1.1) ∙ sym y.1.2

  -- a file has at most one answer, unless memory runs out
  pub one_answer : (room : ℕ) (bytes : List ℕ) (a b : Result Tokens LexFault) → IsLexingWithin room lexer bytes a
      → IsLexingWithin room lexer bytes b → a ≢ Err faults.NoMemory → b ≢ Err faults.NoMemory → a ≡ b
  one_answer room bytes a b is is' some some' =
      same_answers room bytes a b (answered room bytes a is some) (answered room bytes b is' some')
