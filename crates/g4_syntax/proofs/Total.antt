-- Some tokens are read, or reading stops.
use Rattle.std.proofs.Common.{◌≡◌, ◌⊎◌, ℕ, zero, suc, ◌<◌, List, [], ◌∷◌, ◌++◌, length, Bool, true, false, refl, ap, subst, ◌∙◌, inl, inr, length-append, arith}
use Rattle.g4_syntax.specs.Notation.{Spelled, Terminal, fits, Nonterminal, Expression, one, ◌▸◌, ◌∣◌, optional, repeated, part}
use Rattle.g4_syntax.specs.Productions.{production, grammar}
use Rattle.g4_syntax.specs.Trees.{Tree, leaf, both, left, right, absent, present, end, more, inner, can_be_empty, begins_there, Reads, Comes, here, in_first, in_second, in_left, in_right, in_optional, in_turn, in_later_turn, in_part, Stops, HasTree, TextStops, within, after}
use Rattle.g4_syntax.proofs.Truths.{apart}
use Rattle.g4_syntax.proofs.Texts.{text, reads_text, read_before, comes_after, nothing_read}
use Rattle.g4_syntax.proofs.Guarded.{Outcome, part_guarded, Known, ShorterKnown, first_known, second_known, left_known, right_known, part_known}

-- after a token that was read fewer are left
fewer_left : (t : Spelled) (w from to : List Spelled) → from ≡ (t ∷ w) ++ to → length to < length from
fewer_left t w from to is =
    let count : length from ≡ suc (length (w ++ to)) = ap length is in
    let parts = length-append w to in
    omega arith

-- a token is the terminal or reading stops at it
token_read : (t : Terminal) (token : Spelled) (to : List Spelled) (b : Bool) → fits t token ≡ b → Outcome (one t) (token ∷ to)
token_read t token to true is = inl (leaf token, to, (refl, is))
token_read t token to false is = inr (token ∷ to, record { terminal = t; comes = here (token ∷ to); none = is })

-- a terminal is read or stops
terminal_read : (t : Terminal) (from : List Spelled) → Outcome (one t) from
terminal_read t [] = inr ([], record { terminal = t; comes = here []; none = refl })
terminal_read t (token ∷ to) = token_read t token to (fits t token) refl

-- where reading an expression comes to what another comes to, it stops where that stops
onward : {x y : Expression} {from between rest : List Spelled} → ((t : Terminal) → Comes t x between rest → Comes t y from rest)
    → Stops x between rest → Stops y from rest
onward leads stop = record { terminal = stop.terminal; comes = leads stop.terminal stop.comes; none = stop.none }

-- the first being read, both are read as the second is
second_read : {x y : Expression} (a : Tree x) (from between : List Spelled) → Reads a from between → Outcome y between
    → Outcome (x ▸ y) from
second_read a from between reads (inl read) = inl (both a (read.0), read.1, (between, reads, read.2))
second_read a from between reads (inr stop) = inr (stop.0, onward (λ t comes. in_second from between (stop.0) a reads comes) stop.1)

-- what is known of the second where the first was read
second_there : {x : Expression} (y : Expression) (a : Tree x) (from between w : List Spelled) → ShorterKnown from
    → (can_be_empty x ≡ true → Outcome y from) → Reads a from between → text a ≡ w → Outcome y between
second_there y a from between [] shorter known reads none =
    let same : from ≡ between = reads_text a from between reads ∙ ap (λ (v : List Spelled). v ++ between) none in
    subst (λ (l : List Spelled). Outcome y l) same (known (nothing_read a from between reads none).0)
second_there y a from between (t ∷ w) shorter known reads some =
    shorter y between (fewer_left t w from between (reads_text a from between reads ∙ ap (λ (v : List Spelled). v ++ between) some))

-- two are read, one after the other, or reading stops in one of them
both_read : (x y : Expression) (from : List Spelled) → ShorterKnown from → (can_be_empty x ≡ true → Outcome y from) → Outcome x from
    → Outcome (x ▸ y) from
both_read x y from shorter known (inl read) =
    second_read (read.0) from (read.1) read.2 (second_there y (read.0) from (read.1) (text (read.0)) shorter known read.2 refl)
both_read x y from shorter known (inr stop) = inr (stop.0, onward (λ t comes. in_first from (stop.0) comes) stop.1)

-- two alternatives are read as the first, where it begins
left_read : (x y : Expression) (from : List Spelled) → begins_there x from ≡ true → Outcome x from → Outcome (x ∣ y) from
left_read x y from so (inl read) = inl (left (read.0), read.1, (so, read.2))
left_read x y from so (inr stop) = inr (stop.0, onward (λ t comes. in_left from (stop.0) so comes) stop.1)

-- two alternatives are read as the second, where the first does not begin
right_read : (x y : Expression) (from : List Spelled) → begins_there x from ≡ false → Outcome y from → Outcome (x ∣ y) from
right_read x y from so (inl read) = inl (right (read.0), read.1, (so, read.2))
right_read x y from so (inr stop) = inr (stop.0, onward (λ t comes. in_right from (stop.0) so comes) stop.1)

-- two alternatives are read, or reading stops
either_read : (x y : Expression) (from : List Spelled) (b : Bool) → begins_there x from ≡ b → Outcome x from → Outcome y from
    → Outcome (x ∣ y) from
either_read x y from true so first second = left_read x y from so first
either_read x y from false so first second = right_read x y from so second

-- what is optional is read as what is in it, where it begins
present_read : (x : Expression) (from : List Spelled) → begins_there x from ≡ true → Outcome x from → Outcome (optional x) from
present_read x from so (inl read) = inl (present (read.0), read.1, (so, read.2))
present_read x from so (inr stop) = inr (stop.0, onward (λ t comes. in_optional from (stop.0) so comes) stop.1)

-- what is optional is read, or reading stops
optional_read : (x : Expression) (from : List Spelled) (b : Bool) → begins_there x from ≡ b → Outcome x from → Outcome (optional x) from
optional_read x from true so inside = present_read x from so inside
optional_read x from false so inside = inl (absent, from, (so, refl))

-- the first turn being read, what is repeated is read as the later turns are
later_read : {x : Expression} (a : Tree x) (from between : List Spelled) → begins_there x from ≡ true → Reads a from between
    → Outcome (repeated x) between → Outcome (repeated x) from
later_read a from between so reads (inl read) = inl (more a (read.0), read.1, (so, between, reads, read.2))
later_read a from between so reads (inr stop) =
    inr (stop.0, onward (λ t comes. in_later_turn from between (stop.0) a so reads comes) stop.1)

-- what is known of the later turns where the first was read
later_there : {x : Expression} (a : Tree x) (from between w : List Spelled) → ShorterKnown from → begins_there x from ≡ true
    → Reads a from between → text a ≡ w → Outcome (repeated x) between
later_there {x} a from between [] shorter so reads none = absurd (apart (begins_there x from) so (nothing_read a from between reads none).1)
later_there {x} a from between (t ∷ w) shorter so reads some =
    shorter (repeated x) between (fewer_left t w from between
    (reads_text a from between reads ∙ ap (λ (v : List Spelled). v ++ between) some))

-- what is repeated is read turn by turn, where it begins
turn_read : (x : Expression) (from : List Spelled) → ShorterKnown from → begins_there x from ≡ true → Outcome x from
    → Outcome (repeated x) from
turn_read x from shorter so (inl read) = later_read (read.0) from (read.1) so read.2
    (later_there (read.0) from (read.1) (text (read.0)) shorter so read.2 refl)
turn_read x from shorter so (inr stop) = inr (stop.0, onward (λ t comes. in_turn from (stop.0) so comes) stop.1)

-- what is repeated is read, or reading stops
repeated_read : (x : Expression) (from : List Spelled) (b : Bool) → ShorterKnown from → begins_there x from ≡ b → Outcome x from
    → Outcome (repeated x) from
repeated_read x from true shorter so inside = turn_read x from shorter so inside
repeated_read x from false shorter so inside = inl (end, from, (so, refl))

-- a part is read as its production
part_read : (n : Nonterminal) (from : List Spelled) → Outcome (production n) from → Outcome (part n) from
part_read n from (inl read) = inl (inner (read.0), read.1, read.2)
part_read n from (inr stop) = inr (stop.0, onward (λ t comes. in_part from (stop.0) comes) stop.1)

-- where all is known of fewer tokens, and of parts that come first, an expression is read or stops
read_here : (x : Expression) (from : List Spelled) → ShorterKnown from → Known x from → Outcome x from
read_here (one t) from shorter known = terminal_read t from
read_here (x ▸ y) from shorter known =
    both_read x y from shorter (λ can. read_here y from shorter (second_known x y from known can))
    (read_here x from shorter (first_known x y from known))
read_here (x ∣ y) from shorter known =
    either_read x y from (begins_there x from) refl (read_here x from shorter (left_known x y from known))
    (read_here y from shorter (right_known x y from known))
read_here (optional x) from shorter known = optional_read x from (begins_there x from) refl (read_here x from shorter known)
read_here (repeated x) from shorter known = repeated_read x from (begins_there x from) shorter refl (read_here x from shorter known)
read_here (part n) from shorter known = part_known n from known

-- where all is known of fewer tokens, any expression is read or stops: no part comes first in its production
read_any : (x : Expression) (from : List Spelled) → ShorterKnown from → Outcome x from
read_any x from shorter = read_here x from shorter
    (inr (λ n. part_read n from (read_here (production n) from shorter (inl (part_guarded n)))))

-- fewer than what is below a bound is below the bound before it
fewer_bound : (bound few many : ℕ) → many < suc bound → few < many → few < bound
fewer_bound bound few many within_bound fewer = omega arith

-- fewer tokens than any bound are read, or reading stops
read_below : (bound : ℕ) (x : Expression) (from : List Spelled) → length from < bound → Outcome x from
read_below zero x from below = absurd (omega arith)
read_below (suc bound) x from below = read_any x from
    (λ y to fewer. read_below bound y to (fewer_bound bound (length to) (length from) below fewer))

-- an expression is read of the first tokens, or reading it stops
pub reads_or_stops : (x : Expression) (from : List Spelled) → Outcome x from
reads_or_stops x from = read_below (suc (length from)) x from (omega arith)

-- some tokens are a grammar text, or reading it stops
abbrev pub TextOrStop : List Spelled → Type 0
TextOrStop tokens = ((tree : Tree grammar) × HasTree tokens tree)
    ⊎ ((first : List Spelled) × (rest : List Spelled) × (tokens ≡ first ++ rest) × TextStops tokens rest)

-- a grammar that was read has all tokens, or reading stops at the first that is left
all_or_stop : (tokens to : List Spelled) (tree : Tree grammar) → Reads tree tokens to → TextOrStop tokens
all_or_stop tokens [] tree reads = inl (tree, reads)
all_or_stop tokens (token ∷ rest) tree reads =
    inr (text tree, token ∷ rest, reads_text tree tokens (token ∷ rest) reads, after token rest tree reads)

-- a grammar that is read or stops is a text or stops
text_or_stop_of : (tokens : List Spelled) → Outcome grammar tokens → TextOrStop tokens
text_or_stop_of tokens (inl read) = all_or_stop tokens (read.1) (read.0) read.2
text_or_stop_of tokens (inr stop) = inr (read_before (stop.1.comes), stop.0, comes_after (stop.1.comes), within (stop.0) (stop.1))

-- any tokens are a grammar text, or reading it stops at some of them
pub text_or_stop : (tokens : List Spelled) → TextOrStop tokens
text_or_stop tokens = text_or_stop_of tokens (reads_or_stops grammar tokens)
