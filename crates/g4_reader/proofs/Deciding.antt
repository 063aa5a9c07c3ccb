-- Whether reading comes to a bad set can be decided.
use Rattle.std.proofs.Common.{◌≡◌, ◌⊎◌, ℕ, List, ◌∷◌, Bool, true, false, Option, Some, None, ◌||◌, refl, sym, ◌∙◌, ap, subst, inl, inr, true≢false}
use Rattle.std.specs.Option.{is_none}
use Rattle.std.specs.Str.{chars}
use Rattle.g4_base.specs.declared.place.Place.{Place}
use Rattle.g4_grammar_tokens.specs.declared.token.Kind.TheVariants as kinds
use Rattle.g4_syntax.specs.Notation.{Spelled, Terminal, of_kind, keyword, a_name, a_set, characters, excluded, Nonterminal, Expression, one, ◌▸◌, ◌∣◌, optional, repeated, part}
use Rattle.g4_syntax.specs.Productions.{production, grammar}
use Rattle.g4_syntax.specs.Trees.{Tree, leaf, both, left, right, absent, present, end, more, inner, begins_there, Reads, Comes, here, in_first, in_second, in_left, in_right, in_optional, in_turn, in_later_turn, in_part, Stops, HasTree, TextStops, within, after}
use Rattle.g4_syntax.proofs.Unique.{one_reading, never_both}
use Rattle.g4_cursor.specs.declared.cursor.Halt.{Halt}
use Rattle.g4_cursor.specs.declared.cursor.Halt.TheVariants.{Fault, BadSet}
use Rattle.g4_cursor.specs.Progress.{Progress, reading, stopped, is_next, at_fault, at_bad_set, reads, stops, stays, Passes}
use Rattle.g4_cursor.specs.Sets.{content, IsBadContent, IsBadSet, bytes_at, is_no_character, begins_bad_range, BeginsBad, HasNoBad}
use Rattle.g4_cursor.specs.Texts.{place_of}
use Rattle.g4_cursor.proofs.Moving as moving
use Rattle.g4_productions.specs.Answering.{BeginsBadAt}
use Rattle.g4_productions.specs.Members.{set_of}
use Rattle.g4_productions.proofs.SetText.{bad_set, none_bad}

-- it is so or not
abbrev Decided : Type 0 → Type 0
Decided P = P ⊎ (P → ⊥)

-- a truth value is true or not
truth_decided : (b : Bool) → Decided (b ≡ true)
truth_decided true = inl refl
truth_decided false = inr (λ e. true≢false (sym e))

-- a set is bad or not
content_decided : (text : List ℕ) → Decided (IsBadContent text)
content_decided text = by_test (is_none (set_of text)) refl
  where
    by_test : (b : Bool) → is_none (set_of text) ≡ b → Decided (IsBadContent text)
    by_test true e = inl (none_bad text e)
    by_test false e = inr (λ bad. true≢false (sym (ap is_none (bad_set text bad)) ∙ e))

-- a set with these bytes is bad or not, or there is none
set_decided : (bytes : Option (List ℕ)) → Decided (IsBadSet bytes)
set_decided None = inr (λ bad. bad)
set_decided (Some bytes) = content_decided (content (chars bytes))

-- a bad set begins with the first of the tokens or not
bad_decided : (t : Terminal) (tokens : List Spelled) → Decided (BeginsBad t tokens)
bad_decided (of_kind kind) tokens = inr (λ bad. bad)
bad_decided (keyword spelling) tokens = inr (λ bad. bad)
bad_decided a_name tokens = inr (λ bad. bad)
bad_decided a_set tokens = set_decided (bytes_at 0 kinds.Set tokens)
bad_decided characters tokens = truth_decided (begins_bad_range tokens)
bad_decided excluded tokens = truth_decided (is_no_character (bytes_at 0 kinds.Literal tokens) || begins_bad_range tokens)

-- a cursor can move from there over the expression
abbrev CanMove : Expression → List Spelled → Type 0
CanMove x from = (t : Progress) × Passes x (reading from) t

-- over a terminal
over_terminal : (t : Terminal) (from : List Spelled) → ((BeginsBad t from → ⊥) → CanMove (one t) from) → CanMove (one t) from
over_terminal t from otherwise = elim (bad_decided t from)
    [ inl bad ↦ (stopped BadSet from, moving.refuses (reading from) (stopped BadSet from) bad refl) | inr good ↦ otherwise good ]

-- over two, where a cursor stops in the first
stopped_first : (x y : Expression) (from rest : List Spelled) (halt : Halt) → Passes x (reading from) (stopped halt rest)
    → CanMove (x ▸ y) from
stopped_first x y from rest halt first = (stopped halt rest, moving.after first (stays halt rest))

-- over turns, where a cursor stops in the first
stopped_turn : (x : Expression) (from rest : List Spelled) (halt : Halt) → begins_there x from ≡ true
    → Passes x (reading from) (stopped halt rest) → CanMove (repeated x) from
unfolding is_next
stopped_turn x from rest halt is first =
    let none : Passes (repeated x) (stopped halt rest) (stopped halt rest) = stays halt rest in
    (stopped halt rest, moving.one_more is first none (λ c others p q. tt))

-- over two, of which the first is read
over_both : {x y : Expression} (from between : List Spelled) (a : Tree x) → Reads a from between → CanMove x from → CanMove y between
    → CanMove (x ▸ y) from
over_both {x} {y} from between a read (_, reads _ other b again good tt) (v, second) =
    let first : Passes x (reading from) (reading other) = reads from other b again good tt in
    (v, moving.after first (subst (λ (l : List Spelled). Passes y (reading l) v) (one_reading a b from between other read again).1 second))
over_both {x} {y} from between a read (_, stops _ rest halt halts) second = stopped_first x y from rest halt (stops from rest halt halts)

-- over two, where reading stops in the first
over_first : {x y : Expression} (from rest : List Spelled) → Stops x from rest → CanMove x from → CanMove (x ▸ y) from
over_first from rest stop (_, reads _ other b again good tt) = absurd (never_both from other rest b again stop)
over_first {x} {y} from rest stop (_, stops _ other halt halts) = stopped_first x y from other halt (stops from other halt halts)

-- over a choice, as the first
over_left : {x y : Expression} (from : List Spelled) → begins_there x from ≡ true → CanMove x from → CanMove (x ∣ y) from
unfolding is_next
over_left from is (t, moves) = (t, moving.first is moves)

-- over a choice, as the second
over_right : {x y : Expression} (from : List Spelled) → begins_there x from ≡ false → CanMove y from → CanMove (x ∣ y) from
unfolding is_next
over_right from none (t, moves) = (t, moving.second none moves)

-- over what is optional
over_optional : {x : Expression} (from : List Spelled) → begins_there x from ≡ true → CanMove x from → CanMove (optional x) from
unfolding is_next
over_optional from is (t, moves) = (t, moving.there is moves)

-- over nothing
over_absent : {x : Expression} (from : List Spelled) → begins_there x from ≡ false → CanMove (optional x) from
unfolding is_next
over_absent from none = (reading from, moving.left_out (reading from) none tt)

-- over a part
over_part : {n : Nonterminal} (from : List Spelled) → CanMove (production n) from → CanMove (part n) from
over_part from (t, moves) = (t, moving.inside moves)

-- over no turn
over_end : {x : Expression} (from : List Spelled) → begins_there x from ≡ false → CanMove (repeated x) from
unfolding is_next
over_end from none = (reading from, moving.no_turn (reading from) none tt)

-- over turns, of which the first is read
over_more : {x : Expression} (from between : List Spelled) (a : Tree x) → begins_there x from ≡ true → Reads a from between
    → CanMove x from → CanMove (repeated x) between → CanMove (repeated x) from
unfolding is_next
over_more {x} from between a is read (_, reads _ other b again good tt) (v, later) =
    let first : Passes x (reading from) (reading other) = reads from other b again good tt in
    let others : Passes (repeated x) (reading other) v =
    subst (λ (l : List Spelled). Passes (repeated x) (reading l) v) (one_reading a b from between other read again).1 later in
    (v, moving.one_more is first others (λ c rest p q. tt))
over_more {x} from between a is read (_, stops _ rest halt halts) later = stopped_turn x from rest halt is (stops from rest halt halts)

-- over turns, where reading stops in the first
over_turn : {x : Expression} (from rest : List Spelled) → begins_there x from ≡ true → Stops x from rest → CanMove x from
    → CanMove (repeated x) from
over_turn from rest is stop (_, reads _ other b again good tt) = absurd (never_both from other rest b again stop)
over_turn {x} from rest is stop (_, stops _ other halt halts) = stopped_turn x from other halt is (stops from other halt halts)

-- a cursor can move over what is read
over_tree : {x : Expression} (a : Tree x) (from to : List Spelled) → Reads a from to → CanMove x from
over_tree (leaf {t} token) from to read = over_terminal t from
    (λ good. (reading to, reads from to (leaf token) read (moving.good_terminal t from good) tt))
over_tree (both a b) from to read = over_both from read.0 a read.1 (over_tree a from read.0 read.1) (over_tree b read.0 to read.2)
over_tree (left a) from to read = over_left from read.0 (over_tree a from to read.1)
over_tree (right b) from to read = over_right from read.0 (over_tree b from to read.1)
over_tree absent from to read = over_absent from read.0
over_tree (present a) from to read = over_optional from read.0 (over_tree a from to read.1)
over_tree end from to read = over_end from read.0
over_tree (more a later) from to read = over_more from read.1 a read.0 read.2 (over_tree a from read.1 read.2)
    (over_tree later read.1 to read.3)
over_tree (inner a) from to read = over_part from (over_tree a from to read)

-- a cursor can move over what reading stops in
over_stop : {t : Terminal} {x : Expression} {from rest : List Spelled} → Comes t x from rest → begins_there (one t) rest ≡ false
    → CanMove x from
unfolding is_next
over_stop {t} (here rest) none = over_terminal t rest
    (λ good. (stopped Fault rest, moving.stops_at (reading rest) (stopped Fault rest) none good refl))
over_stop {t} (in_first from rest comes) none =
    over_first from rest (record { terminal = t; comes = comes; none = none }) (over_stop comes none)
over_stop (in_second from between rest a read comes) none =
    over_both from between a read (over_tree a from between read) (over_stop comes none)
over_stop (in_left from rest is comes) none = over_left from is (over_stop comes none)
over_stop (in_right from rest is comes) none = over_right from is (over_stop comes none)
over_stop (in_optional from rest is comes) none = over_optional from is (over_stop comes none)
over_stop {t} (in_turn from rest is comes) none =
    over_turn from rest is (record { terminal = t; comes = comes; none = none }) (over_stop comes none)
over_stop (in_later_turn from between rest a is read comes) none =
    over_more from between a is read (over_tree a from between read) (over_stop comes none)
over_stop (in_part from rest comes) none = over_part from (over_stop comes none)

-- reading comes to no bad set, or to a first one
abbrev pub GoodOrBad : List Spelled → Type 0
GoodOrBad tokens = HasNoBad grammar tokens ⊎ ((place : Place) × BeginsBadAt tokens place)

-- so where a cursor can move
by_move : (tokens : List Spelled) → CanMove grammar tokens → GoodOrBad tokens
by_move tokens (_, reads _ to tree read good tt) = inl good
by_move tokens (_, stops _ rest _ (at_fault stop good)) = inl good
by_move tokens (_, stops _ rest _ (at_bad_set found)) = inr (place_of rest, (rest, found, refl))

-- a grammar text has no bad set, or a first one
pub text_decided : (tokens : List Spelled) (tree : Tree grammar) → HasTree tokens tree → GoodOrBad tokens
text_decided tokens tree has = by_move tokens (over_tree tree tokens _ has)

-- tokens before which reading stops have no bad set before them, or a first one
pub stop_decided : (tokens rest : List Spelled) → TextStops tokens rest → GoodOrBad tokens
stop_decided tokens _ (within rest stop) = by_move tokens (over_stop stop.comes stop.none)
stop_decided tokens _ (after token rest tree read) = by_move tokens (over_tree tree tokens (token ∷ rest) read)
