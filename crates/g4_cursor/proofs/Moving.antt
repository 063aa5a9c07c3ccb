-- How a cursor moves past composed expressions, where reading may stop.
use Rattle.std.proofs.Common.{◌≡◌, ◌⊎◌, ◌≤◌, ℕ, List, [], ◌∷◌, length, Bool, true, false, ◌||◌, ◌&&◌, refl, sym, ◌∙◌, subst, arith, inl, inr, true≢false}
use Rattle.g4_grammar_tokens.specs.declared.token.Kind.{Kind}
use Rattle.g4_syntax.specs.Notation.{Spelled, is_kind, fits, Nonterminal, Terminal, of_kind, keyword, a_name, Expression, one, sign, ◌▸◌, ◌∣◌, optional, repeated, part}
use Rattle.g4_syntax.specs.Productions.{production}
use Rattle.g4_syntax.specs.Trees.{Tree, leaf, both, left, right, absent, present, end, more, inner, begins, begins_there, can_be_empty, Reads, Comes, here, in_first, in_second, in_left, in_right, in_optional, in_turn, in_later_turn, in_part}
use Rattle.g4_syntax.proofs.Firsts.{begins_part}
use Rattle.g4_syntax.proofs.Truths.{apart, or_first_true, or_second_true, or_false}
use Rattle.g4_syntax.proofs.Unique.{never_both, comes_read, comes_no_longer}
use Rattle.g4_cursor.specs.declared.cursor.Halt.{Halt}
use Rattle.g4_cursor.specs.declared.cursor.Halt.TheVariants.{Fault, BadSet}
use Rattle.g4_cursor.specs.Progress.{Progress, reading, stopped, halted, is_next, BadNext, Halts, at_fault, at_bad_set, Moves, reads, stops, stays, Passes}
use Rattle.g4_cursor.specs.Sets.{BeginsBad, HasNoBad}
use Rattle.g4_cursor.specs.Taken.{IsTaken, Advances}
use Rattle.g4_cursor.specs.declared.cursor.Taken.{Taken}
use Rattle.g4_cursor.proofs.Coming.{comes_two, comes_left, comes_right, comes_optional, comes_absent, comes_inside, comes_turn, comes_nowhere}

-- the expression has been read from these tokens on, and no more than those are left after it
abbrev pub After : Expression → List Spelled → List Spelled → Type 0
After x from other = (between : List Spelled) × (a : Tree x) × Reads a from between × (length other ≤ length between)

-- Reading one expression leads into another, and to bad sets in no other way, but after it: where reading the other stops,
-- reading the one does.
pub halts_in : {x y : Expression} {from between rest : List Spelled} (halt : Halt)
    → ((t : Terminal) (other : List Spelled) → Comes t x between other → Comes t y from other)
    → ((t : Terminal) (other : List Spelled) → Comes t y from other → BeginsBad t other
    → Comes t x between other ⊎ After x between other) → Halts halt x between rest → Halts halt y from rest
halts_in {x} {y} {from} {between} {rest} _ leads back (at_fault stop none) =
    at_fault (record { terminal = stop.terminal; comes = leads stop.terminal rest stop.comes; none = stop.none })
    (λ t other comes bad. good t other bad (back t other comes bad))
  where
    good : (t : Terminal) (other : List Spelled) → BeginsBad t other → Comes t x between other ⊎ After x between other → ⊥
    good t other bad (inl comes) = none t other comes bad
    good t other bad (inr later) = never_both between later.0 rest later.1 later.2 stop
halts_in {x} {y} {from} {between} {rest} _ leads back (at_bad_set found) =
    at_bad_set (record {
      terminal = found.terminal;
      comes = leads found.terminal rest found.comes;
      bad = found.bad;
      first = λ t other comes bad. after t other bad (back t other comes bad);
    })
  where
    after : (t : Terminal) (other : List Spelled) → BeginsBad t other → Comes t x between other ⊎ After x between other
        → length other ≤ length rest
    after t other bad (inl comes) = found.first t other comes bad
    after t other bad (inr later) = let ends = comes_read between later.0 rest later.1 later.2 found.comes in
        rw ends.is (omega (arith, ends.after, later.3))

-- what holds of the tree makes something else hold of it
pub so : {x : Expression} {P Q : Tree x → Type 0} {s t : Progress} → Moves P s t → ((tree : Tree x) → P tree → Q tree) → Moves Q s t
so (reads from to tree read good says) means = reads from to tree read good (means tree says)
so (stops from rest halt halts) means = stops from rest halt halts
so (stays halt rest) means = stays halt rest

-- of what was read nothing is kept
pub passed : {x : Expression} {P : Tree x → Type 0} {s t : Progress} → Moves P s t → Passes x s t
passed moves = so moves (λ tree says. tt)

-- there is no bad set in either of two
good_two : {x y : Expression} (from between : List Spelled) (a : Tree x) → Reads a from between → HasNoBad x from → HasNoBad y between
    → HasNoBad (x ▸ y) from
good_two {x} {y} from between a read good other_good =
    λ t rest comes bad. elim (comes_two from between rest a read comes)
    [ inl first ↦ good t rest first bad | inr second ↦ other_good t rest second bad ]

-- where reading stops in the second of two
halts_second : {x y : Expression} (from between rest : List Spelled) (halt : Halt) (a : Tree x) → Reads a from between
    → HasNoBad x from → Halts halt y between rest → Halts halt (x ▸ y) from rest
halts_second {x} {y} from between rest halt a read good halts =
    halts_in halt (λ t other comes. in_second from between other a read comes)
    (λ t other comes bad. elim (comes_two from between other a read comes)
    [ inl first ↦ absurd (good t other first bad) | inr second ↦ inl second ]) halts

-- the first of two is not after itself, and the second is
first_or_after : {t : Terminal} {x y : Expression} (from other : List Spelled) → Comes t (x ▸ y) from other
    → Comes t x from other ⊎ After x from other
first_or_after from other (in_first _ _ comes) = inl comes
first_or_after from other (in_second _ between _ a read comes) = inr (between, a, read, comes_no_longer comes)

-- where reading stops in the first of two
halts_first : {x y : Expression} (from rest : List Spelled) (halt : Halt) → Halts halt x from rest → Halts halt (x ▸ y) from rest
halts_first from rest halt halts = halts_in halt (λ t other comes. in_first from other comes)
    (λ t other comes bad. first_or_after from other comes) halts

-- two, one after the other
pub two : {x y : Expression} {P : Tree x → Type 0} {Q : Tree y → Type 0} {R : Tree (x ▸ y) → Type 0} {s t u : Progress} → Moves P s t
    → Moves Q t u → ((a : Tree x) (b : Tree y) → P a → Q b → R (both a b)) → Moves R s u
two (reads from between a first good p) (reads _ to b second other_good q) means =
    reads from to (both a b) (between, first, second) (good_two from between a first good other_good) (means a b p q)
two (reads from between a first good p) (stops _ rest halt halts) means =
    stops from rest halt (halts_second from between rest halt a first good halts)
two (stops from rest halt halts) (stays _ _) means = stops from rest halt (halts_first from rest halt halts)
two (stays halt rest) (stays _ _) means = stays halt rest

-- one after another, of whose tree this holds with any tree of the first
pub upon : {x y : Expression} {P : Tree x → Type 0} {R : Tree (x ▸ y) → Type 0} {s t u : Progress} → Moves P s t
    → Moves (λ b. (a : Tree x) → P a → R (both a b)) t u → Moves R s u
upon first then = two first then (λ a b p q. q a p)

-- one after another, of which nothing is kept
pub after : {x y : Expression} {P : Tree x → Type 0} {s t u : Progress} → Moves P s t → Passes y t u → Passes (x ▸ y) s u
after first then = two first then (λ a b p q. tt)

-- the first alternative
pub first : {x y : Expression} {R : Tree (x ∣ y) → Type 0} {s t : Progress} → is_next x s ≡ true → Moves (λ a. R (left a)) s t → Moves R s t
unfolding is_next
first is (reads from to a read good says) = reads from to (left a) (is, read)
    (λ t other comes bad. good t other (comes_left from other is comes) bad) says
first is (stops from rest halt halts) = stops from rest halt
    (halts_in halt (λ t other comes. in_left from other is comes) (λ t other comes bad. inl (comes_left from other is comes)) halts)
first is (stays halt rest) = stays halt rest

-- the second alternative
pub second : {x y : Expression} {R : Tree (x ∣ y) → Type 0} {s t : Progress} → is_next x s ≡ false → Moves (λ b. R (right b)) s t
    → Moves R s t
unfolding is_next
second none (reads from to b read good says) =
    reads from to (right b) (none, read) (λ t other comes bad. good t other (comes_right from other none comes) bad) says
second none (stops from rest halt halts) = stops from rest halt
    (halts_in halt (λ t other comes. in_right from other none comes) (λ t other comes bad. inl (comes_right from other none comes)) halts)
second none (stays halt rest) = stays halt rest

-- what is optional is left out
pub left_out : {x : Expression} {R : Tree (optional x) → Type 0} (s : Progress) → is_next x s ≡ false → R absent → Moves R s s
unfolding is_next
left_out (reading from) none says = reads from from absent (none, refl) (λ t other comes bad. comes_absent from other none comes) says
left_out (stopped halt rest) none says = stays halt rest

-- what is optional is there
pub there : {x : Expression} {R : Tree (optional x) → Type 0} {s t : Progress} → is_next x s ≡ true → Moves (λ a. R (present a)) s t
    → Moves R s t
unfolding is_next
there is (reads from to a read good says) = reads from to (present a) (is, read)
    (λ t other comes bad. good t other (comes_optional from other comes) bad) says
there is (stops from rest halt halts) = stops from rest halt
    (halts_in halt (λ t other comes. in_optional from other is comes) (λ t other comes bad. inl (comes_optional from other comes)) halts)
there is (stays halt rest) = stays halt rest

-- a part of its own kind
pub inside : {n : Nonterminal} {R : Tree (part n) → Type 0} {s t : Progress} → Moves (λ a. R (inner a)) s t → Moves R s t
inside (reads from to a read good says) = reads from to (inner a) read
    (λ t other comes bad. good t other (comes_inside from other comes) bad) says
inside (stops from rest halt halts) = stops from rest halt
    (halts_in halt (λ t other comes. in_part from other comes) (λ t other comes bad. inl (comes_inside from other comes)) halts)
inside (stays halt rest) = stays halt rest

-- no turn of what is repeated is left
pub no_turn : {x : Expression} {R : Tree (repeated x) → Type 0} (s : Progress) → is_next x s ≡ false → R end → Moves R s s
unfolding is_next
no_turn (reading from) none says = reads from from end (none, refl) (λ t other comes bad. comes_nowhere from other none comes) says
no_turn (stopped halt rest) none says = stays halt rest

-- a turn is not after itself, and the later ones are
turn_or_after : {t : Terminal} {x : Expression} (from other : List Spelled) → Comes t (repeated x) from other
    → Comes t x from other ⊎ After x from other
turn_or_after from other (in_turn _ _ _ comes) = inl comes
turn_or_after from other (in_later_turn _ between _ a _ read comes) = inr (between, a, read, comes_no_longer comes)

-- one turn, and the later ones
pub one_more : {x : Expression} {P : Tree x → Type 0} {Q R : Tree (repeated x) → Type 0} {s t u : Progress} → is_next x s ≡ true
    → Moves P s t → Moves Q t u → ((a : Tree x) (rest : Tree (repeated x)) → P a → Q rest → R (more a rest)) → Moves R s u
unfolding is_next
one_more is (reads from between a first good p) (reads _ to rest second later_good q) means =
    reads from to (more a rest) (is, between, first, second)
    (λ t other comes bad. elim (comes_turn from between other a first comes)
    [ inl turn ↦ good t other turn bad | inr later ↦ later_good t other later bad ]) (means a rest p q)
one_more is (reads from between a first good p) (stops _ rest halt halts) means =
    stops from rest halt (halts_in halt (λ t other comes. in_later_turn from between other a is first comes)
    (λ t other comes bad. elim (comes_turn from between other a first comes)
    [ inl turn ↦ absurd (good t other turn bad) | inr later ↦ inl later ]) halts)
one_more is (stops from rest halt halts) (stays _ _) means =
    stops from rest halt (halts_in halt (λ t other comes. in_turn from other is comes)
    (λ t other comes bad. turn_or_after from other comes) halts)
one_more is (stays halt rest) (stays _ _) means = stays halt rest

-- there is no bad set in a terminal but one that begins there
pub good_terminal : (t : Terminal) (from : List Spelled) → (BeginsBad t from → ⊥) → HasNoBad (one t) from
good_terminal t from good u other (here _) bad = good bad

-- no set begins with any token of a kind
pub never_kind : (k : Kind) (s : Progress) → BadNext (of_kind k) s → ⊥
never_kind k (reading rest) bad = bad
never_kind k (stopped halt rest) bad = bad

-- no set begins with a keyword
pub never_word : (spelling : List ℕ) (s : Progress) → BadNext (keyword spelling) s → ⊥
never_word spelling (reading rest) bad = bad
never_word spelling (stopped halt rest) bad = bad

-- no set begins with a name
pub never_name : (s : Progress) → BadNext a_name s → ⊥
never_name (reading rest) bad = bad
never_name (stopped halt rest) bad = bad

-- reading a terminal comes to this one alone, where it begins
only_there : {t v : Terminal} {from rest : List Spelled} → Comes v (one t) from rest → (v ≡ t) × (from ≡ rest)
only_there (here _) = (refl, refl)

-- a token that the terminal asks for is taken
pub takes : {t : Terminal} {taken : Taken} (s u : Progress) → is_next (one t) s ≡ true → (BadNext t s → ⊥) → Advances s taken u
    → Moves {x = one t} (IsTaken taken) s u
unfolding is_next
takes (reading []) u is good moved = absurd (true≢false (sym is))
takes {t} (reading (token ∷ rest)) u is good moved =
    rw moved.1 (reads (token ∷ rest) rest (leaf token) (refl, is) (good_terminal t (token ∷ rest) good) moved.0)
takes (stopped halt rest) u is good moved = absurd (true≢false (sym is))

-- reading stops where another token is next
pub stops_at : {t : Terminal} {P : Tree (one t) → Type 0} (s u : Progress) → is_next (one t) s ≡ false → (BadNext t s → ⊥)
    → u ≡ halted Fault s → Moves P s u
unfolding is_next
stops_at {t} (reading rest) u none good is =
    rw is (stops rest rest Fault (at_fault (record { terminal = t; comes = here rest; none = none }) (good_terminal t rest good)))
stops_at (stopped halt rest) u none good is = rw is (stays halt rest)

-- reading stops where a bad set is next
pub refuses : {t : Terminal} {P : Tree (one t) → Type 0} (s u : Progress) → BadNext t s → u ≡ halted BadSet s → Moves P s u
refuses {t} (reading rest) u bad is = rw is (stops rest rest BadSet
    (at_bad_set (record { terminal = t; comes = here rest; bad = bad; first = λ v other comes worse. no_later v other comes })))
  where
    no_later : (v : Terminal) (other : List Spelled) → Comes v (one t) rest other → length other ≤ length rest
    no_later v other comes = comes_no_longer comes
refuses (stopped halt rest) u bad is = absurd bad

-- tokens that are none of a kind are none of a terminal that asks for the same kind
not_of_kind : (k : Kind) (t : Terminal) (tokens : List Spelled) → ((token : Spelled) → fits t token ≡ is_kind k token.kind)
    → begins_there (sign k) tokens ≡ false → begins_there (one t) tokens ≡ false
not_of_kind k t [] same none = refl
not_of_kind k t (token ∷ _) same none = same token ∙ none

-- where a terminal that asks for the same kind was taken, or not, this one was
pub taken_as : {k : Kind} {t : Terminal} {taken : Taken} (s u : Progress) → ((token : Spelled) → fits t token ≡ is_kind k token.kind)
    → (BadNext t s → ⊥) → Moves {x = sign k} (IsTaken taken) s u → Moves {x = one t} (IsTaken taken) s u
taken_as {k} {t} s u same good (reads from to (leaf token) read none says) =
    reads from to (leaf token) (read.0, same token ∙ read.1) (good_terminal t from good) says
taken_as {k} {t} s u same good (stops from rest _ (at_fault stop none)) =
    let there = only_there stop.comes in
    let no_token = subst (λ (v : Terminal). begins_there (one v) rest ≡ false) there.0 stop.none in
    stops from rest Fault (at_fault (record {
      terminal = t;
      comes = subst (λ (l : List Spelled). Comes t (one t) from l) there.1 (here from);
      none = not_of_kind k t rest same no_token;
    })
    (good_terminal t from good))
taken_as {k} {t} s u same good (stops from rest _ (at_bad_set found)) =
    absurd (subst (λ (v : Terminal). BeginsBad v rest) (only_there found.comes).0 found.bad)
taken_as s u same good (stays halt rest) = stays halt rest

-- a terminal is next where one that asks for the same kind is
pub asks_same : (k : Kind) (t : Terminal) (s : Progress) → ((token : Spelled) → fits t token ≡ is_kind k token.kind)
    → is_next (one t) s ≡ is_next (sign k) s
unfolding is_next
asks_same k t (reading []) same = refl
asks_same k t (reading (token ∷ _)) same = same token
asks_same k t (stopped halt rest) same = refl

-- where its first token is not next, an expression stops
pub ends : {t : Terminal} {y : Expression} {P : Tree (one t) → Type 0} {R : Tree (one t ▸ y) → Type 0} {s u : Progress}
    → is_next (one t) s ≡ false → Moves P s u → Moves R s u
unfolding is_next
ends {t} none (reads from to (leaf token) read good says) = absurd (apart (begins_there (one t) from) (rw read.0 read.1) none)
ends none (stops from rest halt halts) = stops from rest halt (halts_first from rest halt halts)
ends none (stays halt rest) = stays halt rest

-- what follows one that cannot be empty changes nothing of which token is next
pub led : (x y : Expression) (s : Progress) → can_be_empty x ≡ false → is_next (x ▸ y) s ≡ is_next x s
unfolding is_next
led x y (reading []) never = refl
led x y (reading (token ∷ _)) never = alone (begins x token) (begins y token) (can_be_empty x) never
  where
    alone : (p q empty : Bool) → empty ≡ false → (p || (empty && q)) ≡ p
    alone true q empty never = refl
    alone false q true never = absurd (true≢false never)
    alone false q false never = refl
led x y (stopped halt rest) never = refl

-- a choice can begin where one or the other can
pub choice_next : (x y : Expression) (s : Progress) → is_next (x ∣ y) s ≡ (is_next x s || is_next y s)
unfolding is_next
choice_next x y (reading []) = refl
choice_next x y (reading (token ∷ _)) = refl
choice_next x y (stopped halt rest) = refl

-- where the first can be empty, the second can begin too
pub skip_next : (x y : Expression) (s : Progress) → can_be_empty x ≡ true → is_next (x ▸ y) s ≡ (is_next x s || is_next y s)
unfolding is_next
skip_next x y (reading []) can = refl
skip_next x y (reading (token ∷ _)) can = rw can refl
skip_next x y (stopped halt rest) can = refl

-- what is optional can begin as it does
pub optional_next : (x : Expression) (s : Progress) → is_next (optional x) s ≡ is_next x s
unfolding is_next
optional_next x (reading []) = refl
optional_next x (reading (token ∷ _)) = refl
optional_next x (stopped halt rest) = refl

-- what is repeated can begin as it does
pub repeated_next : (x : Expression) (s : Progress) → is_next (repeated x) s ≡ is_next x s
unfolding is_next
repeated_next x (reading []) = refl
repeated_next x (reading (token ∷ _)) = refl
repeated_next x (stopped halt rest) = refl

-- a part can begin as its production does
pub part_next : (n : Nonterminal) (s : Progress) → is_next (part n) s ≡ is_next (production n) s
unfolding is_next
part_next n (reading []) = refl
part_next n (reading (token ∷ _)) = begins_part n token
part_next n (stopped halt rest) = refl

-- a choice can begin where the first can
pub or_here : (x y : Expression) (s : Progress) → is_next x s ≡ true → is_next (x ∣ y) s ≡ true
or_here x y s is = choice_next x y s ∙ or_first_true _ _ is

-- a choice can begin where the second can
pub or_there : (x y : Expression) (s : Progress) → is_next y s ≡ true → is_next (x ∣ y) s ≡ true
or_there x y s is = choice_next x y s ∙ or_second_true _ _ is

-- a choice cannot begin where neither can
pub or_nowhere : (x y : Expression) (s : Progress) → is_next x s ≡ false → is_next y s ≡ false → is_next (x ∣ y) s ≡ false
or_nowhere x y s none no_other = choice_next x y s ∙ or_false _ _ none no_other

-- what tells of each of two whether it can begin tells of the choice
pub either : (x y : Expression) (s : Progress) {a b : Bool} → a ≡ is_next x s → b ≡ is_next y s → (a || b) ≡ is_next (x ∣ y) s
either x y s is other = rw (is, other) (sym (choice_next x y s))

-- one or another or a third
pub or_assoc : (p q r : Bool) → ((p || q) || r) ≡ (p || (q || r))
or_assoc true q r = refl
or_assoc false q r = refl
