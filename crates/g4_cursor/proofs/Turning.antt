-- What repeats, a turn at a time.
use Rattle.std.proofs.Common.{◌≡◌, ℕ, suc, ◌<◌, ◌≤◌, List, [], ◌∷◌, ◌++◌, length, true, false, refl, sym, ◌∙◌, ap, arith, append_assoc, append-nil, length-append, true≢false}
use Rattle.g4_syntax.specs.Notation.{Spelled, Terminal, Expression, one, ◌▸◌, repeated}
use Rattle.g4_syntax.specs.Trees.{Tree, both, end, more}
use Rattle.g4_syntax.proofs.Texts.{text, reads_text, nothing_read}
use Rattle.g4_syntax.proofs.Truths.{apart}
use Rattle.g4_cursor.specs.Progress.{Progress, reading, stopped, is_next, Moves, reads, stops, stays, Passes}
use Rattle.g4_cursor.proofs.Moving.{two, so, led, one_more, no_turn}

-- how much is left to read
abbrev pub left : Progress → ℕ
left (reading rest) = suc (length rest)
left (stopped halt rest) = 0

-- what is read leaves no more tokens
pub no_more : {x : Expression} {P : Tree x → Type 0} {s t : Progress} → Moves P s t → left t ≤ left s
no_more (reads from to tree read good says) = within (text tree) from to (reads_text tree from to read)
  where
    within : (w from to : List Spelled) → from ≡ w ++ to → suc (length to) ≤ suc (length from)
    within w from to is = rw is (omega (arith, length-append w to))
no_more (stops from rest halt halts) = omega arith
no_more (stays halt rest) = omega arith

-- A part of an expression has been read, and an expression like the whole is left. With the tree of the rest, the whole has a
-- tree, which says what the part and the rest say.
pub record Turned {x : Expression} {V : Type 0} (Whole With : Tree x → V) (s t : Progress) : Type 0 where
  pub less : left t ≤ left s
  pub whole : (value : V) (u : Progress) → Moves (λ rest. value ≡ With rest) t u → Moves (λ tree. value ≡ Whole tree) s u

-- nothing has been read at the beginning
pub start : {x : Expression} {V : Type 0} {Whole : Tree x → V} {s : Progress} → Turned Whole Whole s s
start = record { less = omega arith; whole = λ value u moves. moves }

-- nothing has been read at the beginning, where as much has been said
pub begun : {x : Expression} {V : Type 0} {Whole With : Tree x → V} {s : Progress} → ((tree : Tree x) → With tree ≡ Whole tree)
    → Turned Whole With s s
begun same = record { less = omega arith; whole = λ value u moves. so moves (λ tree says. says ∙ same tree) }

-- one turn more
pub turn : {x : Expression} {V : Type 0} {P : Tree x → Type 0} {Whole With Then : Tree (repeated x) → V} {s t u : Progress}
    → Turned Whole With s t → is_next x t ≡ true → Moves P t u
    → ((a : Tree x) (rest : Tree (repeated x)) → P a → With (more a rest) ≡ Then rest) → Turned Whole Then s u
turn turned is moves same = record {
  less = omega (arith, turned.less, no_more moves);
  whole = λ value v rest. turned.whole value v (one_more is moves rest (λ a later p e. e ∙ sym (same a later p)));
}

-- the turns end
pub end_turns : {x : Expression} {V : Type 0} {Whole With : Tree (repeated x) → V} {s t : Progress} {value : V}
    → Turned Whole With s t → is_next x t ≡ false → value ≡ With end → Moves (λ tree. value ≡ Whole tree) s t
end_turns {t = t} {value = value} turned none same = turned.whole value t (no_turn t none same)

-- turns of which these items have been listed, after those before
pub record Listed {x : Expression} {T : Type 0} (items : Tree (repeated x) → List T) (before : List T) (s : Progress)
    (listed : List T) (t : Progress) : Type 0 where
  pub turned : Turned (λ tree. before ++ items tree) (λ rest. listed ++ items rest) s t

-- nothing is listed at the beginning but what was before
pub start_list : {x : Expression} {T : Type 0} {items : Tree (repeated x) → List T} {before : List T} {s : Progress}
    → Listed items before s before s
start_list = record { turned = start }

-- one item more
pub one_item : {T : Type 0} (listed longer later items : List T) (item : T) → items ≡ item ∷ later → longer ≡ listed ++ item ∷ []
    → listed ++ items ≡ longer ++ later
one_item listed longer later items item is more_is = rw (is, more_is) (sym (append_assoc listed (item ∷ []) later))

-- one turn more, which adds an item
pub list_turn : {x : Expression} {T : Type 0} {P : Tree x → Type 0} (items : Tree (repeated x) → List T)
    {before listed longer : List T} {item : T} {s t u : Progress} → Listed items before s listed t → is_next x t ≡ true → Moves P t u
    → ((a : Tree x) (rest : Tree (repeated x)) → P a → items (more a rest) ≡ item ∷ items rest) → longer ≡ listed ++ item ∷ []
    → Listed items before s longer u
list_turn items {before} {listed} {longer} {item} turned is moves same more_is =
    record {
      turned = turn turned.turned is moves
          (λ a rest p. one_item listed longer (items rest) (items (more a rest)) item (same a rest p) more_is);
    }

-- one turn more after a sign
pub sign_over : {t : Terminal} {y : Expression} {V : Type 0} {P : Tree (one t) → Type 0} {Q : Tree y → Type 0}
    {Whole With Then : Tree (repeated (one t ▸ y)) → V} {s u v w : Progress} → Turned Whole With s u → is_next (one t) u ≡ true
    → Moves P u v → Moves Q v w → ((a : Tree (one t)) (b : Tree y) (rest : Tree (repeated (one t ▸ y))) → Q b
    → With (more (both a b) rest) ≡ Then rest) → Turned Whole Then s w
sign_over {t} {y} {V} {P} {Q} {Whole} {With} {Then} {s} {u} turned is first second same =
    turn turned (led (one t) y u refl ∙ is) (two {R = Each} first second (λ a b p q. q)) whole
  where
    Each : Tree (one t ▸ y) → Type 0
    Each (both a b) = Q b

    whole : (a : Tree (one t ▸ y)) (rest : Tree (repeated (one t ▸ y))) → Each a → With (more a rest) ≡ Then rest
    whole (both a b) rest q = same a b rest q

-- one turn more after a sign, which adds an item
pub sign_turn : {t : Terminal} {y : Expression} {T : Type 0} {P : Tree (one t) → Type 0} {Q : Tree y → Type 0}
    (items : Tree (repeated (one t ▸ y)) → List T) {before listed longer : List T} {item : T} {s u v w : Progress}
    → Listed items before s listed u → is_next (one t) u ≡ true → Moves P u v → Moves Q v w
    → ((a : Tree (one t)) (b : Tree y) (rest : Tree (repeated (one t ▸ y))) → Q b → items (more (both a b) rest) ≡ item ∷ items rest)
    → longer ≡ listed ++ item ∷ [] → Listed items before s longer w
sign_turn items {before} {listed} {longer} {item} turned is first second same more_is =
    record {
      turned = sign_over turned.turned is first second
          (λ a b rest q. one_item listed longer (items rest) (items (more (both a b) rest)) item (same a b rest q) more_is);
    }

-- the turns end, and the items are all that are listed
pub list_end : {x : Expression} {T : Type 0} (items : Tree (repeated x) → List T) {before listed all : List T} {s t : Progress}
    → Listed items before s listed t → is_next x t ≡ false → items end ≡ [] → before ≡ [] → all ≡ listed
    → Moves (λ tree. all ≡ items tree) s t
list_end items {before} {listed} {all} turned none empty begun is =
    so (end_turns {value = listed} turned.turned none (rw empty (sym (append-nil listed))))
    (λ tree says. is ∙ says ∙ ap (λ (l : List _). l ++ items tree) begun)

-- what is read where it begins leaves fewer tokens
pub fewer : {x : Expression} {P : Tree x → Type 0} {s t : Progress} → is_next x s ≡ true → Moves P s t → left t < left s
unfolding is_next
fewer is (reads from to tree read good says) =
    some (text tree) from to (reads_text tree from to read) (λ none. apart _ is (nothing_read tree from to read none).1)
  where
    some : (w from to : List Spelled) → from ≡ w ++ to → (w ≡ [] → ⊥) → suc (length to) < suc (length from)
    some [] from to is not_empty = absurd (not_empty refl)
    some (t ∷ ts) from to is not_empty = rw is (omega (arith, length-append ts to))
fewer is (stops from rest halt halts) = omega arith
fewer is (stays halt rest) = absurd (true≢false (sym is))

-- what is read after a sign that is next leaves fewer tokens
pub fewer_then : {t : Terminal} {y : Expression} {P : Tree (one t) → Type 0} {Q : Tree y → Type 0} {s u v : Progress}
    → is_next (one t) s ≡ true → Moves P s u → Moves Q u v → left v < left s
fewer_then {t} {y} {s = s} is first second = fewer (led (one t) y s refl ∙ is) (two {R = λ tree. Unit {0}} first second (λ a b p q. tt))

-- the turns end where no sign is next, and the items are those that are listed, of which the first was read before
pub sign_end : {t : Terminal} {x y : Expression} {T : Type 0} {P : Tree x → Type 0} {Whole : Tree (x ▸ repeated (one t ▸ y)) → List T}
    (items : Tree (repeated (one t ▸ y)) → List T) {before listed all : List T} {item : T} {r s u : Progress} → Moves P r s
    → Listed items before s listed u → is_next (one t) u ≡ false → items end ≡ [] → before ≡ item ∷ [] → all ≡ listed
    → ((a : Tree x) (b : Tree (repeated (one t ▸ y))) → P a → Whole (both a b) ≡ item ∷ items b) → Moves (λ tree. all ≡ Whole tree) r u
sign_end {t} {x} {y} items {before} {listed} {all} {item} {u = u} first turned none empty begun is same =
    two first (end_turns {value = listed} turned.turned (led (one t) y u refl ∙ none) (rw empty (sym (append-nil listed))))
    (λ a b p says. is ∙ says ∙ ap (λ (l : List _). l ++ items b) begun ∙ sym (same a b p))

-- turns of which nothing is kept
pub record Passing (x : Expression) (s t : Progress) : Type 0 where
  pub turned : Turned {x = repeated x} {V = Unit {0}} (λ tree. tt) (λ rest. tt) s t

-- nothing has been passed at the beginning
pub pass_start : {x : Expression} {s : Progress} → Passing x s s
pass_start = record { turned = start }

-- one turn more, of which nothing is kept
pub pass_turn : {x : Expression} {P : Tree x → Type 0} {s t u : Progress} → Passing x s t → is_next x t ≡ true → Moves P t u → Passing x s u
pass_turn passing is moves = record { turned = turn passing.turned is moves (λ a rest p. refl) }

-- the turns end, of which nothing is kept
pub pass_end : {x : Expression} {s t : Progress} → Passing x s t → is_next x t ≡ false → Passes (repeated x) s t
pass_end passing none = so (end_turns {value = tt} passing.turned none refl) (λ tree is. tt)
