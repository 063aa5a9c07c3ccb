-- Some tokens are read in one way, and are not both read and stopped at.
use Rattle.std.proofs.Common.{◌≡◌, ◌≤◌, List, ◌∷◌, length, length-append, true, false, refl, sym, ap, ap₂, subst, ◌∙◌, arith}
use Rattle.g4_syntax.specs.Notation.{Spelled, Terminal, fits, Expression, one}
use Rattle.g4_syntax.specs.Trees.{Tree, leaf, both, left, right, absent, present, end, more, inner, begins_there, Reads, Comes, here, in_first, in_second, in_left, in_right, in_optional, in_turn, in_later_turn, in_part, Stops}
use Rattle.g4_syntax.proofs.Texts.{text, reads_text, read_before, comes_after}
use Rattle.g4_syntax.proofs.Truths.{apart}

-- the same lists have the same first token
same_first : (t s : Spelled) (ts ss : List Spelled) → t ∷ ts ≡ s ∷ ss → t ≡ s
same_first t s ts ss is = cc

-- the same lists have the same tokens after the first
same_rest : (t s : Spelled) (ts ss : List Spelled) → t ∷ ts ≡ s ∷ ss → ts ≡ ss
same_rest t s ts ss is = cc

-- from some tokens on an expression is read in one way
pub one_reading : {x : Expression} (a b : Tree x) (from to other : List Spelled) → Reads a from to → Reads b from other
    → (a ≡ b) × (to ≡ other)
one_reading (leaf t) (leaf s) from to other first second =
    let same : t ∷ to ≡ s ∷ other = sym first.0 ∙ second.0 in
    (ap leaf (same_first t s to other same), same_rest t s to other same)
one_reading (both a b) (both c d) from to other first second =
    let before = one_reading a c from first.0 second.0 first.1 second.1 in
    let after = one_reading b d second.0 to other (subst (λ (l : List Spelled). Reads b l to) before.1 first.2) second.2 in
    (ap₂ both before.0 after.0, after.1)
one_reading (left a) (left b) from to other first second =
    let inside = one_reading a b from to other first.1 second.1 in
    (ap left inside.0, inside.1)
one_reading (left {x} a) (right b) from to other first second = absurd (apart (begins_there x from) first.0 second.0)
one_reading (right {x} a) (left b) from to other first second = absurd (apart (begins_there x from) second.0 first.0)
one_reading (right a) (right b) from to other first second =
    let inside = one_reading a b from to other first.1 second.1 in
    (ap right inside.0, inside.1)
one_reading absent absent from to other first second = (refl, sym first.1 ∙ second.1)
one_reading (absent {x}) (present b) from to other first second = absurd (apart (begins_there x from) second.0 first.0)
one_reading (present {x} a) absent from to other first second = absurd (apart (begins_there x from) first.0 second.0)
one_reading (present a) (present b) from to other first second =
    let inside = one_reading a b from to other first.1 second.1 in
    (ap present inside.0, inside.1)
one_reading end end from to other first second = (refl, sym first.1 ∙ second.1)
one_reading (end {x}) (more b bs) from to other first second = absurd (apart (begins_there x from) second.0 first.0)
one_reading (more {x} a as_before) end from to other first second = absurd (apart (begins_there x from) first.0 second.0)
one_reading (more a tail) (more b rest) from to other first second =
    let before = one_reading a b from first.1 second.1 first.2 second.2 in
    let after = one_reading tail rest second.1 to other (subst (λ (l : List Spelled). Reads tail l to) before.1 first.3) second.3 in
    (ap₂ more before.0 after.0, after.1)
one_reading (inner a) (inner b) from to other first second =
    let inside = one_reading a b from to other first second in
    (ap inner inside.0, inside.1)

-- a token that is the terminal is not one where reading it stops
unfit : (t : Terminal) (from to : List Spelled) (token : Spelled) → from ≡ token ∷ to → fits t token ≡ true
    → begins_there (one t) from ≡ false → ⊥
unfit t from to token is fit stops = apart (fits t token) fit (subst (λ (l : List Spelled). begins_there (one t) l ≡ false) is stops)

-- a token that the terminal is comes first of these, and at most the others after it are left
pub record Stands (t : Terminal) (rest to : List Spelled) : Type 0 where
  pub token : Spelled
  pub others : List Spelled
  pub is : rest ≡ token ∷ others
  pub fit : fits t token ≡ true
  pub after : length to ≤ length others

-- so where fewer are left
with_fewer : {t : Terminal} (rest between to : List Spelled) → Stands t rest between → length to ≤ length between → Stands t rest to
with_fewer rest between to stands fewer = record
    { token = stands.token; others = stands.others; is = stands.is; fit = stands.fit; after = omega (arith, stands.after, fewer) }

-- what is read leaves no more tokens
pub no_longer : {x : Expression} (a : Tree x) (from to : List Spelled) → Reads a from to → length to ≤ length from
no_longer a from to reads = omega (arith, ap length (reads_text a from to reads), length-append (text a) to)

-- a terminal to which reading comes is at a token of what is read
pub comes_read : {t : Terminal} {x : Expression} (from to rest : List Spelled) (a : Tree x) → Reads a from to → Comes t x from rest
    → Stands t rest to
comes_read from to rest (leaf {t} token) reads (here _) =
    record { token = token; others = to; is = reads.0; fit = reads.1; after = omega arith }
comes_read from to rest (both a b) reads (in_first _ _ comes) =
    with_fewer rest reads.0 to (comes_read from reads.0 rest a reads.1 comes) (no_longer b reads.0 to reads.2)
comes_read from to rest (both a b) reads (in_second _ between _ other read comes) =
    let same = one_reading other a from between reads.0 read reads.1 in
    comes_read between to rest b (subst (λ (l : List Spelled). Reads b l to) (sym same.1) reads.2) comes
comes_read from to rest (left a) reads (in_left _ _ _ comes) = comes_read from to rest a reads.1 comes
comes_read from to rest (right {x} a) reads (in_left _ _ begun _) = absurd (apart (begins_there x from) begun reads.0)
comes_read from to rest (left {x} a) reads (in_right _ _ begun _) = absurd (apart (begins_there x from) reads.0 begun)
comes_read from to rest (right a) reads (in_right _ _ _ comes) = comes_read from to rest a reads.1 comes
comes_read from to rest (absent {x}) reads (in_optional _ _ begun _) = absurd (apart (begins_there x from) begun reads.0)
comes_read from to rest (present a) reads (in_optional _ _ _ comes) = comes_read from to rest a reads.1 comes
comes_read from to rest (end {x}) reads (in_turn _ _ begun _) = absurd (apart (begins_there x from) begun reads.0)
comes_read from to rest (more a tail) reads (in_turn _ _ _ comes) =
    with_fewer rest reads.1 to (comes_read from reads.1 rest a reads.2 comes) (no_longer tail reads.1 to reads.3)
comes_read from to rest (end {x}) reads (in_later_turn _ _ _ _ begun _ _) = absurd (apart (begins_there x from) begun reads.0)
comes_read from to rest (more a tail) reads (in_later_turn _ between _ other _ read comes) =
    let same = one_reading other a from between reads.1 read reads.2 in
    comes_read between to rest tail (subst (λ (l : List Spelled). Reads tail l to) (sym same.1) reads.3) comes
comes_read from to rest (inner a) reads (in_part _ _ comes) = comes_read from to rest a reads comes

-- no more tokens are left at a terminal to which reading comes
pub comes_no_longer : {t : Terminal} {x : Expression} {from rest : List Spelled} → Comes t x from rest → length rest ≤ length from
comes_no_longer {from = from} {rest = rest} comes = omega (arith, ap length (comes_after comes), length-append (read_before comes) rest)

-- what is read does not stop
pub never_both : {x : Expression} (from to rest : List Spelled) (a : Tree x) → Reads a from to → Stops x from rest → ⊥
never_both from to rest a reads stop =
    let stands = comes_read from to rest a reads stop.comes in
    unfit stop.terminal rest stands.others stands.token stands.is stands.fit stop.none
