-- What is derived with plain names is read.
use Rattle.std.proofs.Common.{◌≡◌, ◌⊎◌, List, ◌∷◌, true, false, not, refl, sym, ap, subst, ◌∙◌, inl, inr}
use Rattle.std.proofs.lemmas.Bool.{and_parts}
use Rattle.g4_syntax.specs.Notation.{Spelled, Terminal, Expression, ◌▸◌, ◌∣◌, optional, repeated, part}
use Rattle.g4_syntax.specs.Productions.{production}
use Rattle.g4_syntax.specs.Trees.{Tree, leaf, both, left, right, absent, present, end, more, inner, can_be_empty, begins, begins_there, Reads}
use Rattle.g4_syntax.proofs.Truths.{apart, and_true, and_first_true, and_second_true, or_first_true, or_second_true, or_not_true, not_true}
use Rattle.g4_syntax.proofs.Texts.{never_empty}
use Rattle.g4_syntax.proofs.Extends.{extends_there, covers_second, covers_first, covers_left, covers_right, bars_left, covers_optional, bars_optional, covers_repeated, bars_repeated, covers_part}
use Rattle.g4_syntax.proofs.Local.{Allowed, allowed_of, barred}
use Rattle.g4_syntax.proofs.Firsts.{begins_part}
use Rattle.g4_plain_syntax.specs.Plain.{Derives, NamesArePlain}
use Rattle.g4_plain_syntax.proofs.Apart.{excludes, not_both}
use Rattle.g4_plain_syntax.proofs.Ends.{Test, Fails, firsts, firsts_part, lasts, not_begun, not_extended}
use Rattle.g4_plain_syntax.proofs.Decided.{begin_apart, ends_before, is_decided, part_decided}

-- the next token is one with which the expression begins, and no terminal that this excludes
pub record Starts (x : Expression) (from : List Spelled) : Type 0 where
  pub token : Spelled
  pub rest : List Spelled
  pub is_next : from ≡ token ∷ rest
  pub terminal : Terminal
  pub fails : Fails (λ t. excludes t terminal) token
  pub first : (test : Test) → firsts test x ≡ true → test terminal ≡ true
  pub begun : begins x token ≡ true

-- a tree of the expression has no token, or the next token is one with which the expression begins
abbrev pub Started : Expression → List Spelled → List Spelled → Type 0
Started x from to = ((can_be_empty x ≡ true) × (from ≡ to)) ⊎ Starts x from

-- what begins an expression begins one that begins so too; where a tree of the first has no token, it must be known of the other
started_as : {x y : Expression} {from between to : List Spelled} → ((test : Test) → firsts test y ≡ true → firsts test x ≡ true)
    → ((token : Spelled) → begins x token ≡ true → begins y token ≡ true)
    → (can_be_empty x ≡ true → from ≡ between → Started y from to) → Started x from between → Started y from to
started_as fewer more_begin otherwise (inl none) = otherwise none.0 none.1
started_as fewer more_begin otherwise (inr starts) =
    inr (record {
      token = starts.token;
      rest = starts.rest;
      is_next = starts.is_next;
      terminal = starts.terminal;
      fails = starts.fails;
      first = λ test pass. starts.first test (fewer test pass);
      begun = more_begin starts.token starts.begun;
    })

-- where the first of two has no token, they begin as the second does
second_started : (x y : Expression) (from between to : List Spelled) → can_be_empty x ≡ true → from ≡ between → Started y between to
    → Started (x ▸ y) from to
second_started x y from between to none same second =
    subst (λ (l : List Spelled). Started (x ▸ y) l to) (sym same)
    (started_as (λ test pass. or_not_true (can_be_empty x) (firsts test y) none (and_second_true (firsts test x) _ pass))
    (λ token so. or_second_true (begins x token) _ (and_true (can_be_empty x) (begins y token) none so))
    (λ can is. inl (and_true (can_be_empty x) (can_be_empty y) none can, is)) second)

-- a tree with plain names has no token, or begins with one with which the expression begins
started : {x : Expression} (a : Tree x) (from to : List Spelled) → NamesArePlain a → Derives a from to → Started x from to
started (leaf {t} token) from to plain derives =
    inr (record {
      token = token;
      rest = to;
      is_next = derives.0;
      terminal = t;
      fails = λ other excluded_is. not_both other t token excluded_is derives.1 plain;
      first = λ test pass. pass;
      begun = derives.1;
    })
started (both {x} {y} a b) from to plain derives =
    let second = started b (derives.0) to plain.1 derives.2 in
    started_as (λ test pass. and_first_true (firsts test x) _ pass) (λ token so. or_first_true (begins x token) _ so)
    (λ can is. second_started x y from (derives.0) to can is second) (started a from (derives.0) plain.0 derives.1)
started (left {x} {y} a) from to plain derives =
    started_as (λ test pass. and_first_true (firsts test x) _ pass) (λ token so. or_first_true (begins x token) _ so)
    (λ can is. inl (or_first_true (can_be_empty x) _ can, is)) (started a from to plain derives)
started (right {x} {y} b) from to plain derives =
    started_as (λ test pass. and_second_true (firsts test x) _ pass) (λ token so. or_second_true (begins x token) _ so)
    (λ can is. inl (or_second_true (can_be_empty x) _ can, is)) (started b from to plain derives)
started absent from to plain derives = inl (refl, derives)
started (present {x} a) from to plain derives =
    started_as {x = x} {y = optional x} (λ test pass. pass) (λ token so. so) (λ can is. inl (refl, is)) (started a from to plain derives)
started end from to plain derives = inl (refl, derives)
started (more {x} a tail) from to plain derives =
    let later = started tail (derives.0) to plain.1 derives.2 in
    started_as {x = x} {y = repeated x} (λ test pass. pass) (λ token so. so)
    (λ can is. subst (λ (l : List Spelled). Started (repeated x) l to) (sym is) later) (started a from (derives.0) plain.0 derives.1)
started (inner {n} a) from to plain derives =
    started_as (λ test pass. firsts_part test n ∙ pass) (λ token so. begins_part n token ∙ so) (λ can is. absurd (never_empty n can))
    (started a from to plain derives)

-- an expression that has a token begins where a tree of it does
begun : (x : Expression) (from to : List Spelled) → not (can_be_empty x) ≡ true → Started x from to → begins_there x from ≡ true
begun x from to has (inl none) = absurd (apart (can_be_empty x) none.0 (not_true (can_be_empty x) has))
begun x from to has (inr starts) = ap (begins_there x) starts.is_next ∙ starts.begun

-- an expression may end where a tree is that begins with nothing with which it could go on
ends_there : (x y : Expression) (between to : List Spelled) → ends_before x y ≡ true → (can_be_empty y ≡ true → Allowed x to)
    → Started y between to → Allowed x between
ends_there x y between to ends at_end (inl none) = subst (λ (l : List Spelled). Allowed x l) (sym none.1) (at_end none.0)
ends_there x y between to ends at_end (inr starts) =
    ap (extends_there x) starts.is_next ∙ not_extended (λ t. excludes t starts.terminal) starts.token starts.fails x
    (starts.first (λ other. lasts (λ t. excludes t other) x) ends)

-- the first of two alternatives does not begin where a tree of the second is
not_there : (x y : Expression) (from to : List Spelled) → begin_apart x y ≡ true → Allowed (x ∣ y) to → Started y from to
    → begins_there x from ≡ false
not_there x y from to are allowed (inl none) = ap (begins_there x) none.1 ∙ barred (x ∣ y) x to (bars_left x y none.0) allowed
not_there x y from to are allowed (inr starts) =
    ap (begins_there x) starts.is_next ∙ not_begun (λ t. excludes t starts.terminal) starts.token starts.fails x
    (starts.first (λ other. firsts (λ t. excludes t other) x) are)

-- what is derived with plain names, and may end there, is read
pub reads : {x : Expression} (a : Tree x) (from to : List Spelled) → is_decided x ≡ true → NamesArePlain a → Allowed x to
    → Derives a from to → Reads a from to
reads (leaf token) from to decided plain allowed derives = derives
reads (both {x} {y} a b) from to decided plain allowed derives =
    let between = derives.0 in
    let are = and_parts (is_decided x) _ decided in
    let also = and_parts (is_decided y) _ are.1 in
    let first = reads a from between are.0 plain.0
    (ends_there x y between to also.1 (λ can. allowed_of (x ▸ y) x to (covers_first x y can) allowed)
    (started b between to plain.1 derives.2)) derives.1 in
    let second = reads b between to also.0 plain.1 (allowed_of (x ▸ y) y to (covers_second x y) allowed) derives.2 in
    (between, first, second)
reads (left {x} {y} a) from to decided plain allowed derives =
    let are = and_parts (is_decided x) _ decided in
    let also = and_parts (is_decided y) _ are.1 in
    let inside = reads a from to are.0 plain (allowed_of (x ∣ y) x to (covers_left x y) allowed) derives in
    (begun x from to (and_first_true (not (can_be_empty x)) _ also.1) (started a from to plain derives), inside)
reads (right {x} {y} b) from to decided plain allowed derives =
    let are = and_parts (is_decided x) _ decided in
    let also = and_parts (is_decided y) _ are.1 in
    let inside = reads b from to also.0 plain (allowed_of (x ∣ y) y to (covers_right x y) allowed) derives in
    (not_there x y from to (and_second_true (not (can_be_empty x)) _ also.1) allowed (started b from to plain derives), inside)
reads (absent {x}) from to decided plain allowed derives =
    (ap (begins_there x) derives ∙ barred (optional x) x to (bars_optional x) allowed, derives)
reads (present {x} a) from to decided plain allowed derives =
    let are = and_parts (is_decided x) _ decided in
    let inside = reads a from to are.0 plain (allowed_of (optional x) x to (covers_optional x) allowed) derives in
    (begun x from to are.1 (started a from to plain derives), inside)
reads (end {x}) from to decided plain allowed derives =
    (ap (begins_there x) derives ∙ barred (repeated x) x to (bars_repeated x) allowed, derives)
reads (more {x} a tail) from to decided plain allowed derives =
    let between = derives.0 in
    let are = and_parts (is_decided x) _ decided in
    let also = and_parts (not (can_be_empty x)) _ are.1 in
    let first = reads a from between are.0 plain.0
    (ends_there x (repeated x) between to also.1 (λ _. allowed_of (repeated x) x to (covers_repeated x) allowed)
    (started tail between to plain.1 derives.2)) derives.1 in (
      begun x from between also.0 (started a from between plain.0 derives.1),
      between,
      first,
      reads tail between to decided plain.1 allowed derives.2,
    )
reads (inner {n} a) from to decided plain allowed derives =
    reads a from to (part_decided n) plain (allowed_of (part n) (production n) to (covers_part n) allowed) derives

-- what is read is derived
pub derived : {x : Expression} (a : Tree x) (from to : List Spelled) → Reads a from to → Derives a from to
derived (leaf token) from to reads = reads
derived (both a b) from to reads = (reads.0, derived a from reads.0 reads.1, derived b reads.0 to reads.2)
derived (left a) from to reads = derived a from to reads.1
derived (right b) from to reads = derived b from to reads.1
derived absent from to reads = reads.1
derived (present a) from to reads = derived a from to reads.1
derived end from to reads = reads.1
derived (more a tail) from to reads = (reads.1, derived a from reads.1 reads.2, derived tail reads.1 to reads.3)
derived (inner a) from to reads = derived a from to reads
