-- What is learned stays right.
use Rattle.std.proofs.Common.{◌≡◌, ℕ, zero, suc, ◌+◌, ◌-◌, ◌*◌, ◌/◌, ◌%◌, ◌<◌, ◌≤◌, ◌⊎◌, inl, inr, List, [], ◌∷◌, ◌++◌, Bool, false, Option, Some, None, length, slice_get, take, drop, replicate, length-append, sym, ◌∙◌, ap, subst, arith}
use Rattle.std.proofs.lemmas.List.{length-replicate, take_at, take_all}
use Rattle.std.proofs.lemmas.Nat.{div-mul-add, mod-mul-add, mul-add-lt, mul-le}
use Rattle.std.proofs.lemmas.Option.{slice_get_within}
use Rattle.g4_ordered.specs.declared.start.Start.{Start}
use Rattle.g4_ordered.specs.Network.{LexerNetwork}
use Rattle.g4_ordered.specs.Configurations.{LexerConfig}
use Rattle.g4_ordered.specs.Leads.{ReadsTo}
use Rattle.g4_ordered.specs.Lists.{ReadAll, all_read, taken, refused}
use Rattle.g4_matching.specs.Classes.{AreAlike, AreClasses}
use Rattle.g4_matching.specs.Partitions.{Classing, class_in}
use Rattle.g4_matching.specs.declared.learned.Learned.{Learned}
use Rattle.g4_matching.specs.Automaton.{HasList, StepsTo, Begins, AreLearned, cell_of, starts_in}
use Rattle.g4_matching.specs.Cells.{IsNoted}
use Rattle.g4_matching.specs.Ends.{TellsEnd}
use Rattle.g4_matching.specs.Entries.{AreKnown, configs_of}
use Rattle.g4_matching.specs.Listing.{IsNext}
use Rattle.g4_matching.specs.Returns.{Grows}
use Rattle.g4_matching.proofs.Known.{grown_known, grown_configs}
use Rattle.g4_matching.proofs.Lookups.{at_left, at_cases}

-- a configuration reads what it reads by a character that is alike
alike_reads : (net : LexerNetwork) (a b : ℕ) (c d : LexerConfig) → AreAlike net a b → ReadsTo net a c d → ReadsTo net b c d
alike_reads net a b c d alike r = (r.0, r.1, r.2, (alike c.state r.1 r.0 r.2).0 r.3, r.4)

-- so does a list
alike_reads_all : (net : LexerNetwork) (a b : ℕ) (list read : List LexerConfig) → AreAlike net a b → AreAlike net b a
    → ReadAll net a list read → ReadAll net b list read
alike_reads_all net a b list read ab ba all_read = all_read
alike_reads_all net a b list read ab ba (taken c d cs ds r h) =
    taken c d cs ds (alike_reads net a b c d ab r) (alike_reads_all net a b cs ds ab ba h)
alike_reads_all net a b list read ab ba (refused c cs _ never h) =
    refused c cs read (λ d r. never d (alike_reads net b a c d ba r)) (alike_reads_all net a b cs read ab ba h)

-- the list after a character is the one after each of its class
pub alike_next : (net : LexerNetwork) (classes : Classing) (last : Bool) (a b : ℕ) (list next : List LexerConfig) → AreClasses net classes
    → class_in classes a ≡ class_in classes b → IsNext net last a list next → IsNext net last b list next
alike_next net classes last a b list next alike same h =
    record {
      read = h.read;
      reads = alike_reads_all net a b list h.read ((alike.same a b).0 same) ((alike.same b a).0 (sym same)) h.reads;
      makes = h.makes;
    }

-- each class is below the number of classes
abbrev pub IsWithin : Classing → Type 0
IsWithin classes = (a : ℕ) → class_in classes a < classes.count

-- a list that has a cell is there
pub cell_within : (classes : Classing) (a from n cells : ℕ) → IsWithin classes → from < n → cells ≡ n * classes.count
    → cell_of classes from a < cells
cell_within classes a from n cells within lt is =
    let h = mul-add-lt from (classes.count) (class_in classes a) n lt (within a) in
    let e : classes.count * n ≡ n * classes.count = grind arith in
    omega arith

-- and no other has
within_cells : (classes : Classing) (a from n cells : ℕ) → cell_of classes from a < cells → cells ≡ n * classes.count → from < n
within_cells classes a from n cells lt is = elim (split from n) [
  | inl less ↦ less
  | inr le ↦ (let h = mul-le n (classes.count) from (classes.count) le (omega arith) in absurd (omega arith))
]
  where
    split : (a b : ℕ) → (a < b) ⊎ (b ≤ a)
    split a b = grind arith

-- one cell is of one list and one class
same_list : (classes : Classing) (a b from other : ℕ) → IsWithin classes → cell_of classes from a ≡ cell_of classes other b → from ≡ other
same_list classes a b from other within is = sym (div-mul-add from (classes.count) (class_in classes a) (within a))
    ∙ ap (λ (n : ℕ). n / classes.count) is ∙ div-mul-add other (classes.count) (class_in classes b) (within b)

same_class : (classes : Classing) (a b from other : ℕ) → IsWithin classes → cell_of classes from a ≡ cell_of classes other b
    → class_in classes a ≡ class_in classes b
same_class classes a b from other within is = sym (mod-mul-add from (classes.count) (class_in classes a) (within a))
    ∙ ap (λ (n : ℕ). n % classes.count) is ∙ mod-mul-add other (classes.count) (class_in classes b) (within b)

-- in empty cells nothing is noted
pub none_noted : (n k : ℕ) (x : ℕ) → slice_get (replicate n None) k ≡ Some (Some x) → ⊥
none_noted zero k x is = cc
none_noted (suc n) zero x is = cc
none_noted (suc n) (suc k) x is = none_noted n k x is

-- nor in more of them
left_noted : (cells : List (Option ℕ)) (n k x : ℕ) → slice_get (cells ++ replicate n None) k ≡ Some (Some x)
    → slice_get cells k ≡ Some (Some x)
left_noted [] n k x is = absurd (none_noted n k x is)
left_noted (c ∷ cells) n zero x is = is
left_noted (c ∷ cells) n (suc k) x is = left_noted cells n k x is

-- a list stays the same as the store grows
grown_list : (old new : List (List ℕ)) (lists : List Learned) (n : ℕ) (list : List LexerConfig) → Grows old new
    → ((k : ℕ) (l : Learned) → slice_get lists k ≡ Some l → AreKnown old l.entries.items) → HasList old lists n list
    → HasList new lists n list
grown_list old new lists n list g known h = (h.0, h.1, grown_configs old new h.0.entries.items g (known n h.0 h.1) ∙ h.2)

-- and as others are added
pub more_list : (returns : List (List ℕ)) (old new : List Learned) (n : ℕ) (list : List LexerConfig)
    → ((k : ℕ) (l : Learned) → slice_get old k ≡ Some l → slice_get new k ≡ Some l) → HasList returns old n list
    → HasList returns new n list
more_list returns old new n list keeps h = (h.0, keeps n h.0 h.1, h.2)

-- with no list nothing is wrong
pub learned_none : (net : LexerNetwork) (modes : List (List Start)) (classes : Classing) (returns : List (List ℕ)) (lists : List Learned)
    (next firsts : List (Option ℕ)) → AreClasses net classes → lists ≡ [] → next ≡ []
    → ((mode n : ℕ) → slice_get firsts mode ≡ Some (Some n) → ⊥)
    → AreLearned net modes classes returns lists next firsts
learned_none net modes classes returns lists next firsts alike no_list no_cell none = record {
  classes_are = alike;
  cells = let a = ap length no_list in let b = ap length no_cell in
      let e : length lists * classes.count ≡ 0 = ap (λ (n : ℕ). n * classes.count) a ∙ grind arith in b ∙ sym e;
  known = λ n l is. absurd (nothing n l (ap (λ (x : List Learned). slice_get x n) (sym no_list) ∙ is));
  ends = λ n l is. absurd (nothing n l (ap (λ (x : List Learned). slice_get x n) (sym no_list) ∙ is));
  noted = λ a from to lt is. let n = ap length no_list in absurd (omega arith);
  begun = λ mode n is. absurd (none mode n is);
}
  where
    nothing : (n : ℕ) (l : Learned) → slice_get [] n ≡ Some l → ⊥
    nothing n l is = cc

module _ (net : LexerNetwork) (modes : List (List Start)) (classes : Classing) where
  -- as the store grows
  pub learned_grows : (old new : List (List ℕ)) (lists : List Learned) (next firsts : List (Option ℕ)) → Grows old new
      → AreLearned net modes classes old lists next firsts → AreLearned net modes classes new lists next firsts
  learned_grows old new lists next firsts g h = record {
    classes_are = h.classes_are;
    cells = h.cells;
    known = λ n l is e i. grown_known old new e g (h.known n l is e i);
    ends = λ n l is. subst (λ (c : List LexerConfig). TellsEnd net c l.end)
        (sym (grown_configs old new l.entries.items g (h.known n l is))) (h.ends n l is);
    noted = λ a from to lt is. let s = h.noted a from to lt is in
        record {
          list = s.list;
          next = s.next;
          before = grown_list old new lists from s.list g h.known s.before;
          after = grown_list old new lists to s.next g h.known s.after;
          is_next = s.is_next;
        };
    begun = λ mode n is. let s = h.begun mode n is in
        record { list = s.list; has = grown_list old new lists n s.list g h.known s.has; is_first = s.is_first };
  }

  -- as a list is added
  pub learned_more : (returns : List (List ℕ)) (lists new : List Learned) (l : Learned) (next cells firsts : List (Option ℕ))
      → AreLearned net modes classes returns lists next firsts → new ≡ lists ++ l ∷ [] → cells ≡ next ++ replicate (classes.count) None
      → AreKnown returns l.entries.items → TellsEnd net (configs_of returns l.entries.items) l.end
      → AreLearned net modes classes returns new cells firsts
  learned_more returns lists new l next cells firsts h is_new is_cells known tells = record {
    classes_are = h.classes_are;
    cells = many;
    known = λ n x is. elim (at n x is) [
      | inl old ↦ h.known n x old
      | inr same ↦ subst
          (λ (y : Learned). AreKnown returns y.entries.items) same known
    ];
    ends = λ n x is. elim (at n x is) [
      | inl old ↦ h.ends n x old
      | inr same ↦ subst
          (λ (y : Learned). TellsEnd net (configs_of returns y.entries.items) y.end) same tells
    ];
    noted = λ a from to lt is.
        let old = left_noted next (classes.count) (cell_of classes from a) to
        (ap (λ (c : List (Option ℕ)). slice_get c (cell_of classes from a)) (sym is_cells) ∙ is) in
        let there = within_cells classes a from (length lists) (length next)
        (slice_get_within next (cell_of classes from a) (Some to) old) h.cells in
        let s = h.noted a from to there old in
        record {
          list = s.list;
          next = s.next;
          before = more_list returns lists new from s.list keeps s.before;
          after = more_list returns lists new to s.next keeps s.after;
          is_next = s.is_next;
        };
    begun = λ mode n is. let s = h.begun mode n is in
        record { list = s.list; has = more_list returns lists new n s.list keeps s.has; is_first = s.is_first };
  }
    where
      many : length cells ≡ length new * classes.count
      many =
          let none : Option ℕ = None in
          let a = ap length is_cells ∙ length-append next (replicate (classes.count) none) in
          let b = length-replicate (classes.count) none in
          let c = ap length is_new ∙ length-append lists (l ∷ []) in
          let d = h.cells in
          let e : length new * classes.count ≡ (length lists + 1) * classes.count = ap (λ (n : ℕ). n * classes.count) c in
          let f : (length lists + 1) * classes.count ≡ length lists * classes.count + classes.count = grind arith in
          omega arith

      at : (n : ℕ) (x : Learned) → slice_get new n ≡ Some x → (slice_get lists n ≡ Some x) ⊎ (l ≡ x)
      at n x is = elim (at_cases lists l x n (ap (λ (y : List Learned). slice_get y n) (sym is_new) ∙ is))
          [ inl old ↦ inl old | inr here ↦ inr here.1 ]

      keeps : (n : ℕ) (x : Learned) → slice_get lists n ≡ Some x → slice_get new n ≡ Some x
      keeps n x is = ap (λ (y : List Learned). slice_get y n) is_new ∙ at_left lists (l ∷ []) n x is

  -- as the list after a list is noted
  pub learned_next : (returns : List (List ℕ)) (lists : List Learned) (next cells firsts : List (Option ℕ)) (a from to : ℕ)
      → AreLearned net modes classes returns lists next firsts → length cells ≡ length next
      → IsNoted next (cell_of classes from a) to cells → StepsTo net returns lists a from to
      → AreLearned net modes classes returns lists cells firsts
  learned_next returns lists next cells firsts a from to h many noted steps = record {
    classes_are = h.classes_are;
    cells = many ∙ h.cells;
    known = h.known;
    ends = h.ends;
    noted = λ b other n lt is. elim (noted (cell_of classes other b) n is) [
      | inl here ↦ (let list_is = same_list classes b a other from h.classes_are.within here.0 in
          subst (StepsTo net returns lists b other) (sym here.1) (subst (λ (k : ℕ). StepsTo net returns lists b k to) (sym list_is)
          (record {
            list = steps.list;
            next = steps.next;
            before = steps.before;
            after = steps.after;
            is_next = alike_next net classes false a b steps.list steps.next h.classes_are
                (sym (same_class classes b a other from h.classes_are.within here.0))
                steps.is_next;
          })))
      | inr old ↦ h.noted b other n lt old
    ];
    begun = h.begun;
  }

  -- as the first list of a mode is noted
  pub learned_first : (returns : List (List ℕ)) (lists : List Learned) (next firsts cells : List (Option ℕ)) (mode n : ℕ)
      → AreLearned net modes classes returns lists next firsts → IsNoted firsts mode n cells
      → Begins net (starts_in modes mode) returns lists n → AreLearned net modes classes returns lists next cells
  learned_first returns lists next firsts cells mode n h noted begins = record {
    classes_are = h.classes_are;
    cells = h.cells;
    known = h.known;
    ends = h.ends;
    noted = h.noted;
    begun = λ other m is. elim (noted other m is) [
      | inl here ↦ subst (Begins net (starts_in modes other) returns lists) (sym here.1)
          (subst (λ (k : ℕ). Begins net (starts_in modes k) returns lists n) (sym here.0) begins)
      | inr old ↦ h.begun other m old
    ];
  }

-- a list that is written back whole
pub put_back : (n : ℕ) (old new : List (Option ℕ)) → length new ≡ length old → n ≡ length old → take n (new ++ drop (length new) old) ≡ new
put_back n old new many is = take_at new (drop (length new) old) n (many ∙ sym is)

-- a list of cells made longer
pub resized : (n count len : ℕ) (old new : List (Option ℕ)) → new ≡ take n old ++ replicate (n - len) None → len ≡ length old
    → n ≡ len + count → new ≡ old ++ replicate count None
resized n count len old new is many more =
    let front : take n old ≡ old = take_all n old (omega arith) in
    let rest : n - len ≡ count = omega arith in
    is ∙ ap (λ (l : List (Option ℕ)). l ++ replicate (n - len) None) front ∙ ap (λ (k : ℕ). old ++ replicate k None) rest
