-- Bytes that are added one part after another.
use Rattle.std.proofs.Common.{◌≡◌, ℕ, List, [], ◌++◌, refl, sym, subst, ◌∙◌, ap, append_assoc, append-nil}
use Rattle.std.specs.Prelude.{Result, Ok, Err, IsErrAnd, ⊤}
use Rattle.std.proofs.lemmas.Result.{err_from_is_err_and}
use Rattle.g4_trees.specs.Appending.{AddsFront, Adds}

-- of these bytes all are added but the last ones, which are left
pub record Leaves (more left old now : List ℕ) : Type 0 where
  pub done : List ℕ
  pub whole : more ≡ done ++ left
  pub added : now ≡ old ++ done

-- nothing is added yet
pub leaves_all : (more old : List ℕ) → Leaves more more old old
leaves_all more old = record { done = []; whole = refl; added = sym (append-nil old) }

-- the next part is added
pub leaves_less : (more part left old mid now : List ℕ) → Leaves more (part ++ left) old mid → now ≡ mid ++ part → Leaves more left old now
leaves_less more part left old mid now so_far is = record {
  done = so_far.done ++ part;
  whole = so_far.whole ∙ sym (append_assoc so_far.done part left);
  added = is ∙ ap (λ (xs : List ℕ). xs ++ part) so_far.added ∙ append_assoc old so_far.done part;
}

-- nothing is left
pub leaves_none : (more old now : List ℕ) → Leaves more [] old now → now ≡ old ++ more
leaves_none more old now so_far = so_far.added ∙ ap (λ (xs : List ℕ). old ++ xs) (sym (append-nil so_far.done) ∙ sym so_far.whole)

-- what is added so far is a front part
pub front_so_far : (more left old now : List ℕ) → Leaves more left old now → AddsFront more old now
front_so_far more left old now so_far = (so_far.done, left, so_far.whole, so_far.added)

-- a front part of the next part is added
pub front_of_next : (more part left old mid now : List ℕ) → Leaves more (part ++ left) old mid → AddsFront part mid now
    → AddsFront more old now
front_of_next more part left old mid now so_far of_part = (
  so_far.done ++ of_part.0,
  of_part.1 ++ left,
  so_far.whole ∙ ap (λ (xs : List ℕ). so_far.done ++ (xs ++ left)) of_part.2
      ∙ ap (λ (xs : List ℕ). so_far.done ++ xs) (append_assoc of_part.0 of_part.1 left)
      ∙ sym (append_assoc so_far.done of_part.0 (of_part.1 ++ left)),
  of_part.3 ∙ ap (λ (xs : List ℕ). xs ++ of_part.0) so_far.added ∙ append_assoc old so_far.done of_part.0,
)

-- the last part is added, or a front part of it
pub adds_last : {E : Type 0} (part more old mid now : List ℕ) (r : Result ⊤ E) → mid ≡ old ++ part → Adds more mid now r
    → Adds (part ++ more) old now r
adds_last part more old mid now (Ok done) first last = last ∙ ap (λ (xs : List ℕ). xs ++ more) first ∙ append_assoc old part more
adds_last part more old mid now (Err fault) first last = front_of_next (part ++ more) more [] old mid now
    (record { done = part; whole = ap (λ (xs : List ℕ). part ++ xs) (sym (append-nil more)); added = first }) last

-- only a front part of the first part is added
pub front_of_first : (part more old now : List ℕ) → AddsFront part old now → AddsFront (part ++ more) old now
front_of_first part more old now of_part = front_of_next (part ++ more) part more old old now (leaves_all (part ++ more) old) of_part

-- an answer without memory, where a front part is added
pub adds_front : {E : Type 0} (Q : E → Type 0) (more old now : List ℕ) (r : Result ⊤ E) → IsErrAnd r Q → AddsFront more old now
    → Adds more old now r
adds_front Q more old now r fails front = let p = err_from_is_err_and {Q = Q} r fails in rw p.1 front

-- the same, where bytes are left
pub adds_so_far : {E : Type 0} (Q : E → Type 0) (more left old mid now : List ℕ) (r : Result ⊤ E) → IsErrAnd r Q
    → Leaves more left old mid → now ≡ mid → Adds more old now r
adds_so_far Q more left old mid now r fails so_far same =
    adds_front Q more old now r fails (front_so_far more left old now (subst (λ (xs : List ℕ). Leaves more left old xs) (sym same) so_far))

-- the bytes that are left, written otherwise
pub leaves_same : (more left left' old now : List ℕ) → left ≡ left' → Leaves more left old now → Leaves more left' old now
leaves_same more left left' old now same so_far = subst (λ (xs : List ℕ). Leaves more xs old now) same so_far

-- the same bytes, written otherwise
pub adds_same : {E : Type 0} (one other old now : List ℕ) (r : Result ⊤ E) → one ≡ other → Adds one old now r → Adds other old now r
adds_same one other old now r same adds = subst (λ (xs : List ℕ). Adds xs old now r) same adds

-- three parts, where memory runs out at the second
pub stops_in_second : {E : Type 0} (Q : E → Type 0) (first second third old one now : List ℕ) (r : Result ⊤ E) → IsErrAnd r Q
    → one ≡ old ++ first → AddsFront second one now → Adds (first ++ (second ++ third)) old now r
stops_in_second Q first second third old one now r fails whole front =
    adds_last first (second ++ third) old one now r whole
    (adds_front Q (second ++ third) one now r fails (front_of_first second third one now front))

-- three parts
pub adds_three : {E : Type 0} (first second third old one two now : List ℕ) (r : Result ⊤ E) → one ≡ old ++ first
    → two ≡ one ++ second → Adds third two now r → Adds (first ++ (second ++ third)) old now r
adds_three first second third old one two now r whole next last =
    adds_last first (second ++ third) old one now r whole (adds_last second third one two now r next last)

-- the first part of several, where memory runs out in it
pub stops_in_first : {E : Type 0} (Q : E → Type 0) (first others old now : List ℕ) (r : Result ⊤ E) → IsErrAnd r Q
    → AddsFront first old now → Adds (first ++ others) old now r
stops_in_first Q first others old now r fails front =
    adds_front Q (first ++ others) old now r fails (front_of_first first others old now front)
