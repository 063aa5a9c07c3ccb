-- What is reported of the first item is one, where one thing is reported of an item.
use Rattle.std.proofs.Common.{◌≡◌, List, [], ◌∷◌, ◌++◌, Bool, true, false, MatchBool, sym, subst, ◌∙◌}
use Rattle.std.proofs.lemmas.List.Elements.{All-head, All-tail}
use Rattle.g4_source.proofs.Parts.{All-rest}
use Rattle.g4_source.specs.First.{IsNone, IsFirst}

-- the first items of two equal lists
same_head : {A : Type 0} (x y : A) (xs ys : List A) → x ∷ xs ≡ y ∷ ys → x ≡ y
same_head x y xs ys e = cc

-- the other items of two equal lists
same_tail : {A : Type 0} (x y : A) (xs ys : List A) → x ∷ xs ≡ y ∷ ys → xs ≡ ys
same_tail x y xs ys e = cc

module _ {A B : Type 0} (Reports : A → B → Type 0) where
  -- of two first items both are one
  same_item : (before others : List A) (item other : A) (after later : List A) (b c : B) → before ++ item ∷ after ≡ others ++ other ∷ later
      → IsNone Reports before → IsNone Reports others → Reports item b → Reports other c → item ≡ other
  same_item [] [] item other after later b c e none none' told told' = same_head item other after later e
  same_item [] (o ∷ os) item other after later b c e none none' told told' =
      absurd (All-head (λ (x : A). (b : B) → Reports x b → ⊥) o os none' b
      (subst (λ (x : A). Reports x b) (same_head item o after (os ++ other ∷ later) e) told))
  same_item (x ∷ xs) [] item other after later b c e none none' told told' =
      absurd (All-head (λ (y : A). (b : B) → Reports y b → ⊥) x xs none c
      (subst (λ (y : A). Reports y c) (sym (same_head x other (xs ++ item ∷ after) later e)) told'))
  same_item (x ∷ xs) (o ∷ os) item other after later b c e none none' told told' =
      same_item xs os item other after later b c (same_tail x o (xs ++ item ∷ after) (os ++ other ∷ later) e)
      (All-tail (λ (y : A). (b : B) → Reports y b → ⊥) x xs none) (All-tail (λ (y : A). (b : B) → Reports y b → ⊥) o os none') told told'

  -- one thing is reported of each item
  abbrev pub IsOne : Type 0
  IsOne = (x : A) (b c : B) → Reports x b → Reports x c → b ≡ c

  -- so it is of the first
  pub one_first : IsOne → (xs : List A) (b c : B) → IsFirst Reports xs b → IsFirst Reports xs c → b ≡ c
  one_first one xs b c f g =
      let same : f.item ≡ g.item = same_item f.before g.before f.item g.item f.after g.after b c (sym f.parts ∙ g.parts) f.none_before
      g.none_before f.reported g.reported in
      one g.item b c (subst (λ (x : A). Reports x b) same f.reported) g.reported

  -- where something is reported, it is not nothing
  pub not_both : (xs : List A) (b : B) → IsNone Reports xs → IsFirst Reports xs b → ⊥
  not_both xs b none f =
      All-head (λ (x : A). (b : B) → Reports x b → ⊥) f.item f.after
      (All-rest (λ (x : A). (b : B) → Reports x b → ⊥) f.before (f.item ∷ f.after) (subst (IsNone Reports) f.parts none)) b f.reported

-- one or the other is reported
pub one_choice : {B : Type 0} (test : Bool) (P Q : B → Type 0) → ((b c : B) → P b → P c → b ≡ c) → ((b c : B) → Q b → Q c → b ≡ c)
    → (b c : B) → MatchBool test (P b) (Q b) → MatchBool test (P c) (Q c) → b ≡ c
one_choice true P Q one_p one_q b c h k = one_p b c h k
one_choice false P Q one_p one_q b c h k = one_q b c h k
