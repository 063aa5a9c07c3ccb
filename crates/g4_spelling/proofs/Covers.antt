-- Marks that are in a text before the rest of it, one after another.
use Rattle.std.proofs.Common.{◌≡◌, ◌≤◌, ℕ, zero, suc, List, [], ◌∷◌, ◌++◌, map, refl, sym, ◌∙◌, ap, subst, arith}
use Rattle.std.specs.List.{repeat}
use Rattle.g4_chars.specs.CharSets.{Has}
use Rattle.g4_ordered.specs.declared.network.Reads.{Reads}
use Rattle.g4_ordered.specs.declared.network.Reads.TheVariants.{Characters, EndOfText}
use Rattle.g4_ordered.specs.Spelling.{TakesText}
use Rattle.g4_spelling.specs.Marks.{Mark, character, end_of_file}

-- the marks are in w before z: each character is the next one, and at the end of the file nothing is left
abbrev pub Covers : List Mark → List ℕ → List ℕ → Type 0
Covers [] w z = w ≡ z
Covers (character a ∷ ms) w z = (v : List ℕ) × (w ≡ a ∷ v) × Covers ms v z
Covers (end_of_file ∷ ms) w z = (w ≡ []) × Covers ms w z

-- the word that a label takes, as marks
abbrev pub TakesMarks : Reads → List Mark → Type 0
TakesMarks (Characters set) c = (a : ℕ) × Has set a × (c ≡ character a ∷ [])
TakesMarks EndOfText c = c ≡ end_of_file ∷ []

-- some marks, and then others
pub covers_both : (ms ns : List Mark) (w v z : List ℕ) → Covers ms w v → Covers ns v z → Covers (ms ++ ns) w z
covers_both [] ns w v z e h = subst (λ (x : List ℕ). Covers ns x z) (sym e) h
covers_both (character a ∷ ms) ns w v z (u, e, c) h = (u, e, covers_both ms ns u v z c h)
covers_both (end_of_file ∷ ms) ns w v z (e, c) h = (e, covers_both ms ns w v z c h)

-- both parts apart
pub covers_apart : (ms ns : List Mark) (w z : List ℕ) → Covers (ms ++ ns) w z → (v : List ℕ) × Covers ms w v × Covers ns v z
covers_apart [] ns w z h = (w, refl, h)
covers_apart (character a ∷ ms) ns w z (u, e, c) = let h = covers_apart ms ns u z c in (h.0, (u, e, h.1), h.2)
covers_apart (end_of_file ∷ ms) ns w z (e, c) = let h = covers_apart ms ns w z c in (h.0, (e, h.1), h.2)

-- what a label takes of a text, as marks
pub taken_marks : (label : Reads) (w v : List ℕ) → TakesText label w v → (c : List Mark) × TakesMarks label c × Covers c w v
taken_marks (Characters set) w v (a, is, has) = (character a ∷ [], (a, has, refl), (v, is, refl))
taken_marks EndOfText w v (e, h) = (end_of_file ∷ [], refl, (e, e ∙ sym h))

-- and the other way round
pub taken_text : (label : Reads) (c : List Mark) (w v : List ℕ) → TakesMarks label c → Covers c w v → TakesText label w v
taken_text (Characters set) c w v (a, has, is) h = let k : Covers (character a ∷ []) w v =
    subst (λ (ms : List Mark). Covers ms w v) is h in (a, k.1 ∙ ap (λ (x : List ℕ). a ∷ x) k.2, has)
taken_text EndOfText c w v is h = let k : Covers (end_of_file ∷ []) w v = subst (λ (ms : List Mark). Covers ms w v) is h in
    (k.0, sym k.1 ∙ k.0)

-- the characters of a text
covers_text : (p z : List ℕ) → Covers (map character p) (p ++ z) z
covers_text [] z = refl
covers_text (a ∷ p) z = (p ++ z, refl, covers_text p z)

-- ends of the file
covers_ends : (k : ℕ) (z : List ℕ) → (1 ≤ k → z ≡ []) → Covers (repeat k (end_of_file ∷ [])) z z
covers_ends zero z at_end = refl
covers_ends (suc k) z at_end = (at_end (omega arith), covers_ends k z (λ more. at_end (omega arith)))

-- characters and then ends of the file
pub covers_front : (p : List ℕ) (k : ℕ) (w z : List ℕ) → w ≡ p ++ z → (1 ≤ k → z ≡ [])
    → Covers (map character p ++ repeat k (end_of_file ∷ [])) w z
covers_front p k w z parts at_end =
    subst (λ (x : List ℕ). Covers (map character p ++ repeat k (end_of_file ∷ [])) x z) (sym parts)
    (covers_both (map character p) (repeat k (end_of_file ∷ [])) (p ++ z) z z (covers_text p z) (covers_ends k z at_end))

-- marks in a text are characters and then ends of the file
pub record IsFront (ms : List Mark) (w z : List ℕ) : Type 0 where
  pub text : List ℕ
  pub ends : ℕ
  pub parts : w ≡ text ++ z
  pub at_end : 1 ≤ ends → z ≡ []
  pub marks : ms ≡ map character text ++ repeat ends (end_of_file ∷ [])

-- two parts of the empty text are empty
both_empty : (p z : List ℕ) → [] ≡ p ++ z → (p ≡ []) × (z ≡ [])
both_empty [] z e = (refl, sym e)
both_empty (a ∷ p) z e = absurd (let n : ⊥ = cc in n)

-- one end of the file more, where nothing is left
ended : (ms : List Mark) (w z : List ℕ) → w ≡ [] → IsFront ms w z → IsFront (end_of_file ∷ ms) w z
ended ms w z e h =
    let none = both_empty h.text z (sym e ∙ h.parts) in
    record {
      text = [];
      ends = suc h.ends;
      parts = e ∙ sym none.1;
      at_end = λ some. none.1;
      marks = ap (λ (ns : List Mark). end_of_file ∷ ns)
          (h.marks ∙ ap (λ (p : List ℕ). map character p ++ repeat h.ends (end_of_file ∷ [])) none.0);
    }

pub covers_is_front : (ms : List Mark) (w z : List ℕ) → Covers ms w z → IsFront ms w z
covers_is_front [] w z e = record { text = []; ends = 0; parts = e; at_end = λ some. absurd (omega (arith, some)); marks = refl }
covers_is_front (character a ∷ ms) w z (v, e, c) =
    let h = covers_is_front ms v z c in
    record {
      text = a ∷ h.text;
      ends = h.ends;
      parts = e ∙ ap (λ (x : List ℕ). a ∷ x) h.parts;
      at_end = h.at_end;
      marks = ap (λ (ns : List Mark). character a ∷ ns) h.marks;
    }
covers_is_front (end_of_file ∷ ms) w z (e, c) = ended ms w z e (covers_is_front ms w z c)
