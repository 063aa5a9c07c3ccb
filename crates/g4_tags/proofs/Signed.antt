-- The sign that is found from left to right is the one that the text begins with, and there is no other.
use Rattle.std.proofs.Common.{◌≡◌, ◌≢◌, ◌≤◌, ℕ, suc, ◌+◌, inl, inr, List, [], ◌∷◌, ◌++◌, Bool, true, false, eqb, Option, Some, None, length, drop, refl, sym, ◌∙◌, ap, subst, arith}
use Rattle.std.specs.Prelude.{◌||◌}
use Rattle.std.proofs.lemmas.Bool.{cases_Bool, cases_eq, cond-true, cond-false, eq-eqb, ne_eqb}
use Rattle.std.proofs.lemmas.Option.{same_Some}
use Rattle.g4_tags.specs.Found.{after_backslash, as_sign, bracket_at, sign_found, tag_found}
use Rattle.g4_tags.specs.Signs.{BeginsWithBracket, BeginsWithNoTag, IsBracket, IsSign, label_written}
use Rattle.g4_tags.specs.declared.sign.FoundSign.{FoundSign}
use Rattle.g4_tags.specs.declared.sign.Sign.{Sign}
use Rattle.g4_tags.specs.declared.sign.Sign.TheVariants.{Letter, Escaped, Tagged}
use Rattle.g4_tags.specs.declared.tag.FoundTag.{FoundTag}
use Rattle.g4_tags.proofs.Cuts.{head_is, tail_is}
use Rattle.g4_tags.proofs.Tagged.{tag_at, tag_complete, tag_is, tag_sound}

absurd_none : {X Y : Type 0} (x : X) → None ≡ Some x → Y
absurd_none x is = absurd (let n : ⊥ = cc in n)

-- the test for brackets
test_is : (c : ℕ) → IsBracket c → (eqb c 60 || eqb c 62) ≡ true
test_is c h = grind (arith, h)

test_not : (c : ℕ) → (eqb c 60 || eqb c 62) ≡ false → IsBracket c → ⊥
test_not c is h = (let t : (eqb c 60 || eqb c 62) ≡ true = test_is c h in let n : ⊥ = cc in n)

test_back : (c : ℕ) → (eqb c 60 || eqb c 62) ≡ true → IsBracket c
test_back c is = elim (cases_eq c 60) [
  | inl e ↦ inl e
  | inr d ↦ elim (cases_eq c 62) [
    | inl e ↦ inr e
    | inr f ↦ absurd (let a : eqb c 60 ≡ false = ne_eqb c 60 d in let b : eqb c 62 ≡ false = ne_eqb c 62 f in
        let x : (eqb c 60 || eqb c 62) ≡ false = ap (λ (p : Bool). p || eqb c 62) a ∙ b in let n : ⊥ = cc in n)
  ]
]

-- a bracket at the beginning
bracket_some : (text : List ℕ) (b : ℕ) → bracket_at text ≡ Some b → IsBracket b × (text ≡ b ∷ drop 1 text)
bracket_some [] b is = absurd_none b is
bracket_some (c ∷ cs) b is = elim (cases_Bool (eqb c 60 || eqb c 62)) [
  | inl t ↦ (
      let same : c ≡ b = same_Some c b (sym (cond-true (eqb c 60 || eqb c 62) (Some c) None t) ∙ is) in
      (subst IsBracket same (test_back c t), ap (λ x. x ∷ cs) same)
      )
  | inr f ↦ absurd_none b (sym (cond-false (eqb c 60 || eqb c 62) (Some c) None f) ∙ is)
]

bracket_none : (text : List ℕ) → bracket_at text ≡ None → BeginsWithBracket text → ⊥
bracket_none [] is h = h
bracket_none (c ∷ cs) is h =
    absurd_none c (sym is ∙ cond-true (eqb c 60 || eqb c 62) (Some c) None (test_is c h))

bracket_here : (b : ℕ) (rest : List ℕ) → IsBracket b → bracket_at (b ∷ rest) ≡ Some b
bracket_here b rest h = cond-true (eqb b 60 || eqb b 62) (Some b) None (test_is b h)

no_bracket : (text : List ℕ) → (BeginsWithBracket text → ⊥) → bracket_at text ≡ None
no_bracket [] h = refl
no_bracket (c ∷ cs) h = elim (cases_Bool (eqb c 60 || eqb c 62)) [
  | inl t ↦ absurd (h (test_back c t))
  | inr f ↦ cond-false (eqb c 60 || eqb c 62) (Some c) None f
]

module _ (number : List ℕ → Option ℕ) (c : ℕ) (after : List ℕ) where
  -- what is found of a sign: it is the one that the text begins with
  pub record FoundHere (f : FoundSign) : Type 0 where
    pub is : IsSign number f.sign (c ∷ after) (drop f.width (c ∷ after))
    pub some : 1 ≤ f.width
    pub within : f.width ≤ length (c ∷ after)

  as_tag : c ≡ 60 → (o : Option FoundTag) → tag_found number after ≡ o → (f : FoundSign) → as_sign number o ≡ Some f → FoundHere f
  as_tag open_is None e f is = absurd_none f is
  as_tag open_is (Some t) e f is =
      let here : FoundSign = record { sign = Tagged t.tag; width = t.width + 1 } in
      let s = tag_sound number after t e in
      let within = s.within in
      let longer : t.width + 1 ≡ suc t.width = omega arith in
      let rest_is : drop (t.width + 1) (c ∷ after) ≡ drop t.width after = ap (λ n. drop n (c ∷ after)) longer in
      subst FoundHere (same_Some here f is) (record {
        is = subst (λ (q : ℕ × List ℕ). IsSign number (Tagged t.tag) (q.0 ∷ after) q.1) (λ i. (sym open_is i, sym rest_is i))
            (tag_is number t.tag after (drop t.width after) s.is);
        some = omega arith;
        within = omega (arith, within);
      })

  after_escape : c ≡ 92 → (o : Option ℕ) → bracket_at after ≡ o → (f : FoundSign) → after_backslash o ≡ Some f → FoundHere f
  after_escape slash None e f is =
      subst FoundHere (same_Some (record { sign = Letter 92; width = 1 }) f is) (record {
        is = (ap (λ x. x ∷ after) slash, ((λ (wrong : 92 ≡ 60). omega (arith, wrong)), λ same. bracket_none after e));
        some = omega arith;
        within = omega arith;
      })
  after_escape slash (Some b) e f is =
      let bracket = bracket_some after b e in
      let long : length after ≡ suc (length (drop 1 after)) = ap length bracket.1 in
      subst FoundHere (same_Some (record { sign = Escaped b; width = 2 }) f is) (record {
        is = (ap (λ x. x ∷ after) slash ∙ ap (λ r. 92 ∷ r) bracket.1, bracket.0);
        some = omega arith;
        within = omega (arith, long);
      })

  -- a sign that is found is one
  pub sign_sound : (f : FoundSign) → sign_found number c after ≡ Some f → FoundHere f
  sign_sound f is = elim (cases_eq c 60) [
    | inl open_is ↦ as_tag open_is (tag_found number after) refl f (sym (cond-true (eqb c 60) _ _ (eq-eqb c 60 open_is)) ∙ is)
    | inr closed ↦ elim (cases_eq c 92) [
      | inl slash ↦ after_escape slash (bracket_at after) refl f
          (sym (cond-false (eqb c 60) _ _ (ne_eqb c 60 closed) ∙ cond-true (eqb c 92) _ _ (eq-eqb c 92 slash)) ∙ is)
      | inr other ↦ subst FoundHere (same_Some (record { sign = Letter c; width = 1 }) f
          (sym (cond-false (eqb c 60) _ _ (ne_eqb c 60 closed) ∙ cond-false (eqb c 92) _ _ (ne_eqb c 92 other)) ∙ is)) (record {
            is = (refl, (closed, λ same. absurd (other same)));
            some = omega arith;
            within = omega arith;
          })
    ]
  ]

-- how a sign is found
pub record IsFoundSign (number : List ℕ → Option ℕ) (sign : Sign) (c : ℕ) (after rest : List ℕ) : Type 0 where
  pub width : ℕ
  pub found : sign_found number c after ≡ Some (record { sign = sign; width = width })
  pub left : rest ≡ drop width (c ∷ after)

module _ (number : List ℕ → Option ℕ) where
  -- a sign that the text begins with is found
  pub sign_complete : (sign : Sign) (c : ℕ) (after rest : List ℕ) → IsSign number sign (c ∷ after) rest
      → IsFoundSign number sign c after rest
  sign_complete (Letter d) c after rest (is, (closed, plain)) =
      let same : c ≡ d = head_is c d after rest is in
      let left : after ≡ rest = tail_is c d after rest is in
      let c_closed : c ≢ 60 = λ wrong. closed (sym same ∙ wrong) in
      elim (cases_eq c 92) [
        | inl slash ↦ record {
          width = 1;
          found = cond-false (eqb c 60) _ _ (ne_eqb c 60 c_closed) ∙ cond-true (eqb c 92) _ _ (eq-eqb c 92 slash)
              ∙ ap after_backslash (no_bracket after
              (λ h. plain (sym same ∙ slash) (subst BeginsWithBracket left h)))
              ∙ ap (λ x. Some (record { sign = Letter x; width = 1 })) (sym slash ∙ same);
          left = sym left;
        }
        | inr other ↦ record {
          width = 1;
          found = cond-false (eqb c 60) _ _ (ne_eqb c 60 c_closed) ∙ cond-false (eqb c 92) _ _ (ne_eqb c 92 other)
              ∙ ap (λ x. Some (record { sign = Letter x; width = 1 })) same;
          left = sym left;
        }
      ]
  sign_complete (Escaped b) c after rest (is, bracket) =
      let slash : c ≡ 92 = head_is c 92 after (b ∷ rest) is in
      let left : after ≡ b ∷ rest = tail_is c 92 after (b ∷ rest) is in
      let c_closed : c ≢ 60 = λ wrong. (let x : 92 ≡ 60 = sym slash ∙ wrong in omega (arith, x)) in
      record {
        width = 2;
        found = cond-false (eqb c 60) _ _ (ne_eqb c 60 c_closed) ∙ cond-true (eqb c 92) _ _ (eq-eqb c 92 slash)
            ∙ ap after_backslash (ap bracket_at left ∙ bracket_here b rest bracket);
        left = ap (drop 1) (sym left);
      }
  sign_complete (Tagged tag) c after rest h =
      let open_is : c ≡ 60 = head_is c 60 after ((label_written tag.label ++ tag.name ++ 62 ∷ []) ++ rest) h.0 in
      let f = tag_complete number tag after rest
      (tag_at number tag after rest (subst (λ (x : ℕ). IsSign number (Tagged tag) (x ∷ after) rest) open_is h)) in
      let longer : suc f.width ≡ f.width + 1 = omega arith in
      record {
        width = f.width + 1;
        found = cond-true (eqb c 60) _ _ (eq-eqb c 60 open_is) ∙ ap (as_sign number) f.found;
        left = f.left ∙ ap (λ n. drop n (c ∷ after)) longer;
      }

  -- where none is found, there is none
  no_sign : (c : ℕ) (after : List ℕ) → sign_found number c after ≡ None → (sign : Sign) (rest : List ℕ)
      → IsSign number sign (c ∷ after) rest → ⊥
  no_sign c after none sign rest h = let f = sign_complete sign c after rest h in
      absurd_none (record { sign = sign; width = f.width }) (sym none ∙ f.found)

  -- none is found at a `<` alone
  some_escape : {X : Type 0} (o : Option ℕ) → after_backslash o ≡ None → X
  some_escape None is = absurd_none (record { sign = Letter 92; width = 1 }) (sym is)
  some_escape (Some b) is = absurd_none (record { sign = Escaped b; width = 2 }) (sym is)

  pub no_tag : (c : ℕ) (after : List ℕ) → sign_found number c after ≡ None → (c ≡ 60) × BeginsWithNoTag number (c ∷ after)
  no_tag c after none = (opens, λ tag rest h. no_sign c after none (Tagged tag) rest h)
    where
      opens : c ≡ 60
      opens = elim (cases_eq c 60) [
        | inl open_is ↦ open_is
        | inr closed ↦ elim (cases_eq c 92) [
          | inl slash ↦ some_escape (bracket_at after)
              (sym (cond-false (eqb c 60) _ _ (ne_eqb c 60 closed) ∙ cond-true (eqb c 92) _ _ (eq-eqb c 92 slash)) ∙ none)
          | inr other ↦ absurd_none (record { sign = Letter c; width = 1 })
              (sym none ∙ cond-false (eqb c 60) _ _ (ne_eqb c 60 closed) ∙ cond-false (eqb c 92) _ _ (ne_eqb c 92 other))
        ]
      ]
