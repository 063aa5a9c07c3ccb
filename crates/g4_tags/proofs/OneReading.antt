-- A text has at most one list of signs.
use Rattle.std.proofs.Common.{◌≡◌, ℕ, List, [], ◌∷◌, ◌++◌, Option, drop, refl, sym, ◌∙◌, ap, subst, arith}
use Rattle.std.proofs.lemmas.Option.{same_Some}
use Rattle.g4_tags.specs.Signs.{BeginsWithNoTag, IsSign, Reads, label_written, nothing, one_more}
use Rattle.g4_tags.specs.declared.sign.FoundSign.{FoundSign}
use Rattle.g4_tags.specs.declared.sign.Sign.{Sign}
use Rattle.g4_tags.specs.declared.sign.Sign.TheVariants.{Letter, Escaped, Tagged}
use Rattle.g4_tags.proofs.Cuts.{head_is}
use Rattle.g4_tags.proofs.Signed.{sign_complete}

-- no text begins with no sign
no_text : {X : Type 0} (c : ℕ) (cs : List ℕ) → [] ≡ c ∷ cs → X
no_text c cs is = absurd (let n : ⊥ = cc in n)

module _ (number : List ℕ → Option ℕ) where
  nil_sign : {X : Type 0} (sign : Sign) (text rest : List ℕ) → text ≡ [] → IsSign number sign text rest → X
  nil_sign (Letter c) text rest e h = no_text c rest (sym e ∙ h.0)
  nil_sign (Escaped c) text rest e h = no_text 92 (c ∷ rest) (sym e ∙ h.0)
  nil_sign (Tagged tag) text rest e h = no_text 60 ((label_written tag.label ++ tag.name ++ 62 ∷ []) ++ rest) (sym e ∙ h.0)

  -- a text begins with at most one sign
  one_sign : (s t : Sign) (text r q : List ℕ) → IsSign number s text r → IsSign number t text q → (s ≡ t) × (r ≡ q)
  one_sign s t [] r q h k = nil_sign s [] r refl h
  one_sign s t (c ∷ after) r q h k =
      let f = sign_complete number s c after r h in
      let g = sign_complete number t c after q k in
      let one : FoundSign = record { sign = s; width = f.width } in
      let other : FoundSign = record { sign = t; width = g.width } in
      let same : one ≡ other = same_Some one other (sym f.found ∙ g.found) in
      (ap (λ (x : FoundSign). x.sign) same, f.left ∙ ap (λ (x : FoundSign). drop x.width (c ∷ after)) same ∙ sym g.left)

  -- and is read in one way
  pub one_reading : (text r q : List ℕ) (a b : List Sign) → Reads number text a r → Reads number text b q → r ≡ [] → q ≡ [] → a ≡ b
  one_reading _ _ _ _ _ (nothing text) (nothing _) e f = refl
  one_reading _ _ _ _ _ (nothing text) (one_more s ss _ more rest h hs) e f = nil_sign s text more e h
  one_reading _ _ _ _ _ (one_more s ss text more rest h hs) (nothing _) e f = nil_sign s text more f h
  one_reading _ _ _ _ _ (one_more s ss text more rest h hs) (one_more t ts _ more' rest' k ks) e f =
      let same = one_sign s t text more more' h k in
      ap (λ x. x ∷ ss) same.0
      ∙ ap (λ xs. t ∷ xs) (one_reading more rest rest' ss ts hs (subst (λ (w : List ℕ). Reads number w ts rest') (sym same.1) ks) e f)

  -- no sign begins at a `<` with which no tag begins
  pub stuck : (sign : Sign) (after rest : List ℕ) → BeginsWithNoTag number (60 ∷ after) → IsSign number sign (60 ∷ after) rest → ⊥
  stuck (Letter c) after rest never h = h.1.0 (sym (head_is 60 c after rest h.0))
  stuck (Escaped c) after rest never h = let same : 60 ≡ 92 = head_is 60 92 after (c ∷ rest) h.0 in omega (arith, same)
  stuck (Tagged tag) after rest never h = never tag rest h

  stuck_at : (sign : Sign) (text after rest : List ℕ) → text ≡ 60 ∷ after → BeginsWithNoTag number (60 ∷ after)
      → IsSign number sign text rest → ⊥
  stuck_at sign text after rest e never h = stuck sign after rest never (subst (λ (t : List ℕ). IsSign number sign t rest) e h)

  -- a text that is read stops nowhere
  pub read_or_stuck : (text r q after : List ℕ) (a b : List Sign) → Reads number text a r → Reads number text b q → r ≡ []
      → q ≡ 60 ∷ after → BeginsWithNoTag number (60 ∷ after) → ⊥
  read_or_stuck _ _ _ after _ _ (nothing text) (nothing _) e f never = no_text 60 after (sym e ∙ f)
  read_or_stuck _ _ _ after _ _ (nothing text) (one_more s ss _ more rest h hs) e f never = nil_sign s text more e h
  read_or_stuck _ _ _ after _ _ (one_more s ss text more rest h hs) (nothing _) e f never = stuck_at s text after more f never h
  read_or_stuck _ _ _ after _ _ (one_more s ss text more rest h hs) (one_more t ts _ more' rest' k ks) e f never =
      let same = one_sign s t text more more' h k in
      read_or_stuck more rest rest' after ss ts hs (subst (λ (w : List ℕ). Reads number w ts rest') (sym same.1) ks) e f never

  -- a text that stops does so at one place
  pub one_stop : (text r q after later : List ℕ) (a b : List Sign) → Reads number text a r → Reads number text b q
      → r ≡ 60 ∷ after → BeginsWithNoTag number (60 ∷ after) → q ≡ 60 ∷ later → BeginsWithNoTag number (60 ∷ later) → r ≡ q
  one_stop _ _ _ after later _ _ (nothing text) (nothing _) e never f none = refl
  one_stop _ _ _ after later _ _ (nothing text) (one_more s ss _ more rest h hs) e never f none = absurd
      (stuck_at s text after more e never h)
  one_stop _ _ _ after later _ _ (one_more s ss text more rest h hs) (nothing _) e never f none = absurd
      (stuck_at s text later more f none h)
  one_stop _ _ _ after later _ _ (one_more s ss text more rest h hs) (one_more t ts _ more' rest' k ks) e never f none =
      let same = one_sign s t text more more' h k in
      one_stop more rest rest' after later ss ts hs (subst (λ (w : List ℕ). Reads number w ts rest') (sym same.1) ks) e never f none

-- one sign more is read
pub reads_more : (number : List ℕ → Option ℕ) (text rest more : List ℕ) (signs : List Sign) (sign : Sign) → Reads number text signs rest
    → IsSign number sign rest more → Reads number text (signs ++ sign ∷ []) more
reads_more number _ _ more _ sign (nothing text) h = one_more sign [] text more more h (nothing more)
reads_more number _ _ more _ sign (one_more s ss text after rest k ks) h =
    one_more s (ss ++ sign ∷ []) text after more k (reads_more number after rest more ss sign ks h)
