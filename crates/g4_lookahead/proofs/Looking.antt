-- What a loop over the tokens keeps, with SLL and with full stacks.
use Rattle.std.proofs.Common.{◌≡◌, ◌⊎◌, inl, inr, ℕ, ◌+◌, ◌<◌, ◌≤◌, List, [], ◌∷◌, drop, length, get_or, sym, ap, subst, arith, add-one, drop-cons, Contains}
use Rattle.std.proofs.lemmas.List.{drop_all}
use Rattle.g4_tokens.specs.Symbols.{end_of_list}
use Rattle.g4_net.specs.Network.{ParserNetwork}
use Rattle.g4_tokens.specs.declared.token.Token.{Token}
use Rattle.g4_net.specs.AddedRule.{IsRunnable}
use Rattle.g4_net.specs.Configurations.{Stack, Config, IsWithin}
use Rattle.g4_net.specs.Lookahead.{Start, Next}
use Rattle.g4_tokens.specs.TokenList.{word_of}
use Rattle.g4_net.proofs.Pigeons.{In-from, In-to}
use Rattle.g4_lookahead.proofs.Apart.{StandsApart, Stands, stands_start, stands_next, last}
use Rattle.g4_lookahead.proofs.Judging.{AreSame}

-- what is left of a word is a symbol and what is left after it
pub left : (tokens : List Token) (k : ℕ) (t : Token) → k < length tokens
    → word_of (drop k tokens) ≡ (get_or tokens k t).symbol ∷ word_of (drop (k + 1) tokens)
left tokens k t less = ap (λ (xs : List Token). word_of xs)
    (let e : drop k tokens ≡ get_or tokens k t ∷ drop (k + 1) tokens = rw (add-one, drop-cons tokens k t) in e)

-- END is the symbol or after it
head_or_tail : (a : ℕ) (w : List ℕ) → Contains (a ∷ w) end_of_list → (a ≡ end_of_list) ⊎ Contains w end_of_list
head_or_tail a w (k, less, is) = elim (In-from (a ∷ w) end_of_list k less is) [ inl e ↦ inl (sym e) | inr i ↦ inr (In-to w end_of_list i) ]

-- a set is apart where an equal one is
stands_same : (loop : ℕ) (z : Stack) (C D : Config → Type 0) → AreSame D C → Stands loop z.wild C → Stands loop z.wild D
stands_same loop z C D same s c i = s c ((same c).0 i)

-- What both loops keep: the configurations are apart from the added rule, and END is still to come.
pub record IsLooking (net : ParserNetwork) (z : Stack) (tokens : List Token) (k : ℕ) (C : Config → Type 0) : Type 0 where
  pub rule : ℕ
  pub loop : ℕ
  pub set : List ℕ
  pub runnable : IsRunnable net rule loop set
  pub stands : Stands loop z.wild C
  pub within : ((c : Config) → C c → IsWithin net c)
  pub ahead : Contains (word_of (drop k tokens)) end_of_list

-- it holds of the start set
pub looking_start : (net : ParserNetwork) (d : ℕ) (A : ℕ → Type 0) (z : Stack) (tokens : List Token) (C : Config → Type 0)
    → (rule : ℕ) × (loop : ℕ) × (set : List ℕ) × IsRunnable net rule loop set × StandsApart loop d z.returns
    → AreSame C (Start net d A z) → ((c : Config) → C c → IsWithin net c) → Contains (word_of tokens) end_of_list
    → IsLooking net z tokens 0 C
looking_start net d A z tokens C (rule, loop, set, runnable, apart) has within ends = record {
  rule = rule;
  loop = loop;
  set = set;
  runnable = runnable;
  stands = stands_same loop z (Start net d A z) C has (stands_start net rule loop d A z runnable.apart apart);
  within = within;
  ahead = ends;
}

-- the next set, should it go on
pub looking_next : (net : ParserNetwork) (z : Stack) (tokens : List Token) (k : ℕ) (t : Token) (C D : Config → Type 0)
    → k < length tokens → AreSame D (Next net C (get_or tokens k t).symbol) → ((c : Config) → D c → IsWithin net c)
    → ((p : ℕ) (y : Stack) → ((c : Config) → D c → (c.state ≡ p) × (c.stack ≡ y)) → ⊥) → IsLooking net z tokens k C
    → IsLooking net z tokens (k + 1) D
looking_next net z tokens k t C D less has within spread h = record {
  rule = h.rule;
  loop = h.loop;
  set = h.set;
  runnable = h.runnable;
  stands = stands_same h.loop z (Next net C a) D has (stands_next net h.rule h.loop a z.wild C h.runnable.apart h.stands);
  within = within;
  ahead = elim (head_or_tail a (word_of (drop (k + 1) tokens))
      (subst (λ (w : List ℕ). Contains w end_of_list) (left tokens k t less) h.ahead)) [
        | inl is ↦ absurd (at_end is)
        | inr more ↦ more
      ];
}
  where
    a : ℕ
    a = (get_or tokens k t).symbol

    at_end : a ≡ end_of_list → ⊥
    at_end is =
        let has' : AreSame D (Next net C end_of_list) = subst (λ (b : ℕ). AreSame D (Next net C b)) is has in
        spread 1 (record { returns = []; wild = z.wild })
        (λ c i. last net h.rule h.loop z.wild C h.runnable.apart h.stands c ((has' c).0 i))

-- the tokens do not run out
pub not_past : (net : ParserNetwork) (z : Stack) (tokens : List Token) (k : ℕ) (C : Config → Type 0) → length tokens ≤ k
    → IsLooking net z tokens k C → ⊥
not_past net z tokens k C past h =
    let none : drop k tokens ≡ [] = drop_all k tokens past in
    let no : Contains [] end_of_list = subst (λ (ts : List Token). Contains (word_of ts) end_of_list) none h.ahead in
    omega (arith, no.1)
