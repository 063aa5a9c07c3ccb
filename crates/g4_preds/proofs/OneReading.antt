-- A text is at most one predicate.
use Rattle.std.proofs.Common.{◌≡◌, ℕ, List, [], ◌∷◌, drop, refl, ap, ◌∙◌, subst, sym}
use Rattle.g4_preds.specs.declared.token.Token.{Token}
use Rattle.g4_preds.specs.Grammar.{IsOr}
use Rattle.g4_preds.specs.Readings.{IsPredicate}
use Rattle.g4_preds.specs.Tokens.{AreTokens, at_end, past_blank, with_token}
use Rattle.g4_preds.specs.Trees.{Tree}
use Rattle.g4_preds.proofs.Complete.{one_tree}
use Rattle.g4_preds.proofs.Scanned.{after_blank, after_token, no_token}

-- a text has one list of tokens
pub one_cut : (text : List ℕ) (a b : List Token) → AreTokens text a → AreTokens text b → a ≡ b
one_cut _ _ b at_end second = sym (no_token [] b refl second)
one_cut _ _ b (past_blank c cs a blank first) second = one_cut cs a b first (after_blank (c ∷ cs) c cs b refl blank second)
one_cut _ _ b (with_token c more cs token a formed first) second =
    let rest = after_token (c ∷ cs) c more cs token b refl formed second in
    ap (λ ts. token ∷ ts) (one_cut (drop more cs) a rest.others first rest.cut) ∙ sym rest.are

-- a text is at most one predicate
pub one_reading : (text : List ℕ) (a b : Tree) → IsPredicate text a → IsPredicate text b → a ≡ b
one_reading text a b first second =
    one_tree first.tokens a b first.reads (subst (λ (ts : List Token). IsOr ts b)
    (sym (one_cut text first.tokens second.tokens first.cut second.cut)) second.reads)
