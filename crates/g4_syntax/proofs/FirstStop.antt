-- The tokens before a stop begin some grammar text, and none goes on with the next one.
use Rattle.std.proofs.Common.{◌≡◌, List, [], ◌∷◌, ◌++◌, refl, sym, ap, subst, ◌∙◌, inl, inr, append_assoc, append-nil}
use Rattle.std.proofs.lemmas.List.{append_cancel_right}
use Rattle.g4_syntax.specs.Notation.{Spelled}
use Rattle.g4_syntax.specs.Productions.{grammar}
use Rattle.g4_syntax.specs.Trees.{Reads, Comes, Stops, BeginsText, TextStops, within, after, Ends}
use Rattle.g4_syntax.proofs.Unique.{one_reading, never_both}
use Rattle.g4_syntax.proofs.Texts.{text, reads_text, read_before, comes_after}
use Rattle.g4_syntax.proofs.Local.{reads_again, comes_again}
use Rattle.g4_syntax.proofs.WellFormed.{grammar_well_formed}
use Rattle.g4_syntax.proofs.Complete.{completes}

-- the tokens before a stop begin some grammar text
pub begins_text : (tokens first rest : List Spelled) → tokens ≡ first ++ rest → TextStops tokens rest → BeginsText first
begins_text tokens first _ is (within rest stop) =
    let whole = completes stop.comes [] grammar_well_formed refl in
    let same : read_before stop.comes ≡ first =
    append_cancel_right (read_before stop.comes) first rest (sym (comes_after stop.comes) ∙ is) in
    let all : read_before stop.comes ++ (whole.0 ++ []) ≡ first ++ whole.0 =
    ap (λ (l : List Spelled). l ++ (whole.0 ++ [])) same ∙ ap (λ (l : List Spelled). first ++ l) (append-nil (whole.0)) in
    (whole.0, whole.1, subst (λ (l : List Spelled). Reads (whole.1) l []) all whole.2)
begins_text tokens first _ is (after token rest tree reads) =
    let same : text tree ≡ first = append_cancel_right (text tree) first (token ∷ rest)
    (sym (reads_text tree tokens (token ∷ rest) reads) ∙ is) in
    ([], tree, subst (λ (l : List Spelled). Reads tree (l ++ []) []) same (reads_again tree tokens (token ∷ rest) [] reads (inr refl)))

-- no token is left in one reading alone
not_both_ends : (t : Spelled) (ts : List Spelled) → [] ≡ t ∷ ts → ⊥
not_both_ends t ts is = cc

-- no grammar text continues the tokens before a stop with the next one
pub ends_text : (tokens first rest : List Spelled) → tokens ≡ first ++ rest → TextStops tokens rest → Ends first rest
ends_text tokens first [] is (within _ stop) = λ tree has.
    never_both first [] [] tree has (subst (λ (l : List Spelled). Stops grammar l []) (is ∙ append-nil first) stop)
ends_text tokens first (t ∷ rest) is (within _ stop) = λ text_begins.
    let others = text_begins.0 in
    let same : read_before stop.comes ≡ first =
    append_cancel_right (read_before stop.comes) first (t ∷ rest) (sym (comes_after stop.comes) ∙ is) in
    let again = subst (λ (l : List Spelled). Comes stop.terminal grammar (l ++ t ∷ others) (t ∷ others)) same
    (comes_again stop.comes (t ∷ others) (λ x. refl)) in
    let has = subst (λ (l : List Spelled). Reads (text_begins.1) l []) (append_assoc first (t ∷ []) others) text_begins.2 in
    never_both (first ++ t ∷ others) [] (t ∷ others) (text_begins.1) has
    (record { terminal = stop.terminal; comes = again; none = stop.none })
ends_text tokens first (t ∷ rest) is (after _ _ tree reads) = λ text_begins.
    let others = text_begins.0 in
    let same : text tree ≡ first = append_cancel_right (text tree) first (t ∷ rest) (sym (reads_text tree tokens (t ∷ rest) reads) ∙ is) in
    let again = subst (λ (l : List Spelled). Reads tree (l ++ t ∷ others) (t ∷ others)) same
    (reads_again tree tokens (t ∷ rest) (t ∷ others) reads (inl (λ x. refl))) in
    let has = subst (λ (l : List Spelled). Reads (text_begins.1) l []) (append_assoc first (t ∷ []) others) text_begins.2 in
    not_both_ends t others (one_reading (text_begins.1) tree (first ++ t ∷ others) [] (t ∷ others) has again).1
