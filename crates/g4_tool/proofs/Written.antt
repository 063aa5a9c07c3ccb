-- Lines written one after another.
use Rattle.std.proofs.Common.{◌≡◌, ℕ, ◌+◌, ◌<◌, List, [], ◌∷◌, ◌++◌, length, take, drop, get_or, subst, Option, Some, None, refl, sym, ap, ◌∙◌}
use Rattle.std.proofs.lemmas.List.{append_assoc, append-nil, take-append-drop, take_more, drop_more}
use Rattle.g4_ports.specs.Ports.{with_more, TakesFront}
use Rattle.g4_outcome.specs.declared.line.Line.{Line}
use Rattle.g4_outcome.specs.declared.line.Line.TheVariants.{ToOut, ToErr}
use Rattle.g4_tool.specs.Writing.{out_of, err_of, Wrote, WrotePiece, WroteFront}

pub out_of-append : (xs ys : List Line) → out_of (xs ++ ys) ≡ out_of xs ++ out_of ys
out_of-append [] ys = refl
out_of-append ((ToOut text) ∷ xs) ys = ap (λ t. text ++ t) (out_of-append xs ys) ∙ sym (append_assoc text (out_of xs) (out_of ys))
out_of-append ((ToErr text) ∷ xs) ys = out_of-append xs ys

pub err_of-append : (xs ys : List Line) → err_of (xs ++ ys) ≡ err_of xs ++ err_of ys
err_of-append [] ys = refl
err_of-append ((ToOut text) ∷ xs) ys = err_of-append xs ys
err_of-append ((ToErr text) ∷ xs) ys = ap (λ t. text ++ t) (err_of-append xs ys) ∙ sym (append_assoc text (err_of xs) (err_of ys))

pub with_more-append : (o : Option (List ℕ)) (xs ys : List ℕ) → with_more (with_more o xs) ys ≡ with_more o (xs ++ ys)
with_more-append None xs ys = refl
with_more-append (Some had) xs ys = ap (λ t. Some t) (append_assoc had xs ys)

pub with_more-none : (o : Option (List ℕ)) → o ≡ with_more o []
with_more-none None = refl
with_more-none (Some had) = ap (λ t. Some t) (sym (append-nil had))

-- the same of one sink, of any texts
then_more : (o m n : Option (List ℕ)) (xs ys zs : List ℕ) → zs ≡ xs ++ ys → m ≡ with_more o xs → n ≡ with_more m ys → n ≡ with_more o zs
then_more o m n xs ys zs all first second =
    second ∙ ap (λ t. with_more t ys) first ∙ with_more-append o xs ys ∙ ap (λ t. with_more o t) (sym all)

pub wrote_nothing : (o e : Option (List ℕ)) → Wrote [] o o e e
wrote_nothing o e = record { out = with_more-none o; err = with_more-none e }

pub wrote_to_out : (text : List ℕ) (o o' e : Option (List ℕ)) → o' ≡ with_more o text → Wrote (ToOut text ∷ []) o o' e e
wrote_to_out text o o' e taken = record { out = taken ∙ ap (λ t. with_more o t) (sym (append-nil text)); err = with_more-none e }

pub wrote_to_err : (text : List ℕ) (o e e' : Option (List ℕ)) → e' ≡ with_more e text → Wrote (ToErr text ∷ []) o o e e'
wrote_to_err text o e e' taken = record { err = taken ∙ ap (λ t. with_more e t) (sym (append-nil text)); out = with_more-none o }

pub wrote_then : (xs ys : List Line) (o o' o'' e e' e'' : Option (List ℕ)) → Wrote xs o o' e e' → Wrote ys o' o'' e' e''
    → Wrote (xs ++ ys) o o'' e e''
wrote_then xs ys o o' o'' e e' e'' first second = record {
  out = then_more o o' o'' (out_of xs) (out_of ys) _ (out_of-append xs ys) first.out second.out;
  err = then_more e e' e'' (err_of xs) (err_of ys) _ (err_of-append xs ys) first.err second.err;
}

-- nothing of a line
no_piece : (lines : List Line) (o e : Option (List ℕ)) → WrotePiece lines o o e e
no_piece [] o e = (refl, refl)
no_piece ((ToOut text) ∷ more) o e = (([], text, refl, with_more-none o), refl)
no_piece ((ToErr text) ∷ more) o e = (refl, ([], text, refl, with_more-none e))

-- nothing taken is a front
pub front_nothing : (lines : List Line) (o e : Option (List ℕ)) → WroteFront lines o o e e
front_nothing lines o e = record {
  whole = [];
  rest = lines;
  parts = refl;
  out = o;
  err = e;
  first = wrote_nothing o e;
  piece = no_piece lines o e;
}

-- a front of the first line, where that goes to out
pub front_to_out : (text : List ℕ) (o o' e : Option (List ℕ)) → TakesFront text o o' → WroteFront (ToOut text ∷ []) o o' e e
front_to_out text o o' e taken = record {
  whole = [];
  rest = ToOut text ∷ [];
  parts = refl;
  out = o;
  err = e;
  first = wrote_nothing o e;
  piece = (taken, refl);
}

-- a front of the first line, where that goes to err
pub front_to_err : (text : List ℕ) (o e e' : Option (List ℕ)) → TakesFront text e e' → WroteFront (ToErr text ∷ []) o o e e'
front_to_err text o e e' taken = record {
  whole = [];
  rest = ToErr text ∷ [];
  parts = refl;
  out = o;
  err = e;
  first = wrote_nothing o e;
  piece = (refl, taken);
}

-- a line that goes to out, of which a piece was put
pub piece_to_out : (line : Line) (text piece : List ℕ) (o o' e : Option (List ℕ)) → line ≡ ToOut text → piece ≡ text
    → TakesFront piece o o' → WroteFront (line ∷ []) o o' e e
piece_to_out line text piece o o' e line_is piece_is taken =
    subst (λ (l : Line). WroteFront (l ∷ []) o o' e e) (sym line_is)
    (front_to_out text o o' e (subst (λ (t : List ℕ). TakesFront t o o') piece_is taken))

-- a line that goes to err, of which a piece was put
pub piece_to_err : (line : Line) (text piece : List ℕ) (o e e' : Option (List ℕ)) → line ≡ ToErr text → piece ≡ text
    → TakesFront piece e e' → WroteFront (line ∷ []) o o e e'
piece_to_err line text piece o e e' line_is piece_is taken =
    subst (λ (l : Line). WroteFront (l ∷ []) o o e e') (sym line_is)
    (front_to_err text o e e' (subst (λ (t : List ℕ). TakesFront t e e') piece_is taken))

-- all of it is a front of it
pub wrote_is_front : (xs : List Line) (o o' e e' : Option (List ℕ)) → Wrote xs o o' e e' → WroteFront xs o o' e e'
wrote_is_front xs o o' e e' all = record {
  whole = xs;
  rest = [];
  parts = sym (append-nil xs);
  out = o';
  err = e';
  first = all;
  piece = (refl, refl);
}

-- a piece of the first of these lines, with more after it, or nothing where there is none and nothing after it was taken
piece_of_more : (x : Line) (xs ys : List Line) (o o' e e' : Option (List ℕ)) → WrotePiece (x ∷ xs) o o' e e'
    → WrotePiece ((x ∷ xs) ++ ys) o o' e e'
piece_of_more (ToOut text) xs ys o o' e e' piece = piece
piece_of_more (ToErr text) xs ys o o' e e' piece = piece

-- the lines before one, that line, and those after it
take_then_drop : (xs : List Line) (k : ℕ) (x : Line) → k < length xs → x ≡ get_or xs k x → xs ≡ take k xs ++ x ∷ drop (k + 1) xs
take_then_drop xs k x within is = sym (take-append-drop k xs)
    ∙ ap (λ ys. take k xs ++ ys) (drop_more xs k x within ∙ ap (λ y. y ∷ drop (k + 1) xs) (sym is))

-- one line is not two
longer : (x w v : Line) (more : List Line) → x ∷ [] ≡ w ∷ v ∷ more → ⊥
longer x w v more e = cc

-- a front of one line, after all lines before it, is a front of all
front_behind : (xs ys : List Line) (x : Line) (o o' o'' e e' e'' : Option (List ℕ)) → Wrote xs o o' e e'
    → WroteFront (x ∷ []) o' o'' e' e'' → WroteFront (xs ++ x ∷ ys) o o'' e e''
front_behind xs ys x o o' o'' e e' e'' first f = by_parts f.whole f.rest f.parts f.out f.err f.first f.piece
  where
    by_parts : (whole rest : List Line) → x ∷ [] ≡ whole ++ rest → (m n : Option (List ℕ)) → Wrote whole o' m e' n
        → WrotePiece rest m o'' n e'' → WroteFront (xs ++ x ∷ ys) o o'' e e''
    by_parts [] rest parts m n wrote piece = record {
      whole = xs;
      rest = x ∷ ys;
      parts = refl;
      out = m;
      err = n;
      first = subst (λ zs. Wrote zs o m e n) (append-nil xs) (wrote_then xs [] o o' m e e' n first wrote);
      piece = piece_of_more x [] ys m o'' n e'' (subst (λ zs. WrotePiece zs m o'' n e'') (sym parts) piece);
    }
    by_parts (w ∷ []) [] parts m n wrote piece = record {
      whole = xs ++ x ∷ [];
      rest = ys;
      parts = sym (append_assoc xs (x ∷ []) ys);
      out = o'';
      err = e'';
      first =
          wrote_then xs (x ∷ []) o o' o'' e e' e'' first
          (subst (λ zs. Wrote zs o' o'' e' e'') (sym parts)
          (subst (λ p. Wrote (w ∷ []) o' p e' e'') (sym piece.0) (subst (λ q. Wrote (w ∷ []) o' m e' q) (sym piece.1) wrote)));
      piece = no_piece ys o'' e'';
    }
    by_parts (w ∷ []) (r ∷ rest) parts m n wrote piece = absurd (longer x w r rest parts)
    by_parts (w ∷ v ∷ more) rest parts m n wrote piece = absurd (longer x w v (more ++ rest) parts)

-- a front of the line here, after all lines before it, is a front of all
pub front_with_item : (xs : List Line) (k : ℕ) (x : Line) (o o' o'' e e' e'' : Option (List ℕ)) → k < length xs → x ≡ get_or xs k x →
    Wrote (take k xs) o o' e e' → WroteFront (x ∷ []) o' o'' e' e'' → WroteFront xs o o'' e e''
front_with_item xs k x o o' o'' e e' e'' within is first second =
    subst (λ ys. WroteFront ys o o'' e e'') (sym (take_then_drop xs k x within is))
    (front_behind (take k xs) (drop (k + 1) xs) x o o' o'' e e' e'' first second)

-- the line here, after all lines before it
pub wrote_with_item : (xs : List Line) (k : ℕ) (x : Line) (o o' o'' e e' e'' : Option (List ℕ)) → k < length xs → x ≡ get_or xs k x →
    Wrote (take k xs) o o' e e' → Wrote (x ∷ []) o' o'' e' e'' → Wrote (take (k + 1) xs) o o'' e e''
wrote_with_item xs k x o o' o'' e e' e'' within is first second =
    subst (λ ys. Wrote ys o o'' e e'') (sym (take_more xs k x within ∙ ap (λ y. take k xs ++ y ∷ []) (sym is)))
    (wrote_then (take k xs) (x ∷ []) o o' o'' e e' e'' first second)
