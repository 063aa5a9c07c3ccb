-- What reading tokens answers, by the tokens up to the first bracket that opens too deep.
use Rattle.std.proofs.Common.{◌≡◌, ◌<◌, ◌≤◌, ◌+◌, ℕ, List, [], ◌∷◌, ◌++◌, zero, suc, Result, Ok, Err, Some, slice_get, length, take, drop, refl, sym, ◌∙◌, ap, subst, arith, true≢false, append-nil, length-take, take-append-drop}
use Rattle.std.proofs.Math.Seq.{take-append-add}
use Rattle.std.proofs.lemmas.List.{drop_all, take-map, drop-map, length-map}
use Rattle.g4_grammar_tokens.specs.declared.token.Kind.TheVariants as kinds
use Rattle.g4_grammar_tokens.specs.declared.token.Token.{Token}
use Rattle.g4_source.specs.declared.source.Source.{Source}
use Rattle.g4_syntax.specs.Notation.{Spelled, sign}
use Rattle.g4_syntax.specs.Productions.{grammar}
use Rattle.g4_syntax.specs.Trees.{BeginsText, HasTree, TextStops, begins_there}
use Rattle.g4_syntax.proofs.FirstStop.{begins_text}
use Rattle.g4_cursor.specs.Parts.{AreParts, each_is}
use Rattle.g4_cursor.specs.Sets.{HasNoBad}
use Rattle.g4_cursor.specs.Texts.{from, spelled, spelled_token}
use Rattle.g4_productions.specs.declared.reader.Stop.{Stop}
use Rattle.g4_productions.specs.declared.reader.Stop.TheVariants as stops
use Rattle.g4_productions.specs.Answering.{BeginsBadAt, IsFirstTooDeep, ReadsAll, StopsWithin}
use Rattle.g4_productions.specs.Grammars.{HasBadSetAt, ReadsText}
use Rattle.g4_productions.specs.Nesting.{IsTooDeep, NoneTooDeep, NoneTooDeepBefore, IsNested}
use Rattle.g4_productions.proofs.TooDeep.{bad_at, nested, stops_from}

-- what reading all tokens answers is the answer where no bracket opens too deep
pub all_read : (bytes : List ℕ) (tokens : List Token) (result : Result Source Stop) → NoneTooDeep (spelled bytes tokens)
    → ReadsAll bytes tokens result → ReadsText bytes tokens result
all_read bytes tokens (Ok source) none (is, good) = (is, good, none)
all_read bytes tokens (Err (stops.At index)) none (stop, good) =
    (stop, good, λ front other parts deep. absurd (none front other parts deep))
all_read bytes tokens (Err (stops.BadSet place)) none (rest, found, is) =
    (rest, found, (λ front other parts deep. absurd (none front other parts deep)), is)
all_read bytes tokens (Err stops.Nesting) none never = absurd never
all_read bytes tokens (Err stops.NoMemory) none given = tt

-- where reading tokens comes to their end, some grammar text begins with them
pub read_whole : (bytes : List ℕ) (tokens : List Token) (source : Source) → ReadsAll bytes tokens (Ok source)
    → StopsWithin bytes tokens stops.Nesting
read_whole bytes tokens source ((tree, has, is), good) =
    (([], tree, subst (λ (l : List Spelled). HasTree l tree) (sym (append-nil (spelled bytes tokens))) has), good)

-- also where more tokens would have to follow
pub stops_at_end : (bytes : List ℕ) (tokens : List Token) (index : ℕ) → length tokens ≤ index
    → TextStops (spelled bytes tokens) (from bytes tokens index) → HasNoBad grammar (spelled bytes tokens)
    → StopsWithin bytes tokens stops.Nesting
stops_at_end bytes tokens index past stop good =
    let none : from bytes tokens index ≡ [] = ap (spelled bytes) (drop_all index tokens past) in
    let all : spelled bytes tokens ≡ spelled bytes tokens ++ [] = sym (append-nil (spelled bytes tokens)) in (
      begins_text (spelled bytes tokens) (spelled bytes tokens) [] all
          (subst (λ (l : List Spelled). TextStops (spelled bytes tokens) l) none stop),
      good,
    )

-- the first tokens of a text are parts of it
pub first_parts : (bytes : List ℕ) (tokens : List Token) (n : ℕ) → AreParts bytes tokens → AreParts bytes (take n tokens)
first_parts bytes tokens n (each_is are) = each_is (λ at token is. are at token (within n tokens at token is))
  where
    within : (n : ℕ) (tokens : List Token) (at : ℕ) (token : Token) → slice_get (take n tokens) at ≡ Some token
        → slice_get tokens at ≡ Some token
    within zero tokens zero token is = absurd (cc)
    within zero tokens (suc at) token is = absurd (cc)
    within (suc n) [] at token is = is
    within (suc n) (t ∷ tokens) zero token is = is
    within (suc n) (t ∷ tokens) (suc at) token is = within n tokens at token is

-- The first bracket that opens too deep is at this index.
module _ (bytes : List ℕ) (tokens : List Token) (at : ℕ) (found : IsFirstTooDeep (spelled bytes tokens) at) (bracket : Spelled)
    (others : List Spelled) (is : drop at (spelled bytes tokens) ≡ bracket ∷ others) where
  abbrev front : List Spelled
  front = take at (spelled bytes tokens)

  whole : spelled bytes tokens ≡ front ++ bracket ∷ others
  whole = sym (take-append-drop at (spelled bytes tokens)) ∙ ap (λ (l : List Spelled). front ++ l) is

  deep : IsTooDeep front (bracket ∷ others)
  deep = subst (IsTooDeep front) is found.deep

  first : NoneTooDeepBefore (front ++ bracket ∷ others) (bracket ∷ others)
  first = subst (λ (l : List Spelled). NoneTooDeepBefore l (bracket ∷ others)) whole
      (subst (NoneTooDeepBefore (spelled bytes tokens)) is found.first)

  -- the tokens up to it
  taken : spelled bytes (take (at + 1) tokens) ≡ front ++ bracket ∷ []
  taken =
      let long : at ≡ length front = omega (arith, length-take at (spelled bytes tokens), found.within) in
      sym (take-map (spelled_token bytes) (at + 1) tokens) ∙ ap (take (at + 1)) whole
      ∙ ap (λ (n : ℕ). take (n + 1) (front ++ bracket ∷ others)) long ∙ take-append-add front (bracket ∷ others) 1

  -- what reading answers where it stops before these tokens
  abbrev Stopped : List Spelled → List Spelled → Type 0
  Stopped tokens rest = TextStops tokens rest × HasNoBad grammar tokens × NoneTooDeepBefore tokens rest

  -- where reading the tokens up to it stops, so does reading all
  pub deep_read : (stop : Stop) → StopsWithin bytes (take (at + 1) tokens) stop → ReadsText bytes tokens (Err stop)
  deep_read (stops.At index) (inside, stop, good) =
      let some : List Spelled = spelled bytes (take (at + 1) tokens) in
      let here : TextStops (front ++ bracket ∷ []) (drop index (front ++ bracket ∷ [])) =
      subst (λ (l : List Spelled). TextStops l (drop index l)) taken
      (subst (TextStops (spelled bytes (take (at + 1) tokens))) (sym (drop-map (spelled_token bytes) index (take (at + 1) tokens))) stop) in
      let none : HasNoBad grammar (front ++ bracket ∷ []) = subst (HasNoBad grammar) taken good in
      let within : index < length (front ++ bracket ∷ []) = omega
      (arith, inside, length-map (take (at + 1) tokens) (spelled_token bytes), ap length taken) in
      let there = stops_from front bracket others deep.opens first index within here none in
      let stopped : Stopped (spelled bytes tokens) (drop index (spelled bytes tokens)) =
      subst (λ (l : List Spelled). Stopped l (drop index l)) (sym whole) (there.stop, there.good, there.shallow) in
      subst (Stopped (spelled bytes tokens)) (drop-map (spelled_token bytes) index tokens) stopped
  deep_read (stops.BadSet place) bad =
      subst (λ (l : List Spelled). HasBadSetAt l place) (sym whole)
      (bad_at front bracket others deep.opens first place (subst (λ (l : List Spelled). BeginsBadAt l place) taken bad))
  deep_read stops.Nesting (begins, good) =
      subst IsNested (sym whole)
      (nested front bracket others deep.opens deep (subst BeginsText taken begins) (subst (HasNoBad grammar) taken good))
  deep_read stops.NoMemory given = tt

-- what reading the tokens up to the first bracket that opens too deep answers is the answer
pub deep_is_read : (bytes : List ℕ) (tokens : List Token) (at : ℕ) → IsFirstTooDeep (spelled bytes tokens) at → (stop : Stop)
    → StopsWithin bytes (take (at + 1) tokens) stop → ReadsText bytes tokens (Err stop)
deep_is_read bytes tokens at found stop within = by_rest (drop at (spelled bytes tokens)) refl
  where
    by_rest : (rest : List Spelled) → drop at (spelled bytes tokens) ≡ rest → ReadsText bytes tokens (Err stop)
    by_rest [] is = absurd (true≢false (sym found.deep.opens ∙ ap (begins_there (sign kinds.LeftParenthesis)) is))
    by_rest (bracket ∷ others) is = deep_read bytes tokens at found bracket others is stop within
