use Rattle.std.proofs.Common.{◌≡◌, ◌<◌, ◌++◌, ◌∷◌, [], ℕ, List, Some, length, get_or, replicate, slice_get, rules, refl, sym, ap, ◌∙◌, subst, ⊎_elim, arith, length-append}
use Rattle.std.proofs.lemmas.Option.{slice_get_read}
use Rattle.std.proofs.lemmas.Iterator.Consumers.{YieldsList-turn}
use Rattle.std.proofs.lemmas.Iterator.Adapters.{YieldsList-from_vec}
use Rattle.g4_hands.specs.Reaches.{DequeId, Reach}
use Rattle.g4_hands.specs.Rows.{fresh_row}
use Rattle.g4_hands.specs.Hands.{Holding, IsHand, holding}
use Rattle.g4_hands.proofs.Lists.{get_snoc}
use Rattle.g4_hands.proofs.Holdings.{fresh_hand, fresh_holding}
use Rattle.g4_hands.proofs.deal.hands_of.Goals as goal

pub new-requires : goal.new-requires
new-requires c =
    let rows = c.args.rows.items in
    let n = c.loop-row.number in
    let x : List Reach = c.in-Some.row in
    let turn : (length c.loop-row.yielded < length rows) × (x ≡ get_or rows (length c.loop-row.yielded) x) =
    YieldsList-turn (YieldsList-from_vec {s = c.into_iter-row-iterator.result} rows (search rules) (search rules))
    c.loop-row.yielded c.loop-row.row-iterator c.loop-row.yielded_by c.next.result c.next.new.self x c.in-Some.is c.next.ensures.steps in
    let names : List DequeId = c.requires.rows.0 in
    let within : n < length rows = omega (arith, turn.0, c.loop-row.invariant.0) in
    let here : x ≡ get_or rows n x = turn.1 ∙ ap (λ (i : ℕ). get_or rows i x) (sym c.loop-row.invariant.0) in
    let at : slice_get rows n ≡ Some x = slice_get_read rows (length rows) n x refl within here in
    let row : x ≡ fresh_row c.args.files (length rows) n 0 names = c.requires.rows.2.each n x at in
    subst (IsHand c.args.files n) (sym c.into_seats.ensures)
    (fresh_hand c.args.files (length rows) n names x c.requires.rows.1 c.requires.few.1 within row)

pub loop-row-preserved : goal.loop-row-preserved
loop-row-preserved c =
    let rows = c.args.rows.items in
    let files = c.args.files in
    let n = c.loop-row.number in
    let x : List Reach = c.in-Some.row in
    let turn : (length c.loop-row.yielded < length rows) × (x ≡ get_or rows (length c.loop-row.yielded) x) =
    YieldsList-turn (YieldsList-from_vec {s = c.into_iter-row-iterator.result} rows (search rules) (search rules))
    c.loop-row.yielded c.loop-row.row-iterator c.loop-row.yielded_by c.next.result c.next.new.self x c.in-Some.is c.next.ensures.steps in
    let within : n < length rows = omega (arith, turn.0, c.loop-row.invariant.0) in
    let here : x ≡ get_or rows n x = turn.1 ∙ ap (λ (i : ℕ). get_or rows i x) (sym c.loop-row.invariant.0) in
    let at : slice_get rows n ≡ Some x = slice_get_read rows (length rows) n x refl within here in
    let hands : List Holding = c.loop-row.hands.items in
    let new : Holding = c.new.result in
    let more : c.push.new.self.items ≡ hands ++ new ∷ [] = c.in_ok-push.ensures.items in
    let is : new ≡ holding files n x = c.new.ensures ∙ ap (holding files n) c.into_seats.ensures in (
      omega (arith, c.loop-row.invariant.0, length-append c.loop-row.yielded (x ∷ [])),
      omega (arith, ap length more, length-append hands (new ∷ []), c.loop-row.invariant.1),
      λ names long are m h got. (
          let Fresh : ℕ → Holding
          → Type 0 = λ i v. v ≡ record {
            deal = record { files = files; jobs = length rows; deques = names };
            number = i;
            taken =
                replicate (length rows) [];
          } in
          let last : Fresh n new = is ∙ fresh_holding files (length rows) n names x long (are.each n x at) in
          ⊎_elim (λ (old : slice_get hands m ≡ Some h). c.loop-row.invariant.2 names long are m h old)
          (λ (new_one : (m ≡ length hands) × (h ≡ new)).
          subst (Fresh m) (sym new_one.1) (subst (λ (i : ℕ). Fresh i new) (sym (new_one.0 ∙ c.loop-row.invariant.1)) last))
          (get_snoc hands new h m (sym (ap (λ (l : List Holding). slice_get l m) more) ∙ got))),
    )
