use Rattle.std.proofs.Common.{◌≡◌, ◌++◌, ◌∷◌, [], ℕ, List, Some, slice_get, slice_index_or, refl, sym, subst, ap, ◌∙◌, arith}
use Rattle.g4_matching.specs.Joining.{IsEnd, IsNext, IsPast}
use Rattle.g4_matching.specs.Partitions.{Classing, classing}
use Rattle.g4_matching.proofs.Joined.{Going, begins, ends_partition, ends_telling, goes_on, place_within, read_at}
use Rattle.g4_matching.proofs.joining.by_pairs.Goals as goal

pub loop-bound-init : goal.loop-bound-init
loop-bound-init c =
    let l = classing c.args.left.now in
    let r = classing c.args.right.now in
    let pairs = c.number.new.self.pairs.items in
    let classes_are : c.push.new.self.items ≡ c.in_ok-first.first ∷ [] =
    c.in_ok-push.ensures.items ∙ ap (λ (cs : List ℕ). cs ++ c.in_ok-first.first ∷ []) c.new-classes.ensures.items in
    let left_is : c.index.result.now ≡ slice_index_or l.classes 0 0 =
    read_at l.classes 0 c.index.result.now (omega (arith, c.requires.left.parts)) c.index.ensures in
    let right_is : c.index-2.result.now ≡ slice_index_or r.classes 0 0 =
    read_at r.classes 0 c.index-2.result.now (omega (arith, c.requires.right.parts)) c.index-2.ensures in
    let holds : slice_get pairs c.in_ok-first.first ≡ Some (slice_index_or l.classes 0 0, slice_index_or r.classes 0 0) =
    c.in_ok-first.ensures.holds ∙ ap (λ (x : ℕ). Some (x, c.index-2.result.now)) left_is
    ∙ ap (λ (x : ℕ). Some (slice_index_or l.classes 0 0, x)) right_is in
    record {
      going = subst (λ (bs : List ℕ). Going l r 0 0 bs c.push.new.self.items pairs) (sym c.new-bounds.ensures.items)
          (begins l r c.requires.left c.requires.right c.push.new.self.items pairs c.in_ok-first.first classes_are holds);
      numbering = c.in_ok-first.ensures.numbering;
    }

pub loop-bound-preserved : goal.loop-bound-preserved
loop-bound-preserved c =
    let l = classing c.args.left.now in
    let r = classing c.args.right.now in
    let i = c.loop-bound.at_left in
    let j = c.loop-bound.at_right in
    let b = c.in-Some.bound in
    let i' = c.past-at_left.result in
    let j' = c.past-at_right.result in
    let g = c.loop-bound.invariant.going in
    let bounds = c.loop-bound.bounds.items in
    let classes = c.loop-bound.classes.items in
    let pairs = c.loop-bound.pairs.pairs.items in
    let new_pairs = c.number-in-Some.new.self.pairs.items in
    let next : IsNext l.bounds i r.bounds j b =
    subst (λ (xs : List ℕ). IsNext xs i r.bounds j b) c.deref.ensures.value
    (subst (λ (ys : List ℕ). IsNext c.deref.result.now i ys j b) c.deref-in-loop-bound.ensures.value c.in-Some.ensures) in
    let past_left : IsPast l.bounds i b i' =
    subst (λ (xs : List ℕ). IsPast xs i b i') c.deref-in-Some.ensures.value c.past-at_left.ensures in
    let past_right : IsPast r.bounds j b j' = subst (λ (xs : List ℕ). IsPast xs j b j') c.deref-in-Some-2.ensures.value
    c.past-at_right.ensures in
    let left_place = place_within l r c.requires.left c.requires.right i j bounds classes pairs g b next l.bounds i i'
    c.requires.left.rising past_left next.left_after g.left_within in
    let right_place = place_within l r c.requires.left c.requires.right i j bounds classes pairs g b next r.bounds j j'
    c.requires.right.rising past_right next.right_after g.right_within in
    let left_is : c.index-in-Some.result.now ≡ slice_index_or l.classes i' 0 =
    read_at l.classes i' c.index-in-Some.result.now (omega (arith, c.requires.left.parts)) c.index-in-Some.ensures in
    let right_is : c.index-in-Some-2.result.now ≡ slice_index_or r.classes j' 0 =
    read_at r.classes j' c.index-in-Some-2.result.now (omega (arith, c.requires.right.parts)) c.index-in-Some-2.ensures in
    let holds : slice_get new_pairs c.in_ok-class.class ≡ Some (slice_index_or l.classes i' 0, slice_index_or r.classes j' 0) =
    c.in_ok-class.ensures.holds ∙ ap (λ (x : ℕ). Some (x, c.index-in-Some-2.result.now)) left_is
    ∙ ap (λ (x : ℕ). Some (slice_index_or l.classes i' 0, x)) right_is in
    record {
      going = goes_on l r c.requires.left c.requires.right i j bounds classes pairs g b next i' j' past_left past_right
          c.push-in-Some.new.self.items c.push-in-Some-2.new.self.items new_pairs c.in_ok-class.class c.in_ok-push-2.ensures.items
          c.in_ok-push-3.ensures.items c.in_ok-class.ensures.grows holds;
      numbering = c.in_ok-class.ensures.numbering;
    }

pub returns-clause-partition : goal.returns-clause-partition
returns-clause-partition c =
    let l = classing c.args.left.now in
    let r = classing c.args.right.now in
    let own : Classing = record { bounds = c.loop-bound.bounds.items; classes = c.loop-bound.classes.items; count = c.len-count.result } in
    let i = c.loop-bound.invariant in
    let left_end : IsEnd l.bounds c.loop-bound.at_left =
    subst (λ (xs : List ℕ). IsEnd xs c.loop-bound.at_left) c.deref.ensures.value c.in_default.ensures.0 in
    let right_end : IsEnd r.bounds c.loop-bound.at_right =
    subst (λ (xs : List ℕ). IsEnd xs c.loop-bound.at_right) c.deref-in-loop-bound.ensures.value c.in_default.ensures.1 in
    ends_partition l r c.requires.left c.requires.right c.loop-bound.at_left c.loop-bound.at_right c.loop-bound.bounds.items
    c.loop-bound.classes.items c.loop-bound.pairs.pairs.items c.loop-bound.pairs.numbers i.going left_end right_end i.numbering own refl
    refl (c.len-count.ensures ∙ c.loop-bound.pairs.pairs.ok.0)

pub returns-clause-tells : goal.returns-clause-tells
returns-clause-tells c =
    let l = classing c.args.left.now in
    let r = classing c.args.right.now in
    let own : Classing = record { bounds = c.loop-bound.bounds.items; classes = c.loop-bound.classes.items; count = c.len-count.result } in
    let i = c.loop-bound.invariant in
    let left_end : IsEnd l.bounds c.loop-bound.at_left =
    subst (λ (xs : List ℕ). IsEnd xs c.loop-bound.at_left) c.deref.ensures.value c.in_default.ensures.0 in
    let right_end : IsEnd r.bounds c.loop-bound.at_right =
    subst (λ (xs : List ℕ). IsEnd xs c.loop-bound.at_right) c.deref-in-loop-bound.ensures.value c.in_default.ensures.1 in
    ends_telling l r c.requires.left c.requires.right c.loop-bound.at_left c.loop-bound.at_right c.loop-bound.bounds.items
    c.loop-bound.classes.items c.loop-bound.pairs.pairs.items c.loop-bound.pairs.numbers i.going left_end right_end i.numbering own refl
    refl (c.len-count.ensures ∙ c.loop-bound.pairs.pairs.ok.0)
