-- Each step keeps the rule of a deque.
use Rattle.std.proofs.Common.{◌≡◌, ◌≢◌, ℕ, zero, suc, ◌-◌, ◌<◌, ◌≤◌, length, List, [], ◌∷◌, ◌++◌, set, sym, refl, ap, ◌∙◌, subst, ⊎_elim, append_assoc, arith}
use mathlib.Core.Option.{some, some-injective, some-ne-none}
use lib.ListN.{get_elem?}
use Rattle.std.proofs.lemmas.List.Sums.{sum_by_push}
use Rattle.crossbeam_deque.specs.Tasks.{Pushes, Takes, Finds, FindsFew, Forks, Merges}
use Rattle.crossbeam_deque.proofs.Lists.{at_set, at_snoc}
use Rattle.g4_hands.specs.declared.share.Share.{Share}
use Rattle.g4_hands.specs.Dealing.{times}
use Rattle.g4_hands.specs.Shares.{share, all_parts, no_share, joined, Fits, IsFirst, IsShared, WasEmpty}
use Rattle.g4_hands.proofs.Counts.{sum-set, sum-at, sum-two, times-append}

abbrev parts_of : Share → ℕ
parts_of v = v.parts

abbrev times_of : ℕ → Share → ℕ
times_of x v = times x v.taken

abbrev AllFit : List ℕ → List Share → Type 0
AllFit put views = (seat : ℕ) (v : Share) → get_elem? views seat ≡ some v → Fits put v

fit_set : (put : List ℕ) (views : List Share) (seat : ℕ) (w : Share) → Fits put w → AllFit put views → AllFit put (set views seat w)
fit_set put views seat w mine all j u e =
    ⊎_elim (λ (x : (j ≡ seat) × (w ≡ u)). subst (Fits put) x.1 mine) (λ (x : (j ≢ seat) × (get_elem? views j ≡ some u)). all j u x.1)
    (at_set views seat j w u e)

fit_one : (put : List ℕ) (v : Share) → Fits put v → AllFit put (v ∷ [])
fit_one put v mine zero u e = subst (Fits put) (some-injective v u e) mine
fit_one put v mine (suc j) u e = absurd (some-ne-none u (sym e))

pub begins : IsShared [] (share all_parts [] [] ∷ [])
begins = record {
  put = [];
  gone = [];
  order = refl;
  parts = refl;
  taken = λ x. refl;
  fits = fit_one [] (share all_parts [] [])
      ((λ h. refl), λ h. refl);
}

pub pushes : (seat : ℕ) (v : Share) (xs : List ℕ) → v.parts ≡ all_parts
    → Pushes IsShared seat v xs (λ w. w ≡ share v.parts (v.dealt ++ xs) v.taken)
pushes seat v xs all items views h at =
    let w : Share = share v.parts (v.dealt ++ xs) v.taken in
    let some_part : 0 < v.parts = omega (arith, all) in
    let same : v.dealt ≡ h.put = (h.fits seat v at).1 some_part in
    let others : (j : ℕ) (u : Share) → j ≢ seat → get_elem? views j ≡ some u → u.parts ≡ 0 = λ j u n e.
    let two = sum-two parts_of views j seat u v e at n in omega (arith, all, two, h.parts) in (
      w,
      record {
        put = h.put ++ xs;
        gone = h.gone;
        order = ap (λ l. l ++ xs) h.order ∙ append_assoc h.gone items xs;
        parts = (let s = sum-set parts_of views seat v w at in omega (arith, s, h.parts));
        taken = λ x. (let s = sum-set (times_of x) views seat v w at in omega (arith, s, h.taken x));
        fits = λ j u e. ⊎_elim
            (λ (x : (j ≡ seat) × (w ≡ u)). subst (Fits (h.put ++ xs)) x.1
            ((λ none. absurd (omega (arith, none, all))), λ _. ap (λ l. l ++ xs) same))
            (λ (x : (j ≢ seat) × (get_elem? views j ≡ some u)).
            ((h.fits j u x.1).0, λ some_of. absurd (let none = others j u x.0 x.1 in omega (arith, none, some_of))))
            (at_set views seat j w u e);
      },
      refl,
    )

pub takes : (seat : ℕ) (v : Share) → 0 < v.parts
    → Takes IsShared seat v 1 (λ xs w. (w ≡ share v.parts v.dealt (v.taken ++ xs)) × IsFirst v xs)
takes seat v some_part xs items views more one h at =
    let w : Share = share v.parts v.dealt (v.taken ++ xs) in
    let same : v.dealt ≡ h.put = (h.fits seat v at).1 some_part in
    let order : h.put ≡ (h.gone ++ xs) ++ items = h.order ∙ sym (append_assoc h.gone xs items) in (
      w,
      record {
        put = h.put;
        gone = h.gone ++ xs;
        order = order;
        parts = (let s = sum-set parts_of views seat v w at in omega (arith, s, h.parts));
        taken = λ x. (let s = sum-set (times_of x) views seat v w at in let a = times-append x v.taken xs in
            let b = times-append x h.gone xs in omega (arith, s, a, b, h.taken x));
        fits = fit_set h.put views seat w ((λ none. absurd (omega (arith, none, some_part))), λ _. same) h.fits;
      },
      (
        refl,
        record {
          before = h.gone;
          after = items;
          views = views;
          seat = seat;
          rule = h;
          mine = at;
          are = same ∙ order;
          earlier = λ y. (let s = sum-at (times_of y) views seat v at in omega (arith, s, h.taken y));
        },
      ),
    )

pub finds : (seat : ℕ) (v : Share) → Finds IsShared seat v (WasEmpty v)
finds seat v views h at = record { views = views; seat = seat; rule = h; mine = at }

nothing : (xs : List ℕ) (n : ℕ) → length xs ≤ n → n ≡ 0 → xs ≡ []
nothing [] n h z = refl
nothing (x ∷ xs) n h z = absurd (omega (arith, h, z))

pub finds_few : (few seat : ℕ) (v : Share) → few ≡ 0 → FindsFew IsShared few seat v (WasEmpty v)
finds_few few seat v z items views le h at =
    record { views = views; seat = seat; rule = subst (λ (l : List ℕ). IsShared l views) (nothing items few le z) h; mine = at }

pub forks : (seat : ℕ) (v : Share) → 1 < v.parts → Forks IsShared seat v (share (v.parts - 1) v.dealt v.taken) (share 1 v.dealt [])
forks seat v two items views h at =
    let l : Share = share (v.parts - 1) v.dealt v.taken in
    let r : Share = share 1 v.dealt [] in
    let same : v.dealt ≡ h.put = (h.fits seat v at).1 (omega (arith, two)) in
    let vs : List Share = set views seat l in
    let old : AllFit h.put vs = fit_set h.put views seat l ((λ none. absurd (omega (arith, none, two))), λ _. same) h.fits in
    record {
      put = h.put;
      gone = h.gone;
      order = h.order;
      parts = (let s = sum-set parts_of views seat v l at in let p = sum_by_push parts_of vs r in omega (arith, s, p, h.parts, two));
      taken = λ x. (let s = sum-set (times_of x) views seat v l at in let p = sum_by_push (times_of x) vs r in
          omega (arith, s, p, h.taken x));
      fits = λ j u e. ⊎_elim (λ x. old j u x) (λ (is : r ≡ u). subst (Fits h.put) is ((λ none. absurd (omega (arith, none))), λ _. same))
          (at_snoc vs r u j e);
    }

pub merges : (seat : ℕ) (v : Share) (other : ℕ) (u : Share) → 0 < v.parts → Merges IsShared seat v other u (joined v u) no_share
merges seat v other u some_part items views h at two at' =
    let both : Share = joined v u in
    let vs : List Share = set views seat both in
    let same : v.dealt ≡ h.put = (h.fits seat v at).1 some_part in
    let now : AllFit h.put vs = fit_set h.put views seat both ((λ none. absurd (omega (arith, none, some_part))), λ _. same) h.fits in
    record {
      put = h.put;
      gone = h.gone;
      order = h.order;
      parts = (let s = sum-set parts_of views seat v both at in let p = sum-set parts_of vs other u no_share at' in
          omega (arith, s, p, h.parts));
      taken = λ x. (let s = sum-set (times_of x) views seat v both at in let p = sum-set (times_of x) vs other u no_share at' in
          let a = times-append x v.taken u.taken in omega (arith, s, p, a, h.taken x));
      fits = fit_set h.put vs other no_share ((λ _. refl), λ some_of. absurd (omega (arith, some_of))) now;
    }
