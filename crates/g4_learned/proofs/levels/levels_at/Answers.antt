use Rattle.std.proofs.Common.{◌≡◌, ℕ, List, ◌∷◌, Contains, sym, ap, subst, ◌∙◌}
use Rattle.std.proofs.lemmas.List.{take_all}
use Rattle.std.proofs.lemmas.List.Filters.{dedup_is}
use Rattle.std.proofs.lemmas.List.Kept.{Contains-dedup_nat, Contains-from_dedup}
use Rattle.std.proofs.lemmas.List.Sorted.{Contains-permutation, IsPermutation-sym}
use Rattle.std.proofs.lemmas.Map.Keys.{IsStrictlyIncreasing-dedup}
use Rattle.g4_learned.specs.Levels.{next_levels}
use Rattle.g4_learned.proofs.Guarding.{levels_more, levels_in, levels_from}
use Rattle.g4_learned.proofs.levels.levels_at.Goals as goal

pub loop-target-preserved : goal.loop-target-preserved
loop-target-preserved c = levels_more c.args.net.now c.args.targets.now c.loop-target.target-index _ c.loop-target.levels.items _
    c.loop-target-test.true c.loop-target.invariant c.in_ok-push_level.ensures

pub returns : goal.returns
returns c =
    let all : c.loop-target.levels.items ≡ 0 ∷ next_levels c.args.net.now c.args.targets.now =
    c.loop-target.invariant ∙ ap (λ (ts : List ℕ). 0 ∷ next_levels c.args.net.now ts)
    (take_all c.loop-target.target-index c.args.targets.now c.loop-target-test.false) in
    let is = dedup_is _ _ _ c.dedup.ensures.filtered in
    record {
      rising = rw is (IsStrictlyIncreasing-dedup _ c.sort_unstable.ensures.sorted);
      all = λ l h. rw is (Contains-dedup_nat _ l (Contains-permutation _ _ l c.sort_unstable.ensures.permutation
          (subst (λ (ls : List ℕ). Contains ls l) (sym all) (levels_in (next_levels c.args.net.now c.args.targets.now) l h))));
      only = λ l h. levels_from (next_levels c.args.net.now c.args.targets.now) l (subst (λ (ls : List ℕ). Contains ls l) all
          (Contains-permutation _ _ l (IsPermutation-sym _ _ c.sort_unstable.ensures.permutation)
          (Contains-from_dedup _ _ l (subst (λ (ls : List ℕ). Contains ls l) is h))));
    }
