use Rattle.std.proofs.Common.{◌≡◌, ◌<◌, ◌+◌, ◌*◌, ◌%◌, ℕ, List, length, get_or, ◌∙◌, ap, arith}
use Rattle.std.proofs.lemmas.List.{take_all}
use Rattle.std.proofs.lemmas.Nat.{mod_below}
use Rattle.g4_stacks.specs.declared.sum.TheConstants.{MODULUS}
use Rattle.g4_configs.specs.Hashing.{factor_of, row_code}
use Rattle.g4_configs.specs.Rows.{row_of}
use Rattle.g4_configs.proofs.Coding.{code_more}
use Rattle.g4_configs.proofs.snapshot.hash.code_of.Goals as goal

pub loop-index-preserved : goal.loop-index-preserved
loop-index-preserved c =
    let keys = c.args.keys.now in
    let sums = c.args.sums.now in
    let i = c.loop-index.index in
    let key = get_or keys i (0, 0) in
    let sum = c.index-sums-index.result in
    let lt : i < length keys = c.loop-index-test.true in
    let less : i < length sums = let fits = c.requires in omega arith in
    let times : c.times.result ≡ (factor_of key.0 key.1 * ((sum.total + 3 * sum.count) % MODULUS)) % MODULUS =
    c.times.ensures.is ∙ ap (λ (m : ℕ). (m * ((sum.total + 3 * sum.count) % MODULUS)) % MODULUS) c.factor.ensures.is in (
      mod_below (c.loop-index.code + c.times.result) MODULUS (omega arith),
      λ lists each. code_more keys lists sums sum i c.loop-index.code c.times.result each lt less c.index-sums-index.is
          (c.loop-index.invariant.1 lists each) times,
    )

pub returns : goal.returns
returns c = λ lists each.
    c.loop-index.invariant.1 lists each
    ∙ ap (λ (keys : List (ℕ × ℕ)). row_code (row_of keys lists)) (take_all c.loop-index.index c.args.keys.now c.loop-index-test.false)
