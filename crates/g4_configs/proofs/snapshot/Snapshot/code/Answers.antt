use Rattle.std.proofs.Common.{◌∙◌, ℕ, List, length, sym, ap, subst, arith}
use Rattle.g4_configs.specs.Hashing.{row_code}
use Rattle.g4_configs.specs.Rows.{row_of}
use Rattle.g4_stacks.specs.Hashing.{EachSum}
use Rattle.g4_stacks.specs.declared.sum.Sum.{Sum}
use Rattle.g4_configs.proofs.Coding.{as_many, as_many_parts}
use Rattle.g4_configs.proofs.snapshot.Snapshot.code.Goals as goal

pub code_of-code-requires : goal.code_of-code-requires
code_of-code-requires c =
    let keys = c.self.inside.keys.items in
    let lists = c.self.inside.stacks in
    let parts = as_many_parts keys lists c.self.invariant in
    let sums = as_many c.in_ok-sums.sums.items lists c.in_ok-sums.ensures in
    let one = ap length c.deref.ensures.value in
    let two = ap length c.as_slice.ensures.value in
    omega arith

pub returns : goal.returns
returns c =
    let keys = c.self.inside.keys.items in
    let lists = c.self.inside.stacks in
    let each : EachSum c.as_slice.result.now lists =
    subst (λ (sums : List Sum). EachSum sums lists) (sym c.as_slice.ensures.value) c.in_ok-sums.ensures in
    c.code_of-code.ensures lists each
    ∙ (ap (λ (qs : List (ℕ × ℕ)). row_code (row_of qs lists)) c.deref.ensures.value ∙ ap row_code c.self.view_is)
