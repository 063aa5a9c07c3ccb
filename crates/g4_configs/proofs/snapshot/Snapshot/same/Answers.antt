use Rattle.std.proofs.Common.{◌≡◌, ◌∙◌, true≢false, sym}
use Rattle.g4_configs.proofs.Snapshots.{rows_apart, rows_tell}
use Rattle.g4_configs.proofs.snapshot.Snapshot.same.Goals as goal

pub returns-then-not-same_keys : goal.returns-then-not-same_keys
returns-then-not-same_keys c =
    let apart = rows_apart c.self.inside.keys.items c.other.inside.keys.items c.self.inside.stacks c.other.inside.stacks
    c.args.self.now c.args.other.now c.self.view_is c.other.view_is c.self.invariant c.other.invariant in (
      (λ t. absurd (true≢false (sym t))),
      (λ e. absurd
          (true≢false (sym (c.same_keys.ensures.1 (c.deref.ensures.value ∙ apart e ∙ sym c.deref-2.ensures.value))
          ∙ c.if-not-same_keys.true))),
    )

pub returns : goal.returns
returns c =
    let same : c.self.inside.keys.items ≡ c.other.inside.keys.items =
    sym c.deref.ensures.value ∙ c.same_keys.ensures.0 c.if-not-same_keys.false ∙ c.deref-2.ensures.value in
    rows_tell c.self.inside.keys.items c.other.inside.keys.items c.self.inside.stacks c.other.inside.stacks c.args.self.now
    c.args.other.now c.self.view_is c.other.view_is c.self.invariant c.other.invariant c.same.result same c.same.ensures
