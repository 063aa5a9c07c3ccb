use Rattle.std.proofs.Common.{ℕ, ◌≡◌, ◌≤◌, arith, ◌∙◌, sym, subst, Option, Some, IfSome, length-drop, length-take}
use Rattle.g4_chars.specs.declared.item.Found.{Found}
use Rattle.g4_chars.proofs.Reading.{items_more}
use Rattle.g4_chars.proofs.item.read_items.Goals as goal

-- what is found is within the text
is_within : {o : Option Found} {n : ℕ} (f : Found) → o ≡ Some f → IfSome o (λ g. g.taken ≤ n) → f.taken ≤ n
is_within {n = n} f is within = subst (λ (o : Option Found). IfSome o (λ g. g.taken ≤ n)) is within

pub loop-at-preserved : goal.loop-at-preserved
loop-at-preserved c =
    let within = is_within c.in-Some.found c.in-Some.is c.in_ok-found.ensures.within in (
      items_more c.args.text.now c.loop-at.at c.index-text-at.result c.loop-at.out.items _ c.in-Some.found c.loop-at-test.true
          c.index-text-at.is (sym c.in_ok-found.ensures.value ∙ c.in-Some.is) c.in_ok-push.ensures.items ∙ c.loop-at.invariant.0,
      omega (arith, within, length-drop {A = ℕ}, length-take {A = ℕ}),
    )
