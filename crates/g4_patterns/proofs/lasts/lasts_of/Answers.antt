use Rattle.std.proofs.Common.{◌≡◌, ◌-◌, ◌≤◌, ◌∷◌, [], ℕ, suc, List, length, drop, reverse, sym, ◌∙◌, ap, subst, arith, rules}
use Rattle.std.proofs.lemmas.List.{reverse-append}
use Rattle.g4_trees.specs.declared.tree.Item.TheVariants as items
use Rattle.g4_patterns.specs.Lasts.{AreLasts, Read, read}
use Rattle.g4_patterns.proofs.Read.{are_lasts, kept, read_more}
use Rattle.g4_patterns.proofs.lasts.lasts_of.Goals as goal

pub loop-place-preserved : goal.loop-place-preserved
loop-place-preserved c =
    let loop = c.loop-place in
    let xs = c.args.items.now in
    let one : loop.place ≡ suc (loop.place - 1) = omega (arith, c.loop-place-test.true) in
    let below : loop.place ≤ length c.args.items.now = search rules in
    let before : kept loop.open_ends.items loop.lasts.items ≡ read (suc (loop.place - 1)) (drop (suc (loop.place - 1)) xs) =
    subst (λ (k : ℕ). kept loop.open_ends.items loop.lasts.items ≡ read k (drop k xs)) one loop.invariant in
    read_more xs (loop.place - 1) (items.Enter 0 0 0) (kept loop.open_ends.items loop.lasts.items)
    (kept c.last_of.new.open_ends.items c.push.new.self.items) (omega arith) before
    (c.in_ok-last.ensures.open (reverse loop.lasts.items))
    (ap reverse c.in_ok-push.ensures.items ∙ reverse-append loop.lasts.items (c.in_ok-last.last ∷ [])
    ∙ c.in_ok-last.ensures.last (reverse loop.lasts.items))

pub returns : goal.returns
returns c =
    let xs = c.args.items.now in
    let none : c.loop-place.place ≡ 0 = omega (arith, c.loop-place-test.false) in
    let same : reverse c.loop-place.lasts.items ≡ (read 0 xs).lasts =
    ap (λ (r : Read). r.lasts) (c.loop-place.invariant ∙ ap (λ (k : ℕ). read k (drop k xs)) none) in
    subst (λ (ls : List ℕ). AreLasts xs ls) (sym (c.reverse.ensures.items ∙ same)) (are_lasts xs)
