use Rattle.std.proofs.Common.{◌≡◌, ◌<◌, length, sym, ◌∙◌, ap, refl, arith, Some, slice_get}
use Rattle.std.proofs.lemmas.Option.{slice_get_read}
use Rattle.g4_matching.specs.Partitions.{Classing, class_in, classing}
use Rattle.g4_matching.proofs.classes.CharClasses.class_of.Goals as goal

pub returns-in-Some-clause-within : goal.returns-in-Some-clause-within
returns-in-Some-clause-within c =
    let a = c.args.character in
    let class = c.in-Some.class.now in
    let own = classing c.self.inside.partition in
    let there : slice_get c.self.inside.table.items a ≡ Some class =
    ap (λ l. slice_get l a) (sym c.deref.ensures.value)
    ∙ slice_get_read c.deref.result.now (length c.deref.result.now) a class refl c.in-Some.ensures.lookup.3.0
    c.in-Some.ensures.lookup.1 in
    let is : class ≡ class_in own a = c.self.invariant.1 a class there in
    let within : class_in own a < own.count = c.self.invariant.0.within a in
    let same : own.count ≡ c.args.self.now.count = ap (λ (v : Classing). v.count) c.self.view_is in
    omega arith

pub returns-in-None-clause-within : goal.returns-in-None-clause-within
returns-in-None-clause-within c =
    let a = c.args.character in
    let own = classing c.self.inside.partition in
    let within : class_in own a < own.count = c.self.invariant.0.within a in
    let same : own.count ≡ c.args.self.now.count = ap (λ (v : Classing). v.count) c.self.view_is in
    let is = c.class_of.ensures in
    omega arith
