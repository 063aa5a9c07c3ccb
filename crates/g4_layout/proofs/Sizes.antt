-- How many states what is laid out has: as many as the table makes of it.
use Rattle.std.proofs.Common.{◌≡◌, ℕ, ◌+◌, ◌≤◌, List, length, refl, arith}
use Rattle.g4_source.specs.Elements.{Element, Elements, Alternatives, none, or}
use Rattle.g4_grammar.specs.declared.step.Step.{Step}
use Rattle.g4_net.specs.declared.network.Network.{Network}
use Rattle.g4_layout.specs.Decisions.{number_of}
use Rattle.g4_layout.specs.Layout as lay
use Rattle.g4_layout.specs.Layout.{Lies, LieInOrder, LieSideBySide, LiesAsRule}
use Rattle.g4_layout.specs.Size.{states_of, states_in_order, states_of_bodies, states_of_rule, more_if_several}

module _ {L : Type 0} where
  -- there are as many first states as alternatives
  pub as_many : {net : Network L} {xs : Alternatives (Step L)} {firsts lasts : List ℕ} {n m : ℕ}
      → LieSideBySide net xs firsts lasts n m → number_of xs ≡ length firsts
  as_many (lay.no_other n) = refl
  as_many (lay.another x xs last n k m firsts lasts l ls) = omega (arith, as_many ls)

  -- several alternatives of a rule are bodies side by side
  several_states : (xs : Alternatives (Step L)) → 2 ≤ number_of xs → states_of_rule xs ≡ states_of_bodies xs
  several_states none two = absurd (omega arith)
  several_states (or x none) two = absurd (omega arith)
  several_states (or x (or y more)) two = refl

  -- those of a block have a state more
  several_more : (xs : Alternatives (Step L)) → 2 ≤ number_of xs → more_if_several xs ≡ 1
  several_more none two = absurd (omega arith)
  several_more (or x none) two = absurd (omega arith)
  several_more (or x (or y more)) two = refl

  mutual
    -- the states of an element
    lies_size : {net : Network L} {x : Element (Step L)} {s t n m : ℕ} → Lies net x s t n m → m ≡ n + states_of x
    lies_size (lay.an_edge label s n is) = refl
    lies_size (lay.a_call rule level s n is) = refl
    lies_size (lay.a_predicate k s n is) = refl
    lies_size (lay.a_level q s n is) = refl
    lies_size (lay.an_action s n is) = refl
    lies_size (lay.an_empty s n is) = refl
    lies_size (lay.one_alternative name x s t n m l) = omega (arith, in_order_size l)
    lies_size (lay.a_block name xs firsts lasts s n m two is l a) =
        let many : 2 ≤ number_of xs = omega (arith, as_many l) in omega (arith, sides_size l, several_states xs many, several_more xs many)
    lies_size (lay.an_optional name sign xs firsts lasts s n m is l a exit) = omega (arith, sides_size l)
    lies_size (lay.a_star name sign xs firsts lasts s n m is l a) = omega (arith, sides_size l)
    lies_size (lay.a_plus_of_one name sign xs first lasts s n m is l a again) = omega (arith, sides_size l)
    lies_size (lay.a_plus name sign xs firsts lasts s n m two is l a again) = omega (arith, sides_size l)

    -- the same of elements one after another
    in_order_size : {net : Network L} {xs : Elements (Step L)} {s t n m : ℕ} → LieInOrder net xs s t n m → m ≡ n + states_in_order xs
    in_order_size (lay.no_more s n) = omega arith
    in_order_size (lay.one_more x xs s mid t n k m l ls) = omega (arith, lies_size l, in_order_size ls)

    -- the same of bodies side by side
    sides_size : {net : Network L} {xs : Alternatives (Step L)} {firsts lasts : List ℕ} {n m : ℕ}
        → LieSideBySide net xs firsts lasts n m → m ≡ n + states_of_bodies xs
    sides_size (lay.no_other n) = omega arith
    sides_size (lay.another x xs last n k m firsts lasts l ls) = omega (arith, in_order_size l, sides_size ls)

  -- the states of a rule but for its start and end
  pub rule_size : {net : Network L} {rule n m : ℕ} {xs : Alternatives (Step L)} → LiesAsRule net rule xs n m → m ≡ n + states_of_rule xs
  rule_size (lay.of_one rule last n m x l leads) = in_order_size l
  rule_size (lay.of_several rule n m xs firsts lasts two is l a) = omega (arith, sides_size l, several_states xs (omega (arith, as_many l)))
