use Rattle.std.proofs.Common.{refl, sym, ◌∙◌, ◌≡◌}
use Rattle.g4_cursor.proofs.Moving.{so, upon, first, second, left_out, there, led, or_here, or_there, or_nowhere}
use Rattle.g4_source.specs.declared.element.Repeat.TheVariants as repeats
use Rattle.g4_syntax.specs.Notation.{optional, sign}
use Rattle.g4_syntax.specs.Trees.{Tree, both}
use Rattle.g4_grammar_tokens.specs.declared.token.Kind.TheVariants as kinds
use Rattle.g4_productions.specs.Elements.{is_greedy, suffix_of}
use Rattle.g4_productions.proofs.suffix.optional_suffix.Goals as goal

pub returns-then-is_at : goal.returns-then-is_at
returns-then-is_at c = there (led _ _ _ refl ∙ or_here _ _ _ (sym c.is_at.ensures ∙ c.if-is_at.true))
    (upon {P = λ a. (lazy : Tree (optional (sign kinds.Question)))
    → c.suffix.result ≡ record { greedy = is_greedy lazy }
    → repeats.Optional c.suffix.result ≡ suffix_of (both a lazy)}
    (first (sym c.is_at.ensures ∙ c.if-is_at.true) (so c.take.ensures (λ a taken lazy is. rw is refl)))
    (so c.suffix.ensures (λ lazy is a says. says lazy is)))

pub returns-then-is_at-2 : goal.returns-then-is_at-2
returns-then-is_at-2 c = there (led _ _ _ refl ∙ or_there _ _ _ (or_here _ _ _ (sym c.is_at-2.ensures ∙ c.if-is_at-2.true)))
    (upon {P = λ a. (lazy : Tree (optional (sign kinds.Question)))
    → c.suffix-then-is_at-2.result ≡ record { greedy = is_greedy lazy }
    → repeats.Star c.suffix-then-is_at-2.result ≡ suffix_of (both a lazy)}
    (second (sym c.is_at.ensures ∙ c.if-is_at.false)
    (first (sym c.is_at-2.ensures ∙ c.if-is_at-2.true)
    (so c.take-then-is_at-2.ensures (λ a taken lazy is. rw is refl))))
    (so c.suffix-then-is_at-2.ensures (λ lazy is a says. says lazy is)))

pub returns-then-is_at-3 : goal.returns-then-is_at-3
returns-then-is_at-3 c = there (led _ _ _ refl ∙ or_there _ _ _ (or_there _ _ _ (sym c.is_at-3.ensures ∙ c.if-is_at-3.true)))
    (upon {P = λ a. (lazy : Tree (optional (sign kinds.Question)))
    → c.suffix-then-is_at-3.result ≡ record { greedy = is_greedy lazy }
    → repeats.Plus c.suffix-then-is_at-3.result ≡ suffix_of (both a lazy)}
    (second (sym c.is_at.ensures ∙ c.if-is_at.false)
    (second (sym c.is_at-2.ensures ∙ c.if-is_at-2.false)
    (so c.take-then-is_at-3.ensures (λ a taken lazy is. rw is refl))))
    (so c.suffix-then-is_at-3.ensures (λ lazy is a says. says lazy is)))

pub returns : goal.returns
returns c = left_out _ (led _ _ _ refl ∙ or_nowhere _ _ _ (sym c.is_at.ensures ∙ c.if-is_at.false)
    (or_nowhere _ _ _ (sym c.is_at-2.ensures ∙ c.if-is_at-2.false) (sym c.is_at-3.ensures ∙ c.if-is_at-3.false))) refl
