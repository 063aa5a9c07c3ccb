-- A lexer's rules have one network, with the states that are counted.
use Rattle.std.proofs.Common.{◌≡◌, ℕ, List, length, sym, ◌∙◌, ap, arith}
use Rattle.std.proofs.lemmas.List.{length-map}
use Rattle.g4_source.specs.declared.rule.Command.{Command}
use Rattle.g4_source.specs.declared.rule.LexerRule.{LexerRule}
use Rattle.g4_layout.proofs.OneNetwork.{one_network_of}
use Rattle.g4_ordered.specs.Network.{LexerNetwork}
use Rattle.g4_lexer_rules.specs.declared.lex_net.LexNet.{LexNet}
use Rattle.g4_ordered.specs.declared.start.Start.{Start}
use Rattle.g4_lexer_rules.specs.LexNets.{IsLexNet}
use Rattle.g4_lexer_rules.specs.NetworkRules.{all_rules, lexer_states, numberings_of, trees_of}
use Rattle.g4_lexer_rules.specs.Starts.{mode_starts}
use Rattle.g4_lexer_rules.proofs.CanStart.{rules_size}
use Rattle.g4_lexer_rules.proofs.Trees.{tree, trees_states}

-- the same parts
same_parts : (a b : LexNet) → a.net ≡ b.net → a.modes ≡ b.modes → a.commands ≡ b.commands → a ≡ b
same_parts a b net modes commands =
    ap (λ (n : LexerNetwork). record { net = n; modes = a.modes; commands = a.commands }) net ∙
    (ap (λ (ms : List (List Start)). record { net = b.net; modes = ms; commands = a.commands }) modes ∙
    ap (λ (cs : List (List (List Command))). record { net = b.net; modes = b.modes; commands = cs }) commands)

-- there is at most one network
pub one_lex_net : (literals others : List LexerRule) (modes : List (List ℕ)) (a b : LexNet) → IsLexNet literals others modes a
    → IsLexNet literals others modes b → a ≡ b
one_lex_net literals others modes a b x y =
    let rules = all_rules literals others in
    let net : a.net ≡ b.net =
    one_network_of (trees_of rules) (numberings_of rules) (length (trees_of rules)) a.net b.net x.network.network y.network.network
    x.network.callers y.network.callers x.network.numbered y.network.numbered in
    same_parts a b net (x.starts ∙ (ap (λ (n : LexerNetwork). mode_starts n.states literals others modes) net ∙ sym y.starts))
    (x.commands ∙ sym y.commands)

-- how many states it has
pub states_are_counted : (literals others : List LexerRule) (modes : List (List ℕ)) (made : LexNet) → IsLexNet literals others modes made
    → length made.net.states ≡ lexer_states (all_rules literals others)
states_are_counted literals others modes made x =
    let rules = all_rules literals others in
    omega (arith, rules_size made.net (trees_of rules) x.network.network.lie, trees_states rules, length-map rules (tree rules))
