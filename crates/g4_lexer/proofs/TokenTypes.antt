-- The types of tokens, where rules have token types and commands give them.
use Rattle.std.proofs.Common.{◌≡◌, ◌≤◌, ◌==◌, inl, inr, ℕ, suc, Bool, true, false, cond, List, [], ◌∷◌, Option, Some, None, All, refl, arith}
use Rattle.std.specs.Option.{option_and_then}
use Rattle.std.proofs.lemmas.Bool.Decides.{nat_tests}
use Rattle.std.proofs.lemmas.List.Elements.{All-nil, All-cons}
use Rattle.g4_tokens.specs.Symbols.{eof}
use Rattle.g4_tokens.specs.declared.token.Token.{Token}
use Rattle.g4_lexer.specs.declared.command.LexerCommand.{LexerCommand}
use Rattle.g4_lexer.specs.declared.command.LexerCommand.TheVariants as commands
use Rattle.g4_lexer.specs.declared.effects.Effects.{Effects}
use Rattle.g4_lexer.specs.declared.effects.Fate.{Fate}
use Rattle.g4_lexer.specs.declared.effects.Fate.TheVariants as fates
use Rattle.g4_lexer.specs.declared.position.Position.{Position}
use Rattle.g4_lexer.specs.declared.token.Begun.{Begun}
use Rattle.g4_lexer.specs.Commands.{gone_back, after_command, after_commands}
use Rattle.g4_lexer.specs.Lexers.{GivesTokenType, IsOfText, IsTokenType}
use Rattle.g4_lexer.specs.Tokens.{made_by, type_or_eof}

-- the match makes a token of a token type, if it makes one
abbrev pub HasTokenType : Fate → Type 0
HasTokenType fates.Dropped = Unit {0}
HasTokenType fates.Kept = Unit {0}
HasTokenType (fates.Token symbol) = IsTokenType symbol

-- the same of effects, if there are some
abbrev pub HaveTokenType : Option Effects → Type 0
HaveTokenType None = Unit {0}
HaveTokenType (Some e) = HasTokenType e.fate

back_type : (e : Effects) (pushed : List ℕ) → HasTokenType e.fate → HaveTokenType (gone_back e pushed)
back_type e [] h = tt
back_type e (m ∷ ms) h = h

command_type : (c : LexerCommand) (e : Effects) → GivesTokenType c → HasTokenType e.fate → HaveTokenType (after_command c e)
command_type commands.Skip e g h = tt
command_type commands.More e g h = tt
command_type (commands.Type symbol) e g h = g
command_type (commands.Channel channel) e g h = h
command_type (commands.Mode mode) e g h = h
command_type (commands.PushMode mode) e g h = h
command_type commands.PopMode e g h = back_type e e.pushed h

then_type : (f : Effects → Option Effects) (o : Option Effects) → ((e : Effects) → HasTokenType e.fate → HaveTokenType (f e))
    → HaveTokenType o → HaveTokenType (option_and_then f o)
then_type f None then h = tt
then_type f (Some e) then h = then e h

-- commands leave token types
pub commands_type : (cs : List LexerCommand) (e : Effects) → All GivesTokenType cs → HasTokenType e.fate
    → HaveTokenType (after_commands cs e)
commands_type [] e g h = h
commands_type (c ∷ cs) e g h = then_type (after_commands cs) (after_command c e)
    (λ x k. commands_type cs x (λ i d less. g (suc i) d (omega arith)) k) (command_type c e (g 0 c (omega arith)) h)

-- none gives way to EOF
of_text : (symbol : ℕ) → IsTokenType symbol → IsOfText (type_or_eof symbol)
of_text symbol h = by (symbol == 0) refl
  where
    some : (symbol == 0) ≡ false → 1 ≤ symbol
    some is = grind (arith, nat_tests)

    by : (b : Bool) → (symbol == 0) ≡ b → IsOfText (cond b eof symbol)
    by true is = inr refl
    by false is = elim h [ inl low ↦ inl (some is, low) | inr end ↦ inr end ]

-- so the token that a match makes has one
pub made_types : (fate : Fate) (begun : Begun) (channel : ℕ) (end : Position) → HasTokenType fate
    → All (λ (t : Token). IsOfText t.symbol) (made_by fate begun channel end)
made_types fates.Dropped begun channel end h = λ k d less. absurd (omega arith)
made_types fates.Kept begun channel end h = λ k d less. absurd (omega arith)
made_types (fates.Token symbol) begun channel end h =
    All-cons (λ (t : Token). IsOfText t.symbol) _ [] (of_text symbol h) (All-nil (λ (t : Token). IsOfText t.symbol))
