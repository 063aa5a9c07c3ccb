use Rattle.std.proofs.Common.{◌≡◌, ◌-◌, ◌≤◌, length, take, All}
use Rattle.g4_tokens.specs.declared.token.Token.{Token}
use Rattle.g4_lexer.specs.Lexers.{HasTokenTypes, IsOfText}
use Rattle.g4_lexer.specs.Positions.{first_position, position_after}
use Rattle.g4_lexer.specs.Tokens.{EndsBy, HasText}
use Rattle.g4_lexer.proofs.Reached.{Reached, BeginsBy}
use Rattle.g4_lexer.proofs.scanning.scan.Given as goal

abbrev pub invariant-loop-start : goal.invariant-loop-start
invariant-loop-start l = record {
  matcher : l.matcher ≡ (l.lexer.net, l.lexer.modes);
  within : l.start ≤ length l.text;
  at_is : l.at ≡ position_after first_position (take l.start l.text);
  few : length l.tokens.items ≤ l.start;
  limited : length l.tokens.items ≤ l.room;
  types : HasTokenTypes l.lexer → All (λ (token : Token). IsOfText token.symbol) l.tokens.items;
  spans : All (EndsBy l.at.offset) l.tokens.items;
  texts : All HasText l.tokens.items;
  begins : BeginsBy l.at.offset l.begun;
  reached : Reached l.lexer l.text l.room l.tokens.items l.start
      (record { at = l.at; mode = l.effects.mode; pushed = l.effects.pushed; begun = l.begun });
}

abbrev pub decreases-loop-start : goal.decreases-loop-start
decreases-loop-start l = length l.text - l.start
