-- What is spelled from a state of a lexer's network.
use Rattle.std.specs.Prelude.{◌≡◌, ℕ, List, [], ◌∷◌}
use Rattle.g4_chars.specs.CharSets.{Has}
use Rattle.g4_net.specs.Spelling.{Spells}
use Rattle.g4_ordered.specs.declared.network.Reads.{Reads}
use Rattle.g4_ordered.specs.declared.network.Reads.TheVariants.{Characters, EndOfText}
use Rattle.g4_ordered.specs.Network.{LexerNetwork}

-- what a lexer's label takes: a character of its set; at the end of the text, nothing
abbrev pub TakesText : Reads → List ℕ → List ℕ → Type 0
TakesText (Characters set) w v = (a : ℕ) × (w ≡ a ∷ v) × Has set a
TakesText EndOfText w v = (w ≡ []) × (v ≡ [])

-- from p, what is in the text w before z is spelled
abbrev pub SpellsText : LexerNetwork → ℕ → List ℕ → List ℕ → Type 0
SpellsText net = Spells net TakesText
