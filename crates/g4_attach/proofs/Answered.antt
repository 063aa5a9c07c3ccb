-- What the call that attaches a parser grammar answers where its lexer grammar is not numbered.
use Rattle.std.proofs.Common.{◌≡◌, ◌≤◌, List, length, Option, Some, None, Err, sym, subst, arith, length-append}
use Rattle.g4_source.specs.declared.source.Source.{Source}
use Rattle.g4_token_file.specs.declared.entry.TokenEntry.{TokenEntry}
use Rattle.g4_vocab.specs.Answers.{CausesNumberFault}
use Rattle.g4_vocab.specs.Numbering.{first_own_literal}
use Rattle.g4_vocab.specs.declared.fault.TheConstants.{MOST_RULES}
use Rattle.g4_vocab.specs.declared.fault.NumberFault.{NumberFault}
use Rattle.g4_vocab.specs.declared.fault.NumberFault.TheVariants as numbering
use Rattle.g4_attach.specs.Attaching.{IsAnswer, IsAttached, attached_of, lexer_of, of_number}
use Rattle.g4_attach.specs.declared.fault.AttachFault.TheVariants.{Types, NoMemory}

module _ (table : List TokenEntry) (parser lexer : Source) (given : Option Source) (is : lexer_of given ≡ Some lexer) where
  -- each literal names a lexer rule's token, and the rules are few enough
  pub not_numbered : (fault : NumberFault) → first_own_literal (attached_of parser lexer) ≡ None
      → length (attached_of parser lexer).rules ≤ MOST_RULES → CausesNumberFault table lexer fault
      → IsAttached table parser given (Err (of_number fault))
  not_numbered numbering.Rules named few cause = absurd (omega (arith, few, cause, length-append parser.rules lexer.rules))
  not_numbered numbering.Types named few cause =
      subst (λ (o : Option Source). IsAnswer table parser o (Err Types)) (sym is) (named, few, cause.1)
  not_numbered numbering.NoMemory named few cause =
      subst (λ (o : Option Source). IsAnswer table parser o (Err NoMemory)) (sym is) tt
