use Rattle.std.proofs.Common.{sym}
use Rattle.g4_fetch.specs.Vocabularies.{setting_vocabulary}
use Rattle.g4_fetch.proofs.Lasts.{last_none}
use Rattle.g4_fetch.proofs.vocabulary.prequel_vocabulary.Goals as goal

pub returns-in-Import : goal.returns-in-Import
returns-in-Import c = rw c.in-Import.is (sym (last_none setting_vocabulary))

pub returns-in-Tokens : goal.returns-in-Tokens
returns-in-Tokens c = rw c.in-Tokens.is (sym (last_none setting_vocabulary))

pub returns-in-Channels : goal.returns-in-Channels
returns-in-Channels c = rw c.in-Channels.is (sym (last_none setting_vocabulary))
