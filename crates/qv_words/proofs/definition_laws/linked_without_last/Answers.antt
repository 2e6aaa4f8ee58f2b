use Rattle.std.proofs.Common.{[]}
use Rattle.qv_words.proofs.Shorter.{entries-shorter}
use Rattle.qv_words.proofs.definition_laws.linked_without_last.Goals as goal

pub returns : goal.returns
returns _ p entries e h = entries-shorter p [] entries e h
