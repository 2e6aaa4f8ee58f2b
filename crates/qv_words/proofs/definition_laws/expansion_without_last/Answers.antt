use Rattle.std.proofs.Common.{[]}
use Rattle.qv_words.proofs.Shorter.{lines-shorter}
use Rattle.qv_words.proofs.definition_laws.expansion_without_last.Goals as goal

pub returns : goal.returns
returns _ p lines line h = lines-shorter p [] lines line h
