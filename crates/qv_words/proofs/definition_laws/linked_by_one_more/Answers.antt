use Rattle.std.proofs.Common.{[]}
use Rattle.qv_words.proofs.Shorter.{entries-shorter, last-entry, entries-longer}
use Rattle.qv_words.proofs.definition_laws.linked_by_one_more.Goals as goal

pub returns : goal.returns
returns _ p entries e = (λ h. (entries-shorter p [] entries e h, last-entry p [] entries e h), λ h. entries-longer p [] entries e h.0 h.1)
