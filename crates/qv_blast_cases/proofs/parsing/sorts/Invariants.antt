use Rattle.std.proofs.Common.{All}
use Rattle.qv_words.specs.Sort.{IsLawful}
use Rattle.qv_blast_cases.proofs.parsing.sorts.Given as goal

abbrev pub invariant-words : goal.invariant-words
invariant-words l = All IsLawful l.sorts.items
