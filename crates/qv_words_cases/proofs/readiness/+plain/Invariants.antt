use Rattle.std.proofs.Common.{take}
use Rattle.qv_words.specs.Tree.{AreQuantifierFree}
use Rattle.qv_terms.specs.View.{trees}
use Rattle.qv_words_cases.proofs.readiness.+plain.Given as goal

-- none of the terms so far has a quantifier
abbrev pub invariant-are_plain-loop-term : goal.invariant-are_plain-loop-term
invariant-are_plain-loop-term l = AreQuantifierFree (trees (take l.term-index l.terms))
