use Rattle.std.proofs.Common.{take}
use Rattle.qv_terms.specs.View.{trees}
use Rattle.qv_words_cases.specs.Ready.{HaveWords}
use Rattle.qv_words_cases.proofs.readiness.+words.Given as goal

-- each leaf of the terms so far has a word of its sort
abbrev pub invariant-have_words-loop-term : goal.invariant-have_words-loop-term
invariant-have_words-loop-term l =
    HaveWords l.values.consts.items l.values.levels.items (trees (take l.term-index l.terms))
