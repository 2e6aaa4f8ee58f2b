use Rattle.std.proofs.Common.{◌≡◌, take}
use Rattle.qv_words.specs.Replacement.{replaced_each}
use Rattle.qv_terms.specs.View.{trees, trees_by_level}
use Rattle.qv_terms.proofs.replace.+subst.Given as goal

-- the terms are put into the arguments so far
abbrev pub invariant-subst_all-loop-arg : goal.invariant-subst_all-loop-arg
invariant-subst_all-loop-arg l =
    trees l.made.items ≡ replaced_each (trees_by_level l.terms) (trees (take l.arg-index l.args))
