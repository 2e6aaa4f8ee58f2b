use Rattle.std.proofs.Common.{◌≡◌, take}
use Rattle.qv_terms.specs.View.{trees}
use Rattle.qv_terms.proofs.replace.+copy.Given as goal

-- the terms so far are copied
abbrev pub invariant-copy_all-loop-term : goal.invariant-copy_all-loop-term
invariant-copy_all-loop-term l = trees l.copied.items ≡ trees (take l.term-index l.terms)
