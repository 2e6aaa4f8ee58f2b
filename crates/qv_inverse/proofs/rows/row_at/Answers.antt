use Rattle.std.proofs.Common.{◌≤◌, length, rules, arith}
use borrow.Author.Tests.{ltb-true, ltb-false}
use Rattle.qv_inverse.proofs.RowLemmas.{no_row-long}
use Rattle.qv_inverse.proofs.rows.row_at.Goals as goal
use Rattle.qv_inverse.proofs.rows.row_at.Goals.{in_default-via-then-sorts-lt1, in_default-via-else-sorts-lt1+else-sorts-lt2+else-sorts-lt3}

pub returns-in_default : goal.returns-in_default
returns-in_default c = elim c.in_default.branch [
  | in_default-via-then-sorts-lt1 w ↦ absurd (omega (arith, ltb-true))
  | in_default-via-else-sorts-lt1+else-sorts-lt2+else-sorts-lt3 w ↦ let long : 3 ≤ length c.args.sorts.now = omega (arith, ltb-true, ltb-false) in search (rules, no_row-long)
]
