-- A source of which less than the limit and a piece was taken, behind one more call.
use Rattle.std.proofs.Common.{◌<◌, ◌+◌, inl, inr, arith}
use Rattle.std.proofs.lemmas.Bool.{cases_lt}
use Rattle.qv_text.specs.Progress.{Progress, fed}
use Rattle.qv_sexpr.specs.Limits.{piece_size, read_limit}
use Rattle.qv_sexpr.specs.Reader.{TakesBelow}

pub small-later : (old new : Progress) → TakesBelow old new → fed old < read_limit + piece_size → fed new < read_limit + piece_size
small-later old new below small = elim (cases_lt (fed old) (fed new)) [
  | inl more ↦ below.piece more
  | inr same ↦ omega (arith, same, small)
]
