-- those so far
use Rattle.std.proofs.Common.{◌≡◌, ℕ, Bool, filter, take}
use Rattle.qv_choose_clauses.specs.Implying.{AreSaid}
use Rattle.qv_choose_clauses.proofs.implying.picked.Given as goal

abbrev pub invariant-terms : goal.invariant-terms
invariant-terms l = (test : ℕ → Bool) → AreSaid test l.ids l.clauses l.marks → l.picked.items ≡ filter test (take l.number l.ids)
