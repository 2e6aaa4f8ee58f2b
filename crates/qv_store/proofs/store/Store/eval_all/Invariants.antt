-- the words of the terms so far
use Rattle.std.proofs.Common.{◌≡◌, length}
use Rattle.qv_store.specs.Evaluating.{AreWords}
use Rattle.qv_store.proofs.store.Store.eval_all.Given as goal

abbrev pub invariant-terms : goal.invariant-terms
invariant-terms l =
    record { many : length l.words.items ≡ l.term-index; right : AreWords l.consts l.places l.self l.term-items l.words.items }
