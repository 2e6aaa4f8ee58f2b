use Rattle.qv_store.specs.Stores.{Grows}
use Rattle.qv_cases_terms.proofs.reading.term.Given as goal

abbrev pub invariant-words : goal.invariant-words
invariant-words l = Grows l.fn.store l.store
