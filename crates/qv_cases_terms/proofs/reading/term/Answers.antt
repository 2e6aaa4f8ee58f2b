use Rattle.qv_store.proofs.Replacement.{grows-more}
use Rattle.qv_cases_terms.proofs.Growing.{grows_same}
use Rattle.qv_cases_terms.proofs.reading.term.Goals as goal

pub words-init : goal.words-init
words-init c = grows_same c.args.store.now

pub words-preserved : goal.words-preserved
words-preserved c = grows-more c.args.store.now c.words.store c.put_word.new.store c.words.invariant c.in_ok-id.ensures
