use Rattle.qv_lrat.specs.Verdict.{faulty}
use Rattle.qv_lrat.proofs.checking.text_of.Goals as goal

pub returns-in-Faulty : goal.returns-in-Faulty
unfolding faulty
returns-in-Faulty c = rw c.in-Faulty.is (rw c.fault_word.ensures at c.refusal.ensures)
