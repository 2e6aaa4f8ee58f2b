use Rattle.qv_lrat_text.specs.Words.{words}
use Rattle.qv_lrat_text.proofs.Ranges.{Gives-range}
use Rattle.qv_lrat_text.proofs.reading.read_step.Goals as goal

pub returns-clause-in_range : goal.returns-clause-in_range
returns-clause-in_range c = Gives-range c.line_of_words.result (words c.without_lf.result.now) c.line_of_words.ensures
