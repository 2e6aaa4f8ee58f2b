use Rattle.qv_words.proofs.Sections.{section-has-term}
use Rattle.qv_words.proofs.definition_laws.sections_have_terms.Goals as goal

pub returns : goal.returns
returns _ p terms j place ok at existential = section-has-term p terms j place ok at existential
