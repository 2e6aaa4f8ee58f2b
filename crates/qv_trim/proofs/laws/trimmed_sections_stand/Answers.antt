use Rattle.qv_trim.proofs.Sectioned.{trimmed_sections_stand}
use Rattle.qv_trim.proofs.laws.trimmed_sections_stand.Goals as goal

pub returns : goal.returns
returns c = trimmed_sections_stand
