use Rattle.qv_cert.proofs.Sections.{accepted-are-sections}
use Rattle.qv_cert.proofs.laws.accepted_are_sections.Goals as goal

pub returns : goal.returns
returns c = accepted-are-sections
