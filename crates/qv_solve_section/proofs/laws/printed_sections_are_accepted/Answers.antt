use Rattle.qv_solve_section.proofs.PrintedSections.{printed-sections}
use Rattle.qv_solve_section.proofs.laws.printed_sections_are_accepted.Goals as goal

pub returns : goal.returns
returns _ = printed-sections
