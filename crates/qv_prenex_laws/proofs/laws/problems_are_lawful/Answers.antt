use Rattle.qv_prenex_laws.proofs.LawfulProblems.{problems-are-lawful}
use Rattle.qv_prenex_laws.proofs.laws.problems_are_lawful.Goals as goal

pub returns : goal.returns
returns _ = problems-are-lawful
