use Rattle.qv_prenex_laws.proofs.FormLengths.{conjunction-form}
use Rattle.qv_prenex_laws.proofs.laws.conjunction_form.Goals as goal

pub returns : goal.returns
returns _ = conjunction-form
