use Rattle.qv_prenex_laws.proofs.FormLengths.{form-by-rule}
use Rattle.qv_prenex_laws.proofs.laws.form_rule.Goals as goal

pub returns : goal.returns
returns _ = form-by-rule
