use Rattle.qv_prenex_laws.proofs.FormLengths.{form-bounds-agree}
use Rattle.qv_prenex_laws.proofs.laws.form_bounds_agree.Goals as goal

pub returns : goal.returns
returns _ = form-bounds-agree
