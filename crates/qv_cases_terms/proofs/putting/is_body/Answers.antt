use Rattle.std.proofs.Common.{Some, ap, ◌∙◌, arith}
use Rattle.std.proofs.lemmas.Grind.{common_steps}
use Rattle.qv_cases_terms.proofs.Leaves.{sorted-body}
use Rattle.qv_cases_terms.proofs.putting.is_body.Goals as goal

pub returns-in-Bool-clause-sorted : goal.returns-in-Bool-clause-sorted
returns-in-Bool-clause-sorted c = λ h. (
  c.requires,
  sorted-body c.args.level c.args.sort c.args.store.now c.sort.ensures.shared (c.have_level_sort.ensures h) c.args.body grind (arith, common_steps),
  c.sort.ensures.sort ∙ ap Some c.in-Bool.is,
)
