use Rattle.std.proofs.Common.{◌≡◌, ◌<◌, [], false, length, Some, ap, ◌∙◌, arith}
use Rattle.std.proofs.lemmas.Bool.{OnFalse_at}
use Rattle.std.proofs.lemmas.Grind.{common_steps}
use Rattle.qv_cases_terms.proofs.Leaves.{has-words}
use Rattle.qv_choose_cases.proofs.Leaves.{region-formula}
use Rattle.qv_choose_cases.proofs.ready.is_region.Goals as goal

pub returns-in-Bool-clause-formula : goal.returns-in-Bool-clause-formula
returns-in-Bool-clause-formula c = λ h.
    let low : c.args.id < length c.args.store.now = grind (arith, common_steps) in
    let plain : c.quantified.result ≡ false = grind (arith, common_steps) in
    region-formula c.args.point.now c.args.store.now c.args.id c.sort.ensures.shared (c.have_words.ensures h) low (OnFalse_at plain c.quantified.ensures.free) (c.sort.ensures.sort ∙ ap Some c.in-Bool.is)

pub returns-in-Bool-clause-places : goal.returns-in-Bool-clause-places
returns-in-Bool-clause-places c = λ h.
    let low : c.args.id < length c.args.store.now = grind (arith, common_steps) in
    let plain : c.quantified.result ≡ false = grind (arith, common_steps) in
    has-words [] c.args.point.now c.args.store.now c.args.id c.sort.ensures.shared (c.have_words.ensures h) low (OnFalse_at plain c.quantified.ensures.free)
