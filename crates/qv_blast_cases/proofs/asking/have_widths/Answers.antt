use Rattle.std.proofs.Common.{◌<◌, length, get_or, ◌∙◌}
use Rattle.std.proofs.lemmas.Grind.{common_steps}
use Rattle.std.proofs.Common.{arith}
use Rattle.std.proofs.lemmas.List.{length-map}
use Rattle.qv_circuits.specs.Adding.{lit_of, lits_of}
use Rattle.qv_blast_cases.proofs.Widths.{next-place}
use Rattle.qv_blast_cases.proofs.asking.have_widths.Goals as goal

pub places-preserved : goal.places-preserved
places-preserved c =
    let within : c.places.place < length c.args.sorts.now = grind (arith, common_steps) in
    let arg = get_or c.args.args.now c.places.place c.index-args-place.result in
    next-place (λ v. lits_of v.now) c.args.args.now c.args.sorts.now c.places.place c.index-args-place.result _ c.places-test.true within c.places.invariant
    (length-map arg.now lit_of ∙ c.if-args-place.false ∙ c.width.ensures)
