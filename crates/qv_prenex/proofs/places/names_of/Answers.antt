use Rattle.std.proofs.Common.{◌∙◌, ap, map}
use Rattle.std.proofs.lemmas.List.{take_all}
use Rattle.qv_words.specs.declared.sort.Sort.TheVariants.{Bool as BoolSort}
use Rattle.qv_prenex.specs.declared.constants.Constant.{Constant}
use Rattle.qv_prenex.proofs.Problems.{names-more}
use Rattle.qv_prenex.proofs.places.names_of.Goals as goal

pub each-preserved : goal.each-preserved
each-preserved c =
    let d : Constant = record { index = 0; sort = BoolSort } in
    record {
      constants = λ cs order. names-more c.args.constants.now cs c.each.constant-index d c.each.names.constants.keys c.insert.new.self.keys order c.each-test.true (c.each.invariant.constants cs order) c.in_ok-insert.ensures.keys;
      outer = c.each.invariant.outer;
    }

pub returns-clause-constants : goal.returns-clause-constants
returns-clause-constants c = λ cs order.
    c.each.invariant.constants cs order ∙ ap (map (λ (d : Constant). d.index)) (take_all c.each.constant-index c.args.constants.now c.each-test.false)
