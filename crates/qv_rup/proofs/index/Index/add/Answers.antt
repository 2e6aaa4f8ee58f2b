use Rattle.std.proofs.Common.{List, take, subst, arith, ◌∙◌}
use Rattle.std.proofs.lemmas.List.{take_all}
use Rattle.qv_cnf.specs.Literal.{Literal}
use Rattle.qv_rup.specs.Indexing.{ids_in, IsFiled}
use Rattle.qv_rup.proofs.Indexed.{filed-more}
use Rattle.qv_rup.proofs.index.Index.add.Goals as goal

pub returns-in_err-file-clause-stay : goal.returns-in_err-file-clause-stay
returns-in_err-file-clause-stay c = λ x f. c.file.ensures.stay x (c.filing.invariant.stay x f)

pub filing-preserved : goal.filing-preserved
filing-preserved c = record {
  long = c.file.ensures.size ∙ c.filing.invariant.long;
  stay = λ x f. c.file.ensures.stay x (c.filing.invariant.stay x f);
  filed = filed-more (ids_in c.file.new.lists.items) c.args.id c.args.lits.now c.filing.lit-index c.lit-item.result c.filing-test.true c.lit-item.is
      (c.file.ensures.stay (record { id = c.args.id; lits = take c.filing.lit-index c.args.lits.now }) c.filing.invariant.filed) c.in_ok-file.ensures.there;
}

pub returns-clause-filed : goal.returns-clause-filed
returns-clause-filed c = λ some.
    subst (λ (ls : List Literal). IsFiled (ids_in c.filing.self.lists.items) (record { id = c.args.id; lits = ls })) (take_all c.filing.lit-index c.args.lits.now (omega arith)) c.filing.invariant.filed
