use Rattle.std.proofs.Common.{List, sym, subst}
use Rattle.std.specs.Prelude.{IfOk}
use Rattle.qv_words.specs.Tree.{Tree}
use Rattle.qv_cnf.specs.Listing.{Numbered}
use Rattle.qv_cnf.specs.LratLine.{lines_of}
use Rattle.qv_cnf.specs.Refutation.{standing_at}
use Rattle.qv_gates.specs.Closing.{Adds}
use Rattle.qv_meter.specs.Bases.{IsBaseOf}
use Rattle.qv_closed.specs.Cores.{IsLaid}
use Rattle.qv_solve_refute.proofs.Fed.{numbered-list}
use Rattle.qv_solve_refute.proofs.laying.laid_list.Goals as goal

pub laid_core-requires-clause-adds : goal.laid_core-requires-clause-adds
laid_core-requires-clause-adds c =
    subst (λ (b : List Numbered). Adds (standing_at b) (lines_of c.args.steps.items)) (sym (numbered-list c.args.clauses.now c.requires.numbered)) c.requires.adds

pub returns-clause-laid : goal.returns-clause-laid
returns-clause-laid c =
    subst (λ (b : List Numbered). IfOk c.laid_core.result (λ laid. IsLaid laid.core b (lines_of laid.steps.items))) (numbered-list c.args.clauses.now c.requires.numbered) c.laid_core.ensures.laid

pub returns-clause-base : goal.returns-clause-base
returns-clause-base c =
    subst (λ (b : List Numbered). IfOk c.laid_core.result (λ laid. (formulas : List Tree) → IsBaseOf b formulas → IsBaseOf laid.core.base formulas)) (numbered-list c.args.clauses.now c.requires.numbered) c.laid_core.ensures.base
