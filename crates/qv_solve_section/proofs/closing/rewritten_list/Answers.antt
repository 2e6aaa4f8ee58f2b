use Rattle.std.proofs.Common.{List, subst}
use Rattle.std.specs.Prelude.{IfOk}
use Rattle.qv_words.specs.Tree.{Tree}
use Rattle.qv_rewrite_passes.specs.Passes.{EachChanges}
use Rattle.qv_solve_section.proofs.closing.rewritten_list.Goals as goal

pub returns-clause-changes : goal.returns-clause-changes
returns-clause-changes c =
    subst (λ (ts : List Tree). IfOk c.rewrite.result (λ made. EachChanges made.passes.items ts)) c.in_ok-first.ensures.list c.rewrite.ensures.changes
