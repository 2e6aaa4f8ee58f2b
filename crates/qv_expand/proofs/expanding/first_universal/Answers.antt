use Rattle.std.proofs.Common.{◌∙◌, sym}
use Rattle.qv_entries.specs.Rows.{row_of}
use Rattle.qv_expand.proofs.FirstEntry.{first-found, first-passed}
use Rattle.qv_expand.proofs.expanding.first_universal.Goals as goal

pub entries-preserved : goal.entries-preserved
entries-preserved c = λ trees.
    c.entries.invariant trees ∙ first-passed trees c.args.entries.now c.entries.number (row_of c.entry.result.now) c.entry.ensures (sym c.is_first.ensures ∙ c.if-is_first.false)

pub returns-then-is_first : goal.returns-then-is_first
returns-then-is_first c = λ trees.
    sym (c.entries.invariant trees ∙ first-found trees c.args.entries.now c.entries.number (row_of c.entry.result.now) c.entry.ensures (sym c.is_first.ensures ∙ c.if-is_first.true))
