use Rattle.std.proofs.Common.{sym, ◌∙◌}
use Rattle.qv_elab_items.proofs.Indexing.{indexed-name, indexed-none, indexed-not}
use Rattle.qv_elab_items.proofs.shapes.indexed_name.Goals as goal

pub returns-then-is_empty : goal.returns-then-is_empty
returns-then-is_empty c = indexed-none c.args.text.now c.in_ok-first.first.now c.in_ok-first.numerals.now c.args.items.now c.in_ok-name.name.now c.in_ok-first.ensures.cases.0 (sym c.in_ok-name.ensures) (sym c.is_empty.ensures ∙ c.if-is_empty.true)

pub returns-then-not-are_numerals : goal.returns-then-not-are_numerals
returns-then-not-are_numerals c = indexed-not c.args.text.now c.in_ok-first.first.now c.in_ok-first.numerals.now c.args.items.now c.in_ok-name.name.now c.in_ok-first.ensures.cases.0 (sym c.in_ok-name.ensures) (sym c.are_numerals.ensures ∙ c.if-not-are_numerals.true)

pub returns : goal.returns
returns c = indexed-name c.args.text.now c.in_ok-first.first.now c.in_ok-first.numerals.now c.args.items.now c.in_ok-name.name.now c.in_ok-first.ensures.cases.0 (sym c.in_ok-name.ensures) (sym c.is_empty.ensures ∙ c.if-is_empty.false) (sym c.are_numerals.ensures ∙ c.if-not-are_numerals.false)
