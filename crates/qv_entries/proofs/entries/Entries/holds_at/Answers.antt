-- The first of the entries, from a table without terms.
use Rattle.std.proofs.Common.{◌≡◌, map, ap, sym, subst, ◌∙◌}
use Rattle.std.specs.Prelude.{All, IfOk}
use Rattle.qv_words.specs.Word.{values_of}
use Rattle.qv_store.specs.Problems.{quantifier_of}
use Rattle.qv_entries.specs.Rows.{entries_in, regions_of, row_of}
use Rattle.qv_entries.specs.Holding.{HoldsAt, IsAskable, IsFirstWith}
use Rattle.qv_entries.proofs.Tables.{table-none}
use Rattle.qv_entries.proofs.entries.Entries.holds_at.Goals as goal

pub first_holding-requires-clause-table : goal.first_holding-requires-clause-table
first_holding-requires-clause-table c =
    table-none c.args.store.now c.args.point.now c.new-table.result c.new-table.ensures.walk c.new-table.ensures.words

pub first_holding-requires-clause-askable : goal.first_holding-requires-clause-askable
first_holding-requires-clause-askable c =
    let same : map row_of c.deref.result.now ≡ c.args.self.now = ap (map row_of) c.deref.ensures.value ∙ c.self.view_is in
    subst (λ rows. All (IsAskable c.args.store.now c.args.point.now) (regions_of c.args.level (quantifier_of c.args.winner) rows)) (sym same) c.requires

pub returns : goal.returns
returns c =
    let same : map row_of c.deref.result.now ≡ c.args.self.now = ap (map row_of) c.deref.ensures.value ∙ c.self.view_is in
    subst (λ rows. IfOk c.first_holding.result (IsFirstWith (HoldsAt c.args.level (quantifier_of c.args.winner) (values_of c.args.point.now)) (entries_in c.args.store.now rows))) same c.first_holding.ensures
