use Rattle.std.proofs.Common.{sym, ◌∙◌}
use Rattle.qv_check_clauses.proofs.listing.list_all.Goals as goal

pub written-requires : goal.written-requires
written-requires c = c.in_ok-told.ensures.1 ∙ sym c.deref.ensures.value

pub returns : goal.returns
returns c = (c.in_ok-told.ensures.0, c.in_ok-text.ensures)
