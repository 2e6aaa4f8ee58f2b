use Rattle.std.proofs.Common.{◌≡◌, None, Option, length, subst}
use Rattle.std.specs.Prelude.{MatchOption}
use Rattle.qv_words.specs.Prenex.{first_choice}
use Rattle.qv_store.specs.Nodes.{tree_at}
use Rattle.qv_prenex_splits.specs.declared.split_store.Sides.{Sides}
use Rattle.qv_prenex_splits.specs.Sides.{IsSplitInto}
use Rattle.qv_prenex_matrix.proofs.rules.split.Goals as goal

pub returns-in-Some-clause-below : goal.returns-in-Some-clause-below
returns-in-Some-clause-below c =
    let new = c.sides_of.new.store in
    let h = subst (λ (o : Option Sides). MatchOption o (first_choice (tree_at c.args.store.now c.args.term) ≡ None) (λ sides. IsSplitInto new c.args.term sides)) c.in-Some.is c.in_ok-sides.ensures.sides in
    c.chosen.ensures.below (length new) h.condition h.yes h.no
