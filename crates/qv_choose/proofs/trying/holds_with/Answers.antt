use Rattle.std.proofs.Common.{◌≡◌, [], Some, ap, sym, subst}
use Rattle.std.specs.Prelude.{IfOk}
use Rattle.qv_store.specs.Nodes.{tree_at}
use Rattle.qv_store.specs.Evaluating.{IsWordOf}
use Rattle.qv_choose_candidates.specs.Offers.{Decides, Stays}
use Rattle.qv_choose_candidates.proofs.TrialUses.{decides-other}
use Rattle.qv_choose.proofs.DefinedLaws.{word-fits, own-word}
use Rattle.qv_choose.proofs.trying.holds_with.Goals as goal

pub stays_true-requires-clause-sort : goal.stays_true-requires-clause-sort
stays_true-requires-clause-sort c = word-fits c.args.point.now c.args.store.now c.args.trial.now.sight.place c.args.term c.in_ok-word.word c.requires.trial.level c.requires.term c.in_ok-word.ensures.sort

pub returns-clause-held : goal.returns-clause-held
returns-clause-held c =
    decides-other c.stays_true.result (Stays c.args.point.now c.args.store.now c.args.region c.args.trial.now.sight.place) (λ u. IsWordOf [] c.args.point.now u c.in_ok-word.word) (λ u. u ≡ tree_at c.args.store.now c.args.term)
    (λ u e. own-word c.args.point.now c.args.store.now c.args.term c.in_ok-word.word u c.in_ok-word.ensures.sort c.in_ok-word.ensures.value e) c.stays_true.ensures.held
