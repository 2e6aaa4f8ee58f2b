use Rattle.std.proofs.Common.{sym, ◌∙◌, arith}
use Rattle.qv_store.specs.Walks.{named}
use Rattle.qv_store.proofs.Replacement.{none-there}
use Rattle.qv_words.specs.Tree.{Apply}
use Rattle.qv_elab_defs.specs.Applying.{in_trees}
use Rattle.qv_elab_apply.proofs.Applications.{ranked-fault, ranked-none, ranked-deep, ranked-ok}
use Rattle.qv_elab_apply.proofs.applying.apply_ranked.Goals as goal

pub returns-in-Some-clause-answer : goal.returns-in-Some-clause-answer
returns-in-Some-clause-answer c = ranked-fault c.args.place c.args.op (named c.args.store.now c.args.args.now) c.in-Some.kind (sym c.rank_fault.ensures ∙ c.in-Some.is)

pub returns-then-deepest-ge-DEPTH_LIMIT-clause-answer :
    goal.returns-then-deepest-ge-DEPTH_LIMIT-clause-answer
returns-then-deepest-ge-DEPTH_LIMIT-clause-answer c =
    let ts = named c.args.store.now c.args.args.now in
    let none = ranked-none c.args.place c.args.op ts (sym c.rank_fault.ensures ∙ none-there c.rank_fault.result c.in_default.not-Some) in
    ranked-deep c.args.place c.args.op ts none (omega (arith, c.if-deepest-ge-DEPTH_LIMIT.true, c.deepest.ensures.depth))

pub put_application-requires-clause-rank : goal.put_application-requires-clause-rank
put_application-requires-clause-rank c =
    ranked-none c.args.place c.args.op (named c.args.store.now c.args.args.now) (sym c.rank_fault.ensures ∙ none-there c.rank_fault.result c.in_default.not-Some)

pub returns-clause-answer : goal.returns-clause-answer
returns-clause-answer c =
    let ts = named c.args.store.now c.args.args.now in
    let none = ranked-none c.args.place c.args.op ts (sym c.rank_fault.ensures ∙ none-there c.rank_fault.result c.in_default.not-Some) in
    (Apply c.args.op (in_trees ts), ranked-ok c.args.place c.args.op ts none (omega (arith, c.if-deepest-ge-DEPTH_LIMIT.false, c.deepest.ensures.depth)), c.in_ok-id.ensures.id)
