use Rattle.std.proofs.Common.{sym, ◌∙◌}
use Rattle.qv_store.specs.Nodes.{tree_at}
use Rattle.qv_store.specs.Walks.{named}
use Rattle.qv_elab_defs.specs.Applying.{application, applied, to_the_left, chained}
use Rattle.qv_elab_apply.specs.Chained.{all_to_the_right}
use Rattle.qv_elab_apply.specs.declared.applying.Chain.TheVariants.{Left, Right, Pairs, None}
use Rattle.qv_elab_apply.proofs.Applications.{application-of_many, whole-right, whole-applied, answers-same}
use Rattle.qv_elab_apply.proofs.applying.apply_many.Goals as goal

pub returns-in-Left-clause-answer : goal.returns-in-Left-clause-answer
returns-in-Left-clause-answer c =
    let whole = application-of_many c.args.store.now c.args.op Left c.args.args.now c.in-Some.first.now c.in-Some.others.now c.requires.many c.in-Some.ensures.cases.0 (sym c.in-Left.is ∙ c.chain_of.ensures) in
    answers-same c.apply_left.new.store c.args.place (application c.args.op (named c.args.store.now c.args.args.now)) (to_the_left c.args.op (tree_at c.args.store.now c.in-Some.first.now) (named c.args.store.now c.in-Some.others.now))
    c.apply_left.result whole c.apply_left.ensures.answer

pub returns-in-Right-clause-answer : goal.returns-in-Right-clause-answer
returns-in-Right-clause-answer c =
    let whole = application-of_many c.args.store.now c.args.op Right c.args.args.now c.in-Some.first.now c.in-Some.others.now c.requires.many c.in-Some.ensures.cases.0 (sym c.in-Right.is ∙ c.chain_of.ensures) in
    answers-same c.apply_right.new.store c.args.place (application c.args.op (named c.args.store.now c.args.args.now)) (all_to_the_right c.args.op (named c.args.store.now c.args.args.now))
    c.apply_right.result (whole ∙ sym (whole-right c.args.store.now c.args.op c.args.args.now c.in-Some.first.now c.in-Some.others.now c.in-Some.ensures.cases.0)) c.apply_right.ensures.answer

pub returns-in-Pairs-clause-answer : goal.returns-in-Pairs-clause-answer
returns-in-Pairs-clause-answer c =
    let whole = application-of_many c.args.store.now c.args.op Pairs c.args.args.now c.in-Some.first.now c.in-Some.others.now c.requires.many c.in-Some.ensures.cases.0 (sym c.in-Pairs.is ∙ c.chain_of.ensures) in
    answers-same c.apply_chained.new.store c.args.place (application c.args.op (named c.args.store.now c.args.args.now)) (chained (tree_at c.args.store.now c.in-Some.first.now) (named c.args.store.now c.in-Some.others.now))
    c.apply_chained.result whole c.apply_chained.ensures.answer

pub returns-in-None-clause-answer : goal.returns-in-None-clause-answer
returns-in-None-clause-answer c =
    let whole = application-of_many c.args.store.now c.args.op None c.args.args.now c.in-Some.first.now c.in-Some.others.now c.requires.many c.in-Some.ensures.cases.0 (sym c.in-None.is ∙ c.chain_of.ensures) in
    answers-same c.apply_ranked.new.store c.args.place (application c.args.op (named c.args.store.now c.args.args.now)) (applied c.args.op (named c.args.store.now c.args.args.now))
    c.apply_ranked.result (whole ∙ sym (whole-applied c.args.store.now c.args.op c.args.args.now c.in-Some.first.now c.in-Some.others.now c.in-Some.ensures.cases.0)) c.apply_ranked.ensures.answer
