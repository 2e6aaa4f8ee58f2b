use Rattle.std.proofs.Common.{◌≡◌, ◌∷◌, [], length, get_or, arith}
use Rattle.qv_store.specs.Nodes.{tree_at}
use Rattle.qv_store.specs.Walks.{named}
use Rattle.qv_elab_defs.specs.Applying.{application, applied}
use Rattle.qv_elab_apply.proofs.Applications.{application-of_none, application-of_one, application-of_two, answers-same}
use Rattle.qv_elab_apply.proofs.applying.apply_operator.Goals as goal

pub returns-in-empty-clause-answer : goal.returns-in-empty-clause-answer
returns-in-empty-clause-answer c =
    let none : length c.args.args.now ≡ 0 = omega arith in
    answers-same c.apply_ranked.new.store c.args.place (application c.args.op (named c.args.store.now c.args.args.now)) (applied c.args.op (named c.args.store.now c.args.args.now))
    c.apply_ranked.result (application-of_none c.args.store.now c.args.op c.args.args.now none) c.apply_ranked.ensures.answer

pub returns-in-len1-clause-answer : goal.returns-in-len1-clause-answer
returns-in-len1-clause-answer c =
    let one : length c.args.args.now ≡ 1 = omega (arith, c.in-len1.len_at_least, c.in-len1.len_below) in
    let only : c.only-item.result ≡ get_or c.args.args.now 0 c.only-item.result = c.only-item.is in
    answers-same c.apply_one.new.store c.args.place (application c.args.op (named c.args.store.now c.args.args.now)) (application c.args.op (tree_at c.args.store.now c.only-item.result ∷ []))
    c.apply_one.result (application-of_one c.args.store.now c.args.op c.args.args.now c.only-item.result one only) c.apply_one.ensures.answer

pub returns-in-len2-clause-answer : goal.returns-in-len2-clause-answer
returns-in-len2-clause-answer c =
    let two : length c.args.args.now ≡ 2 = omega (arith, c.in-len2.len_at_least, c.in-len2.len_below) in
    answers-same c.apply_ranked-in-len2.new.store c.args.place (application c.args.op (named c.args.store.now c.args.args.now)) (applied c.args.op (named c.args.store.now c.args.args.now))
    c.apply_ranked-in-len2.result (application-of_two c.args.store.now c.args.op c.args.args.now two) c.apply_ranked-in-len2.ensures.answer
