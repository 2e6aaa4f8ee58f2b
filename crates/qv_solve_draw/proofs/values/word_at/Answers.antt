use Rattle.qv_store.specs.Nodes.{tree_at}
use Rattle.qv_store.specs.Problems.{problem_in}
use Rattle.qv_skolem.specs.Skolems.{skolems_in}
use Rattle.qv_solve_draw.proofs.Valued.{closed-term, if-both, own-place, own-term, word-of_term}
use Rattle.qv_solve_draw.proofs.values.word_at.Goals as goal

pub eval_at-requires-clause-quantifier_free : goal.eval_at-requires-clause-quantifier_free
eval_at-requires-clause-quantifier_free c =
    let p = problem_in c.args.store.now c.args._problem.now in
    let t = tree_at c.args.store.now c.in-Some.term in
    (own-place p c.args.place t (own-term p (skolems_in c.args.store.now c.args.terms.now) c.args.place t c.requires.section c.in-Some.ensures.term)).2.1.quantifier_free

pub eval_at-requires-clause-words : goal.eval_at-requires-clause-words
eval_at-requires-clause-words c =
    let p = problem_in c.args.store.now c.args._problem.now in
    let t = tree_at c.args.store.now c.in-Some.term in
    closed-term p c.args.place t c.requires.first (own-term p (skolems_in c.args.store.now c.args.terms.now) c.args.place t c.requires.section c.in-Some.ensures.term)

pub returns : goal.returns
returns c =
    let p = problem_in c.args.store.now c.args._problem.now in
    let t = tree_at c.args.store.now c.in-Some.term in
    if-both c.eval_at.result (λ w sort means. word-of_term p (skolems_in c.args.store.now c.args.terms.now) c.args.place t w c.requires.section c.in-Some.ensures.term sort means) c.eval_at.ensures.sort c.eval_at.ensures.value
