use Rattle.std.proofs.Common.{◌≡◌, ◌≤◌, [], length, ap, sym, ◌∙◌, arith, slice_get}
use Rattle.qv_store.specs.Nodes.{tree_at}
use Rattle.qv_store.specs.Walks.{IsEarlier, named, with_subtrees}
use Rattle.qv_store.specs.Evaluating.{HasValue}
use Rattle.qv_store.proofs.Passes.{each-of-walk, contains-earlier, earlier-in}
use Rattle.qv_store.proofs.Evaluation.{inherit-value}
use Rattle.qv_store.proofs.store.Store.eval_at.Goals as goal

pub eval_all-requires-clause-values : goal.eval_all-requires-clause-values
eval_all-requires-clause-values c = λ k n at.
    let trees = c.args.self.now in
    let order : named trees c.visit.new.self ≡ with_subtrees [] (tree_at trees c.args.id) =
    c.in_ok-visit.ensures.order ∙ ap (λ ids. with_subtrees (named trees ids) (tree_at trees c.args.id)) c.new-walk.ensures in
    each-of-walk (HasValue c.args.consts.now c.args.places.now) (inherit-value c.args.consts.now c.args.places.now) trees c.visit.new.self c.args.id order
    (record { quantifier_free = c.requires.quantifier_free; words = c.requires.words }) k n at

pub result_of-requires : goal.result_of-requires
result_of-requires c =
    let has : IsEarlier c.visit.new.self (length c.visit.new.self) c.args.id = contains-earlier c.visit.new.self c.args.id c.in_ok-visit.ensures.has in
    let same : length c.deref.result.now ≡ length c.in_ok-words.words.items = ap length c.deref.ensures.value in
    let all : length c.in_ok-words.words.items ≡ length c.visit.new.self = c.in_ok-words.ensures.many in
    let many : length c.visit.new.self ≤ length c.deref.result.now = omega (arith, same, all) in
    earlier-in c.visit.new.self (length c.visit.new.self) (length c.deref.result.now) c.args.id many has

pub returns-clause-sort : goal.returns-clause-sort
returns-clause-sort c =
    (c.in_ok-words.ensures.words c.result_of.ensures.place c.args.id c.result_of.result.now c.result_of.ensures.at
    (ap (λ ws. slice_get ws c.result_of.ensures.place) (sym c.deref.ensures.value) ∙ c.result_of.ensures.found)).sort

pub returns-clause-value : goal.returns-clause-value
returns-clause-value c =
    (c.in_ok-words.ensures.words c.result_of.ensures.place c.args.id c.result_of.result.now c.result_of.ensures.at
    (ap (λ ws. slice_get ws c.result_of.ensures.place) (sym c.deref.ensures.value) ∙ c.result_of.ensures.found)).value
