use Rattle.std.proofs.Common.{ℕ, List, [], ◌∷◌, ◌++◌, ap, ◌∙◌, arith}
use Rattle.qv_words.specs.Linked.{last_region}
use Rattle.qv_store.specs.Problems.{problem_in, quantifier_of}
use Rattle.qv_store.proofs.Replacement.{grows-more}
use Rattle.qv_game_state.proofs.Opening.{last-below, last-free, rewritten-last}
use Rattle.qv_game_state.proofs.starting.put_rewritten.Goals as goal

pub rewrite-requires-clause-below : goal.rewrite-requires-clause-below
rewrite-requires-clause-below c =
    last-below c.put_last.new.store (last_region (problem_in c.args.store.now c.args.problem.now) (quantifier_of c.args.owner)) c.in_ok-last.last c.push.new.self.items c.in_ok-last.ensures.id
    (c.in_ok-push.ensures.items ∙ ap (λ (ns : List ℕ). ns ++ c.in_ok-last.last ∷ []) c.new-list.ensures.items)

pub rewrite-requires-clause-free : goal.rewrite-requires-clause-free
rewrite-requires-clause-free c =
    last-free c.put_last.new.store (problem_in c.args.store.now c.args.problem.now) (quantifier_of c.args.owner) c.in_ok-last.last c.push.new.self.items c.requires.problem c.in_ok-last.ensures.id
    (c.in_ok-push.ensures.items ∙ ap (λ (ns : List ℕ). ns ++ c.in_ok-last.last ∷ []) c.new-list.ensures.items)

pub index-requires : goal.index-requires
index-requires c =
    let made = c.in_ok-rewritten.rewritten in
    let few = (rewritten-last c.args.store.now c.put_last.new.store c.rewrite.new.store c.args.problem.now (quantifier_of c.args.owner) c.in_ok-last.last 0 c.push.new.self.items made.list.items made.passes.items c.requires c.in_ok-last.ensures.id
    (c.in_ok-push.ensures.items ∙ ap (λ (ns : List ℕ). ns ++ c.in_ok-last.last ∷ []) c.new-list.ensures.items) c.in_ok-rewritten.ensures.list c.in_ok-rewritten.ensures.below).0 in
    omega (arith, few, made.list.ok.0)

pub returns-clause-last : goal.returns-clause-last
returns-clause-last c =
    let made = c.in_ok-rewritten.rewritten in
    (rewritten-last c.args.store.now c.put_last.new.store c.rewrite.new.store c.args.problem.now (quantifier_of c.args.owner) c.in_ok-last.last c.index.result.now c.push.new.self.items made.list.items made.passes.items c.requires c.in_ok-last.ensures.id
    (c.in_ok-push.ensures.items ∙ ap (λ (ns : List ℕ). ns ++ c.in_ok-last.last ∷ []) c.new-list.ensures.items) c.in_ok-rewritten.ensures.list c.in_ok-rewritten.ensures.below).1 c.index.ensures

pub returns-in_err-rewritten-clause-grows : goal.returns-in_err-rewritten-clause-grows
returns-in_err-rewritten-clause-grows c = grows-more c.args.store.now c.put_last.new.store c.rewrite.new.store c.put_last.ensures.grows c.rewrite.ensures.grows

pub returns-clause-grows : goal.returns-clause-grows
returns-clause-grows c = grows-more c.args.store.now c.put_last.new.store c.rewrite.new.store c.put_last.ensures.grows c.rewrite.ensures.grows
