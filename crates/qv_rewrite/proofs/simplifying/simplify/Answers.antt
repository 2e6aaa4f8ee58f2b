use Rattle.qv_store.specs.Nodes.{tree_at}
use Rattle.qv_words.specs.PassLaws.{IsPlain}
use Rattle.qv_rewrite.proofs.Swept.{Simplifies, swept-simplifies}
use Rattle.qv_rewrite.proofs.simplifying.simplify.Goals as goal

simplifies : (c : goal.In_ok-new) → Simplifies (tree_at c.simplified.new.store c.in_ok-new.new) (tree_at c.args.store.now c.args.id)
simplifies c =
    let plain : IsPlain (tree_at c.args.store.now c.args.id) =
    record { sorted = c.simplified.ensures.was.sorted c.args.id c.requires.id; free = c.requires.free } in
    swept-simplifies (tree_at c.args.store.now c.args.id) (tree_at c.simplified.new.store c.in_ok-new.new) plain c.in_ok-new.ensures.swept.tree

pub returns-clause-stands_for : goal.returns-clause-stands_for
returns-clause-stands_for c = (simplifies c).stands_for

pub returns-clause-simple : goal.returns-clause-simple
returns-clause-simple c = (simplifies c).simple

pub returns-clause-no_more : goal.returns-clause-no_more
returns-clause-no_more c = (simplifies c).no_more

pub returns-clause-itself : goal.returns-clause-itself
returns-clause-itself c = (simplifies c).itself
