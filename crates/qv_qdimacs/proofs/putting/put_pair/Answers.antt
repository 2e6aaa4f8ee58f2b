use Rattle.std.proofs.Common.{sym, subst}
use Rattle.std.specs.Prelude.{IfOk}
use Rattle.qv_words.specs.declared.op.Op.{Op}
use Rattle.qv_words.specs.Tree.{Apply, Cons, Nil}
use Rattle.qv_words.specs.Sorted.{IsSorted}
use Rattle.qv_words.specs.Prenex.{binary}
use Rattle.qv_store.specs.Nodes.{tree_at}
use Rattle.qv_store.specs.Stores.{StandsAt}
use Rattle.qv_qdimacs.specs.Translation.{connective}
use Rattle.qv_qdimacs.proofs.Formed.{formula-sorted, pair-formula}
use Rattle.qv_qdimacs.proofs.putting.put_pair.Goals as goal

pub put_application-requires-clause-sorted : goal.put_application-requires-clause-sorted
put_application-requires-clause-sorted c =
    let a = tree_at c.args.store.now c.args.a in
    let b = tree_at c.args.store.now c.args.b in
    subst (λ (o : Op). IsSorted (Apply o (Cons a (Cons b Nil)))) (sym c.connective.ensures)
    (formula-sorted (binary (connective c.args.both) a b) (pair-formula c.args.both a b c.requires.a.formula c.requires.b.formula))

pub returns-clause-id : goal.returns-clause-id
returns-clause-id c =
    let a = tree_at c.args.store.now c.args.a in
    let b = tree_at c.args.store.now c.args.b in
    subst (λ (o : Op). IfOk c.put_application.result (λ id. StandsAt c.put_application.new.store id (Apply o (Cons a (Cons b Nil))))) c.connective.ensures c.put_application.ensures.id
