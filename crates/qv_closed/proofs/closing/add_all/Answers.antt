use Rattle.qv_cnf.specs.Listing.{clauses_of}
use Rattle.qv_closed.proofs.Added.{adding-all, adding-next, adding-start, numbered-live}
use Rattle.qv_closed.proofs.closing.add_all.Goals as goal

pub added-init : goal.added-init
added-init c = adding-start c.args.clauses.now.live c.args.closure.now c.requires.none

pub add-requires-clause-above : goal.add-requires-clause-above
add-requires-clause-above c = c.added.invariant.next

pub add-requires-clause-none : goal.add-requires-clause-none
add-requires-clause-none c = c.added.invariant.steps

pub added-preserved : goal.added-preserved
added-preserved c =
    let list = c.args.clauses.now in
    adding-next (clauses_of list.live) list.live c.added.id c.added.closure c.add.new.self c.in-Some.lits.now (numbered-live list c.requires.numbered) c.added.invariant c.in-Some.ensures
    c.in_ok-add-in-Some.ensures.ok c.in_ok-add-in-Some.ensures.next

pub returns-in-None : goal.returns-in-None
returns-in-None c = λ yes.
    let list = c.args.clauses.now in
    adding-all (clauses_of list.live) list.live c.added.id c.added.closure (numbered-live list c.requires.numbered) c.added.invariant c.in-None.ensures
