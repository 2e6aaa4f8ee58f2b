use Rattle.std.proofs.Common.{sym, arith}
use Rattle.qv_cnf.specs.Listing.{clauses_of}
use Rattle.qv_closed.proofs.Added.{numbered-live}
use Rattle.qv_closed.proofs.Fed.{feeding-all, feeding-next, feeding-start, given-filled}
use Rattle.qv_closed.proofs.feeding.add_all.Goals as goal

pub fed-init : goal.fed-init
fed-init c = feeding-start c.args.clauses.now.live c.args.core.now c.requires.empty

pub give-requires-clause-above : goal.give-requires-clause-above
give-requires-clause-above c = omega (arith, c.fed.invariant.top)

pub give-requires-clause-some : goal.give-requires-clause-some
give-requires-clause-some c = given-filled c.args.clauses.now.live c.fed.id c.in-Some.lits.now c.requires.each c.in-Some.ensures

pub fed-preserved : goal.fed-preserved
fed-preserved c =
    let list = c.args.clauses.now in
    feeding-next (clauses_of list.live) list.live c.fed.id c.fed.core c.give.new.core c.in-Some.lits.now (numbered-live list c.requires.numbered) c.fed-test.true c.fed.invariant c.in-Some.ensures c.in_ok-give-in-Some.ensures.ok

pub returns-in-None-clause-fed : goal.returns-in-None-clause-fed
returns-in-None-clause-fed c =
    let list = c.args.clauses.now in
    feeding-all (clauses_of list.live) list.live c.fed.id c.fed.core (numbered-live list c.requires.numbered) c.fed-test.true c.fed.invariant c.in-None.ensures

pub returns-in-None-clause-next : goal.returns-in-None-clause-next
returns-in-None-clause-next c = sym c.fed.invariant.top
