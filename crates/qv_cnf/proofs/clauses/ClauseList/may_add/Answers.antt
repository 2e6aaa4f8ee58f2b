use Rattle.qv_cnf.proofs.Living.{IsListing-live_of}
use Rattle.qv_cnf.proofs.clauses.ClauseList.may_add.Goals as goal

pub returns-clause-listing : goal.returns-clause-listing
returns-clause-listing c =
    let before = c.self.inside in
    rw (← c.self.view_is) (IsListing-live_of before.ids before.flags.items before.clauses c.may_push.ensures.rises c.may_push.ensures.few)
