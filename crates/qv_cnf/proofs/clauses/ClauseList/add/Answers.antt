use Rattle.std.proofs.Common.{◌≡◌, ◌∷◌, ◌++◌, [], ap, ◌∙◌, rules, true}
use Rattle.qv_cnf.specs.Listing.{Listing, next_id}
use Rattle.qv_cnf.proofs.Living.{live_of-push, next_id-push}
use Rattle.qv_cnf.proofs.clauses.ClauseList.add.Goals as goal

pub returns-clause-ok : goal.returns-clause-ok
returns-clause-ok c =
    let before = c.self.inside in
    let flags : c.push_reserved.new.self.items ≡ before.flags.items ++ true ∷ [] = search rules in
    rw (
      ← c.self.view_is,
      c.in_default.ensures.ok,
      flags,
      c.in_ok-push.ensures.ok,
      live_of-push before.ids before.flags.items before.clauses c.args.id c.args.lits.now c.self.invariant.0 c.self.invariant.1,
    )

pub returns-clause-next : goal.returns-clause-next
returns-clause-next c = ap (λ (l : Listing). next_id l.given) (returns-clause-ok c) ∙ next_id-push c.args.self.now.given c.args.id c.requires
