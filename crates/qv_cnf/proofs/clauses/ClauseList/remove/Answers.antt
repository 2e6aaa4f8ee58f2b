use Rattle.std.proofs.Common.{◌≡◌, ◌≢◌, ◌∷◌, [], rules, set, false}
use Rattle.qv_cnf.specs.Listing.{without}
use Rattle.qv_cnf.specs.Live.{live_of}
use Rattle.std.specs.List.{AllByRecursion}
use Rattle.std.proofs.lemmas.List.Elements.{recursion_from_All}
use Rattle.qv_cnf.proofs.Living.{live_of-clear, without-none}
use Rattle.qv_cnf.proofs.clauses.ClauseList.remove.Goals as goal

pub returns-in-Some : goal.returns-in-Some
returns-in-Some c =
    let before = c.self.inside in
    let at = c.in-Some.at in
    let live : live_of before.ids (set before.flags.items at false) before.clauses ≡ without (c.args.id ∷ []) (live_of before.ids before.flags.items before.clauses) =
    live_of-clear 0 before.ids before.flags.items before.clauses at c.args.id c.in-Some.ensures.rises c.in-Some.ensures.some in
    rw (← c.self.view_is) (search (rules, live))

pub returns-in_default : goal.returns-in_default
returns-in_default c =
    let before = c.self.inside in
    let none : AllByRecursion (λ other. other ≢ c.args.id) before.ids = recursion_from_All (λ other. other ≢ c.args.id) before.ids c.in_default.ensures.none in
    rw (← c.self.view_is, without-none before.ids before.flags.items before.clauses c.args.id none)
