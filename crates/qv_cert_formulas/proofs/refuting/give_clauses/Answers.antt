use Rattle.std.proofs.Common.{◌≡◌, ap, ◌∙◌}
use Rattle.qv_cnf.specs.Listing.{Listing, clauses_of}
use Rattle.qv_cert_formulas.specs.Numbers.{under_ids}
use Rattle.qv_cert_formulas.proofs.Given.{live-from_one, given-start, given-next, given-all}
use Rattle.qv_cert_formulas.proofs.refuting.give_clauses.Goals as goal

pub clauses-init : goal.clauses-init
clauses-init c = given-start (clauses_of c.args.clauses.now.live) c.new-checker.result c.new-checker.ensures

pub clauses-preserved : goal.clauses-preserved
clauses-preserved c =
    let cs = clauses_of c.args.clauses.now.live in
    let live : c.args.clauses.now.live ≡ under_ids 1 cs = ap (λ (l : Listing). l.live) c.requires ∙ live-from_one cs in
    given-next cs c.args.clauses.now.live c.clauses.id c.clauses.checker c.original.new.self c.in-Some.lits.now live c.clauses.invariant c.in-Some.ensures c.in-Ok.ensures.standing

pub returns-in-None : goal.returns-in-None
returns-in-None c =
    let cs = clauses_of c.args.clauses.now.live in
    let live : c.args.clauses.now.live ≡ under_ids 1 cs = ap (λ (l : Listing). l.live) c.requires ∙ live-from_one cs in
    given-all cs c.args.clauses.now.live c.clauses.id c.clauses.checker live c.clauses.invariant c.in-None.ensures
