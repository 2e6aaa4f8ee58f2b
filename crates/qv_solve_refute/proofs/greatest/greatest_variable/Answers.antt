use Rattle.std.proofs.Common.{◌≡◌, ap, ◌∙◌}
use Rattle.qv_cnf.specs.Listing.{Listing, clauses_of}
use Rattle.qv_cert_formulas.specs.Numbers.{under_ids}
use Rattle.qv_cert_formulas.proofs.Given.{live-from_one}
use Rattle.qv_solve_refute.proofs.GreatestVariable.{greatest-start, greatest-next, greatest-all}
use Rattle.qv_solve_refute.proofs.greatest.greatest_variable.Goals as goal

pub clauses-init : goal.clauses-init
clauses-init c = greatest-start (clauses_of c.args.clauses.now.live)

pub clauses-preserved : goal.clauses-preserved
clauses-preserved c =
    let cs = clauses_of c.args.clauses.now.live in
    let live : c.args.clauses.now.live ≡ under_ids 1 cs = ap (λ (l : Listing). l.live) c.requires ∙ live-from_one cs in
    greatest-next cs c.args.clauses.now.live c.clauses.id c.clauses.greatest c.greatest_behind-greatest.result c.in-Some.lits.now live c.clauses.invariant c.in-Some.ensures c.greatest_behind-greatest.ensures

pub returns-in-None : goal.returns-in-None
returns-in-None c =
    let cs = clauses_of c.args.clauses.now.live in
    let live : c.args.clauses.now.live ≡ under_ids 1 cs = ap (λ (l : Listing). l.live) c.requires ∙ live-from_one cs in
    greatest-all cs c.args.clauses.now.live c.clauses.id c.clauses.greatest live c.clauses.invariant c.in-None.ensures
