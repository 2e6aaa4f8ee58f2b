use Rattle.std.proofs.Common.{◌≤◌, ℕ, All, subst, sym}
use Rattle.qv_cnf.specs.Literal.{Literal}
use Rattle.qv_sat.proofs.Depending.{named_room}
use Rattle.qv_sat.proofs.failing.mark_clause.Goals as goal

pub mark_all-requires : goal.mark_all-requires
mark_all-requires c =
    subst (λ (n : ℕ). All (λ (l : Literal). l.variable ≤ n) c.in-Some.lits.now) c.requires.room
    (named_room c.args.trail.now c.args.id c.in-Some.lits.now c.requires.trail (sym c.in-Some.ensures))
