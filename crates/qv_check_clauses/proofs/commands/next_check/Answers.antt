use Rattle.std.proofs.Common.{ℕ, Option, Some, None, List, option_map, refl, ap, subst}
use Rattle.qv_sexpr.specs.Reader.{to_read}
use Rattle.qv_check_clauses.specs.Following.{Leads}
use Rattle.qv_check_clauses.proofs.Followed.{leads-on}
use Rattle.qv_check_clauses.proofs.commands.next_check.Goals as goal

pub commands-init : goal.commands-init
commands-init c places s script standing told = record { state = s; rest = script; stands = standing; behind_is = told; same = refl }

pub next_command-requires : goal.next_command-requires
next_command-requires c =
    let p = c.commands.invariant 0 c.requires.stands.0 c.requires.told.0 c.requires.stands.1 c.requires.told.1 in
    record { stands = (p.state, p.stands) }

pub commands-preserved : goal.commands-preserved
commands-preserved c places s script standing told =
    let p = c.commands.invariant places s script standing told in
    let new = to_read c.next_command.new.commands (Some c.next_command.new.script.left.now) in
    let h = c.in_ok-formulas.ensures places p.state p.rest p.stands p.behind_is in
    leads-on places s p.state script p.rest None c.next_command.new.course new p.same
    (subst (λ (o : Option (List ℕ)). Leads places p.state p.rest o c.next_command.new.course new) (ap (option_map (λ ids. ids.items)) c.in_default.is) h)

pub returns-in-Some : goal.returns-in-Some
returns-in-Some c places s script standing told =
    let p = c.commands.invariant places s script standing told in
    let new = to_read c.next_command.new.commands (Some c.next_command.new.script.left.now) in
    let h = c.in_ok-formulas.ensures places p.state p.rest p.stands p.behind_is in
    leads-on places s p.state script p.rest (Some c.in-Some.formulas.items) c.next_command.new.course new p.same
    (subst (λ (o : Option (List ℕ)). Leads places p.state p.rest o c.next_command.new.course new) (ap (option_map (λ ids. ids.items)) c.in-Some.is) h)
