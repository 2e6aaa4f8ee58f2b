use Rattle.std.proofs.Common.{◌≤◌, ◌^◌, List, length, sym, ap, subst, ◌∙◌, arith}
use Rattle.std.proofs.lemmas.List.{length-map}
use Rattle.qv_words.specs.declared.op.Answer.TheVariants.{Sat}
use Rattle.qv_store.specs.Problems.{place_of, problem_in}
use Rattle.qv_cert.specs.Line.{CertLine}
use Rattle.qv_cert.specs.Listed.{listed_by, nothing}
use Rattle.qv_cert.specs.Shown.{HaveNoFault}
use Rattle.qv_skolem.specs.Skolems.{skolems_in}
use Rattle.qv_solve_write_laws.specs.WritingLaws.{AreLinesOf}
use Rattle.qv_solve_write_laws.proofs.Written.{terms-written}
use Rattle.qv_solve_write.specs.Said.{lines_said}
use Rattle.qv_solve_write.proofs.Ranged.{terms-ranged}
use Rattle.qv_solve_write.proofs.terms.term_lines.Goals as goal

pub write_terms-requires-clause-range : goal.write_terms-requires-clause-range
write_terms-requires-clause-range c =
    let p = problem_in c.args.store.now c.args.problem.now in
    let few : length p.prefix ≤ 2 ^ 62 = omega (arith, c.requires.few, length-map c.args.problem.now.prefix.items place_of) in
    terms-ranged p few (skolems_in c.args.store.now c.args.terms.now) c.requires.section

pub list_all-requires-clause-lawful : goal.list_all-requires-clause-lawful
list_all-requires-clause-lawful c =
    let p = problem_in c.args.store.now c.args.problem.now in
    let law = terms-written p (skolems_in c.args.store.now c.args.terms.now) c.requires.section in
    subst (λ (ls : List CertLine). HaveNoFault p nothing ls) (sym (ap lines_said c.deref.ensures.value ∙ c.in_ok-lines.ensures.lines)) law.0.lawful

pub returns-clause-lawful : goal.returns-clause-lawful
returns-clause-lawful c =
    let p = problem_in c.args.store.now c.args.problem.now in
    let law = terms-written p (skolems_in c.args.store.now c.args.terms.now) c.requires.section in
    subst (AreLinesOf p Sat) (sym c.in_ok-lines.ensures.lines) law.0

pub returns-clause-terms : goal.returns-clause-terms
returns-clause-terms c =
    let p = problem_in c.args.store.now c.args.problem.now in
    let law = terms-written p (skolems_in c.args.store.now c.args.terms.now) c.requires.section in
    ap (λ (ls : List CertLine). (listed_by p ls).terms) c.in_ok-lines.ensures.lines ∙ law.1
