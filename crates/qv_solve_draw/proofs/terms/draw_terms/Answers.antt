use Rattle.std.proofs.Common.{◌<◌, List, [], length, sym, ap, ◌∙◌, subst}
use Rattle.std.specs.Prelude.{All}
use Rattle.qv_words.specs.declared.op.Answer.TheVariants.{Sat}
use Rattle.qv_words.specs.Problem.{Problem}
use Rattle.qv_words.specs.Skolem.{SkolemTerm, goal_of}
use Rattle.qv_store.specs.Problems.{problem_in}
use Rattle.qv_entries.specs.Rows.{entries_in}
use Rattle.qv_cert.specs.Listed.{listed_by}
use Rattle.qv_meter.proofs.Fresh.{linked}
use Rattle.qv_expand.proofs.OneLine.{posed-grown, problem-grown}
use Rattle.qv_skolem.specs.declared.skolem.Skolem.{Skolem}
use Rattle.qv_skolem.specs.Skolems.{skolems_in, IsNeverTrue}
use Rattle.qv_solve_write.specs.Said.{lines_said}
use Rattle.qv_solve_draw.specs.Drawing.{IsListing}
use Rattle.qv_solve_draw.proofs.Grown.{skolems-grown, skolems-within}
use Rattle.qv_solve_draw.proofs.Begun.{terms-listing, terms-there}
use Rattle.qv_solve_draw.proofs.terms.draw_terms.Goals as goal

pub skolems-requires-clause-linked : goal.skolems-requires-clause-linked
skolems-requires-clause-linked c = linked (problem_in c.args.store.now c.args.problem.now) [] (entries_in c.args.store.now c.args.entries.now) c.requires.played

pub term_lines-requires-clause-posed : goal.term_lines-requires-clause-posed
term_lines-requires-clause-posed c = posed-grown c.args.store.now c.skolems.new.store c.skolems.ensures.grows c.args.problem.now c.requires.posed

pub term_lines-requires-clause-below : goal.term_lines-requires-clause-below
term_lines-requires-clause-below c =
    subst (λ (ss : List Skolem). All (λ s. s.term < length c.skolems.new.store) ss) (sym c.deref.ensures.value) c.in_ok-terms.ensures.terms

pub term_lines-requires-clause-section : goal.term_lines-requires-clause-section
term_lines-requires-clause-section c =
    terms-there c.args.store.now c.skolems.new.store c.skolems.ensures.grows c.args.problem.now c.requires.posed c.in_ok-terms.terms.items c.deref.result.now c.deref.ensures.value c.in_ok-terms.ensures.section

pub returns-clause-below : goal.returns-clause-below
returns-clause-below c =
    skolems-within c.skolems.new.store c.term_lines.new.store c.term_lines.ensures.grows c.in_ok-terms.terms.items c.in_ok-terms.ensures.terms

pub returns-clause-chain : goal.returns-clause-chain
returns-clause-chain c =
    skolems-grown c.skolems.new.store c.term_lines.new.store c.term_lines.ensures.grows c.in_ok-terms.terms.items c.in_ok-terms.ensures.terms ∙ c.in_ok-terms.ensures.chain

pub returns-clause-terms : goal.returns-clause-terms
returns-clause-terms c =
    let mid = c.skolems.new.store in
    let same = problem-grown c.args.store.now mid c.skolems.ensures.grows c.args.problem.now c.requires.posed in
    ap (λ (p : Problem). (listed_by p (lines_said c.in_ok-written.written.lines.items)).terms) (sym same)
    ∙ c.in_ok-written.ensures.terms ∙ ap (skolems_in mid) c.deref.ensures.value ∙ c.in_ok-terms.ensures.chain

pub returns-clause-listing : goal.returns-clause-listing
returns-clause-listing c =
    let mid = c.skolems.new.store in
    let q = problem_in mid c.args.problem.now in
    let same = problem-grown c.args.store.now mid c.skolems.ensures.grows c.args.problem.now c.requires.posed in
    let own = terms-there c.args.store.now mid c.skolems.ensures.grows c.args.problem.now c.requires.posed c.in_ok-terms.terms.items c.deref.result.now c.deref.ensures.value c.in_ok-terms.ensures.section in
    subst (λ (p : Problem). IsListing c.term_lines.new.store p Sat c.in_ok-written.written) same
    (terms-listing c.term_lines.new.store q c.in_ok-written.written (skolems_in mid c.deref.result.now) own
    c.in_ok-written.ensures.terms c.in_ok-written.ensures.form c.in_ok-written.ensures.lawful c.in_ok-written.ensures.listed)

pub returns-clause-goal : goal.returns-clause-goal
returns-clause-goal c =
    let p = problem_in c.args.store.now c.args.problem.now in
    subst (λ (ts : List SkolemTerm). IsNeverTrue (goal_of p ts)) c.in_ok-terms.ensures.chain c.in_ok-terms.ensures.goal
