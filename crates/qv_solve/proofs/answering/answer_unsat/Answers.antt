use Rattle.std.proofs.Common.{◌≡◌, ◌+◌, ℕ, length, sym, subst}
use Rattle.std.proofs.lemmas.List.{length-map}
use Rattle.qv_words.specs.declared.op.Answer.TheVariants.{Unsat}
use Rattle.qv_words.specs.Problem.{Problem}
use Rattle.qv_words.specs.Expansion.{IsExpansion}
use Rattle.qv_words.specs.Linked.{tree_of}
use Rattle.qv_cert_section_laws.proofs.ExpansionSound.{expansion-soundness}
use Rattle.qv_store.specs.Problems.{problem_in}
use Rattle.qv_store.proofs.Replacement.{grows-more}
use Rattle.qv_entries.specs.Rows.{entries_in, entry_in}
use Rattle.qv_expand.proofs.OneLine.{posed-grown, problem-grown}
use Rattle.qv_game.proofs.Counting.{same-transitive}
use Rattle.qv_solve_write.specs.Said.{lines_said}
use Rattle.qv_solve_draw.specs.Drawing.{IsListing}
use Rattle.qv_solve_refute.specs.Refuting.{variable_limit}
use Rattle.qv_solve_section.specs.Sections.{IsClosed, IsCounted, formulas_of, task_of}
use Rattle.qv_solve_section.specs.Measured.{EachIsForFinal}
use Rattle.qv_meter.specs.Units.{Final}
use Rattle.qv_meter.specs.Records.{in_lane}
use Rattle.qv_solve.proofs.Metered.{CountsInstances, charged-counts, charged-instances, conflicts-instances, conflicts-limit, entries-counted, lines-counted, only-counts}
use Rattle.qv_solve.proofs.Owed.{owed-unsat}
use Rattle.qv_solve.proofs.answering.answer_unsat.Goals as goal

pub draw_lines-requires-clause-record : goal.draw_lines-requires-clause-record
draw_lines-requires-clause-record c = entries-counted (problem_in c.args.store.now c.args.problem.now) c.args.store.now c.args.entries.now c.args.meter.now c.requires.«record»

pub close-requires-clause-posed : goal.close-requires-clause-posed
close-requires-clause-posed c = posed-grown c.args.store.now c.draw_lines.new.store c.draw_lines.ensures.grows c.args.problem.now c.requires.posed

pub close-requires-clause-form : goal.close-requires-clause-form
close-requires-clause-form c = c.in_ok-written.ensures.listing.form

pub close-requires-clause-lawful : goal.close-requires-clause-lawful
close-requires-clause-lawful c =
    let same = problem-grown c.args.store.now c.draw_lines.new.store c.draw_lines.ensures.grows c.args.problem.now c.requires.posed in
    (subst (λ (q : Problem). IsListing c.draw_lines.new.store q Unsat c.in_ok-written.written) (sym same) c.in_ok-written.ensures.listing).lawful

pub close-requires-clause-section : goal.close-requires-clause-section
close-requires-clause-section c =
    let same = problem-grown c.args.store.now c.draw_lines.new.store c.draw_lines.ensures.grows c.args.problem.now c.requires.posed in
    (subst (λ (q : Problem). IsListing c.draw_lines.new.store q Unsat c.in_ok-written.written) (sym same) c.in_ok-written.ensures.listing).section

pub close-requires-clause-listed : goal.close-requires-clause-listed
close-requires-clause-listed c =
    let same = problem-grown c.args.store.now c.draw_lines.new.store c.draw_lines.ensures.grows c.args.problem.now c.requires.posed in
    (subst (λ (q : Problem). IsListing c.draw_lines.new.store q Unsat c.in_ok-written.written) (sym same) c.in_ok-written.ensures.listing).listed

pub close-requires-clause-owed : goal.close-requires-clause-owed
close-requires-clause-owed c =
    let p = problem_in c.args.store.now c.args.problem.now in
    let es = entries_in c.args.store.now c.args.entries.now in
    let given = lines_said c.in_ok-written.written.lines.items in
    let same = problem-grown c.args.store.now c.draw_lines.new.store c.draw_lines.ensures.grows c.args.problem.now c.requires.posed in
    let charged = lines-counted p (length c.args.entries.now) (length (tree_of p es)) c.args.meter.now c.draw_lines.new.meter c.requires.«record» c.in_ok-written.ensures.counted in
    subst (λ (q : Problem). EachIsForFinal c.draw_lines.new.meter (formulas_of q Unsat given)) (sym same)
    (owed-unsat p c.args.store.now c.args.entries.now c.draw_lines.new.meter given c.requires.posed.problem charged c.requires.played c.requires.won c.in_ok-written.ensures.tree)

pub returns-clause-solution : goal.returns-clause-solution
returns-clause-solution c =
    let p = problem_in c.args.store.now c.args.problem.now in
    let es = entries_in c.args.store.now c.args.entries.now in
    let mid = c.draw_lines.new.store in
    let given = lines_said c.in_ok-written.written.lines.items in
    let whole = c.in_ok-closing.closing in
    let lines = lines_said whole.lines.items in
    let many = length (tree_of p es) in
    let same = problem-grown c.args.store.now mid c.draw_lines.ensures.grows c.args.problem.now c.requires.posed in
    let own : IsExpansion p (tree_of p es) = subst (IsExpansion p) c.in_ok-written.ensures.tree c.in_ok-written.ensures.listing.section in
    let drawn = lines-counted p (length c.args.entries.now) many c.args.meter.now c.draw_lines.new.meter c.requires.«record» c.in_ok-written.ensures.counted in
    let charged = conflicts-instances (in_lane Final c.draw_lines.new.meter) c.close.new.meter (length c.args.entries.now + many) c.in_ok-closing.ensures.charged (charged-instances p (length c.args.entries.now + many) c.draw_lines.new.meter drawn) in
    let limit : variable_limit c.draw_lines.new.meter ≡ variable_limit c.close.new.meter = conflicts-limit (in_lane Final c.draw_lines.new.meter) c.close.new.meter c.in_ok-closing.ensures.charged in
    record {
      section = subst (λ (q : Problem). IsCounted (task_of q c.args.number) Unsat lines whole.variables) same c.in_ok-closing.ensures.section;
      form = c.in_ok-closing.ensures.form;
      holds = expansion-soundness p (tree_of p es) c.requires.posed.problem own c.in_ok-written.ensures.leaves;
      drawn = record {
        entries = es;
        given = given;
        played = c.requires.played;
        won = c.requires.won;
        list = c.in_ok-written.ensures.tree;
        closed = subst (λ (n : ℕ). IsClosed p c.args.number Unsat n given lines) limit (subst (λ (q : Problem). IsClosed q c.args.number Unsat (variable_limit c.draw_lines.new.meter) given lines) same c.in_ok-closing.ensures.closed);
        counted = subst (λ (n : ℕ). CountsInstances c.close.new.meter (n + many)) (sym (length-map c.args.entries.now (entry_in c.args.store.now))) charged;
      };
      values = tt;
    }

pub returns-in_err-written-clause-counts : goal.returns-in_err-written-clause-counts
returns-in_err-written-clause-counts c = only-counts c.args.meter.now c.draw_lines.new.meter c.draw_lines.ensures.only

pub returns-clause-counts : goal.returns-clause-counts
returns-clause-counts c =
    same-transitive c.args.meter.now c.draw_lines.new.meter c.close.new.meter (only-counts c.args.meter.now c.draw_lines.new.meter c.draw_lines.ensures.only) (charged-counts c.draw_lines.new.meter c.close.new.meter c.close.result c.close.ensures.charged)

pub returns-clause-grows : goal.returns-clause-grows
returns-clause-grows c = grows-more c.args.store.now c.draw_lines.new.store c.close.new.store c.draw_lines.ensures.grows c.close.ensures.grows
