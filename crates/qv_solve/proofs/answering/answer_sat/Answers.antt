use Rattle.std.proofs.Common.{◌≡◌, ◌<◌, ℕ, List, length, sym, ap, ◌∙◌, subst}
use Rattle.std.specs.Prelude.{All}
use Rattle.std.proofs.lemmas.List.{length-map}
use Rattle.qv_words.specs.declared.op.Answer.TheVariants.{Sat}
use Rattle.qv_words.specs.Problem.{Existential, Problem}
use Rattle.qv_words.specs.Skolem.{SkolemOk, SkolemTerm, goal_of}
use Rattle.qv_words.specs.GameLaws.{WinsFrom}
use Rattle.qv_words.specs.Linked.{chain}
use Rattle.qv_cert_section_laws.proofs.SkolemSound.{skolem-soundness}
use Rattle.qv_store.specs.Problems.{problem_in}
use Rattle.qv_store.proofs.Replacement.{grows-more}
use Rattle.qv_entries.specs.Rows.{entries_in, entry_in}
use Rattle.qv_expand.proofs.OneLine.{posed-grown, problem-grown}
use Rattle.qv_skolem.specs.declared.skolem.Skolem.{Skolem}
use Rattle.qv_skolem.specs.Skolems.{skolems_in, IsNeverTrue}
use Rattle.qv_solve_write.specs.Said.{lines_said}
use Rattle.qv_solve_draw.specs.Drawing.{IsListing}
use Rattle.qv_solve_draw.specs.Values.{AreExistential, HaveSorts, values_of}
use Rattle.qv_solve_refute.specs.Refuting.{variable_limit}
use Rattle.qv_solve_section.specs.Sections.{IsClosed, IsCounted, formulas_of, task_of}
use Rattle.qv_solve_section.specs.Measured.{EachIsForFinal}
use Rattle.qv_meter.specs.Units.{Final}
use Rattle.qv_meter.specs.Records.{in_lane}
use Rattle.qv_solve.proofs.Metered.{CountsInstances, charged-counts, charged-instances, conflicts-instances, conflicts-limit}
use Rattle.qv_solve.proofs.Owed.{owed-sat}
use Rattle.qv_solve.proofs.answering.answer_sat.Goals as goal

pub constants-requires-clause-posed : goal.constants-requires-clause-posed
constants-requires-clause-posed c = posed-grown c.args.store.now c.draw_terms.new.store c.draw_terms.ensures.grows c.args.problem.now c.requires.posed

pub constants-requires-clause-first : goal.constants-requires-clause-first
constants-requires-clause-first c =
    let same = problem-grown c.args.store.now c.draw_terms.new.store c.draw_terms.ensures.grows c.args.problem.now c.requires.posed in
    subst (λ (p : Problem). AreExistential p (length c.args.problem.now.constants.items)) (sym same) c.requires.first

pub constants-requires-clause-below : goal.constants-requires-clause-below
constants-requires-clause-below c =
    subst (λ (ss : List Skolem). All (λ s. s.term < length c.draw_terms.new.store) ss) (sym c.deref.ensures.value) c.in_ok-drawn.ensures.below

pub constants-requires-clause-section : goal.constants-requires-clause-section
constants-requires-clause-section c =
    let mid = c.draw_terms.new.store in
    let p = problem_in c.args.store.now c.args.problem.now in
    let same = problem-grown c.args.store.now mid c.draw_terms.ensures.grows c.args.problem.now c.requires.posed in
    let own : SkolemOk p (chain p (entries_in c.args.store.now c.args.entries.now)) = subst (SkolemOk p) c.in_ok-drawn.ensures.terms c.in_ok-drawn.ensures.listing.section in
    subst (λ (q : Problem). SkolemOk q (skolems_in mid c.deref.result.now)) (sym same)
    (subst (λ (ts : List SkolemTerm). SkolemOk p ts) (sym (ap (skolems_in mid) c.deref.ensures.value ∙ c.in_ok-drawn.ensures.chain)) own)

pub constants-requires-clause-goal : goal.constants-requires-clause-goal
constants-requires-clause-goal c =
    let mid = c.draw_terms.new.store in
    let p = problem_in c.args.store.now c.args.problem.now in
    let same = problem-grown c.args.store.now mid c.draw_terms.ensures.grows c.args.problem.now c.requires.posed in
    subst (λ (q : Problem). IsNeverTrue (goal_of q (skolems_in mid c.deref.result.now))) (sym same)
    (subst (λ (ts : List SkolemTerm). IsNeverTrue (goal_of p ts)) (sym (ap (skolems_in mid) c.deref.ensures.value ∙ c.in_ok-drawn.ensures.chain)) c.in_ok-drawn.ensures.goal)

pub close-requires-clause-posed : goal.close-requires-clause-posed
close-requires-clause-posed c = posed-grown c.args.store.now c.draw_terms.new.store c.draw_terms.ensures.grows c.args.problem.now c.requires.posed

pub close-requires-clause-form : goal.close-requires-clause-form
close-requires-clause-form c = c.in_ok-drawn.ensures.listing.form

pub close-requires-clause-lawful : goal.close-requires-clause-lawful
close-requires-clause-lawful c =
    let same = problem-grown c.args.store.now c.draw_terms.new.store c.draw_terms.ensures.grows c.args.problem.now c.requires.posed in
    (subst (λ (q : Problem). IsListing c.draw_terms.new.store q Sat c.in_ok-drawn.drawn.written) (sym same) c.in_ok-drawn.ensures.listing).lawful

pub close-requires-clause-section : goal.close-requires-clause-section
close-requires-clause-section c =
    let same = problem-grown c.args.store.now c.draw_terms.new.store c.draw_terms.ensures.grows c.args.problem.now c.requires.posed in
    (subst (λ (q : Problem). IsListing c.draw_terms.new.store q Sat c.in_ok-drawn.drawn.written) (sym same) c.in_ok-drawn.ensures.listing).section

pub close-requires-clause-listed : goal.close-requires-clause-listed
close-requires-clause-listed c =
    let same = problem-grown c.args.store.now c.draw_terms.new.store c.draw_terms.ensures.grows c.args.problem.now c.requires.posed in
    (subst (λ (q : Problem). IsListing c.draw_terms.new.store q Sat c.in_ok-drawn.drawn.written) (sym same) c.in_ok-drawn.ensures.listing).listed

pub close-requires-clause-owed : goal.close-requires-clause-owed
close-requires-clause-owed c =
    let p = problem_in c.args.store.now c.args.problem.now in
    let given = lines_said c.in_ok-drawn.drawn.written.lines.items in
    let same = problem-grown c.args.store.now c.draw_terms.new.store c.draw_terms.ensures.grows c.args.problem.now c.requires.posed in
    subst (λ (q : Problem). EachIsForFinal c.args.meter.now (formulas_of q Sat given)) (sym same)
    (owed-sat p c.args.store.now c.args.entries.now c.args.meter.now given c.requires.posed.problem c.requires.«record» c.requires.played c.requires.won c.in_ok-drawn.ensures.terms)

pub returns-clause-solution : goal.returns-clause-solution
returns-clause-solution c =
    let p = problem_in c.args.store.now c.args.problem.now in
    let es = entries_in c.args.store.now c.args.entries.now in
    let mid = c.draw_terms.new.store in
    let given = lines_said c.in_ok-drawn.drawn.written.lines.items in
    let whole = c.in_ok-closing.closing in
    let lines = lines_said whole.lines.items in
    let same = problem-grown c.args.store.now mid c.draw_terms.ensures.grows c.args.problem.now c.requires.posed in
    let own : SkolemOk p (chain p es) = subst (SkolemOk p) c.in_ok-drawn.ensures.terms c.in_ok-drawn.ensures.listing.section in
    let charged = conflicts-instances (in_lane Final c.args.meter.now) c.close.new.meter (length c.args.entries.now) c.in_ok-closing.ensures.charged (charged-instances p (length c.args.entries.now) c.args.meter.now c.requires.«record») in
    let limit : variable_limit c.args.meter.now ≡ variable_limit c.close.new.meter = conflicts-limit (in_lane Final c.args.meter.now) c.close.new.meter c.in_ok-closing.ensures.charged in
    record {
      section = subst (λ (q : Problem). IsCounted (task_of q c.args.number) Sat lines whole.variables) same c.in_ok-closing.ensures.section;
      form = c.in_ok-closing.ensures.form;
      holds = skolem-soundness p (chain p es) c.requires.posed.problem own c.in_ok-drawn.ensures.goal;
      drawn = record {
        entries = es;
        given = given;
        played = c.requires.played;
        won = c.requires.won;
        list = c.in_ok-drawn.ensures.terms;
        closed = subst (λ (n : ℕ). IsClosed p c.args.number Sat n given lines) limit (subst (λ (q : Problem). IsClosed q c.args.number Sat (variable_limit c.args.meter.now) given lines) same c.in_ok-closing.ensures.closed);
        counted = subst (CountsInstances c.close.new.meter) (sym (length-map c.args.entries.now (entry_in c.args.store.now))) charged;
      };
      values = record {
        indices_are = c.in_ok-values.ensures.indices;
        sorts = subst (λ (q : Problem). HaveSorts q c.in_ok-values.values.items) same c.in_ok-values.ensures.sorts;
        wins = subst (λ (q : Problem). WinsFrom q Existential (values_of c.in_ok-values.values.items)) same c.in_ok-values.ensures.wins;
      };
    }

pub returns-clause-counts : goal.returns-clause-counts
returns-clause-counts c = charged-counts c.args.meter.now c.close.new.meter c.close.result c.close.ensures.charged

pub returns-clause-grows : goal.returns-clause-grows
returns-clause-grows c = grows-more c.args.store.now c.draw_terms.new.store c.close.new.store c.draw_terms.ensures.grows c.close.ensures.grows
