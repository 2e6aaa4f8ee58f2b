use Rattle.std.proofs.Common.{◌≡◌, ◌++◌, ◌≤◌, ℕ, suc, Some, List, map, length, sym, subst}
use Rattle.qv_words.specs.Tree.{Tree}
use Rattle.qv_store.specs.Nodes.{tree_at}
use Rattle.qv_sexpr.specs.Reader.{to_read}
use Rattle.qv_script_defs.specs.State.{Last, answered, no_counts}
use Rattle.qv_script_stack.specs.Held.{AreAt, IsScriptIn}
use Rattle.qv_script_stack.proofs.Asserting.{script-grows}
use Rattle.qv_cert.specs.Text.{text_of}
use Rattle.qv_words.specs.Problem.{problem_of}
use Rattle.qv_check_laws.specs.AnswerLaws.{task_of}
use Rattle.qv_check_script.proofs.Checked.{check-lawful, ids-below, trees-at}
use Rattle.qv_check_clauses.specs.Sections.{AddsSection}
use Rattle.qv_check_clauses.specs.Following.{ComesBehind}
use Rattle.qv_check_clauses.proofs.Followed.{next-comes}
use Rattle.qv_check_clauses.proofs.following.add_next.Goals as goal

pub next_check-requires-clause-stands : goal.next_check-requires-clause-stands
next_check-requires-clause-stands c = let h = c.requires.comes.2 in (h.state, h.stands)

pub next_check-requires-clause-told : goal.next_check-requires-clause-told
next_check-requires-clause-told c = let h = c.requires.comes.2 in (h.commands, h.script_is)

pub add_section-requires-clause-ids : goal.add_section-requires-clause-ids
add_section-requires-clause-ids c =
    let h = c.requires.comes.2 in
    let at = c.in_ok-formulas.ensures c.args.places h.state h.commands h.stands h.script_is in
    let course = c.next_check.new.course in
    ids-below course.store c.deref.result.now at.trees (subst (λ (ns : List ℕ). AreAt course.store ns at.trees) (sym c.deref.ensures.value) at.formulas)

pub add_section-requires-clause-assertions : goal.add_section-requires-clause-assertions
add_section-requires-clause-assertions c =
    let h = c.requires.comes.2 in
    let at = c.in_ok-formulas.ensures c.args.places h.state h.commands h.stands h.script_is in
    let course = c.next_check.new.course in
    (check-lawful course at.state at.e at.now at.trees c.deref.result.now at.stepped (subst (λ (ns : List ℕ). AreAt course.store ns at.trees) (sym c.deref.ensures.value) at.formulas)).0

pub add_section-requires-clause-sorts : goal.add_section-requires-clause-sorts
add_section-requires-clause-sorts c =
    let h = c.requires.comes.2 in
    let at = c.in_ok-formulas.ensures c.args.places h.state h.commands h.stands h.script_is in
    let course = c.next_check.new.course in
    (check-lawful course at.state at.e at.now at.trees c.deref.result.now at.stepped (subst (λ (ns : List ℕ). AreAt course.store ns at.trees) (sym c.deref.ensures.value) at.formulas)).1

pub last_of-requires : goal.last_of-requires
last_of-requires c =
    let h = c.requires.comes.2 in
    let at = c.in_ok-formulas.ensures c.args.places h.state h.commands h.stands h.script_is in
    let course = c.next_check.new.course in
    (c.add_section.new.store, at.now, script-grows course.store c.add_section.new.store c.in_ok-answer.ensures.grows course.script at.now at.stepped.stands.script)

pub returns-clause-comes : goal.returns-clause-comes
returns-clause-comes c printed written here =
    let places = c.args.places in
    let number = c.args.number in
    let version = c.args.reader.now.version in
    let at = c.in_ok-formulas.ensures places here.state here.commands here.stands here.script_is in
    let course = c.next_check.new.course in
    let store = c.add_section.new.store in
    let reader = c.add_section.new.reader in
    let answer = c.in_ok-answer.answer in
    let old = text_of (c.args.reader.now.rest ++ c.args.cert.now.left.now) in
    let new = text_of (reader.rest ++ c.add_section.new.cert.left.now) in
    let ids = c.deref.result.now in
    let same : map (tree_at course.store) ids ≡ at.trees = trees-at course.store ids at.trees (subst (λ (ns : List ℕ). AreAt course.store ns at.trees) (sym c.deref.ensures.value) at.formulas) in
    let adds = subst (λ (ts : List Tree). AddsSection (task_of ts number version) answer c.args.reader.now.given old reader.given new c.args.out.now.items c.add_section.new.out.items) same c.in_ok-answer.ensures.adds in
    let grown = script-grows course.store store c.in_ok-answer.ensures.grows course.script at.now at.stepped.stands.script in
    let kept = c.answered.ensures.state store at.now c.in_ok-last.ensures.sorts grown in
    let holds = subst (λ (l : Last). IsScriptIn store c.answered.new.self (answered l no_counts at.now)) (c.in_ok-last.ensures.last store at.now grown) kept in
    let behind = to_read c.next_check.new.commands (Some c.next_check.new.script.left.now) in
    subst (λ v. ComesBehind places v (suc number) behind (record { store = store; script = c.answered.new.self; checks = course.checks }) reader.given new answer printed written c.args.out.now.items c.add_section.new.out.items) (sym c.in_ok-answer.ensures.version)
    (next-comes places version number c.args.reader.now.given reader.given old new answer (to_read c.args.commands.now (Some c.args.script.now.left.now)) behind c.args.course.now course c.in_ok-formulas.formulas.items printed written c.args.out.now.items c.add_section.new.out.items
    here at (record { store = store; script = c.answered.new.self; checks = course.checks }) holds (subst (λ (ts : List Tree). length (problem_of ts).prefix ≤ places) same c.in_ok-answer.ensures.within) adds)

pub returns-clause-goes_on : goal.returns-clause-goes_on
returns-clause-goes_on c = c.in_ok-answer.ensures.goes_on
