use Rattle.std.proofs.Common.{◌≡◌, ◌∙◌, ◌+◌, ◌<◌, ℕ, suc, List, None, option_map, inl, inr, refl, sym, ap, subst, codes, arith}
use Rattle.std.specs.Prelude.{length}
use Rattle.qv_words.specs.Tree.{Tree}
use Rattle.qv_words.specs.Problem.{problem_of}
use Rattle.qv_script_defs.specs.Faults.{refusal}
use Rattle.qv_script_defs.specs.State.{Last, answered, no_counts}
use Rattle.qv_script_stack.specs.Held.{IsScriptIn}
use Rattle.qv_script_stack.proofs.Asserting.{script-grows}
use Rattle.qv_cert.specs.CertReader.{to_give}
use Rattle.qv_cert.specs.Section.{Opening}
use Rattle.qv_check_laws.specs.AnswerLaws.{task_of}
use Rattle.qv_check_lines.specs.declared.verdict.Verdict.TheVariants.{Accepted, Refused, ReadLimit}
use Rattle.qv_check_lines.specs.Judging.{IsVerdictFrom}
use Rattle.qv_check_script.specs.declared.turns.Turn.TheVariants.{Ended}
use Rattle.qv_check_script.specs.declared.ending.Ending.TheVariants.{Faulty, Refused as RefusedSo}
use Rattle.qv_sexpr.specs.Script.{command as stands}
use Rattle.qv_check_script.specs.Reading.{ShowsEnding}
use Rattle.qv_check_defs.specs.Outcome.{refused_line}
use Rattle.qv_check_script.proofs.Checked.{trees-at, ids-below, check-lawful}
use Rattle.qv_check_script.proofs.Closing.{writes}
use Rattle.qv_check_script.proofs.Leading.{end-turns, ends-by, comes-next}
use Rattle.qv_check_script.proofs.Sectioning.{tells-text, accepted-turns, section-ends, section-over, section-wants}
use Rattle.qv_check_script.proofs.sections.section_turn.Goals as goal

pub check_one-requires-clause-ids : goal.check_one-requires-clause-ids
check_one-requires-clause-ids g c = let r = c.requires.stepped in ids-below c.args.course.now.store c.args.formulas.now r.3 r.5

pub check_one-requires-clause-assertions : goal.check_one-requires-clause-assertions
check_one-requires-clause-assertions g c = let r = c.requires.stepped in (check-lawful c.args.course.now r.0 r.1 r.2 r.3 c.args.formulas.now r.4 r.5).0

pub check_one-requires-clause-sorts : goal.check_one-requires-clause-sorts
check_one-requires-clause-sorts g c = let r = c.requires.stepped in (check-lawful c.args.course.now r.0 r.1 r.2 r.3 c.args.formulas.now r.4 r.5).1

pub last_of-requires : goal.last_of-requires
last_of-requires g c =
    let r = c.requires.stepped in
    (c.check_one.new.store, r.2, script-grows c.args.course.now.store c.check_one.new.store c.check_one.ensures.grows c.args.course.now.script r.2 r.4.stands.script)

pub returns-in_ok-from_slice-in-Accepted-clause-turns : goal.returns-in_ok-from_slice-in-Accepted-clause-turns
returns-in_ok-from_slice-in-Accepted-clause-turns g c s e now trees rest h at place =
    let store = c.check_one.new.store in
    let reader = c.args.reader.now in
    let reader' = c.check_one.new.reader in
    let left = g.C.Source.left c.args.cert.now in
    let left' = g.C.Source.left c.check_one.new.source in
    let number = c.args.course.now.checks + 1 in
    let answer = c.in-Accepted.answer in
    let same = trees-at c.args.course.now.store c.args.formulas.now trees at in
    let next : number ≡ suc c.args.course.now.checks = omega arith in
    let grown = script-grows c.args.course.now.store store c.check_one.ensures.grows c.args.course.now.script now h.stands.script in
    let kept = c.answered.ensures.state store now c.in_ok-last-in-Accepted.ensures.sorts grown in
    let script = subst (λ (l : Last). IsScriptIn store c.answered.new.self (answered l no_counts now)) (c.in_ok-last-in-Accepted.ensures.last store now grown) kept in
    let judged = subst (λ (ts : List Tree). IsVerdictFrom (task_of ts number reader.version) Opening reader.given (to_give reader.rest left) reader'.given (to_give reader'.rest left') (Accepted answer)) same c.in-Accepted.ensures.verdict in
    accepted-turns c.args.places c.args.course.now (record { store = store; script = c.answered.new.self; checks = number }) s now e trees h reader.version reader.given reader'.given rest (to_give reader.rest left) (to_give reader'.rest left')
    answer c.in_ok-from_slice-in-Accepted.field-0 script next
    (λ far. elim (c.in-Accepted.ensures.within (subst (λ (ts : List Tree). c.args.places < length (problem_of ts).prefix) (sym same) far)) [ inl f ↦ cc | inr f ↦ cc ])
    (tells-text reader.rest reader'.rest left left' c.check_one.ensures.telling) judged (c.in_ok-from_slice-in-Accepted.ensures.items ∙ c.answer_line.ensures)

pub returns-in_ok-from_slice-in-Accepted-clause-goes_on : goal.returns-in_ok-from_slice-in-Accepted-clause-goes_on
returns-in_ok-from_slice-in-Accepted-clause-goes_on g c = λ _. let h = c.in-Accepted.ensures.ends (λ e. cc) in (h.begun, h.reads)

pub returns-in_ok-refused-in-Refused-clause-turns : goal.returns-in_ok-refused-in-Refused-clause-turns
returns-in_ok-refused-in-Refused-clause-turns g c s e now trees rest h at place =
    let reader = c.args.reader.now in
    let reader' = c.check_one.new.reader in
    let left = g.C.Source.left c.args.cert.now in
    let left' = g.C.Source.left c.check_one.new.source in
    let number = c.args.course.now.checks + 1 in
    let line = c.in-Refused.line in
    let k = c.in-Refused.kind in
    let t = c.in_ok-refused-in-Refused.field-0 in
    let ends = c.in_ok-refused-in-Refused.ensures in
    let same = trees-at c.args.course.now.store c.args.formulas.now trees at in
    let next : number ≡ suc c.args.course.now.checks = omega arith in
    let judged = subst (λ (ts : List Tree). IsVerdictFrom (task_of ts number reader.version) Opening reader.given (to_give reader.rest left) reader'.given (to_give reader'.rest left') (Refused line k)) same c.in-Refused.ensures.verdict in
    let old = option_map (stands e) rest in
    let shows : ShowsEnding c.args.places s old None RefusedSo = inl (e, now, trees, h.gives, comes-next e rest) in
    end-turns c.args.places t _ s old rest None _ _ (ends-by (ShowsEnding c.args.places s old None) RefusedSo (refused_line line k) t ends shows)
    (section-ends c.args.places s now e trees h.gives reader.version c.args.course.now.checks number reader.given next reader'.given rest (to_give reader.rest left) (to_give reader'.rest left') line k t
    (λ far. elim (c.in-Refused.ensures.within (subst (λ (ts : List Tree). c.args.places < length (problem_of ts).prefix) (sym same) far)) [ inl f ↦ cc | inr f ↦ cc ]) judged ends)

pub returns-in_ok-line-in-PrefixLimit-clause-turns : goal.returns-in_ok-line-in-PrefixLimit-clause-turns
returns-in_ok-line-in-PrefixLimit-clause-turns g c s e now trees rest h at place =
    let reader = c.args.reader.now in
    let left = g.C.Source.left c.args.cert.now in
    let number = c.args.course.now.checks + 1 in
    let same = trees-at c.args.course.now.store c.args.formulas.now trees at in
    let next : number ≡ suc c.args.course.now.checks = omega arith in
    let line = c.in_ok-line-in-PrefixLimit.line in
    let far = subst (λ (ts : List Tree). c.args.places < length (problem_of ts).prefix) same (c.in-PrefixLimit.ensures.over refl) in (
      (e, comes-next e rest, inr (now, trees, h.gives, far)),
      section-over c.args.places s now e trees h.gives reader.version c.args.course.now.checks number reader.given next rest (to_give reader.rest left) (Ended line Faulty) far
          (ap (λ (t : List ℕ). writes t 1) (ap (λ p. refusal p (codes "prefix limit")) (sym place) ∙ sym c.in_ok-line-in-PrefixLimit.ensures)),
    )

pub returns-in-ReadFault-clause-read : goal.returns-in-ReadFault-clause-read
returns-in-ReadFault-clause-read g c = λ _. c.in-ReadFault.ensures.ends (λ e. cc)

pub returns-in-ReadLimit-clause-limit : goal.returns-in-ReadLimit-clause-limit
returns-in-ReadLimit-clause-limit g c = λ _ s e now trees rest h at.
    let reader = c.args.reader.now in
    let reader' = c.check_one.new.reader in
    let left = g.C.Source.left c.args.cert.now in
    let left' = g.C.Source.left c.check_one.new.source in
    let number = c.args.course.now.checks + 1 in
    let next : number ≡ suc c.args.course.now.checks = omega arith in
    let same = trees-at c.args.course.now.store c.args.formulas.now trees at in
    let judged = subst (λ (ts : List Tree). IsVerdictFrom (task_of ts number reader.version) Opening reader.given (to_give reader.rest left) reader'.given (to_give reader'.rest left') ReadLimit) same c.in-ReadLimit.ensures.verdict in
    record {
      took = c.in-ReadLimit.ensures.took;
      wanted = section-wants c.args.places s now e trees h.gives reader.version c.args.course.now.checks number reader.given next reader'.given rest (to_give reader.rest left) (to_give reader'.rest left')
          (λ far. elim (c.in-ReadLimit.ensures.within (subst (λ (ts : List Tree). c.args.places < length (problem_of ts).prefix) (sym same) far)) [ inl f ↦ cc | inr f ↦ cc ]) judged;
    }

pub returns-in_ok-from_slice-in-Accepted-clause-takes : goal.returns-in_ok-from_slice-in-Accepted-clause-takes
returns-in_ok-from_slice-in-Accepted-clause-takes g c = λ _. c.in-Accepted.ensures.took
