use Rattle.std.proofs.Common.{◌≡◌, ◌+◌, ◌++◌, ◌-◌, ◌≤◌, ℕ, suc, not, Some, List, drop, length, sym, ap, subst, arith, ◌∙◌}
use Rattle.std.proofs.lemmas.List.{drop-drop}
use Rattle.qv_sexpr.specs.Reader.{to_read}
use Rattle.qv_cert.specs.Text.{text_of}
use Rattle.qv_check_defs.specs.Outcome.{answer_line}
use Rattle.qv_trim.proofs.Lines.{slice-rest}
use Rattle.qv_check_trim.specs.Sections.{BeginsWithAnswer, BeginsWithNoAnswer}
use Rattle.std.specs.Prelude.{MatchOption}
use Rattle.qv_check_clauses.specs.Following.{Between}
use Rattle.qv_check_clauses.proofs.Followed.{between-end, between-on, between-start, fits-more, no-answer}
use Rattle.qv_check_clauses.proofs.following.add_each.Goals as goal

pub sections-init : goal.sections-init
sections-init c = record {
  within = omega arith;
  begun = c.requires.begun;
  reads = c.requires.reads;
  between = λ written here. between-start c.args.places c.args.reader.now.version 1 c.args.reader.now.given (to_read c.args.commands.now (Some c.args.script.now.left.now)) c.args.course.now (text_of (c.args.reader.now.rest ++ c.args.cert.now.left.now)) c.args.printed.now written c.args.out.now.items here;
}

pub add_next-requires-clause-comes : goal.add_next-requires-clause-comes
add_next-requires-clause-comes c =
    let w = c.sections.invariant.between c.requires.comes.0 c.requires.comes.1 in
    (drop c.sections.at c.args.printed.now, w.later, w.comes)

pub returns-then-is_none-clause-written : goal.returns-then-is_none-clause-written
returns-then-is_none-clause-written c written here =
    let printed = c.args.printed.now in
    let at = c.sections.at in
    let found = c.answer_size.result in
    let none = no-answer found (drop at printed) (c.is_none.ensures ∙ ap not c.if-is_none.true) (subst (λ (t : List ℕ). MatchOption found (BeginsWithNoAnswer t) (λ size. BeginsWithAnswer t size)) (slice-rest printed at) c.answer_size.ensures) in
    between-end c.args.places c.sections.reader.version c.sections.number c.sections.reader.given (to_read c.sections.commands (Some c.sections.script.left.now)) c.sections.course (text_of (c.sections.reader.rest ++ c.sections.cert.left.now)) (drop at printed) written c.args.out.now.items c.sections.out.items
    (c.sections.invariant.between written here) none

pub sections-preserved : goal.sections-preserved
sections-preserved c =
    let i = c.sections.invariant in
    let places = c.args.places in
    let printed = c.args.printed.now in
    let at = c.sections.at in
    let number = c.sections.number in
    let answer = c.in_ok-answer.answer in
    let line = c.answer_line.result.now in
    let r = c.sections.reader in
    let r' = c.add_next.new.reader in
    let text = text_of (r.rest ++ c.sections.cert.left.now) in
    let text' = text_of (r'.rest ++ c.add_next.new.cert.left.now) in
    let script = to_read c.sections.commands (Some c.sections.script.left.now) in
    let script' = to_read c.add_next.new.commands (Some c.add_next.new.script.left.now) in
    let course = c.sections.course in
    let course' = c.add_next.new.course in
    let before = c.args.out.now.items in
    let now = c.sections.out.items in
    let after = c.add_next.new.out.items in
    let line_is : line ≡ answer_line answer = c.answer_line.ensures in
    let next : suc number ≡ number + 1 = omega arith in
    let dropped : drop (length (answer_line answer)) (drop at printed) ≡ drop (at + length line) printed = ap (λ (t : List ℕ). drop (length t) (drop at printed)) (sym line_is) ∙ drop-drop (length line) at printed in
    let first = i.between c.requires.comes.0 c.requires.comes.1 in
    let told = c.in_ok-answer.ensures.comes (drop at printed) first.later first.comes in
    record {
      within = subst (λ (t : List ℕ). at + length t ≤ length printed) (sym line_is) (fits-more printed at answer told.printed_later i.within told.prints);
      begun = c.in_ok-answer.ensures.goes_on.0;
      reads = c.in_ok-answer.ensures.goes_on.1;
      between = λ written here.
          let w = i.between written here in
          subst (λ n. Between places r'.version n script' course' r'.given text' (drop (at + length line) printed) written before after) next
          (subst (λ (t : List ℕ). Between places r'.version (suc number) script' course' r'.given text' t written before after) dropped
          (between-on places r.version r'.version number r.given r'.given script script' course course' text text' (drop at printed) written before now after w answer (c.in_ok-answer.ensures.comes (drop at printed) w.later w.comes)));
    }
