use Rattle.std.proofs.Common.{◌++◌, Some, List, ℕ, sym, ap, subst, ◌∙◌}
use Rattle.qv_sexpr.specs.Reader.{Position, to_read}
use Rattle.qv_sexpr.specs.Script.{reads}
use Rattle.qv_cert.specs.Text.{text_of}
use Rattle.qv_check_script.proofs.Leading.{ok-weaker}
use Rattle.qv_check_clauses.specs.Clauses.{clauses_text}
use Rattle.qv_check_clauses.specs.Following.{BeginsWithHeader, Comes}
use Rattle.qv_check_clauses.proofs.Followed.{starts}
use Rattle.qv_check_clauses.proofs.following.add_some.Goals as goal

pub add_each-requires-clause-comes : goal.add_each-requires-clause-comes
add_each-requires-clause-comes c =
    let places = c.args.places in
    let reader = c.pass_header.new.reader in
    let text = text_of (reader.rest ++ c.pass_header.new.cert.left.now) in
    let told = to_read c.in_ok-commands.commands (Some c.new-script.result.left.now) in
    let whole = clauses_text places c.args.script.now c.args.cert.now in
    let begins = subst (λ (b : List ℕ). BeginsWithHeader (text_of b) reader.version text) c.new-cert.ensures c.in_ok-pass_header.ensures.begins in
    let reading = ap (λ (p : Position). to_read p (Some c.new-script.result.left.now)) c.in_ok-commands.ensures ∙ ap (λ (b : List ℕ). Some (reads b)) c.new-script.ensures in (
      whole,
      subst (λ n. Comes places reader.version 1 told c.new-course.result n text c.args.printed.now whole) (sym c.in_ok-pass_header.ensures.goes_on.0)
          (starts places c.args.script.now c.args.cert.now c.args.printed.now reader.version text c.new-course.result told begins c.requires.printed c.new-course.ensures.stands reading),
    )

pub returns-clause-written : goal.returns-clause-written
returns-clause-written c =
    let places = c.args.places in
    let reader = c.pass_header.new.reader in
    let text = text_of (reader.rest ++ c.pass_header.new.cert.left.now) in
    let told = to_read c.in_ok-commands.commands (Some c.new-script.result.left.now) in
    let whole = clauses_text places c.args.script.now c.args.cert.now in
    let begins = subst (λ (b : List ℕ). BeginsWithHeader (text_of b) reader.version text) c.new-cert.ensures c.in_ok-pass_header.ensures.begins in
    let reading = ap (λ (p : Position). to_read p (Some c.new-script.result.left.now)) c.in_ok-commands.ensures ∙ ap (λ (b : List ℕ). Some (reads b)) c.new-script.ensures in
    let comes = subst (λ n. Comes places reader.version 1 told c.new-course.result n text c.args.printed.now whole) (sym c.in_ok-pass_header.ensures.goes_on.0)
    (starts places c.args.script.now c.args.cert.now c.args.printed.now reader.version text c.new-course.result told begins c.requires.printed c.new-course.ensures.stands reading) in
    ok-weaker c.add_each.result _ _ c.add_each.ensures.written (λ at go. go whole comes)
