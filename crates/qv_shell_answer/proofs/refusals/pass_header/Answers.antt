use Rattle.std.proofs.Common.{◌≡◌, ◌∙◌, false, None, Some, List, ℕ, ap, subst, option_map, Ok}
use Rattle.qv_cert.specs.declared.answers.CertNext.TheVariants as next
use Rattle.qv_cert.specs.LineView.{cert_line_of}
use Rattle.qv_cert.specs.CertReader.{Position, to_give, GivesNext, version_behind}
use Rattle.qv_shell_answer.proofs.Refusing.{behind-first, first-version}
use Rattle.qv_shell_answer.proofs.refusals.pass_header.Goals as goal
use Rattle.qv_shell_answer.proofs.refusals.pass_header.Goals.{in-Line, in_default}

pub returns-clause-version : goal.returns-clause-version
returns-clause-version c lines apart is =
    let left = c.args.source.now.left in
    let reader = c.next_line.new.self in
    let reads = ap (λ (p : Position). p.stopped) c.requires in
    elim c.match-next_line.branch [
      | in-Line w ↦
          let answer = next.Line w.in-Line.number w.in-Line.line in
          let given = subst (λ (p : Position). GivesNext p.given false (to_give p.rest (Some left)) answer (to_give reader.rest (Some c.next_line.new.source.left))) c.requires (w.in-Line.ensures.next reads) in
          let named = subst (λ (p : Position). reader.version ≡ version_behind p.given p.version answer) c.requires w.in-Line.ensures.version in
          rw w.result-is (named ∙ first-version lines left reader.rest c.next_line.new.source.left given.0 (cert_line_of w.in-Line.line) apart is given.1 given.2)
      | in_default w ↦ rw w.result-is tt
    ]

pub returns-clause-lines : goal.returns-clause-lines
returns-clause-lines c lines apart is =
    let left = c.args.source.now.left in
    let reader = c.next_line.new.self in
    let reads = ap (λ (p : Position). p.stopped) c.requires in
    elim c.match-next_line.branch [
      | in-Line w ↦
          let answer = next.Line w.in-Line.number w.in-Line.line in
          let given = subst (λ (p : Position). GivesNext p.given false (to_give p.rest (Some left)) answer (to_give reader.rest (Some c.next_line.new.source.left))) c.requires (w.in-Line.ensures.next reads) in
          rw w.result-is (behind-first lines left reader.rest c.next_line.new.source.left given.0 (cert_line_of w.in-Line.line) apart is given.1 given.2)
      | in_default w ↦ rw w.result-is tt
    ]
