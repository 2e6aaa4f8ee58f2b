use Rattle.std.proofs.Common.{◌≡◌, ◌∙◌, false, ap, subst}
use Rattle.qv_cert.specs.declared.answers.CertNext.TheVariants as next
use Rattle.qv_cert.specs.LineView.{cert_line_of}
use Rattle.qv_cert.specs.CertReader.{Position, to_give, GivesNext, IsNumbered, version_behind}
use Rattle.qv_check_lines.proofs.TakenBy.{limit-took}
use Rattle.qv_check_script.proofs.Wanting.{first-wanted}
use Rattle.qv_check_script.proofs.Heading.{is-header, no-line, wrong-line}
use Rattle.qv_check_script.proofs.header.read_header.Goals as goal
use Rattle.qv_check_script.proofs.header.read_header.Goals.{in-Line, in-End+in_ok-refused_line-in-End, in-Fault+in_ok-refused_line-in-Fault, in-ReadFault, in-ReadLimit, in-NoMemory}

pub returns-clause-heads : goal.returns-clause-heads
returns-clause-heads g c =
    let left = g.C.Source.left c.args.cert.now in
    let new = to_give c.next_line.new.self.rest (g.C.Source.left c.next_line.new.source) in
    let version = c.next_line.new.self.version in
    let fresh = c.requires.fresh in
    let reads = ap (λ (p : Position). p.stopped) fresh in
    elim c.match-next_line.branch [
      | in-Line w ↦
          let answer = next.Line w.in-Line.number w.in-Line.line in
          let given = subst (λ (p : Position). GivesNext p.given false (to_give p.rest left) answer new) fresh (w.in-Line.ensures.next reads) in
          let named = subst (λ (p : Position). version ≡ version_behind p.given p.version answer) fresh w.in-Line.ensures.version in
          rw w.result-is (is-header left new given.0 (cert_line_of w.in-Line.line) version given.1 given.2 named)
      | in-End+in_ok-refused_line-in-End w ↦
          let answer = next.End w.in-End.number in
          let given = subst (λ (p : Position). GivesNext p.given false (to_give p.rest left) answer new) fresh (w.in-End.ensures.next reads) in
          let count = subst (λ (p : Position). IsNumbered p.given answer) fresh w.in-End.ensures.number in
          rw w.result-is (no-line left new w.in_ok-refused_line-in-End.field-0.items w.in-End.number version count w.in_ok-refused_line-in-End.ensures given)
      | in-Fault+in_ok-refused_line-in-Fault w ↦
          let answer = next.Fault w.in-Fault.number w.in-Fault.kind in
          let given = subst (λ (p : Position). GivesNext p.given false (to_give p.rest left) answer new) fresh (w.in-Fault.ensures.next reads) in
          let count = subst (λ (p : Position). IsNumbered p.given answer) fresh w.in-Fault.ensures.number in
          rw w.result-is (wrong-line left new w.in_ok-refused_line-in-Fault.field-0.items w.in-Fault.number version w.in-Fault.kind count w.in_ok-refused_line-in-Fault.ensures given)
      | in-ReadFault w ↦ rw w.result-is tt
      | in-ReadLimit w ↦ rw w.result-is tt
      | in-NoMemory w ↦ rw w.result-is tt
    ]

pub returns-clause-takes : goal.returns-clause-takes
returns-clause-takes g c =
    let reads = ap (λ (p : Position). p.stopped) c.requires.fresh in
    elim c.match-next_line.branch [
      | in-Line w ↦ λ _. w.in-Line.ensures.took reads
      | in-End+in_ok-refused_line-in-End w ↦ rw w.result-is (λ is. absurd cc)
      | in-Fault+in_ok-refused_line-in-Fault w ↦ rw w.result-is (λ is. absurd cc)
      | in-ReadFault w ↦ rw w.result-is (λ is. absurd cc)
      | in-ReadLimit w ↦ rw w.result-is (λ is. absurd cc)
      | in-NoMemory w ↦ rw w.result-is (λ is. absurd cc)
    ]

pub returns-clause-limit : goal.returns-clause-limit
returns-clause-limit g c =
    let fresh = c.requires.fresh in
    let reads = ap (λ (p : Position). p.stopped) fresh in
    elim c.match-next_line.branch [
      | in-Line w ↦ rw w.result-is (λ is. absurd cc)
      | in-End+in_ok-refused_line-in-End w ↦ rw w.result-is (λ is. absurd cc)
      | in-Fault+in_ok-refused_line-in-Fault w ↦ rw w.result-is (λ is. absurd cc)
      | in-ReadFault w ↦ rw w.result-is (λ is. absurd cc)
      | in-ReadLimit w ↦ λ _ places script. record {
        took = limit-took g.C.Source.read_gives g.C.Source.left c.args.reader.now c.args.cert.now c.next_line.new.self c.next_line.new.source w.in-ReadLimit.ensures.given (w.in-ReadLimit.ensures.calls reads) (w.in-ReadLimit.ensures.took reads);
        wanted = first-wanted places script (g.C.Source.left c.args.cert.now) c.next_line.new.self.given (w.in-ReadLimit.ensures.given ∙ ap (λ (p : Position). p.given) fresh);
      }
      | in-NoMemory w ↦ rw w.result-is (λ is. absurd cc)
    ]
