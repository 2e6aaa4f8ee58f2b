use Rattle.qv_cert.specs.CertReader.{to_give}
use Rattle.qv_shell_qdimacs.proofs.Answered.{formula-assertion, formula-sorts}
use Rattle.qv_shell_qdimacs.proofs.Judged.{judged-in, limit-by, tells-text}
use Rattle.qv_shell_qdimacs.proofs.judging.judge_formula.Goals as goal

pub check_one-verdict-requires-clause-assertions : goal.check_one-verdict-requires-clause-assertions
check_one-verdict-requires-clause-assertions g c =
    formula-assertion c.args.places c.args.file.now.prefix.items c.args.file.now.clauses c.translate.new.store c.in_ok-translated.translated.formula c.in_ok-translated.ensures.formula

pub check_one-verdict-requires-clause-sorts : goal.check_one-verdict-requires-clause-sorts
check_one-verdict-requires-clause-sorts g c =
    formula-sorts c.args.places c.args.file.now.prefix.items c.args.file.now.clauses c.translate.new.store c.in_ok-translated.translated.formula c.in_ok-translated.ensures.formula

pub returns-clause-judged : goal.returns-clause-judged
returns-clause-judged g c =
    let v = c.check_one-verdict in
    let reader = c.args.reader.now in
    let reader' = v.new.reader in
    let left = g.C.Source.left c.args.cert.now in
    let left' = g.C.Source.left v.new.source in
    judged-in c.args.places c.args.file.now.prefix.items c.args.file.now.clauses c.translate.new.store c.in_ok-translated.translated.formula c.in_ok-translated.ensures.formula reader.version reader.given reader'.given (to_give reader.rest left) (to_give reader'.rest left')
    v.result (tells-text reader.rest reader'.rest left left' v.ensures.telling) v.ensures.verdict v.ensures.over v.ensures.within c.judge_verdict.result c.judge_verdict.ensures.judged

pub returns-clause-limit : goal.returns-clause-limit
returns-clause-limit g c met =
    let v = c.check_one-verdict in
    limit-by g.C.Source.read_gives g.C.Source.left c.args.reader.now v.new.reader c.judge_verdict.new.reader c.args.cert.now v.new.source c.judge_verdict.new.cert v.result v.ensures.took (c.judge_verdict.ensures.limit met)
