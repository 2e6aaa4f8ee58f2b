use Rattle.std.proofs.Common.{None, Ok, inl, inr, ap}
use Rattle.std.proofs.lemmas.Result.{err_from_is_err_and}
use Rattle.qv_cert.specs.CertReader.{Position}
use Rattle.qv_shell_qdimacs.proofs.Judged.{limit-met, limit-on}
use Rattle.qv_shell_qdimacs.proofs.Written.{same-halt}
use Rattle.qv_shell_qdimacs.proofs.judging.judge.Goals as goal

pub returns-in_err-text-clause-limit : goal.returns-in_err-text-clause-limit
returns-in_err-text-clause-limit g c =
    let fresh = c.requires.fresh in
    let p = err_from_is_err_and c.from_residual.result c.from_residual.ensures.1 in
    rw (p.1, p.2)
    (λ met. inr
    (limit-met g.C.Source.read_gives g.C.Source.left c.args.reader.now c.read_header.new.reader c.args.cert.now c.read_header.new.cert (ap (λ (q : Position). q.taken) fresh)
    (c.in_err-text.ensures.limit (same-halt _ _ met) c.args.places None).took))

pub returns-in-None-clause-limit : goal.returns-in-None-clause-limit
returns-in-None-clause-limit g c met =
    let fresh = c.requires.fresh in
    let old = c.args.reader.now in
    let mid = c.read_header.new.reader in
    let new = c.judge_file.new.reader in
    elim (c.judge_file.ensures.limit met) [
      | inl limit ↦ inl limit
      | inr stops ↦ inr
          (limit-met g.C.Source.read_gives g.C.Source.left old new c.args.cert.now c.judge_file.new.cert (ap (λ (q : Position). q.taken) fresh)
          (limit-on g.C.Source.read_gives g.C.Source.left old mid new c.args.cert.now c.read_header.new.cert c.judge_file.new.cert (c.in_ok-text.ensures.takes (ap Ok c.in-None.is)) stops))
    ]
