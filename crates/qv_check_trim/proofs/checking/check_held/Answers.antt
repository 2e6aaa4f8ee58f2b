use Rattle.std.proofs.Common.{◌<◌, inl, inr, ℕ, List, length, ap, sym, subst}
use Rattle.qv_sexpr.specs.Limits.{read_limit}
use Rattle.qv_check_trim.proofs.Checks.{checked-of, none-met, none-rose}
use Rattle.qv_check_trim.proofs.checking.check_held.Goals as goal

pub returns-clause-checked : goal.returns-clause-checked
returns-clause-checked g c =
    checked-of c.args.places (g.S.Source.left c.args.script.now) c.verify-ended.result c.args.cert.now c.new-held.result.left.now c.into_bytes.result.items c.verify-ended.new.out.held c.new-sink.result.held
    c.new-held.ensures c.into_bytes.ensures (ap (λ s. s.held) c.new-sink.ensures) c.verify-ended.ensures.done c.verify-ended.ensures.cut c.verify-ended.ensures.short

pub returns-clause-read : goal.returns-clause-read
returns-clause-read g c read = elim (c.verify-ended.ensures.read read) [ inl script ↦ script | inr cert ↦ absurd (none-rose cert) ]

pub returns-clause-limit : goal.returns-clause-limit
returns-clause-limit g c limit =
    let few : length c.new-held.result.left.now < read_limit = subst (λ (bytes : List ℕ). length bytes < read_limit) (sym c.new-held.ensures) c.requires in
    elim (c.verify-ended.ensures.limit limit) [ inl script ↦ script | inr cert ↦ absurd (none-met _ c.new-held.result.left.now _ _ few cert) ]
