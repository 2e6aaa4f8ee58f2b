use Rattle.std.proofs.Common.{◌≡◌, All, Some, rules, refl, sym, ◌∙◌, ap, subst}
use Rattle.std.specs.Option.{option_copied}
use Rattle.std.specs.Prelude.{IsSome}
use Rattle.std.proofs.lemmas.Option.{same_Some}
use Rattle.qv_learn.proofs.Pointing.{may_reach_reason}
use Rattle.qv_learn.proofs.Positions.{follows, has_reason}
use Rattle.qv_learn.specs.Frontiers.{MayReach}
use Rattle.qv_learn.proofs.point.Frontier.resolve.Goals as goal

pub unwrap-id-requires : goal.unwrap-id-requires
unwrap-id-requires c =
    let t = c.args.trail.now in
    let low = c.requires.frontier.present in
    let p = c.requires.pending in
    let r = has_reason t c.args.lit c.args.self.now.lowest c.requires.trail p.present.is_true low.is_true (p.present.level ∙ sym low.level) p.behind in
    subst IsSome (sym (c.reason.ensures ∙ r.1)) refl

pub unwrap-reason-requires : goal.unwrap-reason-requires
unwrap-reason-requires c =
    let f = follows c.args.trail.now c.args.lit c.unwrap-id.result c.requires.trail c.requires.pending.present.is_true (sym c.reason.ensures ∙ c.unwrap-id.ensures) in
    let named : option_copied c.clause.result ≡ Some f.lits = c.clause.ensures ∙ f.named in
    search rules

pub reach_all-requires-clause-may : goal.reach_all-requires-clause-may
reach_all-requires-clause-may c =
    let t = c.args.trail.now in
    let p = c.requires.pending in
    let f = follows t c.args.lit c.unwrap-id.result c.requires.trail p.present.is_true (sym c.reason.ensures ∙ c.unwrap-id.ensures) in
    let is : c.unwrap-reason.result.now ≡ f.lits = same_Some c.unwrap-reason.result.now f.lits (sym (ap option_copied c.unwrap-reason.ensures) ∙ c.clause.ensures ∙ f.named) in
    subst (All (MayReach t c.args.self.now.marks)) (sym is) (may_reach_reason t c.args.self.now.marks c.args.lit c.unwrap-id.result f p.present.is_true p.marked)
