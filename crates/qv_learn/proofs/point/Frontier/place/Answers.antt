use Rattle.std.proofs.Common.{refl, arith}
use Rattle.qv_learn.proofs.Reaching.{position_read}
use Rattle.qv_learn.proofs.point.Frontier.place.Goals as goal

pub returns-in_ok-push : goal.returns-in_ok-push
returns-in_ok-push c =
    let t = c.args.trail.now in
    let at = position_read t c.args.lit c.position.result c.requires.trail c.requires.value c.position.ensures in
    let low = position_read t c.args.self.now.lowest c.position-2.result c.requires.trail c.requires.lowest c.position-2.ensures in
    record {
      marks = refl;
      between = refl;
      below = λ _. (refl, c.in_ok-push.ensures.items);
      behind = λ h. absurd (omega arith);
    }

pub returns-in_ok-push-2 : goal.returns-in_ok-push-2
returns-in_ok-push-2 c =
    let t = c.args.trail.now in
    let at = position_read t c.args.lit c.position.result c.requires.trail c.requires.value c.position.ensures in
    let low = position_read t c.args.self.now.lowest c.position-2.result c.requires.trail c.requires.lowest c.position-2.ensures in
    record {
      marks = refl;
      between = refl;
      below = λ h. absurd (omega arith);
      behind = λ _. (refl, c.in_ok-push-2.ensures.items);
    }
