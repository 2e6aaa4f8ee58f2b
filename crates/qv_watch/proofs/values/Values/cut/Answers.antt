use Rattle.std.proofs.Common.{◌≡◌, ◌-◌, length, take, sym, ◌∙◌, ap, arith}
use Rattle.qv_watch.specs.Entries.{last_level, up_to}
use Rattle.qv_watch.specs.Table.{entries_of}
use Rattle.qv_watch.proofs.Valuing.{cut_turn, cut_end, shorter_front, same_entered}
use Rattle.qv_watch.proofs.values.Values.cut.Goals as goal

pub loop-self-preserved : goal.loop-self-preserved
loop-self-preserved c =
    let es = c.loop-self.self.entries in
    let level : c.self.inside.level ≡ last_level es = c.self.invariant.present ∙ ap (λ v. last_level v.entries) c.self.view_is in
    let turn = cut_turn c.args.level es c.pop.ensures.stepped (omega (arith, c.loop-self-test.true)) in
    let is : c.pop.new.self.entries ≡ take (length es - 1) es = ap (λ v. v.entries) c.pop.ensures.entries in
    record {
      room = ap (λ v. v.room) c.pop.ensures.entries ∙ c.loop-self.invariant.room;
      kept = ap (up_to c.args.level) is ∙ turn.0 ∙ c.loop-self.invariant.kept;
      front = rw is (shorter_front es c.args.self.now.entries c.loop-self.invariant.front);
      reached = rw is turn.1;
    }

pub returns-clause-entries : goal.returns-clause-entries
returns-clause-entries c =
    let es = c.loop-self.self.entries in
    let inside = entries_of c.self.inside.vars.items c.self.inside.order.items in
    let is : inside ≡ es = ap (λ v. v.entries) c.self.view_is in
    let level : c.self.inside.level ≡ last_level inside = c.self.invariant.present in
    let end : up_to c.args.level inside ≡ inside = cut_end c.args.level inside c.self.invariant.stepped (omega (arith, c.loop-self-test.false)) in
    same_entered _ _ _ _ c.loop-self.invariant.room (sym is ∙ sym end ∙ ap (up_to c.args.level) is ∙ c.loop-self.invariant.kept)
