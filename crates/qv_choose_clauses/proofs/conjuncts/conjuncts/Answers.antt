use Rattle.std.proofs.Common.{◌≡◌, ◌++◌, List, Bool, length, drop, take, sym, subst, arith}
use Rattle.std.proofs.lemmas.List.{take_at}
use Rattle.qv_store.specs.Nodes.{tree_at}
use Rattle.qv_choose_clauses.specs.Conjuncts.{AreConjuncts}
use Rattle.qv_choose_clauses.proofs.conjuncts.conjuncts.Goals as goal

pub returns-clause-marks : goal.returns-clause-marks
returns-clause-marks c =
    let new = c.mark_all.new.marks in
    let rest = drop (length new) c.in_ok-marks.marks.items in
    let long : length new ≡ c.in_ok-marks.marks.len = omega (arith, c.mark_all.ensures.many, c.deref_mut.ensures.len) in
    let whole : take c.in_ok-marks.marks.len (new ++ rest) ≡ new = take_at new rest c.in_ok-marks.marks.len long in
    subst (λ (ms : List Bool). AreConjuncts c.args.store.now (tree_at c.args.store.now c.args.region) c.args.sight.now.walk ms) (sym whole) c.mark_all.ensures.marks
