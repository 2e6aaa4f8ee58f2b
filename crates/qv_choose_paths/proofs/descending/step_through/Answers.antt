use Rattle.std.proofs.Common.{subst, List, ℕ, ap, sym, ◌∙◌, arith}
use Rattle.qv_choose_paths.specs.Looks.{way_of}
use Rattle.qv_choose_paths.proofs.StepLaws.{no-step}
use Rattle.qv_store.proofs.Evaluation.{one-of, two-of}
use Rattle.qv_choose_paths.specs.Steps.{AreKids}
use Rattle.qv_choose_paths.proofs.descending.step_through.Goals as goal

pub step_to_only-requires-clause-kids : goal.step_to_only-requires-clause-kids
step_to_only-requires-clause-kids c =
    subst (λ (ks : List ℕ). AreKids c.args.store.now c.args.sight.now.walk c.args.id c.args.op ks)
    (one-of c.args.kids.now c.a-item.result c.in-len1.len_at_least c.in-len1.len_below c.a-item.is) c.requires.kids

pub step_to_one-requires-clause-kids : goal.step_to_one-requires-clause-kids
step_to_one-requires-clause-kids c =
    subst (λ (ks : List ℕ). AreKids c.args.store.now c.args.sight.now.walk c.args.id c.args.op ks)
    (two-of c.args.kids.now c.a-item-then-kids-lt3.result c.b-item.result c.in-len2.len_at_least c.in-len2.len_below c.a-item-then-kids-lt3.is c.b-item.is) c.requires.kids

pub unreachable-requires-in-len3-up : goal.unreachable-requires-in-len3-up
unreachable-requires-in-len3-up c =
    no-step c.args.sight.now.place c.args.store.now c.args.op c.args.kids.now (λ e. omega (arith, e, c.in-len3-up.len_at_least)) (λ e. omega (arith, e, c.in-len3-up.len_at_least))
    (ap (way_of c.args.sight.now.place) (sym c.requires.kids.tree_is) ∙ c.requires.way)
