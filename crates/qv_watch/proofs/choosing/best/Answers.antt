use Rattle.std.proofs.Common.{rules, ◌≡◌, ◌≢◌, ◌≤◌, ◌⊎◌, true, Some, sym, arith, inl, inr}
use Rattle.std.proofs.lemmas.Option.{none-some, slice_get_within}
use Rattle.qv_cnf.specs.Literal.{Literal}
use Rattle.qv_cnf.specs.Refutation.{among}
use Rattle.qv_watch.specs.Choosing.{rank_of}
use Rattle.qv_watch.proofs.Picking.{among_read, best-from, rank-some}
use Rattle.qv_watch.proofs.Walking.{among_stands, each_more}
use Rattle.qv_watch.proofs.choosing.best.Goals as goal
use Rattle.qv_watch.proofs.choosing.best.Goals.{then-rank-most, else-rank-most}

pub loop-lit-preserved : goal.loop-lit-preserved
loop-lit-preserved c =
    let es = c.args.values.now.entries in
    let lits = c.args.lits.now in
    let x = c.lit-item.result in
    let i = c.loop-lit.lit-index in
    let before = c.loop-lit.invariant in
    let apart : c.args.but ≢ Some x = search rules in
    elim c.if-rank-most.branch [
      | then-rank-most w ↦ rw (w.found-is, w.most-is) record {
        found = (among_read lits i x c.loop-lit-test.true c.lit-item.is, apart, c.rank-rank.ensures.rank, c.rank-rank.ensures.low);
        none = λ e. absurd (none-some x (sym e));
        most = each_more (λ y. (c.args.but ≡ Some y) ⊎ (rank_of es y ≤ c.rank-rank.result)) lits i x c.loop-lit-test.true c.lit-item.is
            (λ j y low at. elim (before.most j y low at) [
              | inl same ↦ inl same
              | inr le ↦ inr (omega (arith, w.if-rank-most.true))
            ])
            (inr (omega (arith, c.rank-rank.ensures.rank)));
      }
      | else-rank-most w ↦ rw (w.found-is, w.most-is) record {
        found = before.found;
        none = before.none;
        most = each_more (λ y. (c.args.but ≡ Some y) ⊎ (rank_of es y ≤ c.loop-lit.most)) lits i x c.loop-lit-test.true c.lit-item.is before.most
            (inr (omega (arith, c.rank-rank.ensures.rank, w.if-rank-most.false)));
      }
    ]

-- each literal of the clause was looked at
all : (c : goal.After-loop-lit) → (x : Literal) → among c.args.lits.now x ≡ true → (c.args.but ≡ Some x) ⊎ (rank_of c.args.values.now.entries x ≤ c.loop-lit.most)
all c x own =
    let there = among_stands c.args.lits.now x own in
    c.loop-lit.invariant.most there.0 x (let low = slice_get_within c.args.lits.now there.0 x there.1 in omega (arith, c.loop-lit-test.false)) there.1

pub returns-clause-some : goal.returns-clause-some
returns-clause-some c = best-from c.args.values.now.entries c.args.lits.now c.args.but c.loop-lit.most c.loop-lit.found c.loop-lit.invariant.found (all c)

pub returns-clause-none : goal.returns-clause-none
returns-clause-none c e x own = elim (all c x own) [
  | inl same ↦ same
  | inr le ↦ absurd (let some = rank-some c.args.values.now.entries x in omega (arith, c.loop-lit.invariant.none e))
]
