use Rattle.std.proofs.Common.{◌≡◌, ℕ, ◌<◌, false, Some, refl, sym, ap, ◌∙◌, arith, inl, inr, ◌⊎◌}
use Rattle.std.specs.List.{slice_get}
use Rattle.std.proofs.lemmas.Bool.{eqb-true, false≢true}
use Rattle.std.proofs.lemmas.Option.{slice_get_within}
use Rattle.qv_cnf.specs.Literal.{Literal, index_of}
use Rattle.qv_cnf.specs.Refutation.{among}
use Rattle.qv_watch.specs.Entries.{value_of}
use Rattle.qv_watch.proofs.Picking.{among_read}
use Rattle.qv_watch.proofs.Walking.{among_stands, each_more, same_index}
use Rattle.qv_watch.proofs.propagation.open_beside.Goals as goal
use Rattle.qv_watch.proofs.propagation.open_beside.Goals.{then-eq, else-eq+else-not-is_false}

pub loop-lit-preserved : goal.loop-lit-preserved
loop-lit-preserved c =
    let lits = c.args.lits.now in
    let x = c.lit-item.result in
    let i = c.loop-lit.lit-index in
    let before = c.loop-lit.invariant in
    elim c.if-eq.branch [
      | then-eq w ↦
          let same : x ≡ c.args.other = same_index x c.args.other (eqb-true (index_of x) (index_of c.args.other) (sym c.eq.ensures ∙ w.if-eq.true)) in
          rw w.has-is record {
            each = each_more (λ l. (l ≡ c.args.other) ⊎ (value_of c.args.values.now.entries l ≡ Some false)) lits i x (omega arith) c.lit-item.is before.each (inl same);
            has = λ _. ap (among lits) (sym same) ∙ among_read lits i x (omega arith) c.lit-item.is;
            lacks = λ e. absurd (false≢true (sym e));
          }
      | else-eq+else-not-is_false w ↦
          let f : value_of c.args.values.now.entries x ≡ Some false = w.if-not-is_false.ensures.yes refl in
          rw w.has-is record {
            each = each_more (λ l. (l ≡ c.args.other) ⊎ (value_of c.args.values.now.entries l ≡ Some false)) lits i x (omega arith) c.lit-item.is before.each (inr f);
            has = before.has;
            lacks = λ e. each_more (λ l. value_of c.args.values.now.entries l ≡ Some false) lits i x (omega arith) c.lit-item.is (before.lacks e) f;
          }
    ]

pub returns : goal.returns
returns c =
    let lits = c.args.lits.now in
    let inside : (l : Literal) → (j : ℕ) → slice_get lits j ≡ Some l → j < c.loop-lit.lit-index = λ l j h. let low = slice_get_within lits j l h in omega arith in (
      λ l own. let there = among_stands lits l own in c.loop-lit.invariant.each there.0 l (inside l there.0 there.1) there.1,
      c.loop-lit.invariant.has,
      λ none l own. let there = among_stands lits l own in c.loop-lit.invariant.lacks none there.0 l (inside l there.0 there.1) there.1,
    )
