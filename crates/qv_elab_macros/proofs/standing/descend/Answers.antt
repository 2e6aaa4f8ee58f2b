use Rattle.std.proofs.Common.{◌≡◌, ◌<◌, ◌+◌, ◌++◌, ◌∷◌, [], Some, None, get_or, length, drop, take, sym, ap, subst, ◌∙◌, arith, length-append, max}
use Rattle.qv_store.specs.Nodes.{tree_at}
use Rattle.qv_store.specs.Walks.{named}
use Rattle.qv_elab_macros.specs.PassDown.{peak, IsPassed}
use Rattle.qv_elab_macros.proofs.Peaks.{written, passed-last, none-last, none-left, at-last}
use Rattle.qv_elab_macros.proofs.standing.descend.Goals as goal

pub terms-preserved-in-Some-found : goal.terms-preserved-in-Some-found
terms-preserved-in-Some-found c =
    let rest = c.pop.new.self.items in
    let ts = named c.args.store.now c.args.walk.now in
    let below : c.terms.below.items ≡ rest ++ Some c.in-Some-found.depth ∷ [] = c.in-Some.ensures.items ∙ ap (λ d. rest ++ d ∷ []) c.in-Some-found.is in
    let long : length c.terms.below.items ≡ length rest + 1 = ap length below ∙ length-append rest (Some c.in-Some-found.depth ∷ []) in
    let many : c.len.result ≡ length rest = c.len.ensures ∙ sym c.deref_mut.ensures.len ∙ ap length c.deref_mut.ensures.value in
    let within : length rest < length c.args.walk.now = omega (arith, long, c.terms.invariant.within) in
    let at = at-last c.args.store.now c.args.walk.now c.ids-ids.result.now (length rest) c.len.result c.index-ids-len.result c.ids-ids.ensures many within c.index-ids-len.is in
    let passed : IsPassed ts rest c.terms.depths (tree_at c.args.store.now c.index-ids-len.result) c.in-Some-found.depth c.pass_down.new.below c.pass_down.new.depths =
    subst (λ ds. IsPassed ts ds c.terms.depths (tree_at c.args.store.now c.index-ids-len.result) c.in-Some-found.depth c.pass_down.new.below c.pass_down.new.depths) c.deref_mut.ensures.value c.pass_down.ensures.passed in
    let whole : take c.pop.new.self.len (c.pass_down.new.below ++ drop (length c.pass_down.new.below) rest) ≡ c.pass_down.new.below =
    written c.pass_down.new.below rest c.pop.new.self.len passed.len (sym c.deref_mut.ensures.len ∙ ap length c.deref_mut.ensures.value) in
    record {
      within = omega (arith, ap length whole, passed.len, within);
      count = passed.count ∙ c.terms.invariant.count;
      depths = λ k lt.
          subst (λ ds. max (get_or c.pass_down.new.depths k 0) (peak k ts ds) ≡ max (get_or c.args.depths.now k 0) (peak k ts c.args.below.items)) (sym whole)
          (passed-last ts k c.terms.below.items rest c.pass_down.new.below c.terms.depths c.pass_down.new.depths (tree_at c.args.store.now c.index-ids-len.result) c.in-Some-found.depth
          (max (get_or c.args.depths.now k 0) (peak k ts c.args.below.items)) below at passed (omega (arith, lt, c.terms.invariant.count)) (c.terms.invariant.depths k lt));
    }

pub terms-preserved : goal.terms-preserved
terms-preserved c =
    let rest = c.pop.new.self.items in
    let ts = named c.args.store.now c.args.walk.now in
    let below : c.terms.below.items ≡ rest ++ None ∷ [] = c.in-Some.ensures.items ∙ ap (λ d. rest ++ d ∷ []) c.in_default-found.is in
    let long : length c.terms.below.items ≡ length rest + 1 = ap length below ∙ length-append rest (None ∷ []) in
    record {
      within = omega (arith, long, c.terms.invariant.within);
      count = c.terms.invariant.count;
      depths = λ k lt. none-last ts k c.terms.below.items rest c.terms.depths (max (get_or c.args.depths.now k 0) (peak k ts c.args.below.items)) below (c.terms.invariant.depths k lt);
    }

pub returns-clause-depths : goal.returns-clause-depths
returns-clause-depths c l lt =
    let none : length c.terms.below.items ≡ 0 = omega (arith, c.in_default.ensures.cases.0) in
    none-left (named c.args.store.now c.args.walk.now) l c.terms.below.items c.terms.depths (max (get_or c.args.depths.now l 0) (peak l (named c.args.store.now c.args.walk.now) c.args.below.items)) none (c.terms.invariant.depths l lt)
