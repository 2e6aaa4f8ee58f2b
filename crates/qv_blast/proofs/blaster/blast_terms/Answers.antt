use Rattle.std.proofs.Common.{◌≡◌, ◌<◌, ◌∙◌, ap, drop, length, Err, arith, ℕ, sym}
use Rattle.std.proofs.lemmas.Result.{err_from_is_err_and}
use Rattle.qv_words.specs.Clauses.{Blasting, with_each_node}
use Rattle.qv_store.specs.Walks.{named}
use Rattle.qv_blast.specs.declared.faults.BlastFault.TheVariants.{TooManyVariables}
use Rattle.qv_blast.specs.Blasters.{blasting_of}
use Rattle.qv_blast.proofs.FromOne.{grown-then}
use Rattle.qv_blast.proofs.Walking.{each-more, each-next, front-then}
use Rattle.qv_blast.proofs.blaster.blast_terms.Goals as goal

pub terms-preserved : goal.terms-preserved
terms-preserved c =
    let trees = c.args.store.now in
    let ids = c.args.terms.now in
    let left = c.terms.invariant in
    let next = c.in_ok-blast_next.ensures in
    let i = length c.terms.bits in
    let low : i < length ids = omega (arith, c.terms-test.true, c.len.ensures, c.len-in-terms.ensures) in
    let b : Blasting = blasting_of trees ids c.terms.bits c.terms.lists in
    let d : Blasting = blasting_of trees ids c.blast_next.new.bits c.blast_next.new.lists in
    record {
      ready = next.ready;
      end = left.end ∙ each-next trees ids i b d low next.steps ∙ ap (λ (k : ℕ). with_each_node d (drop k (named trees ids))) (sym next.one);
      more = omega (arith, left.more, next.one);
      front = front-then c.args.bits.now c.terms.bits c.blast_next.new.bits left.more left.front next.front;
      grown = grown-then _ _ _ left.grown next.grown;
    }

pub returns-in_err-blast_next-clause-grown : goal.returns-in_err-blast_next-clause-grown
returns-in_err-blast_next-clause-grown c = grown-then _ _ _ c.terms.invariant.grown c.in_err-blast_next.ensures.grown

pub returns-in_err-blast_next-clause-over : goal.returns-in_err-blast_next-clause-over
returns-in_err-blast_next-clause-over c e =
    let trees = c.args.store.now in
    let ids = c.args.terms.now in
    let left = c.terms.invariant in
    let i = length c.terms.bits in
    let low : i < length ids = omega (arith, c.terms-test.true, c.len.ensures, c.len-in-terms.ensures) in
    let b : Blasting = blasting_of trees ids c.terms.bits c.terms.lists in
    let p = err_from_is_err_and c.from_residual.result c.from_residual.ensures.1 in
    let is : c.in_err-blast_next.field-0.0 ≡ TooManyVariables = let q = p.1 in let r = p.2 in cc in
    let over = c.in_err-blast_next.ensures.over (ap Err is) in
    let more = each-more trees ids i b low in
    let same = ap (λ (x : Blasting). x.next) left.end in
    omega (arith, over, more, same, left.grown.limit)
