use Rattle.std.proofs.Common.{◌≡◌, ◌≤◌, ◌+◌, ℕ, length, refl, sym, ap, subst, Err, arith}
use Rattle.std.proofs.lemmas.List.{length-append}
use Rattle.std.proofs.lemmas.Result.{err_from_is_err_and}
use Rattle.qv_circuits_laws.specs.Standing.{Stands}
use Rattle.qv_store.specs.Nodes.{tree_at}
use Rattle.qv_store.specs.Walks.{IsEarlier}
use Rattle.qv_store.proofs.Passes.{contains-earlier}
use Rattle.qv_blast.specs.declared.faults.BlastFault.TheVariants.{TooManyVariables}
use Rattle.qv_blast.specs.Blasters.{blasting_of}
use Rattle.qv_blast.proofs.Formulas.{formula-made, formula-next, nodes-made, unit-made, unit-ready}
use Rattle.qv_blast.proofs.FromOne.{grown-then}
use Rattle.qv_blast.proofs.Walking.{same-behind, walk-free}
use Rattle.qv_blast.proofs.blaster.add_formula.Goals as goal

pub blast_terms-requires : goal.blast_terms-requires
blast_terms-requires c =
    let trees = c.args.store.now in
    let old = c.args.terms.now in
    let new = c.visit.new.self in
    let bits = c.args.bits.now in
    let t = tree_at trees c.args.formula in
    let s = c.args.lists.now in
    let all : length bits ≡ length old = c.requires.all in
    let few : length bits ≤ length old = omega (arith, all) in
    let walked = c.in_ok-visit.ensures.nodes c.requires.free in
    let behind = c.in_ok-visit.ensures.behind in
    let longer : length old ≤ length new = let e = ap length behind.behind in omega (arith, e, length-append old behind.more) in
    record {
      walk = c.in_ok-visit.ensures.walk;
      few = omega (arith, few, longer);
      stands = subst Stands (sym (same-behind trees old new bits s few behind)) c.requires.ready.stands;
      free = walk-free trees old new t c.requires.ready.free c.requires.free c.in_ok-visit.ensures.order;
    }

pub returns-in_err-blast_terms-clause-over : goal.returns-in_err-blast_terms-clause-over
returns-in_err-blast_terms-clause-over c e =
    let trees = c.args.store.now in
    let old = c.args.terms.now in
    let new = c.visit.new.self in
    let bits = c.args.bits.now in
    let t = tree_at trees c.args.formula in
    let s = c.args.lists.now in
    let all : length bits ≡ length old = c.requires.all in
    let few : length bits ≤ length old = omega (arith, all) in
    let walked = c.in_ok-visit.ensures.nodes c.requires.free in
    let p = err_from_is_err_and c.from_residual-in_err-blast_terms.result c.from_residual-in_err-blast_terms.ensures.1 in
    let is : c.in_err-blast_terms.field-0.0 ≡ TooManyVariables = let q = p.1 in let r = p.2 in cc in
    let over = c.in_err-blast_terms.ensures.over (ap Err is) in
    let made = nodes-made trees old new bits (length bits) t s _ refl all c.in_ok-visit.ensures.behind walked refl in
    formula-next (blasting_of trees old bits s) _ t (s.limit + 1) made over

pub add_unit-requires : goal.add_unit-requires
add_unit-requires c =
    let here = contains-earlier c.visit.new.self c.args.formula c.in_ok-visit.ensures.has in
    let count : length c.blast_terms.new.bits ≡ length c.visit.new.self = c.in_ok-blast_terms.ensures.all in
    subst (λ (n : ℕ). IsEarlier c.visit.new.self n c.args.formula) (sym count) here

pub returns-clause-formula : goal.returns-clause-formula
returns-clause-formula c =
    let trees = c.args.store.now in
    let old = c.args.terms.now in
    let new = c.visit.new.self in
    let bits = c.args.bits.now in
    let t = tree_at trees c.args.formula in
    let s = c.args.lists.now in
    let all : length bits ≡ length old = c.requires.all in
    let few : length bits ≤ length old = omega (arith, all) in
    let walked = c.in_ok-visit.ensures.nodes c.requires.free in
    let after = c.blast_terms.new.bits in
    let unit = c.in_ok-add_unit.ensures.unit in
    let made = nodes-made trees old new bits (length bits) t s _ refl all c.in_ok-visit.ensures.behind walked c.in_ok-blast_terms.ensures.steps in
    formula-made (blasting_of trees old bits s) _ _ t made (unit-made trees new after c.args.formula c.blast_terms.new.lists c.add_unit.new.lists c.in_ok-blast_terms.ensures.ready.walk unit)

pub returns-clause-ready : goal.returns-clause-ready
returns-clause-ready c =
    let unit = c.in_ok-add_unit.ensures.unit in
    let ready = c.in_ok-blast_terms.ensures.ready in
    unit-ready c.args.store.now c.visit.new.self _ c.args.formula c.blast_terms.new.lists c.add_unit.new.lists ready.walk unit ready

pub returns-clause-grown : goal.returns-clause-grown
returns-clause-grown c = grown-then _ _ _ c.in_ok-blast_terms.ensures.grown c.in_ok-add_unit.ensures.grown

pub returns-in_err-add_unit-clause-grown : goal.returns-in_err-add_unit-clause-grown
returns-in_err-add_unit-clause-grown c = grown-then _ _ _ c.in_ok-blast_terms.ensures.grown c.in_err-add_unit.ensures.grown
