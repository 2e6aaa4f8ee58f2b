use Rattle.std.proofs.Common.{◌≡◌, ◌<◌, ◌-◌, ℕ, suc, Some, length, drop, ap, subst, sym, ◌∙◌, arith}
use Rattle.std.proofs.Math.ListN.{length-set}
use Rattle.std.specs.Prelude.{slice_get}
use Rattle.qv_store.specs.Replacing.{term_of_level}
use Rattle.qv_cert.proofs.SatSections.{nth}
use Rattle.qv_cert_nodes.specs.Putting.{term_given}
use Rattle.qv_cert_nodes.proofs.Kept.{found-there}
use Rattle.qv_cert_nodes.proofs.Puts.{one-given}
use Rattle.qv_cert_nodes.proofs.formulas.terms_by_place.Goals as goal

pub terms-preserved : goal.terms-preserved
terms-preserved c =
    let terms = c.args.terms.now in
    let left = c.terms.left - 1 in
    let t = c.index-terms-left.result in
    let behind : suc left ≡ c.terms.left = omega (arith, c.terms-test.true) in
    let within : left < length terms = omega (arith, c.terms-test.true, c.terms.invariant.left) in
    let at : slice_get terms left ≡ Some t = found-there terms left t within c.index-terms-left.is in
    let low : t.place < length c.terms.put.items = subst (λ n. t.place < n) (sym c.terms.invariant.many) (nth (λ x. x.place < c.args.places) terms left t c.requires at) in
    let before : (j : ℕ) → term_of_level c.terms.put.items j ≡ term_given (drop (suc left) terms) j =
    λ j. c.terms.invariant.given j ∙ ap (λ n. term_given (drop n terms) j) (sym behind) in
    record {
      many = ap length c.put_term.ensures ∙ length-set c.terms.put.items t.place (Some t.id) ∙ c.terms.invariant.many;
      left = omega (arith, within);
      given = one-given terms c.terms.put.items c.put_term.new.put.items left t at c.put_term.ensures low before;
    }
