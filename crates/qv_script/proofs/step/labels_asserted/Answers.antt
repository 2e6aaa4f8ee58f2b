use Rattle.std.proofs.Common.{ℕ, Option, List, [], Bor, sym, subst}
use Rattle.std.specs.Prelude.{option_map}
use Rattle.qv_sexpr.proofs.Copies.{begun}
use Rattle.qv_script_defs.specs.Labels.{nothing, labels_in}
use Rattle.qv_script_defs.specs.Parts.{Asserted, asserted_of}
use Rattle.qv_script_parts.specs.Parted.{IsAsserted}
use Rattle.qv_script_parts.specs.Walking.{TellsLabels}
use Rattle.qv_script_terms.proofs.Asked.{part-begins}
use Rattle.qv_script.proofs.step.labels_asserted.Goals as goal

pub labels_in-requires-clause-at : goal.labels_in-requires-clause-at
labels_in-requires-clause-at c =
    let a = c.args in
    let b = begun a.expr.now a.t c.requires.expr c.requires.t in
    let told = subst (λ (o : Option (ℕ × Bor (List ℕ))). IsAsserted a.expr.now.items.items a.expr.now.text.items b.0 (asserted_of b.0) (option_map (λ (x : ℕ × Bor (List ℕ)). (x.0, x.1.now)) o)) c.in-Some.is (c.asserted_at.ensures b.0 (b.1, b.2)) in
    part-begins a.expr.now c.in-Some.term (asserted_of b.0).term told.1

pub returns-in-Some : goal.returns-in-Some
returns-in-Some c = λ e p.
    let a = c.args in
    let told = subst (λ (o : Option (ℕ × Bor (List ℕ))). IsAsserted a.expr.now.items.items a.expr.now.text.items e (asserted_of e) (option_map (λ (x : ℕ × Bor (List ℕ)). (x.0, x.1.now)) o)) c.in-Some.is (c.asserted_at.ensures e p) in
    c.labels_in.ensures (asserted_of e).term told.1

pub returns-in-None : goal.returns-in-None
returns-in-None c = λ e p.
    let a = c.args in
    let told = subst (λ (o : Option (ℕ × Bor (List ℕ))). IsAsserted a.expr.now.items.items a.expr.now.text.items e (asserted_of e) (option_map (λ (x : ℕ × Bor (List ℕ)). (x.0, x.1.now)) o)) c.in-None.is (c.asserted_at.ensures e p) in
    subst (λ (x : Asserted). TellsLabels a.expr.now (labels_in x.term nothing []) c.labels_in-in-None.result) (sym told) (c.labels_in-in-None.ensures e p)
