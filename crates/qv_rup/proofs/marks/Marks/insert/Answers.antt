use Rattle.std.proofs.Common.{◌≡◌, ℕ, cond, true, not, eqb, reverse, ap, sym, ◌∙◌, List}
use Rattle.std.proofs.lemmas.List.{reverse-append}
use Rattle.qv_cnf.specs.Literal.{Literal, index_of}
use Rattle.qv_cnf.specs.Refutation.{among}
use Rattle.qv_rup.specs.Marking.{mark_at, literals_of}
use Rattle.qv_rup.proofs.Marked.{AreMarked-insert}
use Rattle.qv_rup.proofs.marks.Marks.insert.Goals as goal

pub invariant_of-self-2 : goal.invariant_of-self-2
invariant_of-self-2 c =
    let before = c.self.inside in
    let set : List Literal = literals_of (reverse before.set.items) in
    let marked : (k : ℕ) → mark_at c.mark.new.table.items c.mark.new.others k ≡ cond (eqb (index_of c.args.lit) k) true (mark_at before.table.items before.others k) =
    λ k. c.in_ok-mark.ensures.ok k ∙ ap (λ (at : ℕ). cond (eqb at k) true (mark_at before.table.items before.others k)) c.index.ensures.value in
    let fresh : not c.has-fresh.result ≡ not (among set c.args.lit) = ap not (c.has-fresh.ensures ∙ ap (λ (xs : List Literal). among xs c.args.lit) (sym c.self.view_is)) in
    rw (c.push_reserved.ensures.items, c.in_ok-reserve.ensures.items, reverse-append)
    ((fresh, c.self.invariant.0), AreMarked-insert before.table.items c.mark.new.table.items before.others c.mark.new.others set c.args.lit c.self.invariant.1 marked)
