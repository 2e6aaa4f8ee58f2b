use Rattle.std.proofs.Common.{◌≡◌, ◌∙◌, ℕ, true, false, length, sym, subst}
use Rattle.qv_store.specs.Walks.{IsEarlier}
use Rattle.qv_store.proofs.Passes.{contains-earlier}
use Rattle.qv_store.specs.Nodes.{tree_at}
use Rattle.qv_blast.proofs.Staying.{known-blasted}
use Rattle.qv_blast.proofs.Lookups.{bits-none, found-bits}
use Rattle.qv_blast.proofs.blaster.Blaster.bits.Goals as goal

pub returns-then-not-contains-clause-bits : goal.returns-then-not-contains-clause-bits
returns-then-not-contains-clause-bits c =
    let b = c.args.self.now in
    let all : length b.bits ≡ length b.terms = c.requires.blaster.all in
    let out : c.contains.result ≡ false = c.if-not-contains.true in
    sym (bits-none c.args.store.now b.terms b.bits c.args.id c.len.ensures.shared c.requires.blaster.ready.walk all c.requires.id (λ k. let in' : c.contains.result ≡ true = c.contains.ensures.1 k in cc))

pub found-requires : goal.found-requires
found-requires c =
    let b = c.args.self.now in
    let there = contains-earlier b.terms c.args.id (c.contains.ensures.0 c.if-not-contains.false) in
    let count : length b.bits ≡ length b.terms = c.requires.blaster.all in
    subst (λ (n : ℕ). IsEarlier b.terms n c.args.id) (sym count) there

pub returns-clause-bits : goal.returns-clause-bits
returns-clause-bits c =
    let b = c.args.self.now in
    let at = found-bits c.args.store.now b.terms b.bits c.args.id c.found.result.now c.requires.blaster.ready.walk c.found.ensures in
    sym at

pub returns-then-not-contains-clause-blasted : goal.returns-then-not-contains-clause-blasted
returns-then-not-contains-clause-blasted c formulas h =
    returns-then-not-contains-clause-bits c ∙ known-blasted c.args.store.now formulas c.args.self.now (tree_at c.args.store.now c.args.id) h

pub returns-clause-blasted : goal.returns-clause-blasted
returns-clause-blasted c formulas h =
    returns-clause-bits c ∙ known-blasted c.args.store.now formulas c.args.self.now (tree_at c.args.store.now c.args.id) h
