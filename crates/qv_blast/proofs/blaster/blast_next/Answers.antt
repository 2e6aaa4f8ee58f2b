use Rattle.std.proofs.Common.{◌≡◌, ◌<◌, ◌+◌, ℕ, [], ◌∷◌, ◌++◌, length, get_or, sym, ap, ◌∙◌, subst, Err, arith}
use Rattle.std.proofs.lemmas.List.{length-append}
use Rattle.std.proofs.lemmas.Result.{err_from_is_err_and}
use Rattle.qv_words.specs.Tree.{IsQuantifierFree}
use Rattle.qv_words.specs.Sorted.{IsSorted}
use Rattle.qv_circuits_laws.specs.Standing.{Stands}
use Rattle.qv_store.specs.Nodes.{node_tree, tree_at, HasChildrenBelow}
use Rattle.qv_blast.specs.declared.faults.BlastFault.TheVariants.{TooManyVariables}
use Rattle.qv_blast.specs.Blasters.{blasting_of}
use Rattle.qv_blast.proofs.Stepping.{args-node, earlier-kids, may-node, next-stands, placed-at, steps-node, unbound-node, wants-node}
use Rattle.qv_blast.proofs.blaster.blast_next.Goals as goal

pub bits_of_node-requires-clause-earlier : goal.bits_of_node-requires-clause-earlier
bits_of_node-requires-clause-earlier c =
    let trees = c.args.store.now in
    let ids = c.args.terms.now in
    let bits = c.args.bits.now in
    let node = c.node.result.now in
    let ready = c.requires.ready in
    let len : c.len.result ≡ length bits = omega (arith, c.len.ensures) in
    let more : length bits < length ids = omega (arith, c.requires.more) in
    let index : c.index-ids-len.result ≡ get_or ids c.len.result c.index-ids-len.result = rw c.ids.ensures at c.index-ids-len.is in
    let at : get_or ids (length bits) 0 ≡ c.index-ids-len.result = placed-at ids (length bits) c.len.result c.index-ids-len.result more len index in
    let tree : node_tree trees node ≡ tree_at trees (get_or ids (length bits) 0) = c.node.ensures.tree ∙ ap (tree_at trees) (sym at) in
    let kids : HasChildrenBelow (get_or ids (length bits) 0) node = subst (λ (n : ℕ). HasChildrenBelow n node) (sym at) c.node.ensures.children in
    (earlier-kids trees ids (length bits) node c.node.ensures.shared ready.walk more tree kids)

pub bits_of_node-requires-clause-unbound : goal.bits_of_node-requires-clause-unbound
bits_of_node-requires-clause-unbound c =
    let trees = c.args.store.now in
    let ids = c.args.terms.now in
    let bits = c.args.bits.now in
    let node = c.node.result.now in
    let ready = c.requires.ready in
    let len : c.len.result ≡ length bits = omega (arith, c.len.ensures) in
    let more : length bits < length ids = omega (arith, c.requires.more) in
    let index : c.index-ids-len.result ≡ get_or ids c.len.result c.index-ids-len.result = rw c.ids.ensures at c.index-ids-len.is in
    let at : get_or ids (length bits) 0 ≡ c.index-ids-len.result = placed-at ids (length bits) c.len.result c.index-ids-len.result more len index in
    let tree : node_tree trees node ≡ tree_at trees (get_or ids (length bits) 0) = c.node.ensures.tree ∙ ap (tree_at trees) (sym at) in
    let free : IsQuantifierFree (node_tree trees node) = subst IsQuantifierFree (sym tree) (ready.free (length bits) more) in
    let unbound = unbound-node trees node free in
    unbound

pub bits_of_node-requires-clause-may : goal.bits_of_node-requires-clause-may
bits_of_node-requires-clause-may c =
    let trees = c.args.store.now in
    let ids = c.args.terms.now in
    let bits = c.args.bits.now in
    let node = c.node.result.now in
    let ready = c.requires.ready in
    let len : c.len.result ≡ length bits = omega (arith, c.len.ensures) in
    let more : length bits < length ids = omega (arith, c.requires.more) in
    let index : c.index-ids-len.result ≡ get_or ids c.len.result c.index-ids-len.result = rw c.ids.ensures at c.index-ids-len.is in
    let at : get_or ids (length bits) 0 ≡ c.index-ids-len.result = placed-at ids (length bits) c.len.result c.index-ids-len.result more len index in
    let tree : node_tree trees node ≡ tree_at trees (get_or ids (length bits) 0) = c.node.ensures.tree ∙ ap (tree_at trees) (sym at) in
    let free : IsQuantifierFree (node_tree trees node) = subst IsQuantifierFree (sym tree) (ready.free (length bits) more) in
    let unbound = unbound-node trees node free in
    let within : c.index-ids-len.result < length trees = subst (λ (n : ℕ). n < length trees) at (ready.walk.within (length bits) 0 more) in
    let sorted : IsSorted (node_tree trees node) = subst IsSorted (sym c.node.ensures.tree) (c.node.ensures.shared.sorted c.index-ids-len.result within) in
    may-node trees ids bits c.args.lists.now ready.walk ready.stands node sorted unbound

pub returns-clause-steps : goal.returns-clause-steps
returns-clause-steps c =
    let trees = c.args.store.now in
    let ids = c.args.terms.now in
    let bits = c.args.bits.now in
    let node = c.node.result.now in
    let ready = c.requires.ready in
    let len : c.len.result ≡ length bits = omega (arith, c.len.ensures) in
    let more : length bits < length ids = omega (arith, c.requires.more) in
    let index : c.index-ids-len.result ≡ get_or ids c.len.result c.index-ids-len.result = rw c.ids.ensures at c.index-ids-len.is in
    let at : get_or ids (length bits) 0 ≡ c.index-ids-len.result = placed-at ids (length bits) c.len.result c.index-ids-len.result more len index in
    let tree : node_tree trees node ≡ tree_at trees (get_or ids (length bits) 0) = c.node.ensures.tree ∙ ap (tree_at trees) (sym at) in
    let free : IsQuantifierFree (node_tree trees node) = subst IsQuantifierFree (sym tree) (ready.free (length bits) more) in
    let unbound = unbound-node trees node free in
    let makes = c.in_ok-made.ensures.ok in
    let steps = steps-node trees ids bits c.args.lists.now c.bits_of_node.new.lists c.in_ok-made.made.items ready.walk more node tree unbound makes in
    let there : tree_at trees (get_or ids (length bits) 0) ≡ node_tree trees node = sym tree in
    rw (c.in_ok-push.ensures.ok, c.deref.ensures.value, there) steps

pub returns-clause-ready : goal.returns-clause-ready
returns-clause-ready c =
    let trees = c.args.store.now in
    let ids = c.args.terms.now in
    let bits = c.args.bits.now in
    let node = c.node.result.now in
    let ready = c.requires.ready in
    let len : c.len.result ≡ length bits = omega (arith, c.len.ensures) in
    let more : length bits < length ids = omega (arith, c.requires.more) in
    let index : c.index-ids-len.result ≡ get_or ids c.len.result c.index-ids-len.result = rw c.ids.ensures at c.index-ids-len.is in
    let at : get_or ids (length bits) 0 ≡ c.index-ids-len.result = placed-at ids (length bits) c.len.result c.index-ids-len.result more len index in
    let tree : node_tree trees node ≡ tree_at trees (get_or ids (length bits) 0) = c.node.ensures.tree ∙ ap (tree_at trees) (sym at) in
    let free : IsQuantifierFree (node_tree trees node) = subst IsQuantifierFree (sym tree) (ready.free (length bits) more) in
    let unbound = unbound-node trees node free in
    let within : c.index-ids-len.result < length trees = subst (λ (n : ℕ). n < length trees) at (ready.walk.within (length bits) 0 more) in
    let sorted : IsSorted (node_tree trees node) = subst IsSorted (sym c.node.ensures.tree) (c.node.ensures.shared.sorted c.index-ids-len.result within) in
    let makes = c.in_ok-made.ensures.ok in
    let steps = steps-node trees ids bits c.args.lists.now c.bits_of_node.new.lists c.in_ok-made.made.items ready.walk more node tree unbound makes in
    let args = args-node trees ids bits c.args.lists.now ready.walk node _ c.bits_of_node.new.lists makes in
    let next = next-stands (blasting_of trees ids bits c.args.lists.now) (node_tree trees node) ready.stands sorted free args in
    let made = c.in_ok-made.made in
    let count : length (bits ++ made.items ∷ []) ≡ length bits + 1 = length-append bits (made.items ∷ []) in
    rw (c.in_ok-push.ensures.ok, c.deref.ensures.value) (record {
      walk = ready.walk;
      few = omega (arith, count, more);
      stands = subst Stands (sym steps) next;
      free = ready.free;
    })

pub returns-in_err-made-clause-over : goal.returns-in_err-made-clause-over
returns-in_err-made-clause-over c e =
    let trees = c.args.store.now in
    let ids = c.args.terms.now in
    let bits = c.args.bits.now in
    let node = c.node.result.now in
    let ready = c.requires.ready in
    let len : c.len.result ≡ length bits = omega (arith, c.len.ensures) in
    let more : length bits < length ids = omega (arith, c.requires.more) in
    let index : c.index-ids-len.result ≡ get_or ids c.len.result c.index-ids-len.result = rw c.ids.ensures at c.index-ids-len.is in
    let at : get_or ids (length bits) 0 ≡ c.index-ids-len.result = placed-at ids (length bits) c.len.result c.index-ids-len.result more len index in
    let tree : node_tree trees node ≡ tree_at trees (get_or ids (length bits) 0) = c.node.ensures.tree ∙ ap (tree_at trees) (sym at) in
    let free : IsQuantifierFree (node_tree trees node) = subst IsQuantifierFree (sym tree) (ready.free (length bits) more) in
    let unbound = unbound-node trees node free in
    let p = err_from_is_err_and c.from_residual.result c.from_residual.ensures.1 in
    let is : c.in_err-made.field-0.0 ≡ TooManyVariables = let q = p.1 in let r = p.2 in cc in
    let wants = c.in_err-made.ensures.over (ap Err is) in
    let there : tree_at trees (get_or ids (length bits) 0) ≡ node_tree trees node = sym tree in
    rw there (wants-node trees ids bits c.args.lists.now ready.walk node unbound wants)
