use Rattle.std.proofs.Common.{sym, ◌∙◌}
use Rattle.qv_store.specs.Nodes.{tree_at}
use Rattle.qv_store.specs.Walks.{named}
use Rattle.qv_store.proofs.Replacement.{none-there}
use Rattle.qv_elab_defs.specs.Applying.{to_the_left}
use Rattle.qv_elab_apply.proofs.Outlined.{left-outline, allowed, refused, allowed-ok, answer-built}
use Rattle.qv_elab_apply.proofs.chains.apply_left.Goals as goal

pub returns-in-Some-clause-answer : goal.returns-in-Some-clause-answer
returns-in-Some-clause-answer c =
    let outline = left-outline c.args.store.now c.len-terms.ensures.shared c.args.op c.args.others.now c.requires.others c.in_ok-outlines.outlines.items c.in_ok-outlines.ensures c.deref.result.now c.deref.ensures.value c.args.first c.requires.first c.outline_of.result c.outline_of.ensures in
    refused c.args.place (to_the_left c.args.op (tree_at c.args.store.now c.args.first) (named c.args.store.now c.args.others.now)) c.joined_left-chain.result c.in-Some.fault c.args.store.now (outline ∙ sym c.joined_left-chain.ensures) (sym c.fault_at.ensures ∙ c.in-Some.is)

pub build_left-requires-clause-ranks : goal.build_left-requires-clause-ranks
build_left-requires-clause-ranks c =
    let outline = left-outline c.args.store.now c.len-terms.ensures.shared c.args.op c.args.others.now c.requires.others c.in_ok-outlines.outlines.items c.in_ok-outlines.ensures c.deref.result.now c.deref.ensures.value c.args.first c.requires.first c.outline_of.result c.outline_of.ensures in
    allowed-ok c.args.place (to_the_left c.args.op (tree_at c.args.store.now c.args.first) (named c.args.store.now c.args.others.now)) (allowed c.args.place (to_the_left c.args.op (tree_at c.args.store.now c.args.first) (named c.args.store.now c.args.others.now)) c.joined_left-chain.result (outline ∙ sym c.joined_left-chain.ensures) (sym c.fault_at.ensures ∙ none-there c.fault_at.result c.in_default.not-Some))

pub returns-clause-answer : goal.returns-clause-answer
returns-clause-answer c =
    let outline = left-outline c.args.store.now c.len-terms.ensures.shared c.args.op c.args.others.now c.requires.others c.in_ok-outlines.outlines.items c.in_ok-outlines.ensures c.deref.result.now c.deref.ensures.value c.args.first c.requires.first c.outline_of.result c.outline_of.ensures in
    answer-built c.build_left.new.store c.args.place c.in_ok-id.id (to_the_left c.args.op (tree_at c.args.store.now c.args.first) (named c.args.store.now c.args.others.now))
    (allowed c.args.place (to_the_left c.args.op (tree_at c.args.store.now c.args.first) (named c.args.store.now c.args.others.now)) c.joined_left-chain.result (outline ∙ sym c.joined_left-chain.ensures) (sym c.fault_at.ensures ∙ none-there c.fault_at.result c.in_default.not-Some))
    c.in_ok-id.ensures.id
