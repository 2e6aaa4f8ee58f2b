use Rattle.std.proofs.Common.{sym, ◌∙◌}
use Rattle.qv_store.specs.Walks.{named}
use Rattle.qv_store.proofs.Replacement.{none-there}
use Rattle.qv_elab_apply.specs.Chained.{all_to_the_right}
use Rattle.qv_elab_apply.proofs.Outlined.{right-outline, allowed, refused, allowed-ok, answer-built}
use Rattle.qv_elab_apply.proofs.chains.apply_right.Goals as goal

pub returns-in-Some-clause-answer : goal.returns-in-Some-clause-answer
returns-in-Some-clause-answer c =
    let outline = right-outline c.args.store.now c.len-terms.ensures.shared c.args.op c.args.ids.now c.requires.ids c.in_ok-outlines.outlines.items c.in_ok-outlines.ensures c.deref.result.now c.deref.ensures.value in
    refused c.args.place (all_to_the_right c.args.op (named c.args.store.now c.args.ids.now)) c.joined_right-chain.result c.in-Some.fault c.args.store.now (outline ∙ sym c.joined_right-chain.ensures) (sym c.fault_at.ensures ∙ c.in-Some.is)

pub build_right-requires-clause-ranks : goal.build_right-requires-clause-ranks
build_right-requires-clause-ranks c =
    let outline = right-outline c.args.store.now c.len-terms.ensures.shared c.args.op c.args.ids.now c.requires.ids c.in_ok-outlines.outlines.items c.in_ok-outlines.ensures c.deref.result.now c.deref.ensures.value in
    allowed-ok c.args.place (all_to_the_right c.args.op (named c.args.store.now c.args.ids.now)) (allowed c.args.place (all_to_the_right c.args.op (named c.args.store.now c.args.ids.now)) c.joined_right-chain.result (outline ∙ sym c.joined_right-chain.ensures) (sym c.fault_at.ensures ∙ none-there c.fault_at.result c.in_default.not-Some))

pub returns-clause-answer : goal.returns-clause-answer
returns-clause-answer c =
    let outline = right-outline c.args.store.now c.len-terms.ensures.shared c.args.op c.args.ids.now c.requires.ids c.in_ok-outlines.outlines.items c.in_ok-outlines.ensures c.deref.result.now c.deref.ensures.value in
    answer-built c.build_right.new.store c.args.place c.in_ok-id.id (all_to_the_right c.args.op (named c.args.store.now c.args.ids.now))
    (allowed c.args.place (all_to_the_right c.args.op (named c.args.store.now c.args.ids.now)) c.joined_right-chain.result (outline ∙ sym c.joined_right-chain.ensures) (sym c.fault_at.ensures ∙ none-there c.fault_at.result c.in_default.not-Some))
    c.in_ok-id.ensures.id
