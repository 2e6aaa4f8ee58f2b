use Rattle.qv_store.proofs.Replacement.{grows-more}
use Rattle.std.proofs.Common.{sym, subst, ◌∙◌, map}
use Rattle.std.specs.Prelude.{Result, IsOk, IsOkAnd}
use Rattle.qv_words.specs.Tree.{Tree}
use Rattle.qv_store.specs.Stores.{StandsAt}
use Rattle.qv_store.proofs.Replacement.{none-there}
use Rattle.qv_elab_defs.specs.declared.faults.ElabKind.{ElabKind}
use Rattle.qv_elab_defs.specs.Applying.{conjunction}
use Rattle.qv_elab_apply.specs.Chained.{both_at, said_of}
use Rattle.qv_elab_apply.proofs.Outlined.{allowed, refused, allowed-ok, answer-built}
use Rattle.qv_elab_apply.proofs.Conjoined.{outlined-said, conjunction-ids}
use Rattle.qv_elab_apply.proofs.pairs.conjoin.Goals as goal

pub returns-in-Some-fault_at-clause-answer : goal.returns-in-Some-fault_at-clause-answer
returns-in-Some-fault_at-clause-answer c =
    let outline = outlined-said c.args.store.now c.len-terms.ensures.shared c.args.same c.args.pairs.now c.deref.result.now c.in-Some.first.now c.in-Some.others.now c.requires.below c.requires.alike
    (c.deref.ensures.value ∙ c.in_ok-outlines.ensures) c.in-Some.ensures.cases.0 in
    refused c.args.place (conjunction (map (λ pair. said_of c.args.same (both_at c.args.store.now pair)) c.args.pairs.now)) c.joined_left.result c.in-Some-fault_at.fault c.args.store.now
    (outline ∙ sym c.joined_left.ensures) (sym c.fault_at.ensures ∙ c.in-Some-fault_at.is)

pub build_left-requires-clause-ranks : goal.build_left-requires-clause-ranks
build_left-requires-clause-ranks c =
    let ts = map (λ pair. said_of c.args.same (both_at c.args.store.now pair)) c.args.pairs.now in
    let outline = outlined-said c.args.store.now c.len-terms.ensures.shared c.args.same c.args.pairs.now c.deref.result.now c.in-Some.first.now c.in-Some.others.now c.requires.below c.requires.alike
    (c.deref.ensures.value ∙ c.in_ok-outlines.ensures) c.in-Some.ensures.cases.0 in
    let may = allowed c.args.place (conjunction ts) c.joined_left.result (outline ∙ sym c.joined_left.ensures) (sym c.fault_at.ensures ∙ none-there c.fault_at.result c.in_default-fault_at.not-Some) in
    let same = conjunction-ids c.build_all_said.new.store c.in_ok-ids.ids.items ts c.in-Some-split_first.first.now c.in-Some-split_first.others.now c.in_ok-ids.ensures.ids
    (sym c.deref-2.ensures.value ∙ c.in-Some-split_first.ensures.cases.0) in
    subst (λ (r : Result Tree ElabKind). IsOk r) (sym same) (allowed-ok c.args.place (conjunction ts) may)

pub returns-clause-answer : goal.returns-clause-answer
returns-clause-answer c =
    let ts = map (λ pair. said_of c.args.same (both_at c.args.store.now pair)) c.args.pairs.now in
    let outline = outlined-said c.args.store.now c.len-terms.ensures.shared c.args.same c.args.pairs.now c.deref.result.now c.in-Some.first.now c.in-Some.others.now c.requires.below c.requires.alike
    (c.deref.ensures.value ∙ c.in_ok-outlines.ensures) c.in-Some.ensures.cases.0 in
    let may = allowed c.args.place (conjunction ts) c.joined_left.result (outline ∙ sym c.joined_left.ensures) (sym c.fault_at.ensures ∙ none-there c.fault_at.result c.in_default-fault_at.not-Some) in
    let same = conjunction-ids c.build_all_said.new.store c.in_ok-ids.ids.items ts c.in-Some-split_first.first.now c.in-Some-split_first.others.now c.in_ok-ids.ensures.ids
    (sym c.deref-2.ensures.value ∙ c.in-Some-split_first.ensures.cases.0) in
    answer-built c.build_left.new.store c.args.place c.in_ok-id.id (conjunction ts) may (subst (λ (r : Result Tree ElabKind). IsOkAnd r (StandsAt c.build_left.new.store c.in_ok-id.id)) same c.in_ok-id.ensures.id)

pub returns-in_err-id-clause-grows : goal.returns-in_err-id-clause-grows
returns-in_err-id-clause-grows c = grows-more c.args.store.now c.build_all_said.new.store c.build_left.new.store c.build_all_said.ensures.grows c.build_left.ensures.grows

pub returns-clause-grows : goal.returns-clause-grows
returns-clause-grows c = grows-more c.args.store.now c.build_all_said.new.store c.build_left.new.store c.build_all_said.ensures.grows c.build_left.ensures.grows
