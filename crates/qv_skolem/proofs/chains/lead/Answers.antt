use Rattle.std.proofs.Common.{arith}
use Rattle.qv_store.specs.Replacing.{put_by_level}
use Rattle.qv_store.proofs.Replacement.{grows-more}
use Rattle.qv_entries.specs.Rows.{row_of, entry_in}
use Rattle.qv_skolem.proofs.Leading.{led-all}
use Rattle.qv_skolem.proofs.OneLed.{in-terms, place-led, region-may, rest-below, term-below, term-ready, there-grown}
use Rattle.qv_skolem.proofs.chains.lead.Goals as goal

pub index-requires : goal.index-requires
index-requires c =
    let i = c.places.invariant in
    let low = in-terms c.args.store.now c.places.store c.args.slots.now (row_of c.args.entry.now) c.args.behind c.if-behind.region c.args.chains.now c.places.chains c.places.place i.grows c.requires.slots c.requires.row c.requires.may c.places-test.true i.region i.below i.led in
    let many = c.args.entry.now.terms.ok in
    omega (arith, low, many)

pub put_in-requires-in-places : goal.put_in-requires-in-places
put_in-requires-in-places c =
    let i = c.places.invariant in
    let ready = term-ready c.args.store.now c.places.store c.args.slots.now (row_of c.args.entry.now) c.args.behind c.if-behind.region c.args.chains.now c.places.chains c.places.place i.grows c.requires.slots c.requires.row c.requires.may c.places-test.true i.region i.below i.led c.index.result.now c.index.ensures in
    record {
      id = term-below c.args.store.now c.places.store c.args.slots.now (row_of c.args.entry.now) c.args.behind c.if-behind.region c.args.chains.now c.places.chains c.places.place i.grows c.requires.slots c.requires.row c.requires.may c.places-test.true i.region i.below i.led c.index.result.now c.index.ensures;
      quantifier_free = ready.quantifier_free;
      terms = there-grown c.args.store.now c.places.store c.args.slots.now i.grows c.requires.slots;
      sorts = ready.sorts;
    }

pub put_headed-requires-clause-rest : goal.put_headed-requires-clause-rest
put_headed-requires-clause-rest c =
    let i = c.places.invariant in
    rest-below c.args.store.now c.places.store c.args.slots.now (row_of c.args.entry.now) c.args.behind c.if-behind.region c.args.chains.now c.places.chains c.places.place i.grows c.requires.slots c.requires.row c.requires.may c.places-test.true i.region i.below i.led
    c.put_in-in-places.new.self c.put_in-in-places.ensures.grows c.index-chains-place.result c.index-chains-place.is

pub put_headed-requires-clause-region : goal.put_headed-requires-clause-region
put_headed-requires-clause-region c =
    let i = c.places.invariant in
    region-may c.args.store.now c.places.store c.args.slots.now (row_of c.args.entry.now) c.args.behind c.if-behind.region c.args.chains.now c.places.chains c.places.place i.grows c.requires.slots c.requires.row c.requires.may c.places-test.true i.region i.below i.led
    c.put_in-in-places.new.self c.put_in-in-places.ensures.grows c.index.result.now c.in_ok-term.term c.index-chains-place.result c.index.ensures c.in_ok-term.ensures.id c.index-chains-place.is

pub places-preserved : goal.places-preserved
places-preserved c =
    let i = c.places.invariant in
    let more = c.put_in-in-places.ensures.grows in
    let most = c.put_headed.ensures.grows in
    let next = place-led c.args.store.now c.places.store c.args.slots.now (row_of c.args.entry.now) c.args.behind c.if-behind.region c.args.chains.now c.places.chains c.places.place i.grows c.requires.slots c.requires.row c.requires.may c.places-test.true i.region i.below i.led
    c.put_in-in-places.new.self c.put_headed.new.store more most c.index.result.now c.in_ok-term.term c.index-chains-place.result c.in_ok-chains.field-0 c.index.ensures c.in_ok-term.ensures.id c.index-chains-place.is c.in_ok-chains.ensures.id in
    record {
      grows = grows-more c.args.store.now c.places.store c.put_headed.new.store i.grows (grows-more c.places.store c.put_in-in-places.new.self c.put_headed.new.store more most);
      region = next.0;
      below = next.1;
      led = next.2;
    }

pub returns-clause-led : goal.returns-clause-led
returns-clause-led c =
    led-all c.args.store.now c.places.store (put_by_level c.args.store.now c.args.slots.now) c.args.behind (entry_in c.args.store.now (row_of c.args.entry.now)) c.args.chains.now c.places.chains c.places.place c.places-test.false c.places.invariant.led
