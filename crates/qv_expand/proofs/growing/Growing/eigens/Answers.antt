use Rattle.std.proofs.Common.{◌≡◌, ◌+◌, ◌-◌, Some, List, [], ◌∷◌, map, sym, ap, ◌∙◌, length, take, drop, slice_get, get_or, arith}
use Rattle.std.proofs.lemmas.List.{length-append, take_all}
use Rattle.std.proofs.lemmas.Option.{slice_get-get_or}
use Rattle.qv_words.specs.declared.sort.Sort.TheVariants.{Bool as BoolSort}
use Rattle.qv_words.specs.Linked.{paths_of, with_eigens}
use Rattle.qv_store.specs.declared.problem.Place.{Place as Kept}
use Rattle.qv_store.specs.declared.problem.Quant.TheVariants.{Exists}
use Rattle.qv_store.specs.Problems.{place_of, places_of, problem_in}
use Rattle.qv_store.proofs.Replacement.{grows-more}
use Rattle.qv_entries.specs.Rows.{entries_in}
use Rattle.qv_skolem.specs.Blocks.{sorts_of}
use Rattle.qv_expand.specs.Growth.{drawn_in}
use Rattle.qv_expand.proofs.BlockPlaces.{block-read}
use Rattle.qv_expand.proofs.Eigens.{block-drawn, eigen-drawn, eigen-expanding, eigen-unit, lawful-place}
use Rattle.qv_expand.proofs.NextLine.{one-counted}
use Rattle.qv_expand.proofs.growing.Growing.eigens.Goals as goal

pub eigen-requires-clause-unit : goal.eigen-requires-clause-unit
eigen-requires-clause-unit c =
    let items = c.args.problem.now.prefix.items in
    let first = length c.args.self.now.path.items in
    let f : c.len.result ≡ first = omega (arith, c.len.ensures, c.args.self.now.path.ok) in
    let read = block-read items c.deref.result.now c.len.result first c.run_length.result c.deref.ensures.value f c.run_length.ensures.length in
    let block : List Kept = take c.run_length.result (take (length c.deref.result.now - c.len.result) (drop c.len.result c.deref.result.now)) in
    let i = c.places.invariant in
    let none : Kept = record { quant = Exists; sort = BoolSort } in
    let at = slice_get-get_or block c.places.place-index none c.places-test.true in
    eigen-unit c.args.store.now c.args.problem.now c.args.entries.now c.args.meter.now c.args.self.now c.args.number block c.requires.expanding c.requires.may c.requires.owner read.0
    c.places.store c.places.meter c.places.self c.places.place-index (get_or block c.places.place-index none) i.grows i.expanding i.drawn at

pub eigen-requires-clause-rows : goal.eigen-requires-clause-rows
eigen-requires-clause-rows c = c.places.invariant.expanding.within

pub eigen-requires-clause-lawful : goal.eigen-requires-clause-lawful
eigen-requires-clause-lawful c =
    let items = c.args.problem.now.prefix.items in
    let first = length c.args.self.now.path.items in
    let f : c.len.result ≡ first = omega (arith, c.len.ensures, c.args.self.now.path.ok) in
    let read = block-read items c.deref.result.now c.len.result first c.run_length.result c.deref.ensures.value f c.run_length.ensures.length in
    let block : List Kept = take c.run_length.result (take (length c.deref.result.now - c.len.result) (drop c.len.result c.deref.result.now)) in
    let at = slice_get-get_or block c.places.place-index _ c.places-test.true in
    lawful-place (problem_in c.args.store.now c.args.problem.now) (first + c.places.place-index) _ c.requires.expanding.posed.problem (read.1 c.places.place-index _ at)

pub places-preserved : goal.places-preserved
places-preserved c =
    let items = c.args.problem.now.prefix.items in
    let first = length c.args.self.now.path.items in
    let f : c.len.result ≡ first = omega (arith, c.len.ensures, c.args.self.now.path.ok) in
    let read = block-read items c.deref.result.now c.len.result first c.run_length.result c.deref.ensures.value f c.run_length.ensures.length in
    let block : List Kept = take c.run_length.result (take (length c.deref.result.now - c.len.result) (drop c.len.result c.deref.result.now)) in
    let i = c.places.invariant in
    let at = slice_get-get_or block c.places.place-index _ c.places-test.true in
    let here = ap (slice_get (places_of c.args.problem.now)) i.deep ∙ read.1 c.places.place-index _ at in
    let line = c.in_ok-eigen.ensures.line in
    let longer : length c.eigen.new.self.path.items ≡ length c.places.self.path.items + 1 = ap length line.path ∙ length-append c.places.self.path.items (Some line.id ∷ []) in
    let deep = i.deep in
    record {
      grows = grows-more c.args.store.now c.places.store c.eigen.new.store i.grows c.eigen.ensures.grows;
      only = one-counted c.args.meter.now c.places.meter c.eigen.new.meter i.only c.in_ok-eigen.ensures.ok;
      expanding = eigen-expanding c.args.store.now c.args.problem.now c.args.entries.now c.args.meter.now c.args.self.now c.args.number block c.requires.expanding c.requires.may c.requires.owner read.0
          c.places.store c.places.meter c.places.self c.places.place-index _ i.grows i.expanding i.drawn at c.eigen.new.store c.eigen.new.meter c.eigen.new.self c.eigen.ensures.grows line c.in_ok-eigen.ensures.ok here;
      deep = omega (arith, longer, deep);
      drawn = eigen-drawn c.args.store.now c.args.problem.now c.args.entries.now c.args.meter.now c.args.self.now c.args.number block c.requires.expanding c.requires.may c.requires.owner read.0
          c.places.store c.places.meter c.places.self c.places.place-index _ i.grows i.expanding i.drawn at c.eigen.new.store c.eigen.new.meter c.eigen.new.self c.eigen.ensures.grows line c.in_ok-eigen.ensures.ok here;
    }

pub returns-clause-drawn : goal.returns-clause-drawn
returns-clause-drawn c =
    let items = c.args.problem.now.prefix.items in
    let first = length c.args.self.now.path.items in
    let f : c.len.result ≡ first = omega (arith, c.len.ensures, c.args.self.now.path.ok) in
    let read = block-read items c.deref.result.now c.len.result first c.run_length.result c.deref.ensures.value f c.run_length.ensures.length in
    let block : List Kept = take c.run_length.result (take (length c.deref.result.now - c.len.result) (drop c.len.result c.deref.result.now)) in
    let i = c.places.invariant in
    let p = problem_in c.args.store.now c.args.problem.now in
    let es = entries_in c.args.store.now c.args.entries.now in
    let start = drawn_in c.args.store.now (paths_of p es) c.args.self.now in
    let all : take c.places.place-index block ≡ block = take_all c.places.place-index block c.places-test.false in
    i.drawn ∙ ap (λ (xs : List Kept). with_eigens c.args.number start (sorts_of (map place_of xs))) all
    ∙ sym (block-drawn c.args.store.now c.args.problem.now c.args.entries.now c.args.meter.now c.args.self.now c.args.number block c.requires.expanding c.requires.may c.requires.owner read.0)

pub returns-in_err-eigen-clause-grows : goal.returns-in_err-eigen-clause-grows
returns-in_err-eigen-clause-grows c = grows-more c.args.store.now c.places.store c.eigen.new.store c.places.invariant.grows c.eigen.ensures.grows
