use Rattle.qv_store.proofs.Replacement.{grows-more}
use Rattle.std.proofs.Common.{◌≡◌, ℕ, ◌+◌, ◌-◌, List, [], map, refl, sym, ap, ◌∙◌, subst, arith}
use Rattle.std.specs.List.{All}
use Rattle.qv_words.specs.Sort.{IsLawful}
use Rattle.qv_words.specs.Tree.{Tree}
use Rattle.qv_words.specs.Linked.{blocks_of}
use Rattle.qv_store.specs.Problems.{place_of, problem_in, places_of}
use Rattle.qv_store.specs.Stores.{AreShared}
use Rattle.qv_store.specs.declared.problem.Place.{Place}
use Rattle.qv_store.specs.declared.problem.Problem.{Problem as Posed}
use Rattle.qv_game_entry_laws.specs.PointLaws.{places_from}
use Rattle.qv_game_state.specs.declared.query.Query.{Query}
use Rattle.qv_game_state.specs.declared.spans.Span.{Span as Kept}
use Rattle.qv_game_state.specs.Playing.{tally_of, IsGame}
use Rattle.qv_game_state.specs.Spans.{span_of, spans_from}
use Rattle.qv_game_state.specs.Starting.{AreNew}
use Rattle.qv_game_state.proofs.Begun.{begun-game, lawful-places, may-begin, sorts-same}
use Rattle.qv_game_state.proofs.Keeping.{below-stays, named-stays}
use Rattle.qv_game_state.proofs.Opening.{IsOpened, as-many, last-index, opened-begun, opened-charged, opened-formula}
use Rattle.qv_game_state.proofs.starting.start.Goals as goal

-- the spans and the queries, where the parts of the prefix are known
are : (posed : Posed) (prefix : List Place) (spans : List Kept) → prefix ≡ posed.prefix.items → map span_of spans ≡ spans_from 0 (blocks_of (map place_of prefix)) → map span_of spans ≡ spans_from 0 (blocks_of (places_of posed))
are posed prefix spans same h = h ∙ ap (λ (xs : List Place). spans_from 0 (blocks_of (map place_of xs))) same

new : (trees : List Tree) (limit : ℕ) (front spans : List Kept) (queries : List Query) → front ≡ spans → AreShared trees → ((ts : List Tree) → AreShared ts → AreNew ts limit (map span_of front) queries) → AreNew trees limit (map span_of spans) queries
new trees limit front spans queries same shared h = subst (λ (ss : List Kept). AreNew trees limit (map span_of ss) queries) same (h trees shared)

pub put_places-requires : goal.put_places-requires
put_places-requires c =
    subst (λ (xs : List Place). All (λ (place : Place). IsLawful place.sort) xs) (sym c.deref.ensures.value)
    (lawful-places c.args.problem.now.prefix.items c.requires.posed.problem.sorts)

pub overflow_sub-behind : goal.overflow_sub-behind
overflow_sub-behind c =
    let posed = c.args.problem.now in
    let spans = c.in_ok-spans.spans in
    last-index posed spans.items c.len-behind.result (are posed c.deref-2.result.now spans.items c.deref-2.ensures.value c.in_ok-spans.ensures) c.requires.some (c.len-behind.ensures ∙ spans.ok.0)

pub index-requires : goal.index-requires
index-requires c =
    let posed = c.args.problem.now in
    let spans = c.in_ok-spans.spans in
    let count = c.len-behind.ensures in
    let some = last-index posed spans.items c.len-behind.result (are posed c.deref-2.result.now spans.items c.deref-2.ensures.value c.in_ok-spans.ensures) c.requires.some (count ∙ spans.ok.0) in
    omega (arith, some, count)

pub index_mut-requires : goal.index_mut-requires
index_mut-requires c =
    let posed = c.args.problem.now in
    let spans = c.in_ok-spans.spans in
    let queries = c.in_ok-queries.queries in
    let trees = c.put_rewritten.new.store in
    let limit = c.variable_limit.result in
    let count = c.len-behind.ensures in
    let some = last-index posed spans.items c.len-behind.result (are posed c.deref-2.result.now spans.items c.deref-2.ensures.value c.in_ok-spans.ensures) c.requires.some (count ∙ spans.ok.0) in
    let many = as-many trees limit spans.items queries.items (new trees limit c.deref-3.result.now spans.items queries.items c.deref-3.ensures.value c.in_ok-last.ensures.shared c.in_ok-queries.ensures) in
    let a = spans.ok.0 in
    let b = queries.ok.0 in
    omega (arith, some, count, many, a, b)

pub deny-requires-clause-formula : goal.deny-requires-clause-formula
deny-requires-clause-formula c =
    let posed = c.args.problem.now in
    let spans = c.in_ok-spans.spans in
    let queries = c.in_ok-queries.queries.items in
    let old = c.args.store.now in
    let mid = c.put_places.new.store in
    let trees = c.put_rewritten.new.store in
    let limit = c.variable_limit.result in
    let n = c.len-behind.result in
    let s = c.index.result.now in
    let q = c.index_mut.result.now in
    let formula = c.in_ok-last.last in
    let opened : IsOpened old mid trees posed limit n spans.items queries s q formula = record {
      posed_in = c.requires.posed;
      grows = c.put_places.ensures.grows;
      some = c.requires.some;
      are = are posed c.deref-2.result.now spans.items c.deref-2.ensures.value c.in_ok-spans.ensures;
      new = new trees limit c.deref-3.result.now spans.items queries c.deref-3.ensures.value c.in_ok-last.ensures.shared c.in_ok-queries.ensures;
      count = c.len-behind.ensures ∙ spans.ok.0;
      span = c.index.ensures;
      query = c.index_mut.ensures.value;
      formula_is = c.in_ok-last.ensures.last;
    } in
    opened-formula old mid trees posed limit n spans.items queries s q formula opened

pub deny-requires-clause-may : goal.deny-requires-clause-may
deny-requires-clause-may c =
    let posed = c.args.problem.now in
    let spans = c.in_ok-spans.spans in
    let queries = c.in_ok-queries.queries.items in
    let old = c.args.store.now in
    let mid = c.put_places.new.store in
    let trees = c.put_rewritten.new.store in
    let limit = c.variable_limit.result in
    let n = c.len-behind.result in
    let s = c.index.result.now in
    let q = c.index_mut.result.now in
    let formula = c.in_ok-last.last in
    let m = c.args.meter.now in
    let p = problem_in old posed in
    let opened : IsOpened old mid trees posed limit n spans.items queries s q formula = record {
      posed_in = c.requires.posed;
      grows = c.put_places.ensures.grows;
      some = c.requires.some;
      are = are posed c.deref-2.result.now spans.items c.deref-2.ensures.value c.in_ok-spans.ensures;
      new = new trees limit c.deref-3.result.now spans.items queries c.deref-3.ensures.value c.in_ok-last.ensures.shared c.in_ok-queries.ensures;
      count = c.len-behind.ensures ∙ spans.ok.0;
      span = c.index.ensures;
      query = c.index_mut.ensures.value;
      formula_is = c.in_ok-last.ensures.last;
    } in
    let charged = opened-charged old mid trees posed limit n spans.items queries s q formula m opened c.requires.«record» c.newest-record.ensures.metering c.variable_limit.ensures.limit in (
      p,
      0,
      limit,
      n - 1 + 2,
      [],
      map tally_of queries,
      may-begin trees p limit queries (n - 1) q (span_of s) formula m (opened-begun old mid trees posed limit n spans.items queries s q formula opened) charged,
    )

pub returns-clause-game : goal.returns-clause-game
returns-clause-game c =
    let posed = c.args.problem.now in
    let spans = c.in_ok-spans.spans in
    let queries = c.in_ok-queries.queries.items in
    let places = c.in_ok-places.places.items in
    let old = c.args.store.now in
    let mid = c.put_places.new.store in
    let trees = c.put_rewritten.new.store in
    let limit = c.variable_limit.result in
    let n = c.len-behind.result in
    let s = c.index.result.now in
    let q = c.index_mut.result.now in
    let r = c.deny.new.self in
    let formula = c.in_ok-last.last in
    let m = c.args.meter.now in
    let p = problem_in old posed in
    let opened : IsOpened old mid trees posed limit n spans.items queries s q formula = record {
      posed_in = c.requires.posed;
      grows = c.put_places.ensures.grows;
      some = c.requires.some;
      are = are posed c.deref-2.result.now spans.items c.deref-2.ensures.value c.in_ok-spans.ensures;
      new = new trees limit c.deref-3.result.now spans.items queries c.deref-3.ensures.value c.in_ok-last.ensures.shared c.in_ok-queries.ensures;
      count = c.len-behind.ensures ∙ spans.ok.0;
      span = c.index.ensures;
      query = c.index_mut.ensures.value;
      formula_is = c.in_ok-last.ensures.last;
    } in
    let charged = opened-charged old mid trees posed limit n spans.items queries s q formula m opened c.requires.«record» c.newest-record.ensures.metering c.variable_limit.ensures.limit in
    let begun = opened-begun old mid trees posed limit n spans.items queries s q formula opened in
    let denied = c.in_ok-deny.ensures.denied [] (begun.new.each (n - 1) q (span_of s) begun.at begun.span).1.lane in
    let sorts : map (λ (place : Place). place.sort) c.deref.result.now ≡ map (λ (place : _). place.sort) (places_of posed) =
    ap (map (λ (place : Place). place.sort)) c.deref.ensures.value ∙ sorts-same posed.prefix.items in (
      limit,
      subst (IsGame trees p limit _) (sym c.in_ok-deny.ensures.meter)
          (begun-game trees p limit _ queries (n - 1) q r (span_of s) formula m c.requires.posed.problem begun denied charged opened.are
          (below-stays mid trees places c.put_rewritten.ensures.grows c.in_ok-places.ensures.below)
          (named-stays mid trees places c.put_rewritten.ensures.grows c.in_ok-places.ensures.below ∙ c.in_ok-places.ensures.places ∙ ap (places_from 0) sorts)
          c.new.ensures refl),
    )

pub returns-in_err-last-clause-grows : goal.returns-in_err-last-clause-grows
returns-in_err-last-clause-grows c = grows-more c.args.store.now c.put_places.new.store c.put_rewritten.new.store c.put_places.ensures.grows c.put_rewritten.ensures.grows

pub returns-in_err-deny-clause-grows : goal.returns-in_err-deny-clause-grows
returns-in_err-deny-clause-grows c = grows-more c.args.store.now c.put_places.new.store c.put_rewritten.new.store c.put_places.ensures.grows c.put_rewritten.ensures.grows

pub returns-clause-grows : goal.returns-clause-grows
returns-clause-grows c = grows-more c.args.store.now c.put_places.new.store c.put_rewritten.new.store c.put_places.ensures.grows c.put_rewritten.ensures.grows
