use Rattle.std.proofs.Common.{◌≡◌, ◌+◌, ◌-◌, length, map, refl, sym, ap, ◌∙◌}
use Rattle.std.proofs.lemmas.Option.{same_Some}
use Rattle.qv_words.specs.Linked.{same_quantifier}
use Rattle.qv_store.specs.Problems.{quantifier_of}
use Rattle.qv_meter.specs.Queries.{query_list}
use Rattle.qv_game_lanes.proofs.Placing.{at-index}
use Rattle.qv_game_state.specs.declared.query.Query.{Query}
use Rattle.qv_game_state.specs.Playing.{tally_of}
use Rattle.qv_game_state.proofs.Telling.{asking-of, may-deny, stands-negated, told-whole, told-within, untold}
use Rattle.qv_game_state.proofs.Asking.{on-ok}
use Rattle.qv_game_state.proofs.game.tell.Goals as goal

pub returns-then-not-is_same-clause-told : goal.returns-then-not-is_same-clause-told
returns-then-not-is_same-clause-told c p entries e limit may is =
    let trees = c.args.store.now in
    let queries = c.args.queries.now.items in
    let q = c.index.result.now in
    let at = at-index queries (c.args.level - 2) q (told-within trees p entries e limit queries c.args.meter.now c.args.level may is.level_is) c.index.ensures in
    (untold trees p entries e limit queries q c.args.meter.now c.args.level c.args.winner c.args.region may is at (sym c.if-not-is_same.ensures), refl)

pub deny-requires-clause-may : goal.deny-requires-clause-may
deny-requires-clause-may c =
    let trees = c.args.store.now in
    let p = c.requires.0 in
    let entries = c.requires.1 in
    let e = c.requires.2 in
    let limit = c.requires.3 in
    let may = c.requires.4 in
    let is = c.requires.5 in
    let queries = c.args.queries.now.items in
    let level = c.args.level in
    let q = c.index_mut.result.now in
    let m = c.args.meter.now in
    let low = told-within trees p entries e limit queries m level may is.level_is in
    let at = at-index queries (level - 2) q low c.index_mut.ensures.value in
    let there = at-index queries (level - 2) c.index.result.now low c.index.ensures in
    let one : c.index.result.now ≡ q = same_Some c.index.result.now q (sym there ∙ at) in
    let same = ap (λ (x : Query). same_quantifier (quantifier_of c.args.winner) (quantifier_of x.winner)) (sym one) ∙ sym c.if-not-is_same.ensures in
    let asking = asking-of trees p entries e limit queries q m level c.args.winner c.args.region may is at same in (
      p,
      length entries + 1,
      limit,
      level - 2 + 2,
      query_list p entries (quantifier_of q.winner) (level - 2 + 2),
      map tally_of queries,
      may-deny trees c.put_negation.new.store p entries e limit (level - 2) queries q c.in_ok-negation.negation m asking c.put_negation.ensures.grows
          (stands-negated trees c.put_negation.new.store e level c.args.winner c.args.region c.in_ok-negation.negation is c.in_ok-negation.ensures.id),
    )

pub returns-clause-told : goal.returns-clause-told
returns-clause-told c =
    let trees = c.args.store.now in
    let queries = c.args.queries.now.items in
    let level = c.args.level in
    let q = c.index_mut.result.now in
    let m = c.args.meter.now in
    on-ok c.deny.result (λ given p entries e limit may is.
    let low = told-within trees p entries e limit queries m level may is.level_is in
    let at = at-index queries (level - 2) q low c.index_mut.ensures.value in
    let there = at-index queries (level - 2) c.index.result.now low c.index.ensures in
    let one : c.index.result.now ≡ q = same_Some c.index.result.now q (sym there ∙ at) in
    let same = ap (λ (x : Query). same_quantifier (quantifier_of c.args.winner) (quantifier_of x.winner)) (sym one) ∙ sym c.if-not-is_same.ensures in
    told-whole trees c.put_negation.new.store p entries e limit queries q c.deny.new.self m level c.args.winner c.args.region c.in_ok-negation.negation may is at same c.put_negation.ensures.grows c.in_ok-negation.ensures.id given) c.deny.ensures.denied
