use Rattle.std.proofs.Common.{◌++◌, ◌∷◌, [], refl, sym, ◌∙◌, subst, arith}
use Rattle.qv_words.specs.Problem.{Problem}
use Rattle.qv_words.specs.Linked.{IsLinked}
use Rattle.qv_entries.specs.Rows.{entries_in, entry_in, row_of}
use Rattle.qv_game_state.specs.Entering.{IsToldOf}
use Rattle.qv_game_state.proofs.Entered.{entered-all, grows-none, linked-with, may-tell}
use Rattle.qv_game_state.proofs.Telling.{none-told}
use Rattle.qv_game_state.proofs.game.Game.enter.Goals as goal

pub add-requires-clause-linked : goal.add-requires-clause-linked
add-requires-clause-linked c =
    let h = c.requires.2 in
    let row = row_of c.args.entry in
    subst (λ (p : Problem). IsLinked p (entries_in c.args.store.now (c.args.self.now.entries ++ row ∷ []))) (sym h.is)
    (linked-with c.args.store.now c.args.problem.now c.requires.0 c.requires.1 c.args.self.now row c.args.meter.now h)

pub tell-requires : goal.tell-requires
tell-requires c =
    let trees = c.args.store.now in
    let g = c.args.self.now in
    let row = row_of c.args.entry in
    let h = c.requires.2 in
    let is = c.in_ok-charge.ensures.ok in
    (c.requires.0, entries_in trees g.entries, entry_in trees row, c.requires.1, may-tell trees c.args.problem.now c.requires.0 c.requires.1 g row c.args.meter.now c.charge.new.meter h is c.if-level-ge2.true, record { level_is = refl; winner_is = refl; below = h.row_in.region; region_is = refl })

pub returns-in_ok-tell-clause-entered : goal.returns-in_ok-tell-clause-entered
returns-in_ok-tell-clause-entered c p limit h =
    let trees = c.args.store.now in
    let g = c.args.self.now in
    let row = row_of c.args.entry in
    let m = c.args.meter.now in
    let is = c.in_ok-charge.ensures.ok in
    let may = may-tell trees c.args.problem.now p limit g row m c.charge.new.meter h is c.if-level-ge2.true in
    let kept : IsToldOf trees (entry_in trees row) c.args.entry.level c.args.entry.winner c.args.entry.region = record { level_is = refl; winner_is = refl; below = h.row_in.region; region_is = refl } in
    let told = c.in_ok-tell.ensures.told p (entries_in trees g.entries) (entry_in trees row) limit may kept in
    entered-all trees c.tell.new.store c.args.problem.now p limit g _ row m c.tell.new.meter h c.tell.ensures.grows refl refl c.in_ok-number.ensures.ok told.0 told.1 (c.in_ok-tell.ensures.meter ∙ is)

pub returns-else-level-ge2-clause-entered : goal.returns-else-level-ge2-clause-entered
returns-else-level-ge2-clause-entered c p limit h =
    let trees = c.args.store.now in
    let g = c.args.self.now in
    let row = row_of c.args.entry in
    let low = c.if-level-ge2.false in
    let none = none-told trees p (entries_in trees g.entries) (entry_in trees row) limit g.queries.items (omega (arith, low)) h.game.queries in
    entered-all trees trees c.args.problem.now p limit g _ row c.args.meter.now c.charge.new.meter h (grows-none trees) refl refl c.in_ok-number.ensures.ok none refl c.in_ok-charge.ensures.ok
