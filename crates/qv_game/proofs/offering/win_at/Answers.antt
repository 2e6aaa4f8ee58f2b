use Rattle.std.proofs.Common.{sym, subst, ◌++◌, ◌∷◌, []}
use Rattle.qv_words.specs.Problem.{Problem}
use Rattle.qv_words.specs.Linked.{IsLinked}
use Rattle.qv_store.specs.Problems.{problem_in}
use Rattle.qv_entries.specs.Rows.{entries_in}
use Rattle.qv_game_state.proofs.Keeping.{posed-stays}
use Rattle.qv_game_state.proofs.Opening.{places-none}
use Rattle.qv_game.proofs.Offered.{MayWin, is-first, made-row, row-charge, row-linked, row-won, words-for}
use Rattle.qv_game.proofs.offering.win_at.Goals as goal

pub take-requires-clause-places : goal.take-requires-clause-places
take-requires-clause-places c =
    words-for (problem_in c.args.store.now c.args.problem.now) c.args.offered.now c.requires.posed.problem c.requires.wins.sorts

pub charge-requires : goal.charge-requires
charge-requires c =
    let may : MayWin (problem_in c.args.store.now c.args.problem.now) c.args.offered.now c.args.meter.now = record {
      problem = c.requires.posed.problem;
      some = λ e. c.requires.some (places-none c.args.problem.now.prefix.items e);
      wins = c.requires.wins;
      uncharged = c.requires.«record»;
      keeps = c.newest-record.ensures.metering;
    } in
    let p = problem_in c.args.store.now c.args.problem.now in
    let region = c.in_ok-taken.taken.region in
    let terms = c.in_ok-taken.taken.terms.items in
    let ws = c.new.result.items in
    let links = c.new-2.result.items in
    let first = is-first c.take.new.store p c.args.offered.now ws region terms links c.new.ensures.items c.new-2.ensures.items
    c.in_ok-taken.ensures.chosen c.in_ok-taken.ensures.region c.in_ok-taken.ensures.terms c.in_ok-taken.ensures.below in
    row-charge c.take.new.store p c.args.offered.now c.new-entries.result (made-row region ws terms links) c.args.meter.now may first c.new-entries.ensures

pub add-requires-clause-linked : goal.add-requires-clause-linked
add-requires-clause-linked c =
    let may : MayWin (problem_in c.args.store.now c.args.problem.now) c.args.offered.now c.args.meter.now = record {
      problem = c.requires.posed.problem;
      some = λ e. c.requires.some (places-none c.args.problem.now.prefix.items e);
      wins = c.requires.wins;
      uncharged = c.requires.«record»;
      keeps = c.newest-record.ensures.metering;
    } in
    let p = problem_in c.args.store.now c.args.problem.now in
    let region = c.in_ok-taken.taken.region in
    let terms = c.in_ok-taken.taken.terms.items in
    let ws = c.new.result.items in
    let links = c.new-2.result.items in
    let first = is-first c.take.new.store p c.args.offered.now ws region terms links c.new.ensures.items c.new-2.ensures.items
    c.in_ok-taken.ensures.chosen c.in_ok-taken.ensures.region c.in_ok-taken.ensures.terms c.in_ok-taken.ensures.below in
    subst (λ (q : Problem). IsLinked q (entries_in c.take.new.store (c.new-entries.result ++ made-row region ws terms links ∷ [])))
    (sym (posed-stays c.args.store.now c.take.new.store c.args.problem.now c.take.ensures.grows c.requires.posed))
    (row-linked c.take.new.store p c.args.offered.now c.new-entries.result (made-row region ws terms links) c.args.meter.now may first c.new-entries.ensures)

pub returns-clause-won : goal.returns-clause-won
returns-clause-won c =
    let may : MayWin (problem_in c.args.store.now c.args.problem.now) c.args.offered.now c.args.meter.now = record {
      problem = c.requires.posed.problem;
      some = λ e. c.requires.some (places-none c.args.problem.now.prefix.items e);
      wins = c.requires.wins;
      uncharged = c.requires.«record»;
      keeps = c.newest-record.ensures.metering;
    } in
    let p = problem_in c.args.store.now c.args.problem.now in
    let region = c.in_ok-taken.taken.region in
    let terms = c.in_ok-taken.taken.terms.items in
    let ws = c.new.result.items in
    let links = c.new-2.result.items in
    let first = is-first c.take.new.store p c.args.offered.now ws region terms links c.new.ensures.items c.new-2.ensures.items
    c.in_ok-taken.ensures.chosen c.in_ok-taken.ensures.region c.in_ok-taken.ensures.terms c.in_ok-taken.ensures.below in
    row-won c.take.new.store p c.args.offered.now c.new-entries.result c.add.new.self (made-row region ws terms links) c.args.meter.now c.charge.new.meter may first c.new-entries.ensures c.in_ok-add.ensures.ok c.in_ok-charge.ensures.ok
