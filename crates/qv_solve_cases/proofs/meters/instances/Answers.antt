use Rattle.std.proofs.Common.{◌≡◌, ◌++◌, [], ◌∷◌, List, ◌∙◌, ap, rules}
use Rattle.qv_words.specs.Tree.{Tree}
use Rattle.qv_words.specs.Problem.{Universal}
use Rattle.qv_words.specs.Linked.{Entry}
use Rattle.qv_entries.specs.Rows.{Row, entries_in, entry_in, row_of}
use Rattle.qv_store.specs.Problems.{problem_in}
use Rattle.qv_meter.specs.Records.{after_instance, started}
use Rattle.qv_meter.specs.Views.{limits_of}
use Rattle.qv_solve_cases.specs.Lost.{first}
use Rattle.qv_solve_cases.proofs.Charging.{may-enter, may-draw, linked-first}
use Rattle.qv_solve_cases.proofs.meters.instances.Goals as goal

pub charge_entry-requires : goal.charge_entry-requires
charge_entry-requires c =
    let b = c.in_ok-board.board in
    let is : c.start.new.self ≡ started (problem_in b.store b.problem) (limits_of c.args.limits) c.args.meter.now = search rules in
    let one : entry_in b.store (row_of c.first-entry.result) ≡ first = ap (entry_in b.store) c.first-entry.ensures ∙ ap (λ (t : Tree). record { level = 1; winner = Universal; region = t; point = []; terms = []; links = [] }) c.in_ok-board.ensures.top in
    may-enter (limits_of c.args.limits) c.args.meter.now c.start.new.self (problem_in b.store b.problem) (entries_in b.store c.new-entries.result) (entry_in b.store (row_of c.first-entry.result)) is c.in_ok-board.ensures.problem
    (ap (entries_in b.store) c.new-entries.ensures) one

pub add-requires-clause-linked : goal.add-requires-clause-linked
add-requires-clause-linked c =
    let b = c.in_ok-board.board in
    let one : entry_in b.store (row_of c.first-entry.result) ≡ first = ap (entry_in b.store) c.first-entry.ensures ∙ ap (λ (t : Tree). record { level = 1; winner = Universal; region = t; point = []; terms = []; links = [] }) c.in_ok-board.ensures.top in
    linked-first (problem_in b.store b.problem) (entries_in b.store (c.new-entries.result ++ row_of c.first-entry.result ∷ [])) c.in_ok-board.ensures.problem
    (ap (λ (rows : List Row). entries_in b.store (rows ++ row_of c.first-entry.result ∷ [])) c.new-entries.ensures ∙ ap (λ (e : Entry). e ∷ []) one)

pub charge_line-requires : goal.charge_line-requires
charge_line-requires c =
    let b = c.in_ok-board.board in
    let is : c.start.new.self ≡ started (problem_in b.store b.problem) (limits_of c.args.limits) c.args.meter.now = search rules in
    let one : entry_in b.store (row_of c.first-entry.result) ≡ first = ap (entry_in b.store) c.first-entry.ensures ∙ ap (λ (t : Tree). record { level = 1; winner = Universal; region = t; point = []; terms = []; links = [] }) c.in_ok-board.ensures.top in
    let added : c.add.new.self ≡ c.new-entries.result ++ row_of c.first-entry.result ∷ [] = search rules in
    may-draw (limits_of c.args.limits) c.args.meter.now c.charge_entry.new.meter (problem_in b.store b.problem) (entries_in b.store c.add.new.self) (c.charge_entry.ensures c.if-charge_entry.true ∙ ap after_instance is) c.in_ok-board.ensures.problem
    (ap (entries_in b.store) (added ∙ ap (λ (rows : List Row). rows ++ row_of c.first-entry.result ∷ []) c.new-entries.ensures) ∙ ap (λ (e : Entry). e ∷ []) one)
