use Rattle.std.proofs.Common.{◌≡◌, None, List, [], length, sym, ap, ◌∙◌, subst}
use Rattle.qv_words.specs.Tree.{Tree}
use Rattle.qv_words.specs.Expansion.{ExpansionLine, IsExpansion, leaves_of}
use Rattle.qv_words.specs.Linked.{first_universal}
use Rattle.qv_game_laws.proofs.TreeTheorem.{tree-theorem}
use Rattle.qv_store.specs.Problems.{problem_in}
use Rattle.qv_store.proofs.Replacement.{none-there}
use Rattle.qv_entries.specs.Rows.{entries_in}
use Rattle.qv_meter.proofs.Fresh.{linked}
use Rattle.qv_expand.specs.declared.growing.Growing.{Growing}
use Rattle.qv_expand.specs.declared.tree.TreeLine.{TreeLine}
use Rattle.qv_expand.specs.Charges.{more_instances}
use Rattle.qv_expand.specs.Trees.{lines_in, AreNeverAllTrue}
use Rattle.qv_expand.proofs.FirstEntry.{tree-none}
use Rattle.qv_expand.proofs.NextLine.{count-known, none-more}
use Rattle.qv_expand.proofs.expanding.expansion.Goals as goal
use Rattle.qv_expand.proofs.expanding.expansion.Goals.{in-Some+in_ok-draw, in_default}

pub returns-clause-lines : goal.returns-clause-lines
returns-clause-lines c =
    let p = problem_in c.args.store.now c.args.problem.now in
    let es = entries_in c.args.store.now c.args.entries.now in
    elim c.match-first_universal.branch [
      | in-Some+in_ok-draw w ↦
          ap (λ (trees : List Tree). lines_in trees c.match-first_universal.growing.lines.items) w.store-is ∙ ap (λ (g : Growing). lines_in w.draw.new.store g.lines.items) w.growing-is ∙ w.in_ok-draw.ensures.lines
      | in_default w ↦
          let none : first_universal 0 es ≡ None = sym (c.first_universal.ensures c.args.store.now) ∙ none-there c.first_universal.result w.in_default.not-Some in
          ap (λ (g : Growing). lines_in c.match-first_universal.store g.lines.items) w.growing-is ∙ ap (lines_in c.match-first_universal.store) c.new-growing.ensures.lines ∙ sym (tree-none p es none)
    ]

pub returns-clause-list : goal.returns-clause-list
returns-clause-list c =
    let p = problem_in c.args.store.now c.args.problem.now in
    let es = entries_in c.args.store.now c.args.entries.now in
    subst (IsExpansion p) (sym (returns-clause-lines c)) (tree-theorem p es c.requires.posed.problem (linked p [] es c.requires.played) c.requires.won).0

pub returns-clause-leaves : goal.returns-clause-leaves
returns-clause-leaves c =
    let p = problem_in c.args.store.now c.args.problem.now in
    let es = entries_in c.args.store.now c.args.entries.now in
    subst (λ (ls : List ExpansionLine). AreNeverAllTrue (leaves_of p ls)) (sym (returns-clause-lines c)) (tree-theorem p es c.requires.posed.problem (linked p [] es c.requires.played) c.requires.won).1

pub returns-clause-counted : goal.returns-clause-counted
returns-clause-counted c =
    let p = problem_in c.args.store.now c.args.problem.now in
    let es = entries_in c.args.store.now c.args.entries.now in
    let meter = c.args.meter.now in
    elim c.match-first_universal.branch [
      | in-Some+in_ok-draw w ↦
          w.meter-is ∙ count-known meter w.draw.new.meter p es (length w.draw.new.growing.lines.items) w.in_ok-draw.ensures.only c.requires.record w.in_ok-draw.ensures.counted
          ∙ ap (λ (g : Growing). more_instances (length g.lines.items) meter) (sym w.growing-is)
      | in_default w ↦
          let none : c.match-first_universal.growing.lines.items ≡ [] = ap (λ (g : Growing). g.lines.items) w.growing-is ∙ c.new-growing.ensures.lines in
          w.meter-is ∙ none-more meter ∙ ap (λ (ls : List TreeLine). more_instances (length ls) meter) (sym none)
    ]
