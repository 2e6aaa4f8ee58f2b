use Rattle.std.proofs.Common.{Vec, Global, ℕ, sym, ap, ◌∙◌, arith}
use Rattle.qv_store.specs.Problems.{quantifier_of}
use Rattle.qv_entries.specs.Rows.{row_of}
use Rattle.qv_game_turns.proofs.Numbering.{number-passed, number-taken, numbers-all}
use Rattle.qv_game_turns.proofs.moves.numbers_of.Goals as goal
use Rattle.qv_game_turns.proofs.moves.numbers_of.Goals.{then-is_of+in_ok-push, else-is_of}

pub entries-preserved : goal.entries-preserved
entries-preserved c trees =
    let rows = c.args.entries.now in
    let k = c.entries.number in
    let row = row_of c.entry.result.now in
    let w = quantifier_of c.args.winner in
    elim c.if-is_of.branch [
      | then-is_of+in_ok-push b ↦ number-taken trees rows k c.args.level w row c.entries.numbers.items c.if-is_of.numbers.items _ c.entry.ensures (sym c.is_of.ensures ∙ b.if-is_of.true) (ap (λ (v : Vec ℕ Global). v.items) b.numbers-is ∙ b.in_ok-push.ensures.items) (c.entries.invariant trees)
      | else-is_of b ↦ number-passed trees rows k c.args.level w row c.entries.numbers.items c.if-is_of.numbers.items _ c.entry.ensures (sym c.is_of.ensures ∙ b.if-is_of.false) (ap (λ (v : Vec ℕ Global). v.items) b.numbers-is) (c.entries.invariant trees)
    ]

pub returns : goal.returns
returns c trees =
    let end = c.entries-test.false in
    let count = c.len-number-end.ensures in
    numbers-all trees c.args.entries.now c.entries.number c.args.level (quantifier_of c.args.winner) c.entries.numbers.items _ (omega (arith, end, count)) (c.entries.invariant trees)
