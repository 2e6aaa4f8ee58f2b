use Rattle.std.proofs.Common.{◌+◌, ℕ, List, length, sym, subst, ◌∙◌, arith}
use Rattle.qv_store.specs.Problems.{quantifier_of}
use Rattle.qv_entries.specs.Rows.{entries_in}
use Rattle.qv_game_links.specs.Thinning.{AreThinned}
use Rattle.qv_game_state.proofs.Asking.{if-ok}
use Rattle.qv_game_turns.proofs.Fewer.{formulas-at, other-links}
use Rattle.qv_game_turns.proofs.moves.links_from.Goals as goal

pub thin-requires-clause-links : goal.thin-requires-clause-links
thin-requires-clause-links c = formulas-at c.args.store.now c.args.game.now.entries (c.args.level + 1) (quantifier_of c.args.winner) _ c.requires.rows (c.in_ok-all.ensures c.args.store.now)

pub returns-in-Forall : goal.returns-in-Forall
returns-in-Forall c =
    if-ok c.thin.result (λ links thinned p count.
    subst (λ (ns : List ℕ). AreThinned c.args.store.now c.args.region c.args.game.now.entries ns links.items)
    (c.in_ok-all.ensures c.args.store.now ∙ sym (other-links p (entries_in c.args.store.now c.args.game.now.entries) (quantifier_of c.args.winner) c.args.level (length c.args.game.now.spans.items) count (λ at. absurd (omega (arith, at, c.if-level-len.false, c.len.ensures))))) thinned) c.thin.ensures
