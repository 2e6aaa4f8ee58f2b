use Rattle.std.proofs.Common.{◌<◌, length}
use Rattle.std.specs.Prelude.{All}
use Rattle.qv_words.specs.Tree.{IsQuantifierFree}
use Rattle.qv_store.specs.Nodes.{tree_at}
use Rattle.qv_rewrite_cases.proofs.rewriting.plain_terms.Given as goal

abbrev pub invariant-ids : goal.invariant-ids
invariant-ids l = All (λ id. id < length l.store) l.plain.items × All (λ id. IsQuantifierFree (tree_at l.store id)) l.plain.items
