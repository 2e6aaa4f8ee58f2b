use Rattle.std.proofs.Common.{refl}
use Rattle.qv_words.specs.Word.{word_sort, word_value}
use Rattle.qv_words.specs.Tree.{Literal}
use Rattle.qv_store.proofs.Visiting.{on-ok}
use Rattle.qv_cert_nodes.proofs.Grown.{node-listed}
use Rattle.qv_cert_nodes.proofs.listing.list_literal.Goals as goal

pub returns-clause-lists : goal.returns-clause-lists
returns-clause-lists c p h =
    on-ok c.push_node.result
    (λ w. node-listed c.args.store.now c.put.new.self p c.args.listed.now c.push_node.new.self c.in_ok-id.id 0 (Literal (word_sort c.args.word) (word_value c.args.word)) h c.put.ensures.grows w c.in_ok-id.ensures.id refl)
    c.push_node.ensures
