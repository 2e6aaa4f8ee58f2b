use Rattle.qv_words.specs.declared.sort.Sort.TheVariants.{Bits}
use Rattle.qv_store.specs.Nodes.{tree_at}
use Rattle.qv_store.proofs.Replacement.{if-ok}
use Rattle.qv_rewrite_sums.proofs.Held.{word-below}
use Rattle.qv_rewrite_sums.proofs.Fitting.{sort-binary}
use Rattle.qv_rewrite_sums.proofs.Built.{words-sorted}
use Rattle.qv_rewrite_sums.proofs.building.put_words.Goals as goal

pub put_two-requires : goal.put_two-requires
put_two-requires c = record {
  a = word-below c.args.store.now c.args.width c.args.a c.requires.a;
  b = word-below c.args.store.now c.args.width c.args.b c.requires.b;
  sorted = words-sorted c.args.store.now c.args.op c.args.width (Bits c.args.width) c.args.a c.args.b c.len-terms.ensures.shared c.requires.a c.requires.b c.requires.rank;
}

pub returns-clause-id : goal.returns-clause-id
returns-clause-id c =
    if-ok c.put_two.result (λ id at. record { stands = at; sort = sort-binary c.args.op c.args.width (Bits c.args.width) (tree_at c.args.store.now c.args.a) (tree_at c.args.store.now c.args.b) c.requires.a c.requires.b c.requires.rank }) c.put_two.ensures.id
