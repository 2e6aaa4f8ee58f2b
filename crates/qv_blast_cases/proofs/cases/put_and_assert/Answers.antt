use Rattle.qv_blast.proofs.Staying.{blaster-stays}
use Rattle.qv_blast_cases.proofs.cases.put_and_assert.Goals as goal

pub assert_one-requires : goal.assert_one-requires
assert_one-requires c = blaster-stays c.args.store.now c.term.new.store c.args.blaster.now c.in-Some.ensures c.requires
