use Rattle.qv_store.proofs.Replacement.{if-ok}
use Rattle.qv_rewrite_passes.specs.declared.pass.Pass.TheVariants.{By, Sum, Xor, Simp}
use Rattle.qv_rewrite_lists.proofs.Plain.{taken-free}
use Rattle.qv_rewrite_lists.proofs.taking.take.Goals as goal

pub returns-in-By-clause-free : goal.returns-in-By-clause-free
returns-in-By-clause-free c =
    if-ok c.pass.result (λ ids e. taken-free (By c.in-By.rule) c.args.store.now c.pass.new.store c.args.list.now ids.items c.len-terms.ensures.shared c.requires.below c.requires.free e) c.pass.ensures.passed

pub returns-in-Sum-clause-free : goal.returns-in-Sum-clause-free
returns-in-Sum-clause-free c =
    if-ok c.sum_all.result (λ ids e. taken-free Sum c.args.store.now c.sum_all.new.store c.args.list.now ids.items c.len-terms.ensures.shared c.requires.below c.requires.free e) c.sum_all.ensures.list

pub returns-in-Xor-clause-free : goal.returns-in-Xor-clause-free
returns-in-Xor-clause-free c =
    if-ok c.xor_all.result (λ ids e. taken-free Xor c.args.store.now c.xor_all.new.store c.args.list.now ids.items c.len-terms.ensures.shared c.requires.below c.requires.free e) c.xor_all.ensures.list

pub returns-in-Simp-clause-free : goal.returns-in-Simp-clause-free
returns-in-Simp-clause-free c =
    if-ok c.simp_all.result (λ ids e. taken-free Simp c.args.store.now c.simp_all.new.store c.args.list.now ids.items c.len-terms.ensures.shared c.requires.below c.requires.free e) c.simp_all.ensures.list
