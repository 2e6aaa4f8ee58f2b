use Rattle.qv_check_lines.proofs.refutation.check_refutation.Goals as goal

pub returns-in-Ok-clause-ends : goal.returns-in-Ok-clause-ends
returns-in-Ok-clause-ends g c = record { begun = c.in-Ok.ensures.begun; reads = c.in-Ok.ensures.reads; short = c.in-Ok.ensures.short }

pub returns-in-Ok-clause-took : goal.returns-in-Ok-clause-took
returns-in-Ok-clause-took g c = c.in-Ok.ensures.took

pub returns-in-Err-clause-took : goal.returns-in-Err-clause-took
returns-in-Err-clause-took g c = c.in-Err.ensures.took
