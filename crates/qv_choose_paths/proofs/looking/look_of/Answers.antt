use Rattle.qv_choose_paths.proofs.looking.look_of.Goals as goal

pub returns : goal.returns
returns c = c.requires.looks c.result_of.ensures.place c.args.id c.result_of.result.now c.result_of.ensures.at c.result_of.ensures.found
