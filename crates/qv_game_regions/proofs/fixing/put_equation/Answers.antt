use Rattle.qv_store.proofs.Replacement.{grows-more}
use Rattle.qv_game_regions.proofs.fixing.put_equation.Goals as goal

pub returns-in_err-value-clause-grows : goal.returns-in_err-value-clause-grows
returns-in_err-value-clause-grows c = grows-more c.args.store.now c.put_part.new.store c.put_literal.new.store c.put_part.ensures.grows c.put_literal.ensures.grows

pub returns-clause-grows : goal.returns-clause-grows
returns-clause-grows c = grows-more c.args.store.now c.put_literal.new.store c.put_application.new.store (grows-more c.args.store.now c.put_part.new.store c.put_literal.new.store c.put_part.ensures.grows c.put_literal.ensures.grows) c.put_application.ensures.grows
