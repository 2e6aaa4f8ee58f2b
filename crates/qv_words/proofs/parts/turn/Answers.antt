use Rattle.qv_words.proofs.Powers.{high_below, turned_either}
use Rattle.qv_words.proofs.parts.turn.Goals as goal

pub returns-then-moved-eq0-clause-value : goal.returns-then-moved-eq0-clause-value
returns-then-moved-eq0-clause-value c =
    turned_either c.args.width c.args.a c.args.moved c.requires.value c.then-moved-eq0.either

pub join-requires-clause-second : goal.join-requires-clause-second
join-requires-clause-second c = high_below c.args.width c.args.a c.args.moved c.requires.part c.requires.value
