use Rattle.std.proofs.Common.{Err, ap, ◌∙◌}
use Rattle.qv_game_state.proofs.Answered.{denied-few, may-exceed}
use Rattle.qv_game_state.proofs.query.Query.deny.Goals as goal

pub add-requires-clause-few : goal.add-requires-clause-few
add-requires-clause-few c =
    let h = c.requires.may in
    denied-few c.args.store.now h.0 h.1 h.2 h.3 h.4 c.args.self.now c.args.formula h.5 c.args.meter.now h.6 c.newest-record.ensures.metering

pub variables-spent-requires : goal.variables-spent-requires
variables-spent-requires c =
    let h = c.requires.may in (
      h.6.entries,
      may-exceed c.args.store.now h.0 h.1 h.2 h.3 h.4 c.args.self.now c.args.formula h.5 c.args.meter.now c.deref.result.now h.6
          (c.deref.ensures.value ∙ c.in_ok-push.ensures.items) (c.in-Err-TooManyVariables.ensures.over (ap Err c.in-Err-TooManyVariables.field-0-is)),
    )
