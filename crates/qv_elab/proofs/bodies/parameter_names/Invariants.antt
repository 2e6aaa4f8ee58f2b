-- the first parameters have names
use Rattle.std.proofs.Common.{take}
use Rattle.qv_store.specs.Stores.{Grows}
use Rattle.qv_elab.specs.ReadBodies.{parameters_of}
use Rattle.qv_elab_scope.specs.Ids.{AreVariables}
use Rattle.qv_elab.proofs.bodies.parameter_names.Given as goal

abbrev pub invariant-parameters : goal.invariant-parameters
invariant-parameters l = record {
  names : AreVariables l.store 0 (parameters_of (take l.level l.parameters)) l.names;
  grows : Grows l.initial.store l.store;
}
