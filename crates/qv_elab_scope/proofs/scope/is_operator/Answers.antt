use denote.Enum.Bare.{sameb}
use Rattle.std.proofs.Common.{◌≡◌, ◌∙◌, not, refl}
use Rattle.qv_sorts.specs.contracts.operators.NameFault.{the_type}
use Rattle.qv_sorts.specs.declared.operators.NameFault.{NameFault}
use Rattle.qv_sorts.specs.declared.operators.NameFault.TheVariants.{Unknown, Indices}
use Rattle.qv_elab_scope.proofs.Forcing.{is_unknown, found-named, fault-named}
use Rattle.qv_elab_scope.proofs.scope.is_operator.Goals as goal

tested : (fault : NameFault) → not (sameb the_type fault Unknown) ≡ not (is_unknown fault)
tested Unknown = refl
tested Indices = refl

pub returns-in-Ok : goal.returns-in-Ok
returns-in-Ok c = found-named c.args.name.now c.op_named.result c.in-Ok.field-0 c.op_named.ensures.unknown.1 c.in-Ok.is

pub returns-in-Err : goal.returns-in-Err
returns-in-Err c = c.ne.ensures ∙ tested c.in-Err.fault ∙ fault-named c.args.name.now c.op_named.result c.in-Err.fault c.op_named.ensures.unknown.1 c.op_named.ensures.unknown.0 c.in-Err.is
