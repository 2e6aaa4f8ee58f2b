-- What a source over one of std's readers counts.
use Rattle.std.proofs.Common.{◌∙◌, ℕ, Option, List, length-append, refl, arith}
use Rattle.qv_io.specs.StdSource.{ReadGives}
use Rattle.qv_io.specs.declared.std_source.StdSource.{StdSource}
use Rattle.qv_sexpr.specs.Causes.{Gave, no_call, one_more}
use Rattle.qv_sexpr.specs.Counted.{Counted, GivenIsCounted}

counted : {R : Type 0} (remaining : R → Option (List ℕ)) {source later : StdSource R} {bytes : List ℕ} → Gave (ReadGives remaining) source bytes later → Counted source bytes later
counted remaining no_call = record {
  least = omega arith;
  most = omega arith;
  faults = refl;
}
counted remaining (one_more before now more later h call) =
    let so_far = counted remaining h in
    record {
      least = rw length-append (omega (arith, so_far.least, call.4));
      most = rw length-append (omega (arith, so_far.most, call.4));
      faults = call.5 ∙ so_far.faults;
    }

pub given_is_counted : {R : Type 0} (remaining : R → Option (List ℕ)) → GivenIsCounted remaining
given_is_counted remaining source bytes later h = counted remaining h
