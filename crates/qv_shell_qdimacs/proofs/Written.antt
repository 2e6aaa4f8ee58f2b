-- Limits on bytes, and errors that are handed on.
use Rattle.std.proofs.Common.{◌≡◌, ℕ, Option, List, ap}
use Rattle.std.specs.Prelude.{Err, IsErrOf}
use Rattle.qv_sexpr.specs.Causes.{Gave, no_call, one_more}
use Rattle.qv_check_defs.specs.Limits.{MetLimit}
use Rattle.qv_check_script.specs.declared.ending.Halt.{Halt}
use Rattle.qv_dimacs.specs.Reading as dimacs

-- a result of another kind that stops stops for the same
pub same-halt : {T U : Type 0} (a b : Halt) → IsErrOf {T = T} {E = Halt} (Err a) b → IsErrOf {T = U} {E = Halt} (Err a) b
same-halt a b e =
    let same : a ≡ b = cc in
    ap Err same

module _ {S : Type 0} (call : S → ℕ → Option (List ℕ) → S → Type 0) (left : S → Option (List ℕ)) where
  gave-as : {s u : S} {xs : List ℕ} → dimacs.Gave call s xs u → Gave call s xs u
  gave-as dimacs.gave_none = no_call
  gave-as (dimacs.gave_more bytes now more later h c) = one_more bytes now more later (gave-as h) c

  -- the limit that was met by a text
  pub limit-as : (source later : S) → dimacs.MeetsLimit call (left source) source later → MetLimit call (left source) source later
  limit-as source later m = record { taken = m.bytes; gave = gave-as m.gave; limit = m.limit; told = m.told }
