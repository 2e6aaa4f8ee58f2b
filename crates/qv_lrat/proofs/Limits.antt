-- What is taken of the sources of a check, one line after the other.
use Rattle.std.proofs.Common.{◌≡◌, ℕ, Bool, true, false, Option, List, inl, inr, refl, ap, subst}
use Rattle.std.specs.Prelude.{Ok, Err, IsErrOf}
use Rattle.qv_sexpr.specs.Causes.{Gave, no_call, one_more}
use Rattle.qv_cert.specs.declared.answers.Stop.{Stop}
use Rattle.qv_cert.specs.declared.answers.Stop.TheVariants as stop
use Rattle.qv_cert.specs.Lines.{LinesState, ReadsLine, TookLine}
use Rattle.qv_cert.specs.Took.{Took}
use Rattle.qv_check_defs.specs.Limits.{MetLimit, Takes, TakesToLimit}
use Rattle.qv_check_script.specs.declared.ending.Halt.{Halt}
use Rattle.qv_check_script.specs.declared.ending.Halt.TheVariants as halt
use Rattle.qv_check_script.proofs.Limits.{gave-as, had-given, met-limit}
use Rattle.qv_dimacs.specs.Reading as dimacs
use Rattle.qv_lrat.specs.Judging.{halt_of}

-- a result of another kind that stops stops for the same
pub same-halt : {T U : Type 0} (a b : Halt) → IsErrOf {T = T} {E = Halt} (Err a) b → IsErrOf {T = U} {E = Halt} (Err a) b
same-halt a b e =
    let same : a ≡ b = cc in
    ap Err same

-- why a check stops
pub stops-failing : (why : Stop) → halt_of why ≡ halt.Read → why ≡ stop.ReadFault
stops-failing stop.End e = absurd cc
stops-failing (stop.Fault k) e = absurd cc
stops-failing stop.ReadFault e = refl
stops-failing stop.ReadLimit e = absurd cc
stops-failing stop.NoMemory e = absurd cc

pub stops-reading : (why : Stop) → halt_of why ≡ halt.Write → ⊥
stops-reading stop.End e = cc
stops-reading (stop.Fault k) e = cc
stops-reading stop.ReadFault e = cc
stops-reading stop.ReadLimit e = cc
stops-reading stop.NoMemory e = cc

module _ {S : Type 0} (call : S → ℕ → Option (List ℕ) → S → Type 0) (left : S → Option (List ℕ)) where
  takes-took : (rest whole : List ℕ) (taken taken' : ℕ) (source later : S) → Took call left rest taken source whole taken' later → Takes call left taken source taken' later
  takes-took rest whole taken taken' source later t = record {
    bytes = t.bytes;
    gave = gave-as call left t.gave;
    counted = t.counted;
    told = had-given (left source) (left later) t.bytes t.told;
  }

  -- a line, or the end behind the last one
  pub takes-line : (old new : LinesState) (source later : S) (more : Bool) → TookLine call left old source (Ok more) new later → Takes call left old.taken source new.taken later
  takes-line old new source later true (inl t) = takes-took old.rest _ old.taken new.taken source later t
  takes-line old new source later true (inr t) = takes-took old.rest _ old.taken new.taken source later t.1
  takes-line old new source later false t = takes-took old.rest _ old.taken new.taken source later t

  -- the limit where one was wanted
  pub limit-line : (old new : LinesState) (source later : S) (why : Stop) → ReadsLine call old source (Err why) new later → TookLine call left old source (Err why) new later → halt_of why ≡ halt.ReadLimit
      → TakesToLimit call left old.taken source later
  limit-line old new source later stop.End r t e = absurd t
  limit-line old new source later (stop.Fault k) r t e = absurd t
  limit-line old new source later stop.ReadFault r t e = absurd cc
  limit-line old new source later stop.ReadLimit r t e = (new.taken, takes-took old.rest t.0 old.taken new.taken source later t.1, r.limit)
  limit-line old new source later stop.NoMemory r t e = absurd cc

  -- from the start of a source
  pub limit-whole : (taken : ℕ) (source later : S) → taken ≡ 0 → TakesToLimit call left taken source later → MetLimit call (left source) source later
  limit-whole taken source later none h = met-limit call left source later (subst (λ (n : ℕ). TakesToLimit call left n source later) none h)

  -- and of a CNF text
  gave-dimacs : {s u : S} {xs : List ℕ} → dimacs.Gave call s xs u → Gave call s xs u
  gave-dimacs dimacs.gave_none = no_call
  gave-dimacs (dimacs.gave_more bytes now more later h c) = one_more bytes now more later (gave-dimacs h) c

  pub limit-dimacs : (source later : S) → dimacs.MeetsLimit call (left source) source later → MetLimit call (left source) source later
  limit-dimacs source later m = record { taken = m.bytes; gave = gave-dimacs m.gave; limit = m.limit; told = m.told }
