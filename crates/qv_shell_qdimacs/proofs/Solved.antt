-- How the run ends that solves a file.
use Rattle.std.proofs.Common.{◌≡◌, ◌≤◌, ◌<◌, ◌⊎◌, inl, inr, ℕ, Option, List, [], ◌∷◌, ◌++◌, length, take, refl, sym, ap, subst, ◌∙◌, arith}
use Rattle.std.specs.Prelude.{Result, Ok, Err, IsErrOf}
use Rattle.std.specs.Result.{IsErrAnd}
use Rattle.std.proofs.lemmas.List.{append-nil}
use Rattle.qv_io.specs.Sink.{Appends, AppendsPart}
use Rattle.qv_io.proofs.SinkLemmas.{Appends-append, Appends-nothing}
use Rattle.qv_check_defs.specs.Limits.{MetLimit}
use Rattle.qv_check_script.specs.declared.ending.Halt.{Halt}
use Rattle.qv_check_script.specs.declared.ending.Halt.TheVariants.{Read, ReadLimit, Write, NoMemory}
use Rattle.qv_check_script.specs.Ending.{halt_status}
use Rattle.qv_meter.specs.Records.{Limits, Record}
use Rattle.qv_qdimacs.specs.Reading.{TextSays}
use Rattle.qv_qdimacs.specs.Text.{Said}
use Rattle.qv_shell_qdimacs.specs.declared.ending.FileEnding.{FileEnding}
use Rattle.qv_shell_qdimacs.specs.declared.replies.Reply.{Reply}
use Rattle.qv_shell_qdimacs.specs.Answers.{header}
use Rattle.qv_shell_qdimacs.specs.Ending.{run_status, status_of}
use Rattle.qv_shell_qdimacs.specs.Solving.{AreTried, EndsSolving, IsFileSolved, Replies, at_end, in_header, in_section, in_text, no_memory, unread}
use Rattle.qv_shell_qdimacs.specs.Replies.{HasTried, IsHalted, IsReplyTo, WritesPart}

-- the status of an error, by a `?` that makes another of it
pub err-run : (r : Result FileEnding Halt) (h : Halt) → IsErrAnd r (λ e. e ≡ h) → run_status r ≡ halt_status h
err-run (Ok e) h and = absurd and
err-run (Err e) h and = ap halt_status and

module _ (places : ℕ) {S : Type 0} (call : S → ℕ → Option (List ℕ) → S → Type 0) (left : S → Option (List ℕ)) (limits : Limits) (source : S) (out cert : Option (List ℕ)) (before : List Record) where
  abbrev Run : (source' : S) (out' cert' : Option (List ℕ)) (after : List Record) (status : ℕ) → Type 0
  Run source' out' cert' after status = IsFileSolved places call left limits source source' out out' cert cert' before after status

  -- the certificate's first line is cut
  pub header-cut : (cert' : Option (List ℕ)) → AppendsPart cert cert' header → Run source out cert' before 4
  header-cut cert' part = record {
    written = [];
    prints = Appends-nothing out;
    kept = take part.0 header;
    keeps = part.2;
    records = [];
    started = sym (append-nil before);
    ends = in_header (take part.0 header) (part.0, part.1, refl);
  }

  -- behind it nothing is written
  nothing-more : (source' : S) (cert' : Option (List ℕ)) (after records : List Record) (status : ℕ) → Appends cert cert' header → after ≡ before ++ records → EndsSolving places call left limits source [] header records status source'
      → Run source' out cert' after status
  nothing-more source' cert' after records status wrote started ends = record {
    written = [];
    prints = Appends-nothing out;
    kept = header;
    keeps = wrote;
    records = records;
    started = started;
    ends = ends;
  }

  same-records : (after : List Record) → after ≡ before → after ≡ before ++ []
  same-records after same = same ∙ sym (append-nil before)

  pub run-halted : (source' : S) (cert' : Option (List ℕ)) (after : List Record) (rose : Type 0) (h : Halt) → Appends cert cert' header → IsHalted call left limits rose source source' before after h
      → Run source' out cert' after (halt_status h)
  run-halted source' cert' after rose Read wrote h = nothing-more source' cert' after [] 3 wrote (same-records after h.2) (unread source' (inl h.1))
  run-halted source' cert' after rose ReadLimit wrote h = nothing-more source' cert' after [] 3 wrote (same-records after h.1) (unread source' (inr h.0))
  run-halted source' cert' after rose Write wrote h = absurd h
  run-halted source' cert' after rose NoMemory wrote h = nothing-more source' cert' after h.0 5 wrote h.1 (no_memory h.0 source' h.2)

  module _ (source' : S) (mid : Option (List ℕ)) (after : List Record) (reply : Reply) (wrote : Appends cert mid header)
      (told : (said : Said) × TextSays call left source said source' × IsReplyTo places limits said before after reply) where
    -- all is written
    pub run-done : (out' cert' : Option (List ℕ)) → Appends mid cert' reply.section.items → Appends out out' reply.text.items → Run source' out' cert' after (status_of reply.ending)
    run-done out' cert' section text = record {
      written = reply.text.items;
      prints = text;
      kept = header ++ reply.section.items;
      keeps = Appends-append cert mid cert' header reply.section.items wrote section;
      records = told.2.0;
      started = told.2.1;
      ends = at_end told.0 reply.section.items reply.text.items told.2.0 (status_of reply.ending) source' told.1 told.2.2;
    }

    -- a part is
    pub run-cut : (out' cert' : Option (List ℕ)) → WritesPart reply out out' mid cert' → Run source' out' cert' after 4
    run-cut out' cert' (inl (same, (n, below, part))) = record {
      written = [];
      prints = subst (λ (o : Option (List ℕ)). Appends out o []) (sym same) (Appends-nothing out);
      kept = header ++ take n reply.section.items;
      keeps = Appends-append cert mid cert' header (take n reply.section.items) wrote part;
      records = told.2.0;
      started = told.2.1;
      ends = in_section told.0 reply.section.items reply.text.items (take n reply.section.items) told.2.0 (status_of reply.ending) source' told.1 told.2.2 (n, below, refl);
    }
    run-cut out' cert' (inr (section, (n, below, part))) = record {
      written = take n reply.text.items;
      prints = part;
      kept = header ++ reply.section.items;
      keeps = Appends-append cert mid cert' header reply.section.items wrote section;
      records = told.2.0;
      started = told.2.1;
      ends = in_text told.0 reply.section.items reply.text.items (take n reply.text.items) told.2.0 (status_of reply.ending) source' told.1 told.2.2 (n, below, refl);
    }

-- ---- what an error comes from

err-is : (r : Result FileEnding Halt) (h other : Halt) → IsErrAnd r (λ e. e ≡ h) → IsErrOf r other → h ≡ other
err-is (Ok a) h other and is = absurd and
err-is (Err e) h other and is = cc

module _ {S : Type 0} (call : S → ℕ → Option (List ℕ) → S → Type 0) (left : S → Option (List ℕ)) (limits : Limits) (rose : Type 0) (source later : S) (before after : List Record) (r : Result FileEnding Halt) (h : Halt) (and : IsErrAnd r (λ e. e ≡ h))
    (halted : IsHalted call left limits rose source later before after h) where
  of-halt : (other : Halt) → IsErrOf r other → IsHalted call left limits rose source later before after other
  of-halt other is = subst (IsHalted call left limits rose source later before after) (err-is r h other and is) halted

  pub halted-read : IsErrOf r Read → rose
  halted-read is = (of-halt Read is).0

  pub halted-limit : IsErrOf r ReadLimit → MetLimit call (left source) source later
  halted-limit is = (of-halt ReadLimit is).0

  pub halted-write : IsErrOf r Write → ⊥
  halted-write is = of-halt Write is
