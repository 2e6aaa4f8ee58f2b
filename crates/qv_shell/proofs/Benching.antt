-- From a script that was solved in memory to what is printed of it.
use Rattle.std.proofs.Common.{◌≡◌, ◌∙◌, ◌≤◌, ◌⊎◌, refl, inl, inr, ℕ, List, [], ◌++◌, Option, Some, None, Ok, Err, OnErr, drop, length, sym, ap, ap₂, subst, append-nil, arith}
use Rattle.std.specs.Prelude.{Result}
use Rattle.qv_io.specs.Sink.{Appends}
use Rattle.qv_io.specs.MemSource.{MemSourceState, ReadGives}
use Rattle.qv_sexpr.specs.declared.answers.Stop.{Stop}
use Rattle.qv_sexpr.specs.Script.{Script, reads}
use Rattle.qv_gen.specs.Text.{script_text}
use Rattle.qv_meter.specs.Records.{AreLimits, Limits, Record}
use Rattle.qv_check_defs.specs.Outcome.{ending_text, outcome}
use Rattle.qv_script_defs.specs.State.{State}
use Rattle.qv_script_transcript.specs.Certificates.{Certified, certificate, checks_of, verdict_beside}
use Rattle.qv_shell_command.specs.declared.tallies.Tally.{Tally}
use Rattle.qv_shell_command.specs.Ending.{status_of}
use Rattle.qv_shell_command.specs.Tallies.{tally_of}
use Rattle.qv_shell_follow.specs.declared.following.Followed.{Followed}
use Rattle.qv_shell_follow.specs.Calls.{AreRecordsAtEnd, EndsRun, at_end, unread, no_memory, in_section, in_text, in_last}
use Rattle.qv_shell_follow.specs.Solved.{HasNotBegun, IsReading, IsSolved, IsWhole}
use Rattle.qv_shell.specs.Bench.{answers_length, bench_text, default_limits, default_places, IsBenchOf, IsMetered, IsSolvedSo, StartsSome}
use Rattle.qv_shell.proofs.Counted.{text-counted, text-long}

-- no record was started
pub starts-none : (before : List Record) → StartsSome before before
starts-none before = ([], sym (append-nil before))

-- an error leaves what is known
pub on-error : {X Y A : Type 0} (r : Result X Y) → A → OnErr r A
on-error (Ok x) h = tt
on-error (Err e) h = h

-- the default limits
pub defaults-lawful : AreLimits default_limits
defaults-lawful = record {
  conflicts = (omega arith, omega arith);
  instances = (omega arith, omega arith);
  variables = (omega arith, omega arith);
}

-- the bytes that are told
abbrev told : Option (List ℕ) → List ℕ
told (Some bytes) = bytes
told None = []

-- at its end nothing is left open, and no record is of more than the commands that were followed
ended-whole : {state : State} {script : Option Script} {stop : Option Stop} {answered left_open : List Certified} {part kept : List ℕ} {status : ℕ} (limits : Limits) (ends : EndsRun default_places state script stop answered left_open part kept status) → status ≤ 1 →
    (own : List Record) → AreRecordsAtEnd default_places limits ends own → (left_open ≡ []) × (own ≡ [])
ended-whole limits (at_end text status shows) low own h = (refl, h)
ended-whole limits (unread is) low own h = absurd (omega (arith, low))
ended-whole limits (no_memory other) low own h = absurd (omega (arith, low))
ended-whole limits (in_section c text part shows is cut) low own h = absurd (omega (arith, low))
ended-whole limits (in_text left_open text part shows cut) low own h = absurd (omega (arith, low))
ended-whole limits (in_last text part status shows cut) low own h = absurd (omega (arith, low))

-- a run of a script in memory, which writes its certificate into memory that held nothing
module _ (given held held' : List ℕ) (nothing : held ≡ []) (source source' : MemSourceState) (before after : List Record) where
  -- whatever its end
  pub run-starts : (status : ℕ) → IsSolved default_places ReadGives default_limits (Some given) source source' None None (Some held) (Some held') before after status → StartsSome before after
  run-starts status run = (run.records, run.started)

  -- its records
  run-metered : (status : ℕ) → status ≤ 1 → (run : IsSolved default_places ReadGives default_limits (Some given) source source' None None (Some held) (Some held') before after status) → IsMetered given run.checks run.records
  run-metered status low run = by run.reading
    where
      by : HasNotBegun source run.answered run.left_open run.records run.written run.kept status source' ⊎ IsReading default_places ReadGives default_limits source (Some (reads given)) run.answered run.left_open run.records run.written run.kept status source' → IsMetered given run.checks run.records
      by (inl h) = absurd (elim h.cause [ inl c ↦ let five = c.0 in omega (arith, five, low) | inr c ↦ let four = c.0 in omega (arith, four, low) ])
      by (inr h) =
          let none = ended-whole default_limits h.ends low h.own h.metered_last in
          let all : run.answered ≡ run.checks = sym (run.checks_are ∙ ap (λ (cs : List Certified). run.answered ++ cs) none.0 ∙ append-nil run.answered) in
          let these : h.older ≡ run.records = sym (h.records_are ∙ ap (λ (rs : List Record). h.older ++ rs) none.1 ∙ append-nil h.older) in
          subst (λ (rs : List Record). IsMetered given run.checks rs) these (subst (λ (cs : List Certified). IsMetered given cs h.older) all (record {
            source = source;
            written = h.printed;
            lexer = h.read.lexer;
            now = h.read.now;
            still = h.read.still;
            state = h.read.state;
            followed = h.read.followed;
            metered = h.metered;
          }))

  -- at its end
  pub run-solved : (script : List ℕ) → given ≡ script → (followed : Followed) → status_of followed.ending ≤ 1 →
      (run : IsSolved default_places ReadGives default_limits (Some given) source source' None None (Some held) (Some held') before after (status_of followed.ending)) →
      followed.tally ≡ tally_of (checks_of run.checks) → IsSolvedSo script held' before after followed.tally
  run-solved script is followed early run tallied =
      let grown : held' ≡ held ++ run.kept = ap told run.keeps in
      let kept : held' ≡ run.kept = grown ∙ ap (λ (bytes : List ℕ). bytes ++ run.kept) nothing in
      let whole : IsWhole default_places given run.checks run.written run.kept (status_of followed.ending) = run.whole early in
      record {
        checks = run.checks;
        certified = run.certified;
        records = run.records;
        metered = subst (λ (text : List ℕ). IsMetered text run.checks run.records) is (run-metered (status_of followed.ending) early run);
        started = run.started;
        out = run.written;
        status = status_of followed.ending;
        cert_is = kept ∙ run.all_kept early;
        whole = subst (λ (text : List ℕ). IsWhole default_places text run.checks run.written held' (status_of followed.ending)) is
            (subst (λ (cert : List ℕ). IsWhole default_places given run.checks run.written cert (status_of followed.ending)) (sym kept) whole);
        tallied = tallied;
      }

-- the same script and certificate, by other names
pub solved-so : (script script' cert cert' : List ℕ) (before after : List Record) (tally : Tally) → script ≡ script' → cert ≡ cert' →
    IsSolvedSo script cert before after tally → IsSolvedSo script' cert' before after tally
solved-so script script' cert cert' before after tally is cert_is s =
    subst (λ (c : List ℕ). IsSolvedSo script' c before after tally) cert_is (subst (λ (t : List ℕ). IsSolvedSo t cert before after tally) is s)

-- some records were started
pub starts-its : (script cert : List ℕ) (before after : List Record) (tally : Tally) → IsSolvedSo script cert before after tally → StartsSome before after
starts-its script cert before after tally s = (s.records, s.started)

-- the text of its check is long enough
pub verdict-long : (script cert verdict : List ℕ) (before after : List Record) (tally : Tally) → IsSolvedSo script cert before after tally → verdict ≡ (outcome default_places script cert).text →
    answers_length tally ≤ length verdict
verdict-long script cert verdict before after tally s is = text-long default_places script cert s.out verdict s.checks s.status tally s.whole.accepted s.tallied is

-- what a check in memory wrote
pub verdict-text : (given given_cert script cert held held' text : List ℕ) → given ≡ script → given_cert ≡ cert → held ≡ [] → text ≡ held' →
    Appends (Some held) (Some held') (outcome default_places given given_cert).text → text ≡ (outcome default_places script cert).text
verdict-text given given_cert script cert held held' text is cert_is nothing same h =
    same ∙ ap told h ∙ ap (λ (bytes : List ℕ). bytes ++ (outcome default_places given given_cert).text) nothing ∙ ap₂ (λ (t c : List ℕ). (outcome default_places t c).text) is cert_is

-- what is printed
pub benched : (n : ℕ) (script cert verdict text : List ℕ) (before after : List Record) (tally : Tally) → script ≡ script_text n →
    IsSolvedSo script cert before after tally → verdict ≡ (outcome default_places script cert).text → text ≡ bench_text tally (drop (answers_length tally) verdict) →
    IsBenchOf n before after text
benched n script cert verdict text before after tally is s checked printed =
    let last = λ (t c : List ℕ). bench_text (tally_of (checks_of s.checks)) (ending_text (verdict_beside default_places t c).ending) in
    record {
      checks = s.checks;
      certified = s.certified;
      records = s.records;
      metered = subst (λ (t : List ℕ). IsMetered t s.checks s.records) is s.metered;
      started = s.started;
      out = s.out;
      status = s.status;
      whole = subst (λ (c : List ℕ). IsWhole default_places (script_text n) s.checks s.out c s.status) s.cert_is (subst (λ (t : List ℕ). IsWhole default_places t s.checks s.out cert s.status) is s.whole);
      text_is = printed ∙ text-counted default_places script cert s.out verdict s.checks s.status tally s.whole.accepted s.tallied checked ∙ ap₂ last is s.cert_is;
    }
