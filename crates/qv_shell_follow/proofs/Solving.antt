-- What a run comes to, by how the loop is left.
use Rattle.std.proofs.Common.{◌≡◌, ◌≤◌, ◌<◌, ◌+◌, ◌^◌, ◌⊎◌, inl, inr, ℕ, suc, Option, Some, None, option_map, List, [], ◌∷◌, ◌++◌, length, take, refl, sym, ap, subst, ◌∙◌, append_assoc, arith}
use Rattle.std.proofs.lemmas.List.{append-nil, length-map, length-append}
use Rattle.std.proofs.lemmas.List.Elements.{All-nil}
use Rattle.qv_io.specs.Sink.{Appends, AppendsPart}
use Rattle.qv_io.proofs.SinkLemmas.{Appends-nothing, Appends-append}
use Rattle.qv_text.specs.Progress.{Progress}
use Rattle.qv_sexpr.specs.declared.answers.Next.{Next}
use Rattle.qv_sexpr.specs.declared.answers.Stop.{Stop}
use Rattle.qv_sexpr.specs.Script.{Script, reads}
use Rattle.qv_sexpr.specs.Script.{Tree as Expr, command as stands}
use Rattle.qv_sexpr.specs.Reader.{GivesNext, stop_of}
use Rattle.qv_sexpr.specs.Calls.{ReadsOnDemand}
use Rattle.qv_meter.specs.Records.{Limits, Record}
use Rattle.qv_script_defs.specs.State.{opening}
use Rattle.qv_script_transcript.specs.Following.{CheckSat}
use Rattle.qv_script_transcript.specs.Certificates.{Certified, checks_of, AreCertified, certificate, sections}
use Rattle.qv_cert.specs.TextLaws.{bytes_of_lines}
use Rattle.qv_shell_command.specs.declared.ending.Ending.{Ending}
use Rattle.qv_shell_command.specs.declared.ending.Halt.{Halt}
use Rattle.qv_shell_command.specs.declared.ending.Halt.TheVariants as halt
use Rattle.qv_shell_command.specs.declared.moves.After.{After}
use Rattle.qv_shell_command.specs.declared.moves.After.TheVariants.{More, Ended}
use Rattle.qv_shell_command.specs.declared.moves.Move.{Move}
use Rattle.qv_shell_command.specs.declared.moves.Course.{Course}
use Rattle.qv_shell_command.specs.declared.tallies.Tally.{Tally}
use Rattle.qv_shell_command.specs.Ending.{status_of, halt_status}
use Rattle.qv_shell_command.specs.Tallies.{no_checks, counted_all, tally_of}
use Rattle.qv_shell_command.specs.Moves.{StandsFor, GoesTo, NextMoves, HasStarted}
use Rattle.qv_shell_follow.specs.Solved.{IsSolved, IsReading}
use Rattle.qv_shell_follow.specs.Calls.{AreRecordsAtEnd, AreRecordsOfRun, HasFollowed, at_start, one_command, unfed, IsUnread, EndsRun, at_end, in_text, in_last}
use Rattle.qv_shell_follow.specs.Between.{Between, WritesPart}
use Rattle.qv_shell_follow.proofs.Sections.{checks-append, certificate-append, certified-append, whole-front, checks-counted, counts-all, counted-append, followed-few}
use Rattle.qv_shell_follow.proofs.Leading.{goes-as, ends-as, nothing-cut, halted-cut, whole-run, last-cut, section-cut, text-cut}
use Rattle.qv_shell_follow.proofs.ReadOn.{ending-small, shows-end, shows-command, ends-halt, ends-section, halt-status}

no-more : (before begun : List Record) → before ≡ before ++ begun → begun ≡ []
no-more before [] same = refl
no-more before (r ∷ rs) same = absurd (omega (arith, ap length same, length-append before (r ∷ rs)))

-- parts of nothing
no-part : (old new : Option (List ℕ)) (piece : List ℕ) → piece ≡ [] → AppendsPart old new piece → ⊥
no-part old new piece same h = let few : h.0 < length {A = ℕ} [] = subst (λ (p : List ℕ). h.0 < length p) same h.1 in omega (arith, few)

-- ---- runs

module _ (places : ℕ) (S : Type 0) (call : S → ℕ → Option (List ℕ) → S → Type 0) (limits : Limits) (source : S) (left : Option (List ℕ)) (out cert : Option (List ℕ)) (before : List Record) where
  -- nothing was done: memory ran out at the start, or the first line of the certificate was cut
  pub nothing-solved : (cert' : Option (List ℕ)) (k status : ℕ) → Appends cert cert' (take k (certificate [])) → ((status ≡ 5) × (k ≡ 0)) ⊎ ((status ≡ 4) × (k < length (certificate []))) →
      IsSolved places call limits left source source out out cert cert' before before status
  nothing-solved cert' k status appends cause = record {
    checks = [];
    certified = tt;
    records = [];
    started = sym (append-nil before);
    written = [];
    prints = Appends-nothing out;
    kept = take k (certificate []);
    keeps = appends;
    all_kept = λ low. absurd (omega (arith, low, high));
    whole = λ low. absurd (omega (arith, low, high));
    stand = inl refl;
    answered = [];
    left_open = [];
    checks_are = refl;
    cut = λ more. nothing-cut places left k;
    reading = inl
        (record {
          untouched = refl;
          unanswered = refl;
          closed = refl;
          unrecorded = refl;
          unwritten = refl;
          cause = elim cause [ inl c ↦ inl (c.0, ap (λ n. take n (certificate [])) c.1) | inr c ↦ inr (c.0, (k, c.1, refl)) ];
        });
  }
    where
      high : 3 ≤ status
      high = elim cause [ inl c ↦ let five = c.0 in omega (arith, five) | inr c ↦ let four = c.0 in omega (arith, four) ]

  -- nothing was followed yet, and the first line of the certificate is written
  pub starts-between : (c : Course) (cert' : Option (List ℕ)) → StandsFor c opening → c.tally ≡ no_checks → Appends cert cert' (certificate []) →
      Between places call limits source (option_map reads left) out cert before c unfed source (option_map reads left) out cert' before
  starts-between c cert' standing tally header = record {
    checks = [];
    certified = tt;
    counted = tally;
    written = [];
    prints = Appends-nothing out;
    keeps = header;
    state = opening;
    followed = at_start;
    records = [];
    metered = refl;
    started = sym (append-nil before);
    stands = standing;
  }

  module _ (c : Course) (lexer : Progress) (now : S) (still : Option Script) (out' cert' : Option (List ℕ)) (after : List Record)
      (b : Between places call limits source (option_map reads left) out cert before c lexer now still out' cert' after)
      (next : Next) (new : Progress) (later : S) (rest : Option Script) (gives : GivesNext still next rest) (on : ReadsOnDemand call lexer now (stop_of next) new later) where
    counted : c.tally.checks ≡ length b.checks
    counted = checks-counted b.checks c.tally b.counted

    numbered : (cs : List Certified) → AreCertified (suc c.tally.checks) cs → AreCertified (1 + length b.checks) cs
    numbered cs h = let number : suc c.tally.checks ≡ 1 + length b.checks = omega (arith, counted) in subst (λ n. AreCertified n cs) number h

    -- the records of a command, behind the others
    with-started : (m : Move) (c' : Course) (after' : List Record) (e : Expr) (g : GoesTo places limits b.state e m c.tally c' after after') → after' ≡ before ++ (b.records ++ g.records)
    with-started m c' after' e g = g.started ∙ ap (λ (rs : List Record). rs ++ g.records) b.started ∙ append_assoc before b.records g.records

    with-sections : (m : Move) (c' : Course) (after' : List Record) (e : Expr) (g : GoesTo places limits b.state e m c.tally c' after after') (cert'' : Option (List ℕ)) →
        Appends cert' cert'' m.section.items → Appends cert cert'' (certificate (b.checks ++ g.checks))
    with-sections m c' after' e g cert'' section = subst (Appends cert cert'') (sym (certificate-append b.checks g.checks))
        (Appends-append cert cert' cert'' (certificate b.checks) (bytes_of_lines (sections g.checks)) b.keeps (subst (Appends cert' cert'') g.section section))

    -- the script goes on
    pub goes-between : (m : Move) (c' : Course) (out'' cert'' : Option (List ℕ)) (after' : List Record) → m.after ≡ More → NextMoves places limits b.state next m c.tally c' after after' →
        Appends cert' cert'' m.section.items → Appends out' out'' m.text.items → Between places call limits source (option_map reads left) out cert before c' new later rest out'' cert'' after'
    goes-between m c' out'' cert'' after' more moves section text =
        let x = goes-as places limits b.state next m c.tally c' after after' still rest more moves gives in
        let e = x.0 in
        let g = x.3 in
        let read = subst (λ (s : Option Stop). ReadsOnDemand call lexer now s new later) x.2 on in
        let From : Option Script → Type 0 = λ o. (f : HasFollowed places call source (option_map reads left) (checks_of b.checks) b.written lexer now o b.state) × AreRecordsOfRun limits f b.records in
        let first : From (option_map (stands e) rest) = subst From x.1 (b.followed, b.metered) in
        let To : List CheckSat → Type 0 = λ cs. (f : HasFollowed places call source (option_map reads left) cs (b.written ++ m.text.items) new later rest g.state) × AreRecordsOfRun limits f (b.records ++ g.records) in
        let both : To (checks_of (b.checks ++ g.checks)) = subst To (sym (checks-append b.checks g.checks))
        (one_command (checks_of b.checks) b.written lexer now b.state e (checks_of g.checks) m.text.items new later rest g.state first.0 g.followed read, (b.records, g.records, refl, first.1, g.metered)) in
        record {
          checks = b.checks ++ g.checks;
          certified = certified-append 1 b.checks g.checks b.certified (numbered g.checks g.certified);
          counted = g.counted ∙ ap (counted_all (checks_of g.checks)) b.counted ∙ sym (counted-append (checks_of b.checks) (checks_of g.checks) no_checks)
              ∙ ap tally_of (sym (checks-append b.checks g.checks));
          written = b.written ++ m.text.items;
          prints = Appends-append out out' out'' b.written m.text.items b.prints text;
          keeps = with-sections m c' after' e g cert'' section;
          state = g.state;
          followed = both.0;
          records = b.records ++ g.records;
          metered = both.1;
          started = with-started m c' after' e g;
          stands = g.stands;
        }

    -- it has at most one check more
    pub goes-room : (m : Move) (c' : Course) (after' : List Record) → m.after ≡ More → NextMoves places limits b.state next m c.tally c' after after' → c'.tally.checks ≤ c.tally.checks + 1
    goes-room m c' after' more moves =
        let x = goes-as places limits b.state next m c.tally c' after after' still rest more moves gives in
        let g = x.3 in
        let few = followed-few b.state x.0 (checks_of g.checks) m.text.items g.state g.followed in
        let count = counts-all (checks_of g.checks) c.tally in
        let here : c'.tally.checks ≡ (counted_all (checks_of g.checks) c.tally).checks = ap (λ (t : Tally). t.checks) g.counted in
        omega (arith, few, count, here)

    -- what was read
    reads-so : (left_open : List Certified) (part kept : List ℕ) (status : ℕ) (own : List Record) → (ends : EndsRun places b.state still (stop_of next) b.checks left_open part kept status) × AreRecordsAtEnd places limits ends own →
        IsReading places call limits source (option_map reads left) b.checks left_open (b.records ++ own) (b.written ++ part) kept status later
    reads-so left_open part kept status own ends = record {
      printed = b.written;
      part = part;
      written_is = refl;
      read = record {
        lexer = lexer;
        now = now;
        still = still;
        state = b.state;
        followed = b.followed;
        stop = stop_of next;
        new = new;
        last = on;
      };
      ends = ends.0;
      older = b.records;
      metered = b.metered;
      own = own;
      metered_last = ends.1;
      records_are = refl;
    }

    -- where nothing more is printed
    reads-here : (kept : List ℕ) (status : ℕ) (own : List Record) → (ends : EndsRun places b.state still (stop_of next) b.checks [] [] kept status) × AreRecordsAtEnd places limits ends own →
        IsReading places call limits source (option_map reads left) b.checks [] (b.records ++ own) b.written kept status later
    reads-here kept status own ends = subst (λ (w : List ℕ). IsReading places call limits source (option_map reads left) b.checks [] (b.records ++ own) w kept status later) (append-nil b.written) (reads-so [] [] kept status own ends)

    pub run-small : (m : Move) (ending : Ending) (c' : Course) (after' : List Record) → m.after ≡ Ended ending → NextMoves places limits b.state next m c.tally c' after after' → status_of ending ≤ 1
    run-small m ending c' after' at moves = ending-small places limits b.state next m ending c.tally c' after after' still rest at moves gives

    -- it has ended
    pub run-ended : (m : Move) (ending : Ending) (c' : Course) (out'' cert'' : Option (List ℕ)) (after' : List Record) → m.after ≡ Ended ending → NextMoves places limits b.state next m c.tally c' after after' →
        Appends cert' cert'' m.section.items → Appends out' out'' m.text.items →
        (run : IsSolved places call limits left source later out out'' cert cert'' before after' (status_of ending)) × (c'.tally ≡ tally_of (checks_of run.checks))
    run-ended m ending c' out'' cert'' after' at moves section text =
        let none = ends-as places limits b.state next m ending c.tally c' after after' still rest at moves gives in
        let kept : Appends cert cert'' (certificate b.checks) = subst (Appends cert cert'') (ap (λ (bs : List ℕ). certificate b.checks ++ bs) none.section ∙ append-nil (certificate b.checks))
        (Appends-append cert cert' cert'' (certificate b.checks) m.section.items b.keeps section) in (
          record {
            checks = b.checks;
            certified = b.certified;
            records = b.records ++ [];
            started = none.same ∙ b.started ∙ ap (λ (rs : List Record). before ++ rs) (sym (append-nil b.records));
            written = b.written ++ m.text.items;
            prints = Appends-append out out' out'' b.written m.text.items b.prints text;
            kept = certificate b.checks;
            keeps = kept;
            all_kept = λ low. refl;
            whole = λ low. whole-run places S call source left b.checks b.certified b.written lexer now still b.state b.followed b.stands.current limits next m c.tally c' after after' rest gives counted ending at moves;
            stand = inr (whole-front (certificate b.checks));
            cut = λ high. let low = run-small m ending c' after' at moves in absurd (omega (arith, high, low));
            answered = b.checks;
            left_open = [];
            checks_are = sym (append-nil b.checks);
            reading = inr (reads-so [] m.text.items (certificate b.checks) (status_of ending) [] (at_end m.text.items (status_of ending) (shows-end places limits b.state next m ending c.tally c' after after' still rest at moves gives), refl));
          },
          none.stays ∙ b.counted,
        )

    -- the reader or the memory gave out: nothing more was written
    pub run-halted : (h : Halt) (after' : List Record) → HasStarted limits after after' → (IsUnread (stop_of next) → after' ≡ after) → (h ≡ halt.Read → IsUnread (stop_of next)) → (IsUnread (stop_of next) → h ≡ halt.Read) → (h ≡ halt.Write → ⊥) →
        IsSolved places call limits left source later out out' cert cert' before after' (halt_status h)
    run-halted h after' begun same read unread write = record {
      checks = b.checks;
      certified = b.certified;
      records = b.records ++ begun.begun;
      started = begun.started ∙ ap (λ (rs : List Record). rs ++ begun.begun) b.started ∙ append_assoc before b.records begun.begun;
      written = b.written;
      prints = b.prints;
      kept = certificate b.checks;
      keeps = b.keeps;
      all_kept = λ low. refl;
      whole = λ low. let high = halt-status h in absurd (omega (arith, low, high));
      stand = inr (whole-front (certificate b.checks));
      cut = λ high. halted-cut places S call source left b.checks b.certified b.written lexer now still b.state b.followed b.stands.current;
      answered = b.checks;
      left_open = [];
      checks_are = sym (append-nil b.checks);
      reading = inr (reads-here (certificate b.checks) (halt_status h) begun.begun
          (ends-halt limits b.state still (stop_of next) b.checks h begun.begun read unread write (λ u. no-more after begun.begun (sym (same u) ∙ begun.started)) begun.limited));
    }

    -- the certificate's sink failed within a section: its record is begun, and its check the first of those to come
    section-broken : (m : Move) (c' : Course) (cert'' : Option (List ℕ)) (after' : List Record) → m.after ≡ More → NextMoves places limits b.state next m c.tally c' after after' → AppendsPart cert' cert'' m.section.items →
        IsSolved places call limits left source later out out' cert cert'' before after' 4
    section-broken m c' cert'' after' more moves part =
        let x = goes-as places limits b.state next m c.tally c' after after' still rest more moves gives in
        let g = x.3 in
        let few = followed-few b.state x.0 (checks_of g.checks) m.text.items g.state g.followed in
        record {
          checks = b.checks;
          certified = b.certified;
          records = b.records ++ g.records;
          started = with-started m c' after' x.0 g;
          written = b.written;
          prints = b.prints;
          kept = certificate b.checks ++ take part.0 m.section.items;
          keeps = Appends-append cert cert' cert'' (certificate b.checks) (take part.0 m.section.items) b.keeps part.2;
          all_kept = λ low. absurd (omega (arith, low));
          whole = λ low. absurd (omega (arith, low));
          stand = inr (take part.0 m.section.items, refl);
          cut = λ high. section-cut places S call source left b.checks b.certified b.written lexer now still b.state b.followed b.stands.current limits next m c.tally c' after after' rest gives counted x.0 x.1 g part.0;
          answered = b.checks;
          left_open = [];
          checks_are = sym (append-nil b.checks);
          reading = inr
              (reads-here (certificate b.checks ++ take part.0 m.section.items) 4 g.records
              (ends-section limits b.state still (stop_of next) b.checks g.checks m.text.items m.section.items part.0 g.records few
              (shows-command places limits b.state g.state x.0 (checks_of g.checks) m.text.items still rest (stop_of next) g.records x.2 x.1 g.followed g.metered)
              (subst (λ n. AreCertified (suc n) g.checks) counted g.certified) part.1 g.section));
        }

    -- the other sink failed within a text: the check, if it is one, has its section, and its answer is open
    text-broken : (m : Move) (c' : Course) (out'' cert'' : Option (List ℕ)) (after' : List Record) → m.after ≡ More → NextMoves places limits b.state next m c.tally c' after after' →
        Appends cert' cert'' m.section.items → AppendsPart out' out'' m.text.items → IsSolved places call limits left source later out out'' cert cert'' before after' 4
    text-broken m c' out'' cert'' after' more moves section part =
        let x = goes-as places limits b.state next m c.tally c' after after' still rest more moves gives in
        let g = x.3 in
        let shown = shows-command places limits b.state g.state x.0 (checks_of g.checks) m.text.items still rest (stop_of next) g.records x.2 x.1 g.followed g.metered in
        record {
          checks = b.checks ++ g.checks;
          certified = certified-append 1 b.checks g.checks b.certified (numbered g.checks g.certified);
          records = b.records ++ g.records;
          started = with-started m c' after' x.0 g;
          written = b.written ++ take part.0 m.text.items;
          prints = Appends-append out out' out'' b.written (take part.0 m.text.items) b.prints part.2;
          kept = certificate (b.checks ++ g.checks);
          keeps = with-sections m c' after' x.0 g cert'' section;
          all_kept = λ low. refl;
          whole = λ low. absurd (omega (arith, low));
          stand = inr (whole-front (certificate (b.checks ++ g.checks)));
          cut = λ high. text-cut places S call source left b.checks b.certified b.written lexer now still b.state b.followed b.stands.current limits next m c.tally c' after after' rest gives counted x.0 x.1 g part.0 part.1;
          answered = b.checks;
          left_open = g.checks;
          checks_are = refl;
          reading = inr
              (reads-so g.checks (take part.0 m.text.items) (certificate (b.checks ++ g.checks)) 4 g.records
              (in_text g.checks m.text.items (take part.0 m.text.items) shown.0 (part.0, part.1, refl), shown.1));
        }

    -- or within the last text
    last-broken : (m : Move) (ending : Ending) (c' : Course) (out'' cert'' : Option (List ℕ)) (after' : List Record) → m.after ≡ Ended ending → NextMoves places limits b.state next m c.tally c' after after' →
        Appends cert' cert'' m.section.items → AppendsPart out' out'' m.text.items → IsSolved places call limits left source later out out'' cert cert'' before after' 4
    last-broken m ending c' out'' cert'' after' at moves section part =
        let none = ends-as places limits b.state next m ending c.tally c' after after' still rest at moves gives in
        let kept : Appends cert cert'' (certificate b.checks) = subst (Appends cert cert'') (ap (λ (bs : List ℕ). certificate b.checks ++ bs) none.section ∙ append-nil (certificate b.checks))
        (Appends-append cert cert' cert'' (certificate b.checks) m.section.items b.keeps section) in
        record {
          checks = b.checks;
          certified = b.certified;
          records = b.records ++ [];
          started = none.same ∙ b.started ∙ ap (λ (rs : List Record). before ++ rs) (sym (append-nil b.records));
          written = b.written ++ take part.0 m.text.items;
          prints = Appends-append out out' out'' b.written (take part.0 m.text.items) b.prints part.2;
          kept = certificate b.checks;
          keeps = kept;
          all_kept = λ low. refl;
          whole = λ low. absurd (omega (arith, low));
          stand = inr (whole-front (certificate b.checks));
          cut = λ high. last-cut places S call source left b.checks b.certified b.written lexer now still b.state b.followed b.stands.current limits next m c.tally c' after after' rest gives counted ending part.0 part.1 at moves;
          answered = b.checks;
          left_open = [];
          checks_are = sym (append-nil b.checks);
          reading = inr
              (reads-so [] (take part.0 m.text.items) (certificate b.checks) 4 []
              (in_last m.text.items (take part.0 m.text.items) (status_of ending) (shows-end places limits b.state next m ending c.tally c' after after' still rest at moves gives) (part.0, part.1, refl), refl));
        }

    -- a sink failed
    pub run-broken : (m : Move) (c' : Course) (out'' cert'' : Option (List ℕ)) (after' : List Record) → NextMoves places limits b.state next m c.tally c' after after' → WritesPart m out' out'' cert' cert'' →
        IsSolved places call limits left source later out out'' cert cert'' before after' 4
    run-broken m c' out'' cert'' after' moves part = by m.after refl part
      where
        by : (a : After) → m.after ≡ a → WritesPart m out' out'' cert' cert'' → IsSolved places call limits left source later out out'' cert cert'' before after' 4
        by More at (inl p) = subst (λ (o : Option (List ℕ)). IsSolved places call limits left source later out o cert cert'' before after' 4) (sym p.0) (section-broken m c' cert'' after' at moves p.1)
        by More at (inr p) = text-broken m c' out'' cert'' after' at moves p.0 p.1
        by (Ended ending) at (inl p) = absurd (no-part cert' cert'' m.section.items (ends-as places limits b.state next m ending c.tally c' after after' still rest at moves gives).section p.1)
        by (Ended ending) at (inr p) = last-broken m ending c' out'' cert'' after' at moves p.0 p.1
