use Rattle.std.proofs.Common.{◌≡◌, ◌∙◌, List, ℕ, [], refl, sym, ap, subst, Option, Ok, Err, inl, inr, option_map}
use Rattle.std.specs.Prelude.{Result, OnErr, Vec, IfSome}
use Rattle.std.specs.declared.alloc.Global.{Global}
use Rattle.qv_io.specs.Sink.{Appends, AppendsPart}
use Rattle.qv_io.proofs.SinkLemmas.{Appends-nothing}
use Rattle.qv_cert.specs.CertReader.{to_give}
use Rattle.qv_check_script.specs.declared.ending.Ending.{Ending}
use Rattle.qv_check_script.specs.declared.ending.Halt.{Halt}
use Rattle.qv_check_script.specs.declared.ending.Halt.TheVariants as halt
use Rattle.qv_sexpr.specs.Script.{reads}
use Rattle.qv_sexpr.proofs.Commands.{rose_later}
use Rattle.qv_script_defs.specs.State.{opening}
use Rattle.qv_check_script.specs.Reading.{unfed}
use Rattle.qv_check_script.specs.Ending.{status_of, run_status}
use Rattle.qv_cert.specs.CertReader.{Position}
use Rattle.qv_check_script.specs.Turns.{Coming, told, to_come, Heads, Cut, Done, Short}
use Rattle.qv_check_script.proofs.Leading.{ok-weaker}
use Rattle.qv_check_script.proofs.Limits.{met-limit}
use Rattle.qv_check_script.proofs.Wanting.{wants-on, wants-more}
use Rattle.qv_check_script.proofs.Unfinished.{short-here, told-some}
use Rattle.qv_check_script.proofs.Whole.{err-same, of-told, cut-here, done-here, cut-within, next-last, nothing-front, starts, header-refuses, on-err, err-weaker, tells-told, err-high, refused-high, reads-weaker}
use Rattle.qv_check_script.proofs.verifying.verify.Goals as goal

-- nothing was written
pub returns-in_err-reader-clause-cut : goal.returns-in_err-reader-clause-cut
returns-in_err-reader-clause-cut g c =
    let left = g.S.Source.left c.args.script.now in
    let cert = g.C.Source.left c.args.cert.now in
    let held = g.O.Sink.held c.args.out.now in
    let whole = told c.args.places left cert in
    on-err c.from_residual.result _ (of-told c.args.places left cert (Cut held held) (cut-here held held [] (Appends-nothing held) whole whole (nothing-front whole)))

pub returns-in_err-line-clause-cut : goal.returns-in_err-line-clause-cut
returns-in_err-line-clause-cut g c =
    let left = g.S.Source.left c.args.script.now in
    let cert = g.C.Source.left c.args.cert.now in
    let held = g.O.Sink.held c.args.out.now in
    let whole = told c.args.places left cert in
    on-err c.from_residual-in_err-line.result _ (of-told c.args.places left cert (Cut held held) (cut-here held held [] (Appends-nothing held) whole whole (nothing-front whole)))

pub returns-in_err-reader-clause-short : goal.returns-in_err-reader-clause-short
returns-in_err-reader-clause-short g c _ =
    let left = g.S.Source.left c.args.script.now in
    let cert = g.C.Source.left c.args.cert.now in
    let held = g.O.Sink.held c.args.out.now in
    let whole = told c.args.places left cert in
    of-told c.args.places left cert (Short held held) (short-here held held [] (Appends-nothing held) whole whole (nothing-front whole) (told-some c.args.places left cert))

pub returns-in_err-line-clause-short : goal.returns-in_err-line-clause-short
returns-in_err-line-clause-short g c _ =
    let left = g.S.Source.left c.args.script.now in
    let cert = g.C.Source.left c.args.cert.now in
    let held = g.O.Sink.held c.args.out.now in
    let whole = told c.args.places left cert in
    of-told c.args.places left cert (Short held held) (short-here held held [] (Appends-nothing held) whole whole (nothing-front whole) (told-some c.args.places left cert))

-- the first line is refused
not-memory : (X : Type 0) (r : Result Ending Halt) → OnErr r ((r ≡ Err halt.Write) × X) → r ≡ Err halt.NoMemory → ⊥
not-memory X (Ok e) h five = absurd cc
not-memory X (Err k) h five = let write = h.0 in absurd cc

pub returns-in-Some-clause-short : goal.returns-in-Some-clause-short
returns-in-Some-clause-short g c five = absurd (not-memory _ c.refuse.result c.refuse.ensures.write five)

pub returns-in-Some-clause-done : goal.returns-in-Some-clause-done
returns-in-Some-clause-done g c =
    let left = g.S.Source.left c.args.script.now in
    let cert = g.C.Source.left c.args.cert.now in
    let held = g.O.Sink.held c.args.out.now in
    let held' = g.O.Sink.held c.refuse.new.out in
    let reader = c.read_header.new.reader in
    let text = to_give reader.rest (g.C.Source.left c.read_header.new.cert) in
    let line = c.in-Some.line.items in
    let whole = told c.args.places left cert in
    let heads = subst (λ (o : Option (Vec ℕ Global)). IfSome cert (λ bytes. Heads (option_map (λ (l : Vec ℕ Global). l.items) o) bytes reader.version text)) c.in-Some.is c.in_ok-line.ensures.heads in
    ok-weaker c.refuse.result _ _ c.refuse.ensures.done
    (λ ending h. of-told c.args.places left cert (Done held held' (status_of ending))
    (subst (λ (e : Ending). IfSome whole (Done held held' (status_of e))) (sym h.0)
    (done-here held held [] (Appends-nothing held) whole whole (nothing-front whole) held' line 6 (subst (λ (t : List ℕ). Appends held held' t) c.deref.ensures.value h.1)
    (header-refuses c.args.places left cert line reader.version text heads))))

pub returns-in-Some-clause-cut : goal.returns-in-Some-clause-cut
returns-in-Some-clause-cut g c =
    let left = g.S.Source.left c.args.script.now in
    let cert = g.C.Source.left c.args.cert.now in
    let held = g.O.Sink.held c.args.out.now in
    let held' = g.O.Sink.held c.refuse.new.out in
    let reader = c.read_header.new.reader in
    let text = to_give reader.rest (g.C.Source.left c.read_header.new.cert) in
    let line = c.in-Some.line.items in
    let whole = told c.args.places left cert in
    let heads = subst (λ (o : Option (Vec ℕ Global)). IfSome cert (λ bytes. Heads (option_map (λ (l : Vec ℕ Global). l.items) o) bytes reader.version text)) c.in-Some.is c.in_ok-line.ensures.heads in
    err-weaker c.refuse.result _ _ c.refuse.ensures.cut
    (λ h. of-told c.args.places left cert (Cut held held')
    (cut-within held held [] (Appends-nothing held) whole whole (nothing-front whole) held' line (subst (λ (t : List ℕ). AppendsPart held held' t) c.deref.ensures.value h)
    (next-last line 6 whole (header-refuses c.args.places left cert line reader.version text heads))))

-- what comes behind it
pub returns-clause-done : goal.returns-clause-done
returns-clause-done g c =
    let left = g.S.Source.left c.args.script.now in
    let cert = g.C.Source.left c.args.cert.now in
    let held = g.O.Sink.held c.args.out.now in
    let held' = g.O.Sink.held c.follow.new.out in
    let reader = c.read_header.new.reader in
    let text = to_give reader.rest (g.C.Source.left c.read_header.new.cert) in
    let heads = subst (λ (o : Option (Vec ℕ Global)). IfSome cert (λ bytes. Heads (option_map (λ (l : Vec ℕ Global). l.items) o) bytes reader.version text)) c.in-None.is c.in_ok-line.ensures.heads in
    let one = (c.in_ok-line.ensures.reads (ap Ok c.in-None.is)).0 in
    let start = starts c.args.places left cert reader.version reader.given text one (tells-told reader.rest cert (g.C.Source.left c.read_header.new.cert) c.in_ok-line.ensures.telling) heads in
    ok-weaker c.follow.result _ _ c.follow.ensures.done
    (λ ending h. of-told c.args.places left cert (Done held held' (status_of ending)) (subst (λ (o : Option Coming). IfSome o (Done held held' (status_of ending))) (sym start) h))

pub returns-clause-cut : goal.returns-clause-cut
returns-clause-cut g c =
    let left = g.S.Source.left c.args.script.now in
    let cert = g.C.Source.left c.args.cert.now in
    let held = g.O.Sink.held c.args.out.now in
    let held' = g.O.Sink.held c.follow.new.out in
    let reader = c.read_header.new.reader in
    let text = to_give reader.rest (g.C.Source.left c.read_header.new.cert) in
    let heads = subst (λ (o : Option (Vec ℕ Global)). IfSome cert (λ bytes. Heads (option_map (λ (l : Vec ℕ Global). l.items) o) bytes reader.version text)) c.in-None.is c.in_ok-line.ensures.heads in
    let one = (c.in_ok-line.ensures.reads (ap Ok c.in-None.is)).0 in
    let start = starts c.args.places left cert reader.version reader.given text one (tells-told reader.rest cert (g.C.Source.left c.read_header.new.cert) c.in_ok-line.ensures.telling) heads in
    err-weaker c.follow.result _ _ c.follow.ensures.cut
    (λ h. of-told c.args.places left cert (Cut held held') (subst (λ (o : Option Coming). IfSome o (Cut held held')) (sym start) h))

pub returns-clause-short : goal.returns-clause-short
returns-clause-short g c five =
    let left = g.S.Source.left c.args.script.now in
    let cert = g.C.Source.left c.args.cert.now in
    let held = g.O.Sink.held c.args.out.now in
    let held' = g.O.Sink.held c.follow.new.out in
    let reader = c.read_header.new.reader in
    let text = to_give reader.rest (g.C.Source.left c.read_header.new.cert) in
    let heads = subst (λ (o : Option (Vec ℕ Global)). IfSome cert (λ bytes. Heads (option_map (λ (l : Vec ℕ Global). l.items) o) bytes reader.version text)) c.in-None.is c.in_ok-line.ensures.heads in
    let one = (c.in_ok-line.ensures.reads (ap Ok c.in-None.is)).0 in
    let start = starts c.args.places left cert reader.version reader.given text one (tells-told reader.rest cert (g.C.Source.left c.read_header.new.cert) c.in_ok-line.ensures.telling) heads in
    of-told c.args.places left cert (Short held held') (subst (λ (o : Option Coming). IfSome o (Short held held')) (sym start) (c.follow.ensures.short five))

-- the limit was met
pub returns-in_err-line-clause-limit : goal.returns-in_err-line-clause-limit
returns-in_err-line-clause-limit g c met =
    let r = c.from_residual-in_err-line.result in
    let script = g.S.Source.left c.args.script.now in
    let fresh = c.in_ok-reader.ensures in
    inr
    (wants-more c.args.places g.C.Source.read_gives g.C.Source.left c.in_ok-reader.reader c.read_header.new.reader c.args.cert.now c.read_header.new.cert script (ap (λ (p : Position). p.rest) fresh) (ap (λ (p : Position). p.taken) fresh) (ap (λ (p : Position). p.given) fresh)
    (c.in_err-line.ensures.limit (ap Err (err-same r c.in_err-line.field-0.0 c.from_residual-in_err-line.ensures.1 met)) c.args.places script)).met

pub returns-clause-limit : goal.returns-clause-limit
returns-clause-limit g c met =
    let left = g.S.Source.left c.args.script.now in
    let cert = g.C.Source.left c.args.cert.now in
    let reader = c.read_header.new.reader in
    let text = to_give reader.rest (g.C.Source.left c.read_header.new.cert) in
    let fresh = c.in_ok-reader.ensures in
    let heads = subst (λ (o : Option (Vec ℕ Global)). IfSome cert (λ bytes. Heads (option_map (λ (l : Vec ℕ Global). l.items) o) bytes reader.version text)) c.in-None.is c.in_ok-line.ensures.heads in
    let one = (c.in_ok-line.ensures.reads (ap Ok c.in-None.is)).0 in
    let start = starts c.args.places left cert reader.version reader.given text one (tells-told reader.rest cert (g.C.Source.left c.read_header.new.cert) c.in_ok-line.ensures.telling) heads in
    let coming = to_come c.args.places reader.version 0 opening (option_map reads left) reader.given text in
    elim (c.follow.ensures.limit met) [
      | inl limit ↦ inl (met-limit g.S.Source.read_gives g.S.Source.left c.args.script.now c.follow.new.script limit)
      | inr limit ↦ inr
          (wants-more c.args.places g.C.Source.read_gives g.C.Source.left c.in_ok-reader.reader c.follow.new.reader c.args.cert.now c.follow.new.cert left (ap (λ (p : Position). p.rest) fresh) (ap (λ (p : Position). p.taken) fresh) (ap (λ (p : Position). p.given) fresh)
          (wants-on c.args.places g.C.Source.read_gives g.C.Source.left c.in_ok-reader.reader reader c.follow.new.reader c.args.cert.now c.read_header.new.cert c.follow.new.cert (told c.args.places left cert) coming [] (c.in_ok-line.ensures.takes (ap Ok c.in-None.is)) (start ∙ nothing-front coming) limit)).met
    ]

-- how far the script was read: not at all
pub returns-in_err-reader-clause-reading : goal.returns-in_err-reader-clause-reading
returns-in_err-reader-clause-reading g c = inl (refl, err-high c.from_residual.result halt.NoMemory c.from_residual.ensures.1)

pub returns-in_err-line-clause-reading : goal.returns-in_err-line-clause-reading
returns-in_err-line-clause-reading g c = inl (refl, err-high c.from_residual-in_err-line.result c.in_err-line.field-0.0 c.from_residual-in_err-line.ensures.1)

pub returns-in-Some-clause-reading : goal.returns-in-Some-clause-reading
returns-in-Some-clause-reading g c = inl (refl, refused-high c.refuse.result _ c.refuse.ensures.done)

-- or from its start
pub returns-clause-reading : goal.returns-clause-reading
returns-clause-reading g c =
    let left = g.S.Source.left c.args.script.now in
    let cert = g.C.Source.left c.args.cert.now in
    let reader = c.read_header.new.reader in
    let text = to_give reader.rest (g.C.Source.left c.read_header.new.cert) in
    let fresh = c.in_ok-reader.ensures in
    let heads = subst (λ (o : Option (Vec ℕ Global)). IfSome cert (λ bytes. Heads (option_map (λ (l : Vec ℕ Global). l.items) o) bytes reader.version text)) c.in-None.is c.in_ok-line.ensures.heads in
    let one = (c.in_ok-line.ensures.reads (ap Ok c.in-None.is)).0 in
    let start = starts c.args.places left cert reader.version reader.given text one (tells-told reader.rest cert (g.C.Source.left c.read_header.new.cert) c.in_ok-line.ensures.telling) heads in
    let coming = to_come c.args.places reader.version 0 opening (option_map reads left) reader.given text in
    inr
    (reads-weaker g.S.Source.read_gives _ _ opening unfed c.args.script.now (option_map reads (g.S.Source.left c.args.script.now)) (g.O.Sink.held c.args.out.now) (g.O.Sink.held c.follow.new.out) (run_status c.follow.result) c.follow.new.script
    (λ x. elim x [
      | inl rose ↦ inl (rose_later _ _ _ c.read_header.ensures.count c.follow.ensures.cert_count rose)
      | inr limit ↦ inr
          (wants-more c.args.places g.C.Source.read_gives g.C.Source.left c.in_ok-reader.reader c.follow.new.reader c.args.cert.now c.follow.new.cert left (ap (λ (p : Position). p.rest) fresh) (ap (λ (p : Position). p.taken) fresh) (ap (λ (p : Position). p.given) fresh)
          (wants-on c.args.places g.C.Source.read_gives g.C.Source.left c.in_ok-reader.reader reader c.follow.new.reader c.args.cert.now c.read_header.new.cert c.follow.new.cert (told c.args.places left cert) coming [] (c.in_ok-line.ensures.takes (ap Ok c.in-None.is)) (start ∙ nothing-front coming) limit))
    ])
    c.follow.ensures.reading)
