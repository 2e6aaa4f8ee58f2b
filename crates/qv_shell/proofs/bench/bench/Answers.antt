use Rattle.std.proofs.Common.{List, ℕ, inl, inr, refl, subst}
use Rattle.qv_gen.specs.Generating.{IsWriting}
use Rattle.qv_shell.proofs.bench.bench.Goals as goal

pub returns-in-Ok-clause-run : goal.returns-in-Ok-clause-run
returns-in-Ok-clause-run g c =
    let held = g.O.Sink.held in
    inl (
      c.in-Ok.text.items,
      c.in-Ok.ensures.bench,
      subst (λ (text : List ℕ). IsWriting (held c.args.out.now) (held c.write_text.new.out) text 0 c.write_text.result) c.deref.ensures.value c.write_text.ensures.run,
    )

pub returns-in-Err-clause-run : goal.returns-in-Err-clause-run
returns-in-Err-clause-run g c = inr (refl, refl, c.in-Err.ensures.records)
