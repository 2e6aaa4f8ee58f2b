use Rattle.std.proofs.Common.{[], append-nil, refl, sym, arith}
use Rattle.qv_cnf.specs.Listing.{Extends}
use Rattle.qv_cnf.proofs.Living.{cut_at-extended}
use Rattle.qv_circuits.proofs.encoder.Encoder.new.Goals as goal

pub returns : goal.returns
returns c =
    let l = c.args.list in
    let same : Extends l l c.args.id = record {
      more = [];
      ids = [];
      live = sym (append-nil l.live);
      given = sym (append-nil l.given);
      old_below = c.requires.above;
      more_above = λ k d h. absurd (omega (arith, h));
      ids_above = λ k d h. absurd (omega (arith, h));
    } in
    rw (cut_at-extended l l c.args.id c.requires.listing same) refl
