use Rattle.std.proofs.Common.{rules}
use Rattle.std.specs.Prelude.{IsSome}
use Rattle.qv_words.specs.Rank.{result_sort}
use Rattle.qv_words.proofs.Ranks.{found}
use Rattle.qv_blast_cases.proofs.asking.fits.Goals as goal

pub returns-then-is_some : goal.returns-then-is_some
returns-then-is_some c = λ h.
    let some : IsSome (result_sort c.args.op c.args.sorts.now) = search rules in
    let r = found (result_sort c.args.op c.args.sorts.now) some in
    record {
      sorts = c.args.sorts.now;
      result = r.0;
      lawful = c.requires;
      rank = r.1;
      widths = c.have_widths.ensures h;
    }
