use Rattle.std.proofs.Common.{arith, ◌≡◌, ◌*◌, ◌-◌, ◌/◌, ◌%◌, ◌<◌, length, get_or}
use Rattle.std.proofs.lemmas.List.{length-take}
use Rattle.std.proofs.lemmas.Option.{get_or_from_slice_get}
use Rattle.qv_cnf.proofs.BlockLaws.{AreFull-take, take-behind, take-in}
use Rattle.qv_cnf.proofs.packed.Packed.truncate.Goals as goal

pub invariant_of-self : goal.invariant_of-self
invariant_of-self c =
    let full = c.self.inside.full.items in
    rw (c.cut.ensures.front, c.truncate.ensures) record {
      full = AreFull-take full (c.args.n / 1024) c.self.invariant.full;
      last = omega (arith, length-take (c.args.n % 1024) c.cut.result);
      few = omega (arith, length-take (c.args.n / 1024) full, c.self.invariant.few);
    }

pub returns-then-block-len : goal.returns-then-block-len
returns-then-block-len c =
    let full = c.self.inside.full.items in
    let within : c.args.n / 1024 < length full = omega (arith, c.len.ensures) in
    let first : get_or full (c.args.n / 1024) c.cut.result ≡ c.cut.result = get_or_from_slice_get full (c.args.n / 1024) c.cut.result c.cut.result c.cut.ensures.first in
    let at = take-in full c.self.inside.last c.cut.result (c.args.n / 1024) (c.args.n % 1024) c.args.n c.self.invariant.full within (omega arith) (omega arith) in
    rw (c.cut.ensures.front, c.truncate.ensures, ← c.self.view_is, at, first)

pub returns-else-block-len : goal.returns-else-block-len
returns-else-block-len c =
    let full = c.self.inside.full.items in
    let at = take-behind full c.self.inside.last (c.args.n - c.len-else-block-len.result * 1024) c.args.n c.self.invariant.full (omega (arith, c.len-else-block-len.ensures, c.len.ensures)) in
    rw (c.truncate-else-block-len.ensures, ← c.self.view_is, at)
