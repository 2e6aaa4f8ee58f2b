use Rattle.std.proofs.Common.{arith, ◌≡◌, ◌<◌, ◌≤◌, ◌-◌, suc, [], length, drop, get_or}
use Rattle.std.proofs.lemmas.Option.{slice_get-get_or}
use Rattle.qv_cnf.specs.Runs.{AreAbove}
use Rattle.qv_cnf.specs.declared.numbering.Run.{Run}
use Rattle.qv_cnf.proofs.RunLaws.{place-below, spot-below, spot-between, spot-near}
use Rattle.qv_cnf.proofs.numbering.spot_among.Goals as goal

-- what stands for a run that isn't there
abbrev nowhere : Run
nowhere = record { first = 0; at = 0; count = 0 }

pub returns-then-last-id : goal.returns-then-last-id
returns-then-last-id c =
    spot-near c.args.before.now c.args.last [] c.args.id c.spot_in.result c.requires.runs c.if-last-id.true tt c.spot_in.ensures.there c.spot_in.ensures.behind

pub returns-then-count-eq0 : goal.returns-then-count-eq0
returns-then-count-eq0 c =
    let zero_is : c.count_up_to-count.result ≡ 0 = omega arith in
    let over : AreAbove c.args.id c.args.before.now = rw zero_is at c.count_up_to-count.ensures.above in
    spot-below c.args.before.now c.args.last c.args.id c.requires.runs over (omega arith)

pub spot_in-requires-2-clause-up : goal.spot_in-requires-2-clause-up
spot_in-requires-2-clause-up c =
    let j = c.count_up_to-count.result - 1 in
    let within : j < length c.args.before.now = omega (arith, c.count_up_to-count.ensures.within) in
    c.count_up_to-count.ensures.up _ (omega arith) (slice_get-get_or c.args.before.now j nowhere within)

pub spot_in-requires-2-clause-few : goal.spot_in-requires-2-clause-few
spot_in-requires-2-clause-few c =
    let j = c.count_up_to-count.result - 1 in
    let within : j < length c.args.before.now = omega (arith, c.count_up_to-count.ensures.within) in
    let low = place-below c.args.before.now c.args.last j nowhere c.requires.runs within in
    omega (arith, low, c.requires.few)

pub returns : goal.returns
returns c =
    let j = c.count_up_to-count.result - 1 in
    let within : j < length c.args.before.now = omega (arith, c.count_up_to-count.ensures.within) in
    let next : c.count_up_to-count.result ≡ suc j = omega arith in
    let over : AreAbove c.args.id (drop (suc j) c.args.before.now) = rw next at c.count_up_to-count.ensures.above in
    let up : (get_or c.args.before.now j nowhere).first ≤ c.args.id = c.count_up_to-count.ensures.up _ (omega arith) (slice_get-get_or c.args.before.now j nowhere within) in
    spot-between c.args.before.now c.args.last c.args.id j nowhere c.spot_in-2.result c.requires.runs within up over (omega arith) c.spot_in-2.ensures.there c.spot_in-2.ensures.behind
