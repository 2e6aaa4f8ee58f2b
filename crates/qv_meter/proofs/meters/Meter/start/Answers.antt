use Rattle.std.proofs.Common.{◌≡◌, ◌∙◌, List, [], ◌∷◌, ◌++◌, false, map, Some, sym, ap, subst}
use Rattle.std.specs.Prelude.{option_map, option_to_list}
use Rattle.std.proofs.lemmas.List.{append-nil, map-append}
use Rattle.qv_meter.specs.Units.{Final}
use Rattle.qv_words.specs.Problem.{Problem}
use Rattle.qv_store.specs.Problems.{problem_in}
use Rattle.qv_meter.specs.Records.{IsMetering, Kept, Metering, Record, first_record, records_of}
use Rattle.qv_meter.specs.Views.{metering_of, record_of, limits_of}
use Rattle.qv_meter.proofs.Keeping.{started-keeps}
use Rattle.qv_meter.proofs.meters.Meter.start.Goals.{in-Some, in_default}
use Rattle.qv_meter.proofs.meters.Meter.start.Goals as goal

pub returns-clause-ok : goal.returns-clause-ok
returns-clause-ok c =
    let older-is : map record_of c.match-take.self-inside.older.items ≡ records_of (metering_of c.self.inside.older.items c.self.inside.newest c.self.inside.lane) = elim c.match-take.branch [
      | in-Some w ↦ rw w.self-inside-is (
          ap (map record_of) (w.push_reserved.ensures.items ∙ ap (λ rs. rs ++ w.in-Some.old ∷ []) c.in_ok-reserve.ensures.items)
          ∙ map-append record_of c.self.inside.older.items (w.in-Some.old ∷ [])
          ∙ ap (λ o. map record_of c.self.inside.older.items ++ option_to_list (option_map record_of o)) (sym w.in-Some.is ∙ c.take.ensures.value))
      | in_default w ↦ rw w.self-inside-is (
          ap (map record_of) c.in_ok-reserve.ensures.items
          ∙ sym (append-nil (map record_of c.self.inside.older.items))
          ∙ ap (λ o. map record_of c.self.inside.older.items ++ option_to_list (option_map record_of o)) (sym w.in_default.is ∙ c.take.ensures.value))
    ] in
    let older : map record_of c.match-take.self-inside.older.items ≡ records_of c.args.self.now = older-is ∙ ap (λ m. records_of m) c.self.view_is in
    let p : Problem = problem_in c.args.store.now c.args.problem.now in
    let newest : record_of c.first_record.result ≡ first_record p (limits_of c.args.limits) =
    c.first_record.ensures ∙ ap (λ (k : Kept). let r : Record = record { kept = Some k; limits = limits_of c.args.limits; conflicts = 0; instances = 0; over = false } in r) c.in_ok-kept.ensures.kept in
    ap (λ (rs : List Record). let m : Metering = record { older = rs; newest = Some (record_of c.first_record.result); lane = Final } in m) older
    ∙ ap (λ (r : Record). let m : Metering = record { older = records_of c.args.self.now; newest = Some r; lane = Final } in m) newest

pub invariant_of-self-2 : goal.invariant_of-self-2
invariant_of-self-2 c =
    subst IsMetering (sym (returns-clause-ok c))
    (started-keeps (problem_in c.args.store.now c.args.problem.now) (limits_of c.args.limits) c.args.self.now c.requires.limits (subst IsMetering c.self.view_is c.self.invariant))
