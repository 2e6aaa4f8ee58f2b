use Rattle.std.proofs.Common.{rules, arith, ◌≡◌, ◌≤◌, ◌+◌, ◌∷◌, ◌++◌, [], refl}
use Rattle.qv_cnf.specs.Listing.{next_id}
use Rattle.qv_cnf.specs.Runs.{ids_of}
use Rattle.qv_cnf.proofs.RunLaws.{AreRuns-last, IsNumbering-push, IsNumbering-instead, ids_of-append, ids_of-instead, ids_of-last}
use Rattle.qv_cnf.proofs.numbering.Numbering.push.Goals as goal
use Rattle.qv_cnf.proofs.numbering.Numbering.push.Goals.{then-self-gt0+in_ok-reserve, else-self-gt0}

pub invariant_of-self : goal.invariant_of-self
invariant_of-self c =
    let p = c.self.invariant in
    let last = c.self.inside.last in
    record {
      runs = AreRuns-last 0 0 c.self.inside.before.items last (record last { count = last.count + 1 }) refl refl p.runs;
      filled = p.filled;
      few = omega arith;
    }

pub returns-then-continues-clause-ok : goal.returns-then-continues-clause-ok
returns-then-continues-clause-ok c =
    let last = c.self.inside.last in
    let same : c.args.id ≡ last.first + last.count = search rules in
    rw (ids_of-last c.self.inside.before.items last (record last { count = last.count + 1 }) refl refl, ← same, c.self.view_is)

pub invariant_of-self-2 : goal.invariant_of-self-2
invariant_of-self-2 c =
    let p = c.self.invariant in
    let before = c.self.inside.before.items in
    let last = c.self.inside.last in
    let next : next_id (ids_of (before ++ last ∷ [])) ≤ c.args.id = rw c.self.view_is c.requires in
    elim c.if-self-gt0.branch [
      | then-self-gt0+in_ok-reserve w ↦
          rw (w.self-inside-is, w.push_reserved.ensures.items, w.in_ok-reserve.ensures.items)
          (IsNumbering-push before last _ c.args.id p w.if-self-gt0.true next refl (omega arith))
      | else-self-gt0 w ↦
          rw w.self-inside-is
          (IsNumbering-instead before last _ c.args.id p (omega arith) next refl (omega arith))
    ]

pub returns-clause-ok : goal.returns-clause-ok
returns-clause-ok c =
    let before = c.self.inside.before.items in
    let last = c.self.inside.last in
    elim c.if-self-gt0.branch [
      | then-self-gt0+in_ok-reserve w ↦
          rw (w.self-inside-is, w.push_reserved.ensures.items, w.in_ok-reserve.ensures.items, ids_of-append (before ++ last ∷ []), c.self.view_is)
      | else-self-gt0 w ↦
          rw (w.self-inside-is, ids_of-instead before last (record { first = c.args.id; at = last.at + last.count; count = 1 }) (omega arith) refl, c.self.view_is)
    ]
