use Rattle.std.proofs.Common.{◌≡◌, ◌≤◌, [], ◌∷◌, ◌++◌, All, Some, take, refl, ◌-◌, sym, ap, arith}
use Rattle.std.proofs.lemmas.List.Elements.{All-weaker}
use Rattle.qv_cnf.specs.Listing.{clause_named}
use Rattle.qv_cnf.specs.Literal.{Literal}
use Rattle.qv_cnf.specs.LratLine.{lines_of}
use Rattle.qv_watch.specs.TrailState.{TrailState}
use Rattle.qv_sat.specs.Deciding.{IsWithin}
use Rattle.qv_sat.proofs.Holdings.{aside_live, IsHeld-back}
use Rattle.qv_sat.proofs.LeftAside.{split_last}
use Rattle.qv_sat.proofs.solver.Solver.attach_last.Goals as goal

pub attach-requires-clause-has_room : goal.attach-requires-clause-has_room
attach-requires-clause-has_room c =
    let s = c.args.self.now in
    let id = c.index-id.result.now in
    let lits = c.in-Some.lits.now in
    let named : clause_named id s.base.live ≡ Some lits = sym c.in-Some.ensures in
    let within : All (IsWithin s.variables) lits = c.requires.held.literals id lits (aside_live s.base (lines_of s.steps.items) id lits named) in
    All-weaker (IsWithin s.variables) (λ (l : Literal). l.variable ≤ s.trail.room) (λ l w. omega (arith, w.1, c.requires.held.room)) lits within

pub returns-clause-held : goal.returns-clause-held
returns-clause-held c =
    let s = c.args.self.now in
    let id = c.index-id.result.now in
    let lits = c.in-Some.lits.now in
    let ids = s.aside.ids.items in
    let last = c.len-last.result in
    let front = take (last - 1) ids in
    let is : ids ≡ front ++ id ∷ [] = split_last ids (last - 1) id c.requires.some (omega (arith, c.len-last.ensures, s.aside.ids.ok)) c.index-id.ensures in
    IsHeld-back s.base (lines_of s.steps.items) s.trail c.attach.new.self s.top s.variables s.refuted s.aside record { ids = c.truncate.new.self; guards = s.aside.guards } front id lits c.requires.held is (sym c.in-Some.ensures)
    (ap (λ (t : TrailState). t.room) c.in_ok-attach.ensures.ok) (ap (λ (t : TrailState). t.clauses) c.in_ok-attach.ensures.ok) c.truncate.ensures.items refl
