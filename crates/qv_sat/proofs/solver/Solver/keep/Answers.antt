use Rattle.std.proofs.Common.{rules, ◌≡◌, ◌≢◌, ◌+◌, ◌<◌, ◌≤◌, ◌^◌, ℕ, ℤ, pos, List, [], ◌∷◌, ◌++◌, All, length, map, vec_len, Bool, false, Some, None, sym, ◌∙◌, ap, subst, arith, refl}
use Rattle.std.specs.Prelude.{IsSome}
use Rattle.std.proofs.lemmas.Bool.{iff_false}
use Rattle.std.proofs.lemmas.List.Elements.{All-weaker}
use Rattle.qv_cnf.specs.Counting.{additions-append}
use Rattle.qv_cnf.specs.Derivation.{IsDerivation, addition_of, additions}
use Rattle.qv_cnf.specs.Listing.{Numbered, clause_named, without}
use Rattle.qv_cnf.specs.Literal.{Literal}
use Rattle.qv_cnf.specs.LratLine.{LratLine, Addition, lines_of}
use Rattle.qv_cnf.specs.declared.steps.Step.{Step}
use Rattle.qv_cnf.specs.declared.steps.Step.TheVariants.{Add}
use Rattle.qv_watch.specs.Entries.{Entry, up_to}
use Rattle.qv_watch.specs.TrailState.{IsAtRestBelow, TrailState}
use Rattle.qv_sat.specs.Choosing.{Covers}
use Rattle.qv_sat.specs.Deciding.{AssumedFirst, IsWithin}
use Rattle.qv_sat.specs.Holding.{IsHeld}
use Rattle.qv_sat.specs.Learnt.{IsLearnt}
use Rattle.qv_sat.proofs.Covering.{met_within}
use Rattle.qv_sat.proofs.Holdings.{fresh_attached, IsHeld-trail}
use Rattle.qv_sat.proofs.Learning.{has_none-length, hints_few, learnt_derivation, learnt_level, learnt_rests, learnt_within, lines-push, no_reason, AssumedFirst-back, IsHeld-learn}
use Rattle.qv_sat.proofs.Naming.{named-same, without-last}
use Rattle.qv_sat.proofs.solver.Solver.keep.Goals as goal

pub signed-requires : goal.signed-requires
signed-requires g c =
    let s = c.args.self.now in
    subst (λ (ids : List ℕ). All (λ id. id < 2 ^ 62) ids) (sym c.deref.ensures.value) (hints_few s.base (lines_of s.steps.items) s.trail s.top s.variables s.refuted s.aside c.args.learnt.hints.items c.requires.ready.held c.requires.learnt.attached)

pub take_back-requires-clause-level : goal.take_back-requires-clause-level
take_back-requires-clause-level g c =
    let l = c.args.learnt in
    learnt_level c.args.self.now.trail l.lits.items l.hints.items l.level c.requires.learnt

pub attach-requires-clause-has_room : goal.attach-requires-clause-has_room
attach-requires-clause-has_room g c =
    let l = c.args.learnt in
    let t = c.args.self.now.trail in
    let within = learnt_within t l.lits.items l.hints.items l.level c.requires.trail c.requires.learnt in
    let rooms : All (λ (x : Literal). x.variable ≤ t.room) l.lits.items = All-weaker (IsWithin t.room) (λ (x : Literal). x.variable ≤ t.room) (λ x w. w.1) l.lits.items within in
    subst (λ (xs : List Literal). All (λ x. x.variable ≤ c.take_back.new.trail.room) xs) (sym c.deref-4.ensures.value) (subst (λ (n : ℕ). All (λ (x : Literal). x.variable ≤ n) l.lits.items) (sym (ap (λ (u : TrailState). u.room) c.take_back.ensures.back)) rooms)

pub attach-requires-clause-fresh : goal.attach-requires-clause-fresh
attach-requires-clause-fresh g c =
    let s = c.args.self.now in
    ap (λ (u : TrailState). clause_named (s.top + 1) u.clauses) c.take_back.ensures.back ∙ fresh_attached s.base (lines_of s.steps.items) s.trail s.top s.variables s.refuted s.aside (s.top + 1) c.requires.ready.held (omega arith)

pub attach-requires-clause-at_rest_below : goal.attach-requires-clause-at_rest_below
attach-requires-clause-at_rest_below g c =
    let l = c.args.learnt in
    let t = c.args.self.now.trail in
    let back : TrailState = record { room = t.room; clauses = t.clauses; entries = up_to l.level t.entries; level = l.level; answer = None } in
    let rests : IsAtRestBelow back l.lits.items = learnt_rests t l.lits.items l.hints.items l.level c.requires.trail c.requires.learnt in
    subst (λ (u : TrailState). IsAtRestBelow u c.deref-4.result.now) (sym c.take_back.ensures.back) (subst (IsAtRestBelow back) (sym c.deref-4.ensures.value) rests)

pub returns-in_err-attach-clause-first : goal.returns-in_err-attach-clause-first
returns-in_err-attach-clause-first g c assumptions first =
    let t = c.args.self.now.trail in
    subst (λ (u : TrailState). AssumedFirst assumptions u.entries) (sym (c.in_err-attach.ensures.err ∙ c.take_back.ensures.back)) (AssumedFirst-back assumptions t c.args.learnt.level c.requires.trail first)

pub conflict-charge-requires-clause-derivation : goal.conflict-charge-requires-clause-derivation
conflict-charge-requires-clause-derivation g c =
    let l = c.args.learnt in
    let s = c.args.self.now in
    let derivation = learnt_derivation s.base (lines_of s.steps.items) s.trail s.top s.variables s.refuted s.aside l.lits.items l.hints.items l.level c.requires.ready.held c.requires.ready.going c.requires.trail c.requires.learnt c.requires.apart in
    let steps : c.deref-5.result.now ≡ s.steps.items = c.deref-5.ensures.value ∙ c.in_ok-reserve.ensures.items in
    subst (λ (xs : List Step). IsDerivation s.base.live (lines_of xs ++ addition_of (s.top + 1) c.deref-6.result.now c.deref-7.result.now ∷ [])) (sym steps)
    (subst (λ (xs : List Literal). IsDerivation s.base.live (lines_of s.steps.items ++ addition_of (s.top + 1) xs c.deref-7.result.now ∷ [])) (sym c.deref-6.ensures.value)
    (subst (λ (xs : List ℕ). IsDerivation s.base.live (lines_of s.steps.items ++ addition_of (s.top + 1) l.lits.items xs ∷ [])) (sym c.deref-7.ensures.value) derivation))

pub detach-requires-clause-attached : goal.detach-requires-clause-attached
detach-requires-clause-attached g c =
    let s = c.args.self.now in
    let fresh = fresh_attached s.base (lines_of s.steps.items) s.trail s.top s.variables s.refuted s.aside (s.top + 1) c.requires.ready.held (omega arith) in
    let new : Numbered = record { id = s.top + 1; lits = c.deref-4.result.now } in
    let clauses : c.attach.new.self.clauses ≡ s.trail.clauses ++ new ∷ [] = ap (λ (u : TrailState). u.clauses) c.in_ok-attach.ensures.ok ∙ ap (λ (u : TrailState). u.clauses ++ new ∷ []) c.take_back.ensures.back in
    subst (λ o. IsSome o) (sym (ap (clause_named (s.top + 1)) clauses ∙ named-same s.trail.clauses [] new (s.top + 1) fresh refl)) refl

pub detach-requires-clause-no_reason : goal.detach-requires-clause-no_reason
detach-requires-clause-no_reason g c =
    let s = c.args.self.now in
    let fresh = fresh_attached s.base (lines_of s.steps.items) s.trail s.top s.variables s.refuted s.aside (s.top + 1) c.requires.ready.held (omega arith) in
    let entries : c.attach.new.self.entries ≡ up_to c.args.learnt.level s.trail.entries = ap (λ (u : TrailState). u.entries) c.in_ok-attach.ensures.ok ∙ ap (λ (u : TrailState). u.entries) c.take_back.ensures.back in
    subst (λ (es : List Entry). All (λ e. e.reason ≢ Some (s.top + 1)) es) (sym entries) (no_reason s.trail (s.top + 1) c.args.learnt.level c.requires.trail fresh)

pub returns-in-Err-clause-spends : goal.returns-in-Err-clause-spends
returns-in-Err-clause-spends g c =
    let l = c.args.learnt in
    let s = c.args.self.now in
    let fresh = fresh_attached s.base (lines_of s.steps.items) s.trail s.top s.variables s.refuted s.aside (s.top + 1) c.requires.ready.held (omega arith) in
    let new : Numbered = record { id = s.top + 1; lits = c.deref-4.result.now } in
    let room : c.detach.new.self.room ≡ s.trail.room = ap (λ (u : TrailState). u.room) c.detach.ensures ∙ ap (λ (u : TrailState). u.room) c.in_ok-attach.ensures.ok ∙ ap (λ (u : TrailState). u.room) c.take_back.ensures.back in
    let attached : c.attach.new.self.clauses ≡ s.trail.clauses ++ new ∷ [] = ap (λ (u : TrailState). u.clauses) c.in_ok-attach.ensures.ok ∙ ap (λ (u : TrailState). u.clauses ++ new ∷ []) c.take_back.ensures.back in
    let clauses : c.detach.new.self.clauses ≡ s.trail.clauses = ap (λ (u : TrailState). u.clauses) c.detach.ensures ∙ ap (without ((s.top + 1) ∷ [])) attached ∙ without-last s.trail.clauses new fresh in
    let derivation = learnt_derivation s.base (lines_of s.steps.items) s.trail s.top s.variables s.refuted s.aside l.lits.items l.hints.items l.level c.requires.ready.held c.requires.ready.going c.requires.trail c.requires.learnt c.requires.apart in
    record {
      held = subst (λ (xs : List Step). IsHeld s.base (lines_of xs) c.detach.new.self s.top s.variables s.refuted s.aside) (sym c.in_ok-reserve.ensures.items)
          (IsHeld-trail s.base (lines_of s.steps.items) s.trail c.detach.new.self s.top s.variables s.refuted s.aside c.requires.ready.held room clauses);
      goes_on = search rules;
      count = search rules;
      same = search rules;
      may = search rules;
      spent = search rules;
      offered = λ _. record {
        lits = l.lits.items;
        hints = l.hints.items;
        derivation = subst (λ (xs : List Step). IsDerivation s.base.live (lines_of xs ++ addition_of (s.top + 1) l.lits.items l.hints.items ∷ [])) (sym c.in_ok-reserve.ensures.items) derivation;
      };
    }

pub returns-in-Err-clause-first : goal.returns-in-Err-clause-first
returns-in-Err-clause-first g c assumptions first =
    let t = c.args.self.now.trail in
    let entries : c.detach.new.self.entries ≡ up_to c.args.learnt.level t.entries = ap (λ (u : TrailState). u.entries) c.detach.ensures ∙ ap (λ (u : TrailState). u.entries) c.in_ok-attach.ensures.ok ∙ ap (λ (u : TrailState). u.entries) c.take_back.ensures.back in
    subst (AssumedFirst assumptions) (sym entries) (AssumedFirst-back assumptions t c.args.learnt.level c.requires.trail first)

pub returns-clause-spends : goal.returns-clause-spends
returns-clause-spends g c =
    let l = c.args.learnt in
    let s = c.args.self.now in
    let learnt : IsLearnt s.trail l.lits.items l.hints.items l.level = c.requires.learnt in
    let step : Step = Add (s.top + 1) l.lits c.in_ok-hints.hints in
    let lines : lines_of c.push_reserved.new.self.items ≡ lines_of s.steps.items ++ addition_of (s.top + 1) l.lits.items l.hints.items ∷ [] = ap lines_of (c.push_reserved.ensures.items ∙ ap (λ (xs : List Step). xs ++ step ∷ []) c.in_ok-reserve.ensures.items) ∙ lines-push s.steps.items step ∙ ap (λ (zs : List ℤ). lines_of s.steps.items ++ Addition (s.top + 1) l.lits.items zs ∷ []) (c.in_ok-hints.ensures ∙ ap (λ (ids : List ℕ). map pos ids) c.deref.ensures.value) in
    let few : s.top + 1 < 2 ^ 62 =
    let within : g.B.Budget.count c.args.budget.now ≤ g.B.Budget.limit c.args.budget.now = g.met.B.Budget.within c.args.budget.now in
    let left : g.B.Budget.count c.args.budget.now ≢ g.B.Budget.limit c.args.budget.now = iff_false {b = false} c.in_default.ensures.spent refl in
    let ids = c.requires.ready.ids in
    omega arith
    in
    let room : c.attach.new.self.room ≡ s.trail.room = ap (λ (u : TrailState). u.room) c.in_ok-attach.ensures.ok ∙ ap (λ (u : TrailState). u.room) c.take_back.ensures.back in
    let by_lits : List Literal → List Numbered = λ xs. s.trail.clauses ++ record { id = s.top + 1; lits = xs } ∷ [] in
    let clauses : c.attach.new.self.clauses ≡ by_lits l.lits.items = ap (λ (u : TrailState). u.clauses) c.in_ok-attach.ensures.ok ∙ ap (λ (u : TrailState). u.clauses ++ record { id = s.top + 1; lits = c.deref-4.result.now } ∷ []) c.take_back.ensures.back ∙ ap by_lits c.deref-4.ensures.value in
    let more : additions (lines_of c.push_reserved.new.self.items) ≡ additions (lines_of s.steps.items) + 1 = ap additions lines ∙ additions-append (lines_of s.steps.items) (addition_of (s.top + 1) l.lits.items l.hints.items ∷ []) in
    record {
      held = subst (λ (ls : List LratLine). IsHeld s.base ls c.attach.new.self (s.top + 1) s.variables c.is_empty-self.result s.aside) (sym lines)
          (IsHeld-learn s.base (lines_of s.steps.items) s.trail c.attach.new.self s.top s.variables s.refuted c.is_empty-self.result s.aside l.lits.items l.hints.items l.level c.requires.ready.held c.requires.ready.going c.requires.trail learnt c.requires.apart few room clauses (c.is_empty-self.ensures ∙ has_none-length l.lits.items (vec_len l.lits) (ap length (sym c.deref-4.ensures.value) ∙ c.deref-4.ensures.len)));
      goes_on = search rules;
      count = let charged = c.in_default.ensures.charged in omega arith;
      same = search rules;
      may = search rules;
      spent = search rules;
      offered = search rules;
    }

pub returns-clause-first : goal.returns-clause-first
returns-clause-first g c assumptions first =
    let t = c.args.self.now.trail in
    let entries : c.attach.new.self.entries ≡ up_to c.args.learnt.level t.entries = ap (λ (u : TrailState). u.entries) c.in_ok-attach.ensures.ok ∙ ap (λ (u : TrailState). u.entries) c.take_back.ensures.back in
    subst (AssumedFirst assumptions) (sym entries) (AssumedFirst-back assumptions t c.args.learnt.level c.requires.trail first)

pub bump-requires : goal.bump-requires
bump-requires g c =
    let s = c.args.self.now in
    let most = length s.chooser.order.held in
    let room : s.trail.room ≤ most = omega (arith, c.requires.ready.held.room, c.requires.wide) in
    subst (λ (met : List ℕ). All (λ v. (1 ≤ v) × (v ≤ most)) met) (sym c.met.ensures) (met_within s.trail c.args.self.now.learner most c.requires.trail room c.requires.met.valued)

pub take_back-requires-clause-covers : goal.take_back-requires-clause-covers
take_back-requires-clause-covers g c = subst (λ (hs : List Bool). Covers hs c.args.self.now.trail.entries) (sym c.bump.ensures) c.requires.covered.covers

pub returns-clause-covered : goal.returns-clause-covered
returns-clause-covered g c =
    let entries : c.attach.new.self.entries ≡ c.take_back.new.trail.entries = ap (λ (u : TrailState). u.entries) c.in_ok-attach.ensures.ok in
    let held : length c.take_back.new.self.order.held ≡ length c.args.self.now.chooser.order.held = c.take_back.ensures.long ∙ ap (λ (hs : List Bool). length hs) c.bump.ensures in
    record {
      covers = subst (Covers c.take_back.new.self.order.held) (sym entries) c.take_back.ensures.covers;
      most = omega (arith, c.requires.covered.most);
    }
