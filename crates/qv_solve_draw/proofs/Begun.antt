-- Lines that begin a section.
use Rattle.std.proofs.Common.{◌≡◌, ℕ, ◌<◌, ◌^◌, Option, Some, None, List, sym, subst, arith}
use Rattle.std.specs.Prelude.{All, Err, IfErr, IfSome, IsSomeAnd, Ok, OnOk, Result, option_map}
use Rattle.qv_words.specs.declared.op.Answer.TheVariants.{Sat, Unsat}
use Rattle.qv_words.specs.Tree.{Tree}
use Rattle.qv_words.specs.Problem.{Problem}
use Rattle.qv_words.specs.Skolem.{SkolemTerm, SkolemOk}
use Rattle.qv_words.specs.Expansion.{ExpansionLine, IsExpansion}
use Rattle.qv_words.specs.Linked.{Entry}
use Rattle.qv_store.specs.declared.problem.Problem.{Problem as Posed}
use Rattle.qv_store.specs.Problems.{problem_in, IsPosedIn}
use Rattle.qv_store.specs.Stores.{Grows}
use Rattle.qv_meter.specs.declared.faults.PlayFault.{PlayFault}
use Rattle.qv_meter.specs.declared.faults.PlayFault.TheVariants.{NoMemory}
use Rattle.qv_meter.specs.Records.{IsMetering, IsRecord, Metering, Record}
use Rattle.qv_meter.specs.Charging.{OfNewest}
use Rattle.qv_cert.specs.Line.{IsCertLine}
use Rattle.qv_cert.specs.Listed.{listed_by}
use Rattle.qv_cert_nodes.specs.Pushing.{Lists}
use Rattle.qv_skolem.specs.declared.skolem.Skolem.{Skolem}
use Rattle.qv_skolem.specs.Skolems.{skolems_in}
use Rattle.qv_expand.specs.declared.tree.TreeLine.{TreeLine}
use Rattle.qv_expand.specs.Trees.{lines_in}
use Rattle.qv_expand.proofs.OneLine.{problem-grown}
use Rattle.qv_expand.specs.Charges.{HasCounted, IsFault, more_instances, record_with}
use Rattle.qv_solve_write.specs.declared.writing.Writing.{Writing}
use Rattle.qv_solve_write.specs.Said.{lines_said}
use Rattle.qv_solve_write_laws.specs.WritingLaws.{AreLinesOf}
use Rattle.qv_solve_draw.specs.Drawing.{IsListing}

-- terms of a problem are terms of it in a greater store
pub terms-there : (old mid : List Tree) → Grows old mid → (problem : Posed) → IsPosedIn old problem → (terms given : List Skolem) → given ≡ terms → SkolemOk (problem_in old problem) (skolems_in mid terms) → SkolemOk (problem_in mid problem) (skolems_in mid given)
terms-there old mid grows problem posed terms given is ok =
    subst (λ (ss : List Skolem). SkolemOk (problem_in mid problem) (skolems_in mid ss)) (sym is)
    (subst (λ (p : Problem). SkolemOk p (skolems_in mid terms)) (sym (problem-grown old mid grows problem posed)) ok)

-- so are lines
pub lines-there : (old mid : List Tree) → Grows old mid → (problem : Posed) → IsPosedIn old problem → (lines given : List TreeLine) → given ≡ lines → IsExpansion (problem_in old problem) (lines_in mid lines) → IsExpansion (problem_in mid problem) (lines_in mid given)
lines-there old mid grows problem posed lines given is ok =
    subst (λ (ls : List TreeLine). IsExpansion (problem_in mid problem) (lines_in mid ls)) (sym is)
    (subst (λ (p : Problem). IsExpansion p (lines_in mid lines)) (sym (problem-grown old mid grows problem posed)) ok)

pub terms-listing : (trees : List Tree) (p : Problem) (w : Writing) (terms : List SkolemTerm) → SkolemOk p terms → (listed_by p (lines_said w.lines.items)).terms ≡ terms →
    All IsCertLine (lines_said w.lines.items) → AreLinesOf p Sat (lines_said w.lines.items) → Lists trees p w.listed (listed_by p (lines_said w.lines.items)) → IsListing trees p Sat w
terms-listing trees p w terms ok is form lawful listed = record {
  form = form;
  lawful = lawful;
  section = subst (SkolemOk p) (sym is) ok;
  listed = listed;
}

pub lines-listing : (trees : List Tree) (p : Problem) (w : Writing) (lines : List ExpansionLine) → IsExpansion p lines → (listed_by p (lines_said w.lines.items)).lines ≡ lines →
    All IsCertLine (lines_said w.lines.items) → AreLinesOf p Unsat (lines_said w.lines.items) → Lists trees p w.listed (listed_by p (lines_said w.lines.items)) → IsListing trees p Unsat w
lines-listing trees p w lines ok is form lawful listed = record {
  form = form;
  lawful = lawful;
  section = subst (IsExpansion p) (sym is) ok;
  listed = listed;
}

-- a meter that is kept counts few lines
pub few-lines : (p : Problem) (es : List Entry) (m after : Metering) (n : ℕ) → OfNewest m (HasCounted p es 0) → after ≡ more_instances n m → IsMetering after → n < 2 ^ 62
few-lines p es m after n h is kept = go m.newest h (subst IsMetering is kept).newest
  where
    go : (o : Option Record) → IsSomeAnd o (λ r. IsSomeAnd r.kept (HasCounted p es 0 r)) → IfSome (option_map (record_with n) o) IsRecord → n < 2 ^ 62
    go None h k = absurd h
    go (Some r) h k =
        let within = k.instances in
        let low = k.limits.instances in
        omega (arith, within, low.1)

-- ---- results

pub when-ok : {A E : Type 0} {P : Type 0} (r : Result A E) → P → OnOk r P
when-ok (Ok x) h = h
when-ok (Err e) h = tt

-- want of memory is no fault that names a quantity
pub memory-fault : {A : Type 0} (r : Result A PlayFault) (m : Metering) → IfErr r (λ fault. fault ≡ NoMemory) → IfErr r (IsFault m)
memory-fault (Ok x) m h = tt
memory-fault (Err fault) m h = subst (IsFault m) (sym h) tt
