-- What stays of a record.
use Rattle.std.proofs.Common.{◌≡◌, ℕ, Option, Some, None, [], refl, sym, ap, ◌∙◌, subst}
use Rattle.std.specs.Prelude.{IfSome, IsSomeAnd, option_map}
use Rattle.std.proofs.lemmas.Option.{same_Some}
use Rattle.qv_words.specs.Problem.{Problem}
use Rattle.qv_meter.specs.declared.faults.PlayFault.TheVariants.{Spent}
use Rattle.qv_meter.specs.declared.records.SpentKind.{SpentKind}
use Rattle.qv_meter.specs.Charging.{OfNewest}
use Rattle.qv_meter.specs.Records.{AreTallies, IsMetering, IsRecord, IsWorked, Kept, Limits, Metering, Record, IsSpentIn, settled, started, without_problem}
use Rattle.qv_meter.specs.Views.{quantity_of}
use Rattle.qv_game.specs.Counts.{SameButCounts, uncounted}
use Rattle.qv_game.specs.Starting.{IsUncharged}
use Rattle.qv_solve_refute.specs.Refuting.{IsSpentBy, variable_limit}
use Rattle.qv_solve.specs.Solutions.{HasRecord, IsUnknown}
use Rattle.qv_solve.specs.Answering.{KeepsRecords}
use Rattle.qv_solve.proofs.Metered.{CountsInstances}

limits-same : (o : Option Record) → option_map (λ (r : Record). r.limits) (option_map uncounted o) ≡ option_map (λ (r : Record). r.limits) o
limits-same None = refl
limits-same (Some r) = refl

pub counts-keep : (a b : Metering) → SameButCounts a b → KeepsRecords a b
counts-keep a b same = record {
  older = ap (λ (m : Metering). m.older) (sym same);
  limits = sym (limits-same b.newest) ∙ ap (λ (m : Metering). option_map (λ (r : Record). r.limits) m.newest) (sym same) ∙ limits-same a.newest;
}

limits-settled : (o : Option Record) → option_map (λ (r : Record). r.limits) (option_map without_problem o) ≡ option_map (λ (r : Record). r.limits) o
limits-settled None = refl
limits-settled (Some r) = refl

pub settled-limit : (b c : Metering) → c ≡ settled b → variable_limit b ≡ variable_limit c
settled-limit b c is = go b.newest ∙ ap variable_limit (sym is)
  where
    go : (o : Option Record) → variable_limit (record { older = []; newest = o; lane = b.lane }) ≡ variable_limit (record { older = []; newest = option_map without_problem o; lane = b.lane })
    go None = refl
    go (Some r) = refl

pub settled-keeps : (a b c : Metering) → SameButCounts a b → c ≡ settled b → KeepsRecords a c
settled-keeps a b c same is =
    let kept = counts-keep a b same in
    subst (KeepsRecords a) (sym is) (record { older = kept.older; limits = limits-settled b.newest ∙ kept.limits })

pub started-keeps : (p : Problem) (limits : Limits) (before m after : Metering) → m ≡ started p limits before → KeepsRecords m after → HasRecord limits before after
started-keeps p limits before m after is kept = record {
  older = kept.older ∙ ap (λ (x : Metering). x.older) is;
  limited = go after.newest (kept.limits ∙ ap (λ (x : Metering). option_map (λ (r : Record). r.limits) x.newest) is);
}
  where
    go : (o : Option Record) → option_map (λ (r : Record). r.limits) o ≡ Some limits → IsSomeAnd o (λ r. r.limits ≡ limits)
    go None e = absurd cc
    go (Some r) e = same_Some r.limits limits e

-- ---- the newest record

kept-there : (p : Problem) (a b : Metering) → OfNewest a (λ r k. k.problem ≡ p) → SameButCounts a b → OfNewest b (λ r k. k.problem ≡ p)
kept-there p a b h same = outer a.newest b.newest h (ap (λ (m : Metering). m.newest) same)
  where
    inner : (o : Option Kept) (q : Option Kept) → IsSomeAnd o (λ k. k.problem ≡ p) → option_map (λ (k : Kept). k.problem) o ≡ option_map (λ (k : Kept). k.problem) q → IsSomeAnd q (λ k. k.problem ≡ p)
    inner None q k e = absurd k
    inner (Some x) None k e = absurd cc
    inner (Some x) (Some y) k e = sym (same_Some x.problem y.problem e) ∙ k

    bare : (o : Option Kept) → option_map (λ (k : Kept). k.problem) (option_map (λ (k : Kept). record { problem = k.problem; tallies = [] }) o) ≡ option_map (λ (k : Kept). k.problem) o
    bare None = refl
    bare (Some k) = refl

    outer : (o q : Option Record) → IsSomeAnd o (λ r. IsSomeAnd r.kept (λ k. k.problem ≡ p)) → option_map uncounted o ≡ option_map uncounted q → IsSomeAnd q (λ r. IsSomeAnd r.kept (λ k. k.problem ≡ p))
    outer None q k e = absurd k
    outer (Some x) None k e = absurd cc
    outer (Some x) (Some y) k e =
        let both = same_Some (uncounted x) (uncounted y) e in
        inner x.kept y.kept k (sym (bare x.kept) ∙ ap (λ (r : Record). option_map (λ (k : Kept). k.problem) r.kept) both ∙ bare y.kept)

uncharged-problem : (p : Problem) (m : Metering) → IsUncharged p m → OfNewest m (λ r k. k.problem ≡ p)
uncharged-problem p m h = outer m.newest h
  where
    inner : (r : Record) (o : Option Kept) → IsSomeAnd o (λ k. (k.problem ≡ p) × (r.conflicts ≡ 0) × (r.instances ≡ 0)) → IsSomeAnd o (λ k. k.problem ≡ p)
    inner r None k = k
    inner r (Some x) k = k.0

    outer : (o : Option Record) → IsSomeAnd o (λ r. IsSomeAnd r.kept (λ k. (k.problem ≡ p) × (r.conflicts ≡ 0) × (r.instances ≡ 0))) → IsSomeAnd o (λ r. IsSomeAnd r.kept (λ k. k.problem ≡ p))
    outer None k = k
    outer (Some r) k = inner r r.kept k

-- a spent record keeps its problem, and what its counts stand for
pub unknown-kept : (p : Problem) (kind : SpentKind) (a b : Metering) → IsUncharged p a → SameButCounts a b → IsMetering b → IsSpentBy b (Spent kind) → IsUnknown p kind b
unknown-kept p kind a b h same keeps spent = outer b.newest (kept-there p a b (uncharged-problem p a h) same) keeps.newest spent
  where
    inner : (r : Record) (o : Option Kept) → IsSomeAnd o (λ k. k.problem ≡ p) → IfSome o (AreTallies r.conflicts) → IfSome o (IsWorked r) → IsSpentIn (quantity_of kind) r → IsSomeAnd o (λ k. (k.problem ≡ p) × AreTallies r.conflicts k × IsWorked r k × IsSpentIn (quantity_of kind) r)
    inner r None k t w s = absurd k
    inner r (Some x) k t w s = (k, t, w, s)

    outer : (o : Option Record) → IsSomeAnd o (λ r. IsSomeAnd r.kept (λ k. k.problem ≡ p)) → IfSome o IsRecord → IsSomeAnd o (IsSpentIn (quantity_of kind)) → IsSomeAnd o (λ r. IsSomeAnd r.kept (λ k. (k.problem ≡ p) × AreTallies r.conflicts k × IsWorked r k × IsSpentIn (quantity_of kind) r))
    outer None k g s = absurd k
    outer (Some r) k g s = inner r r.kept k g.tallies g.worked s

-- a settled one keeps none
pub settled-none : (p : Problem) (a b c : Metering) → IsUncharged p a → SameButCounts a b → c ≡ settled b → IsSomeAnd c.newest (λ r. r.kept ≡ None)
settled-none p a b c h same is = subst (λ (m : Metering). IsSomeAnd m.newest (λ r. r.kept ≡ None)) (sym is) (go b.newest (kept-there p a b (uncharged-problem p a h) same))
  where
    go : (o : Option Record) → IsSomeAnd o (λ r. IsSomeAnd r.kept (λ k. k.problem ≡ p)) → IsSomeAnd (option_map without_problem o) (λ r. r.kept ≡ None)
    go None k = k
    go (Some r) k = refl

pub settled-instances : (b c : Metering) (n : ℕ) → c ≡ settled b → CountsInstances b n → CountsInstances c n
settled-instances b c n is h = subst (λ (m : Metering). CountsInstances m n) (sym is) (go b.newest h)
  where
    go : (o : Option Record) → IsSomeAnd o (λ r. r.instances ≡ n) → IsSomeAnd (option_map without_problem o) (λ r. r.instances ≡ n)
    go None k = k
    go (Some r) k = k
