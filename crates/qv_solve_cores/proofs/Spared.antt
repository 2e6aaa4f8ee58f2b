-- Of a core no formula can be spared, where no trial was cut short.
use Rattle.std.proofs.Common.{◌≡◌, ℕ, ◌==◌, nat_lt, Bool, true, false, cond, not, ◌||◌, inl, inr, List, [], ◌∷◌, ◌++◌, filter, refl, sym, ◌∙◌, ap, subst, true≢false}
use Rattle.std.specs.Prelude.{IsTrue}
use Rattle.std.specs.List.{AllByRecursion}
use Rattle.std.proofs.lemmas.Bool.{eqb-true}
use Rattle.std.proofs.lemmas.List.Folds.{list_any-append}
use Rattle.std.proofs.lemmas.List.Elements.{recursion_from_All}
use Rattle.qv_words.specs.Tree.{Tree}
use Rattle.qv_words.specs.Truth.{AreTrue}
use Rattle.qv_core.specs.Without.{is_among, dropped, trial_list, tried}
use Rattle.qv_meter.specs.Records.{IsSpent, Limits, Record}
use Rattle.qv_solve_cores.specs.Cores.{AreRecordsOfTrials, IsRecordOfTrial, IsUnspared}
use Rattle.qv_solve_cores.specs.CoreLaws.{NoneCanBeSpared}
use Rattle.qv_solve_cores.proofs.Fewer.{fewer-true}

-- ---- membership

carry : (k a b : Bool) → (a ≡ true → b ≡ true) → (k || a) ≡ true → (k || b) ≡ true
carry true a b h e = refl
carry false a b h e = h e

later : (k a : Bool) → a ≡ true → (k || a) ≡ true
later true a e = refl
later false a e = e

all-at : (P : ℕ → Type 0) (ns : List ℕ) (n : ℕ) → AllByRecursion P ns → is_among ns n ≡ true → P n
all-at P [] n h e = absurd (true≢false (sym e))
all-at P (m ∷ ns) n h e = first (m == n) refl e (all-at P ns n h.1)
  where
    first : (b : Bool) → (m == n) ≡ b → (b || is_among ns n) ≡ true → (is_among ns n ≡ true → P n) → P n
    first true same e rest = subst P (eqb-true m n same) h.0
    first false same e rest = rest e

filter-among : (p : ℕ → Bool) (ns : List ℕ) (n : ℕ) → is_among ns n ≡ true → p n ≡ true → is_among (filter p ns) n ≡ true
filter-among p [] n e h = e
filter-among p (m ∷ ns) n e h = first (p m) (m == n) refl refl e (λ k. filter-among p ns n k h)
  where
    first : (b k : Bool) → p m ≡ b → (m == n) ≡ k → (k || is_among ns n) ≡ true → (is_among ns n ≡ true → is_among (filter p ns) n ≡ true) → is_among (cond b (m ∷ filter p ns) (filter p ns)) n ≡ true
    first true true pm same e rest = rw same refl
    first true false pm same e rest = rw same (rest e)
    first false true pm same e rest = let no : false ≡ true = sym pm ∙ ap p (eqb-true m n same) ∙ h in absurd (true≢false (sym no))
    first false false pm same e rest = rest e

among-filter : (p : ℕ → Bool) (ns : List ℕ) (n : ℕ) → is_among (filter p ns) n ≡ true → is_among ns n ≡ true
among-filter p [] n e = e
among-filter p (m ∷ ns) n e = first (p m) false e (among-filter p ns n)
  where
    first : (b k : Bool) → is_among (cond b (m ∷ filter p ns) (filter p ns)) n ≡ true → (is_among (filter p ns) n ≡ true → is_among ns n ≡ true) → ((m == n) || is_among ns n) ≡ true
    first true k e rest = carry (m == n) (is_among (filter p ns) n) (is_among ns n) rest e
    first false k e rest = later (m == n) (is_among ns n) (rest e)

-- ---- the record of a trial

record-of : (limits : Limits) (fs : List Tree) (together named kept places : List ℕ) (rs : List Record) (y : ℕ) → AreRecordsOfTrials limits fs together named kept places rs → AllByRecursion (λ (r : Record). IsSpent r → ⊥) rs → is_among places y ≡ true →
    (r : Record) × IsRecordOfTrial limits fs together named kept y r × (IsSpent r → ⊥)
record-of limits fs together named kept [] [] y h u e = absurd (true≢false (sym e))
record-of limits fs together named kept [] (r ∷ rs) y h u e = absurd h
record-of limits fs together named kept (x ∷ places) [] y h u e = absurd h
record-of limits fs together named kept (x ∷ places) (r ∷ rs) y h u e = first (x == y) refl e (record-of limits fs together named kept places rs y h.1 u.1)
  where
    first : (b : Bool) → (x == y) ≡ b → (b || is_among places y) ≡ true → (is_among places y ≡ true → (s : Record) × IsRecordOfTrial limits fs together named kept y s × (IsSpent s → ⊥)) →
        (s : Record) × IsRecordOfTrial limits fs together named kept y s × (IsSpent s → ⊥)
    first true same e rest = (r, subst (λ z. IsRecordOfTrial limits fs together named kept z r) (eqb-true x y same) h.0, u.0)
    first false same e rest = rest e

all-behind : (a b : List Record) → AllByRecursion (λ (r : Record). IsSpent r → ⊥) (a ++ b) → AllByRecursion (λ (r : Record). IsSpent r → ⊥) b
all-behind [] b h = h
all-behind (r ∷ a) b h = all-behind a b h.1

pub none-spared : NoneCanBeSpared
none-spared limits fs named kept records place core unspent there = fewer-true (place ∷ core.together ++ earlier) (place ∷ dropped named kept) fs sub (holds (own.1.unspared there))
  where
    earlier : List ℕ
    earlier = filter (λ n. nat_lt n place) (dropped named kept)

    in_named : is_among named place ≡ true
    in_named = all-at (λ n. IsTrue (is_among named n)) kept place (recursion_from_All (λ n. IsTrue (is_among named n)) kept core.some.among) there

    apart : is_among core.together place ≡ true → ⊥
    apart = all-at (λ n. IsTrue (is_among core.together n) → ⊥) kept place (recursion_from_All (λ n. IsTrue (is_among core.together n) → ⊥) kept core.apart) there

    untrue : (b : Bool) → (b ≡ true → ⊥) → not b ≡ true
    untrue true h = absurd (h refl)
    untrue false h = refl

    own : (r : Record) × IsRecordOfTrial limits fs core.together named kept place r × (IsSpent r → ⊥)
    own = record-of limits fs core.together named kept (tried core.together named) core.trials place core.tried_each
        (all-behind core.first core.trials (subst (λ (rs : List Record). AllByRecursion (λ (r : Record). IsSpent r → ⊥) rs) core.records_are (recursion_from_All (λ (r : Record). IsSpent r → ⊥) records unspent)))
        (filter-among (λ n. not (is_among core.together n)) named place in_named (untrue (is_among core.together place) apart))

    holds : IsUnspared (trial_list core.together named kept place fs) own.0 → AreTrue (trial_list core.together named kept place fs)
    holds (inl h) = h
    holds (inr h) = absurd (own.2 h.1)

    among-left : (n : ℕ) → is_among core.together n ≡ true → is_among (dropped named kept) n ≡ true
    among-left n h = filter-among (λ m. not (is_among kept m)) named n
        (all-at (λ m. IsTrue (is_among named m)) core.together n (recursion_from_All (λ m. IsTrue (is_among named m)) core.together core.left_out.some.among) h)
        (untrue (is_among kept n) (λ k. all-at (λ m. IsTrue (is_among core.together m) → ⊥) kept n (recursion_from_All (λ m. IsTrue (is_among core.together m) → ⊥) kept core.apart) k h))

    either : (n : ℕ) (a b : Bool) → is_among core.together n ≡ a → is_among earlier n ≡ b → (a || b) ≡ true → is_among (dropped named kept) n ≡ true
    either n true b e f h = among-left n e
    either n false true e f h = among-filter (λ m. nat_lt m place) (dropped named kept) n f
    either n false false e f h = absurd (true≢false (sym h))

    sub : (n : ℕ) → IsTrue (is_among (place ∷ core.together ++ earlier) n) → IsTrue (is_among (place ∷ dropped named kept) n)
    sub n h = first (place == n) h
      where
        first : (b : Bool) → (b || is_among (core.together ++ earlier) n) ≡ true → (b || is_among (dropped named kept) n) ≡ true
        first true e = refl
        first false e = either n (is_among core.together n) (is_among earlier n) refl refl (sym (list_any-append (λ m. m == n) core.together earlier) ∙ e)
