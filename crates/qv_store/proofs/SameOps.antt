-- The derived test of two operators holds exactly of the same ones.
use Rattle.std.proofs.Common.{◌≡◌, ℕ, Bool, true, false, inl, inr, List, [], ◌∷◌, refl, ap}
use Rattle.std.specs.Prelude.{◌==◌}
use denote.Struct.Field.{Field}
use denote.Struct.Values.{Values}
use denote.Enum.Declared.{Choice, values_one}
use denote.Enum.Compared.{Each, by}
use Rattle.qv_words.specs.declared.op.Op.{Op}
use Rattle.qv_words.specs.contracts.op.Op.{enum}
use Rattle.qv_words.specs.contracts.op.OpPartialEq.TheImpl as impl
use Rattle.qv_words.proofs.Equals.{eq-from_test}
use Rattle.std.proofs.lemmas.Bool.{and_parts}

-- each test holds of the same values alone
abbrev AreExact : (Fss : List (List Field)) → Each Bool Fss → Type 0
AreExact [] tests = Unit {0}
AreExact (Fs ∷ Fss) tests = ((x y : Values Fs) → tests.0 x y ≡ true → x ≡ y) × AreExact Fss tests.1

choices-same : (Fss : List (List Field)) (tests : Each Bool Fss) → AreExact Fss tests → (c d : Choice Fss) → by false false Fss tests c d ≡ true → c ≡ d
choices-same [] tests exact c d h = absurd c
choices-same (Fs ∷ Fss) tests exact (inl x) (inl y) h = ap inl (exact.0 x y h)
choices-same (Fs ∷ Fss) tests exact (inl x) (inr y) h = absurd (cc)
choices-same (Fs ∷ Fss) tests exact (inr x) (inl y) h = absurd (cc)
choices-same (Fs ∷ Fss) tests exact (inr x) (inr y) h = ap inr (choices-same Fss tests.1 exact.1 x y h)

pair-same : (x y : ℕ × (ℕ × Unit {0})) → x.0 ≡ y.0 → x.1.0 ≡ y.1.0 → x ≡ y
pair-same x y e f = λ i. (e i, (f i, tt))

one-same : (x y : ℕ × Unit {0}) → x.0 ≡ y.0 → x ≡ y
one-same x y e = λ i. (e i, tt)

-- the derived test
abbrev pub test_op : Op → Op → Bool
test_op = (impl.eq-value).it

pub ops-same : (o p : Op) → test_op o p ≡ true → o ≡ p
ops-same o p h = values_one enum o p (choices-same enum.parts _ (λ x y h. refl, (λ x y h. refl, (λ x y h. refl, (λ x y h. refl, (λ x y h. refl, (λ x y h. refl, (λ x y h. refl, (λ x y h. refl, (λ x y h. refl, (λ x y h. refl, (λ x y h. refl, (λ x y h. refl, (λ x y h. refl, (λ x y h. refl, (λ x y h. refl, (λ x y h. refl, (λ x y h. refl, (λ x y h. refl, (λ x y h. refl, (λ x y h. refl, (λ x y h. refl, (λ x y h. refl, (λ x y h. refl, (λ x y h. refl, (λ x y h. refl, (λ x y h. refl, (λ x y h. refl, (λ x y h. refl, (λ x y h. refl, (λ x y h. refl, (λ x y h. refl, (λ x y h. refl, (λ x y h. refl, (λ x y h. refl, (λ x y h. refl, (λ x y h. refl, (λ x y h. let k = and_parts (x.0 == y.0) (x.1.0 == y.1.0) h in pair-same x y (eq-from_test x.0 y.0 k.0) (eq-from_test x.1.0 y.1.0 k.1), (λ x y h. one-same x y (eq-from_test x.0 y.0 h), (λ x y h. one-same x y (eq-from_test x.0 y.0 h), (λ x y h. one-same x y (eq-from_test x.0 y.0 h), (λ x y h. one-same x y (eq-from_test x.0 y.0 h), (λ x y h. one-same x y (eq-from_test x.0 y.0 h), (λ x y h. refl, (λ x y h. refl, (λ x y h. refl, (λ x y h. refl, (λ x y h. refl, (λ x y h. refl, (λ x y h. refl, (λ x y h. refl, tt)))))))))))))))))))))))))))))))))))))))))))))))))) (enum.as_values o) (enum.as_values p) h)
