-- The form of a tree says what the tree means.
use Rattle.std.proofs.Common.{◌≡◌, ℕ, zero, suc, ◌<◌, ◌==◌, Bool as Truth, true, false, not, ◌&&◌, ◌||◌, if◌then◌else◌, Option, Some, None, List, [], ◌∷◌, refl, sym, ap, ◌∙◌, subst, arith}
use Rattle.std.specs.Prelude.{IfSome, IsSomeAnd}
use Rattle.std.specs.List.{AllByRecursion}
use Rattle.qv_words.specs.declared.sort.Sort.{Sort}
use Rattle.qv_words.specs.declared.sort.Sort.TheVariants.{Bool}
use Rattle.qv_words.specs.declared.op.Op.{Op}
use Rattle.qv_words.specs.declared.op.Op.TheVariants.{And, Xor, Implies, Equal, Ite}
use Rattle.qv_words.specs.Tree.{Tree, tree_sort}
use Rattle.qv_words.specs.Sorted.{free_levels}
use Rattle.qv_words.specs.Meaning.{Means}
use Rattle.qv_words.specs.Prenex.{Form, binary, joined, unquantified, alike, unlike, chosen, split, split_at, tree_size, Choice, is_quantified, first_choice, ite, put_for}
use Rattle.qv_words.proofs.Leaves.{both, below, HasValue}
use Rattle.qv_words.proofs.Existing.{HasConstant, some_meaning}
use Rattle.qv_prenex_laws.proofs.Forms.{OuterAt, OuterOk, IsCovered, signed, unquantified-tells, Tells}
use Rattle.qv_prenex_laws.proofs.Fuel.{target_of, shrinks, Shrinks, crossed}
use Rattle.qv_words.specs.Sort.{IsValueOf}
use Rattle.qv_words.specs.Op.{truth, op_value}
use Rattle.qv_words.proofs.Unique.{one_meaning}
use Rattle.qv_words.proofs.Sections.{free-unquantified}
use Rattle.qv_prenex_laws.proofs.Says.{Says, Valued, OfBoth, and-says, or-says, says-more}
use Rattle.qv_prenex_laws.proofs.Splits.{Fit, put-means}
use Rattle.qv_prenex_laws.proofs.Found.{SplitFits, split-fits}

pub nand : (x y v : Truth) → (x && y) ≡ not v → (not x || not y) ≡ v
nand true true true e = cc
nand true true false e = refl
nand true false true e = refl
nand true false false e = cc
nand false true true e = refl
nand false true false e = cc
nand false false true e = refl
nand false false false e = cc

pub nor : (x y v : Truth) → (x || y) ≡ not v → (not x && not y) ≡ v
nor true true true e = cc
nor true true false e = refl
nor true false true e = cc
nor true false false e = refl
nor false true true e = cc
nor false true false e = refl
nor false false true e = refl
nor false false false e = cc

pub not-implied : (x y v : Truth) → (not x || y) ≡ not v → (x && not y) ≡ v
not-implied true true true e = cc
not-implied true true false e = refl
not-implied true false true e = refl
not-implied true false false e = cc
not-implied false true true e = cc
not-implied false true false e = refl
not-implied false false true e = cc
not-implied false false false e = refl

pub not-alike : (x y v : Truth) → ((x && y) || (not x && not y)) ≡ not v → ((x && not y) || (not x && y)) ≡ v
not-alike true true true e = cc
not-alike true true false e = refl
not-alike true false true e = refl
not-alike true false false e = cc
not-alike false true true e = refl
not-alike false true false e = cc
not-alike false false true e = cc
not-alike false false false e = refl

pub not-unlike : (x y v : Truth) → ((x && not y) || (not x && y)) ≡ not v → ((x && y) || (not x && not y)) ≡ v
not-unlike true true true e = refl
not-unlike true true false e = cc
not-unlike true false true e = cc
not-unlike true false false e = refl
not-unlike false true true e = cc
not-unlike false true false e = refl
not-unlike false false true e = refl
not-unlike false false false e = cc

pub choice-signed : (plus z x y v : Truth) → (if z then x else y) ≡ signed plus v → ((z && signed plus x) || (not z && signed plus y)) ≡ v
choice-signed true true true true true e = refl
choice-signed true true true true false e = cc
choice-signed true true true false true e = refl
choice-signed true true true false false e = cc
choice-signed true true false true true e = cc
choice-signed true true false true false e = refl
choice-signed true true false false true e = cc
choice-signed true true false false false e = refl
choice-signed true false true true true e = refl
choice-signed true false true true false e = cc
choice-signed true false true false true e = cc
choice-signed true false true false false e = refl
choice-signed true false false true true e = refl
choice-signed true false false true false e = cc
choice-signed true false false false true e = cc
choice-signed true false false false false e = refl
choice-signed false true true true true e = cc
choice-signed false true true true false e = refl
choice-signed false true true false true e = cc
choice-signed false true true false false e = refl
choice-signed false true false true true e = refl
choice-signed false true false true false e = cc
choice-signed false true false false true e = refl
choice-signed false true false false false e = cc
choice-signed false false true true true e = cc
choice-signed false false true true false e = refl
choice-signed false false true false true e = refl
choice-signed false false true false false e = cc
choice-signed false false false true true e = cc
choice-signed false false false true false e = refl
choice-signed false false false false true e = refl
choice-signed false false false false false e = cc

pub not-not_signed : (plus x v : Truth) → not x ≡ signed plus v → signed (not plus) v ≡ x
not-not_signed true true true e = cc
not-not_signed true true false e = refl
not-not_signed true false true e = refl
not-not_signed true false false e = cc
not-not_signed false true true e = refl
not-not_signed false true false e = cc
not-not_signed false false true e = cc
not-not_signed false false false e = refl

pub implies-means : (c : List ℕ) (e : ℕ → Option ℕ) (a b : Tree) (v w : Truth) → tree_sort a ≡ Some Bool → tree_sort b ≡ Some Bool → Means c e a (truth v) → Means c e b (truth w) →
    (tree_sort (binary Implies a b) ≡ Some Bool) × Means c e (binary Implies a b) (truth (not v || w))
implies-means c e a b v w sa sb ma mb = (rw (sa, sb) refl, (Bool ∷ Bool ∷ [], truth v ∷ truth w ∷ [], rw (sa, sb) refl, (truth v, truth w ∷ [], ma, (truth w, [], mb, refl, refl), refl), by-cases v w))
  where
    by-cases : (v w : Truth) → truth (not v || w) ≡ truth ((truth v == 0) || (truth w == 1))
    by-cases true true = refl
    by-cases true false = refl
    by-cases false true = refl
    by-cases false false = refl

pub xor-means : (c : List ℕ) (e : ℕ → Option ℕ) (a b : Tree) (v w : Truth) → tree_sort a ≡ Some Bool → tree_sort b ≡ Some Bool → Means c e a (truth v) → Means c e b (truth w) →
    (tree_sort (binary Xor a b) ≡ Some Bool) × Means c e (binary Xor a b) (truth ((v && not w) || (not v && w)))
xor-means c e a b v w sa sb ma mb = (rw (sa, sb) refl, (Bool ∷ Bool ∷ [], truth v ∷ truth w ∷ [], rw (sa, sb) refl, (truth v, truth w ∷ [], ma, (truth w, [], mb, refl, refl), refl), by-cases v w))
  where
    by-cases : (v w : Truth) → truth ((v && not w) || (not v && w)) ≡ truth (not (truth v == truth w))
    by-cases true true = refl
    by-cases true false = refl
    by-cases false true = refl
    by-cases false false = refl

pub equal-means : (c : List ℕ) (e : ℕ → Option ℕ) (a b : Tree) (v w : Truth) → tree_sort a ≡ Some Bool → tree_sort b ≡ Some Bool → Means c e a (truth v) → Means c e b (truth w) →
    (tree_sort (binary Equal a b) ≡ Some Bool) × Means c e (binary Equal a b) (truth ((v && w) || (not v && not w)))
equal-means c e a b v w sa sb ma mb = (rw (sa, sb) refl, (Bool ∷ Bool ∷ [], truth v ∷ truth w ∷ [], rw (sa, sb) refl, (truth v, truth w ∷ [], ma, (truth w, [], mb, refl, refl), refl), by-cases v w))
  where
    by-cases : (v w : Truth) → truth ((v && w) || (not v && not w)) ≡ truth (truth v == truth w)
    by-cases true true = refl
    by-cases true false = refl
    by-cases false true = refl
    by-cases false false = refl

-- a truth value that a tree means
pub two-values : (P : ℕ → Type 0) (v : ℕ) → v < 2 → P v → (b : Truth) × P (truth b)
two-values P zero h p = (false, p)
two-values P (suc zero) h p = (true, p)
two-values P (suc (suc v)) h p = absurd (omega (arith, h))

value-at : (g : ℕ → Option ℕ) (levels : ℕ → Option Sort) (leaf : ℕ × Sort) → levels leaf.0 ≡ Some leaf.1 → IfSome (levels leaf.0) (λ s. IsSomeAnd (g leaf.0) (λ u. IsValueOf u s)) → HasValue g leaf
value-at g levels leaf e h = subst (λ (o : Option Sort). IfSome o (λ s. IsSomeAnd (g leaf.0) (λ u. IsValueOf u s))) e h

pub values-at : (g : ℕ → Option ℕ) (levels : ℕ → Option Sort) (leaves : List (ℕ × Sort)) → Valued levels g → AllByRecursion (IsCovered levels) leaves → AllByRecursion (HasValue g) leaves
values-at g levels [] h k = tt
values-at g levels (leaf ∷ leaves) h k = (value-at g levels leaf k.0 (h leaf.0), values-at g levels leaves h k.1)

pub fit-truth : (c : List ℕ) (levels : ℕ → Option Sort) (g : ℕ → Option ℕ) (t : Tree) → Fit c levels t → tree_sort t ≡ Some Bool → Valued levels g → (v : Truth) × Means c g t (truth v)
fit-truth c levels g t h s hg =
    let m = some_meaning t levels c g Bool h.sorted h.constants (values-at g levels (free_levels t) hg h.covered) s in
    two-values (Means c g t) m.0 m.1 m.2

same-truth : (v w : Truth) → truth v ≡ truth w → v ≡ w
same-truth true true e = refl
same-truth true false e = cc
same-truth false true e = cc
same-truth false false e = refl

pub truth-only : (c : List ℕ) (g : ℕ → Option ℕ) (t : Tree) (v w : Truth) → Means c g t (truth v) → Means c g t (truth w) → v ≡ w
truth-only c g t v w m k = same-truth v w (one_meaning t c g (truth v) (truth w) m k)

pub twice : (plus x : Truth) → x ≡ signed plus (signed plus x)
twice true x = refl
twice false true = refl
twice false false = refl

-- what the form of a tree says under a sign
abbrev pub Of : List ℕ → Tree → Truth → (ℕ → Option ℕ) → Truth → Type 0
Of c t plus g v = Means c g t (truth (signed plus v))

pub of-signed : (c : List ℕ) (g : ℕ → Option ℕ) (t : Tree) (plus x : Truth) → Means c g t (truth x) → Of c t plus g (signed plus x)
of-signed c g t plus x m = subst (λ (k : Truth). Means c g t (truth k)) (twice plus x) m

abbrev pub Right : List ℕ → (Truth → Tree → Form) → Tree → Type 0
Right c F t = (plus : Truth) (levels : ℕ → Option Sort) → Fit c levels t → tree_sort t ≡ Some Bool → Says c levels (F plus t) (Of c t plus)

abbrev pub Smaller : List ℕ → (Truth → Tree → Form) → ℕ → Type 0
Smaller c F n = (u : Tree) → tree_size u < n → Right c F u

-- a formula without quantifiers
pub plain-says : (c : List ℕ) (levels : ℕ → Option Sort) (plus : Truth) (t : Tree) → Fit c levels t → tree_sort t ≡ Some Bool → is_quantified t ≡ false → Says c levels (unquantified plus t) (Of c t plus)
plain-says c levels plus t h s q = record {
  some = λ e outer var g ho hv.
      let m = fit-truth c levels g t h s (valued e outer g ho) in
      let k = unquantified-tells c t plus levels g m.0 [] (free-unquantified t q) s h.covered m.1 e outer var ho (λ i j r u hs hu. cc) in
      (k.0, signed plus m.0, k.1);
  closed = λ g v hg m. subst (λ (k : Truth). Tells c (unquantified plus t) levels g k []) (sym (twice plus v)) (unquantified-tells c t plus levels g (signed plus v) [] (free-unquantified t q) s h.covered m);
}
  where
    at : (e : ℕ → Option ℕ) (o : Option Tree) (level : Option Sort) (g : Option ℕ) → OuterAt c e o level g → IfSome level (λ s. IsSomeAnd g (λ u. IsValueOf u s))
    at e o None g k = tt
    at e o (Some s) g (put, u, is, gs, hs, hm, hu) = subst (λ (p : Option ℕ). IsSomeAnd p (λ w. IsValueOf w s)) (sym gs) hu

    valued : (e : ℕ → Option ℕ) (outer : ℕ → Option Tree) (g : ℕ → Option ℕ) → OuterOk c e outer levels g → Valued levels g
    valued e outer g ho l = at e (outer l) (levels l) (g l) (ho l)

-- two formulas
pub two-truths : (c : List ℕ) (levels : ℕ → Option Sort) (g : ℕ → Option ℕ) (o : Op) (both : Truth → Truth → Truth) (a b : Tree) (w : Truth) →
    ((c : List ℕ) (e : ℕ → Option ℕ) (a b : Tree) (v w : Truth) → tree_sort a ≡ Some Bool → tree_sort b ≡ Some Bool → Means c e a (truth v) → Means c e b (truth w) → (tree_sort (binary o a b) ≡ Some Bool) × Means c e (binary o a b) (truth (both v w))) →
    Fit c levels a → tree_sort a ≡ Some Bool → Fit c levels b → tree_sort b ≡ Some Bool → Valued levels g → Means c g (binary o a b) (truth w) →
    (x : Truth) × (y : Truth) × Means c g a (truth x) × Means c g b (truth y) × (both x y ≡ w)
two-truths c levels g o both a b w makes fa sa fb sb hg m =
    let x = fit-truth c levels g a fa sa hg in
    let y = fit-truth c levels g b fb sb hg in
    let k = makes c g a b x.0 y.0 sa sb x.1 y.1 in
    (x.0, y.0, x.1, y.1, truth-only c g (binary o a b) (both x.0 y.0) w k.1 m)

-- four forms in two pairs
abbrev Says4 : ((ℕ → Option ℕ) → Truth → Type 0) → ((ℕ → Option ℕ) → Truth → Type 0) → ((ℕ → Option ℕ) → Truth → Type 0) → ((ℕ → Option ℕ) → Truth → Type 0) → (ℕ → Option ℕ) → Truth → Type 0
Says4 A B C D g v = (x : Truth) × (y : Truth) × (z : Truth) × (w : Truth) × A g x × B g y × C g z × D g w × (((x && y) || (z && w)) ≡ v)

crossed-says : (c : List ℕ) (levels : ℕ → Option Sort) (f1 f2 f3 f4 : Form) (A B C D : (ℕ → Option ℕ) → Truth → Type 0) → Says c levels f1 A → Says c levels f2 B → Says c levels f3 C → Says c levels f4 D →
    Says c levels (crossed f1 f2 f3 f4) (Says4 A B C D)
crossed-says c levels f1 f2 f3 f4 A B C D h1 h2 h3 h4 =
    says-more c levels (crossed f1 f2 f3 f4) (OfBoth (λ x y. x || y) (OfBoth (λ x y. x && y) A B) (OfBoth (λ x y. x && y) C D)) (Says4 A B C D)
    (λ g v hg (x, y, z, w, a, b, k, d, e). (x && y, z && w, (x, y, a, b, refl), (z, w, k, d, refl), e))
    (or-says c levels (joined And f1 f2) (joined And f3 f4) (OfBoth (λ x y. x && y) A B) (OfBoth (λ x y. x && y) C D) (and-says c levels f1 f2 A B h1 h2) (and-says c levels f3 f4 C D h3 h4))

-- a choice between two formulas
pub chosen-says : (c : List ℕ) (levels : ℕ → Option Sort) (F : Truth → Tree → Form) (plus : Truth) (k a b t : Tree) →
    Says c levels (F true k) (Of c k true) → Says c levels (F plus a) (Of c a plus) → Says c levels (F false k) (Of c k false) → Says c levels (F plus b) (Of c b plus) →
    ((g : ℕ → Option ℕ) (v : Truth) → Valued levels g → Of c t plus g v → (z : Truth) × (x : Truth) × (y : Truth) × Means c g k (truth z) × Means c g a (truth x) × Means c g b (truth y) × ((if z then x else y) ≡ signed plus v)) →
    Says c levels (chosen F plus k a b) (Of c t plus)
chosen-says c levels F plus k a b t h1 h2 h3 h4 go =
    says-more c levels (chosen F plus k a b) (Says4 (Of c k true) (Of c a plus) (Of c k false) (Of c b plus)) (Of c t plus)
    (λ g v hg m.
    let r = go g v hg m in
    (r.0, signed plus r.1, not r.0, signed plus r.2, r.3, of-signed c g a plus r.1 r.4, of-signed c g k false r.0 r.3, of-signed c g b plus r.2 r.5, choice-signed plus r.0 r.1 r.2 v r.6))
    (crossed-says c levels (F true k) (F plus a) (F false k) (F plus b) (Of c k true) (Of c a plus) (Of c k false) (Of c b plus) h1 h2 h3 h4)

pub alike-says : (c : List ℕ) (levels : ℕ → Option Sort) (F : Truth → Tree → Form) (a b : Tree) (T : (ℕ → Option ℕ) → Truth → Type 0) → Right c F a → Right c F b → Fit c levels a → tree_sort a ≡ Some Bool → Fit c levels b → tree_sort b ≡ Some Bool →
    ((g : ℕ → Option ℕ) (v : Truth) → Valued levels g → T g v → (x : Truth) × (y : Truth) × Means c g a (truth x) × Means c g b (truth y) × (((x && y) || (not x && not y)) ≡ v)) → Says c levels (alike F a b) T
alike-says c levels F a b T ra rb fa sa fb sb go =
    says-more c levels (alike F a b) (Says4 (Of c a true) (Of c b true) (Of c a false) (Of c b false)) T
    (λ g v hg m. let r = go g v hg m in (r.0, r.1, not r.0, not r.1, r.2, r.3, of-signed c g a false r.0 r.2, of-signed c g b false r.1 r.3, r.4))
    (crossed-says c levels (F true a) (F true b) (F false a) (F false b) (Of c a true) (Of c b true) (Of c a false) (Of c b false) (ra true levels fa sa) (rb true levels fb sb) (ra false levels fa sa) (rb false levels fb sb))

pub unlike-says : (c : List ℕ) (levels : ℕ → Option Sort) (F : Truth → Tree → Form) (a b : Tree) (T : (ℕ → Option ℕ) → Truth → Type 0) → Right c F a → Right c F b → Fit c levels a → tree_sort a ≡ Some Bool → Fit c levels b → tree_sort b ≡ Some Bool →
    ((g : ℕ → Option ℕ) (v : Truth) → Valued levels g → T g v → (x : Truth) × (y : Truth) × Means c g a (truth x) × Means c g b (truth y) × (((x && not y) || (not x && y)) ≡ v)) → Says c levels (unlike F a b) T
unlike-says c levels F a b T ra rb fa sa fb sb go =
    says-more c levels (unlike F a b) (Says4 (Of c a true) (Of c b false) (Of c a false) (Of c b true)) T
    (λ g v hg m. let r = go g v hg m in (r.0, not r.1, not r.0, r.1, r.2, of-signed c g b false r.1 r.3, of-signed c g a false r.0 r.2, r.3, r.4))
    (crossed-says c levels (F true a) (F false b) (F false a) (F true b) (Of c a true) (Of c b false) (Of c a false) (Of c b true) (ra true levels fa sa) (rb false levels fb sb) (ra false levels fa sa) (rb true levels fb sb))

-- what a choice means, on any sort
if-same : (n a b : ℕ) (z : Truth) → n ≡ truth z → (if n == 1 then a else b) ≡ (if z then a else b)
if-same n a b true e = rw e refl
if-same n a b false e = rw e refl

pub ite-parts : (c : List ℕ) (g : ℕ → Option ℕ) (k a b : Tree) (z : Truth) (x : ℕ) → Means c g k (truth z) → Means c g (ite k a b) x → (n : ℕ) × (m : ℕ) × Means c g a n × Means c g b m × (x ≡ (if z then n else m))
ite-parts c g k a b z x mk (ss, vs, hs, (v0, r0, m0, (v1, r1, m1, (v2, r2, m2, n2, e2), e1), e0), ex) =
    let first : v0 ≡ truth z = one_meaning k c g v0 (truth z) m0 mk in
    let all : vs ≡ v0 ∷ v1 ∷ v2 ∷ [] = cc in
    (v1, v2, m1, m2, ex ∙ ap (op_value Ite ss) all ∙ if-same v0 v1 v2 z first)

-- rule 7
pub split-says : (c : List ℕ) (levels : ℕ → Option Sort) (F : Truth → Tree → Form) (plus : Truth) (t : Tree) (d : Choice) → first_choice t ≡ Some d → Smaller c F (tree_size t) → Fit c levels t → tree_sort t ≡ Some Bool →
    Says c levels (split F plus t) (Of c t plus)
split-says c levels F plus t d e below h s = subst (λ (o : Option Choice). Says c levels (split_at F plus t o) (Of c t plus)) (sym e) at-choice
  where
    smaller : Shrinks t d
    smaller = shrinks t d e

    fits : SplitFits (HasConstant c) levels t d
    fits = split-fits (HasConstant c) levels t d e h s

    t1 : Tree
    t1 = put_for (target_of d) d.yes t

    t2 : Tree
    t2 = put_for (target_of d) d.no t

    means : (g : ℕ → Option ℕ) (v : Truth) → Valued levels g → Of c t plus g v → (z : Truth) × (x : Truth) × (y : Truth) × Means c g d.condition (truth z) × Means c g t1 (truth x) × Means c g t2 (truth y) × ((if z then x else y) ≡ signed plus v)
    means g v hg m =
        let z = fit-truth c levels g d.condition fits.condition fits.condition_sort hg in
        let x = fit-truth c levels g t1 fits.yes fits.yes_sort hg in
        let y = fit-truth c levels g t2 fits.no fits.no_sort hg in
        (z.0, x.0, y.0, z.1, x.1, y.1, by-condition z.0 z.1)
      where
        by-condition : (k : Truth) → Means c g d.condition (truth k) → (if k then (fit-truth c levels g t1 fits.yes fits.yes_sort hg).0 else (fit-truth c levels g t2 fits.no fits.no_sort hg).0) ≡ signed plus v
        by-condition true mk =
            truth-only c g t1 (fit-truth c levels g t1 fits.yes fits.yes_sort hg).0 (signed plus v) (fit-truth c levels g t1 fits.yes fits.yes_sort hg).1
            (put-means c g (target_of d) d.yes t fits.same_yes (λ n mn. let p = ite-parts c g d.condition d.yes d.no true n mk mn in subst (Means c g d.yes) (sym p.4) p.2) (truth (signed plus v)) m)
        by-condition false mk =
            truth-only c g t2 (fit-truth c levels g t2 fits.no fits.no_sort hg).0 (signed plus v) (fit-truth c levels g t2 fits.no fits.no_sort hg).1
            (put-means c g (target_of d) d.no t fits.same_no (λ n mn. let p = ite-parts c g d.condition d.yes d.no false n mk mn in subst (Means c g d.no) (sym p.4) p.3) (truth (signed plus v)) m)

    at-choice : Says c levels (split_at F plus t (Some d)) (Of c t plus)
    at-choice =
        chosen-says c levels F plus d.condition t1 t2 t
        (below d.condition smaller.condition true levels fits.condition fits.condition_sort) (below t1 (smaller.putting d.yes (omega arith)) plus levels fits.yes fits.yes_sort)
        (below d.condition smaller.condition false levels fits.condition fits.condition_sort) (below t2 (smaller.putting d.no (omega arith)) plus levels fits.no fits.no_sort) means
