-- The form of each sorted tree says what the tree means.
use Rattle.std.proofs.Common.{◌≡◌, ℕ, zero, suc, ◌+◌, ◌≤◌, inl, inr, Bool as Truth, true, false, not, ◌&&◌, ◌||◌, if◌then◌else◌, Option, Some, List, [], ◌∷◌, refl, sym, ap, ◌∙◌, subst, arith}
use Rattle.std.specs.Prelude.{IfSome}
use Rattle.std.specs.List.{AllByRecursion}
use Rattle.qv_words.specs.declared.sort.Sort.{Sort}
use Rattle.qv_words.specs.declared.sort.Sort.TheVariants.{Bool, Bits}
use Rattle.qv_words.specs.declared.op.Op.{Op}
use Rattle.qv_words.specs.declared.op.Op.TheVariants.{Not, And, Or, Xor, Implies, Equal, Ite}
use Rattle.qv_words.specs.Rank.{two_bools, two_alike, result_sort}
use Rattle.qv_words.specs.Tree.{Tree, Trees, Constant, Variable, Literal, Apply, ForAll, Exists, Nil, Cons, tree_sort, tree_sorts}
use Rattle.qv_words.specs.Sorted.{IsSortedBelow, free_levels, constants_of, with_level, but_level}
use Rattle.qv_words.specs.Meaning.{Means}
use Rattle.qv_words.specs.Prenex.{Form, with_existential, with_universal, negation, binary, joined, unquantified, alike, unlike, form_of_application, form_of_quantified, form_within, tree_size, trees_size, is_quantified, is_some_quantified, ite}
use Rattle.qv_words.proofs.Leaves.{both, below, at_level, past_level, HasSortOf, bound_sorts}
use Rattle.qv_words.proofs.Existing.{HasConstant}
use Rattle.qv_words.proofs.Ranks.{rank_parts}
use Rattle.qv_words.proofs.InSort.{choice-parts, one_bool-parts, two_bools-parts, two_alike-parts}
use Rattle.qv_prenex_laws.proofs.Forms.{IsCovered, signed, not-means, and-means, or-means}
use Rattle.qv_prenex_laws.proofs.Fuel.{some-size}
use Rattle.qv_words.specs.Op.{truth}
use Rattle.qv_words.proofs.Unique.{one_meaning}
use Rattle.qv_words.specs.Problem.{Existential, Universal}
use Rattle.qv_prenex_laws.proofs.Closing.{wants, Picks}
use Rattle.qv_prenex_laws.proofs.Says.{Says, OfBoth, and-says, or-says, says-more, existential-says, universal-says}
use Rattle.qv_prenex_laws.proofs.Splits.{Fit, FitIn, fit-args, fit-first, fit-rest, AllBits, is_core}
use Rattle.qv_prenex_laws.proofs.Found.{by-core, all-there, one-sort, two-sorts, three-sorts, mapped}
use Rattle.qv_prenex_laws.proofs.SplitRule.{nand, nor, not-implied, not-alike, not-unlike, not-not_signed, implies-means, xor-means, equal-means, fit-truth, truth-only, of-signed, Of, Right, Smaller, plain-says, two-truths, chosen-says, alike-says, unlike-says, ite-parts, split-says}

abbrev pub Two : (ℕ × Sort → Type 0) → (ℕ → Option Sort) → Tree → Tree → Type 0
Two W levels a b = FitIn W levels a × (tree_sort a ≡ Some Bool) × FitIn W levels b × (tree_sort b ≡ Some Bool)

pub two-fit : (W : ℕ × Sort → Type 0) (levels : ℕ → Option Sort) (o : Op) (a b : Tree) (r s : Sort) (ss : List Sort) → FitIn W levels (binary o a b) → tree_sorts (Cons a (Cons b Nil)) ≡ Some ss → ss ≡ r ∷ s ∷ [] →
    FitIn W levels a × (tree_sort a ≡ Some r) × FitIn W levels b × (tree_sort b ≡ Some s)
two-fit W levels o a b r s ss h e k =
    let all = fit-args o (Cons a (Cons b Nil)) h in
    let sorts = two-sorts a b r s ss e k in
    (fit-first a (Cons b Nil) all, sorts.0, fit-first b Nil (fit-rest a (Cons b Nil) all), sorts.1)

pub bools-fit : (W : ℕ × Sort → Type 0) (levels : ℕ → Option Sort) (o : Op) (a b : Tree) → ((ss : List Sort) → result_sort o ss ≡ two_bools ss) → FitIn W levels (binary o a b) → tree_sort (binary o a b) ≡ Some Bool → Two W levels a b
bools-fit W levels o a b two h s =
    let p = rank_parts o (Cons a (Cons b Nil)) Bool s in
    two-fit W levels o a b Bool Bool p.0 h p.1 (two_bools-parts p.0 Bool (sym (two p.0) ∙ p.2)).0

abbrev Goes : List ℕ → (ℕ → Option Sort) → (Truth → Tree → Form) → Truth → Op → Trees → Type 0
Goes c levels F plus o args = Says c levels (form_of_application F plus o args) (Of c (Apply o args) plus)

and-right : (c : List ℕ) (levels : ℕ → Option Sort) (F : Truth → Tree → Form) (plus : Truth) (a b : Tree) → Right c F a → Right c F b → Two (HasConstant c) levels a b → Goes c levels F plus And (Cons a (Cons b Nil))
and-right c levels F true a b ra rb (fa, sa, fb, sb) =
    says-more c levels (joined And (F true a) (F true b)) (OfBoth (λ x y. x && y) (Of c a true) (Of c b true)) (Of c (binary And a b) true)
    (λ g v hg m. two-truths c levels g And (λ x y. x && y) a b v and-means fa sa fb sb hg m)
    (and-says c levels (F true a) (F true b) (Of c a true) (Of c b true) (ra true levels fa sa) (rb true levels fb sb))
and-right c levels F false a b ra rb (fa, sa, fb, sb) =
    says-more c levels (joined Or (F false a) (F false b)) (OfBoth (λ x y. x || y) (Of c a false) (Of c b false)) (Of c (binary And a b) false)
    (λ g v hg m.
    let r = two-truths c levels g And (λ x y. x && y) a b (not v) and-means fa sa fb sb hg m in
    (not r.0, not r.1, of-signed c g a false r.0 r.2, of-signed c g b false r.1 r.3, nand r.0 r.1 v r.4))
    (or-says c levels (F false a) (F false b) (Of c a false) (Of c b false) (ra false levels fa sa) (rb false levels fb sb))

or-right : (c : List ℕ) (levels : ℕ → Option Sort) (F : Truth → Tree → Form) (plus : Truth) (a b : Tree) → Right c F a → Right c F b → Two (HasConstant c) levels a b → Goes c levels F plus Or (Cons a (Cons b Nil))
or-right c levels F true a b ra rb (fa, sa, fb, sb) =
    says-more c levels (joined Or (F true a) (F true b)) (OfBoth (λ x y. x || y) (Of c a true) (Of c b true)) (Of c (binary Or a b) true)
    (λ g v hg m. two-truths c levels g Or (λ x y. x || y) a b v or-means fa sa fb sb hg m)
    (or-says c levels (F true a) (F true b) (Of c a true) (Of c b true) (ra true levels fa sa) (rb true levels fb sb))
or-right c levels F false a b ra rb (fa, sa, fb, sb) =
    says-more c levels (joined And (F false a) (F false b)) (OfBoth (λ x y. x && y) (Of c a false) (Of c b false)) (Of c (binary Or a b) false)
    (λ g v hg m.
    let r = two-truths c levels g Or (λ x y. x || y) a b (not v) or-means fa sa fb sb hg m in
    (not r.0, not r.1, of-signed c g a false r.0 r.2, of-signed c g b false r.1 r.3, nor r.0 r.1 v r.4))
    (and-says c levels (F false a) (F false b) (Of c a false) (Of c b false) (ra false levels fa sa) (rb false levels fb sb))

pub negation-fit : (W : ℕ × Sort → Type 0) (levels : ℕ → Option Sort) (a : Tree) → FitIn W levels a → tree_sort a ≡ Some Bool → FitIn W levels (negation a) × (tree_sort (negation a) ≡ Some Bool)
negation-fit W levels a fa sa =
    let s : tree_sort (negation a) ≡ Some Bool = rw sa refl in
    (record { sorted = ((fa.sorted, tt), rw sa refl); covered = both (IsCovered levels) (free_levels a) [] fa.covered tt; constants = both W (constants_of a) [] fa.constants tt }, s)

implies-right : (c : List ℕ) (levels : ℕ → Option Sort) (F : Truth → Tree → Form) (plus : Truth) (a b : Tree) → Right c F (negation a) → Right c F b → Two (HasConstant c) levels a b → Goes c levels F plus Implies (Cons a (Cons b Nil))
implies-right c levels F true a b ra rb (fa, sa, fb, sb) =
    says-more c levels (joined Or (F true (negation a)) (F true b)) (OfBoth (λ x y. x || y) (Of c (negation a) true) (Of c b true)) (Of c (binary Implies a b) true)
    (λ g v hg m.
    let r = two-truths c levels g Implies (λ x y. not x || y) a b v implies-means fa sa fb sb hg m in
    (not r.0, r.1, (not-means c g a r.0 sa r.2).1, r.3, r.4))
    (let n = negation-fit (HasConstant c) levels a fa sa in or-says c levels (F true (negation a)) (F true b) (Of c (negation a) true) (Of c b true) (ra true levels n.0 n.1) (rb true levels fb sb))
implies-right c levels F false a b ra rb (fa, sa, fb, sb) =
    says-more c levels (joined And (F false (negation a)) (F false b)) (OfBoth (λ x y. x && y) (Of c (negation a) false) (Of c b false)) (Of c (binary Implies a b) false)
    (λ g v hg m.
    let r = two-truths c levels g Implies (λ x y. not x || y) a b (not v) implies-means fa sa fb sb hg m in
    (r.0, not r.1, (not-means c g a r.0 sa r.2).1, of-signed c g b false r.1 r.3, not-implied r.0 r.1 v r.4))
    (let n = negation-fit (HasConstant c) levels a fa sa in and-says c levels (F false (negation a)) (F false b) (Of c (negation a) false) (Of c b false) (ra false levels n.0 n.1) (rb false levels fb sb))

xor-right : (c : List ℕ) (levels : ℕ → Option Sort) (F : Truth → Tree → Form) (plus : Truth) (a b : Tree) → Right c F a → Right c F b → Two (HasConstant c) levels a b → Goes c levels F plus Xor (Cons a (Cons b Nil))
xor-right c levels F true a b ra rb (fa, sa, fb, sb) =
    unlike-says c levels F a b (Of c (binary Xor a b) true) ra rb fa sa fb sb (λ g v hg m. two-truths c levels g Xor (λ x y. (x && not y) || (not x && y)) a b v xor-means fa sa fb sb hg m)
xor-right c levels F false a b ra rb (fa, sa, fb, sb) =
    alike-says c levels F a b (Of c (binary Xor a b) false) ra rb fa sa fb sb (λ g v hg m.
    let r = two-truths c levels g Xor (λ x y. (x && not y) || (not x && y)) a b (not v) xor-means fa sa fb sb hg m in
    (r.0, r.1, r.2, r.3, not-unlike r.0 r.1 v r.4))

bool-equal-right : (c : List ℕ) (levels : ℕ → Option Sort) (F : Truth → Tree → Form) (plus : Truth) (a b : Tree) → Right c F a → Right c F b → Two (HasConstant c) levels a b →
    Says c levels (if plus then alike F a b else unlike F a b) (Of c (binary Equal a b) plus)
bool-equal-right c levels F true a b ra rb (fa, sa, fb, sb) =
    alike-says c levels F a b (Of c (binary Equal a b) true) ra rb fa sa fb sb (λ g v hg m. two-truths c levels g Equal (λ x y. (x && y) || (not x && not y)) a b v equal-means fa sa fb sb hg m)
bool-equal-right c levels F false a b ra rb (fa, sa, fb, sb) =
    unlike-says c levels F a b (Of c (binary Equal a b) false) ra rb fa sa fb sb (λ g v hg m.
    let r = two-truths c levels g Equal (λ x y. (x && y) || (not x && not y)) a b (not v) equal-means fa sa fb sb hg m in
    (r.0, r.1, r.2, r.3, not-alike r.0 r.1 v r.4))

equal-right : (c : List ℕ) (levels : ℕ → Option Sort) (F : Truth → Tree → Form) (plus : Truth) (a b : Tree) (r : Sort) (ss : List Sort) → Smaller c F (tree_size (binary Equal a b)) → Fit c levels (binary Equal a b) → tree_sort (binary Equal a b) ≡ Some Bool →
    is_some_quantified (Cons a (Cons b Nil)) ≡ true → tree_sorts (Cons a (Cons b Nil)) ≡ Some ss → ss ≡ r ∷ r ∷ [] → Goes c levels F plus Equal (Cons a (Cons b Nil))
equal-right c levels F plus a b Bool ss below h s q e k =
    let t = two-fit (HasConstant c) levels Equal a b Bool Bool ss h e k in
    let la = some-size a in let lb = some-size b in
    rw t.1 (bool-equal-right c levels F plus a b (below a (omega (arith, lb))) (below b (omega (arith, la))) t)
equal-right c levels F plus a b (Bits w) ss below h s q e k =
    let t = two-fit (HasConstant c) levels Equal a b (Bits w) (Bits w) ss h e k in
    let bits : AllBits ss = subst AllBits (sym k) tt in
    let d = all-there (Cons a (Cons b Nil)) ss e bits q in
    rw t.1 (split-says c levels F plus (binary Equal a b) d.0 d.1 below h s)

ite-right : (c : List ℕ) (levels : ℕ → Option Sort) (F : Truth → Tree → Form) (plus : Truth) (k a b : Tree) → Smaller c F (tree_size (ite k a b)) → Fit c levels (ite k a b) → tree_sort (ite k a b) ≡ Some Bool → Goes c levels F plus Ite (Cons k (Cons a (Cons b Nil)))
ite-right c levels F plus k a b below h s =
    let p = rank_parts Ite (Cons k (Cons a (Cons b Nil))) Bool s in
    let sorts = three-sorts k a b Bool Bool Bool p.0 p.1 (choice-parts p.0 Bool p.2) in
    let all = fit-args Ite (Cons k (Cons a (Cons b Nil))) h in
    let rest = fit-rest k (Cons a (Cons b Nil)) all in
    let fk = fit-first k (Cons a (Cons b Nil)) all in
    let fa = fit-first a (Cons b Nil) rest in
    let fb = fit-first b Nil (fit-rest a (Cons b Nil) rest) in
    let lk = some-size k in let la = some-size a in let lb = some-size b in
    let rk = below k (omega (arith, la, lb)) in
    let ra = below a (omega (arith, lk, lb)) in
    let rb = below b (omega (arith, lk, la)) in
    rw sorts.1 (chosen-says c levels F plus k a b (ite k a b) (rk true levels fk sorts.0) (ra plus levels fa sorts.1) (rk false levels fk sorts.0) (rb plus levels fb sorts.2)
    (λ g v hg m.
    let z = fit-truth c levels g k fk sorts.0 hg in
    let x = fit-truth c levels g a fa sorts.1 hg in
    let y = fit-truth c levels g b fb sorts.2 hg in
    let i = ite-parts c g k a b z.0 (truth (signed plus v)) z.1 m in
    (z.0, x.0, y.0, z.1, x.1, y.1, picked z.0 x.0 y.0 (signed plus v) i.0 i.1 (one_meaning a c g i.0 (truth x.0) i.2 x.1) (one_meaning b c g i.1 (truth y.0) i.3 y.1) i.4)))
  where
    pick-same : (v w : Truth) → truth v ≡ truth w → w ≡ v
    pick-same true true e = refl
    pick-same true false e = cc
    pick-same false true e = cc
    pick-same false false e = refl

    picked : (z x y v : Truth) (n m : ℕ) → n ≡ truth x → m ≡ truth y → truth v ≡ (if z then n else m) → (if z then x else y) ≡ v
    picked true x y v n m en em e = pick-same v x (e ∙ en)
    picked false x y v n m en em e = pick-same v y (e ∙ em)

application-right : (c : List ℕ) (levels : ℕ → Option Sort) (F : Truth → Tree → Form) (plus : Truth) (o : Op) (args : Trees) → Smaller c F (1 + trees_size args) → Fit c levels (Apply o args) → tree_sort (Apply o args) ≡ Some Bool → is_some_quantified args ≡ true →
    Goes c levels F plus o args
application-right c levels F plus Not (Cons a Nil) below h s q =
    let p = rank_parts Not (Cons a Nil) Bool s in
    let sa = one-sort a Bool p.0 p.1 (one_bool-parts p.0 Bool p.2).0 in
    let fa = fit-first a Nil (fit-args Not (Cons a Nil) h) in
    says-more c levels (F (not plus) a) (Of c a (not plus)) (Of c (negation a) plus)
    (λ g v hg m.
    let x = fit-truth c levels g a fa sa hg in
    let e = truth-only c g (negation a) (not x.0) (signed plus v) (not-means c g a x.0 sa x.1).1 m in
    subst (λ (k : Truth). Means c g a (truth k)) (sym (not-not_signed plus x.0 v e)) x.1)
    (below a (omega arith) (not plus) levels fa sa)
application-right c levels F plus And (Cons a (Cons b Nil)) below h s q =
    let la = some-size a in let lb = some-size b in
    and-right c levels F plus a b (below a (omega (arith, lb))) (below b (omega (arith, la))) (bools-fit (HasConstant c) levels And a b (λ ss. refl) h s)
application-right c levels F plus Or (Cons a (Cons b Nil)) below h s q =
    let la = some-size a in let lb = some-size b in
    or-right c levels F plus a b (below a (omega (arith, lb))) (below b (omega (arith, la))) (bools-fit (HasConstant c) levels Or a b (λ ss. refl) h s)
application-right c levels F plus Implies (Cons a (Cons b Nil)) below h s q =
    let la = some-size a in let lb = some-size b in
    implies-right c levels F plus a b (below (negation a) (omega (arith, lb))) (below b (omega (arith, la))) (bools-fit (HasConstant c) levels Implies a b (λ ss. refl) h s)
application-right c levels F plus Xor (Cons a (Cons b Nil)) below h s q =
    let la = some-size a in let lb = some-size b in
    xor-right c levels F plus a b (below a (omega (arith, lb))) (below b (omega (arith, la))) (bools-fit (HasConstant c) levels Xor a b (λ ss. refl) h s)
application-right c levels F plus Equal (Cons a (Cons b Nil)) below h s q =
    let p = rank_parts Equal (Cons a (Cons b Nil)) Bool s in
    let m = mapped (two_alike p.0) Bool p.2 in
    equal-right c levels F plus a b m.0 p.0 below h s q p.1 (two_alike-parts p.0 m.0 m.1)
application-right c levels F plus Ite (Cons k (Cons a (Cons b Nil))) below h s q = ite-right c levels F plus k a b below h s
application-right c levels F plus o args below h s q =
    let d = by-core o args Bool (is_core o) refl refl s (λ ss e bits. all-there args ss e bits q) in
    split-says c levels F plus (Apply o args) d.0 d.1 below h s

-- quantifiers
pub body-covered : (levels : ℕ → Option Sort) (l : ℕ) (s : Sort) (body : Tree) → IsSortedBelow (with_level levels l s) body → AllByRecursion (IsCovered levels) (but_level l (free_levels body)) → AllByRecursion (IsCovered (with_level levels l s)) (free_levels body)
body-covered levels l s body sorted h =
    below (IsCovered levels) (IsCovered (with_level levels l s)) (HasSortOf (with_level levels l s)) l (free_levels body)
    (λ p has k.
    let same : p.1 ≡ s = subst (λ (o : Option Sort). IfSome o (λ bound. p.1 ≡ bound)) (at_level levels l s p.0 k) has in
    at_level levels l s p.0 k ∙ ap Some (sym same))
    (λ p has k there. past_level levels l s p.0 k ∙ there)
    (bound_sorts body (with_level levels l s) sorted) h

all-picks : (c : List ℕ) (g : ℕ → Option ℕ) (l : ℕ) (s : Sort) (body : Tree) (v : Truth) → Means c g (ForAll l s body) (truth v) → Picks (wants Universal v) s (λ u. Means c (with_level g l u) body (truth v))
all-picks c g l s body true (inl h) = h.1
all-picks c g l s body true (inr h) = cc
all-picks c g l s body false (inl h) = cc
all-picks c g l s body false (inr h) = h.1

some-picks : (c : List ℕ) (g : ℕ → Option ℕ) (l : ℕ) (s : Sort) (body : Tree) (v : Truth) → Means c g (Exists l s body) (truth v) → Picks (wants Existential v) s (λ u. Means c (with_level g l u) body (truth v))
some-picks c g l s body true (inl h) = h.1
some-picks c g l s body true (inr h) = cc
some-picks c g l s body false (inl h) = cc
some-picks c g l s body false (inr h) = h.1

all-turned : (c : List ℕ) (g : ℕ → Option ℕ) (l : ℕ) (s : Sort) (body : Tree) (v : Truth) → Means c g (ForAll l s body) (truth (not v)) → Picks (wants Existential v) s (λ u. Means c (with_level g l u) body (truth (not v)))
all-turned c g l s body true m = all-picks c g l s body false m
all-turned c g l s body false m = all-picks c g l s body true m

some-turned : (c : List ℕ) (g : ℕ → Option ℕ) (l : ℕ) (s : Sort) (body : Tree) (v : Truth) → Means c g (Exists l s body) (truth (not v)) → Picks (wants Universal v) s (λ u. Means c (with_level g l u) body (truth (not v)))
some-turned c g l s body true m = some-picks c g l s body false m
some-turned c g l s body false m = some-picks c g l s body true m

quantified-right : (c : List ℕ) (levels : ℕ → Option Sort) (F : Truth → Tree → Form) (plus : Truth) (t : Tree) → Smaller c F (tree_size t) → Fit c levels t → tree_sort t ≡ Some Bool → is_quantified t ≡ true → Says c levels (form_of_quantified F plus t) (Of c t plus)
quantified-right c levels F true (ForAll l s body) smaller h st q =
    says-more c levels (with_universal l s (F true body)) (λ g v. Picks (wants Universal v) s (λ u. Of c body true (with_level g l u) v)) (Of c (ForAll l s body) true)
    (λ g v hg m. all-picks c g l s body v m)
    (universal-says c levels l s (F true body) (Of c body true) (smaller body (omega arith) true (with_level levels l s) (record { sorted = h.sorted.1; covered = body-covered levels l s body h.sorted.1 h.covered; constants = h.constants }) h.sorted.2))
quantified-right c levels F false (ForAll l s body) smaller h st q =
    says-more c levels (with_existential l s (F false body)) (λ g v. Picks (wants Existential v) s (λ u. Of c body false (with_level g l u) v)) (Of c (ForAll l s body) false)
    (λ g v hg m. all-turned c g l s body v m)
    (existential-says c levels l s (F false body) (Of c body false) (smaller body (omega arith) false (with_level levels l s) (record { sorted = h.sorted.1; covered = body-covered levels l s body h.sorted.1 h.covered; constants = h.constants }) h.sorted.2))
quantified-right c levels F true (Exists l s body) smaller h st q =
    says-more c levels (with_existential l s (F true body)) (λ g v. Picks (wants Existential v) s (λ u. Of c body true (with_level g l u) v)) (Of c (Exists l s body) true)
    (λ g v hg m. some-picks c g l s body v m)
    (existential-says c levels l s (F true body) (Of c body true) (smaller body (omega arith) true (with_level levels l s) (record { sorted = h.sorted.1; covered = body-covered levels l s body h.sorted.1 h.covered; constants = h.constants }) h.sorted.2))
quantified-right c levels F false (Exists l s body) smaller h st q =
    says-more c levels (with_universal l s (F false body)) (λ g v. Picks (wants Universal v) s (λ u. Of c body false (with_level g l u) v)) (Of c (Exists l s body) false)
    (λ g v hg m. some-turned c g l s body v m)
    (universal-says c levels l s (F false body) (Of c body false) (smaller body (omega arith) false (with_level levels l s) (record { sorted = h.sorted.1; covered = body-covered levels l s body h.sorted.1 h.covered; constants = h.constants }) h.sorted.2))
quantified-right c levels F plus (Apply o args) smaller h st q = application-right c levels F plus o args smaller h st q
quantified-right c levels F plus (Constant i s) smaller h st q = cc
quantified-right c levels F plus (Variable l s) smaller h st q = cc
quantified-right c levels F plus (Literal s n) smaller h st q = cc

by-test : (c : List ℕ) (levels : ℕ → Option Sort) (F : Truth → Tree → Form) (plus : Truth) (t : Tree) (k : Truth) → is_quantified t ≡ k → Smaller c F (tree_size t) → Fit c levels t → tree_sort t ≡ Some Bool →
    Says c levels (if is_quantified t then form_of_quantified F plus t else unquantified plus t) (Of c t plus)
by-test c levels F plus t true e smaller h s = rw e (quantified-right c levels F plus t smaller h s e)
by-test c levels F plus t false e smaller h s = rw e (plain-says c levels plus t h s e)

-- the form of each sorted tree, under each sign, says what the tree means
pub form-right : (c : List ℕ) (n : ℕ) (t : Tree) → tree_size t ≤ n → Right c (λ sign u. form_within n sign u) t
unfolding form_within
form-right c zero t le plus levels h s = let k = some-size t in absurd (omega (arith, k, le))
form-right c (suc n) t le plus levels h s =
    by-test c levels (λ sign u. form_within n sign u) plus t (is_quantified t) refl (λ u lt. form-right c n u (omega (arith, lt, le))) h s
