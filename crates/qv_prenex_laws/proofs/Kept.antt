-- Each form of a sorted tree has lawful blocks and a matrix without quantifiers, over known leaves.
use Rattle.std.proofs.Common.{◌≡◌, ℕ, zero, suc, ◌+◌, ◌<◌, ◌≤◌, ◌==◌, Bool as Truth, true, false, not, if◌then◌else◌, Option, Some, List, [], ◌∷◌, length, refl, sym, ◌∙◌, subst, arith}
use Rattle.std.specs.Prelude.{IsSomeAnd}
use Rattle.std.specs.List.{AllByRecursion}
use Rattle.qv_words.specs.declared.sort.Sort.{Sort}
use Rattle.qv_words.specs.declared.sort.Sort.TheVariants.{Bool, Bits}
use Rattle.qv_words.specs.declared.op.Op.{Op}
use Rattle.qv_words.specs.declared.op.Op.TheVariants.{Not, And, Or, Xor, Implies, Equal, Ite}
use Rattle.qv_words.specs.Sort.{IsLawful}
use Rattle.qv_words.specs.Rank.{two_alike}
use Rattle.qv_words.specs.Tree.{Tree, Trees, Constant, Variable, Literal, Apply, ForAll, Exists, Nil, Cons, tree_sort, tree_sorts}
use Rattle.qv_words.specs.Sorted.{with_level, free_levels}
use Rattle.qv_words.specs.Replacement.{replaced}
use Rattle.qv_words.specs.Prenex.{Form, Choice, joined_blocks, joined, with_first, block_at, moved_in, with_existential, with_universal, with_quantifier, negation, binary, unquantified, under_sign, alike, unlike, chosen, split, split_at, form_of_application, form_of_quantified, form_within, tree_size, trees_size, is_quantified, is_some_quantified, first_choice, put_for}
use Rattle.qv_words.proofs.Ranks.{rank_parts}
use Rattle.qv_words.proofs.InSort.{choice-parts, one_bool-parts, two_alike-parts}
use Rattle.qv_words.proofs.Leaves.{both}
use Rattle.qv_words.proofs.Replacing.{same_sort}
use Rattle.qv_words.proofs.Sections.{free-unquantified}
use Rattle.qv_prenex_laws.proofs.Fuel.{target_of, some-size, shrinks}
use Rattle.qv_prenex_laws.proofs.Says.{VarsAre, left-are, right-are, own-are, first-are, alone-are, second-own_are, second-are}
use Rattle.qv_prenex_laws.proofs.Splits.{FitIn, fit-args, fit-first, fit-rest, AllBits, is_core}
use Rattle.qv_prenex_laws.proofs.Found.{by-core, all-there, one-sort, three-sorts, mapped, split-fits}
use Rattle.qv_prenex_laws.proofs.FormRight.{Two, two-fit, bools-fit, negation-fit, body-covered}
use Rattle.qv_prenex_laws.proofs.Parts.{PartOf, OuterPart, no-parts, more-parts, part-applied, put-sorts-at, replaced-part}
use Rattle.std.proofs.lemmas.Bool.{ne_eqb}

abbrev pub AreLawful : List (List Sort) → Type 0
AreLawful blocks = AllByRecursion (AllByRecursion IsLawful) blocks

-- lawful blocks, and a matrix that is a formula without quantifiers with W of its constants and V of its
-- variables, where what is put for the variables is so
pub record Kept (W V : ℕ × Sort → Type 0) (levels : ℕ → Option Sort) (f : Form) : Type 0 where
  pub sorts : AreLawful f.blocks
  pub matrix : (outer : ℕ → Option Tree) (var : ℕ → ℕ → Tree) → OuterPart W V levels outer → VarsAre (PartOf W V) var f.blocks →
      PartOf W V (f.matrix outer var) Bool

-- the blocks
joined-lawful : (as' bs : List (List Sort)) → AreLawful as' → AreLawful bs → AreLawful (joined_blocks as' bs)
joined-lawful [] bs h k = k
joined-lawful (a ∷ as') [] h k = h
joined-lawful (a ∷ as') (b ∷ bs) h k = (both IsLawful a b h.0 k.0, joined-lawful as' bs h.1 k.1)

first-lawful : (s : Sort) (bs : List (List Sort)) → IsLawful s → AreLawful bs → AreLawful (with_first s bs)
first-lawful s [] lawful h = ((lawful, tt), tt)
first-lawful s (b ∷ bs) lawful h = ((lawful, h.0), h.1)

-- and, or
abbrev pub AreBool : Op → Type 0
AreBool o = (a b : Tree) → tree_sort a ≡ Some Bool → tree_sort b ≡ Some Bool → tree_sort (binary o a b) ≡ Some Bool

and-bool : AreBool And
and-bool a b sa sb = rw (sa, sb) refl

or-bool : AreBool Or
or-bool a b sa sb = rw (sa, sb) refl

part-binary : (W V : ℕ × Sort → Type 0) (o : Op) → AreBool o → (a b : Tree) → PartOf W V a Bool → PartOf W V b Bool →
    PartOf W V (binary o a b) Bool
part-binary W V o bool a b h k =
    let s = bool a b h.0 k.0 in
    (s, part-applied W V o (Cons a (Cons b Nil)) (rw s refl) (more-parts W V a (Cons b Nil) h.1 (more-parts W V b Nil k.1 (no-parts W V))))

joined-kept : (W V : ℕ × Sort → Type 0) (levels : ℕ → Option Sort) (o : Op) → AreBool o → (a b : Form) → Kept W V levels a →
    Kept W V levels b → Kept W V levels (joined o a b)
joined-kept W V levels o bool a b ha hb = record {
  sorts = joined-lawful a.blocks b.blocks ha.sorts hb.sorts;
  matrix = λ outer var ho hv.
      part-binary W V o bool (a.matrix outer var) (b.matrix outer (λ i j. var i (length (block_at a.blocks i) + j)))
      (ha.matrix outer var ho (left-are (PartOf W V) var a.blocks b.blocks hv))
      (hb.matrix outer (λ i j. var i (length (block_at a.blocks i) + j)) ho (right-are (PartOf W V) var a.blocks b.blocks hv));
}

-- quantifiers
outer-part-more : (W V : ℕ × Sort → Type 0) (levels : ℕ → Option Sort) (outer : ℕ → Option Tree) (l : ℕ) (s : Sort) (put : Tree) →
    OuterPart W V levels outer → PartOf W V put s → OuterPart W V (with_level levels l s) (with_level outer l put)
outer-part-more W V levels outer l s put ho h k r = go (k == l)
  where
    go : (b : Truth) → (if b then Some s else levels k) ≡ Some r → IsSomeAnd (if b then Some put else outer k) (λ p. PartOf W V p r)
    go true e = let same : s ≡ r = cc in subst (λ (x : Sort). PartOf W V put x) same h
    go false e = ho k r e

existential-kept : (W V : ℕ × Sort → Type 0) (levels : ℕ → Option Sort) (l : ℕ) (s : Sort) (f : Form) → IsLawful s →
    Kept W V (with_level levels l s) f → Kept W V levels (with_existential l s f)
existential-kept W V levels l s f lawful h = record {
  sorts = first-lawful s f.blocks lawful h.sorts;
  matrix = λ outer var ho hv.
      h.matrix (with_level outer l (var 0 0)) (moved_in 0 var)
      (outer-part-more W V levels outer l s (var 0 0) ho (own-are (PartOf W V) var s f.blocks hv))
      (first-are (PartOf W V) var s f.blocks hv);
}

universal-kept : (W V : ℕ × Sort → Type 0) (levels : ℕ → Option Sort) (l : ℕ) (s : Sort) (f : Form) → IsLawful s →
    Kept W V (with_level levels l s) f → Kept W V levels (with_universal l s f)
universal-kept W V levels l s f lawful h = by-blocks f.blocks f.matrix h
  where
    second : (bs : List (List Sort)) (matrix : (ℕ → Option Tree) → (ℕ → ℕ → Tree) → Tree) →
        Kept W V (with_level levels l s) (record { blocks = [] ∷ bs; matrix = matrix }) →
        Kept W V levels (with_universal l s (record { blocks = [] ∷ bs; matrix = matrix }))
    second bs matrix k = record {
      sorts = (tt, first-lawful s bs lawful k.sorts.1);
      matrix = λ outer var ho hv.
          k.matrix (with_level outer l (var 1 0)) (moved_in 1 var)
          (outer-part-more W V levels outer l s (var 1 0) ho (second-own_are (PartOf W V) var s bs hv))
          (second-are (PartOf W V) var s bs hv);
    }

    by-blocks : (blocks : List (List Sort)) (matrix : (ℕ → Option Tree) → (ℕ → ℕ → Tree) → Tree) →
        Kept W V (with_level levels l s) (record { blocks = blocks; matrix = matrix }) →
        Kept W V levels (with_universal l s (record { blocks = blocks; matrix = matrix }))
    by-blocks [] matrix k =
        let m = second [] matrix (record { sorts = (tt, tt); matrix = λ outer var ho hv. k.matrix outer var ho (λ i j r hs. cc) }) in
        record { sorts = m.sorts; matrix = m.matrix }
    by-blocks ([] ∷ bs) matrix k = second bs matrix k
    by-blocks ((b ∷ block) ∷ bs) matrix k = rw (ne_eqb (length (b ∷ block)) 0 (λ e. omega (arith, e))) (record {
      sorts = (tt, ((lawful, tt), k.sorts));
      matrix = λ outer var ho hv.
          k.matrix (with_level outer l (var 1 0)) (λ i j. var (i + 2) j)
          (outer-part-more W V levels outer l s (var 1 0) ho (hv 1 0 s refl)) (alone-are (PartOf W V) var s ((b ∷ block) ∷ bs) hv);
    })

-- a formula without quantifiers
plain-kept : (W V : ℕ × Sort → Type 0) (levels : ℕ → Option Sort) (plus : Truth) (t : Tree) → FitIn W levels t → tree_sort t ≡ Some Bool →
    is_quantified t ≡ false → Kept W V levels (unquantified plus t)
plain-kept W V levels plus t h s q = record { sorts = tt; matrix = λ outer var ho hv. by-sign outer plus (whole outer ho) }
  where
    whole : (outer : ℕ → Option Tree) → OuterPart W V levels outer → PartOf W V (replaced outer t) Bool
    whole outer ho = (
      same_sort t outer (free-unquantified t q) (put-sorts-at W V levels outer ho (free_levels t) h.covered) ∙ s,
      replaced-part W V levels outer ho t (free-unquantified t q) h,
    )

    by-sign : (outer : ℕ → Option Tree) (plus : Truth) → PartOf W V (replaced outer t) Bool →
        PartOf W V (under_sign plus (replaced outer t)) Bool
    by-sign outer true k = k
    by-sign outer false k =
        let r : tree_sort (negation (replaced outer t)) ≡ Some Bool = rw k.0 refl in
        (r, part-applied W V Not (Cons (replaced outer t) Nil) (rw r refl) (more-parts W V (replaced outer t) Nil k.1 (no-parts W V)))

-- In what follows F gives forms of smaller trees.
abbrev pub KeptBy : (ℕ × Sort → Type 0) → (ℕ × Sort → Type 0) → (Truth → Tree → Form) → Tree → Type 0
KeptBy W V F t = (plus : Truth) (levels : ℕ → Option Sort) → FitIn W levels t → tree_sort t ≡ Some Bool → Kept W V levels (F plus t)

abbrev SmallerKept : (ℕ × Sort → Type 0) → (ℕ × Sort → Type 0) → (Truth → Tree → Form) → ℕ → Type 0
SmallerKept W V F n = (u : Tree) → tree_size u < n → KeptBy W V F u

either-kept : (W V : ℕ × Sort → Type 0) (levels : ℕ → Option Sort) (test : Truth) (a b : Form) → Kept W V levels a → Kept W V levels b →
    Kept W V levels (joined (if test then And else Or) a b)
either-kept W V levels true a b h k = joined-kept W V levels And and-bool a b h k
either-kept W V levels false a b h k = joined-kept W V levels Or or-bool a b h k

other-kept : (W V : ℕ × Sort → Type 0) (levels : ℕ → Option Sort) (test : Truth) (a b : Form) → Kept W V levels a → Kept W V levels b →
    Kept W V levels (joined (if test then Or else And) a b)
other-kept W V levels true a b h k = joined-kept W V levels Or or-bool a b h k
other-kept W V levels false a b h k = joined-kept W V levels And and-bool a b h k

crossed-kept : (W V : ℕ × Sort → Type 0) (levels : ℕ → Option Sort) (a b p q : Form) → Kept W V levels a → Kept W V levels b →
    Kept W V levels p → Kept W V levels q → Kept W V levels (joined Or (joined And a b) (joined And p q))
crossed-kept W V levels a b p q ha hb hp hq =
    joined-kept W V levels Or or-bool (joined And a b) (joined And p q) (joined-kept W V levels And and-bool a b ha hb)
    (joined-kept W V levels And and-bool p q hp hq)

alike-kept : (W V : ℕ × Sort → Type 0) (levels : ℕ → Option Sort) (F : Truth → Tree → Form) (a b : Tree) → KeptBy W V F a →
    KeptBy W V F b → Two W levels a b → Kept W V levels (alike F a b)
alike-kept W V levels F a b ra rb (fa, sa, fb, sb) =
    crossed-kept W V levels (F true a) (F true b) (F false a) (F false b) (ra true levels fa sa) (rb true levels fb sb)
    (ra false levels fa sa) (rb false levels fb sb)

unlike-kept : (W V : ℕ × Sort → Type 0) (levels : ℕ → Option Sort) (F : Truth → Tree → Form) (a b : Tree) → KeptBy W V F a →
    KeptBy W V F b → Two W levels a b → Kept W V levels (unlike F a b)
unlike-kept W V levels F a b ra rb (fa, sa, fb, sb) =
    crossed-kept W V levels (F true a) (F false b) (F false a) (F true b) (ra true levels fa sa) (rb false levels fb sb)
    (ra false levels fa sa) (rb true levels fb sb)

chosen-kept : (W V : ℕ × Sort → Type 0) (levels : ℕ → Option Sort) (F : Truth → Tree → Form) (plus : Truth) (k a b : Tree) →
    KeptBy W V F k → KeptBy W V F a → KeptBy W V F b →
    FitIn W levels k → tree_sort k ≡ Some Bool → Two W levels a b → Kept W V levels (chosen F plus k a b)
chosen-kept W V levels F plus k a b rk ra rb fk sk (fa, sa, fb, sb) =
    crossed-kept W V levels (F true k) (F plus a) (F false k) (F plus b) (rk true levels fk sk) (ra plus levels fa sa)
    (rk false levels fk sk) (rb plus levels fb sb)

-- rule 7
split-kept : (W V : ℕ × Sort → Type 0) (levels : ℕ → Option Sort) (F : Truth → Tree → Form) (plus : Truth) (t : Tree) (d : Choice) →
    first_choice t ≡ Some d → SmallerKept W V F (tree_size t) → FitIn W levels t → tree_sort t ≡ Some Bool →
    Kept W V levels (split F plus t)
split-kept W V levels F plus t d e below h s =
    let smaller = shrinks t d e in
    let fits = split-fits W levels t d e h s in
    let t1 = put_for (target_of d) d.yes t in
    let t2 = put_for (target_of d) d.no t in
    subst (λ (o : Option Choice). Kept W V levels (split_at F plus t o)) (sym e)
    (chosen-kept W V levels F plus d.condition t1 t2
    (below d.condition smaller.condition) (below t1 (smaller.putting d.yes (omega arith)))
    (below t2 (smaller.putting d.no (omega arith)))
    fits.condition fits.condition_sort (fits.yes, fits.yes_sort, fits.no, fits.no_sort))

bool-equal-kept : (W V : ℕ × Sort → Type 0) (levels : ℕ → Option Sort) (F : Truth → Tree → Form) (plus : Truth) (a b : Tree) →
    KeptBy W V F a → KeptBy W V F b → Two W levels a b → Kept W V levels (if plus then alike F a b else unlike F a b)
bool-equal-kept W V levels F true a b ra rb two = alike-kept W V levels F a b ra rb two
bool-equal-kept W V levels F false a b ra rb two = unlike-kept W V levels F a b ra rb two

xor-kept : (W V : ℕ × Sort → Type 0) (levels : ℕ → Option Sort) (F : Truth → Tree → Form) (plus : Truth) (a b : Tree) → KeptBy W V F a →
    KeptBy W V F b → Two W levels a b → Kept W V levels (if plus then unlike F a b else alike F a b)
xor-kept W V levels F true a b ra rb two = unlike-kept W V levels F a b ra rb two
xor-kept W V levels F false a b ra rb two = alike-kept W V levels F a b ra rb two

equal-kept : (W V : ℕ × Sort → Type 0) (levels : ℕ → Option Sort) (F : Truth → Tree → Form) (plus : Truth) (a b : Tree) (r : Sort)
    (ss : List Sort) → SmallerKept W V F (tree_size (binary Equal a b)) → FitIn W levels (binary Equal a b) →
    tree_sort (binary Equal a b) ≡ Some Bool →
    is_some_quantified (Cons a (Cons b Nil)) ≡ true → tree_sorts (Cons a (Cons b Nil)) ≡ Some ss → ss ≡ r ∷ r ∷ [] →
    Kept W V levels (form_of_application F plus Equal (Cons a (Cons b Nil)))
equal-kept W V levels F plus a b Bool ss below h s q e k =
    let t = two-fit W levels Equal a b Bool Bool ss h e k in
    let la = some-size a in let lb = some-size b in
    rw t.1 (bool-equal-kept W V levels F plus a b (below a (omega (arith, lb))) (below b (omega (arith, la))) t)
equal-kept W V levels F plus a b (Bits w) ss below h s q e k =
    let t = two-fit W levels Equal a b (Bits w) (Bits w) ss h e k in
    let bits : AllBits ss = subst AllBits (sym k) tt in
    let d = all-there (Cons a (Cons b Nil)) ss e bits q in
    rw t.1 (split-kept W V levels F plus (binary Equal a b) d.0 d.1 below h s)

application-kept : (W V : ℕ × Sort → Type 0) (levels : ℕ → Option Sort) (F : Truth → Tree → Form) (plus : Truth) (o : Op) (args : Trees) →
    SmallerKept W V F (1 + trees_size args) → FitIn W levels (Apply o args) → tree_sort (Apply o args) ≡ Some Bool →
    is_some_quantified args ≡ true →
    Kept W V levels (form_of_application F plus o args)
application-kept W V levels F plus Not (Cons a Nil) below h s q =
    let p = rank_parts Not (Cons a Nil) Bool s in
    below a (omega arith) (not plus) levels (fit-first a Nil (fit-args Not (Cons a Nil) h))
    (one-sort a Bool p.0 p.1 (one_bool-parts p.0 Bool p.2).0)
application-kept W V levels F plus And (Cons a (Cons b Nil)) below h s q =
    let la = some-size a in let lb = some-size b in
    let two = bools-fit W levels And a b (λ ss. refl) h s in
    either-kept W V levels plus (F plus a) (F plus b) (below a (omega (arith, lb)) plus levels two.0 two.1)
    (below b (omega (arith, la)) plus levels two.2 two.3)
application-kept W V levels F plus Or (Cons a (Cons b Nil)) below h s q =
    let la = some-size a in let lb = some-size b in
    let two = bools-fit W levels Or a b (λ ss. refl) h s in
    other-kept W V levels plus (F plus a) (F plus b) (below a (omega (arith, lb)) plus levels two.0 two.1)
    (below b (omega (arith, la)) plus levels two.2 two.3)
application-kept W V levels F plus Implies (Cons a (Cons b Nil)) below h s q =
    let la = some-size a in let lb = some-size b in
    let two = bools-fit W levels Implies a b (λ ss. refl) h s in
    let n = negation-fit W levels a two.0 two.1 in
    other-kept W V levels plus (F plus (negation a)) (F plus b) (below (negation a) (omega (arith, lb)) plus levels n.0 n.1)
    (below b (omega (arith, la)) plus levels two.2 two.3)
application-kept W V levels F plus Xor (Cons a (Cons b Nil)) below h s q =
    let la = some-size a in let lb = some-size b in
    xor-kept W V levels F plus a b (below a (omega (arith, lb))) (below b (omega (arith, la))) (bools-fit W levels Xor a b (λ ss. refl) h s)
application-kept W V levels F plus Equal (Cons a (Cons b Nil)) below h s q =
    let p = rank_parts Equal (Cons a (Cons b Nil)) Bool s in
    let m = mapped (two_alike p.0) Bool p.2 in
    equal-kept W V levels F plus a b m.0 p.0 below h s q p.1 (two_alike-parts p.0 m.0 m.1)
application-kept W V levels F plus Ite (Cons k (Cons a (Cons b Nil))) below h s q =
    let p = rank_parts Ite (Cons k (Cons a (Cons b Nil))) Bool s in
    let sorts = three-sorts k a b Bool Bool Bool p.0 p.1 (choice-parts p.0 Bool p.2) in
    let all = fit-args Ite (Cons k (Cons a (Cons b Nil))) h in
    let rest = fit-rest k (Cons a (Cons b Nil)) all in
    let lk = some-size k in let la = some-size a in let lb = some-size b in
    rw sorts.1 (chosen-kept W V levels F plus k a b (below k (omega (arith, la, lb))) (below a (omega (arith, lk, lb)))
    (below b (omega (arith, lk, la)))
    (fit-first k (Cons a (Cons b Nil)) all) sorts.0
    (fit-first a (Cons b Nil) rest, sorts.1, fit-first b Nil (fit-rest a (Cons b Nil) rest), sorts.2))
application-kept W V levels F plus o args below h s q =
    let d = by-core o args Bool (is_core o) refl refl s (λ ss e bits. all-there args ss e bits q) in
    split-kept W V levels F plus (Apply o args) d.0 d.1 below h s

quantifier-kept : (W V : ℕ × Sort → Type 0) (levels : ℕ → Option Sort) (existential : Truth) (l : ℕ) (s : Sort) (f : Form) → IsLawful s →
    Kept W V (with_level levels l s) f → Kept W V levels (with_quantifier existential l s f)
quantifier-kept W V levels true l s f lawful h = existential-kept W V levels l s f lawful h
quantifier-kept W V levels false l s f lawful h = universal-kept W V levels l s f lawful h

quantified-kept : (W V : ℕ × Sort → Type 0) (levels : ℕ → Option Sort) (F : Truth → Tree → Form) (plus : Truth) (t : Tree) →
    SmallerKept W V F (tree_size t) → FitIn W levels t → tree_sort t ≡ Some Bool → is_quantified t ≡ true →
    Kept W V levels (form_of_quantified F plus t)
quantified-kept W V levels F plus (ForAll l s body) smaller h st q =
    quantifier-kept W V levels (not plus) l s (F plus body) h.sorted.0
    (smaller body (omega arith) plus (with_level levels l s)
    (record { sorted = h.sorted.1; covered = body-covered levels l s body h.sorted.1 h.covered; constants = h.constants }) h.sorted.2)
quantified-kept W V levels F plus (Exists l s body) smaller h st q =
    quantifier-kept W V levels plus l s (F plus body) h.sorted.0
    (smaller body (omega arith) plus (with_level levels l s)
    (record { sorted = h.sorted.1; covered = body-covered levels l s body h.sorted.1 h.covered; constants = h.constants }) h.sorted.2)
quantified-kept W V levels F plus (Apply o args) smaller h st q = application-kept W V levels F plus o args smaller h st q
quantified-kept W V levels F plus (Constant i s) smaller h st q = cc
quantified-kept W V levels F plus (Variable l s) smaller h st q = cc
quantified-kept W V levels F plus (Literal s n) smaller h st q = cc

by-test : (W V : ℕ × Sort → Type 0) (levels : ℕ → Option Sort) (F : Truth → Tree → Form) (plus : Truth) (t : Tree) (k : Truth) →
    is_quantified t ≡ k → SmallerKept W V F (tree_size t) → FitIn W levels t → tree_sort t ≡ Some Bool →
    Kept W V levels (if is_quantified t then form_of_quantified F plus t else unquantified plus t)
by-test W V levels F plus t true e smaller h s = rw e (quantified-kept W V levels F plus t smaller h s e)
by-test W V levels F plus t false e smaller h s = rw e (plain-kept W V levels plus t h s e)

-- the form of each sorted tree, under each sign
pub form-kept : (W V : ℕ × Sort → Type 0) (n : ℕ) (t : Tree) → tree_size t ≤ n → KeptBy W V (λ sign u. form_within n sign u) t
unfolding form_within
form-kept W V zero t le plus levels h s = let k = some-size t in absurd (omega (arith, k, le))
form-kept W V (suc n) t le plus levels h s =
    by-test W V levels (λ sign u. form_within n sign u) plus t (is_quantified t) refl
    (λ u lt. form-kept W V n u (omega (arith, lt, le))) h s
