-- What the matrix of a form means, under values for its variables and for those bound outside.
use Rattle.std.proofs.Common.{◌≡◌, ℕ, zero, suc, ◌+◌, ◌==◌, Bool, true, false, not, ◌&&◌, ◌||◌, if◌then◌else◌, Option, Some, None, List, [], ◌∷◌, ◌++◌, length, slice_get, unwrap_or, refl, sym, ap, ◌∙◌, subst, arith}
use Rattle.std.specs.Prelude.{MatchOption, IsSomeAnd, IfSome}
use Rattle.std.specs.List.{AllByRecursion}
use Rattle.qv_words.specs.declared.sort.Sort.{Sort}
use Rattle.qv_words.specs.declared.sort.Sort.TheVariants.{Bool as BoolSort}
use Rattle.qv_words.specs.declared.op.Op.TheVariants.{And, Or}
use Rattle.qv_words.specs.Sort.{IsValueOf}
use Rattle.qv_words.specs.Op.{truth}
use Rattle.qv_words.specs.Tree.{Tree, tree_sort, IsQuantifierFree}
use Rattle.qv_words.specs.Sorted.{with_level, free_levels, constants_of}
use Rattle.qv_words.specs.Meaning.{Means}
use Rattle.qv_words.specs.Replacement.{replaced}
use Rattle.qv_words.specs.Prenex.{Form, joined_blocks, block_at, with_first, with_existential, moved_in, unquantified, under_sign, binary, negation}
use Rattle.qv_prenex_laws.proofs.Closing.{AreOf, AreTyped, joined_values, with_value}
use Rattle.qv_words.proofs.Leaves.{Agree}
use Rattle.qv_words.proofs.Agreeing.{SameConstant, same_meaning}
use Rattle.qv_words.proofs.Replacing.{HasItsSort, same_sort, same_value, TakesItsMeaning}
use Rattle.qv_words.proofs.Elements.{in-front}
use Rattle.std.proofs.lemmas.Bool.{ne_eqb}

-- what is put for the levels that are bound outside has their sorts and values
abbrev pub OuterAt : List ℕ → (ℕ → Option ℕ) → Option Tree → Option Sort → Option ℕ → Type 0
OuterAt c e o None g = o ≡ None
OuterAt c e o (Some s) g = (put : Tree) × (u : ℕ) × (o ≡ Some put) × (g ≡ Some u) × (tree_sort put ≡ Some s) × Means c e put u × IsValueOf u s

abbrev pub OuterOk : List ℕ → (ℕ → Option ℕ) → (ℕ → Option Tree) → (ℕ → Option Sort) → (ℕ → Option ℕ) → Type 0
OuterOk c e outer levels g = (l : ℕ) → OuterAt c e (outer l) (levels l) (g l)

abbrev pub row_at : List (List ℕ) → ℕ → List ℕ
row_at ws i = unwrap_or (slice_get ws i) []

-- so it is of the form's own variables
abbrev pub VarsOk : List ℕ → (ℕ → Option ℕ) → (ℕ → ℕ → Tree) → List (List Sort) → List (List ℕ) → Type 0
VarsOk c e var blocks ws = (i j : ℕ) (s : Sort) (u : ℕ) → slice_get (block_at blocks i) j ≡ Some s → slice_get (row_at ws i) j ≡ Some u → (tree_sort (var i j) ≡ Some s) × Means c e (var i j) u

-- whatever stands for the variables, the matrix is a truth value and means this one
abbrev pub Tells : List ℕ → Form → (ℕ → Option Sort) → (ℕ → Option ℕ) → Bool → List (List ℕ) → Type 0
Tells c f levels g v ws =
    (e : ℕ → Option ℕ) (outer : ℕ → Option Tree) (var : ℕ → ℕ → Tree) → OuterOk c e outer levels g → VarsOk c e var f.blocks ws →
    (tree_sort (f.matrix outer var) ≡ Some BoolSort) × Means c e (f.matrix outer var) (truth v)

append-nothing : {A : Type 0} (xs : List A) → xs ++ [] ≡ xs
append-nothing [] = refl
append-nothing (x ∷ xs) = ap (λ ys. x ∷ ys) (append-nothing xs)

-- a block of joined blocks, and the values of one
pub block-joined : (as' bs : List (List Sort)) (i : ℕ) → block_at (joined_blocks as' bs) i ≡ block_at as' i ++ block_at bs i
block-joined [] bs i = refl
block-joined (a ∷ as') [] zero = sym (append-nothing a)
block-joined (a ∷ as') [] (suc i) = sym (append-nothing (block_at as' i))
block-joined (a ∷ as') (b ∷ bs) zero = refl
block-joined (a ∷ as') (b ∷ bs) (suc i) = block-joined as' bs i

row-joined : (ws us : List (List ℕ)) (i : ℕ) → row_at (joined_values ws us) i ≡ row_at ws i ++ row_at us i
row-joined [] us i = refl
row-joined (w ∷ ws) [] zero = sym (append-nothing w)
row-joined (w ∷ ws) [] (suc i) = sym (append-nothing (row_at ws i))
row-joined (w ∷ ws) (u ∷ us) zero = refl
row-joined (w ∷ ws) (u ∷ us) (suc i) = row-joined ws us i

pub behind : {A : Type 0} (xs ys : List A) (j : ℕ) → slice_get (xs ++ ys) (length xs + j) ≡ slice_get ys j
behind [] ys j = let e : 0 + j ≡ j = omega arith in ap (slice_get ys) e
behind (y ∷ xs) ys j =
    let e : length (y ∷ xs) + j ≡ suc (length xs + j) = omega arith in
    ap (slice_get (y ∷ (xs ++ ys))) e ∙ behind xs ys j

pub same-length : (xs : List ℕ) (ss : List Sort) → AreOf xs ss → length xs ≡ length ss
same-length [] [] h = refl
same-length (x ∷ xs) (s ∷ ss) h = let k = same-length xs ss h.1 in omega (arith, k)
same-length [] (s ∷ ss) h = absurd h
same-length (x ∷ xs) [] h = absurd h

pub row-length : (ws : List (List ℕ)) (bs : List (List Sort)) (i : ℕ) → AreTyped ws bs → length (row_at ws i) ≡ length (block_at bs i)
row-length [] [] i h = refl
row-length (w ∷ ws) (b ∷ bs) zero h = same-length w b h.0
row-length (w ∷ ws) (b ∷ bs) (suc i) h = row-length ws bs i h.1
row-length [] (b ∷ bs) i h = absurd h
row-length (w ∷ ws) [] i h = absurd h

pub left-vars : (c : List ℕ) (e : ℕ → Option ℕ) (var : ℕ → ℕ → Tree) (as' bs : List (List Sort)) (ws us : List (List ℕ)) →
    VarsOk c e var (joined_blocks as' bs) (joined_values ws us) → VarsOk c e var as' ws
left-vars c e var as' bs ws us h i j s u hs hu =
    h i j s u
    (ap (λ b. slice_get b j) (block-joined as' bs i) ∙ in-front (block_at as' i) (block_at bs i) j s hs)
    (ap (λ r. slice_get r j) (row-joined ws us i) ∙ in-front (row_at ws i) (row_at us i) j u hu)

pub right-vars : (c : List ℕ) (e : ℕ → Option ℕ) (var : ℕ → ℕ → Tree) (as' bs : List (List Sort)) (ws us : List (List ℕ)) → AreTyped ws as' →
    VarsOk c e var (joined_blocks as' bs) (joined_values ws us) → VarsOk c e (λ i j. var i (length (block_at as' i) + j)) bs us
right-vars c e var as' bs ws us typed h i j s u hs hu =
    h i (length (block_at as' i) + j) s u
    (ap (λ b. slice_get b (length (block_at as' i) + j)) (block-joined as' bs i) ∙ behind (block_at as' i) (block_at bs i) j ∙ hs)
    (ap (λ r. slice_get r (length (block_at as' i) + j)) (row-joined ws us i)
    ∙ ap (λ n. slice_get (row_at ws i ++ row_at us i) (n + j)) (sym (row-length ws as' i typed))
    ∙ behind (row_at ws i) (row_at us i) j ∙ hu)

-- and
pub and-means : (c : List ℕ) (e : ℕ → Option ℕ) (a b : Tree) (v w : Bool) → tree_sort a ≡ Some BoolSort → tree_sort b ≡ Some BoolSort → Means c e a (truth v) → Means c e b (truth w) →
    (tree_sort (binary And a b) ≡ Some BoolSort) × Means c e (binary And a b) (truth (v && w))
and-means c e a b v w sa sb ma mb = (rw (sa, sb) refl, (BoolSort ∷ BoolSort ∷ [], truth v ∷ truth w ∷ [], rw (sa, sb) refl, (truth v, truth w ∷ [], ma, (truth w, [], mb, refl, refl), refl), by-cases v w))
  where
    by-cases : (v w : Bool) → truth (v && w) ≡ truth ((truth v == 1) && (truth w == 1))
    by-cases true true = refl
    by-cases true false = refl
    by-cases false true = refl
    by-cases false false = refl

pub or-means : (c : List ℕ) (e : ℕ → Option ℕ) (a b : Tree) (v w : Bool) → tree_sort a ≡ Some BoolSort → tree_sort b ≡ Some BoolSort → Means c e a (truth v) → Means c e b (truth w) →
    (tree_sort (binary Or a b) ≡ Some BoolSort) × Means c e (binary Or a b) (truth (v || w))
or-means c e a b v w sa sb ma mb = (rw (sa, sb) refl, (BoolSort ∷ BoolSort ∷ [], truth v ∷ truth w ∷ [], rw (sa, sb) refl, (truth v, truth w ∷ [], ma, (truth w, [], mb, refl, refl), refl), by-cases v w))
  where
    by-cases : (v w : Bool) → truth (v || w) ≡ truth ((truth v == 1) || (truth w == 1))
    by-cases true true = refl
    by-cases true false = refl
    by-cases false true = refl
    by-cases false false = refl

-- what is known outside, with one level more
pub outer-more : (c : List ℕ) (e : ℕ → Option ℕ) (outer : ℕ → Option Tree) (levels : ℕ → Option Sort) (g : ℕ → Option ℕ) (l : ℕ) (s : Sort) (u : ℕ) (put : Tree) →
    OuterOk c e outer levels g → tree_sort put ≡ Some s → Means c e put u → IsValueOf u s → OuterOk c e (with_level outer l put) (with_level levels l s) (with_level g l u)
outer-more c e outer levels g l s u put h hs hm hu k = go (k == l)
  where
    go : (b : Bool) → OuterAt c e (if b then Some put else outer k) (if b then Some s else levels k) (if b then Some u else g k)
    go true = (put, u, refl, refl, hs, hm, hu)
    go false = h k

-- the body's variables, where one more went to the front of the first block
existential-vars : (c : List ℕ) (e : ℕ → Option ℕ) (var : ℕ → ℕ → Tree) (s : Sort) (bs : List (List Sort)) (u : ℕ) (ws : List (List ℕ)) → AreTyped ws bs →
    VarsOk c e var (with_first s bs) (with_value u ws) → VarsOk c e (moved_in 0 var) bs ws
existential-vars c e var s [] u [] typed h i j t w hs hw = cc
existential-vars c e var s [] u (x ∷ ws) typed h i j t w hs hw = absurd typed
existential-vars c e var s (b ∷ bs) u [] typed h i j t w hs hw = absurd typed
existential-vars c e var s (b ∷ bs) u (x ∷ ws) typed h zero j t w hs hw = h 0 (suc j) t w hs hw
existential-vars c e var s (b ∷ bs) u (x ∷ ws) typed h (suc i) j t w hs hw = rw (ne_eqb (suc i) 0 (λ e. omega (arith, e))) (h (suc i) j t w hs hw)

own-var : (c : List ℕ) (e : ℕ → Option ℕ) (var : ℕ → ℕ → Tree) (s : Sort) (bs : List (List Sort)) (u : ℕ) (ws : List (List ℕ)) → AreTyped ws bs →
    VarsOk c e var (with_first s bs) (with_value u ws) → (tree_sort (var 0 0) ≡ Some s) × Means c e (var 0 0) u
own-var c e var s [] u [] typed h = h 0 0 s u refl refl
own-var c e var s [] u (x ∷ ws) typed h = absurd typed
own-var c e var s (b ∷ bs) u [] typed h = absurd typed
own-var c e var s (b ∷ bs) u (x ∷ ws) typed h = h 0 0 s u refl refl

-- rule 8
pub existential-tells : (c : List ℕ) (l : ℕ) (s : Sort) (f : Form) (levels : ℕ → Option Sort) (g : ℕ → Option ℕ) (v : Bool) (u : ℕ) (ws : List (List ℕ)) → IsValueOf u s → AreTyped ws f.blocks →
    Tells c f (with_level levels l s) (with_level g l u) v ws → Tells c (with_existential l s f) levels g v (with_value u ws)
existential-tells c l s f levels g v u ws hu typed h e outer var ho hv =
    let own = own-var c e var s f.blocks u ws typed hv in
    h e (with_level outer l (var 0 0)) (moved_in 0 var) (outer-more c e outer levels g l s u (var 0 0) ho own.0 own.1 hu) (existential-vars c e var s f.blocks u ws typed hv)

-- rule 9, where the variable stands alone
alone-vars : (c : List ℕ) (e : ℕ → Option ℕ) (var : ℕ → ℕ → Tree) (s : Sort) (bs : List (List Sort)) (u : ℕ) (ws : List (List ℕ)) →
    VarsOk c e var ([] ∷ (s ∷ []) ∷ bs) ([] ∷ (u ∷ []) ∷ ws) → VarsOk c e (λ i j. var (i + 2) j) bs ws
alone-vars c e var s bs u ws h i j t w hs hw =
    let two : i + 2 ≡ suc (suc i) = omega arith in
    subst (λ (k : ℕ). (tree_sort (var k j) ≡ Some t) × Means c e (var k j) w) (sym two) (h (suc (suc i)) j t w hs hw)

pub alone-tells : (c : List ℕ) (l : ℕ) (s : Sort) (f : Form) (levels : ℕ → Option Sort) (g : ℕ → Option ℕ) (v : Bool) (u : ℕ) (ws : List (List ℕ)) → IsValueOf u s →
    Tells c f (with_level levels l s) (with_level g l u) v ws →
    Tells c (record { blocks = [] ∷ (s ∷ []) ∷ f.blocks; matrix = λ outer var. f.matrix (with_level outer l (var 1 0)) (λ i j. var (i + 2) j) }) levels g v ([] ∷ (u ∷ []) ∷ ws)
alone-tells c l s f levels g v u ws hu h e outer var ho hv =
    let own = hv 1 0 s u refl refl in
    h e (with_level outer l (var 1 0)) (λ i j. var (i + 2) j) (outer-more c e outer levels g l s u (var 1 0) ho own.0 own.1 hu) (alone-vars c e var s f.blocks u ws hv)

-- rule 9, where it goes to the front of the second block: bs are the body's blocks behind an empty first one
second-vars : (c : List ℕ) (e : ℕ → Option ℕ) (var : ℕ → ℕ → Tree) (s : Sort) (bs : List (List Sort)) (u : ℕ) (ws : List (List ℕ)) → AreTyped ws bs →
    VarsOk c e var ([] ∷ with_first s bs) ([] ∷ with_value u ws) → VarsOk c e (moved_in 1 var) ([] ∷ bs) ([] ∷ ws)
second-vars c e var s bs u ws typed h zero j t w hs hw = cc
second-vars c e var s [] u [] typed h (suc i) j t w hs hw = cc
second-vars c e var s [] u (x ∷ ws) typed h (suc i) j t w hs hw = absurd typed
second-vars c e var s (b ∷ bs) u [] typed h (suc i) j t w hs hw = absurd typed
second-vars c e var s (b ∷ bs) u (x ∷ ws) typed h (suc zero) j t w hs hw = h 1 (suc j) t w hs hw
second-vars c e var s (b ∷ bs) u (x ∷ ws) typed h (suc (suc i)) j t w hs hw = rw (ne_eqb (suc (suc i)) 1 (λ e. omega (arith, e))) (h (suc (suc i)) j t w hs hw)

second-own : (c : List ℕ) (e : ℕ → Option ℕ) (var : ℕ → ℕ → Tree) (s : Sort) (bs : List (List Sort)) (u : ℕ) (ws : List (List ℕ)) → AreTyped ws bs →
    VarsOk c e var ([] ∷ with_first s bs) ([] ∷ with_value u ws) → (tree_sort (var 1 0) ≡ Some s) × Means c e (var 1 0) u
second-own c e var s [] u [] typed h = h 1 0 s u refl refl
second-own c e var s [] u (x ∷ ws) typed h = absurd typed
second-own c e var s (b ∷ bs) u [] typed h = absurd typed
second-own c e var s (b ∷ bs) u (x ∷ ws) typed h = h 1 0 s u refl refl

pub second-tells : (c : List ℕ) (l : ℕ) (s : Sort) (bs : List (List Sort)) (matrix : (ℕ → Option Tree) → (ℕ → ℕ → Tree) → Tree) (levels : ℕ → Option Sort) (g : ℕ → Option ℕ) (v : Bool) (u : ℕ) (ws : List (List ℕ)) → IsValueOf u s → AreTyped ws bs →
    Tells c (record { blocks = [] ∷ bs; matrix = matrix }) (with_level levels l s) (with_level g l u) v ([] ∷ ws) →
    Tells c (record { blocks = [] ∷ with_first s bs; matrix = λ outer var. matrix (with_level outer l (var 1 0)) (moved_in 1 var) }) levels g v ([] ∷ with_value u ws)
second-tells c l s bs matrix levels g v u ws hu typed h e outer var ho hv =
    let own = second-own c e var s bs u ws typed hv in
    h e (with_level outer l (var 1 0)) (moved_in 1 var) (outer-more c e outer levels g l s u (var 1 0) ho own.0 own.1 hu) (second-vars c e var s bs u ws typed hv)

-- a formula without quantifiers
abbrev pub IsCovered : (ℕ → Option Sort) → ℕ × Sort → Type 0
IsCovered levels leaf = levels leaf.0 ≡ Some leaf.1

abbrev value_or : Option Tree → Option ℕ → Option ℕ → Option ℕ
value_or None here there = here
value_or (Some t) here there = there

same-or : (c : List ℕ) (e : ℕ → Option ℕ) (o : Option Tree) (s : Sort) (g here : Option ℕ) → OuterAt c e o (Some s) g → g ≡ value_or o here g
same-or c e None s g here h = cc
same-or c e (Some t) s g here h = refl

takes-at : (c : List ℕ) (e : ℕ → Option ℕ) (o : Option Tree) (level : Option Sort) (g here : Option ℕ) → OuterAt c e o level g → MatchOption o (value_or o here g ≡ here) (λ put. IsSomeAnd (value_or o here g) (λ v. Means c e put v))
takes-at c e None level g here h = refl
takes-at c e (Some t) None g here h = cc
takes-at c e (Some t) (Some s) g here (put, u, is, gs, hs, hm, hu) =
    let same : put ≡ t = cc in
    subst (λ (o : Option ℕ). IsSomeAnd o (λ v. Means c e t v)) (sym gs) (subst (λ (x : Tree). Means c e x u) same hm)

sort-at : (c : List ℕ) (e : ℕ → Option ℕ) (o : Option Tree) (s : Sort) (g : Option ℕ) → OuterAt c e o (Some s) g → IfSome o (λ put. tree_sort put ≡ Some s)
sort-at c e None s g h = tt
sort-at c e (Some t) s g (put, u, is, gs, hs, hm, hu) = let same : put ≡ t = cc in subst (λ (x : Tree). tree_sort x ≡ Some s) same hs

same-constants : (c : List ℕ) (leaves : List (ℕ × Sort)) → AllByRecursion (SameConstant c c) leaves
same-constants c [] = tt
same-constants c (leaf ∷ leaves) = (refl, same-constants c leaves)

abbrev pub signed : Bool → Bool → Bool
signed plus v = if plus then v else not v

pub not-means : (c : List ℕ) (e : ℕ → Option ℕ) (t : Tree) (v : Bool) → tree_sort t ≡ Some BoolSort → Means c e t (truth v) → (tree_sort (negation t) ≡ Some BoolSort) × Means c e (negation t) (truth (not v))
not-means c e t true st m = (rw st refl, (BoolSort ∷ [], 1 ∷ [], rw st refl, (1, [], m, refl, refl), refl))
not-means c e t false st m = (rw st refl, (BoolSort ∷ [], 0 ∷ [], rw st refl, (0, [], m, refl, refl), refl))

pub unquantified-tells : (c : List ℕ) (t : Tree) (plus : Bool) (levels : ℕ → Option Sort) (g : ℕ → Option ℕ) (v : Bool) (ws : List (List ℕ)) → IsQuantifierFree t → tree_sort t ≡ Some BoolSort →
    AllByRecursion (IsCovered levels) (free_levels t) → Means c g t (truth v) → Tells c (unquantified plus t) levels g (signed plus v) ws
unquantified-tells c t plus levels g v ws plain st covered m e outer var ho hv = by-sign plus
  where
    f : ℕ → Option ℕ
    f l = value_or (outer l) (e l) (g l)

    agree : (leaves : List (ℕ × Sort)) → AllByRecursion (IsCovered levels) leaves → AllByRecursion (Agree g f) leaves
    agree [] h = tt
    agree (leaf ∷ leaves) h = (same-or c e (outer leaf.0) leaf.1 (g leaf.0) (e leaf.0) (subst (λ (k : Option Sort). OuterAt c e (outer leaf.0) k (g leaf.0)) h.0 (ho leaf.0)), agree leaves h.1)

    sorts : (leaves : List (ℕ × Sort)) → AllByRecursion (IsCovered levels) leaves → AllByRecursion (HasItsSort outer) leaves
    sorts [] h = tt
    sorts (leaf ∷ leaves) h = (sort-at c e (outer leaf.0) leaf.1 (g leaf.0) (subst (λ (k : Option Sort). OuterAt c e (outer leaf.0) k (g leaf.0)) h.0 (ho leaf.0)), sorts leaves h.1)

    takes : (leaves : List (ℕ × Sort)) → AllByRecursion (TakesItsMeaning c outer e f) leaves
    takes [] = tt
    takes (leaf ∷ leaves) = (takes-at c e (outer leaf.0) (levels leaf.0) (g leaf.0) (e leaf.0) (ho leaf.0), takes leaves)

    sort : tree_sort (replaced outer t) ≡ Some BoolSort
    sort = same_sort t outer plain (sorts (free_levels t) covered) ∙ st

    value : Means c e (replaced outer t) (truth v)
    value = same_value t c outer e f (truth v) plain (sorts (free_levels t) covered) (takes (free_levels t)) (same_meaning t c c g f (truth v) (same-constants c (constants_of t)) (agree (free_levels t) covered) m)

    by-sign : (plus : Bool) → (tree_sort (under_sign plus (replaced outer t)) ≡ Some BoolSort) × Means c e (under_sign plus (replaced outer t)) (truth (signed plus v))
    by-sign true = (sort, value)
    by-sign false = not-means c e (replaced outer t) v sort value
