-- Forms that say what holds: their closing tells each truth value that does.
use Rattle.std.proofs.Common.{◌≡◌, ℕ, zero, suc, ◌+◌, ◌==◌, Bool, true, false, ◌&&◌, ◌||◌, if◌then◌else◌, Option, Some, List, [], ◌∷◌, length, slice_get, refl, sym, ap, ◌∙◌, subst, arith}
use Rattle.std.specs.Prelude.{IsSomeAnd, IfSome}
use Rattle.qv_words.specs.declared.sort.Sort.{Sort}
use Rattle.qv_words.specs.declared.sort.Sort.TheVariants.{Bool as BoolSort}
use Rattle.qv_words.specs.declared.op.Op.{Op}
use Rattle.qv_words.specs.declared.op.Op.TheVariants.{And, Or}
use Rattle.qv_words.specs.Sort.{IsValueOf}
use Rattle.qv_words.specs.Op.{truth}
use Rattle.qv_words.specs.Tree.{Tree, tree_sort}
use Rattle.qv_words.specs.Sorted.{with_level}
use Rattle.qv_words.specs.Meaning.{Means}
use Rattle.qv_words.specs.Prenex.{Form, joined_blocks, block_at, with_first, joined, with_existential, with_universal, moved_in, binary}
use Rattle.qv_words.specs.Problem.{Existential, Universal}
use Rattle.qv_prenex_laws.proofs.Closing.{AreOf, AreTyped, joined_values, with_value, wants, Closed, Picks, weaker, both-closed, always, closed-first, closed-empty, picks-one}
use Rattle.qv_prenex_laws.proofs.Forms.{OuterOk, VarsOk, Tells, row_at, and-means, or-means, existential-tells, alone-tells, second-tells, left-vars, right-vars, block-joined, behind, outer-more}
use Rattle.qv_words.proofs.Elements.{in-front}
use Rattle.std.proofs.lemmas.Bool.{ne_eqb}

-- what holds of each variable in range and its sort
abbrev pub VarsAre : (Tree → Sort → Type 0) → (ℕ → ℕ → Tree) → List (List Sort) → Type 0
VarsAre H var blocks = (i j : ℕ) (s : Sort) → slice_get (block_at blocks i) j ≡ Some s → H (var i j) s

-- it has its sort and some value
abbrev pub HasSomeValue : List ℕ → (ℕ → Option ℕ) → Tree → Sort → Type 0
HasSomeValue c e t s = (tree_sort t ≡ Some s) × (u : ℕ) × IsValueOf u s × Means c e t u

abbrev pub VarsSome : List ℕ → (ℕ → Option ℕ) → (ℕ → ℕ → Tree) → List (List Sort) → Type 0
VarsSome c e = VarsAre (HasSomeValue c e)

abbrev pub MeansTruth : List ℕ → (ℕ → Option ℕ) → Tree → Type 0
MeansTruth c e t = (tree_sort t ≡ Some BoolSort) × (v : Bool) × Means c e t (truth v)

abbrev pub HasSome : List ℕ → Form → (ℕ → Option Sort) → Type 0
HasSome c f levels = (e : ℕ → Option ℕ) (outer : ℕ → Option Tree) (var : ℕ → ℕ → Tree) (g : ℕ → Option ℕ) → OuterOk c e outer levels g → VarsSome c e var f.blocks → MeansTruth c e (f.matrix outer var)

-- values that are there
pub slot : (xs : List ℕ) (ss : List Sort) (j : ℕ) (s : Sort) → AreOf xs ss → slice_get ss j ≡ Some s → (u : ℕ) × (slice_get xs j ≡ Some u) × IsValueOf u s
slot [] [] j s h e = cc
slot [] (t ∷ ss) j s h e = absurd h
slot (x ∷ xs) [] j s h e = cc
slot (x ∷ xs) (t ∷ ss) zero s h e = let same : t ≡ s = cc in (x, refl, subst (IsValueOf x) same h.0)
slot (x ∷ xs) (t ∷ ss) (suc j) s h e = slot xs ss j s h.1 e

row-slot : (ws : List (List ℕ)) (bs : List (List Sort)) (i j : ℕ) (s : Sort) → AreTyped ws bs → slice_get (block_at bs i) j ≡ Some s → (u : ℕ) × (slice_get (row_at ws i) j ≡ Some u) × IsValueOf u s
row-slot [] [] i j s h e = cc
row-slot [] (b ∷ bs) i j s h e = absurd h
row-slot (w ∷ ws) [] i j s h e = cc
row-slot (w ∷ ws) (b ∷ bs) zero j s h e = slot w b j s h.0 e
row-slot (w ∷ ws) (b ∷ bs) (suc i) j s h e = row-slot ws bs i j s h.1 e

some-vars : (c : List ℕ) (e : ℕ → Option ℕ) (var : ℕ → ℕ → Tree) (bs : List (List Sort)) (ws : List (List ℕ)) → AreTyped ws bs → VarsOk c e var bs ws → VarsSome c e var bs
some-vars c e var bs ws typed h i j s hs =
    let r = row-slot ws bs i j s typed hs in
    let m = h i j s r.0 hs r.1 in
    (m.0, r.0, r.2, m.1)

pub left-are : (H : Tree → Sort → Type 0) (var : ℕ → ℕ → Tree) (as' bs : List (List Sort)) → VarsAre H var (joined_blocks as' bs) → VarsAre H var as'
left-are H var as' bs h i j s hs = h i j s (ap (λ b. slice_get b j) (block-joined as' bs i) ∙ in-front (block_at as' i) (block_at bs i) j s hs)

pub right-are : (H : Tree → Sort → Type 0) (var : ℕ → ℕ → Tree) (as' bs : List (List Sort)) → VarsAre H var (joined_blocks as' bs) → VarsAre H (λ i j. var i (length (block_at as' i) + j)) bs
right-are H var as' bs h i j s hs =
    h i (length (block_at as' i) + j) s (ap (λ b. slice_get b (length (block_at as' i) + j)) (block-joined as' bs i) ∙ behind (block_at as' i) (block_at bs i) j ∙ hs)

-- and, or: what each of two trees means makes what both mean
abbrev pub Makes : Op → (Bool → Bool → Bool) → Type 0
Makes o both = (c : List ℕ) (e : ℕ → Option ℕ) (a b : Tree) (v w : Bool) → tree_sort a ≡ Some BoolSort → tree_sort b ≡ Some BoolSort → Means c e a (truth v) → Means c e b (truth w) →
    (tree_sort (binary o a b) ≡ Some BoolSort) × Means c e (binary o a b) (truth (both v w))

joined-some : (o : Op) (both : Bool → Bool → Bool) → Makes o both → (c : List ℕ) (a b : Form) (levels : ℕ → Option Sort) → HasSome c a levels → HasSome c b levels → HasSome c (joined o a b) levels
joined-some o both makes c a b levels ha hb e outer var g ho hv =
    let x = ha e outer var g ho (left-are (HasSomeValue c e) var a.blocks b.blocks hv) in
    let y = hb e outer (λ i j. var i (length (block_at a.blocks i) + j)) g ho (right-are (HasSomeValue c e) var a.blocks b.blocks hv) in
    let m = makes c e (a.matrix outer var) (b.matrix outer (λ i j. var i (length (block_at a.blocks i) + j))) x.1 y.1 x.0 y.0 x.2 y.2 in
    (m.0, both x.1 y.1, m.1)

-- both tell, or one tells and it is enough
joined-tells : (o : Op) (both : Bool → Bool → Bool) → Makes o both → (c : List ℕ) (a b : Form) (levels : ℕ → Option Sort) (g : ℕ → Option ℕ) (v w : Bool) (ws us : List (List ℕ)) → AreTyped ws a.blocks →
    Tells c a levels g v ws → Tells c b levels g w us → Tells c (joined o a b) levels g (both v w) (joined_values ws us)
joined-tells o both makes c a b levels g v w ws us typed ha hb e outer var ho hv =
    let x = ha e outer var ho (left-vars c e var a.blocks b.blocks ws us hv) in
    let y = hb e outer (λ i j. var i (length (block_at a.blocks i) + j)) ho (right-vars c e var a.blocks b.blocks ws us typed hv) in
    makes c e (a.matrix outer var) (b.matrix outer (λ i j. var i (length (block_at a.blocks i) + j))) v w x.0 y.0 x.1 y.1

left-tells : (o : Op) (both : Bool → Bool → Bool) → Makes o both → (c : List ℕ) (a b : Form) (levels : ℕ → Option Sort) (g : ℕ → Option ℕ) (v r : Bool) (ws us : List (List ℕ)) → AreTyped ws a.blocks → AreTyped us b.blocks →
    ((w : Bool) → both v w ≡ r) → Tells c a levels g v ws → HasSome c b levels → Tells c (joined o a b) levels g r (joined_values ws us)
left-tells o both makes c a b levels g v r ws us typed typed' enough ha hb e outer var ho hv =
    let x = ha e outer var ho (left-vars c e var a.blocks b.blocks ws us hv) in
    let right = right-vars c e var a.blocks b.blocks ws us typed hv in
    let y = hb e outer (λ i j. var i (length (block_at a.blocks i) + j)) g ho (some-vars c e (λ i j. var i (length (block_at a.blocks i) + j)) b.blocks us typed' right) in
    let m = makes c e (a.matrix outer var) (b.matrix outer (λ i j. var i (length (block_at a.blocks i) + j))) v y.1 x.0 y.0 x.1 y.2 in
    (m.0, subst (λ (k : Bool). Means c e ((joined o a b).matrix outer var) (truth k)) (enough y.1) m.1)

right-tells : (o : Op) (both : Bool → Bool → Bool) → Makes o both → (c : List ℕ) (a b : Form) (levels : ℕ → Option Sort) (g : ℕ → Option ℕ) (w r : Bool) (ws us : List (List ℕ)) → AreTyped ws a.blocks →
    ((v : Bool) → both v w ≡ r) → HasSome c a levels → Tells c b levels g w us → Tells c (joined o a b) levels g r (joined_values ws us)
right-tells o both makes c a b levels g w r ws us typed enough ha hb e outer var ho hv =
    let left = left-vars c e var a.blocks b.blocks ws us hv in
    let x = ha e outer var g ho (some-vars c e var a.blocks ws typed left) in
    let y = hb e outer (λ i j. var i (length (block_at a.blocks i) + j)) ho (right-vars c e var a.blocks b.blocks ws us typed hv) in
    let m = makes c e (a.matrix outer var) (b.matrix outer (λ i j. var i (length (block_at a.blocks i) + j))) x.1 w x.0 y.0 x.2 y.1 in
    (m.0, subst (λ (k : Bool). Means c e ((joined o a b).matrix outer var) (truth k)) (enough x.1) m.1)

-- values of their sorts for the levels that are bound outside
abbrev pub Valued : (ℕ → Option Sort) → (ℕ → Option ℕ) → Type 0
Valued levels g = (l : ℕ) → IfSome (levels l) (λ s. IsSomeAnd (g l) (λ u. IsValueOf u s))

-- what a form says: a relation of the values outside and a truth value
pub record Says (c : List ℕ) (levels : ℕ → Option Sort) (f : Form) (T : (ℕ → Option ℕ) → Bool → Type 0) : Type 0 where
  pub some : HasSome c f levels
  pub closed : (g : ℕ → Option ℕ) (v : Bool) → Valued levels g → T g v → Closed Existential v f.blocks (Tells c f levels g v)

abbrev pub OfBoth : (Bool → Bool → Bool) → ((ℕ → Option ℕ) → Bool → Type 0) → ((ℕ → Option ℕ) → Bool → Type 0) → (ℕ → Option ℕ) → Bool → Type 0
OfBoth both A B g v = (x : Bool) × (y : Bool) × A g x × B g y × (both x y ≡ v)

-- the closing of a joined form: where the values differ, one of them is enough
both-tell : (o : Op) (both : Bool → Bool → Bool) → Makes o both → (c : List ℕ) (a b : Form) (levels : ℕ → Option Sort) (g : ℕ → Option ℕ) (v : Bool) → both v v ≡ v →
    Closed Existential v a.blocks (Tells c a levels g v) → Closed Existential v b.blocks (Tells c b levels g v) → Closed Existential v (joined o a b).blocks (Tells c (joined o a b) levels g v)
both-tell o both makes c a b levels g v same ha hb =
    both-closed Existential v a.blocks b.blocks (Tells c a levels g v) (Tells c b levels g v) (Tells c (joined o a b) levels g v)
    (λ ws us hw hu x y. subst (λ (k : Bool). Tells c (joined o a b) levels g k (joined_values ws us)) same (joined-tells o both makes c a b levels g v v ws us hw x y)) ha hb

left-tell : (o : Op) (both : Bool → Bool → Bool) → Makes o both → (c : List ℕ) (a b : Form) (levels : ℕ → Option Sort) (g : ℕ → Option ℕ) (v : Bool) → ((w : Bool) → both v w ≡ v) →
    Closed Existential v a.blocks (Tells c a levels g v) → HasSome c b levels → Closed Existential v (joined o a b).blocks (Tells c (joined o a b) levels g v)
left-tell o both makes c a b levels g v enough ha hb =
    both-closed Existential v a.blocks b.blocks (Tells c a levels g v) (λ us. Unit {0}) (Tells c (joined o a b) levels g v)
    (λ ws us hw hu x y. left-tells o both makes c a b levels g v v ws us hw hu enough x hb) ha (always Existential v b.blocks (λ us. Unit {0}) (λ us hu. tt))

right-tell : (o : Op) (both : Bool → Bool → Bool) → Makes o both → (c : List ℕ) (a b : Form) (levels : ℕ → Option Sort) (g : ℕ → Option ℕ) (w : Bool) → ((v : Bool) → both v w ≡ w) →
    HasSome c a levels → Closed Existential w b.blocks (Tells c b levels g w) → Closed Existential w (joined o a b).blocks (Tells c (joined o a b) levels g w)
right-tell o both makes c a b levels g w enough ha hb =
    both-closed Existential w a.blocks b.blocks (λ us. Unit {0}) (Tells c b levels g w) (Tells c (joined o a b) levels g w)
    (λ ws us hw hu x y. right-tells o both makes c a b levels g w w ws us hw enough ha y) (always Existential w a.blocks (λ us. Unit {0}) (λ us hu. tt)) hb

and-false : (v : Bool) → (v && false) ≡ false
and-false true = refl
and-false false = refl

or-true : (v : Bool) → (v || true) ≡ true
or-true true = refl
or-true false = refl

pub and-says : (c : List ℕ) (levels : ℕ → Option Sort) (a b : Form) (A B : (ℕ → Option ℕ) → Bool → Type 0) → Says c levels a A → Says c levels b B → Says c levels (joined And a b) (OfBoth (λ x y. x && y) A B)
and-says c levels a b A B ha hb = record { some = joined-some And (λ x y. x && y) and-means c a b levels ha.some hb.some; closed = λ g v hg h. go g v hg h.0 h.1 h.2 h.3 h.4 }
  where
    go : (g : ℕ → Option ℕ) (v : Bool) → Valued levels g → (x y : Bool) → A g x → B g y → (x && y) ≡ v → Closed Existential v (joined And a b).blocks (Tells c (joined And a b) levels g v)
    go g v hg true true p q e = subst (λ (k : Bool). Closed Existential k (joined And a b).blocks (Tells c (joined And a b) levels g k)) e (both-tell And (λ x y. x && y) and-means c a b levels g true refl (ha.closed g true hg p) (hb.closed g true hg q))
    go g v hg true false p q e = subst (λ (k : Bool). Closed Existential k (joined And a b).blocks (Tells c (joined And a b) levels g k)) e (right-tell And (λ x y. x && y) and-means c a b levels g false and-false ha.some (hb.closed g false hg q))
    go g v hg false y p q e = subst (λ (k : Bool). Closed Existential k (joined And a b).blocks (Tells c (joined And a b) levels g k)) e (left-tell And (λ x y. x && y) and-means c a b levels g false (λ w. refl) (ha.closed g false hg p) hb.some)

pub or-says : (c : List ℕ) (levels : ℕ → Option Sort) (a b : Form) (A B : (ℕ → Option ℕ) → Bool → Type 0) → Says c levels a A → Says c levels b B → Says c levels (joined Or a b) (OfBoth (λ x y. x || y) A B)
or-says c levels a b A B ha hb = record { some = joined-some Or (λ x y. x || y) or-means c a b levels ha.some hb.some; closed = λ g v hg h. go g v hg h.0 h.1 h.2 h.3 h.4 }
  where
    go : (g : ℕ → Option ℕ) (v : Bool) → Valued levels g → (x y : Bool) → A g x → B g y → (x || y) ≡ v → Closed Existential v (joined Or a b).blocks (Tells c (joined Or a b) levels g v)
    go g v hg false false p q e = subst (λ (k : Bool). Closed Existential k (joined Or a b).blocks (Tells c (joined Or a b) levels g k)) e (both-tell Or (λ x y. x || y) or-means c a b levels g false refl (ha.closed g false hg p) (hb.closed g false hg q))
    go g v hg false true p q e = subst (λ (k : Bool). Closed Existential k (joined Or a b).blocks (Tells c (joined Or a b) levels g k)) e (right-tell Or (λ x y. x || y) or-means c a b levels g true or-true ha.some (hb.closed g true hg q))
    go g v hg true y p q e = subst (λ (k : Bool). Closed Existential k (joined Or a b).blocks (Tells c (joined Or a b) levels g k)) e (left-tell Or (λ x y. x || y) or-means c a b levels g true (λ w. refl) (ha.closed g true hg p) hb.some)

pub says-more : (c : List ℕ) (levels : ℕ → Option Sort) (f : Form) (A B : (ℕ → Option ℕ) → Bool → Type 0) → ((g : ℕ → Option ℕ) (v : Bool) → Valued levels g → B g v → A g v) → Says c levels f A → Says c levels f B
says-more c levels f A B go h = record { some = h.some; closed = λ g v hg b. h.closed g v hg (go g v hg b) }

-- quantifiers
valued-more : (levels : ℕ → Option Sort) (g : ℕ → Option ℕ) (l : ℕ) (s : Sort) (u : ℕ) → Valued levels g → IsValueOf u s → Valued (with_level levels l s) (with_level g l u)
valued-more levels g l s u h hu k = go (k == l)
  where
    go : (b : Bool) → IfSome (if b then Some s else levels k) (λ t. IsSomeAnd (if b then Some u else g k) (λ w. IsValueOf w t))
    go true = hu
    go false = h k

pub picks-to : (m : Bool) (s : Sort) (P R : ℕ → Type 0) → ((u : ℕ) → IsValueOf u s → P u → R u) → Picks m s P → Picks m s R
picks-to true s P R go (u, hu, p) = (u, hu, go u hu p)
picks-to false s P R go h = λ u hu. go u hu (h u hu)

pub first-are : (H : Tree → Sort → Type 0) (var : ℕ → ℕ → Tree) (s : Sort) (bs : List (List Sort)) → VarsAre H var (with_first s bs) → VarsAre H (moved_in 0 var) bs
first-are H var s [] h i j t hs = cc
first-are H var s (b ∷ bs) h zero j t hs = h 0 (suc j) t hs
first-are H var s (b ∷ bs) h (suc i) j t hs = rw (ne_eqb (suc i) 0 (λ k. omega (arith, k))) (h (suc i) j t hs)

pub own-are : (H : Tree → Sort → Type 0) (var : ℕ → ℕ → Tree) (s : Sort) (bs : List (List Sort)) → VarsAre H var (with_first s bs) → H (var 0 0) s
own-are H var s [] h = h 0 0 s refl
own-are H var s (b ∷ bs) h = h 0 0 s refl

pub existential-says : (c : List ℕ) (levels : ℕ → Option Sort) (l : ℕ) (s : Sort) (f : Form) (A : (ℕ → Option ℕ) → Bool → Type 0) → Says c (with_level levels l s) f A →
    Says c levels (with_existential l s f) (λ g v. Picks (wants Existential v) s (λ u. A (with_level g l u) v))
existential-says c levels l s f A h = record {
  some = λ e outer var g ho hv.
      let own = own-are (HasSomeValue c e) var s f.blocks hv in
      h.some e (with_level outer l (var 0 0)) (moved_in 0 var) (with_level g l own.1) (outer-more c e outer levels g l s own.1 (var 0 0) ho own.0 own.3 own.2) (first-are (HasSomeValue c e) var s f.blocks hv);
  closed = λ g v hg p.
      closed-first Existential v s f.blocks (Tells c (with_existential l s f) levels g v)
      (picks-to (wants Existential v) s (λ u. A (with_level g l u) v) (λ u. Closed Existential v f.blocks (λ ws. Tells c (with_existential l s f) levels g v (with_value u ws)))
      (λ u hu a. weaker Existential v f.blocks (Tells c f (with_level levels l s) (with_level g l u) v) (λ ws. Tells c (with_existential l s f) levels g v (with_value u ws))
      (λ ws typed t. existential-tells c l s f levels g v u ws hu typed t) (h.closed (with_level g l u) v (valued-more levels g l s u hg hu) a)) p);
}

pub alone-are : (H : Tree → Sort → Type 0) (var : ℕ → ℕ → Tree) (s : Sort) (bs : List (List Sort)) → VarsAre H var ([] ∷ (s ∷ []) ∷ bs) → VarsAre H (λ i j. var (i + 2) j) bs
alone-are H var s bs h i j t hs =
    let two : i + 2 ≡ suc (suc i) = omega arith in
    subst (λ (k : ℕ). H (var k j) t) (sym two) (h (suc (suc i)) j t hs)

abbrev alone : ℕ → Sort → Form → Form
alone l s f = record { blocks = [] ∷ (s ∷ []) ∷ f.blocks; matrix = λ outer var. f.matrix (with_level outer l (var 1 0)) (λ i j. var (i + 2) j) }

alone-says : (c : List ℕ) (levels : ℕ → Option Sort) (l : ℕ) (s : Sort) (f : Form) (A : (ℕ → Option ℕ) → Bool → Type 0) → Says c (with_level levels l s) f A →
    Says c levels (alone l s f) (λ g v. Picks (wants Universal v) s (λ u. A (with_level g l u) v))
alone-says c levels l s f A h = record {
  some = λ e outer var g ho hv.
      let own = hv 1 0 s refl in
      h.some e (with_level outer l (var 1 0)) (λ i j. var (i + 2) j) (with_level g l own.1) (outer-more c e outer levels g l s own.1 (var 1 0) ho own.0 own.3 own.2) (alone-are (HasSomeValue c e) var s f.blocks hv);
  closed = λ g v hg p.
      closed-empty Existential v ((s ∷ []) ∷ f.blocks) (Tells c (alone l s f) levels g v)
      (picks-one (wants Universal v) s (λ xs. Closed Existential v f.blocks (λ ws. Tells c (alone l s f) levels g v ([] ∷ xs ∷ ws)))
      (picks-to (wants Universal v) s (λ u. A (with_level g l u) v) (λ u. Closed Existential v f.blocks (λ ws. Tells c (alone l s f) levels g v ([] ∷ (u ∷ []) ∷ ws)))
      (λ u hu a. weaker Existential v f.blocks (Tells c f (with_level levels l s) (with_level g l u) v) (λ ws. Tells c (alone l s f) levels g v ([] ∷ (u ∷ []) ∷ ws))
      (λ ws typed t. alone-tells c l s f levels g v u ws hu t) (h.closed (with_level g l u) v (valued-more levels g l s u hg hu) a)) p));
}

-- the body's form with an empty first block, and the universal form over it
abbrev over_empty : List (List Sort) → ((ℕ → Option Tree) → (ℕ → ℕ → Tree) → Tree) → Form
over_empty bs matrix = record { blocks = [] ∷ bs; matrix = matrix }

abbrev second : ℕ → Sort → List (List Sort) → ((ℕ → Option Tree) → (ℕ → ℕ → Tree) → Tree) → Form
second l s bs matrix = record { blocks = [] ∷ with_first s bs; matrix = λ outer var. matrix (with_level outer l (var 1 0)) (moved_in 1 var) }

pub second-own_are : (H : Tree → Sort → Type 0) (var : ℕ → ℕ → Tree) (s : Sort) (bs : List (List Sort)) → VarsAre H var ([] ∷ with_first s bs) → H (var 1 0) s
second-own_are H var s [] h = h 1 0 s refl
second-own_are H var s (b ∷ bs) h = h 1 0 s refl

pub second-are : (H : Tree → Sort → Type 0) (var : ℕ → ℕ → Tree) (s : Sort) (bs : List (List Sort)) → VarsAre H var ([] ∷ with_first s bs) → VarsAre H (moved_in 1 var) ([] ∷ bs)
second-are H var s bs h zero j t hs = cc
second-are H var s [] h (suc i) j t hs = cc
second-are H var s (b ∷ bs) h (suc zero) j t hs = h 1 (suc j) t hs
second-are H var s (b ∷ bs) h (suc (suc i)) j t hs = rw (ne_eqb (suc (suc i)) 1 (λ k. omega (arith, k))) (h (suc (suc i)) j t hs)

from-empty : (v : Bool) (bs : List (List Sort)) (P : List (List ℕ) → Type 0) → Closed Existential v ([] ∷ bs) P → Closed Universal v bs (λ ws. P ([] ∷ ws))
from-empty true bs P ([], hx, p) = p
from-empty true bs P (x ∷ xs, hx, p) = absurd hx
from-empty false bs P h = h [] tt

second-says : (c : List ℕ) (levels : ℕ → Option Sort) (l : ℕ) (s : Sort) (bs : List (List Sort)) (matrix : (ℕ → Option Tree) → (ℕ → ℕ → Tree) → Tree) (A : (ℕ → Option ℕ) → Bool → Type 0) → Says c (with_level levels l s) (over_empty bs matrix) A →
    Says c levels (second l s bs matrix) (λ g v. Picks (wants Universal v) s (λ u. A (with_level g l u) v))
second-says c levels l s bs matrix A h = record {
  some = λ e outer var g ho hv.
      let own = second-own_are (HasSomeValue c e) var s bs hv in
      h.some e (with_level outer l (var 1 0)) (moved_in 1 var) (with_level g l own.1) (outer-more c e outer levels g l s own.1 (var 1 0) ho own.0 own.3 own.2) (second-are (HasSomeValue c e) var s bs hv);
  closed = λ g v hg p.
      closed-empty Existential v (with_first s bs) (Tells c (second l s bs matrix) levels g v)
      (closed-first Universal v s bs (λ ws. Tells c (second l s bs matrix) levels g v ([] ∷ ws))
      (picks-to (wants Universal v) s (λ u. A (with_level g l u) v) (λ u. Closed Universal v bs (λ ws. Tells c (second l s bs matrix) levels g v ([] ∷ with_value u ws)))
      (λ u hu a. weaker Universal v bs (λ ws. Tells c (over_empty bs matrix) (with_level levels l s) (with_level g l u) v ([] ∷ ws)) (λ ws. Tells c (second l s bs matrix) levels g v ([] ∷ with_value u ws))
      (λ ws typed t. second-tells c l s bs matrix levels g v u ws hu typed t)
      (from-empty v bs (Tells c (over_empty bs matrix) (with_level levels l s) (with_level g l u) v) (h.closed (with_level g l u) v (valued-more levels g l s u hg hu) a))) p));
}

-- a form without blocks, with an empty one
with-empty : (c : List ℕ) (levels : ℕ → Option Sort) (matrix : (ℕ → Option Tree) → (ℕ → ℕ → Tree) → Tree) (A : (ℕ → Option ℕ) → Bool → Type 0) → Says c levels (record { blocks = []; matrix = matrix }) A → Says c levels (over_empty [] matrix) A
with-empty c levels matrix A h = record {
  some = λ e outer var g ho hv. h.some e outer var g ho (λ i j s hs. cc);
  closed = λ g v hg a. closed-empty Existential v [] (Tells c (over_empty [] matrix) levels g v) (λ e outer var ho hv. h.closed g v hg a e outer var ho (λ i j s u hs hu. cc));
}

pub universal-says : (c : List ℕ) (levels : ℕ → Option Sort) (l : ℕ) (s : Sort) (f : Form) (A : (ℕ → Option ℕ) → Bool → Type 0) → Says c (with_level levels l s) f A →
    Says c levels (with_universal l s f) (λ g v. Picks (wants Universal v) s (λ u. A (with_level g l u) v))
universal-says c levels l s f A h = by-blocks f.blocks f.matrix h
  where
    by-blocks : (blocks : List (List Sort)) (matrix : (ℕ → Option Tree) → (ℕ → ℕ → Tree) → Tree) → Says c (with_level levels l s) (record { blocks = blocks; matrix = matrix }) A →
        Says c levels (with_universal l s (record { blocks = blocks; matrix = matrix })) (λ g v. Picks (wants Universal v) s (λ u. A (with_level g l u) v))
    by-blocks [] matrix k = second-says c levels l s [] matrix A (with-empty c (with_level levels l s) matrix A k)
    by-blocks ([] ∷ bs) matrix k = second-says c levels l s bs matrix A k
    by-blocks ((b ∷ block) ∷ bs) matrix k = rw (ne_eqb (length (b ∷ block)) 0 (λ e. omega (arith, e))) (alone-says c levels l s (record { blocks = (b ∷ block) ∷ bs; matrix = matrix }) A k)
