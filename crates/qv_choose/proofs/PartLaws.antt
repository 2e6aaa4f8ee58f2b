-- The conjuncts in which a place stands, and terms put into them.
use Rattle.std.proofs.Common.{◌≡◌, ℕ, zero, suc, ◌+◌, ◌<◌, ◌≤◌, ◌==◌, ◌&&◌, ◌||◌, nat_le, nat_lt, inl, inr, Bool, true, false, cond, not, Option, Some, None, List, [], ◌∷◌, ◌++◌, length, map, set, get_or, take, drop, refl, sym, ap, ◌∙◌, subst, arith, slice_get, length-append, append_assoc, add-one}
use Rattle.std.specs.Prelude.{unwrap_or}
use Rattle.std.specs.List.{AllByRecursion, AllZip, list_any}
use Rattle.std.proofs.lemmas.Bool.{eqb-true, le-leb, lt-ltb}
use Rattle.std.proofs.lemmas.List.{map-append, take_more}
use Rattle.std.proofs.lemmas.Option.{slice_get_within, slice_get-get_or}
use Rattle.qv_words.specs.declared.sort.Sort.{Sort}
use Rattle.qv_words.specs.Tree.{Tree, Trees, Constant, Variable, Literal, Apply, ForAll, Exists, Nil, Cons, IsQuantifierFree, AreQuantifierFree}
use Rattle.qv_words.specs.Sorted.{no_levels, with_level, free_levels, free_levels_of_all}
use Rattle.qv_words.specs.Replacement.{replaced, replaced_each}
use Rattle.qv_words.specs.Choice.{occurrences, occurrences_in_each, is_in, is_outside, with_term}
use Rattle.qv_words.proofs.Leaves.{front, back, both}
use Rattle.qv_words.proofs.Elements.{all-at, all-weaker, get-map, dropped-at, dropped-none, zip-append}
use Rattle.qv_store.specs.Nodes.{tree_at}
use Rattle.qv_store.specs.Stores.{StandsAt, Grows}
use Rattle.qv_store.specs.Walks.{named}
use Rattle.qv_choose_paths.proofs.RowTerms.{longer}
use Rattle.qv_choose_paths.proofs.SceneLaws.{named-grows}
use Rattle.qv_choose.specs.Conjuncts.{LeavesOut, nothing, kept, left_out, ArePicked, at_end, picked, passed}
use Rattle.qv_choose.specs.Listing.{AreListed}
use Rattle.qv_choose.proofs.Giving.{never-in}
use Rattle.qv_choose.specs.Parts.{Takes, AreAt}
use Rattle.qv_choose.proofs.Parts.{stays}

-- ---- the members of these numbers

pub left-picked : (x n : ℕ) (ts : List Tree) (own : List ℕ) (full vs : List Tree) → ((k : ℕ) (u : Tree) → slice_get ts k ≡ Some u → slice_get full (n + k) ≡ Some u) → ArePicked x n ts own
    → AllZip (λ i v. slice_get full i ≡ Some v) own vs → LeavesOut x ts vs
left-picked x n ts own full [] at (at_end m) h = nothing
left-picked x n ts own full (v ∷ vs) at (at_end m) h = absurd h
left-picked x n ts own full [] at (picked m u us rest k) h = absurd h
left-picked x n ts own full (v ∷ vs) at (picked m u us rest k) h =
    let plain : m + 0 ≡ m = omega arith in
    let both-are : Some u ≡ Some v = sym (at 0 u refl) ∙ ap (slice_get full) plain ∙ h.0 in
    let same : u ≡ v = cc in
    subst (λ (w : Tree). LeavesOut x (u ∷ us) (w ∷ vs)) same
    (kept u us vs (left-picked x (suc m) us rest full vs (λ j w e. let next : m + suc j ≡ suc m + j = omega arith in ap (slice_get full) (sym next) ∙ at (suc j) w e) k h.1))
left-picked x n ts own full vs at (passed m u us rest none k) h =
    left_out u us vs none (left-picked x (suc m) us rest full vs (λ j w e. let next : m + suc j ≡ suc m + j = omega arith in ap (slice_get full) (sym next) ∙ at (suc j) w e) k h)

pub zip-all : {A : Type 0} (Q : A → Type 0) (xs : List A) (own : List ℕ) (ys : List A) → AllByRecursion Q xs → AllZip (λ i y. slice_get xs i ≡ Some y) own ys → AllByRecursion Q ys
zip-all Q xs [] [] h k = tt
zip-all Q xs (i ∷ own) (y ∷ ys) h k = (all-at Q xs i y h k.0, zip-all Q xs own ys h k.1)
zip-all Q xs [] (y ∷ ys) h k = absurd k
zip-all Q xs (i ∷ own) [] h k = absurd k

-- the next number that was picked
pub record NextPicked (x n : ℕ) (ts : List Tree) (i : ℕ) (rest : List ℕ) : Type 0 where
  pub before : List Tree
  pub member : Tree
  pub behind : List Tree
  pub split : ts ≡ before ++ member ∷ behind
  pub number : i ≡ n + length before
  pub out : AllByRecursion (λ t. is_in x t ≡ false) before
  pub more : ArePicked x (suc i) behind rest

pub next-picked : (x n : ℕ) (ts : List Tree) (i : ℕ) (rest : List ℕ) → ArePicked x n ts (i ∷ rest) → NextPicked x n ts i rest
next-picked x n ts i rest (picked m u us rest2 k) = record { before = []; member = u; behind = us; split = refl; number = omega arith; out = tt; more = k }
next-picked x n ts i rest (passed m u us own none k) =
    let next = next-picked x (suc m) us i rest k in
    let at = next.number in
    record { before = u ∷ next.before; member = next.member; behind = next.behind; split = ap (λ vs. u ∷ vs) next.split; number = omega (arith, at); out = (none, next.out); more = next.more }

pub all-stay : (x : ℕ) (u : Tree) (ts : List Tree) → AllByRecursion (λ t. is_in x t ≡ false) ts → map (with_term x u) ts ≡ ts
all-stay x u [] h = refl
all-stay x u (t ∷ ts) h = ap (λ v. v ∷ map (with_term x u) ts) (stays x u t h.0) ∙ ap (λ vs. t ∷ vs) (all-stay x u ts h.1)

pub none-picked : (x n : ℕ) (ts : List Tree) (own : List ℕ) → own ≡ [] → ArePicked x n ts own → AllByRecursion (λ t. is_in x t ≡ false) ts
none-picked x n ts own e (at_end m) = tt
none-picked x n ts own e (picked m u us rest k) = absurd (cc)
none-picked x n ts own e (passed m u us rest none k) = (none, none-picked x (suc m) us rest e k)

-- ---- a place that isn't in a term isn't in what it is put into either

mutual
  stays-out : (y x : ℕ) (u t : Tree) → occurrences y u ≡ 0 → occurrences y t ≡ 0 → occurrences y (with_term x u t) ≡ 0
  stays-out y x u (Constant i s) g h = refl
  stays-out y x u (Variable l s) g h = go (l == x)
    where
      go : (b : Bool) → occurrences y (unwrap_or (cond b (Some u) None) (Variable l s)) ≡ 0
      go true = g
      go false = h
  stays-out y x u (Literal s n) g h = refl
  stays-out y x u (Apply o args) g h = stay-out y x u args g h
  stays-out y x u (ForAll l s body) g h = stays-out y x u body g h
  stays-out y x u (Exists l s body) g h = stays-out y x u body g h

  stay-out : (y x : ℕ) (u : Tree) (ts : Trees) → occurrences y u ≡ 0 → occurrences_in_each y ts ≡ 0 → occurrences_in_each y (replaced_each (with_level no_levels x u) ts) ≡ 0
  stay-out y x u Nil g h = refl
  stay-out y x u (Cons t ts) g h =
      let first : occurrences y t ≡ 0 = omega (arith, h) in
      let rest : occurrences_in_each y ts ≡ 0 = omega (arith, h) in
      let one = stays-out y x u t g first in
      let others = stay-out y x u ts g rest in
      omega (arith, one, others)

pub still-out : (y x : ℕ) (u t : Tree) → occurrences y u ≡ 0 → is_in y t ≡ false → is_in y (with_term x u t) ≡ false
still-out y x u t g h = ap (λ n. not (n == 0)) (stays-out y x u t g (never-in y t h))

picked-next : (y x n : ℕ) (u : Tree) (ts : List Tree) (own : List ℕ) → occurrences y u ≡ 0 → ArePicked y n ts own → ArePicked y n (map (with_term x u) ts) own
picked-next y x n u ts own g (at_end m) = at_end m
picked-next y x n u ts own g (picked m t us rest k) = picked m (with_term x u t) (map (with_term x u) us) rest (picked-next y x (suc m) u us rest g k)
picked-next y x n u ts own g (passed m t us rest none k) = passed m (with_term x u t) (map (with_term x u) us) rest (still-out y x u t g none) (picked-next y x (suc m) u us rest g k)

-- a term outside the block has no place of it
apart : (y first end : ℕ) → first ≤ y → y < end → (leaves : List (ℕ × Sort)) → not (list_any (λ leaf. nat_le first leaf.0 && nat_lt leaf.0 end) leaves) ≡ true → AllByRecursion (λ leaf. leaf.0 ≡ y → ⊥) leaves
apart y first end low high [] h = tt
apart y first end low high (leaf ∷ leaves) h = go (nat_le first leaf.0 && nat_lt leaf.0 end) refl h (apart y first end low high leaves)
  where
    inside : leaf.0 ≡ y → (nat_le first leaf.0 && nat_lt leaf.0 end) ≡ true
    inside e =
        ap (λ k. nat_le first k && nat_lt k end) e ∙ ap (λ b. b && nat_lt y end) (le-leb first y low) ∙ lt-ltb y end high

    go : (b : Bool) → (nat_le first leaf.0 && nat_lt leaf.0 end) ≡ b → not (b || list_any (λ other. nat_le first other.0 && nat_lt other.0 end) leaves) ≡ true → (not (list_any (λ other. nat_le first other.0 && nat_lt other.0 end) leaves) ≡ true → AllByRecursion (λ other. other.0 ≡ y → ⊥) leaves) → AllByRecursion (λ other. other.0 ≡ y → ⊥) (leaf ∷ leaves)
    go true is k rest = absurd (cc)
    go false is k rest = (λ e. let clash : true ≡ false = sym (inside e) ∙ is in cc, rest k)

mutual
  no-leaf : (y : ℕ) (t : Tree) → IsQuantifierFree t → AllByRecursion (λ leaf. leaf.0 ≡ y → ⊥) (free_levels t) → occurrences y t ≡ 0
  no-leaf y (Constant i s) free h = refl
  no-leaf y (Variable l s) free h = go (l == y) refl
    where
      go : (b : Bool) → (l == y) ≡ b → ◌≡◌ {A = ℕ} (cond b 1 0) 0
      go true e = absurd (h.0 (eqb-true l y e))
      go false e = refl
  no-leaf y (Literal s n) free h = refl
  no-leaf y (Apply o args) free h = no-leaves y args free h
  no-leaf y (ForAll l s body) free h = absurd free
  no-leaf y (Exists l s body) free h = absurd free

  no-leaves : (y : ℕ) (ts : Trees) → AreQuantifierFree ts → AllByRecursion (λ leaf. leaf.0 ≡ y → ⊥) (free_levels_of_all ts) → occurrences_in_each y ts ≡ 0
  no-leaves y Nil free h = refl
  no-leaves y (Cons t ts) free h =
      let one = no-leaf y t free.0 (front (λ leaf. leaf.0 ≡ y → ⊥) (free_levels t) (free_levels_of_all ts) h) in
      let others = no-leaves y ts free.1 (back (λ leaf. leaf.0 ≡ y → ⊥) (free_levels t) (free_levels_of_all ts) h) in
      omega (arith, one, others)

pub outside-never : (y first end : ℕ) (t : Tree) → first ≤ y → y < end → IsQuantifierFree t → is_outside first end t ≡ true → occurrences y t ≡ 0
outside-never y first end t low high free h = no-leaf y t free (apart y first end low high (free_levels t) h)

-- so the places stay listed
pub stay-listed : (first end x : ℕ) (u : Tree) (ts : List Tree) (lists : List (List ℕ)) → first + length lists ≤ end → IsQuantifierFree u → is_outside first end u ≡ true → AreListed first ts lists → AreListed first (map (with_term x u) ts) lists
stay-listed first end x u ts lists long free out h j own e =
    picked-next (first + j) x 0 u ts own (outside-never (first + j) first end u (omega arith) (omega (arith, long, slice_get_within lists j own e)) free out) (h j own e)

-- ---- one term after another is put in

-- what stands in the store for the members, of which the first ones have the term put in
pub record IsPutting (x : ℕ) (u : Tree) (was now : List Tree) (own : List ℕ) : Type 0 where
  pub done : List Tree
  pub left : List Tree
  pub before : was ≡ done ++ left
  pub are : now ≡ map (with_term x u) done ++ left
  pub picked : ArePicked x (length done) left own

pub put-none : (x : ℕ) (u : Tree) (was : List Tree) (own : List ℕ) → ArePicked x 0 was own → IsPutting x u was was own
put-none x u was own h = record { done = []; left = was; before = refl; are = refl; picked = h }

at-front : {A : Type 0} (xs ys : List A) (y : A) → slice_get (xs ++ y ∷ ys) (length xs) ≡ Some y
at-front [] ys y = refl
at-front (x ∷ xs) ys y = at-front xs ys y

set-front : {A : Type 0} (xs ys : List A) (y z : A) → set (xs ++ y ∷ ys) (length xs) z ≡ xs ++ z ∷ ys
set-front [] ys y z = refl
set-front (x ∷ xs) ys y z = ap (λ vs. x ∷ vs) (set-front xs ys y z)

length-map-of : {A B : Type 0} (f : A → B) (xs : List A) → length (map f xs) ≡ length xs
length-map-of f [] = refl
length-map-of f (x ∷ xs) = ap suc (length-map-of f xs)

module _ (x : ℕ) (u : Tree) (was now : List Tree) (i : ℕ) (rest : List ℕ) (h : IsPutting x u was now (i ∷ rest)) where
  abbrev next : NextPicked x (length h.done) h.left i rest
  next = next-picked x (length h.done) h.left i rest h.picked

  now-is : now ≡ map (with_term x u) (h.done ++ next.before) ++ next.member ∷ next.behind
  now-is =
      h.are ∙ ap (λ vs. map (with_term x u) h.done ++ vs) next.split
      ∙ ap (λ vs. map (with_term x u) h.done ++ (vs ++ next.member ∷ next.behind)) (sym (all-stay x u next.before next.out))
      ∙ sym (append_assoc (map (with_term x u) h.done) (map (with_term x u) next.before) (next.member ∷ next.behind))
      ∙ ap (λ vs. vs ++ next.member ∷ next.behind) (sym (map-append (with_term x u) h.done next.before))

  was-is : was ≡ (h.done ++ next.before) ++ next.member ∷ next.behind
  was-is = h.before ∙ ap (λ vs. h.done ++ vs) next.split ∙ sym (append_assoc h.done next.before (next.member ∷ next.behind))

  at-now : i ≡ length (map (with_term x u) (h.done ++ next.before))
  at-now = omega (arith, next.number, length-map-of (with_term x u) (h.done ++ next.before), length-append h.done next.before)

  at-was : i ≡ length (h.done ++ next.before)
  at-was = omega (arith, next.number, length-append h.done next.before)

  -- it is the same member
  pub here : (member : Tree) × (slice_get now i ≡ Some member) × (slice_get was i ≡ Some member)
  here = (
    next.member,
    ap (λ ts. slice_get ts i) now-is ∙ ap (slice_get (map (with_term x u) (h.done ++ next.before) ++ next.member ∷ next.behind)) at-now ∙ at-front (map (with_term x u) (h.done ++ next.before)) next.behind next.member,
    ap (λ ts. slice_get ts i) was-is ∙ ap (slice_get ((h.done ++ next.before) ++ next.member ∷ next.behind)) at-was ∙ at-front (h.done ++ next.before) next.behind next.member,
  )

  pub put-next : (t : Tree) → slice_get now i ≡ Some t → (later : List Tree) → later ≡ set now i (with_term x u t) → IsPutting x u was later rest
  unfolding here
  put-next t e later is =
      let both-are : Some next.member ≡ Some t = sym here.1 ∙ e in
      let same : next.member ≡ t = cc in
      let done : List Tree = h.done ++ next.before in
      let mapped : map (with_term x u) (done ++ next.member ∷ []) ≡ map (with_term x u) done ++ with_term x u next.member ∷ [] = map-append (with_term x u) done (next.member ∷ []) in
      let many : length (done ++ next.member ∷ []) ≡ suc i = omega (arith, length-append done (next.member ∷ []), at-was) in
      record {
        done = done ++ next.member ∷ [];
        left = next.behind;
        before = was-is ∙ sym (append_assoc done (next.member ∷ []) next.behind);
        are = is ∙ ap (λ w. set now i (with_term x u w)) (sym same)
            ∙ ap (λ ts. set ts i (with_term x u next.member)) now-is
            ∙ ap (λ k. set (map (with_term x u) done ++ next.member ∷ next.behind) k (with_term x u next.member)) at-now
            ∙ set-front (map (with_term x u) done) next.behind next.member (with_term x u next.member)
            ∙ sym (append_assoc (map (with_term x u) done) (with_term x u next.member ∷ []) next.behind)
            ∙ ap (λ vs. vs ++ next.behind) (sym mapped);
        picked = subst (λ (k : ℕ). ArePicked x k next.behind rest) (sym many) next.more;
      }

pub put-all : (x : ℕ) (u : Tree) (was now : List Tree) (own : List ℕ) → own ≡ [] → IsPutting x u was now own → now ≡ map (with_term x u) was
put-all x u was now own e h =
    h.are ∙ ap (λ vs. map (with_term x u) h.done ++ vs) (sym (all-stay x u h.left (none-picked x (length h.done) h.left own e h.picked)))
    ∙ sym (map-append (with_term x u) h.done h.left) ∙ ap (map (with_term x u)) (sym h.before)

-- ---- in a store

pub pick-next : (ids ns found : List ℕ) (k n id : ℕ) → AreAt ids (take k ns) found → k < length ns → n ≡ get_or ns k 0 → n < length ids → id ≡ get_or ids n id → AreAt ids (take (k + 1) ns) (found ++ id ∷ [])
pick-next ids ns found k n id h low is within own =
    subst (λ (ms : List ℕ). AreAt ids ms (found ++ id ∷ [])) (sym (take_more ns k 0 low ∙ ap (λ (m : ℕ). take k ns ++ m ∷ []) (sym is)))
    (zip-append (λ m i. slice_get ids m ≡ Some i) (take k ns) (n ∷ []) found (id ∷ []) h (slice_get-get_or ids n id within ∙ ap (λ i. Some i) (sym own), tt))

named-set : (trees : List Tree) (ids : List ℕ) (n id : ℕ) → named trees (set ids n id) ≡ set (named trees ids) n (tree_at trees id)
named-set trees [] n id = refl
named-set trees (i ∷ ids) zero id = refl
named-set trees (i ∷ ids) (suc n) id = ap (λ ts. tree_at trees i ∷ ts) (named-set trees ids n id)

set-all : (Q : ℕ → Type 0) (ids : List ℕ) (n id : ℕ) → AllByRecursion Q ids → Q id → AllByRecursion Q (set ids n id)
set-all Q [] n id h k = tt
set-all Q (i ∷ ids) zero id h k = (k, h.1)
set-all Q (i ∷ ids) (suc n) id h k = (h.0, set-all Q ids n id h.1 k)

module _ (x : ℕ) (u : Tree) (was : List Tree) (trees : List Tree) (parts ns : List ℕ) (k n : ℕ) (low : k < length ns) (is : n ≡ get_or ns k 0) (h : IsPutting x u was (named trees parts) (drop k ns)) where
  next-number : drop k ns ≡ n ∷ drop (suc k) ns
  next-number = dropped-at ns k n (slice_get-get_or ns k 0 low ∙ ap (λ m. Some m) (sym is))

  next-put : IsPutting x u was (named trees parts) (n ∷ drop (suc k) ns)
  next-put = subst (IsPutting x u was (named trees parts)) next-number h

  abbrev member : (t : Tree) × (slice_get (named trees parts) n ≡ Some t) × (slice_get was n ≡ Some t)
  member = here x u was (named trees parts) n (drop (suc k) ns) next-put

  pub part-there : n < length parts
  part-there = omega (arith, slice_get_within (named trees parts) n member.0 member.1, length-map-of (tree_at trees) parts)

  module _ (id : ℕ) (own : id ≡ get_or parts n id) where
    part-is : slice_get (named trees parts) n ≡ Some (tree_at trees id)
    part-is = get-map (tree_at trees) parts n id (slice_get-get_or parts n id part-there ∙ ap (λ m. Some m) (sym own))

    pub part-takes : AllByRecursion (Takes x u) was → Takes x u (tree_at trees id)
    part-takes all =
        let both-are : Some member.0 ≡ Some (tree_at trees id) = sym member.1 ∙ part-is in
        let same : member.0 ≡ tree_at trees id = cc in
        subst (Takes x u) same (all-at (Takes x u) was n member.0 all member.2)

    pub part-put : (new : List Tree) (made : ℕ) (v : Tree) → Grows trees new → AllByRecursion (λ i. i < length trees) parts → v ≡ u → StandsAt new made (with_term x v (tree_at trees id))
        → IsPutting x u was (named new (set parts n made)) (drop (k + 1) ns) × AllByRecursion (λ i. i < length new) (set parts n made)
    part-put new made v g below e stands =
        let more = longer trees new g in
        let later : named new (set parts n made) ≡ set (named trees parts) n (with_term x u (tree_at trees id)) =
        named-set new parts n made ∙ ap (λ ts. set ts n (tree_at new made)) (named-grows trees new parts g below)
        ∙ ap (λ t. set (named trees parts) n t) (stands.tree ∙ ap (λ w. with_term x w (tree_at trees id)) e) in (
          subst (λ (m : ℕ). IsPutting x u was (named new (set parts n made)) (drop m ns)) (sym (add-one k))
              (put-next x u was (named trees parts) n (drop (suc k) ns) next-put (tree_at trees id) part-is (named new (set parts n made)) later),
          set-all (λ i. i < length new) parts n made (all-weaker (λ i. i < length trees) (λ i. i < length new) parts (λ i low. omega (arith, low, more)) below) stands.below,
        )

pub all-put : (x : ℕ) (u : Tree) (was now : List Tree) (ns : List ℕ) (k : ℕ) → length ns ≤ k → IsPutting x u was now (drop k ns) → now ≡ map (with_term x u) was
all-put x u was now ns k long h = put-all x u was now (drop k ns) (dropped-none ns k long) h

pub at-number : (parts : List ℕ) (n id : ℕ) → n < length parts → id ≡ get_or parts n id → slice_get parts n ≡ Some id
at-number parts n id low own = slice_get-get_or parts n id low ∙ ap (λ m. Some m) (sym own)

pub length-set : (xs : List ℕ) (n y : ℕ) → length (set xs n y) ≡ length xs
length-set [] n y = refl
length-set (x ∷ xs) zero y = refl
length-set (x ∷ xs) (suc n) y = ap suc (length-set xs n y)
