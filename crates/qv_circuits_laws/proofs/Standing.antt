-- Where a clause list stands: each tree with bits has as many as its sort, over variables that are there, and so are the clauses'.
use Rattle.std.proofs.Common.{◌≡◌, ℕ, zero, suc, ◌+◌, ◌≤◌, ◌<◌, ◌||◌, Bool, true, false, cond, Option, Some, None, List, [], ◌∷◌, ◌++◌, map, length, refl, sym, ap, ◌∙◌, subst, arith, le_trans, le_refl, append_assoc, lit≤}
use Rattle.std.specs.Prelude.{IsSomeAnd, unwrap_or}
use Rattle.std.specs.List.{AllByRecursion, AllZip}
use Rattle.std.proofs.lemmas.List.Elements.{All-from_recursion}
use Rattle.qv_words.specs.declared.sort.Sort.{Sort}
use Rattle.qv_words.specs.Sort.{IsLawful, width_of}
use Rattle.qv_words.specs.Tree.{Tree, Trees, Constant, Variable, Literal, Apply, ForAll, Exists, Nil, Cons, tree_sort, tree_sorts, IsQuantifierFree, AreQuantifierFree}
use Rattle.qv_words.specs.Sorted.{IsSorted, AreSortedBelow, no_levels, constants_of, constants_of_all, free_levels, free_levels_of_all}
use Rattle.qv_words.specs.Laws.{SortedTreesHaveSorts}
use Rattle.qv_words.specs.Equality.{tree_eq}
use Rattle.qv_words.specs.Gate.{Lit, Gate, AndGate, XorGate, MuxGate, MajGate, positive_lit, gate_clauses, gates_clauses}
use Rattle.qv_words.specs.Routine.{bits_of_number}
use Rattle.qv_words.specs.OpCircuit.{op_circuit}
use Rattle.qv_words.specs.Clauses.{is_among, Blasted, Blasting, first_blasting, bits_of, bits_of_each, variables_from, with_node}
use Rattle.qv_circuits_laws.specs.CircuitLaws.{IsBefore, inputs, ReadEarlier, IsWord, CircuitsAreWellFormed}
use Rattle.qv_circuits_laws.specs.ClauseLaws.{walked, walked_each}
use Rattle.qv_circuits_laws.specs.Standing.{ClausesBefore, Placed, Stands}
use Rattle.qv_words.proofs.Leaves.{front, back, both}
use Rattle.qv_words.proofs.Ranks.{sorts_parts, rank_parts, found}
use Rattle.qv_circuits_laws.proofs.Building.{later, word-later, neg-before, empty-word, cons-word, yes-before}
use Rattle.qv_circuits_laws.proofs.Routines.{number-word}
use Rattle.qv_words.proofs.Equals.{tree_eq-is, tree_eq-refl}
use Rattle.qv_words.proofs.NewNodes.{nil-behind}
use Rattle.qv_circuits_laws.proofs.Listing.{trees}
use Rattle.qv_words.proofs.Elements.{all-weaker}

gate-before : (n m : ℕ) (g : Gate) → 1 ≤ n → n < m → AllByRecursion (IsBefore n) (inputs g) → ClausesBefore m (gate_clauses (positive_lit n) g)
gate-before n m (AndGate a b) some less h =
    let self : IsBefore m (positive_lit n) = record { some = some; earlier = less } in
    let up : n ≤ m = omega (arith, less) in
    let x = later h.0 up in
    let y = later h.1.0 up in
    ((neg-before self, (x, tt)), ((neg-before self, (y, tt)), ((self, (neg-before x, (neg-before y, tt))), tt)))
gate-before n m (XorGate a b) some less h =
    let self : IsBefore m (positive_lit n) = record { some = some; earlier = less } in
    let up : n ≤ m = omega (arith, less) in
    let x = later h.0 up in
    let y = later h.1.0 up in
    ((neg-before self, (x, (y, tt))), ((neg-before self, (neg-before x, (neg-before y, tt))), ((self, (neg-before x, (y, tt))), ((self, (x, (neg-before y, tt))), tt))))
gate-before n m (MuxGate c a b) some less h =
    let self : IsBefore m (positive_lit n) = record { some = some; earlier = less } in
    let up : n ≤ m = omega (arith, less) in
    let z = later h.0 up in
    let x = later h.1.0 up in
    let y = later h.1.1.0 up in
    ((neg-before z, (neg-before x, (self, tt))), ((neg-before z, (x, (neg-before self, tt))), ((z, (neg-before y, (self, tt))), ((z, (y, (neg-before self, tt))), tt))))
gate-before n m (MajGate a b c) some less h =
    let self : IsBefore m (positive_lit n) = record { some = some; earlier = less } in
    let up : n ≤ m = omega (arith, less) in
    let x = later h.0 up in
    let y = later h.1.0 up in
    let z = later h.1.1.0 up in
    ((neg-before x, (neg-before y, (self, tt))), ((neg-before x, (neg-before z, (self, tt))), ((neg-before y, (neg-before z, (self, tt))), ((x, (y, (neg-before self, tt))), ((x, (z, (neg-before self, tt))), ((y, (z, (neg-before self, tt))), tt))))))

gates-before : (n m : ℕ) (gs : List Gate) → 1 ≤ n → n + length gs ≤ m → ReadEarlier n gs → ClausesBefore m (gates_clauses n gs)
unfolding gates_clauses
gates-before n m [] some fits h = tt
gates-before n m (g ∷ gs) some fits h =
    both (AllByRecursion (IsBefore m)) (gate_clauses (positive_lit n) g) (gates_clauses (suc n) gs)
    (gate-before n m g some (omega (arith, fits)) h.0)
    (gates-before (suc n) m gs (omega (arith, some)) (omega (arith, fits)) h.1)

-- new variables
pub variables-word : (n w : ℕ) → 1 ≤ n → IsWord w (n + w) (variables_from n w)
unfolding variables_from
variables-word n zero some = empty-word
variables-word n (suc w) some =
    let same : suc n + w ≡ n + suc w = omega arith in
    cons-word (record { some = some; earlier = (let low : n < n + suc w = omega arith in low) }) (subst (λ (k : ℕ). IsWord w k (variables_from (suc n) w)) same (variables-word (suc n) w (omega (arith, some))))

-- the bits that are found
pub bits-found : (P : Blasted → Type 0) (known : List Blasted) (t : Tree) (x : List Lit) → AllByRecursion P known → bits_of known t ≡ Some x → P (record { tree = t; bits = x })
bits-found P [] t x h e = cc
bits-found P (k ∷ ks) t x h e = go (tree_eq t k.tree) refl e (λ f. bits-found P ks t x h.1 f)
  where
    go : (b : Bool) → tree_eq t k.tree ≡ b → cond b (Some k.bits) (bits_of ks t) ≡ Some x → (bits_of ks t ≡ Some x → P (record { tree = t; bits = x })) → P (record { tree = t; bits = x })
    go true is e rest =
        let same : k.bits ≡ x = cc in
        let tree : t ≡ k.tree = tree_eq-is t k.tree is in
        subst (λ (y : List Lit). P (record { tree = t; bits = y })) same (subst (λ (u : Tree). P (record { tree = u; bits = k.bits })) (sym tree) h.0)
    go false is e rest = rest e

abbrev pub Has : Blasting → Tree → Type 0
Has b t = (x : List Lit) × (bits_of b.known t ≡ Some x)

pub known-found : (known : List Blasted) (t : Tree) → is_among (map (λ k. k.tree) known) t ≡ true → (x : List Lit) × (bits_of known t ≡ Some x)
known-found [] t e = cc
known-found (k ∷ ks) t e = go (tree_eq t k.tree) e (λ f. known-found ks t f)
  where
    go : (b : Bool) → (b || is_among (map (λ k. k.tree) ks) t) ≡ true → (is_among (map (λ k. k.tree) ks) t ≡ true → (x : List Lit) × (bits_of ks t ≡ Some x)) → (x : List Lit) × (cond b (Some k.bits) (bits_of ks t) ≡ Some x)
    go true e rest = (k.bits, refl)
    go false e rest = rest e

bits-stay : (known more : List Blasted) (t : Tree) (x : List Lit) → bits_of known t ≡ Some x → bits_of (known ++ more) t ≡ Some x
bits-stay [] more t x e = cc
bits-stay (k ∷ ks) more t x e = go (tree_eq t k.tree) e (λ f. bits-stay ks more t x f)
  where
    go : (b : Bool) → cond b (Some k.bits) (bits_of ks t) ≡ Some x → (bits_of ks t ≡ Some x → bits_of (ks ++ more) t ≡ Some x) → cond b (Some k.bits) (bits_of (ks ++ more) t) ≡ Some x
    go true e rest = e
    go false e rest = rest e

bits-behind : (known : List Blasted) (t : Tree) (x : List Lit) → (y : List Lit) × (bits_of (known ++ record { tree = t; bits = x } ∷ []) t ≡ Some y)
bits-behind [] t x = (x, ap (λ b. cond b (Some x) None) (tree_eq-refl t))
bits-behind (k ∷ ks) t x = go (tree_eq t k.tree) (bits-behind ks t x)
  where
    go : (b : Bool) → (y : List Lit) × (bits_of (ks ++ record { tree = t; bits = x } ∷ []) t ≡ Some y) → (y : List Lit) × (cond b (Some k.bits) (bits_of (ks ++ record { tree = t; bits = x } ∷ []) t) ≡ Some y)
    go true rest = (k.bits, refl)
    go false rest = rest

pub record Extends (b d : Blasting) : Type 0 where
  pub more : List Blasted
  pub known : d.known ≡ b.known ++ more
  pub next : b.next ≤ d.next
  pub rest : List (List Lit)
  pub clauses : d.clauses ≡ b.clauses ++ rest

pub extends-same : (b : Blasting) → Extends b b
extends-same b = record { more = []; known = nil-behind b.known; next = le_refl b.next; rest = []; clauses = nil-behind b.clauses }

pub extends-then : {a b d : Blasting} → Extends a b → Extends b d → Extends a d
extends-then {a} {b} {d} f g = record {
  more = f.more ++ g.more;
  known = g.known ∙ ap (λ ks. ks ++ g.more) f.known ∙ append_assoc a.known f.more g.more;
  next = le_trans f.next g.next;
  rest = f.rest ++ g.rest;
  clauses = g.clauses ∙ ap (λ ks. ks ++ g.rest) f.clauses ∙ append_assoc a.clauses f.rest g.rest;
}

pub has-later : {b d : Blasting} (t : Tree) → Extends b d → Has b t → Has d t
has-later {b} {d} t f h = (h.0, ap (λ ks. bits_of ks t) f.known ∙ bits-stay b.known f.more t h.0 h.1)

abbrev pub HasEach : Blasting → Trees → Type 0
HasEach b Nil = Unit {0}
HasEach b (Cons t ts) = Has b t × HasEach b ts

pub each-later : {b d : Blasting} (ts : Trees) → Extends b d → HasEach b ts → HasEach d ts
each-later Nil f h = tt
each-later (Cons t ts) f h = (has-later t f h.0, each-later ts f h.1)

-- the arguments of an application have bits
abbrev pub HasArgs : Blasting → Tree → Type 0
HasArgs b (Apply o ts) = HasEach b ts
HasArgs b t = Unit {0}

-- what is found for the arguments
pub each-words : (b : Blasting) (ts : Trees) (sorts : List Sort) → Stands b → HasEach b ts → tree_sorts ts ≡ Some sorts → AllZip (λ bits sort. IsWord (width_of sort) b.next bits) (bits_of_each b.known ts) sorts
each-words b Nil sorts st h e = let none : [] ≡ sorts = cc in subst (AllZip (λ bits sort. IsWord (width_of sort) b.next bits) []) none tt
each-words b (Cons t ts) sorts st h e =
    let p = sorts_parts t ts sorts e in
    let k = bits-found (Placed b.next) b.known t h.0.0 st.known h.0.1 in
    let same : k.sort ≡ p.0 = let sorts : Some k.sort ≡ Some p.0 = sym k.is ∙ p.2 in cc in
    let word : IsWord (width_of p.0) b.next h.0.0 = subst (λ (s : Sort). IsWord (width_of s) b.next h.0.0) same k.word in
    let bits : unwrap_or (bits_of b.known t) [] ≡ h.0.0 = ap (λ o. unwrap_or o []) h.0.1 in
    let first : IsWord (width_of p.0) b.next (unwrap_or (bits_of b.known t) []) = subst (IsWord (width_of p.0) b.next) (sym bits) word in
    subst (AllZip (λ bits sort. IsWord (width_of sort) b.next bits) (bits_of_each b.known (Cons t ts))) (sym p.4)
    (first, each-words b ts p.1 st h.1 p.3)

pub some_and : {X : Type 0} (P : X → Type 0) (o : Option X) (x : X) → o ≡ Some x → IsSomeAnd o P → P x
some_and P None x e h = absurd h
some_and P (Some y) x e h = let same : y ≡ x = cc in subst P same h

pub each-lawful : SortedTreesHaveSorts → (ts : Trees) (sorts : List Sort) → AreSortedBelow no_levels ts → tree_sorts ts ≡ Some sorts → AllByRecursion IsLawful sorts
each-lawful law Nil sorts h e = let none : [] ≡ sorts = cc in subst (AllByRecursion IsLawful) none tt
each-lawful law (Cons t ts) sorts h e =
    let p = sorts_parts t ts sorts e in
    subst (AllByRecursion IsLawful) (sym p.4) (some_and IsLawful (tree_sort t) p.0 p.2 (law t h.0), each-lawful law ts p.1 h.1 p.3)

-- one more node
pub record Stepped (b d : Blasting) (t : Tree) : Type 0 where
  pub stands : Stands d
  pub extends : Extends b d
  pub has : Has d t

placed-later : (n m : ℕ) → n ≤ m → (k : Blasted) → Placed n k → Placed m k
placed-later n m up k h = record { sorted = h.sorted; sort = h.sort; is = h.is; word = word-later h.word up }

before-later : (n m : ℕ) → n ≤ m → (clauses : List (List Lit)) → ClausesBefore n clauses → ClausesBefore m clauses
before-later n m up clauses h =
    all-weaker (AllByRecursion (IsBefore n)) (AllByRecursion (IsBefore m)) clauses (λ lits k. all-weaker (IsBefore n) (IsBefore m) lits (λ l f. later f up) k) h

-- a tree with its bits, behind the others
step : (b : Blasting) (m : ℕ) (t : Tree) (s : Sort) (bits : List Lit) (clauses : List (List Lit)) → Stands b → IsSorted t → tree_sort t ≡ Some s → b.next ≤ m → IsWord (width_of s) m bits → ClausesBefore m clauses → Stepped b (record { next = m; known = b.known ++ record { tree = t; bits = bits } ∷ []; clauses = b.clauses ++ clauses }) t
step b m t s bits clauses st sorted is up word before = record {
  stands = record {
    low = le_trans st.low up;
    known = both (Placed m) b.known (record { tree = t; bits = bits } ∷ []) (all-weaker (Placed b.next) (Placed m) b.known (placed-later b.next m up) st.known) (record { sorted = sorted; sort = s; is = is; word = word }, tt);
    clauses = both (AllByRecursion (IsBefore m)) b.clauses clauses (before-later b.next m up b.clauses st.clauses) before;
  };
  extends = record { more = record { tree = t; bits = bits } ∷ []; known = refl; next = up; rest = clauses; clauses = refl };
  has = bits-behind b.known t bits;
}

-- without new clauses
quiet : (b : Blasting) (m : ℕ) (t : Tree) (s : Sort) (bits : List Lit) → Stands b → IsSorted t → tree_sort t ≡ Some s → b.next ≤ m → IsWord (width_of s) m bits → Stepped b (record { next = m; known = b.known ++ record { tree = t; bits = bits } ∷ []; clauses = b.clauses }) t
quiet b m t s bits st sorted is up word =
    subst (λ (x : List (List Lit)). Stepped b (record { next = m; known = b.known ++ record { tree = t; bits = bits } ∷ []; clauses = x }) t) (sym (nil-behind b.clauses))
    (step b m t s bits [] st sorted is up word tt)

pub node-steps : CircuitsAreWellFormed → SortedTreesHaveSorts → (b : Blasting) (t : Tree) → Stands b → IsSorted t → IsQuantifierFree t → HasArgs b t → Stepped b (with_node b t) t
node-steps formed law b (Constant i s) st sorted free has =
    quiet b (b.next + width_of s) (Constant i s) s (variables_from b.next (width_of s)) st sorted refl (let up : b.next ≤ b.next + width_of s = omega arith in up) (variables-word b.next (width_of s) (le_trans (lit≤ tt) st.low))
node-steps formed law b (Variable l s) st sorted free has =
    quiet b (b.next + width_of s) (Variable l s) s (variables_from b.next (width_of s)) st sorted refl (let up : b.next ≤ b.next + width_of s = omega arith in up) (variables-word b.next (width_of s) (le_trans (lit≤ tt) st.low))
node-steps formed law b (Literal s n) st sorted free has =
    let up : b.next ≤ b.next + 0 = omega arith in
    quiet b (b.next + 0) (Literal s n) s (bits_of_number (width_of s) n) st sorted refl up (word-later (number-word (width_of s) n st.low) up)
node-steps formed law b (Apply o ts) st sorted free has =
    let s = found (tree_sort (Apply o ts)) sorted.1 in
    let p = rank_parts o ts s.0 s.1 in
    let args = bits_of_each b.known ts in
    let f = formed o p.0 s.0 args b.next st.low (All-from_recursion IsLawful p.0 (each-lawful law ts p.0 sorted.0 p.1)) p.2 (each-words b ts p.0 st has p.1) in
    let built = op_circuit o args b.next in
    let up : b.next ≤ b.next + length built.gates = omega arith in
    step b (b.next + length built.gates) (Apply o ts) s.0 built.result (gates_clauses b.next built.gates) st sorted s.1 up f.result
    (gates-before b.next (b.next + length built.gates) built.gates (le_trans (lit≤ tt) st.low) (le_refl (b.next + length built.gates)) f.gates)
node-steps formed law b (ForAll l s t) st sorted free has = absurd free
node-steps formed law b (Exists l s t) st sorted free has = absurd free

-- a sorted tree without quantifiers, with C of its constants and L of its variables
pub record Fit (C L : ℕ × Sort → Type 0) (t : Tree) : Type 0 where
  pub sorted : IsSorted t
  pub free : IsQuantifierFree t
  pub constants : AllByRecursion C (constants_of t)
  pub levels : AllByRecursion L (free_levels t)

record FitEach (C L : ℕ × Sort → Type 0) (ts : Trees) : Type 0 where
  pub sorted : AreSortedBelow no_levels ts
  pub free : AreQuantifierFree ts
  pub constants : AllByRecursion C (constants_of_all ts)
  pub levels : AllByRecursion L (free_levels_of_all ts)

fit-first : (C L : ℕ × Sort → Type 0) (t : Tree) (ts : Trees) → FitEach C L (Cons t ts) → Fit C L t
fit-first C L t ts f = record { sorted = f.sorted.0; free = f.free.0; constants = front _ (constants_of t) (constants_of_all ts) f.constants; levels = front _ (free_levels t) (free_levels_of_all ts) f.levels }

fit-rest : (C L : ℕ × Sort → Type 0) (t : Tree) (ts : Trees) → FitEach C L (Cons t ts) → FitEach C L ts
fit-rest C L t ts f = record { sorted = f.sorted.1; free = f.free.1; constants = back _ (constants_of t) (constants_of_all ts) f.constants; levels = back _ (free_levels t) (free_levels_of_all ts) f.levels }

pub record Walked (Q : Blasting → Type 0) (b d : Blasting) (A : Type 0) : Type 0 where
  pub stands : Stands d
  pub extends : Extends b d
  pub holds : Q d
  pub has : A

abbrev pub Keeps : (ℕ × Sort → Type 0) → (ℕ × Sort → Type 0) → (Blasting → Type 0) → Type 0
Keeps C L Q = (b : Blasting) (t : Tree) → Fit C L t → Stands b → HasArgs b t → Q b → Q (with_node b t)

-- a leaf, and an application behind its arguments
one-walked : {C L : ℕ × Sort → Type 0} {Q : Blasting → Type 0} → CircuitsAreWellFormed → SortedTreesHaveSorts → Keeps C L Q → (b mid : Blasting) (t : Tree) → Fit C L t → Stands b → Q b → Walked Q b mid (HasArgs mid t) → Walked Q b (cond (is_among (trees b) t) b (with_node mid t)) (Has (cond (is_among (trees b) t) b (with_node mid t)) t)
one-walked {C} {L} {Q} formed law keeps b mid t fit st q w = go (is_among (trees b) t) refl
  where
    go : (k : Bool) → is_among (trees b) t ≡ k → Walked Q b (cond k b (with_node mid t)) (Has (cond k b (with_node mid t)) t)
    go true is = record { stands = st; extends = extends-same b; holds = q; has = known-found b.known t is }
    go false is =
        let s = node-steps formed law mid t w.stands fit.sorted fit.free w.has in
        record { stands = s.stands; extends = extends-then w.extends s.extends; holds = keeps mid t fit w.stands w.has w.holds; has = s.has }

still : {Q : Blasting → Type 0} (b : Blasting) → Stands b → Q b → Walked Q b b (Unit {0})
still b st q = record { stands = st; extends = extends-same b; holds = q; has = tt }

mutual
  pub walk : {C L : ℕ × Sort → Type 0} {Q : Blasting → Type 0} → CircuitsAreWellFormed → SortedTreesHaveSorts → Keeps C L Q → (b : Blasting) (t : Tree) → Fit C L t → Stands b → Q b → Walked Q b (walked b t) (Has (walked b t) t)
  walk formed law keeps b (Constant i s) fit st q = one-walked formed law keeps b b (Constant i s) fit st q (still b st q)
  walk formed law keeps b (Variable l s) fit st q = one-walked formed law keeps b b (Variable l s) fit st q (still b st q)
  walk formed law keeps b (Literal s n) fit st q = one-walked formed law keeps b b (Literal s n) fit st q (still b st q)
  walk {C} {L} {Q} formed law keeps b (Apply o ts) fit st q =
      one-walked formed law keeps b (walked_each b ts) (Apply o ts) fit st q
      (walk-each formed law keeps b ts (record { sorted = fit.sorted.0; free = fit.free; constants = fit.constants; levels = fit.levels }) st q)
  walk formed law keeps b (ForAll l s t) fit st q = absurd fit.free
  walk formed law keeps b (Exists l s t) fit st q = absurd fit.free

  walk-each : {C L : ℕ × Sort → Type 0} {Q : Blasting → Type 0} → CircuitsAreWellFormed → SortedTreesHaveSorts → Keeps C L Q → (b : Blasting) (ts : Trees) → FitEach C L ts → Stands b → Q b → Walked Q b (walked_each b ts) (HasEach (walked_each b ts) ts)
  walk-each formed law keeps b Nil fit st q = still b st q
  walk-each {C} {L} {Q} formed law keeps b (Cons t ts) fit st q =
      let first = walk formed law keeps b t (fit-first C L t ts fit) st q in
      let others = walk-each formed law keeps (walked b t) ts (fit-rest C L t ts fit) first.stands first.holds in
      record { stands = others.stands; extends = extends-then first.extends others.extends; holds = others.holds; has = (has-later t others.extends first.has, others.has) }

-- at the start
pub first-stands : Stands first_blasting
first-stands = record { low = lit≤ tt; known = tt; clauses = ((yes-before (lit≤ tt), tt), tt) }
