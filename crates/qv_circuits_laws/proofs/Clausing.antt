-- From circuits to clause lists: what the theorem of circuits gives.
use Rattle.std.proofs.Common.{◌≡◌, ℕ, zero, suc, ◌+◌, ◌*◌, ◌/◌, ◌%◌, ◌^◌, ◌<◌, ◌==◌, ◌||◌, ◌&&◌, Bool, true, false, cond, not, Option, Some, List, [], ◌∷◌, ◌++◌, map, length, refl, sym, ap, ◌∙◌, subst, arith, slice_get}
use Rattle.std.specs.Prelude.{unwrap_or}
use Rattle.std.specs.List.{AllByRecursion, AllZip}
use Rattle.std.proofs.lemmas.Bool.Decides.{nat_tests}
use Rattle.std.proofs.lemmas.List.Elements.{All-from_recursion, recursion_from_All}
use Rattle.qv_words.specs.declared.sort.Sort.{Sort}
use Rattle.qv_words.specs.declared.sort.Sort.TheVariants.{Bool as BoolSort}
use Rattle.qv_words.specs.declared.op.Op.{Op}
use Rattle.qv_words.specs.Sort.{IsLawful, IsValueOf, width_of}
use Rattle.qv_words.specs.Op.{truth}
use Rattle.qv_words.specs.Tree.{Tree, Trees, Constant, Variable, Literal, Apply, ForAll, Exists, Nil, Cons, tree_sort}
use Rattle.qv_words.specs.Sorted.{IsSorted, HasValues}
use Rattle.qv_words.specs.Meaning.{Means, MeanAll}
use Rattle.qv_words.specs.Laws.{SortedTreesHaveSorts, SortedTreesMeanOneValue}
use Rattle.qv_words.specs.PassLaws.{IsPlain}
use Rattle.qv_words.specs.Gate.{Lit, yes, no, lit_value, clause_value, clauses_value, IsEvaluation}
use Rattle.qv_words.specs.Routine.{bits_of_number}
use Rattle.qv_words.specs.OpCircuit.{op_circuit}
use Rattle.qv_words.specs.Clauses.{Blasted, Blasting, first_blasting, bits_of, bits_of_each, variables_from, with_unit, with_formulas, cnf}
use Rattle.qv_circuits_laws.specs.CircuitLaws.{IsBefore, IsWord, number_of, CircuitTheorem, CircuitsAreWellFormed, GatesHaveEvaluations}
use Rattle.qv_circuits_laws.specs.ClauseLaws.{HasItsBits, ClausesTheorem, blasted, walked}
use Rattle.qv_circuits_laws.proofs.Evaluations.{with_value, at-value, past-value}
use Rattle.qv_circuits_laws.proofs.Listing.{True, both-true, parts-true, node-true, true-node, unit-true, true-unit, true-first, true-formulas}
use Rattle.qv_words.proofs.Leaves.{front, back, both, HasValue}
use Rattle.qv_words.proofs.Existing.{HasConstant}
use Rattle.qv_words.proofs.Ranks.{rank_parts, found}
use Rattle.qv_circuits_laws.specs.Standing.{ClausesBefore, Placed, Stands}
use Rattle.qv_circuits_laws.proofs.Standing.{bits-found, Has, HasEach, Extends, extends-same, extends-then, each-words, each-lawful, Fit, Keeps, walk, first-stands}
use Rattle.qv_circuits_laws.proofs.Listed.{formula-added, unit-stands, unit-extends}
use Rattle.qv_words.proofs.Elements.{some-and}
use Rattle.qv_circuits_laws.proofs.Adding.{double}

-- values that agree on the variables that are there
abbrev Agree : (w v : ℕ → Bool) → ℕ → Type 0
Agree w v n = (k : ℕ) → k < n → w k ≡ v k

lit-agrees : (w v : ℕ → Bool) (n : ℕ) (l : Lit) → Agree w v n → IsBefore n l → lit_value w l ≡ lit_value v l
lit-agrees w v n l a h = let e : w l.variable ≡ v l.variable = a l.variable h.earlier in rw e

number-agrees : (w v : ℕ → Bool) (n : ℕ) (bits : List Lit) → Agree w v n → AllByRecursion (IsBefore n) bits → number_of w bits ≡ number_of v bits
number-agrees w v n [] a h = refl
number-agrees w v n (l ∷ ls) a h =
    ap (λ b. truth b + 2 * number_of w ls) (lit-agrees w v n l a h.0) ∙ ap (λ k. truth (lit_value v l) + 2 * k) (number-agrees w v n ls a h.1)

clause-agrees : (w v : ℕ → Bool) (n : ℕ) (lits : List Lit) → Agree w v n → AllByRecursion (IsBefore n) lits → clause_value w lits ≡ clause_value v lits
clause-agrees w v n [] a h = refl
clause-agrees w v n (l ∷ ls) a h =
    ap (λ b. b || clause_value w ls) (lit-agrees w v n l a h.0) ∙ ap (λ b. lit_value v l || b) (clause-agrees w v n ls a h.1)

clauses-agree : (w v : ℕ → Bool) (n : ℕ) (clauses : List (List Lit)) → Agree w v n → ClausesBefore n clauses → clauses_value w clauses ≡ clauses_value v clauses
clauses-agree w v n [] a h = refl
clauses-agree w v n (c ∷ cs) a h =
    ap (λ b. b && clauses_value w cs) (clause-agrees w v n c a h.0) ∙ ap (λ b. clause_value v c && b) (clauses-agree w v n cs a h.1)

-- a tree means the number of its bits
abbrev pub Valued : (ℕ → Bool) → List ℕ → (ℕ → Option ℕ) → Blasted → Type 0
Valued v c e k = Means c e k.tree (number_of v k.bits)

valued-agree : (w v : ℕ → Bool) (c : List ℕ) (e : ℕ → Option ℕ) (n : ℕ) (known : List Blasted) → Agree w v n → AllByRecursion (Placed n) known → AllByRecursion (Valued v c e) known → AllByRecursion (Valued w c e) known
valued-agree w v c e n [] a p h = tt
valued-agree w v c e n (k ∷ ks) a p h =
    (subst (Means c e k.tree) (sym (number-agrees w v n k.bits a p.0.word.earlier)) h.0, valued-agree w v c e n ks a p.1 h.1)

-- numbers as bits
odd : ℕ → Bool
odd n = n % 2 == 1

odd-truth : (n : ℕ) → truth (odd n) + 2 * (n / 2) ≡ n
unfolding odd
odd-truth n = grind (arith, nat_tests)

literal-number : (v : ℕ → Bool) → v 1 ≡ true → (w n : ℕ) → n < 2 ^ w → number_of v (bits_of_number w n) ≡ n
unfolding bits_of_number
literal-number v one zero n h = omega (arith, h)
literal-number v one (suc w) n h =
    let low : n / 2 < 2 ^ w = omega (arith, h, double w) in
    ap (λ k. truth (lit_value v (cond (n % 2 == 1) yes no)) + 2 * k) (literal-number v one w (n / 2) low)
    ∙ ap (λ b. truth b + 2 * (n / 2)) (bit (n % 2 == 1)) ∙ odd-known n
  where
    bit : (b : Bool) → lit_value v (cond b yes no) ≡ b
    bit true = one
    bit false = ap not one

    odd-known : (n : ℕ) → truth (n % 2 == 1) + 2 * (n / 2) ≡ n
    odd-known n = grind (arith, nat_tests)

set-bits : (v : ℕ → Bool) (n w x : ℕ) → x < 2 ^ w → (u : ℕ → Bool) × Agree u v n × (number_of u (variables_from n w) ≡ x)
unfolding variables_from
set-bits v n zero x h = (v, λ k below. refl, omega (arith, h))
set-bits v n (suc w) x h =
    let low : x / 2 < 2 ^ w = omega (arith, h, double w) in
    let rest = set-bits (with_value v n (odd x)) (suc n) w (x / 2) low in
    let here : rest.0 n ≡ odd x = rest.1 n (let less : n < suc n = omega arith in less) ∙ at-value v n (odd x) in (
      rest.0,
      λ k below. rest.1 k (omega (arith, below)) ∙ past-value v n k (odd x) below,
      ap (λ b. truth b + 2 * number_of rest.0 (variables_from (suc n) w)) here ∙ ap (λ k. truth (odd x) + 2 * k) rest.2 ∙ odd-truth x,
    )

-- the arguments mean their numbers
each-mean : (v : ℕ → Bool) (c : List ℕ) (e : ℕ → Option ℕ) (b : Blasting) (ts : Trees) → AllByRecursion (Valued v c e) b.known → HasEach b ts → MeanAll c e ts (map (number_of v) (bits_of_each b.known ts))
each-mean v c e b Nil h has = refl
each-mean v c e b (Cons t ts) h has =
    let bits : unwrap_or (bits_of b.known t) [] ≡ has.0.0 = ap (λ o. unwrap_or o []) has.0.1 in
    let first : Means c e t (number_of v has.0.0) = bits-found (Valued v c e) b.known t has.0.0 h has.0.1 in
    (number_of v (unwrap_or (bits_of b.known t) []), map (number_of v) (bits_of_each b.known ts), subst (λ (x : List Lit). Means c e t (number_of v x)) (sym bits) first, each-mean v c e b ts h has.1, refl)

pub zip-lengths : (n : ℕ) (args : List (List Lit)) (sorts : List Sort) → AllZip (λ bits sort. IsWord (width_of sort) n bits) args sorts → AllZip (λ bits sort. length bits ≡ width_of sort) args sorts
zip-lengths n [] [] h = tt
zip-lengths n [] (s ∷ ss) h = absurd h
zip-lengths n (a ∷ as') [] h = absurd h
zip-lengths n (a ∷ as') (s ∷ ss) h = (h.0.bit_count, zip-lengths n as' ss h.1)

-- the laws that the theorem stands on
pub record Laws : Type 0 where
  pub circuits : CircuitTheorem
  pub formed : CircuitsAreWellFormed
  pub evaluations : GatesHaveEvaluations
  pub sorts : SortedTreesHaveSorts
  pub one_value : SortedTreesMeanOneValue

apply-means : Laws → (v : ℕ → Bool) (c : List ℕ) (e : ℕ → Option ℕ) (b : Blasting) (o : Op) (ts : Trees) → v 1 ≡ true → IsSorted (Apply o ts) → Stands b → HasEach b ts → AllByRecursion (Valued v c e) b.known → IsEvaluation v b.next (op_circuit o (bits_of_each b.known ts) b.next).gates → Means c e (Apply o ts) (number_of v (op_circuit o (bits_of_each b.known ts) b.next).result)
apply-means law v c e b o ts one sorted st has known ev =
    let s = found (tree_sort (Apply o ts)) sorted.1 in
    let p = rank_parts o ts s.0 s.1 in
    let args = bits_of_each b.known ts in
    let lengths = zip-lengths b.next args p.0 (each-words b ts p.0 st has p.1) in
    (p.0, map (number_of v) args, p.1, each-mean v c e b ts known has, law.circuits o p.0 s.0 args b.next v one (All-from_recursion IsLawful p.0 (each-lawful law.sorts ts p.0 sorted.0 p.1)) p.2 lengths ev)

-- from models to values
abbrev pub Sound : (ℕ → Bool) → List ℕ → (ℕ → Option ℕ) → Blasting → Type 0
Sound v c e b = True v b.clauses → AllByRecursion (HasItsBits v c e) b.known → AllByRecursion (Valued v c e) b.known

sound-keeps : Laws → (v : ℕ → Bool) (c : List ℕ) (e : ℕ → Option ℕ) → v 1 ≡ true → Keeps (HasConstant c) (HasValue e) (Sound v c e)
sound-keeps law v c e one b (Constant i s) fit st has q =
    λ h leaves. both (Valued v c e) b.known _ (q h (front (HasItsBits v c e) b.known _ leaves)) ((back (HasItsBits v c e) b.known _ leaves).0 tt, tt)
sound-keeps law v c e one b (Variable l s) fit st has q =
    λ h leaves. both (Valued v c e) b.known _ (q h (front (HasItsBits v c e) b.known _ leaves)) ((back (HasItsBits v c e) b.known _ leaves).0 tt, tt)
sound-keeps law v c e one b (Literal s n) fit st has q =
    λ h leaves. both (Valued v c e) b.known _ (q h (front (HasItsBits v c e) b.known _ leaves)) (literal-number v one (width_of s) n fit.sorted.1, tt)
sound-keeps law v c e one b (Apply o ts) fit st has q =
    λ h leaves.
    let parts = true-node v b (Apply o ts) h in
    let known = q parts.0 (front (HasItsBits v c e) b.known _ leaves) in
    both (Valued v c e) b.known _ known (apply-means law v c e b o ts one fit.sorted st has known parts.1, tt)
sound-keeps law v c e one b (ForAll l s t) fit st has q = absurd fit.free
sound-keeps law v c e one b (Exists l s t) fit st has q = absurd fit.free

-- from values to a model
abbrev pub Modelled : List ℕ → (ℕ → Option ℕ) → Blasting → Type 0
Modelled c e b = (w : ℕ → Bool) × (w 1 ≡ true) × True w b.clauses × AllByRecursion (Valued w c e) b.known

-- with new values from a variable on
renewed : (c : List ℕ) (e : ℕ → Option ℕ) (b : Blasting) (w u : ℕ → Bool) → Stands b → Agree u w b.next → w 1 ≡ true → True w b.clauses → AllByRecursion (Valued w c e) b.known → (u 1 ≡ true) × True u b.clauses × AllByRecursion (Valued u c e) b.known
renewed c e b w u st a one h known =
    (a 1 (let low : 1 < b.next = omega (arith, st.low) in low) ∙ one, clauses-agree u w b.next b.clauses a st.clauses ∙ h, valued-agree u w c e b.next b.known a st.known known)

leaf-modelled : (c : List ℕ) (e : ℕ → Option ℕ) (b : Blasting) (t : Tree) (s : Sort) (x : ℕ) → Stands b → Modelled c e b → x < 2 ^ width_of s → Means c e t x → (w : ℕ → Bool) × (w 1 ≡ true) × True w b.clauses × AllByRecursion (Valued w c e) (b.known ++ record { tree = t; bits = variables_from b.next (width_of s) } ∷ [])
leaf-modelled c e b t s x st q fits m =
    let u = set-bits q.0 b.next (width_of s) x fits in
    let r = renewed c e b q.0 u.0 st u.1 q.1 q.2 q.3 in
    (u.0, r.0, r.1, both (Valued u.0 c e) b.known _ r.2 (subst (Means c e t) (sym u.2) m, tt))

modelled-keeps : Laws → (c : List ℕ) (e : ℕ → Option ℕ) → Keeps (HasConstant c) (HasValue e) (Modelled c e)
modelled-keeps law c e b (Constant i s) fit st has q =
    let x = some-and (slice_get c i) (λ v. IsValueOf v s) fit.constants.0 in
    leaf-modelled c e b (Constant i s) s x.0 st q x.2 x.1
modelled-keeps law c e b (Variable l s) fit st has q =
    let x = some-and (e l) (λ v. IsValueOf v s) fit.levels.0 in
    leaf-modelled c e b (Variable l s) s x.0 st q x.2 x.1
modelled-keeps law c e b (Literal s n) fit st has q =
    (q.0, q.1, q.2, both (Valued q.0 c e) b.known _ q.3 (literal-number q.0 q.1 (width_of s) n fit.sorted.1, tt))
modelled-keeps law c e b (Apply o ts) fit st has q =
    let s = found (tree_sort (Apply o ts)) fit.sorted.1 in
    let p = rank_parts o ts s.0 s.1 in
    let args = bits_of_each b.known ts in
    let f = law.formed o p.0 s.0 args b.next st.low (All-from_recursion IsLawful p.0 (each-lawful law.sorts ts p.0 fit.sorted.0 p.1)) p.2 (each-words b ts p.0 st has p.1) in
    let u = law.evaluations q.0 b.next (op_circuit o args b.next).gates f.gates in
    let r = renewed c e b q.0 u.0 st u.2 q.1 q.2 q.3 in
    (u.0, r.0, node-true u.0 b (Apply o ts) r.1 u.1, both (Valued u.0 c e) b.known _ r.2 (apply-means law u.0 c e b o ts r.0 fit.sorted st has r.2 u.1, tt))
modelled-keeps law c e b (ForAll l s t) fit st has q = absurd fit.free
modelled-keeps law c e b (Exists l s t) fit st has q = absurd fit.free

-- a formula's bit
single : (v : ℕ → Bool) (bits : List Lit) → length bits ≡ 1 → (clause_value v bits ≡ true → number_of v bits ≡ 1) × (number_of v bits ≡ 1 → clause_value v bits ≡ true)
single v [] h = absurd (omega (arith, h))
single v (l ∷ []) h = go (lit_value v l)
  where
    go : (b : Bool) → ((b || false) ≡ true → truth b + 2 * 0 ≡ 1) × (truth b + 2 * 0 ≡ 1 → (b || false) ≡ true)
    go true = (λ _. refl, λ _. refl)
    go false = (λ k. cc, λ k. absurd (omega (arith, k)))
single v (l ∷ m ∷ ms) h = absurd (omega (arith, h))

abbrev pub Formula : List ℕ → (ℕ → Option ℕ) → Tree → Type 0
Formula c e t = Fit (HasConstant c) (HasValue e) t × (tree_sort t ≡ Some BoolSort) × HasValues c e t

-- its bits
root-word : (d : Blasting) (t : Tree) → Stands d → Has d t → tree_sort t ≡ Some BoolSort → length (unwrap_or (bits_of d.known t) []) ≡ 1
root-word d t st has is =
    let k = bits-found (Placed d.next) d.known t has.0 st.known has.1 in
    let same : k.sort ≡ BoolSort = let sorts : Some k.sort ≡ Some BoolSort = sym k.is ∙ is in cc in
    let bits : unwrap_or (bits_of d.known t) [] ≡ has.0 = ap (λ o. unwrap_or o []) has.1 in
    ap length bits ∙ k.word.bit_count ∙ ap width_of same

root-valued : (v : ℕ → Bool) (c : List ℕ) (e : ℕ → Option ℕ) (d : Blasting) (t : Tree) → Has d t → AllByRecursion (Valued v c e) d.known → Means c e t (number_of v (unwrap_or (bits_of d.known t) []))
root-valued v c e d t has known =
    let bits : unwrap_or (bits_of d.known t) [] ≡ has.0 = ap (λ o. unwrap_or o []) has.1 in
    subst (λ (x : List Lit). Means c e t (number_of v x)) (sym bits) (bits-found (Valued v c e) d.known t has.0 known has.1)

-- models of a list give its formulas' values
pub record SoundList (v : ℕ → Bool) (c : List ℕ) (e : ℕ → Option ℕ) (b d : Blasting) (ts : List Tree) : Type 0 where
  pub extends : Extends b d
  pub means : True v d.clauses → AllByRecursion (HasItsBits v c e) d.known → AllByRecursion (λ t. Means c e t 1) ts

prefix-true : (v : ℕ → Bool) (b d : Blasting) → Extends b d → True v d.clauses → True v b.clauses
prefix-true v b d x h = (parts-true v b.clauses x.rest (subst (True v) x.clauses h)).0

prefix-leaves : (v : ℕ → Bool) (c : List ℕ) (e : ℕ → Option ℕ) (b d : Blasting) → Extends b d → AllByRecursion (HasItsBits v c e) d.known → AllByRecursion (HasItsBits v c e) b.known
prefix-leaves v c e b d x h = front (HasItsBits v c e) b.known x.more (subst (AllByRecursion (HasItsBits v c e)) x.known h)

sound-list : Laws → (v : ℕ → Bool) (c : List ℕ) (e : ℕ → Option ℕ) → v 1 ≡ true → (b : Blasting) (ts : List Tree) → AllByRecursion (Formula c e) ts → Stands b → Sound v c e b → SoundList v c e b (with_formulas b ts) ts
sound-list law v c e one b [] fits st q = record { extends = extends-same b; means = λ _ _. tt }
sound-list law v c e one b (t ∷ ts) fits st q =
    let w = walk law.formed law.sorts (sound-keeps law v c e one) b t fits.0.0 st q in
    let d = walked b t in
    let u = with_unit t d in
    let added = formula-added b t fits.0.0.free in
    let up : Extends b u = extends-then w.extends (unit-extends d t) in
    let sound : Sound v c e u = λ h leaves. w.holds (prefix-true v d u (unit-extends d t) h) leaves in
    let rest = sound-list law v c e one u ts fits.1 (unit-stands d t w.stands w.has) sound in
    let first : True v (with_formulas u ts).clauses → AllByRecursion (HasItsBits v c e) (with_formulas u ts).known → Means c e t 1 =
    λ h leaves.
    let here = prefix-true v u (with_formulas u ts) rest.extends h in
    let known = sound here (prefix-leaves v c e u (with_formulas u ts) rest.extends leaves) in
    let root = unwrap_or (bits_of d.known t) [] in
    let is : clause_value v root ≡ true = true-unit v root (parts-true v d.clauses (root ∷ []) here).1 in
    subst (Means c e t) ((single v root (root-word d t w.stands w.has fits.0.1)).0 is) (root-valued v c e d t w.has known) in
    subst (λ (x : Blasting). SoundList v c e b (with_formulas x ts) (t ∷ ts)) (sym added)
    (record { extends = extends-then up rest.extends; means = λ h leaves. (first h leaves, rest.means h leaves) })

-- values of a list's formulas give a model
modelled-list : Laws → (c : List ℕ) (e : ℕ → Option ℕ) → (b : Blasting) (ts : List Tree) → AllByRecursion (Formula c e) ts → AllByRecursion (λ t. Means c e t 1) ts → Stands b → Modelled c e b → Modelled c e (with_formulas b ts)
modelled-list law c e b [] fits ones st q = q
modelled-list law c e b (t ∷ ts) fits ones st q =
    let w = walk law.formed law.sorts (modelled-keeps law c e) b t fits.0.0 st q in
    let d = walked b t in
    let u = with_unit t d in
    let m = w.holds in
    let root = unwrap_or (bits_of d.known t) [] in
    let only = law.one_value t c e fits.0.0.sorted fits.0.2 in
    let value : number_of m.0 root ≡ 1 = only.2.only (number_of m.0 root) (root-valued m.0 c e d t w.has m.3) ∙ sym (only.2.only 1 ones.0) in
    let is : clause_value m.0 root ≡ true = (single m.0 root (root-word d t w.stands w.has fits.0.1)).1 value in
    let next : Modelled c e u = (m.0, m.1, both-true m.0 d.clauses (root ∷ []) m.2 (unit-true m.0 root is), m.3) in
    subst (λ (x : Blasting). Modelled c e (with_formulas x ts)) (sym (formula-added b t fits.0.0.free))
    (modelled-list law c e u ts fits.1 ones.1 (unit-stands d t w.stands w.has) next)

-- the theorem
formulas-fit : (c : List ℕ) (e : ℕ → Option ℕ) (ts : List Tree) → AllByRecursion IsPlain ts → AllByRecursion (λ t. tree_sort t ≡ Some BoolSort) ts → AllByRecursion (HasValues c e) ts → AllByRecursion (Formula c e) ts
formulas-fit c e [] p s h = tt
formulas-fit c e (t ∷ ts) p s h =
    ((record { sorted = p.0.sorted; free = p.0.free; constants = recursion_from_All _ _ h.0.constants; levels = recursion_from_All _ _ h.0.levels }, s.0, h.0), formulas-fit c e ts p.1 s.1 h.1)

leaves-valued : (v : ℕ → Bool) (c : List ℕ) (e : ℕ → Option ℕ) (known : List Blasted) → AllByRecursion (Valued v c e) known → AllByRecursion (HasItsBits v c e) known
leaves-valued v c e [] h = tt
leaves-valued v c e (k ∷ ks) h = (λ _. h.0, leaves-valued v c e ks h.1)

-- a model of the clauses makes variable 1 true
first-is : (v : ℕ → Bool) (ts : List Tree) → True v (with_formulas first_blasting ts).clauses → v 1 ≡ true
first-is v ts h = true-first v (true-formulas v first_blasting ts h).0

pub clauses-theorem : Laws → ClausesTheorem
unfolding cnf
clauses-theorem law ts c e plain bools values =
    let fits = formulas-fit c e ts (recursion_from_All IsPlain ts plain) (recursion_from_All _ ts bools) (recursion_from_All (HasValues c e) ts values) in (
      (λ ones.
          let start : Modelled c e first_blasting = (λ _. true, refl, refl, tt) in
          let m = modelled-list law c e first_blasting ts fits (recursion_from_All _ ts ones) first-stands start in
          (m.0, All-from_recursion (HasItsBits m.0 c e) (blasted ts) (leaves-valued m.0 c e (blasted ts) m.3), m.2)),
      λ v leaves h.
          let sound = sound-list law v c e (first-is v ts h) first_blasting ts fits first-stands (λ _ _. tt) in
          All-from_recursion (λ t. Means c e t 1) ts (sound.means h (recursion_from_All (HasItsBits v c e) (blasted ts) leaves)),
    )
