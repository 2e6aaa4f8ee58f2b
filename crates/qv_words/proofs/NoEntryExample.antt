-- Entries that may not come, each for one thing that is amiss, beside one that may.
use Rattle.std.proofs.Common.{◌≡◌, ℕ, zero, suc, ◌≤◌, ◌<◌, ◌⊎◌, inl, inr, Bool, true, false, Some, None, Option, List, [], ◌∷◌, map, unwrap_or, refl, sym, ap, ◌∙◌, subst, slice_get, arith}
use Rattle.std.specs.Prelude.{IfSome, option_map, AllPairs}
use Rattle.std.specs.List.{AllByRecursion}
use Rattle.std.proofs.lemmas.Bool.{false≢true}
use Rattle.std.proofs.lemmas.List.Elements.{recursion_from_All}
use Rattle.std.proofs.lemmas.Option.{same_Some}
use Rattle.qv_words.specs.declared.sort.Sort.{Sort}
use Rattle.qv_words.specs.declared.sort.Sort.TheVariants.{Bits, Bool as BoolSort}
use Rattle.qv_words.specs.declared.op.Op.TheVariants.{And, Equal, Or, BvNot, BvUlt, BvUle, Extract}
use Rattle.qv_words.specs.Tree.{Tree, Variable, Literal, Apply, Cons, Nil}
use Rattle.qv_words.specs.Prenex.{binary, negation}
use Rattle.qv_words.specs.Problem.{Problem, Quantifier, Existential, Universal, conjunction, conjunction_with}
use Rattle.qv_words.specs.Inverse.{unary, number}
use Rattle.qv_words.specs.Sort.{width_of}
use Rattle.qv_words.specs.Choice.{is_in}
use Rattle.qv_words.specs.Passes.{rewritten, rules_in_order}
use Rattle.qv_words.specs.Linked.{Entry, IsComplement, IsEntry, IsRival, Run, IsRun, AreApart, equation_of, fixing}

-- for all x there is a y that is (bvnot x)
abbrev x : Tree
x = Variable 0 (Bits 4)

abbrev not_x : Tree
not_x = unary BvNot x

abbrev p : Problem
p = record {
  prefix = record { quantifier = Universal; sort = Bits 4 } ∷ record { quantifier = Existential; sort = Bits 4 } ∷ [];
  matrix = binary Equal (Variable 1 (Bits 4)) not_x;
}

abbrev yes : Tree
yes = Literal BoolSort 1

cons-nil : {A : Type 0} {x : A} {xs : List A} → x ∷ xs ≡ [] → ⊥
cons-nil h = absurd cc

none-some : (t : Tree) → Some t ≡ None → ⊥
none-some t h = absurd cc

-- what holds of all is so of what is there
each-some : {R : Type 0} (P : R → Type 0) (o : Option R) → ((r : R) → P r) → IfSome o P
each-some P None all = tt
each-some P (Some r) all = all r

abbrev with_region : Tree → Entry
with_region r = record { level = 2; winner = Existential; region = r; point = 5 ∷ []; terms = not_x ∷ []; links = [] }

-- the region isn't simple, or has more nodes than the later one with the term put in
not-simple : IsEntry p [] (with_region (binary Equal not_x not_x)) → ⊥
not-simple e = none-some yes (each-some (λ r. rewritten r Equal (Cons not_x (Cons not_x Nil)) ≡ None) (slice_get rules_in_order 1) e.block.simple.0)

not-small : IsEntry p [] (with_region (binary Or (binary BvUlt x (number 4 3)) (negation (binary BvUlt x (number 4 3))))) → ⊥
not-small e = let small : 5 ≤ 3 = e.block.small in omega (arith, small)

-- the region is over the block's own place
own-place : IsEntry p [] (with_region (binary BvUlt (Variable 1 (Bits 4)) (number 4 3))) → ⊥
own-place e = let below : 1 < 1 = (e.region.variables 0 (1, Bits 4) (omega arith)).0 in omega (arith, below)

-- a place of another sort
other-sort : IsEntry p [] (with_region (binary BvUle (Variable 0 (Bits 3)) (number 3 7))) → ⊥
other-sort e = let same : ◌≡◌ {A = ℕ} 4 3 = widths (e.region.variables 0 (0, Bits 3) (omega arith)).1 in omega (arith, same)
  where
    widths : ◌≡◌ {A = Sort} (Bits 4) (Bits 3) → ◌≡◌ {A = ℕ} 4 3
    widths h = ap (λ s. width_of s) h

abbrev at_point : List ℕ → Entry
at_point point = record { level = 2; winner = Existential; region = yes; point = point; terms = not_x ∷ []; links = [] }

-- the point has no value for the place, or none of its sort, or one for the block too
no-value : IsEntry p [] (at_point []) → ⊥
no-value e = e.region.point

too-large : IsEntry p [] (at_point (16 ∷ [])) → ⊥
too-large e = let of_sort : 16 < 16 = e.region.point.0 in omega (arith, of_sort)

too-long : IsEntry p [] (at_point (5 ∷ 10 ∷ [])) → ⊥
too-long e = e.region.point.1

abbrev with_terms : List Tree → Entry
with_terms terms = record { level = 2; winner = Existential; region = yes; point = 5 ∷ []; terms = terms; links = [] }

-- no term for the place, or one too many
no-term : IsEntry p [] (with_terms []) → ⊥
no-term e = e.block.chosen

-- a level before the first, and one behind the last
abbrev at_level : ℕ → Entry
at_level level = record { level = level; winner = Existential; region = yes; point = []; terms = []; links = [] }

level-zero : IsEntry p [] (at_level 0) → ⊥
level-zero e = let low : 1 ≤ 0 = e.links.low in omega (arith, low)

level-three : IsEntry p [] (at_level 3) → ⊥
level-three e = let high : 3 ≤ 2 = e.links.high in omega (arith, high)

-- a link at the last level
abbrev linked : (level : ℕ) → List ℕ → Entry
linked level links = record { level = level; winner = Existential; region = yes; point = 5 ∷ []; terms = not_x ∷ []; links = links }

last-link : IsEntry p (with_region yes ∷ []) (linked 2 (0 ∷ [])) → ⊥
last-link e = cons-nil (e.links.last refl)

-- a link to no entry, to one of the same level, and to one of the other player
abbrev first_with : List ℕ → Entry
first_with links = record { level = 1; winner = Existential; region = yes; point = []; terms = []; links = links }

abbrev others : Entry
others = record { level = 2; winner = Universal; region = yes; point = 5 ∷ []; terms = []; links = [] }

no-entry : IsEntry p (with_region yes ∷ []) (first_with (1 ∷ [])) → ⊥
no-entry e = e.links.each 0 1 (omega arith)

same-level : IsEntry p (first_with [] ∷ []) (first_with (0 ∷ [])) → ⊥
same-level e = let next : 1 ≡ 2 = (e.links.each 0 0 (omega arith)).1 in omega (arith, next)

other-player : IsEntry p (others ∷ []) (first_with (0 ∷ [])) → ⊥
other-player e = let same : ◌≡◌ {A = Quantifier} Universal Existential = (e.links.each 0 0 (omega arith)).0 in absurd cc

-- terms where the other player owns the block
abbrev forced_with : List Tree → Entry
forced_with terms = record { level = 1; winner = Existential; region = yes; point = []; terms = terms; links = 0 ∷ [] }

forced-terms : IsEntry p (with_region yes ∷ []) (forced_with (number 4 0 ∷ [])) → ⊥
forced-terms e = cons-nil e.block.no_terms

-- two links where the winner owns the block: of two existential blocks
abbrev q : Problem
q = record {
  prefix = record { quantifier = Existential; sort = Bits 4 } ∷ record { quantifier = Universal; sort = Bits 4 } ∷ [];
  matrix = yes;
}

two-links : IsEntry q (at_level 2 ∷ at_level 2 ∷ []) (record { level = 1; winner = Existential; region = yes; point = []; terms = number 4 0 ∷ []; links = 0 ∷ 1 ∷ [] }) → ⊥
two-links e = e.block

-- a problem whose last block is the other player's, with two places before it
abbrev r : Problem
r = record {
  prefix = record { quantifier = Existential; sort = Bits 4 } ∷ record { quantifier = Existential; sort = BoolSort } ∷ record { quantifier = Universal; sort = Bits 4 } ∷ [];
  matrix = binary Or (binary BvUlt x (number 4 8)) (binary Equal x (Variable 2 (Bits 4)));
}

abbrev run : (place high low : ℕ) → Run
run place high low = record { place = place; high = high; low = low }

-- the equations of runs at a point: bits 2 to 1 of 11 are 01, and a truth value has one bit
equations : equation_of r (11 ∷ 1 ∷ []) (run 0 2 1) ∷ equation_of r (11 ∷ 1 ∷ []) (run 0 3 3) ∷ equation_of r (11 ∷ 1 ∷ []) (run 1 0 0) ∷ []
    ≡ binary Equal (unary (Extract 2 1) x) (number 2 1) ∷ binary Equal (unary (Extract 3 3) x) (number 1 1) ∷ binary Equal (Variable 1 BoolSort) yes ∷ []
equations = refl

-- two runs of one place have no bit in common
apart : AreApart (run 0 1 0) (run 0 3 2) × AreApart (run 0 3 2) (run 0 1 0) × AreApart (run 0 3 0) (run 1 0 0)
apart = ((λ e. inl (omega arith)), (λ e. inr (omega arith)), λ e. absurd (omega (arith, e)))

not-apart : AreApart (run 0 2 1) (run 0 1 0) → ⊥
not-apart h = neither (h refl)
  where
    neither : (2 < 0) ⊎ (1 < 1) → ⊥
    neither (inl h) = omega (arith, h)
    neither (inr h) = omega (arith, h)

abbrev fixed : Tree → Entry
fixed region = record { level = 2; winner = Existential; region = region; point = 3 ∷ 1 ∷ []; terms = []; links = [] }

-- a run is of bits that a place has, which stands before the block and occurs in a linked region
a-run : IsRun r (fixed yes) (r.matrix ∷ []) (run 0 3 3)
a-run = record { below = omega arith; ordered = omega arith; within = omega arith; occurs = (r.matrix, 0, refl, refl) }

too-high : IsRun r (fixed yes) (r.matrix ∷ []) (run 0 4 3) → ⊥
too-high h = let within : 4 < 4 = h.within in omega (arith, within)

turned-round : IsRun r (fixed yes) (r.matrix ∷ []) (run 0 2 3) → ⊥
turned-round h = let ordered : 3 ≤ 2 = h.ordered in omega (arith, ordered)

own-block : IsRun r (fixed yes) (r.matrix ∷ []) (run 2 3 3) → ⊥
own-block h = let below : 2 < 2 = h.below in omega (arith, below)

-- place 1 doesn't occur in the matrix
not-occurring : IsRun r (fixed yes) (r.matrix ∷ []) (run 1 0 0) → ⊥
not-occurring h = nowhere h.occurs.1 h.occurs.0 h.occurs.2 h.occurs.3
  where
    nowhere : (k : ℕ) (t : Tree) → slice_get (r.matrix ∷ []) k ≡ Some t → is_in 1 t ≡ true → ⊥
    nowhere zero t h i = let e : r.matrix ≡ t = same_Some r.matrix t h in false≢true (subst (λ (u : Tree). is_in 1 u ≡ true) (sym e) i)
    nowhere (suc k) t h i = none-some t (sym h)

-- without earlier entries there is nothing to lie outside of
no-rival : (e : Entry) → IsComplement [] e → ⊥
no-rival e c = none c.numbers c.some (recursion_from_All (IsRival [] e) c.numbers c.each)
  where
    none : (ns : List ℕ) → (ns ≡ [] → ⊥) → AllByRecursion (IsRival [] e) ns → ⊥
    none [] some each = some refl
    none (zero ∷ ns) some each = each.0
    none (suc n ∷ ns) some each = each.0

-- a region that is no conjunction of equations
abbrev is_comparison : Tree → Bool
is_comparison (Apply BvUlt args) = true
is_comparison t = false

not-compared : (t u : Tree) (us : List Tree) → is_comparison (conjunction_with (binary And t u) us) ≡ false
not-compared t u [] = refl
not-compared t u (v ∷ us) = not-compared (binary And t u) v us

equations-only : (e : Entry) (runs : List Run) → is_comparison (conjunction (map (equation_of r e.point) runs)) ≡ false
equations-only e [] = refl
equations-only e (a ∷ []) = of-sort (unwrap_or (option_map (λ place. place.sort) (slice_get r.prefix a.place)) BoolSort)
  where
    of-sort : (s : Sort) → is_comparison (fixing s (unwrap_or (slice_get e.point a.place) 0) a) ≡ false
    of-sort BoolSort = refl
    of-sort (Bits w) = refl
equations-only e (a ∷ b ∷ runs) = not-compared (equation_of r e.point a) (equation_of r e.point b) (map (equation_of r e.point) runs)

no-equation : IsEntry r [] (fixed (binary BvUlt x (number 4 8))) → ⊥
no-equation e = elim e.block.form [
  | inl c ↦ false≢true (subst (λ (b : Bool). b ≡ true) (equations-only (fixed (binary BvUlt x (number 4 8))) c.runs) (subst (λ (t : Tree). is_comparison t ≡ true) c.region refl))
  | inr o ↦ no-rival (fixed (binary BvUlt x (number 4 8))) o
]

-- nor what lies outside an entry of the other player at the same level
same-winner : IsRival (fixed yes ∷ []) (fixed yes) 0 → ⊥
same-winner h = let same : ◌≡◌ {A = Quantifier} Existential Universal = h.0 in absurd cc

level-before : IsRival (record { level = 1; winner = Universal; region = yes; point = []; terms = []; links = [] } ∷ []) (fixed yes) 0 → ⊥
level-before h = let same : 1 ≡ 2 = h.1 in omega (arith, same)

-- a region that fixes one bit twice
bit_three : Tree
bit_three = binary Equal (unary (Extract 3 3) x) (number 1 0)

abbrev is_conjunction : Tree → Bool
is_conjunction (Apply And args) = true
is_conjunction t = false

abbrev first_argument : Tree → Tree
first_argument (Apply o (Cons t ts)) = t
first_argument t = t

abbrev second_argument : Tree → Tree
second_argument (Apply o (Cons t (Cons u ts))) = u
second_argument t = t

-- the run that an equation fixes
abbrev run_of : Tree → Run
run_of (Apply Equal (Cons (Apply (Extract i j) (Cons (Variable l s) Nil)) ts)) = run l i j
run_of t = run 9 9 0

of-fixing : (s : Sort) (n : ℕ) (a : Run) (t : Tree) → run_of t ≡ run 0 3 3 → t ≡ fixing s n a → a ≡ run 0 3 3
of-fixing BoolSort n a t h e = absurd (let late : 9 ≡ 0 = ap (λ r. r.place) (subst (λ (u : Tree). run_of u ≡ run 0 3 3) e h) in omega (arith, late))
of-fixing (Bits w) n a t h e = subst (λ (u : Tree). run_of u ≡ run 0 3 3) e h

not-fixing : (s : Sort) (n : ℕ) (a : Run) → is_conjunction (fixing s n a) ≡ false
not-fixing BoolSort n a = refl
not-fixing (Bits w) n a = refl

begins-so : (t u v : Tree) (us : List Tree) → is_conjunction (first_argument (conjunction_with (binary And (binary And t u) v) us)) ≡ true
begins-so t u v [] = refl
begins-so t u v (w ∷ us) = begins-so (binary And t u) v w us

overlap : (a b : Run) → a ≡ run 0 3 3 → b ≡ run 0 3 3 → AreApart a b → ⊥
overlap a b ha hb h = neither (subst (λ (b : Run). AreApart (run 0 3 3) b) hb (subst (λ (a : Run). AreApart a b) ha h) refl)
  where
    neither : (3 < 3) ⊎ (3 < 3) → ⊥
    neither (inl h) = omega (arith, h)
    neither (inr h) = omega (arith, h)

abbrev equation : Run → Tree
equation a = equation_of r (3 ∷ 1 ∷ []) a

none-twice : (runs : List Run) → AllPairs AreApart runs → binary And bit_three bit_three ≡ conjunction (map equation runs) → ⊥
unfolding bit_three
none-twice [] apart e = absurd cc
none-twice (a ∷ []) apart e = false≢true (sym (not-fixing (unwrap_or (option_map (λ place. place.sort) (slice_get r.prefix a.place)) BoolSort) (unwrap_or (slice_get (3 ∷ 1 ∷ []) a.place) 0) a) ∙ subst (λ (t : Tree). is_conjunction t ≡ true) e refl)
none-twice (a ∷ b ∷ []) apart e =
    overlap a b
    (of-fixing (unwrap_or (option_map (λ place. place.sort) (slice_get r.prefix a.place)) BoolSort) (unwrap_or (slice_get (3 ∷ 1 ∷ []) a.place) 0) a bit_three refl (ap first_argument e))
    (of-fixing (unwrap_or (option_map (λ place. place.sort) (slice_get r.prefix b.place)) BoolSort) (unwrap_or (slice_get (3 ∷ 1 ∷ []) b.place) 0) b bit_three refl (ap second_argument e))
    (apart 0 1 a (omega arith) (omega arith))
none-twice (a ∷ b ∷ c ∷ runs) apart e = false≢true (subst (λ (t : Tree). is_conjunction (first_argument t) ≡ true) (sym e) (begins-so (equation a) (equation b) (equation c) (map equation runs)))

twice-fixed : IsEntry r [] (fixed (binary And bit_three bit_three)) → ⊥
unfolding bit_three
twice-fixed e = elim e.block.form [
  | inl c ↦ none-twice c.runs c.apart c.region
  | inr o ↦ no-rival (fixed (binary And bit_three bit_three)) o
]
