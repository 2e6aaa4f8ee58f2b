-- Candidates for a place are terms of its sort over the region's variables.
use Rattle.std.proofs.Common.{◌≡◌, ℕ, zero, suc, ◌+◌, ◌-◌, ◌^◌, ◌<◌, ◌==◌, ◌&&◌, ◌||◌, arith, Bool, true, false, cond, not, Option, Some, None, List, [], ◌∷◌, ◌++◌, map, filter, refl, sym, ap, ◌∙◌, subst, slice_get}
use Rattle.std.specs.Prelude.{IfSome, unwrap_or, option_map, option_and_then}
use Rattle.std.specs.List.{AllByRecursion, flat_map}
use Rattle.std.specs.Option.{option_to_list}
use Rattle.std.proofs.lemmas.Bool.{eqb-true}
use Rattle.std.proofs.lemmas.Nat.{pow_below}
use Rattle.std.proofs.lemmas.List.Elements.{recursion_from_All, All-from_recursion, All-filter, filter_passes}
use Rattle.qv_words.specs.declared.sort.Sort.{Sort}
use Rattle.qv_words.specs.declared.sort.Sort.TheVariants.{Bits, Bool as BoolSort}
use Rattle.qv_words.specs.declared.op.Op.{Op}
use Rattle.qv_words.specs.declared.op.Op.TheVariants.{Equal, BvNot, BvNeg, BvAdd, BvSub, BvUlt, BvUle, BvUgt, BvUge, BvSlt, BvSle, BvSgt, BvSge, Extract, Repeat, ZeroExtend, SignExtend, RotateLeft, RotateRight}
use Rattle.qv_words.specs.Sort.{IsLawful}
use Rattle.qv_words.specs.Rank.{result_sort, two_widths, two_alike}
use Rattle.qv_words.specs.Tree.{Tree, Trees, Constant, Variable, Literal, Apply, ForAll, Exists, Nil, Cons, tree_sort, tree_sorts}
use Rattle.qv_words.specs.Sorted.{no_levels, with_level, IsSorted, AreSortedBelow}
use Rattle.qv_words.specs.Clauses.{nodes, is_among, with_nodes, with_nodes_of}
use Rattle.qv_words.specs.Prenex.{binary, is_bool}
use Rattle.qv_words.specs.Passes.{truth_literal}
use Rattle.qv_words.specs.Inverse.{inverse_term, row_at, unary_row, target_term, number}
use Rattle.qv_words.specs.InverseLaws.{IsOver as IsRowOver, AreOver as AreRowsOver}
use Rattle.qv_words.specs.Choice.{occurrences, is_in, is_below_ite, literal_value, put_in_row, next_target, descend, targets_around, is_comparison, is_equation, targets, candidates_down, candidates_of_sides, candidates_of, is_outside, implications, definitions, with_term, candidates}
use Rattle.qv_words.proofs.Leaves.{both}
use Rattle.qv_words.proofs.Ranks.{sorts_parts, rank_parts}
use Rattle.qv_words.proofs.InSort.{two_widths-parts, two_alike-parts}
use Rattle.qv_words.proofs.Existing.{lawful_sorts}
use Rattle.qv_words.proofs.InverseFits.{fits}
use Rattle.qv_words.proofs.InverseOver.{over, before_over, behind_over}
use Rattle.qv_words.proofs.InverseTrees.{same_width}
use Rattle.qv_game_laws.proofs.Terms.{OfVariable, IsOver, AreOver, IsOf, HasSort, Puts, put-of, over-sorted_each, over-lawful, over-sort}
use Rattle.qv_game_laws.proofs.Definitions.{parts-of, together-of}
use Rattle.qv_words.proofs.Elements.{all-both, either}

-- the variables of a row
abbrev pub IsRowLeaf : Sort → Sort → OfVariable
IsRowLeaf q r zero s = s ≡ q
IsRowLeaf q r (suc zero) s = s ≡ r
IsRowLeaf q r (suc (suc l)) s = ⊥

mutual
  row-over : (q r : Sort) (row : Tree) → IsSorted row → IsRowOver q r row → IsOver (IsRowLeaf q r) row
  row-over q r (Constant i s) sorted h = absurd h
  row-over q r (Variable zero s) sorted h = (sorted.0, h)
  row-over q r (Variable (suc zero) s) sorted h = (sorted.0, h)
  row-over q r (Variable (suc (suc l)) s) sorted h = absurd h
  row-over q r (Literal s n) sorted h = sorted
  row-over q r (Apply o args) sorted h = (row-over_each q r args sorted.0 h, sorted.1)
  row-over q r (ForAll l s body) sorted h = absurd h
  row-over q r (Exists l s body) sorted h = absurd h

  row-over_each : (q r : Sort) (rows : Trees) → AreSortedBelow no_levels rows → AreRowsOver q r rows → AreOver (IsRowLeaf q r) rows
  row-over_each q r Nil sorted h = tt
  row-over_each q r (Cons t ts) sorted h = (row-over q r t sorted.0 h.0, row-over_each q r ts sorted.1 h.1)

-- the other argument and the target put in
put-row : (P : OfVariable) (q r k : Sort) (s t row : Tree) → IsOf P q s → IsOf P r t → IsOf (IsRowLeaf q r) k row → IsOf P k (put_in_row s t row)
put-row P q r k s t row hs ht = put-of (IsRowLeaf q r) P (with_level (with_level no_levels 0 s) 1 t) k row puts
  where
    puts : (l : ℕ) (x : Sort) → IsRowLeaf q r l x → Puts P (with_level (with_level no_levels 0 s) 1 t) l x
    puts zero x h = subst (λ (y : Sort). IsOf P y s) (sym h) hs
    puts (suc zero) x h = subst (λ (y : Sort). IsOf P y t) (sym h) ht
    puts (suc (suc l)) x h = absurd h

-- the next target, of the sort of the argument at the position
abbrev IsArgument : OfVariable → List Sort → ℕ → Tree → Type 0
IsArgument P sorts position u = (s : Sort) → slice_get sorts position ≡ Some s → IsOf P s u

row-put : (P : OfVariable) (o : Op) (position : ℕ) (sorts : List Sort) (q r : Sort) (value : Option ℕ) (s t : Tree) → AllByRecursion IsLawful sorts → IfSome (inverse_term o position sorts value) (IsRowOver q r) → IsOf P q s → IsOf P r t → IfSome (option_map (put_in_row s t) (inverse_term o position sorts value)) (IsArgument P sorts position)
row-put P o position sorts q r value s t lawful leaves hs ht = go (inverse_term o position sorts value) refl leaves
  where
    go : (p : Option Tree) → inverse_term o position sorts value ≡ p → IfSome p (IsRowOver q r) → IfSome (option_map (put_in_row s t) p) (IsArgument P sorts position)
    go None e h = tt
    go (Some row) e h =
        let fit = fits o position sorts value row lawful e in
        λ k at. put-row P q r k s t row hs ht (row-over q r row fit.0 h, fit.1 ∙ at)

-- an operator of one argument has rows over the target alone
pub unary-over : (o : Op) (w : ℕ) (q r : Sort) → IfSome (unary_row o w (target_term r)) (IsRowOver q r)
unary-over BvNot w q r = (refl, tt)
unary-over BvNeg w q r = (refl, tt)
unary-over (Extract i j) w q r = before_over q r (w - 1 - i) _ (behind_over q r j (target_term r) refl)
unary-over (Repeat k) w q r = (refl, tt)
unary-over (ZeroExtend k) w q r = (refl, tt)
unary-over (SignExtend k) w q r = (refl, tt)
unary-over (RotateLeft k) w q r = (refl, tt)
unary-over (RotateRight k) w q r = (refl, tt)
unary-over o w q r = tt

one-row : (o : Op) (s q r : Sort) (value : Option ℕ) → result_sort o (s ∷ []) ≡ Some r → IfSome (inverse_term o 0 (s ∷ []) value) (IsRowOver q r)
unfolding inverse_term
one-row o s q r value e = subst (λ (p : Option Sort). IfSome (option_and_then (λ r. row_at o 0 (s ∷ []) r value) p) (IsRowOver q r)) (sym e) (at s)
  where
    at : (s : Sort) → IfSome (row_at o 0 (s ∷ []) r value) (IsRowOver q r)
    at (Bits w) = unary-over o w q r
    at BoolSort = tt

row-of : (o : Op) (position : ℕ) (sorts : List Sort) (r : Sort) (value : Option ℕ) → AllByRecursion IsLawful sorts → result_sort o sorts ≡ Some r → IfSome (inverse_term o position sorts value) (IsRowOver (unwrap_or (slice_get sorts (1 - position)) BoolSort) r)
row-of o position sorts r value lawful rank = go (inverse_term o position sorts value) refl
  where
    go : (p : Option Tree) → inverse_term o position sorts value ≡ p → IfSome p (IsRowOver (unwrap_or (slice_get sorts (1 - position)) BoolSort) r)
    go None e = tt
    go (Some row) e = over o position sorts value row lawful e r rank

-- the parts of an application of one argument, and of two
pub record OneArgument (o : Op) (a : Tree) (r : Sort) : Type 0 where
  pub sort : Sort
  pub first : tree_sort a ≡ Some sort
  pub sorts : tree_sorts (Cons a Nil) ≡ Some (sort ∷ [])
  pub rank : result_sort o (sort ∷ []) ≡ Some r

pub one-argument : (o : Op) (a : Tree) (r : Sort) → tree_sort (Apply o (Cons a Nil)) ≡ Some r → OneArgument o a r
one-argument o a r e =
    let parts = rank_parts o (Cons a Nil) r e in
    let each = sorts_parts a Nil parts.0 parts.1 in
    let none : each.1 ≡ [] = cc in
    let whole : parts.0 ≡ each.0 ∷ [] = each.4 ∙ ap (λ ss. each.0 ∷ ss) none in
    record { sort = each.0; first = each.2; sorts = parts.1 ∙ ap (λ ss. Some ss) whole; rank = ap (result_sort o) (sym whole) ∙ parts.2 }

pub record TwoArguments (o : Op) (a b : Tree) (r : Sort) : Type 0 where
  pub left : Sort
  pub right : Sort
  pub first : tree_sort a ≡ Some left
  pub second : tree_sort b ≡ Some right
  pub sorts : tree_sorts (Cons a (Cons b Nil)) ≡ Some (left ∷ right ∷ [])
  pub rank : result_sort o (left ∷ right ∷ []) ≡ Some r

two-arguments : (o : Op) (a b : Tree) (r : Sort) → tree_sort (Apply o (Cons a (Cons b Nil))) ≡ Some r → TwoArguments o a b r
two-arguments o a b r e =
    let parts = rank_parts o (Cons a (Cons b Nil)) r e in
    let each = sorts_parts a (Cons b Nil) parts.0 parts.1 in
    let last = sorts_parts b Nil each.1 each.3 in
    let none : last.1 ≡ [] = cc in
    let rest : each.1 ≡ last.0 ∷ [] = last.4 ∙ ap (λ ss. last.0 ∷ ss) none in
    let whole : parts.0 ≡ each.0 ∷ last.0 ∷ [] = each.4 ∙ ap (λ ss. each.0 ∷ ss) rest in
    record { left = each.0; right = last.0; first = each.2; second = last.2; sorts = parts.1 ∙ ap (λ ss. Some ss) whole; rank = ap (result_sort o) (sym whole) ∙ parts.2 }

-- down one argument, and down one of two
next-one : (P : OfVariable) (o : Op) (a t : Tree) (r : Sort) → IsOf P r (Apply o (Cons a Nil)) → IsOf P r t → (s : Sort) × (tree_sort a ≡ Some s) × IfSome (next_target o 0 (tree_sorts (Cons a Nil)) t t) (IsOf P s)
next-one P o a t r h ht =
    let parts = one-argument o a r h.1 in
    let lawful = lawful_sorts (Cons a Nil) no_levels (parts.sort ∷ []) (over-sorted_each P (Cons a Nil) h.0.0) parts.sorts in
    let each = row-put P o 0 (parts.sort ∷ []) r r (literal_value t) t t lawful (one-row o parts.sort r r (literal_value t) parts.rank) ht ht in
    (parts.sort, parts.first, subst (λ (p : Option (List Sort)). IfSome (next_target o 0 p t t) (IsOf P parts.sort)) (sym parts.sorts) (at-first P (option_map (put_in_row t t) (inverse_term o 0 (parts.sort ∷ []) (literal_value t))) parts.sort [] each))
  where
    at-first : (P : OfVariable) (p : Option Tree) (s : Sort) (rest : List Sort) → IfSome p (IsArgument P (s ∷ rest) 0) → IfSome p (IsOf P s)
    at-first P None s rest h = tt
    at-first P (Some u) s rest h = h s refl

next-left : (P : OfVariable) (o : Op) (a b t : Tree) (r : Sort) → IsOf P r (Apply o (Cons a (Cons b Nil))) → IsOf P r t → (s : Sort) × (tree_sort a ≡ Some s) × IfSome (next_target o 0 (tree_sorts (Cons a (Cons b Nil))) b t) (IsOf P s)
next-left P o a b t r h ht =
    let parts = two-arguments o a b r h.1 in
    let sorts = parts.left ∷ parts.right ∷ [] in
    let lawful = lawful_sorts (Cons a (Cons b Nil)) no_levels sorts (over-sorted_each P (Cons a (Cons b Nil)) h.0.0) parts.sorts in
    let each = row-put P o 0 sorts parts.right r (literal_value b) b t lawful (row-of o 0 sorts r (literal_value b) lawful parts.rank) (h.0.0.1.0, parts.second) ht in
    (parts.left, parts.first, subst (λ (p : Option (List Sort)). IfSome (next_target o 0 p b t) (IsOf P parts.left)) (sym parts.sorts) (at-first (option_map (put_in_row b t) (inverse_term o 0 sorts (literal_value b))) parts.left (parts.right ∷ []) each))
  where
    at-first : (p : Option Tree) (s : Sort) (rest : List Sort) → IfSome p (IsArgument P (s ∷ rest) 0) → IfSome p (IsOf P s)
    at-first None s rest h = tt
    at-first (Some u) s rest h = h s refl

next-right : (P : OfVariable) (o : Op) (a b t : Tree) (r : Sort) → IsOf P r (Apply o (Cons a (Cons b Nil))) → IsOf P r t → (s : Sort) × (tree_sort b ≡ Some s) × IfSome (next_target o 1 (tree_sorts (Cons a (Cons b Nil))) a t) (IsOf P s)
next-right P o a b t r h ht =
    let parts = two-arguments o a b r h.1 in
    let sorts = parts.left ∷ parts.right ∷ [] in
    let lawful = lawful_sorts (Cons a (Cons b Nil)) no_levels sorts (over-sorted_each P (Cons a (Cons b Nil)) h.0.0) parts.sorts in
    let each = row-put P o 1 sorts parts.left r (literal_value a) a t lawful (row-of o 1 sorts r (literal_value a) lawful parts.rank) (h.0.0.0, parts.first) ht in
    (parts.right, parts.second, subst (λ (p : Option (List Sort)). IfSome (next_target o 1 p a t) (IsOf P parts.right)) (sym parts.sorts) (at-second (option_map (put_in_row a t) (inverse_term o 1 sorts (literal_value a))) parts.left parts.right [] each))
  where
    at-second : (p : Option Tree) (q s : Sort) (rest : List Sort) → IfSome p (IsArgument P (q ∷ s ∷ rest) 1) → IfSome p (IsOf P s)
    at-second None q s rest h = tt
    at-second (Some u) q s rest h = h s refl

then-of : (Q R : Tree → Type 0) (p : Option Tree) (f : Tree → Option Tree) → IfSome p Q → ((t : Tree) → Q t → IfSome (f t) R) → IfSome (option_and_then f p) R
then-of Q R None f h k = tt
then-of Q R (Some t) f h k = k t h

descend-of : (P : OfVariable) (x : ℕ) (s : Sort) → HasSort P x s → (side t : Tree) (r : Sort) → IsOf P r side → IsOf P r t → IfSome (descend x side t) (IsOf P s)
descend-of P x s own (Variable l q) t r h ht = go (l == x) refl
  where
    go : (b : Bool) → (l == x) ≡ b → IfSome (cond b (Some t) None) (IsOf P s)
    go false e = tt
    go true e =
        let same : q ≡ r = cc in
        let here : P x q = subst (λ (k : ℕ). P k q) (eqb-true l x e) h.0.1 in
        subst (λ (k : Sort). IsOf P k t) (sym same ∙ own q here) ht
descend-of P x s own (Apply o (Cons a Nil)) t r h ht =
    let next = next-one P o a t r h ht in
    then-of (IsOf P next.0) (IsOf P s) (next_target o 0 (tree_sorts (Cons a Nil)) t t) (descend x a) next.2 (λ u k. descend-of P x s own a u next.0 (h.0.0.0, next.1) k)
descend-of P x s own (Apply o (Cons a (Cons b Nil))) t r h ht =
    let left = next-left P o a b t r h ht in
    let right = next-right P o a b t r h ht in
    either (λ p. IfSome p (IsOf P s)) (is_in x a)
    (option_and_then (λ next. descend x a next) (next_target o 0 (tree_sorts (Cons a (Cons b Nil))) b t))
    (option_and_then (λ next. descend x b next) (next_target o 1 (tree_sorts (Cons a (Cons b Nil))) a t))
    (then-of (IsOf P left.0) (IsOf P s) (next_target o 0 (tree_sorts (Cons a (Cons b Nil))) b t) (descend x a) left.2 (λ u k. descend-of P x s own a u left.0 (h.0.0.0, left.1) k))
    (then-of (IsOf P right.0) (IsOf P s) (next_target o 1 (tree_sorts (Cons a (Cons b Nil))) a t) (descend x b) right.2 (λ u k. descend-of P x s own b u right.0 (h.0.0.1.0, right.1) k))
descend-of P x s own (Constant i q) t r h ht = tt
descend-of P x s own (Literal q n) t r h ht = tt
descend-of P x s own (ForAll l q body) t r h ht = tt
descend-of P x s own (Exists l q body) t r h ht = tt
descend-of P x s own (Apply o Nil) t r h ht = tt
descend-of P x s own (Apply o (Cons a (Cons b (Cons c rest)))) t r h ht = tt

all-flat : (Q R : Tree → Type 0) (f : Tree → List Tree) (ts : List Tree) → ((t : Tree) → Q t → AllByRecursion R (f t)) → AllByRecursion Q ts → AllByRecursion R (flat_map f ts)
all-flat Q R f [] each h = tt
all-flat Q R f (t ∷ ts) each h = both R (f t) (flat_map f ts) (each t h.0) (all-flat Q R f ts each h.1)

as-list : (R : Tree → Type 0) (o : Option Tree) → IfSome o R → AllByRecursion R (option_to_list o)
as-list R None h = tt
as-list R (Some t) h = (h, tt)

down-of : (P : OfVariable) (x : ℕ) (s : Sort) → HasSort P x s → (side : Tree) (ts : List Tree) (r : Sort) → IsOf P r side → AllByRecursion (IsOf P r) ts → AllByRecursion (IsOf P s) (candidates_down x side ts)
down-of P x s own side ts r h each =
    all-flat (IsOf P r) (IsOf P s) (λ t. option_to_list (descend x side t)) ts (λ t ht. as-list (IsOf P s) (descend x side t) (descend-of P x s own side t r h ht)) each

-- targets
number-of : (P : OfVariable) (w n : ℕ) → IsLawful (Bits w) → n < 2 ^ w → IsOf P (Bits w) (number w n)
number-of P w n lawful h = ((lawful, h), refl)

pair-of : (P : OfVariable) (o : Op) (w : ℕ) (a b : Tree) → result_sort o (Bits w ∷ Bits w ∷ []) ≡ option_map Bits (two_widths (Bits w ∷ Bits w ∷ [])) → IsOf P (Bits w) a → IsOf P (Bits w) b → IsOf P (Bits w) (binary o a b)
pair-of P o w a b rank ha hb =
    let sort : tree_sort (binary o a b) ≡ Some (Bits w) = rw (ha.1, hb.1) (rank ∙ ap (option_map Bits) (same_width w)) in
    (((ha.0, (hb.0, tt)), rw sort refl), sort)

around-of : (P : OfVariable) (w : ℕ) (b : Tree) → IsOf P (Bits w) b → AllByRecursion (IsOf P (Bits w)) (targets_around b (Some (Bits w)))
around-of P w b h =
    let lawful = over-lawful P (Bits w) b h in
    let two : 1 < 2 ^ w = pow_below 0 w lawful.0 in
    let one = number-of P w 1 lawful two in (
      pair-of P BvSub w b (number w 1) refl h one,
      (pair-of P BvAdd w b (number w 1) refl h one, (h, (number-of P w 0 lawful (omega arith), (number-of P w (2 ^ w - 1) lawful (omega arith), tt)))),
    )

-- the sorts of the sides of a comparison, and of an equation
comparison-sorts : (o : Op) (ss : List Sort) (r : Sort) → is_comparison o ≡ true → result_sort o ss ≡ Some r → (w : ℕ) × (ss ≡ Bits w ∷ Bits w ∷ [])
comparison-sorts o ss r is e = go (two_widths ss) refl (sym (rank o is) ∙ e)
  where
    rank : (o : Op) → is_comparison o ≡ true → result_sort o ss ≡ option_map (λ _. BoolSort) (two_widths ss)
    rank BvUlt h = refl
    rank BvUle h = refl
    rank BvUgt h = refl
    rank BvUge h = refl
    rank BvSlt h = refl
    rank BvSle h = refl
    rank BvSgt h = refl
    rank BvSge h = refl
    rank o h = absurd cc

    go : (p : Option ℕ) → two_widths ss ≡ p → option_map (λ _. BoolSort) p ≡ Some r → (w : ℕ) × (ss ≡ Bits w ∷ Bits w ∷ [])
    go None at k = absurd cc
    go (Some w) at k = (w, two_widths-parts ss w at)

equation-sorts : (o : Op) (ss : List Sort) (r : Sort) → is_equation o ≡ true → result_sort o ss ≡ Some r → (s : Sort) × (ss ≡ s ∷ s ∷ [])
equation-sorts Equal ss r is e = go (two_alike ss) refl e
  where
    go : (p : Option Sort) → two_alike ss ≡ p → option_map (λ _. BoolSort) p ≡ Some r → (s : Sort) × (ss ≡ s ∷ s ∷ [])
    go None at k = absurd cc
    go (Some s) at k = (s, two_alike-parts ss s at)
equation-sorts o ss r is e = absurd cc

-- both sides have one sort, and so have the targets
targets-of : (P : OfVariable) (o : Op) (a b : Tree) (left right r : Sort) → (is_equation o || is_comparison o) ≡ true → result_sort o (left ∷ right ∷ []) ≡ Some r → IsOf P left a → IsOf P right b → AllByRecursion (IsOf P left) (targets o b) × AllByRecursion (IsOf P right) (targets o a)
targets-of P o a b left right r is rank ha hb = go (is_equation o) refl is
  where
    go : (k : Bool) → is_equation o ≡ k → (k || is_comparison o) ≡ true → AllByRecursion (IsOf P left) (cond k (b ∷ []) (targets_around b (tree_sort b))) × AllByRecursion (IsOf P right) (cond k (a ∷ []) (targets_around a (tree_sort a)))
    go true e h =
        let parts = equation-sorts o (left ∷ right ∷ []) r e rank in
        let same : left ≡ right = cc in
        ((subst (λ (s : Sort). IsOf P s b) (sym same) hb, tt), (subst (λ (s : Sort). IsOf P s a) same ha, tt))
    go false e h =
        let parts = comparison-sorts o (left ∷ right ∷ []) r h rank in
        let first : left ≡ Bits parts.0 = cc in
        let second : right ≡ Bits parts.0 = cc in (
          subst (λ (s : Sort). AllByRecursion (IsOf P s) (targets_around b (tree_sort b))) (sym first)
              (subst (λ (o : Option Sort). AllByRecursion (IsOf P (Bits parts.0)) (targets_around b o)) (sym (hb.1 ∙ ap (λ s. Some s) second)) (around-of P parts.0 b (subst (λ (s : Sort). IsOf P s b) second hb))),
          subst (λ (s : Sort). AllByRecursion (IsOf P s) (targets_around a (tree_sort a))) (sym second)
              (subst (λ (o : Option Sort). AllByRecursion (IsOf P (Bits parts.0)) (targets_around a o)) (sym (ha.1 ∙ ap (λ s. Some s) first)) (around-of P parts.0 a (subst (λ (s : Sort). IsOf P s a) first ha))),
        )

sides-of : (P : OfVariable) (x : ℕ) (s : Sort) → HasSort P x s → (o : Op) (a b : Tree) → IsOver P (Apply o (Cons a (Cons b Nil))) → AllByRecursion (IsOf P s) (candidates_of_sides x o a b)
sides-of P x s own o a b h = go (is_equation o || is_comparison o) refl
  where
    all : (is_equation o || is_comparison o) ≡ true → AllByRecursion (IsOf P s) (cond (is_in x a) (candidates_down x a (targets o b)) (candidates_down x b (targets o a)))
    all is =
        let sort = over-sort P (Apply o (Cons a (Cons b Nil))) h in
        let parts = two-arguments o a b sort.0 sort.1 in
        let each = targets-of P o a b parts.left parts.right sort.0 is parts.rank (h.0.0, parts.first) (h.0.1.0, parts.second) in
        either (AllByRecursion (IsOf P s)) (is_in x a) (candidates_down x a (targets o b)) (candidates_down x b (targets o a))
        (down-of P x s own a (targets o b) parts.left (h.0.0, parts.first) each.0)
        (down-of P x s own b (targets o a) parts.right (h.0.1.0, parts.second) each.1)

    go : (k : Bool) → (is_equation o || is_comparison o) ≡ k → AllByRecursion (IsOf P s) (cond (k && not (is_bool (tree_sort a)) && (occurrences x a + occurrences x b) == 1 && not (is_below_ite x a || is_below_ite x b)) (cond (is_in x a) (candidates_down x a (targets o b)) (candidates_down x b (targets o a))) [])
    go false is = tt
    go true is = either (AllByRecursion (IsOf P s)) (not (is_bool (tree_sort a)) && (occurrences x a + occurrences x b) == 1 && not (is_below_ite x a || is_below_ite x b)) (cond (is_in x a) (candidates_down x a (targets o b)) (candidates_down x b (targets o a))) [] (all is) tt

of-subtree : (P : OfVariable) (x : ℕ) (s : Sort) → HasSort P x s → (t : Tree) → IsOver P t → AllByRecursion (IsOf P s) (candidates_of x t)
of-subtree P x s own (Variable l BoolSort) h = go (l == x) refl
  where
    go : (k : Bool) → (l == x) ≡ k → AllByRecursion (IsOf P s) (cond k (Literal BoolSort 1 ∷ Literal BoolSort 0 ∷ []) [])
    go false is = tt
    go true is =
        let same : BoolSort ≡ s = own BoolSort (subst (λ (k : ℕ). P k BoolSort) (eqb-true l x is) h.1) in
        subst (λ (q : Sort). AllByRecursion (IsOf P q) (Literal BoolSort 1 ∷ Literal BoolSort 0 ∷ [])) same (((h.0, omega arith), refl), (((h.0, omega arith), refl), tt))
of-subtree P x s own (Variable l (Bits w)) h = tt
of-subtree P x s own (Constant i q) h = tt
of-subtree P x s own (Literal q n) h = tt
of-subtree P x s own (ForAll l q body) h = tt
of-subtree P x s own (Exists l q body) h = tt
of-subtree P x s own (Apply o Nil) h = tt
of-subtree P x s own (Apply o (Cons a Nil)) h = tt
of-subtree P x s own (Apply o (Cons a (Cons b Nil))) h = sides-of P x s own o a b h
of-subtree P x s own (Apply o (Cons a (Cons b (Cons c rest)))) h = tt

-- the nodes of a term
one-more : (Q : Tree → Type 0) (b : Bool) (seen : List Tree) (t : Tree) → AllByRecursion Q seen → Q t → AllByRecursion Q (cond b seen (seen ++ t ∷ []))
one-more Q b seen t h k = either (AllByRecursion Q) b seen (seen ++ t ∷ []) h (both Q seen (t ∷ []) h (k, tt))

mutual
  nodes-over : (P : OfVariable) (seen : List Tree) (t : Tree) → AllByRecursion (IsOver P) seen → IsOver P t → AllByRecursion (IsOver P) (with_nodes seen t)
  nodes-over P seen (Constant i s) h k = absurd k
  nodes-over P seen (Variable l s) h k = one-more (IsOver P) (is_among seen (Variable l s)) seen (Variable l s) h k
  nodes-over P seen (Literal s n) h k = one-more (IsOver P) (is_among seen (Literal s n)) seen (Literal s n) h k
  nodes-over P seen (Apply o args) h k =
      either (AllByRecursion (IsOver P)) (is_among seen (Apply o args)) seen (with_nodes_of seen args ++ Apply o args ∷ []) h
      (both (IsOver P) (with_nodes_of seen args) (Apply o args ∷ []) (nodes-over_each P seen args h k.0) (k, tt))
  nodes-over P seen (ForAll l s body) h k = absurd k
  nodes-over P seen (Exists l s body) h k = absurd k

  nodes-over_each : (P : OfVariable) (seen : List Tree) (ts : Trees) → AllByRecursion (IsOver P) seen → AreOver P ts → AllByRecursion (IsOver P) (with_nodes_of seen ts)
  nodes-over_each P seen Nil h k = h
  nodes-over_each P seen (Cons t ts) h k = nodes-over_each P (with_nodes seen t) ts (nodes-over P seen t h k.0) k.1

-- a candidate is a term of the place's sort over the region's variables, and outside the block
abbrev pub IsCandidate : OfVariable → ℕ → ℕ → Sort → Tree → Type 0
IsCandidate P first end s t = IsOf P s t × (is_outside first end t ≡ true)

pub candidates-over : (P : OfVariable) (first end : ℕ) (region : Tree) (x : ℕ) (s : Sort) → HasSort P x s → IsOver P region → AllByRecursion (IsCandidate P first end s) (candidates first end region x)
unfolding candidates
candidates-over P first end region x s own h =
    let literal : List Tree = flat_map (candidates_of x) (nodes (region ∷ [])) in
    let defined : List Tree = definitions first end region x in
    let found : List Tree = defined ++ literal in
    let over = nodes-over P [] region tt h in
    let each = both (IsOf P s) defined literal
    (together-of P first end x s region own (map (with_term x (truth_literal true)) (implications first end region x)) (parts-of P first end x s region own (nodes (region ∷ [])) over))
    (all-flat (IsOver P) (IsOf P s) (candidates_of x) (nodes (region ∷ [])) (of-subtree P x s own) over) in
    let kept : List Tree = filter (is_outside first end) found in
    all-both (IsOf P s) (λ t. is_outside first end t ≡ true) kept
    (recursion_from_All (IsOf P s) kept (All-filter (is_outside first end) (IsOf P s) found (All-from_recursion (IsOf P s) found each)))
    (recursion_from_All (λ t. is_outside first end t ≡ true) kept (filter_passes (is_outside first end) found))
