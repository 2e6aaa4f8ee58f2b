-- Down an operator to an argument.
use Rattle.std.proofs.Common.{◌≡◌, ℕ, ◌<◌, arith, true, false, cond, Option, Some, None, is_some, List, [], ◌∷◌, length, refl, sym, ap, ◌∙◌, subst}
use Rattle.std.specs.Prelude.{IfSome, option_map, option_and_then}
use Rattle.qv_words.specs.declared.sort.Sort.{Sort}
use Rattle.qv_words.specs.declared.sort.Sort.TheVariants.{Bits, Bool as BoolSort}
use Rattle.qv_words.specs.declared.op.Op.{Op}
use Rattle.qv_words.specs.declared.op.Op.TheVariants.{Ite}
use Rattle.qv_words.specs.Rank.{result_sort}
use Rattle.qv_words.specs.Tree.{Tree, Trees, Apply, Nil, Cons, tree_sort, tree_sorts}
use Rattle.qv_words.specs.Inverse.{inverse_term, row_at}
use Rattle.qv_words.specs.InverseLaws.{has_row, IsOver as IsRowOver}
use Rattle.qv_words.specs.Choice.{is_in, is_ite, literal_value, put_in_row, next_target, descend}
use Rattle.qv_words.proofs.Ranks.{sorts_parts, rank_parts, few_arguments}
use Rattle.qv_words.proofs.InverseThere.{rows_there}
use Rattle.qv_game_laws.proofs.Candidates.{TwoArguments, unary-over}

pub two-arguments : (o : Op) (a b : Tree) (r : Sort) → tree_sort (Apply o (Cons a (Cons b Nil))) ≡ Some r → TwoArguments o a b r
two-arguments o a b r e =
    let parts = rank_parts o (Cons a (Cons b Nil)) r e in
    let each = sorts_parts a (Cons b Nil) parts.0 parts.1 in
    let last = sorts_parts b Nil each.1 each.3 in
    let none : last.1 ≡ [] = cc in
    let rest : each.1 ≡ last.0 ∷ [] = last.4 ∙ ap (λ ss. last.0 ∷ ss) none in
    let whole : parts.0 ≡ each.0 ∷ last.0 ∷ [] = each.4 ∙ ap (λ ss. each.0 ∷ ss) rest in
    record { left = each.0; right = last.0; first = each.2; second = last.2; sorts = parts.1 ∙ ap (λ ss. Some ss) whole; rank = ap (result_sort o) (sym whole) ∙ parts.2 }

-- there are no four
pub not-four : (o : Op) (a b c d : Tree) (rest : Trees) (r : Sort) → tree_sort (Apply o (Cons a (Cons b (Cons c (Cons d rest))))) ≡ Some r → ⊥
not-four o a b c d rest r e =
    let parts = rank_parts o (Cons a (Cons b (Cons c (Cons d rest)))) r e in
    let one = sorts_parts a (Cons b (Cons c (Cons d rest))) parts.0 parts.1 in
    let two = sorts_parts b (Cons c (Cons d rest)) one.1 one.3 in
    let three = sorts_parts c (Cons d rest) two.1 two.3 in
    let four = sorts_parts d rest three.1 three.3 in
    let long : 3 < length parts.0 = omega (arith, ap length one.4, ap length two.4, ap length three.4, ap length four.4) in
    let none : result_sort o parts.0 ≡ None = few_arguments o parts.0 long in
    let gone : Some r ≡ None = sym parts.2 ∙ none in
    absurd (cc)

-- to the first of two, and to the second
pub descend-first : (x : ℕ) (o : Op) (a b t : Tree) → is_in x a ≡ true → descend x (Apply o (Cons a (Cons b Nil))) t ≡ option_and_then (λ next. descend x a next) (next_target o 0 (tree_sorts (Cons a (Cons b Nil))) b t)
descend-first x o a b t e =
    ap (λ c. cond c (option_and_then (λ next. descend x a next) (next_target o 0 (tree_sorts (Cons a (Cons b Nil))) b t)) (option_and_then (λ next. descend x b next) (next_target o 1 (tree_sorts (Cons a (Cons b Nil))) a t))) e

pub descend-second : (x : ℕ) (o : Op) (a b t : Tree) → is_in x a ≡ false → descend x (Apply o (Cons a (Cons b Nil))) t ≡ option_and_then (λ next. descend x b next) (next_target o 1 (tree_sorts (Cons a (Cons b Nil))) a t)
descend-second x o a b t e =
    ap (λ c. cond c (option_and_then (λ next. descend x a next) (next_target o 0 (tree_sorts (Cons a (Cons b Nil))) b t)) (option_and_then (λ next. descend x b next) (next_target o 1 (tree_sorts (Cons a (Cons b Nil))) a t))) e

-- the next target by its row
pub next-is : (o : Op) (position : ℕ) (ss : Option (List Sort)) (sorts : List Sort) (s t row : Tree) → ss ≡ Some sorts → inverse_term o position sorts (literal_value s) ≡ Some row → next_target o position ss s t ≡ Some (put_in_row s t row)
next-is o position ss sorts s t row e f = ap (λ q. next_target o position q s t) e ∙ ap (λ q. option_map (put_in_row s t) q) f

pub next-none : (o : Op) (position : ℕ) (ss : Option (List Sort)) (sorts : List Sort) (s t : Tree) → ss ≡ Some sorts → inverse_term o position sorts (literal_value s) ≡ None → next_target o position ss s t ≡ None
next-none o position ss sorts s t e f = ap (λ q. next_target o position q s t) e ∙ ap (λ q. option_map (put_in_row s t) q) f

-- the row for an only argument doesn't depend on a value
pub value-free : (o : Op) (a : Sort) (value : Option ℕ) → inverse_term o 0 (a ∷ []) value ≡ inverse_term o 0 (a ∷ []) None
unfolding inverse_term
value-free o a value = go (result_sort o (a ∷ []))
  where
    at : (a r : Sort) → row_at o 0 (a ∷ []) r value ≡ row_at o 0 (a ∷ []) r None
    at (Bits w) r = refl
    at BoolSort r = refl

    go : (q : Option Sort) → option_and_then (λ r. row_at o 0 (a ∷ []) r value) q ≡ option_and_then (λ r. row_at o 0 (a ∷ []) r None) q
    go None = refl
    go (Some r) = at a r

-- whether there is a row
the-row : (o : Option Tree) → is_some o ≡ true → (row : Tree) × (o ≡ Some row)
the-row None e = absurd (cc)
the-row (Some row) e = (row, refl)

the-none : (o : Option Tree) → is_some o ≡ false → o ≡ None
the-none None e = refl
the-none (Some row) e = absurd (cc)

pub row-there : (o : Op) (position : ℕ) (sorts : List Sort) (r : Sort) (value : Option ℕ) → result_sort o sorts ≡ Some r → position < length sorts → has_row o value ≡ true → (row : Tree) × (inverse_term o position sorts value ≡ Some row)
row-there o position sorts r value rank low e = the-row (inverse_term o position sorts value) (rows_there o position sorts r value rank low ∙ e)

pub row-missing : (o : Op) (position : ℕ) (sorts : List Sort) (r : Sort) (value : Option ℕ) → result_sort o sorts ≡ Some r → position < length sorts → has_row o value ≡ false → inverse_term o position sorts value ≡ None
row-missing o position sorts r value rank low e = the-none (inverse_term o position sorts value) (rows_there o position sorts r value rank low ∙ e)

-- a choice has no row
pub rows-but_ite : (o : Op) (value : Option ℕ) → has_row o value ≡ true → is_ite o ≡ false
rows-but_ite Ite value e = absurd (cc)
rows-but_ite _ value e = refl

pub one-row : (o : Op) (s q r : Sort) (value : Option ℕ) → result_sort o (s ∷ []) ≡ Some r → IfSome (inverse_term o 0 (s ∷ []) value) (IsRowOver q r)
unfolding inverse_term
one-row o s q r value e = subst (λ (p : Option Sort). IfSome (option_and_then (λ r. row_at o 0 (s ∷ []) r value) p) (IsRowOver q r)) (sym e) (at s)
  where
    at : (s : Sort) → IfSome (row_at o 0 (s ∷ []) r value) (IsRowOver q r)
    at (Bits w) = unary-over o w q r
    at BoolSort = tt
