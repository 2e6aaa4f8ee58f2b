-- What the way to a place says of the candidates down a term.
use Rattle.std.proofs.Common.{◌≡◌, ℕ, zero, suc, ◌+◌, ◌==◌, ◌&&◌, ◌||◌, arith, Bool, true, false, cond, not, Option, Some, None, [], ◌∷◌, refl, sym, ap, ◌∙◌, subst}
use Rattle.std.specs.Prelude.{IfSome, option_and_then}
use Rattle.qv_words.specs.declared.sort.Sort.{Sort}
use Rattle.qv_words.specs.declared.op.Op.{Op}
use Rattle.qv_words.specs.Sort.{IsLawful}
use Rattle.qv_words.specs.Tree.{Tree, Constant, Variable, Literal, Apply, ForAll, Exists, Nil, Cons, tree_sort, tree_sorts, IsQuantifierFree}
use Rattle.qv_words.specs.Sorted.{IsSorted, no_levels}
use Rattle.qv_words.specs.Inverse.{inverse_term}
use Rattle.qv_words.specs.InverseLaws.{has_row}
use Rattle.qv_words.specs.Choice.{occurrences, is_in, is_ite, is_below_ite, literal_value, put_in_row, next_target, descend}
use Rattle.qv_words.proofs.Ranks.{found}
use Rattle.qv_words.proofs.Existing.{lawful_sorts}
use Rattle.qv_words.proofs.Elements.{of-if_some}
use Rattle.qv_game_laws.proofs.Candidates.{OneArgument, TwoArguments, one-argument}
use Rattle.qv_choose_paths.specs.declared.ways.Place.{Place}
use Rattle.qv_choose_paths.specs.declared.ways.Way.{Way}
use Rattle.qv_choose_paths.specs.declared.ways.Way.TheVariants.{Absent, Hidden, Open}
use Rattle.qv_choose_paths.specs.Rows.{uses_other}
use Rattle.qv_choose_paths.specs.Looks.{has_inside, through, way_of_two, way_of_three, is_clear, way_of}
use Rattle.qv_choose_paths.proofs.Insides.{or-false, absent-below}
use Rattle.qv_choose_paths.proofs.RowInsides.{Brings, only-brings, left-brings, right-brings}
use Rattle.qv_choose_paths.proofs.Downs.{two-arguments, not-four, descend-first, descend-second, next-is, next-none, value-free, row-there, row-missing, rows-but_ite}
use Rattle.std.proofs.lemmas.Bool.{and_parts, or_parts}

-- a target leads to a term, which has places of the block where the target has
pub record Leads (p : Place) (t target : Tree) : Type 0 where
  pub term : Tree
  pub is : descend p.level t target ≡ Some term
  pub inside : has_inside p term ≡ has_inside p target

pub record IsOpen (p : Place) (t : Tree) : Type 0 where
  pub once : occurrences p.level t ≡ 1
  pub above : is_below_ite p.level t ≡ false
  pub leads : (target : Tree) → Leads p t target

-- the place is there, and no target leads to a term without a place of the block
pub record IsHidden (p : Place) (t : Tree) : Type 0 where
  pub there : occurrences p.level t ≡ 0 → ⊥
  pub none : occurrences p.level t ≡ 1 → is_below_ite p.level t ≡ false → (target : Tree) → IfSome (descend p.level t target) (λ u. has_inside p u ≡ true)

abbrev pub Stands : Place → Tree → Way → Type 0
Stands p t Absent = occurrences p.level t ≡ 0
Stands p t Hidden = IsHidden p t
Stands p t Open = IsOpen p t

not-true : (a : Bool) → not a ≡ true → a ≡ false
not-true true e = absurd (cc)
not-true false e = refl

not-false : (a : Bool) → not a ≡ false → a ≡ true
not-false true e = refl
not-false false e = absurd (cc)

or-true : (a : Bool) → (a || true) ≡ true
or-true true = refl
or-true false = refl

pub in-one : (x : ℕ) (t : Tree) → occurrences x t ≡ 1 → is_in x t ≡ true
in-one x t e = ap (λ n. not (n == 0)) e

pub in-none : (x : ℕ) (t : Tree) → occurrences x t ≡ 0 → is_in x t ≡ false
in-none x t e = ap (λ n. not (n == 0)) e

then-if : (Q : Tree → Type 0) (o : Option Tree) (f : Tree → Option Tree) → ((u : Tree) → IfSome (f u) Q) → IfSome (option_and_then f o) Q
then-if Q None f h = tt
then-if Q (Some u) f h = h u

none-if : (Q : Tree → Type 0) (o : Option Tree) → o ≡ None → IfSome o Q
none-if Q None e = tt
none-if Q (Some u) e = absurd (cc)

some-if : (Q : Tree → Type 0) (o : Option Tree) (u : Tree) → o ≡ Some u → Q u → IfSome o Q
some-if Q None u e h = tt
some-if Q (Some v) u e h = let same : v ≡ u = cc in subst Q (sym same) h

-- no choice stands above
choice-above : (o : Op) (value : Option ℕ) (n : ℕ) (b : Bool) → has_row o value ≡ true → ((is_ite o && not (n == 0)) || b) ≡ b
choice-above o value n b e = ap (λ c. (c && not (n == 0)) || b) (rows-but_ite o value e)

-- through an operator of one argument
only-open : (p : Place) (o : Op) (a : Tree) (r : Sort) → OneArgument o a r → has_row o None ≡ true → IsOpen p a → IsOpen p (Apply o (Cons a Nil))
only-open p o a r parts row h = record {
  once = omega (arith, h.once);
  above = choice-above o None (occurrences p.level a + 0) (is_below_ite p.level a || false) row ∙ or-false (is_below_ite p.level a) ∙ h.above;
  leads = λ t.
      let sorts = parts.sort ∷ [] in
      let term = row-there o 0 sorts r None parts.rank (omega arith) row in
      let here : inverse_term o 0 sorts (literal_value t) ≡ Some term.0 = value-free o parts.sort (literal_value t) ∙ term.1 in
      let deeper = h.leads (put_in_row t t term.0) in
      record {
        term = deeper.term;
        is = ap (λ q. option_and_then (λ next. descend p.level a next) q) (next-is o 0 (tree_sorts (Cons a Nil)) sorts t t term.0 parts.sorts here) ∙ deeper.is;
        inside = deeper.inside ∙ of-if_some (inverse_term o 0 sorts (literal_value t)) (λ row. has_inside p (put_in_row t t row) ≡ has_inside p t) term.0 here (only-brings p t t o parts.sort (literal_value t));
      };
}

only-hidden : (p : Place) (o : Op) (a : Tree) → IsHidden p a → IsHidden p (Apply o (Cons a Nil))
only-hidden p o a h = record {
  there = λ e. h.there (omega (arith, e));
  none = λ once above t.
      let below = or_parts (is_ite o && not ((occurrences p.level a + 0) == 0)) (is_below_ite p.level a || false) above in
      then-if (λ u. has_inside p u ≡ true) (next_target o 0 (tree_sorts (Cons a Nil)) t t) (λ next. descend p.level a next)
      (h.none (omega (arith, once)) (sym (or-false (is_below_ite p.level a)) ∙ below.1));
}

only-closed : (p : Place) (o : Op) (a : Tree) (r : Sort) → OneArgument o a r → has_row o None ≡ false → IsOpen p a → IsHidden p (Apply o (Cons a Nil))
only-closed p o a r parts row h = record {
  there = λ e. omega (arith, e, h.once);
  none = λ once above t.
      let gone : inverse_term o 0 (parts.sort ∷ []) (literal_value t) ≡ None = value-free o parts.sort (literal_value t) ∙ row-missing o 0 (parts.sort ∷ []) r None parts.rank (omega arith) row in
      none-if (λ u. has_inside p u ≡ true) (descend p.level (Apply o (Cons a Nil)) t)
      (ap (λ q. option_and_then (λ next. descend p.level a next) q) (next-none o 0 (tree_sorts (Cons a Nil)) (parts.sort ∷ []) t t parts.sorts gone));
}

only-stands : (p : Place) (o : Op) (a : Tree) (r : Sort) → OneArgument o a r → (w : Way) → Stands p a w → Stands p (Apply o (Cons a Nil)) (through (has_row o None) w)
only-stands p o a r parts Absent h = omega (arith, h)
only-stands p o a r parts Hidden h = only-hidden p o a h
only-stands p o a r parts Open h = go (has_row o None) refl
  where
    go : (b : Bool) → has_row o None ≡ b → Stands p (Apply o (Cons a Nil)) (cond b Open Hidden)
    go true e = only-open p o a r parts e h
    go false e = only-closed p o a r parts e h

-- through one of two, to the first
left-open : (p : Place) (o : Op) (a b : Tree) (r : Sort) → TwoArguments o a b r → is_clear p o 0 b ≡ true → occurrences p.level b ≡ 0 → IsOpen p a → IsOpen p (Apply o (Cons a (Cons b Nil)))
left-open p o a b r parts clear none h =
    let clears = and_parts (has_row o (literal_value b)) (not (has_inside p b && uses_other o 0)) clear in
    let sorts = parts.left ∷ parts.right ∷ [] in
    let row = row-there o 0 sorts r (literal_value b) parts.rank (omega arith) clears.0 in
    record {
      once = omega (arith, h.once, none);
      above =
          choice-above o (literal_value b) (occurrences p.level a + (occurrences p.level b + 0)) (is_below_ite p.level a || (is_below_ite p.level b || false)) clears.0
          ∙ ap (λ c. c || (is_below_ite p.level b || false)) h.above ∙ or-false (is_below_ite p.level b) ∙ absent-below p.level b none;
      leads = λ t.
          let deeper = h.leads (put_in_row b t row.0) in
          record {
            term = deeper.term;
            is = descend-first p.level o a b t (in-one p.level a h.once)
                ∙ ap (λ q. option_and_then (λ next. descend p.level a next) q) (next-is o 0 (tree_sorts (Cons a (Cons b Nil))) sorts b t row.0 parts.sorts row.1) ∙ deeper.is;
            inside = deeper.inside
                ∙ of-if_some (inverse_term o 0 sorts (literal_value b)) (Brings p b t (uses_other o 0)) row.0 row.1 (left-brings p b t o parts.left parts.right (literal_value b))
                ∙ ap (λ c. has_inside p t || c) (not-true (has_inside p b && uses_other o 0) clears.1) ∙ or-false (has_inside p t);
          };
    }

left-closed : (p : Place) (o : Op) (a b : Tree) (r : Sort) → TwoArguments o a b r → is_clear p o 0 b ≡ false → occurrences p.level b ≡ 0 → IsOpen p a → IsHidden p (Apply o (Cons a (Cons b Nil)))
left-closed p o a b r parts clear none h = record {
  there = λ e. omega (arith, e, h.once);
  none = λ once above t. subst (λ (q : Option Tree). IfSome q (λ u. has_inside p u ≡ true)) (sym (descend-first p.level o a b t (in-one p.level a h.once))) (go t (has_row o (literal_value b)) refl);
}
  where
    go : (t : Tree) (c : Bool) → has_row o (literal_value b) ≡ c → IfSome (option_and_then (λ next. descend p.level a next) (next_target o 0 (tree_sorts (Cons a (Cons b Nil))) b t)) (λ u. has_inside p u ≡ true)
    go t false e =
        none-if (λ u. has_inside p u ≡ true) (option_and_then (λ next. descend p.level a next) (next_target o 0 (tree_sorts (Cons a (Cons b Nil))) b t))
        (ap (λ q. option_and_then (λ next. descend p.level a next) q) (next-none o 0 (tree_sorts (Cons a (Cons b Nil))) (parts.left ∷ parts.right ∷ []) b t parts.sorts (row-missing o 0 (parts.left ∷ parts.right ∷ []) r (literal_value b) parts.rank (omega arith) e)))
    go t true e =
        let row = row-there o 0 (parts.left ∷ parts.right ∷ []) r (literal_value b) parts.rank (omega arith) e in
        let deeper = h.leads (put_in_row b t row.0) in
        let comes : (has_inside p b && uses_other o 0) ≡ true = not-false (has_inside p b && uses_other o 0) (sym (ap (λ c. c && not (has_inside p b && uses_other o 0)) e) ∙ clear) in
        some-if (λ u. has_inside p u ≡ true) (option_and_then (λ next. descend p.level a next) (next_target o 0 (tree_sorts (Cons a (Cons b Nil))) b t)) deeper.term
        (ap (λ q. option_and_then (λ next. descend p.level a next) q) (next-is o 0 (tree_sorts (Cons a (Cons b Nil))) (parts.left ∷ parts.right ∷ []) b t row.0 parts.sorts row.1) ∙ deeper.is)
        (deeper.inside
        ∙ of-if_some (inverse_term o 0 (parts.left ∷ parts.right ∷ []) (literal_value b)) (Brings p b t (uses_other o 0)) row.0 row.1 (left-brings p b t o parts.left parts.right (literal_value b))
        ∙ ap (λ c. has_inside p t || c) comes ∙ or-true (has_inside p t))

left-hidden : (p : Place) (o : Op) (a b : Tree) → occurrences p.level b ≡ 0 → IsHidden p a → IsHidden p (Apply o (Cons a (Cons b Nil)))
left-hidden p o a b none h = record {
  there = λ e. h.there (omega (arith, e));
  none = λ once above t.
      let one : occurrences p.level a ≡ 1 = omega (arith, once, none) in
      let below = or_parts (is_ite o && not ((occurrences p.level a + (occurrences p.level b + 0)) == 0)) (is_below_ite p.level a || (is_below_ite p.level b || false)) above in
      let own = or_parts (is_below_ite p.level a) (is_below_ite p.level b || false) below.1 in
      subst (λ (q : Option Tree). IfSome q (λ u. has_inside p u ≡ true)) (sym (descend-first p.level o a b t (in-one p.level a one)))
      (then-if (λ u. has_inside p u ≡ true) (next_target o 0 (tree_sorts (Cons a (Cons b Nil))) b t) (λ next. descend p.level a next) (h.none one own.0));
}

left-stands : (p : Place) (o : Op) (a b : Tree) (r : Sort) → TwoArguments o a b r → occurrences p.level b ≡ 0 → (w : Way) → Stands p a w → Stands p (Apply o (Cons a (Cons b Nil))) (through (is_clear p o 0 b) w)
left-stands p o a b r parts none Absent h = omega (arith, h, none)
left-stands p o a b r parts none Hidden h = left-hidden p o a b none h
left-stands p o a b r parts none Open h = go (is_clear p o 0 b) refl
  where
    go : (c : Bool) → is_clear p o 0 b ≡ c → Stands p (Apply o (Cons a (Cons b Nil))) (cond c Open Hidden)
    go true e = left-open p o a b r parts e none h
    go false e = left-closed p o a b r parts e none h

-- and to the second
right-open : (p : Place) (o : Op) (a b : Tree) (r : Sort) (parts : TwoArguments o a b r) → IsLawful parts.right → is_clear p o 1 a ≡ true → occurrences p.level a ≡ 0 → IsOpen p b → IsOpen p (Apply o (Cons a (Cons b Nil)))
right-open p o a b r parts lawful clear none h =
    let clears = and_parts (has_row o (literal_value a)) (not (has_inside p a && uses_other o 1)) clear in
    let sorts = parts.left ∷ parts.right ∷ [] in
    let row = row-there o 1 sorts r (literal_value a) parts.rank (omega arith) clears.0 in
    record {
      once = omega (arith, h.once, none);
      above =
          choice-above o (literal_value a) (occurrences p.level a + (occurrences p.level b + 0)) (is_below_ite p.level a || (is_below_ite p.level b || false)) clears.0
          ∙ ap (λ c. c || (is_below_ite p.level b || false)) (absent-below p.level a none) ∙ or-false (is_below_ite p.level b) ∙ h.above;
      leads = λ t.
          let deeper = h.leads (put_in_row a t row.0) in
          record {
            term = deeper.term;
            is = descend-second p.level o a b t (in-none p.level a none)
                ∙ ap (λ q. option_and_then (λ next. descend p.level b next) q) (next-is o 1 (tree_sorts (Cons a (Cons b Nil))) sorts a t row.0 parts.sorts row.1) ∙ deeper.is;
            inside = deeper.inside
                ∙ of-if_some (inverse_term o 1 sorts (literal_value a)) (Brings p a t (uses_other o 1)) row.0 row.1 (right-brings p a t o parts.left parts.right (literal_value a) lawful)
                ∙ ap (λ c. has_inside p t || c) (not-true (has_inside p a && uses_other o 1) clears.1) ∙ or-false (has_inside p t);
          };
    }

right-closed : (p : Place) (o : Op) (a b : Tree) (r : Sort) (parts : TwoArguments o a b r) → IsLawful parts.right → is_clear p o 1 a ≡ false → occurrences p.level a ≡ 0 → IsOpen p b → IsHidden p (Apply o (Cons a (Cons b Nil)))
right-closed p o a b r parts lawful clear none h = record {
  there = λ e. omega (arith, e, h.once);
  none = λ once above t. subst (λ (q : Option Tree). IfSome q (λ u. has_inside p u ≡ true)) (sym (descend-second p.level o a b t (in-none p.level a none))) (go t (has_row o (literal_value a)) refl);
}
  where
    go : (t : Tree) (c : Bool) → has_row o (literal_value a) ≡ c → IfSome (option_and_then (λ next. descend p.level b next) (next_target o 1 (tree_sorts (Cons a (Cons b Nil))) a t)) (λ u. has_inside p u ≡ true)
    go t false e =
        none-if (λ u. has_inside p u ≡ true) (option_and_then (λ next. descend p.level b next) (next_target o 1 (tree_sorts (Cons a (Cons b Nil))) a t))
        (ap (λ q. option_and_then (λ next. descend p.level b next) q) (next-none o 1 (tree_sorts (Cons a (Cons b Nil))) (parts.left ∷ parts.right ∷ []) a t parts.sorts (row-missing o 1 (parts.left ∷ parts.right ∷ []) r (literal_value a) parts.rank (omega arith) e)))
    go t true e =
        let row = row-there o 1 (parts.left ∷ parts.right ∷ []) r (literal_value a) parts.rank (omega arith) e in
        let deeper = h.leads (put_in_row a t row.0) in
        let comes : (has_inside p a && uses_other o 1) ≡ true = not-false (has_inside p a && uses_other o 1) (sym (ap (λ c. c && not (has_inside p a && uses_other o 1)) e) ∙ clear) in
        some-if (λ u. has_inside p u ≡ true) (option_and_then (λ next. descend p.level b next) (next_target o 1 (tree_sorts (Cons a (Cons b Nil))) a t)) deeper.term
        (ap (λ q. option_and_then (λ next. descend p.level b next) q) (next-is o 1 (tree_sorts (Cons a (Cons b Nil))) (parts.left ∷ parts.right ∷ []) a t row.0 parts.sorts row.1) ∙ deeper.is)
        (deeper.inside
        ∙ of-if_some (inverse_term o 1 (parts.left ∷ parts.right ∷ []) (literal_value a)) (Brings p a t (uses_other o 1)) row.0 row.1 (right-brings p a t o parts.left parts.right (literal_value a) lawful)
        ∙ ap (λ c. has_inside p t || c) comes ∙ or-true (has_inside p t))

right-hidden : (p : Place) (o : Op) (a b : Tree) → occurrences p.level a ≡ 0 → IsHidden p b → IsHidden p (Apply o (Cons a (Cons b Nil)))
right-hidden p o a b none h = record {
  there = λ e. h.there (omega (arith, e));
  none = λ once above t.
      let one : occurrences p.level b ≡ 1 = omega (arith, once, none) in
      let below = or_parts (is_ite o && not ((occurrences p.level a + (occurrences p.level b + 0)) == 0)) (is_below_ite p.level a || (is_below_ite p.level b || false)) above in
      let own = or_parts (is_below_ite p.level a) (is_below_ite p.level b || false) below.1 in
      subst (λ (q : Option Tree). IfSome q (λ u. has_inside p u ≡ true)) (sym (descend-second p.level o a b t (in-none p.level a none)))
      (then-if (λ u. has_inside p u ≡ true) (next_target o 1 (tree_sorts (Cons a (Cons b Nil))) a t) (λ next. descend p.level b next) (h.none one (sym (or-false (is_below_ite p.level b)) ∙ own.1)));
}

right-stands : (p : Place) (o : Op) (a b : Tree) (r : Sort) (parts : TwoArguments o a b r) → IsLawful parts.right → occurrences p.level a ≡ 0 → (w : Way) → Stands p b w → Stands p (Apply o (Cons a (Cons b Nil))) (through (is_clear p o 1 a) w)
right-stands p o a b r parts lawful none Absent h = omega (arith, h, none)
right-stands p o a b r parts lawful none Hidden h = right-hidden p o a b none h
right-stands p o a b r parts lawful none Open h = go (is_clear p o 1 a) refl
  where
    go : (c : Bool) → is_clear p o 1 a ≡ c → Stands p (Apply o (Cons a (Cons b Nil))) (cond c Open Hidden)
    go true e = right-open p o a b r parts lawful e none h
    go false e = right-closed p o a b r parts lawful e none h

-- to either of two
both-hidden : (p : Place) (o : Op) (a b : Tree) → (occurrences p.level a ≡ 0 → ⊥) → (occurrences p.level b ≡ 0 → ⊥) → IsHidden p (Apply o (Cons a (Cons b Nil)))
both-hidden p o a b g h = record {
  there = λ e. g (omega (arith, e));
  none = λ once. absurd (clash (occurrences p.level a) (occurrences p.level b) g h (omega (arith, once)));
}
  where
    clash : (m n : ℕ) → (m ≡ 0 → ⊥) → (n ≡ 0 → ⊥) → m + n ≡ 1 → ⊥
    clash zero n g h e = g refl
    clash (suc m) zero g h e = h refl
    clash (suc m) (suc n) g h e = omega (arith, e)

open-there : (p : Place) (t : Tree) → IsOpen p t → occurrences p.level t ≡ 0 → ⊥
open-there p t h e = omega (arith, e, h.once)

two-stands : (p : Place) (o : Op) (a b : Tree) (r : Sort) (parts : TwoArguments o a b r) → IsLawful parts.right → (v w : Way) → Stands p a v → Stands p b w → Stands p (Apply o (Cons a (Cons b Nil))) (way_of_two v w (through (is_clear p o 0 b) v) (through (is_clear p o 1 a) w))
two-stands p o a b r parts lawful Absent w g h = right-stands p o a b r parts lawful g w h
two-stands p o a b r parts lawful Hidden Absent g h = left-stands p o a b r parts h Hidden g
two-stands p o a b r parts lawful Open Absent g h = left-stands p o a b r parts h Open g
two-stands p o a b r parts lawful Hidden Hidden g h = both-hidden p o a b g.there h.there
two-stands p o a b r parts lawful Hidden Open g h = both-hidden p o a b g.there (open-there p b h)
two-stands p o a b r parts lawful Open Hidden g h = both-hidden p o a b (open-there p a g) h.there
two-stands p o a b r parts lawful Open Open g h = both-hidden p o a b (open-there p a g) (open-there p b h)

-- below three nothing leads
three-hidden : (p : Place) (o : Op) (a b c : Tree) → (occurrences p.level (Apply o (Cons a (Cons b (Cons c Nil)))) ≡ 0 → ⊥) → IsHidden p (Apply o (Cons a (Cons b (Cons c Nil))))
three-hidden p o a b c h = record { there = h; none = λ once above t. tt }

three-stands : (p : Place) (o : Op) (a b c : Tree) (u v w : Way) → Stands p a u → Stands p b v → Stands p c w → Stands p (Apply o (Cons a (Cons b (Cons c Nil)))) (way_of_three u v w)
three-stands p o a b c Absent Absent Absent f g h = omega (arith, f, g, h)
three-stands p o a b c Absent Absent Hidden f g h = three-hidden p o a b c (λ e. h.there (omega (arith, e)))
three-stands p o a b c Absent Absent Open f g h = three-hidden p o a b c (λ e. omega (arith, e, h.once))
three-stands p o a b c Absent Hidden w f g h = three-hidden p o a b c (λ e. g.there (omega (arith, e)))
three-stands p o a b c Absent Open w f g h = three-hidden p o a b c (λ e. omega (arith, e, g.once))
three-stands p o a b c Hidden v w f g h = three-hidden p o a b c (λ e. f.there (omega (arith, e)))
three-stands p o a b c Open v w f g h = three-hidden p o a b c (λ e. omega (arith, e, f.once))

-- each term's way is right
pub ways-stand : (p : Place) (t : Tree) → IsSorted t → IsQuantifierFree t → Stands p t (way_of p t)
ways-stand p (Constant i s) sorted free = refl
ways-stand p (Variable l s) sorted free = go (l == p.level) refl
  where
    go : (b : Bool) → (l == p.level) ≡ b → Stands p (Variable l s) (cond b Open Absent)
    go true e = record {
      once = ap (λ b. cond b 1 0) e;
      above = refl;
      leads = λ t. record { term = t; is = ap (λ b. cond b (Some t) None) e; inside = refl };
    }
    go false e = ap (λ b. cond b 1 0) e
ways-stand p (Literal s n) sorted free = refl
ways-stand p (ForAll l s body) sorted free = absurd free
ways-stand p (Exists l s body) sorted free = absurd free
ways-stand p (Apply o Nil) sorted free = refl
ways-stand p (Apply o (Cons a Nil)) sorted free =
    let sort = found (tree_sort (Apply o (Cons a Nil))) sorted.1 in
    only-stands p o a sort.0 (one-argument o a sort.0 sort.1) (way_of p a) (ways-stand p a sorted.0.0 free.0)
ways-stand p (Apply o (Cons a (Cons b Nil))) sorted free =
    let sort = found (tree_sort (Apply o (Cons a (Cons b Nil)))) sorted.1 in
    let parts = two-arguments o a b sort.0 sort.1 in
    let lawful = lawful_sorts (Cons a (Cons b Nil)) no_levels (parts.left ∷ parts.right ∷ []) sorted.0 parts.sorts in
    two-stands p o a b sort.0 parts lawful.1.0 (way_of p a) (way_of p b) (ways-stand p a sorted.0.0 free.0) (ways-stand p b sorted.0.1.0 free.1.0)
ways-stand p (Apply o (Cons a (Cons b (Cons c Nil)))) sorted free =
    three-stands p o a b c (way_of p a) (way_of p b) (way_of p c) (ways-stand p a sorted.0.0 free.0) (ways-stand p b sorted.0.1.0 free.1.0) (ways-stand p c sorted.0.1.1.0 free.1.1.0)
ways-stand p (Apply o (Cons a (Cons b (Cons c (Cons d rest))))) sorted free =
    let sort = found (tree_sort (Apply o (Cons a (Cons b (Cons c (Cons d rest)))))) sorted.1 in
    absurd (not-four o a b c d rest sort.0 sort.1)
