-- Whether places of a block stand in a term.
use Rattle.std.proofs.Common.{◌≡◌, ℕ, ◌==◌, ◌&&◌, ◌||◌, nat_le, nat_lt, arith, Bool, true, false, not, List, [], ◌∷◌, ◌++◌, refl, ap, ◌∙◌}
use Rattle.std.specs.List.{list_any}
use Rattle.qv_words.specs.declared.sort.Sort.{Sort}
use Rattle.qv_words.specs.Tree.{Tree, Trees, Constant, Variable, Literal, Apply, ForAll, Exists, Nil, Cons, IsQuantifierFree, AreQuantifierFree}
use Rattle.qv_words.specs.Sorted.{free_levels, free_levels_of_all}
use Rattle.qv_words.specs.Choice.{occurrences, occurrences_in_each, is_ite, is_below_ite, is_some_below_ite, is_outside}
use Rattle.qv_choose_paths.specs.declared.ways.Place.{Place}
use Rattle.qv_choose_paths.specs.Looks.{has_inside, has_some_inside}

pub or-false : (a : Bool) → (a || false) ≡ a
or-false true = refl
or-false false = refl

or-assoc : (a b c : Bool) → (a || (b || c)) ≡ ((a || b) || c)
or-assoc true b c = refl
or-assoc false b c = refl

and-false : (a : Bool) → (a && false) ≡ false
and-false true = refl
and-false false = refl

any-append : (f : ℕ × Sort → Bool) (xs ys : List (ℕ × Sort)) → list_any f (xs ++ ys) ≡ (list_any f xs || list_any f ys)
any-append f [] ys = refl
any-append f (x ∷ xs) ys = ap (λ b. f x || b) (any-append f xs ys) ∙ or-assoc (f x) (list_any f xs) (list_any f ys)

-- it does where one of the variables is one
abbrev IsPlace : Place → ℕ × Sort → Bool
IsPlace p leaf = nat_le p.first leaf.0 && nat_lt leaf.0 p.end

mutual
  leaves-inside : (p : Place) (t : Tree) → IsQuantifierFree t → list_any (IsPlace p) (free_levels t) ≡ has_inside p t
  leaves-inside p (Constant i s) h = refl
  leaves-inside p (Variable l s) h = or-false (nat_le p.first l && nat_lt l p.end)
  leaves-inside p (Literal s n) h = refl
  leaves-inside p (Apply o args) h = leaves-inside_each p args h
  leaves-inside p (ForAll l s body) h = absurd h
  leaves-inside p (Exists l s body) h = absurd h

  leaves-inside_each : (p : Place) (ts : Trees) → AreQuantifierFree ts → list_any (IsPlace p) (free_levels_of_all ts) ≡ has_some_inside p ts
  leaves-inside_each p Nil h = refl
  leaves-inside_each p (Cons t ts) h =
      any-append (IsPlace p) (free_levels t) (free_levels_of_all ts)
      ∙ ap (λ b. b || list_any (IsPlace p) (free_levels_of_all ts)) (leaves-inside p t h.0)
      ∙ ap (λ b. has_inside p t || b) (leaves-inside_each p ts h.1)

pub outside-is : (p : Place) (t : Tree) → IsQuantifierFree t → is_outside p.first p.end t ≡ not (has_inside p t)
outside-is p t h = ap not (leaves-inside p t h)

-- a place that isn't there doesn't stand below a choice
mutual
  pub absent-below : (x : ℕ) (t : Tree) → occurrences x t ≡ 0 → is_below_ite x t ≡ false
  absent-below x (Constant i s) h = refl
  absent-below x (Variable l s) h = refl
  absent-below x (Literal s n) h = refl
  absent-below x (Apply o args) h =
      ap (λ n. (is_ite o && not (n == 0)) || is_some_below_ite x args) h
      ∙ ap (λ b. b || is_some_below_ite x args) (and-false (is_ite o))
      ∙ absent-below_each x args h
  absent-below x (ForAll l s body) h = refl
  absent-below x (Exists l s body) h = refl

  absent-below_each : (x : ℕ) (ts : Trees) → occurrences_in_each x ts ≡ 0 → is_some_below_ite x ts ≡ false
  absent-below_each x Nil h = refl
  absent-below_each x (Cons t ts) h =
      ap (λ b. b || is_some_below_ite x ts) (absent-below x t (omega (arith, h)))
      ∙ absent-below_each x ts (omega (arith, h))
