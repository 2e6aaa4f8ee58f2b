-- How a place stands in the terms of a region.
use Rattle.std.specs.Prelude.{◌≡◌, ℕ, ◌==◌, nat_le, nat_lt, Bool, false, not, ◌&&◌, ◌||◌, if◌then◌else◌, Some, None, List, slice_get}
use Rattle.qv_words.specs.declared.op.Op.{Op}
use Rattle.qv_words.specs.Tree.{Tree, Trees, Constant, Variable, Literal, Apply, ForAll, Exists, Nil, Cons}
use Rattle.qv_words.specs.InverseLaws.{has_row}
use Rattle.qv_words.specs.Choice.{literal_value}
use Rattle.qv_store.specs.Nodes.{tree_at}
use Rattle.qv_choose_paths.specs.declared.ways.Place.{Place}
use Rattle.qv_choose_paths.specs.declared.ways.Way.{Way}
use Rattle.qv_choose_paths.specs.declared.ways.Way.TheVariants.{Absent, Hidden, Open}
use Rattle.qv_choose_paths.specs.declared.ways.Look.{Look}
use Rattle.qv_choose_paths.specs.Rows.{uses_other}

-- whether a place of the block stands in a tree
abbrev mutual
  pub has_inside : Place → Tree → Bool
  has_inside p (Constant i s) = false
  has_inside p (Variable l s) = nat_le p.first l && nat_lt l p.end
  has_inside p (Literal s n) = false
  has_inside p (Apply o args) = has_some_inside p args
  has_inside p (ForAll l s body) = false
  has_inside p (Exists l s body) = false

  pub has_some_inside : Place → Trees → Bool
  has_some_inside p Nil = false
  has_some_inside p (Cons t ts) = has_inside p t || has_some_inside p ts

-- the way through an operator that has a row for the argument, into which no place of the block
-- comes, or else
abbrev pub through : Bool → Way → Way
through clear Absent = Absent
through clear Hidden = Hidden
through clear Open = if clear then Open else Hidden

-- the way to the one of two arguments in which the place stands
abbrev pub way_of_two : (left right to_left to_right : Way) → Way
way_of_two Absent right to_left to_right = to_right
way_of_two left Absent to_left to_right = to_left
way_of_two left right to_left to_right = Hidden

abbrev pub way_of_three : Way → Way → Way → Way
way_of_three Absent Absent Absent = Absent
way_of_three a b c = Hidden

-- beside another argument, for the one at a position
abbrev pub is_clear : Place → Op → ℕ → Tree → Bool
is_clear p o position other = has_row o (literal_value other) && not (has_inside p other && uses_other o position)

abbrev pub way_of : Place → Tree → Way
way_of p (Variable l s) = if l == p.level then Open else Absent
way_of p (Apply o (Cons a Nil)) = through (has_row o None) (way_of p a)
way_of p (Apply o (Cons a (Cons b Nil))) =
    way_of_two (way_of p a) (way_of p b) (through (is_clear p o 0 b) (way_of p a)) (through (is_clear p o 1 a) (way_of p b))
way_of p (Apply o (Cons a (Cons b (Cons c Nil)))) = way_of_three (way_of p a) (way_of p b) (way_of p c)
way_of p _ = Absent

abbrev pub look_of : Place → Tree → Look
look_of p t = record { inside = has_inside p t; way = way_of p t }

-- what was found for the first terms of a walk
abbrev pub AreLooks : Place → List Tree → List ℕ → List Look → Type 0
AreLooks p trees ids looks = (k n : ℕ) (l : Look) → slice_get ids k ≡ Some n → slice_get looks k ≡ Some l → l ≡ look_of p (tree_at trees n)
