-- Of two links one is enough, and none isn't.
use Rattle.std.proofs.Common.{ℕ, List, [], ◌∷◌, refl, subst, arith}
use Rattle.std.specs.Prelude.{Contains}
use Rattle.qv_words.specs.declared.sort.Sort.TheVariants.{Bool as BoolSort}
use Rattle.qv_words.specs.declared.op.Op.TheVariants.{And}
use Rattle.qv_words.specs.Tree.{Tree, Variable}
use Rattle.qv_words.specs.Prenex.{binary}
use Rattle.qv_words.specs.Problem.{Universal}
use Rattle.qv_entries.specs.Rows.{Row}
use Rattle.qv_game_links.specs.Thinning.{AreEnough}
use Rattle.qv_game_links.proofs.Said.{of-none, of-one}

-- a place, and its conjunction with another one
abbrev trees : List Tree
trees = Variable 0 BoolSort ∷ binary And (Variable 0 BoolSort) (Variable 1 BoolSort) ∷ []

abbrev row : ℕ → Row
row region = record { level = 2; winner = Universal; region = region; point = 1 ∷ 1 ∷ []; terms = []; links = [] }

abbrev rows : List Row
rows = row 0 ∷ row 1 ∷ []

-- where the place is the region, the entry of the place meets both
one-is_enough : AreEnough trees 0 rows (0 ∷ 1 ∷ []) (0 ∷ [])
one-is_enough = record {
  among = λ n h. subst (Contains (0 ∷ 1 ∷ [])) (of-one 0 n h) (0, omega arith, refl);
  meet = λ point holds link. (0, (0, omega arith, refl), row 0, refl, holds);
  occur = λ x there. (0, (0, omega arith, refl), row 0, refl, there);
}

none-is_not : AreEnough trees 0 rows (0 ∷ 1 ∷ []) [] → ⊥
none-is_not h = let link = h.occur 0 refl in of-none link.0 link.1
