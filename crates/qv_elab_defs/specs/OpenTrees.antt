-- Trees over constants and open binders of certain sorts, and where expressions stand for such. No
-- public contract cites this.
use Rattle.std.specs.Prelude.{◌≡◌, ℕ, suc, ◌≤◌, Option, Some, None, IfOk, IsSome, List, [], ◌∷◌, slice_get, Result}
use Rattle.std.specs.List.{AllByRecursion}
use Rattle.qv_words.specs.declared.sort.Sort.{Sort}
use Rattle.qv_words.specs.declared.sort.Sort.TheVariants.{Bool as BoolSort}
use Rattle.qv_words.specs.Sort.{IsLawful, IsValueOf}
use Rattle.qv_words.specs.Tree.{Tree, Trees, Constant, Variable, Literal, Apply, ForAll, Exists, Nil, Cons, tree_sort}
use Rattle.qv_words.specs.Sorted.{with_level}
use Rattle.qv_elab_defs.specs.Faults.{Fault}
use Rattle.qv_elab_defs.specs.Scopes.{Entry, Named, Context}
use Rattle.qv_elab_defs.specs.Scopes as scope
use Rattle.qv_elab_defs.specs.Applying.{depth_of, depth_limit}

-- a tree over constants of the sorts K, where the open binders have the sorts M, and no quantifier is
-- of a level below `low`
abbrev mutual
  pub IsOpen : List Sort → ℕ → (ℕ → Option Sort) → Tree → Type 0
  IsOpen K low M (Constant i s) = IsLawful s × (slice_get K i ≡ Some s)
  IsOpen K low M (Variable l s) = IsLawful s × (M l ≡ Some s)
  IsOpen K low M (Literal s n) = IsLawful s × IsValueOf n s
  IsOpen K low M (Apply o ts) = AreOpen K low M ts × IsSome (tree_sort (Apply o ts))
  IsOpen K low M (ForAll l s body) = IsLawful s × (low ≤ l) × IsOpen K low (with_level M l s) body × (tree_sort body ≡ Some BoolSort)
  IsOpen K low M (Exists l s body) = IsLawful s × (low ≤ l) × IsOpen K low (with_level M l s) body × (tree_sort body ≡ Some BoolSort)

  pub AreOpen : List Sort → ℕ → (ℕ → Option Sort) → Trees → Type 0
  AreOpen K low M Nil = Unit {0}
  AreOpen K low M (Cons t ts) = IsOpen K low M t × AreOpen K low M ts

-- an open tree that is not too deep
abbrev pub IsGood : List Sort → ℕ → (ℕ → Option Sort) → Tree → Type 0
IsGood K low M t = IsOpen K low M t × (depth_of t ≤ depth_limit)

-- no level from this one on has anything
abbrev pub Ends : (ℕ → Option Sort) → ℕ → Type 0
Ends M b = (l : ℕ) → b ≤ l → M l ≡ None

-- what the body of a definition gives of good trees is good
abbrev pub IsGoodBody : List Sort → ℕ → (ℕ → List Tree → Result Tree Fault) → Type 0
IsGoodBody K low body = (M : ℕ → Option Sort) (b : ℕ) (args : List Tree) → Ends M b → low ≤ b → AllByRecursion (IsGood K low M) args → IfOk (body b args) (IsGood K low M)

abbrev pub IsGoodEntry : List Sort → ℕ → Entry → Type 0
IsGoodEntry K low (scope.Constant i s) = IsLawful s × (slice_get K i ≡ Some s)
IsGoodEntry K low (scope.Definition ss body) = IsGoodBody K low body
IsGoodEntry K low (scope.Synonym s) = IsLawful s

-- where an expression stands
pub record IsGoodContext (K : List Sort) (low : ℕ) (M : ℕ → Option Sort) (c : Context) : Type 0 where
  pub scope : AllByRecursion (λ x. IsGoodEntry K low x.1) c.scope
  pub bound : AllByRecursion (λ x. IsGood K low M x.1) c.bound
  pub ends : Ends M c.binders
  pub from : low ≤ c.binders

-- the binders of a quantifier
abbrev pub with_levels : ℕ → Named Sort → (ℕ → Option Sort) → ℕ → Option Sort
with_levels level [] M = M
with_levels level (x ∷ xs) M = with_levels (suc level) xs (with_level M level x.1)

abbrev pub AreLawful : Named Sort → Type 0
AreLawful xs = AllByRecursion (λ x. IsLawful x.1) xs
