-- How the variables of quantifiers are bound, and closed over behind their bodies.
use Rattle.std.specs.Prelude.{◌≡◌, ℕ, ◌+◌, Option, Some, List, ◌∷◌, ◌++◌, length, Result, Ok, Err}
use Rattle.qv_sexpr.specs.declared.items.Expr.{Expr as Items}
use Rattle.qv_text.specs.Reading.{Lexeme}
use Rattle.qv_sexpr.specs.Script.{Trees as Exprs}
use Rattle.qv_sexpr.specs.Items.{IsAtomAt, Stands, StandAll}
use Rattle.qv_words.specs.declared.sort.Sort.{Sort}
use Rattle.qv_words.specs.declared.sort.Sort.TheVariants.{Bool as BoolSort}
use Rattle.qv_words.specs.Tree.{Tree, Variable, tree_sort}
use Rattle.qv_store.specs.Nodes.{tree_at}
use Rattle.qv_store.specs.Stores.{StandsAt}
use Rattle.qv_elab_defs.specs.declared.faults.ElabFault.{ElabFault}
use Rattle.qv_elab_defs.specs.declared.faults.ElabFault.TheVariants.{At, NoMemory}
use Rattle.qv_elab_defs.specs.Faults.{◌>>=◌}
use Rattle.qv_elab_defs.specs.Tokens.{name_of_token}
use Rattle.qv_elab_defs.specs.Shapes.{Pair, pairs_of}
use Rattle.qv_elab_defs.specs.Scopes.{Named, Scope}
use Rattle.qv_elab_defs.specs.Synonyms.{scoped_sort}
use Rattle.qv_elab_defs.specs.Elaborating.{read_variables}
use Rattle.qv_elab_defs.specs.OpenTrees.{IsOpen, with_levels, AreLawful}
use Rattle.qv_elab_scope.specs.Variables.{AreVariables}

-- the pair of a name and a sort that begins at an item
pub record IsPairAt (expr : Items) (at : ℕ) (p : Pair) : Type 0 where
  pub lexeme : Lexeme
  pub behind : ℕ
  pub name_stands : IsAtomAt expr.items.items expr.text.items (at + 1) lexeme
  pub name_is : name_of_token lexeme.kind lexeme.text ≡ Some p.name
  pub beside_stands : Stands expr.items.items expr.text.items (at + 2) p.beside behind

-- one variable more, and the level behind it
pub record IsVariable (trees : List Tree) (defs : Scope) (level : ℕ) (p : Pair) (old new : Named ℕ) (below : ℕ) : Type 0 where
  pub s : Sort
  pub id : ℕ
  pub read : scoped_sort defs p.beside ≡ Ok s
  pub names_are : new ≡ (p.name, id) ∷ old
  pub stands : StandsAt trees id (Variable level s)
  pub below_is : below ≡ level + 1

-- the level behind a variable, or the fault of its sort
abbrev pub BindsOne : List Tree → Scope → ℕ → Pair → Named ℕ → Named ℕ → Result ℕ ElabFault → Type 0
BindsOne trees defs level p old new (Ok below) = IsVariable trees defs level p old new below
BindsOne trees defs level p old new (Err (At place kind)) = scoped_sort defs p.beside ≡ Err (record { place = place; kind = kind })
BindsOne trees defs level p old new (Err NoMemory) = Unit {0}

-- the variables of pairs, the first of this level, and the level behind them
pub record AreBound (trees : List Tree) (defs : Scope) (level : ℕ) (ps : List Pair) (old new : Named ℕ) (below : ℕ) : Type 0 where
  pub xs : Named Sort
  pub names : Named ℕ
  pub read : read_variables defs ps ≡ Ok xs
  pub names_are : new ≡ names ++ old
  pub variables : AreVariables trees level xs names
  pub below_is : below ≡ level + length xs

abbrev pub Binds : List Tree → Scope → ℕ → List Pair → Named ℕ → Named ℕ → Result ℕ ElabFault → Type 0
Binds trees defs level ps old new (Ok below) = AreBound trees defs level ps old new below
Binds trees defs level ps old new (Err (At place kind)) = read_variables defs ps ≡ Err (record { place = place; kind = kind })
Binds trees defs level ps old new (Err NoMemory) = Unit {0}

-- the same of the pairs before an item, where others are left
pub record AreBoundBefore (expr : Items) (trees : List Tree) (defs : Scope) (level : ℕ) (ps : List Pair) (old new : Named ℕ) (at to below : ℕ) : Type 0 where
  pub rest : Exprs
  pub left : List Pair
  pub xs : Named Sort
  pub names : Named ℕ
  pub stand : StandAll expr.items.items expr.text.items at rest to
  pub left_are : pairs_of rest ≡ Some left
  pub read : read_variables defs ps ≡ (read_variables defs left >>= λ ys. Ok (xs ++ ys))
  pub names_are : new ≡ names ++ old
  pub variables : AreVariables trees level xs names
  pub below_is : below ≡ level + length xs

-- a formula below variables, the first of this level, that these names stand for, the newest first
pub record IsClosing (trees : List Tree) (level body : ℕ) (names : Named ℕ) (xs : Named Sort) : Type 0 where
  pub K : List Sort
  pub M : ℕ → Option Sort
  pub variables : AreVariables trees level xs names
  pub lawful : AreLawful xs
  pub formula : IsOpen K 0 (with_levels level xs M) (tree_at trees body)
  pub is_bool : tree_sort (tree_at trees body) ≡ Some BoolSort
