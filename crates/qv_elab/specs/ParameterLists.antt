-- How parameter lists are read. No public contract cites this.
use Rattle.std.specs.Prelude.{◌≡◌, ℕ, ◌+◌, is_some, if◌then◌else◌, Some, List, [], ◌∷◌, ◌++◌, map, Result, Ok, Err}
use Rattle.qv_text.specs.Reading.{Lexeme}
use Rattle.qv_sexpr.specs.declared.items.Expr.{Expr as Items}
use Rattle.qv_sexpr.specs.Script.{Trees as Exprs}
use Rattle.qv_sexpr.specs.Items.{IsAtomAt, Stands, StandAll}
use Rattle.qv_words.specs.declared.sort.Sort.{Sort}
use Rattle.qv_elab.specs.declared.bodies.Parameter.{Parameter}
use Rattle.qv_elab_defs.specs.declared.faults.ElabFault.{ElabFault}
use Rattle.qv_elab_defs.specs.declared.faults.ElabFault.TheVariants.{At, NoMemory}
use Rattle.qv_elab_defs.specs.declared.faults.ElabKind.TheVariants.{RepeatedName}
use Rattle.qv_elab_defs.specs.Faults.{Fault, refuse, ◌>>=◌}
use Rattle.qv_elab_defs.specs.Tokens.{name_of_token}
use Rattle.qv_elab_defs.specs.Shapes.{Pair, pairs_of}
use Rattle.qv_elab_defs.specs.Scopes.{Named, Scope}
use Rattle.qv_elab_defs.specs.Synonyms.{scoped_sort}
use Rattle.qv_elab_items.specs.Places.{place_in}
use Rattle.qv_elab_defs.specs.Defining.{read_parameters}
use Rattle.qv_elab.specs.ReadBodies.{parameters_of}

-- the pair that begins at an item
pub record IsPairIn (expr : Items) (at : ℕ) (p : Pair) : Type 0 where
  pub lexeme : Lexeme
  pub behind : ℕ
  pub name_stands : IsAtomAt expr.items.items expr.text.items (at + 1) lexeme
  pub name_is : name_of_token lexeme.kind lexeme.text ≡ Some p.name
  pub place_is : p.place ≡ lexeme.place
  pub beside_stands : Stands expr.items.items expr.text.items (at + 2) p.beside behind

-- the sort of a pair whose name is none of these
abbrev pub read_new : Scope → Pair → List (List ℕ) → Result Sort Fault
read_new defs p names = (if is_some (place_in p.name names) then refuse p.place RepeatedName else Ok p.name) >>= λ _. scoped_sort defs p.beside

-- one parameter more
pub record IsParameter (defs : Scope) (p : Pair) (old new : List (List ℕ)) (before behind : List Parameter) : Type 0 where
  pub parameter : Parameter
  pub read : read_new defs p old ≡ Ok parameter.sort
  pub name_is : parameter.name.items ≡ p.name
  pub names_are : new ≡ p.name ∷ old
  pub behind_are : behind ≡ before ++ parameter ∷ []

-- it is added, or refused; memory runs out only where it isn't refused
abbrev pub Adds : Scope → Pair → List (List ℕ) → List (List ℕ) → List Parameter → List Parameter → Result (Unit {0}) ElabFault → Type 0
Adds defs p old new before behind (Ok done) = IsParameter defs p old new before behind
Adds defs p old new before behind (Err (At place kind)) = read_new defs p old ≡ Err (record { place = place; kind = kind })
Adds defs p old new before behind (Err NoMemory) = (s : Sort) × (read_new defs p old ≡ Ok s)

-- the parameters of the pairs before an item, where others are left
pub record AreReadBefore (expr : Items) (defs : Scope) (pairs : List Pair) (names : List (List ℕ)) (parameters : List Parameter) (at to : ℕ) : Type 0 where
  pub rest : Exprs
  pub left : List Pair
  pub before : Named Sort
  pub front : List Pair
  pub stand : StandAll expr.items.items expr.text.items at rest to
  pub left_are : pairs_of rest ≡ Some left
  pub pairs_are : pairs ≡ front ++ left
  pub read : (others : List Pair) → read_parameters defs (front ++ others) [] ≡ (read_parameters defs others before >>= λ ys. Ok (parameters_of parameters ++ ys))
  pub names_are : names ≡ map (λ x. x.0) before
