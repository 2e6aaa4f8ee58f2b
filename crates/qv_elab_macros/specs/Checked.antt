-- The terms that are checked for their depth while a body is elaborated, and what they stand for.
use Rattle.std.specs.Prelude.{◌≡◌, ℕ, ◌≤◌, IsOk, List, [], ◌∷◌, ◌++◌, Result, Ok, Err}
use Rattle.qv_sexpr.specs.Script.{Tree as Expr}
use Rattle.qv_words.specs.declared.sort.Sort.{Sort}
use Rattle.qv_words.specs.Tree.{Tree}
use Rattle.qv_store.specs.Stores.{StandsAt}
use Rattle.qv_elab_macros.specs.declared.standing.Watched.{Watched}
use Rattle.qv_elab_defs.specs.declared.faults.ElabFault.{ElabFault}
use Rattle.qv_elab_defs.specs.declared.faults.ElabFault.TheVariants.{At, NoMemory}
use Rattle.qv_elab_defs.specs.Faults.{Fault}
use Rattle.qv_elab_defs.specs.Scopes.{Named, Scope, below_binders, outermost}
use Rattle.qv_elab_defs.specs.Defining.{elaborate_body}
use Rattle.qv_elab_defs.specs.Applying.{depth_of, depth_limit}
use Rattle.qv_elab_defs.specs.UseLaws.{AreArguments, use_of}
use Rattle.qv_elab_macros.specs.Readings.{IsLimitedBy}
use Rattle.qv_elab_defs.specs.Looking.{Look, Seen, Deep, Used, looks_of}

-- the checks of the arguments of a use, each at the depth of its parameter
abbrev pub AreArgChecks : List Tree → List Tree → List ℕ → List Watched → Type 0
AreArgChecks trees [] [] [] = Unit {0}
AreArgChecks trees (t ∷ ts) (d ∷ ds) (c ∷ cs) = StandsAt trees c.id t × (c.depth ≡ d) × AreArgChecks trees ts ds cs
AreArgChecks trees _ _ _ = ⊥

-- a use of a definition, with the checks of its arguments
pub record IsUseChecked (trees : List Tree) (checks : List Watched) (body : ℕ → List Tree → Result Tree Fault) (binders : ℕ) (args : List Tree) : Type 0 where
  pub scope : Scope
  pub parameters : Named Sort
  pub expr : Expr
  pub depths : List ℕ
  pub definition : (n : ℕ) (us : List Tree) → body n us ≡ use_of scope parameters expr n us
  pub limited : IsLimitedBy scope parameters expr depths
  pub arguments : AreArguments parameters binders args
  pub ok : IsOk (body binders args)
  pub arg_checks : AreArgChecks trees args depths checks

-- the checks of what was looked at: the newest check is the last, and the newest look the first
pub data IsCheckedBy : List Tree → List Watched → List Look → Type 0 where
  nothing : (trees : List Tree) → IsCheckedBy trees [] []
  deep : (trees : List Tree) (checks : List Watched) (looks : List Look) (c : Watched) (t : Tree) → IsCheckedBy trees checks looks → StandsAt trees c.id t → c.depth ≡ 0 → depth_of t ≤ depth_limit →
      IsCheckedBy trees (checks ++ c ∷ []) (Deep t ∷ looks)
  used : (trees : List Tree) (checks more : List Watched) (looks : List Look) (body : ℕ → List Tree → Result Tree Fault) (binders : ℕ) (args : List Tree) → IsCheckedBy trees checks looks → IsUseChecked trees more body binders args →
      IsCheckedBy trees (checks ++ more) (Used body binders args ∷ looks)

-- a definition's own reading gave the tree of this number, and these are the checks of it
pub record IsRead (trees : List Tree) (scope : Scope) (parameters : Named Sort) (s : Sort) (e : Expr) (id : ℕ) (checks : List Watched) : Type 0 where
  pub tree : Tree
  pub reading : elaborate_body scope parameters s e ≡ Ok tree
  pub stands : StandsAt trees id tree
  pub made : Tree
  pub looks : List Look
  pub looked : looks_of e (below_binders parameters (outermost scope)) [] ≡ Ok (made, looks)
  pub checked : IsCheckedBy trees checks looks

-- the tree of what is answered with what was looked at, which is watched, or the first fault; want
-- of memory says nothing
abbrev pub Sees : List Tree → List Watched → Result Seen Fault → Result ℕ ElabFault → Type 0
Sees trees watched given (Ok id) = (t : Tree) × (looks : List Look) × (given ≡ Ok (t, looks)) × StandsAt trees id t × IsCheckedBy trees watched looks
Sees trees watched given (Err (At place kind)) = given ≡ Err (record { place = place; kind = kind })
Sees trees watched given (Err NoMemory) = Unit {0}
