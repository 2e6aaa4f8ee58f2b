-- What is known of the formulas of a check, and of the script behind a command.
use Rattle.std.proofs.Common.{◌≡◌, ◌∙◌, ◌<◌, ◌++◌, ℕ, List, [], ◌∷◌, map, length, get_or, refl, sym, ap, subst, Ok}
use Rattle.std.specs.Prelude.{All}
use Rattle.std.specs.List.{AllByRecursion}
use Rattle.std.proofs.lemmas.List.{append-nil}
use Rattle.std.proofs.lemmas.List.Elements.{All-from_recursion}
use Rattle.qv_words.specs.Sort.{IsLawful}
use Rattle.qv_words.specs.Tree.{Tree}
use Rattle.qv_words.specs.Truth.{IsAssertion, HaveOneSort}
use Rattle.qv_words.proofs.Leaves.{both}
use Rattle.qv_store.specs.Nodes.{tree_at}
use Rattle.qv_elab_items.proofs.Slices.{read-item}
use Rattle.qv_sexpr.specs.declared.items.Item.{Item}
use Rattle.qv_sexpr.specs.declared.items.Expr.{Expr as Items}
use Rattle.qv_sexpr.specs.Items.{IsExprOf}
use Rattle.qv_sexpr.specs.Script.{Tree as Expr}
use Rattle.qv_elab.proofs.OwnReadings.{written, place-is}
use Rattle.qv_elab_defs.specs.Tokens.{place_of}
use Rattle.qv_elab_defs.specs.Scopes.{Scope, constants_of}
use Rattle.qv_elab_defs.specs.TreeLaws.{IsScope, empty, declares, defines, abbreviates}
use Rattle.qv_script_stack.specs.declared.held.Declared.{Declared}
use Rattle.qv_script_defs.specs.declared.effects.Effect.{Effect as Done}
use Rattle.qv_script_defs.specs.declared.effects.Effect.TheVariants as done
use Rattle.qv_script_defs.specs.State.{State}
use Rattle.qv_script_defs.specs.StateLaws.{moves}
use Rattle.qv_script_defs.specs.Moves.{Effect, Check}
use Rattle.qv_script_stack.specs.Held.{Held, AreAt, IsScriptIn, declared_of}
use Rattle.qv_script_defs.specs.Commands.{after}
use Rattle.qv_script_stack.specs.Steps.{Gives, IsEffect}
use Rattle.qv_script_parts.proofs.Attributes.{stands-begins}
use Rattle.qv_script_defs.proofs.Commanding.{checks-are_lawful}
use Rattle.qv_check_script.specs.declared.course.Course.{Course}
use Rattle.qv_check_script.specs.Turns.{Stands, HasStepped}

-- the sorts of constants are lawful
scope-lawful : {scope : Scope} → IsScope scope → AllByRecursion (λ x. IsLawful x.1) (constants_of scope)
scope-lawful empty = tt
scope-lawful (declares scope name sort h lawful) = both (λ x. IsLawful x.1) (constants_of scope) ((name, sort) ∷ []) (scope-lawful h) (lawful, tt)
scope-lawful (defines scope name ps sort body t h are w is) = both (λ x. IsLawful x.1) (constants_of scope) [] (scope-lawful h) tt
scope-lawful (abbreviates scope name sort h lawful) = both (λ x. IsLawful x.1) (constants_of scope) [] (scope-lawful h) tt

owns-lawful : (owns : List Declared) → AllByRecursion (λ x. IsLawful x.1) (declared_of owns) → AllByRecursion (λ own. IsLawful own.sort) owns
owns-lawful [] h = tt
owns-lawful (own ∷ owns) h = (h.0, owns-lawful owns h.1)

pub constants-lawful : (trees : List Tree) (held : Held) (s : State) → IsScriptIn trees held s → All (λ own. IsLawful own.sort) held.constants
constants-lawful trees held s h =
    All-from_recursion (λ (own : Declared). IsLawful own.sort) held.constants
    (owns-lawful held.constants (subst (AllByRecursion (λ x. IsLawful x.1)) (sym h.constants) (scope-lawful h.scope.is_scope)))

-- ids of trees
pub trees-at : (trees : List Tree) (ids : List ℕ) (ts : List Tree) → AreAt trees ids ts → map (tree_at trees) ids ≡ ts
trees-at trees [] [] h = refl
trees-at trees [] (t ∷ ts) h = absurd h
trees-at trees (n ∷ ns) [] h = absurd h
trees-at trees (n ∷ ns) (t ∷ ts) h = ap (λ (u : Tree). u ∷ map (tree_at trees) ns) h.0.tree ∙ ap (λ us. t ∷ us) (trees-at trees ns ts h.1)

at-below : (trees : List Tree) (ids : List ℕ) (ts : List Tree) → AreAt trees ids ts → AllByRecursion (λ n. n < length trees) ids
at-below trees [] [] h = tt
at-below trees [] (t ∷ ts) h = absurd h
at-below trees (n ∷ ns) [] h = absurd h
at-below trees (n ∷ ns) (t ∷ ts) h = (h.0.below, at-below trees ns ts h.1)

pub ids-below : (trees : List Tree) (ids : List ℕ) (ts : List Tree) → AreAt trees ids ts → All (λ n. n < length trees) ids
ids-below trees ids ts h = All-from_recursion (λ n. n < length trees) ids (at-below trees ids ts h)

-- the formulas of a check are assertions in which constants of one index have one sort
pub check-lawful : (c : Course) (s : State) (e : Expr) (now : State) (ts : List Tree) (ids : List ℕ) → HasStepped c s e now (Check ts) → AreAt c.store ids ts → All IsAssertion (map (tree_at c.store) ids) × HaveOneSort (map (tree_at c.store) ids)
check-lawful c s e now ts ids h at =
    subst (λ (us : List Tree). All IsAssertion us × HaveOneSort us) (sym (trees-at c.store ids ts at)) (checks-are_lawful s now e ts h.reached h.tokens h.gives)

-- what is checked is held: the assertions, and behind them what is assumed
pub plain-check : (trees : List Tree) (held : Held) (effect : Effect) → IsEffect trees held done.Check effect → (ts : List Tree) × (effect ≡ Check ts) × AreAt trees (held.assertions ++ held.assumed) ts
plain-check trees held effect h = (h.0, h.1, subst (λ (ids : List ℕ). AreAt trees ids h.0) (sym (append-nil held.assertions) ∙ ap (λ (ids : List ℕ). held.assertions ++ ids) (sym h.3)) h.2)

-- what a step did
pub step-done : (before c : Course) (expr : Items) (s : State) (e : Expr) (told : Done) → Stands before s → IsExprOf e expr → Gives c.store c.script (after s e) (Ok told)
    → (now : State) × (effect : Effect) × HasStepped c s e now effect × IsEffect c.store c.script told effect
step-done before c expr s e told standing is gives =
    let tokens = written expr.items.items expr.text.items 0 e (length expr.items.items) is in (
      gives.0,
      gives.1,
      record {
        reached = standing.reached;
        tokens = tokens;
        gives = gives.2;
        stands = record { script = gives.3; reached = moves s gives.0 e gives.1 standing.reached tokens gives.2 };
      },
      gives.4,
    )

-- the place of an expression is that of its first item
pub first-place : (expr : Items) (x : Item) (e : Expr) → IsExprOf e expr → x ≡ get_or expr.items.items 0 x → x.place ≡ place_of e
first-place expr x e is at =
    let b = stands-begins expr 0 e (length expr.items.items) is in
    sym (place-is expr.items.items expr.text.items 0 e (length expr.items.items) x is (read-item expr.items.items 0 b.0 x b.1 at))
