-- What is after a state, by the parts of an expression.
use Rattle.std.proofs.Common.{◌≡◌, ℕ, Some, None, List, [], ◌∷◌, length, take, slice_get, sym, ap, subst, ◌∙◌, Ok, Err}
use Rattle.std.specs.Prelude.{Result, option_and_then, OnErr}
use Rattle.qv_sexpr.specs.declared.items.Item.{Item}
use Rattle.qv_sexpr.specs.declared.items.Expr.{Expr}
use Rattle.qv_sexpr.specs.Script.{atom, list, none, also}
use Rattle.qv_sexpr.specs.Script.{Tree as Written, Trees as Writtens}
use Rattle.qv_sexpr.specs.Items.{IsExprOf}
use Rattle.qv_words.specs.Tree.{Tree}
use Rattle.qv_store.specs.Stores.{Grows}
use Rattle.qv_elab_defs.specs.Faults.{◌>>=◌}
use Rattle.qv_elab_defs.specs.Tokens.{items, place_of, symbol_of}
use Rattle.qv_elab_defs.specs.Scopes.{found}
use Rattle.qv_elab.proofs.OwnReadings.{place-is}
use Rattle.qv_script_defs.specs.declared.effects.Effect.{Effect as Done}
use Rattle.qv_script_defs.specs.declared.faults.ScriptFault.{ScriptFault}
use Rattle.qv_script_defs.specs.declared.faults.ScriptFault.TheVariants.{At}
use Rattle.qv_script_defs.specs.declared.faults.ScriptKind.TheVariants.{Command as NoCommand}
use Rattle.qv_script_defs.specs.Faults.{Fault, refuse}
use Rattle.qv_script_parts.specs.Parted.{inside_of}
use Rattle.qv_script_defs.specs.State.{State}
use Rattle.qv_script_defs.specs.Moves.{Move}
use Rattle.qv_script_defs.specs.Commands.{Command, commands, commanded, known, after}
use Rattle.qv_script_stack.specs.Held.{Held, IsScriptIn}
use Rattle.qv_script_stack.specs.Steps.{Gives, RunsOut}
use Rattle.qv_script.specs.Beginnings.{mentions_named, mention_named, outset, expression_beginning}
use Rattle.qv_script.proofs.Outsets.{commanded-front, outset-front}
use Rattle.qv_script_parts.specs.Parted.{IsPart, AreParts}
use Rattle.qv_script_stack.proofs.Asserting.{script-grows}
use Rattle.qv_script_stack.proofs.Stepping.{gives-fault}

-- the command that the first part names
known-is : (s : State) (p q : ℕ) (first : Written) (rest : Writtens) (c : Command) → option_and_then (λ name. found name commands) (symbol_of first) ≡ Some c → after s (list p (also first rest) q) ≡ commanded c p (items rest) s
known-is s p q first rest c e = ap (λ o. known p o >>= λ command. commanded command p (items rest) s) e

unknown-is : (s : State) (p q : ℕ) (first : Written) (rest : Writtens) → option_and_then (λ name. found name commands) (symbol_of first) ≡ None → after s (list p (also first rest) q) ≡ refuse p NoCommand
unknown-is s p q first rest e = ap (λ o. known p o >>= λ command. commanded command p (items rest) s) e

module _ (expr : Expr) (x : Item) (there : slice_get expr.items.items 0 ≡ Some x) (trees : List Tree) (held : Held) (s : State) where
  place-of : (e : Written) → IsExprOf e expr → place_of e ≡ x.place
  place-of e h = place-is expr.items.items expr.text.items 0 e (length expr.items.items) x h there

  -- the name is no symbol, or none at all
  pub no-name : (e : Written) (r : ScriptFault) → IsExprOf e expr → AreParts expr [] (take 6 (inside_of e)) → r ≡ At x.place NoCommand → Gives trees held (after s e) (Err r)
  no-name (atom l) r h parts f = gives-fault trees held (after s (atom l)) x.place NoCommand r f (ap (λ n. refuse n NoCommand) (place-of (atom l) h))
  no-name (list p none q) r h parts f = gives-fault trees held (after s (list p none q)) x.place NoCommand r f (ap (λ n. refuse n NoCommand) (place-of (list p none q) h))
  no-name (list p (also g gs) q) r h parts f = absurd parts

  pub no-command : (e : Written) (at : ℕ) (args : List ℕ) (r : ScriptFault) → IsExprOf e expr → AreParts expr (at ∷ args) (take 6 (inside_of e)) → ((g : Written) → IsPart expr at g → None ≡ option_and_then (λ name. found name commands) (symbol_of g)) → r ≡ At x.place NoCommand → Gives trees held (after s e) (Err r)
  no-command (atom l) at args r h parts name f = absurd parts
  no-command (list p none q) at args r h parts name f = absurd parts
  no-command (list p (also g gs) q) at args r h parts name f =
      gives-fault trees held (after s (list p (also g gs) q)) x.place NoCommand r f
      (unknown-is s p q g gs (sym (name g parts.0)) ∙ ap (λ n. refuse n NoCommand) (place-of (list p (also g gs) q) h))

  pub that-command : (e : Written) (at : ℕ) (args : List ℕ) (c : Command) (r : Result Done ScriptFault) → IsExprOf e expr → AreParts expr (at ∷ args) (take 6 (inside_of e)) → ((g : Written) → IsPart expr at g → Some c ≡ option_and_then (λ name. found name commands) (symbol_of g)) →
      ((es : List Written) → AreParts expr args es → Gives trees held (commanded c x.place es s) r) → Gives trees held (after s e) r
  that-command (atom l) at args c r h parts name gives = absurd parts
  that-command (list p none q) at args c r h parts name gives = absurd parts
  that-command (list p (also g gs) q) at args c r h parts name gives =
      subst (λ (m : Move). Gives trees held m r)
      (sym (known-is s p q g gs c (sym (name g parts.0)) ∙ ap (λ n. commanded c n (items gs) s) (place-of (list p (also g gs) q) h) ∙ sym (commanded-front x.place s c (items gs))))
      (gives (take 5 (items gs)) parts.1)

  -- the same of what is looked at first
  pub that-outset : {B : Type 0} (e : Written) (at : ℕ) (args : List ℕ) (c : Command) (r : Result B ScriptFault) → IsExprOf e expr → AreParts expr (at ∷ args) (take 6 (inside_of e)) → ((g : Written) → IsPart expr at g → Some c ≡ option_and_then (λ name. found name commands) (symbol_of g)) →
      ((es : List Written) → AreParts expr args es → RunsOut (outset (mentions_named e) c x.place es s) r) → RunsOut (expression_beginning s e) r
  that-outset (atom l) at args c r h parts name runs = absurd parts
  that-outset (list p none q) at args c r h parts name runs = absurd parts
  that-outset (list p (also g gs) q) at args c r h parts name runs =
      let n = mention_named (also g gs) in
      let known_is = ap (λ o. known p o >>= λ command. outset n command p (items gs) s) (sym (name g parts.0)) in
      subst (λ (m : Result (Unit {0}) Fault). RunsOut m r)
      (sym (known_is ∙ ap (λ (k : ℕ). outset n c k (items gs) s) (place-of (list p (also g gs) q) h) ∙ sym (outset-front x.place s n c (items gs))))
      (runs (take 5 (items gs)) parts.1)

-- what stands behind the first part
pub parts-behind : (expr : Expr) (at : ℕ) (args : List ℕ) (es : List Written) → AreParts expr (at ∷ args) es → (rest : List Written) × AreParts expr args rest
parts-behind expr at args [] h = absurd h
parts-behind expr at args (e ∷ es) h = (es, h.1)

-- some state is held behind a command
pub still-held : (before behind : List Tree) (old new : Held) (s : State) (given : Move) (r : Result Done ScriptFault) → Grows before behind → IsScriptIn before old s → Gives behind new given r → OnErr r (new ≡ old) → (now : State) × IsScriptIn behind new now
still-held before behind old new s given (Ok done) g h gives err = (gives.0, gives.3)
still-held before behind old new s given (Err f) g h gives err = (s, subst (λ (k : Held). IsScriptIn behind k s) (sym err) (script-grows before behind g old s h))
