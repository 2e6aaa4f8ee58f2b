-- What a call for a command answers.
use Rattle.std.specs.Prelude.{◌≡◌, ℕ, IsOk, List, [], ◌∷◌, ◌++◌, Result, Ok, Err}
use Rattle.qv_words.specs.Tree.{Tree}
use Rattle.qv_sexpr.specs.declared.items.Expr.{Expr}
use Rattle.qv_sexpr.specs.Script.{Tree as Written}
use Rattle.qv_store.specs.Stores.{StandsAt}
use Rattle.qv_script_defs.specs.declared.faults.ScriptFault.{ScriptFault}
use Rattle.qv_script_defs.specs.declared.faults.ScriptFault.TheVariants.{At, NoMemory}
use Rattle.qv_script_defs.specs.declared.effects.Effect.{Effect as Done}
use Rattle.qv_script_defs.specs.declared.effects.Effect.TheVariants as done
use Rattle.qv_script_defs.specs.declared.effects.ValueTerm.{ValueTerm as Asked}
use Rattle.qv_script_parts.specs.Parted.{AreParts}
use Rattle.qv_script_defs.specs.State.{State}
use Rattle.qv_script_defs.specs.Moves.{ValueTerm, Effect, Quiet, Text, Check, Values, Whole, Core, symbols_of, Exit, Move}
use Rattle.qv_script_defs.specs.Commands.{Command, step}
use Rattle.qv_script_stack.specs.Held.{Held, AreAt, IsScriptIn, named_of, terms_of}

-- these are the terms whose values are asked for
abbrev pub AreAsked : List Tree → List Asked → List ValueTerm → Type 0
AreAsked trees [] [] = Unit {0}
AreAsked trees (a ∷ asked) (v ∷ vs) = (a.text.items ≡ v.text) × StandsAt trees a.id v.tree × AreAsked trees asked vs
AreAsked trees _ _ = ⊥

-- this is the effect, where so much is held behind the command
abbrev pub IsEffect : List Tree → Held → Done → Effect → Type 0
IsEffect trees held done.Quiet effect = effect ≡ Quiet
IsEffect trees held (done.Text text) effect = effect ≡ Text text.items
IsEffect trees held done.Check effect = (ts : List Tree) × (effect ≡ Check ts) × AreAt trees held.assertions ts × (held.assumed ≡ [])
IsEffect trees held done.CheckAssuming effect = (ts : List Tree) × (effect ≡ Check ts) × AreAt trees (held.assertions ++ held.assumed) ts
IsEffect trees held (done.Values asked) effect = (vs : List ValueTerm) × (effect ≡ Values vs) × AreAsked trees asked.items vs
IsEffect trees held done.Whole effect = effect ≡ Whole
IsEffect trees held done.Core effect = (ts : List Tree) × (effect ≡ Core ts (symbols_of (named_of held.named))) × AreAt trees (held.assertions ++ held.assumed) ts
IsEffect trees held done.AssumedCore effect = (ts : List Tree) × (effect ≡ Core ts (terms_of held)) × AreAt trees (held.assertions ++ held.assumed) ts
IsEffect trees held done.Exit effect = effect ≡ Exit

-- the move, where so much is held behind it; or its fault; want of memory says nothing
abbrev pub Gives : List Tree → Held → Move → Result Done ScriptFault → Type 0
Gives trees held given (Ok done) = (now : State) × (effect : Effect) × (given ≡ Ok (now, effect)) × IsScriptIn trees held now × IsEffect trees held done effect
Gives trees held given (Err (At place kind)) = given ≡ Err (record { place = place; kind = kind })
Gives trees held given (Err NoMemory) = Unit {0}

-- memory runs out only where nothing of this is refused
abbrev pub RunsOut : {A B F : Type 0} → Result A F → Result B ScriptFault → Type 0
RunsOut given (Err NoMemory) = IsOk given
RunsOut given _ = Unit {0}

-- the same, where a refusal comes first: memory runs out only where nothing of the move is refused
abbrev pub Settles : List Tree → Held → Move → Result Done ScriptFault → Type 0
Settles trees held given (Err NoMemory) = IsOk given
Settles trees held given result = Gives trees held given result

-- a command that wants no store: with arguments at these items it gives its step
abbrev pub Steps : Command → ℕ → Expr → List ℕ → Held → Held → Result Done ScriptFault → Type 0
Steps command place expr args old new result =
    (trees : List Tree) (s : State) (es : List Written) →
    IsScriptIn trees old s → AreParts expr args es → Settles trees new (step command place es s) result

-- a command that wants a store: the same, where what is held is in the store before it and behind it
abbrev pub StepsIn : Command → ℕ → Expr → List ℕ → List Tree → List Tree → Held → Held → Result Done ScriptFault → Type 0
StepsIn command place expr args before behind old new result =
    (s : State) (es : List Written) →
    IsScriptIn before old s → AreParts expr args es → Gives behind new (step command place es s) result

-- a command without arguments
abbrev pub Does : Command → ℕ → Held → Held → Result Done ScriptFault → Type 0
Does command place old new result = (trees : List Tree) (s : State) → IsScriptIn trees old s → Settles trees new (step command place [] s) result
