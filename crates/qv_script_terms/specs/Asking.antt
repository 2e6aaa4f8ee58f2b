-- What the parts of questions are told as. No public contract cites this.
use Rattle.std.specs.Prelude.{◌≡◌, ℕ, ◌++◌, not, List, [], ◌∷◌, Result, Ok, Err, Vec}
use Rattle.std.specs.declared.alloc.Global.{Global}
use Rattle.qv_sexpr.specs.Script.{Tree as Written}
use Rattle.qv_words.specs.Tree.{Tree}
use Rattle.qv_words.specs.Prenex.{is_quantified}
use Rattle.qv_store.specs.Stores.{StandsAt}
use Rattle.qv_elab_defs.specs.Faults.{◌>>=◌}
use Rattle.qv_elab_defs.specs.Tokens.{place_of}
use Rattle.qv_elab_defs.specs.Scopes.{Scope}
use Rattle.qv_elab_defs.specs.Defining.{elaborate}
use Rattle.qv_script_defs.specs.declared.effects.ValueTerm.{ValueTerm as Asked}
use Rattle.qv_script_defs.specs.declared.faults.ScriptFault.{ScriptFault}
use Rattle.qv_script_defs.specs.declared.faults.ScriptFault.TheVariants.{At, NoMemory}
use Rattle.qv_script_defs.specs.declared.faults.ScriptKind.TheVariants.{Quantifier}
use Rattle.qv_script_defs.specs.Faults.{Fault, demand, inside}
use Rattle.qv_script_defs.specs.Parts.{spaced}
use Rattle.qv_script_defs.specs.Moves.{ValueTerm}
use Rattle.qv_script_stack.specs.Held.{AreAt}
use Rattle.qv_script_stack.specs.Steps.{AreAsked}

-- what each of some expressions gives, or the first fault
abbrev pub gathered : {A : Type 0} → (Written → Result A Fault) → List Written → Result (List A) Fault
gathered f [] = Ok []
gathered f (e ∷ es) = f e >>= λ a. gathered f es >>= λ xs. Ok (a ∷ xs)

-- what is given behind others
abbrev pub behind_given : {A : Type 0} → List A → Result (List A) Fault → Result (List A) Fault
behind_given xs r = r >>= λ ys. Ok (xs ++ ys)

-- a term whose value is asked for
abbrev pub value_of : Scope → Written → Result ValueTerm Fault
value_of scope e =
    inside (elaborate scope e) >>= λ t.
    demand (place_of e) Quantifier (not (is_quantified t)) >>= λ _.
    Ok (record { text = spaced e; tree = t })

-- the term that is told, or its fault; want of memory says nothing
abbrev pub TellsValue : List Tree → Result ValueTerm Fault → Result Asked ScriptFault → Type 0
TellsValue trees given (Ok a) = (v : ValueTerm) × (given ≡ Ok v) × (a.text.items ≡ v.text) × StandsAt trees a.id v.tree
TellsValue trees given (Err (At place kind)) = given ≡ Err (record { place = place; kind = kind })
TellsValue trees given (Err NoMemory) = Unit {0}

-- the terms that are told, or the first fault
abbrev pub TellsValues : List Tree → Result (List ValueTerm) Fault → Result (Vec Asked Global) ScriptFault → Type 0
TellsValues trees given (Ok asked) = (vs : List ValueTerm) × (given ≡ Ok vs) × AreAsked trees asked.items vs
TellsValues trees given (Err (At place kind)) = given ≡ Err (record { place = place; kind = kind })
TellsValues trees given (Err NoMemory) = Unit {0}

-- the trees that are told, or the first fault
abbrev pub TellsTrees : List Tree → Result (List Tree) Fault → Result (Vec ℕ Global) ScriptFault → Type 0
TellsTrees trees given (Ok ids) = (ts : List Tree) × (given ≡ Ok ts) × AreAt trees ids.items ts
TellsTrees trees given (Err (At place kind)) = given ≡ Err (record { place = place; kind = kind })
TellsTrees trees given (Err NoMemory) = Unit {0}
