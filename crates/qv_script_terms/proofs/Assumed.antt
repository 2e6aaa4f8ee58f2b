-- What is assumed, one expression after another.
use Rattle.std.proofs.Common.{◌≡◌, ◌≤◌, ◌+◌, ℕ, suc, Some, None, List, [], ◌∷◌, ◌++◌, length, map, take, slice_get, Vec, Global, refl, sym, ap, subst, ◌∙◌, Ok, Err}
use Rattle.std.specs.Prelude.{Result}
use Rattle.std.proofs.lemmas.List.{length-map, map-append, take_more}
use Rattle.std.proofs.lemmas.Option.{slice_get_within, get_or_from_slice_get}
use Rattle.qv_sexpr.specs.Script.{atom, list}
use Rattle.qv_sexpr.specs.Script.{Tree as Written}
use Rattle.qv_words.specs.Tree.{Tree}
use Rattle.qv_store.specs.Stores.{StandsAt, Grows}
use Rattle.qv_elab_defs.specs.Faults.{◌>>=◌}
use Rattle.qv_elab_scope.proofs.Growing.{stands-grows}
use Rattle.qv_script_defs.specs.declared.effects.Effect.TheVariants as done
use Rattle.qv_script_defs.specs.declared.faults.ScriptFault.{ScriptFault}
use Rattle.qv_script_defs.specs.declared.faults.ScriptFault.TheVariants.{At, NoMemory}
use Rattle.qv_script_defs.specs.declared.faults.ScriptKind.TheVariants.{Form}
use Rattle.qv_script_defs.specs.Faults.{Fault, refuse}
use Rattle.qv_script_defs.specs.Parts.{spaced}
use Rattle.qv_script_defs.specs.State.{State, scope_of, in_force, forgetful}
use Rattle.qv_script_defs.specs.Moves.{Move, Check, check, assumptions}
use Rattle.qv_script_defs.specs.Commands.{CheckSatAssuming, step}
use Rattle.qv_script_stack.specs.Held.{Held, AreAt, IsScriptIn}
use Rattle.qv_script_stack.specs.Changes.{forgotten}
use Rattle.qv_script_parts.specs.Parted.{inside_of, is_empty_list}
use Rattle.qv_script_terms.specs.Told.{formula_of, TellsTree}
use Rattle.qv_script_stack.specs.Steps.{Gives}
use Rattle.qv_script_terms.specs.Beginnings.{command_beginning}
use Rattle.qv_script_terms.specs.Asking.{gathered, TellsTrees}
use Rattle.qv_script_terms.proofs.Asked.{Gathers, gathers-none, gathers-more, gathers-fault, gathers-all}
use Rattle.qv_script_stack.proofs.Holding.{held-forgotten, ids-count}
use Rattle.qv_script_stack.proofs.Stepping.{trees-behind}

-- trees at numbers
trees-last : (trees : List Tree) (ids : List ℕ) (ts : List Tree) (id : ℕ) (t : Tree) → AreAt trees ids ts → StandsAt trees id t → AreAt trees (ids ++ id ∷ []) (ts ++ t ∷ [])
trees-last trees [] [] id t h there = (there, tt)
trees-last trees [] (u ∷ ts) id t h there = absurd h
trees-last trees (i ∷ ids) [] id t h there = absurd h
trees-last trees (i ∷ ids) (u ∷ ts) id t h there = (h.0, trees-last trees ids ts id t h.1 there)

trees-grow : (old new : List Tree) (g : Grows old new) (ids : List ℕ) (ts : List Tree) → AreAt old ids ts → AreAt new ids ts
trees-grow old new g [] [] h = tt
trees-grow old new g [] (t ∷ ts) h = absurd h
trees-grow old new g (i ∷ ids) [] h = absurd h
trees-grow old new g (i ∷ ids) (t ∷ ts) h = (stands-grows old new g i t h.0, trees-grow old new g ids ts h.1)

-- a formula that is assumed
abbrev pub assumed_of : State → Written → Result Tree Fault
assumed_of s e = formula_of (scope_of s) e e

assumptions-gathered : (s : State) (es : List Written) → assumptions s es ≡ gathered (assumed_of s) es
assumptions-gathered s [] = refl
assumptions-gathered s (e ∷ es) = ap (λ (r : Result (List Tree) Fault). assumed_of s e >>= λ t. r >>= λ ts. Ok (t ∷ ts)) (assumptions-gathered s es)

-- a text more
pub texts-more : (es : List Written) (i : ℕ) (e : Written) (text : List ℕ) → slice_get es i ≡ Some e → text ≡ spaced e → map spaced (take i es) ++ text ∷ [] ≡ map spaced (take (i + 1) es)
texts-more es i e text k is =
    let next : take (i + 1) es ≡ take i es ++ e ∷ [] = take_more es i e (slice_get_within es i e k) ∙ ap (λ x. take i es ++ x ∷ []) (get_or_from_slice_get es i e e k) in
    ap (λ t. map spaced (take i es) ++ t ∷ []) is ∙ sym (ap (map spaced) next ∙ map-append spaced (take i es) (e ∷ []))

-- so many are gathered
gathered-count : {A : Type 0} (f : Written → Result A Fault) (es : List Written) (xs : List A) → gathered f es ≡ Ok xs → length xs ≡ length es
gathered-count f [] xs h = let none : xs ≡ [] = cc in ap length none
gathered-count {A} f (e ∷ es) xs h = go (f e) (gathered f es) h (λ ys. gathered-count f es ys)
  where
    go : (r : Result A Fault) (q : Result (List A) Fault) → (r >>= λ a. q >>= λ ys. Ok (a ∷ ys)) ≡ Ok xs → ((ys : List A) → q ≡ Ok ys → length ys ≡ length es) → length xs ≡ suc (length es)
    go (Err z) q k rest = absurd (cc)
    go (Ok a) (Err z) k rest = absurd (cc)
    go (Ok a) (Ok ys) k rest = let is : xs ≡ a ∷ ys = cc in ap length is ∙ ap suc (rest ys refl)

-- where the loop over formulas is
abbrev pub FormulasSoFar : List Tree → State → List Written → List ℕ → ℕ → Type 0
FormulasSoFar trees s es ids i = (ts : List Tree) × AreAt trees ids ts × Gathers Tree (assumed_of s) es ts i

module _ (s : State) (es : List Written) where
  pub formulas-here : (trees : List Tree) → FormulasSoFar trees s es [] 0
  formulas-here trees = ([], tt, gathers-none Tree (assumed_of s) es)

  pub formulas-more : (old new : List Tree) (ids behind : List ℕ) (i : ℕ) (e : Written) (id : ℕ) → Grows old new → FormulasSoFar old s es ids i → slice_get es i ≡ Some e → TellsTree new (assumed_of s e) (Ok id) → behind ≡ ids ++ id ∷ [] → FormulasSoFar new s es behind (i + 1)
  formulas-more old new ids behind i e id g so k told is = (
    so.0 ++ told.0 ∷ [],
    subst (λ (qs : List ℕ). AreAt new qs (so.0 ++ told.0 ∷ [])) (sym is) (trees-last new ids so.0 id told.0 (trees-grow old new g ids so.0 so.1) told.2),
    gathers-more Tree (assumed_of s) es so.0 i e told.0 so.2 k told.1,
  )

  pub formulas-out : (old new : List Tree) (ids : List ℕ) (i : ℕ) (e : Written) (f : ScriptFault) → FormulasSoFar old s es ids i → slice_get es i ≡ Some e → TellsTree new (assumed_of s e) (Err f) → TellsTrees new (assumptions s es) (Err f)
  formulas-out old new ids i e NoMemory so k told = tt
  formulas-out old new ids i e (At place kind) so k told = assumptions-gathered s es ∙ gathers-fault Tree (assumed_of s) es so.0 i e (record { place = place; kind = kind }) so.2 k told

  pub formulas-end : (trees : List Tree) (ids : List ℕ) (i : ℕ) → FormulasSoFar trees s es ids i → length es ≤ i → (ts : List Tree) × (assumptions s es ≡ Ok ts) × AreAt trees ids ts
  formulas-end trees ids i so le = (so.0, assumptions-gathered s es ∙ gathers-all Tree (assumed_of s) es so.0 i so.2 le, so.1)

-- the command
module _ (p : ℕ) (s : State) where
  abbrev assuming-next : List Written → List Tree → Move
  assuming-next terms ts = check s (Some (map spaced terms)) ts

  pub assuming-unshaped : (e : Written) → is_empty_list e ≡ None → step CheckSatAssuming p (e ∷ []) s ≡ refuse p Form
  assuming-unshaped (atom l) n = refl
  assuming-unshaped (list place within close) n = absurd (cc)

  assuming-as : (e : Written) → (is_empty_list e ≡ None → ⊥) → step CheckSatAssuming p (e ∷ []) s ≡ (assumptions s (inside_of e) >>= assuming-next (inside_of e))
  assuming-as (atom l) n = absurd (n refl)
  assuming-as (list place within close) n = refl

  pub assuming-faulty : (trees : List Tree) (held : Held) (e : Written) (f : ScriptFault) → (is_empty_list e ≡ None → ⊥) → TellsTrees trees (assumptions s (inside_of e)) (Err f) → Gives trees held (step CheckSatAssuming p (e ∷ []) s) (Err f)
  assuming-faulty trees held e NoMemory n h = tt
  assuming-faulty trees held e (At place kind) n h = assuming-as e n ∙ ap (λ (r : Result (List Tree) Fault). r >>= assuming-next (inside_of e)) h

  -- what is held behind it
  abbrev pub Assumes : (old new : Held) (e : Written) (ids : List ℕ) (texts : Vec (Vec ℕ Global) Global) → Type 0
  Assumes old new e ids texts = (new ≡ record (forgotten old) { assumed = ids; terms = Some texts }) × (map (λ t. t.items) texts.items ≡ map spaced (inside_of e))

  assuming-done : (trees : List Tree) (old new : Held) (e : Written) (ids : List ℕ) (texts : Vec (Vec ℕ Global) Global) (ts : List Tree) → Assumes old new e ids texts → (is_empty_list e ≡ None → ⊥) → assumptions s (inside_of e) ≡ Ok ts → AreAt trees ids ts → IsScriptIn trees old s → Gives trees new (step CheckSatAssuming p (e ∷ []) s) (Ok done.CheckAssuming)
  assuming-done trees old new e ids texts ts same n given there h = (
    now,
    Check (in_force s ++ ts),
    assuming-as e n ∙ ap (λ (r : Result (List Tree) Fault). r >>= assuming-next (inside_of e)) given,
    subst (λ (k : Held). IsScriptIn trees k now) (sym same.0) (kept (held-forgotten trees old s h)),
    (in_force s ++ ts, refl, subst (λ (k : Held). AreAt trees (k.assertions ++ k.assumed) (in_force s ++ ts)) (sym same.0) (trees-behind trees old.assertions ids (in_force s) ts h.assertions there)),
  )
    where
      now : State
      now = record (forgetful s) { assumed = ts; terms = Some (map spaced (inside_of e)) }

      each : length texts.items ≡ length ids
      each =
          sym (length-map texts.items (λ (t : Vec ℕ Global). t.items)) ∙ ap length same.1 ∙ length-map (inside_of e) spaced
          ∙ sym (gathered-count (assumed_of s) (inside_of e) ts (sym (assumptions-gathered s (inside_of e)) ∙ given)) ∙ sym (ids-count trees ids ts there)

      kept : IsScriptIn trees (forgotten old) (forgetful s) → IsScriptIn trees (record (forgotten old) { assumed = ids; terms = Some texts }) now
      kept k = record {
        scope = k.scope;
        names = k.names;
        starts = k.starts;
        assertions = k.assertions;
        named = k.named;
        constants = k.constants;
        logic = k.logic;
        begun = k.begun;
        nested = k.nested;
        success = k.success;
        global = k.global;
        options = k.options;
        counts = k.counts;
        last = k.last;
        values = k.values;
        assumed = there;
        terms = ap Some same.1;
        texts = each;
      }

  pub assuming-all : (trees : List Tree) (old new : Held) (e : Written) (es : List Written) (ids : List ℕ) (texts : Vec (Vec ℕ Global) Global) (ts : List Tree) → es ≡ e ∷ [] → Assumes old new e ids texts → (is_empty_list e ≡ None → ⊥) → assumptions s (inside_of e) ≡ Ok ts → AreAt trees ids ts → IsScriptIn trees old s → Gives trees new (step CheckSatAssuming p es s) (Ok done.CheckAssuming)
  assuming-all trees old new e es ids texts ts one same n given there h =
      subst (λ (xs : List Written). Gives trees new (step CheckSatAssuming p xs s) (Ok done.CheckAssuming)) (sym one) (assuming-done trees old new e ids texts ts same n given there h)

-- what is looked at first of a check of assumptions
pub assuming-begins : (p : ℕ) (s : State) (e : Written) → (is_empty_list e ≡ None → ⊥) → command_beginning CheckSatAssuming p (e ∷ []) s ≡ Ok tt
assuming-begins p s (atom l) listed = absurd (listed refl)
assuming-begins p s (list place within close) listed = refl
