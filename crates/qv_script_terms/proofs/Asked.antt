-- What is asked, one expression after another.
use Rattle.std.proofs.Common.{◌≡◌, ◌<◌, ◌≤◌, ◌+◌, ℕ, zero, suc, Bool, true, false, not, Option, Some, List, [], ◌∷◌, ◌++◌, length, drop, slice_get, get_or, refl, sym, ap, subst, ◌∙◌, append_assoc, drop-cons, Ok, Err, arith}
use Rattle.std.specs.Prelude.{Result, Vec}
use Rattle.std.specs.declared.alloc.Global.{Global}
use Rattle.std.proofs.lemmas.List.{append-nil}
use Rattle.std.proofs.lemmas.Option.{slice_get_within, get_or_from_slice_get}
use Rattle.qv_sexpr.specs.declared.items.Expr.{Expr}
use Rattle.qv_sexpr.specs.declared.items.ItemKind.TheVariants.{Atom, Open}
use Rattle.qv_sexpr.specs.Script.{atom, list, none, also}
use Rattle.qv_sexpr.specs.Script.{Tree as Written}
use Rattle.qv_sexpr.specs.Items.{Begins}
use Rattle.qv_words.specs.Tree.{Tree}
use Rattle.qv_words.specs.Prenex.{is_quantified}
use Rattle.qv_store.specs.Nodes.{tree_at}
use Rattle.qv_store.specs.Stores.{StandsAt, Grows}
use Rattle.qv_elab_defs.specs.declared.faults.ElabFault.{ElabFault}
use Rattle.qv_elab_defs.specs.declared.faults.ElabFault.TheVariants as elab
use Rattle.qv_elab_defs.specs.Answers.{Answers}
use Rattle.qv_elab_defs.specs.Defining.{elaborate}
use Rattle.qv_elab_defs.specs.Faults.{◌>>=◌}
use Rattle.qv_elab_defs.specs.Faults.{Fault as TermFault}
use Rattle.qv_elab_defs.specs.Scopes.{Scope}
use Rattle.qv_elab_defs.specs.Tokens.{place_of}
use Rattle.qv_elab_scope.proofs.Growing.{stands-grows}
use Rattle.qv_script_defs.specs.declared.effects.Effect.TheVariants as done
use Rattle.qv_script_defs.specs.declared.effects.ValueTerm.{ValueTerm as Asked}
use Rattle.qv_script_defs.specs.declared.faults.ScriptFault.{ScriptFault}
use Rattle.qv_script_defs.specs.declared.faults.ScriptFault.TheVariants.{At, NoMemory}
use Rattle.qv_script_defs.specs.declared.faults.ScriptKind.TheVariants.{Form, NoModel, Quantifier}
use Rattle.qv_script_defs.specs.Faults.{Fault, refuse, demand, shaped, inside}
use Rattle.qv_script_defs.specs.Parts.{spaced}
use Rattle.qv_script_defs.specs.State.{State, scope_of}
use Rattle.qv_script_defs.specs.Moves.{ValueTerm, Move, Values, has_model, model_there, value_terms}
use Rattle.qv_script_defs.specs.Commands.{GetValue, step}
use Rattle.qv_script_parts.specs.Parted.{inside_of, is_empty_list}
use Rattle.qv_script_stack.specs.Held.{Held, IsScriptIn}
use Rattle.qv_script_stack.specs.Steps.{AreAsked, Gives}
use Rattle.qv_script_parts.specs.Parted.{IsPart, AreParts}
use Rattle.qv_script_defs.specs.Faults.{fault_of}
use Rattle.qv_script_terms.specs.Beginnings.{command_beginning}
use Rattle.qv_script_terms.specs.Asking.{gathered, behind_given, value_of, TellsValue, TellsValues}

-- where a loop that gathers is
module _ (A : Type 0) (f : Written → Result A Fault) (es : List Written) where
  abbrev pub Gathers : List A → ℕ → Type 0
  Gathers xs i = gathered f es ≡ behind_given xs (gathered f (drop i es))

  pub gathers-none : Gathers [] 0
  gathers-none = through (gathered f es)
    where
      through : (r : Result (List A) Fault) → r ≡ behind_given [] r
      through (Ok ys) = refl
      through (Err z) = refl

  -- what comes of the next one
  abbrev with-next : List A → ℕ → Result A Fault → Result (List A) Fault
  with-next xs i r = behind_given xs (r >>= λ a. gathered f (drop (suc i) es) >>= λ ys. Ok (a ∷ ys))

  stepped : (xs : List A) (i : ℕ) (e : Written) → Gathers xs i → slice_get es i ≡ Some e → gathered f es ≡ with-next xs i (f e)
  stepped xs i e g k =
      let first : drop i es ≡ e ∷ drop (suc i) es = drop-cons es i e (slice_get_within es i e k) ∙ ap (λ y. y ∷ drop (suc i) es) (get_or_from_slice_get es i e e k) in
      g ∙ ap (λ (qs : List Written). behind_given xs (gathered f qs)) first

  pub gathers-more : (xs : List A) (i : ℕ) (e : Written) (a : A) → Gathers xs i → slice_get es i ≡ Some e → f e ≡ Ok a → Gathers (xs ++ a ∷ []) (i + 1)
  gathers-more xs i e a g k h =
      let one : suc i ≡ i + 1 = omega arith in
      stepped xs i e g k ∙ ap (with-next xs i) h ∙ regrouped (gathered f (drop (suc i) es)) ∙ ap (λ j. behind_given (xs ++ a ∷ []) (gathered f (drop j es))) one
    where
      regrouped : (r : Result (List A) Fault) → behind_given xs (r >>= λ ys. Ok (a ∷ ys)) ≡ behind_given (xs ++ a ∷ []) r
      regrouped (Ok ys) = ap Ok (sym (append_assoc xs (a ∷ []) ys))
      regrouped (Err z) = refl

  pub gathers-fault : (xs : List A) (i : ℕ) (e : Written) (z : Fault) → Gathers xs i → slice_get es i ≡ Some e → f e ≡ Err z → gathered f es ≡ Err z
  gathers-fault xs i e z g k h = stepped xs i e g k ∙ ap (with-next xs i) h

  pub gathers-all : (xs : List A) (i : ℕ) → Gathers xs i → length es ≤ i → gathered f es ≡ Ok xs
  gathers-all xs i g le = g ∙ ap (λ (qs : List Written). behind_given xs (gathered f qs)) (dropped es i le) ∙ ap Ok (append-nil xs)
    where
      dropped : (qs : List Written) (n : ℕ) → length qs ≤ n → drop n qs ≡ []
      dropped [] zero l = refl
      dropped [] (suc n) l = refl
      dropped (q ∷ qs) zero l = absurd (omega (arith, l))
      dropped (q ∷ qs) (suc n) l = dropped qs n (omega (arith, l))

-- the part of this number
pub part-at : (expr : Expr) (ats : List ℕ) (es : List Written) (i at d : ℕ) → AreParts expr ats es → i < length ats → at ≡ get_or ats i d → (e : Written) × (slice_get es i ≡ Some e) × IsPart expr at e
part-at expr [] es i at d h lt k = absurd (omega (arith, lt))
part-at expr (a ∷ ats) [] i at d h lt k = absurd h
part-at expr (a ∷ ats) (e ∷ es) zero at d h lt k = (e, refl, subst (λ n. IsPart expr n e) (sym k) h.0)
part-at expr (a ∷ ats) (e ∷ es) (suc i) at d h lt k = part-at expr ats es i at d h.1 (omega (arith, lt)) k

pub part-begins : (expr : Expr) (at : ℕ) (e : Written) → IsPart expr at e → Begins expr at
part-begins expr at (atom l) p = (record { kind = Atom l.kind; place = l.place; start = p.1.0.start; end = p.1.0.end }, p.1.0.item, λ k. absurd (cc))
part-begins expr at (list place within close) p = (record { kind = Open p.1.0; place = place; start = p.1.1.0; end = p.1.1.0 }, p.1.1.1, λ k. absurd (cc))

-- terms whose values are asked for
pub asked-last : (trees : List Tree) (asked : List Asked) (vs : List ValueTerm) (a : Asked) (v : ValueTerm) → AreAsked trees asked vs → a.text.items ≡ v.text → StandsAt trees a.id v.tree → AreAsked trees (asked ++ a ∷ []) (vs ++ v ∷ [])
asked-last trees [] [] a v h text there = (text, there, tt)
asked-last trees [] (u ∷ vs) a v h text there = absurd h
asked-last trees (b ∷ asked) [] a v h text there = absurd h
asked-last trees (b ∷ asked) (u ∷ vs) a v h text there = (h.0, h.1, asked-last trees asked vs a v h.2 text there)

asked-grow : (old new : List Tree) (g : Grows old new) (asked : List Asked) (vs : List ValueTerm) → AreAsked old asked vs → AreAsked new asked vs
asked-grow old new g [] [] h = tt
asked-grow old new g [] (v ∷ vs) h = absurd h
asked-grow old new g (a ∷ asked) [] h = absurd h
asked-grow old new g (a ∷ asked) (v ∷ vs) h = (h.0, stands-grows old new g a.id v.tree h.1, asked-grow old new g asked vs h.2)

-- the value term of a tree, and what comes behind it
abbrev value-at : Written → Tree → ValueTerm
value-at e t = record { text = spaced e; tree = t }

abbrev tested-value : Written → Tree → Bool → Result ValueTerm Fault
tested-value e t b = demand (place_of e) Quantifier b >>= λ _. Ok (value-at e t)

abbrev tested-values : Written → Tree → Result (List ValueTerm) Fault → Bool → Result (List ValueTerm) Fault
tested-values e t r b = demand (place_of e) Quantifier b >>= λ _. r >>= λ ts. Ok (value-at e t ∷ ts)

abbrev values-from : Written → Result Tree Fault → Result (List ValueTerm) Fault → Result (List ValueTerm) Fault
values-from e x r = x >>= λ t. tested-values e t r (not (is_quantified t))

tested-apart : (e : Written) (t : Tree) (r : Result (List ValueTerm) Fault) (b : Bool) → tested-values e t r b ≡ (tested-value e t b >>= λ a. r >>= λ xs. Ok (a ∷ xs))
tested-apart e t r true = refl
tested-apart e t r false = refl

values-apart : (e : Written) (x : Result Tree Fault) (r : Result (List ValueTerm) Fault) → values-from e x r ≡ ((x >>= λ t. tested-value e t (not (is_quantified t))) >>= λ a. r >>= λ xs. Ok (a ∷ xs))
values-apart e (Ok t) r = tested-apart e t r (not (is_quantified t))
values-apart e (Err z) r = refl

pub values-gathered : (s : State) (es : List Written) → value_terms s es ≡ gathered (value_of (scope_of s)) es
values-gathered s [] = refl
values-gathered s (e ∷ es) = ap (values-from e (inside (elaborate (scope_of s) e))) (values-gathered s es) ∙ values-apart e (inside (elaborate (scope_of s) e)) (gathered (value_of (scope_of s)) es)

-- a term that is told
module _ (trees : List Tree) (scope : Scope) (e : Written) where
  abbrev value-given : Result Tree TermFault → Result ValueTerm Fault
  value-given r = inside r >>= λ t. demand (place_of e) Quantifier (not (is_quantified t)) >>= λ _. Ok (record { text = spaced e; tree = t })

  pub value-faulty : (f : ElabFault) → Answers trees (elaborate scope e) (Err f) → TellsValue trees (value_of scope e) (Err (fault_of f))
  value-faulty elab.NoMemory h = tt
  value-faulty (elab.At place kind) h = ap value-given h

  value-by : (id : ℕ) (b : Bool) (a : Answers trees (elaborate scope e) (Ok id)) → is_quantified (tree_at trees id) ≡ b → value_of scope e ≡ (demand (place_of e) Quantifier (not b) >>= λ _. Ok (record { text = spaced e; tree = a.0 }))
  value-by id b a k =
      let same : is_quantified a.0 ≡ b = ap is_quantified (sym a.2.tree) ∙ k in
      ap value-given a.1 ∙ ap (λ c. demand (place_of e) Quantifier (not c) >>= λ _. Ok (record { text = spaced e; tree = a.0 })) same

  pub value-quantified : (id : ℕ) (place : ℕ) (r : ScriptFault) → Answers trees (elaborate scope e) (Ok id) → is_quantified (tree_at trees id) ≡ true → place_of e ≡ place → r ≡ At place Quantifier → TellsValue trees (value_of scope e) (Err r)
  value-quantified id place r a k p is =
      subst (λ (x : ScriptFault). TellsValue trees (value_of scope e) (Err x)) (sym (is ∙ ap (λ n. At n Quantifier) (sym p))) (value-by id true a k)

  pub value-told : (id : ℕ) (own : Asked) → Answers trees (elaborate scope e) (Ok id) → is_quantified (tree_at trees id) ≡ false → own.id ≡ id → own.text.items ≡ spaced e → TellsValue trees (value_of scope e) (Ok own)
  value-told id own a k i t = (record { text = spaced e; tree = a.0 }, value-by id false a k, t, subst (λ n. StandsAt trees n a.0) (sym i) a.2)

-- where the loop over terms is
abbrev pub ValuesSoFar : List Tree → State → List Written → List Asked → ℕ → Type 0
ValuesSoFar trees s es asked i = (vs : List ValueTerm) × AreAsked trees asked vs × Gathers ValueTerm (value_of (scope_of s)) es vs i

module _ (s : State) (es : List Written) where
  pub values-here : (trees : List Tree) → ValuesSoFar trees s es [] 0
  values-here trees = ([], tt, gathers-none ValueTerm (value_of (scope_of s)) es)

  pub values-more : (old new : List Tree) (asked behind : List Asked) (i : ℕ) (e : Written) (a : Asked) → Grows old new → ValuesSoFar old s es asked i → slice_get es i ≡ Some e → TellsValue new (value_of (scope_of s) e) (Ok a) → behind ≡ asked ++ a ∷ [] → ValuesSoFar new s es behind (i + 1)
  values-more old new asked behind i e a g so k told is = (
    so.0 ++ told.0 ∷ [],
    subst (λ (qs : List Asked). AreAsked new qs (so.0 ++ told.0 ∷ [])) (sym is) (asked-last new asked so.0 a told.0 (asked-grow old new g asked so.0 so.1) told.2 told.3),
    gathers-more ValueTerm (value_of (scope_of s)) es so.0 i e told.0 so.2 k told.1,
  )

  pub values-out : (old new : List Tree) (asked : List Asked) (i : ℕ) (e : Written) (f : ScriptFault) → ValuesSoFar old s es asked i → slice_get es i ≡ Some e → TellsValue new (value_of (scope_of s) e) (Err f) → TellsValues new (value_terms s es) (Err f)
  values-out old new asked i e NoMemory so k told = tt
  values-out old new asked i e (At place kind) so k told = values-gathered s es ∙ gathers-fault ValueTerm (value_of (scope_of s)) es so.0 i e (record { place = place; kind = kind }) so.2 k told

  pub values-end : (trees : List Tree) (asked : List Asked) (i : ℕ) → ValuesSoFar trees s es asked i → length es ≤ i → (vs : List ValueTerm) × (value_terms s es ≡ Ok vs) × AreAsked trees asked vs
  values-end trees asked i so le = (so.0, values-gathered s es ∙ gathers-all ValueTerm (value_of (scope_of s)) es so.0 i so.2 le, so.1)

-- the command
module _ (p : ℕ) (s : State) where
  abbrev values-next : List ValueTerm → Move
  values-next values = Ok (s, Values values)

  abbrev values-shaped : Option (List Written) → Move
  values-shaped o = shaped p o >>= λ terms. model_there p s >>= λ _. value_terms s terms >>= values-next

  pub get-value-unshaped : (e : Written) → (is_empty_list e ≡ Some false → ⊥) → step GetValue p (e ∷ []) s ≡ refuse p Form
  get-value-unshaped (atom l) n = refl
  get-value-unshaped (list place none close) n = refl
  get-value-unshaped (list place (also f fs) close) n = absurd (n refl)

  get-value-filled : (e : Written) → is_empty_list e ≡ Some false → step GetValue p (e ∷ []) s ≡ values-shaped (Some (inside_of e))
  get-value-filled (atom l) n = absurd (cc)
  get-value-filled (list place none close) n = absurd (cc)
  get-value-filled (list place (also f fs) close) n = refl

  pub get-value-no_model : (e : Written) → is_empty_list e ≡ Some false → has_model s.last ≡ false → step GetValue p (e ∷ []) s ≡ refuse p NoModel
  get-value-no_model e n m = get-value-filled e n ∙ ap (λ b. demand p NoModel b >>= λ _. value_terms s (inside_of e) >>= values-next) m

  pub get-value-as : (e : Written) → is_empty_list e ≡ Some false → has_model s.last ≡ true → step GetValue p (e ∷ []) s ≡ (value_terms s (inside_of e) >>= values-next)
  get-value-as e n m = get-value-filled e n ∙ ap (λ b. demand p NoModel b >>= λ _. value_terms s (inside_of e) >>= values-next) m

  pub get-value-faulty : (trees : List Tree) (held : Held) (e : Written) (f : ScriptFault) → is_empty_list e ≡ Some false → has_model s.last ≡ true → TellsValues trees (value_terms s (inside_of e)) (Err f) → Gives trees held (step GetValue p (e ∷ []) s) (Err f)
  get-value-faulty trees held e NoMemory n m h = tt
  get-value-faulty trees held e (At place kind) n m h = get-value-as e n m ∙ ap (λ (r : Result (List ValueTerm) Fault). r >>= values-next) h

  pub get-value-done : (trees : List Tree) (held : Held) (e : Written) (asked : Vec Asked Global) → is_empty_list e ≡ Some false → has_model s.last ≡ true → TellsValues trees (value_terms s (inside_of e)) (Ok asked) → IsScriptIn trees held s → Gives trees held (step GetValue p (e ∷ []) s) (Ok (done.Values asked))
  get-value-done trees held e asked n m h kept = (
    s,
    Values h.0,
    get-value-as e n m ∙ ap (λ (r : Result (List ValueTerm) Fault). r >>= values-next) h.1,
    kept,
    (h.0, refl, h.2),
  )

-- what is looked at first of a question
pub get-value-begins : (p : ℕ) (s : State) (e : Written) → is_empty_list e ≡ Some false → has_model s.last ≡ true → command_beginning GetValue p (e ∷ []) s ≡ Ok tt
get-value-begins p s (atom l) h m = absurd (cc)
get-value-begins p s (list place none close) h m = absurd (cc)
get-value-begins p s (list place (also f fs) close) h m = ap (λ b. demand p NoModel b) m
