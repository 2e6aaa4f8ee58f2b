-- What terms with names that a command has leave of a state.
use Rattle.std.proofs.Common.{◌≡◌, ℕ, Bool, true, false, cond, Option, Some, None, List, [], ◌∷◌, ◌++◌, map, refl, sym, ap, subst, ◌∙◌, slice_get, Ok, Err}
use Rattle.std.proofs.lemmas.List.{append-nil, reverse-append}
use Rattle.std.proofs.lemmas.Grind.{flat_map-append}
use Rattle.std.specs.Prelude.{Result, IfOk, All, flat_map, reverse}
use Rattle.std.specs.List.{AllByRecursion}
use Rattle.qv_sexpr.specs.Script.{atom, list, none, also}
use Rattle.qv_sexpr.specs.Script.{Tree as Expr, Trees as Exprs}
use Rattle.qv_words.specs.Tree.{Tree}
use Rattle.qv_words.specs.Sorted.{constants_of as leaves_of}
use Rattle.qv_words.proofs.Leaves.{both}
use Rattle.qv_elab_defs.specs.Faults.{◌>>=◌}
use Rattle.qv_elab_defs.specs.Tokens.{name_of_token}
use Rattle.qv_elab_defs.specs.Written.{HasTokens, HaveTokens}
use Rattle.qv_elab_defs.specs.Shapes.{Construct, Let, Quantified, Annotated, Application, construct_of, Pair, pairs_of, some_pairs}
use Rattle.qv_elab_defs.specs.Scopes.{Entry, Named, Scope, constants_of}
use Rattle.qv_elab_defs.specs.Defining.{definition}
use Rattle.qv_elab_defs.specs.TreeLaws.{IsTreeOf}
use Rattle.qv_elab_defs.proofs.OpenApplied.{ok-bind}
use Rattle.qv_script_defs.specs.declared.faults.ScriptKind.TheVariants.{NotSupported}
use Rattle.qv_script_defs.specs.Faults.{Fault, refuse}
use Rattle.qv_script_defs.specs.State.{State, Assertion, Level, scope_of, in_force, last_checked, changed_at, with_entry}
use Rattle.qv_script_defs.specs.Labels.{Label, Around, below, within, is_outside, unless_outside, name_of, with_label, if_pairs, labels_in, labels_listed, labels_all}
use Rattle.qv_script_defs.proofs.Steady.{scope_of_levels, on_first, levels-changed}
use Rattle.qv_words.specs.declared.sort.Sort.{Sort}

-- their terms are as they are written
abbrev pub AreWritten : List Label → Type 0
AreWritten ls = AllByRecursion (λ l. HasTokens l.term) ls

written-label : (o : Option (List ℕ)) (term : Expr) (ls : List Label) → HasTokens term → AreWritten ls → AreWritten (with_label o term ls)
written-label (Some name) term ls w h = both (λ l. HasTokens l.term) ls (record { name = name; term = term } ∷ []) h (w, tt)
written-label None term ls w h = h

written-unless : (o : Option (List ℕ)) (a : Around) (ls : List Label) → AreWritten ls → IfOk (unless_outside o a ls) AreWritten
written-unless None a ls h = h
written-unless (Some name) a ls h = go (is_outside name a)
  where
    go : (b : Bool) → IfOk (cond b (refuse a.place NotSupported) (Ok ls)) AreWritten
    go true = tt
    go false = h

written-pairs : (o : Option (List Pair)) (ls : List Label) (has : List Pair → Result (List Label) Fault) → AreWritten ls → ((ps : List Pair) → IfOk (has ps) AreWritten) → IfOk (if_pairs o ls has) AreWritten
written-pairs (Some ps) ls has h k = k ps
written-pairs None ls has h k = h

mutual
  pub written-in : (e : Expr) (a : Around) (ls : List Label) → HasTokens e → AreWritten ls → IfOk (labels_in e a ls) AreWritten
  written-in (atom l) a ls w h = written-unless (name_of_token l.kind l.text) a ls h
  written-in (list place none close) a ls w h = h
  written-in (list place (also first rest) close) a ls w h = written-listed (construct_of first) place rest a ls w.1 h

  written-listed : (con : Construct) (place : ℕ) (rest : Exprs) (a : Around) (ls : List Label) → HaveTokens rest → AreWritten ls → IfOk (labels_listed con place rest a ls) AreWritten
  written-listed Let place (also (list p pairs q) (also body none)) a ls w h =
      written-pairs (some_pairs (pairs_of pairs)) ls (λ ps. labels_all pairs a ls >>= labels_in body (below ps a)) h
      (λ ps. ok-bind (labels_all pairs a ls) (labels_in body (below ps a)) AreWritten AreWritten (written-all pairs a ls w.0 h) (λ own k. written-in body (below ps a) own w.1.0 k))
  written-listed (Quantified quantifier) place (also (list p pairs q) (also body none)) a ls w h =
      written-pairs (some_pairs (pairs_of pairs)) ls (λ ps. labels_in body (below ps a) ls) h (λ ps. written-in body (below ps a) ls w.1.0 h)
  written-listed Annotated place (also term attributes) a ls w h =
      ok-bind (labels_in term (within (name_of attributes) place a) ls) (λ own. Ok (with_label (name_of attributes) term own)) AreWritten AreWritten (written-in term (within (name_of attributes) place a) ls w.0 h)
      (λ own k. written-label (name_of attributes) term own w.0 k)
  written-listed Application place (also e es) a ls w h = ok-bind (labels_in e a ls) (labels_all es a) AreWritten AreWritten (written-in e a ls w.0 h) (λ own k. written-all es a own w.1 k)
  written-listed _ place rest a ls w h = h

  pub written-all : (es : Exprs) (a : Around) (ls : List Label) → HaveTokens es → AreWritten ls → IfOk (labels_all es a ls) AreWritten
  written-all none a ls w h = h
  written-all (also e es) a ls w h = ok-bind (labels_in e a ls) (labels_all es a) AreWritten AreWritten (written-in e a ls w.0 h) (λ own k. written-all es a own w.1 k)

pub ok-weaker : {A F : Type 0} (r : Result A F) (P Q : A → Type 0) → ((a : A) → P a → Q a) → IfOk r P → IfOk r Q
ok-weaker (Ok a) P Q k h = k a h
ok-weaker (Err f) P Q k h = tt

-- definitions leave the constants, the last answer, and what it was given for
pub record IsLabelled (s now : State) : Type 0 where
  pub constants : constants_of (scope_of now) ≡ constants_of (scope_of s)
  pub last : now.last ≡ s.last
  pub checked : last_checked now ≡ last_checked s

pub labelled-itself : (s : State) → IsLabelled s s
labelled-itself s = record { constants = refl; last = refl; checked = refl }

pub labelled-more : (s t u : State) → IsLabelled s t → IsLabelled t u → IsLabelled s u
labelled-more s t u h k = record { constants = k.constants ∙ h.constants; last = k.last ∙ h.last; checked = k.checked ∙ h.checked }

scope-entry : (name : List ℕ) (entry : Entry) (s : State) → scope_of (with_entry name entry s) ≡ (name, entry) ∷ scope_of s
scope-entry name entry s = ap scope_of_levels (levels-changed (λ level. record level { scope = (name, entry) ∷ level.scope }) s) ∙ go s.opened
  where
    go : (o : List Level) → scope_of_levels (on_first (λ level. record level { scope = (name, entry) ∷ level.scope }) (o ++ s.bottom ∷ [])) ≡ (name, entry) ∷ scope_of_levels (o ++ s.bottom ∷ [])
    go [] = refl
    go (l ∷ o) = refl

last-changed : (change : Level → Level) (s : State) (o : List Level) → (changed_at change s o).last ≡ s.last
last-changed change s [] = refl
last-changed change s (l ∷ o) = refl

assumed-changed : (change : Level → Level) (s : State) (o : List Level) → (changed_at change s o).assumed ≡ s.assumed
assumed-changed change s [] = refl
assumed-changed change s (l ∷ o) = refl

-- the assertions of levels, of which the innermost comes first
abbrev asserted_in : List Level → List Assertion
asserted_in ls = flat_map (λ level. level.assertions) (reverse ls)

inner-last : (l : Level) (ls : List Level) → asserted_in (l ∷ ls) ≡ asserted_in ls ++ l.assertions
inner-last l ls =
    ap (λ xs. flat_map (λ level. level.assertions) xs) (reverse-append (l ∷ []) ls)
    ∙ flat_map-append (λ (level : Level). level.assertions) (reverse ls) (l ∷ [])
    ∙ ap (λ xs. asserted_in ls ++ xs) (append-nil l.assertions)

-- an entry leaves them
entry-asserted : (x : List ℕ × Entry) (o : List Level) (b : Level) → asserted_in (on_first (λ level. record level { scope = x ∷ level.scope }) (o ++ b ∷ [])) ≡ asserted_in (o ++ b ∷ [])
entry-asserted x [] b = refl
entry-asserted x (l ∷ o) b = inner-last (record l { scope = x ∷ l.scope }) (o ++ b ∷ []) ∙ sym (inner-last l (o ++ b ∷ []))

pub entry-checked : (name : List ℕ) (entry : Entry) (s : State) → last_checked (with_entry name entry s) ≡ last_checked s
entry-checked name entry s =
    let change : Level → Level = λ level. record level { scope = (name, entry) ∷ level.scope } in
    ap (λ xs. map (λ (a : Assertion). a.tree) xs ++ (changed_at change s s.opened).assumed) (ap asserted_in (levels-changed change s) ∙ entry-asserted (name, entry) s.opened s.bottom)
    ∙ ap (λ us. in_force s ++ us) (assumed-changed change s s.opened)

pub definition-labelled : (name : List ℕ) (term : Expr) (s : State) → IsLabelled s (with_entry name (definition (scope_of s) [] term) s)
definition-labelled name term s =
    let d = definition (scope_of s) [] term in
    record {
      constants = ap constants_of (scope-entry name d s) ∙ append-nil (constants_of (scope_of s));
      last = last-changed (λ level. record level { scope = (name, d) ∷ level.scope }) s s.opened;
      checked = entry-checked name d s;
    }

-- trees of a scope are those of one with the same constants
pub tree-same : (a b : Scope) (t : Tree) → constants_of a ≡ constants_of b → IsTreeOf a t → IsTreeOf b t
tree-same a b t e h = record {
  sorted = h.sorted;
  sort = h.sort;
  closed = h.closed;
  shallow = h.shallow;
  constants = subst (λ (xs : Named Sort). All (λ leaf. slice_get (map (λ x. x.1) xs) leaf.0 ≡ Some leaf.1) (leaves_of t)) e h.constants;
}
