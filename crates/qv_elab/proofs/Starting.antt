-- How the loop begins and ends.
use Rattle.std.proofs.Common.{◌≡◌, ℕ, List, [], ◌∷◌, refl, sym, ap, subst, ◌∙◌, Ok, Err, ◌++◌, length, reverse, arith}
use Rattle.std.specs.Prelude.{Result}
use Rattle.std.proofs.lemmas.List.{reverse-append}
use Rattle.qv_sexpr.specs.declared.items.Expr.{Expr as Items}
use Rattle.qv_sexpr.specs.Script.{Tree as Expr}
use Rattle.qv_sexpr.specs.Items.{Stands}
use Rattle.qv_words.specs.Tree.{Tree}
use Rattle.qv_words.specs.Sorted.{no_levels}
use Rattle.qv_elab_frames.specs.declared.elaborator.Open.{Open}
use Rattle.qv_elab_frames.specs.declared.elaborator.Next.{Next}
use Rattle.qv_elab_defs.specs.declared.faults.ElabFault.{ElabFault}
use Rattle.qv_elab_defs.specs.declared.faults.ElabFault.TheVariants.{At, NoMemory}
use Rattle.qv_elab_defs.specs.Scopes.{Named}
use Rattle.qv_elab_defs.specs.Faults.{Fault}
use Rattle.qv_elab_defs.specs.Scopes.{Scope, Context, outermost}
use Rattle.qv_elab_defs.specs.Beginnings.{Begins, beginning}
use Rattle.qv_elab_scope.specs.Force.{Force}
use Rattle.qv_elab_macros.specs.declared.standing.Watched.{Watched}
use Rattle.qv_elab_defs.specs.Looking.{Seen, looks_of}
use Rattle.qv_elab_macros.specs.Checked.{nothing, Sees}
use Rattle.qv_elab_scope.specs.Kept.{IsScopeIn}
use Rattle.qv_elab_frames.specs.Frames.{Frame, resume}
use Rattle.qv_elab_frames.specs.Loop.{Source, State, source, nothing_open, IsReading, IsMade, IsNext, Holds}
use Rattle.qv_elab_defs.proofs.ElaboratedTrees.{outermost-good}

begins-at : (trees : List Tree) (items : Items) (force : Force) (defs : Scope) (at to : ℕ) (e : Expr) → IsScopeIn trees force defs → Stands items.items.items items.text.items at e to →
    (h : IsReading (source items to defs) trees nothing_open at (looks_of e (outermost defs) [])) × (h.expr ≡ e) × (h.c ≡ outermost defs)
begins-at trees items force defs at to e s stands = (
  record {
    expr = e;
    behind = to;
    c = outermost defs;
    M = no_levels;
    frames = [];
    stands = stands;
    around = record {
      scope_is = refl;
      good = outermost-good defs s.is_scope;
      bound_are = tt;
      binders_are = refl;
      holds = (refl, refl, refl, refl);
      looks = [];
      looked = nothing trees;
    };
    gives = refl;
  },
  refl,
  refl,
)

pub begins : (trees : List Tree) (items : Items) (force : Force) (defs : Scope) (at to : ℕ) (e : Expr) → IsScopeIn trees force defs → Stands items.items.items items.text.items at e to → IsReading (source items to defs) trees nothing_open at (looks_of e (outermost defs) [])
begins trees items force defs at to e s stands = (begins-at trees items force defs at to e s stands).0

-- what is looked at first is that of the expression
pub as-begun : {B : Type 0} (e e' : Expr) (c c' : Context) (r : Result B ElabFault) → e' ≡ e → c' ≡ c → Begins (beginning e' c') r → Begins (beginning e c) r
as-begun {B} e e' c c' r f g h = subst (λ (t : Expr). Begins (beginning t c) r) f (subst (λ (d : Context). Begins (beginning e' d) r) g h)

pub all-begins : (trees : List Tree) (items : Items) (force : Force) (defs : Scope) (at to : ℕ) (e : Expr) (st : State) (r : Result ℕ ElabFault) → IsScopeIn trees force defs → Stands items.items.items items.text.items at e to → st ≡ nothing_open →
    ((h : IsReading (source items to defs) trees st at (looks_of e (outermost defs) [])) → Begins (beginning h.expr h.c) r) → Begins (beginning e (outermost defs)) r
all-begins trees items force defs at to e st r s stands is f =
    let w = source items to defs in
    let b = begins-at trees items force defs at to e s stands in
    let f' = subst (λ (s : State). (h : IsReading w trees s at (looks_of e (outermost defs) [])) → Begins (beginning h.expr h.c) r) is f in
    as-begun e b.0.expr (outermost defs) b.0.c r b.1 b.2 (f' b.0)

-- nothing is open
pub finished : (w : Source) (trees : List Tree) (s : State) (id at : ℕ) (given : Result Seen Fault) → s.stack ≡ [] → IsMade w trees s id at given → Sees trees s.watched given (Ok id)
finished w trees s id at given e h =
    let holds = subst (λ (os : List Open). Holds w trees os h.frames at h.c h.M s.done s.pending) e h.around.holds in
    (h.tree, h.around.looks, h.gives ∙ ap (λ (fs : List Frame). resume fs (Ok (h.tree, h.around.looks))) holds.0, h.stands, h.around.looked)

-- a fault of a step
pub fails : (w : Source) (trees : List Tree) (s : State) (given : Result Seen Fault) (fault : ElabFault) → IsNext w trees s given (Err fault) → (watched : List Watched) → Sees trees watched given (Err fault)
fails w trees s given (At place kind) h watched = h
fails w trees s given NoMemory h watched = tt

pub failed : (w : Source) (trees : List Tree) (s : State) (given : Result Seen Fault) (r : Result Next ElabFault) (fault left : ElabFault) (exit : Result ℕ ElabFault) → IsNext w trees s given r → r ≡ Err fault → exit ≡ Err left → left ≡ fault → (watched : List Watched) → Sees trees watched given exit
failed w trees s given r fault left exit h e f g watched =
    subst (λ (x : Result ℕ ElabFault). Sees trees watched given x) (sym (f ∙ ap Err g)) (fails w trees s given fault (subst (λ (x : Result Next ElabFault). IsNext w trees s given x) e h) watched)

-- what was open last is taken
pub taken : (w : Source) (trees : List Tree) (all left : List Open) (o : Open) (done : List ℕ) (bound pending : Named ℕ) (binders : ℕ) (watched : List Watched) (id at : ℕ) (given : Result Seen Fault) → all ≡ left ++ o ∷ [] → IsMade w trees (record { stack = reverse all; done = done; bound = bound; pending = pending; binders = binders; watched = watched }) id at given → IsMade w trees (record { stack = o ∷ reverse left; done = done; bound = bound; pending = pending; binders = binders; watched = watched }) id at given
taken w trees all left o done bound pending binders watched id at given e h =
    subst (λ (os : List Open). IsMade w trees (record { stack = os; done = done; bound = bound; pending = pending; binders = binders; watched = watched }) id at given)
    (ap reverse e ∙ reverse-append left (o ∷ [])) h

pub none-open : (os : List Open) → length os ≡ 0 → reverse os ≡ []
none-open [] e = refl
none-open (o ∷ os) e = absurd (omega arith)
