-- How what a script holds changes.
use Rattle.std.specs.List.{AllByRecursion}
use Rattle.std.specs.Prelude.{◌≡◌, ◌≤◌, ℕ, ◌-◌, if◌then◌else◌, true, None, List, [], ◌∷◌, ◌++◌, length, replicate, take, slice_get, unwrap_or, Vec}
use Rattle.std.specs.declared.alloc.Global.{Global}
use Rattle.qv_words.specs.declared.sort.Sort.{Sort}
use Rattle.qv_elab_macros.specs.declared.body.Body.{Body}
use Rattle.qv_elab_scope.specs.declared.scope.Kept.{Kept}
use Rattle.qv_elab_scope.specs.declared.scope.Kept.TheVariants as kept
use Rattle.qv_elab_defs.specs.Scopes.{sort_key}
use Rattle.qv_elab_scope.specs.Force.{constants_in, with_name, opened, closed, merged}
use Rattle.qv_script_stack.specs.declared.held.Chosen.{Chosen}
use Rattle.qv_script_stack.specs.declared.held.Declared.{Declared}
use Rattle.qv_script_stack.specs.declared.held.Named.{Named as NamedAssertion}
use Rattle.qv_script_stack.specs.declared.held.Level.{Level as Start}
use Rattle.qv_script_stack.specs.declared.held.Mark.{Mark}
use Rattle.qv_script_stack.specs.Held.{Held, nothing}

-- without the last answer
abbrev pub forgotten : Held → Held
forgotten h = record h { assumed = []; terms = None; last = None }

-- how much is held
abbrev pub size : Held → Start
size h = record { assertions = length h.assertions; named = length h.named; constants = length h.constants }

-- a constant more
abbrev pub with_constant : Declared → Held → Held
with_constant own h = record h {
  force = with_name own.name.items (kept.Constant (constants_in h.force.kept) own.sort) h.force;
  constants = h.constants ++ own ∷ [];
  begun = true;
}

-- an assertion more, without a name
abbrev pub with_assertion : ℕ → Held → Held
with_assertion id h = record (forgotten h) { assertions = h.assertions ++ id ∷ []; begun = true }

-- a definition more
abbrev pub with_definition : List ℕ → Vec Sort Global → Body → Held → Held
with_definition name sorts body h = record h { force = with_name name (kept.Definition sorts body) h.force; begun = true }

-- a sort more
abbrev pub with_sort : List ℕ → Sort → Held → Held
with_sort name sort h = record h { force = with_name (sort_key name) (kept.Synonym sort) h.force; begun = true }

-- an assertion more, with a name, which stands for its term
abbrev pub with_named : NamedAssertion → Vec Sort Global → Body → Held → Held
with_named own sorts body h = record (with_assertion body.id h) {
  force = with_name own.name.items (kept.Definition sorts body) h.force;
  named = h.named ++ own ∷ [];
}

-- so many levels more
abbrev pub more_levels : ℕ → Held → Held
more_levels n h = record (forgotten h) { force = opened n h.force; starts = h.starts ++ replicate n (size h); nested = true }

-- how much was held below the n innermost levels
abbrev pub size_below : ℕ → Held → Start
size_below n h = unwrap_or (slice_get h.starts (length h.starts - n)) (size h)

-- so many assertions are left, and this many levels
abbrev pub left_of : Start → ℕ → Held → Held
left_of start levels h = record h {
  assertions = take start.assertions h.assertions;
  named = take start.named h.named;
  starts = take levels h.starts;
}

-- so many levels fewer, with what came in them
abbrev pub dropped_levels : ℕ → Held → Held
dropped_levels n h = record (forgotten (left_of (size_below n h) (length h.starts - n) h)) {
  constants = take (size_below n h).constants h.constants;
  force = closed n h.force;
}

-- so many levels fewer, whose declarations and definitions stay
abbrev pub merged_levels : ℕ → Held → Held
merged_levels n h = record (forgotten (left_of (size_below n h) (length h.starts - n) h)) { force = merged n h.force }

-- so many levels fewer
abbrev pub fewer_levels : ℕ → Held → Held
fewer_levels n h = if h.global then merged_levels n h else dropped_levels n h

-- without levels and assertions, whose declarations and definitions stay
abbrev pub unasserted : Held → Held
unasserted h = record (forgotten h) { assertions = []; named = []; starts = []; force = merged (length h.force.starts) h.force }

-- without assertions, declarations and definitions
abbrev pub cleared : Held → Held
cleared h = record nothing { logic = h.logic; begun = h.begun; nested = h.nested; success = h.success; global = h.global; options = h.options; counts = h.counts }

-- without levels and assertions
abbrev pub emptied : Held → Held
emptied h = if h.global then unasserted h else cleared h

-- an option that was set more
abbrev pub with_option : Chosen → Held → Held
with_option own h = record h { options = h.options ++ own ∷ [] }

-- definitions more, and nothing else
pub record IsLonger (old new : Held) : Type 0 where
  pub names : List (List ℕ)
  pub kept : List Kept
  pub no_constants : constants_in kept ≡ 0
  pub force : new.force ≡ record { names = names ++ old.force.names; kept = old.force.kept ++ kept; starts = old.force.starts }
  pub held : new ≡ record old { force = new.force; begun = new.begun }

-- how much is defined
pub record IsMarkOf (mark : Mark) (h : Held) : Type 0 where
  pub names : mark.names ≡ length h.force.names
  pub kept : mark.names ≡ length h.force.kept
  pub levels : AllByRecursion (λ n. n ≤ mark.names) h.force.starts
  pub begun : mark.begun ≡ h.begun

-- an assertion of this id and name more, which has no parameters
pub record IsNamed (id : ℕ) (name : List ℕ) (old new : Held) : Type 0 where
  pub own : NamedAssertion
  pub sorts : Vec Sort Global
  pub body : Body
  pub name_is : own.name.items ≡ name
  pub number : own.assertion ≡ length old.assertions
  pub id_is : body.id ≡ id
  pub no_sorts : sorts.items ≡ []
  pub no_depths : body.depths.items ≡ []
  pub held : new ≡ with_named own sorts body old

-- a definition of this id and name more, which has no parameters
pub record IsLabelled (id : ℕ) (name : List ℕ) (old new : Held) : Type 0 where
  pub sorts : Vec Sort Global
  pub body : Body
  pub id_is : body.id ≡ id
  pub no_sorts : sorts.items ≡ []
  pub no_depths : body.depths.items ≡ []
  pub held : new ≡ with_definition name sorts body old
