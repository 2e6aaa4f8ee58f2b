-- How definitions are read. No public contract cites this.
use Rattle.std.specs.Prelude.{ℕ, List}
use Rattle.qv_sexpr.specs.Script.{Tree as Written}
use Rattle.qv_words.specs.declared.sort.Sort.{Sort}
use Rattle.qv_elab_defs.specs.Faults.{◌>>=◌}
use Rattle.qv_elab_defs.specs.Scopes.{Named}
use Rattle.qv_elab_defs.specs.Synonyms.{scoped_sort}
use Rattle.qv_elab_defs.specs.Defining.{elaborate_body, definition}
use Rattle.qv_script_defs.specs.Faults.{inside}
use Rattle.qv_script_defs.specs.State.{State, scope_of, with_entry}
use Rattle.qv_script_defs.specs.Moves.{Move, quiet}

-- a definition of this name and these parameters, by its sort and its body
abbrev pub defined : State → List ℕ → Named Sort → Written → Written → Move
defined s name xs sort body =
    inside (scoped_sort (scope_of s) sort) >>= λ sort.
    inside (elaborate_body (scope_of s) xs sort body) >>= λ _.
    quiet (with_entry name (definition (scope_of s) xs body) s)
