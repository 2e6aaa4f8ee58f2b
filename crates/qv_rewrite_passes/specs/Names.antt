-- The names of passes, as they stand behind `w`.
use Rattle.std.specs.Prelude.{ℕ, Option, Some, List, codes, if◌then◌else◌, option_map}
use Rattle.std.specs.Str.{bytes_eq}
use Rattle.qv_words.specs.Rules.{name_of_rule, rule_named}
use Rattle.qv_rewrite_passes.specs.declared.pass.Pass.{Pass}
use Rattle.qv_rewrite_passes.specs.declared.pass.Pass.TheVariants.{By, Sum, Xor, Simp}

abbrev pub name_of_pass : Pass → List ℕ
name_of_pass (By rule) = name_of_rule rule
name_of_pass Sum = codes "sum"
name_of_pass Xor = codes "xor"
name_of_pass Simp = codes "simp"

-- the pass of a name, where there is one
abbrev pub pass_named : List ℕ → Option Pass
pass_named name =
    if bytes_eq (codes "sum") name then Some Sum
    else (if bytes_eq (codes "xor") name then Some Xor
    else (if bytes_eq (codes "simp") name then Some Simp else option_map By (rule_named name)))
