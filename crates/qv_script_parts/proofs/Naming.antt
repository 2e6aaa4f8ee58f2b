-- Names that stand in tables.
use Rattle.std.proofs.Common.{◌≡◌, ℕ, Bool, true, false, cond, Some, List, [], ◌∷◌, map, refl, ap, ◌∙◌}
use Rattle.std.specs.Prelude.{find, option_map}
use Rattle.std.specs.Str.{bytes_eq}
use Rattle.qv_elab_defs.specs.Scopes.{found}
use Rattle.qv_script_parts.specs.declared.command.TheConstants.{COMMANDS}
use Rattle.qv_script_parts.specs.declared.settings.TheConstants.{KEYS}
use Rattle.qv_script_parts.specs.declared.texts.TheConstants.{INFOS}
use Rattle.qv_script_defs.specs.Commands.{commands}
use Rattle.qv_script_defs.specs.Settings.{settings}
use Rattle.qv_script_defs.specs.Texts.{infos}
use Rattle.qv_script_parts.specs.Meant.{meant, name_of, meant_info, key_of}
use Rattle.qv_script_parts.specs.Options.{meant_key}
use Rattle.qv_script_parts.specs.Options.{key_of as key_of_option}

-- what is found first under a name
pub first-found : {A B : Type 0} (name : List ℕ) (key : A → List ℕ) (value : A → B) (xs : List A) → option_map value (find (λ x. bytes_eq (key x) name) xs) ≡ found name (map (λ x. (key x, value x)) xs)
first-found name key value [] = refl
first-found {A} {B} name key value (x ∷ xs) = go (bytes_eq (key x) name) (first-found name key value xs)
  where
    go : (b : Bool) → option_map value (find (λ y. bytes_eq (key y) name) xs) ≡ found name (map (λ y. (key y, value y)) xs) → option_map value (cond b (Some x) (find (λ y. bytes_eq (key y) name) xs)) ≡ cond b (Some (value x)) (found name (map (λ y. (key y, value y)) xs))
    go true e = refl
    go false e = e

commands-are : map (λ c. (name_of c, meant c)) COMMANDS ≡ commands
unfolding commands
commands-are = refl

pub command-found : (name : List ℕ) → option_map meant (find (λ c. bytes_eq (name_of c) name) COMMANDS) ≡ found name commands
command-found name = first-found name name_of meant COMMANDS ∙ ap (found name) commands-are

infos-are : map (λ i. (key_of i, meant_info i)) INFOS ≡ infos
unfolding infos
infos-are = refl

settings-are : map (λ k. (key_of_option k, meant_key k)) KEYS ≡ settings
unfolding settings
settings-are = refl

pub setting-found : (name : List ℕ) → option_map meant_key (find (λ k. bytes_eq (key_of_option k) name) KEYS) ≡ found name settings
setting-found name = first-found name key_of_option meant_key KEYS ∙ ap (found name) settings-are

pub info-found : (name : List ℕ) → option_map meant_info (find (λ i. bytes_eq (key_of i) name) INFOS) ≡ found name infos
info-found name = first-found name key_of meant_info INFOS ∙ ap (found name) infos-are
