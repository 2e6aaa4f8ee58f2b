-- Trees that go on, part by part.
use Rattle.std.proofs.Common.{◌≡◌, ℕ, suc, ◌≤◌, List, [], ◌∷◌, ◌++◌, refl, sym, ap, ◌∙◌, length, arith}
use Rattle.std.proofs.lemmas.List.{length-append}
use Rattle.qv_words.specs.declared.sort.Sort.{Sort}
use Rattle.qv_words.specs.Tree.{Tree, Variable}
use Rattle.qv_words.specs.Expansion.{Instance, Eigen}
use Rattle.qv_words.specs.Linked.{Block, Entry, Drawn, with_line, with_eigens, with_instances, on_path, below_each, drawn}
use Rattle.qv_game_laws.specs.PathLaws.{IsLongerTree}
use Rattle.qv_game_laws.proofs.Paths.{drawn-is_longer, longer-itself, longer-trans}

pub longer-length : (d f : Drawn) → IsLongerTree d f → length d.lines ≤ length f.lines
longer-length d f h =
    let a = ap length (h.has_lines) in
    let b = length-append d.lines h.lines in
    omega (arith, a, b)

-- only lines and paths count
pub longer-same : (d f g : Drawn) → f.lines ≡ g.lines → f.numbers ≡ g.numbers → IsLongerTree d f → IsLongerTree d g
longer-same d f g e n h = record { lines = h.lines; numbers = h.numbers; alike = h.alike; has_lines = sym e ∙ h.has_lines; has_numbers = sym n ∙ h.has_numbers }

-- lines in two parts
pub eigens-append : (n : ℕ) (d : Drawn) (xs ys : List Sort) → with_eigens n d (xs ++ ys) ≡ with_eigens n (with_eigens n d xs) ys
eigens-append n d [] ys = refl
eigens-append n d (s ∷ xs) ys = eigens-append n (with_line n d (Eigen d.parent) (Variable (suc (length d.lines)) s)) xs ys

pub instances-append : (n : ℕ) (d : Drawn) (xs ys : List Tree) → with_instances n d (xs ++ ys) ≡ with_instances n (with_instances n d xs) ys
instances-append n d [] ys = refl
instances-append n d (t ∷ xs) ys = instances-append n (with_line n d (Instance d.parent (on_path d.path t)) (on_path d.path t)) xs ys

pub each-longer : (levels : ℕ) (blocks : List Block) (entries : List Entry) (d : Drawn) (links : List ℕ) → IsLongerTree d (below_each (λ below link. drawn levels blocks entries below link) d links)
each-longer levels blocks entries d [] = longer-itself d
each-longer levels blocks entries d (link ∷ links) =
    let below = drawn levels blocks entries d link in
    let back : Drawn = record { lines = below.lines; numbers = below.numbers; parent = d.parent; path = d.path; under = d.under } in
    let first = drawn-is_longer levels blocks entries d link in
    longer-trans d back (below_each (λ below link. drawn levels blocks entries below link) back links)
    (record { lines = first.lines; numbers = first.numbers; alike = first.alike; has_lines = first.has_lines; has_numbers = first.has_numbers })
    (each-longer levels blocks entries back links)
