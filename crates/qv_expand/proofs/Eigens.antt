-- The lines of an existential block.
use Rattle.std.proofs.Common.{◌≡◌, ℕ, suc, ◌+◌, true, Some, List, [], ◌∷◌, ◌++◌, map, refl, sym, ap, ◌∙◌, subst, length, take, drop, slice_get, arith}
use Rattle.std.proofs.lemmas.List.{length-map, take-map}
use Rattle.std.proofs.lemmas.List.Elements.{recursion_from_All}
use Rattle.qv_words.specs.Sort.{IsLawful}
use Rattle.qv_words.specs.Tree.{Tree, Variable}
use Rattle.qv_words.specs.Problem.{Problem, Place, Existential}
use Rattle.qv_words.specs.Expansion.{Eigen}
use Rattle.qv_words.specs.Linked.{Drawn, paths_of, with_eigens, with_line}
use Rattle.qv_words.specs.GameLaws.{IsProblem}
use Rattle.qv_words.proofs.Elements.{all-at, get-map}
use Rattle.qv_game_laws.specs.PathLaws.{IsLongerTree}
use Rattle.qv_store.specs.declared.problem.Place.{Place as Kept}
use Rattle.qv_store.specs.declared.problem.Problem.{Problem as Posed}
use Rattle.qv_store.specs.Stores.{Grows}
use Rattle.qv_store.specs.Problems.{place_of, places_of, problem_in}
use Rattle.qv_entries.specs.Rows.{Row, entries_in}
use Rattle.qv_meter.proofs.Fresh.{linked}
use Rattle.qv_meter.specs.Units.{LineUnit}
use Rattle.qv_meter.specs.Records.{Metering, after_instance}
use Rattle.qv_meter.specs.Charging.{MayChargeInstance}
use Rattle.qv_skolem.specs.Blocks.{run_length, sorts_of}
use Rattle.qv_expand.specs.declared.growing.Growing.{Growing}
use Rattle.qv_expand.specs.Trees.{line_in}
use Rattle.qv_expand.specs.Growth.{drawn_in, whole_tree, with_entry, IsExpanding, IsLonger, MayDraw, StandsBefore}
use Rattle.qv_expand.proofs.BlockPlaces.{block-next, eigen-next, with-eigens_of}
use Rattle.qv_expand.proofs.NextLine.{drawn-on, expanding-on, unit-on}

pub lawful-place : (p : Problem) (k : ℕ) (place : Place) → IsProblem p → slice_get p.prefix k ≡ Some place → IsLawful place.sort
lawful-place p k place h at = all-at (λ (q : Place). IsLawful q.sort) p.prefix k place (recursion_from_All (λ (q : Place). IsLawful q.sort) p.prefix h.sorts) at

-- the sorts of the first places
pub sorts-taken : (i : ℕ) (block : List Kept) → sorts_of (map place_of (take i block)) ≡ take i (sorts_of (map place_of block))
sorts-taken i block = ap sorts_of (sym (take-map place_of i block)) ∙ sym (take-map (λ (x : Place). x.sort) i (map place_of block))

-- all of them
module _ (trees : List Tree) (problem : Posed) (rows : List Row) (m : Metering) (g : Growing) (n : ℕ) (block : List Kept) (h : IsExpanding trees problem rows m g) (may : MayDraw trees problem rows g n) (owner : StandsBefore problem Existential g)
    (block-is : map place_of block ≡ take (run_length Existential (drop (length g.path.items) (places_of problem))) (drop (length g.path.items) (places_of problem))) where
  pub block-drawn : with_entry (problem_in trees problem) (entries_in trees rows) (drawn_in trees (paths_of (problem_in trees problem) (entries_in trees rows)) g) n ≡ with_eigens n (drawn_in trees (paths_of (problem_in trees problem) (entries_in trees rows)) g) (sorts_of (map place_of block))
  block-drawn =
      let p = problem_in trees problem in
      let es = entries_in trees rows in
      let start = drawn_in trees (paths_of p es) g in
      with-eigens_of p es start (length g.path.items) n may.is (block-next p es (length g.path.items) n Existential (linked p [] es h.played) may.is owner) ∙ ap (λ (ps : List Place). with_eigens n start (sorts_of ps)) (sym block-is)

  pub block-longer : IsLongerTree (with_eigens n (drawn_in trees (paths_of (problem_in trees problem) (entries_in trees rows)) g) (sorts_of (map place_of block))) (whole_tree (problem_in trees problem) (entries_in trees rows))
  block-longer = subst (λ (d : Drawn). IsLongerTree d (whole_tree (problem_in trees problem) (entries_in trees rows))) block-drawn may.longer

  -- one more
  module _ (mid : List Tree) (m' : Metering) (g' : Growing) (i : ℕ) (x : Kept) (grows : Grows trees mid) (now : IsExpanding mid problem rows m' g')
      (drawn : drawn_in mid (paths_of (problem_in trees problem) (entries_in trees rows)) g' ≡ with_eigens n (drawn_in trees (paths_of (problem_in trees problem) (entries_in trees rows)) g) (sorts_of (map place_of (take i block)))) (at : slice_get block i ≡ Some x) where
    sort-at : slice_get (sorts_of (map place_of block)) i ≡ Some x.sort
    sort-at = get-map (λ (q : Place). q.sort) (map place_of block) i (place_of x) (get-map place_of block i x at)

    drawn-taken : drawn_in mid (paths_of (problem_in trees problem) (entries_in trees rows)) g' ≡ with_eigens n (drawn_in trees (paths_of (problem_in trees problem) (entries_in trees rows)) g) (take i (sorts_of (map place_of block)))
    drawn-taken = drawn ∙ ap (with_eigens n (drawn_in trees (paths_of (problem_in trees problem) (entries_in trees rows)) g)) (sorts-taken i block)

    steps : (with_eigens n (drawn_in trees (paths_of (problem_in trees problem) (entries_in trees rows)) g) (take (suc i) (sorts_of (map place_of block))) ≡ with_line n (drawn_in mid (paths_of (problem_in trees problem) (entries_in trees rows)) g') (Eigen g'.parent) (Variable (suc (length g'.lines.items)) x.sort))
        × IsLongerTree (with_line n (drawn_in mid (paths_of (problem_in trees problem) (entries_in trees rows)) g') (Eigen g'.parent) (Variable (suc (length g'.lines.items)) x.sort)) (whole_tree (problem_in trees problem) (entries_in trees rows))
    steps =
        let p = problem_in trees problem in
        let es = entries_in trees rows in
        let start = drawn_in trees (paths_of p es) g in
        let next = eigen-next n start (whole_tree p es) (sorts_of (map place_of block)) i x.sort sort-at block-longer in
        let size : length (drawn_in mid (paths_of p es) g').lines ≡ length g'.lines.items = length-map g'.lines.items (line_in mid) in
        let same : with_line n (with_eigens n start (take i (sorts_of (map place_of block)))) (Eigen (with_eigens n start (take i (sorts_of (map place_of block)))).parent) (Variable (suc (length (with_eigens n start (take i (sorts_of (map place_of block)))).lines)) x.sort) ≡ with_line n (drawn_in mid (paths_of p es) g') (Eigen g'.parent) (Variable (suc (length g'.lines.items)) x.sort) =
        ap (λ (d : Drawn). with_line n d (Eigen d.parent) (Variable (suc (length d.lines)) x.sort)) (sym drawn-taken) ∙ ap (λ (k : ℕ). with_line n (drawn_in mid (paths_of p es) g') (Eigen g'.parent) (Variable (suc k) x.sort)) size in
        (next.0 ∙ same, subst (λ (d : Drawn). IsLongerTree d (whole_tree p es)) same next.1)

    pub eigen-unit : MayChargeInstance m' (LineUnit (entries_in mid rows) (g'.under.items ++ n ∷ []))
    eigen-unit = unit-on trees mid problem rows m' g' n true (Variable (suc (length g'.lines.items)) x.sort) grows h.posed h.within now steps.1

    module _ (new : List Tree) (m'' : Metering) (g'' : Growing) (more : Grows mid new) (line : IsLonger g' g'' n true new (Variable (suc (length g'.lines.items)) x.sort)) (charged : m'' ≡ after_instance m') (here : slice_get (places_of problem) (length g'.path.items) ≡ Some (place_of x)) where
      pub eigen-expanding : IsExpanding new problem rows m'' g''
      eigen-expanding = expanding-on trees mid problem rows m' g' n true (Variable (suc (length g'.lines.items)) x.sort) grows h.posed h.within now steps.1 new g'' m'' (place_of x) more line charged here refl

      pub eigen-drawn : drawn_in new (paths_of (problem_in trees problem) (entries_in trees rows)) g'' ≡ with_eigens n (drawn_in trees (paths_of (problem_in trees problem) (entries_in trees rows)) g) (sorts_of (map place_of (take (i + 1) block)))
      eigen-drawn =
          let one : suc i ≡ i + 1 = omega arith in
          drawn-on trees mid problem rows m' g' n true (Variable (suc (length g'.lines.items)) x.sort) grows h.posed h.within now steps.1 new g'' m'' (place_of x) more line charged here refl
          ∙ sym steps.0
          ∙ ap (λ (k : ℕ). with_eigens n (drawn_in trees (paths_of (problem_in trees problem) (entries_in trees rows)) g) (take k (sorts_of (map place_of block)))) one
          ∙ ap (with_eigens n (drawn_in trees (paths_of (problem_in trees problem) (entries_in trees rows)) g)) (sym (sorts-taken (i + 1) block))
