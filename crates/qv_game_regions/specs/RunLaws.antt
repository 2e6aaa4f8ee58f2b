-- What pins the equations of runs down.
use Rattle.std.specs.Prelude.{◌≡◌, List, map, length, take, All}
use Rattle.std.specs.List.{AllZip}
use Rattle.qv_words.specs.declared.word.Word.{Word}
use Rattle.qv_words.specs.Word.{values_of, word_sort}
use Rattle.qv_words.specs.Problem.{Problem}
use Rattle.qv_words.specs.Linked.{equation_of}
use Rattle.qv_game_regions.specs.declared.run.Run.{Run as Kept}
use Rattle.qv_game_regions.specs.Runs.{fixing_at, run_of, IsRunAt}

-- where a point has words of the sorts of a problem's first places, the equations of runs are those
-- by which an entry's region fixes bits
abbrev pub FixingIsOfEntries : Type 0
FixingIsOfEntries =
    (p : Problem) (point : List Word) (runs : List Kept) → AllZip (λ w place. word_sort w ≡ place.sort) point (take (length point) p.prefix) →
    All (λ run. IsRunAt point (run_of run)) runs → map (fixing_at point) runs ≡ map (equation_of p (values_of point)) (map run_of runs)
