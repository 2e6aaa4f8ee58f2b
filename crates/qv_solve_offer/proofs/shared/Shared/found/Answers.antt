use Rattle.std.proofs.Common.{◌-◌, ℕ, Result, Ok, Err, List, set}
use Rattle.std.specs.Prelude.{OnOk}
use Rattle.std.specs.List.{All}
use Rattle.std.specs.Vec.{vec_len}
use Rattle.std.proofs.lemmas.List.Elements.{All-set}
use Rattle.qv_words.specs.Tree.{Tree}
use Rattle.qv_solve_offer.specs.declared.base.Base.{Base}
use Rattle.qv_solve_offer.specs.Asking.{IsBase}
use Rattle.qv_solve_offer.proofs.shared.Shared.found.Goals as goal

replaced : {A E : Type 0} (trees : List Tree) (bases : List Base) (place : ℕ) (b : Base) (r : Result A E) → All (IsBase trees) bases → OnOk r (IsBase trees b) → OnOk r (All (IsBase trees) (set bases place b))
replaced trees bases place b (Ok x) all one = All-set (IsBase trees) bases place b one all
replaced trees bases place b (Err e) all one = one

pub returns-in-Some : goal.returns-in-Some
returns-in-Some c =
    let trees = c.args.store.now in
    record {
      shared = replaced trees c.begin.new.self.bases.items (vec_len c.begin.new.self.bases - 1) c.words_of.new.base c.words_of.result
          (c.in_ok-begin.ensures.shared trees c.requires.trees c.requires.shared) c.words_of.ensures.base;
    }
