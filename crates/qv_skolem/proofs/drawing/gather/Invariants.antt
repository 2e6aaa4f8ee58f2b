-- the terms so far
use Rattle.std.proofs.Common.{◌≡◌, ◌<◌, List, length, take}
use Rattle.std.specs.Prelude.{All}
use Rattle.qv_words.specs.Tree.{Tree}
use Rattle.qv_store.specs.Replacing.{AreTermsOf}
use Rattle.qv_skolem.specs.Skolems.{skolems_in}
use Rattle.qv_skolem.specs.Slots.{slot_terms}
use Rattle.qv_skolem.proofs.drawing.gather.Given as goal

abbrev pub invariant-slots : goal.invariant-slots
invariant-slots l = record {
  there : (trees : List Tree) → AreTermsOf trees l.slots → All (λ s. s.term < length trees) l.drawn.items;
  terms : (trees : List Tree) → skolems_in trees l.drawn.items ≡ slot_terms trees 0 (take l.place l.slots);
}
