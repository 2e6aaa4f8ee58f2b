-- the terms so far are planted
use Rattle.std.proofs.Common.{take}
use Rattle.qv_terms.specs.View.{trees}
use Rattle.qv_store.specs.Stores.{Grows}
use Rattle.qv_trees.specs.Planted.{ArePlanted}
use Rattle.qv_trees.proofs.planting.+plant.Given as goal

abbrev pub invariant-plant_all-terms : goal.invariant-plant_all-terms
invariant-plant_all-terms l = record { planted : ArePlanted l.store l.ids.items (trees (take l.term-index l.terms)); grows : Grows l.fn.store l.store }
