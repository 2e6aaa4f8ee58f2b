-- What is kept stays beside a store that has grown.
use Rattle.std.proofs.Common.{List}
use Rattle.std.specs.List.{All}
use Rattle.std.proofs.lemmas.List.Elements.{All-weaker}
use Rattle.qv_words.specs.Tree.{Tree}
use Rattle.qv_store.specs.Stores.{Grows}
use Rattle.qv_blast.proofs.Staying.{blaster-stays}
use Rattle.qv_solve_offer.specs.declared.base.Base.{Base}
use Rattle.qv_solve_offer.specs.declared.shared.Shared.{Shared}
use Rattle.qv_solve_offer.specs.Asking.{IsBase}
use Rattle.qv_solve_offer.specs.Sharing.{IsShared}

base-stays : (old new : List Tree) → Grows old new → (b : Base) → IsBase old b → IsBase new b
base-stays old new grows b h = record {
  blaster = blaster-stays old new b.blaster grows h.blaster;
  top = h.top;
  few = h.few;
}

pub shared-stays : (old new : List Tree) (s : Shared) → Grows old new → IsShared old s → IsShared new s
shared-stays old new s grows h = All-weaker (IsBase old) (IsBase new) (base-stays old new grows) s.bases.items h
