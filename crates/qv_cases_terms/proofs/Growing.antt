-- A store that has grown once and again.
use Rattle.std.proofs.Common.{List, [], sym, append-nil}
use Rattle.qv_words.specs.Tree.{Tree}
use Rattle.qv_store.specs.Stores.{Grows}

pub grows_same : (trees : List Tree) → Grows trees trees
grows_same trees = record { more = []; behind = sym (append-nil trees) }
