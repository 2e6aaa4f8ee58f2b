use Rattle.std.proofs.Common.{Contains, IsTrue, ◌↔◌, List, ℕ, subst}
use Rattle.qv_store.proofs.Visiting.{contains-test}
use Rattle.qv_store.proofs.walk.Walk.contains.Goals as goal

pub returns : goal.returns
returns c =
    let P : List ℕ → Type 0 = λ xs. IsTrue c.contains.result ↔ Contains xs c.args.id in
    subst P c.self.view_is (contains-test c.args.id c.self.inside.met.keys c.contains.result c.contains.ensures)
