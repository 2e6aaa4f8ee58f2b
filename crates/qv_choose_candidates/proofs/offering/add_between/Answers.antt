use Rattle.std.proofs.Common.{◌≡◌, ◌==◌, ◌||◌, true, false, List, length, ap, sym, ◌∙◌, subst}
use Rattle.std.specs.Prelude.{OnOk}
use Rattle.qv_words.specs.Tree.{Tree, tree_sort}
use Rattle.qv_words.specs.Prenex.{is_bool}
use Rattle.qv_words.specs.Choice.{candidates_of_sides, is_equation, is_comparison}
use Rattle.qv_store.specs.Nodes.{tree_at}
use Rattle.qv_choose_candidates.specs.declared.offers.Side.TheVariants.{Neither}
use Rattle.qv_choose_paths.specs.Looks.{way_of}
use Rattle.qv_choose_candidates.specs.Offers.{AddsOffers, open_side}
use Rattle.qv_choose_candidates.proofs.SideLaws.{some-targets, first-ways, second-ways}
use Rattle.qv_choose_candidates.proofs.BetweenLaws.{first-aim, second-aim, first-list, second-list, neither-list}
use Rattle.qv_choose_candidates.proofs.ListLaws.{adds-none}
use Rattle.qv_choose_candidates.proofs.offering.add_between.Goals as goal

pub add_down-requires-clause-aim : goal.add_down-requires-clause-aim
add_down-requires-clause-aim c =
    let is : (is_equation c.args.op || is_comparison c.args.op) ≡ true = some-targets c.args.op (ap (λ ts. length ts == 0) (sym c.targets_of-targets.ensures) ∙ sym c.is_empty.ensures ∙ c.if-is_empty.false) in
    let bits : is_bool (tree_sort (tree_at c.args.store.now c.args.a)) ≡ false = ap is_bool c.sort.ensures.sort ∙ sym c.is_bool.ensures ∙ c.if-is_bool.false in
    let left : c.look-left.result.way ≡ way_of c.args.sight.now.place (tree_at c.args.store.now c.args.a) = ap (λ l. l.way) c.look-left.ensures in
    let right : c.look-right.result.way ≡ way_of c.args.sight.now.place (tree_at c.args.store.now c.args.b) = ap (λ l. l.way) c.look-right.ensures in
    let ways = first-ways c.look-left.result.way c.look-right.result.way (sym c.open_side.ensures ∙ c.in-First.is) in
    first-aim c.args.store.now c.args.sight.now c.args.op c.args.a c.args.b c.requires.sides is bits (sym left ∙ ways.0)

pub add_down-requires-in-Second-clause-aim : goal.add_down-requires-in-Second-clause-aim
add_down-requires-in-Second-clause-aim c =
    let is : (is_equation c.args.op || is_comparison c.args.op) ≡ true = some-targets c.args.op (ap (λ ts. length ts == 0) (sym c.targets_of-targets.ensures) ∙ sym c.is_empty.ensures ∙ c.if-is_empty.false) in
    let bits : is_bool (tree_sort (tree_at c.args.store.now c.args.a)) ≡ false = ap is_bool c.sort.ensures.sort ∙ sym c.is_bool.ensures ∙ c.if-is_bool.false in
    let left : c.look-left.result.way ≡ way_of c.args.sight.now.place (tree_at c.args.store.now c.args.a) = ap (λ l. l.way) c.look-left.ensures in
    let right : c.look-right.result.way ≡ way_of c.args.sight.now.place (tree_at c.args.store.now c.args.b) = ap (λ l. l.way) c.look-right.ensures in
    let ways = second-ways c.look-left.result.way c.look-right.result.way (sym c.open_side.ensures ∙ c.in-Second.is) in
    second-aim c.args.store.now c.args.sight.now c.args.op c.args.a c.args.b c.requires.sides is bits (sym right ∙ ways.1)

pub returns-in-First : goal.returns-in-First
returns-in-First c =
    let is : (is_equation c.args.op || is_comparison c.args.op) ≡ true = some-targets c.args.op (ap (λ ts. length ts == 0) (sym c.targets_of-targets.ensures) ∙ sym c.is_empty.ensures ∙ c.if-is_empty.false) in
    let bits : is_bool (tree_sort (tree_at c.args.store.now c.args.a)) ≡ false = ap is_bool c.sort.ensures.sort ∙ sym c.is_bool.ensures ∙ c.if-is_bool.false in
    let left : c.look-left.result.way ≡ way_of c.args.sight.now.place (tree_at c.args.store.now c.args.a) = ap (λ l. l.way) c.look-left.ensures in
    let right : c.look-right.result.way ≡ way_of c.args.sight.now.place (tree_at c.args.store.now c.args.b) = ap (λ l. l.way) c.look-right.ensures in
    let ways = first-ways c.look-left.result.way c.look-right.result.way (sym c.open_side.ensures ∙ c.in-First.is) in
    subst (λ (ts : List Tree). OnOk c.add_down.result (AddsOffers c.args.sight.now.place c.args.store.now c.args.sight.now.walk ts c.args.offers.now.items c.add_down.new.offers.items))
    (first-list c.args.store.now c.args.sight.now c.args.op c.args.a c.args.b c.targets_of-targets.result.now c.requires.scene c.requires.sides is bits (sym left ∙ ways.0) (sym right ∙ ways.1) c.targets_of-targets.ensures) c.add_down.ensures

pub returns-in-Second : goal.returns-in-Second
returns-in-Second c =
    let is : (is_equation c.args.op || is_comparison c.args.op) ≡ true = some-targets c.args.op (ap (λ ts. length ts == 0) (sym c.targets_of-targets.ensures) ∙ sym c.is_empty.ensures ∙ c.if-is_empty.false) in
    let bits : is_bool (tree_sort (tree_at c.args.store.now c.args.a)) ≡ false = ap is_bool c.sort.ensures.sort ∙ sym c.is_bool.ensures ∙ c.if-is_bool.false in
    let left : c.look-left.result.way ≡ way_of c.args.sight.now.place (tree_at c.args.store.now c.args.a) = ap (λ l. l.way) c.look-left.ensures in
    let right : c.look-right.result.way ≡ way_of c.args.sight.now.place (tree_at c.args.store.now c.args.b) = ap (λ l. l.way) c.look-right.ensures in
    let ways = second-ways c.look-left.result.way c.look-right.result.way (sym c.open_side.ensures ∙ c.in-Second.is) in
    subst (λ (ts : List Tree). OnOk c.add_down-in-Second.result (AddsOffers c.args.sight.now.place c.args.store.now c.args.sight.now.walk ts c.args.offers.now.items c.add_down-in-Second.new.offers.items))
    (second-list c.args.store.now c.args.sight.now c.args.op c.args.a c.args.b c.targets_of-targets.result.now c.requires.scene c.requires.sides is bits (sym left ∙ ways.0) (sym right ∙ ways.1) c.targets_of-targets.ensures) c.add_down-in-Second.ensures

pub returns-in-Neither : goal.returns-in-Neither
returns-in-Neither c =
    let left : c.look-left.result.way ≡ way_of c.args.sight.now.place (tree_at c.args.store.now c.args.a) = ap (λ l. l.way) c.look-left.ensures in
    let right : c.look-right.result.way ≡ way_of c.args.sight.now.place (tree_at c.args.store.now c.args.b) = ap (λ l. l.way) c.look-right.ensures in
    let none : open_side (way_of c.args.sight.now.place (tree_at c.args.store.now c.args.a)) (way_of c.args.sight.now.place (tree_at c.args.store.now c.args.b)) ≡ Neither =
    ap (λ v. open_side v (way_of c.args.sight.now.place (tree_at c.args.store.now c.args.b))) (sym left) ∙ ap (λ w. open_side c.look-left.result.way w) (sym right) ∙ sym c.open_side.ensures ∙ c.in-Neither.is in
    adds-none c.args.sight.now.place c.args.store.now c.args.sight.now.walk (candidates_of_sides c.args.sight.now.place.level c.args.op (tree_at c.args.store.now c.args.a) (tree_at c.args.store.now c.args.b)) c.args.offers.now.items (neither-list c.args.store.now c.args.sight.now c.args.op c.args.a c.args.b c.requires.scene c.requires.sides none)
