use Rattle.std.proofs.Common.{◌≡◌, ◌+◌, ◌-◌, ◌<◌, ℕ, length, refl, sym, ◌∙◌, ap, subst, arith}
use Rattle.std.specs.Prelude.{slice_index_or, vec_capacity, vec_len}
use Rattle.std.specs.List.{slice_get}
use Rattle.std.proofs.Math.Seq.{map-set_same}
use Rattle.std.proofs.lemmas.Option.{slice_get_read}
use Rattle.qv_watch.proofs.Lists.{on_err}
use Rattle.qv_cnf.specs.Literal.{index_of}
use Rattle.qv_watch.specs.declared.watches.WatchList.{WatchList}
use Rattle.qv_watch.proofs.watches.reserve_one.Goals as goal

pub returns-in_err-reserve-clause-stays : goal.returns-in_err-reserve-clause-stays
returns-in_err-reserve-clause-stays c = map-set_same (λ (l : WatchList). l.watches.items) c.args.lists.now c.index-at.result record { watches = c.reserve.new.self } c.index-lists-at.result c.in_err-reserve.ensures.items

pub returns-in_err-reserve-clause-err : goal.returns-in_err-reserve-clause-err
returns-in_err-reserve-clause-err c =
    let at = c.index-at.result in
    let lists = c.args.lists.now in
    let list = c.index-lists-at.result in
    let counts = c.count_one-count.new.counts in
    let count : c.count_one-count.result ≡ slice_index_or counts (index_of c.args.lit) 0 = c.count_one-count.ensures.count ∙ ap (λ (n : ℕ). slice_index_or counts n 0) c.index-at.ensures.value in
    let is : list ≡ slice_index_or lists at list = c.index-lists-at.is in
    let long = ap (λ (l : WatchList). vec_len l.watches) (sym is) in
    let before : c.len.result ≡ vec_len list.watches = c.len.ensures ∙ long in
    let len : c.len-then-len-count.result ≡ vec_len list.watches = c.len-then-len-count.ensures ∙ long in
    let full = subst (λ (l : WatchList). vec_capacity l.watches < vec_len l.watches + (c.count_one-count.result - c.len-then-len-count.result)) (sym is) c.in_err-reserve.ensures.full in
    on_err c.from_residual.result record {
      list = list;
      stands = ap (slice_get lists) (sym c.index-at.ensures.value) ∙ slice_get_read lists (length lists) at list refl (omega arith) c.index-lists-at.is;
      short = subst (λ (n : ℕ). vec_capacity list.watches < n) count (omega (arith, full, len, before));
    }

pub returns-in_ok-reserve-clause-stays : goal.returns-in_ok-reserve-clause-stays
returns-in_ok-reserve-clause-stays c = map-set_same (λ (l : WatchList). l.watches.items) c.args.lists.now c.index-at.result record { watches = c.reserve.new.self } c.index-lists-at.result c.in_ok-reserve.ensures.items
