use Rattle.std.proofs.Common.{◌≡◌, ◌∙◌, ℕ, length, take, ap, sym}
use Rattle.qv_store.proofs.Visiting.{behind-front}
use Rattle.qv_store.specs.Nodes.{tree_at}
use Rattle.qv_words.specs.Clauses.{Blasting, with_formula}
use Rattle.qv_blast.proofs.Staying.{one-more}
use Rattle.qv_blast.proofs.blaster.Blaster.assert.Goals as goal

pub returns-in-Err-clause-blaster : goal.returns-in-Err-clause-blaster
returns-in-Err-clause-blaster c =
    let old = c.args.self.now in
    let mark = c.mark-mark.ensures in
    let ended = c.in-Err.ensures in
    let before = c.requires.blaster in
    let lists : c.back_to.new.self ≡ old.lists = c.back_to.ensures old.lists mark.listing ended.grown (sym mark.next) (sym mark.id) mark.listed in
    let count : c.len-count.result ≡ length old.bits = c.len-count.ensures in
    let terms : c.truncate.new.self ≡ old.terms =
    c.truncate.ensures ∙ ap (λ (n : ℕ). take n c.add_formula.new.terms) (count ∙ before.all) ∙ behind-front old.terms c.add_formula.new.terms ended.behind in
    let bits : c.truncate-in-Err.new.self ≡ old.bits =
    c.truncate-in-Err.ensures ∙ ap (λ (n : ℕ). take n c.add_formula.new.bits) count ∙ ended.front in
    rw (lists, terms) (record { ready = rw bits before.ready; all = rw bits before.all })

pub returns-in-Ok-clause-more : goal.returns-in-Ok-clause-more
returns-in-Ok-clause-more c formulas h =
    let trees = c.args.store.now in
    let t = tree_at trees c.args.formula in
    let ended = c.in-Ok.ensures in
    record {
      blaster = record { ready = ended.ready; all = ended.all };
      stands = ended.formula ∙ ap (λ (b : Blasting). with_formula b t) h.stands ∙ one-more formulas t;
    }

pub returns-in-Err-clause-stays : goal.returns-in-Err-clause-stays
returns-in-Err-clause-stays c formulas h =
    let old = c.args.self.now in
    let mark = c.mark-mark.ensures in
    let ended = c.in-Err.ensures in
    let lists : c.back_to.new.self ≡ old.lists = c.back_to.ensures old.lists mark.listing ended.grown (sym mark.next) (sym mark.id) mark.listed in
    let count : c.len-count.result ≡ length old.bits = c.len-count.ensures in
    let terms : c.truncate.new.self ≡ old.terms =
    c.truncate.ensures ∙ ap (λ (n : ℕ). take n c.add_formula.new.terms) (count ∙ c.requires.blaster.all) ∙ behind-front old.terms c.add_formula.new.terms ended.behind in
    let bits : c.truncate-in-Err.new.self ≡ old.bits =
    c.truncate-in-Err.ensures ∙ ap (λ (n : ℕ). take n c.add_formula.new.bits) count ∙ ended.front in
    rw (lists, terms, bits) h
