use Rattle.std.proofs.Common.{◌≡◌, ℕ, List, ◌++◌, append_assoc}
use Rattle.qv_gen.specs.Text.{block_text}
use Rattle.qv_gen.proofs.scripts.push_block.Goals as goal

-- pieces put behind one another
pieces : (t p q r s : List ℕ) → (((t ++ p) ++ q) ++ r) ++ s ≡ t ++ (p ++ (q ++ (r ++ s)))
pieces t p q r s = simp append_assoc

pub returns : goal.returns
unfolding block_text
returns c =
    rw (c.in_ok-extend_from_slice.ensures.items, c.in_ok-push_byte-3.ensures, c.in_ok-push_byte-2.ensures, c.in_ok-push_byte.ensures)
    (pieces c.args.text.now.items _ _ _ _)
