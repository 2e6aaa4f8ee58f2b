use Rattle.std.proofs.Common.{◌≡◌, ◌++◌, map, take}
use Rattle.qv_cert_text.specs.Pieces.{piece_text}
use Rattle.qv_cert.specs.Spelling.{behind_spaces}
use Rattle.qv_cert_text.proofs.printing.push_pieces.Given as goal

abbrev pub invariant-pieces : goal.invariant-pieces
invariant-pieces l = l.out.items ≡ l.fn.out.items ++ behind_spaces (map piece_text (take l.piece-index l.pieces))
