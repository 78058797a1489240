use Rattle.std.proofs.Common.{ℕ, Option, IfSome, sym, subst}
use Rattle.sip_options.specs.Heads.{IsHeaderPiece}
use Rattle.sip_options.proofs.HeaderPieces.{IsLength, header_piece_is}
use Rattle.sip_options.proofs.header.HeaderPiecePiece.length_in_front.Goals as goal

pub returns-clause-found : goal.returns-clause-found
returns-clause-found c =
    subst (λ (o : Option ℕ). IfSome o (IsLength IsHeaderPiece c.args.text.now)) (sym c.header_piece.ensures)
    (header_piece_is c.args.text.now)
