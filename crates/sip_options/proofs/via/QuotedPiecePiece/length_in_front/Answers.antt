use Rattle.std.proofs.Common.{ℕ, Option, IfSome, sym, subst}
use Rattle.sip_options.specs.Vias.{IsQuotedPiece}
use Rattle.sip_options.proofs.HeaderPieces.{IsLength}
use Rattle.sip_options.proofs.ViaPieces.{quoted_piece_is}
use Rattle.sip_options.proofs.via.QuotedPiecePiece.length_in_front.Goals as goal

pub returns-clause-found : goal.returns-clause-found
returns-clause-found c =
    subst (λ (o : Option ℕ). IfSome o (IsLength IsQuotedPiece c.args.text.now)) (sym c.quoted_piece.ensures)
    (quoted_piece_is c.args.text.now)
