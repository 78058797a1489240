use Rattle.std.proofs.Common.{ℕ, Option, IfSome, sym, subst}
use Rattle.sip_options.specs.Vias.{IsPartPiece}
use Rattle.sip_options.proofs.HeaderPieces.{IsLength}
use Rattle.sip_options.proofs.ViaPieces.{open_ends, quoted_is, plain_piece_is}
use Rattle.sip_options.proofs.WordTexts.{none_given}
use Rattle.sip_options.proofs.via.PartPiecePiece.length_in_front.Goals as goal

pub returns-in_err-quoted_length-in-Some-clause-none : goal.returns-in_err-quoted_length-in-Some-clause-none
returns-in_err-quoted_length-in-Some-clause-none c =
    none_given c.from_residual.result _
    (open_ends c.args.text.now c.in-Some.inner.now c.in-Some.ensures.found c.in_err-quoted_length-in-Some.ensures.none)

pub returns-in_ok-quoted_length-in-Some-clause-found : goal.returns-in_ok-quoted_length-in-Some-clause-found
returns-in_ok-quoted_length-in-Some-clause-found c =
    quoted_is c.args.text.now c.in-Some.inner.now c.in_ok-quoted_length-in-Some.field-0 c.in-Some.ensures.found
    c.in_ok-quoted_length-in-Some.ensures.found

pub returns-in-None-clause-found : goal.returns-in-None-clause-found
returns-in-None-clause-found c =
    subst (λ (o : Option ℕ). IfSome o (IsLength IsPartPiece c.args.text.now)) (sym c.plain_piece.ensures)
    (plain_piece_is c.args.text.now c.in-None.ensures.none)
