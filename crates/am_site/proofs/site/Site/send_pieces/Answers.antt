use Rattle.std.proofs.Common.{◌≡◌, ◌∷◌, ◌++◌, ◌∙◌, drop, refl, suc, sym, subst, take}
use Rattle.std.proofs.Math.Seq.{split_at}
use Rattle.std.proofs.lemmas.List.{take_more}
use Rattle.std.proofs.lemmas.Result.{err_from_is_err_and}
use Rattle.am_cluster.specs.Local.{Local}
use Rattle.am_cluster.specs.Reactions.{Reaction, each}
use Rattle.am_cluster.specs.Transfers.{send_piece}
use Rattle.am_transfer.specs.Pieces.{Piece}
use Rattle.am_site.specs.Here.{here_of}
use Rattle.am_site.specs.Reacting.{StopsReacting}
use Rattle.am_site.proofs.Reacting.{none_yet, one_more, stops_at}
use Rattle.am_site.proofs.site.Site.send_pieces.Goals as goal

pub loop-piece-init : goal.loop-piece-init
loop-piece-init c =
    (none_yet c.args.here.now.tenant.now (send_piece (here_of c.args.here.now) c.args.receiver.now) c.args.self.now c.args.outbox.now.items, (refl, refl))

pub loop-piece-preserved : goal.loop-piece-preserved
loop-piece-preserved c =
    let i = c.loop-piece.piece-index in
    let x = c.piece-item.result in (
      rw (take_more c.args.pieces.now i x c.loop-piece-test.true, ← c.piece-item.is)
          (one_more c.args.here.now.tenant.now (send_piece (here_of c.args.here.now) c.args.receiver.now) (take i c.args.pieces.now) x
          c.args.self.now c.loop-piece.self c.send_piece.new.self c.args.outbox.now.items c.loop-piece.outbox.items c.send_piece.new.outbox.items
          c.loop-piece.invariant.0 c.in_ok-send_piece.ensures.reacts),
      (c.send_piece.ensures.node ∙ c.loop-piece.invariant.1.0, c.send_piece.ensures.settling ∙ c.loop-piece.invariant.1.1),
    )

pub returns-in_err-send_piece-clause-fault : goal.returns-in_err-send_piece-clause-fault
returns-in_err-send_piece-clause-fault c =
    let i = c.loop-piece.piece-index in
    let x = c.piece-item.result in
    let react : Piece → Local → Reaction = send_piece (here_of c.args.here.now) c.args.receiver.now in
    let p = err_from_is_err_and c.from_residual.result c.from_residual.ensures.1 in
    let whole : c.args.pieces.now ≡ take i c.args.pieces.now ++ x ∷ drop (suc i) c.args.pieces.now = rw (← c.piece-item.is) at (split_at c.args.pieces.now i x c.loop-piece-test.true) in
    rw (p.1, p.2)
    (subst (λ xs. StopsReacting c.args.here.now.tenant.now (each react xs) c.args.self.now c.in_err-send_piece.field-0.0) (sym whole)
    (stops_at c.args.here.now.tenant.now react (take i c.args.pieces.now) x (drop (suc i) c.args.pieces.now) c.args.self.now c.loop-piece.self _ _ _
    c.loop-piece.invariant.0 c.in_err-send_piece.ensures.fault))
