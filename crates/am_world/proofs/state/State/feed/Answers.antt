use Rattle.std.proofs.Common.{◌≡◌, ◌++◌, [], ap, refl, sym, true}
use Rattle.std.proofs.lemmas.Result.{err_from_is_err_and}
use Rattle.am_http.specs.Verdict.{verdict}
use Rattle.am_http.specs.declared.request.Fed.{Fed}
use Rattle.am_instance.specs.Bringing.{Brings}
use Rattle.am_instance.specs.Here.{Circumstances, circumstances}
use Rattle.am_world.specs.Consistent.{around_at}
use Rattle.am_world.specs.Places.{At, Turns}
use Rattle.am_world.proofs.FreshPast.{going_on, lost_none_brings, past_brings, reached_brings, reads_up}
use Rattle.am_world.proofs.Placed.{also_there, bytes_there, consistent_but, consistent_but_all, consistent_still}
use Rattle.am_world.proofs.Turned.{member_on, quiet_reader, same_node, whole_at}
use Rattle.am_world.proofs.state.State.feed.Goals as goal

pub feed-requires-clause-whole : goal.feed-requires-clause-whole
feed-requires-clause-whole c x found =
    whole_at (around_at c.args.self.now.clock c.args.self.now) (circumstances c.occasion-occasion.result) x
    (ap (λ (a : Circumstances). a.rings) c.occasion-occasion.ensures)
    (ap (λ (a : Circumstances). a.first) c.occasion-occasion.ensures)
    (c.requires.consistent.whole c.args.reader x found)

pub returns-in_err-feed-clause-but : goal.returns-in_err-feed-clause-but
returns-in_err-feed-clause-but c =
    let w = c.args.self.now in
    let i = c.args.reader in
    consistent_but i w _ c.requires.consistent c.feed.ensures.at (record { clock = refl; common = refl })
    c.requires.consistent.filed (λ x x' was is. same_node x x' (c.feed.ensures.stays x x' was is).0)
    (λ name. refl)

pub returns-in_err-send_out-clause-fails : goal.returns-in_err-send_out-clause-fails
returns-in_err-send_out-clause-fails c =
    let w = c.args.self.now in
    let i = c.args.reader in
    let conn = c.args.piece.now.connection in
    let told = c.feed.new.outputs.items in
    let around_it = circumstances c.occasion-occasion.result in
    let goes = going_on i w.instances c.feed.new.self c.requires.consistent.numbered c.requires.exists
    (λ x x' was is. (c.feed.ensures.stays x x' was is).0) c.feed.ensures.at in
    let brings : Turns i (λ x x'. (f : Fed) × Brings f conn around_it x x' [] told) w.instances c.feed.new.self =
    λ x x' was is.
    let before = bytes_there conn x (c.requires.reads x was) in (
      verdict (before.0 ++ c.args.piece.now.bytes.now),
      rw c.new-told.ensures.items at (c.in_ok-feed.ensures.brings x x' was is before.0 before.1),
    ) in
    let up : At i (λ x. x.up ≡ true) w.instances =
    λ x is. reads_up x conn (c.requires.consistent.quiet i x is) (c.requires.reads x is) in
    let p = err_from_is_err_and c.from_residual-in_err-send_out.result c.from_residual-in_err-send_out.ensures.1 in
    rw p.1 (record {
      posted =
          lost_none_brings i around_it conn told w.instances c.feed.new.self goes brings w.messages _
          c.requires.consistent.past up c.in_err-send_out.ensures.lost;
      silent = c.in_err-send_out.ensures.silent;
      stays = λ y y' was is. same_node y y' (c.feed.ensures.stays y y' was is).0;
      others = c.feed.ensures.at;
      beside = record { clock = refl; common = refl };
      faults = refl;
    })

pub returns-in_err-send_out-clause-but : goal.returns-in_err-send_out-clause-but
returns-in_err-send_out-clause-but c =
    let w = c.args.self.now in
    let i = c.args.reader in
    let conn = c.args.piece.now.connection in
    let told = c.feed.new.outputs.items in
    let around_it = circumstances c.occasion-occasion.result in
    let goes = going_on i w.instances c.feed.new.self c.requires.consistent.numbered c.requires.exists
    (λ x x' was is. (c.feed.ensures.stays x x' was is).0) c.feed.ensures.at in
    let brings : Turns i (λ x x'. (f : Fed) × Brings f conn around_it x x' [] told) w.instances c.feed.new.self =
    λ x x' was is.
    let before = bytes_there conn x (c.requires.reads x was) in (
      verdict (before.0 ++ c.args.piece.now.bytes.now),
      rw c.new-told.ensures.items at (c.in_ok-feed.ensures.brings x x' was is before.0 before.1),
    ) in
    let up : At i (λ x. x.up ≡ true) w.instances =
    λ x is. reads_up x conn (c.requires.consistent.quiet i x is) (c.requires.reads x is) in
    consistent_but i w _ c.requires.consistent c.feed.ensures.at (record { clock = refl; common = refl })
    (c.send_out.ensures.filed c.requires.consistent.filed)
    (λ x x' was is. same_node x x' (c.feed.ensures.stays x x' was is).0)
    (lost_none_brings i around_it conn told w.instances c.feed.new.self goes brings w.messages _
    c.requires.consistent.past up c.in_err-send_out.ensures.lost)

pub returns-clause-consistent : goal.returns-clause-consistent
returns-clause-consistent c =
    let w = c.args.self.now in
    let i = c.args.reader in
    let conn = c.args.piece.now.connection in
    let told = c.feed.new.outputs.items in
    let around_it = circumstances c.occasion-occasion.result in
    let goes = going_on i w.instances c.feed.new.self c.requires.consistent.numbered c.requires.exists
    (λ x x' was is. (c.feed.ensures.stays x x' was is).0) c.feed.ensures.at in
    let brings : Turns i (λ x x'. (f : Fed) × Brings f conn around_it x x' [] told) w.instances c.feed.new.self =
    λ x x' was is.
    let before = bytes_there conn x (c.requires.reads x was) in (
      verdict (before.0 ++ c.args.piece.now.bytes.now),
      rw c.new-told.ensures.items at (c.in_ok-feed.ensures.brings x x' was is before.0 before.1),
    ) in
    consistent_still i w _ c.requires.consistent c.feed.ensures.at (record { clock = refl; common = refl })
    (c.send_out.ensures.filed c.requires.consistent.filed)
    (λ x' is.
    whole_at around_it _ x' (sym (ap (λ (a : Circumstances). a.rings) c.occasion-occasion.ensures))
    (sym (ap (λ (a : Circumstances). a.first) c.occasion-occasion.ensures)) (c.in_ok-feed.ensures.whole x' is))
    (λ x' is.
    let x = also_there i c.feed.new.self w.instances c.feed.ensures.at.numbered c.requires.consistent.numbered x' is in
    quiet_reader x.0 x' conn (c.requires.consistent.quiet i x.0 x.1) (c.requires.reads x.0 x.1)
    (c.feed.ensures.stays x.0 x' x.1 is).0.up)
    (λ x x' was is. let on = (c.feed.ensures.stays x x' was is).0 in member_on x x' on.up on.number)
    (past_brings i around_it conn told w.instances c.feed.new.self goes brings w.messages _ c.requires.consistent.past
    c.args.moment c.in_ok-send_out.ensures.posts)
    (reached_brings i around_it conn told w.instances c.feed.new.self goes brings w.messages _
    c.requires.consistent.past c.requires.consistent.fresh c.args.moment c.in_ok-send_out.ensures.posts)

pub returns-clause-but : goal.returns-clause-but
returns-clause-but c = consistent_but_all c.args.reader _ (returns-clause-consistent c)
