use Rattle.std.proofs.Common.{◌≡◌, ◌&&◌, not, true, false, [], ◌++◌, sym, ap, ◌∙◌, arith, append_assoc, append-nil}
use Rattle.std.proofs.lemmas.List.{nil_from_length}
use Rattle.std.specs.Slice.Iter.{chunks_rest, chunks_size}
use Rattle.am_world.specs.Simulation.{put_out}
use Rattle.am_event.specs.declared.event.Event.TheVariants as event
use Rattle.am_report.specs.Output.{is_answered}
use Rattle.am_play.specs.Playing.{Happens, goes_on, is_piece}
use Rattle.am_play.proofs.PlayingLemmas.{grows_more, gives_nothing, gives_lost, gives_more, gives_last, piece_fits}
use Rattle.am_play.proofs.play.Player.give.Goals as goal

pub returns-then-not-carry : goal.returns-then-not-carry
returns-then-not-carry g c =
    let known = c.loop-piece.invariant in
    let steps = c.in-Some.ensures.steps in
    let piece = c.in-Some.piece.now in
    let fits : is_piece piece ≡ true = piece_fits _ piece _ known.size steps.1.1 steps.1.2 in (
      known.done,
      known.grows,
      rw append-nil at (known.gives c.loop-piece.self []
          (rw steps.1.0 (gives_lost g.W.AnyWorld.contents g.L.Link.carries c.args.connection c.loop-piece.self piece _
          fits c.if-not-carry.ensures))),
    )

pub returns-then-not-goes_on : goal.returns-then-not-goes_on
returns-then-not-goes_on g c =
    let known = c.loop-piece.invariant in
    let steps = c.in-Some.ensures.steps in
    let prints = c.in_ok-is_taken.ensures.happens in
    let piece = c.in-Some.piece.now in
    let p = c.loop-piece.self in
    let fits : is_piece piece ≡ true = piece_fits _ piece _ known.size steps.1.1 steps.1.2 in
    let happens : Happens g.W.AnyWorld.contents p (event.Bytes c.args.connection p.moment piece)
    c.happen.new.self prints.0 =
    rw (← c.in_ok-read.ensures) prints.2 in
    let ends : goes_on g.W.AnyWorld.contents c.args.connection p (event.Bytes c.args.connection p.moment piece)
    c.happen.new.self ≡ false =
    ap (λ b. b && not (is_answered c.args.connection (put_out (g.W.AnyWorld.contents c.happen.new.self.world).state)))
    (sym c.in_ok-is_taken.ensures.taken) ∙ sym c.if-not-goes_on.ensures in (
      known.done ++ prints.0,
      grows_more _ _ _ known.done prints.0 known.grows prints.1,
      known.gives c.happen.new.self prints.0
          (rw steps.1.0 (gives_last g.W.AnyWorld.contents g.L.Link.carries c.args.connection p c.happen.new.self piece _
          prints.0 fits c.if-not-carry.ensures happens ends)),
    )

pub loop-piece-preserved-else-not-goes_on : goal.loop-piece-preserved-else-not-goes_on
loop-piece-preserved-else-not-goes_on g c =
    let known = c.loop-piece.invariant in
    let steps = c.in-Some.ensures.steps in
    let prints = c.in_ok-is_taken.ensures.happens in
    let piece = c.in-Some.piece.now in
    let p = c.loop-piece.self in
    let size : chunks_size c.next.new.self ≡ 4096 = steps.0 ∙ known.size in
    let fits : is_piece piece ≡ true = piece_fits _ piece _ known.size steps.1.1 steps.1.2 in
    let happens : Happens g.W.AnyWorld.contents p (event.Bytes c.args.connection p.moment piece)
    c.happen.new.self prints.0 =
    rw (← c.in_ok-read.ensures) prints.2 in
    let goes : goes_on g.W.AnyWorld.contents c.args.connection p (event.Bytes c.args.connection p.moment piece)
    c.happen.new.self ≡ true =
    ap (λ b. b && not (is_answered c.args.connection (put_out (g.W.AnyWorld.contents c.happen.new.self.world).state)))
    (sym c.in_ok-is_taken.ensures.taken) ∙ sym c.if-not-goes_on.ensures in
    record {
      can_next = omega (arith, size);
      is_finite = tt;
      size = size;
      done = known.done ++ prints.0;
      grows = grows_more _ _ _ known.done prints.0 known.grows prints.1;
      gives = λ q rest given. rw (append_assoc known.done prints.0 rest)
          (known.gives q (prints.0 ++ rest)
          (rw steps.1.0 (gives_more g.W.AnyWorld.contents g.L.Link.carries c.args.connection p c.happen.new.self q
          piece _ prints.0 rest fits c.if-not-carry.ensures happens goes given)));
    }

pub returns : goal.returns
returns g c =
    let known = c.loop-piece.invariant in
    let none : chunks_rest c.loop-piece.piece-iterator ≡ [] = nil_from_length _ c.in-None.ensures.steps.1.0 in (
      known.done,
      known.grows,
      rw append-nil at (known.gives c.loop-piece.self []
          (rw none (gives_nothing g.W.AnyWorld.contents g.L.Link.carries c.args.connection c.loop-piece.self))),
    )
