use Rattle.std.proofs.Common.{refl, Some}
use Rattle.std.proofs.KnownBytes.{Appends-kept}
use Rattle.am_play.proofs.BreakLemmas.{course_breaks, isolates, scenario_breaks}
use Rattle.am_stream.proofs.WritingLemmas.{on_err, whole}
use Rattle.am_world.specs.Simulation.{fault_count}
use Rattle.am_play.specs.Playing.{IsStart}
use Rattle.am_play.specs.declared.play.Player.{Player}
use Rattle.am_play.proofs.play.play.Goals as goal

pub returns-clause-plays : goal.returns-clause-plays
returns-clause-plays g c =
    let trace = c.in_ok-played.ensures.plays.0 in
    let course = c.in_ok-played.ensures.plays.1 in
    let start : Player g.row.W.Denot =
    record { world = c.args.world; connections = c.new.result; moment = 0; hook = Some 200; mail = c.new-2.result } in
    let end = c.play_lines.new.self in
    let is_start : IsStart g.W.AnyWorld.contents (g.W.AnyWorld.contents c.args.world) start =
    record { begins = refl; connections = c.new.ensures; moment = refl; hook = refl; mail = c.new-2.ensures } in (
      trace,
      fault_count (g.W.AnyWorld.contents end.world).state,
      record {
        start = start;
        is_start = is_start;
        end = end;
        course = course;
        counted = refl;
        ends = refl;
      },
      Appends-kept _ _ _ _ c.in_ok-played.ensures.plays.2 c.flush.ensures.bytes,
      isolates g.W.AnyWorld.contents g.L.Link.carries g.L.Link.answers start (g.S.Source.lines c.args.source)
          (g.W.AnyWorld.contents c.args.world) is_start c.in_ok-played.played trace end course,
    )

pub returns-in_err-played-clause-breaks : goal.returns-in_err-played-clause-breaks
returns-in_err-played-clause-breaks g c =
    let start : Player g.row.W.Denot =
    record { world = c.args.world; connections = c.new.result; moment = 0; hook = Some 200; mail = c.new-2.result } in
    let is_start : IsStart g.W.AnyWorld.contents (g.W.AnyWorld.contents c.args.world) start =
    record { begins = refl; connections = c.new.ensures; moment = refl; hook = refl; mail = c.new-2.ensures } in
    on_err _ (scenario_breaks g.W.AnyWorld.contents g.L.Link.carries g.L.Link.answers start
    (g.S.Source.lines c.args.source) _ _ (g.W.AnyWorld.contents c.args.world) is_start c.in_err-played.ensures.breaks)

pub returns-in_err-flush-clause-breaks : goal.returns-in_err-flush-clause-breaks
returns-in_err-flush-clause-breaks g c =
    let start : Player g.row.W.Denot =
    record { world = c.args.world; connections = c.new.result; moment = 0; hook = Some 200; mail = c.new-2.result } in
    let is_start : IsStart g.W.AnyWorld.contents (g.W.AnyWorld.contents c.args.world) start =
    record { begins = refl; connections = c.new.ensures; moment = refl; hook = refl; mail = c.new-2.ensures } in
    let played = c.in_ok-played.ensures.plays in
    on_err _ (scenario_breaks g.W.AnyWorld.contents g.L.Link.carries g.L.Link.answers start
    (g.S.Source.lines c.args.source) _ _ (g.W.AnyWorld.contents c.args.world) is_start
    (course_breaks g.W.AnyWorld.contents g.L.Link.carries g.L.Link.answers start (g.S.Source.lines c.args.source) _ _
    c.in_ok-played.played played.0 c.play_lines.new.self played.1
    (whole _ _ _ (Appends-kept _ _ _ _ played.2 c.flush.ensures.bytes))))
