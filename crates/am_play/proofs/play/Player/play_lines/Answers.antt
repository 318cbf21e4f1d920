use Rattle.std.proofs.Common.{rules, ◌≡◌, [], ◌<◌, ◌++◌, arith, None, Some, inl, inr, append-nil}
use Rattle.std.proofs.lemmas.List.Concat.{flat_map-append}
use Rattle.std.proofs.KnownBytes.{Appends-kept, Appends-trans, Keeps-refl}
use Rattle.std.specs.Io.Iter.{u64_saturate}
use Rattle.am_play.proofs.BreakLemmas.{course_breaks, trace_later, upto_breaks}
use Rattle.am_play.proofs.ScenarioLemmas.{upto_first, upto_more, upto_bad, upto_end}
use Rattle.am_stream.proofs.WritingLemmas.{none_written, on_err, part_later, whole}
use Rattle.am_scenario.specs.Line.{command_of}
use Rattle.am_play.specs.Trace.{text_of, printed}
use Rattle.am_report.specs.declared.ending.Played.TheVariants.{All}
use Rattle.am_play.proofs.play.Player.play_lines.Goals as goal

pub loop-source-init : goal.loop-source-init
loop-source-init g c = record {
  count = search rules;
  trace = [];
  appends = none_written _ _ (Keeps-refl _);
  upto = upto_first g.W.AnyWorld.contents g.L.Link.carries g.L.Link.answers c.args.self.now
      (g.S.Source.lines c.args.source);
}

pub returns-in-Err-NotACommand-clause-plays : goal.returns-in-Err-NotACommand-clause-plays
returns-in-Err-NotACommand-clause-plays g c =
    let known = c.loop-source.invariant in
    let gives = rw c.in-Some.is at c.in_ok-line.ensures.line in
    let bad : command_of c.in-Some.line.items ≡ None =
    rw (c.in-Err-NotACommand.field-0-is, c.as_slice.ensures.value) at c.in-Err-NotACommand.ensures in
    let course =
    upto_bad g.W.AnyWorld.contents g.L.Link.carries g.L.Link.answers c.args.self.now c.loop-source.self
    (g.S.Source.lines c.args.source) (g.S.Source.lines c.loop-source.source) (g.S.Source.lines c.next_line.new.self)
    c.loop-source.number c.in-Some.line.items known.trace known.upto gives bad in (
      known.trace,
      course,
      rw (append-nil (printed known.trace)) known.appends,
    )

pub loop-source-preserved : goal.loop-source-preserved
loop-source-preserved g c =
    let known = c.loop-source.invariant in
    let gives = rw c.in-Some.is at c.in_ok-line.ensures.line in
    let fewer : u64_saturate (g.S.Source.to_come c.next_line.new.self)
    < u64_saturate (g.S.Source.to_come c.loop-source.source) =
    rw c.in-Some.is at c.in_ok-line.ensures.fewer in
    let is : command_of c.in-Some.line.items ≡ Some c.in-Ok.command =
    rw c.as_slice.ensures.value at c.in-Ok.ensures in
    let played = c.in_ok-write_line-in-Ok.ensures.plays in
    record {
      count = omega (arith, known.count);
      trace = known.trace ++ played.0;
      appends = rw (flat_map-append text_of known.trace played.0)
          (Appends-trans _ _ _ (printed known.trace) (printed played.0) known.appends played.2);
      upto = upto_more g.W.AnyWorld.contents g.L.Link.carries g.L.Link.answers c.args.self.now c.loop-source.self
          c.write_line.new.self (g.S.Source.lines c.args.source) (g.S.Source.lines c.loop-source.source)
          (g.S.Source.lines c.next_line.new.self) c.loop-source.number c.in-Some.line.items
          c.in-Ok.command known.trace played.0 known.upto gives is played.1;
    }

pub returns-clause-plays : goal.returns-clause-plays
returns-clause-plays g c =
    let known = c.loop-source.invariant in
    let course =
    upto_end g.W.AnyWorld.contents g.L.Link.carries g.L.Link.answers c.args.self.now c.loop-source.self
    (g.S.Source.lines c.args.source) (g.S.Source.lines c.loop-source.source) (g.S.Source.lines c.next_line.new.self)
    c.loop-source.number known.trace known.upto (rw c.in_default.is at c.in_ok-line.ensures.line) in (
      known.trace,
      course,
      Appends-trans _ _ _ _ _ known.appends
          (rw (
            c.as_bytes.ensures.value,
            c.in_ok-last.ensures,
            c.faults.ensures,
          ) at c.in_ok-write_whole.ensures.ok),
    )

pub returns-in_err-line-clause-breaks : goal.returns-in_err-line-clause-breaks
returns-in_err-line-clause-breaks g c =
    let known = c.loop-source.invariant in
    on_err _ (upto_breaks g.W.AnyWorld.contents g.L.Link.carries g.L.Link.answers c.args.self.now
    (g.S.Source.lines c.args.source) _ _ _ _ _ known.trace known.upto (whole _ _ _ known.appends))

pub returns-in_err-write_line-in-Ok-clause-breaks : goal.returns-in_err-write_line-in-Ok-clause-breaks
returns-in_err-write_line-in-Ok-clause-breaks g c =
    let known = c.loop-source.invariant in
    let gives = rw c.in-Some.is at c.in_ok-line.ensures.line in
    let is : command_of c.in-Some.line.items ≡ Some c.in-Ok.command =
    rw c.as_slice.ensures.value at c.in-Ok.ensures in
    on_err _ (elim c.in_err-write_line-in-Ok.ensures.breaks [
      | inl kept ↦ upto_breaks g.W.AnyWorld.contents g.L.Link.carries g.L.Link.answers c.args.self.now
          (g.S.Source.lines c.args.source) _ _ _ _ _ known.trace known.upto
          (whole _ _ _ (Appends-kept _ _ _ _ known.appends kept))
      | inr played ↦ upto_breaks g.W.AnyWorld.contents g.L.Link.carries g.L.Link.answers c.args.self.now
          (g.S.Source.lines c.args.source) _ _ _ _ _ (known.trace ++ played.0)
          (upto_more g.W.AnyWorld.contents g.L.Link.carries g.L.Link.answers c.args.self.now c.loop-source.self
          c.write_line.new.self (g.S.Source.lines c.args.source) (g.S.Source.lines c.loop-source.source)
          (g.S.Source.lines c.next_line.new.self) c.loop-source.number c.in-Some.line.items
          c.in-Ok.command known.trace played.0 known.upto gives is played.1)
          (trace_later _ _ _ known.trace played.0 known.appends played.2)
    ])

pub returns-in-Err-OutOfMemory-clause-breaks : goal.returns-in-Err-OutOfMemory-clause-breaks
returns-in-Err-OutOfMemory-clause-breaks g c =
    let known = c.loop-source.invariant in
    upto_breaks g.W.AnyWorld.contents g.L.Link.carries g.L.Link.answers c.args.self.now
    (g.S.Source.lines c.args.source) _ _ _ _ _ known.trace known.upto (whole _ _ _ known.appends)

pub returns-in_err-last-clause-breaks : goal.returns-in_err-last-clause-breaks
returns-in_err-last-clause-breaks g c =
    let known = c.loop-source.invariant in
    on_err _ (upto_breaks g.W.AnyWorld.contents g.L.Link.carries g.L.Link.answers c.args.self.now
    (g.S.Source.lines c.args.source) _ _ _ _ _ known.trace known.upto (whole _ _ _ known.appends))

pub returns-in_err-write_whole-clause-breaks : goal.returns-in_err-write_whole-clause-breaks
returns-in_err-write_whole-clause-breaks g c =
    let known = c.loop-source.invariant in
    let course =
    upto_end g.W.AnyWorld.contents g.L.Link.carries g.L.Link.answers c.args.self.now c.loop-source.self
    (g.S.Source.lines c.args.source) (g.S.Source.lines c.loop-source.source) (g.S.Source.lines c.next_line.new.self)
    c.loop-source.number known.trace known.upto (rw c.in_default.is at c.in_ok-line.ensures.line) in
    on_err _ (course_breaks g.W.AnyWorld.contents g.L.Link.carries g.L.Link.answers c.args.self.now
    (g.S.Source.lines c.args.source) _ _ All known.trace c.loop-source.self course
    (part_later _ _ _ (printed known.trace) _ known.appends
    (rw (c.as_bytes.ensures.value, c.in_ok-last.ensures, c.faults.ensures) at c.in_err-write_whole.ensures.err)))
