use Rattle.std.proofs.Common.{◌≡◌, Some, ◌∙◌}
use Rattle.am_report.specs.Names.{place_of, with_name}
use Rattle.am_scenario.specs.Request.{request_text}
use Rattle.am_play.proofs.play.Player.obey.Goals as goal

pub returns-in_ok-deliver-in-Deliver : goal.returns-in_ok-deliver-in-Deliver
returns-in_ok-deliver-in-Deliver g c =
    let delivered = c.in_ok-deliver-in-Deliver.ensures in (
      delivered.0,
      delivered.1,
      rw c.in-Deliver.is (rw c.name_said.ensures at delivered.2),
    )

pub returns-in_ok-bring-in-Change : goal.returns-in_ok-bring-in-Change
returns-in_ok-bring-in-Change g c =
    let brought = c.in_ok-bring-in-Change.ensures in (
      brought.0,
      brought.1,
      rw c.in-Change.is (rw c.event_of.ensures at brought.2),
    )

pub returns-in_ok-call-in-Call : goal.returns-in_ok-call-in-Call
returns-in_ok-call-in-Call g c =
    let id = c.in_ok-connection-in-Call in
    let place : place_of c.in-Call.connection (with_name c.in-Call.connection c.args.self.now.connections) ≡ Some
    id.connection =
    rw (← c.as_str-in-Call.ensures, ← id.ensures.added) id.ensures.place in
    let text : c.as_bytes-in-Call.result.now ≡ request_text c.in-Call.request = c.as_bytes-in-Call.ensures.value
    ∙ c.in_ok-text-in-Call.ensures in
    let called = c.in_ok-call-in-Call.ensures in (
      called.0,
      called.1,
      rw c.in-Call.is
          (id.connection, place, rw (← c.as_str-in-Call.ensures, ← id.ensures.added, ← text) called.2),
    )
