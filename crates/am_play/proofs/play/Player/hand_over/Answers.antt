use Rattle.std.proofs.Common.{◌≡◌, [], Some, false, inl, inr, refl, sym}
use Rattle.am_world.specs.Simulation.{message_named}
use Rattle.am_play.proofs.MailLemmas.{reached}
use Rattle.am_play.proofs.PlayingLemmas.{grows_nothing}
use Rattle.am_play.proofs.play.Player.hand_over.Goals as goal

pub returns-in-Err-Refused : goal.returns-in-Err-Refused
returns-in-Err-Refused g c =
    let found : message_named c.args.name.now (g.W.AnyWorld.contents c.args.self.now.world).state
    ≡ Some c.in-Some.message.now =
    sym c.in-Some.ensures in (
      [],
      grows_nothing _,
      rw found (inr (
        c.in-Err-Refused.field-0-0,
        rw c.in-Err-Refused.field-0-is at c.in-Err-Refused.ensures.refused,
        (refl, refl, refl),
      )),
    )

pub returns-then-not-carry : goal.returns-then-not-carry
returns-then-not-carry g c =
    let found : message_named c.args.name.now (g.W.AnyWorld.contents c.args.self.now.world).state
    ≡ Some c.in-Some.message.now =
    sym c.in-Some.ensures in (
      [],
      grows_nothing _,
      rw found (inl (record {
        bytes = c.in-Ok.bytes;
        spells = c.in-Ok.ensures.spells;
        came = false;
        crosses = rw c.as_slice.ensures at c.if-not-carry.ensures;
        reaches = (refl, refl, refl);
      })),
    )

pub returns : goal.returns
returns g c =
    let found : message_named c.args.name.now (g.W.AnyWorld.contents c.args.self.now.world).state
    ≡ Some c.in-Some.message.now =
    sym c.in-Some.ensures in
    reached g.W.AnyWorld.contents g.L.Link.carries c.in-Some.message.now c.args.name.now c.args.self.now
    c.happen.new.self c.args.report.now c.happen.new.report c.happen.result c.in-Ok.bytes found c.in-Ok.ensures.spells
    (rw c.as_slice.ensures at c.if-not-carry.ensures) c.happen.ensures.taken c.happen.ensures.happens
