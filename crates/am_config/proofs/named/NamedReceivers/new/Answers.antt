use Rattle.std.proofs.Common.{rules, ◌≡◌, ◌<◌, true, false, not, length, take, refl, sym, ap, ◌∙◌}
use Rattle.std.proofs.lemmas.Map.Text.{btree_map_updates_str}
use Rattle.am_config.specs.Checks.{is_listed, is_repeated}
use Rattle.am_config.proofs.Placed.{known, repeats_at, apart_more, places_more}
use Rattle.am_config.proofs.named.NamedReceivers.new.Goals as goal

pub loop-place-init : goal.loop-place-init
unfolding is_repeated
loop-place-init c = record { apart = refl; places = λ name. rw c.new-places.ensures.empty refl }

pub returns-then-is_some-clause-apart : goal.returns-then-is_some-clause-apart
returns-then-is_some-clause-apart c =
    let receivers = c.args.receivers.now in
    let i = c.loop-place.place in
    let receiver = c.index-receivers-place.result in
    let within : i < length receivers = search rules in
    let has : is_listed (take i receivers) receiver.name ≡ true =
    sym (known (take i receivers) c.loop-place.places receiver.name c.as_str.result.now c.in_ok-insert.field-0 c.loop-place.invariant.places
    c.as_str.ensures c.in_ok-insert.ensures.old) ∙ sym c.is_some.ensures ∙ c.if-is_some.true in
    sym (ap not (repeats_at receivers i receiver within c.index-receivers-place.is has))

pub loop-place-preserved : goal.loop-place-preserved
loop-place-preserved c =
    let receivers = c.args.receivers.now in
    let i = c.loop-place.place in
    let receiver = c.index-receivers-place.result in
    let within : i < length receivers = search rules in
    let absent : is_listed (take i receivers) receiver.name ≡ false =
    sym (known (take i receivers) c.loop-place.places receiver.name c.as_str.result.now c.in_ok-insert.field-0 c.loop-place.invariant.places
    c.as_str.ensures c.in_ok-insert.ensures.old) ∙ sym c.is_some.ensures ∙ c.if-is_some.false in
    record {
      apart = apart_more receivers i receiver within c.index-receivers-place.is c.loop-place.invariant.apart absent;
      places = places_more receivers i receiver within c.index-receivers-place.is c.loop-place.places c.insert.new.self c.as_str.result.now
          c.loop-place.invariant.places absent c.as_str.ensures
          (btree_map_updates_str c.as_str.result.now c.loop-place.places c.insert.new.self _ c.in_ok-insert.ensures.updates);
    }
