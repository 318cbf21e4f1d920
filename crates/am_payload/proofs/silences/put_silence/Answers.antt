use Rattle.std.proofs.lemmas.Result.{on_ok_weaker}
use Rattle.am_json.proofs.Chain.{after}
use Rattle.am_payload.specs.Silences.{silence_data}
use Rattle.am_payload.proofs.silences.put_silence.Goals as goal

pub returns : goal.returns
unfolding silence_data
returns c =
    on_ok_weaker c.end_object.result (λ e.
    after c.args.text.now _ _ c.in_ok-begin_object.ensures (
    after c.begin_object.new.self _ _ c.in_ok-text_member.ensures (
    after c.text_member.new.self _ _ c.in_ok-text_member-2.ensures (
    after c.text_member-2.new.self _ _ c.in_ok-moment_member.ensures (
    after c.moment_member.new.self _ _ c.in_ok-id_member.ensures (
    after c.id_member.new.text _ _ c.in_ok-matchers_member.ensures (
    after c.matchers_member.new.text _ _ c.in_ok-moment_member-2.ensures (
    after c.moment_member-2.new.self _ _ c.in_ok-status_member.ensures (
    after c.status_member.new.text _ _ c.in_ok-moment_member-3.ensures e))))))))) c.end_object.ensures
