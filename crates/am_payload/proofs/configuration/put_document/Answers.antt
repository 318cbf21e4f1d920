use Rattle.std.proofs.lemmas.Result.{on_ok_weaker}
use Rattle.am_json.proofs.Chain.{after}
use Rattle.am_payload.proofs.configuration.put_document.Goals as goal

pub returns : goal.returns
returns c =
    on_ok_weaker c.end_object-2.result (λ e.
    after c.args.text.now _ _ c.in_ok-begin_object.ensures (
    after c.begin_object.new.self _ _ c.in_ok-text_member.ensures (
    after c.text_member.new.self _ _ c.in_ok-key.ensures (
    after c.key.new.self _ _ c.in_ok-begin_object-2.ensures (
    after c.begin_object-2.new.self _ _ c.in_ok-end_object.ensures e))))) c.end_object-2.ensures
