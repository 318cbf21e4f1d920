use Rattle.std.proofs.lemmas.Result.{on_ok_weaker}
use Rattle.am_json.proofs.Chain.{after}
use Rattle.am_log.proofs.object.put_failure.Goals as goal

pub returns : goal.returns
returns c =
    on_ok_weaker c.end_with_number.result (λ e.
    after c.args.text.now _ _ (rw c.as_str.ensures.text at c.in_ok-word_member.ensures) (
    after c.word_member.new.text _ _ c.in_ok-text_member.ensures (
    after c.text_member.new.self _ _ c.in_ok-status_member.ensures (
    after c.status_member.new.text _ _ (rw c.from.ensures at c.in_ok-number_member.ensures) (
    after c.number_member.new.text _ _ (rw c.from-2.ensures at c.in_ok-number_member-2.ensures) e))))) c.end_with_number.ensures
