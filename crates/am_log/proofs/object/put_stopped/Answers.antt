use Rattle.std.proofs.lemmas.Result.{on_ok_weaker}
use Rattle.am_json.proofs.Chain.{after}
use Rattle.am_log.proofs.object.put_stopped.Goals as goal

pub returns : goal.returns
returns c =
    on_ok_weaker c.end_with_text.result (λ e. after c.args.text.now _ _ (rw c.from.ensures at c.in_ok-number_member.ensures) e) c.end_with_text.ensures
