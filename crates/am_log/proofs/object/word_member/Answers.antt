use Rattle.std.proofs.lemmas.Result.{on_ok_weaker}
use Rattle.am_json.proofs.Chain.{after}
use Rattle.am_log.proofs.object.word_member.Goals as goal

pub returns : goal.returns
returns c =
    on_ok_weaker c.string.result (λ e. after c.args.text.now _ _ c.in_ok-key.ensures e) c.string.ensures
