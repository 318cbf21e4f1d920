use Rattle.std.proofs.Common.{◌≡◌, ◌++◌, OnOk, arith}
use Rattle.std.proofs.lemmas.Grind.{common_steps}
use Rattle.serde_json.specs.Data.{object}
use Rattle.am_json.specs.Written.{data_tokens}
use Rattle.am_json.proofs.Rising.{labels_members, labels_rising}
use Rattle.am_payload.proofs.key.put_labels.Goals as goal

pub returns-clause-tokens : goal.returns-clause-tokens
returns-clause-tokens c =
    let written : OnOk c.end_object.result (c.end_object.new.self.tokens ≡ c.args.writer.now.tokens ++ data_tokens (object (labels_members c.args.labels.now))) = grind (arith, common_steps) in
    rw (labels_rising c.args.labels.now c.requires) written
