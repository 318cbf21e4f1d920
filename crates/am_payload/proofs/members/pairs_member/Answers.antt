use Rattle.std.proofs.Common.{◌≡◌, ◌++◌, OnOk, arith, map}
use Rattle.std.proofs.lemmas.Grind.{common_steps}
use Rattle.serde_json.specs.Data.{object}
use Rattle.am_json.specs.Written.{member_tokens}
use Rattle.am_json.proofs.Rising.{labels_members, labels_rising}
use Rattle.am_payload.proofs.members.pairs_member.Goals as goal

pub returns : goal.returns
returns c =
    let pairs = map (λ pair. pair.now) c.args.pairs.now in
    let written : OnOk c.end_object.result (c.end_object.new.self ≡ c.args.text.now ++ member_tokens c.args.name.now (object (labels_members pairs))) = grind (arith, common_steps) in
    rw (labels_rising pairs c.requires) written
