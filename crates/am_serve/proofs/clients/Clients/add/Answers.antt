use Rattle.std.proofs.Common.{sym, ap, ◌∙◌}
use Rattle.am_serve.specs.Giving.{reply_bytes}
use Rattle.am_serve.specs.declared.client.Client.{Client}
use Rattle.am_serve.proofs.Sums.{excess-new, replies-new}
use Rattle.am_serve.proofs.clients.Clients.add.Goals as goal

pub invariant_of-self-2-clause-counted : goal.invariant_of-self-2-clause-counted
invariant_of-self-2-clause-counted g c =
    let table = c.args.self.now in
    let inserted = c.insert_reserved.ensures in
    table.counted ∙ sym (excess-new table.clients c.insert_reserved.new.self c.insert_reserved.result c.new-client.result inserted.was_vacant (ap (λ (client : Client g.row.S.Denot). client.held) c.new-client.ensures) inserted.updates)

pub invariant_of-self-2-clause-replies : goal.invariant_of-self-2-clause-replies
invariant_of-self-2-clause-replies g c =
    let table = c.args.self.now in
    let inserted = c.insert_reserved.ensures in
    table.replies ∙ sym (replies-new table.clients c.insert_reserved.new.self c.insert_reserved.result c.new-client.result inserted.was_vacant (ap (λ (client : Client g.row.S.Denot). reply_bytes client.stage) c.new-client.ensures) inserted.updates)
