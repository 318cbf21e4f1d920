use Rattle.std.proofs.Common.{sym, ◌∙◌}
use Rattle.am_book.specs.Row.{has_row}
use Rattle.am_book.proofs.Putting.{older_stays, told_before, told_in_place, told_new, told_taken_back}
use Rattle.am_book.proofs.book.put_in.Goals as goal

pub returns-in-Ok-New-clause-told : goal.returns-in-Ok-New-clause-told
returns-in-Ok-New-clause-told c =
    told_new c.args.tenant.now c.args.item c.in_ok-key.key c.in_ok-own.own c.standing-standing.result c.in_ok-key.ensures c.in_ok-own.ensures c.standing-standing.ensures
    c.args.held.now c.put.new.self c.requires.rising (has_row c.args.rows.now) (has_row c.remember.new.rows) c.requires.told c.in_ok-added.ensures.row
    (sym c.in-Ok-New.field-0-is ∙ c.in-Ok-New.ensures.put) c.in-Ok-New.ensures.joined

pub returns-in-Ok-Replaced-clause-told : goal.returns-in-Ok-Replaced-clause-told
returns-in-Ok-Replaced-clause-told c =
    told_in_place c.args.tenant.now c.args.item c.in_ok-key.key c.in_ok-own.own c.standing-standing.result c.in_ok-key.ensures c.in_ok-own.ensures c.standing-standing.ensures
    c.args.held.now c.put.new.self c.requires.rising (has_row c.args.rows.now) (has_row c.remember.new.rows) c.requires.told c.in_ok-added.ensures.row
    (has_row c.forget.new.rows) c.in-Ok-Replaced.old (sym c.in-Ok-Replaced.field-0-is ∙ c.in-Ok-Replaced.ensures.put) c.in-Ok-Replaced.ensures.joined c.forget.ensures

pub returns-then-added-clause-told : goal.returns-then-added-clause-told
returns-then-added-clause-told c =
    told_taken_back c.args.tenant.now c.args.item c.in_ok-key.key c.in_ok-own.own c.standing-standing.result c.in_ok-key.ensures c.in_ok-own.ensures c.standing-standing.ensures
    c.args.held.now c.put.new.self c.requires.rising (has_row c.args.rows.now) (has_row c.remember.new.rows) c.requires.told c.in_ok-added.ensures.row
    (older_stays c.args.tenant.now c.args.item c.in_ok-key.key c.in_ok-own.own c.standing-standing.result c.in_ok-key.ensures c.in_ok-own.ensures c.standing-standing.ensures
    c.args.held.now c.put.new.self c.requires.rising (has_row c.args.rows.now) (has_row c.remember.new.rows) c.requires.told c.in_ok-added.ensures.row
    (sym c.in-Ok-Older.field-0-is ∙ c.in-Ok-Older.ensures.put) c.in-Ok-Older.ensures.joined) c.in_ok-added.added c.in_ok-added.ensures.added
    (has_row c.forget-then-added.new.rows) c.if-added.true c.forget-then-added.ensures

pub returns-else-added-clause-told : goal.returns-else-added-clause-told
returns-else-added-clause-told c =
    told_before c.args.tenant.now c.args.item c.in_ok-key.key c.in_ok-own.own c.standing-standing.result c.in_ok-key.ensures c.in_ok-own.ensures c.standing-standing.ensures
    c.args.held.now c.put.new.self c.requires.rising (has_row c.args.rows.now) (has_row c.remember.new.rows) c.requires.told c.in_ok-added.ensures.row
    (older_stays c.args.tenant.now c.args.item c.in_ok-key.key c.in_ok-own.own c.standing-standing.result c.in_ok-key.ensures c.in_ok-own.ensures c.standing-standing.ensures
    c.args.held.now c.put.new.self c.requires.rising (has_row c.args.rows.now) (has_row c.remember.new.rows) c.requires.told c.in_ok-added.ensures.row
    (sym c.in-Ok-Older.field-0-is ∙ c.in-Ok-Older.ensures.put) c.in-Ok-Older.ensures.joined) c.in_ok-added.added c.in_ok-added.ensures.added c.if-added.false
