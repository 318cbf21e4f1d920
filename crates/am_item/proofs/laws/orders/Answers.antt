use Rattle.am_item.proofs.Order.{keys_exact, keys_total, stamps_exact, stamps_total}
use Rattle.am_item.proofs.laws.orders.Goals as goal

pub returns-clause-keys : goal.returns-clause-keys
returns-clause-keys c = keys_total

pub returns-clause-one_key : goal.returns-clause-one_key
returns-clause-one_key c = keys_exact

pub returns-clause-stamps : goal.returns-clause-stamps
returns-clause-stamps c = stamps_total

pub returns-clause-one_stamp : goal.returns-clause-one_stamp
returns-clause-one_stamp c = stamps_exact
