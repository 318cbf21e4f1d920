use Rattle.am_api.proofs.Counts.{counted, room}
use Rattle.am_api.proofs.laws.items_are_counted.Goals as goal

pub returns-clause-counted : goal.returns-clause-counted
returns-clause-counted c = counted

pub returns-clause-room : goal.returns-clause-room
returns-clause-room c = room
