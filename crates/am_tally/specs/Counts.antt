-- What is counted of connections and of notices.
use Rattle.std.specs.Prelude.{ℕ, ◌+◌, min, nat_le, Bool, false, ◌&&◌, Option, None, Some}
use Rattle.am_tally.specs.declared.notices.Fate.{Fate}
use Rattle.am_tally.specs.declared.notices.Fate.TheVariants.{Begun, Failed, GivenUp}
use Rattle.am_tally.specs.declared.notices.Notices.{Notices}
use Rattle.am_tally.specs.declared.parting.Parting.{Parting}
use Rattle.am_tally.specs.declared.parting.Parting.TheVariants.{Late, Crowded, Unread, Reset, Lost, Refused, Dropped}
use Rattle.am_tally.specs.declared.parting.Partings.{Partings}

-- so many more, as far as a count goes
abbrev pub raised : ℕ → ℕ → ℕ
raised more count = min (count + more) 18446744073709551615

-- how many connections were let go for a reason
abbrev pub let_go_for : Parting → Partings → ℕ
let_go_for Late partings = partings.late
let_go_for Crowded partings = partings.crowded
let_go_for Unread partings = partings.unread
let_go_for Reset partings = partings.reset
let_go_for Lost partings = partings.lost
let_go_for Refused partings = partings.refused
let_go_for Dropped partings = partings.dropped

-- .. once they are so many
abbrev pub with_let_go : Parting → ℕ → Partings → Partings
with_let_go Late count partings = record partings { late = count }
with_let_go Crowded count partings = record partings { crowded = count }
with_let_go Unread count partings = record partings { unread = count }
with_let_go Reset count partings = record partings { reset = count }
with_let_go Lost count partings = record partings { lost = count }
with_let_go Refused count partings = record partings { refused = count }
with_let_go Dropped count partings = record partings { dropped = count }

-- how many tries of notices came to this
abbrev pub tries_that : Fate → Notices → ℕ
tries_that Begun notices = notices.begun
tries_that Failed notices = notices.failed
tries_that GivenUp notices = notices.given_up

-- .. once they are so many
abbrev pub with_tries : Fate → ℕ → Notices → Notices
with_tries Begun count notices = record notices { begun = count }
with_tries Failed count notices = record notices { failed = count }
with_tries GivenUp count notices = record notices { given_up = count }

-- none was seen
abbrev pub no_notices : Notices
no_notices = record { begun = 0; failed = 0; given_up = 0 }

-- one more try came to this
abbrev pub counted : Fate → Notices → Notices
counted fate notices = with_tries fate (raised 1 (tries_that fate notices)) notices

-- a webhook answered with a status of success
abbrev pub is_success : Option ℕ → Bool
is_success None = false
is_success (Some status) = nat_le 200 status && nat_le status 299
