-- How many connections were let go, and what is told of that: of each reason at most once a second.
use Rattle.std.specs.Prelude.{ℕ, ◌+◌, ◌-◌, ◌==◌, ◌&&◌, Bool, true, Option, None, Some, min, nat_le, not, if◌then◌else◌}
use Rattle.am_log.specs.declared.entry.LetGo.{LetGo}
use Rattle.am_log.specs.declared.entry.LetGo.TheVariants.{Crowded, Unread, Late}
use Rattle.am_log.specs.declared.releases.Release.{Release}
use Rattle.am_log.specs.declared.releases.Releases.{Releases}

-- no connection was let go for a reason
abbrev pub none_let_go : Release
none_let_go = record { told = None; count = 0 }

-- so many more were
abbrev pub added : ℕ → Release → Release
added connections release =
    record { told = release.told; count = min (release.count + connections) 18446744073709551615 }

-- whether nothing was told of a reason within the second before a moment
abbrev pub is_quiet : ℕ → Option ℕ → Bool
is_quiet moment None = true
is_quiet moment (Some told) = nat_le 1000 (moment - told)

-- whether a reason is to be told of: some were let go since it last was
abbrev pub is_due : ℕ → Release → Bool
is_due moment release = not (release.count == 0) && is_quiet moment release.told

-- how many connections are told then
abbrev pub due : ℕ → Release → Option ℕ
due moment release = if is_due moment release then Some release.count else None

-- once that was told
abbrev pub once_told : ℕ → Release → Release
once_told moment release = if is_due moment release then record { told = Some moment; count = 0 } else release

-- what is counted of a reason
abbrev pub release_of : LetGo → Releases → Release
release_of Crowded releases = releases.crowded
release_of Unread releases = releases.unread
release_of Late releases = releases.late

-- .. once it is this
abbrev pub with_release : LetGo → Release → Releases → Releases
with_release Crowded release releases = record releases { crowded = release }
with_release Unread release releases = record releases { unread = release }
with_release Late release releases = record releases { late = release }
