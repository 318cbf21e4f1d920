-- A file of limits that is read again.
use Rattle.std.specs.Prelude.{◌≡◌, ◌⊎◌, ℕ, List, [], Option, None, Some, Ok, IsErr}
use Rattle.am_limit.specs.declared.limits.Limits.{Limits}
use Rattle.am_limits_file.specs.Changes.{AreChanges, file_after}
use Rattle.am_limits_file.specs.declared.reading.LimitsFile.{LimitsFile}
use Rattle.am_limits_file.specs.declared.watch.LimitsWatch.{LimitsWatch}
use Rattle.am_limits_file.specs.declared.watch.Renewal.{Renewal}
use Rattle.am_limits_file.specs.declared.watch.Renewal.TheVariants.{Same, Set, Refused}
use Rattle.am_limits_file.specs.declared.watch.Seen.{Seen}
use Rattle.am_limits_file.specs.declared.watch.Seen.TheVariants.{Text, Unreadable}

-- a file that names no tenant
abbrev pub names_none : Limits → LimitsFile
names_none default = record { default = default; tenants = [] }

-- the text that was found the last time, where there was one that could be read
abbrev pub text_seen : Seen → Option (List ℕ)
text_seen (Text text) = Some text.items
text_seen (Unreadable kind) = None

-- What comes of this text, found where the file lies: nothing where it is the one of the last time; else it replaces
-- what the file said and these limits are set, or it is refused and what was said holds on.
abbrev pub Takes : LimitsWatch → (text : List ℕ) → Renewal → LimitsWatch → Type 0
Takes was text Same now = (text_seen was.seen ≡ Some text) × (now ≡ was)
Takes was text (Set changes) now = (text_seen now.seen ≡ Some text)
    × (file_after was.usual was.file text ≡ Ok now.file) × AreChanges was.file now.file changes.entries
Takes was text (Refused why) now = (text_seen now.seen ≡ Some text)
    × IsErr (file_after was.usual was.file text) × (now.file ≡ was.file)

-- what comes of it where none can be read: nothing, where none could the last time; what was said holds on
abbrev pub Misses : LimitsWatch → Renewal → LimitsWatch → Type 0
Misses was Same now = (text_seen was.seen ≡ None) × (now ≡ was)
Misses was (Set changes) now = ⊥
Misses was (Refused why) now = (text_seen now.seen ≡ None) × (now.file ≡ was.file)

-- what comes of reading the file again: a text was found, or none that can be read
abbrev pub Renews : LimitsWatch → Renewal → LimitsWatch → Type 0
Renews was renewal now = ((text : List ℕ) × Takes was text renewal now) ⊎ Misses was renewal now
