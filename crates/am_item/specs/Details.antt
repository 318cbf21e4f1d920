-- What a thing is beside its key.
use Rattle.am_item.specs.declared.entry.EntryDetails.{EntryDetails}
use Rattle.am_item.specs.declared.entry.EntryKey.{EntryKey}
use Rattle.am_item.specs.declared.entry.SentEntry.{SentEntry}
use Rattle.am_item.specs.declared.item.Alert.{Alert}
use Rattle.am_item.specs.declared.item.AlertDetails.{AlertDetails}
use Rattle.am_item.specs.declared.silence.Silence.{Silence}
use Rattle.am_item.specs.declared.silence.SilenceDetails.{SilenceDetails}

-- a silence without its identifier
abbrev pub silence_details : Silence → SilenceDetails
silence_details silence = record {
  starts_at = silence.starts_at;
  ends_at = silence.ends_at;
  kept_until = silence.kept_until;
  created_by = silence.created_by;
  comment = silence.comment;
  matchers = silence.matchers;
}

-- an alert without its label set
abbrev pub alert_details : Alert → AlertDetails
alert_details alert = record {
  annotations = alert.annotations;
  starts_at = alert.starts_at;
  ends_at = alert.ends_at;
  generator_url = alert.generator_url;
}

-- receiver, group and webhook of a sent entry
abbrev pub entry_key : SentEntry → EntryKey
entry_key entry = record { receiver = entry.receiver; group = entry.group; webhook = entry.webhook }

-- a sent entry without its key
abbrev pub entry_details : SentEntry → EntryDetails
entry_details entry = record { ends_at = entry.ends_at; firing = entry.firing; resolved = entry.resolved }
