-- The command lines that the program takes, as clap describes a command, and what they ask for.
use Rattle.std.specs.Prelude.{◌≡◌, ◌≢◌, ◌⊎◌, ℕ, Bool, ◌&&◌, ◌==◌, nat_le, if◌then◌else◌, false, true, List, [], ◌∷◌, Option, None, Some, option_and_then, option_map, codes, is_some, replicate, unwrap_or, ◌-◌, ◌^◌}
use Rattle.std.specs.Str.{bytes_eq}
use Rattle.std.specs.List.{slice_split}
use Rattle.std.specs.Result.{result_ok}
use Rattle.std.specs.Net.Grammar.{IsIpv4Text}
use Rattle.std.specs.Net.Reader.{read_ipv4, whole_value}
use Rattle.std.specs.declared.net.ipv4_addr.Ipv4Addr.{Ipv4Addr}
use Rattle.am_limit.specs.Limits.{default_limits}
use Rattle.am_limit.specs.declared.limits.Limits.{Limits}
use Rattle.am_log.specs.declared.form.Form.{Form}
use Rattle.am_log.specs.declared.form.Form.TheVariants.{Plain, Json}
use Rattle.am_setup.specs.Setup.{Settings}
use Rattle.clap.specs.Words.{App, Row, Rule, Text, IsAmong, fault_of, first_of, new_app, new_rule, subcommand_of, with_rule, with_subcommand}
use Rattle.clap.specs.Kinds.{Kinds}
use Rattle.clap.specs.declared.builder.action.ArgAction.TheVariants.{SetTrue}
use Rattle.clap.specs.declared.error.kind.ErrorKind.{ErrorKind}
use Rattle.clap.specs.declared.error.kind.ErrorKind.TheVariants.{DisplayHelp, DisplayVersion, OutOfMemory}
use Rattle.hex.specs.Hex.{decode_sized}
use Rattle.am_ring.specs.Instances.{in_order, may_be_ring}
use Rattle.am_scenario.specs.Line.{◌>>=◌}
use Rattle.am_scenario.specs.Number.{number_of}
use Rattle.am_options.specs.declared.command_line.CommandLine.{CommandLine}
use Rattle.am_options.specs.declared.command_line.Running.{Running}
use Rattle.am_options.specs.declared.command_line.Serving.{Serving}
use Rattle.am_options.specs.declared.command_line.CommandLine.TheVariants.{Run, Serve, Check, Help, Bad}

-- the option `--NAME VALUE`, which may be absent
abbrev pub option : Text → Rule
option name = record (new_rule name) { long = Some name; value_names = 1 }

-- .. and the value that an absent one has
abbrev pub option_or : Text → Text → Rule
option_or name value = record (new_rule name) {
  long = Some name;
  value_names = 1;
  defaults = value ∷ [];
}

-- the option `--NAME`, which has no value
abbrev pub flag : Text → Rule
flag name = record (new_rule name) { long = Some name; action = Some SetTrue }

-- a word that must be there
abbrev pub operand : Text → Rule
operand name = record (new_rule name) { value_names = 1; required = true }

-- `amring`, which has a version and wants a subcommand
abbrev pub top : App
top = record (new_app (codes "amring")) {
  top = record (new_app (codes "amring")).top { subcommand_required = true; has_version = true };
}

-- a subcommand over a world, with the options of both of them
abbrev pub app_named : Text → App
app_named name =
    with_rule (with_rule (with_rule (with_rule (with_rule (new_app name) (option_or (codes "cache") (codes "512"))) (option (codes "key")))
    (option_or (codes "ring") (codes "1,2,3"))) (option (codes "start"))) (option (codes "store"))

abbrev pub serve : App
serve =
    with_rule (with_rule (with_rule (with_rule (with_rule (with_rule (with_rule (app_named (codes "serve"))
    (option_or (codes "address") (codes "127.0.0.1"))) (option (codes "port"))) (option (codes "admin")))
    (option (codes "count"))) (option (codes "limits"))) (option_or (codes "log") (codes "plain")))
    (flag (codes "metrics-by-tenant"))

-- `check` wants a file
abbrev pub check : App
check = with_rule (new_app (codes "check")) (operand (codes "file"))

-- `amring run`, `amring serve` and `amring check`
abbrev pub command_line : App
command_line =
    with_subcommand (with_subcommand (with_subcommand top (app_named (codes "run")).top) serve.top) check.top

-- the kinds of what is wrong with the words; none where clap takes them
abbrev pub kinds : List Text → Kinds
kinds words = fault_of command_line words

-- the number that a text says, where it is one from the least to the most
abbrev pub number_within : ℕ → ℕ → Text → Option ℕ
number_within least most text = do
  number ← number_of text
  if nat_le least number && nat_le number most then Some number else None

-- .. that the option of this name says
abbrev pub number_in : Text → ℕ → ℕ → List Row → Option ℕ
number_in name least most rows = do
  text ← first_of name rows
  number_within least most text

-- the 32 bytes that 64 hexadecimal digits say
abbrev pub key_of : Text → Option (List ℕ)
key_of digits = result_ok (decode_sized digits 32)

-- .. which are zeros where there are no digits
abbrev pub key_or_zeros : Option Text → Option (List ℕ)
key_or_zeros None = Some (replicate 32 0)
key_or_zeros (Some digits) = key_of digits

-- the service key that the options say
abbrev pub key_in : List Row → Option (List ℕ)
key_in rows = key_or_zeros (first_of (codes "key") rows)

-- the number, from 1 to the most, that an option says which may be absent; none where it is absent
abbrev pub number_or_none : Option Text → Text → ℕ → List Row → Option (Option ℕ)
number_or_none None name most rows = Some None
number_or_none (Some text) name most rows = option_map Some (number_in name 1 most rows)

abbrev pub given_in : Text → ℕ → List Row → Option (Option ℕ)
given_in name most rows = number_or_none (first_of name rows) name most rows

-- the instances that these texts name by their numbers; none where one of them names none
abbrev pub instances_of : List Text → Option (List ℕ)
instances_of [] = Some []
instances_of (text ∷ texts) = do
  instance ← number_within 1 8 text
  instances ← instances_of texts
  Some (instance ∷ instances)

-- .. that the options name for the ring, with commas between
abbrev pub instances_in : List Row → Option (List ℕ)
instances_in rows = do
  text ← first_of (codes "ring") rows
  instances_of (slice_split (λ b. b == 44) text)

-- the ring that the options say: three to eight different instances
abbrev pub ring_in : List Row → Option (List ℕ)
ring_in rows = do
  instances ← instances_in rows
  if may_be_ring instances then Some (in_order instances) else None

-- the settings that the options say: so many cached patterns, the service key, the first incarnation, which is 1 where
-- none is given, and the ring
abbrev pub settings_in : List Row → Option Settings
settings_in rows = do
  cache ← number_in (codes "cache") 1 65536 rows
  key ← key_in rows
  start ← given_in (codes "start") (2 ^ 32 - 1) rows
  ring ← ring_in rows
  Some (record {
    origin = record { service_key = key; ring = ring; first = unwrap_or start 1; limits = default_limits };
    cache = cache;
  })

-- the folder of stores that the options say; none where the option is absent
abbrev pub store_in : List Row → Option Text
store_in rows = first_of (codes "store") rows

-- how the options say to play: by these settings, over these stores
abbrev pub running_in : List Row → Option Running
running_in rows = do
  setup ← settings_in rows
  Some (record { setup = setup; store = store_in rows })

-- whether the options say a first incarnation
abbrev pub has_start : List Row → Bool
has_start rows = is_some (first_of (codes "start") rows)

-- the text spells this IPv4 address, or none where there is none: four decimal numbers below 256, none with a zero in
-- front, and dots between them
abbrev pub Spells : Text → Option Ipv4Addr → Type 0
Spells text (Some address) = IsIpv4Text text address
Spells text None = (address : Ipv4Addr) → ¬ (IsIpv4Text text address)

-- the address that a text spells, as the standard library reads it
abbrev pub address_of : Text → Option Ipv4Addr
address_of text = option_map (λ octets. record { octets = octets }) (whole_value (read_ipv4 text))

-- .. that the options say to listen on
abbrev pub address_in : List Row → Option Ipv4Addr
address_in rows = do
  text ← first_of (codes "address") rows
  address_of text

-- the limits of a tenant that is served, until others are set for it: the default ones, and so many bytes of its alerts
abbrev pub served_limits : Limits
served_limits = record default_limits { alert_bytes = Some 67_108_864 }

-- the file of tenants' limits that the options say; none where the option is absent
abbrev pub limits_in : List Row → Option Text
limits_in rows = first_of (codes "limits") rows

-- the form of lines that has this name
abbrev pub log_form_of : Text → Option Form
log_form_of name =
    if bytes_eq name (codes "plain") then Some Plain else (
    if bytes_eq name (codes "json") then Some Json else None)

-- .. that the options say
abbrev pub log_in : List Row → Option Form
log_in rows = do
  name ← first_of (codes "log") rows
  log_form_of name

-- whether an option without a value is given, which clap tells as the text `true`
abbrev pub is_true : Option Text → Bool
is_true None = false
is_true (Some text) = bytes_eq text (codes "true")

abbrev pub has_flag : Text → List Row → Bool
has_flag name rows = is_true (first_of name rows)

-- how the options say to serve: by these settings, whose first incarnation is given or not, over these stores, at an
-- address and a port, with a port or none for those who run it, so many connections, by the limits of a file or none,
-- with lines of a form, and with what is counted by tenant or not
abbrev pub serving_in : List Row → Option Serving
serving_in rows = do
  setup ← settings_in rows
  address ← address_in rows
  port ← number_in (codes "port") 1 65535 rows
  admin ← given_in (codes "admin") 65535 rows
  count ← given_in (codes "count") (2 ^ 64 - 1) rows
  log ← log_in rows
  Some (record {
    setup = record setup { origin = record (setup.origin) { limits = served_limits } };
    has_start = has_start rows;
    store = store_in rows;
    address = address;
    port = port;
    admin = admin;
    count = count;
    limits = limits_in rows;
    log = log;
    by_tenant = has_flag (codes "metrics-by-tenant") rows;
  })

-- what a subcommand over a world asks for, by its name and its options
abbrev pub world_asked : Text → List Row → Option CommandLine
world_asked name rows =
    if bytes_eq name (codes "serve") then option_map Serve (serving_in rows) else option_map Run (running_in rows)

-- the file that the options say
abbrev pub file_in : List Row → Option Text
file_in rows = first_of (codes "file") rows

-- what a subcommand with these options asks for
abbrev pub asked_by : Text × List Row → Option CommandLine
asked_by sub = if bytes_eq sub.0 (codes "check") then option_map Check (file_in sub.1) else world_asked sub.0 sub.1

-- .. the one that was entered
abbrev pub asked_of : Option (Text × List Row) → Option CommandLine
asked_of entered = option_and_then asked_by entered

-- a kind that says what is wrong with the words
abbrev pub IsMistake : ErrorKind → Type 0
IsMistake kind = (kind ≢ DisplayHelp) × (kind ≢ DisplayVersion) × (kind ≢ OutOfMemory)

-- what an error of this kind tells
abbrev pub Tells : ErrorKind → CommandLine → Type 0
Tells kind (Run running) = ⊥
Tells kind (Serve serving) = ⊥
Tells kind (Check file) = ⊥
Tells kind (Help text) = (kind ≡ DisplayHelp) ⊎ (kind ≡ DisplayVersion)
Tells kind (Bad text) = IsMistake kind

-- what a command line asks for: its words are the program's own and say settings; or they ask for the help or the
-- version; or something is wrong with a word, or an option says nothing that it takes
abbrev pub Asks : List Text → CommandLine → Type 0
Asks words (Run running) = (kinds words ≡ []) × (asked_of (subcommand_of command_line words) ≡ Some (Run running))
Asks words (Serve serving) = (kinds words ≡ []) × (asked_of (subcommand_of command_line words) ≡ Some (Serve serving))
Asks words (Check file) = (kinds words ≡ []) × (asked_of (subcommand_of command_line words) ≡ Some (Check file))
Asks words (Help text) = IsAmong DisplayHelp (kinds words) ⊎ IsAmong DisplayVersion (kinds words)
Asks words (Bad text) = ((kind : ErrorKind) × IsAmong kind (kinds words) × IsMistake kind)
    ⊎ ((kinds words ≡ []) × (asked_of (subcommand_of command_line words) ≡ None))
