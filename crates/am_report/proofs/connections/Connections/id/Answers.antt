use Rattle.std.proofs.Common.{◌≡◌, Some, map, string_bytes, sym, ap, ◌∙◌}
use Rattle.std.specs.List.{position_or_len}
use Rattle.std.specs.Str.{bytes_eq}
use Rattle.am_report.proofs.NamesLemmas.{position-map, position_or_len-map, with_name-there, with_name-keys, place_of-with_name}
use Rattle.am_report.specs.Names.{place_of, with_name}
use Rattle.am_report.proofs.connections.Connections.id.Goals as goal

pub returns-in-Some-clause-place : goal.returns-in-Some-clause-place
returns-in-Some-clause-place c =
    let found : Some c.in-Some.index ≡ place_of c.args.name.now (map string_bytes c.self.inside.names.keys) =
    c.in-Some.ensures.index ∙ sym (position-map (bytes_eq c.args.name.now) string_bytes c.self.inside.names.keys) in
    rw (← c.self.view_is, c.new.ensures) (sym found)

pub returns-in-Some-clause-added : goal.returns-in-Some-clause-added
returns-in-Some-clause-added c =
    let found : Some c.in-Some.index ≡ place_of c.args.name.now (map string_bytes c.self.inside.names.keys) =
    c.in-Some.ensures.index ∙ sym (position-map (bytes_eq c.args.name.now) string_bytes c.self.inside.names.keys) in
    rw (← c.self.view_is) (sym (with_name-there _ _ c.in-Some.index (sym found)))

pub returns-clause-added : goal.returns-clause-added
returns-clause-added c =
    ap (map string_bytes) c.in_ok-index.ensures.keys ∙ rw (← c.self.view_is, ← c.in_ok-name.ensures.ok) (with_name-keys string_bytes c.self.inside.names.keys c.in_ok-name.name)

pub returns-clause-place : goal.returns-clause-place
returns-clause-place c =
    let added : map string_bytes c.insert_full.new.self.keys ≡ with_name c.args.name.now c.args.self.now = returns-clause-added c in
    let place : c.new-2.result ≡ position_or_len (bytes_eq c.args.name.now) c.args.self.now =
    rw (← c.self.view_is, ← c.in_ok-name.ensures.ok) (c.new-2.ensures ∙ c.in_ok-index.ensures.index ∙ sym (position_or_len-map (bytes_eq (string_bytes c.in_ok-name.name)) string_bytes c.self.inside.names.keys)) in
    rw (added, place) (place_of-with_name c.args.name.now c.args.self.now)
