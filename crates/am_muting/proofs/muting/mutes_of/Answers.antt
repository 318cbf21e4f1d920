use Rattle.std.proofs.Common.{◌≡◌, ◌∙◌, ◌+◌, List, Bor, ap, length, map, drop, sym, arith}
use Rattle.am_labels.specs.declared.Label.{Label}
use Rattle.am_silence.specs.Held.{silencing}
use Rattle.am_inhibit.specs.Inhibits.{inhibitor_places}
use Rattle.am_muting.specs.Mutes.{mutings}
use Rattle.am_muting.specs.Muting.{muting_by}
use Rattle.am_muting.proofs.Places.{each_behind, enough, muting_behind}
use Rattle.am_muting.proofs.muting.mutes_of.Goals as goal

pub new-requires : goal.new-requires
new-requires c =
    let firing = c.in_ok-firing.firing.items in
    let first : c.len-first.result ≡ length firing = c.len-first.ensures ∙ c.in_ok-firing.firing.ok.0 in
    let sets = map (λ (set' : Bor (List Label)). set'.now) firing in
    record {
      fits = omega (arith, first);
      each =
          each_behind firing c.args.targets.now (λ (target : Bor (List Label)). inhibitor_places c.args.config.now.rules sets target.now)
          (λ (set' : Bor (List Label)). silencing c.args.moment c.args.held.now set'.now) _ c.in_ok-silences.inhibited
          c.in_ok-silences.ensures.silencing (rw c.deref.ensures.value at c.in_ok-silences.ensures.inhibitors)
          ∙ ap (λ n. n + length c.in_ok-silences.silences) (sym first);
      below = rw c.deref.ensures.value at c.in_ok-silences.ensures.places;
    }

pub returns-clause-muting : goal.returns-clause-muting
returns-clause-muting c =
    let firing = c.in_ok-firing.firing.items in
    let first : c.len-first.result ≡ length firing = c.len-first.ensures ∙ c.in_ok-firing.firing.ok.0 in
    let silences = c.in_ok-silences.silences in
    c.new.ensures
    ∙ ap (λ n. mutings (map (λ (set' : Bor (List Label)). set'.now) firing) silences (drop n c.in_ok-silences.inhibited)) first
    ∙ muting_behind c.args.config.now c.args.moment c.args.held.now firing c.args.targets.now silences c.in_ok-silences.inhibited
    c.in_ok-silences.ensures.silencing (rw c.deref.ensures.value at c.in_ok-silences.ensures.inhibitors)
    ∙ ap (λ (sets : List (List Label)). map (λ (set' : Bor (List Label)). muting_by c.args.config.now c.args.moment c.args.held.now sets set'.now) c.args.targets.now)
    c.in_ok-firing.ensures
    ∙ enough c.args.config.now c.args.moment c.args.held.now c.args.targets.now
