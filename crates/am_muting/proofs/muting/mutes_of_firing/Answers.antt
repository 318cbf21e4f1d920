use Rattle.std.proofs.Common.{◌∙◌, [], List, ℕ, Bor, ap, append-nil, map, arith}
use Rattle.am_labels.specs.declared.Label.{Label}
use Rattle.am_silence.specs.Held.{silencing}
use Rattle.am_inhibit.specs.Inhibits.{inhibitor_places}
use Rattle.am_muting.specs.Muting.{muting_by}
use Rattle.am_muting.proofs.Places.{each_behind, muting_first, of_firing}
use Rattle.am_muting.proofs.muting.mutes_of_firing.Goals as goal

pub new-requires : goal.new-requires
new-requires c =
    let firing = c.args.firing.items in
    let sets = map (λ (set' : Bor (List Label)). set'.now) firing in
    let f : Bor (List Label) → List ℕ = λ target. inhibitor_places c.args.config.now.rules sets target.now in
    record {
      fits = omega arith;
      each =
          each_behind [] firing f (λ (set' : Bor (List Label)). silencing c.args.moment c.args.held.now set'.now) _ c.in_ok-silences.inhibited
          (rw c.deref.ensures.value at c.in_ok-silences.ensures.silencing)
          ((rw c.deref-2.ensures.value at c.in_ok-silences.ensures.inhibitors) ∙ ap (map f) (append-nil firing));
      below = rw c.deref-2.ensures.value at c.in_ok-silences.ensures.places;
    }

pub returns-clause-muting : goal.returns-clause-muting
returns-clause-muting c =
    let firing = c.args.firing.items in
    c.new.ensures
    ∙ muting_first c.args.config.now c.args.moment c.args.held.now firing c.in_ok-silences.silences c.in_ok-silences.inhibited
    (rw c.deref.ensures.value at c.in_ok-silences.ensures.silencing) (rw c.deref-2.ensures.value at c.in_ok-silences.ensures.inhibitors)
    ∙ ap (λ (sets : List (List Label)). map (λ (set' : Bor (List Label)). muting_by c.args.config.now c.args.moment c.args.held.now sets set'.now) firing) c.requires
    ∙ of_firing c.args.config.now c.args.moment c.args.held.now firing
