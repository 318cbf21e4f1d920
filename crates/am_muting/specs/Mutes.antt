-- What mutes each of many alerts, as lists of silences and of places.
use Rattle.std.specs.Prelude.{◌≡◌, ℕ, ◌+◌, ◌<◌, ◌≤◌, List, [], All, get_or, length, map}
use Rattle.std.specs.List.{zip}
use Rattle.am_labels.specs.declared.Label.{Label}
use Rattle.am_muting.specs.Muting.{Muting}

-- what mutes an alert that these silences silence, and that the firing alerts at these places inhibit
abbrev pub muting_at : List (List Label) → List (List ℕ) × List ℕ → Muting
muting_at firing pair = record {
  silenced_by = pair.0;
  inhibited_by = map (λ place. get_or firing place []) pair.1;
}

-- the same of each
abbrev pub mutings : List (List Label) → List (List (List ℕ)) → List (List ℕ) → List Muting
mutings firing silences places = map (muting_at firing) (zip silences places)

-- each has its own lists, and is inhibited by some of so many; the first of them have no silences listed
pub record AreEach (firing first : ℕ) (silences : List (List (List ℕ))) (places : List (List ℕ)) : Type 0 where
  pub fits : first ≤ firing
  pub each : length places ≡ first + length silences
  pub below : All (λ list. All (λ place. place < firing) list) places
