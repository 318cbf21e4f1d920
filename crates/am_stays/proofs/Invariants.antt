-- What each event of the machine keeps.
use Rattle.std.proofs.Common.{◌≡◌, ℕ, suc, ◌<◌, ◌≤◌, Bool, true, false, ◌||◌, ◌⊎◌}
use Rattle.am_stays.specs.Places.{Place, same}
use Rattle.am_stays.proofs.Phases.{next, last, Phase, Whole, Down, Unsettled, is_up}
use Rattle.am_stays.proofs.Machine.{Facts}

-- All go by the present era, but while the one that got a place as it began isn't settled.
abbrev pub Known : Phase → Place → (Place → Bool) → Type 0
Known Whole changed knows = (i : Place) → knows i ≡ true
Known (Down r) changed knows = (i : Place) → knows i ≡ true
Known (Unsettled r) changed knows = (i : Place) → knows i ≡ false → same changed r ≡ true

-- What is kept that names no stamp.
pub record Sound (p : Phase) (w : Facts) : Type 0 where
  pub known : Known p (w.changed w.era) w.knows
  pub sent : (i : Place) (e : ℕ) → w.sent i e ≡ true → w.knows i ≡ true
  pub taken : (i : Place) (e : ℕ) → w.took i e ≡ true → w.sent i e ≡ true
  pub write_era : (x : ℕ) → w.write_era x ≤ w.era
  pub request_era : (n : ℕ) → w.request_era n ≤ w.era
  pub unsaid : (n : ℕ) → w.asked n ≡ false → (i : Place) (v : ℕ) → w.answer n i v ≡ false
  pub fresh : (x : ℕ) → w.put x ≡ false → (i : Place) → w.ack x i ≡ false
  pub spoke : (n : ℕ) (i : Place) (v : ℕ) → w.request_era n ≡ w.era → w.answer n i v ≡ true → (j : Place) → (same j i || same i (w.changed w.era)) ≡ true → w.knows j ≡ true
  pub wrote : (x : ℕ) → w.put x ≡ true → w.write_era x ≡ w.era → (i : Place) → same i (w.changed w.era) ≡ false → w.knows i ≡ true
  pub acker : (x : ℕ) (i : Place) → w.write_era x ≡ w.era → w.ack x i ≡ true → w.knows i ≡ true
  pub earlier : (n x : ℕ) → w.before n x ≡ true → w.acknowledged x ≡ true

-- of the two places but s one holds x
abbrev pub Either : ℕ → (Place → ℕ) → Place → Type 0
Either x best s = (x ≤ best (next s)) ⊎ (x ≤ best (last s))

-- the place holds x, and so does each list that was cut there
abbrev pub Sends : ℕ → (Place → ℕ) → (Place → ℕ → Bool) → (Place → ℕ → ℕ) → Place → Type 0
Sends x best sent list i = (x ≤ best i) × ((e : ℕ) → sent i e ≡ true → x ≤ list i e)

-- the unsettled one holds x, or settles only with a list that has it, or both others hold it
abbrev pub Reaches : ℕ → Place → (Place → ℕ) → (Place → ℕ → Bool) → (Place → ℕ → ℕ) → Type 0
Reaches x r best sent list =
    (x ≤ best r) ⊎ (Sends x best sent list (next r) ⊎ (Sends x best sent list (last r) ⊎ ((x ≤ best (next r)) × (x ≤ best (last r)))))

-- of any two settled ones one holds x, also once the unsettled one settles
abbrev pub Held : ℕ → Phase → (Place → ℕ) → (Place → ℕ → Bool) → (Place → ℕ → ℕ) → Type 0
Held x Whole best sent list = (s : Place) → Either x best s
Held x (Down r) best sent list = Either x best r
Held x (Unsettled r) best sent list = Either x best r × Reaches x r best sent list

-- so does of who lost its place last and any other that hasn't learned so
abbrev pub Aside : ℕ → Facts → Type 0
Aside x w =
    w.lingers w.era ≡ true → (i : Place) → same i (w.changed w.era) ≡ false → w.knows i ≡ false → (x ≤ w.old w.era) ⊎ (x ≤ w.best i)

abbrev pub Took : ℕ → Phase → (Place → ℕ) → (Place → ℕ → ℕ) → Place → ℕ → Type 0
Took x Whole best list i e = Unit {0}
Took x (Down r) best list i e = Unit {0}
Took x (Unsettled r) best list i e = x ≤ list i e → x ≤ best r

-- place i answered a request of the present era without x: the others hold x, and the unsettled one will once it settles
abbrev pub MissedNow : ℕ → Phase → (Place → ℕ) → (Place → ℕ → Bool) → (Place → ℕ → ℕ) → Place → Type 0
MissedNow x Whole best sent list i = (j : Place) → same i j ≡ false → x ≤ best j
MissedNow x (Down r) best sent list i = (j : Place) → same i j ≡ false → same j r ≡ false → x ≤ best j
MissedNow x (Unsettled r) best sent list i =
    (same r i ≡ false) × ((k : Place) → same i k ≡ false → same k r ≡ false → (x ≤ best k) × ((x ≤ best r) ⊎ ((e : ℕ) → sent k e ≡ true → x ≤ list k e)))

-- place i answered a request of era a without x: whoever else may still answer it holds x
abbrev pub Missed : ℕ → Phase → Facts → ℕ → Place → Type 0
Missed x p w a i =
    (a ≡ w.era → MissedNow x p w.best w.sent w.list i)
    × (suc a ≡ w.era → (j : Place) → same i j ≡ false → same j (w.changed w.era) ≡ false → w.knows j ≡ false → x ≤ w.best j)
    × (a < w.era → same i (w.changed (suc a)) ≡ false → w.lingers (suc a) ≡ true → x ≤ w.old (suc a))

-- place i answered with v: that has x, or whoever else may still answer has it, as has each answer of theirs
abbrev pub Heard : ℕ → Phase → Facts → ℕ → (Place → ℕ → Bool) → Place → ℕ → Type 0
Heard x p w a answer i v = (x ≤ v) ⊎ (Missed x p w a i × ((j : Place) (u : ℕ) → same i j ≡ false → answer j u ≡ true → x ≤ u))

-- What is kept of one stamp x that isn't outlived.
pub record Good (x : ℕ) (p : Phase) (w : Facts) : Type 0 where
  -- while x's operation is open: who acked it in the present era holds it, or is down
  pub told : w.waiting x ≡ true → w.write_era x ≡ w.era → (i : Place) → w.ack x i ≡ true → is_up p i ≡ true → x ≤ w.best i
  -- who acked it in the era before and hasn't learned the present one holds it,
  pub stays : w.waiting x ≡ true → suc (w.write_era x) ≡ w.era → (i : Place) → w.ack x i ≡ true → same i (w.changed w.era) ≡ false → w.knows i ≡ false → x ≤ w.best i
  -- who acked it then and has learned passed it on,
  pub moved : w.waiting x ≡ true → suc (w.write_era x) ≡ w.era → (i : Place) → w.ack x i ≡ true → same i (w.changed w.era) ≡ false → w.knows i ≡ true → Held x p w.best w.sent w.list
  -- who acked it then and lost its place holds it, or is out
  pub left : w.waiting x ≡ true → suc (w.write_era x) ≡ w.era → w.ack x (w.changed w.era) ≡ true → w.lingers w.era ≡ true → x ≤ w.old w.era
  -- an Ack of an earlier era from who kept its place then passed it on
  pub past : w.waiting x ≡ true → suc (w.write_era x) < w.era → (i : Place) → w.ack x i ≡ true → same i (w.changed (suc (w.write_era x))) ≡ false → Held x p w.best w.sent w.list × Aside x w
  pub acknowledged : w.acknowledged x ≡ true → Held x p w.best w.sent w.list × Aside x w
  pub took : (i : Place) (e : ℕ) → w.took i e ≡ true → Took x p w.best w.list i e
  pub heard : (n : ℕ) → w.undecided n ≡ true → w.before n x ≡ true → (i : Place) (v : ℕ) → w.answer n i v ≡ true → Heard x p w (w.request_era n) (w.answer n) i v
