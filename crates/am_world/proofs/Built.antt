-- Patterns that were refused a build, and what that leaves of others.
use Rattle.std.proofs.Common.{◌≡◌, ◌∙◌, inl, inr, ℕ, true, List, Contains, ap}
use Rattle.std.specs.Str.{bytes_eq}
use Rattle.std.proofs.lemmas.Bool.{or_left}
use Rattle.std.proofs.lemmas.List.Elements.{All-contains, All-contains_itself, All-weaker}
use Rattle.std.proofs.lemmas.List.Folds.{list_any-append}
use Rattle.am_cluster.specs.Events.{Event, Open, Bytes, Close, Limits, Tick, Outcome, Deliver, Lose, Output}
use Rattle.am_cluster.specs.Events.{Join, Leave, Crash, Restart, Learn, Force}
use Rattle.am_match.specs.Checking.{AreRefusedRightly}
use Rattle.am_pattern.specs.Refused.{IsRefusedRightly, has_text}
use Rattle.am_pattern.specs.Taking.{IsPattern}
use Rattle.am_instance.proofs.Growing.{more_nothing, more_then}
use Rattle.am_instance.specs.Instance.{HasMore}
use Rattle.am_instance.specs.declared.instance.Instance.{Instance}
use Rattle.am_world.specs.Places.{AreBuilt, KeepRefused, refused_at}
use Rattle.am_world.specs.Simulation.{refused_by}
use Rattle.am_world.specs.Steps.{KeepsBuilds}
use Rattle.am_world.specs.declared.state.State.{State}

-- ---- what grows

-- an event that refuses no build
pub builds_kept : (w w' : State) (e : Event) (i : ℕ) (outs : List Output) → refused_by w' i ≡ refused_by w i
    → KeepsBuilds w e i outs w'
builds_kept w w' (Open c j) i outs same = same
builds_kept w w' (Bytes c moment piece) i outs same = same
builds_kept w w' (Close c) i outs same = same
builds_kept w w' (Limits tenant limits) i outs same = same
builds_kept w w' (Tick moment) i outs same = same
builds_kept w w' (Outcome attempt tries moment status) i outs same = same
builds_kept w w' (Deliver name moment) i outs same = inl same
builds_kept w w' (Lose name) i outs same = same
builds_kept w w' (Join j) i outs same = same
builds_kept w w' (Leave j) i outs same = same
builds_kept w w' (Crash j) i outs same = same
builds_kept w w' (Restart j) i outs same = same
builds_kept w w' (Learn j) i outs same = same
builds_kept w w' (Force tenant) i outs same = same

-- and what any event leaves
pub builds_more : (w w' : State) (e : Event) (i : ℕ) (outs : List Output) → KeepsBuilds w e i outs w'
    → HasMore (refused_by w i) (refused_by w' i)
builds_more w w' (Open c j) i outs same = more_nothing _ _ same
builds_more w w' (Bytes c moment piece) i outs same = more_nothing _ _ same
builds_more w w' (Close c) i outs same = more_nothing _ _ same
builds_more w w' (Limits tenant limits) i outs same = more_nothing _ _ same
builds_more w w' (Tick moment) i outs same = more_nothing _ _ same
builds_more w w' (Outcome attempt tries moment status) i outs same = more_nothing _ _ same
builds_more w w' (Deliver name moment) i outs (inl same) = more_nothing _ _ same
builds_more w w' (Deliver name moment) i outs (inr refuses) = (refuses.adds.more, refuses.adds.refused)
builds_more w w' (Lose name) i outs same = more_nothing _ _ same
builds_more w w' (Join j) i outs same = more_nothing _ _ same
builds_more w w' (Leave j) i outs same = more_nothing _ _ same
builds_more w w' (Crash j) i outs same = more_nothing _ _ same
builds_more w w' (Restart j) i outs same = more_nothing _ _ same
builds_more w w' (Learn j) i outs same = more_nothing _ _ same
builds_more w w' (Force tenant) i outs same = more_nothing _ _ same

pub keep_then : (xs ys zs : List Instance) → KeepRefused xs ys → KeepRefused ys zs → KeepRefused xs zs
keep_then xs ys zs first next i = more_then _ _ _ (first i) (next i)

pub keep_same : (xs ys : List Instance) → ((i : ℕ) → refused_at i ys ≡ refused_at i xs) → KeepRefused xs ys
keep_same xs ys same i = more_nothing _ _ (same i)

pub keep_equal : (xs ys : List Instance) → ys ≡ xs → KeepRefused xs ys
keep_equal xs ys e = keep_same xs ys (λ i. ap (refused_at i) e)

-- ---- what was built

rightly_before : (old new : List (List ℕ)) (p : List ℕ) → HasMore old new → IsRefusedRightly new p
    → IsRefusedRightly old p
rightly_before old new p (more, is) rightly found =
    rightly
    (ap (λ texts. has_text texts p) is ∙ list_any-append (bytes_eq p) old more
    ∙ or_left (has_text old p) (has_text more p) found)

-- what was not refused by the end was not refused before
pub built_before : (xs ys : List Instance) (texts : List (List ℕ)) → KeepRefused xs ys
    → AreBuilt (λ i. refused_at i ys) texts → AreBuilt (λ i. refused_at i xs) texts
built_before xs ys texts keep built i =
    All-weaker (IsRefusedRightly (refused_at i ys)) (IsRefusedRightly (refused_at i xs))
    (λ p. rightly_before (refused_at i xs) (refused_at i ys) p (keep i)) texts (built i)

-- and what is among texts of which none was refused was not refused
pub built_among : (refused : ℕ → List (List ℕ)) (texts all : List (List ℕ))
    → ((text : List ℕ) → Contains texts text → Contains all text) → AreBuilt refused all → AreBuilt refused texts
built_among refused texts all among built i =
    All-weaker (Contains texts) (IsRefusedRightly (refused i))
    (λ p here. All-contains (IsRefusedRightly (refused i)) all p (built i) (among p here)) texts
    (All-contains_itself texts)

-- patterns of which none was refused a build have none that was
pub none_refused : (refused texts : List (List ℕ)) → AreRefusedRightly refused texts
    → (text : List ℕ) × (Contains texts text × (IsPattern text × (has_text refused text ≡ true))) → ⊥
none_refused refused texts rightly (text, (among, (is_pattern, found))) =
    All-contains (IsRefusedRightly refused) texts text rightly among found is_pattern
