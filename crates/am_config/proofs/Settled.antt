-- What holds of the settings of all routes: their receivers are listed, their durations are within bounds, and each is grouped as a
-- route at or before it says.
use Rattle.std.proofs.Common.{◌≡◌, ℕ, zero, suc, ◌+◌, ◌<◌, ◌≤◌, List, [], ◌∷◌, ◌++◌, All, Bool, true, false, Option, None, Some, Ok, Err, length, get_or, nat_le, refl, sym, ap, ◌∙◌, subst, append_assoc, append-nil, length-append, arith}
use Rattle.std.specs.Prelude.{if◌then◌else◌, ◌==◌, codes, is_some, unwrap_or, HoldsAt, IsSome}
use Rattle.std.specs.Option.{ForSome}
use Rattle.std.specs.Str.{bytes_eq}
use Rattle.std.proofs.lemmas.Bool.{leb-true}
use Rattle.std.proofs.lemmas.List.{get_or_at}
use Rattle.std.proofs.lemmas.List.Elements.{All-cons, All-head, All-nil, All-tail}
use Rattle.std.proofs.lemmas.List.Quantifiers.{position-Some}
use Rattle.am_text.specs.Duration.{duration, longest_duration, parts_at, units, whole, within_range}
use Rattle.am_text.specs.Trees.{Forest, flat, none, tree}
use Rattle.am_text.specs.declared.refusal.TextRefusal.TheVariants.{NotADuration, OutOfRange}
use Rattle.am_text.specs.declared.tree.Node.{Node}
use Rattle.am_text.proofs.OutcomeLemmas.{both_done}
use Rattle.am_draft.specs.declared.draft.Draft.{Draft}
use Rattle.am_draft.specs.declared.receiver.ReceiverDraft.{ReceiverDraft}
use Rattle.am_draft.specs.declared.route.RouteDraft.{RouteDraft}
use Rattle.am_config.specs.declared.parts.Settings.{Settings}
use Rattle.am_config.specs.declared.terms.Own.{Own}
use Rattle.am_config.specs.declared.terms.Terms.{Terms}
use Rattle.am_config.specs.Configured.{HasSpans}
use Rattle.am_config.specs.Inheriting.{defaults, inherited, with_own}
use Rattle.am_config.specs.Terms.{default_resolve_timeout, duration_in, long_enough, own_in, owns_in, place_of, span_in, terms_in}
use Rattle.am_config.proofs.Inherits.{length-inherited}

-- ---- durations

-- what is within range is no longer than the longest
bounded_if : (n found : ℕ) (fits : Bool) → nat_le n longest_duration ≡ fits → (if fits then Ok n else Err OutOfRange) ≡ Ok found →
    found ≤ longest_duration
bounded_if n found true is e = let same : n ≡ found = cc in rw (← same) (leb-true n longest_duration is)
bounded_if n found false is e = absurd (cc)

bounded_whole : (parts : ℕ × List ℕ) (found : ℕ) (ends : Bool) → (if ends then within_range parts.0 else Err NotADuration) ≡ Ok found →
    found ≤ longest_duration
bounded_whole parts found true e = bounded_if parts.0 found (nat_le parts.0 longest_duration) refl e
bounded_whole parts found false e = absurd (cc)

bounded_by : (parts : ℕ × List ℕ) (found : ℕ) (zeros empty : Bool) →
    (if zeros then Ok 0 else (if empty then Err NotADuration else whole parts)) ≡ Ok found → found ≤ longest_duration
bounded_by parts found true empty e = let same : 0 ≡ found = cc in omega (arith, same)
bounded_by parts found false true e = absurd (cc)
bounded_by parts found false false e = bounded_whole parts found (length parts.1 == 0) e

-- no duration is longer than the longest
duration_bounded : (text : List ℕ) (found : ℕ) → duration text ≡ Ok found → found ≤ longest_duration
duration_bounded text found e = bounded_by (parts_at units text) found (bytes_eq text (codes "0")) (length text == 0) e

-- at least so many, and no longer than the longest
abbrev IsWithin : ℕ → ℕ → Type 0
IsWithin least milliseconds = (least ≤ milliseconds) × (milliseconds ≤ longest_duration)

long_if : (least found milliseconds : ℕ) (fits : Bool) → nat_le least found ≡ fits → (if fits then Ok found else Err OutOfRange) ≡ Ok milliseconds →
    (least ≤ milliseconds) × (found ≡ milliseconds)
long_if least found milliseconds true is e = let same : found ≡ milliseconds = cc in (rw (← same) (leb-true least found is), same)
long_if least found milliseconds false is e = absurd (cc)

span_within : (least : ℕ) (text : Option (List ℕ)) (found : Option ℕ) → span_in least text ≡ Ok found → ForSome found (IsWithin least)
span_within least None found e = λ n is. let no : None ≡ Some n = cc in absurd (cc)
span_within least (Some text) found e =
    let read = both_done (duration_in least text) _ found e in
    let known = both_done (duration text) (long_enough least) read.0 read.1.0 in
    let long = long_if least known.0 read.0 (nat_le least known.0) refl known.1.1 in
    λ n is.
    let same : read.0 ≡ n = cc in
    rw (← same) (long.0, rw long.1 at (duration_bounded text known.0 known.1.0))

-- what holds, where nothing is said
within_or : (least around : ℕ) (found : Option ℕ) → ForSome found (IsWithin least) → IsWithin least around → IsWithin least (unwrap_or found around)
within_or least around None own holds = holds
within_or least around (Some n) own holds = own n refl

-- ---- places of receivers

no_receiver : ReceiverDraft
no_receiver = record { name = []; webhooks = []; left_out = false }

place_within : (receivers : List ReceiverDraft) (name : Option (List ℕ)) → ForSome (place_of receivers name) (λ at. at < length receivers)
place_within receivers None = λ at is. let no : None ≡ Some at = is in absurd (cc)
place_within receivers (Some name) =
    λ at is. (position-Some (λ (receiver : ReceiverDraft). bytes_eq receiver.name name) receivers at no_receiver is).0

below_or : (most around : ℕ) (found : Option ℕ) → ForSome found (λ at. at < most) → around < most → unwrap_or found around < most
below_or most around None own holds = holds
below_or most around (Some at) own holds = own at refl

-- ---- what routes say themselves

record IsOwn (most : ℕ) (own : Own) : Type 0 where
  place : ForSome own.receiver (λ at. at < most)
  wait : ForSome own.group_wait (IsWithin 0)
  interval : ForSome own.group_interval (IsWithin 1000)
  repeat : ForSome own.repeat_interval (IsWithin 1000)

own_is : (receivers : List ReceiverDraft) (route : RouteDraft) (own : Own) → own_in receivers route ≡ Ok own →
    IsOwn (length receivers) own × (own.is_grouped ≡ is_some route.grouping)
unfolding own_in
own_is receivers route own e =
    let wait = both_done (span_in 0 route.intervals.group_wait) _ own e in
    let interval = both_done (span_in 1000 route.intervals.group_interval) _ own wait.1.1 in
    let repeat = both_done (span_in 1000 route.intervals.repeat_interval) _ own interval.1.1 in
    let made : Own = record {
      receiver = place_of receivers route.receiver;
      is_grouped = is_some route.grouping;
      group_wait = wait.0;
      group_interval = interval.0;
      repeat_interval = repeat.0;
    } in
    let same : made ≡ own = cc in
    rw (← same) (
      record {
        place = place_within receivers route.receiver;
        wait = span_within 0 route.intervals.group_wait wait.0 wait.1.0;
        interval = span_within 1000 route.intervals.group_interval interval.0 interval.1.0;
        repeat = span_within 1000 route.intervals.repeat_interval repeat.0 repeat.1.0;
      },
      refl,
    )

-- the first of the routes, and those behind it
record Firsts (receivers : List ReceiverDraft) (node : Node RouteDraft) (nodes : List (Node RouteDraft)) (owns : List (Node Own)) : Type 0 where
  own : Own
  rest : List (Node Own)
  is : record { item = own; within = node.within } ∷ rest ≡ owns
  own_known : own_in receivers node.item ≡ Ok own
  rest_known : owns_in receivers nodes ≡ Ok rest

firsts : (receivers : List ReceiverDraft) (node : Node RouteDraft) (nodes : List (Node RouteDraft)) (owns : List (Node Own)) →
    owns_in receivers (node ∷ nodes) ≡ Ok owns → Firsts receivers node nodes owns
unfolding owns_in
firsts receivers node nodes owns e =
    let first = both_done (own_in receivers node.item) _ owns e in
    let rest = both_done (owns_in receivers nodes) _ owns first.1.1 in
    record { own = first.0; rest = rest.0; is = cc; own_known = first.1.0; rest_known = rest.1.0 }

no_firsts : (receivers : List ReceiverDraft) (owns : List (Node Own)) → owns_in receivers [] ≡ Ok owns → [] ≡ owns
unfolding owns_in
no_firsts receivers owns e = cc

owns_are : (receivers : List ReceiverDraft) (nodes : List (Node RouteDraft)) (owns : List (Node Own)) → owns_in receivers nodes ≡ Ok owns →
    All (λ (node : Node Own). IsOwn (length receivers) node.item) owns
owns_are receivers [] owns e =
    subst (All (λ (node : Node Own). IsOwn (length receivers) node.item)) (no_firsts receivers owns e)
    (All-nil (λ (node : Node Own). IsOwn (length receivers) node.item))
owns_are receivers (node ∷ nodes) owns e =
    let parts = firsts receivers node nodes owns e in
    subst (All (λ (n : Node Own). IsOwn (length receivers) n.item)) parts.is
    (All-cons (λ (n : Node Own). IsOwn (length receivers) n.item) _ parts.rest (own_is receivers node.item parts.own parts.own_known).0
    (owns_are receivers nodes parts.rest parts.rest_known))

-- a route that says that it is grouped has a grouping
pub grouped_at : (receivers : List ReceiverDraft) (nodes : List (Node RouteDraft)) (owns : List (Node Own)) (at : ℕ) →
    owns_in receivers nodes ≡ Ok owns → at < length nodes → HoldsAt (λ (node : Node Own). node.item.is_grouped ≡ true) owns at →
    HoldsAt (λ (node : Node RouteDraft). IsSome node.item.grouping) nodes at
grouped_at receivers [] owns at e within holds = absurd (omega arith)
grouped_at receivers (node ∷ nodes) owns zero e within holds =
    let parts = firsts receivers node nodes owns e in
    let made : Node Own = record { item = parts.own; within = node.within } in
    let here : made.item.is_grouped ≡ true =
    subst (λ (xs : List (Node Own)). (get_or xs 0 made).item.is_grouped ≡ true) (sym parts.is) (holds made) in
    λ other. sym (own_is receivers node.item parts.own parts.own_known).1 ∙ here
grouped_at receivers (node ∷ nodes) owns (suc at) e within holds =
    let parts = firsts receivers node nodes owns e in
    grouped_at receivers nodes parts.rest at parts.rest_known (omega arith)
    (λ other. subst (λ (xs : List (Node Own)). (get_or xs (suc at) other).item.is_grouped ≡ true) (sym parts.is) (holds other))

-- how long an alert without an end fires
pub timeout_within : (draft : Draft) (terms : Terms) → terms_in draft ≡ Ok terms → terms.resolve_timeout ≤ longest_duration
unfolding terms_in
timeout_within draft terms e =
    let written = both_done (span_in 0 draft.global.resolve_timeout) _ terms e in
    let owns = both_done (owns_in draft.receivers draft.routes) _ terms written.1.1 in
    let same : unwrap_or written.0 default_resolve_timeout ≡ terms.resolve_timeout = cc in
    rw (← same)
    (within_or 0 default_resolve_timeout written.0 (span_within 0 draft.global.resolve_timeout written.0 written.1.0) (omega arith, omega arith)).1

pub owns_known : (draft : Draft) (terms : Terms) → terms_in draft ≡ Ok terms → owns_in draft.receivers draft.routes ≡ Ok terms.owns
unfolding terms_in
owns_known draft terms e =
    let written = both_done (span_in 0 draft.global.resolve_timeout) _ terms e in
    let owns = both_done (owns_in draft.receivers draft.routes) _ terms written.1.1 in
    let same : owns.0 ≡ terms.owns = cc in
    owns.1.0 ∙ ap (λ (found : List (Node Own)). Ok found) same

-- ---- settings

-- this holds of each, by its number, the first of which this is
abbrev pub EachFrom : (ℕ → Settings → Type 0) → ℕ → List Settings → Type 0
EachFrom P number [] = Unit {0}
EachFrom P number (settings ∷ more) = P number settings × EachFrom P (number + 1) more

each-append : (P : ℕ → Settings → Type 0) (number : ℕ) (xs ys : List Settings) → EachFrom P number xs → EachFrom P (number + length xs) ys →
    EachFrom P number (xs ++ ys)
each-append P number [] ys front back =
    let same : number + 0 ≡ number = omega arith in
    subst (λ n. EachFrom P n ys) same back
each-append P number (x ∷ xs) ys front back =
    let same : number + length (x ∷ xs) ≡ number + 1 + length xs = omega arith in
    (front.0, each-append P (number + 1) xs ys front.1 (subst (λ n. EachFrom P n ys) same back))

pub each-at : (P : ℕ → Settings → Type 0) (number : ℕ) (xs : List Settings) (at : ℕ) (other : Settings) → EachFrom P number xs → at < length xs →
    P (number + at) (get_or xs at other)
each-at P number [] at other each within = absurd (omega arith)
each-at P number (x ∷ xs) zero other each within =
    let same : number ≡ number + 0 = omega arith in
    subst (λ n. P n x) same each.0
each-at P number (x ∷ xs) (suc at) other each within =
    let same : number + 1 + at ≡ number + suc at = omega arith in
    subst (λ n. P n (get_or xs at other)) same (each-at P (number + 1) xs at other each.1 (omega arith))

-- the grouping is that of a route at or before this number
abbrev IsGroupedBy : List (Node Own) → ℕ → Option ℕ → Type 0
IsGroupedBy all number grouping =
    ForSome grouping
    (λ n. (n ≤ number) × ((n < length all) × HoldsAt (λ (node : Node Own). node.item.is_grouped ≡ true) all n))

pub record IsSettled (most : ℕ) (all : List (Node Own)) (number : ℕ) (settings : Settings) : Type 0 where
  pub place : settings.receiver < most
  pub spans : HasSpans settings
  pub grouping : IsGroupedBy all number settings.grouping

module _ (most : ℕ) (all : List (Node Own)) where
  grouped_later : (low high : ℕ) (grouping : Option ℕ) → low ≤ high → IsGroupedBy all low grouping → IsGroupedBy all high grouping
  grouped_later low high grouping rises holds n is = let found = holds n is in (omega (arith, found.0), found.1)

  settled_later : (low high : ℕ) (settings : Settings) → low ≤ high → IsSettled most all low settings → IsSettled most all high settings
  settled_later low high settings rises holds =
      record { place = holds.place; spans = holds.spans; grouping = grouped_later low high settings.grouping rises holds.grouping }

  -- a route that says its grouping stands at its number
  own_grouped : (number : ℕ) (around : Option ℕ) (own : Bool) (front rest : List (Node Own)) (node : Node Own) → all ≡ front ++ node ∷ rest →
      length front ≡ number → node.item.is_grouped ≡ own → IsGroupedBy all number around →
      IsGroupedBy all number (if own then Some number else around)
  own_grouped number around false front rest node is size own holds n e = holds n e
  own_grouped number around true front rest node is size own holds n e =
      let same : number ≡ n = cc in
      let count : length all ≡ length front + length (node ∷ rest) = ap length is ∙ length-append front (node ∷ rest) in
      let below : number < length all = omega (arith, count, size) in
      let has : HoldsAt (λ (other : Node Own). other.item.is_grouped ≡ true) all number =
      λ other.
      ap (λ (found : Node Own). found.item.is_grouped)
      (ap (λ xs. get_or xs number other) is ∙ get_or_at front node rest other number size)
      ∙ own in
      rw (← same) (omega arith, (below, has))

  own_settled : (number : ℕ) (around : Settings) (front rest : List (Node Own)) (node : Node Own) → all ≡ front ++ node ∷ rest →
      length front ≡ number → IsOwn most node.item → IsSettled most all number around → IsSettled most all number (with_own number around node.item)
  unfolding with_own
  own_settled number around front rest node is size own holds =
      let wait = within_or 0 around.group_wait node.item.group_wait own.wait (omega arith, holds.spans.0) in
      let interval = within_or 1000 around.group_interval node.item.group_interval own.interval holds.spans.1 in
      let repeat = within_or 1000 around.repeat_interval node.item.repeat_interval own.repeat holds.spans.2 in
      record {
        place = below_or most around.receiver node.item.receiver own.place holds.place;
        spans = (wait.1, interval, repeat);
        grouping = own_grouped number around.grouping node.item.is_grouped front rest node is size refl holds.grouping;
      }

  -- of a list that holds of all, the element behind a front
  own_at : (front rest : List (Node Own)) (node : Node Own) → All (λ (n : Node Own). IsOwn most n.item) (front ++ node ∷ rest) → IsOwn most node.item
  own_at [] rest node fine = All-head (λ (n : Node Own). IsOwn most n.item) node rest fine
  own_at (first ∷ front) rest node fine =
      own_at front rest node (All-tail (λ (n : Node Own). IsOwn most n.item) first (front ++ node ∷ rest) fine)

  all_settled : (fine : All (λ (n : Node Own). IsOwn most n.item) all) (forest : Forest Own) (number : ℕ) (around : Settings) (front back : List (Node Own)) →
      all ≡ front ++ (flat forest ++ back) → length front ≡ number → IsSettled most all number around →
      EachFrom (IsSettled most all) number (inherited number around forest)
  unfolding inherited
  all_settled fine none number around front back is size holds = tt
  all_settled fine (tree own within after) number around front back is size holds =
      let node : Node Own = record { item = own; within = length (flat within) } in
      let settings : Settings = with_own number around own in
      let behind : ℕ = number + (1 + length (flat within)) in
      let first : all ≡ front ++ node ∷ ((flat within ++ flat after) ++ back) = is in
      let mine : IsOwn most own = own_at front ((flat within ++ flat after) ++ back) node (subst (All (λ (n : Node Own). IsOwn most n.item)) first fine) in
      let here : IsSettled most all number settings =
      own_settled number around front ((flat within ++ flat after) ++ back) node first size mine holds in
      let below = all_settled fine within (number + 1) settings (front ++ node ∷ []) (flat after ++ back) (is ∙ simp append_assoc)
      (omega (arith, length-append front (node ∷ []), size)) (settled_later number (number + 1) settings (omega arith) here) in
      let later = all_settled fine after behind around (front ++ (node ∷ flat within)) back (is ∙ simp append_assoc)
      (omega (arith, length-append front (node ∷ flat within), size)) (settled_later number behind around (omega arith) holds) in
      let same : behind ≡ number + 1 + length (inherited (number + 1) settings within) =
      omega (arith, length-inherited (number + 1) settings within) in (
        here,
        each-append (IsSettled most all) (number + 1) (inherited (number + 1) settings within) (inherited behind around after) below
            (subst (λ n. EachFrom (IsSettled most all) n (inherited behind around after)) same later),
      )

-- all routes of a draft
pub routes_settled : (receivers : List ReceiverDraft) (nodes : List (Node RouteDraft)) (owns : List (Node Own)) (forest : Forest Own) →
    owns_in receivers nodes ≡ Ok owns → owns ≡ flat forest → 0 < length receivers →
    EachFrom (IsSettled (length receivers) owns) 0 (inherited 0 defaults forest)
routes_settled receivers nodes owns forest known is some =
    all_settled (length receivers) owns (owns_are receivers nodes owns known) forest 0 defaults [] [] (is ∙ sym (append-nil (flat forest))) refl
    (record {
      place = some;
      spans = (omega arith, (omega arith, omega arith), (omega arith, omega arith));
      grouping = λ n e. absurd (cc);
    })
